-- Referent records, and the cells that say them.
use Rattle.std.specs.Prelude.{◌≡◌, ◌<◌, ◌≤◌, ◌-◌, ◌^◌, ℕ, Bool, ◌==◌, ◌&&◌, nat_le, nat_lt, List, [], ◌∷◌, ◌++◌, filter, length, map, replicate}
use Rattle.std.specs.Int.{w32, w64, to_be_bytes}
use Rattle.std.specs.List.{AllByRecursion}
use Rattle.std.specs.declared.cmp.Ordering.TheVariants.{Less}
use Rattle.rs_facts.specs.Fact.{name_cmp}
use Rattle.rs_methods.specs.declared.referents.Referent.{Referent}
use Rattle.rs_tree.specs.declared.summary.NoSummary.{NoSummary}
use Rattle.rs_tree.specs.Form.{Form, form_of}
use Rattle.rs_cell_versions.specs.declared.cell.TheConstants.{LIVING}
use Rattle.rs_versioned.specs.Records.{Kept}

-- a name at a measure of a route, as versions from one up to another see it
pub record ReferentRecord : Type 0 where
  pub route : ℕ
  pub name : List ℕ
  pub measure : ℕ
  pub born : ℕ
  pub died : ℕ

-- the referent, as versions from this one on see it
abbrev pub record_of : Referent → ℕ → ReferentRecord
record_of referent version = record { route = referent.route; name = referent.name.bytes; measure = referent.measure; born = version; died = LIVING }

-- how many bytes a name takes, with the zeros after it
abbrev pub name_width : ℕ
name_width = 32

-- how many bytes a cell has
abbrev pub referent_width : ℕ
referent_width = 56

-- the cell says the referent: its fields in this order, zeros after its name, the highest byte of a number first
pub record SaysReferent (cell : List ℕ) (referent : ReferentRecord) : Type 0 where
  pub route_fits : referent.route < 2 ^ 32
  pub name_fits : length referent.name ≤ name_width
  pub no_zeros : AllByRecursion (λ byte. 0 < byte) referent.name
  pub born_fits : referent.born < 2 ^ 64
  pub measure_fits : referent.measure < 2 ^ 32
  pub died_fits : referent.died < 2 ^ 64
  pub bytes : cell ≡ to_be_bytes w32 referent.route ++ ((referent.name ++ replicate (name_width - length referent.name) 0)
      ++ (to_be_bytes w64 referent.born ++ (to_be_bytes w32 referent.measure ++ to_be_bytes w64 referent.died)))

abbrev pub ended_referent : ℕ → ReferentRecord → ReferentRecord
ended_referent version referent = record { route = referent.route; name = referent.name; measure = referent.measure; born = referent.born; died = version }

-- the form of their tree, which keeps no summaries
abbrev pub referent_form : Form
referent_form = form_of (λ bytes (_ : NoSummary). bytes ≡ []) (record {}) (λ _ _. record {}) (λ _. record {}) 0 referent_width

-- how referents are kept
abbrev pub kept_referents : Kept ReferentRecord
kept_referents = record { form = referent_form; says = SaysReferent; born = λ referent. referent.born; died = λ referent. referent.died; ended = ended_referent }

-- the version sees the referent, and it is on the route
abbrev pub is_referent_of : ℕ → ℕ → ReferentRecord → Bool
is_referent_of version route referent = referent.route == route && (nat_le referent.born version && nat_lt version referent.died)

-- the names and measures of the referents that a version sees on a route
abbrev pub referents_at : ℕ → ℕ → List ReferentRecord → List (List ℕ × ℕ)
referents_at version route referents = map (λ referent. (referent.name, referent.measure)) (filter (is_referent_of version route) referents)

-- none has a name that comes before the name of one that is listed before it, byte by byte
abbrev pub AreInNameOrder : List (List ℕ × ℕ) → Type 0
AreInNameOrder [] = Unit {0}
AreInNameOrder (first ∷ rest) = AllByRecursion (λ later. name_cmp later.0 first.0 ≡ Less → ⊥) rest × AreInNameOrder rest

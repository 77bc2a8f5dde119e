-- The list of referents: by route number and name, each once, START not among them.
use Rattle.std.specs.Prelude.{ℕ, Bool, ◌&&◌, nat_eq, not, if◌then◌else◌, IsTrue, List, [], ◌∷◌}
use Rattle.std.specs.declared.cmp.Ordering.{Ordering}
use Rattle.std.specs.Ordering.{nat_cmp, ordering_then}
use Rattle.std.specs.Cmp.Lexicographic.{slice_cmp}
use Rattle.std.specs.List.{list_all}
use Rattle.std.specs.Str.{bytes_eq}
use Rattle.std.specs.FinMap.{is_sorted}
use Rattle.rs_methods.specs.declared.referents.Referent.{Referent}
use Rattle.rs_methods.specs.Position.{start_name}

-- route numbers first, then names by their bytes
unfoldable pub key_cmp : (ℕ × List ℕ) → (ℕ × List ℕ) → Ordering
key_cmp a b = ordering_then (nat_cmp a.0 b.0) (slice_cmp nat_cmp a.1 b.1)

-- a referent under its route number and name
abbrev pub entry_of : Referent → (ℕ × List ℕ) × ℕ
entry_of referent = ((referent.route, referent.name.bytes), referent.measure)

-- its name and measure alone
abbrev pub mark_of : Referent → List ℕ × ℕ
mark_of referent = (referent.name.bytes, referent.measure)

-- the key is the one of that route and name
abbrev pub is_key : ℕ → List ℕ → (ℕ × List ℕ) → Bool
is_key route name key = nat_eq key.0 route && bytes_eq key.1 name

-- each key once and in order, none of them START
pub record AreReferents (entries : List ((ℕ × List ℕ) × ℕ)) : Type 0 where
  pub sorted : IsTrue (is_sorted key_cmp entries)
  pub never_start : IsTrue (list_all (λ e. not (bytes_eq e.0.1 start_name)) entries)

-- the referents of one route, each a name and a measure
abbrev pub referents_of : ℕ → List ((ℕ × List ℕ) × ℕ) → List (List ℕ × ℕ)
referents_of route [] = []
referents_of route (e ∷ es) = if nat_eq e.0.0 route then (e.0.1, e.1) ∷ referents_of route es else referents_of route es

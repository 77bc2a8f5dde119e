-- What is kept of what stands under names, and which alignments a dump keeps.
use Rattle.std.proofs.Common.{◌≡◌, ◌∙◌, Bool, true, false, cond, not, Equal, List, [], ap, map, refl, subst, sym}
use Rattle.std.specs.Prelude.{Contains, Option, Some, None, filter, is_some}
use Rattle.std.specs.FinMap as names
use Rattle.std.specs.FinMap.{entries_sorted, get-entries, get-from_entries, get-retain_keys, same_map}
use Rattle.std.specs.FinMap.Entries.{find-where_key, is_sorted-where_key}
use Rattle.std.proofs.lemmas.Bool.{false≢true}
use Rattle.std.proofs.lemmas.Option.{none-some}
use Rattle.rs_catalog.proofs.NameOrder.{name_cmp-antisymmetric, name_cmp-total}
use Rattle.rs_catalog.proofs.Names.{each_entry, entries-from_entries}
use Rattle.rs_dump.specs.Alignments.{fitting, too_long}
use Rattle.rs_dump.specs.Written.{fits_line}
use Rattle.rs_dump_laws.specs.Dump.{alignment_command}
use Rattle.rs_facts.specs.Fact.{Name, Names, name_cmp}
use Rattle.rs_facts.specs.Query.{Piece}
use Rattle.rs_machine.specs.State.{has}
use Rattle.rs_dump.proofs.Elements.{all_weaker, filter_alike, in_filtered, none_in_nothing}
use Rattle.rs_dump.proofs.Entries.{entry_there}
use Rattle.rs_dump.proofs.Mapped.{in_map}

module _ {X : Type 0} (things : Names X) (keeps : Name → Bool) where
  abbrev kept : List (Name × X)
  kept = filter (λ (entry : Name × X). keeps entry.0) (names.entries things)

  tied : (name other : Name) → name_cmp name other ≡ Equal → keeps other ≡ keeps name
  tied name other same = ap keeps (sym (name_cmp-antisymmetric name other same))

  get_kept : (name : Name) → names.get (names.retain_keys things keeps) name ≡ cond (keeps name) (names.get things name) None
  get_kept name = get-retain_keys things keeps name (tied name)

  -- they are those whose names are kept, in their order
  pub kept_entries : names.entries (names.retain_keys things keeps) ≡ kept
  kept_entries =
      ap names.entries (same_map name_cmp-total name_cmp-antisymmetric (names.retain_keys things keeps) (names.from_entries kept) (λ name.
      get_kept name
      ∙ ap (λ found. cond (keeps name) found None) (get-entries things name)
      ∙ sym (get-from_entries name_cmp-total kept name ∙ find-where_key name_cmp keeps name (tied name) (names.entries things))))
      ∙ entries-from_entries kept (is_sorted-where_key name_cmp keeps (names.entries things) (entries_sorted things))

  -- what stands under a name that is kept stands there
  pub still_kept : (name : Name) → keeps name ≡ true → names.get (names.retain_keys things keeps) name ≡ names.get things name
  still_kept name is = get_kept name ∙ ap (λ b. cond b (names.get things name) None) is

  -- and nothing else does
  pub was_kept : (name : Name) (thing : X) → names.get (names.retain_keys things keeps) name ≡ Some thing → (keeps name ≡ true) × (names.get things name ≡ Some thing)
  was_kept name thing there = by (keeps name) refl (sym (get_kept name) ∙ there)
    where
      by : (b : Bool) → keeps name ≡ b → cond b (names.get things name) None ≡ Some thing → (keeps name ≡ true) × (names.get things name ≡ Some thing)
      by true is found = (is, found)
      by false is found = absurd (none-some thing found)

  -- where each is kept, they are what there was
  pub all_kept : ((name : Name) → has things name ≡ true → keeps name ≡ true) → names.retain_keys things keeps ≡ things
  all_kept each = same_map name_cmp-total name_cmp-antisymmetric (names.retain_keys things keeps) things
      (λ name. get_kept name ∙ as_before name (names.get things name) refl)
    where
      as_before : (name : Name) (found : Option X) → names.get things name ≡ found → cond (keeps name) found None ≡ found
      as_before name None there = elim (keeps name) as (λ b. ◌≡◌ {A = Option X} (cond b None None) None) [ true ↦ refl | false ↦ refl ]
      as_before name (Some thing) there = ap (λ b. cond b (Some thing) None) (each name (ap is_some there))

-- ---- alignments

abbrev Alignments : Type 0
Alignments = Names (List Piece)

abbrev found_fits : Name → Option (List Piece) → Bool
found_fits name None = true
found_fits name (Some pieces) = fits_line (alignment_command (name, pieces))

-- no alignment of this name is too long for a line
abbrev pub fits : Alignments → Name → Bool
fits alignments name = found_fits name (names.get alignments name)

pub kept_fit : (alignments : Alignments) → names.entries (names.retain_keys alignments (fits alignments)) ≡ fitting (names.entries alignments)
kept_fit alignments =
    kept_entries alignments (fits alignments)
    ∙ filter_alike (λ (entry : Name × List Piece). fits alignments entry.0) (λ entry. fits_line (alignment_command entry)) (names.entries alignments)
    (all_weaker (λ (entry : Name × List Piece). names.get alignments entry.0 ≡ Some entry.1) (λ entry. fits alignments entry.0 ≡ fits_line (alignment_command entry))
    (λ entry there. ap (found_fits entry.0) there) (names.entries alignments) (each_entry alignments))

abbrev long_names : Alignments → List Name
long_names alignments = map (λ (entry : Name × List Piece). entry.0) (too_long (names.entries alignments))

-- one that does not fit is among those that were left out
pub left_out : (alignments : Alignments) (name : Name) → fits alignments name ≡ false → Contains (long_names alignments) name
left_out alignments name long = by (names.get alignments name) refl long
  where
    by : (found : Option (List Piece)) → names.get alignments name ≡ found → found_fits name found ≡ false → Contains (long_names alignments) name
    by None there is = absurd (false≢true (sym is))
    by (Some pieces) there is =
        in_map (λ (entry : Name × List Piece). entry.0) (too_long (names.entries alignments)) (name, pieces)
        (in_filtered (λ (entry : Name × List Piece). not (fits_line (alignment_command entry))) (names.entries alignments) (name, pieces) (entry_there alignments name pieces there) (ap not is))

-- where none is too long, all are kept
pub all_fit : (alignments : Alignments) → too_long (names.entries alignments) ≡ [] → names.retain_keys alignments (fits alignments) ≡ alignments
all_fit alignments none = all_kept alignments (fits alignments) (λ name there. elim (fits alignments name) as (λ b. fits alignments name ≡ b → b ≡ true) [
  | true ↦ λ is. refl
  | false ↦ λ long. none_in_nothing (false ≡ true) name
      (subst (λ (entries : List (Name × List Piece)). Contains (map (λ (entry : Name × List Piece). entry.0) entries) name) none (left_out alignments name long))
] refl)

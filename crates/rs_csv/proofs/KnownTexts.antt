-- The texts of which names are made.
use Rattle.std.proofs.Common.{◌≡◌, ◌∙◌, ℕ, true, false, cond, List, Option, Some, None, refl, sym, ap}
use Rattle.std.specs.Prelude.{Vec, option_map}
use Rattle.std.specs.Ordering.{eq_by_cmp}
use Rattle.std.specs.FinMap as names
use Rattle.std.specs.FinMap.{get-insert}
use Rattle.std.specs.declared.alloc.Global.{Global}
use Rattle.rs_facts.specs.Fact.{Names, name_cmp}
use Rattle.rs_catalog.proofs.NameOrder.{name_cmp-total}
use Rattle.rs_catalog.proofs.MapLaws.{get-insert_here, none_some, same_name-true}
use Rattle.rs_csv.specs.Texts.{text_of_name}

abbrev bytes_of : Option (Vec ℕ Global) → Option (List ℕ)
bytes_of found = option_map (λ text. text.items) found

module _ (texts now : Names (Vec ℕ Global)) (name : List ℕ) (value : Vec ℕ Global) (put : now ≡ names.insert texts name value) where
  -- a text that is put under a name is that of the name
  pub text_put : (text : List ℕ) → value.items ≡ text → text_of_name now name ≡ Some text
  text_put text is = ap (λ m. bytes_of (names.get m name)) put ∙ (ap bytes_of (get-insert_here texts name value) ∙ ap (λ t. Some t) is)

  -- and where there was none under it, the other names keep theirs
  pub text_kept : names.get texts name ≡ None → (known of : List ℕ) → text_of_name texts known ≡ Some of → text_of_name now known ≡ Some of
  text_kept none known of there =
      ap (λ m. bytes_of (names.get m known)) put ∙ (ap bytes_of (get-insert name_cmp-total texts name value known)
      ∙ elim (eq_by_cmp name_cmp known name) as (λ b. eq_by_cmp name_cmp known name ≡ b → bytes_of (cond b (Some value) (names.get texts known)) ≡ Some of) [
        | true ↦ λ e. none_some of (sym (ap bytes_of (ap (names.get texts) (same_name-true known name e) ∙ none)) ∙ there)
        | false ↦ λ e. there
      ] refl)

-- Why a page in memory is not lent, and what is written into one.
use Rattle.std.proofs.Common.{◌≡◌, ◌≢◌, ◌<◌, ℕ, true, false, Some, None, Option, List, length, refl, sym, ap, ◌∙◌, inr, arith}
use Rattle.std.specs.Prelude.{⊤}
use Rattle.std.proofs.Math.ListN.{set}
use Rattle.std.proofs.lemmas.Bool.{true≢false}
use Rattle.rs_refusal.specs.declared.refusal.Refusal.{Refusal}
use Rattle.rs_refusal.specs.declared.refusal.Refusal.TheVariants as refusal
use Rattle.rs_page.specs.PageBytes.{is_free}
use Rattle.rs_page.specs.declared.page.Page.{Page}
use Rattle.rs_page.specs.declared.file_header.FileHeader.{FileHeader}
use Rattle.rs_pages.specs.Held.{page_or}
use Rattle.rs_pages.specs.PageMap.{used_page, HasNoFit}
use Rattle.rs_pages.specs.Store.{Edits}
use Rattle.rs_pages.specs.Uses.{RefusesToLend, RefusesToEdit, HoldsUsed}
use Rattle.rs_pages.specs.Plain.{listed_page, listed_store}
use Rattle.rs_pages.proofs.PlainStore.{listed, listed-same, at_set, beside_set, put-held, counts}

-- where each page with this number is free, none is in use
used_none : (o : Option (List ℕ)) (page : List ℕ) → ((was : List ℕ) → o ≡ Some was → is_free was ≡ true) → used_page o ≡ Some page → ⊥
used_none None page free used = cc
used_none (Some was) page free used = let none : used_page (Some was) ≡ None = rw (free was refl) refl in let wrong : Some page ≡ None = sym used ∙ none in cc

-- a change in use is no free page
held_none : (o : Option (List ℕ)) (page : List ℕ) → ((was : List ℕ) → o ≡ Some was → is_free was ≡ true) → page_or o None ≡ Some page → is_free page ≡ false → ⊥
held_none None page free held used = cc
held_none (Some was) page free held used = let same : was ≡ page = cc in true≢false (sym (free was refl) ∙ ap is_free same ∙ used)

module _ (ps : List Page) (fields : FileHeader) (limit full n : ℕ) (free : (page : List ℕ) → listed_page ps n ≡ Some page → is_free page ≡ true) where
  pub none-fits : HasNoFit (listed_store ps fields limit full).map n
  none-fits = record { none = λ page used fit. used_none (listed_page ps n) page free used }

  pub none-held : HoldsUsed (listed_store ps fields limit full) n → ⊥
  none-held used = held_none (listed_page ps n) used.page free used.held used.in_use

  pub not-lent : (why : Refusal) → why ≡ refusal.DamagedFile → RefusesToLend ⊤ (listed_store ps fields limit full) n why
  not-lent why is = record { cause = inr is; damaged = λ _ _. none-fits; not_held = none-held }

  pub not-edited : (why : Refusal) → why ≡ refusal.DamagedFile → RefusesToEdit ⊤ (listed_store ps fields limit full) n why
  not-edited why is = record {
    cause = inr (inr is);
    damaged = λ _ _. none-fits;
    held = λ used. absurd (none-held used);
    copied = λ used. absurd (none-held used);
  }

-- a page of the list is written
pub edited : (ps : List Page) (fields : FileHeader) (limit full n : ℕ) (page : Page) → 0 < n → n < length ps
    → Edits ⊤ n page.bytes (listed_store ps fields limit full) (listed_store (set ps n page) fields limit full)
edited ps fields limit full n page pos inside =
    let there : listed_page (set ps n page) n ≡ Some page.bytes = listed (set ps n page) n page pos (at_set ps n page inside) in
    let others = λ (m : ℕ) (ne : m ≢ n). listed-same (set ps n page) ps m (beside_set ps n m page ne) in
    record {
      replaces = λ _. record { fields = refl; there = there; others = record { pages = others } };
      fields = refl;
      held = put-held ps (set ps n page) fields fields limit full n page there others;
      counts = counts ps (set ps n page) fields fields limit full full (omega arith);
      full = refl;
    }

-- What a page store ends as, once the page that it lent is given back.
use Rattle.std.specs.Prelude.{◌≡◌, ℕ, List, Result, MatchResult, ⊤}
use Rattle.std.specs.Borrow.{Fml, RattleType, MutBor, LendsSoOk, follows_so}
use mathlib.Core.Option.{none}
use Rattle.rs_refusal.specs.declared.refusal.Refusal.{Refusal}
use Rattle.rs_page.specs.declared.page.Page.{Page}
use Rattle.rs_page.specs.contracts.page.Page.{the_row as page_row}
use Rattle.rs_pages.specs.Store.{Store, Rests, Edits, CountsFailure}

-- nothing has changed but which clean pages are held, and failures are counted: what lies below the working pages is
-- kept too
pub record RestsAfter {S T : Type 0} (is_tied : S → Type 0) (store : S → Store) (keeps : S → S → Type 0)
    (result : Result T Refusal) (old new : S) : Type 0 where
  pub rests : Rests (is_tied old) (store old) (store new)
  pub below : keeps old new
  pub count : MatchResult result (λ _. (store new).failures ≡ (store old).failures) (λ why. CountsFailure why (store old) (store new))

-- what was written is the working page
pub record EditsAfter {S : Type 0} (is_tied : S → Type 0) (store : S → Store) (keeps : S → S → Type 0)
    (number : ℕ) (page : List ℕ) (old new : S) : Type 0 where
  pub edits : Edits (is_tied old) number page (store old) (store new)
  pub count : (store new).failures ≡ (store old).failures
  pub below : keeps old new

module _ (S : RattleType) (is_tied : S.Denot → Type 0) (store : S.Denot → Store) (keeps : S.Denot → S.Denot → Type 0) where
  abbrev pub page_rests : {T : Type 0} → MutBor S.Denot → Result T Refusal → Fml
  page_rests pages r = follows_so S S pages.ghost_name none (λ _ _. ⊤) (λ last. RestsAfter is_tied store keeps r pages.now last)

  abbrev pub page_edits : MutBor S.Denot → ℕ → Result (MutBor Page) Refusal → Fml
  page_edits pages number r = LendsSoOk S page_row pages r
      (λ last page. EditsAfter is_tied store keeps number page.bytes pages.now last)
      (λ last. RestsAfter is_tied store keeps r pages.now last)

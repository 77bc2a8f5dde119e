-- What a call that changes pages leaves on any disk, and why it is refused.
use Rattle.std.specs.Prelude.{◌≡◌, ◌≤◌, Result, MatchResult}
use Rattle.rs_pages.specs.Counts.{counted_on}
use Rattle.rs_pages.specs.Refusal.{Refusal}
use Rattle.rs_pages.specs.Store.{Store, KeepsCounts}
use Rattle.rs_pages.specs.Uses.{Wants}

-- limit and begin stay, there are no fewer pages, and the catalogue is where it was
pub record Works (old new : Store) : Type 0 where
  pub counts : KeepsCounts old new
  pub no_fewer : old.map.fields.pages ≤ new.map.fields.pages
  pub catalogue : new.map.fields.catalogue ≡ old.map.fields.catalogue
  pub catalogue_length : new.map.fields.catalogue_length ≡ old.map.fields.catalogue_length

-- the file has as many pages as it may have, none of them free, and that is counted
pub record EndsFull (old new : Store) : Type 0 where
  pub at_limit : new.limit ≤ new.map.fields.pages
  pub none_free : new.map.fields.first_free ≡ 0
  pub counted : new.full_refusals ≡ counted_on old.full_refusals

-- a call that was not refused counts no failure and no full file
pub record CountsNothing (old new : Store) : Type 0 where
  pub failures : new.failures ≡ old.failures
  pub full : new.full_refusals ≡ old.full_refusals

-- what is left, and which refusals may come: 94 only where something is damaged
pub record WorksAfter {T : Type 0} (damaged : Type 0) (result : Result T Refusal) (old new : Store) : Type 0 where
  pub works : Works old new
  pub ends : MatchResult result (λ _. CountsNothing old new) (λ why. Wants damaged (EndsFull old new) why old new)

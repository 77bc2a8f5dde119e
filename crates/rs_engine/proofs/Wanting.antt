-- What reads of a store that is looked at from a version on show, and why they are refused.
use Rattle.std.proofs.Common.{◌≡◌, ◌≢◌, ◌∙◌, ℕ, Result, Ok, Err, ap, inl, inr, subst, sym}
use Rattle.std.specs.Prelude.{IfErr, IfOk, MatchResult}
use Rattle.rs_answers.specs.Versions.{SeenVersion}
use Rattle.rs_catalog.specs.Definitions.{Numbered}
use Rattle.rs_catalog.specs.Referents.{HeldReferents, referents_on}
use Rattle.rs_disk.specs.declared.disk.Disk as disk
use Rattle.rs_engine.specs.Reads.{ShowsVersion, WantsFrom}
use Rattle.rs_file.specs.Calls.{RefusesToLoad}
use Rattle.rs_engine.proofs.Machines.{counted_rose}
use Rattle.rs_machine.specs.State.{State}
use Rattle.rs_pager.specs.Opened.{CountsFault}
use Rattle.rs_refusal.specs.Counts.{Rose}
use Rattle.rs_refusal.specs.declared.refusal.Refusal.{Refusal}
use Rattle.rs_file_meaning.specs.Seen.{referents_seen}
use Rattle.rs_refusal.specs.declared.refusal.Refusal.TheVariants as refusal
use Rattle.rs_store_source.specs.Kept.{StandsIn, StoreState}
use Rattle.rs_store_source.specs.Reads.{WantsReading}

module _ {D : Type 0} (d : disk.Ghosts D) (oldest : ℕ) (old new : StoreState D) where
  -- a store that stands in no state stands in none from that version on
  pub wants_any : (why : Refusal) → WantsReading d why old new → WantsFrom d why oldest old new
  wants_any why (inl memory) = inl memory
  wants_any why (inr (inl failed)) = inr (inl failed)
  wants_any why (inr (inr damaged)) = inr (inr (damaged.0, record { none = λ state stands. damaged.1.none oldest state stands }))

  -- a refusal that counts the disk's failures, and is no damage where the store stands
  pub wants_live : {T : Type 0} (result : Result T Refusal) → RefusesToLoad result
      → MatchResult result (λ _. d.failures new.pager.disk ≡ d.failures old.pager.disk) (λ why. CountsFault why (d.failures old.pager.disk) (d.failures new.pager.disk))
      → ((state : State) → StandsIn d oldest old state → result ≢ Err refusal.DamagedFile) → IfErr result (λ why. WantsFrom d why oldest old new)
  wants_live (Ok x) refused counts sound = tt
  wants_live (Err why) (inl memory) counts sound = inl memory
  wants_live (Err why) (inr (inl failed)) counts sound =
      inr (inl (failed, subst (Rose (d.failures old.pager.disk)) (sym (counts.disk failed)) (counted_rose (d.failures old.pager.disk))))
  wants_live (Err why) (inr (inr damaged)) counts sound =
      inr (inr (damaged, record { none = λ state stands. sound state stands (λ i. Err (damaged i)) }))

  -- the referents that a live version sees are what it shows
  pub shown_referents : (version route : ℕ) (result : Result (Numbered HeldReferents) Refusal)
      → ((state : State) (stands : StandsIn d oldest old state) → IfOk result (λ referents. referents_on referents route ≡ referents_seen stands.contents version route))
      → IfOk result (λ referents. (seen : SeenVersion) → ShowsVersion d oldest old version seen → referents_on referents route ≡ seen.referents route)
  shown_referents version route (Ok referents) sees = λ seen shows. sees shows.state shows.stands ∙ sym (ap (λ (one : SeenVersion). one.referents route) shows.is)
  shown_referents version route (Err why) sees = tt

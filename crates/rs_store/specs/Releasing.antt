-- What clearing records makes of a store while nothing else changes.
use Rattle.std.specs.Prelude.{◌≡◌, ◌≢◌, ◌≤◌, ℕ, Err, Result, MatchResult, OnErr}
use Rattle.rs_disk.specs.declared.disk.Disk as disk
use Rattle.rs_file.specs.Calls.{RefusesToLoad}
use Rattle.rs_file.specs.Contents.{Contents}
use Rattle.rs_file_parts.specs.Parts.{IsAsItWas}
use Rattle.rs_machine.specs.State.{State}
use Rattle.rs_pager.specs.Lasts.{Lasts}
use Rattle.rs_pager.specs.Opened.{CountsFault}
use Rattle.rs_refusal.specs.declared.refusal.Refusal.{Refusal}
use Rattle.rs_changes.specs.Clearing.{LosesRecords}
use Rattle.rs_file_meaning.specs.Live.{KeepsLive}
use Rattle.rs_refusal.specs.declared.refusal.Refusal.TheVariants as refusal
use Rattle.rs_store.specs.Changing.{StillHolds}
use Rattle.rs_store.specs.Kept.{Keeps, StandsIn, StoreState}

module _ {D : Type 0} (d : disk.Ghosts D) where
  -- The store stands in the state, from the oldest version on, which with all later ones sees what it saw. So many of the records that
  -- none of them sees are gone, 64 or all.
  pub record HasReleased (oldest gone : ℕ) (old : Contents) (store : StoreState D) (state : State) : Type 0 where
    pub stands : StandsIn d oldest store state
    pub loses : LosesRecords oldest 64 gone old stands.contents
    pub live : KeepsLive oldest old stands.contents

  -- What is left, whatever is answered: the catalogue, the referents in memory and the version that was accepted last. After a refusal
  -- the store keeps what it kept, and what is open and the held changes are as they were. 91 comes exactly where the disk's failures rose, by one; 92 never, and
  -- 94 never where the store stands in a state.
  pub record LeavesReleased {T : Type 0} (result : Result T Refusal) (old new : StoreState D) : Type 0 where
    pub stays : (contents : Contents) → Keeps d old contents → OnErr result (Keeps d new contents)
    pub opened : OnErr result (IsAsItWas old.file new.file)
    pub changes : OnErr result (StillHolds d old.pager new.pager)
    pub refused : RefusesToLoad result
    pub sound : (from : ℕ) (state : State) → StandsIn d from old state → result ≢ Err refusal.DamagedFile
    pub catalog : new.catalog ≡ old.catalog
    pub referents : new.referents ≡ old.referents
    pub accepted : new.file.accepted ≡ old.file.accepted
    pub failures : MatchResult result (λ _. d.failures new.pager.disk ≡ d.failures old.pager.disk)
        (λ why. CountsFault why (d.failures old.pager.disk) (d.failures new.pager.disk))
    pub full : MatchResult result (λ _. new.pager.full_refusals ≡ old.pager.full_refusals)
        (λ why. old.pager.full_refusals ≤ new.pager.full_refusals)
    pub honesty : d.is_honest new.pager.disk ≡ d.is_honest old.pager.disk
    pub limit : new.pager.limit ≡ old.pager.limit
    pub lasts : Lasts d old.pager new.pager

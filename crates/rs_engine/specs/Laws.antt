-- What is known of a store that stands in a state.
use Rattle.std.specs.Prelude.{◌≡◌, ◌≤◌, ℕ}
use Rattle.rs_catalog.specs.Definitions.{state_from}
use Rattle.rs_catalog.specs.Referents.{referents_on}
use Rattle.rs_disk.specs.declared.disk.Disk as disk
use Rattle.rs_engine.specs.Kept.{seen_at}
use Rattle.rs_file_meaning.specs.Live.{KeepsLive}
use Rattle.rs_file_meaning.specs.Seen.{spans_seen}
use Rattle.rs_machine.specs.State.{State, no_cursors}
use Rattle.rs_store_source.specs.Kept.{StandsIn, StoreState}

module _ {D : Type 0} (d : disk.Ghosts D) where
  -- The state is that of what is in memory and of the spans that the version accepted last sees. After a change that keeps what live
  -- versions see, each of them is shown what it was shown.
  pub record StoreLaws : Type 0 where
    pub state : (oldest : ℕ) (store : StoreState D) (state : State) (stands : StandsIn d oldest store state)
        → state ≡ state_from store.catalog (λ (route : ℕ). referents_on store.referents route) (spans_seen stands.contents store.file.accepted)
        (record { changes = store.file.accepted; cursors = no_cursors })
    pub live : (from oldest : ℕ) (old new : StoreState D) (state next : State) (stands : StandsIn d from old state) (now : StandsIn d oldest new next)
        → KeepsLive oldest stands.contents now.contents → (version : ℕ) → from ≤ version → oldest ≤ version → version ≤ old.file.accepted
        → seen_at now.contents version ≡ seen_at stands.contents version

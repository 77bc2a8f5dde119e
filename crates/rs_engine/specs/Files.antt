-- How an engine comes to be, is saved, read anew and put away.
use Rattle.std.specs.Prelude.{◌≡◌, ◌≢◌, ◌≤◌, ℕ, IfErr, IfOk, IsTrue, MatchResult, OnOk, Result, Ok, Err}
use Rattle.rs_disk.specs.Content.{Content}
use Rattle.rs_disk.specs.declared.disk.Disk as disk
use Rattle.rs_engine.specs.Kept.{EngineState, IsMachine}
use Rattle.rs_journal.specs.FilePages.{FilePages}
use Rattle.rs_journal.specs.Journal.{Recovers}
use Rattle.rs_journal.specs.Recovery.{Recovered}
use Rattle.rs_machine.specs.Served.{Machine, Reply, done}
use Rattle.rs_machine.specs.State.{State, fresh}
use Rattle.rs_machine.specs.Step.{without_cursors}
use Rattle.rs_pager.specs.Lasts.{Lasts}
use Rattle.rs_pager.specs.Maps.{ArePages}
use Rattle.rs_pages.specs.PageMap.{PageMap}
use Rattle.rs_refusal.specs.declared.refusal.Refusal.{Refusal}
use Rattle.rs_refusal.specs.declared.refusal.Refusal.TheVariants as refusal
use Rattle.rs_store_source.specs.Standing.{IsSecondFileOf, Stands}
use Rattle.rs_store_source.specs.Calls.{IsLeftOpen, IsNoFileOfAny}
use Rattle.rs_store_source.specs.Kept.{StoreState}
use Rattle.rs_store_source.specs.Lasting.{IsLast, LeavesOneOf}
use Rattle.rs_syntax.specs.Tree.{CommandTree, reopen, save}

-- ---- stores of engines

-- the store that came to be, in place of its engine
abbrev pub stores_of : {D : Type 0} → Result (EngineState D) (D × Refusal) → Result (StoreState D) (D × Refusal)
stores_of (Ok engine) = Ok engine.store
stores_of (Err refused) = Err refused

-- the store that was handed back, in place of its engine
abbrev pub stores_back : {D : Type 0} → Result D (EngineState D × Refusal) → Result D (StoreState D × Refusal)
stores_back (Ok disk) = Ok disk
stores_back (Err refused) = Err (refused.0.store, refused.1)

-- ---- commands that save

-- what is so where SAVE or REOPEN is accepted
abbrev pub WhereSaved : CommandTree → Reply → Type 0 → Type 0
WhereSaved save (done rows count) P = P
WhereSaved reopen (done rows count) P = P
WhereSaved _ _ P = Unit {0}

module _ {D : Type 0} (d : disk.Ghosts D) where
  -- the machine of this state, with the counts of the engine's disk and pages
  abbrev pub machine_with : State → EngineState D → Machine
  machine_with state engine = record {
    state = state;
    failures = d.failures engine.store.pager.disk;
    full_refusals = engine.store.pager.full_refusals;
  }

  -- each image that a crash may leave of the disk stands for the state
  abbrev pub IsDurable : ℕ → State → D → Type 0
  IsDurable limit state disk = IsTrue (d.keeps_crashes disk) → (image : Content) → d.may_leave disk image → Stands limit image state

  -- ---- an engine that comes to be

  -- What is made of an honest disk: an engine in the state at the beginning, which is kept last. The disk isn't found damaged.
  pub record Creates (result : Result (EngineState D) (D × Refusal)) : Type 0 where
    pub last : IfOk result (λ engine. IsLast d engine.store.pager fresh)
    pub fresh : IfOk result (λ engine. IsMachine d engine (machine_with fresh engine))
    pub sound : IfErr result (λ refused. refused.1 ≢ refusal.DamagedFile)

  -- the disk stood for a state, in which the engine is, and which is kept last; no page was refused for want of room
  pub record OpensMachine (limit : ℕ) (content : Content) (engine : EngineState D) : Type 0 where
    pub state : State
    pub stood : Stands limit content state
    pub is : IsMachine d engine (machine_with state engine)
    pub full : engine.store.pager.full_refusals ≡ 0
    pub last : IsLast d engine.store.pager state

  -- What an honest disk is opened as. One of version 2 is recovered, whatever is answered.
  pub record Opens (limit : ℕ) (old : D) (result : Result (EngineState D) (D × Refusal)) : Type 0 where
    pub opens : IfOk result (OpensMachine limit (d.seen old))
    pub damaged : IfErr result (λ refused. refused.1 ≡ refusal.DamagedFile → IsNoFileOfAny limit (d.seen old))
    pub left_open : IfErr result (λ refused. refused.1 ≡ refusal.FileNotClosed → IsLeftOpen limit (d.seen old))
    pub recovers : (map : PageMap) (pages : FilePages) → ArePages map pages → Recovers (d.seen old) pages
        → MatchResult result (λ engine. Recovered d pages result old engine.store.pager.disk) (λ refused. Recovered d pages result old refused.0)

  -- ---- an engine in use

  -- The disk stands for the state that the engine was in, without its cursors, and which is kept last: so does each image that a crash
  -- may leave. Its limit stays, and so does its disk's honesty.
  pub record Saves {T : Type 0} (result : Result T Refusal) (old new : EngineState D) : Type 0 where
    pub stands : (machine : Machine) → IsMachine d old machine → OnOk result (Stands new.store.pager.limit (d.seen new.store.pager.disk) (without_cursors machine.state))
    pub last : (machine : Machine) → IsMachine d old machine → OnOk result (IsLast d new.store.pager (without_cursors machine.state))
    pub durable : (machine : Machine) → IsMachine d old machine → OnOk result (IsDurable new.store.pager.limit (without_cursors machine.state) new.store.pager.disk)
    pub honesty : d.is_honest new.store.pager.disk ≡ d.is_honest old.store.pager.disk
    pub limit : new.store.pager.limit ≡ old.store.pager.limit

  -- After SAVE and REOPEN the disk stands for the state that the engine was in, without its cursors, and which is kept last: so does each
  -- image that a crash may leave.
  pub record SavesWhereAsked (tree : CommandTree) (reply : Reply) (old new : EngineState D) : Type 0 where
    pub stands : (machine : Machine) → IsMachine d old machine
        → WhereSaved tree reply (Stands new.store.pager.limit (d.seen new.store.pager.disk) (without_cursors machine.state))
    pub last : (machine : Machine) → IsMachine d old machine → WhereSaved tree reply (IsLast d new.store.pager (without_cursors machine.state))
    pub durable : (machine : Machine) → IsMachine d old machine
        → WhereSaved tree reply (IsDurable new.store.pager.limit (without_cursors machine.state) new.store.pager.disk)

  -- ---- an engine that is put away

  -- The disk stands for the state that the engine was in, without its cursors, as a file of version 2 with a closed gate, and so does each
  -- image that a crash may leave; meanwhile a crash left one that stands for the state kept last or for this one. An engine that is handed back is the machine that it was, but
  -- for the count of failures; whatever the disk is, what lasts, lasts, and the engine has the cursors that it had.
  pub record Closes (old : EngineState D) (result : Result D (EngineState D × Refusal)) : Type 0 where
    pub stands : (machine : Machine) → IsMachine d old machine → IfOk result (λ disk. Stands old.store.pager.limit (d.seen disk) (without_cursors machine.state))
    pub second : (machine : Machine) → IsMachine d old machine → IfOk result (λ disk. IsSecondFileOf old.store.pager.limit (d.seen disk) (without_cursors machine.state))
    pub durable : (machine : Machine) → IsMachine d old machine → IfOk result (IsDurable old.store.pager.limit (without_cursors machine.state))
    pub meanwhile : (machine : Machine) (last : State) → IsMachine d old machine → IsLast d old.store.pager last → IsTrue (d.keeps_crashes old.store.pager.disk)
        → old.store.pager.committed_fields.pages ≤ old.store.pager.limit
        → IfOk result (λ disk. LeavesOneOf d old.store.pager.limit last (without_cursors machine.state) old.store.pager.disk disk)
    pub keeping : IfOk result (λ disk. d.keeps_crashes disk ≡ d.keeps_crashes old.store.pager.disk)
    pub stays : (machine : Machine) → IsMachine d old machine
        → IfErr result (λ refused. IsMachine d refused.0 (record machine { failures = d.failures refused.0.store.pager.disk }))
    pub lasts : IfErr result (λ refused. Lasts d old.store.pager refused.0.store.pager)
    pub cursors : IfErr result (λ refused. refused.0.cursors ≡ old.cursors)
    pub honesty : MatchResult result (λ disk. d.is_honest disk ≡ d.is_honest old.store.pager.disk) (λ refused. d.is_honest refused.0.store.pager.disk ≡ d.is_honest old.store.pager.disk)
    pub limit : IfErr result (λ refused. refused.0.store.pager.limit ≡ old.store.pager.limit)

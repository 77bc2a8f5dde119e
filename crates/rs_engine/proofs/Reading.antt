-- What reads of an engine leave, and what is served by them.
use Rattle.std.proofs.Common.{◌≡◌, ◌∙◌, ◌⊎◌, ℕ, List, Result, Ok, Err, arith, ap, inl, inr, refl, subst, sym}
use Rattle.std.proofs.lemmas.List.{length-map}
use Rattle.std.specs.Prelude.{IfErr, IfOk, String, Vec, length, string_bytes}
use Rattle.std.specs.declared.alloc.Global.{Global}
use Rattle.rs_disk.specs.declared.disk.Disk as disk
use Rattle.rs_engine.specs.Kept.{EngineState, IsMachine}
use Rattle.rs_engine.specs.Reads.{ReadsEngine, WantsRead}
use Rattle.rs_engine.specs.Replied.{rows_reply_of}
use Rattle.rs_engine.specs.Serving.{IsServed}
use Rattle.rs_engine.proofs.Filing.{stays}
use Rattle.rs_machine.specs.Served.{CountsOn, IsUnchanged, Machine, done, refused}
use Rattle.rs_machine.specs.State.{RowText}
use Rattle.rs_machine.specs.Step.{Effect, effect}
use Rattle.rs_refusal.specs.Counts.{Rose}
use Rattle.rs_refusal.specs.declared.refusal.Refusal.{Refusal}
use Rattle.rs_refusal.specs.declared.refusal.Refusal.TheVariants as refusal
use Rattle.rs_serve.specs.ReplyView.{rows_of}
use Rattle.rs_store_source.proofs.Passing.{passes_refl}
use Rattle.rs_store_source.specs.Reads.{Passes}

module _ {D : Type 0} (d : disk.Ghosts D) where
  -- ---- what passes

  pub reads_refl : (engine : EngineState D) → ReadsEngine d engine engine
  reads_refl engine = record { store = passes_refl d engine.store; oldest = refl; cursors = refl }

  -- ---- what is served

  -- the engine is the machine that it was, but for the count of failures, which doesn't fall
  abbrev pub read_on : EngineState D → Machine → Machine
  read_on new machine = record machine { failures = d.failures new.store.pager.disk }

  module _ (old new : EngineState D) (machine : Machine) (is : IsMachine d old machine) (reads : Passes d old.store new.store) (still : IsMachine d new (read_on new machine)) where
    counts : CountsOn machine (read_on new machine)
    counts = record { failures = omega (arith, is.failures, reads.failures); full_refusals = omega arith }

    unchanged : IsUnchanged machine (read_on new machine)
    unchanged = record { state = refl; counts = counts }

    -- it answers what the machine does
    pub read_answered : (outcome : Result Effect Refusal) (rows : List RowText) (count : ℕ) → outcome ≡ Ok (effect rows count machine.state)
        → IsServed d outcome machine (done rows count) new
    read_answered outcome rows count out =
        subst (λ (o : Result Effect Refusal). IsServed d o machine (done rows count) new) (sym out)
        (record { next = read_on new machine; is = still; answer = inl (refl, refl, counts) })

    -- it refuses what the machine does
    pub refused_by_machine : (outcome : Result Effect Refusal) (why : Refusal) → outcome ≡ Err why → IsServed d outcome machine (refused why) new
    refused_by_machine outcome why out =
        subst (λ (o : Result Effect Refusal). IsServed d o machine (refused why) new) (sym out)
        (record { next = read_on new machine; is = still; answer = inl (refl, unchanged) })

    -- or it names a want; no file that stands is damaged
    pub wanting : (outcome : Result Effect Refusal) (why : Refusal) → WantsRead d why old new → IsServed d outcome machine (refused why) new
    wanting outcome why (inl memory) =
        record { next = read_on new machine; is = still; answer = inr (unchanged, inl (ap refused memory)) }
    wanting outcome why (inr (inl failed)) =
        record {
          next = read_on new machine;
          is = still;
          answer = inr (unchanged, inr (inl (ap refused failed.0, subst (λ (count : ℕ). Rose count (d.failures new.store.pager.disk)) (sym is.failures) failed.1)));
        }
    wanting outcome why (inr (inr damaged)) = absurd (damaged.1.none is.state is.stands)

  module _ (old new : EngineState D) (machine : Machine) (is : IsMachine d old machine) (reads : ReadsEngine d old new) where
    unfoldable pub still : IsMachine d new (read_on new machine)
    still = stays d old new machine is reads.store.keeps.contents reads.store.keeps.full reads.store.keeps.limit reads.oldest reads.cursors

    pub read_wanted : (outcome : Result Effect Refusal) (why : Refusal) → WantsRead d why old new → IsServed d outcome machine (refused why) new
    read_wanted = wanting old new machine is reads.store still

    pub read_refused : (outcome : Result Effect Refusal) (why : Refusal) → outcome ≡ Err why → IsServed d outcome machine (refused why) new
    read_refused = refused_by_machine old new machine is reads.store still

    -- it answers lines, or is refused
    pub served_rows : (outcome : Result Effect Refusal) (result : Result (Vec (String Global) Global) Refusal)
        → IfOk result (λ rows. outcome ≡ Ok (effect (rows_of rows.items) (length (rows_of rows.items)) machine.state))
        → IfErr result (λ why. WantsRead d why old new ⊎ (outcome ≡ Err why)) → IsServed d outcome machine (rows_reply_of result) new
    served_rows outcome (Ok rows) is_done off =
        read_answered old new machine is reads.store still outcome (rows_of rows.items) (length rows.items) (is_done ∙ ap (λ (count : ℕ). Ok (effect (rows_of rows.items) count machine.state)) (length-map rows.items string_bytes))
    served_rows outcome (Err why) is_done (inl wanted) = read_wanted outcome why wanted
    served_rows outcome (Err why) is_done (inr off) = read_refused outcome why off

  -- ---- what is served at once

  module _ (engine : EngineState D) (machine : Machine) (is : IsMachine d engine machine) where
    -- a check refuses it, or memory is wanting
    pub refused_at_once : (outcome : Result Effect Refusal) (why : Refusal) → (why ≡ refusal.OutOfMemory) ⊎ (outcome ≡ Err why) → IsServed d outcome machine (refused why) engine
    refused_at_once outcome why (inl memory) = read_wanted engine engine machine is (reads_refl engine) outcome why (inl memory)
    refused_at_once outcome why (inr off) = read_refused engine engine machine is (reads_refl engine) outcome why off

    pub rows_at_once : (outcome : Result Effect Refusal) (result : Result (Vec (String Global) Global) Refusal)
        → IfOk result (λ rows. outcome ≡ Ok (effect (rows_of rows.items) (length (rows_of rows.items)) machine.state))
        → IfErr result (λ why. (why ≡ refusal.OutOfMemory) ⊎ (outcome ≡ Err why)) → IsServed d outcome machine (rows_reply_of result) engine
    rows_at_once outcome (Ok rows) is_done off = served_rows engine engine machine is (reads_refl engine) outcome (Ok rows) is_done tt
    rows_at_once outcome (Err why) is_done off = refused_at_once outcome why off

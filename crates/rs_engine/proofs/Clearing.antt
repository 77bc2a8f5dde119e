-- What a store has cleared that made a change, or released versions.
use Rattle.std.proofs.Common.{◌≡◌, ◌≤◌, ◌<◌, ◌+◌, ◌-◌, ◌^◌, ℕ, Result, ap, arith, refl, subst, sym}
use Rattle.std.specs.Prelude.{min}
use Rattle.rs_cell_versions.specs.declared.cell.TheConstants.{LIVING}
use Rattle.rs_cursor.specs.Held.{IsOldest, held_of}
use Rattle.rs_cursor.specs.declared.cursor.Cursor.{Cursor}
use Rattle.rs_disk.specs.declared.disk.Disk as disk
use Rattle.rs_engine.specs.Clearing.{ByChange, ByClose, ClearsWhereAsked, HasCleared, IsServedClearing, WhereClearing}
use Rattle.rs_engine.specs.Kept.{EngineState, IsMachine, IsOldestIn}
use Rattle.rs_engine.specs.Serving.{IsServed}
use Rattle.rs_engine.specs.declared.engine.open.OpenCursors.{OpenCursors}
use Rattle.rs_file.specs.Contents.{Contents}
use Rattle.rs_store_source.specs.ChangeLawsChanging.{ClearsEnough}
use Rattle.rs_engine.proofs.Filing.{changes_of}
use Rattle.rs_facts.specs.Fact.{Names}
use Rattle.rs_file_parts.specs.Clearing.{clearable}
use Rattle.rs_machine.specs.Lawful.{IsLawful}
use Rattle.rs_machine.specs.Served.{Machine, Reply, refused}
use Rattle.rs_machine.specs.State.{State}
use Rattle.rs_machine.specs.Step.{Effect}
use Rattle.rs_machine.specs.declared.limits.TheConstants.{CHANGES}
use Rattle.rs_refusal.specs.declared.refusal.Refusal.{Refusal}
use Rattle.rs_store_source.specs.Changing.{HasBecome}
use Rattle.rs_store_source.specs.Releasing.{HasReleased}
use Rattle.rs_syntax.specs.View.{tree_of}
use Rattle.rs_syntax.specs.declared.commands.Command.{Command}

-- where a number is the lesser of two, and the one is 64 at least, it is the lesser of 64 and the other at least
at_least : (gone most many : ℕ) → 64 ≤ most → gone ≡ min most many → min 64 many ≤ gone
at_least gone most many least is = omega (arith, least, is)

below_living : (oldest : ℕ) → oldest ≤ CHANGES → oldest < LIVING
below_living oldest low =
    let last : CHANGES ≡ 2 ^ 63 - 1 = refl in
    let living : LIVING ≡ 2 ^ 64 - 1 = refl in
    omega (arith, low, last, living)

at_most : (one other : ℕ) → 64 ≤ 64 + (one - other)
at_most one other = omega arith

enough_gone : (oldest : ℕ) (before between after : Contents) (clears : ClearsEnough oldest before between after) → oldest ≤ CHANGES → min 64 (clearable oldest between) ≤ clears.gone
enough_gone oldest before between after clears low =
    at_least clears.gone clears.most (clearable oldest between) clears.least (clears.cleared.as_many (below_living oldest low))

module _ {D : Type 0} (d : disk.Ghosts D) where
  oldest_in : (new : EngineState D) (held : ℕ → Names Cursor) (accepted oldest : ℕ) → held_of new.cursors.held ≡ held → new.store.file.accepted ≡ accepted → new.oldest ≡ oldest → IsOldest held accepted oldest
      → IsOldestIn new new.store.file.accepted new.oldest
  oldest_in new held accepted oldest same last low least =
      let Looked : Type 0 = (ℕ → Names Cursor) × ℕ × ℕ in
      let now : Looked = (held, accepted, oldest) in
      let are : Looked = (held_of new.cursors.held, new.store.file.accepted, new.oldest) in
      let path : now ≡ are = λ i. (sym same i, sym last i, sym low i) in
      subst (λ (l : Looked). IsOldest l.0 l.1 l.2) path least

  -- a change is made
  pub cleared_by_change : (old new : EngineState D) (before : Contents) (state : State) (oldest : ℕ) → IsOldestIn old (old.store.file.accepted + 1) oldest
      → new.cursors ≡ old.cursors → new.store.file.accepted ≡ old.store.file.accepted + 1 → new.oldest ≡ oldest → IsLawful state
      → HasBecome d oldest before new.store state → HasCleared d ByChange before new
  cleared_by_change old new before state oldest least same accepted low lawful becomes =
      let stands = becomes.stands in
      let clears : ClearsEnough new.oldest before becomes.between stands.contents = subst (λ (o : ℕ). ClearsEnough o before becomes.between stands.contents) (sym low) becomes.clears in
      record {
        oldest = oldest_in new (held_of old.cursors.held) (old.store.file.accepted + 1) oldest (ap (λ (cursors : OpenCursors). held_of cursors.held) same) accepted low least;
        between = becomes.between;
        changed = becomes.turned;
        after = stands.contents;
        keeps = stands.keeps;
        clears = clears;
        enough = enough_gone new.oldest before becomes.between stands.contents clears
            (omega (arith, low, stands.live, stands.keeps.opened.accepted, changes_of d oldest new.store state stands, lawful.limits.changes));
      }

  -- a cursor is closed
  pub cleared_by_close : (old new : EngineState D) (before : Contents) (state : State) (held : ℕ → Names Cursor) (oldest gone : ℕ) → IsOldest held old.store.file.accepted oldest
      → held_of new.cursors.held ≡ held → new.store.file.accepted ≡ old.store.file.accepted → new.oldest ≡ oldest → old.store.file.accepted ≤ CHANGES
      → HasReleased d oldest gone before new.store state → HasCleared d ByClose before new
  cleared_by_close old new before state held oldest gone least same accepted low within released =
      let after = released.stands.contents in
      let clears : ClearsEnough new.oldest before before after = subst (λ (o : ℕ). ClearsEnough o before before after) (sym low)
      (record { most = 64; gone = gone; least = omega arith; few = at_most _ _; cleared = released.loses.cleared }) in
      record {
        oldest = oldest_in new held old.store.file.accepted oldest same accepted low least;
        between = before;
        changed = refl;
        after = after;
        keeps = released.stands.keeps;
        clears = clears;
        enough = enough_gone new.oldest before before after clears (omega (arith, low, least.within, within));
      }

-- ---- replies

module _ {D : Type 0} (d : disk.Ghosts D) where
  -- where it is refused nothing is owed
  pub refused_clearing : {changes : Contents → Contents → Type 0} {outcome : Result Effect Refusal} {machine : Machine} {before : Contents} {why : Refusal} {new : EngineState D}
      → IsServed d outcome machine (refused why) new → IsServedClearing d changes outcome machine before (refused why) new
  refused_clearing served = record { served = served; cleared = tt }

  -- a command is this one, and the reply says what it was answered
  pub cleared_as : {old new : EngineState D} {reply other : Reply} {command given : Command} → command ≡ given → reply ≡ other
      → ((machine : Machine) (is : IsMachine d old machine) → WhereClearing (tree_of given) other (HasCleared d ByChange is.stands.contents new) (HasCleared d ByClose is.stands.contents new))
      → ClearsWhereAsked d (tree_of command) reply old new
  cleared_as {old = old} {new = new} {reply = reply} {given = given} is same each =
      subst (λ (one : Command). ClearsWhereAsked d (tree_of one) reply old new) (sym is)
      (subst (λ (r : Reply). ClearsWhereAsked d (tree_of given) r old new) (sym same) (record { each = each }))

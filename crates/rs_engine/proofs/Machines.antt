-- The machine that an engine is after a change was made or refused, or a command was refused by its checks.
use Rattle.std.proofs.Common.{◌≡◌, ◌∙◌, ◌≤◌, ◌+◌, ℕ, List, [], Result, Ok, Err, Some, true, false, ap, drop, inl, inr, refl, subst, sym, arith}
use Rattle.std.specs.Prelude.{◌==◌, if◌then◌else◌}
use Rattle.std.specs.FinMap as names
use Rattle.rs_answers.specs.Versions.{LiesOnRoutes, SeenVersion, lines_seen}
use Rattle.rs_catalog.specs.Definitions.{state_from}
use Rattle.rs_catalog.specs.Referents.{referents_on}
use Rattle.rs_command_checks.specs.States.{Unseen, state_by}
use Rattle.rs_command_checks.specs.declared.checks.Checks.{Checks}
use Rattle.rs_cursor.specs.Held.{cursors_by, held_of, lines_left}
use Rattle.rs_cursor.specs.Kept.{AreKept}
use Rattle.rs_cursor.specs.declared.cursor.Cursor.{Cursor}
use Rattle.rs_disk.specs.declared.disk.Disk as disk
use Rattle.rs_facts.specs.Fact.{Name}
use Rattle.rs_facts.specs.Runs.{Stretch}
use Rattle.rs_file.specs.Contents.{Contents}
use Rattle.rs_engine.specs.Ahead.{AreAhead}
use Rattle.rs_engine.specs.declared.engine.open.OpenCursors.{OpenCursors}
use Rattle.rs_engine.specs.Kept.{AreChecksOf, AreLive, EngineState, IsMachine, IsOldestIn, seen_at, with_cursors}
use Rattle.rs_engine.specs.Laws.{StoreLaws}
use Rattle.rs_engine.specs.Serving.{IsServed}
use Rattle.rs_machine.specs.Lawful.{IsLawful}
use Rattle.rs_machine.specs.Served.{Machine, done, refused}
use Rattle.rs_machine.specs.State.{Cursors, RowText, State}
use Rattle.rs_machine.specs.Step.{Effect, counted}
use Rattle.rs_refusal.specs.Counts.{Rose, counted_on, last_count}
use Rattle.rs_refusal.specs.declared.refusal.Refusal.{Refusal}
use Rattle.rs_refusal.specs.declared.refusal.Refusal.TheVariants as refusal
use Rattle.rs_cursor.proofs.MachineCursors.{cursors_by-agree}
use Rattle.rs_file_meaning.specs.Live.{KeepsLive}
use Rattle.rs_file_meaning.specs.Meant.{IsMeant}
use Rattle.rs_file_meaning.specs.Seen.{spans_seen}
use Rattle.rs_store_source.specs.Changing.{HasBecome, LeavesStore}
use Rattle.rs_store_source.specs.Kept.{Keeps, StandsIn, StoreState}

-- ---- counts

pub counted_later : (count : ℕ) → count ≤ counted_on count
unfolding counted_on
counted_later count = elim (count == last_count) as (λ b. count ≤ (if b then count else count + 1)) [ true ↦ omega arith | false ↦ omega arith ]

pub counted_rose : (count : ℕ) → Rose count (counted_on count)
unfolding counted_on
counted_rose count = elim (count == last_count) as (λ b. count == last_count ≡ b → Rose count (if b then count else count + 1)) [
  | true ↦ λ is. inr (grind (arith, is))
  | false ↦ λ isnt. inl (omega arith)
] refl

-- ---- what is checked against

-- what is beside the pages of a store: the oldest version that is looked at, the version that was accepted last,
-- and the cursors
pub record BesidePages : Type 0 where
  pub oldest : ℕ
  pub accepted : ℕ
  pub cursors : OpenCursors

abbrev pub beside_of : {D : Type 0} → EngineState D → BesidePages
beside_of engine = record { oldest = engine.oldest; accepted = engine.store.file.accepted; cursors = engine.cursors }

abbrev pub LiveBeside : Contents → BesidePages → Type 0
LiveBeside contents beside = AreLive beside.oldest beside.accepted (seen_at contents) beside.cursors

abbrev pub state_beside : Contents → State → BesidePages → State
state_beside contents state beside = with_cursors (cursors_by (lines_left (seen_at contents)) beside.cursors.held) state

-- the lines of a cursor, of what its version shows
abbrev pub lines_of : Cursor → SeenVersion → List RowText
lines_of cursor seen = drop cursor.place.given (lines_seen seen cursor.plan cursor.method (drop cursor.place.route (names.entries seen.routes)))

module _ {D : Type 0} (d : disk.Ghosts D) where
  -- the spans that a machine's tables have, and the lines that its cursors have still to give
  abbrev pub spans_of : (engine : EngineState D) (machine : Machine) → IsMachine d engine machine → ℕ → ℕ → List Stretch
  spans_of engine machine is = spans_seen is.stands.contents engine.store.file.accepted

  abbrev pub lines_in : (engine : EngineState D) (machine : Machine) → IsMachine d engine machine → Cursor → List RowText
  lines_in engine machine is = lines_left (seen_at is.stands.contents)

  abbrev pub cursors_in : (engine : EngineState D) (machine : Machine) → IsMachine d engine machine → ℕ → Cursors
  cursors_in engine machine is = cursors_by (lines_in engine machine is) engine.cursors.held

  abbrev pub unseen_of : (engine : EngineState D) (machine : Machine) → IsMachine d engine machine → Unseen
  unseen_of engine machine is = record { spans = spans_of engine machine is; lines = lines_in engine machine is }

  -- what commands are checked against is the machine's state
  pub checked_state : StoreLaws d → (engine : EngineState D) (checks : Checks) (machine : Machine) (is : IsMachine d engine machine) → AreChecksOf engine checks
      → machine.state ≡ state_by checks (unseen_of engine machine is)
  checked_state laws engine checks machine is are =
      is.is ∙ ap (with_cursors (cursors_in engine machine is)) (laws.state engine.oldest engine.store is.state is.stands)
      ∙ (λ i. state_from (sym are.catalog i) (referents_on (sym are.referents i)) (spans_of engine machine is)
      (record { changes = sym are.changes i; cursors = cursors_by (lines_in engine machine is) (sym are.cursors i) }))

  -- what is so of what commands are checked against, whatever they are not checked against, is so of the machine's state
  pub at_machine : StoreLaws d → (engine : EngineState D) (checks : Checks) (machine : Machine) → IsMachine d engine machine → AreChecksOf engine checks → (P : State → Type 0)
      → ((unseen : Unseen) → P (state_by checks unseen)) → P machine.state
  at_machine laws engine checks machine is are P each = subst P (sym (checked_state laws engine checks machine is are)) (each (unseen_of engine machine is))

  -- and of the file's, where cursors don't matter
  pub at_file : StoreLaws d → (engine : EngineState D) (checks : Checks) (machine : Machine) (is : IsMachine d engine machine) → AreChecksOf engine checks → (P : State → Type 0)
      → ((state : State) → P (with_cursors (cursors_in engine machine is) state) → P state) → ((unseen : Unseen) → P (state_by checks unseen)) → P is.state
  at_file laws engine checks machine is are P alone each = alone is.state (subst P is.is (at_machine laws engine checks machine is are P each))

  -- ---- a store that stands

  -- from a version that is the same, in the same contents
  abbrev pub stands_from : (oldest from : ℕ) (store : StoreState D) (state : State) → oldest ≡ from → StandsIn d oldest store state → StandsIn d from store state
  stands_from oldest from store state same stands = record {
    contents = stands.contents;
    keeps = stands.keeps;
    live = omega (arith, stands.live, same);
    meant = subst (λ (version : ℕ). IsMeant version stands.contents) same stands.meant;
    is = stands.is;
    views = stands.views;
  }

  -- ---- what is served

  -- a command that its checks refuse changes nothing
  pub refused_by_checks : (old new : EngineState D) (machine : Machine) → IsMachine d old machine → new ≡ old → (outcome : Result Effect Refusal) (why : Refusal) → outcome ≡ Err why
      → IsServed d outcome machine (refused why) new
  refused_by_checks old new machine is same outcome why out =
      subst (λ (engine : EngineState D). IsServed d outcome machine (refused why) engine) (sym same)
      (subst (λ (o : Result Effect Refusal). IsServed d o machine (refused why) old) (sym out) (record {
        next = machine;
        is = is;
        answer = inl (refl, record { state = refl; counts = record { failures = omega arith; full_refusals = omega arith } });
      }))

  -- so does one for which memory is wanting
  pub wanting_memory : (old new : EngineState D) (machine : Machine) → IsMachine d old machine → new ≡ old → (outcome : Result Effect Refusal)
      → IsServed d outcome machine (refused refusal.OutOfMemory) new
  wanting_memory old new machine is same outcome =
      subst (λ (engine : EngineState D). IsServed d outcome machine (refused refusal.OutOfMemory) engine) (sym same) (record {
        next = machine;
        is = is;
        answer = inr (record { state = refl; counts = record { failures = omega arith; full_refusals = omega arith } }, inl refl);
      })

  -- a store that keeps what it kept is the same machine, but for its counts
  pub as_it_was : (old new : EngineState D) (machine : Machine) (is : IsMachine d old machine) → ((contents : Contents) → Keeps d old.store contents → Keeps d new.store contents) → beside_of new ≡ beside_of old
      → new.store.pager.limit ≡ old.store.pager.limit → IsMachine d new (record { state = machine.state; failures = d.failures new.store.pager.disk; full_refusals = new.store.pager.full_refusals })
  as_it_was old new machine is keeps beside limit = record {
    state = is.state;
    stands = record {
      contents = is.stands.contents;
      keeps = keeps is.stands.contents is.stands.keeps;
      live = subst (λ (b : BesidePages). b.oldest ≤ is.stands.contents.directory.accepted) (sym beside) is.stands.live;
      meant = subst (λ (b : BesidePages). IsMeant b.oldest is.stands.contents) (sym beside) is.stands.meant;
      is = is.stands.is;
      views = is.stands.views;
    };
    live = subst (LiveBeside is.stands.contents) (sym beside) is.live;
    is = is.is ∙ ap (state_beside is.stands.contents is.state) (sym beside);
    lawful = is.lawful;
    failures = refl;
    full_refusals = refl;
    within = omega (arith, is.within, limit);
  }

  -- a change that the store refuses names a want
  pub refused_by_store : {T : Type 0} (may : State → Type 0) (old new : EngineState D) (machine : Machine) (is : IsMachine d old machine) (outcome : Result Effect Refusal) (why : Refusal)
      → LeavesStore d may {T = T} (Err why) old.store new.store → (new.cursors ≡ old.cursors) × (new.oldest ≡ old.oldest) → may is.state → IsServed d outcome machine (refused why) new
  refused_by_store may old new machine is outcome why leaves same allowed =
      let next : Machine = record { state = machine.state; failures = d.failures new.store.pager.disk; full_refusals = new.store.pager.full_refusals } in
      let beside : beside_of new ≡ beside_of old = λ i. record { oldest = same.1 i; accepted = leaves.accepted i; cursors = same.0 i } in
      let later : machine.failures ≤ next.failures = elim leaves.cause [
        | inl memory ↦ omega (arith, is.failures, leaves.failures.other (λ is_disk. absurd (cc (is_disk, memory))))
        | inr (inl failed) ↦ omega (arith, is.failures, leaves.failures.disk failed, counted_later (d.failures old.store.pager.disk))
        | inr (inr (inl full)) ↦ omega (arith, is.failures, leaves.failures.other (λ is_disk. absurd (cc (is_disk, full))))
        | inr (inr (inr damaged)) ↦ absurd (leaves.sound old.oldest is.state is.stands allowed (ap Err damaged))
      ] in
      let fuller : machine.full_refusals ≤ next.full_refusals = elim leaves.cause [
        | inl memory ↦ omega (arith, is.full_refusals, leaves.full.other (λ is_full. absurd (cc (is_full, memory))))
        | inr (inl failed) ↦ omega (arith, is.full_refusals, leaves.full.other (λ is_full. absurd (cc (is_full, failed))))
        | inr (inr (inl full)) ↦ omega (arith, is.full_refusals, leaves.full.full full, counted_later old.store.pager.full_refusals)
        | inr (inr (inr damaged)) ↦ absurd (leaves.sound old.oldest is.state is.stands allowed (ap Err damaged))
      ] in
      record {
        next = next;
        is = as_it_was old new machine is leaves.stays beside leaves.limit;
        answer = inr (
          record { state = refl; counts = record { failures = later; full_refusals = fuller } },
          elim leaves.cause [
            | inl memory ↦ inl (ap refused memory)
            | inr (inl failed) ↦ inr (inl (
              ap refused failed,
              subst (λ (count : ℕ). Rose count next.failures) (sym is.failures)
                  (subst (λ (count : ℕ). Rose (d.failures old.store.pager.disk) count) (sym (leaves.failures.disk failed)) (counted_rose (d.failures old.store.pager.disk))),
            ))
            | inr (inr (inl full)) ↦ inr (inr (
              ap refused full,
              subst (λ (count : ℕ). Rose count next.full_refusals) (sym is.full_refusals)
                  (subst (λ (count : ℕ). Rose old.store.pager.full_refusals count) (sym (leaves.full.full full)) (counted_rose old.store.pager.full_refusals)),
            ))
            | inr (inr (inr damaged)) ↦ absurd (leaves.sound old.oldest is.state is.stands allowed (ap Err damaged))
          ],
        );
      }

  -- ---- cursors over a store that shows live versions what they saw

  module _ (laws : StoreLaws d) (old : EngineState D) (machine : Machine) (is : IsMachine d old machine) (store : StoreState D) (oldest : ℕ) (next : State)
      (stands : StandsIn d oldest store next) (live : KeepsLive oldest is.stands.contents stands.contents) (cursors : OpenCursors) (kept : AreAhead (seen_at is.stands.contents) cursors)
      (were : (session : ℕ) (name : Name) (cursor : Cursor) → names.get (held_of cursors.held session) name ≡ Some cursor → names.get (held_of old.cursors.held session) name ≡ Some cursor)
      (below : (session : ℕ) (name : Name) (cursor : Cursor) → names.get (held_of cursors.held session) name ≡ Some cursor → oldest ≤ cursor.version) where
    abbrev before : ℕ → SeenVersion
    before = seen_at is.stands.contents

    abbrev later : ℕ → SeenVersion
    later = seen_at stands.contents

    -- each is shown what it was shown
    shown_on : (session : ℕ) (name : Name) (cursor : Cursor) → names.get (held_of cursors.held session) name ≡ Some cursor → later cursor.version ≡ before cursor.version
    shown_on session name cursor there =
        let was = is.live.each session name cursor (were session name cursor there) in
        laws.live old.oldest oldest old.store store is.state next is.stands stands live cursor.version was.from (below session name cursor there) was.upto

    -- so it has the lines that it had
    pub lines_on : cursors_by (lines_left later) cursors.held ≡ cursors_by (lines_left before) cursors.held
    lines_on = cursors_by-agree (lines_left later) (lines_left before) cursors.held (λ session name cursor there. ap (lines_of cursor) (shown_on session name cursor there))

    pub still_live : (accepted : ℕ) → old.store.file.accepted ≤ accepted → AreLive oldest accepted later cursors
    still_live accepted on = record {
      each = λ session name cursor there.
          let was = is.live.each session name cursor (were session name cursor there) in
          record {
            from = below session name cursor there;
            upto = omega (arith, was.upto, on);
            lies = subst (λ (seen : SeenVersion). LiesOnRoutes seen cursor.plan) (sym (shown_on session name cursor there)) was.lies;
          };
      ahead = record {
        each = λ ahead there cursor found.
            subst (λ (seen : SeenVersion). AreKept seen cursor.plan cursor.method ahead.kept) (sym (shown_on ahead.session ahead.name.bytes cursor found)) (kept.each ahead there cursor found);
      };
    }

  -- ---- a change that is made

  -- it has the machine's next state, beside the same cursors
  pub made_by_store : StoreLaws d → (old new : EngineState D) (machine : Machine) (is : IsMachine d old machine) (next : State) (oldest : ℕ) → IsOldestIn old (old.store.file.accepted + 1) oldest
      → HasBecome d oldest is.stands.contents new.store next → new.cursors ≡ old.cursors
      → {T : Type 0} (may : State → Type 0) (outcome : Result Effect Refusal) (answer : T) (count : ℕ)
      → LeavesStore d may {T = T} (Ok answer) old.store new.store → new.oldest ≡ oldest
      → outcome ≡ Ok (counted count (with_cursors (cursors_in old machine is) next)) → IsLawful (with_cursors (cursors_in old machine is) next) → IsServed d outcome machine (done [] count) new
  made_by_store laws old new machine is next oldest least becomes same may outcome answer count leaves low out lawful =
      let after : Machine = record { state = with_cursors (cursors_in old machine is) next; failures = d.failures new.store.pager.disk; full_refusals = new.store.pager.full_refusals } in
      let were : (session : ℕ) (name : Name) (cursor : Cursor) → names.get (held_of old.cursors.held session) name ≡ Some cursor → names.get (held_of old.cursors.held session) name ≡ Some cursor = λ session name cursor there. there in
      let lines = lines_on laws old machine is new.store oldest next becomes.stands becomes.live old.cursors is.live.ahead were least.below in
      let live = still_live laws old machine is new.store oldest next becomes.stands becomes.live old.cursors is.live.ahead were least.below (old.store.file.accepted + 1) (omega arith) in
      let accepted : new.store.file.accepted ≡ old.store.file.accepted + 1 = leaves.accepted in
      let beside : beside_of new ≡ record { oldest = oldest; accepted = old.store.file.accepted + 1; cursors = old.cursors } = λ i. record { oldest = low i; accepted = accepted i; cursors = same i } in
      subst (λ (o : Result Effect Refusal). IsServed d o machine (done [] count) new) (sym out) (record {
        next = after;
        is = record {
          state = next;
          stands = stands_from oldest new.oldest new.store next (sym low) becomes.stands;
          live = subst (LiveBeside becomes.stands.contents) (sym beside) live;
          is = sym (ap (state_beside becomes.stands.contents next) beside ∙ ap (λ (cursors : ℕ → Cursors). with_cursors cursors next) lines);
          lawful = lawful;
          failures = refl;
          full_refusals = refl;
          within = omega (arith, is.within, leaves.limit);
        };
        answer = inl (
          refl,
          refl,
          record {
            failures = omega (arith, is.failures, leaves.failures);
            full_refusals = omega (arith, is.full_refusals, leaves.full);
          },
        );
      })

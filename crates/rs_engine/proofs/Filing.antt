-- The machine that an engine is once it came to be, was saved, read anew or handed back.
use Rattle.std.proofs.Common.{◌≡◌, ◌∙◌, ◌≤◌, ◌⊎◌, ℕ, List, [], None, Result, Ok, Err, Some, arith, ap, inl, inr, refl, subst, sym}
use Rattle.std.proofs.Math.Path.{fun_ext}
use Rattle.std.specs.FinMap.{get-empty}
use Rattle.rs_catalog.specs.Names.{map_values}
use Rattle.rs_catalog.proofs.Names.{map_values-empty}
use Rattle.rs_facts.specs.Fact.{Name, Names, name_cmp}
use Rattle.std.specs.FinMap as names
use Rattle.rs_cursor.specs.Held.{HeldCursors, cursors_by, held_of, lines_left}
use Rattle.rs_cursor.specs.declared.cursor.Cursor.{Cursor}
use Rattle.rs_disk.specs.Content.{Content}
use Rattle.rs_disk.specs.declared.disk.Disk as disk
use Rattle.rs_engine.specs.Ahead.{AreAhead}
use Rattle.rs_engine.specs.declared.engine.open.OpenCursors.{OpenCursors}
use Rattle.rs_file.specs.Contents.{Contents}
use Rattle.rs_engine.specs.Files.{IsDurable, Opens, OpensMachine, Saves, machine_with}
use Rattle.rs_engine.specs.Kept.{EngineState, IsMachine, seen_at, with_cursors}
use Rattle.rs_engine.specs.Serving.{IsServed}
use Rattle.rs_engine.proofs.Machines.{counted_later, counted_rose, stands_from}
use Rattle.rs_machine.specs.Lawful.{IsLawful}
use Rattle.rs_machine.specs.Served.{Machine, done, refused}
use Rattle.rs_machine.specs.State.{Cursors, RowText, State, fresh, no_cursors}
use Rattle.rs_machine.specs.Step.{Effect, counted, without_cursors}
use Rattle.rs_pager.specs.Opened.{CountsFault}
use Rattle.rs_pager.proofs.Recovered.{recovered-at, recovered-err, recovered-ok}
use Rattle.rs_pages.specs.declared.pages.TheConstants.{GREATEST_LIMIT}
use Rattle.rs_refusal.specs.Counts.{Rose}
use Rattle.rs_refusal.specs.declared.refusal.Refusal.{Refusal}
use Rattle.rs_file_meaning.specs.Meant.{IsMeant}
use Rattle.rs_refusal.specs.declared.refusal.Refusal.TheVariants as refusal
use Rattle.rs_store_source.specs.Standing.{Stands}
use Rattle.rs_store_source.specs.Calls.{Opens as StoreOpens, OpensState, Saves as StoreSaves}
use Rattle.rs_store_source.specs.Kept.{Keeps, StandsIn, StoreState}
use Rattle.rs_store_source.specs.Lasting.{IsLast}

abbrev pub engine_with : {D : Type 0} → StoreState D → ℕ → OpenCursors → EngineState D
engine_with store oldest cursors = record { store = store; oldest = oldest; cursors = cursors }

-- no session has a cursor
abbrev pub HasNoCursors : HeldCursors → Type 0
HasNoCursors held = (session : ℕ) → held_of held session ≡ names.empty

no_lines : (lines : Cursor → List RowText) (held : HeldCursors) → HasNoCursors held → cursors_by lines held ≡ no_cursors
unfolding cursors_by
no_lines lines held none = fun_ext (λ session. ap (map_values lines) (none session) ∙ map_values-empty lines)

fresh_changes : fresh.changes ≡ 0
unfolding fresh
fresh_changes = refl

module _ {D : Type 0} (d : disk.Ghosts D) where
  -- ---- the state in which a store stands

  -- it has no cursors
  pub alone : (oldest : ℕ) (store : StoreState D) (state : State) → StandsIn d oldest store state → without_cursors state ≡ state
  alone oldest store state stands = ap without_cursors stands.is.is ∙ sym stands.is.is

  -- its changes are those that the file has accepted
  pub changes_of : (oldest : ℕ) (store : StoreState D) (state : State) → StandsIn d oldest store state → state.changes ≡ store.file.accepted
  changes_of oldest store state stands = ap (λ (state : State). state.changes) stands.is.is ∙ stands.keeps.opened.accepted

  -- it is the machine's without its cursors
  pub without : (engine : EngineState D) (machine : Machine) (is : IsMachine d engine machine) → without_cursors machine.state ≡ is.state
  without engine machine is = ap without_cursors is.is ∙ alone engine.oldest engine.store is.state is.stands

  -- it stands from each later version on, up to the one that was accepted last
  pub stands_later : (oldest from : ℕ) (store : StoreState D) (state : State) (stands : StandsIn d oldest store state) → oldest ≤ from → from ≤ store.file.accepted → StandsIn d from store state
  stands_later oldest from store state stands low high = record {
    contents = stands.contents;
    keeps = stands.keeps;
    live = omega (arith, high, stands.keeps.opened.accepted);
    meant = record { definitions = stands.meant.definitions; records = λ version above below. stands.meant.records version (omega (arith, low, above)) below };
    is = stands.is;
    views = stands.views;
  }

  -- ---- an engine without cursors

  module _ (engine : EngineState D) (state : State) (none : HasNoCursors engine.cursors.held) (low : engine.oldest ≡ engine.store.file.accepted) (lawful : IsLawful state)
      (stands : StandsIn d engine.oldest engine.store state) (within : engine.store.pager.limit ≤ GREATEST_LIMIT) where
    pub begins : IsMachine d engine (machine_with d state engine)
    begins = record {
      state = state;
      stands = stands;
      live = record {
        each = λ session name cursor there. absurd (none_there session name cursor there);
        ahead = record { each = λ ahead is cursor there. absurd (none_there ahead.session ahead.name.bytes cursor there) };
      };
      is = sym (ap (λ (cursors : ℕ → Cursors). with_cursors cursors state) (no_lines (lines_left (seen_at stands.contents)) engine.cursors.held none)
          ∙ alone engine.oldest engine.store state stands);
      lawful = lawful;
      failures = refl;
      full_refusals = refl;
      within = within;
    }
      where
        none_some : (cursor : Cursor) → None ≡ Some cursor → ⊥
        none_some cursor e = cc e

        none_there : (session : ℕ) (name : Name) (cursor : Cursor) → names.get (held_of engine.cursors.held session) name ≡ Some cursor → ⊥
        none_there session name cursor there =
            none_some cursor (sym (ap (λ (held : Names Cursor). names.get held name) (none session) ∙ get-empty name_cmp name) ∙ there)

  -- ---- an engine that comes to be

  over_store : (store : StoreState D) (engine : EngineState D) (state : State) → engine.store ≡ store → engine.oldest ≡ store.file.accepted → StandsIn d store.file.accepted store state
      → StandsIn d engine.oldest engine.store state
  over_store store engine state over low stands =
      stands_from d store.file.accepted engine.oldest engine.store state (sym low) (subst (λ (one : StoreState D). StandsIn d store.file.accepted one state) (sym over) stands)

  accepted_over : (store : StoreState D) (engine : EngineState D) → engine.store ≡ store → engine.oldest ≡ store.file.accepted → engine.oldest ≡ engine.store.file.accepted
  accepted_over store engine over low = low ∙ ap (λ (one : StoreState D). one.file.accepted) (sym over)

  pub begins_fresh : (store : StoreState D) (engine : EngineState D) → engine.store ≡ store → engine.oldest ≡ store.file.accepted → HasNoCursors engine.cursors.held → IsLawful fresh
      → StandsIn d 0 store fresh → store.pager.limit ≤ GREATEST_LIMIT → IsMachine d engine (machine_with d fresh engine)
  begins_fresh store engine over low none lawful stands within =
      begins engine fresh none (accepted_over store engine over low) lawful
      (over_store store engine fresh over low (stands_from d 0 store.file.accepted store fresh (sym fresh_changes ∙ changes_of 0 store fresh stands) stands))
      (subst (λ (one : StoreState D). one.pager.limit ≤ GREATEST_LIMIT) (sym over) within)

  pub begins_opened : (limit : ℕ) (content : Content) (store : StoreState D) (engine : EngineState D) → engine.store ≡ store → engine.oldest ≡ store.file.accepted → HasNoCursors engine.cursors.held
      → ((limit : ℕ) (content : Content) (state : State) → Stands limit content state → IsLawful state) → OpensState d limit content store → store.pager.limit ≤ GREATEST_LIMIT → store.pager.full_refusals ≡ 0
      → OpensMachine d limit content engine
  begins_opened limit content store engine over low none lawful opens within full = record {
    state = opens.state;
    stood = opens.stood;
    is = begins engine opens.state none (accepted_over store engine over low) (lawful limit content opens.state opens.stood) (over_store store engine opens.state over low opens.stands)
        (subst (λ (one : StoreState D). one.pager.limit ≤ GREATEST_LIMIT) (sym over) within);
    full = subst (λ (one : StoreState D). one.pager.full_refusals ≡ 0) (sym over) full;
    last = subst (λ (one : StoreState D). IsLast d one.pager opens.state) (sym over) opens.last;
  }

  -- a disk is recovered, whether an engine came to be over it or it was handed back
  pub opens_ok : (limit : ℕ) (old : D) (store : StoreState D) (engine : EngineState D) → engine.store ≡ store → OpensMachine d limit (d.seen old) engine → StoreOpens d limit old (Ok store)
      → Opens d limit old (Ok engine)
  opens_ok limit old store engine over opens from = record {
    opens = opens;
    damaged = tt;
    left_open = tt;
    recovers = λ map pages are gives. recovered-at d {E = D × Refusal} pages (Ok engine) old store.pager.disk engine.store.pager.disk (ap (λ (one : StoreState D). one.pager.disk) over)
        (recovered-ok d {E = D × Refusal} {E' = D × Refusal} pages store engine old store.pager.disk (from.recovers map pages are gives));
  }

  pub opens_err : (limit : ℕ) (old back : D) (why : Refusal) → StoreOpens d limit old (Err (back, why)) → Opens d limit old (Err (back, why))
  opens_err limit old back why from = record {
    opens = tt;
    damaged = from.damaged;
    left_open = from.left_open;
    recovers = λ map pages are gives.
        recovered-err d {T = StoreState D} {T' = EngineState D} pages (back, why) (back, why) old back (from.recovers map pages are gives);
  }

  -- ---- an engine that was saved

  -- its store was
  pub saves_by : {T E : Type 0} (old new : EngineState D) (answer : T) → StoreSaves d {E = E} (Ok tt) old.store new.store → d.is_honest new.store.pager.disk ≡ d.is_honest old.store.pager.disk
      → new.store.pager.limit ≡ old.store.pager.limit → Saves d (Ok answer) old new
  saves_by old new answer saves honesty limit = record {
    stands = λ machine is. subst (λ (state : State). Stands new.store.pager.limit (d.seen new.store.pager.disk) state) (sym (without old machine is)) (saves.stands old.oldest is.state is.stands);
    last = λ machine is. subst (IsLast d new.store.pager) (sym (without old machine is)) (saves.last old.oldest is.state is.stands);
    durable = λ machine is. subst (λ (state : State). IsDurable d new.store.pager.limit state new.store.pager.disk) (sym (without old machine is)) (saves.durable old.oldest is.state is.stands);
    honesty = honesty;
    limit = limit;
  }

  -- ---- an engine whose store keeps what it kept

  -- it is the machine that it was, but for the count of failures, though lines that were formed ahead may be others
  unfoldable pub stays_beside : (old new : EngineState D) (machine : Machine) (is : IsMachine d old machine) → ((contents : Contents) → Keeps d old.store contents → Keeps d new.store contents)
      → new.store.pager.full_refusals ≡ old.store.pager.full_refusals → new.store.pager.limit ≡ old.store.pager.limit → new.oldest ≡ old.oldest → new.cursors.held ≡ old.cursors.held
      → AreAhead (seen_at is.stands.contents) new.cursors → IsMachine d new (record machine { failures = d.failures new.store.pager.disk })
  stays_beside old new machine is keeps full limit low same ahead =
      let kept = keeps is.stands.contents is.stands.keeps in
      let accepted : new.store.file.accepted ≡ old.store.file.accepted = sym kept.opened.accepted ∙ is.stands.keeps.opened.accepted in
      record {
        state = is.state;
        stands = record {
          contents = is.stands.contents;
          keeps = kept;
          live = omega (arith, is.stands.live, low);
          meant = subst (λ (oldest : ℕ). IsMeant oldest is.stands.contents) (sym low) is.stands.meant;
          is = is.stands.is;
          views = is.stands.views;
        };
        live = record {
          each = λ session name cursor there.
              let was = is.live.each session name cursor (ap (λ (held : HeldCursors). names.get (held_of held session) name) (sym same) ∙ there) in
              record { from = omega (arith, was.from, low); upto = omega (arith, was.upto, accepted); lies = was.lies };
          ahead = ahead;
        };
        is = is.is ∙ ap (λ (held : HeldCursors). with_cursors (cursors_by (lines_left (seen_at is.stands.contents)) held) is.state) (sym same);
        lawful = is.lawful;
        failures = refl;
        full_refusals = is.full_refusals ∙ sym full;
        within = omega (arith, is.within, limit);
      }

  unfoldable pub stays : (old new : EngineState D) (machine : Machine) → IsMachine d old machine → ((contents : Contents) → Keeps d old.store contents → Keeps d new.store contents)
      → new.store.pager.full_refusals ≡ old.store.pager.full_refusals → new.store.pager.limit ≡ old.store.pager.limit → new.oldest ≡ old.oldest → new.cursors ≡ old.cursors
      → IsMachine d new (record machine { failures = d.failures new.store.pager.disk })
  stays old new machine is keeps full limit low same =
      stays_beside old new machine is keeps full limit low (ap (λ (cursors : OpenCursors). cursors.held) same) (subst (AreAhead (seen_at is.stands.contents)) (sym same) is.live.ahead)

  -- it serves a command that changes nothing
  pub served_same : (old new : EngineState D) (machine : Machine) → IsMachine d old machine → IsMachine d new (record machine { failures = d.failures new.store.pager.disk })
      → d.failures new.store.pager.disk ≡ d.failures old.store.pager.disk → IsServed d (Ok (counted 0 machine.state)) machine (done [] 0) new
  served_same old new machine is still failures = record {
    next = record machine { failures = d.failures new.store.pager.disk };
    is = still;
    answer = inl (refl, refl, record { failures = omega (arith, is.failures, failures); full_refusals = omega arith });
  }

  -- it names a want of memory or of the disk
  pub names_a_want : (old new : EngineState D) (machine : Machine) → IsMachine d old machine → IsMachine d new (record machine { failures = d.failures new.store.pager.disk })
      → (outcome : Result Effect Refusal) (why : Refusal) → CountsFault why (d.failures old.store.pager.disk) (d.failures new.store.pager.disk)
      → (why ≡ refusal.OutOfMemory) ⊎ (why ≡ refusal.Disk) → IsServed d outcome machine (refused why) new
  names_a_want old new machine is still outcome why counts cause =
      let later : machine.failures ≤ d.failures new.store.pager.disk = elim cause [
        | inl memory ↦ omega (arith, is.failures, counts.other (λ is_disk. absurd (cc (is_disk, memory))))
        | inr failed ↦ omega (arith, is.failures, counts.disk failed, counted_later (d.failures old.store.pager.disk))
      ] in
      record {
        next = record machine { failures = d.failures new.store.pager.disk };
        is = still;
        answer = inr (
          record { state = refl; counts = record { failures = later; full_refusals = omega arith } },
          elim cause [
            | inl memory ↦ inl (ap refused memory)
            | inr failed ↦ inr (inl (
              ap refused failed,
              subst (λ (count : ℕ). Rose count (d.failures new.store.pager.disk)) (sym is.failures)
                  (subst (λ (count : ℕ). Rose (d.failures old.store.pager.disk) count) (sym (counts.disk failed)) (counted_rose (d.failures old.store.pager.disk))),
            ))
          ],
        );
      }

  -- ---- an engine that was read anew

  -- it is in the same state, without cursors
  pub served_anew : (old new : EngineState D) (machine : Machine) (is : IsMachine d old machine) → IsLawful (without_cursors machine.state)
      → StandsIn d old.oldest new.store is.state → new.store.pager.full_refusals ≡ old.store.pager.full_refusals → new.store.pager.limit ≡ old.store.pager.limit
      → d.failures new.store.pager.disk ≡ d.failures old.store.pager.disk → HasNoCursors new.cursors.held → new.oldest ≡ new.store.file.accepted
      → IsServed d (Ok (counted 0 (without_cursors machine.state))) machine (done [] 0) new
  served_anew old new machine is lawful stands full limit failures none low =
      let here = without old machine is in
      let now = stands_later old.oldest new.oldest new.store is.state stands (omega (arith, stands.live, stands.keeps.opened.accepted, low)) (omega (arith, low)) in
      let begun = begins new is.state none low (subst IsLawful here lawful) now (omega (arith, is.within, limit)) in
      record {
        next = record { state = without_cursors machine.state; failures = d.failures new.store.pager.disk; full_refusals = new.store.pager.full_refusals };
        is = subst (λ (state : State). IsMachine d new (record { state = state; failures = d.failures new.store.pager.disk; full_refusals = new.store.pager.full_refusals })) (sym here) begun;
        answer = inl (refl, refl, record { failures = omega (arith, is.failures, failures); full_refusals = omega (arith, is.full_refusals, full) });
      }

-- The commands of cursors: what the machine answers, and the machine that the engine is then.
use Rattle.std.proofs.Common.{◌≡◌, ◌∙◌, ◌⊎◌, ◌≤◌, ◌<◌, ℕ, List, [], Option, None, Some, Result, Ok, Err, true, false, ap, arith, drop, inl, inr, length, refl, subst, sym, take}
use Rattle.std.proofs.lemmas.List.{length-map}
use Rattle.std.specs.FinMap as names
use Rattle.std.specs.Option.{option_map}
use Rattle.std.specs.Prelude.{IfOk, is_some, string_bytes}
use Rattle.rs_answers.specs.Versions.{LiesOnRoutes, SeenVersion}
use Rattle.rs_cursor.specs.Held.{HeldCursors, IsOldest, cursors_by, held_at, held_of, lines_left}
use Rattle.rs_cursor.specs.Kept.{AreKept}
use Rattle.rs_cursor.specs.declared.cursor.Cursor.{Cursor}
use Rattle.rs_cursor.specs.declared.next_lines.NextLines.{NextLines}
use Rattle.rs_file.specs.Contents.{Contents}
use Rattle.rs_cursor.proofs.HeldLaws.{cases_put, held_before}
use Rattle.rs_cursor.proofs.MachineCursors.{cursors_by-insert, cursors_by-remove, get-cursors_by}
use Rattle.rs_disk.specs.declared.disk.Disk as disk
use Rattle.rs_facts.specs.Fact.{Name, Names}
use Rattle.rs_engine.specs.Clearing.{ByClose, IsServedClearing}
use Rattle.rs_engine.specs.Giving.{GivesNext}
use Rattle.rs_engine.specs.Kept.{AreLive, EngineState, IsLive, IsMachine, seen_at, with_cursors}
use Rattle.rs_engine.specs.Reads.{ReadsCursor, WantsRead}
use Rattle.rs_engine.specs.Ahead.{AreAhead, IsAmong, IsOf}
use Rattle.rs_engine.specs.declared.engine.ahead.Ahead.{Ahead}
use Rattle.rs_engine.specs.declared.engine.ahead.LinesAhead.{LinesAhead}
use Rattle.rs_engine.specs.declared.engine.open.OpenCursors.{OpenCursors}
use Rattle.rs_engine.specs.Serving.{IsServed}
use Rattle.rs_engine.specs.Laws.{StoreLaws}
use Rattle.rs_engine.proofs.Machines.{LiveBeside, as_it_was, beside_of, counted_later, counted_rose, lines_on, stands_from, still_live}
use Rattle.rs_engine.proofs.Aheads.{some_ahead}
use Rattle.rs_engine.proofs.Clearing.{cleared_by_close, refused_clearing}
use Rattle.rs_engine.proofs.Filing.{changes_of, stays_beside}
use Rattle.rs_engine.proofs.Reading.{refused_by_machine, wanting}
use Rattle.rs_engine.proofs.Stepping.{StepsAreLawful}
use Rattle.rs_machine.specs.Checks.{◌>>=◌, found}
use Rattle.rs_machine.specs.Lawful.{IsLawful}
use Rattle.rs_machine.specs.Served.{Machine, done, refused}
use Rattle.rs_machine.specs.State.{Cursors, RowText, State, cursors_at, has}
use Rattle.rs_machine.specs.Step.{Effect, counted, cursor_closed, cursor_opened, effect, rows_fetched, with_cursor}
use Rattle.rs_machine.specs.declared.limits.TheConstants.{CHANGES, SESSIONS}
use Rattle.rs_methods.specs.declared.position.Method.{Method}
use Rattle.rs_serve.specs.ReplyView.{rows_of}
use Rattle.rs_syntax.specs.Sound.{IsSound}
use Rattle.rs_syntax.specs.Tree.{QueryTree}
use Rattle.rs_syntax.specs.Tree as tree
use Rattle.rs_refusal.specs.Counts.{Rose}
use Rattle.rs_refusal.specs.declared.refusal.Refusal.{Refusal}
use Rattle.rs_file_meaning.specs.Meant.{IsMeant}
use Rattle.rs_refusal.specs.declared.refusal.Refusal.TheVariants.{NoSuchCursor}
use Rattle.rs_store_source.specs.Kept.{Keeps, StoreState}
use Rattle.rs_store_source.specs.Releasing.{HasReleased, LeavesReleased}

some_of : {X : Type 0} (o : Option X) → is_some o ≡ true → (x : X) × (o ≡ Some x)
some_of None e = cc e
some_of (Some x) e = (x, refl)

none_of : {X : Type 0} (o : Option X) → is_some o ≡ false → o ≡ None
none_of None e = refl
none_of (Some x) e = cc e

-- ---- what the machine answers

module _ (state : State) (lines : Cursor → List RowText) (old : HeldCursors) (kept : state.cursors ≡ cursors_by lines old) (session : ℕ) (name : Name) where
  abbrev given_with : (ℕ → Cursors) → ℕ → List RowText → Result Effect Refusal
  given_with cursors rows left = Ok (effect (take rows left) (length (take rows left)) (with_cursors (cursors_at session (names.insert (cursors session) name (drop rows left)) cursors) state))

  abbrev closed_with : (ℕ → Cursors) → Option (List RowText) → Result Effect Refusal
  closed_with cursors there = found there NoSuchCursor >>= λ _. Ok (counted 0 (with_cursors (cursors_at session (names.remove (cursors session) name) cursors) state))

  -- the lines that a cursor has left are looked up
  at_lines : names.get (state.cursors session) name ≡ option_map lines (names.get (held_of old session) name)
  at_lines = ap (λ (cursors : ℕ → Cursors). names.get (cursors session) name) kept ∙ get-cursors_by lines old session name

  pub fetch_given : (rows : ℕ) (cursor now : Cursor) (given : List RowText) (new : HeldCursors) → names.get (held_of old session) name ≡ Some cursor
      → given ≡ take rows (lines cursor) → lines now ≡ drop rows (lines cursor)
      → held_of new ≡ held_at session (names.insert (held_of old session) name now) (held_of old)
      → rows_fetched state session name rows ≡ Ok (effect given (length given) (with_cursors (cursors_by lines new) state))
  fetch_given rows cursor now given new there are left put =
      ap (λ (o : Option (List RowText)). found o NoSuchCursor >>= given_with state.cursors rows) (at_lines ∙ ap (option_map lines) there)
      ∙ ap (λ (cursors : ℕ → Cursors). given_with cursors rows (lines cursor)) kept
      ∙ ap (λ (rest : List RowText). Ok (effect (take rows (lines cursor)) (length (take rows (lines cursor))) (with_cursors (cursors_at session (names.insert (cursors_by lines old session) name rest) (cursors_by lines old)) state))) (sym left)
      ∙ (λ i. Ok (effect (sym are i) (length (sym are i)) (with_cursors (sym (cursors_by-insert lines old new session name now put) i) state)))

  pub fetch_none : (rows : ℕ) → names.get (held_of old session) name ≡ None → rows_fetched state session name rows ≡ Err NoSuchCursor
  fetch_none rows none = ap (λ (o : Option (List RowText)). found o NoSuchCursor >>= given_with state.cursors rows) (at_lines ∙ ap (option_map lines) none)

  pub close_none : has (cursors_by lines old session) name ≡ false → cursor_closed state session name ≡ Err NoSuchCursor
  close_none isnt =
      ap (λ (cursors : ℕ → Cursors). closed_with cursors (names.get (cursors session) name)) kept
      ∙ ap (closed_with (cursors_by lines old)) (none_of (names.get (cursors_by lines old session) name) isnt)

  pub close_there : (new : HeldCursors) → has (cursors_by lines old session) name ≡ true
      → held_of new ≡ held_at session (names.remove (held_of old session) name) (held_of old)
      → cursor_closed state session name ≡ Ok (counted 0 (with_cursors (cursors_by lines new) state))
  close_there new is left =
      ap (λ (cursors : ℕ → Cursors). closed_with cursors (names.get (cursors session) name)) kept
      ∙ ap (closed_with (cursors_by lines old)) (some_of (names.get (cursors_by lines old session) name) is).1
      ∙ ap (λ (cursors : ℕ → Cursors). Ok (counted 0 (with_cursors cursors state))) (sym (cursors_by-remove lines old new session name left))

  -- a cursor with these lines is kept
  pub open_put : (new : HeldCursors) (cursor : Cursor) (all : List RowText) → lines cursor ≡ all
      → held_of new ≡ held_at session (names.insert (held_of old session) name cursor) (held_of old)
      → with_cursor state session name all ≡ with_cursors (cursors_by lines new) state
  open_put new cursor all are put =
      ap (λ (l : List RowText). with_cursor state session name l) (sym are)
      ∙ ap (λ (cursors : ℕ → Cursors). with_cursors (cursors_at session (names.insert (cursors session) name (lines cursor)) cursors) state) kept
      ∙ ap (λ (cursors : ℕ → Cursors). with_cursors cursors state) (sym (cursors_by-insert lines old new session name cursor put))

-- a cursor's next lines, as they are read of its version
pub gives_next : (versions : ℕ → SeenVersion) (held : HeldCursors) (session : ℕ) (name : Name) (rows : ℕ) (cursor : Cursor) → names.get (held_of held session) name ≡ Some cursor
    → (result : Result NextLines Refusal) → IfOk result (λ next. rows_of next.lines.items ≡ take rows (lines_left versions cursor))
    → IfOk result (λ next. lines_left versions (record cursor { place = next.place }) ≡ drop rows (lines_left versions cursor)) → IfOk result (GivesNext versions held session name rows)
gives_next versions held session name rows cursor there (Ok next) lines left = record { cursor = cursor; there = there; lines = lines; left = left }
gives_next versions held session name rows cursor there (Err why) lines left = tt

-- ---- the machine that the engine is then

module _ {D : Type 0} (d : disk.Ghosts D) where
  -- the cursors of the state are those that are kept
  pub cursors_are : (engine : EngineState D) (machine : Machine) (is : IsMachine d engine machine) → machine.state.cursors ≡ cursors_by (lines_left (seen_at is.stands.contents)) engine.cursors.held
  cursors_are engine machine is = ap (λ (state : State). state.cursors) is.is

  module _ (old new : EngineState D) (machine : Machine) (is : IsMachine d old machine) (keeps : (contents : Contents) → Keeps d old.store contents → Keeps d new.store contents)
      (limit : new.store.pager.limit ≡ old.store.pager.limit) (low : new.oldest ≡ old.oldest) (live : AreLive old.oldest old.store.file.accepted (seen_at is.stands.contents) new.cursors) where
    abbrev pub state_now : State
    state_now = with_cursors (cursors_by (lines_left (seen_at is.stands.contents)) new.cursors.held) machine.state

    abbrev pub machine_now : Machine
    machine_now = record { state = state_now; failures = d.failures new.store.pager.disk; full_refusals = new.store.pager.full_refusals }

    -- it has other cursors, in the same state of the file
    pub is_now : IsLawful state_now → IsMachine d new machine_now
    is_now lawful =
        let kept = keeps is.stands.contents is.stands.keeps in
        let accepted : new.store.file.accepted ≡ old.store.file.accepted = sym kept.opened.accepted ∙ is.stands.keeps.opened.accepted in
        let beside : beside_of new ≡ record { oldest = old.oldest; accepted = old.store.file.accepted; cursors = new.cursors } = λ i. record { oldest = low i; accepted = accepted i; cursors = new.cursors } in
        record {
          state = is.state;
          stands = record {
            contents = is.stands.contents;
            keeps = kept;
            live = omega (arith, is.stands.live, low);
            meant = subst (λ (oldest : ℕ). IsMeant oldest is.stands.contents) (sym low) is.stands.meant;
            is = is.stands.is;
            views = is.stands.views;
          };
          live = subst (LiveBeside is.stands.contents) (sym beside) live;
          is = ap (with_cursors (cursors_by (lines_left (seen_at is.stands.contents)) new.cursors.held)) is.is;
          lawful = lawful;
          failures = refl;
          full_refusals = refl;
          within = omega (arith, is.within, limit);
        }

    pub cursors_changed : d.failures old.store.pager.disk ≤ d.failures new.store.pager.disk → new.store.pager.full_refusals ≡ old.store.pager.full_refusals
        → (outcome : Result Effect Refusal) (rows : List RowText) (count : ℕ)
        → IsLawful state_now → outcome ≡ Ok (effect rows count state_now) → IsServed d outcome machine (done rows count) new
    cursors_changed later full outcome rows count lawful out =
        subst (λ (o : Result Effect Refusal). IsServed d o machine (done rows count) new) (sym out) (record {
          next = machine_now;
          is = is_now lawful;
          answer = inl (refl, refl, record { failures = omega (arith, is.failures, later); full_refusals = omega (arith, is.full_refusals, full) });
        })

  -- ---- OPEN

  module _ (steps : StepsAreLawful) (old : EngineState D) (machine : Machine) (is : IsMachine d old machine) (session : ℕ) (below : session < SESSIONS) (name : Name) where
    module _ (query : QueryTree) (method : Method) (sound : IsSound (tree.open_cursor name query method)) where
      pub opened : (now : HeldCursors) (left : LinesAhead) (cursor : Cursor) (all : List RowText) → cursor.version ≡ old.store.file.accepted → LiesOnRoutes (seen_at is.stands.contents cursor.version) cursor.plan
          → lines_left (seen_at is.stands.contents) cursor ≡ all
          → cursor_opened machine.state session name query method ≡ Ok (counted 0 (with_cursor machine.state session name all))
          → held_of now ≡ held_at session (names.insert (held_of old.cursors.held session) name cursor) (held_of old.cursors.held)
          → ((one : Ahead) → IsAmong left one → IsAmong old.cursors.ahead one) → ((one : Ahead) → IsAmong left one → IsOf session name one → ⊥)
          → IsServed d (cursor_opened machine.state session name query method) machine (done [] 0) (record { store = old.store; oldest = old.oldest; cursors = record { held = now; ahead = left } })
      opened now left cursor all version lies are accepted put others none =
          let cursors : OpenCursors = record { held = now; ahead = left } in
          let new : EngineState D = record { store = old.store; oldest = old.oldest; cursors = cursors } in
          let it : IsLive old.oldest old.store.file.accepted (seen_at is.stands.contents) cursor =
          record { from = omega (arith, version, is.stands.live, is.stands.keeps.opened.accepted); upto = omega (arith, version); lies = lies } in
          let cases = λ (other : ℕ) (called : Name) (found : Cursor) (there : names.get (held_of now other) called ≡ Some found).
          cases_put (held_of old.cursors.held) session name cursor other called found (ap (λ (held : ℕ → Names Cursor). names.get (held other) called) (sym put) ∙ there) in
          let live : AreLive old.oldest old.store.file.accepted (seen_at is.stands.contents) cursors = record {
            each = λ other called found there.
                elim (cases other called found there) [
                  | inl new_one ↦ subst (IsLive old.oldest old.store.file.accepted (seen_at is.stands.contents)) new_one.2 it
                  | inr before ↦ is.live.each other called found before
                ];
            ahead = some_ahead (seen_at is.stands.contents) old.cursors cursors is.live.ahead others (λ one kept found there.
                elim (cases one.session one.name.bytes found there) [
                  | inl new_one ↦ absurd (none one kept (new_one.0, new_one.1))
                  | inr before ↦ before
                ]);
          } in
          let out = accepted ∙ ap (λ (state : State). Ok (counted 0 state))
          (open_put machine.state (lines_left (seen_at is.stands.contents)) old.cursors.held (cursors_are old machine is) session name now cursor all are put) in
          cursors_changed old new machine is (λ contents keeps. keeps) refl refl live (omega arith) refl (cursor_opened machine.state session name query method) [] 0
          (steps machine.state session (tree.open_cursor name query method) (counted 0 (state_now old new machine is (λ contents keeps. keeps) refl refl live)) below sound is.lawful out) out

    -- ---- FETCH

    module _ (read : EngineState D) (reads : ReadsCursor d old read) (kept : AreAhead (seen_at is.stands.contents) read.cursors) (rows : ℕ) (sound : IsSound (tree.fetch name rows)) where
      at_read : (other : ℕ) (called : Name) → names.get (held_of read.cursors.held other) called ≡ names.get (held_of old.cursors.held other) called
      at_read other called = ap (λ (held : HeldCursors). names.get (held_of held other) called) reads.held

      -- the cursor has moved on, to the place behind these lines
      module _ (new : EngineState D) (same : new.store ≡ read.store) (low : new.oldest ≡ read.oldest) (beside : new.cursors.ahead ≡ read.cursors.ahead) where
        pub fetched : (next : NextLines) → GivesNext (seen_at is.stands.contents) old.cursors.held session name rows next
            → ((cursor : Cursor) → names.get (held_of read.cursors.held session) name ≡ Some cursor
            → held_of new.cursors.held ≡ held_at session (names.insert (held_of read.cursors.held session) name (record cursor { place = next.place })) (held_of read.cursors.held))
            → IsServed d (rows_fetched machine.state session name rows) machine (done (rows_of next.lines.items) (length next.lines.items)) new
        fetched next gives moves =
            let versions = seen_at is.stands.contents in
            let moved : Cursor = record gives.cursor { place = next.place } in
            let put : held_of new.cursors.held ≡ held_at session (names.insert (held_of old.cursors.held session) name moved) (held_of old.cursors.held) =
            moves gives.cursor (at_read session name ∙ gives.there)
            ∙ ap (λ (held : HeldCursors). held_at session (names.insert (held_of held session) name moved) (held_of held)) reads.held in
            let it = is.live.each session name gives.cursor gives.there in
            let still_kept = λ (ahead : Ahead) (there : IsAmong new.cursors.ahead ahead). subst (λ (a : LinesAhead). IsAmong a ahead) beside there in
            let cases = λ (other : ℕ) (called : Name) (found : Cursor) (there : names.get (held_of new.cursors.held other) called ≡ Some found).
            cases_put (held_of old.cursors.held) session name moved other called found (ap (λ (held : ℕ → Names Cursor). names.get (held other) called) (sym put) ∙ there) in
            let live : AreLive old.oldest old.store.file.accepted versions new.cursors = record {
              each = λ other called found there.
                  elim (cases other called found there) [
                    | inl new_one ↦ subst (IsLive old.oldest old.store.file.accepted versions) new_one.2 (record { from = it.from; upto = it.upto; lies = it.lies })
                    | inr before ↦ is.live.each other called found before
                  ];
              ahead = record {
                each = λ ahead there found at.
                    elim (cases ahead.session ahead.name.bytes found at) [
                      | inl new_one ↦ subst (λ (c : Cursor). AreKept (versions c.version) c.plan c.method ahead.kept) new_one.2
                          (kept.each ahead (still_kept ahead there) gives.cursor (at_read ahead.session ahead.name.bytes ∙ (λ i. names.get (held_of old.cursors.held (new_one.0 i)) (new_one.1 i)) ∙ gives.there))
                      | inr before ↦ kept.each ahead (still_kept ahead there) found (at_read ahead.session ahead.name.bytes ∙ before)
                    ];
              };
            } in
            let keeps : (contents : Contents) → Keeps d old.store contents → Keeps d new.store contents =
            λ contents now. subst (λ (store : StoreState D). Keeps d store contents) (sym same) (reads.store.keeps.contents contents now) in
            let limit : new.store.pager.limit ≡ old.store.pager.limit = ap (λ (store : StoreState D). store.pager.limit) same ∙ reads.store.keeps.limit in
            let full : new.store.pager.full_refusals ≡ old.store.pager.full_refusals = ap (λ (store : StoreState D). store.pager.full_refusals) same ∙ reads.store.keeps.full in
            let failures : d.failures new.store.pager.disk ≡ d.failures read.store.pager.disk = ap (λ (store : StoreState D). d.failures store.pager.disk) same in
            let out = fetch_given machine.state (lines_left versions) old.cursors.held (cursors_are old machine is) session name rows gives.cursor moved (rows_of next.lines.items) new.cursors.held gives.there gives.lines gives.left put in
            let now : State = state_now old new machine is keeps limit (low ∙ reads.oldest) live in
            let lawful = steps machine.state session (tree.fetch name rows) (effect (rows_of next.lines.items) (length (rows_of next.lines.items)) now) below sound is.lawful out in
            cursors_changed old new machine is keeps limit (low ∙ reads.oldest) live (omega (arith, reads.store.failures, failures)) full (rows_fetched machine.state session name rows) (rows_of next.lines.items) (length next.lines.items)
            lawful (out ∙ ap (λ (count : ℕ). Ok (effect (rows_of next.lines.items) count now)) (length-map next.lines.items string_bytes))

      -- it is where it was
      pub fetch_refused : (why : Refusal) → ((why ≡ NoSuchCursor) × (names.get (held_of old.cursors.held session) name ≡ None)) ⊎ WantsRead d why old read
          → IsServed d (rows_fetched machine.state session name rows) machine (refused why) read
      fetch_refused why cause =
          let still = stays_beside d old read machine is reads.store.keeps.contents reads.store.keeps.full reads.store.keeps.limit reads.oldest reads.held kept in
          elim cause [
            | inl none ↦ refused_by_machine d old read machine is reads.store still (rows_fetched machine.state session name rows) why
                (fetch_none machine.state (lines_left (seen_at is.stands.contents)) old.cursors.held (cursors_are old machine is) session name rows none.1 ∙ ap Err (sym none.0))
            | inr wanted ↦ wanting d old read machine is reads.store still (rows_fetched machine.state session name rows) why wanted
          ]

    -- ---- CLOSE

    module _ (laws : StoreLaws d) (sound : IsSound (tree.close_cursor name)) (new : EngineState D) where
      pub closed : has (cursors_by (lines_left (seen_at is.stands.contents)) old.cursors.held session) name ≡ true → (oldest gone : ℕ)
          → IsOldest (held_at session (names.remove (held_of old.cursors.held session) name) (held_of old.cursors.held)) old.store.file.accepted oldest
          → (old.oldest ≤ oldest → oldest ≤ old.store.file.accepted → HasReleased d oldest gone is.stands.contents new.store is.state) → LeavesReleased d {T = ℕ} (Ok gone) old.store new.store
          → new.oldest ≡ oldest → ((one : Ahead) → IsAmong new.cursors.ahead one → IsAmong old.cursors.ahead one) → held_of new.cursors.held ≡ held_at session (names.remove (held_of old.cursors.held session) name) (held_of old.cursors.held)
          → IsServedClearing d ByClose (cursor_closed machine.state session name) machine is.stands.contents (done [] 0) new
      closed there oldest gone least releases leaves lowest others left =
          let held : ℕ → Names Cursor = held_of old.cursors.held in
          let versions = seen_at is.stands.contents in
          let at : (other : ℕ) (called : Name) → names.get (held_at session (names.remove (held session) name) held other) called ≡ names.get (held_of new.cursors.held other) called =
          λ other called. ap (λ (cursors : ℕ → Names Cursor). names.get (cursors other) called) (sym left) in
          let were : (other : ℕ) (called : Name) (cursor : Cursor) → names.get (held_of new.cursors.held other) called ≡ Some cursor → names.get (held other) called ≡ Some cursor =
          λ other called cursor found. held_before held session name other called cursor (at other called ∙ found) in
          let above : (other : ℕ) (called : Name) (cursor : Cursor) → names.get (held_of new.cursors.held other) called ≡ Some cursor → oldest ≤ cursor.version =
          λ other called cursor found. least.below other called cursor (at other called ∙ found) in
          let low : old.oldest ≤ oldest = least.greatest old.oldest (omega (arith, is.stands.live, is.stands.keeps.opened.accepted))
          (λ other called cursor found. (is.live.each other called cursor (held_before held session name other called cursor found)).from) in
          let released = releases low least.within in
          let kept : AreAhead versions new.cursors = some_ahead versions old.cursors new.cursors is.live.ahead others (λ one there cursor found. were one.session one.name.bytes cursor found) in
          let lines = lines_on d laws old machine is new.store oldest is.state released.stands released.live new.cursors kept were above in
          let live = still_live d laws old machine is new.store oldest is.state released.stands released.live new.cursors kept were above old.store.file.accepted (omega arith) in
          let accepted : new.store.file.accepted ≡ old.store.file.accepted = leaves.accepted in
          let beside : beside_of new ≡ record { oldest = oldest; accepted = old.store.file.accepted; cursors = new.cursors } = λ i. record { oldest = lowest i; accepted = accepted i; cursors = new.cursors } in
          let state : State = with_cursors (cursors_by (lines_left versions) new.cursors.held) machine.state in
          let out = close_there machine.state (lines_left versions) old.cursors.held (cursors_are old machine is) session name new.cursors.held there left in
          let within : old.store.file.accepted ≤ CHANGES = omega (arith, changes_of d old.oldest old.store is.state is.stands, ap (λ (state : State). state.changes) is.is, is.lawful.limits.changes) in
          record {
            served = subst (λ (o : Result Effect Refusal). IsServed d o machine (done [] 0) new) (sym out) (record {
              next = record { state = state; failures = d.failures new.store.pager.disk; full_refusals = new.store.pager.full_refusals };
              is = record {
                state = is.state;
                stands = stands_from d oldest new.oldest new.store is.state (sym lowest) released.stands;
                live = subst (LiveBeside released.stands.contents) (sym beside) live;
                is = ap (with_cursors (cursors_by (lines_left versions) new.cursors.held)) is.is ∙ ap (λ (cursors : ℕ → Cursors). with_cursors cursors is.state) (sym lines);
                lawful = steps machine.state session (tree.close_cursor name) (counted 0 state) below sound is.lawful out;
                failures = refl;
                full_refusals = refl;
                within = omega (arith, is.within, leaves.limit);
              };
              answer = inl (refl, refl, record { failures = omega (arith, is.failures, leaves.failures); full_refusals = omega (arith, is.full_refusals, leaves.full) });
            });
            cleared = cleared_by_close d old new is.stands.contents is.state (held_at session (names.remove (held session) name) held) oldest gone least left accepted lowest within released;
          }

      -- the store refused to clear records
      pub close_refused : (why : Refusal) → LeavesReleased d {T = ℕ} (Err why) old.store new.store → (new.cursors ≡ old.cursors) × (new.oldest ≡ old.oldest)
          → IsServedClearing d ByClose (cursor_closed machine.state session name) machine is.stands.contents (refused why) new
      close_refused why leaves same =
          let beside : beside_of new ≡ beside_of old = λ i. record { oldest = same.1 i; accepted = leaves.accepted i; cursors = same.0 i } in
          let next : Machine = record { state = machine.state; failures = d.failures new.store.pager.disk; full_refusals = new.store.pager.full_refusals } in
          let later : machine.failures ≤ next.failures = elim leaves.refused [
            | inl memory ↦ omega (arith, is.failures, leaves.failures.other (λ is_disk. absurd (cc (is_disk, memory))))
            | inr (inl failed) ↦ omega (arith, is.failures, leaves.failures.disk failed, counted_later (d.failures old.store.pager.disk))
            | inr (inr damaged) ↦ absurd (leaves.sound old.oldest is.state is.stands (ap Err damaged))
          ] in
          let served : IsServed d (cursor_closed machine.state session name) machine (refused why) new = record {
            next = next;
            is = as_it_was d old new machine is leaves.stays beside leaves.limit;
            answer = inr (
              record { state = refl; counts = record { failures = later; full_refusals = omega (arith, is.full_refusals, leaves.full) } },
              elim leaves.refused [
                | inl memory ↦ inl (ap refused memory)
                | inr (inl failed) ↦ inr (inl (
                  ap refused failed,
                  subst (λ (count : ℕ). Rose count next.failures) (sym is.failures)
                      (subst (λ (count : ℕ). Rose (d.failures old.store.pager.disk) count) (sym (leaves.failures.disk failed)) (counted_rose (d.failures old.store.pager.disk))),
                ))
                | inr (inr damaged) ↦ absurd (leaves.sound old.oldest is.state is.stands (ap Err damaged))
              ],
            );
          } in
          refused_clearing d served

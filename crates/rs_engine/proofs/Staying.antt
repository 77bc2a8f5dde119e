-- What stays of an engine at each answer, on any disk.
use Rattle.std.proofs.Common.{◌≡◌, ◌∙◌, ℕ, List, [], Result, Ok, Err, Some, ap, refl, subst, sym}
use Rattle.std.specs.FinMap as names
use Rattle.std.specs.Prelude.{OnErr, OnOk, String, Vec}
use Rattle.std.specs.declared.alloc.Global.{Global}
use Rattle.rs_catalog.specs.Definitions.{Numbered}
use Rattle.rs_catalog.specs.Referents.{HeldReferents, referents_on}
use Rattle.rs_cursor.specs.Held.{HeldCursors, held_at, held_of}
use Rattle.rs_cursor.specs.declared.cursor.Cursor.{Cursor}
use Rattle.rs_cursor.specs.declared.place.Place.{Place}
use Rattle.rs_disk.specs.declared.disk.Disk as disk
use Rattle.rs_engine.specs.Ahead.{IsEmpty}
use Rattle.rs_engine.specs.Clearing.{WhereDone}
use Rattle.rs_engine.specs.Kept.{EngineState}
use Rattle.rs_engine.specs.Reads.{ReadsCursor, ReadsEngine}
use Rattle.rs_engine.specs.Replied.{count_reply_of, nothing_reply_of, rows_reply_of}
use Rattle.rs_engine.specs.Staying.{CursorsAfter, HasCursor, HasNone, LeavesCursors, StaysAsItWas, StaysOnAnyDisk, WhereReading, WhereRefused}
use Rattle.rs_engine.specs.declared.engine.ahead.LinesAhead.{LinesAhead}
use Rattle.rs_engine.specs.declared.engine.open.OpenCursors.{OpenCursors}
use Rattle.rs_facts.specs.Fact.{Name}
use Rattle.rs_file.specs.declared.opened.OpenedFile.{OpenedFile}
use Rattle.rs_file_parts.specs.Parts.{IsAsItWas}
use Rattle.rs_machine.specs.Served.{Reply, done, refused}
use Rattle.rs_machine.specs.State.{RowText, State}
use Rattle.rs_methods.specs.declared.position.Method.{Method}
use Rattle.rs_pager.specs.Lasts.{Lasts}
use Rattle.rs_pager.specs.Maps.{KeepsChanges}
use Rattle.rs_pager.proofs.Lasting.{goes_on}
use Rattle.rs_refusal.specs.declared.refusal.Refusal.{Refusal}
use Rattle.rs_store_source.specs.Calls.{KeepsStore, Reopens}
use Rattle.rs_store_source.specs.Changing.{LeavesStore, StillHolds}
use Rattle.rs_store_source.specs.Kept.{StoreState}
use Rattle.rs_store_source.specs.Releasing.{LeavesReleased}
use Rattle.rs_store_source.proofs.HeldChanges.{changes-refl, still_after, still_as_it_was, still_by_changes}
use Rattle.rs_store_source.proofs.Results.{err_always}
use Rattle.rs_store_source.proofs.Passing.{passes_refl}
use Rattle.rs_store_source.specs.Reads.{Passes}
use Rattle.rs_syntax.specs.Tree as tree
use Rattle.rs_syntax.specs.Tree.{CommandTree, QueryTree}
use Rattle.rs_syntax.specs.View.{tree_of}
use Rattle.rs_syntax.specs.declared.commands.Command.{Command}
use Rattle.rs_syntax.specs.declared.commands.Command.TheVariants.{Reopen}

-- ---- replies

refused_count : (P : Type 0) (result : Result ℕ Refusal) → OnErr result P → WhereRefused (count_reply_of result) P
refused_count P (Ok count) stays = tt
refused_count P (Err why) stays = stays

done_count : {P : Type 0} (result : Result ℕ Refusal) → P → WhereDone (count_reply_of result) P
done_count (Ok count) after = after
done_count (Err why) after = tt

refused_rows : {P : Type 0} (result : Result (Vec (String Global) Global) Refusal) → P → WhereRefused (rows_reply_of result) P
refused_rows (Ok rows) stays = tt
refused_rows (Err why) stays = stays

done_rows : {P : Type 0} (result : Result (Vec (String Global) Global) Refusal) → P → WhereDone (rows_reply_of result) P
done_rows (Ok rows) after = after
done_rows (Err why) after = tt

refused_nothing : (P : Type 0) (result : Result (Unit {0}) Refusal) → OnErr result P → WhereRefused (nothing_reply_of result) P
refused_nothing P (Ok nothing) stays = tt
refused_nothing P (Err why) stays = stays

done_nothing : (P : Type 0) (result : Result (Unit {0}) Refusal) → OnOk result P → WhereDone (nothing_reply_of result) P
done_nothing P (Ok nothing) after = after
done_nothing P (Err why) after = tt

-- the same referents are on each route
same_referents : (old new : Numbered HeldReferents) → new ≡ old → (route : ℕ) → referents_on new route ≡ referents_on old route
same_referents old new same route = ap (λ (referents : Numbered HeldReferents). referents_on referents route) same

module _ {D : Type 0} (d : disk.Ghosts D) where
  -- ---- an engine of which all stays

  -- nothing was done
  pub stays_same : (engine : EngineState D) → StaysAsItWas d engine engine
  stays_same engine = record {
    cursors = refl;
    oldest = refl;
    opened = still_as_it_was engine.store.file engine.store.file refl;
    catalog = refl;
    referents = λ route. refl;
    changes = still_by_changes d engine.store.pager engine.store.pager (changes-refl engine.store.pager);
  }

  -- the file was read
  pub stays_read : (old new : EngineState D) → Passes d old.store new.store → new.oldest ≡ old.oldest → new.cursors.held ≡ old.cursors.held → StaysAsItWas d old new
  stays_read old new reads low held = record {
    cursors = held;
    oldest = low;
    opened = still_as_it_was old.store.file new.store.file reads.keeps.file;
    catalog = reads.keeps.catalog;
    referents = same_referents old.store.referents new.store.referents reads.keeps.referents;
    changes = still_by_changes d old.store.pager new.store.pager reads.changes;
  }

  -- a change was refused
  pub stays_unchanged : {T : Type 0} {may : State → Type 0} {why : Refusal} (old new : EngineState D) → LeavesStore d may {T = T} (Err why) old.store new.store
      → new.oldest ≡ old.oldest → new.cursors.held ≡ old.cursors.held → StaysAsItWas d old new
  stays_unchanged old new leaves low held =
      record { cursors = held; oldest = low; opened = leaves.opened; catalog = leaves.catalog; referents = leaves.referents; changes = leaves.changes }

  -- records could not be cleared
  pub stays_uncleared : {T : Type 0} {why : Refusal} (old new : EngineState D) → LeavesReleased d {T = T} (Err why) old.store new.store
      → new.oldest ≡ old.oldest → new.cursors.held ≡ old.cursors.held → StaysAsItWas d old new
  stays_uncleared old new leaves low held = record {
    cursors = held;
    oldest = low;
    opened = leaves.opened;
    catalog = leaves.catalog;
    referents = same_referents old.store.referents new.store.referents leaves.referents;
    changes = leaves.changes;
  }

  -- what is held was to be written
  pub stays_unsaved : (old new : EngineState D) → KeepsStore d old.store new.store → StillHolds d old.store.pager new.store.pager
      → new.oldest ≡ old.oldest → new.cursors.held ≡ old.cursors.held → StaysAsItWas d old new
  stays_unsaved old new keeps holds low held = record {
    cursors = held;
    oldest = low;
    opened = still_as_it_was old.store.file new.store.file keeps.file;
    catalog = keeps.catalog;
    referents = same_referents old.store.referents new.store.referents keeps.referents;
    changes = holds;
  }

  -- the file was to be read anew
  pub stays_unread : {why : Refusal} (old new : EngineState D) → Reopens d (Err why) old.store new.store
      → new.oldest ≡ old.oldest → new.cursors.held ≡ old.cursors.held → StaysAsItWas d old new
  stays_unread old new reopens low held = record {
    cursors = held;
    oldest = low;
    opened = still_as_it_was old.store.file new.store.file reopens.file;
    catalog = reopens.catalog;
    referents = same_referents old.store.referents new.store.referents reopens.referents;
    changes = reopens.changes;
  }

  -- all stays of what a read left
  stays_after : (old read new : EngineState D) → ReadsEngine d old read → StaysAsItWas d read new → StaysAsItWas d old new
  stays_after old read new reads stays = record {
    cursors = stays.cursors ∙ ap (λ (cursors : OpenCursors). cursors.held) reads.cursors;
    oldest = stays.oldest ∙ reads.oldest;
    opened = subst (λ (file : OpenedFile). IsAsItWas file new.store.file) reads.store.keeps.file stays.opened;
    catalog = stays.catalog ∙ reads.store.keeps.catalog;
    referents = λ route. stays.referents route ∙ same_referents old.store.referents read.store.referents reads.store.keeps.referents route;
    changes = still_after d old.store.pager read.store.pager new.store.pager reads.store.changes stays.changes;
  }

  -- ---- a call that leaves all cursors

  lasts_same : (engine : EngineState D) → Lasts d engine.store.pager engine.store.pager
  lasts_same engine = (passes_refl d engine.store).keeps.endures.lasts

  pub leaves_at_once : {T : Type 0} (engine : EngineState D) (result : Result T Refusal) → LeavesCursors d result engine engine
  leaves_at_once engine result = record { held = refl; refused = err_always result (stays_same engine); lasts = lasts_same engine; limit = refl }

  -- it was refused after a read
  pub leaves_read : {T : Type 0} (old new : EngineState D) (result : Result T Refusal) → ReadsEngine d old new → LeavesCursors d result old new
  leaves_read old new result reads =
      let held : new.cursors.held ≡ old.cursors.held = ap (λ (cursors : OpenCursors). cursors.held) reads.cursors in
      record {
        held = held;
        refused = err_always result (stays_read old new reads.store reads.oldest held);
        lasts = reads.store.keeps.endures.lasts;
        limit = reads.store.keeps.limit;
      }

  -- it was served after a read
  lasts_after : (old read new : EngineState D) → ReadsEngine d old read → Lasts d read.store.pager new.store.pager → Lasts d old.store.pager new.store.pager
  lasts_after old read new reads lasts =
      let before = reads.store.keeps.endures in
      goes_on d old.store.pager read.store.pager new.store.pager before.tied before.committed before.lasts lasts

  pub leaves_after : {T : Type 0} (old read new : EngineState D) (result : Result T Refusal) → ReadsEngine d old read → LeavesCursors d result read new → LeavesCursors d result old new
  leaves_after old read new (Ok answer) reads leaves = record {
    held = leaves.held ∙ ap (λ (cursors : OpenCursors). cursors.held) reads.cursors;
    refused = tt;
    lasts = lasts_after old read new reads leaves.lasts;
    limit = leaves.limit ∙ reads.store.keeps.limit;
  }
  leaves_after old read new (Err why) reads leaves = record {
    held = leaves.held ∙ ap (λ (cursors : OpenCursors). cursors.held) reads.cursors;
    refused = stays_after old read new reads leaves.refused;
    lasts = lasts_after old read new reads leaves.lasts;
    limit = leaves.limit ∙ reads.store.keeps.limit;
  }

  -- the store refused a change
  pub leaves_refused : {T U : Type 0} {may : State → Type 0} {why : Refusal} {old was new : EngineState D} → old ≡ was → LeavesStore d may {T = U} (Err why) old.store new.store
      → (new.cursors ≡ old.cursors) × (new.oldest ≡ old.oldest) → (result : Result T Refusal) → LeavesCursors d result was new
  leaves_refused {old = old} {new = new} same leaves beside result =
      let held : new.cursors.held ≡ old.cursors.held = ap (λ (cursors : OpenCursors). cursors.held) beside.0 in
      subst (λ (e : EngineState D). LeavesCursors d result e new) same
      (record { held = held; refused = err_always result (stays_unchanged old new leaves beside.1 held); lasts = leaves.lasts; limit = leaves.limit })

  -- the store refused to write what is held
  pub leaves_unsaved : {T : Type 0} {old was new : EngineState D} → old ≡ was → KeepsStore d old.store new.store → StillHolds d old.store.pager new.store.pager
      → (new.cursors ≡ old.cursors) × (new.oldest ≡ old.oldest) → (result : Result T Refusal) → LeavesCursors d result was new
  leaves_unsaved {old = old} {new = new} same keeps holds beside result =
      let held : new.cursors.held ≡ old.cursors.held = ap (λ (cursors : OpenCursors). cursors.held) beside.0 in
      subst (λ (e : EngineState D). LeavesCursors d result e new) same
      (record { held = held; refused = err_always result (stays_unsaved old new keeps holds beside.1 held); lasts = keeps.endures.lasts; limit = keeps.limit })

  -- the store made a change
  pub leaves_made : {T U : Type 0} {may : State → Type 0} {made : U} {answer : T} {old was new : EngineState D} → old ≡ was → LeavesStore d may {T = U} (Ok made) old.store new.store
      → new.cursors ≡ old.cursors → LeavesCursors d (Ok answer) was new
  leaves_made {answer = answer} {old = old} {new = new} same leaves beside =
      subst (λ (e : EngineState D). LeavesCursors d (Ok answer) e new) same
      (record { held = ap (λ (cursors : OpenCursors). cursors.held) beside; refused = tt; lasts = leaves.lasts; limit = leaves.limit })

  -- the store wrote what is held
  pub leaves_saved : {T : Type 0} {answer : T} {old was new : EngineState D} → old ≡ was → KeepsStore d old.store new.store → new.cursors ≡ old.cursors → LeavesCursors d (Ok answer) was new
  leaves_saved {answer = answer} {old = old} {new = new} same keeps beside =
      subst (λ (e : EngineState D). LeavesCursors d (Ok answer) e new) same
      (record { held = ap (λ (cursors : OpenCursors). cursors.held) beside; refused = tt; lasts = keeps.endures.lasts; limit = keeps.limit })

  -- ---- OPEN and CLOSE

  -- it was refused at once
  pub stays_at_once : (session : ℕ) (command : CommandTree) (engine : EngineState D) (why : Refusal) → WhereReading command (KeepsChanges engine.store.pager engine.store.pager)
      → StaysOnAnyDisk d session command (refused why) engine engine
  stays_at_once session command engine why changes = record { refused = stays_same engine; cursors = tt; changes = changes; lasts = lasts_same engine; limit = refl }

  module _ (session : ℕ) (name : Name) (query : QueryTree) (method : Method) where
    -- no cursor has come
    pub open_stays : (why : Refusal) (engine : EngineState D) (held : HeldCursors) → held ≡ engine.cursors.held
        → StaysOnAnyDisk d session (tree.open_cursor name query method) (refused why) engine (record engine { cursors = record { held = held; ahead = engine.cursors.ahead } })
    open_stays why engine held same = record {
      refused = stays_read engine (record engine { cursors = record { held = held; ahead = engine.cursors.ahead } }) (passes_refl d engine.store) refl same;
      cursors = tt;
      changes = changes-refl engine.store.pager;
      lasts = lasts_same engine;
      limit = refl;
    }

    -- the cursor has come
    pub open_opens : (engine : EngineState D) (held : HeldCursors) (ahead : LinesAhead) (cursor : Cursor) → cursor.method ≡ method → cursor.version ≡ engine.store.file.accepted
        → (cursor.place.route ≡ 0) × (cursor.place.given ≡ 0) → IsEmpty ahead
        → held_of held ≡ held_at session (names.insert (held_of engine.cursors.held session) name cursor) (held_of engine.cursors.held)
        → StaysOnAnyDisk d session (tree.open_cursor name query method) (done [] 0) engine (record { store = engine.store; oldest = engine.oldest; cursors = record { held = held; ahead = ahead } })
    open_opens engine held ahead cursor printed version start none put = record {
      refused = tt;
      cursors = record { cursor = cursor; method_is = printed; version = version; route = start.0; given = start.1; held = put; none_ahead = none };
      changes = changes-refl engine.store.pager;
      lasts = lasts_same engine;
      limit = refl;
    }

  -- ---- FETCH

  -- it was refused after a read
  pub fetch_stays : (session : ℕ) (name : Name) (rows : ℕ) (why : Refusal) (old read : EngineState D) → ReadsCursor d old read → StaysOnAnyDisk d session (tree.fetch name rows) (refused why) old read
  fetch_stays session name rows why old read reads = record {
    refused = stays_read old read reads.store reads.oldest reads.held;
    cursors = tt;
    changes = reads.store.changes;
    lasts = reads.store.keeps.endures.lasts;
    limit = reads.store.keeps.limit;
  }

  -- the cursor has moved
  pub fetch_moves : (session : ℕ) (name : Name) (rows : ℕ) (lines : List RowText) (count : ℕ) (old read new : EngineState D) → ReadsCursor d old read → HasCursor session name old
      → new.store ≡ read.store → (place : Place)
      → ((cursor : Cursor) → names.get (held_of read.cursors.held session) name ≡ Some cursor
      → held_of new.cursors.held ≡ held_at session (names.insert (held_of read.cursors.held session) name (record cursor { place = place })) (held_of read.cursors.held))
      → StaysOnAnyDisk d session (tree.fetch name rows) (done lines count) old new
  fetch_moves session name rows lines count old read new reads there same place moves = record {
    refused = tt;
    cursors = record {
      cursor = there.cursor;
      there = there.there;
      place = place;
      held = moves there.cursor (ap (λ (held : HeldCursors). names.get (held_of held session) name) reads.held ∙ there.there)
          ∙ ap (λ (held : HeldCursors). held_at session (names.insert (held_of held session) name (record there.cursor { place = place })) (held_of held)) reads.held;
    };
    changes = subst (λ (store : StoreState D). KeepsChanges old.store.pager store.pager) (sym same) reads.store.changes;
    lasts = subst (λ (store : StoreState D). Lasts d old.store.pager store.pager) (sym same) reads.store.keeps.endures.lasts;
    limit = ap (λ (store : StoreState D). store.pager.limit) same ∙ reads.store.keeps.limit;
  }

  -- ---- a step

  -- a command is this one, and the reply says what it was answered
  pub stays_as : {session : ℕ} {old new : EngineState D} {reply other : Reply} {command given : Command} → command ≡ given → reply ≡ other
      → StaysOnAnyDisk d session (tree_of given) other old new → StaysOnAnyDisk d session (tree_of command) reply old new
  stays_as {session = session} {old = old} {new = new} {reply = reply} {given = given} is same stays =
      subst (λ (one : Command). StaysOnAnyDisk d session (tree_of one) reply old new) (sym is)
      (subst (λ (r : Reply). StaysOnAnyDisk d session (tree_of given) r old new) (sym same) stays)

  -- it leaves all cursors
  pub stays_counted : {session : ℕ} {old new : EngineState D} {reply : Reply} {command given : Command} {result : Result ℕ Refusal} → command ≡ given → reply ≡ count_reply_of result
      → LeavesCursors d result old new → (new.cursors.held ≡ old.cursors.held → CursorsAfter session (tree_of given) old new)
      → WhereReading (tree_of given) (KeepsChanges old.store.pager new.store.pager) → StaysOnAnyDisk d session (tree_of command) reply old new
  stays_counted {result = result} is same leaves after changes =
      stays_as is same (record {
        refused = refused_count _ result leaves.refused;
        cursors = done_count result (after leaves.held);
        changes = changes;
        lasts = leaves.lasts;
        limit = leaves.limit;
      })

  -- it only reads
  pub stays_listed : {session : ℕ} {old new : EngineState D} {reply : Reply} {command given : Command} (result : Result (Vec (String Global) Global) Refusal) → command ≡ given → reply ≡ rows_reply_of result
      → ReadsEngine d old new → (new.cursors.held ≡ old.cursors.held → CursorsAfter session (tree_of given) old new)
      → (KeepsChanges old.store.pager new.store.pager → WhereReading (tree_of given) (KeepsChanges old.store.pager new.store.pager)) → StaysOnAnyDisk d session (tree_of command) reply old new
  stays_listed {old = old} {new = new} result is same reads after changes =
      let held : new.cursors.held ≡ old.cursors.held = ap (λ (cursors : OpenCursors). cursors.held) reads.cursors in
      stays_as is same (record {
        refused = refused_rows result (stays_read old new reads.store reads.oldest held);
        cursors = done_rows result (after held);
        changes = changes reads.store.changes;
        lasts = reads.store.keeps.endures.lasts;
        limit = reads.store.keeps.limit;
      })

  -- it is REOPEN
  pub stays_reopened : {session : ℕ} {old new : EngineState D} {reply : Reply} {command : Command} (result : Result (Unit {0}) Refusal) → command ≡ Reopen → reply ≡ nothing_reply_of result
      → OnErr result (StaysAsItWas d old new) → OnOk result (HasNone new) → Lasts d old.store.pager new.store.pager → new.store.pager.limit ≡ old.store.pager.limit
      → StaysOnAnyDisk d session (tree_of command) reply old new
  stays_reopened result is same stays none lasts limit =
      stays_as is same (record { refused = refused_nothing _ result stays; cursors = done_nothing _ result none; changes = tt; lasts = lasts; limit = limit })

-- A change of one table after which records were taken out is the change, and then these are cleared.
use Rattle.std.proofs.Common.{◌≡◌, ◌<◌, ◌≤◌, ◌+◌, ℕ, min, length, List, [], ◌∷◌, ◌++◌, refl, sym, ap, subst, arith}
use Rattle.std.specs.List.{AllByRecursion, AllZip, sum_by}
use Rattle.rs_cell_versions.specs.declared.cell.TheConstants.{LIVING}
use Rattle.rs_catalog_pages.specs.Directory.{DirectoryItems}
use Rattle.rs_file.specs.Contents.{Contents, ReferentContents, TableContents}
use Rattle.rs_file.specs.declared.opened.OpenedFile.{OpenedFile}
use Rattle.rs_file_parts.specs.Clearing.{ClearsAsMany, ClearsParts, ClearsReferents, ClearsTable, clearable, clearable_events, clearable_referents, records_in}
use Rattle.rs_changes.specs.Garbage.{garbage_of}
use Rattle.rs_changes.specs.InPlace.{ChangesThenCleared, MakesAt}
use Rattle.rs_file_parts.proofs.Cleared.{fewer_may_go, fewer_there, none_cleared, parts_then, same_table, split_sum}
use Rattle.rs_file_parts.proofs.Lists.{each_same, together}
use Rattle.rs_machine.specs.declared.limits.TheConstants.{CHANGES}
use Rattle.rs_pages.specs.PageMap.{PageMap}
use Rattle.rs_change_laws.specs.Changing.{ChangesFile, Completes, HasChanged, died_by}
use Rattle.rs_change_laws.specs.Parts.{ChangesTableAt}
use Rattle.rs_changes.proofs.Wholes.{MakesNext, all_dead}
use Rattle.rs_value.specs.declared.column.ColumnType.{ColumnType}
use Rattle.rs_versioned.specs.Events.{Event, kept_events}
use Rattle.rs_versioned.specs.Records.{HasCleared, Kept}
use Rattle.rs_versioned.specs.Referents.{kept_referents}

-- what no version from one on sees none from a later one on sees
cleared_later : {R : Type 0} (kept : Kept R) (level later : ℕ) → level ≤ later → (cells : List (List ℕ)) (old now : List R) → HasCleared kept level cells old now → HasCleared kept later cells old now
cleared_later {R = R} kept level later upto cells old now cleared = record { gone = cleared.gone; say = cleared.say; unseen = weaker cleared.gone cleared.unseen; rest = cleared.rest } where
  weaker : (gone : List R) → AllByRecursion (λ (one : R). kept.died one ≤ level) gone → AllByRecursion (λ (one : R). kept.died one ≤ later) gone
  weaker [] all = tt
  weaker (one ∷ gone) all = (omega (arith, all.0, upto), weaker gone all.1)

module _ (place level : ℕ) (change : List Event → List Event → Type 0) (old now : Contents) (at : ChangesThenCleared place level change old now) where
  -- how many were taken out
  abbrev pub gone : ℕ
  gone = length at.changed.cells

  -- the table before they were
  abbrev whole : TableContents
  whole = record at.next { events = at.changed.between }

  -- the contents before they were
  abbrev pub between : Contents
  between = record old { tables = at.before ++ whole ∷ at.after }

  pub changes_at : ChangesTableAt place change old between
  changes_at = record {
    before = at.before;
    table = at.table;
    next = whole;
    after = at.after;
    long = at.long;
    were = at.were;
    are = refl;
    types = at.types;
    changed = at.changed.changed;
  }

  tables_are : now.tables ≡ at.before ++ at.next ∷ at.after
  tables_are = ap (λ (c : Contents). c.tables) at.are

  referents_are : now.referents ≡ old.referents
  referents_are = ap (λ (c : Contents). c.referents) at.are

  module _ (oldest : ℕ) (late : level ≤ oldest) where
    of_table : HasCleared (kept_events whole.types) oldest at.changed.cells at.changed.between at.next.events
    of_table = subst (λ (ts : List ColumnType). HasCleared (kept_events ts) oldest at.changed.cells at.changed.between at.next.events) (sym at.types)
        (cleared_later (kept_events at.table.types) level oldest late at.changed.cells at.changed.between at.next.events at.changed.cleared)

    pub parts_cleared : ClearsParts oldest between now
    parts_cleared = record {
      definitions = ap (λ (c : Contents). c.definitions) at.are;
      directory = ap (λ (c : Contents). c.directory) at.are;
      tables = subst (AllZip (ClearsTable oldest) (at.before ++ whole ∷ at.after)) (sym tables_are)
          (together (ClearsTable oldest) at.before whole at.after at.before at.next at.after (each_same (ClearsTable oldest) (same_table oldest) at.before)
          (record { types = refl; cells = at.changed.cells; cleared = of_table }) (each_same (ClearsTable oldest) (same_table oldest) at.after));
      referents = subst (λ (r : ReferentContents). ClearsReferents oldest old.referents.referents r.referents) (sym referents_are)
          (record { cells = []; cleared = none_cleared kept_referents oldest old.referents.referents });
    }

    pub so_many_fewer : records_in between ≡ records_in now + gone
    so_many_fewer =
        let long : TableContents → ℕ = λ t. length t.events in
        omega (
          arith,
          fewer_there (kept_events whole.types) oldest at.changed.cells at.changed.between at.next.events of_table,
          split_sum long at.before whole at.after,
          ap (sum_by long) tables_are,
          split_sum long at.before at.next at.after,
          ap (λ (r : ReferentContents). length r.referents) referents_are,
        )

    pub so_many_may_go : clearable oldest between ≡ gone + clearable oldest now
    so_many_may_go =
        let weigh : TableContents → ℕ = λ t. clearable_events oldest t.events in
        omega (
          arith,
          fewer_may_go (kept_events whole.types) oldest at.changed.cells at.changed.between at.next.events of_table,
          split_sum weigh at.before whole at.after,
          ap (sum_by weigh) tables_are,
          split_sum weigh at.before at.next at.after,
          ap (λ (r : ReferentContents). clearable_referents oldest r.referents) referents_are,
        )

    -- with what is cleared after them
    pub with_more : (most more : ℕ) (last : Contents) → ClearsAsMany oldest most more now last → ClearsAsMany oldest (gone + most) (gone + more) between last
    with_more most more last clears = record {
      parts = parts_then oldest between now last parts_cleared clears.parts;
      many = omega (arith, so_many_fewer, clears.many);
      as_many = λ below. omega (arith, clears.as_many below, so_many_may_go);
    }

module _ (oldest place : ℕ) (by : ℕ → List Event → List Event → Type 0) where
  -- the change is made after the version that was accepted last
  abbrev pub ChangesBy : Contents → Contents → Type 0
  ChangesBy old now = ChangesTableAt place (by old.directory.accepted) old now

  -- then some are gone that no live version sees, which had not died before it
  pub record TakesBy (old now : Contents) : Type 0 where
    pub at : ChangesThenCleared place (min oldest (old.directory.accepted + 1)) (by old.directory.accepted) old now
    pub more : died_by old.directory.accepted old ≤ died_by (old.directory.accepted + 1) now

  pub taken_next : (old new : PageMap) (was is : OpenedFile) → was.accepted < CHANGES → garbage_of was ≤ garbage_of is → MakesAt old new was is place (min oldest (was.accepted + 1)) (by was.accepted)
      → MakesNext old new was is TakesBy
  taken_next old new was is room more makes = record {
    each = λ contents accepted holds opened.
        let made = makes.each contents holds opened in
        let below : was.accepted + 1 < LIVING = omega (arith, room) in
        let first = all_dead old was.accepted (omega (arith, below)) was contents holds opened in
        let last = all_dead new (was.accepted + 1) below is made.contents made.holds made.opened in
        let grows : died_by was.accepted contents ≤ died_by (was.accepted + 1) made.contents = omega (arith, first, last, more) in
        record {
          contents = made.contents;
          holds = made.holds;
          opened = made.opened;
          directory = made.directory;
          changed = record {
            at = subst (λ (n : ℕ). ChangesThenCleared place (min oldest (n + 1)) (by n) contents made.contents) (sym accepted) made.changed;
            more = subst (λ (n : ℕ). died_by n contents ≤ died_by (n + 1) made.contents) (sym accepted) grows;
          };
        };
  }

  pub same_directory : (contents now : Contents) → TakesBy contents now → now.directory ≡ contents.directory
  same_directory contents now takes = ap (λ (c : Contents). c.directory) takes.at.are

  -- what was taken out was cleared
  as_changed : (map : PageMap) (file : OpenedFile) (contents now : Contents) → TakesBy contents now → Completes oldest contents now map file → HasChanged oldest contents map file (ChangesBy contents)
  as_changed map file contents now takes completes =
      let version : ℕ = contents.directory.accepted + 1 in
      let level : ℕ = min oldest version in
      let change : List Event → List Event → Type 0 = by contents.directory.accepted in
      let mid : Contents = between place level change contents now takes.at in
      let out : ℕ = gone place level change contents now takes.at in
      let clears = completes.clears in
      let last : Contents = record completes.contents { directory = now.directory } in
      record {
        between = mid;
        changed = changes_at place level change contents now takes.at;
        completes = record {
          contents = completes.contents;
          same = refl;
          clears = record {
            most = out + clears.most;
            gone = out + clears.gone;
            least = omega (arith, clears.least);
            few = omega (arith, clears.few, takes.more, so_many_may_go place level change contents now takes.at version (omega arith));
            cleared = subst (λ (d : DirectoryItems). ClearsAsMany oldest (out + clears.most) (out + clears.gone) mid (record completes.contents { directory = d })) completes.same
                (with_more place level change contents now takes.at oldest (omega arith) clears.most clears.gone last clears.cleared);
          };
          next = completes.next;
          holds = completes.holds;
          opened = completes.opened;
        };
      }

  pub taken_file : (old new : PageMap) (was is : OpenedFile) → ChangesFile oldest old new was is TakesBy → ChangesFile oldest old new was is ChangesBy
  taken_file old new was is changes = record {
    each = λ contents holds opened.
        let done = changes.each contents holds opened in as_changed new is contents done.between done.changed done.completes;
  }

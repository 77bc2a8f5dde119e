-- A table or an index that comes or goes after records were cleared might have come or gone before.
use Rattle.std.proofs.Common.{◌≡◌, ◌+◌, ℕ, List, [], ◌∷◌, ◌++◌, length, min, refl, sym, ap, ◌∙◌, subst, arith}
use Rattle.std.proofs.lemmas.List.Sums.{sum_by-append, sum_by-cons}
use Rattle.std.proofs.lemmas.List.Sorted.{IsPermutation-refl}
use Rattle.std.specs.List.{AllZip, sum_by}
use Rattle.rs_catalog_pages.specs.Items.{CatalogueItems}
use Rattle.rs_file.specs.Contents.{Contents, TableContents}
use Rattle.rs_file_parts.specs.Clearing.{ClearsAsMany, ClearsTable, clearable, clearable_events}
use Rattle.rs_changes.specs.Tables.{ComesTable, StaySame}
use Rattle.rs_file_parts.proofs.Lists.{together}
use Rattle.rs_file_parts.proofs.Made.{ChangesAt}
use Rattle.rs_change_laws.specs.Parts.{ChangesIndexes, ChangesTableAt, PutsTable}
use Rattle.rs_changes.proofs.Among.{apart_back, beside_back}
use Rattle.rs_changes.proofs.Next.{Commutes}
use Rattle.rs_value.specs.declared.column.ColumnType.{ColumnType}
use Rattle.rs_versioned.specs.Events.{Event, kept_events}
use Rattle.rs_versioned.specs.Records.{HasCleared}

abbrev pub weigh : ℕ → TableContents → ℕ
weigh oldest table = clearable_events oldest table.events

-- how many events it has
abbrev pub events_in : TableContents → ℕ
events_in table = length table.events

pub split_by : (weight : TableContents → ℕ) (before : List TableContents) (table : TableContents) (after : List TableContents)
    → sum_by weight (before ++ table ∷ after) ≡ weight table + sum_by weight (before ++ after)
split_by weight before table after =
    omega (arith, sum_by-append weight before (table ∷ after), sum_by-cons weight table after, sum_by-append weight before after)

pub split_sum : (oldest : ℕ) (before : List TableContents) (table : TableContents) (after : List TableContents)
    → sum_by (weigh oldest) (before ++ table ∷ after) ≡ weigh oldest table + sum_by (weigh oldest) (before ++ after)
split_sum oldest before table after = split_by (weigh oldest) before table after

-- a changed table among the others
pub changes_table_at : (columns : List ColumnType) (place : ℕ) (change : List Event → List Event → Type 0) (old now : Contents) → ChangesAt columns place change old now
    → ChangesTableAt place change old now
changes_table_at columns place change old now at = record {
  before = at.before;
  table = at.table;
  next = at.next;
  after = at.after;
  long = at.long;
  were = at.were;
  are = at.are;
  types = at.types;
  changed = at.changed;
}

-- nothing is cleared of no events
clears_none : (oldest : ℕ) (table : TableContents) → table.events ≡ [] → ClearsTable oldest table table
clears_none oldest table none = record {
  types = refl;
  cells = [];
  cleared = record { gone = []; say = tt; unseen = tt; rest = IsPermutation-refl table.events };
}

-- a change of the contents after they were cleared
pub record ThenChanges (oldest gone : ℕ) (change : Contents → Contents → Type 0) (old now : Contents) : Type 0 where
  pub mid : Contents
  pub cleared : ClearsAsMany oldest 64 gone old mid
  pub changed : change mid now

pub then_changes : (oldest gone : ℕ) (change : Contents → Contents → Type 0) (old mid now : Contents) → ClearsAsMany oldest 64 gone old mid → change mid now
    → ThenChanges oldest gone change old now
then_changes oldest gone change old mid now cleared changed = record { mid = mid; cleared = cleared; changed = changed }

module _ (oldest gone : ℕ) (definitions : CatalogueItems) (pages : List ℕ) (place : ℕ) (old now : Contents) where
  -- a table comes
  pub table_commutes : (types : List ColumnType) → ThenChanges oldest gone (ComesTable place types) old now
      → Commutes oldest definitions pages (PutsTable place types definitions) old now
  table_commutes types whole =
      let clears = whole.cleared in
      let comes = whole.changed in
      let R = ClearsTable oldest in
      let at = apart_back R old.tables comes.before comes.after (subst (AllZip R old.tables) comes.were clears.parts.tables) in
      let between : Contents = record old { definitions = definitions; pages = pages; tables = at.first ++ comes.table ∷ at.last } in
      let zero : weigh oldest comes.table ≡ 0 = ap (clearable_events oldest) comes.no_events in
      let same : clearable oldest between ≡ clearable oldest old =
      omega (arith, zero, split_sum oldest at.first comes.table at.last, ap (sum_by (weigh oldest)) at.are) in
      let all : sum_by events_in old.tables + length old.referents.referents ≡ (sum_by events_in whole.mid.tables + length whole.mid.referents.referents) + gone = clears.many in
      let none : events_in comes.table ≡ 0 = ap length comes.no_events in
      let many : sum_by events_in (at.first ++ comes.table ∷ at.last) + length old.referents.referents
      ≡ (sum_by events_in (comes.before ++ comes.table ∷ comes.after) + length whole.mid.referents.referents) + gone =
      omega (arith, none, all, split_by events_in at.first comes.table at.last, ap (sum_by events_in) at.are, ap (sum_by events_in) comes.were, split_by events_in comes.before comes.table comes.after) in
      record {
        between = between;
        gone = gone;
        changed = record {
          before = at.first;
          table = comes.table;
          after = at.last;
          long = at.long ∙ comes.long;
          were = at.are;
          are = refl;
          types_are = comes.types_are;
          no_events = comes.no_events;
          no_indexes = comes.no_indexes;
          definitions_are = refl;
          rest = refl;
        };
        same = refl;
        cleared = subst (λ (c : Contents). ClearsAsMany oldest 64 gone between (record c { definitions = definitions; pages = pages; directory = old.directory })) (sym comes.are) (record {
          parts = record {
            definitions = refl;
            directory = refl;
            tables = together R at.first comes.table at.last comes.before comes.table comes.after at.firsts (clears_none oldest comes.table comes.no_events) at.lasts;
            referents = clears.parts.referents;
          };
          many = many;
          as_many = λ below. clears.as_many below ∙ ap (min 64) (sym same);
        });
      }

  -- a table has other indexes
  pub index_commutes : ThenChanges oldest gone (ChangesTableAt place StaySame) old now → Commutes oldest definitions pages (ChangesIndexes place definitions) old now
  index_commutes whole =
      let clears = whole.cleared in
      let change = whole.changed in
      let R = ClearsTable oldest in
      let at = beside_back R old.tables change.before change.table change.after (subst (AllZip R old.tables) change.were clears.parts.tables) in
      let next : TableContents = record at.one { indexes = change.next.indexes } in
      let between : Contents = record old { definitions = definitions; pages = pages; tables = at.first ++ next ∷ at.last } in
      let same : clearable oldest between ≡ clearable oldest old =
      omega (arith, split_sum oldest at.first next at.last, split_sum oldest at.first at.one at.last, ap (sum_by (weigh oldest)) at.are) in
      let all : sum_by events_in old.tables + length old.referents.referents ≡ (sum_by events_in whole.mid.tables + length whole.mid.referents.referents) + gone = clears.many in
      let as_long : events_in change.next ≡ events_in change.table = ap length change.changed in
      let many : sum_by events_in (at.first ++ next ∷ at.last) + length old.referents.referents
      ≡ (sum_by events_in (change.before ++ change.next ∷ change.after) + length whole.mid.referents.referents) + gone =
      omega (
        arith,
        as_long,
        all,
        split_by events_in at.first next at.last,
        split_by events_in at.first at.one at.last,
        ap (sum_by events_in) at.are,
        ap (sum_by events_in) change.were,
        split_by events_in change.before change.table change.after,
        split_by events_in change.before change.next change.after,
      ) in
      let here : R next change.next = record {
        types = change.types ∙ at.goes.types;
        cells = at.goes.cells;
        cleared = subst (λ (es : List Event). HasCleared (kept_events at.one.types) oldest at.goes.cells at.one.events es) (sym change.changed) at.goes.cleared;
      } in
      record {
        between = between;
        gone = gone;
        changed = record {
          before = at.first;
          table = at.one;
          next = next;
          after = at.last;
          long = at.long ∙ change.long;
          were = at.are;
          are = refl;
          types = refl;
          events = refl;
          definitions_are = refl;
          rest = refl;
        };
        same = refl;
        cleared = subst (λ (c : Contents). ClearsAsMany oldest 64 gone between (record c { definitions = definitions; pages = pages; directory = old.directory })) (sym change.are) (record {
          parts = record {
            definitions = refl;
            directory = refl;
            tables = together R at.first next at.last change.before change.next change.after at.firsts here at.lasts;
            referents = clears.parts.referents;
          };
          many = many;
          as_many = λ below. clears.as_many below ∙ ap (min 64) (sym same);
        });
      }

-- A table's indexes, each at its place, and the pages of all.
use Rattle.std.proofs.Common.{◌≡◌, ◌<◌, ◌≤◌, ◌+◌, ℕ, List, [], ◌∷◌, ◌++◌, length, refl, ap, subst, ◌∙◌, arith}
use Rattle.std.proofs.lemmas.List.Sums.{sum_by-append, sum_by-cons}
use Rattle.std.specs.List.{AllZip}
use Rattle.rs_attr.specs.Entries.{HoldsIndex}
use Rattle.rs_attr.specs.Tables.{HoldIndexes, HoldsTable, IndexState, all_of}
use Rattle.rs_attr.proofs.Indexes.{kept_index}
use Rattle.rs_page_owners.specs.Counts.{◌&◌}
use Rattle.rs_page_owners.specs.Owners.{KeepsPages}
use Rattle.rs_pages.specs.PageMap.{PageMap}
use Rattle.rs_value.specs.declared.column.ColumnType.{ColumnType}
use Rattle.rs_versioned.specs.Events.{Event, SaysEvent, kept_events}
use Rattle.rs_versioned.specs.Records.{HoldsRecords}
use Rattle.rs_versioned.proofs.EventCells.{event_has_one_cell}
use Rattle.rs_versioned.proofs.Staying.{held_kept, held_later}
use Rattle.rs_cell_versions.specs.Versioned.{Standing}

-- the pages of one owner more
pub all_of-cons : (first : ℕ → ℕ) (rest : List (ℕ → ℕ)) (n : ℕ) → all_of (first ∷ rest) n ≡ first n + all_of rest n
all_of-cons first rest n = sum_by-cons (λ (used : ℕ → ℕ). used n) first rest

pub all_of-append : (some more : List (ℕ → ℕ)) (n : ℕ) → all_of (some ++ more) n ≡ all_of some n + all_of more n
all_of-append some more n = sum_by-append (λ (used : ℕ → ℕ). used n) some more

pub all_of-middle : (some more : List (ℕ → ℕ)) (first : ℕ → ℕ) (n : ℕ) → all_of (some ++ first ∷ more) n ≡ first n + all_of (some ++ more) n
all_of-middle some more first n = omega (arith, all_of-append some (first ∷ more) n, all_of-cons first more n, all_of-append some more n)

-- pages that are some of an owner's are kept as all of them are
pub keeps_part : (part used : ℕ → ℕ) (old new : PageMap) → ((n : ℕ) → 0 < part n → 0 < used n) → KeepsPages used old new → KeepsPages part old new
keeps_part part used old new some keeps = record {
  pages = λ n own. keeps.pages n (some n own);
  no_fewer = keeps.no_fewer;
}

-- indexes whose pages are kept stay
pub kept_indexes : (old new : PageMap) (indexes : List IndexState) (cells : List (List ℕ)) (uses : List (ℕ → ℕ)) → KeepsPages (all_of uses) old new → HoldIndexes old indexes cells uses
    → HoldIndexes new indexes cells uses
kept_indexes old new [] cells [] keeps hold = tt
kept_indexes old new [] cells (u ∷ us) keeps hold = absurd hold
kept_indexes old new (x ∷ xs) cells [] keeps hold = absurd hold
kept_indexes old new (x ∷ xs) cells (u ∷ us) keeps hold = (
  kept_index x.field old new x.working cells u (keeps_part u (all_of (u ∷ us)) old new (λ n own. omega (arith, all_of-cons u us n)) keeps) hold.0,
  kept_indexes old new xs cells us (keeps_part (all_of us) (all_of (u ∷ us)) old new (λ n own. omega (arith, all_of-cons u us n)) keeps) hold.1,
)

-- a pair comes to others at its place, and goes from them
module _ {X Y : Type 0} (R : X → Y → Type 0) (x : X) (y : Y) where
  zip_with : (before after : List X) (some more : List Y) → length before ≡ length some → AllZip R (before ++ after) (some ++ more) → R x y
      → AllZip R (before ++ x ∷ after) (some ++ y ∷ more)
  zip_with [] after [] more same all one = (one, all)
  zip_with [] after (s ∷ ss) more same all one = absurd (omega arith)
  zip_with (b ∷ bs) after [] more same all one = absurd (omega arith)
  zip_with (b ∷ bs) after (s ∷ ss) more same all one = (all.0, zip_with bs after ss more (omega arith) all.1 one)

  zip_without : (before after : List X) (some more : List Y) → length before ≡ length some → AllZip R (before ++ x ∷ after) (some ++ y ∷ more)
      → AllZip R (before ++ after) (some ++ more)
  zip_without [] after [] more same all = all.1
  zip_without [] after (s ∷ ss) more same all = absurd (omega arith)
  zip_without (b ∷ bs) after [] more same all = absurd (omega arith)
  zip_without (b ∷ bs) after (s ∷ ss) more same all = (all.0, zip_without bs after ss more (omega arith) all.1)

  zip_here : (before after : List X) (some more : List Y) → length before ≡ length some → AllZip R (before ++ x ∷ after) (some ++ y ∷ more) → R x y
  zip_here [] after [] more same all = all.0
  zip_here [] after (s ∷ ss) more same all = absurd (omega arith)
  zip_here (b ∷ bs) after [] more same all = absurd (omega arith)
  zip_here (b ∷ bs) after (s ∷ ss) more same all = zip_here bs after ss more (omega arith) all.1

-- events have one list of cells
same_cells : (types : List ColumnType) (cells others : List (List ℕ)) (events : List Event) → AllZip (SaysEvent types) cells events → AllZip (SaysEvent types) others events → cells ≡ others
same_cells types [] [] events says tells = refl
same_cells types [] (o ∷ os) [] says tells = absurd tells
same_cells types [] (o ∷ os) (e ∷ es) says tells = absurd says
same_cells types (c ∷ cs) [] [] says tells = absurd says
same_cells types (c ∷ cs) [] (e ∷ es) says tells = absurd tells
same_cells types (c ∷ cs) (o ∷ os) [] says tells = absurd says
same_cells types (c ∷ cs) (o ∷ os) (e ∷ es) says tells =
    ap (λ (x : List ℕ). x ∷ cs) (event_has_one_cell types c o e says.0 tells.0) ∙ ap (λ (xs : List (List ℕ)). o ∷ xs) (same_cells types cs os es says.1 tells.1)

pub events_cells : (types : List ColumnType) (one other : PageMap) (stands lies : Standing) (from to : ℕ) (events : List Event) (used uses : ℕ → ℕ)
    → (first : HoldsRecords (kept_events types) one stands from events used) → (second : HoldsRecords (kept_events types) other lies to events uses) → first.cells ≡ second.cells
events_cells types one other stands lies from to events used uses first second = same_cells types first.cells second.cells events first.say second.say

module _ (types : List ColumnType) (pages : PageMap) (standing : Standing) (accepted : ℕ) (events : List Event) (used : ℕ → ℕ) where
  pub table_alone : HoldsRecords (kept_events types) pages standing accepted events used → HoldsTable types pages standing [] accepted events used []
  table_alone records = record { records = records; entries = tt }

  module _ (first : ℕ → ℕ) (some more : List (ℕ → ℕ)) (index : IndexState) (before after : List IndexState) (same : length before ≡ length some) where
    pub table_with : (table : HoldsTable types pages standing (before ++ after) accepted events used (some ++ more))
        → HoldsIndex index.field pages index.working table.records.cells first → HoldsTable types pages standing (before ++ index ∷ after) accepted events used (some ++ first ∷ more)
    table_with table one = record {
      records = table.records;
      entries = zip_with (λ (i : IndexState) (u : ℕ → ℕ). HoldsIndex i.field pages i.working table.records.cells u) index first before after some more same table.entries one;
    }

    pub table_without : HoldsTable types pages standing (before ++ index ∷ after) accepted events used (some ++ first ∷ more)
        → HoldsTable types pages standing (before ++ after) accepted events used (some ++ more)
    table_without table = record {
      records = table.records;
      entries = zip_without (λ (i : IndexState) (u : ℕ → ℕ). HoldsIndex i.field pages i.working table.records.cells u) index first before after some more same table.entries;
    }

    pub table_one : (table : HoldsTable types pages standing (before ++ index ∷ after) accepted events used (some ++ first ∷ more))
        → HoldsIndex index.field pages index.working table.records.cells first
    table_one table = zip_here (λ (i : IndexState) (u : ℕ → ℕ). HoldsIndex i.field pages i.working table.records.cells u) index first before after some more same table.entries

pub later_table : (types : List ColumnType) (pages : PageMap) (standing : Standing) (indexes : List IndexState) (from to : ℕ) (events : List Event) (used : ℕ → ℕ) (uses : List (ℕ → ℕ))
    → from ≤ to → HoldsTable types pages standing indexes from events used uses → HoldsTable types pages standing indexes to events used uses
later_table types pages standing indexes from to events used uses later table =
    let records = held_later (kept_events types) pages standing from to events used later table.records in
    record {
      records = records;
      entries = subst (λ (cells : List (List ℕ)). HoldIndexes pages indexes cells uses) (events_cells types pages pages standing standing from to events used used table.records records) table.entries;
    }

pub kept_table : (types : List ColumnType) (old new : PageMap) (standing : Standing) (indexes : List IndexState) (accepted : ℕ) (events : List Event) (used : ℕ → ℕ) (uses : List (ℕ → ℕ))
    → KeepsPages (used & all_of uses) old new → HoldsTable types old standing indexes accepted events used uses → HoldsTable types new standing indexes accepted events used uses
kept_table types old new standing indexes accepted events used uses keeps table =
    let records = held_kept (kept_events types) old new standing accepted events used (keeps_part used (used & all_of uses) old new (λ n own. omega arith) keeps) table.records in
    let entries = kept_indexes old new indexes table.records.cells uses (keeps_part (all_of uses) (used & all_of uses) old new (λ n own. omega arith) keeps) table.entries in
    record {
      records = records;
      entries = subst (λ (cells : List (List ℕ)). HoldIndexes new indexes cells uses) (events_cells types old new standing standing accepted accepted events used used table.records records) entries;
    }

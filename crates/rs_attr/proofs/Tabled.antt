-- A table's cells and the entries of its indexes change together.
use Rattle.std.proofs.Common.{◌≡◌, ℕ, Bool, false, IsTrue, List, [], ◌∷◌, ◌++◌, length, refl, sym, ◌∙◌, subst, inl, inr, arith}
use Rattle.std.proofs.lemmas.Bool.{false≢true}
use Rattle.rs_attr.specs.Entries.{AreCells}
use Rattle.rs_attr.specs.Inner.{BecomeIndexes, ChangeIndexes, HoldNoIndexes}
use Rattle.rs_attr.specs.Tables.{BecomesTable, ChangesTable, HoldIndexes, HoldsNoTable, IndexState, all_of}
use Rattle.rs_attr.proofs.Placing.{keeps_part, kept_indexes}
use Rattle.rs_attr.proofs.Together.{moves_none}
use Rattle.rs_interval.specs.Finding.{event_form}
use Rattle.rs_page_owners.specs.Counts.{◌&◌}
use Rattle.rs_page_owners.specs.Owners.{KeepsPages, Moves, Shares}
use Rattle.rs_page_owners.proofs.Moving.{moves_part, moves_same, moves_trans, pages_kept, same_pages-moves, shares_same}
use Rattle.rs_pages.specs.PageMap.{PageMap, SamePages}
use Rattle.rs_tree.proofs.Framed.{kept_tree_stays}
use Rattle.rs_tree.proofs.Ones.{tree_has_its_cells}
use Rattle.rs_tree.specs.Cells.{without_cell}
use Rattle.rs_value.specs.declared.column.ColumnType.{ColumnType}
use Rattle.rs_versioned.specs.Calls.{TellsOf}
use Rattle.rs_versioned.specs.Events.{Event, SaysEvent, event_width, kept_events}
use Rattle.rs_versioned.specs.Records.{ChangesRecords, HoldsRecords}
use Rattle.rs_versioned.proofs.KeptRecords.{events_are_kept}
use Rattle.rs_versioned.proofs.Lifting.{cell_there, record_there}
use Rattle.rs_cell_versions.specs.Changes.{Ends, with_end, without_cells}
use Rattle.rs_cell_versions.specs.Versioned.{BecomesCells, ChangesCells, HoldsCells, HoldsNone, Standing}
use Rattle.rs_cell_versions.proofs.Among.{among}
use Rattle.rs_cell_versions.proofs.Dated.{all_without}
use Rattle.rs_cell_versions.proofs.Seen.{without-ascends}
use Rattle.rs_cell_versions.proofs.Widths.{held_wide}

-- the cells of a table are of one width and in their order
pub held_cells : (types : List ColumnType) (pages : PageMap) (standing : Standing) (cells : List (List ℕ)) (used : ℕ → ℕ) → HoldsCells (event_form (event_width types)) pages standing cells used
    → AreCells (event_width types) cells
held_cells types pages standing cells used holds = record { wide = held_wide (event_form (event_width types)) pages standing cells used holds; ascend = holds.tree.ascends }

-- an owner's pages have moved
pub record HaveMoved (old new : PageMap) (used : ℕ → ℕ) : Type 0 where
  pub after : ℕ → ℕ
  pub moves : Moves old new used after

-- the pages of a table's cells have moved
pub record CellsMove (types : List ColumnType) (old new : PageMap) (was : Standing) : Type 0 where
  pub each : (cells : List (List ℕ)) (used others : ℕ → ℕ) → HoldsCells (event_form (event_width types)) old was cells used → Shares old (used & others) → HaveMoved old new used

-- changed cells have taken the place of a table's cells
pub record CellsBecome (types : List ColumnType) (old new : PageMap) (was is : Standing) (from : ℕ) (change : List (List ℕ) → List (List ℕ)) : Type 0 where
  pub each : (events : List Event) (used others : ℕ → ℕ) (records : HoldsRecords (kept_events types) old was from events used) → Shares old (used & others)
      → BecomesCells (event_form (event_width types)) old new used is (change records.cells)

module _ (types : List ColumnType) (old new : PageMap) (was : Standing) where
  pub cells_move : (is : Standing) (change : List (List ℕ) → List (List ℕ)) → ChangesCells (event_form (event_width types)) old new was is change → CellsMove types old new was
  cells_move is change changes = record {
    each = λ cells used others holds shares.
        let become = changes.each cells used others holds shares in
        record { after = become.after; moves = become.moves };
  }

  pub cells_become : (is : Standing) (from : ℕ) (change : List (List ℕ) → List (List ℕ)) → ChangesCells (event_form (event_width types)) old new was is change → CellsBecome types old new was is from change
  cells_become is from change changes = record { each = λ events used others records shares. changes.each records.cells used others records.holds shares }

  -- the same pages have the same cells
  pub cells_stay : (is : Standing) (from : ℕ) → SamePages new old → is ≡ was → CellsBecome types old new was is from (λ cells. cells)
  cells_stay is from same stands = record {
    each = λ events used others records shares.
        let moves = same_pages-moves old new used same in
        let keeps : KeepsPages used old new = record {
          pages = λ n own. same.pages n;
          no_fewer = (moves.beside others shares).keeps.no_fewer;
        } in
        let holds : HoldsCells (event_form (event_width types)) new was records.cells used = record {
          tree = kept_tree_stays (event_form (event_width types)) old new was.root records.cells used keeps records.holds.tree;
          living = records.holds.living;
          dead = records.holds.dead;
        } in
        record { after = used; holds = subst (λ (s : Standing). HoldsCells (event_form (event_width types)) new s records.cells used) (sym stands) holds; moves = moves };
  }

-- it is told whether an event is there, for the cell that says it
abbrev pub TellsEvent : List ColumnType → PageMap → Standing → List ℕ → Bool → Type 0
TellsEvent types pages standing cell found = (event : Event) → SaysEvent types cell event → TellsOf (kept_events types) pages standing event found

module _ (types : List ColumnType) (old new : PageMap) (was is : Standing) (version : ℕ) (cell : List ℕ) (ends : Ends (event_form (event_width types)) old new was is version cell) where
  pub ends_move : CellsMove types old new was
  ends_move = record {
    each = λ cells used others holds shares. elim (among cell cells) [
      | inl has ↦ let become = ends.there cells used others holds shares has in record { after = become.after; moves = become.moves }
      | inr none ↦ let become = ends.missing cells used others holds shares none in record { after = become.after; moves = become.moves }
    ];
  }

  module _ (from : ℕ) (event : Event) (found : Bool) (says : SaysEvent types cell event) (tells : TellsEvent types old was cell found) where
    -- a cell that is there ends
    pub ends_become : IsTrue found → CellsBecome types old new was is from (with_end version cell)
    ends_become there = record {
      each = λ events used others records shares. ends.there records.cells used others records.holds shares
          (cell_there (kept_events types) (events_are_kept types) records.cells events cell event says records.say ((tells event says events used others from records shares).0 there));
    }

    -- and where it isn't there, nothing does
    pub ends_stay : found ≡ false → CellsBecome types old new was is from (λ cells. cells)
    ends_stay missing = record {
      each = λ events used others records shares. ends.missing records.cells used others records.holds shares
          (λ has. false≢true (sym missing ∙ (tells event says events used others from records shares).1 (record_there (kept_events types) (events_are_kept types) records.cells events cell event says records.say has)));
    }

-- the same cells, said in another way
pub become_as : (types : List ColumnType) (old new : PageMap) (was is : Standing) (from : ℕ) (change other : List (List ℕ) → List (List ℕ)) → ((cells : List (List ℕ)) → change cells ≡ other cells)
    → CellsBecome types old new was is from change → CellsBecome types old new was is from other
become_as types old new was is from change other same step = record {
  each = λ events used others records shares.
      subst (BecomesCells (event_form (event_width types)) old new used is) (same records.cells) (step.each events used others records shares);
}

-- without a cell the others are as they were
pub without_are : (width : ℕ) (cell : List ℕ) (cells : List (List ℕ)) → AreCells width cells → AreCells width (without_cell cell cells)
without_are width cell cells are =
    record { wide = all_without (λ one. length one ≡ width) cell cells are.wide; ascend = without-ascends cell cells are.ascend }

pub without_all_are : (width : ℕ) (gone cells : List (List ℕ)) → AreCells width cells → AreCells width (without_cells gone cells)
without_all_are width [] cells are = are
without_all_are width (g ∷ gs) cells are = without_all_are width gs (without_cell g cells) (without_are width g cells are)

pub without_last : (gone : List (List ℕ)) (cell : List ℕ) (cells : List (List ℕ)) → without_cell cell (without_cells gone cells) ≡ without_cells (gone ++ cell ∷ []) cells
without_last [] cell cells = refl
without_last (g ∷ gs) cell cells = without_last gs cell (without_cell g cells)

pub change_as : (old new : PageMap) (were are : List IndexState) (width : ℕ) (change other : List (List ℕ) → List (List ℕ)) → ((cells : List (List ℕ)) → change cells ≡ other cells)
    → ChangeIndexes old new were are width change → ChangeIndexes old new were are width other
change_as old new were are width change other same changes = record {
  each = λ cells uses others wide hold shares. subst (BecomeIndexes old new (all_of uses) are) (same cells) (changes.each cells uses others wide hold shares);
}

-- changed entries of the same cells
module _ (width : ℕ) where
  pub no_index_changes : (pages : PageMap) (change : List (List ℕ) → List (List ℕ)) → ChangeIndexes pages pages [] [] width change
  no_index_changes pages change = record { each = λ cells uses others are hold shares. at cells uses hold } where
    at : (cells : List (List ℕ)) (uses : List (ℕ → ℕ)) → HoldIndexes pages [] cells uses → BecomeIndexes pages pages (all_of uses) [] (change cells)
    at cells [] hold = record { afters = []; hold = tt; moves = moves_none pages (all_of []) }
    at cells (u ∷ us) hold = absurd hold

  pub indexes_stay : (pages : PageMap) (indexes : List IndexState) → ChangeIndexes pages pages indexes indexes width (λ cells. cells)
  indexes_stay pages indexes = record { each = λ cells uses others are hold shares. record { afters = uses; hold = hold; moves = moves_none pages (all_of uses) } }

  module _ (old mid : PageMap) (were between : List IndexState) (change : List (List ℕ) → List (List ℕ)) (keeps : (cells : List (List ℕ)) → AreCells width cells → AreCells width (change cells))
      (first : ChangeIndexes old mid were between width change) where
    -- one change after the other
    pub changes_then : (new : PageMap) (are : List IndexState) (later : List (List ℕ) → List (List ℕ)) → ChangeIndexes mid new between are width later
        → ChangeIndexes old new were are width (λ cells. later (change cells))
    changes_then new are later second = record {
      each = λ cells uses others wide hold shares.
          let one = first.each cells uses others wide hold shares in
          let two = second.each (change cells) one.afters others (keeps cells wide) one.hold (one.moves.beside others shares).shares in
          record { afters = two.afters; hold = two.hold; moves = moves_trans old mid new (all_of uses) (all_of one.afters) (all_of two.afters) one.moves two.moves };
    }

    pub none_before : HoldNoIndexes mid between width → HoldNoIndexes old were width
    none_before missing = record {
      none = λ cells uses others wide hold shares.
          let one = first.each cells uses others wide hold shares in
          missing.none (change cells) one.afters others (keeps cells wide) one.hold (one.moves.beside others shares).shares;
    }

module _ (types : List ColumnType) (old : PageMap) (was : Standing) (were : List IndexState) where
  -- where there are no events, there is no table
  pub no_table : HoldsNone (event_form (event_width types)) old was → HoldsNoTable types old was were
  no_table missing = record {
    none = λ accepted events used uses others table shares.
        missing.none table.records.cells used (all_of uses & others) table.records.holds (shares_same old ((used & all_of uses) & others) (used & (all_of uses & others)) (λ n. omega arith) shares);
  }

  -- where no indexes are left once its cells have changed, there was none
  pub no_table_before : (mid : PageMap) → CellsMove types old mid was → HoldNoIndexes mid were (event_width types) → HoldsNoTable types old was were
  no_table_before mid moved missing = record {
    none = λ accepted events used uses others table shares.
        let cells = table.records.cells in
        let apart : Shares old (used & (all_of uses & others)) = shares_same old ((used & all_of uses) & others) (used & (all_of uses & others)) (λ n. omega arith) shares in
        let have = moved.each cells used (all_of uses & others) table.records.holds apart in
        let beside = have.moves.beside (all_of uses & others) apart in
        missing.none cells uses (have.after & others) (held_cells types old was cells used table.records.holds)
        (kept_indexes old mid were cells uses (keeps_part (all_of uses) (all_of uses & others) old mid (λ n own. omega arith) (pages_kept (all_of uses & others) old mid beside.keeps)) table.entries)
        (shares_same mid (have.after & (all_of uses & others)) (all_of uses & (have.after & others)) (λ n. omega arith) beside.shares);
  }

  module _ (mid new : PageMap) (is : Standing) (are : List IndexState) (from to : ℕ) (change : List Event → List Event → Type 0) (of : List (List ℕ) → List (List ℕ)) where
    -- the events change, and the indexes as their cells do
    pub together : ChangesRecords (kept_events types) old mid was is from to change → CellsBecome types old mid was is from of → ChangeIndexes mid new were are (event_width types) of
        → ChangesTable types old new was is were are from to change
    together changes step follow = record {
      each = λ events used uses others table shares.
          let cells = table.records.cells in
          let rest : ℕ → ℕ = all_of uses & others in
          let apart : Shares old (used & rest) = shares_same old ((used & all_of uses) & others) (used & rest) (λ n. omega arith) shares in
          let records = changes.each events used rest table.records apart in
          let become = step.each events used rest table.records apart in
          let same : records.holds.cells ≡ of cells =
          tree_has_its_cells (event_form (event_width types)) mid is.root records.holds.cells (of cells) records.after become.after records.holds.holds.tree become.holds.tree in
          let beside = records.moves.beside rest apart in
          let turned : Shares mid (all_of uses & (records.after & others)) =
          shares_same mid (records.after & rest) (all_of uses & (records.after & others)) (λ n. omega arith) beside.shares in
          let indexes = follow.each cells uses (records.after & others) (held_cells types old was cells used table.records.holds)
          (kept_indexes old mid were cells uses (keeps_part (all_of uses) rest old mid (λ n own. omega arith) (pages_kept rest old mid beside.keeps)) table.entries) turned in
          let keeps = keeps_part records.after (records.after & others) mid new (λ n own. omega arith)
          (pages_kept (records.after & others) mid new (indexes.moves.beside (records.after & others) turned).keeps) in
          record {
            events = records.records;
            after = records.after;
            afters = indexes.afters;
            holds = record {
              records = record {
                cells = records.holds.cells;
                holds = record {
                  tree = kept_tree_stays (event_form (event_width types)) mid new is.root records.holds.cells records.after keeps records.holds.holds.tree;
                  living = records.holds.holds.living;
                  dead = records.holds.holds.dead;
                };
                say = records.holds.say;
                dated = records.holds.dated;
              };
              entries = subst (λ (cs : List (List ℕ)). HoldIndexes new are cs indexes.afters) (sym same) indexes.hold;
            };
            moves = moves_trans old mid new (used & all_of uses) (records.after & all_of uses) (records.after & all_of indexes.afters)
                (moves_part old mid used records.after (all_of uses) records.moves)
                (moves_same mid new (all_of uses & records.after) (all_of indexes.afters & records.after) (records.after & all_of uses) (records.after & all_of indexes.afters) (λ n. omega arith) (λ n. omega arith)
                (moves_part mid new (all_of uses) (all_of indexes.afters) records.after indexes.moves));
            changed = records.changed;
          };
    }

-- a table without indexes changes as its events do
pub alone : (types : List ColumnType) (old new : PageMap) (was is : Standing) (from to : ℕ) (change : List Event → List Event → Type 0) → ChangesRecords (kept_events types) old new was is from to change
    → ChangesTable types old new was is [] [] from to change
alone types old new was is from to change changes = record { each = λ events used uses others table shares. at events used uses others table.records table.entries shares } where
  at : (events : List Event) (used : ℕ → ℕ) (uses : List (ℕ → ℕ)) (others : ℕ → ℕ) (records : HoldsRecords (kept_events types) old was from events used) → HoldIndexes old [] records.cells uses
      → Shares old (used & all_of uses & others) → BecomesTable types old new (used & all_of uses) is [] to (change events)
  at events used [] others records hold shares =
      let become = changes.each events used (all_of [] & others) records (shares_same old ((used & all_of []) & others) (used & (all_of [] & others)) (λ n. omega arith) shares) in
      record {
        events = become.records;
        after = become.after;
        afters = [];
        holds = record { records = become.holds; entries = tt };
        moves = moves_part old new used become.after (all_of []) become.moves;
        changed = become.changed;
      }
  at events used (u ∷ us) others records hold shares = absurd hold

pub alone_among : (types : List ColumnType) (old new : PageMap) (was is : Standing) (indexes : List IndexState) (from to : ℕ) (change : List Event → List Event → Type 0) → length indexes ≡ 0
    → ChangesRecords (kept_events types) old new was is from to change → ChangesTable types old new was is indexes indexes from to change
alone_among types old new was is [] from to change none changes = alone types old new was is from to change changes
alone_among types old new was is (x ∷ xs) from to change none changes = absurd (omega arith)

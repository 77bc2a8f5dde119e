-- An index comes to a table in its pages, or goes from it.
use Rattle.std.proofs.Common.{◌≡◌, ◌≤◌, ℕ, List, [], ◌∷◌, ◌++◌, length, refl, sym, ap, ◌∙◌, subst, arith}
use Rattle.std.proofs.lemmas.List.Sorted.{length_permutation}
use Rattle.std.specs.List.{insert}
use Rattle.rs_attr.specs.Entries.{AreCells, BecomesIndex, ChangesIndex, Field, HoldsIndex, HoldsNoIndex, index_form}
use Rattle.rs_attr.specs.Tables.{ChangesTable, HoldsNoTable, HoldsTable, IndexState, all_of}
use Rattle.rs_attr.proofs.Placing.{all_of-middle, events_cells, keeps_part, kept_table, table_with, table_without}
use Rattle.rs_attr.proofs.Tabled.{held_cells}
use Rattle.rs_cell_versions.specs.Versioned.{Standing}
use Rattle.rs_cell_versions.proofs.Sizes.{no_cells_no_pages}
use Rattle.rs_page_owners.specs.Counts.{◌&◌, no_pages}
use Rattle.rs_page_owners.specs.Owners.{Shares}
use Rattle.rs_changes.specs.Tables.{StaySame}
use Rattle.rs_page_owners.proofs.Moving.{moves_part, moves_same, pages_kept, shares_same}
use Rattle.rs_pages.specs.PageMap.{PageMap}
use Rattle.rs_changes.proofs.Among.{apart, insert_between, parted}
use Rattle.rs_file_parts.proofs.Lists.{beside}
use Rattle.rs_tree.specs.Tree.{IsTree}
use Rattle.rs_value.specs.declared.column.ColumnType.{ColumnType}
use Rattle.rs_versioned.specs.Events.{Event, event_width, kept_events}
use Rattle.rs_versioned.specs.Records.{HoldsRecords}

none_listed : {X : Type 0} (xs : List X) → length xs ≡ 0 → xs ≡ []
none_listed [] none = refl
none_listed (x ∷ xs) none = absurd (omega arith)

-- the index of no cells has no pages
pub no_entries : (field : Field) (pages : PageMap) (root : ℕ) (used : ℕ → ℕ) → HoldsIndex field pages root [] used → (n : ℕ) → used n ≡ 0
no_entries field pages root used holds =
    let empty : holds.entries ≡ [] = none_listed holds.entries (sym (length_permutation holds.entries [] holds.are)) in
    no_cells_no_pages (index_form field) pages root used (subst (λ (es : List (List ℕ)). IsTree (index_form field) pages root es used) empty holds.tree)

module _ (types : List ColumnType) (old new : PageMap) (standing : Standing) (were : List IndexState) (position : ℕ) where
  abbrev Is : List (List ℕ) → IndexState → (ℕ → ℕ) → Type 0
  Is cells i u = HoldsIndex i.field old i.working cells u

  -- one more
  pub index_comes : (index : IndexState) → position ≤ length were
      → ((accepted : ℕ) (events : List Event) (used others : ℕ → ℕ) → (records : HoldsRecords (kept_events types) old standing accepted events used) → Shares old (used & others)
      → BecomesIndex index.field old new index.working no_pages records.cells)
      → (accepted : ℕ) → ChangesTable types old new standing standing were (insert were position index) accepted accepted StaySame
  index_comes index inside defines accepted = record {
    each = λ events used uses others table shares.
        let p = parted were position inside in
        let placed = subst (λ (is : List IndexState). HoldsTable types old standing is accepted events used uses) p.are table in
        let at = apart (Is placed.records.cells) p.before p.after uses placed.entries in
        let first = at.first in
        let last = at.last in
        let parts : HoldsTable types old standing (p.before ++ p.after) accepted events used (first ++ last) =
        subst (λ (us : List (ℕ → ℕ)). HoldsTable types old standing (p.before ++ p.after) accepted events used us) at.are placed in
        let mine : ℕ → ℕ = used & all_of (first ++ last) in
        let whole : Shares old (mine & others) = subst (λ (us : List (ℕ → ℕ)). Shares old (used & all_of us & others)) at.are shares in
        let made = defines accepted events used (all_of (first ++ last) & others) parts.records (shares_same old (mine & others) (used & (all_of (first ++ last) & others)) (λ n. omega arith) whole) in
        let moved = made.moves.beside (mine & others) (shares_same old (mine & others) (no_pages & (mine & others)) (λ n. omega arith) whole) in
        let keeps = pages_kept (mine & others) old new moved.keeps in
        let kept = kept_table types old new standing (p.before ++ p.after) accepted events used (first ++ last) (keeps_part mine (mine & others) old new (λ n own. omega arith) keeps) parts in
        let same = events_cells types old new standing standing accepted accepted events used used parts.records kept.records in
        let one = subst (λ (cells : List (List ℕ)). HoldsIndex index.field new index.working cells made.after) same made.holds in
        let now : insert were position index ≡ p.before ++ index ∷ p.after =
        ap (λ (is : List IndexState). insert is position index) p.are ∙ insert_between p.before p.after position index p.long in
        record {
          events = events;
          after = used;
          afters = first ++ made.after ∷ last;
          holds = subst (λ (is : List IndexState). HoldsTable types new standing is accepted events used (first ++ made.after ∷ last)) (sym now)
              (table_with types new standing accepted events used made.after first last index p.before p.after (sym at.long) kept one);
          moves = moves_same old new (no_pages & mine) (made.after & mine) (used & all_of uses) (used & all_of (first ++ made.after ∷ last))
              (λ n. omega (arith, ap (λ (us : List (ℕ → ℕ)). all_of us n) at.are))
              (λ n. omega (arith, all_of-middle first last made.after n))
              (moves_part old new no_pages made.after mine made.moves);
          changed = refl;
        };
  }

  module _ (index now : IndexState) (before after : List IndexState) (are : were ≡ before ++ index ∷ after) (long : length before ≡ position)
      (wide : index.field.cell_width ≡ event_width types) where
    -- no such index, no such table
    pub no_index : HoldsNoIndex index.field old index.working → HoldsNoTable types old standing were
    no_index none = record {
      none = λ accepted events used uses others table shares.
          let placed = subst (λ (is : List IndexState). HoldsTable types old standing is accepted events used uses) are table in
          let at = beside (Is placed.records.cells) before index after uses placed.entries in
          let whole : Shares old (used & all_of (at.first ++ at.one ∷ at.last) & others) = subst (λ (us : List (ℕ → ℕ)). Shares old (used & all_of us & others)) at.are shares in
          none.none placed.records.cells at.one (used & all_of (at.first ++ at.last) & others) at.goes
          (shares_same old (used & all_of (at.first ++ at.one ∷ at.last) & others) (at.one & (used & all_of (at.first ++ at.last) & others))
          (λ n. omega (arith, all_of-middle at.first at.last at.one n)) whole);
    }

    -- one less
    pub index_goes : ChangesIndex index.field old new index.working now.working (λ _. []) → (left : List IndexState) → left ≡ before ++ after
        → (accepted : ℕ) → ChangesTable types old new standing standing were left accepted accepted StaySame
    index_goes clears left rest accepted = record {
      each = λ events used uses others table shares.
          let placed = subst (λ (is : List IndexState). HoldsTable types old standing is accepted events used uses) are table in
          let at = beside (Is placed.records.cells) before index after uses placed.entries in
          let first = at.first in
          let last = at.last in
          let parts : HoldsTable types old standing (before ++ index ∷ after) accepted events used (first ++ at.one ∷ last) =
          subst (λ (us : List (ℕ → ℕ)). HoldsTable types old standing (before ++ index ∷ after) accepted events used us) at.are placed in
          let mine : ℕ → ℕ = used & all_of (first ++ last) in
          let whole : Shares old (used & all_of (first ++ at.one ∷ last) & others) = subst (λ (us : List (ℕ → ℕ)). Shares old (used & all_of us & others)) at.are shares in
          let shared : Shares old (at.one & (mine & others)) =
          shares_same old (used & all_of (first ++ at.one ∷ last) & others) (at.one & (mine & others)) (λ n. omega (arith, all_of-middle first last at.one n)) whole in
          let cells = subst (λ w. AreCells w placed.records.cells) (sym wide) (held_cells types old standing placed.records.cells used placed.records.holds) in
          let made = clears.each placed.records.cells at.one (mine & others) cells at.goes shared in
          let moved = made.moves.beside (mine & others) shared in
          let keeps = pages_kept (mine & others) old new moved.keeps in
          let rests = table_without types old standing accepted events used at.one first last index before after (sym at.long) parts in
          let kept = kept_table types old new standing (before ++ after) accepted events used (first ++ last) (keeps_part mine (mine & others) old new (λ n own. omega arith) keeps) rests in
          let empty = no_entries index.field new now.working made.after made.holds in
          record {
            events = events;
            after = used;
            afters = first ++ last;
            holds = subst (λ (is : List IndexState). HoldsTable types new standing is accepted events used (first ++ last)) (sym rest) kept;
            moves = moves_same old new (at.one & mine) (made.after & mine) (used & all_of uses) mine
                (λ n. omega (arith, ap (λ (us : List (ℕ → ℕ)). all_of us n) at.are, all_of-middle first last at.one n))
                (λ n. omega (arith, empty n))
                (moves_part old new at.one made.after mine made.moves);
            changed = refl;
          };
    }

-- An index to which the cells of a table come part by part.
use Rattle.std.proofs.Common.{◌≡◌, ◌<◌, ◌≤◌, ◌+◌, ℕ, zero, suc, false, Some, List, [], ◌∷◌, ◌++◌, length, take, drop, filter, slice_get, replicate, refl, sym, ap, ◌∙◌, subst, arith}
use Rattle.std.proofs.lemmas.List.{append-nil, append_assoc, take_all}
use Rattle.std.proofs.lemmas.List.Sorted.{IsPermutation-refl}
use Rattle.std.specs.Cmp.Lexicographic.{slice_cmp}
use Rattle.std.specs.Int.{w32, to_be_bytes}
use Rattle.std.specs.List.{AllByRecursion, AllZip, count_by}
use Rattle.std.specs.Ordering.{is_lt, nat_cmp, ordering_then}
use Rattle.std.specs.Cmp.{nat_cmp_is}
use Rattle.std.specs.declared.cmp.Ordering.TheVariants.{Greater}
use Rattle.rs_attr.specs.Inner.{Appends, AppendsNone, Enters, EntersNone}
use Rattle.rs_attr.specs.Entries.{AreCells, BecomesIndex, ChangesIndex, Field, HoldsIndex, HoldsNoIndex, IsColumn, index_form}
use Rattle.rs_attr.proofs.Above.{cell_below, number_more}
use Rattle.rs_interval.specs.Finding.{event_form}
use Rattle.rs_page_owners.specs.Counts.{◌&◌, no_pages}
use Rattle.rs_page_owners.specs.Owners.{Keeps, KeepsPages, Shares}
use Rattle.rs_page_owners.proofs.Moving.{moves_trans, same_pages-moves, shares_same}
use Rattle.rs_pages.proofs.Stores.{SamePages-refl}
use Rattle.rs_pages.specs.PageMap.{PageMap, SamePages}
use Rattle.rs_records.specs.Order.{Ascends, is_below}
use Rattle.rs_tree.specs.Cells.{cells_above, cells_below, cells_within, with_cell}
use Rattle.rs_tree.specs.Form.{Form}
use Rattle.rs_tree.specs.Tree.{IsNoTree, IsTree}
use Rattle.rs_tree.proofs.Below.{AllBelow, ascends_across, ascends_first, below_one_way}
use Rattle.rs_tree.proofs.Framed.{kept_tree_stays}
use Rattle.rs_tree.proofs.Lists.{take_next}
use Rattle.rs_cell_versions.proofs.Between.{above_none, below_all}
use Rattle.rs_cell_versions.proofs.Pieces.{list_at}
use Rattle.rs_cell_versions.proofs.Ascending.{ascends_filter}
use Rattle.rs_value.specs.declared.column.ColumnType.{ColumnType}
use Rattle.rs_versioned.specs.Events.{Event, SaysEvent, event_width, kept_events}
use Rattle.rs_versioned.specs.Records.{HoldsRecords}
use Rattle.rs_cell_versions.proofs.Dated.{all_kept}
use Rattle.rs_cell_versions.proofs.Looks.{below_parted}
use Rattle.rs_cell_versions.proofs.Staying.{tree_same}
use Rattle.rs_cell_versions.proofs.Widths.{held_wide}
use Rattle.rs_cell_versions.specs.Version.{is_dead, is_living}
use Rattle.rs_cell_versions.specs.Versioned.{HoldsNone, Standing}

-- the cells of a tree have its form's width
pub tree_wide : (form : Form) (pages : PageMap) (root : ℕ) (cells : List (List ℕ)) (used : ℕ → ℕ) → IsTree form pages root cells used → AllByRecursion (λ cell. length cell ≡ form.width) cells
tree_wide form pages root cells used tree =
    held_wide form pages (record { root = root; living = count_by is_living cells; dead = filter is_dead cells }) cells used
    (record { tree = tree; living = refl; dead = IsPermutation-refl (filter is_dead cells) })

-- the last of cells that ascend comes after the others
put_last : (before : List (List ℕ)) (cell : List ℕ) (after : List (List ℕ)) → Ascends (before ++ cell ∷ after) → with_cell cell before ≡ before ++ cell ∷ []
put_last before cell after up =
    let all : AllBelow cell before = ascends_across before cell after up in
    ap (λ (cs : List (List ℕ)). cs ++ cell ∷ cells_above cell before) (below_all cell before all) ∙ ap (λ (cs : List (List ℕ)). before ++ cell ∷ cs) (above_none cell before all)

wide_first : (width : ℕ) (xs ys : List (List ℕ)) → AllByRecursion (λ cell. length cell ≡ width) (xs ++ ys) → AllByRecursion (λ cell. length cell ≡ width) xs
wide_first width [] ys all = tt
wide_first width (x ∷ xs) ys all = (all.0, wide_first width xs ys all.1)

-- some of these cells, from the first on
pub cells_first : (width : ℕ) (xs ys : List (List ℕ)) → AreCells width (xs ++ ys) → AreCells width xs
cells_first width xs ys are = record { wide = wide_first width xs ys are.wide; ascend = ascends_first xs ys are.ascend }

-- where the index has the entries of some cells, and these come after them, it has the entries of the first of these too then
pub record AppendsFirst (field : Field) (old new : PageMap) (root to : ℕ) (found : List (List ℕ)) (place : ℕ) : Type 0 where
  pub each : (before : List (List ℕ)) (uses others : ℕ → ℕ) → AreCells field.cell_width (before ++ found)
      → HoldsIndex field old root before uses → Shares old (uses & others) → BecomesIndex field old new to uses (before ++ take place found)

module _ (field : Field) (old : PageMap) (root : ℕ) (found : List (List ℕ)) where
  -- no cell yet
  pub appends_none : AppendsFirst field old old root root found 0
  appends_none = record {
    each = λ before uses others are holds shares. record {
      after = uses;
      holds = subst (λ (cs : List (List ℕ)). HoldsIndex field old root cs uses) (sym (append-nil before)) holds;
      moves = same_pages-moves old old uses (SamePages-refl old);
    };
  }

  module _ (mid : PageMap) (below place : ℕ) (cell : List ℕ) (there : slice_get found place ≡ Some cell) (so : AppendsFirst field old mid root below found place) where
    parted : (before : List (List ℕ)) → (before ++ take place found) ++ cell ∷ drop (suc place) found ≡ before ++ found
    parted before =
        append_assoc before (take place found) (cell ∷ drop (suc place) found) ∙ ap (λ (cs : List (List ℕ)). before ++ cs) (sym (list_at found place cell there))

    -- one cell more
    pub appends_next : (new : PageMap) (to : ℕ) → ChangesIndex field mid new below to (with_cell cell) → AppendsFirst field old new root to found (place + 1)
    appends_next new to changes = record {
      each = λ before uses others are holds shares.
          let became = so.each before uses others are holds shares in
          let beside = became.moves.beside others shares in
          let whole = subst (AreCells field.cell_width) (sym (parted before)) are in
          let more = changes.each (before ++ take place found) became.after others (cells_first field.cell_width (before ++ take place found) (cell ∷ drop (suc place) found) whole) became.holds beside.shares in
          let next : suc place ≡ place + 1 = omega arith in
          let last : with_cell cell (before ++ take place found) ≡ before ++ take (place + 1) found =
          put_last (before ++ take place found) cell (drop (suc place) found) whole.ascend ∙ append_assoc before (take place found) (cell ∷ [])
          ∙ ap (λ (cs : List (List ℕ)). before ++ cs) (sym (take_next found place cell there) ∙ ap (λ n. take n found) next) in
          record {
            after = more.after;
            holds = subst (λ (cs : List (List ℕ)). HoldsIndex field new to cs more.after) last more.holds;
            moves = moves_trans old mid new uses became.after more.after became.moves more.moves;
          };
    }

    -- where the next one can't come, none can
    pub appends_missing : HoldsNoIndex field mid below → AppendsNone field old root found
    appends_missing none = record {
      none = λ before uses others are holds shares.
          let became = so.each before uses others are holds shares in
          none.none (before ++ take place found) became.after others became.holds (became.moves.beside others shares).shares;
    }

  -- all have come
  pub appends_all : (new : PageMap) (to place : ℕ) → length found ≤ place → AppendsFirst field old new root to found place → Appends field old new root to found
  appends_all new to place last so = record {
    each = λ before uses others are holds shares.
        subst (λ (cs : List (List ℕ)). BecomesIndex field old new to uses (before ++ cs)) (take_all place found last) (so.each before uses others are holds shares);
  }

-- where the pages are the same, what a search found is entered
module _ (field : Field) (old mid : PageMap) (table root : ℕ) (low high : List ℕ) (found : List (List ℕ)) (same : SamePages mid old) (order : is_below high low ≡ false)
    (finds : (cells : List (List ℕ)) (used : ℕ → ℕ) → IsTree (event_form field.cell_width) old table cells used → found ≡ cells_within low high cells) where
  module _ (cells : List (List ℕ)) (used uses others : ℕ → ℕ) (tree : IsTree (event_form field.cell_width) old table cells used) where
    both : cells_below low cells ++ found ≡ cells_below high cells
    both = ap (λ (cs : List (List ℕ)). cells_below low cells ++ cs) (finds cells used tree) ∙ sym (below_parted low high cells tree.ascends order)

    both_are : AreCells field.cell_width (cells_below low cells ++ found)
    both_are = subst (AreCells field.cell_width) (sym both) (record {
      wide = all_kept (λ cell. length cell ≡ field.cell_width) (λ cell. is_below cell high) cells (tree_wide (event_form field.cell_width) old table cells used tree);
      ascend = ascends_filter (λ cell. is_below cell high) cells tree.ascends;
    })

    holds_mid : HoldsIndex field old root (cells_below low cells) uses → HoldsIndex field mid root (cells_below low cells) uses
    holds_mid holds = record { entries = holds.entries; tree = tree_same (index_form field) old mid same root holds.entries uses holds.tree; are = holds.are }

    shares_mid : Shares old (uses & (used & others)) → Shares mid (uses & (used & others))
    shares_mid shares = ((same_pages-moves old mid uses same).beside (used & others) shares).shares

  -- the cells between the bounds have come
  pub enters_all : (new : PageMap) (to : ℕ) → Appends field mid new root to found → Enters field old new table root to low high
  enters_all new to so = record {
    each = λ cells used uses others tree holds shares.
        let more = so.each (cells_below low cells) uses (used & others) (both_are cells used uses others tree) (holds_mid cells used uses others tree holds) (shares_mid cells used uses others tree shares) in
        record {
          after = more.after;
          holds = subst (λ (cs : List (List ℕ)). HoldsIndex field new to cs more.after) (both cells used uses others tree) more.holds;
          moves = moves_trans old mid new uses uses more.after (same_pages-moves old mid uses same) more.moves;
        };
  }

  pub enters_missing : AppendsNone field mid root found → EntersNone field old table root low
  enters_missing none = record {
    none = λ cells used uses others tree holds shares.
        none.none (cells_below low cells) uses (used & others) (both_are cells used uses others tree) (holds_mid cells used uses others tree holds) (shares_mid cells used uses others tree shares);
  }

-- where no table's tree stands, nothing is entered
pub enters_no_tree : (field : Field) (pages : PageMap) (table root : ℕ) (low : List ℕ) (width : ℕ) → width ≡ field.cell_width → IsNoTree (event_form width) pages table → EntersNone field pages table root low
enters_no_tree field pages table root low width same none = record {
  none = λ cells used uses others tree holds shares. none.none cells used (subst (λ (w : ℕ). IsTree (event_form w) pages table cells used) (sym same) tree);
}

-- nothing is below as many zeros, or fewer bytes
none_below_zeros : (n : ℕ) (cell : List ℕ) → n ≤ length cell → is_below cell (replicate n 0) ≡ false
unfolding is_below
none_below_zeros zero [] long = refl
none_below_zeros zero (x ∷ xs) long = refl
none_below_zeros (suc n) [] long = absurd (omega (arith, long))
none_below_zeros (suc n) (zero ∷ xs) long = none_below_zeros n xs (omega (arith, long))
none_below_zeros (suc n) (suc x ∷ xs) long = ap (λ o. is_lt (ordering_then o (slice_cmp nat_cmp xs (replicate n 0)))) (sym (nat_cmp_is (suc x) 0 Greater (omega arith)))

none_first : (width : ℕ) (cells : List (List ℕ)) → 4 ≤ width → AllByRecursion (λ cell. length cell ≡ width) cells → cells_below (to_be_bytes w32 0) cells ≡ []
none_first width [] wide all = refl
none_first width (c ∷ cs) wide all =
    let isnt : is_below c (to_be_bytes w32 0) ≡ false = none_below_zeros 4 c (omega (arith, wide, all.0)) in
    rw isnt (none_first width cs wide all.1)

keeps_first : (used others : ℕ → ℕ) (old new : PageMap) → Keeps (used & others) old new → KeepsPages used old new
keeps_first used others old new keeps = record {
  pages = λ n own. keeps.pages n (omega (arith, own));
  no_fewer = keeps.no_fewer;
}

-- where a table's tree stands, an index with the entries of its cells below the bound has come
pub record Defines (field : Field) (old new : PageMap) (table to : ℕ) (high : List ℕ) : Type 0 where
  pub each : (cells : List (List ℕ)) (used others : ℕ → ℕ) → IsTree (event_form field.cell_width) old table cells used → Shares old (used & others)
      → BecomesIndex field old new to no_pages (cells_below high cells)

module _ (field : Field) (old : PageMap) (table : ℕ) where
  -- the index of no entries
  pub defines_none : 4 ≤ field.cell_width → Defines field old old table 0 (to_be_bytes w32 0)
  defines_none wide = record {
    each = λ cells used others tree shares. record {
      after = no_pages;
      holds = subst (λ (cs : List (List ℕ)). HoldsIndex field old 0 cs no_pages)
          (sym (none_first field.cell_width cells wide (tree_wide (event_form field.cell_width) old table cells used tree)))
          (record { entries = []; tree = record { height = 0; stands = record { none = refl; no_cells = refl; no_pages = λ n. refl }; ascends = tt; once = λ n. omega arith }; are = IsPermutation-refl [] });
      moves = same_pages-moves old old no_pages (SamePages-refl old);
    };
  }

  module _ (mid : PageMap) (below : ℕ) (low : List ℕ) (so : Defines field old mid table below low) where
    -- what one part finds beside the others
    record Beside (cells : List (List ℕ)) (used others after : ℕ → ℕ) : Type 0 where
      tree : IsTree (event_form field.cell_width) mid table cells used
      shares : Shares mid (after & (used & others))

    beside : (cells : List (List ℕ)) (used others : ℕ → ℕ) (tree : IsTree (event_form field.cell_width) old table cells used) (shares : Shares old (used & others))
        → Beside cells used others (so.each cells used others tree shares).after
    beside cells used others tree shares =
        let moved = (so.each cells used others tree shares).moves.beside (used & others) (shares_same old (used & others) (no_pages & (used & others)) (λ n. omega arith) shares) in
        record {
          tree = kept_tree_stays (event_form field.cell_width) old mid table cells used (keeps_first used others old mid moved.keeps) tree;
          shares = moved.shares;
        }

    -- one part more
    pub defines_next : (new : PageMap) (to : ℕ) (high : List ℕ) → Enters field mid new table below to low high → Defines field old new table to high
    defines_next new to high enters = record {
      each = λ cells used others tree shares.
          let become = so.each cells used others tree shares in
          let others_stay = beside cells used others tree shares in
          let more = enters.each cells used become.after others others_stay.tree become.holds others_stay.shares in
          record { after = more.after; holds = more.holds; moves = moves_trans old mid new no_pages become.after more.after become.moves more.moves };
    }

    pub defines_missing : (standing : Standing) → table ≡ standing.root → EntersNone field mid table below low → HoldsNone (event_form field.cell_width) old standing
    defines_missing standing at none = record {
      none = λ cells used others holds shares.
          let tree = subst (λ (root : ℕ). IsTree (event_form field.cell_width) old root cells used) (sym at) holds.tree in
          let others_stay = beside cells used others tree shares in
          none.none cells used (so.each cells used others tree shares).after others others_stay.tree (so.each cells used others tree shares).holds others_stay.shares;
    }

-- the bytes of a number of a route
pub record SaysRoute (bytes : List ℕ) : Type 0 where
  pub number : ℕ
  pub is : bytes ≡ to_be_bytes w32 number

-- they are below nine bytes of 255
pub route_below : (bytes : List ℕ) → SaysRoute bytes → is_below (replicate 9 255) bytes ≡ false
unfolding is_below
route_below bytes says =
    subst (λ (l : List ℕ). is_below (replicate 9 255) l ≡ false) (sym says.is)
    (below_one_way (to_be_bytes w32 says.number) (replicate 9 255) (number_more says.number [] (255 ∷ 255 ∷ 255 ∷ 255 ∷ 255 ∷ []) refl))

-- and all cells that say events are
all_said_below : (types : List ColumnType) (column : ℕ) (cells : List (List ℕ)) (events : List Event) → column < length types → AllZip (SaysEvent types) cells events → AllBelow (replicate 9 255) cells
all_said_below types column [] events within says = tt
all_said_below types column (c ∷ cs) [] within says = absurd says
all_said_below types column (c ∷ cs) (e ∷ es) within says = (cell_below types column c e within says.0, all_said_below types column cs es within says.1)

-- an index with all cells of events
pub defines_all : (types : List ColumnType) (column : ℕ) (field : Field) (old new : PageMap) (standing : Standing) (table to : ℕ) → column < length types → IsColumn types column field → table ≡ standing.root
    → Defines field old new table to (replicate 9 255) → (accepted : ℕ) (events : List Event) (used others : ℕ → ℕ) → (records : HoldsRecords (kept_events types) old standing accepted events used)
    → Shares old (used & others) → BecomesIndex field old new to no_pages records.cells
defines_all types column field old new standing table to within is at defines accepted events used others records shares =
    let tree = subst (λ (root : ℕ). IsTree (event_form (event_width types)) old root records.cells used) (sym at) records.holds.tree in
    let wide = subst (λ (w : ℕ). IsTree (event_form w) old table records.cells used) (sym is.cell_width) tree in
    subst (λ (cs : List (List ℕ)). BecomesIndex field old new to no_pages cs) (below_all (replicate 9 255) records.cells (all_said_below types column records.cells events within records.say))
    (defines.each records.cells used others wide shares)

-- what is no table of the one width is none of the other
pub none_wide : (one other : ℕ) (pages : PageMap) (standing : Standing) → one ≡ other → HoldsNone (event_form one) pages standing → HoldsNone (event_form other) pages standing
none_wide one other pages standing same none = subst (λ (w : ℕ). HoldsNone (event_form w) pages standing) same none

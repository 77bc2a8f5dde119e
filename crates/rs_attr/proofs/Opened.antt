-- A table that lies in a file already, as it was told or not.
use Rattle.std.proofs.Common.{◌≡◌, ◌+◌, ℕ, suc, Bool, true, false, Option, List, [], ◌∷◌, ◌++◌, length, filter, map, refl, sym, ap, ◌∙◌, subst, arith}
use Rattle.std.proofs.lemmas.List.{length-map}
use Rattle.std.proofs.lemmas.List.Filters.{length-filter_both}
use Rattle.std.proofs.lemmas.List.Sorted.{length_permutation}
use Rattle.std.proofs.lemmas.List.Sums.{length-filter}
use Rattle.std.specs.List.{AllByRecursion, AllZip, Contains}
use Rattle.rs_attr.specs.Entries.{AreCells, entry_of, index_form}
use Rattle.rs_attr.specs.Opening.{AreNotEntered, HasSoMany, HaveAllEntries, IsCountedTree, OpensNoTable, OpensTable, ReachesIndexes, ReachesNoIndexes}
use Rattle.rs_attr.specs.Meant.{SayMeant}
use Rattle.rs_attr.specs.Tables.{AreOn, HoldIndexes, IndexState}
use Rattle.rs_attr.specs.declared.told.ToldTable.{ToldTable}
use Rattle.rs_attr.proofs.Checked.{index_of_as_many}
use Rattle.rs_attr.proofs.Counted.{counted_same}
use Rattle.rs_attr.proofs.MeantParts.{meant_both, meant_part, none_meant}
use Rattle.rs_attr.proofs.Parts.{tree_wide}
use Rattle.rs_attr.proofs.PartsChecked.{both_entered, either_entered, none_entered}
use Rattle.rs_attr.proofs.Routes.{IsAt, IsPart, is_there, routes_before}
use Rattle.rs_interval.specs.Finding.{event_form}
use Rattle.rs_pages.specs.PageMap.{PageMap, SamePages}
use Rattle.rs_records.specs.Order.{Ascends, is_below}
use Rattle.rs_tree.specs.Cells.{cells_below, cells_within}
use Rattle.rs_tree.specs.Tree.{IsTree}
use Rattle.rs_tree.proofs.Below.{NoneBelow, none_below_after}
use Rattle.rs_tree.proofs.Ones.{tree_has_its_cells, tree_has_its_pages}
use Rattle.rs_tree_whole.proofs.Entries.{same_back}
use Rattle.rs_tree_whole.specs.Validating.{HasNoFreshTree, Validates}
use Rattle.rs_value.specs.declared.column.ColumnType.{ColumnType}
use Rattle.rs_cell_versions.specs.declared.told.ToldRecords.{ToldRecords}
use Rattle.rs_versioned.specs.Events.{Event, SaysEvent, event_width, kept_events}
use Rattle.rs_versioned.specs.Meant.{AreEventsMeant}
use Rattle.rs_versioned.specs.Opening.{StandsAs}
use Rattle.rs_versioned.specs.Records.{HoldsRecords}
use Rattle.rs_versioned.specs.declared.route_span.RouteSpan.{RouteSpan}
use Rattle.rs_versioned.proofs.Lifting.{zip_join}
use Rattle.rs_cell_versions.specs.Opening.{HasPassed, Looked, StandsOtherwise, StandsTold, Told, told_of}
use Rattle.rs_cell_versions.specs.Version.{is_dead, is_living}
use Rattle.rs_cell_versions.specs.Versioned.{Standing}
use Rattle.rs_cell_versions.proofs.Among.{all_at}
use Rattle.rs_cell_versions.proofs.Dated.{all_both, all_kept}
use Rattle.rs_cell_versions.proofs.Looks.{below_parted, cells_from, none_below_nothing, otherwise_back, passed_same}
use Rattle.rs_cell_versions.proofs.Staying.{tree_same}

-- what is told of a tree of another width that is the table's
pub told_so : (types : List ColumnType) (told : ToldRecords) (wide : ℕ) (is : Told) → is ≡ record (told_of (event_width types) told) { width = wide } → wide ≡ event_width types → is ≡ told_of (event_width types) told
told_so types told wide is say same = say ∙ ap (λ (n : ℕ). record (told_of (event_width types) told) { width = n }) same

-- what was found in the tree that is told of, whatever tree stands there
abbrev pub Finds : PageMap → Told → (List (List ℕ) → List (List ℕ)) → List (List ℕ) → Type 0
Finds pages told part found = (cells : List (List ℕ)) (used : ℕ → ℕ) → IsTree (event_form told.width) pages told.root cells used → found ≡ part cells

-- whatever tree stands there, its cells below the bound have their entries in the indexes
pub record AreEnteredBelow (types : List ColumnType) (pages : PageMap) (indexes : List IndexState) (root : ℕ) (low : List ℕ) : Type 0 where
  pub each : (cells : List (List ℕ)) (used : ℕ → ℕ) → IsTree (event_form (event_width types)) pages root cells used → HaveAllEntries pages indexes (cells_below low cells)

-- whatever tree stands there, these are among its cells
pub record AreAmong (types : List ColumnType) (pages : PageMap) (root : ℕ) (some : List (List ℕ)) : Type 0 where
  pub each : (cells : List (List ℕ)) (used : ℕ → ℕ) → IsTree (event_form (event_width types)) pages root cells used → AllByRecursion (Contains cells) some

-- the same of what is told in the same way, on the same pages
pub found_back : (old mid : PageMap) → SamePages mid old → (told is : Told) → told ≡ is → (part : List (List ℕ) → List (List ℕ)) (found : List (List ℕ)) → Finds mid told part found → Finds old is part found
found_back old mid same told is say part found finds = λ cells used tree.
    subst (λ (t : Told). Finds mid t part found) say finds cells used (tree_same (event_form is.width) old mid same is.root cells used tree)

pub otherwise_as : (old mid : PageMap) → SamePages mid old → (told is : Told) → told ≡ is → StandsOtherwise (event_form told.width) mid told → StandsOtherwise (event_form is.width) old is
otherwise_as old mid same told is say other =
    otherwise_back (event_form is.width) old mid same is (subst (λ (t : Told). StandsOtherwise (event_form t.width) mid t) say other)

pub passed_as : (pages : PageMap) (told : Told) (now : Looked) → now.told ≡ told → HasPassed (event_form told.width) pages now → HasPassed (event_form now.told.width) pages now
passed_as pages told now say passed = subst (λ (t : Told). HasPassed (event_form t.width) pages now) (sym say) passed

pub passed_then : (old mid : PageMap) → SamePages mid old → (told : Told) (now : Looked) → now.told ≡ told → HasPassed (event_form told.width) mid now → HasPassed (event_form now.told.width) old now
passed_then old mid same told now say passed = passed_same (event_form now.told.width) mid old (same_back mid old same) now (passed_as mid told now say passed)

pub stands_back : (old mid : PageMap) → SamePages mid old → (told is : Told) → told ≡ is → (dead : List (List ℕ))
    → ((cells : List (List ℕ)) (used : ℕ → ℕ) → IsTree (event_form told.width) mid told.root cells used → StandsTold (event_form told.width) mid told dead cells used)
    → (cells : List (List ℕ)) (used : ℕ → ℕ) → IsTree (event_form is.width) old is.root cells used → StandsTold (event_form is.width) old is dead cells used
stands_back old mid same told is say dead stands cells used tree =
    let so = subst (λ (t : Told). (cells : List (List ℕ)) (used : ℕ → ℕ) → IsTree (event_form t.width) mid t.root cells used → StandsTold (event_form t.width) mid t dead cells used) say stands
    cells used (tree_same (event_form is.width) old mid same is.root cells used tree) in
    record { holds = record { tree = tree; living = so.holds.living; dead = so.holds.dead }; garbage = so.garbage; dated = so.dated }

-- some of all are among them
still_among : (x : List ℕ) (xs ys : List (List ℕ)) → AllByRecursion (Contains xs) ys → AllByRecursion (Contains (x ∷ xs)) ys
still_among x xs [] have = tt
still_among x xs (y ∷ ys) have = ((suc have.0.0, omega (arith, have.0.1), have.0.2), still_among x xs ys have.1)

all_among : (xs : List (List ℕ)) → AllByRecursion (Contains xs) xs
all_among [] = tt
all_among (x ∷ xs) = ((0, omega arith, refl), still_among x xs xs (all_among xs))

kept_among : (test : List ℕ → Bool) (cells found : List (List ℕ)) → found ≡ filter test cells → AllByRecursion (Contains cells) found
kept_among test cells found is = subst (AllByRecursion (Contains cells)) (sym is) (all_kept (Contains cells) test cells (all_among cells))

of_all : (P : List ℕ → Type 0) (cells found : List (List ℕ)) → AllByRecursion P cells → AllByRecursion (Contains cells) found → AllByRecursion P found
of_all P cells [] all have = tt
of_all P cells (f ∷ fs) all have = (all_at P cells f all have.0, of_all P cells fs all have.1)

-- those that were among the cells, and a part of these
pub both_among : (types : List ColumnType) (pages : PageMap) (told : ToldRecords) (test : List ℕ → Bool) (some found : List (List ℕ)) → AreAmong types pages told.root some
    → Finds pages (told_of (event_width types) told) (filter test) found → AreAmong types pages told.root (some ++ found)
both_among types pages told test some found among finds = record {
  each = λ cells used tree. all_both (Contains cells) some found (among.each cells used tree) (kept_among test cells found (finds cells used tree));
}

-- indexes of cells have as many entries
counted_of : (pages : PageMap) (cells : List (List ℕ)) (count : ℕ) → count ≡ length cells → (indexes : List IndexState) (uses : List (ℕ → ℕ)) → HoldIndexes pages indexes cells uses
    → AllZip (IsCountedTree pages count) indexes uses
counted_of pages cells count many [] [] hold = tt
counted_of pages cells count many [] (u ∷ us) hold = absurd hold
counted_of pages cells count many (x ∷ xs) [] hold = absurd hold
counted_of pages cells count many (x ∷ xs) (u ∷ us) hold = (
  record {
    entries = hold.0.entries;
    tree = hold.0.tree;
    counted = sym (length_permutation hold.0.entries (map (entry_of x.field) cells) hold.0.are) ∙ length-map cells (entry_of x.field) ∙ sym many;
  },
  counted_of pages cells count many xs us hold.1,
)

-- and trees with as many entries as cells, which each have theirs, are the indexes
so_many : (pages : PageMap) (count : ℕ) (index : IndexState) (used : ℕ → ℕ) → IsCountedTree pages count index used → HasSoMany index.field pages index.working count
so_many pages count index used tree = record {
  each = λ entries uses other. sym tree.counted ∙ ap length (tree_has_its_cells (index_form index.field) pages index.working tree.entries entries used uses tree.tree other);
}

indexes_of : (types : List ColumnType) (pages : PageMap) (cells : List (List ℕ)) (count : ℕ) → AreCells (event_width types) cells → count ≡ length cells → (indexes : List IndexState) (uses : List (ℕ → ℕ))
    → AreOn types indexes → AllZip (IsCountedTree pages count) indexes uses → HaveAllEntries pages indexes cells → HoldIndexes pages indexes cells uses
indexes_of types pages cells count are many [] [] on trees have = tt
indexes_of types pages cells count are many [] (u ∷ us) on trees have = absurd trees
indexes_of types pages cells count are many (x ∷ xs) [] on trees have = absurd trees
indexes_of types pages cells count are many (x ∷ xs) (u ∷ us) on trees have = (
  index_of_as_many x.field pages x.working count cells trees.0.entries u (subst (λ (w : ℕ). AreCells w cells) (sym on.0) are) trees.0.tree (so_many pages count x u trees.0) many have.0,
  indexes_of types pages cells count are many xs us on.1 trees.1 have.1,
)

-- the cells say events that are meant
pub record SayEventsMeant (told : ToldTable) (routes : List RouteSpan) (cells : List (List ℕ)) : Type 0 where
  pub events : List Event
  pub say : AllZip (SaysEvent told.schema.items) cells events
  pub meant : AreEventsMeant routes told.kind told.records.accepted events

-- whatever tree stands there, its cells below the bound say events that are meant
pub record AreMeantBelow (told : ToldTable) (routes : List RouteSpan) (pages : PageMap) (low : List ℕ) : Type 0 where
  pub each : (cells : List (List ℕ)) (used : ℕ → ℕ) → IsTree (event_form (event_width told.schema.items)) pages told.records.root cells used → SayEventsMeant told routes (cells_below low cells)

none_low : (low : List ℕ) (cells : List (List ℕ)) → NoneBelow low cells → cells_below low cells ≡ []
none_low low [] none = refl
none_low low (c ∷ cs) none = rw none.0 (none_low low cs none.1)

all_from : (low : List ℕ) (cells : List (List ℕ)) → NoneBelow low cells → cells_from low cells ≡ cells
all_from low [] none = refl
all_from low (c ∷ cs) none = rw none.0 (ap (λ xs. c ∷ xs) (all_from low cs none.1))

-- cells are those below a bound, and those from it on
parted_at : (low : List ℕ) (cells : List (List ℕ)) → Ascends cells → cells ≡ cells_below low cells ++ cells_from low cells
parted_at low [] up = refl
parted_at low (c ∷ cs) up = by_low (is_below c low) refl (parted_at low cs up.1) where
  by_low : (b : Bool) → is_below c low ≡ b → cs ≡ cells_below low cs ++ cells_from low cs → c ∷ cs ≡ cells_below low (c ∷ cs) ++ cells_from low (c ∷ cs)
  by_low true is rest = rw is (ap (λ xs. c ∷ xs) rest)
  by_low false isnt rest =
      let none : NoneBelow low (c ∷ cs) = (isnt, none_below_after low c cs isnt up.0) in
      sym (ap (λ xs. xs ++ cells_from low (c ∷ cs)) (none_low low (c ∷ cs) none) ∙ all_from low (c ∷ cs) none)

module _ (told : ToldTable) (routes : List RouteSpan) (old : PageMap) where
  -- nothing was looked at yet
  pub meant_none : (low : List ℕ) → low ≡ [] → AreMeantBelow told routes old low
  meant_none low none = record {
    each = λ cells used tree.
        subst (SayEventsMeant told routes) (sym (ap (λ (l : List ℕ). cells_below l cells) none ∙ none_below_nothing cells))
        (record { events = []; say = tt; meant = none_meant routes told.kind told.records.accepted });
  }

  module _ (index : ℕ) (route : Option RouteSpan) (low : List ℕ) (at : IsAt routes index route low) (below : AreMeantBelow told routes old low) where
    joined : (cells found : List (List ℕ)) → SayEventsMeant told routes (cells_below low cells) → SayMeant told route found → SayEventsMeant told routes (cells_below low cells ++ found)
    joined cells found so more = record {
      events = so.events ++ more.events;
      say = zip_join (SaysEvent told.schema.items) (cells_below low cells) found so.events more.events so.say more.say;
      meant = meant_both told routes so.events more.events so.meant route (is_there routes index route low at) (routes_before told.schema.items routes index route low at cells so.events so.say) more.on more.runs;
    }

    -- one part more
    pub meant_next : (high now : List ℕ) (found : List (List ℕ)) → is_below high low ≡ false → Finds old (told_of (event_width told.schema.items) told.records) (cells_within low high) found → SayMeant told route found
        → now ≡ high → AreMeantBelow told routes old now
    meant_next high now found order finds part is = subst (AreMeantBelow told routes old) (sym is) (record {
      each = λ cells used tree.
          subst (SayEventsMeant told routes) (ap (λ (cs : List (List ℕ)). cells_below low cells ++ cs) (finds cells used tree) ∙ sym (below_parted low high cells tree.ascends order))
          (joined cells found (below.each cells used tree) part);
    })

    -- and the last
    pub meant_all : (left : List (List ℕ)) → Finds old (told_of (event_width told.schema.items) told.records) (cells_from low) left → SayMeant told route left
        → (cells : List (List ℕ)) (used : ℕ → ℕ) → IsTree (event_form (event_width told.schema.items)) old told.records.root cells used → SayEventsMeant told routes cells
    meant_all left finds part cells used tree =
        subst (SayEventsMeant told routes) (ap (λ (cs : List (List ℕ)). cells_below low cells ++ cs) (finds cells used tree) ∙ sym (parted_at low cells tree.ascends))
        (joined cells left (below.each cells used tree) part)

module _ (old : PageMap) (indexes : List IndexState) (told : ToldTable) (routes : List RouteSpan) where
  abbrev types : List ColumnType
  types = told.schema.items

  -- nothing was looked at yet
  pub below_none : (low : List ℕ) → low ≡ [] → AreEnteredBelow types old indexes told.records.root low
  below_none low none = record {
    each = λ cells used tree.
        subst (HaveAllEntries old indexes) (sym (ap (λ (l : List ℕ). cells_below l cells) none ∙ none_below_nothing cells)) (none_entered old indexes);
  }

  -- one part more
  pub below_next : (low high now : List ℕ) (found : List (List ℕ)) → is_below high low ≡ false → AreEnteredBelow types old indexes told.records.root low → Finds old (told_of (event_width types) told.records) (cells_within low high) found
      → HaveAllEntries old indexes found → now ≡ high → AreEnteredBelow types old indexes told.records.root now
  below_next low high now found order below finds part is = subst (AreEnteredBelow types old indexes told.records.root) (sym is) (record {
    each = λ cells used tree.
        subst (HaveAllEntries old indexes) (ap (λ (cs : List (List ℕ)). cells_below low cells ++ cs) (finds cells used tree) ∙ sym (below_parted low high cells tree.ascends order))
        (both_entered old indexes (cells_below low cells) found (below.each cells used tree) part);
  })

  -- and the last
  pub below_all : (low : List ℕ) (left : List (List ℕ)) → AreEnteredBelow types old indexes told.records.root low → Finds old (told_of (event_width types) told.records) (cells_from low) left → HaveAllEntries old indexes left
      → (cells : List (List ℕ)) (used : ℕ → ℕ) → IsTree (event_form (event_width types)) old told.records.root cells used → HaveAllEntries old indexes cells
  below_all low left below finds part cells used tree =
      either_entered old (λ cell. is_below cell low) indexes cells (below.each cells used tree) (subst (HaveAllEntries old indexes) (finds cells used tree) part)

  -- a table that stands as it was told
  table_stands : (standing : Standing) (events : List Event) (used : ℕ → ℕ) → StandsAs told.records standing → (records : HoldsRecords (kept_events types) old standing told.records.accepted events used)
      → StandsTold (event_form (event_width types)) old (told_of (event_width types) told.records) standing.dead records.cells used
  table_stands standing events used as_told records = record {
    holds = record {
      tree = subst (λ (root : ℕ). IsTree (event_form (event_width types)) old root records.cells used) as_told.root records.holds.tree;
      living = records.holds.living ∙ as_told.living;
      dead = records.holds.dead;
    };
    garbage = as_told.garbage;
    dated = records.dated;
  }

  told_many : (dead cells : List (List ℕ)) (used : ℕ → ℕ) → StandsTold (event_form (event_width types)) old (told_of (event_width types) told.records) dead cells used → told.records.living + told.records.garbage ≡ length cells
  told_many dead cells used stands =
      omega (arith, length-filter_both is_living is_dead (λ x. refl) cells, length-filter is_living cells, stands.holds.living, length_permutation (filter is_dead cells) dead stands.holds.dead, stands.garbage)

  module _ (before : ℕ → ℕ) where
    -- no table stands there without a fresh tree of its cells
    pub no_fresh_table : HasNoFreshTree (event_form (event_width types)) old told.records.root before → OpensNoTable old told indexes routes before
    no_fresh_table missing = record {
      none = λ standing events used uses as_told table meant fresh.
          missing.none table.records.cells used (table_stands standing events used as_told table.records).holds.tree (λ n. omega (arith, fresh n));
    }

    -- nor where other cells stand
    pub no_told_table : StandsOtherwise (event_form (event_width types)) old (told_of (event_width types) told.records) → OpensNoTable old told indexes routes before
    no_told_table other = record {
      none = λ standing events used uses as_told table meant fresh. other.none standing.dead table.records.cells used (table_stands standing events used as_told table.records);
    }

    -- nor where the events of a part of them are not meant
    pub no_meant_table : (route : Option RouteSpan) (test : List ℕ → Bool) (found : List (List ℕ)) → IsPart types routes route test → Finds old (told_of (event_width types) told.records) (filter test) found
        → (SayMeant told route found → ⊥) → OpensNoTable old told indexes routes before
    no_meant_table route test found part finds missing = record {
      none = λ standing events used uses as_told table meant fresh.
          let cells = table.records.cells in
          let is : found ≡ filter test cells = finds cells used (table_stands standing events used as_told table.records).holds.tree in
          missing (subst (SayMeant told route) (sym is) (meant_part told routes route test part cells events table.records.say meant));
    }

    -- nor where some of them are not entered
    pub no_entered_table : (some : List (List ℕ)) → AreAmong types old told.records.root some → AreNotEntered old indexes some → OpensNoTable old told indexes routes before
    no_entered_table some among missing = record {
      none = λ standing events used uses as_told table meant fresh.
          missing.none uses table.records.cells table.entries (among.each table.records.cells used (table_stands standing events used as_told table.records).holds.tree);
    }

    module _ (mid : PageMap) (same : SamePages mid old) (between : ℕ → ℕ) (validates : Validates (event_form (event_width types)) old told.records.root before between) where
      -- nor where its indexes don't
      pub no_indexes_table : ReachesNoIndexes mid indexes (told.records.living + told.records.garbage) between → OpensNoTable old told indexes routes before
      no_indexes_table missing = record {
        none = λ standing events used uses as_told table meant fresh.
            let cells = table.records.cells in
            let stands = table_stands standing events used as_told table.records in
            missing.none uses (counted_same old mid same (told.records.living + told.records.garbage) indexes uses (counted_of old cells (told.records.living + told.records.garbage) (told_many standing.dead cells used stands) indexes uses table.entries))
            (λ n. omega (arith, fresh n, validates.reached n, tree_has_its_pages (event_form (event_width types)) old told.records.root validates.cells cells validates.used used validates.tree stands.holds.tree n));
      }

      -- all of it stands there
      pub opens_table : (standing : Standing) (after : ℕ → ℕ) → AreOn types indexes → StandsAs told.records standing → ReachesIndexes mid indexes (told.records.living + told.records.garbage) between after
          → ((cells : List (List ℕ)) (used : ℕ → ℕ) → IsTree (event_form (event_width types)) old told.records.root cells used → StandsTold (event_form (event_width types)) old (told_of (event_width types) told.records) standing.dead cells used)
          → ((cells : List (List ℕ)) (used : ℕ → ℕ) → IsTree (event_form (event_width types)) old told.records.root cells used → HaveAllEntries old indexes cells)
          → ((cells : List (List ℕ)) (used : ℕ → ℕ) → IsTree (event_form (event_width types)) old told.records.root cells used → SayEventsMeant told routes cells)
          → OpensTable old told standing indexes routes before after
      opens_table standing after on as_told reaches stands_so part_so meant_so =
          let cells = validates.cells in
          let stands = stands_so cells validates.used validates.tree in
          let part = part_so cells validates.used validates.tree in
          let so = meant_so cells validates.used validates.tree in
          record {
            as_told = as_told;
            events = so.events;
            used = validates.used;
            uses = reaches.uses;
            holds = record {
              records = record {
                cells = cells;
                holds = record {
                  tree = subst (λ (root : ℕ). IsTree (event_form (event_width types)) old root cells validates.used) (sym as_told.root) validates.tree;
                  living = stands.holds.living ∙ sym as_told.living;
                  dead = stands.holds.dead;
                };
                say = so.say;
                dated = stands.dated;
              };
              entries = indexes_of types old cells (told.records.living + told.records.garbage) (record { wide = tree_wide (event_form (event_width types)) old told.records.root cells validates.used validates.tree; ascend = validates.tree.ascends })
                  (told_many standing.dead cells validates.used stands) indexes reaches.uses on
                  (counted_same mid old (same_back mid old same) (told.records.living + told.records.garbage) indexes reaches.uses reaches.trees) part;
            };
            meant = so.meant;
            reached = λ n. omega (arith, reaches.reached n, validates.reached n);
          }

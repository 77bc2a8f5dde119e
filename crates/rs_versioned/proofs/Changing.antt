-- What changes of cells make of the records that they say.
use Rattle.std.proofs.Common.{◌≡◌, ◌↔◌, ◌<◌, ◌≤◌, ◌-◌, ◌^◌, ℕ, Bool, true, false, not, ◌&&◌, leb, min, List, [], ◌++◌, ◌∷◌, IsTrue, length, drop, filter, refl, sym, ap, ◌∙◌, subst, inl, inr, arith}
use Rattle.std.proofs.lemmas.Bool.{and_parts, and_right, cases_lt, eq-eqb, leb-true, lt-leb, ne_eqb}
use Rattle.std.proofs.lemmas.List.{append_assoc, take-append-drop}
use Rattle.std.proofs.lemmas.List.Elements.{All-take, filter_passes, recursion_from_All}
use Rattle.std.proofs.lemmas.List.Sorted.{IsPermutation-filter_both, IsPermutation-refl, IsPermutation-trans}
use Rattle.std.specs.List.{AllByRecursion, AllZip, Contains, count_by}
use Rattle.std.specs.List.Sorted.{IsPermutation}
use Rattle.rs_page_owners.specs.Counts.{◌&◌}
use Rattle.rs_page_owners.specs.Owners.{Shares}
use Rattle.rs_pages.specs.PageMap.{PageMap, SamePages}
use Rattle.rs_records.specs.Listed.{listed}
use Rattle.rs_records.specs.declared.cells.Cells.{Cells}
use Rattle.rs_records.specs.Order.{Ascends}
use Rattle.rs_tree.specs.Cells.{with_cell, without_cell}
use Rattle.rs_cell_versions.specs.Changes.{Ends, cleared, with_end, without_cells}
use Rattle.rs_cell_versions.specs.Version.{IsDated, born_of, died_of, ended, is_clearable, is_dead, is_living}
use Rattle.rs_cell_versions.specs.Versioned.{ChangesCells, Standing}
use Rattle.rs_cell_versions.proofs.Among.{among, with_present}
use Rattle.rs_cell_versions.proofs.Dated.{all_cleared, all_with, dated_ended}
use Rattle.rs_cell_versions.proofs.Seen.{cleared_count, ended_early, ended_late, without-ascends}
use Rattle.rs_cell_versions.specs.Calls as cells
use Rattle.rs_versioned.specs.Calls.{IsAdded, IsCleared, IsEnded, IsVacuumed}
use Rattle.rs_versioned.specs.Records.{ChangesRecords, HasEnded, IsKept, WasEnded, HasNone, HasOneMore, HasCleared, HoldsRecords, Kept}
use Rattle.rs_versioned.proofs.Lifting.{cell_there, joins, leave_all, leaves, record_there, zip_all, zip_count}

-- a cell that is dated is dated at any later version
dated_then : (accepted version : ℕ) (cell : List ℕ) → accepted ≤ version → IsDated accepted cell → IsDated version cell
dated_then accepted version cell later dated = elim dated.1 [
  | inl lives ↦ (omega (arith, later, dated.0), inl lives)
  | inr died ↦ (omega (arith, later, dated.0), inr (died.0, omega (arith, later, died.1)))
]

dated_later : (accepted version : ℕ) (cells : List (List ℕ)) → accepted ≤ version → AllByRecursion (IsDated accepted) cells → AllByRecursion (IsDated version) cells
dated_later accepted version [] later all = tt
dated_later accepted version (c ∷ cs) later all = (dated_then accepted version c later all.0, dated_later accepted version cs later all.1)

-- some cells are dead ones that may be cleared
all_clearable : (oldest most : ℕ) (dead : List (List ℕ)) → AllByRecursion (λ cell. is_clearable oldest cell ≡ true) (cleared oldest most dead)
all_clearable oldest most dead =
    recursion_from_All (λ cell. is_clearable oldest cell ≡ true) (cleared oldest most dead)
    (All-take (λ cell. is_clearable oldest cell ≡ true) most (filter (is_clearable oldest) dead) (filter_passes (is_clearable oldest) dead))

-- the dead are those that are cleared and others
abbrev not_cleared : ℕ → ℕ → List (List ℕ) → List (List ℕ)
not_cleared oldest most dead = drop most (filter (is_clearable oldest) dead) ++ filter (λ cell. not (is_clearable oldest cell)) dead

cleared_first : (oldest most : ℕ) (dead : List (List ℕ)) → IsPermutation dead (cleared oldest most dead ++ not_cleared oldest most dead)
cleared_first oldest most dead =
    let others : List (List ℕ) = filter (λ cell. not (is_clearable oldest cell)) dead in
    let front : filter (is_clearable oldest) dead ≡ cleared oldest most dead ++ drop most (filter (is_clearable oldest) dead) =
    sym (take-append-drop most (filter (is_clearable oldest) dead)) in
    let joined : filter (is_clearable oldest) dead ++ others ≡ cleared oldest most dead ++ not_cleared oldest most dead =
    ap (λ (l : List (List ℕ)). l ++ others) front ∙ append_assoc (cleared oldest most dead) (drop most (filter (is_clearable oldest) dead)) others in
    subst (IsPermutation dead) joined (IsPermutation-filter_both (is_clearable oldest) (λ cell. not (is_clearable oldest cell)) (λ _. refl) dead)

-- before the version that stands in living cells, a cell that died in time is clearable
clearable_is : (oldest died : ℕ) (cell : List ℕ) → oldest < 2 ^ 64 - 1 → died_of cell ≡ died → is_clearable oldest cell ≡ leb died oldest
clearable_is oldest died cell before is = elim (cases_lt oldest died) [
  | inl late ↦ and_right (is_dead cell) (leb (died_of cell) oldest) (lt-leb (died_of cell) oldest (omega (arith, is, late))) ∙ sym (lt-leb died oldest late)
  | inr early ↦
      let dead : is_dead cell ≡ true = ap not (ne_eqb (died_of cell) (2 ^ 64 - 1) (λ same. omega (arith, before, is, early, same))) in
      ap (λ (b : Bool). b && leb (died_of cell) oldest) dead ∙ ap (λ (n : ℕ). leb n oldest) is
]

-- records that cells say after a change
record Changed {R : Type 0} (says : List ℕ → R → Type 0) (cells : List (List ℕ)) (change : List R → Type 0) : Type 0 where
  now : List R
  say : AllZip says cells now
  changed : change now

module _ {R : Type 0} (kept : Kept R) (laws : IsKept kept) where
  -- a cell has come to others, or was there
  come : (cell : List ℕ) (one : R) (cells : List (List ℕ)) (records : List R) → kept.says cell one → Ascends cells → AllZip kept.says cells records
      → Changed kept.says (with_cell cell cells) (HasOneMore one records)
  come cell one cells records says up say = elim (among cell cells) [
    | inl has ↦ record {
      now = records;
      say = subst (λ (cs : List (List ℕ)). AllZip kept.says cs records) (sym (with_present cell cells up has)) say;
      changed = inl (record { there = record_there kept laws cells records cell one says say has; same = IsPermutation-refl records });
    }
    | inr none ↦
        let more = joins kept.says cell one cells records says up none say in
        record {
          now = more.now;
          say = more.say;
          changed = inr (record { missing = λ there. none (cell_there kept laws cells records cell one says say there); more = more.more });
        }
  ]

  -- a cell has ended
  gone : (version : ℕ) (cell : List ℕ) (one : R) (cells : List (List ℕ)) (records : List R) → version < 2 ^ 64 - 1 → kept.says cell one → Ascends cells → Contains cells cell → AllZip kept.says cells records
      → Changed kept.says (with_end version cell cells) (WasEnded kept version one records)
  gone version cell one cells records below says up has say =
      let left = leaves kept.says cell cells records up has say in
      let were : IsPermutation records (one ∷ left.rest) = subst (λ (r : R). IsPermutation records (r ∷ left.rest)) (laws.one cell left.one one left.said says) left.were in
      let birth : born_of cell ≡ kept.born one = laws.born cell one says in
      elim (cases_lt (born_of cell) version) [
        | inl early ↦
            let more = come (ended version cell) (kept.ended version one) (without_cell cell cells) left.rest (laws.ends version cell one (omega (arith, below)) says) (without-ascends cell cells up) left.say in
            record {
              now = more.now;
              say = subst (λ (cs : List (List ℕ)). AllZip kept.says cs more.now) (sym (ended_late version cell cells early)) more.say;
              changed = record { rest = left.rest; were = were; are = inl (omega (arith, early, birth), more.changed) };
            }
        | inr late ↦ record {
          now = left.rest;
          say = subst (λ (cs : List (List ℕ)). AllZip kept.says cs left.rest) (sym (ended_early version cell cells late)) left.say;
          changed = record { rest = left.rest; were = were; are = inr (omega (arith, late, birth), IsPermutation-refl left.rest) };
        }
      ]

  -- as many records may be cleared as cells
  pub records_cleared : (pages : PageMap) (standing : Standing) (accepted oldest most : ℕ) (records : List R) (used : ℕ → ℕ) → HoldsRecords kept pages standing accepted records used
      → oldest < 2 ^ 64 - 1 → length (cleared oldest most standing.dead) ≡ min most (count_by (λ one. leb (kept.died one) oldest) records)
  records_cleared pages standing accepted oldest most records used holds before =
      cleared_count kept.form pages standing holds.cells used oldest most holds.holds
      ∙ ap (min most) (zip_count kept.says (is_clearable oldest) (λ one. leb (kept.died one) oldest) (λ cell one says. clearable_is oldest (kept.died one) cell before (laws.died cell one says)) holds.cells records holds.say)

  -- it is told whether a record is one of these, where that is told of its cell
  pub found_record : (pages : PageMap) (standing : Standing) (cell : List ℕ) (one : R) (found : Bool) → kept.says cell one → cells.TellsOf kept.form pages standing cell found
      → (records : List R) (used others : ℕ → ℕ) (accepted : ℕ) → HoldsRecords kept pages standing accepted records used → Shares pages (used & others) → (IsTrue found ↔ Contains records one)
  found_record pages standing cell one found says tells records used others accepted holds shares =
      let told = tells holds.cells used others holds.holds shares in
      (λ is. record_there kept laws holds.cells records cell one says holds.say (told.0 is), λ there. told.1 (cell_there kept laws holds.cells records cell one says holds.say there))

  pub missed_record : (pages : PageMap) (standing : Standing) (cell : List ℕ) (one : R) (new : Bool) → kept.says cell one → cells.TellsNew kept.form pages standing cell new
      → (records : List R) (used others : ℕ → ℕ) (accepted : ℕ) → HoldsRecords kept pages standing accepted records used → Shares pages (used & others) → (IsTrue new ↔ (Contains records one → ⊥))
  missed_record pages standing cell one new says tells records used others accepted holds shares =
      let told = tells holds.cells used others holds.holds shares in (
        λ is there. told.0 is (cell_there kept laws holds.cells records cell one says holds.say there),
        λ none. told.1 (λ has. none (record_there kept laws holds.cells records cell one says holds.say has)),
      )

module _ {R : Type 0} (kept : Kept R) (laws : IsKept kept) (old new : PageMap) (was is : Standing) where
  -- a living record has come
  pub adds_record : (accepted version : ℕ) (cell : List ℕ) (one : R) → accepted ≤ version → kept.says cell one → kept.born one ≡ version → kept.died one ≡ 2 ^ 64 - 1
      → ChangesCells kept.form old new was is (with_cell cell) → ChangesRecords kept old new was is accepted version (HasOneMore one)
  adds_record accepted version cell one later says born lives changes = record {
    each = λ records used others holds shares.
        let becomes = changes.each holds.cells used others holds.holds shares in
        let more = come kept laws cell one holds.cells records says holds.holds.tree.ascends holds.say in
        let birth : born_of cell ≤ version = omega (arith, laws.born cell one says, born) in
        let living : IsTrue (is_living cell) = eq-eqb (died_of cell) (2 ^ 64 - 1) (laws.died cell one says ∙ lives) in
        record {
          records = more.now;
          after = becomes.after;
          holds = record {
            cells = with_cell cell holds.cells;
            holds = becomes.holds;
            say = more.say;
            dated = all_with (IsDated version) cell holds.cells (birth, inl living) (dated_later accepted version holds.cells later holds.dated);
          };
          moves = becomes.moves;
          changed = more.changed;
        };
  }

  -- a living record has ended
  pub ends_record : (accepted last version : ℕ) (cell : List ℕ) (one : R) → accepted ≤ last → version ≤ last → version < 2 ^ 64 - 1 → kept.says cell one
      → Ends kept.form old new was is version cell → ChangesRecords kept old new was is accepted last (HasEnded kept version one)
  ends_record accepted last version cell one later before below says ends = record {
    each = λ records used others holds shares.
        let dated = dated_later accepted last holds.cells later holds.dated in
        elim (among cell holds.cells) [
          | inl has ↦
              let becomes = ends.there holds.cells used others holds.holds shares has in
              let after = gone kept laws version cell one holds.cells records below says holds.holds.tree.ascends has holds.say in
              record {
                records = after.now;
                after = becomes.after;
                holds = record {
                  cells = with_end version cell holds.cells;
                  holds = becomes.holds;
                  say = after.say;
                  dated = dated_ended last version cell holds.cells before below (laws.long cell one says) dated;
                };
                moves = becomes.moves;
                changed = inr after.changed;
              }
          | inr none ↦
              let becomes = ends.missing holds.cells used others holds.holds shares none in
              record {
                records = records;
                after = becomes.after;
                holds = record { cells = holds.cells; holds = becomes.holds; say = holds.say; dated = dated };
                moves = becomes.moves;
                changed = inl (record { missing = λ there. none (cell_there kept laws holds.cells records cell one says holds.say there); same = IsPermutation-refl records });
              }
        ];
  }

  -- records that no version from the oldest on sees are gone
  pub clears_records : (accepted oldest most : ℕ) → ChangesCells kept.form old new was is (without_cells (cleared oldest most was.dead))
      → ChangesRecords kept old new was is accepted accepted (HasCleared kept oldest (cleared oldest most was.dead))
  clears_records accepted oldest most changes = record {
    each = λ records used others holds shares.
        let becomes = changes.each holds.cells used others holds.holds shares in
        let gone : List (List ℕ) = cleared oldest most was.dead in
        let dead = IsPermutation-trans (filter is_dead holds.cells) was.dead (gone ++ not_cleared oldest most was.dead) holds.holds.dead (cleared_first oldest most was.dead) in
        let left = leave_all kept.says gone holds.cells (not_cleared oldest most was.dead) records holds.holds.tree.ascends dead holds.say in
        record {
          records = left.rest;
          after = becomes.after;
          holds = record {
            cells = without_cells gone holds.cells;
            holds = becomes.holds;
            say = left.say;
            dated = all_cleared (IsDated accepted) gone holds.cells holds.dated;
          };
          moves = becomes.moves;
          changed = record {
            gone = left.ones;
            say = left.said;
            unseen = zip_all kept.says (λ cell. is_clearable oldest cell ≡ true) (λ one. kept.died one ≤ oldest)
                (λ cell one says is. let died = leb-true (died_of cell) oldest (and_parts (is_dead cell) (leb (died_of cell) oldest) is).1 in omega (arith, died, laws.died cell one says))
                gone left.ones left.said (all_clearable oldest most was.dead);
            rest = left.were;
          };
        };
  }

  -- no records are left
  pub clears_all : (accepted : ℕ) → ChangesCells kept.form old new was is (λ _. []) → ChangesRecords kept old new was is accepted accepted HasNone
  clears_all accepted changes = record {
    each = λ records used others holds shares.
        let becomes = changes.each holds.cells used others holds.holds shares in
        record {
          records = [];
          after = becomes.after;
          holds = record {
            cells = [];
            holds = becomes.holds;
            say = tt;
            dated = tt;
          };
          moves = becomes.moves;
          changed = refl;
        };
  }

  -- what is said of the records that were added, ended or cleared
  pub is_added : {T : Type 0} (table now : T) (cell : List ℕ) (one : R) (is_new : Bool) → kept.says cell one → kept.died one ≡ 2 ^ 64 - 1 → ChangesCells kept.form old new was is (with_cell cell)
      → cells.TellsNew kept.form old was cell is_new → (is_new ≡ false → SamePages new old × (now ≡ table)) → IsAdded kept old new was is table now one is_new
  is_added table now cell one is_new says lives changes tells rests = record {
    changes = λ accepted later. adds_record accepted (kept.born one) cell one later says refl lives changes;
    cells = λ other said. subst (λ (x : List ℕ). ChangesCells kept.form old new was is (with_cell x)) (laws.has_one cell other one says said) changes;
    tells = missed_record kept laws old was cell one is_new says tells;
    rests = rests;
  }

  pub is_ended : (version : ℕ) (cell : List ℕ) (found : Bool) → version < 2 ^ 64 - 1 → Ends kept.form old new was is version cell → cells.TellsOf kept.form old was cell found
      → IsEnded kept old new was is version cell found
  is_ended version cell found below ends tells = record {
    changes = λ accepted last one later before says. ends_record accepted last version cell one later before below says ends;
    ends = ends;
    tells = λ one says. found_record kept laws old was cell one found says tells;
  }

  pub is_vacuumed : (oldest most : ℕ) (taken : Cells) → listed taken ≡ cleared oldest most was.dead → ChangesCells kept.form old new was is (without_cells (cleared oldest most was.dead))
      → IsVacuumed kept old new was is oldest most taken
  is_vacuumed oldest most taken same changes = record {
    changes = λ accepted. subst (λ (cells : List (List ℕ)). ChangesRecords kept old new was is accepted accepted (HasCleared kept oldest cells)) (sym same) (clears_records accepted oldest most changes);
    cells = changes;
    as_many = λ records used accepted holds before. ap length same ∙ records_cleared kept laws old was accepted oldest most records used holds before;
  }

  pub is_cleared : ChangesCells kept.form old new was is (λ _. []) → IsCleared kept old new was is
  is_cleared changes = record { changes = λ accepted. clears_all accepted changes; cells = changes }

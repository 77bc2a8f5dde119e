-- Clearing one table after another, and then the referents.
use Rattle.std.proofs.Common.{◌≡◌, ◌<◌, ◌≤◌, ◌+◌, ◌-◌, ℕ, zero, suc, Bool, true, cond, Some, List, [], ◌∷◌, ◌++◌, length, slice_get, take, refl, sym, ap, ◌∙◌, subst, inl, inr, ◌⊎◌, arith, length-append}
use Rattle.std.specs.Prelude.{min, nat_le}
use Rattle.std.specs.List.{AllByRecursion, AllZip, count_by, sum_by}
use Rattle.std.specs.List.Sorted.{IsPermutation}
use Rattle.std.proofs.lemmas.Bool.{cases_lt, le-leb}
use Rattle.std.proofs.lemmas.List.{append_assoc}
use Rattle.std.proofs.lemmas.List.Sorted.{IsPermutation-refl, IsPermutation-trans, IsPermutation-append_right, length_permutation, sum_by-IsPermutation}
use Rattle.std.proofs.lemmas.List.Sums.{sum_by-append, sum_by-cons}
use Rattle.rs_cell_versions.specs.declared.cell.TheConstants.{LIVING}
use Rattle.rs_attr.specs.Tables.{ChangesTable, all_of}
use Rattle.rs_attr.proofs.Together.{moves_none}
use Rattle.rs_cell_versions.specs.Changes.{cleared}
use Rattle.rs_page_owners.specs.Counts.{◌&◌}
use Rattle.rs_versioned.proofs.Changing.{records_cleared}
use Rattle.rs_versioned.proofs.KeptRecords.{events_are_kept}
use Rattle.rs_file.specs.Contents.{Contents, LiesTable, ReferentContents, TableContents}
use Rattle.rs_file.specs.Opening.{IsOpened}
use Rattle.rs_file.specs.declared.opened.OpenedFile.{OpenedFile}
use Rattle.rs_file_parts.specs.Parts.{Makes}
use Rattle.rs_file.specs.declared.opened.OpenedTable.{OpenedTable}
use Rattle.rs_file_parts.specs.Calls.{ChangesReferents}
use Rattle.rs_file_parts.specs.Clearing.{ClearsParts, ClearsReferents, ClearsTable, ClearsAsMany, ClearsFirst, clearable, clearable_events, clearable_referents}
use Rattle.rs_file_parts.specs.Inner.{ClearsAllReferents, ClearsOpened, ClearsPlaces, ClearsSome, HasNoneAt, HasNoneDead}
use Rattle.rs_file_parts.proofs.Lists.{each_same, each_then, together}
use Rattle.rs_file_parts.proofs.Made.{ChangesAt}
use Rattle.rs_tree_edit.proofs.Pieces.{zip_append}
use Rattle.rs_pages.specs.PageMap.{PageMap}
use Rattle.rs_tree.proofs.Lists.{all_at, has_inside, zip_lengths}
use Rattle.rs_versioned.specs.Events.{Event, kept_events}
use Rattle.rs_records.specs.Listed.{listed}
use Rattle.rs_records.specs.declared.cells.Cells.{Cells}
use Rattle.rs_cell_versions.specs.Versioned.{Standing}
use Rattle.rs_versioned.specs.Calls.{IsVacuumed}
use Rattle.rs_versioned.specs.Records.{ChangesRecords, HasCleared, HoldsRecords, Kept}
use Rattle.rs_versioned.specs.Referents.{ReferentRecord, kept_referents}
use Rattle.rs_value.specs.declared.column.ColumnType.{ColumnType}

-- ---- records, however they are kept

module _ {R : Type 0} (kept : Kept R) (oldest : ℕ) where
  -- no record goes
  pub none_cleared : (records : List R) → HasCleared kept oldest [] records records
  none_cleared records = record { gone = []; say = tt; unseen = tt; rest = IsPermutation-refl records }

  all_both : (one other : List R) → AllByRecursion (λ (r : R). kept.died r ≤ oldest) one → AllByRecursion (λ (r : R). kept.died r ≤ oldest) other
      → AllByRecursion (λ (r : R). kept.died r ≤ oldest) (one ++ other)
  all_both [] other some more = more
  all_both (r ∷ rs) other some more = (some.0, all_both rs other some.1 more)

  -- some go, and then others
  cleared_then : (cells more : List (List ℕ)) (old next now : List R) → HasCleared kept oldest cells old next → HasCleared kept oldest more next now → HasCleared kept oldest (cells ++ more) old now
  cleared_then cells more old next now one other = record {
    gone = one.gone ++ other.gone;
    say = zip_append kept.says cells one.gone more other.gone one.say other.say;
    unseen = all_both one.gone other.gone one.unseen other.unseen;
    rest = subst (λ (rs : List R). IsPermutation old rs) (sym (append_assoc one.gone other.gone now))
        (IsPermutation-trans old (one.gone ++ next) (one.gone ++ (other.gone ++ now)) one.rest (IsPermutation-append_right one.gone next (other.gone ++ now) other.rest));
  }

  -- how many may go
  may_go : List R → ℕ
  may_go records = count_by (λ r. nat_le (kept.died r) oldest) records

  all_may_go : (gone : List R) → AllByRecursion (λ (r : R). kept.died r ≤ oldest) gone → count_by (λ r. nat_le (kept.died r) oldest) gone ≡ length gone
  all_may_go [] all = refl
  all_may_go (r ∷ rs) all =
      let one : nat_le (kept.died r) oldest ≡ true = le-leb (kept.died r) oldest all.0 in
      omega (arith, sum_by-cons (λ (x : R). cond (nat_le (kept.died x) oldest) 1 0) r rs, ap (λ (b : Bool). cond {A = ℕ} b 1 0) one, all_may_go rs all.1)

  -- each that went could go
  pub fewer_may_go : (cells : List (List ℕ)) (old now : List R) → HasCleared kept oldest cells old now
      → length cells + count_by (λ r. nat_le (kept.died r) oldest) now ≡ count_by (λ r. nat_le (kept.died r) oldest) old
  fewer_may_go cells old now cleared =
      let weigh : R → ℕ = λ x. cond (nat_le (kept.died x) oldest) 1 0 in
      omega (
        arith,
        zip_lengths kept.says cells cleared.gone cleared.say,
        all_may_go cleared.gone cleared.unseen,
        sum_by-append weigh cleared.gone now,
        sum_by-IsPermutation weigh old (cleared.gone ++ now) cleared.rest,
      )

  -- there are as many fewer
  pub fewer_there : (cells : List (List ℕ)) (old now : List R) → HasCleared kept oldest cells old now → length old ≡ length now + length cells
  fewer_there cells old now cleared =
      omega (arith, zip_lengths kept.says cells cleared.gone cleared.say, length_permutation old (cleared.gone ++ now) cleared.rest, length-append cleared.gone now)

-- ---- what is open of a table

-- of none nothing may go
length_none : (most : ℕ) (cells : List (List ℕ)) → length cells ≡ 0 → length (take most cells) ≡ 0
length_none zero cells none = refl
length_none (suc most) [] none = refl
length_none (suc most) (c ∷ cells) none = absurd (omega (arith, none))

none_cleared_of : (oldest most : ℕ) (dead : List (List ℕ)) → length dead ≡ 0 → length (cleared oldest most dead) ≡ 0
none_cleared_of oldest most [] none = length_none most [] refl
none_cleared_of oldest most (d ∷ dead) none = absurd (omega (arith, none))

-- where no record is dead, it is cleared as it is
pub cleared_as_it_is : (map : PageMap) (table : OpenedTable) (oldest most : ℕ) → length table.records.working.dead ≡ 0 → ClearsOpened map map table table oldest most 0
cleared_as_it_is map table oldest most none =
    let types = table.records.types in
    let standing = table.records.working in
    record {
      cells = [];
      many = refl;
      changes = λ accepted. record {
        each = λ events used uses others holds shares. record {
          events = events;
          after = used;
          afters = uses;
          holds = holds;
          moves = moves_none map (used & all_of uses);
          changed = none_cleared (kept_events types) oldest events;
        };
      };
      as_many = λ events used accepted holds below.
          sym (none_cleared_of oldest most standing.dead none) ∙ records_cleared (kept_events types) (events_are_kept types) map standing accepted oldest most events used holds below;
    }

-- ---- contents

pub same_table : (oldest : ℕ) (table : TableContents) → ClearsTable oldest table table
same_table oldest table = record { types = refl; cells = []; cleared = none_cleared (kept_events table.types) oldest table.events }

table_then : (oldest : ℕ) (was between is : TableContents) → ClearsTable oldest was between → ClearsTable oldest between is → ClearsTable oldest was is
table_then oldest was between is one other = record {
  types = other.types ∙ one.types;
  cells = one.cells ++ other.cells;
  cleared = cleared_then (kept_events was.types) oldest one.cells other.cells was.events between.events is.events one.cleared
      (subst (λ (ts : List ColumnType). HasCleared (kept_events ts) oldest other.cells between.events is.events) one.types other.cleared);
}

parts_none : (oldest : ℕ) (contents : Contents) → ClearsParts oldest contents contents
parts_none oldest contents = record {
  definitions = refl;
  directory = refl;
  tables = each_same (ClearsTable oldest) (same_table oldest) contents.tables;
  referents = record { cells = []; cleared = none_cleared kept_referents oldest contents.referents.referents };
}

pub parts_then : (oldest : ℕ) (old next now : Contents) → ClearsParts oldest old next → ClearsParts oldest next now → ClearsParts oldest old now
parts_then oldest old next now one other = record {
  definitions = other.definitions ∙ one.definitions;
  directory = other.directory ∙ one.directory;
  tables = each_then (ClearsTable oldest) (ClearsTable oldest) (ClearsTable oldest) (table_then oldest) old.tables next.tables now.tables one.tables other.tables;
  referents = record {
    cells = one.referents.cells ++ other.referents.cells;
    cleared = cleared_then kept_referents oldest one.referents.cells other.referents.cells old.referents.referents next.referents.referents now.referents.referents
        one.referents.cleared other.referents.cleared;
  };
}

some_none : (oldest most : ℕ) (contents : Contents) → ClearsSome oldest most 0 contents contents
some_none oldest most contents = record { parts = parts_none oldest contents; many = omega arith; left = λ below. omega arith }

some_then : (oldest most one other : ℕ) (old next now : Contents) → one ≤ most → other ≤ most - one → ClearsSome oldest most one old next → ClearsSome oldest (most - one) other next now
    → ClearsSome oldest most (one + other) old now
some_then oldest most one other old next now few fewer first second = record {
  parts = parts_then oldest old next now first.parts second.parts;
  many = omega (arith, first.many, second.many);
  left = λ below. counted most one other (clearable oldest old) (clearable oldest next) (clearable oldest now) few fewer (first.left below) (second.left below);
} where
  counted : (m a b x y z : ℕ) → a ≤ m → b ≤ m - a → a + min (m - a) y ≡ min m x → b + min ((m - a) - b) z ≡ min (m - a) y → (a + b) + min (m - (a + b)) z ≡ min m x
  counted m a b x y z few fewer e f = omega arith

-- the element that one of another list goes with
back_at : {X Y : Type 0} (R : X → Y → Type 0) (xs : List X) (ys : List Y) (k : ℕ) (y : Y) → AllZip R xs ys → slice_get ys k ≡ Some y → (x : X) × (slice_get xs k ≡ Some x) × R x y
back_at R [] [] k y all is = absurd (cc)
back_at R [] (z ∷ zs) k y all is = absurd all
back_at R (x ∷ xs) [] k y all is = absurd all
back_at R (x ∷ xs) (z ∷ zs) zero y all is = let same : z ≡ y = cc in (x, refl, subst (R x) same all.0)
back_at R (x ∷ xs) (z ∷ zs) (suc k) y all is = back_at R xs zs k y all.1 is

-- where none was left none is left after more went
none_still : (oldest place : ℕ) (next now : Contents) → ClearsParts oldest next now → HasNoneAt oldest place next → HasNoneAt oldest place now
none_still oldest place next now parts none = record {
  none = λ table there.
      let back = back_at (ClearsTable oldest) next.tables now.tables place table parts.tables there in
      let one = back.0 in
      omega (arith, none.none one back.1, fewer_may_go (kept_events one.types) oldest back.2.cells one.events table.events back.2.cleared);
}

-- none is left at the places of either
both_none : (oldest most one other a b c d : ℕ) (old next now : Contents) → ClearsPlaces oldest most one a b old next → ClearsPlaces oldest (most - one) other c d next now
    → oldest < LIVING → one + other < most → (place : ℕ) → ((a ≤ place) × (place < b)) ⊎ ((c ≤ place) × (place < d)) → HasNoneAt oldest place now
both_none oldest most one other a b c d old next now first second below fewer place (inl in_first) =
    none_still oldest place next now second.some.parts (first.none below (omega arith) place in_first.0 in_first.1)
both_none oldest most one other a b c d old next now first second below fewer place (inr in_second) =
    second.none below (omega arith) place in_second.0 in_second.1

-- ---- the first table

-- how many events these tables have
abbrev events_in : List TableContents → ℕ
events_in tables = sum_by (λ (t : TableContents). length t.events) tables

-- a table and the table that it became
record Lost (oldest : ℕ) (was is : TableContents) : Type 0 where
  many : ℕ
  events : length was.events ≡ length is.events + many
  may_go : many + clearable_events oldest is.events ≡ clearable_events oldest was.events

lost : (oldest : ℕ) (was is : TableContents) → ClearsTable oldest was is → Lost oldest was is
lost oldest was is table = record {
  many = length table.cells;
  events = fewer_there (kept_events was.types) oldest table.cells was.events is.events table.cleared;
  may_go = fewer_may_go (kept_events was.types) oldest table.cells was.events is.events table.cleared;
}

events_fewer : (oldest : ℕ) (xs ys : List TableContents) → AllZip (ClearsTable oldest) xs ys → events_in ys ≤ events_in xs
events_fewer oldest [] [] all = omega arith
events_fewer oldest [] (y ∷ ys) all = absurd all
events_fewer oldest (x ∷ xs) [] all = absurd all
events_fewer oldest (x ∷ xs) (y ∷ ys) all =
    let weigh : TableContents → ℕ = λ t. length t.events in
    omega (arith, sum_by-cons weigh x xs, sum_by-cons weigh y ys, (lost oldest x y all.0).events, events_fewer oldest xs ys all.1)

-- as many as one lost, all lost
one_of_all : (oldest : ℕ) (xs ys : List TableContents) (k : ℕ) (x y : TableContents) → AllZip (ClearsTable oldest) xs ys → slice_get xs k ≡ Some x → slice_get ys k ≡ Some y
    → events_in ys + length x.events ≤ events_in xs + length y.events
one_of_all oldest [] ys k x y all at there = absurd (cc)
one_of_all oldest (u ∷ us) [] k x y all at there = absurd all
one_of_all oldest (u ∷ us) (v ∷ vs) zero x y all at there =
    let weigh : TableContents → ℕ = λ t. length t.events in
    let one : u ≡ x = cc in
    let other : v ≡ y = cc in
    omega (arith, sum_by-cons weigh u us, sum_by-cons weigh v vs, ap weigh one, ap weigh other, events_fewer oldest us vs all.1)
one_of_all oldest (u ∷ us) (v ∷ vs) (suc k) x y all at there =
    let weigh : TableContents → ℕ = λ t. length t.events in
    omega (arith, sum_by-cons weigh u us, sum_by-cons weigh v vs, (lost oldest u v all.0).events, one_of_all oldest us vs k x y all.1 at there)

-- no table lost more than all did
one_at_most : (oldest most gone place : ℕ) (old now : Contents) (was is : TableContents) → ClearsSome oldest most gone old now → slice_get old.tables place ≡ Some was
    → slice_get now.tables place ≡ Some is → length was.events ≤ length is.events + gone
one_at_most oldest most gone place old now was is some there here =
    let parts = some.parts in
    omega (
      arith,
      some.many,
      one_of_all oldest old.tables now.tables place was is parts.tables there here,
      fewer_there kept_referents oldest parts.referents.cells old.referents.referents now.referents.referents parts.referents.cleared,
    )

-- what came first came first when more went
first_stays : (oldest most one other place : ℕ) (old next now : Contents) → one ≤ most → other ≤ most - one → ClearsSome oldest most one old next → ClearsSome oldest (most - one) other next now
    → ClearsFirst oldest most place old next → ClearsFirst oldest most place old now
first_stays oldest most one other place old next now few fewer first second comes = record {
  first = λ below was is there here.
      let back = back_at (ClearsTable oldest) next.tables now.tables place is second.parts.tables here in
      let before = back_at (ClearsTable oldest) old.tables next.tables place back.0 first.parts.tables back.1 in
      let same : before.0 ≡ was = let at = before.1 in cc in
      let half = lost oldest was back.0 (subst (λ (t : TableContents). ClearsTable oldest t back.0) same before.2) in
      let rest = lost oldest back.0 is back.2 in
      counted most one other half.many rest.many (clearable_events oldest was.events) (clearable_events oldest back.0.events) (clearable_events oldest is.events)
      (length was.events) (length back.0.events) (length is.events) few fewer half.events half.may_go rest.events rest.may_go (comes.first below was back.0 there back.1)
      (one_at_most oldest most one place old next was back.0 first there back.1) (one_at_most oldest (most - one) other place next now back.0 is second back.1 here);
} where
  counted : (m a b g h x y z u v w : ℕ) → a ≤ m → b ≤ m - a → u ≡ v + g → g + y ≡ x → v ≡ w + h → h + z ≡ y → u ≡ v + min m x → u ≤ v + a → v ≤ w + b → u ≡ w + min m x
  counted m a b g h x y z u v w few fewer e f i j k l n = omega arith

-- what came first after none went came first
first_after_none : (oldest most other place : ℕ) (old next now : Contents) → ClearsSome oldest most 0 old next → ClearsSome oldest most other next now → ClearsFirst oldest most place next now → ClearsFirst oldest most place old now
first_after_none oldest most other place old next now none second comes = record {
  first = λ below was is there here.
      let back = back_at (ClearsTable oldest) next.tables now.tables place is second.parts.tables here in
      let before = back_at (ClearsTable oldest) old.tables next.tables place back.0 none.parts.tables back.1 in
      let same : before.0 ≡ was = let at = before.1 in cc in
      let half = lost oldest was back.0 (subst (λ (t : TableContents). ClearsTable oldest t back.0) same before.2) in
      counted most half.many (clearable_events oldest was.events) (clearable_events oldest back.0.events) (length was.events) (length back.0.events) (length is.events)
      half.events half.may_go (one_at_most oldest most 0 place old next was back.0 none there back.1) (comes.first below back.0 is back.1 here);
} where
  counted : (m g x y u v w : ℕ) → u ≡ v + g → g + y ≡ x → u ≤ v + 0 → v ≡ w + min m y → u ≡ w + min m x
  counted m g x y u v w e f i j = omega arith

-- ---- tables one after another

pub places_none : (oldest most from : ℕ) (contents : Contents) → ClearsPlaces oldest most 0 from from contents contents
places_none oldest most from contents = record {
  some = some_none oldest most contents;
  first = λ less. absurd (omega arith);
  none = λ below fewer place low high. absurd (omega arith);
}

-- one place more
pub places_next : (oldest most one other from place : ℕ) → one ≤ most → other ≤ most - one → from ≤ place → (place ≡ from → one ≡ 0)
    → (old next now : Contents) → ClearsPlaces oldest most one from place old next → ClearsPlaces oldest (most - one) other place (place + 1) next now
    → ClearsPlaces oldest most (one + other) from (place + 1) old now
places_next oldest most one other from place few fewer past begun old next now first second = record {
  some = some_then oldest most one other old next now few fewer first.some second.some;
  first = λ less. elim (cases_lt from place) [
    | inl inside ↦ first_stays oldest most one other from old next now few fewer first.some second.some (first.first inside)
    | inr all ↦
        let same : place ≡ from = omega arith in
        let nothing : one ≡ 0 = begun same in
        let begins : most - one ≡ most = omega arith in
        first_after_none oldest most other from old next now (subst (λ n. ClearsSome oldest most n old next) nothing first.some)
        (subst (λ n. ClearsSome oldest n other next now) begins second.some)
        (subst (λ n. ClearsFirst oldest n from next now) begins (subst (λ n. ClearsFirst oldest (most - one) n next now) same (second.first (omega arith))))
  ];
  none = λ below less at low high. both_none oldest most one other from place place (place + 1) old next now first second below less at (side at low high);
} where
  side : (at : ℕ) → from ≤ at → at < place + 1 → ((from ≤ at) × (at < place)) ⊎ ((place ≤ at) × (at < place + 1))
  side at low high = elim (cases_lt at place) [
    | inl less ↦ inl (low, less)
    | inr past ↦ inr (past, high)
  ]

-- fewer places
pub places_below : (oldest most gone from mid to : ℕ) → to ≤ mid → (old now : Contents) → ClearsPlaces oldest most gone from mid old now → ClearsPlaces oldest most gone from to old now
places_below oldest most gone from mid to below old now clears = record {
  some = clears.some;
  first = λ less. clears.first (omega arith);
  none = λ under less place low high. clears.none under less place low (omega arith);
}

-- ---- tables without dead records

none_may_go : (map : PageMap) (oldest accepted : ℕ) (opened : List OpenedTable) (tables : List TableContents) → AllByRecursion HasNoneDead opened → AllZip IsOpened opened tables
    → AllByRecursion (LiesTable map accepted) tables → (place : ℕ) (table : TableContents) → slice_get tables place ≡ Some table → oldest < LIVING → clearable_events oldest table.events ≡ 0
none_may_go map oldest accepted opened tables none are lie place table there below =
    let back = back_at IsOpened opened tables place table are there in
    let one : OpenedTable = back.0 in
    let is = back.2 in
    let lies = all_at (LiesTable map accepted) tables place table lie there in
    let holds : HoldsRecords (kept_events one.records.types) map one.records.working accepted table.events table.used =
    subst (λ (ts : List ColumnType). HoldsRecords (kept_events ts) map one.records.working accepted table.events table.used) (sym is.types)
    (subst (λ (s : Standing). HoldsRecords (kept_events table.types) map s accepted table.events table.used) (sym is.stands) lies.records) in
    let clears = cleared_as_it_is map one oldest 1 (all_at HasNoneDead opened place one none back.1) in
    omega (arith, clears.as_many table.events table.used accepted holds below)

-- where no record is dead, the tables are cleared as they are
places_idle : (map : PageMap) (file : OpenedFile) (oldest most from to : ℕ) → AllByRecursion HasNoneDead file.tables.items → (accepted : ℕ)
    → Makes map map file file accepted accepted (ClearsPlaces oldest most 0 from to)
places_idle map file oldest most from to none accepted = record {
  each = λ contents holds opened.
      let no_event : (place : ℕ) (table : TableContents) → slice_get contents.tables place ≡ Some table → oldest < LIVING → clearable_events oldest table.events ≡ 0 =
      none_may_go map oldest accepted file.tables.items contents.tables none opened.tables holds.tables in
      record {
        contents = contents;
        holds = holds;
        opened = opened;
        directory = refl;
        changed = record {
          some = some_none oldest most contents;
          first = λ less. record {
            first = λ below was is there here.
                let same : was ≡ is = cc in
                omega (arith, ap (λ (t : TableContents). length t.events) same, no_event from was there below);
          };
          none = λ below fewer place low high. record { none = λ table there. no_event place table there below };
        };
      };
}

-- ---- one table

-- so many of a table's events are gone
pub record Went (types : List ColumnType) (oldest most gone : ℕ) (old now : List Event) : Type 0 where
  pub cells : List (List ℕ)
  pub many : length cells ≡ gone
  pub cleared : HasCleared (kept_events types) oldest cells old now
  pub as_many : oldest < LIVING → gone ≡ min most (clearable_events oldest old)

pub opened_went : (old new : PageMap) (was is : OpenedTable) (oldest most gone : ℕ) → ClearsOpened old new was is oldest most gone → (accepted : ℕ)
    → ChangesTable was.records.types old new was.records.working is.records.working was.indexes.items is.indexes.items accepted accepted (Went was.records.types oldest most gone)
opened_went old new was is oldest most gone clears accepted = record {
  each = λ events used uses others holds shares.
      let become = (clears.changes accepted).each events used uses others holds shares in
      record {
        events = become.events;
        after = become.after;
        afters = become.afters;
        holds = become.holds;
        moves = become.moves;
        changed = record { cells = clears.cells; many = clears.many; cleared = become.changed; as_many = λ below. clears.as_many events used accepted holds.records below };
      };
}

at_middle : {X : Type 0} (before : List X) (x : X) (after : List X) → slice_get (before ++ x ∷ after) (length before) ≡ Some x
at_middle [] x after = refl
at_middle (b ∷ bs) x after = at_middle bs x after

-- the sum of one table and the others
pub split_sum : (weigh : TableContents → ℕ) (before : List TableContents) (table : TableContents) (after : List TableContents)
    → sum_by weigh (before ++ table ∷ after) ≡ sum_by weigh before + (weigh table + sum_by weigh after)
split_sum weigh before table after =
    omega (arith, sum_by-append weigh before (table ∷ after), sum_by-cons weigh table after)

pub clears_at : (types : List ColumnType) (place oldest most gone : ℕ) (old now : Contents) → ChangesAt types place (Went types oldest most gone) old now → ClearsPlaces oldest most gone place (place + 1) old now
clears_at types place oldest most gone old now at =
    let weigh : TableContents → ℕ = λ t. clearable_events oldest t.events in
    let went = at.changed in
    let kept : HasCleared (kept_events at.table.types) oldest went.cells at.table.events at.next.events = subst (λ (ts : List ColumnType). HasCleared (kept_events ts) oldest went.cells at.table.events at.next.events) (sym at.columns_are) went.cleared in
    let fewer = fewer_may_go (kept_events types) oldest went.cells at.table.events at.next.events went.cleared in
    let there = fewer_there (kept_events types) oldest went.cells at.table.events at.next.events went.cleared in
    let long : TableContents → ℕ = λ t. length t.events in
    let tables : now.tables ≡ at.before ++ at.next ∷ at.after = ap (λ (c : Contents). c.tables) at.are in
    let referents : now.referents ≡ old.referents = ap (λ (c : Contents). c.referents) at.are in
    record {
      some = record {
        parts = record {
          definitions = ap (λ (c : Contents). c.definitions) at.are;
          directory = ap (λ (c : Contents). c.directory) at.are;
          tables = subst (λ (ts : List TableContents). AllZip (ClearsTable oldest) ts now.tables) (sym at.were)
              (subst (AllZip (ClearsTable oldest) (at.before ++ at.table ∷ at.after)) (sym tables)
              (together (ClearsTable oldest) at.before at.table at.after at.before at.next at.after (each_same (ClearsTable oldest) (same_table oldest) at.before)
              (record { types = at.types; cells = went.cells; cleared = kept }) (each_same (ClearsTable oldest) (same_table oldest) at.after)));
          referents = subst (λ (r : ReferentContents). ClearsReferents oldest old.referents.referents r.referents) (sym referents)
              (record { cells = []; cleared = none_cleared kept_referents oldest old.referents.referents });
        };
        many = omega (
          arith,
          there,
          went.many,
          ap (sum_by long) at.were,
          split_sum long at.before at.table at.after,
          ap (sum_by long) tables,
          split_sum long at.before at.next at.after,
          ap (λ (r : ReferentContents). length r.referents) referents,
        );
        left = λ below.
            counted most gone (clearable_events oldest at.table.events) (clearable_events oldest at.next.events) (sum_by weigh at.before) (sum_by weigh at.after) (clearable_referents oldest old.referents.referents)
            (clearable oldest old) (clearable oldest now) (went.as_many below) (omega (arith, fewer, went.many))
            (omega (arith, ap (sum_by weigh) at.were, split_sum weigh at.before at.table at.after))
            (omega (arith, ap (sum_by weigh) tables, split_sum weigh at.before at.next at.after, ap (λ (r : ReferentContents). clearable_referents oldest r.referents) referents));
      };
      first = λ less. record {
        first = λ below was is here now_here.
            let one : at.table ≡ was = let middle = subst (λ n. slice_get (at.before ++ at.table ∷ at.after) n ≡ Some at.table) at.long (at_middle at.before at.table at.after) in
            let found = subst (λ (ts : List TableContents). slice_get ts place ≡ Some was) at.were here in cc in
            let other : at.next ≡ is = let middle = subst (λ n. slice_get (at.before ++ at.next ∷ at.after) n ≡ Some at.next) at.long (at_middle at.before at.next at.after) in
            let found = subst (λ (ts : List TableContents). slice_get ts place ≡ Some is) tables now_here in cc in
            omega (arith, ap long one, ap long other, ap (λ (t : TableContents). clearable_events oldest t.events) one, there, went.many, went.as_many below);
      };
      none = λ below less other low high. record {
        none = λ table there.
            let where_it_is : other ≡ length at.before = omega (arith, at.long) in
            let found : slice_get (at.before ++ at.next ∷ at.after) (length at.before) ≡ Some table =
            subst (λ n. slice_get (at.before ++ at.next ∷ at.after) n ≡ Some table) where_it_is (subst (λ (ts : List TableContents). slice_get ts other ≡ Some table) tables there) in
            let same : at.next ≡ table = let middle = at_middle at.before at.next at.after in cc in
            let zero_left : clearable_events oldest at.next.events ≡ 0 = omega (arith, fewer, went.many, went.as_many below) in
            subst (λ (t : TableContents). clearable_events oldest t.events ≡ 0) same zero_left;
      };
    } where
      counted : (m g t n a b r x y : ℕ) → g ≡ min m t → g + n ≡ t → x ≡ (a + (t + b)) + r → y ≡ (a + (n + b)) + r → g + min (m - g) y ≡ min m x
      counted m g t n a b r x y e f h i = omega arith

-- ---- the referents

pub record WentReferents (oldest most gone : ℕ) (old now : List ReferentRecord) : Type 0 where
  pub cells : List (List ℕ)
  pub many : length cells ≡ gone
  pub cleared : HasCleared kept_referents oldest cells old now
  pub as_many : oldest < LIVING → gone ≡ min most (clearable_referents oldest old)

pub referents_went : (old new : PageMap) (was is : Standing) (oldest most : ℕ) (taken : Cells) (gone : ℕ) → length (listed taken) ≡ gone → IsVacuumed kept_referents old new was is oldest most taken
    → (accepted : ℕ) → ChangesRecords kept_referents old new was is accepted accepted (WentReferents oldest most gone)
referents_went old new was is oldest most taken gone many vacuumed accepted = record {
  each = λ records used others holds shares.
      let become = (vacuumed.changes accepted).each records used others holds shares in
      record {
        records = become.records;
        after = become.after;
        holds = become.holds;
        moves = become.moves;
        changed = record { cells = listed taken; many = many; cleared = become.changed; as_many = λ below. sym many ∙ vacuumed.as_many records used accepted holds below };
      };
}

pub clears_referents : (oldest most gone : ℕ) (old now : Contents) → ChangesReferents (WentReferents oldest most gone) old now → ClearsAllReferents oldest most gone old now
clears_referents oldest most gone old now changes =
    let weigh : TableContents → ℕ = λ t. clearable_events oldest t.events in
    let went = changes.changed in
    let fewer = fewer_may_go kept_referents oldest went.cells old.referents.referents now.referents.referents went.cleared in
    let there = fewer_there kept_referents oldest went.cells old.referents.referents now.referents.referents went.cleared in
    let tables : now.tables ≡ old.tables = ap (λ (c : Contents). c.tables) changes.rest in
    record {
      some = record {
        parts = record {
          definitions = ap (λ (c : Contents). c.definitions) changes.rest;
          directory = ap (λ (c : Contents). c.directory) changes.rest;
          tables = subst (AllZip (ClearsTable oldest) old.tables) (sym tables) (each_same (ClearsTable oldest) (same_table oldest) old.tables);
          referents = record { cells = went.cells; cleared = went.cleared };
        };
        many = omega (arith, there, went.many, ap events_in tables);
        left = λ below. counted most gone (clearable_referents oldest old.referents.referents) (clearable_referents oldest now.referents.referents) (sum_by weigh old.tables)
            (clearable oldest old) (clearable oldest now) (went.as_many below) (omega (arith, fewer, went.many)) refl (omega (arith, ap (sum_by weigh) tables));
      };
      tables = tables;
      none = λ below less. omega (arith, fewer, went.many, went.as_many below);
    } where
      counted : (m g t n a x y : ℕ) → g ≡ min m t → g + n ≡ t → x ≡ a + t → y ≡ a + n → g + min (m - g) y ≡ min m x
      counted m g t n a x y e f h i = omega arith

-- ---- all

all_none : (weigh : TableContents → ℕ) (tables : List TableContents) → ((place : ℕ) (table : TableContents) → slice_get tables place ≡ Some table → weigh table ≡ 0) → sum_by weigh tables ≡ 0
all_none weigh [] none = refl
all_none weigh (t ∷ ts) none = omega (arith, sum_by-cons weigh t ts, none 0 t refl, all_none weigh ts (λ place table there. none (suc place) table there))

-- as many went as were asked for or could go, first of one table
pub record ClearsInTurn (oldest most gone place : ℕ) (old now : Contents) : Type 0 where
  pub as_many : ClearsAsMany oldest most gone old now
  pub first : ClearsFirst oldest most place old now

-- the tables from one place on, then those before it, at last the referents
pub clears_all : (oldest most one other last start place : ℕ) (old next between now : Contents) → (0 < length old.tables → start ≡ place) → one ≤ most → other ≤ most - one → last ≤ (most - one) - other
    → ClearsPlaces oldest most one start (length old.tables) old next → ClearsPlaces oldest (most - one) other 0 start next between
    → ClearsAllReferents oldest ((most - one) - other) last between now → ClearsInTurn oldest most ((one + other) + last) place old now
clears_all oldest most one other last start place old next between now are few fewer fewest first second third =
    let both = some_then oldest most one other old next between few fewer first.some second.some in
    let less : (most - one) - other ≡ most - (one + other) = omega arith in
    let referents = subst (λ n. ClearsSome oldest n last between now) less third.some in
    let all = some_then oldest most (one + other) last old between now (omega arith) (omega arith) both referents in
    let begins : ClearsFirst oldest most start old now = elim (cases_lt start (length old.tables)) [
      | inl inside ↦
          first_stays oldest most (one + other) last start old between now (omega arith) (omega arith) both referents
          (first_stays oldest most one other start old next between few fewer first.some second.some (first.first inside))
      | inr past ↦ record { first = λ below was is there here. absurd (omega (arith, has_inside old.tables start was there)) }
    ] in
    record {
      as_many = record {
        parts = all.parts;
        many = all.many;
        as_many = λ below. elim (cases_lt ((one + other) + last) most) [
          | inl under ↦
              let weigh : TableContents → ℕ = λ t. clearable_events oldest t.events in
              let long : length between.tables ≡ length old.tables = sym (zip_lengths (ClearsTable oldest) old.tables between.tables both.parts.tables) in
              let none : sum_by weigh between.tables ≡ 0 = all_none weigh between.tables (λ place table there.
              (both_none oldest most one other start (length old.tables) 0 start old next between first second below (omega arith) place
              (side start (length old.tables) place (omega (arith, has_inside between.tables place table there, long)))).none table there) in
              omega (arith, all.left below, none, ap (sum_by weigh) third.tables, third.none below (omega arith))
          | inr full ↦ omega (arith, all.left below)
        ];
      };
      first = elim (cases_lt 0 (length old.tables)) [
        | inl some ↦ subst (λ n. ClearsFirst oldest most n old now) (are some) begins
        | inr none ↦ record { first = λ below was is there here. absurd (omega (arith, has_inside old.tables place was there)) }
      ];
    } where
      side : (from to at : ℕ) → at < to → ((from ≤ at) × (at < to)) ⊎ ((0 ≤ at) × (at < from))
      side from to at high = elim (cases_lt at from) [
        | inl less ↦ inr (omega arith, less)
        | inr past ↦ inl (past, high)
      ]

-- as changes of what lies there
pub all_cleared : (p0 p1 p2 p3 : PageMap) (f0 f1 f2 f3 : OpenedFile) (oldest most one other last start count place : ℕ) → count ≡ length f0.tables.items → (0 < count → start ≡ place)
    → one ≤ most → other ≤ most - one → last ≤ (most - one) - other
    → ((accepted : ℕ) → Makes p0 p1 f0 f1 accepted accepted (ClearsPlaces oldest most one start count))
    → ((accepted : ℕ) → Makes p1 p2 f1 f2 accepted accepted (ClearsPlaces oldest (most - one) other 0 start))
    → ((accepted : ℕ) → Makes p2 p3 f2 f3 accepted accepted (ClearsAllReferents oldest ((most - one) - other) last))
    → (accepted : ℕ) → Makes p0 p3 f0 f3 accepted accepted (ClearsInTurn oldest most ((one + other) + last) place)
all_cleared p0 p1 p2 p3 f0 f1 f2 f3 oldest most one other last start count place many are few fewer fewest first second third accepted = record {
  each = λ contents holds opened.
      let m1 = (first accepted).each contents holds opened in
      let m2 = (second accepted).each m1.contents m1.holds m1.opened in
      let m3 = (third accepted).each m2.contents m2.holds m2.opened in
      let as_many : count ≡ length contents.tables = many ∙ zip_lengths IsOpened f0.tables.items contents.tables opened.tables in
      record {
        contents = m3.contents;
        holds = m3.holds;
        opened = m3.opened;
        directory = m3.directory ∙ m2.directory ∙ m1.directory;
        changed = clears_all oldest most one other last start place contents m1.contents m2.contents m3.contents (λ some. are (omega arith)) few fewer fewest
            (subst (λ n. ClearsPlaces oldest most one start n contents m1.contents) as_many m1.changed) m2.changed m3.changed;
      };
}

-- where no record of a table is dead, clearing the referents clears all
pub referents_alone : (old new : PageMap) (was is : OpenedFile) (oldest most gone place : ℕ) → AllByRecursion HasNoneDead was.tables.items → gone ≤ most
    → ((accepted : ℕ) → Makes old new was is accepted accepted (ClearsAllReferents oldest most gone))
    → (accepted : ℕ) → Makes old new was is accepted accepted (ClearsInTurn oldest most gone place)
referents_alone old new was is oldest most gone place none few clears accepted =
    let all : (0 + 0) + gone ≡ gone = omega arith in
    let left : most ≡ (most - 0) - 0 = omega arith in
    let count = length was.tables.items in
    subst (λ n. Makes old new was is accepted accepted (ClearsInTurn oldest most n place)) all
    (all_cleared old old old new was was was is oldest most 0 0 gone place count place refl (λ some. refl) (omega arith) (omega arith) (omega arith)
    (places_idle old was oldest most place count none) (places_idle old was oldest (most - 0) 0 place none)
    (λ at. subst (λ n. Makes old new was is at at (ClearsAllReferents oldest n gone)) left (clears at)) accepted)

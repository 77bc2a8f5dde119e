-- One table more or less among the others: its place, and the events under each number.
use Rattle.std.proofs.Common.{◌≡◌, ◌≤◌, ◌+◌, ◌==◌, ◌∙◌, ℕ, zero, suc, true, false, Some, List, [], ◌∷◌, ◌++◌, length, slice_get, refl, sym, ap, arith}
use Rattle.std.specs.Prelude.{Contains, if◌then◌else◌}
use Rattle.std.specs.List.{AllZip}
use Rattle.std.proofs.lemmas.Bool.{eqb-true}
use Rattle.rs_catalog_pages.specs.Items.{TableItem}
use Rattle.rs_catalog_pages.proofs.Counting.{times-cons}
use Rattle.rs_file_parts.specs.Contents.{TableContents}
use Rattle.rs_page_owners.specs.Counts.{one_at, times}
use Rattle.rs_page_owners.proofs.Moving.{one_at-same}
use Rattle.rs_versioned.specs.Events.{Event}
use Rattle.rs_file_meaning.specs.Changed.{HaveOwnNumbers}
use Rattle.rs_file_meaning.specs.Seen.{events_with}
use Rattle.rs_change_laws.proofs.DroppedRoutes.{none_with, numbers_of}
use Rattle.rs_file_meaning.proofs.Named.{later_there}

-- ---- places

-- a number that is found in a list is there
found_once : (numbers : List ℕ) (k number : ℕ) → slice_get numbers k ≡ Some number → 1 ≤ times numbers number
found_once [] k number is = absurd (cc)
found_once (n ∷ numbers) zero number is =
    let same : n ≡ number = cc in
    omega (arith, times-cons n numbers number, ap (λ m. one_at m number) same, one_at-same number)
found_once (n ∷ numbers) (suc k) number is = omega (arith, times-cons n numbers number, found_once numbers k number is)

-- so is that of an item that is listed
pub counted_there : (items : List TableItem) (table : TableItem) → Contains items table → 1 ≤ times (numbers_of items) table.number
counted_there [] table there = absurd (omega (arith, there.1))
counted_there (i ∷ items) table (zero, inside, is) =
    omega (arith, times-cons i.number (numbers_of items) table.number, ap (λ (t : TableItem). one_at t.number table.number) is, one_at-same table.number)
counted_there (i ∷ items) table (suc k, inside, is) =
    omega (arith, times-cons i.number (numbers_of items) table.number, counted_there items table (k, omega arith, is))

-- an item among others counts once more
pub times_put : (first : List TableItem) (one : TableItem) (last : List TableItem) (number : ℕ)
    → times (numbers_of (first ++ one ∷ last)) number ≡ one_at one.number number + times (numbers_of (first ++ last)) number
times_put [] one last number = times-cons one.number (numbers_of last) number
times_put (f ∷ first) one last number =
    omega (arith, times-cons f.number (numbers_of (first ++ one ∷ last)) number, times-cons f.number (numbers_of (first ++ last)) number, times_put first one last number)

-- its number is at its place alone
pub place_of : (first : List TableItem) (one : TableItem) (last : List TableItem) (place : ℕ) → times (numbers_of (first ++ one ∷ last)) one.number ≤ 1
    → slice_get (numbers_of (first ++ one ∷ last)) place ≡ Some one.number → length first ≡ place
place_of [] one last zero once is = refl
place_of [] one last (suc k) once is =
    absurd (omega (arith, times-cons one.number (numbers_of last) one.number, one_at-same one.number, found_once (numbers_of last) k one.number is, once))
place_of (f ∷ first) one last zero once is =
    let same : f.number ≡ one.number = cc in
    absurd (omega (
      arith,
      times-cons f.number (numbers_of (first ++ one ∷ last)) one.number,
      ap (λ n. one_at n one.number) same,
      one_at-same one.number,
      times_put first one last one.number,
      once,
    ))
place_of (f ∷ first) one last (suc k) once is =
    let rest = place_of first one last k (omega (arith, once, times-cons f.number (numbers_of (first ++ one ∷ last)) one.number)) is in
    omega (arith, rest)

-- ---- events

-- a number that no table has is without events
pub none_under : (items : List TableItem) (tables : List TableContents) (number : ℕ) → ((item : TableItem) → Contains items item → item.number ≡ number → ⊥)
    → events_with items tables number ≡ []
none_under [] tables number apart = refl
none_under (i ∷ items) [] number apart = refl
none_under (i ∷ items) (t ∷ tables) number apart =
    elim (i.number == number) as (λ b. (i.number == number) ≡ b → (if b then t.events else events_with items tables number) ≡ []) [
      | true ↦ λ same. absurd (apart i (0, omega arith, refl) (eqb-true i.number number same))
      | false ↦ λ other. none_under items tables number (λ one there. apart one (later_there i one items there))
    ] refl

-- where a table stands among the others, other numbers have the events that they have without it
pub events_beside : (number : ℕ) (first : List TableItem) (item : TableItem) (last : List TableItem) (before : List TableContents) (table : TableContents) (after : List TableContents)
    → length first ≡ length before → (number ≡ item.number → ⊥)
    → events_with (first ++ item ∷ last) (before ++ table ∷ after) number ≡ events_with (first ++ last) (before ++ after) number
events_beside number [] item last [] table after long apart =
    elim (item.number == number) as (λ b. (item.number == number) ≡ b → (if b then table.events else events_with last after number) ≡ events_with last after number) [
      | true ↦ λ same. absurd (apart (sym (eqb-true item.number number same)))
      | false ↦ λ other. refl
    ] refl
events_beside number [] item last (b ∷ before) table after long apart = absurd (omega (arith, long))
events_beside number (f ∷ first) item last [] table after long apart = absurd (omega (arith, long))
events_beside number (f ∷ first) item last (b ∷ before) table after long apart =
    ap (λ (events : List Event). if f.number == number then b.events else events) (events_beside number first item last before table after (omega (arith, long)) apart)

-- where it has none itself, each number has what it has without it
pub events_come : (number : ℕ) (first : List TableItem) (item : TableItem) (last : List TableItem) (before : List TableContents) (table : TableContents) (after : List TableContents)
    → length first ≡ length before → HaveOwnNumbers (first ++ item ∷ last) → table.events ≡ []
    → events_with (first ++ item ∷ last) (before ++ table ∷ after) number ≡ events_with (first ++ last) (before ++ after) number
events_come number [] item last [] table after long own none =
    elim (item.number == number) as (λ b. (item.number == number) ≡ b → (if b then table.events else events_with last after number) ≡ events_with last after number) [
      | true ↦ λ same. none ∙ sym (none_with last after number
          (omega (arith, own number, times-cons item.number (numbers_of last) number, ap (λ n. one_at n number) (eqb-true item.number number same), one_at-same number)))
      | false ↦ λ other. refl
    ] refl
events_come number [] item last (b ∷ before) table after long own none = absurd (omega (arith, long))
events_come number (f ∷ first) item last [] table after long own none = absurd (omega (arith, long))
events_come number (f ∷ first) item last (b ∷ before) table after long own none =
    ap (λ (events : List Event). if f.number == number then b.events else events)
    (events_come number first item last before table after (omega (arith, long)) (λ n. omega (arith, own n, times-cons f.number (numbers_of (first ++ item ∷ last)) n)) none)

-- another table of the same events in its place changes none
pub same_events : (number : ℕ) (items : List TableItem) (before : List TableContents) (table next : TableContents) (after : List TableContents) → next.events ≡ table.events
    → events_with items (before ++ next ∷ after) number ≡ events_with items (before ++ table ∷ after) number
same_events number [] before table next after same = refl
same_events number (i ∷ items) [] table next after same = ap (λ (events : List Event). if i.number == number then events else events_with items after number) same
same_events number (i ∷ items) (b ∷ before) table next after same =
    ap (λ (events : List Event). if i.number == number then b.events else events) (same_events number items before table next after same)

each_itself : (tables : List TableContents) → AllZip (λ table same. table.events ≡ same.events) tables tables
each_itself [] = tt
each_itself (t ∷ tables) = (refl, each_itself tables)

pub each_same : (before : List TableContents) (table next : TableContents) (after : List TableContents) → next.events ≡ table.events
    → AllZip (λ table same. table.events ≡ same.events) (before ++ table ∷ after) (before ++ next ∷ after)
each_same [] table next after same = (sym same, each_itself after)
each_same (b ∷ before) table next after same = (refl, each_same before table next after same)

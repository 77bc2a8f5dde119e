-- The table with a number: what is open of it, and its events among the contents.
use Rattle.std.proofs.Common.{◌≡◌, ◌<◌, ◌≤◌, ◌==◌, ◌∙◌, ℕ, zero, suc, Bool, true, false, List, [], ◌∷◌, Some, ap, length, map, refl, slice_get, subst, sym, arith}
use Rattle.std.specs.Prelude.{if◌then◌else◌}
use Rattle.std.specs.List.{AllByRecursion, AllZip}
use Rattle.std.proofs.lemmas.Bool.{eq-eqb, eqb-true}
use Rattle.std.proofs.lemmas.Option.{none-some, same_Some}
use Rattle.rs_catalog_pages.proofs.Counting.{times-cons}
use Rattle.rs_catalog_pages.specs.Items as items
use Rattle.rs_catalog_pages.specs.Said.{said_table}
use Rattle.rs_catalog_pages.specs.declared.items.StoredTable.{StoredTable}
use Rattle.rs_file.specs.Contents.{TableContents}
use Rattle.rs_file.specs.Opening.{IsOpened}
use Rattle.rs_file.specs.declared.opened.OpenedTable.{OpenedTable}
use Rattle.rs_file_meaning.specs.Seen.{events_with}
use Rattle.rs_page_owners.proofs.Moving.{one_at-same}
use Rattle.rs_page_owners.specs.Counts.{one_at, times}
use Rattle.rs_versioned.specs.Events.{Event}
use Rattle.rs_store.specs.Placing.{HasNoNumber}
use Rattle.rs_store.specs.Reading.{living_with}

abbrev said_tables : List StoredTable → List items.TableItem
said_tables = map said_table

abbrev numbers_of : List StoredTable → List ℕ
numbers_of tables = map (λ (table : items.TableItem). table.number) (said_tables tables)

-- as many tables are open as are defined
pub open_within : (R : items.TableItem → OpenedTable → Type 0) (defined : List StoredTable) (opened : List OpenedTable) (place : ℕ) (item : StoredTable)
    → AllZip R (said_tables defined) opened → slice_get defined place ≡ Some item → place < length opened
open_within R [] opened place item all is = absurd (none-some item is)
open_within R (i ∷ defined) [] place item all is = absurd all
open_within R (i ∷ defined) (o ∷ opened) zero item all is = omega arith
open_within R (i ∷ defined) (o ∷ opened) (suc place) item all is = let rest = open_within R defined opened place item all.1 is in omega (arith, rest)

none_after : (item : StoredTable) (defined : List StoredTable) (number : ℕ) → HasNoNumber (item ∷ defined) number → HasNoNumber defined number
none_after item defined number none = record { none = λ place table there is. none.none (suc place) table there is }

-- none lives where no table has the number
pub none_live : (defined : List StoredTable) (opened : List OpenedTable) (number : ℕ) → HasNoNumber defined number → living_with defined opened number ≡ 0
none_live [] opened number none = refl
none_live (i ∷ defined) [] number none = refl
none_live (i ∷ defined) (o ∷ opened) number none =
    elim (i.number == number) as (λ b. (i.number == number) ≡ b → (if b then o.records.working.living else living_with defined opened number) ≡ 0) [
      | true ↦ λ same. absurd (none.none 0 i refl (eqb-true i.number number same))
      | false ↦ λ apart. none_live defined opened number (none_after i defined number none)
    ] refl

-- nor has it events
pub none_lie : (defined : List StoredTable) (tables : List TableContents) (number : ℕ) → HasNoNumber defined number → events_with (said_tables defined) tables number ≡ []
none_lie [] tables number none = refl
none_lie (i ∷ defined) [] number none = refl
none_lie (i ∷ defined) (t ∷ tables) number none =
    elim (i.number == number) as (λ b. (i.number == number) ≡ b → (if b then t.events else events_with (said_tables defined) tables number) ≡ []) [
      | true ↦ λ same. absurd (none.none 0 i refl (eqb-true i.number number same))
      | false ↦ λ apart. none_lie defined tables number (none_after i defined number none)
    ] refl

-- the contents of a table that is open
pub record LiesOpen (R : TableContents → Type 0) (events : List Event) (opened : OpenedTable) : Type 0 where
  pub table : TableContents
  pub are : events ≡ table.events
  pub as_opened : IsOpened opened table
  pub lies : R table

module _ (number : ℕ) where
  some_numbered : (defined : List StoredTable) (place : ℕ) (item : StoredTable) → slice_get defined place ≡ Some item → item.number ≡ number → 1 ≤ times (numbers_of defined) number
  some_numbered [] place item is same = absurd (none-some item is)
  some_numbered (i ∷ defined) zero item is same =
      let here : i.number ≡ number = ap (λ (t : StoredTable). t.number) (same_Some i item is) ∙ same in
      omega (arith, times-cons i.number (numbers_of defined) number, ap (λ n. one_at n number) here, one_at-same number)
  some_numbered (i ∷ defined) (suc place) item is same = omega (arith, times-cons i.number (numbers_of defined) number, some_numbered defined place item is same)

  -- the first has another number, where a later one has it alone
  not_first : (i : StoredTable) (defined : List StoredTable) (place : ℕ) (item : StoredTable) → slice_get defined place ≡ Some item → item.number ≡ number
      → times (numbers_of (i ∷ defined)) number ≤ 1 → (i.number == number) ≡ true → ⊥
  not_first i defined place item is same once first =
      omega (arith, times-cons i.number (numbers_of defined) number, ap (λ n. one_at n number) (eqb-true i.number number first), one_at-same number, some_numbered defined place item is same, once)

  fewer : (i : StoredTable) (defined : List StoredTable) → times (numbers_of (i ∷ defined)) number ≤ 1 → times (numbers_of defined) number ≤ 1
  fewer i defined once = omega (arith, times-cons i.number (numbers_of defined) number, once)

  first_is : (i item : StoredTable) → Some i ≡ Some item → item.number ≡ number → (i.number == number) ≡ true
  first_is i item is same = eq-eqb i.number number (ap (λ (t : StoredTable). t.number) (same_Some i item is) ∙ same)

  pub living_at : (defined : List StoredTable) (opened : List OpenedTable) (place : ℕ) (item : StoredTable) (one : OpenedTable) → slice_get defined place ≡ Some item → item.number ≡ number
      → slice_get opened place ≡ Some one → times (numbers_of defined) number ≤ 1 → one.records.working.living ≡ living_with defined opened number
  living_at [] opened place item one is same there once = absurd (none-some item is)
  living_at (i ∷ defined) [] place item one is same there once = absurd (none-some one there)
  living_at (i ∷ defined) (o ∷ opened) zero item one is same there once =
      ap (λ (t : OpenedTable). t.records.working.living) (sym (same_Some o one there))
      ∙ sym (ap (λ (b : Bool). if b then o.records.working.living else living_with defined opened number) (first_is i item is same))
  living_at (i ∷ defined) (o ∷ opened) (suc place) item one is same there once =
      elim (i.number == number) as (λ b. (i.number == number) ≡ b → one.records.working.living ≡ (if b then o.records.working.living else living_with defined opened number)) [
        | true ↦ λ first. absurd (not_first i defined place item is same once first)
        | false ↦ λ apart. living_at defined opened place item one is same there (fewer i defined once)
      ] refl

  module _ (R : TableContents → Type 0) where
    pub lies_at : (defined : List StoredTable) (opened : List OpenedTable) (tables : List TableContents) (place : ℕ) (item : StoredTable) (one : OpenedTable)
        → slice_get defined place ≡ Some item → item.number ≡ number → slice_get opened place ≡ Some one → AllZip IsOpened opened tables → AllByRecursion R tables
        → times (numbers_of defined) number ≤ 1 → LiesOpen R (events_with (said_tables defined) tables number) one
    lies_at [] opened tables place item one is same there opens lie once = absurd (none-some item is)
    lies_at (i ∷ defined) [] tables place item one is same there opens lie once = absurd (none-some one there)
    lies_at (i ∷ defined) (o ∷ opened) [] place item one is same there opens lie once = absurd opens
    lies_at (i ∷ defined) (o ∷ opened) (t ∷ tables) zero item one is same there opens lie once = record {
      table = t;
      are = ap (λ (b : Bool). if b then t.events else events_with (said_tables defined) tables number) (first_is i item is same);
      as_opened = subst (λ (p : OpenedTable). IsOpened p t) (same_Some o one there) opens.0;
      lies = lie.0;
    }
    lies_at (i ∷ defined) (o ∷ opened) (t ∷ tables) (suc place) item one is same there opens lie once =
        let rest = lies_at defined opened tables place item one is same there opens.1 lie.1 (fewer i defined once) in
        record {
          table = rest.table;
          are = elim (i.number == number) as (λ b. (i.number == number) ≡ b → (if b then t.events else events_with (said_tables defined) tables number) ≡ rest.table.events) [
            | true ↦ λ first. absurd (not_first i defined place item is same once first)
            | false ↦ λ apart. rest.are
          ] refl;
          as_opened = rest.as_opened;
          lies = rest.lies;
        }

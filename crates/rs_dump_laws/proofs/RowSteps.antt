-- What a row of a dump changes of the tables, and what all rows make of them.
use Rattle.std.proofs.Common.{◌≡◌, ◌∙◌, ℕ, Bool, true, false, ◌&&◌, ◌||◌, cond, List, [], ◌∷◌, Option, Some, None, refl, sym, ap}
use Rattle.std.specs.Prelude.{fold, if◌then◌else◌}
use Rattle.std.specs.List.{list_any}
use Rattle.std.specs.Option.{option_map}
use Rattle.std.specs.FinMap as names
use Rattle.std.specs.FinMap.{get-insert}
use Rattle.rs_value.specs.Row.{Row}
use Rattle.rs_facts.specs.Fact.{Name, Names, contains}
use Rattle.rs_facts.specs.Insert.{after_insert, on_route, same_name, with_row}
use Rattle.rs_facts.specs.Query.{Table}
use Rattle.rs_facts.proofs.Placing.{contains-with_row}
use Rattle.rs_facts.proofs.SpanLaws.{holds}
use Rattle.rs_machine.specs.Step.{with_facts_along}
use Rattle.rs_machine.proofs.NameOrder.{name_cmp-total}
use Rattle.rs_dump_laws.specs.Parts.{PlacedRow}
use Rattle.rs_dump_laws.proofs.NamedThings.{same_name-true}

-- ---- one row

abbrev pub put_found : Names Table → PlacedRow → Option Table → Names Table
put_found tables one None = tables
put_found tables one (Some table) = names.insert tables one.table (with_facts_along table one.route one.span.lo one.span.hi one.span.row)

-- the row holds along its span, where its table is there
abbrev pub put_row : Names Table → PlacedRow → Names Table
put_row tables one = put_found tables one (names.get tables one.table)

-- a table of this name, with the row where it is of it
abbrev pub changed : Name → Table → PlacedRow → Table
changed name table one = if same_name name one.table then with_facts_along table one.route one.span.lo one.span.hi one.span.row else table

same_option : (f : Table → Table) → ((table : Table) → f table ≡ table) → (o : Option Table) → option_map f o ≡ o
same_option f same None = refl
same_option f same (Some table) = ap Some (same table)

other_table : (tables : Names Table) (one : PlacedRow) (q : Name) → same_name q one.table ≡ false → (o : Option Table) → names.get (put_found tables one o) q ≡ names.get tables q
other_table tables one q apart None = refl
other_table tables one q apart (Some table) =
    get-insert name_cmp-total tables one.table (with_facts_along table one.route one.span.lo one.span.hi one.span.row) q
    ∙ ap (λ b. cond b (Some (with_facts_along table one.route one.span.lo one.span.hi one.span.row)) (names.get tables q)) apart

its_table : (tables : Names Table) (one : PlacedRow) (q : Name) → same_name q one.table ≡ true → (o : Option Table) → names.get tables q ≡ o
    → names.get (put_found tables one o) q ≡ option_map (λ table. with_facts_along table one.route one.span.lo one.span.hi one.span.row) o
its_table tables one q same None there = there
its_table tables one q same (Some table) there =
    get-insert name_cmp-total tables one.table (with_facts_along table one.route one.span.lo one.span.hi one.span.row) q
    ∙ ap (λ b. cond b (Some (with_facts_along table one.route one.span.lo one.span.hi one.span.row)) (names.get tables q)) same

pub get-put_row : (tables : Names Table) (one : PlacedRow) (q : Name) → names.get (put_row tables one) q ≡ option_map (λ table. changed q table one) (names.get tables q)
get-put_row tables one q =
    elim (same_name q one.table) as (λ b. same_name q one.table ≡ b
    → names.get (put_row tables one) q ≡ option_map (λ table. if b then with_facts_along table one.route one.span.lo one.span.hi one.span.row else table) (names.get tables q)) [
      | true ↦ λ same.
          let at = ap (names.get tables) (same_name-true q one.table same) in
          its_table tables one q same (names.get tables one.table) at
          ∙ ap (option_map (λ table. with_facts_along table one.route one.span.lo one.span.hi one.span.row)) (sym at)
      | false ↦ λ apart. other_table tables one q apart (names.get tables one.table) ∙ sym (same_option (λ table. table) (λ table. refl) (names.get tables q))
    ] refl

-- ---- all rows

abbrev pub put_rows : Names Table → List PlacedRow → Names Table
put_rows tables rows = fold put_row tables rows

abbrev pub all_changed : Name → Table → List PlacedRow → Table
all_changed name table rows = fold (changed name) table rows

twice : (f g : Table → Table) (o : Option Table) → option_map g (option_map f o) ≡ option_map (λ table. g (f table)) o
twice f g None = refl
twice f g (Some table) = refl

pub get-put_rows : (tables : Names Table) (rows : List PlacedRow) (q : Name) → names.get (put_rows tables rows) q ≡ option_map (λ table. all_changed q table rows) (names.get tables q)
get-put_rows tables [] q = sym (same_option (λ table. table) (λ table. refl) (names.get tables q))
get-put_rows tables (one ∷ more) q =
    get-put_rows (put_row tables one) more q
    ∙ ap (option_map (λ table. all_changed q table more)) (get-put_row tables one q)
    ∙ twice (λ table. changed q table one) (λ table. all_changed q table more) (names.get tables q)

-- ---- kind and columns stay

pub kind-changed : (name : Name) (table : Table) (one : PlacedRow) → (changed name table one).kind ≡ table.kind
kind-changed name table one = elim (same_name name one.table) as (λ b. (if b then with_facts_along table one.route one.span.lo one.span.hi one.span.row else table).kind ≡ table.kind) [ true ↦ refl | false ↦ refl ]

pub columns-changed : (name : Name) (table : Table) (one : PlacedRow) → (changed name table one).columns ≡ table.columns
columns-changed name table one = elim (same_name name one.table) as (λ b. (if b then with_facts_along table one.route one.span.lo one.span.hi one.span.row else table).columns ≡ table.columns) [ true ↦ refl | false ↦ refl ]

pub kind-all_changed : (name : Name) (table : Table) (rows : List PlacedRow) → (all_changed name table rows).kind ≡ table.kind
kind-all_changed name table [] = refl
kind-all_changed name table (one ∷ more) = kind-all_changed name (changed name table one) more ∙ kind-changed name table one

pub columns-all_changed : (name : Name) (table : Table) (rows : List PlacedRow) → (all_changed name table rows).columns ≡ table.columns
columns-all_changed name table [] = refl
columns-all_changed name table (one ∷ more) = columns-all_changed name (changed name table one) more ∙ columns-changed name table one

-- ---- what holds

-- whether the part has the row at the thousandth, in the table of the name and on the route
abbrev pub tells : Name → Name → ℕ → Row → PlacedRow → Bool
tells name route k row one = same_name name one.table && (same_name route one.route && holds row k one.span)

put_on : (table : Table) (one : PlacedRow) (route : Name) (k : ℕ) (row : Row)
    → contains (after_insert table.facts one.route one.span.lo one.span.hi one.span.row route k) row ≡ ((same_name route one.route && holds row k one.span) || contains (table.facts route k) row)
unfolding on_route holds
put_on table one route k row =
    elim (same_name route one.route) as (λ b. same_name route one.route ≡ b
    → contains ((if b then with_row one.span.lo one.span.hi one.span.row (table.facts one.route) else table.facts route) k) row ≡ ((b && holds row k one.span) || contains (table.facts route k) row)) [
      | true ↦ λ same.
          ap (λ r. contains (with_row one.span.lo one.span.hi one.span.row (table.facts r) k) row) (sym (same_name-true route one.route same))
          ∙ contains-with_row one.span.lo one.span.hi one.span.row (table.facts route) k row
      | false ↦ λ apart. refl
    ] refl

contains-changed : (name : Name) (table : Table) (one : PlacedRow) (route : Name) (k : ℕ) (row : Row)
    → contains ((changed name table one).facts route k) row ≡ (tells name route k row one || contains (table.facts route k) row)
contains-changed name table one route k row =
    elim (same_name name one.table) as (λ b. contains ((if b then with_facts_along table one.route one.span.lo one.span.hi one.span.row else table).facts route k) row
    ≡ ((b && (same_name route one.route && holds row k one.span)) || contains (table.facts route k) row)) [
      | true ↦ put_on table one route k row
      | false ↦ refl
    ]

regrouped : (a b c : Bool) → (a || (b || c)) ≡ ((b || a) || c)
regrouped true true c = refl
regrouped true false c = refl
regrouped false true c = refl
regrouped false false c = refl

-- what one of the rows has, or held before
pub contains-all_changed : (name : Name) (table : Table) (rows : List PlacedRow) (route : Name) (k : ℕ) (row : Row)
    → contains ((all_changed name table rows).facts route k) row ≡ (list_any (tells name route k row) rows || contains (table.facts route k) row)
contains-all_changed name table [] route k row = refl
contains-all_changed name table (one ∷ more) route k row =
    contains-all_changed name (changed name table one) more route k row
    ∙ ap (λ b. list_any (tells name route k row) more || b) (contains-changed name table one route k row)
    ∙ regrouped (list_any (tells name route k row) more) (tells name route k row one) (contains (table.facts route k) row)

-- The rows of a dump, put into empty tables in whatever order, give the tables of the state.
use Rattle.std.proofs.Common.{◌≡◌, ◌∙◌, ℕ, ◌+◌, ◌<◌, ◌≤◌, Bool, true, false, ◌&&◌, ◌||◌, List, Option, Some, None, refl, sym, ap, subst, arith}
use Rattle.std.specs.List.{list_any}
use Rattle.std.specs.Option.{option_map}
use Rattle.std.specs.FinMap as names
use Rattle.std.specs.FinMap.{same_map}
use Rattle.std.proofs.lemmas.Bool.{and_from, and_parts}
use Rattle.rs_value.specs.declared.column.Kind.{Kind}
use Rattle.rs_value.specs.declared.column.Kind.TheVariants.{Point, Line}
use Rattle.rs_value.specs.Row.{Row}
use Rattle.rs_facts.specs.Fact.{Name, Names, Places, contains}
use Rattle.rs_facts.specs.Insert.{same_name}
use Rattle.rs_facts.specs.Query.{RouteEnds, Table}
use Rattle.rs_facts.specs.Runs.{IsMaximalRun, LieWithin, Stretch, runs_of}
use Rattle.rs_facts.proofs.RunMeaning.{runs-mean}
use Rattle.rs_facts.proofs.RunsOf.{runs_of-runs}
use Rattle.rs_facts.proofs.Sets.{contains-none, same_places}
use Rattle.rs_facts.proofs.SpanLaws.{Covers-from_contains, Holds, Holds-from_holds, holds, holds-true}
use Rattle.rs_machine.specs.State.{State}
use Rattle.rs_machine.specs.Lawful.{IsLawful, IsTable, MayHoldAt}
use Rattle.rs_machine.proofs.NameOrder.{name_cmp-total, name_cmp-antisymmetric}
use Rattle.rs_dump_laws.specs.Parts.{AreAll, IsRunOf, PlacedRow}
use Rattle.rs_dump_laws.proofs.Lists.{any_from, of_each, some_of_any}
use Rattle.rs_dump_laws.proofs.NamedThings.{same_name-itself, same_name-true, some_same}
use Rattle.rs_dump_laws.proofs.RowSteps.{all_changed, columns-all_changed, contains-all_changed, get-put_rows, kind-all_changed, put_rows, tells}
use Rattle.rs_dump_laws.proofs.Tables.{emptied}

-- ---- runs

-- a row holds where a maximal run of it is
pub held_in : (kind : Kind) (places : Places) (run : Stretch) (row : Row) (k : ℕ) → IsMaximalRun kind places run → Holds row k run → contains (places k) row ≡ true
held_in Line places run row k maximal h = subst (λ r. contains (places k) r ≡ true) h.same (maximal.holds k h.from h.below)
held_in Point places run row k maximal h =
    let from = h.from in let below = h.below in let one = maximal.one in
    let at : run.lo ≡ k = omega arith in
    subst (λ r. contains (places k) r ≡ true) h.same (subst (λ m. contains (places m) run.row ≡ true) at maximal.holds)

-- a maximal run of places with a thousandth in it at which its row holds
record RunAt (kind : Kind) (places : Places) (row : Row) (k : ℕ) : Type 0 where
  run : Stretch
  maximal : IsMaximalRun kind places run
  here : Holds row k run

-- where all rows lie between two ends, each is in a maximal run
run_at : (kind : Kind) (places : Places) (from to : ℕ) (row : Row) (k : ℕ) → LieWithin from to places → contains (places k) row ≡ true → RunAt kind places row k
run_at kind places from to row k inside held =
    let are = runs_of-runs kind from to places inside in
    let covers = Covers-from_contains (runs_of kind places from to) row k (ap (λ (p : Places). contains (p k) row) (runs-mean kind from to places (runs_of kind places from to) inside are) ∙ held) in
    record { run = covers.span; maximal = of_each (IsMaximalRun kind places) (runs_of kind places from to) covers.span are.maximal covers.among; here = covers.is }

-- below one place more than the end, lines and points
upto_end : (kind : Kind) (k : ℕ) (ends : RouteEnds) → MayHoldAt kind k ends → (ends.start ≤ k) × (k < ends.finish + 1)
upto_end Line k ends lies = (lies.0, omega (arith, lies.1))
upto_end Point k ends lies = (lies.0, omega (arith, lies.1))

-- the facts of a table on a route lie on it
pub lie_within : (routes : Names RouteEnds) (name : Name) (table : Table) (route : Name) (ends : RouteEnds) → IsTable routes name table → names.get routes route ≡ Some ends → LieWithin ends.start (ends.finish + 1) (table.facts route)
lie_within routes name table route ends is there k row held =
    let fact = is.facts route k row held in
    upto_end table.kind k ends (subst (MayHoldAt table.kind k) (some_same fact.lies.ends ends (sym fact.lies.there ∙ there)) fact.lies.is_so)

run_of_table : (routes : Names RouteEnds) (name : Name) (table : Table) (route : Name) (row : Row) (k : ℕ) → IsTable routes name table → contains (table.facts route k) row ≡ true → RunAt table.kind (table.facts route) row k
run_of_table routes name table route row k is held =
    let fact = is.facts route k row held in
    run_at table.kind (table.facts route) fact.lies.ends.start (fact.lies.ends.finish + 1) row k (lie_within routes name table route fact.lies.ends is fact.lies.there) held

-- ---- the facts of a table

either_way : (a b : Bool) → (a ≡ true → b ≡ true) → (b ≡ true → a ≡ true) → a ≡ b
either_way true b f g = sym (f refl)
either_way false true f g = g refl
either_way false false f g = refl

no_or : (a b : Bool) → b ≡ false → (a || b) ≡ a
no_or true b e = refl
no_or false b e = e

module _ (state : State) (lawful : IsLawful state) (rows : List PlacedRow) (all : AreAll (IsRunOf state) rows) where
  -- what a run of the state tells holds in it
  told_holds : (name : Name) (table : Table) → names.get state.tables name ≡ Some table → (route : Name) (k : ℕ) (row : Row) (one : PlacedRow) → IsRunOf state one → tells name route k row one ≡ true
      → contains (table.facts route k) row ≡ true
  told_holds name table there route k row one is told =
      let first = and_parts (same_name name one.table) (same_name route one.route && holds row k one.span) told in
      let second = and_parts (same_name route one.route) (holds row k one.span) first.1 in
      let same : is.table ≡ table = some_same is.table table (sym is.there ∙ ap (names.get state.tables) (sym (same_name-true name one.table first.0)) ∙ there) in
      let maximal : IsMaximalRun table.kind (table.facts one.route) one.span = subst (λ (t : Table). IsMaximalRun t.kind (t.facts one.route) one.span) same is.maximal in
      ap (λ r. contains (table.facts r k) row) (same_name-true route one.route second.0)
      ∙ held_in table.kind (table.facts one.route) one.span row k maximal (Holds-from_holds row k one.span second.1)

  -- what holds is told by a run
  held_told : (name : Name) (table : Table) → names.get state.tables name ≡ Some table → (route : Name) (k : ℕ) (row : Row) → contains (table.facts route k) row ≡ true → list_any (tells name route k row) rows ≡ true
  held_told name table there route k row held =
      let at = run_of_table state.routes name table route row k (lawful.tables name table there) held in
      let one : PlacedRow = record { table = name; route = route; span = at.run } in
      any_from (tells name route k row) rows one (all.complete one (record { table = table; there = there; maximal = at.maximal }))
      (and_from (same_name name name) (same_name route route && holds row k at.run) (same_name-itself name)
      (and_from (same_name route route) (holds row k at.run) (same_name-itself route) (holds-true row k at.run at.here)))

  same_facts : (name : Name) (table : Table) → names.get state.tables name ≡ Some table → (route : Name) (k : ℕ) (row : Row) → contains ((all_changed name (emptied table) rows).facts route k) row ≡ contains (table.facts route k) row
  same_facts name table there route k row =
      contains-all_changed name (emptied table) rows route k row
      ∙ no_or (list_any (tells name route k row) rows) (contains ((emptied table).facts route k) row) (contains-none row)
      ∙ either_way (list_any (tells name route k row) rows) (contains (table.facts route k) row)
      (λ e. let one = some_of_any (tells name route k row) rows e in told_holds name table there route k row one.0 (of_each (IsRunOf state) rows one.0 all.each one.1) one.2)
      (held_told name table there route k row)

  same_table : (name : Name) (table : Table) → names.get state.tables name ≡ Some table → all_changed name (emptied table) rows ≡ table
  same_table name table there =
      let kind = kind-all_changed name (emptied table) rows in
      let columns = columns-all_changed name (emptied table) rows in
      λ i. record {
        kind = kind i;
        columns = columns i;
        facts = λ route. same_places ((all_changed name (emptied table) rows).facts route) (table.facts route) (same_facts name table there route) i;
      }

  rebuilt_at : (name : Name) (o : Option Table) → names.get state.tables name ≡ o → option_map (λ table. all_changed name table rows) (option_map emptied o) ≡ o
  rebuilt_at name None there = refl
  rebuilt_at name (Some table) there = ap Some (same_table name table there)

  -- from the tables without their rows
  pub all_rows : (empties : Names Table) → ((name : Name) → names.get empties name ≡ option_map emptied (names.get state.tables name)) → put_rows empties rows ≡ state.tables
  all_rows empties are = same_map name_cmp-total name_cmp-antisymmetric (put_rows empties rows) state.tables
      (λ name. get-put_rows empties rows name ∙ ap (option_map (λ table. all_changed name table rows)) (are name) ∙ rebuilt_at name (names.get state.tables name) refl)

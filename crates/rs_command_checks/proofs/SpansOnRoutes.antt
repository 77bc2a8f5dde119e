-- A table has a fact on a route just where it has spans there.
use Rattle.std.proofs.Common.{◌≡◌, ℕ, ◌+◌, ◌<◌, ◌≤◌, Bool, true, false, cond, not, ◌||◌, List, [], ◌∷◌, Some, None, refl, sym, ap, subst, ◌∙◌, arith}
use Rattle.std.specs.List.{AllByRecursion, list_any}
use Rattle.std.specs.Option.{option_map}
use Rattle.std.specs.Ordering.{eq_by_cmp}
use Rattle.std.specs.FinMap as names
use Rattle.std.specs.FinMap.{find, get-entries}
use Rattle.std.proofs.lemmas.List.Folds.{list_any-append}
use Rattle.rs_value.specs.declared.column.Kind.{Kind}
use Rattle.rs_value.specs.declared.column.Kind.TheVariants.{Point, Line}
use Rattle.rs_value.specs.Row.{Row}
use Rattle.rs_facts.specs.Fact.{Name, Names, name_cmp, Places, RowSet, none, contains, items, thousandths}
use Rattle.rs_facts.specs.Insert.{within}
use Rattle.rs_facts.specs.Operators.{are_none, has_none}
use Rattle.rs_facts.specs.Query.{RouteEnds, Table}
use Rattle.rs_facts.specs.Runs.{Stretch}
use Rattle.rs_facts.specs.Spans.{places_of, AreKept}
use Rattle.rs_facts.proofs.Placing.{within-bounds, with_row-inside}
use Rattle.rs_facts.proofs.Rows.{same_row, same_row-refl}
use Rattle.rs_facts.proofs.Sets.{contains-none}
use Rattle.rs_facts.proofs.RowSets.{contains-items}
use Rattle.rs_facts.proofs.Counting.{thousandths-first, thousandths-split}
use Rattle.rs_facts.proofs.KeptLaws.{placed-some}
use Rattle.rs_machine.specs.Step.{has_fact_on, some_table}
use Rattle.rs_catalog.specs.Definitions.{RouteItem, TableItem, table_from, tables_from}
use Rattle.rs_catalog.specs.Events.{behind, LieOn, AreEventsOf}
use Rattle.rs_catalog.proofs.Names.{each_entry}
use Rattle.rs_catalog.proofs.MapLaws.{none_some, some_same}
use Rattle.rs_catalog.proofs.StateLaws.{get-tables_from}
use Rattle.rs_catalog_laws.proofs.Numbers.{false_true}
use Rattle.rs_catalog_laws.proofs.States.{facts_at, table_at}
use Rattle.rs_command_checks.specs.declared.checks.Checks.{Checks}
use Rattle.rs_command_checks.specs.Facts.{TellsOfFacts}
use Rattle.rs_command_checks.specs.States.{Unseen, state_by}
use Rattle.rs_command_checks.proofs.Outcomes.{route_at}

-- ---- tests on lists

any_first : (a b : Bool) → a ≡ true → (a || b) ≡ true
any_first true b e = refl
any_first false b e = false_true e

any_more : (a b : Bool) → b ≡ true → (a || b) ≡ true
any_more true b e = refl
any_more false b e = e

any_none : {X : Type 0} (test : X → Bool) (xs : List X) → ((x : X) → test x ≡ false) → list_any test xs ≡ false
any_none test [] off = refl
any_none test (x ∷ xs) off = ap (λ b. b || list_any test xs) (off x) ∙ any_none test xs off

-- a test of what stands under names
module _ {X : Type 0} (test : X → Bool) where
  finds_any : (entries : List (Name × X)) (name : Name) (x : X) → find name_cmp name entries ≡ Some x → test x ≡ true → list_any (λ e. test e.1) entries ≡ true
  finds_any [] name x there passes = none_some x there
  finds_any (e ∷ es) name x there passes =
      elim (eq_by_cmp name_cmp name e.0) as (λ b. cond b (Some e.1) (find name_cmp name es) ≡ Some x → (test e.1 || list_any (λ e. test e.1) es) ≡ true) [
        | true ↦ λ f. any_first _ _ (ap test (some_same e.1 x f) ∙ passes)
        | false ↦ λ f. any_more _ _ (finds_any es name x f passes)
      ] there

  pub some_entry : (values : Names X) (name : Name) (x : X) → names.get values name ≡ Some x → test x ≡ true → list_any (λ e. test e.1) (names.entries values) ≡ true
  some_entry values name x there passes = finds_any (names.entries values) name x (sym (get-entries values name) ∙ there) passes

  no_entry_in : (P : Name × X → Type 0) (entries : List (Name × X)) → ((e : Name × X) → P e → test e.1 ≡ false) → AllByRecursion P entries → list_any (λ e. test e.1) entries ≡ false
  no_entry_in P [] off all = refl
  no_entry_in P (e ∷ es) off all = ap (λ b. b || list_any (λ e. test e.1) es) (off e all.0) ∙ no_entry_in P es off all.1

  pub no_entry : (values : Names X) → ((name : Name) (x : X) → names.get values name ≡ Some x → test x ≡ false) → list_any (λ e. test e.1) (names.entries values) ≡ false
  no_entry values off = no_entry_in (λ e. names.get values e.0 ≡ Some e.1) (names.entries values) (λ e there. off e.0 e.1 there) (each_entry values)

-- ---- sets of rows

has_none-none : has_none none ≡ true
has_none-none = elim (items none) as (λ rows. items none ≡ rows → are_none rows ≡ true) [
  | [] ↦ λ e. refl
  | row ∷ rows ↦ λ e. false_true (sym (contains-none row) ∙ contains-items none row ∙ ap (list_any (λ other. same_row other row)) e ∙ any_first _ _ (same_row-refl row))
] refl

has_none-some : (rows : RowSet) (row : Row) → contains rows row ≡ true → has_none rows ≡ false
has_none-some rows row holding = elim (items rows) as (λ list. items rows ≡ list → are_none list ≡ false) [
  | [] ↦ λ e. false_true (sym (contains-items rows row ∙ ap (list_any (λ other. same_row other row)) e) ∙ holding)
  | first ∷ more ↦ λ e. refl
] refl

-- a test that a thousandth passes
some_thousandth : (test : ℕ → Bool) (from to k : ℕ) → from ≤ k → k < to → test k ≡ true → list_any test (thousandths from to) ≡ true
some_thousandth test from to k a b passes =
    ap (list_any test) (thousandths-split from k to a (omega arith)) ∙ list_any-append test (thousandths from k) (thousandths k to)
    ∙ any_more _ _ (ap (list_any test) (thousandths-first k to b) ∙ any_first _ _ passes)

-- ---- tables with facts on a route

reaches : (kind : Kind) (ends : RouteEnds) → behind kind ends ≤ ends.finish + 1
reaches Line ends = omega arith
reaches Point ends = omega arith

lies : (kind : Kind) (ends : RouteEnds) (places : Places) → LieOn kind ends places → (k : ℕ) (row : Row) → contains (places k) row ≡ true → within ends.start (behind kind ends) k ≡ true
unfolding LieOn
lies kind ends places on_route k row holding = on_route k row holding

module _ (checks : Checks) (unseen : Unseen) (name : Name) (on : RouteItem) (there : names.get checks.catalog.now.routes name ≡ Some on) where
  abbrev table_of : TableItem → Table
  table_of item = table_from checks.catalog.now.routes unseen.spans item

  rows_at : (item : TableItem) (k : ℕ) → (table_of item).facts name k ≡ places_of (unseen.spans item.number on.number) k
  rows_at item k = ap (λ (places : Places). places k) (facts_at checks.catalog.now.routes (unseen.spans item.number) name on there)

  no_fact_of : (item : TableItem) → unseen.spans item.number on.number ≡ [] → has_fact_on name on.ends (table_of item) ≡ false
  no_fact_of item none = any_none _ (thousandths on.ends.start (on.ends.finish + 1)) (λ k.
      ap (λ (rows : RowSet). not (has_none rows)) (rows_at item k ∙ ap (λ (spans : List Stretch). places_of spans k) none) ∙ ap not has_none-none)

  fact_of : AreEventsOf checks.catalog.now unseen.spans → (q : Name) (item : TableItem) (span : Stretch) (more : List Stretch) → names.get checks.catalog.now.tables q ≡ Some item
      → unseen.spans item.number on.number ≡ span ∷ more → has_fact_on name on.ends (table_of item) ≡ true
  fact_of are q item span more at some =
      let kept : AreKept item.kind (span ∷ more) = subst (AreKept item.kind) some (are.spans q item at on.number).kept in
      let holding : contains (places_of (span ∷ more) span.lo) span.row ≡ true = with_row-inside span.lo span.hi span.row (places_of more) span.lo (omega arith) (placed-some item.kind span kept.0) in
      let within_route : within on.ends.start (behind item.kind on.ends) span.lo ≡ true = lies item.kind on.ends (places_of (unseen.spans item.number on.number)) (are.on_routes q item at name on there) span.lo span.row (ap (λ (s : List Stretch). contains (places_of s span.lo) span.row) some ∙ holding) in
      let bounds = within-bounds on.ends.start (behind item.kind on.ends) span.lo within_route in
      let from = bounds.0 in
      let below = bounds.1 in
      let far = reaches item.kind on.ends in
      some_thousandth _ on.ends.start (on.ends.finish + 1) span.lo from (omega arith)
      (ap (λ (rows : RowSet). not (has_none rows)) (rows_at item span.lo ∙ ap (λ (s : List Stretch). places_of s span.lo) some) ∙ ap not (has_none-some (places_of (span ∷ more) span.lo) span.row holding))

  -- a table of the machine is one of the catalogue's
  is_table : (q : Name) (table : Table) (P : Table → Type 0) → names.get (tables_from checks.catalog.now unseen.spans) q ≡ Some table
      → ((item : TableItem) → names.get checks.catalog.now.tables q ≡ Some item → P (table_of item)) → P table
  is_table q table P at each =
      elim (names.get checks.catalog.now.tables q) as (λ o. names.get checks.catalog.now.tables q ≡ o → option_map table_of o ≡ Some table → P table) [
        | None ↦ λ e f. none_some table f
        | Some item ↦ λ e f. subst P (some_same (table_of item) table f) (each item e)
      ] refl (sym (get-tables_from checks.catalog.now unseen.spans q) ∙ at)

  no_fact_on : ((q : Name) (item : TableItem) → names.get checks.catalog.now.tables q ≡ Some item → unseen.spans item.number on.number ≡ []) → some_table (state_by checks unseen) (has_fact_on name on.ends) ≡ false
  no_fact_on none = no_entry (has_fact_on name on.ends) (tables_from checks.catalog.now unseen.spans) (λ q table at.
      is_table q table (λ t. has_fact_on name on.ends t ≡ false) at (λ item at. no_fact_of item (none q item at)))

  fact_on : AreEventsOf checks.catalog.now unseen.spans → (q : Name) (item : TableItem) → names.get checks.catalog.now.tables q ≡ Some item → (unseen.spans item.number on.number ≡ [] → ⊥)
      → some_table (state_by checks unseen) (has_fact_on name on.ends) ≡ true
  fact_on are q item at some = elim (unseen.spans item.number on.number) as (λ s. unseen.spans item.number on.number ≡ s → some_table (state_by checks unseen) (has_fact_on name on.ends) ≡ true) [
    | [] ↦ λ e. absurd (some e)
    | span ∷ more ↦ λ e. some_entry (has_fact_on name on.ends) (tables_from checks.catalog.now unseen.spans) q (table_of item) (table_at checks.catalog.now unseen.spans q item at) (fact_of are q item span more at e)
  ] refl

  -- the ends of the route are those that the machine knows
  tells : (b : Bool) → some_table (state_by checks unseen) (has_fact_on name on.ends) ≡ b → TellsOfFacts (state_by checks unseen) name b
  tells b is ends at = sym is ∙ ap (λ (e : RouteEnds). some_table (state_by checks unseen) (has_fact_on name e)) (some_same on.ends ends (sym (route_at checks unseen name on there) ∙ at))

  pub tells_none : ((q : Name) (item : TableItem) → names.get checks.catalog.now.tables q ≡ Some item → unseen.spans item.number on.number ≡ []) → TellsOfFacts (state_by checks unseen) name false
  tells_none none = tells false (no_fact_on none)

  pub tells_some : AreEventsOf checks.catalog.now unseen.spans → (q : Name) (item : TableItem) → names.get checks.catalog.now.tables q ≡ Some item → (unseen.spans item.number on.number ≡ [] → ⊥) → TellsOfFacts (state_by checks unseen) name true
  tells_some are q item at some = tells true (fact_on are q item at some)

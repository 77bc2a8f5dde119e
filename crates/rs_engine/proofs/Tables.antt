-- A table of the catalogue in the states that have its definitions, and what a change makes of it.
use Rattle.std.proofs.Common.{◌≡◌, ◌∙◌, Some, ap, refl, subst, sym}
use Rattle.std.specs.FinMap as names
use Rattle.std.specs.Option.{option_map}
use Rattle.rs_catalog.specs.Definitions.{Definitions, TableItem, table_from}
use Rattle.rs_catalog.proofs.StateLaws.{get-tables_from}
use Rattle.rs_command_checks.specs.States.{Unseen, state_by}
use Rattle.rs_command_checks.specs.declared.checks.Checks.{Checks}
use Rattle.rs_facts.specs.Fact.{Name}
use Rattle.rs_facts.specs.Query.{Table}
use Rattle.rs_engine.specs.Kept.{AreChecksOf, EngineState}
use Rattle.rs_engine.proofs.Stepping.{IsStep}
use Rattle.rs_machine.specs.State.{State}
use Rattle.rs_machine.specs.Step.{with_table}

-- the state has a table under the name, of which this is so
pub record HasTableSo (name : Name) (so : State → Table → Type 0) (state : State) : Type 0 where
  pub table : Table
  pub there : names.get state.tables name ≡ Some table
  pub is : so state table

-- one of the catalogue is in the state, whatever is not looked at
pub table_so : (checks : Checks) (name : Name) (item : TableItem) → names.get checks.catalog.now.tables name ≡ Some item → (so : State → Table → Type 0) (unseen : Unseen)
    → ((table : Table) → names.get (state_by checks unseen).tables name ≡ Some table → so (state_by checks unseen) table) → HasTableSo name so (state_by checks unseen)
table_so checks name item there so unseen each =
    let table = table_from checks.catalog.now.routes unseen.spans item in
    let known : names.get (state_by checks unseen).tables name ≡ Some table =
    get-tables_from checks.catalog.now unseen.spans name ∙ ap (option_map (table_from checks.catalog.now.routes unseen.spans)) there in
    record { table = table; there = known; is = each table known }

-- what is so of the definitions that were checked is so of the store's
pub in_store : {D : Type 0} (old was : EngineState D) → old ≡ was → (checks : Checks) → AreChecksOf was checks → (P : Definitions → Type 0) → P checks.catalog.now → P old.store.catalog
in_store {D} old was same checks are P so = subst P (are.catalog ∙ ap (λ (engine : EngineState D). engine.store.catalog) (sym same)) so

abbrev pub with_table_named : Name → Table → State → State
with_table_named name table state = with_table state name table

pub table_step : (name : Name) (table : Table) → IsStep (with_table_named name table)
table_step name table = record { beside = λ cursors state. refl; none = λ state. refl }

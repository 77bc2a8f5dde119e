-- A table as a checked query.
use Rattle.std.proofs.Common.{◌≡◌, ℕ, ◌≤◌, List, length, Some, None, Ok, sym, ap, subst, ◌∙◌}
use Rattle.std.specs.Option.{option_map}
use Rattle.std.specs.FinMap as names
use Rattle.rs_refusal.specs.declared.refusal.Refusal.TheVariants.{NoSuchName}
use Rattle.rs_value.specs.declared.column.TheConstants.{COLUMNS}
use Rattle.rs_facts.specs.Fact.{Name, Names}
use Rattle.rs_facts.specs.Query.{Query, table_rows, table_kind, table_columns, kind_of, columns_of}
use Rattle.rs_facts.specs.Runs.{Stretch}
use Rattle.rs_facts.specs.WellFormed.{IsWellFormed}
use Rattle.rs_syntax.specs.Tree.{named}
use Rattle.rs_machine.specs.State.{world_of}
use Rattle.rs_machine.specs.Checks.{◌>>=◌, found}
use Rattle.rs_catalog.specs.Definitions.{TableItem, Definitions, state_from, tables_from, table_from}
use Rattle.rs_catalog.proofs.StateLaws.{get-tables_from}
use Rattle.rs_checker.specs.declared.checked.Checked.{Checked}
use Rattle.rs_checker.specs.declared.checked.CheckedTable.{CheckedTable}
use Rattle.rs_checker.specs.CheckedView.{query_of, query_step}
use Rattle.rs_checker.specs.declared.checked.CheckedQuery as code
use Rattle.rs_checker.specs.declared.checked.CheckedQuery.{fold-roll-CheckedQuery}
use Rattle.rs_checker.specs.declared.checked.CheckedQuery.TheVariants.{rolls-Table}
use Rattle.rs_checker.specs.declared.checked.CheckedQuery.TheOpen.{CheckedQuery-F}
use Rattle.rs_checker.specs.Steps.{seen_columns}
use Rattle.rs_checker.specs.Nodes.{AreNodes, AreRefused}

pub table_is : (table : CheckedTable) → query_of (code.Table table) ≡ table_rows table.name.bytes
table_is table = ap query_of (sym (rolls-Table table)) ∙ fold-roll-CheckedQuery Query query_step (CheckedQuery-F.Table table)

module _ (definitions : Definitions) (on : ℕ → Names ℕ) (name : Name) where
  pub no_table : names.get definitions.tables name ≡ None → AreRefused definitions on (named name) NoSuchName
  no_table none = record {
    each = λ spans_on rest.
        ap (λ o. found o NoSuchName >>= (λ _. Ok (table_rows name))) (get-tables_from definitions spans_on name ∙ ap (option_map (table_from definitions.routes spans_on)) none);
  }

  module _ (item : TableItem) (there : names.get definitions.tables name ≡ Some item) (few : length item.columns ≤ COLUMNS) (made : Checked)
      (query : query_of made.query ≡ table_rows name) (kind : made.kind ≡ item.kind) (columns : seen_columns made ≡ item.columns) where
    found_there : (spans_on : ℕ → ℕ → List Stretch) → names.get (tables_from definitions spans_on) name ≡ Some (table_from definitions.routes spans_on item)
    found_there spans_on = get-tables_from definitions spans_on name ∙ ap (option_map (table_from definitions.routes spans_on)) there

    pub table_made : AreNodes definitions on (named name) made
    table_made = record {
      each = λ spans_on rest.
          let world = world_of (state_from definitions on spans_on rest) in
          record {
            is = ap (λ o. found o NoSuchName >>= (λ _. Ok (table_rows name))) (found_there spans_on) ∙ ap Ok (sym query);
            stands = record {
              well_formed = subst (IsWellFormed world) (sym query) (table_from definitions.routes spans_on item, found_there spans_on, few);
              kind = kind ∙ sym (ap table_kind (found_there spans_on)) ∙ ap (kind_of world) (sym query);
              columns = columns ∙ sym (ap table_columns (found_there spans_on)) ∙ ap (columns_of world) (sym query);
            };
          };
    }

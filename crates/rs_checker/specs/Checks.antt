-- What a check promises of a query that it accepts.
use Rattle.std.specs.Prelude.{◌≡◌, ◌≤◌, true, map, Ok}
use Rattle.rs_facts.specs.Query.{kind_of, columns_of}
use Rattle.rs_facts.specs.WellFormed.{IsWellFormed}
use Rattle.rs_planning.specs.Checked.{NamesItsColumns, nodes_of}
use Rattle.rs_syntax.specs.Tree.{QueryTree}
use Rattle.rs_syntax.specs.View.{column_tree}
use Rattle.rs_machine.specs.declared.limits.TheConstants.{NODES}
use Rattle.rs_machine.specs.State.{State, world_of}
use Rattle.rs_machine.specs.Checking as machine
use Rattle.rs_machine.specs.Opening.{names_in, alignments_in, opened}
use Rattle.rs_catalog.specs.Definitions.{Definitions, views_of}
use Rattle.rs_checker.specs.declared.checked.Checked.{Checked}
use Rattle.rs_checker.specs.CheckedView.{query_of}
use Rattle.rs_checker.specs.Nodes.{names_there, alignments_there}

-- It is what the machine makes of the query in this state, with its kind and its columns. It can be planned and evaluated:
-- it is well formed, names columns of its operands alone, and has no more nodes than a query may have.
pub record IsChecked (state : State) (query : QueryTree) (checked : Checked) : Type 0 where
  pub is : machine.checked state query ≡ Ok (query_of checked.query)
  pub well_formed : IsWellFormed (world_of state) (query_of checked.query)
  pub named : NamesItsColumns (world_of state) (query_of checked.query)
  pub few : nodes_of (query_of checked.query) ≤ NODES
  pub kind : checked.kind ≡ kind_of (world_of state) (query_of checked.query)
  pub columns : map column_tree checked.columns.items ≡ columns_of (world_of state) (query_of checked.query)

-- Nothing is refused before its nodes are checked: each name is there, and with its views opened it is not too large.
pub record PassesFirst (definitions : Definitions) (query : QueryTree) : Type 0 where
  pub names : names_there definitions (names_in query) ≡ Ok tt
  pub alignments : alignments_there definitions (alignments_in query) ≡ Ok tt
  pub fits : machine.fits_limits (opened (views_of definitions) query) ≡ true

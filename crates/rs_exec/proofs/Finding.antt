-- What a source gives for a leaf, and what the leaf makes of it.
use Rattle.std.proofs.Common.{◌≡◌, ℕ, true, List, [], map, sym, ap, ◌∙◌}
use Rattle.std.specs.Prelude.{Vec, IsPermutation}
use Rattle.std.specs.declared.alloc.Global.{Global}
use Rattle.rs_value.specs.Row.{Row}
use Rattle.rs_value.specs.declared.column.Kind.{Kind}
use Rattle.rs_facts.specs.declared.fact.Span.{Span}
use Rattle.rs_facts.specs.Condition.{Condition}
use Rattle.rs_facts.specs.Runs.{Stretch}
use Rattle.rs_facts.specs.Spans.{seen, places_of, ArePlaced}
use Rattle.rs_facts.proofs.SpanLaws.{places_of-permutation}
use Rattle.rs_planning.specs.Conjuncts.{meets_each}
use Rattle.rs_planning.specs.Plan.{met_by_each}
use Rattle.rs_plan.specs.PlanView.{conditions_of}
use Rattle.rs_plan.specs.declared.plan.Leaf.{Leaf}
use Rattle.rs_sweep.specs.Lists.{AreSorted, AreWide}
use Rattle.rs_exec.specs.Snapshot.{Snapshots}
use Rattle.rs_exec.specs.Given.{inside, rows_asked, has_value, AreGiven, AreGivenOfValue}
use Rattle.rs_exec.specs.Found.{AreFound}
use Rattle.rs_exec.specs.Meaning.{leaf_meaning, table_of}
use Rattle.rs_exec.specs.Windows.{IsInsideEach, AreOff}
use Rattle.rs_exec.specs.Held.{HoldsRows}
use Rattle.rs_exec.specs.declared.source.Asked.{Asked}
use Rattle.rs_exec.specs.declared.source.Part.{Part}
use Rattle.rs_exec.specs.declared.source.SoughtValue.{SoughtValue}
use Rattle.rs_exec.proofs.RowLaws.{met-through, met-nothing}
use Rattle.rs_exec.proofs.Steps.{placed-moved, wide-moved, none-shaped, none-means}

module _ (stands : Snapshots → Type 0) (asked : Asked) (part : Part) (conditions : List Condition) (spans : List Stretch) where
  pub found-all : AreGiven stands asked part spans → AreFound stands asked part conditions spans
  found-all given = record {
    means = λ snapshots there k. ap (met_by_each conditions) (given.means snapshots there k);
    joined = given.joined;
    placed = given.placed;
    wide = given.wide;
  }

  pub found-some : (sought : SoughtValue) → ((row : Row) → meets_each conditions row ≡ true → has_value sought row ≡ true) → AreGivenOfValue stands asked part sought spans → AreFound stands asked part conditions spans
  found-some sought wanted given = record {
    means = λ snapshots there k.
        met-through (has_value sought) conditions (inside part k (places_of spans k)) (inside part k (rows_asked snapshots asked k)) wanted (given.means snapshots there k);
    joined = given.joined;
    placed = given.placed;
    wide = given.wide;
  }

module _ (stands : Snapshots → Type 0) (version route : ℕ) (leaf : Leaf) where
  abbrev asked_by : Asked
  asked_by = record { table = leaf.table.number; kind = leaf.table.kind; width = leaf.table.width; route = route; version = version }

  -- sorted, cut and selected, it is the leaf's rows
  pub leaf-step : (part : Part) (found sorted cut : List Stretch) (made : Vec Span Global) → IsInsideEach leaf.windows.items route part → AreFound stands asked_by part (conditions_of leaf.conditions) found → IsPermutation found sorted
      → ((k : ℕ) → places_of cut k ≡ inside part k (places_of sorted k)) → ((kind : Kind) → ArePlaced kind sorted → ArePlaced kind cut) → ((width : ℕ) → AreWide width sorted → AreWide width cut)
      → ((k : ℕ) → places_of (map seen made.items) k ≡ met_by_each (conditions_of leaf.conditions) (places_of cut k)) → AreSorted (map seen made.items)
      → ((kind : Kind) → ArePlaced kind cut → ArePlaced kind (map seen made.items)) → ((width : ℕ) → AreWide width cut → AreWide width (map seen made.items))
      → HoldsRows stands version (leaf_meaning leaf) route made
  leaf-step part found sorted cut made each are moved cut_means cut_placed cut_wide means ordered placed wide = record {
    means = λ snapshots there k.
        means k
        ∙ ap (met_by_each (conditions_of leaf.conditions)) (cut_means k ∙ ap (λ places. inside part k (places k)) (sym (places_of-permutation found sorted moved)))
        ∙ are.means snapshots there k
        ∙ ap (met_by_each (conditions_of leaf.conditions)) (sym (each.same k ((snapshots version).rows (table_of leaf.table) route k)));
    shaped = record {
      sorted = ordered;
      placed = placed leaf.table.kind (cut_placed leaf.table.kind (placed-moved leaf.table.kind found sorted moved are.placed));
      wide = wide leaf.table.width (cut_wide leaf.table.width (wide-moved leaf.table.width found sorted moved are.wide));
    };
  }

  -- the windows leave nothing
  pub leaf-off : (made : Vec Span Global) → AreOff leaf.windows.items route → made.items ≡ [] → HoldsRows stands version (leaf_meaning leaf) route made
  leaf-off made off bare = record {
    means = λ snapshots there k.
        none-means made k bare
        ∙ sym (ap (met_by_each (conditions_of leaf.conditions)) (off.nothing k ((snapshots version).rows (table_of leaf.table) route k)) ∙ met-nothing (conditions_of leaf.conditions));
    shaped = none-shaped leaf.table.kind leaf.table.width made bare;
  }

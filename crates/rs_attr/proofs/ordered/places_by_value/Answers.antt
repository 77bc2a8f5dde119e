-- One cell after the other, and then sorted.
use Rattle.std.proofs.Common.{◌<◌, ◌∙◌, ℕ, List, length, map, sym, ap, subst, arith}
use Rattle.std.proofs.lemmas.List.{take_all}
use Rattle.std.proofs.lemmas.List.Elements.{All-from_recursion}
use Rattle.std.proofs.lemmas.List.Sorted.{All-permutation, IsPermutation-map}
use Rattle.std.proofs.lemmas.Option.{slice_get_within}
use Rattle.std.specs.List.{AllByRecursion}
use Rattle.std.specs.List.Sorted.{IsPermutation}
use Rattle.rs_attr.proofs.Reordered.{cell_at, places_more}
use Rattle.rs_records.specs.Listed.{listed}
use Rattle.rs_tree_whole.proofs.Joins.{all_push}
use Rattle.rs_versioned.proofs.CellsWide.{cell_wide}
use Rattle.rs_attr.proofs.ordered.places_by_value.Goals as goal

pub value_of-requires : goal.value_of-requires
value_of-requires c = record { within = omega (arith, cell_wide c.args.cells.now c.loop-place.place c.get.result.now c.get.ensures, c.requires.within) }

pub loop-place-preserved : goal.loop-place-preserved
loop-place-preserved c =
    let cells = listed c.args.cells.now in
    let inside = slice_get_within cells c.loop-place.place c.get.result.now c.get.ensures in
    record {
      each = subst (AllByRecursion (λ (value : (ℕ × ℕ) × ℕ). value.1 < length cells)) (sym c.in_ok-push.ensures.items)
          (all_push (λ (value : (ℕ × ℕ) × ℕ). value.1 < length cells) c.loop-place.places.items (c.key_of.result, c.loop-place.place) c.loop-place.invariant.each inside);
      are = ap (map (cell_at cells)) c.in_ok-push.ensures.items
          ∙ places_more cells c.loop-place.places.items c.loop-place.place c.get.result.now c.key_of.result c.get.ensures c.loop-place.invariant.are;
    }

pub returns-clause-each : goal.returns-clause-each
returns-clause-each c =
    let cells = listed c.args.cells.now in
    All-permutation (λ (value : (ℕ × ℕ) × ℕ). value.1 < length cells) c.loop-place.places.items c.sort_unstable.new.self.items c.sort_unstable.ensures.permutation
    (All-from_recursion (λ (value : (ℕ × ℕ) × ℕ). value.1 < length cells) c.loop-place.places.items c.loop-place.invariant.each)

pub returns-clause-moved : goal.returns-clause-moved
returns-clause-moved c =
    let cells = listed c.args.cells.now in
    subst (λ (xs : List (List ℕ)). IsPermutation xs (map (cell_at cells) c.sort_unstable.new.self.items)) (c.loop-place.invariant.are ∙ take_all c.loop-place.place cells (omega arith))
    (IsPermutation-map (cell_at cells) c.loop-place.places.items c.sort_unstable.new.self.items c.sort_unstable.ensures.permutation)

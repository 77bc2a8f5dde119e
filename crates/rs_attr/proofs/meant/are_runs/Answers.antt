-- Those that lie apart are runs; the others are in order before they are looked at.
use Rattle.std.proofs.Common.{List, map, is_lt, refl, subst, sym}
use Rattle.std.proofs.lemmas.List.Sorted.{IsPermutation-map, IsPermutation-sym}
use Rattle.std.specs.List.Sorted.{IsPermutation, IsSortedBy}
use Rattle.rs_attr.specs.Meant.{lent_cmp, stretch_of}
use Rattle.rs_attr.specs.declared.meant.RowStretch.{RowStretch}
use Rattle.rs_facts.specs.Runs.{Stretch}
use Rattle.rs_facts.specs.Spans.{AreAllRunsOf, ArePlaced, places_of}
use Rattle.rs_attr.proofs.Lent.{placed_moved, runs_moved}
use Rattle.rs_attr.proofs.meant.are_runs.Goals as goal

pub lie_in_turn-requires : goal.lie_in_turn-requires
lie_in_turn-requires c = subst (λ (xs : List RowStretch). ArePlaced c.args.kind (map stretch_of xs)) (sym c.as_slice.ensures.value) c.requires

pub lie_apart-requires : goal.lie_apart-requires
lie_apart-requires c = subst (λ (xs : List RowStretch). ArePlaced c.args.kind (map stretch_of xs)) (sym c.as_slice-2.ensures.value) c.requires

pub are_in_turn-requires : goal.are_in_turn-requires
are_in_turn-requires c =
    let given : List Stretch = map stretch_of c.args.stretches.now.items in
    let items : List RowStretch = c.sort_by_row.new.stretches.items in
    let moved : IsPermutation given (map stretch_of items) = IsPermutation-map stretch_of c.args.stretches.now.items items c.sort_by_row.ensures.moved in
    record {
      placed = subst (λ (xs : List RowStretch). ArePlaced c.args.kind (map stretch_of xs)) (sym c.as_slice-3.ensures.value) (placed_moved c.args.kind given (map stretch_of items) moved c.requires);
      sorted = subst (λ (xs : List RowStretch). IsSortedBy (λ a b. is_lt (lent_cmp a b)) xs) (sym c.as_slice-3.ensures.value) c.sort_by_row.ensures.sorted;
    }

pub returns-then-lie_in_turn : goal.returns-then-lie_in_turn
returns-then-lie_in_turn c = (
  λ is. subst (λ (xs : List RowStretch). AreAllRunsOf c.args.kind (places_of (map stretch_of xs)) (map stretch_of xs)) c.as_slice.ensures.value (c.lie_in_turn.ensures c.if-lie_in_turn.true),
  λ runs. refl,
)

pub returns-then-lie_apart : goal.returns-then-lie_apart
returns-then-lie_apart c = (
  λ is. subst (λ (xs : List RowStretch). AreAllRunsOf c.args.kind (places_of (map stretch_of xs)) (map stretch_of xs)) c.as_slice-2.ensures.value (c.lie_apart.ensures c.if-lie_apart.true),
  λ runs. refl,
)

pub returns : goal.returns
returns c =
    let kind = c.args.kind in
    let given : List Stretch = map stretch_of c.args.stretches.now.items in
    let items : List RowStretch = c.sort_by_row.new.stretches.items in
    let moved : IsPermutation given (map stretch_of items) = IsPermutation-map stretch_of c.args.stretches.now.items items c.sort_by_row.ensures.moved in (
      λ is.
          runs_moved kind (map stretch_of items) given (IsPermutation-sym given (map stretch_of items) moved) c.requires
          (subst (λ (xs : List RowStretch). AreAllRunsOf kind (places_of (map stretch_of xs)) (map stretch_of xs)) c.as_slice-3.ensures.value (c.are_in_turn.ensures.0 is)),
      λ runs.
          c.are_in_turn.ensures.1 (subst (λ (xs : List RowStretch). AreAllRunsOf kind (places_of (map stretch_of xs)) (map stretch_of xs)) (sym c.as_slice-3.ensures.value)
          (runs_moved kind given (map stretch_of items) moved (placed_moved kind given (map stretch_of items) moved c.requires) runs)),
    )

-- One cell after the other.
use Rattle.std.proofs.Common.{◌≡◌, ◌∙◌, ◌+◌, [], ◌∷◌, ◌++◌, Global, List, Option, Vec, map, take, sym, ap, subst, inr}
use Rattle.std.proofs.lemmas.List.{append-nil, map-append}
use Rattle.std.proofs.lemmas.Result.{err_from_is_err_and}
use Rattle.rs_attr.specs.Meant.{SayStretches, stretch_of, stretches_of}
use Rattle.rs_attr.specs.declared.meant.RowStretch.{RowStretch}
use Rattle.rs_records.specs.Listed.{listed}
use Rattle.rs_versioned.proofs.CellsWide.{cell_wide}
use Rattle.rs_attr.proofs.LentCells.{stretches_next, stretches_none}
use Rattle.rs_attr.proofs.Placed.{placed_at}
use Rattle.rs_attr.proofs.meant.placed_stretches.Goals.{in-Some+in_ok-push, in_default}
use Rattle.rs_attr.proofs.meant.placed_stretches.Goals as goal

pub loop-place-init : goal.loop-place-init
loop-place-init c = record {
  placed = subst (λ (l : List RowStretch). SayStretches c.args.told.now c.args.route [] (map stretch_of l)) (sym c.new-stretches.ensures.items) (stretches_none c.args.told.now c.args.route);
}

pub placed_stretch-requires : goal.placed_stretch-requires
placed_stretch-requires c = record { width = cell_wide c.args.cells.now c.loop-place.place c.get.result.now c.get.ensures ∙ c.requires.width }

pub returns-in_err-stretch-clause-refused : goal.returns-in_err-stretch-clause-refused
returns-in_err-stretch-clause-refused c =
    let p = err_from_is_err_and c.from_residual.result c.from_residual.ensures.1 in
    rw (p.1, p.2) (inr (
      c.in_err-stretch.ensures.damaged,
      λ spans so. let one = placed_at c.args.told.now c.args.route (listed c.args.cells.now) c.loop-place.place c.get.result.now spans c.get.ensures so in c.in_err-stretch.ensures.refused one.0 one.1,
    ))

pub loop-place-preserved : goal.loop-place-preserved
loop-place-preserved c =
    let told = c.args.told.now in
    let cells = listed c.args.cells.now in
    let items = c.loop-place.stretches.items in
    let next = stretches_next told c.args.route cells c.loop-place.place c.get.result.now (map stretch_of items) (stretches_of c.in_ok-stretch.field-0) c.get.ensures c.loop-place.invariant.placed c.in_ok-stretch.ensures.placed in
    elim c.match-branch-2.branch [
      | in-Some+in_ok-push w ↦
          let are : map stretch_of c.match-branch-2.stretches.items ≡ map stretch_of items ++ stretch_of w.in-Some.stretch ∷ [] =
          ap (λ (v : Vec RowStretch Global). map stretch_of v.items) w.stretches-is ∙ ap (map stretch_of) w.in_ok-push.ensures.items ∙ map-append stretch_of items (w.in-Some.stretch ∷ []) in
          record { placed = subst (SayStretches told c.args.route (take (c.loop-place.place + 1) cells)) (ap (λ (o : Option RowStretch). map stretch_of items ++ stretches_of o) w.in-Some.is ∙ sym are) next }
      | in_default w ↦
          let are : map stretch_of c.match-branch-2.stretches.items ≡ map stretch_of items = ap (λ (v : Vec RowStretch Global). map stretch_of v.items) w.stretches-is in
          record { placed = subst (SayStretches told c.args.route (take (c.loop-place.place + 1) cells)) (ap (λ (o : Option RowStretch). map stretch_of items ++ stretches_of o) w.in_default.is ∙ append-nil (map stretch_of items) ∙ sym are) next }
    ]

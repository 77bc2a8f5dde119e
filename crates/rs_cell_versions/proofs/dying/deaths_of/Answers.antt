-- One cell after the other, and then sorted.
use Rattle.std.proofs.Common.{◌≡◌, ◌*◌, ◌++◌, [], ◌∷◌, ℕ, List, length, sym, ap, ◌∙◌, subst, arith}
use Rattle.std.specs.List.Sorted.{IsPermutation}
use Rattle.std.specs.Vec.{vec_len}
use Rattle.rs_records.specs.Listed.{listed}
use Rattle.rs_cell_versions.proofs.Deaths.{deaths_more, deaths_sorted}
use Rattle.rs_cell_versions.proofs.Tallying.{record_wide}
use Rattle.rs_cell_versions.proofs.dying.deaths_of.Goals as goal

pub died_of-requires : goal.died_of-requires
died_of-requires c = record {
  width =
      let cells = c.args.cells.now in
      let whole : vec_len cells.bytes ≡ cells.count * cells.width = cells.whole in
      let wide = record_wide cells.count cells.width cells.bytes.items c.loop-place.place c.get.result.now (omega (arith, cells.bytes.ok.0, whole)) c.get.ensures in
      omega (arith, wide, c.requires);
}

pub loop-place-preserved : goal.loop-place-preserved
loop-place-preserved c =
    c.in_ok-push.ensures.items ∙ ap (λ xs. xs ++ (c.died_of.result, c.loop-place.place) ∷ []) c.loop-place.invariant
    ∙ sym (deaths_more (listed c.args.cells.now) c.loop-place.place c.get.result.now c.died_of.result c.get.ensures c.died_of.ensures)

pub returns : goal.returns
returns c =
    let all : c.loop-place.place ≡ length (listed c.args.cells.now) = omega arith in
    deaths_sorted (listed c.args.cells.now) c.loop-place.place c.sort_unstable.new.self.items all
    (subst (λ (xs : List (ℕ × ℕ)). IsPermutation xs c.sort_unstable.new.self.items) c.loop-place.invariant c.sort_unstable.ensures.permutation) c.sort_unstable.ensures.sorted

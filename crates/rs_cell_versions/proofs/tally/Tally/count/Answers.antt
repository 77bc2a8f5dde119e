-- One cell after the other.
use Rattle.std.proofs.Common.{◌≡◌, ◌*◌, Err, take, refl, sym, ap, ◌∙◌, subst, arith}
use Rattle.std.proofs.lemmas.List.{take_all}
use Rattle.std.proofs.lemmas.Result.{err_from_is_err_and}
use Rattle.std.specs.Vec.{vec_len}
use Rattle.rs_refusal.specs.declared.refusal.Refusal.TheVariants as refusal
use Rattle.rs_records.specs.Listed.{listed}
use Rattle.rs_cell_versions.specs.Looking.{Counts}
use Rattle.rs_cell_versions.specs.Tallies.{tallied}
use Rattle.rs_cell_versions.proofs.Tallying.{counts_next, counts_none, others_within, record_wide}
use Rattle.rs_cell_versions.proofs.tally.Tally.count.Goals as goal

pub loop-index-init : goal.loop-index-init
loop-index-init c = record { counts = counts_none (tallied c.args.self.now); holds = λ garbage holds. holds; width = refl }

pub count_one-requires-clause-some : goal.count_one-requires-clause-some
count_one-requires-clause-some c =
    let found = c.args.found.now in
    let whole : vec_len found.bytes ≡ found.count * found.width = found.whole in
    let wide = record_wide found.count found.width found.bytes.items c.loop-index.index c.get.result.now (omega (arith, found.bytes.ok.0, whole)) c.get.ensures in
    omega (arith, wide, c.requires.some)

pub count_one-requires-clause-width : goal.count_one-requires-clause-width
count_one-requires-clause-width c =
    let found = c.args.found.now in
    let whole : vec_len found.bytes ≡ found.count * found.width = found.whole in
    let wide = record_wide found.count found.width found.bytes.items c.loop-index.index c.get.result.now (omega (arith, found.bytes.ok.0, whole)) c.get.ensures in
    wide ∙ c.requires.width ∙ sym c.loop-index.invariant.width

pub loop-index-preserved : goal.loop-index-preserved
loop-index-preserved c = record {
  counts = counts_next (tallied c.args.self.now) (tallied c.loop-index.self) (tallied c.count_one.new.self) (listed c.args.found.now) c.loop-index.index c.get.result.now
      c.loop-index.invariant.counts c.get.ensures c.in_ok-count_one.ensures.counts;
  holds = λ garbage holds. c.in_ok-count_one.ensures.holds garbage (c.loop-index.invariant.holds garbage holds);
  width = c.in_ok-count_one.ensures.width ∙ c.loop-index.invariant.width;
}

pub returns-in_err-count_one-clause-damaged : goal.returns-in_err-count_one-clause-damaged
returns-in_err-count_one-clause-damaged c = λ is.
    let p = err_from_is_err_and c.from_residual.result c.from_residual.ensures.1 in
    let why : c.in_err-count_one.field-0.0 ≡ refusal.DamagedFile = cc (p.1, p.2, is) in
    others_within (tallied c.args.self.now) (tallied c.loop-index.self) (listed c.args.found.now) c.loop-index.index c.get.result.now c.loop-index.invariant.counts c.get.ensures
    (c.in_err-count_one.ensures.damaged (ap Err why))

pub returns-clause-counts : goal.returns-clause-counts
returns-clause-counts c =
    let all : take c.loop-index.index (listed c.args.found.now) ≡ listed c.args.found.now = take_all c.loop-index.index (listed c.args.found.now) (omega arith) in
    subst (Counts (tallied c.args.self.now) (tallied c.loop-index.self)) all c.loop-index.invariant.counts

-- One table after the other.
use Rattle.std.proofs.Common.{◌≤◌, ◌+◌, ◌-◌, refl, arith}
use Rattle.std.proofs.lemmas.Result.{err_from_is_err_and}
use Rattle.rs_file_parts.specs.Inner.{ClearsPlaces}
use Rattle.rs_file_parts.specs.Parts.{HoldsNoParts, KeepsOpened}
use Rattle.rs_file_parts.proofs.Cleared.{places_below, places_next, places_none}
use Rattle.rs_file_parts.proofs.Made.{makes_none, makes_then, makes_weaker, none_before}
use Rattle.rs_file_parts.proofs.Ready.{keeps_none, keeps_then, ready_after}
use Rattle.rs_page_owners.proofs.Following.{works_err}
use Rattle.rs_page_owners.proofs.Working.{CountsNothing-refl, CountsNothing-trans, Works-refl, Works-trans}
use Rattle.rs_tree.proofs.Lists.{zip_lengths}
use Rattle.rs_file_parts.proofs.clearing.clear_tables.Goals as goal

pub loop-place-init : goal.loop-place-init
loop-place-init g c = record {
  keeps = g.met.P.Pages.keeps_refl c.args.pages.now;
  works = Works-refl (g.P.Pages.store c.args.pages.now);
  nothing = CountsNothing-refl (g.P.Pages.store c.args.pages.now);
  few = omega arith;
  past = omega arith;
  begun = λ same. refl;
  kept = keeps_none c.args.file.now;
  order = λ version have. have;
  clears = λ tied accepted. makes_none (ClearsPlaces c.args.bounds.oldest c.args.bounds.most 0 c.args.from c.args.from) (places_none c.args.bounds.oldest c.args.bounds.most c.args.from)
      (g.P.Pages.store c.args.pages.now).map c.args.file.now accepted;
}

pub clear_place-requires-clause-ready : goal.clear_place-requires-clause-ready
clear_place-requires-clause-ready g c = ready_after c.args.file.now c.loop-place.file c.loop-place.invariant.kept c.requires.ready

pub clear_place-requires-clause-place : goal.clear_place-requires-clause-place
clear_place-requires-clause-place g c =
    omega (arith, zip_lengths KeepsOpened c.args.file.now.tables.items c.loop-place.file.tables.items c.loop-place.invariant.kept.tables, c.requires.places, c.loop-place-test.true)

pub returns-in_err-went-clause-leaves : goal.returns-in_err-went-clause-leaves
returns-in_err-went-clause-leaves g c =
    let first = g.P.Pages.store c.args.pages.now in
    let mid = g.P.Pages.store c.loop-place.pages in
    let p = err_from_is_err_and c.from_residual.result c.from_residual.ensures.1 in
    record {
      keeps = g.met.P.Pages.keeps_trans c.args.pages.now c.loop-place.pages c.clear_place.new.pages c.loop-place.invariant.keeps c.in_err-went.ensures.leaves.keeps;
      works = rw (p.1, p.2) (works_err (g.P.Pages.is_tied c.args.pages.now → HoldsNoParts first.map c.args.file.now)
          (g.P.Pages.is_tied c.loop-place.pages → HoldsNoParts mid.map c.loop-place.file) c.in_err-went.field-0.0
          first mid (g.P.Pages.store c.clear_place.new.pages) c.loop-place.invariant.works c.loop-place.invariant.nothing
          (λ none tied. none_before (λ accepted. ClearsPlaces c.args.bounds.oldest c.args.bounds.most c.loop-place.gone c.args.from c.loop-place.place) first.map mid.map c.args.file.now c.loop-place.file
          (c.loop-place.invariant.clears tied) (none (g.met.P.Pages.keeps_tied c.args.pages.now c.loop-place.pages c.loop-place.invariant.keeps tied)))
          c.in_err-went.ensures.leaves.works);
    }

pub returns-in_err-went-clause-keeps : goal.returns-in_err-went-clause-keeps
returns-in_err-went-clause-keeps g c = keeps_then c.args.file.now c.loop-place.file c.clear_place.new.file c.loop-place.invariant.kept c.in_err-went.ensures.keeps

pub returns-in_err-went-clause-order : goal.returns-in_err-went-clause-order
returns-in_err-went-clause-order g c = λ version have. c.in_err-went.ensures.order version (c.loop-place.invariant.order version have)

pub loop-place-preserved : goal.loop-place-preserved
loop-place-preserved g c =
    let first = g.P.Pages.store c.args.pages.now in
    let mid = g.P.Pages.store c.loop-place.pages in
    let last = g.P.Pages.store c.clear_place.new.pages in
    let oldest = c.args.bounds.oldest in
    let most = c.args.bounds.most in
    let one = c.loop-place.gone in
    let other = c.in_ok-went.went in
    let place = c.loop-place.place in
    let few = c.loop-place.invariant.few in
    let fewer : other ≤ most - one = c.in_ok-went.ensures.few in
    record {
      keeps = g.met.P.Pages.keeps_trans c.args.pages.now c.loop-place.pages c.clear_place.new.pages c.loop-place.invariant.keeps c.in_ok-went.ensures.leaves.keeps;
      works = Works-trans first mid last c.loop-place.invariant.works c.in_ok-went.ensures.leaves.works.works;
      nothing = CountsNothing-trans first mid last c.loop-place.invariant.nothing c.in_ok-went.ensures.leaves.works.ends;
      few = omega arith;
      past = omega (arith, c.loop-place.invariant.past);
      begun = λ same. absurd (omega (arith, c.loop-place.invariant.past));
      kept = keeps_then c.args.file.now c.loop-place.file c.clear_place.new.file c.loop-place.invariant.kept c.in_ok-went.ensures.keeps;
      order = λ version have. c.in_ok-went.ensures.order version (c.loop-place.invariant.order version have);
      clears = λ tied accepted.
          makes_then (ClearsPlaces oldest most one c.args.from place) (ClearsPlaces oldest (most - one) other place (place + 1)) (ClearsPlaces oldest most (one + other) c.args.from (place + 1))
          (λ old next now had has. places_next oldest most one other c.args.from place few fewer c.loop-place.invariant.past c.loop-place.invariant.begun old next now had has)
          first.map mid.map last.map c.args.file.now c.loop-place.file c.clear_place.new.file accepted accepted accepted (c.loop-place.invariant.clears tied accepted)
          (c.in_ok-went.ensures.clears (g.met.P.Pages.keeps_tied c.args.pages.now c.loop-place.pages c.loop-place.invariant.keeps tied) accepted);
    }

pub returns-clause-clears : goal.returns-clause-clears
returns-clause-clears g c = λ tied accepted.
    let oldest = c.args.bounds.oldest in
    let most = c.args.bounds.most in
    makes_weaker (ClearsPlaces oldest most c.loop-place.gone c.args.from c.loop-place.place) (ClearsPlaces oldest most c.loop-place.gone c.args.from c.args.to)
    (λ old now clears. places_below oldest most c.loop-place.gone c.args.from c.loop-place.place c.args.to c.loop-place-test.false old now clears)
    (g.P.Pages.store c.args.pages.now).map (g.P.Pages.store c.loop-place.pages).map c.args.file.now c.loop-place.file accepted accepted (c.loop-place.invariant.clears tied accepted)

use Rattle.std.proofs.Common.{◌≡◌, ◌∙◌, ◌+◌, true, false, take, take_all, sym, subst}
use Rattle.rs_exec.specs.Routes.{numbers_of}
use Rattle.rs_exec.specs.Carried.{AreSourcesOf, AreApart}
use Rattle.rs_exec.proofs.Leading.{sources-more}
use Rattle.rs_exec.proofs.carrying.sources_of.Goals as goal
use Rattle.rs_exec.proofs.carrying.sources_of.Goals.{then-is_among+in_ok-add_source, else-is_among}

pub loop-piece-init : goal.loop-piece-init
loop-piece-init c = record {
  led = tt;
  once = subst AreApart (sym c.new-sources.ensures.items) tt;
}

pub loop-piece-preserved : goal.loop-piece-preserved
loop-piece-preserved c = elim c.if-is_among.branch [
  | then-is_among+in_ok-add_source w ↦ record {
    led = subst (λ sources. AreSourcesOf (numbers_of c.args.routes) sources.items (take (c.loop-piece.piece-index + 1) c.args.pieces.now)) (sym w.sources-is)
        (sources-more (numbers_of c.args.routes) _ _ c.args.pieces.now c.loop-piece.piece-index c.piece-item.result c.loop-piece-test.true c.piece-item.is
        w.in_ok-add_source.ensures.stay (λ _. w.in_ok-add_source.ensures.there) c.loop-piece.invariant.led);
    once = subst (λ sources. AreApart sources.items) (sym w.sources-is) (w.in_ok-add_source.ensures.once c.loop-piece.invariant.once);
  }
  | else-is_among w ↦ record {
    led = subst (λ sources. AreSourcesOf (numbers_of c.args.routes) sources.items (take (c.loop-piece.piece-index + 1) c.args.pieces.now)) (sym w.sources-is)
        (sources-more (numbers_of c.args.routes) _ _ c.args.pieces.now c.loop-piece.piece-index c.piece-item.result c.loop-piece-test.true c.piece-item.is
        (λ other there. there) (λ on. absurd (let wrong : false ≡ true = sym (sym c.is_among.ensures ∙ w.if-is_among.false) ∙ on in cc)) c.loop-piece.invariant.led);
    once = subst (λ sources. AreApart sources.items) (sym w.sources-is) c.loop-piece.invariant.once;
  }
]

pub returns-clause-led : goal.returns-clause-led
returns-clause-led c = subst (AreSourcesOf (numbers_of c.args.routes) c.loop-piece.sources.items) (take_all _ _ c.loop-piece-test.false) c.loop-piece.invariant.led

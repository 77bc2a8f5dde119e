use Rattle.std.proofs.Common.{◌∙◌, map, refl, sym, ap, subst}
use Rattle.std.proofs.lemmas.Result.{IfOk-weaker}
use Rattle.rs_coalesce.specs.Lent.{seen_lent}
use Rattle.rs_facts.specs.Spans.{seen}
use Rattle.rs_exec.specs.Pairs.{IsPaired, CanPairSpans}
use Rattle.rs_exec.proofs.Pairing.{runs-can, runs-paired}
use Rattle.rs_exec.specs.declared.pairs.Pairing.TheVariants as pairings
use Rattle.rs_exec.proofs.pairs.paired.Goals as goal

pub overlaid-requires-clause-can : goal.overlaid-requires-clause-can
overlaid-requires-clause-can c =
    runs-can pairings.Overlay c.args.kinds (map seen c.args.left.items) (map seen c.args.right.items) (map seen c.runs-left_runs.result.items) (map seen c.runs-right_runs.result.items)
    (map seen_lent c.deref-in-Overlay-2.result.now) (map seen_lent c.deref-in-Overlay-3.result.now)
    (record { runs = c.runs-left_runs.ensures.runs; placed = c.runs-left_runs.ensures.placed; same = c.runs-left_runs.ensures.same })
    (record { runs = c.runs-right_runs.ensures.runs; placed = c.runs-right_runs.ensures.placed; same = c.runs-right_runs.ensures.same })
    (ap (map seen_lent) c.deref-in-Overlay-2.ensures.value ∙ c.in_ok-lower-in-Overlay.ensures ∙ ap (map seen) c.deref.ensures.value)
    (ap (map seen_lent) c.deref-in-Overlay-3.ensures.value ∙ c.in_ok-upper-in-Overlay.ensures ∙ ap (map seen) c.deref-in-Overlay.ensures.value)
    (subst (λ pairing. CanPairSpans pairing c.args.kinds (map seen c.args.left.items) (map seen c.args.right.items)) c.in-Overlay.is c.requires)

pub covered-requires-clause-can : goal.covered-requires-clause-can
covered-requires-clause-can c =
    runs-can (pairings.Cover c.in-Cover.left_width c.in-Cover.right_width) c.args.kinds (map seen c.args.left.items) (map seen c.args.right.items) (map seen c.runs-left_runs.result.items) (map seen c.runs-right_runs.result.items)
    (map seen_lent c.deref-in-Cover-3.result.now) (map seen_lent c.deref-in-Cover-4.result.now)
    (record { runs = c.runs-left_runs.ensures.runs; placed = c.runs-left_runs.ensures.placed; same = c.runs-left_runs.ensures.same })
    (record { runs = c.runs-right_runs.ensures.runs; placed = c.runs-right_runs.ensures.placed; same = c.runs-right_runs.ensures.same })
    (ap (map seen_lent) c.deref-in-Cover-3.ensures.value ∙ c.in_ok-lower-in-Cover.ensures ∙ ap (map seen) c.deref-in-Cover.ensures.value)
    (ap (map seen_lent) c.deref-in-Cover-4.ensures.value ∙ c.in_ok-upper-in-Cover.ensures ∙ ap (map seen) c.deref-in-Cover-2.ensures.value)
    (subst (λ pairing. CanPairSpans pairing c.args.kinds (map seen c.args.left.items) (map seen c.args.right.items)) c.in-Cover.is c.requires)

pub returns-in_ok-upper-in-Overlay : goal.returns-in_ok-upper-in-Overlay
returns-in_ok-upper-in-Overlay c =
    IfOk-weaker c.overlaid.result _ _ (λ made is. subst (λ pairing. IsPaired pairing c.args.kinds (c.args.left, c.args.right) made) (sym c.in-Overlay.is)
    (runs-paired pairings.Overlay c.args.kinds (map seen c.args.left.items) (map seen c.args.right.items) (map seen c.runs-left_runs.result.items) (map seen c.runs-right_runs.result.items)
    (map seen_lent c.deref-in-Overlay-2.result.now) (map seen_lent c.deref-in-Overlay-3.result.now) (map seen made.items)
    (record { runs = c.runs-left_runs.ensures.runs; placed = c.runs-left_runs.ensures.placed; same = c.runs-left_runs.ensures.same })
    (record { runs = c.runs-right_runs.ensures.runs; placed = c.runs-right_runs.ensures.placed; same = c.runs-right_runs.ensures.same })
    (ap (map seen_lent) c.deref-in-Overlay-2.ensures.value ∙ c.in_ok-lower-in-Overlay.ensures ∙ ap (map seen) c.deref.ensures.value)
    (ap (map seen_lent) c.deref-in-Overlay-3.ensures.value ∙ c.in_ok-upper-in-Overlay.ensures ∙ ap (map seen) c.deref-in-Overlay.ensures.value) is)) c.overlaid.ensures

pub returns-in_ok-upper-in-Cover : goal.returns-in_ok-upper-in-Cover
returns-in_ok-upper-in-Cover c =
    IfOk-weaker c.covered.result _ _ (λ made is. subst (λ pairing. IsPaired pairing c.args.kinds (c.args.left, c.args.right) made) (sym c.in-Cover.is)
    (runs-paired (pairings.Cover c.in-Cover.left_width c.in-Cover.right_width) c.args.kinds (map seen c.args.left.items) (map seen c.args.right.items) (map seen c.runs-left_runs.result.items) (map seen c.runs-right_runs.result.items)
    (map seen_lent c.deref-in-Cover-3.result.now) (map seen_lent c.deref-in-Cover-4.result.now) (map seen made.items)
    (record { runs = c.runs-left_runs.ensures.runs; placed = c.runs-left_runs.ensures.placed; same = c.runs-left_runs.ensures.same })
    (record { runs = c.runs-right_runs.ensures.runs; placed = c.runs-right_runs.ensures.placed; same = c.runs-right_runs.ensures.same })
    (ap (map seen_lent) c.deref-in-Cover-3.ensures.value ∙ c.in_ok-lower-in-Cover.ensures ∙ ap (map seen) c.deref-in-Cover.ensures.value)
    (ap (map seen_lent) c.deref-in-Cover-4.ensures.value ∙ c.in_ok-upper-in-Cover.ensures ∙ ap (map seen) c.deref-in-Cover-2.ensures.value) is)) c.covered.ensures

pub merged-requires-clause-can : goal.merged-requires-clause-can
merged-requires-clause-can c =
    runs-can pairings.Merge c.args.kinds (map seen c.args.left.items) (map seen c.args.right.items) (map seen c.runs-left_runs.result.items) (map seen c.runs-right_runs.result.items)
    (map seen c.runs-left_runs.result.items) (map seen c.runs-right_runs.result.items)
    (record { runs = c.runs-left_runs.ensures.runs; placed = c.runs-left_runs.ensures.placed; same = c.runs-left_runs.ensures.same })
    (record { runs = c.runs-right_runs.ensures.runs; placed = c.runs-right_runs.ensures.placed; same = c.runs-right_runs.ensures.same })
    refl refl
    (subst (λ pairing. CanPairSpans pairing c.args.kinds (map seen c.args.left.items) (map seen c.args.right.items)) c.in-Merge.is c.requires)

pub returns-in-Merge : goal.returns-in-Merge
returns-in-Merge c =
    IfOk-weaker c.merged.result _ _ (λ made is. subst (λ pairing. IsPaired pairing c.args.kinds (c.args.left, c.args.right) made) (sym c.in-Merge.is)
    (runs-paired pairings.Merge c.args.kinds (map seen c.args.left.items) (map seen c.args.right.items) (map seen c.runs-left_runs.result.items) (map seen c.runs-right_runs.result.items)
    (map seen c.runs-left_runs.result.items) (map seen c.runs-right_runs.result.items) (map seen made.items)
    (record { runs = c.runs-left_runs.ensures.runs; placed = c.runs-left_runs.ensures.placed; same = c.runs-left_runs.ensures.same })
    (record { runs = c.runs-right_runs.ensures.runs; placed = c.runs-right_runs.ensures.placed; same = c.runs-right_runs.ensures.same })
    refl refl is)) c.merged.ensures

pub without-requires-clause-can : goal.without-requires-clause-can
without-requires-clause-can c =
    runs-can pairings.Minus c.args.kinds (map seen c.args.left.items) (map seen c.args.right.items) (map seen c.runs-left_runs.result.items) (map seen c.runs-right_runs.result.items)
    (map seen c.runs-left_runs.result.items) (map seen_lent c.deref-in-Minus-2.result.now)
    (record { runs = c.runs-left_runs.ensures.runs; placed = c.runs-left_runs.ensures.placed; same = c.runs-left_runs.ensures.same })
    (record { runs = c.runs-right_runs.ensures.runs; placed = c.runs-right_runs.ensures.placed; same = c.runs-right_runs.ensures.same })
    refl
    (ap (map seen_lent) c.deref-in-Minus-2.ensures.value ∙ c.in_ok-upper-in-Minus.ensures ∙ ap (map seen) c.deref-in-Minus.ensures.value)
    (subst (λ pairing. CanPairSpans pairing c.args.kinds (map seen c.args.left.items) (map seen c.args.right.items)) c.in-Minus.is c.requires)

pub returns-in_ok-upper-in-Minus : goal.returns-in_ok-upper-in-Minus
returns-in_ok-upper-in-Minus c =
    IfOk-weaker c.without.result _ _ (λ made is. subst (λ pairing. IsPaired pairing c.args.kinds (c.args.left, c.args.right) made) (sym c.in-Minus.is)
    (runs-paired pairings.Minus c.args.kinds (map seen c.args.left.items) (map seen c.args.right.items) (map seen c.runs-left_runs.result.items) (map seen c.runs-right_runs.result.items)
    (map seen c.runs-left_runs.result.items) (map seen_lent c.deref-in-Minus-2.result.now) (map seen made.items)
    (record { runs = c.runs-left_runs.ensures.runs; placed = c.runs-left_runs.ensures.placed; same = c.runs-left_runs.ensures.same })
    (record { runs = c.runs-right_runs.ensures.runs; placed = c.runs-right_runs.ensures.placed; same = c.runs-right_runs.ensures.same })
    refl
    (ap (map seen_lent) c.deref-in-Minus-2.ensures.value ∙ c.in_ok-upper-in-Minus.ensures ∙ ap (map seen) c.deref-in-Minus.ensures.value) is)) c.without.ensures

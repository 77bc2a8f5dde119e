-- What is made on each route of the operands' rows is what the plan has there.
use Rattle.std.proofs.Common.{◌≡◌, ◌∙◌, true, List, [], ◌∷◌, map, refl, sym, ap, subst, rules}
use Rattle.std.proofs.lemmas.Result.{IfOk-weaker}
use Rattle.std.specs.List.{AllZip, zip}
use Rattle.std.specs.Prelude.{IfOk}
use Rattle.rs_value.specs.declared.column.Kind.{Kind}
use Rattle.rs_value.specs.declared.column.Kind.TheVariants as kinds
use Rattle.rs_facts.specs.Query.{overlaid_kind}
use Rattle.rs_facts.specs.Spans.{seen}
use Rattle.rs_exec.specs.Carried.{AreSourcesOf}
use Rattle.rs_exec.specs.Changes.{ChangeKeepsJoined}
use Rattle.rs_exec.specs.Held.{AreHeld, AreJoinedIn, CanOverlay, AreLaidOver}
use Rattle.rs_exec.specs.Joined.{HasRuns}
use Rattle.rs_exec.specs.Meaning.{PlanMeaning, kinds_together, meaning_of, overlay_meaning, gaps_meaning}
use Rattle.rs_exec.specs.Operand.{changed_meaning, operand_meaning, operands_meaning, node_meaning, paired_meaning, together_meaning}
use Rattle.rs_exec.specs.Pairs.{CanPair, IsPaired, paired_kind}
use Rattle.rs_exec.specs.Routes.{numbers_of, list_of}
use Rattle.rs_exec.specs.declared.pairs.Pairing.{Pairing}
use Rattle.rs_exec.specs.declared.pairs.Pairing.TheVariants as pairings
use Rattle.rs_exec.proofs.JoinedRows.{paired_kind-is, nowhere-joined, runs-joined, changed-joined, together-joined, carried-joined, spread-joined}
use Rattle.rs_exec.proofs.Leading.{pieces-forwards, transform-none, can-carry, carried-held}
use Rattle.rs_exec.proofs.Leavings.{leaves-then}
use Rattle.rs_exec.proofs.Lists.{empty}
use Rattle.rs_exec.proofs.Steps.{formed-pair}
use Rattle.rs_exec.proofs.Holding.{earlier, laid-earlier, changed_kind, of-kind, runs-held, can-pair, shaped-of, shaped-length, in-order, changed-held, have-shapes, gaps-held, as-kinds, paired-held, laid-none, laid-bare, laid-next, beside-held, together-laid, overlay-held, overlay-stays, formed-overlay, seen-held, window-none, formed-together, together, can-begin, can-lay-next, can-pair-next, can-go-on}
use Rattle.rs_exec.proofs.evaluation.+rows.Goals as goal

-- ---- operators of one operand

pub changed_rows-changed_on-requires-clause-ordered : goal.changed_rows-changed_on-requires-clause-ordered
changed_rows-changed_on-requires-clause-ordered g t c =
    in-order (g.S.Source.is c.args.source.now) c.args.routes.version (operand_meaning c.args.operand) (numbers_of c.args.routes) (list_of c.in_ok-rows.rows) c.in_ok-rows.ensures.held

pub changed_rows-runs_on-requires : goal.changed_rows-runs_on-requires
changed_rows-runs_on-requires g t c = record {
  placed = of-kind (g.S.Source.is c.args.source.now) c.args.routes.version (changed_meaning c.args.change (operand_meaning c.args.operand)) c.kind-kind.result (numbers_of c.args.routes) (list_of c.in_ok-changed.changed) (c.kind-kind.ensures ∙ sym (changed_kind c.args.change (operand_meaning c.args.operand)))
      (changed-held (g.S.Source.is c.args.source.now) c.args.routes.version c.args.change (operand_meaning c.args.operand) (numbers_of c.args.routes) (list_of c.in_ok-rows.rows) (list_of c.in_ok-changed.changed) c.in_ok-changed.ensures c.in_ok-rows.ensures.held);
}

pub changed_rows-returns-in_ok-joined-in-Dissolve-clause-held : goal.changed_rows-returns-in_ok-joined-in-Dissolve-clause-held
changed_rows-returns-in_ok-joined-in-Dissolve-clause-held g t c =
    let meaning = changed_meaning c.args.change (operand_meaning c.args.operand) in
    runs-held (g.S.Source.is c.args.source.now) c.args.routes.version meaning (numbers_of c.args.routes) (list_of c.in_ok-changed.changed) (list_of c.in_ok-joined-in-Dissolve.joined)
    (subst (λ kind. AllZip (HasRuns kind) (list_of c.in_ok-changed.changed) (list_of c.in_ok-joined-in-Dissolve.joined)) (c.kind-kind.ensures ∙ sym (changed_kind c.args.change (operand_meaning c.args.operand))) c.in_ok-joined-in-Dissolve.ensures)
    (changed-held (g.S.Source.is c.args.source.now) c.args.routes.version c.args.change (operand_meaning c.args.operand) (numbers_of c.args.routes) (list_of c.in_ok-rows.rows) (list_of c.in_ok-changed.changed) c.in_ok-changed.ensures c.in_ok-rows.ensures.held)

pub changed_rows-returns-in-Where-clause-held : goal.changed_rows-returns-in-Where-clause-held
changed_rows-returns-in-Where-clause-held g t c =
    changed-held (g.S.Source.is c.args.source.now) c.args.routes.version c.args.change (operand_meaning c.args.operand) (numbers_of c.args.routes) (list_of c.in_ok-rows.rows) (list_of c.in_ok-changed.changed) c.in_ok-changed.ensures c.in_ok-rows.ensures.held

pub changed_rows-returns-in_ok-joined-in-Dissolve-clause-joined : goal.changed_rows-returns-in_ok-joined-in-Dissolve-clause-joined
changed_rows-returns-in_ok-joined-in-Dissolve-clause-joined g t c =
    subst (λ kind. AreJoinedIn (g.S.Source.is c.args.source.now) kind (list_of c.in_ok-joined-in-Dissolve.joined)) (c.kind-kind.ensures ∙ sym (changed_kind c.args.change (operand_meaning c.args.operand)))
    (runs-joined (g.S.Source.is c.args.source.now) c.kind-kind.result (list_of c.in_ok-changed.changed) (list_of c.in_ok-joined-in-Dissolve.joined) c.in_ok-joined-in-Dissolve.ensures)

pub changed_rows-returns-in-Where-clause-joined : goal.changed_rows-returns-in-Where-clause-joined
changed_rows-returns-in-Where-clause-joined g t c =
    subst (λ kind. AreJoinedIn (g.S.Source.is c.args.source.now) kind (list_of c.in_ok-changed.changed)) (sym (changed_kind c.args.change (operand_meaning c.args.operand)))
    (changed-joined (g.S.Source.is c.args.source.now) c.args.change (operand_meaning c.args.operand).kind (list_of c.in_ok-rows.rows) (list_of c.in_ok-changed.changed) (subst ChangeKeepsJoined (sym c.in-Where.is) tt) c.in_ok-changed.ensures c.in_ok-rows.ensures.joined)

pub gaps_rows-gaps_on-requires : goal.gaps_rows-gaps_on-requires
gaps_rows-gaps_on-requires g t c = record {
  shaped = have-shapes (g.S.Source.is c.args.source.now) c.args.routes.version (operand_meaning c.args.operand) (numbers_of c.args.routes) (list_of c.in_ok-rows.rows) c.in_ok-rows.ensures.held;
}

pub gaps_rows-runs_on-requires : goal.gaps_rows-runs_on-requires
gaps_rows-runs_on-requires g t c = record {
  placed = of-kind (g.S.Source.is c.args.source.now) c.args.routes.version (gaps_meaning (operand_meaning c.args.operand)) kinds.Line (numbers_of c.args.routes) (list_of c.in_ok-gaps.gaps) refl
      (gaps-held (g.S.Source.is c.args.source.now) (g.S.Source.is c.rows_on.new.source) c.args.routes.version (operand_meaning c.args.operand) (numbers_of c.args.routes) (list_of c.in_ok-rows.rows) (list_of c.in_ok-gaps.gaps)
      c.in_ok-rows.ensures.ends.leaves.stands c.in_ok-gaps.ensures c.in_ok-rows.ensures.held);
}

pub gaps_rows-returns-clause-held : goal.gaps_rows-returns-clause-held
gaps_rows-returns-clause-held g t c =
    runs-held (g.S.Source.is c.args.source.now) c.args.routes.version (gaps_meaning (operand_meaning c.args.operand)) (numbers_of c.args.routes) (list_of c.in_ok-gaps.gaps) (list_of c.in_ok-joined.joined) c.in_ok-joined.ensures
    (gaps-held (g.S.Source.is c.args.source.now) (g.S.Source.is c.rows_on.new.source) c.args.routes.version (operand_meaning c.args.operand) (numbers_of c.args.routes) (list_of c.in_ok-rows.rows) (list_of c.in_ok-gaps.gaps)
    c.in_ok-rows.ensures.ends.leaves.stands c.in_ok-gaps.ensures c.in_ok-rows.ensures.held)

pub gaps_rows-returns-clause-joined : goal.gaps_rows-returns-clause-joined
gaps_rows-returns-clause-joined g t c = runs-joined (g.S.Source.is c.args.source.now) kinds.Line (list_of c.in_ok-gaps.gaps) (list_of c.in_ok-joined.joined) c.in_ok-joined.ensures

-- ---- operators of two

pub paired_rows-paired_on-requires : goal.paired_rows-paired_on-requires
paired_rows-paired_on-requires g t c =
    let a = operand_meaning c.args.left in
    let b = operand_meaning c.args.right in
    let numbers = numbers_of c.args.routes in
    as-kinds (λ two. AllZip (CanPair c.args.pairing two) (list_of c.in_ok-left_rows.left_rows) (list_of c.in_ok-right_rows.right_rows)) a.kind b.kind c.kind.result c.kind-2.result (sym c.kind.ensures) (sym c.kind-2.ensures)
    (can-pair c.args.pairing a.kind b.kind a.width b.width numbers (list_of c.in_ok-left_rows.left_rows) (list_of c.in_ok-right_rows.right_rows) (formed-pair c.args.pairing a b c.requires.well_formed).fit
    (shaped-of (g.S.Source.is c.args.source.now) c.args.routes.version a numbers (list_of c.in_ok-left_rows.left_rows) c.in_ok-left_rows.ensures.held)
    (shaped-of (g.S.Source.is c.rows_on.new.source) c.args.routes.version b numbers (list_of c.in_ok-right_rows.right_rows) c.in_ok-right_rows.ensures.held))

made_kind : (pairing : Pairing) (a b : PlanMeaning) (p q made : Kind) → made ≡ paired_kind pairing p q → p ≡ a.kind → q ≡ b.kind → made ≡ (paired_meaning pairing a b).kind
made_kind pairing a b p q made is left right = is ∙ (λ i. paired_kind pairing (left i) (right i)) ∙ paired_kind-is pairing a b

pub paired_rows-runs_on-requires : goal.paired_rows-runs_on-requires
paired_rows-runs_on-requires g t c =
    let a = operand_meaning c.args.left in
    let b = operand_meaning c.args.right in
    let numbers = numbers_of c.args.routes in
    record {
      placed = of-kind (g.S.Source.is c.args.source.now) c.args.routes.version (paired_meaning c.args.pairing a b) c.made_by.result numbers (list_of c.in_ok-paired.paired)
          (made_kind c.args.pairing a b c.kind.result c.kind-2.result c.made_by.result c.made_by.ensures c.kind.ensures c.kind-2.ensures)
          (paired-held (g.S.Source.is c.args.source.now) c.args.routes.version c.args.pairing a b numbers (list_of c.in_ok-left_rows.left_rows) (list_of c.in_ok-right_rows.right_rows) (list_of c.in_ok-paired.paired)
          c.requires.well_formed
          (as-kinds (λ two. AllZip (IsPaired c.args.pairing two) (zip (list_of c.in_ok-left_rows.left_rows) (list_of c.in_ok-right_rows.right_rows)) (list_of c.in_ok-paired.paired)) c.kind.result c.kind-2.result a.kind b.kind c.kind.ensures c.kind-2.ensures c.in_ok-paired.ensures)
          c.in_ok-left_rows.ensures.held
          (earlier (g.S.Source.is c.args.source.now) (g.S.Source.is c.rows_on.new.source) c.args.routes.version b numbers (list_of c.in_ok-right_rows.right_rows) c.in_ok-left_rows.ensures.ends.leaves.stands c.in_ok-right_rows.ensures.held));
    }

pub paired_rows-returns-clause-joined : goal.paired_rows-returns-clause-joined
paired_rows-returns-clause-joined g t c =
    let a = operand_meaning c.args.left in
    let b = operand_meaning c.args.right in
    subst (λ kind. AreJoinedIn (g.S.Source.is c.args.source.now) kind (list_of c.in_ok-joined.joined)) (made_kind c.args.pairing a b c.kind.result c.kind-2.result c.made_by.result c.made_by.ensures c.kind.ensures c.kind-2.ensures)
    (runs-joined (g.S.Source.is c.args.source.now) c.made_by.result (list_of c.in_ok-paired.paired) (list_of c.in_ok-joined.joined) c.in_ok-joined.ensures)

pub paired_rows-returns-clause-held : goal.paired_rows-returns-clause-held
paired_rows-returns-clause-held g t c =
    let a = operand_meaning c.args.left in
    let b = operand_meaning c.args.right in
    let numbers = numbers_of c.args.routes in
    runs-held (g.S.Source.is c.args.source.now) c.args.routes.version (paired_meaning c.args.pairing a b) numbers (list_of c.in_ok-paired.paired) (list_of c.in_ok-joined.joined)
    (subst (λ kind. AllZip (HasRuns kind) (list_of c.in_ok-paired.paired) (list_of c.in_ok-joined.joined)) (made_kind c.args.pairing a b c.kind.result c.kind-2.result c.made_by.result c.made_by.ensures c.kind.ensures c.kind-2.ensures) c.in_ok-joined.ensures)
    (paired-held (g.S.Source.is c.args.source.now) c.args.routes.version c.args.pairing a b numbers (list_of c.in_ok-left_rows.left_rows) (list_of c.in_ok-right_rows.right_rows) (list_of c.in_ok-paired.paired)
    c.requires.well_formed
    (as-kinds (λ two. AllZip (IsPaired c.args.pairing two) (zip (list_of c.in_ok-left_rows.left_rows) (list_of c.in_ok-right_rows.right_rows)) (list_of c.in_ok-paired.paired)) c.kind.result c.kind-2.result a.kind b.kind c.kind.ensures c.kind-2.ensures c.in_ok-paired.ensures)
    c.in_ok-left_rows.ensures.held
    (earlier (g.S.Source.is c.args.source.now) (g.S.Source.is c.rows_on.new.source) c.args.routes.version b numbers (list_of c.in_ok-right_rows.right_rows) c.in_ok-left_rows.ensures.ends.leaves.stands c.in_ok-right_rows.ensures.held))

pub paired_rows-returns-clause-ends : goal.paired_rows-returns-clause-ends
paired_rows-returns-clause-ends g t c = record {
  leaves = leaves-then g.S.Source g.met.S.Source.passes_trans c.args.source.now c.rows_on.new.source c.rows_on-2.new.source c.in_ok-left_rows.ensures.ends.leaves c.in_ok-right_rows.ensures.ends.leaves;
  wants = tt;
}

-- ---- operands of an OVERLAY

pub overlaid_rows-rows_together-requires : goal.overlaid_rows-rows_together-requires
overlaid_rows-rows_together-requires g t c κs within =
    let formed : (together_meaning (operand_meaning c.in-Some.first ∷ operands_meaning c.in-Some.others)).is_well_formed ≡ true =
    subst (λ (plans : List PlanMeaning). (together_meaning plans).is_well_formed ≡ true) (ap (map meaning_of) c.in-Some.ensures.first) (formed-together c.args.back.now (operands_meaning c.args.operands) c.requires.well_formed) in
    search rules

pub overlaid_rows-changed_on-requires-clause-ordered : goal.overlaid_rows-changed_on-requires-clause-ordered
overlaid_rows-changed_on-requires-clause-ordered g t c =
    in-order (g.S.Source.is c.args.source.now) c.args.routes.version (together_meaning (operand_meaning c.in-Some.first ∷ operands_meaning c.in-Some.others)) (numbers_of c.args.routes) (list_of c.in_ok-overlaid.overlaid) c.in_ok-overlaid.ensures.held

pub overlaid_rows-returns-then-are_in_order-clause-held : goal.overlaid_rows-returns-then-are_in_order-clause-held
overlaid_rows-returns-then-are_in_order-clause-held g t c =
    overlay-stays (g.S.Source.is c.args.source.now) c.args.routes.version c.args.back.now (operands_meaning c.args.operands) (numbers_of c.args.routes) (list_of c.in_ok-overlaid.overlaid)
    (c.are_in_order.ensures c.if-are_in_order.true) (formed-overlay c.args.back.now (operands_meaning c.args.operands) c.requires.well_formed).wide
    (subst (λ (plans : List PlanMeaning). AreHeld (g.S.Source.is c.args.source.now) c.args.routes.version (together_meaning plans) (numbers_of c.args.routes) (list_of c.in_ok-overlaid.overlaid)) (sym (ap (map meaning_of) c.in-Some.ensures.first)) c.in_ok-overlaid.ensures.held)

pub overlaid_rows-returns-then-are_in_order-clause-joined : goal.overlaid_rows-returns-then-are_in_order-clause-joined
overlaid_rows-returns-then-are_in_order-clause-joined g t c =
    subst (λ (plans : List PlanMeaning). AreJoinedIn (g.S.Source.is c.args.source.now) (kinds_together plans) (list_of c.in_ok-overlaid.overlaid)) (sym (ap (map meaning_of) c.in-Some.ensures.first)) c.in_ok-overlaid.ensures.joined

pub overlaid_rows-runs_on-requires : goal.overlaid_rows-runs_on-requires
overlaid_rows-runs_on-requires g t c = record {
  placed = of-kind (g.S.Source.is c.args.source.now) c.args.routes.version (overlay_meaning c.args.back.now (operands_meaning c.args.operands)) c.kind-kind.result (numbers_of c.args.routes) (list_of c.in_ok-put_back.put_back) c.kind-kind.ensures
      (overlay-held (g.S.Source.is c.args.source.now) c.args.routes.version c.args.back (operands_meaning c.args.operands) (numbers_of c.args.routes) (list_of c.in_ok-overlaid.overlaid) (list_of c.in_ok-put_back.put_back)
      (subst (λ (plans : List PlanMeaning). AreHeld (g.S.Source.is c.args.source.now) c.args.routes.version (together_meaning plans) (numbers_of c.args.routes) (list_of c.in_ok-overlaid.overlaid)) (sym (ap (map meaning_of) c.in-Some.ensures.first)) c.in_ok-overlaid.ensures.held)
      c.in_ok-put_back.ensures);
}

pub overlaid_rows-returns-clause-joined : goal.overlaid_rows-returns-clause-joined
overlaid_rows-returns-clause-joined g t c =
    subst (λ kind. AreJoinedIn (g.S.Source.is c.args.source.now) kind (list_of c.in_ok-joined.joined)) c.kind-kind.ensures
    (runs-joined (g.S.Source.is c.args.source.now) c.kind-kind.result (list_of c.in_ok-put_back.put_back) (list_of c.in_ok-joined.joined) c.in_ok-joined.ensures)

pub overlaid_rows-returns-clause-held : goal.overlaid_rows-returns-clause-held
overlaid_rows-returns-clause-held g t c =
    runs-held (g.S.Source.is c.args.source.now) c.args.routes.version (overlay_meaning c.args.back.now (operands_meaning c.args.operands)) (numbers_of c.args.routes) (list_of c.in_ok-put_back.put_back) (list_of c.in_ok-joined.joined)
    (subst (λ kind. AllZip (HasRuns kind) (list_of c.in_ok-put_back.put_back) (list_of c.in_ok-joined.joined)) c.kind-kind.ensures c.in_ok-joined.ensures)
    (overlay-held (g.S.Source.is c.args.source.now) c.args.routes.version c.args.back (operands_meaning c.args.operands) (numbers_of c.args.routes) (list_of c.in_ok-overlaid.overlaid) (list_of c.in_ok-put_back.put_back)
    (subst (λ (plans : List PlanMeaning). AreHeld (g.S.Source.is c.args.source.now) c.args.routes.version (together_meaning plans) (numbers_of c.args.routes) (list_of c.in_ok-overlaid.overlaid)) (sym (ap (map meaning_of) c.in-Some.ensures.first)) c.in_ok-overlaid.ensures.held)
    c.in_ok-put_back.ensures)

pub rows_together-overlaid_with-requires : goal.rows_together-overlaid_with-requires
rows_together-overlaid_with-requires g t c κs within =
    let can : CanOverlay c.kind-kind.result (operands_meaning c.args.others) (numbers_of c.args.routes) (list_of c.in_ok-rows.rows) =
    subst (λ kind. CanOverlay kind (operands_meaning c.args.others) (numbers_of c.args.routes) (list_of c.in_ok-rows.rows)) (sym c.kind-kind.ensures)
    (can-begin (g.S.Source.is c.args.source.now) c.args.routes.version (operand_meaning c.args.first) (operands_meaning c.args.others) (numbers_of c.args.routes) (list_of c.in_ok-rows.rows) (together ((operand_meaning c.args.first) ∷ (operands_meaning c.args.others)) c.requires.well_formed) c.in_ok-rows.ensures.held) in
    search rules

pub rows_together-returns-clause-held : goal.rows_together-returns-clause-held
rows_together-returns-clause-held g t c =
    IfOk-weaker c.overlaid_with.result _ _ (λ rows laid.
    together-laid (g.S.Source.is c.args.source.now) c.args.routes.version (operand_meaning c.args.first) (operands_meaning c.args.others) (numbers_of c.args.routes) (list_of c.in_ok-rows.rows) (list_of rows) c.in_ok-rows.ensures.held
    (laid-earlier (g.S.Source.is c.args.source.now) (g.S.Source.is c.rows_on.new.source) c.args.routes.version (operand_meaning c.args.first).kind (operands_meaning c.args.others) (numbers_of c.args.routes) (list_of c.in_ok-rows.rows) (list_of rows) c.in_ok-rows.ensures.ends.leaves.stands
    (subst (λ kind. AreLaidOver (g.S.Source.is c.rows_on.new.source) c.args.routes.version kind (operands_meaning c.args.others) (numbers_of c.args.routes) (list_of c.in_ok-rows.rows) (list_of rows)) c.kind-kind.ensures laid))) c.overlaid_with.ensures.laid

pub rows_together-returns-clause-joined : goal.rows_together-returns-clause-joined
rows_together-returns-clause-joined g t c =
    IfOk-weaker c.overlaid_with.result _ _ (λ rows laid.
    together-joined (g.S.Source.is c.args.source.now) c.args.routes.version (operand_meaning c.args.first) (operands_meaning c.args.others) (numbers_of c.args.routes) (list_of c.in_ok-rows.rows) (list_of rows) c.in_ok-rows.ensures.held
    (laid-earlier (g.S.Source.is c.args.source.now) (g.S.Source.is c.rows_on.new.source) c.args.routes.version (operand_meaning c.args.first).kind (operands_meaning c.args.others) (numbers_of c.args.routes) (list_of c.in_ok-rows.rows) (list_of rows) c.in_ok-rows.ensures.ends.leaves.stands
    (subst (λ kind. AreLaidOver (g.S.Source.is c.rows_on.new.source) c.args.routes.version kind (operands_meaning c.args.others) (numbers_of c.args.routes) (list_of c.in_ok-rows.rows) (list_of rows)) c.kind-kind.ensures laid))
    c.in_ok-rows.ensures.joined) c.overlaid_with.ensures.laid

pub overlaid_with-returns-then-are_none-clause-laid : goal.overlaid_with-returns-then-are_none-clause-laid
overlaid_with-returns-then-are_none-clause-laid g t c =
    let can = c.requires.can in
    laid-bare (g.S.Source.is c.args.source.now) c.args.routes.version (operands_meaning c.args.operands) c.args.kind can.width (numbers_of c.args.routes) (list_of c.args.rows) (c.are_none.ensures c.if-are_none.true) can.shaped

pub overlaid_with-returns-in_default-clause-laid : goal.overlaid_with-returns-in_default-clause-laid
overlaid_with-returns-in_default-clause-laid g t c =
    let can = c.requires.can in
    subst (λ (plans : List PlanMeaning). AreLaidOver (g.S.Source.is c.args.source.now) c.args.routes.version c.args.kind plans (numbers_of c.args.routes) (list_of c.args.rows) (list_of c.args.rows)) (sym (ap (map meaning_of) c.in_default.ensures.end))
    (laid-none (g.S.Source.is c.args.source.now) c.args.routes.version c.args.kind can.width (numbers_of c.args.routes) (list_of c.args.rows) can.shaped)

pub overlaid_with-laid_with-requires : goal.overlaid_with-laid_with-requires
overlaid_with-laid_with-requires g t c κs within =
    let can : CanOverlay c.args.kind ((operand_meaning c.in-Some.next) ∷ []) (numbers_of c.args.routes) (list_of c.args.rows) =
    can-lay-next c.args.kind (operands_meaning c.args.operands) (operand_meaning c.in-Some.next) (operands_meaning c.in-Some.others) (numbers_of c.args.routes) (list_of c.args.rows) (ap (map meaning_of) c.in-Some.ensures.first) c.requires.can in
    search rules

pub overlaid_with-overlaid_with-requires : goal.overlaid_with-overlaid_with-requires
overlaid_with-overlaid_with-requires g t c κs within =
    let is = c.overlaid_kind-laid_kind.ensures ∙ ap (overlaid_kind c.args.kind) c.kind.ensures in
    let can : CanOverlay c.overlaid_kind-laid_kind.result (operands_meaning c.in-Some.others) (numbers_of c.args.routes) (list_of c.in_ok-laid.laid) =
    subst (λ kind. CanOverlay kind (operands_meaning c.in-Some.others) (numbers_of c.args.routes) (list_of c.in_ok-laid.laid)) (sym is)
    (can-go-on (g.S.Source.is c.args.source.now) c.args.routes.version c.args.kind (operands_meaning c.args.operands) (operand_meaning c.in-Some.next) (operands_meaning c.in-Some.others) (numbers_of c.args.routes) (list_of c.args.rows) (list_of c.in_ok-laid.laid) (ap (map meaning_of) c.in-Some.ensures.first) c.requires.can c.in_ok-laid.ensures.beside) in
    search rules

pub overlaid_with-returns-clause-laid : goal.overlaid_with-returns-clause-laid
overlaid_with-returns-clause-laid g t c =
    let can = c.requires.can in
    let is = c.overlaid_kind-laid_kind.ensures ∙ ap (overlaid_kind c.args.kind) c.kind.ensures in
    IfOk-weaker c.overlaid_with.result _ _ (λ overlaid laid.
    subst (λ (plans : List PlanMeaning). AreLaidOver (g.S.Source.is c.args.source.now) c.args.routes.version c.args.kind plans (numbers_of c.args.routes) (list_of c.args.rows) (list_of overlaid)) (sym (ap (map meaning_of) c.in-Some.ensures.first))
    (laid-next (g.S.Source.is c.args.source.now) c.args.routes.version (operand_meaning c.in-Some.next) (operands_meaning c.in-Some.others) c.args.kind can.width (numbers_of c.args.routes) (list_of c.args.rows) (list_of c.in_ok-laid.laid) (list_of overlaid) can.shaped c.in_ok-laid.ensures.beside
    (laid-earlier (g.S.Source.is c.args.source.now) (g.S.Source.is c.laid_with.new.source) c.args.routes.version (overlaid_kind c.args.kind (operand_meaning c.in-Some.next).kind) (operands_meaning c.in-Some.others) (numbers_of c.args.routes) (list_of c.in_ok-laid.laid) (list_of overlaid) c.in_ok-laid.ensures.ends.leaves.stands
    (subst (λ kind. AreLaidOver (g.S.Source.is c.laid_with.new.source) c.args.routes.version kind (operands_meaning c.in-Some.others) (numbers_of c.args.routes) (list_of c.in_ok-laid.laid) (list_of overlaid)) is laid)))) c.overlaid_with.ensures.laid

pub laid_with-paired_on-requires : goal.laid_with-paired_on-requires
laid_with-paired_on-requires g t c =
    as-kinds (λ two. AllZip (CanPair pairings.Overlay two) (list_of c.args.rows) (list_of c.in_ok-right.right)) c.args.kind (operand_meaning c.args.next).kind c.args.kind c.kind.result refl (sym c.kind.ensures)
    (can-pair-next (g.S.Source.is c.args.source.now) c.args.routes.version c.args.kind (operand_meaning c.args.next) (numbers_of c.args.routes) (list_of c.args.rows) (list_of c.in_ok-right.right) c.requires.can c.in_ok-right.ensures.held)

pub laid_with-returns-clause-beside : goal.laid_with-returns-clause-beside
laid_with-returns-clause-beside g t c =
    beside-held (g.S.Source.is c.args.source.now) c.args.routes.version c.args.kind (operand_meaning c.args.next) (numbers_of c.args.routes) (list_of c.args.rows) (list_of c.in_ok-right.right) (list_of c.in_ok-paired.paired) c.in_ok-right.ensures.held c.in_ok-right.ensures.joined
    (as-kinds (λ two. AllZip (IsPaired pairings.Overlay two) (zip (list_of c.args.rows) (list_of c.in_ok-right.right)) (list_of c.in_ok-paired.paired)) c.args.kind c.kind.result c.args.kind (operand_meaning c.args.next).kind refl c.kind.ensures c.in_ok-paired.ensures)
    (shaped-length c.args.kind c.requires.can.width (numbers_of c.args.routes) (list_of c.args.rows) c.requires.can.shaped)

-- ---- by the topmost node

pub rows_on-returns-in-Leaf-clause-held : goal.rows_on-returns-in-Leaf-clause-held
rows_on-returns-in-Leaf-clause-held g t c =
    subst (λ (meaning : PlanMeaning). IfOk c.leaf_on.result (λ rows. AreHeld (g.S.Source.is c.args.source.now) c.args.routes.version meaning (numbers_of c.args.routes) (list_of rows)))
    (sym (c.node.ensures.means ∙ ap node_meaning c.in-Leaf.is)) c.leaf_on.ensures.held

pub rows_on-returns-in-Overlaid-clause-held : goal.rows_on-returns-in-Overlaid-clause-held
rows_on-returns-in-Overlaid-clause-held g t c =
    subst (λ (meaning : PlanMeaning). IfOk c.overlaid_rows.result (λ rows. AreHeld (g.S.Source.is c.args.source.now) c.args.routes.version meaning (numbers_of c.args.routes) (list_of rows)))
    (sym (c.node.ensures.means ∙ ap node_meaning c.in-Overlaid.is)) c.overlaid_rows.ensures.held

pub rows_on-returns-in-Seen-clause-held : goal.rows_on-returns-in-Seen-clause-held
rows_on-returns-in-Seen-clause-held g t c =
    subst (λ (meaning : PlanMeaning). IfOk c.seen_rows.result (λ rows. AreHeld (g.S.Source.is c.args.source.now) c.args.routes.version meaning (numbers_of c.args.routes) (list_of rows)))
    (sym (c.node.ensures.means ∙ ap node_meaning c.in-Seen.is)) c.seen_rows.ensures.held

pub rows_on-returns-in-Carried-clause-held : goal.rows_on-returns-in-Carried-clause-held
rows_on-returns-in-Carried-clause-held g t c =
    subst (λ (meaning : PlanMeaning). IfOk c.carried_rows.result (λ rows. AreHeld (g.S.Source.is c.args.source.now) c.args.routes.version meaning (numbers_of c.args.routes) (list_of rows)))
    (sym (c.node.ensures.means ∙ ap node_meaning c.in-Carried.is)) c.carried_rows.ensures.held

pub rows_on-returns-in-Gaps-clause-held : goal.rows_on-returns-in-Gaps-clause-held
rows_on-returns-in-Gaps-clause-held g t c =
    subst (λ (meaning : PlanMeaning). IfOk c.gaps_rows.result (λ rows. AreHeld (g.S.Source.is c.args.source.now) c.args.routes.version meaning (numbers_of c.args.routes) (list_of rows)))
    (sym (c.node.ensures.means ∙ ap node_meaning c.in-Gaps.is)) c.gaps_rows.ensures.held

pub rows_on-returns-in-Leaf-clause-joined : goal.rows_on-returns-in-Leaf-clause-joined
rows_on-returns-in-Leaf-clause-joined g t c =
    subst (λ (meaning : PlanMeaning). IfOk c.leaf_on.result (λ rows. AreJoinedIn (g.S.Source.is c.args.source.now) meaning.kind (list_of rows)))
    (sym (c.node.ensures.means ∙ ap node_meaning c.in-Leaf.is)) c.leaf_on.ensures.joined

pub rows_on-returns-in-Changed-clause-joined : goal.rows_on-returns-in-Changed-clause-joined
rows_on-returns-in-Changed-clause-joined g t c =
    subst (λ (meaning : PlanMeaning). IfOk c.changed_rows.result (λ rows. AreJoinedIn (g.S.Source.is c.args.source.now) meaning.kind (list_of rows)))
    (sym (c.node.ensures.means ∙ ap node_meaning c.in-Changed.is)) c.changed_rows.ensures.joined

pub rows_on-returns-in-Overlaid-clause-joined : goal.rows_on-returns-in-Overlaid-clause-joined
rows_on-returns-in-Overlaid-clause-joined g t c =
    subst (λ (meaning : PlanMeaning). IfOk c.overlaid_rows.result (λ rows. AreJoinedIn (g.S.Source.is c.args.source.now) meaning.kind (list_of rows)))
    (sym (c.node.ensures.means ∙ ap node_meaning c.in-Overlaid.is)) c.overlaid_rows.ensures.joined

pub rows_on-returns-in-Paired-clause-joined : goal.rows_on-returns-in-Paired-clause-joined
rows_on-returns-in-Paired-clause-joined g t c =
    subst (λ (meaning : PlanMeaning). IfOk c.paired_rows.result (λ rows. AreJoinedIn (g.S.Source.is c.args.source.now) meaning.kind (list_of rows)))
    (sym (c.node.ensures.means ∙ ap node_meaning c.in-Paired.is)) c.paired_rows.ensures.joined

pub rows_on-returns-in-Seen-clause-joined : goal.rows_on-returns-in-Seen-clause-joined
rows_on-returns-in-Seen-clause-joined g t c =
    subst (λ (meaning : PlanMeaning). IfOk c.seen_rows.result (λ rows. AreJoinedIn (g.S.Source.is c.args.source.now) meaning.kind (list_of rows)))
    (sym (c.node.ensures.means ∙ ap node_meaning c.in-Seen.is)) c.seen_rows.ensures.joined

pub rows_on-returns-in-Carried-clause-joined : goal.rows_on-returns-in-Carried-clause-joined
rows_on-returns-in-Carried-clause-joined g t c =
    subst (λ (meaning : PlanMeaning). IfOk c.carried_rows.result (λ rows. AreJoinedIn (g.S.Source.is c.args.source.now) meaning.kind (list_of rows)))
    (sym (c.node.ensures.means ∙ ap node_meaning c.in-Carried.is)) c.carried_rows.ensures.joined

pub rows_on-returns-in-Gaps-clause-joined : goal.rows_on-returns-in-Gaps-clause-joined
rows_on-returns-in-Gaps-clause-joined g t c =
    subst (λ (meaning : PlanMeaning). IfOk c.gaps_rows.result (λ rows. AreJoinedIn (g.S.Source.is c.args.source.now) meaning.kind (list_of rows)))
    (sym (c.node.ensures.means ∙ ap node_meaning c.in-Gaps.is)) c.gaps_rows.ensures.joined

-- ---- windows

pub seen_rows-returns-in_default-clause-joined : goal.seen_rows-returns-in_default-clause-joined
seen_rows-returns-in_default-clause-joined g t c = nowhere-joined (g.S.Source.is c.args.source.now) (operand_meaning c.args.operand).kind (numbers_of c.args.routes) (list_of c.in_ok-none.none) c.in_ok-none.ensures

pub seen_rows-returns-clause-joined : goal.seen_rows-returns-clause-joined
seen_rows-returns-clause-joined g t c =
    let kind = (operand_meaning c.args.operand).kind in
    spread-joined (g.S.Source.is c.args.source.now) kind c.in-Some.route (map seen c.cut.new.spans.items) (numbers_of c.args.routes) (list_of c.in_ok-spread.spread)
    (λ snapshots there. c.cut.ensures.joined kind (c.in_ok-rows.ensures.joined.0 snapshots there)) c.in_ok-spread.ensures

pub seen_rows-returns-in_default-clause-held : goal.seen_rows-returns-in_default-clause-held
seen_rows-returns-in_default-clause-held g t c =
    window-none (g.S.Source.is c.args.source.now) c.args.routes.version c.args.windows.now (operand_meaning c.args.operand) (numbers_of c.args.routes) (list_of c.in_ok-none.none) c.in_default.ensures.none c.in_ok-none.ensures

pub seen_rows-returns-clause-held : goal.seen_rows-returns-clause-held
seen_rows-returns-clause-held g t c =
    seen-held (g.S.Source.is c.args.source.now) c.args.routes.version c.args.windows.now (operand_meaning c.args.operand) c.in-Some.route c.in-Some.part c.in_ok-rows.rows.first (map seen c.cut.new.spans.items) (numbers_of c.args.routes) (list_of c.in_ok-spread.spread)
    c.in-Some.ensures.seen c.in_ok-rows.ensures.held.0 c.cut.ensures.means c.cut.ensures.sorted c.cut.ensures.placed c.cut.ensures.width c.in_ok-spread.ensures

-- ---- what pieces carry

pub carried_rows-returns-in_default-clause-held : goal.carried_rows-returns-in_default-clause-held
carried_rows-returns-in_default-clause-held g t c =
    let numbers = numbers_of c.args.routes in
    let none_left = sym c.deref.ensures.value ∙ empty c.deref.result.now c.in_default.ensures.cases in
    transform-none (g.S.Source.is c.args.source.now) c.args.routes.version (operand_meaning c.args.operand) c.args.pieces.now numbers (list_of c.in_ok-none.none)
    (subst (λ sources. AreSourcesOf numbers sources c.args.pieces.now) none_left c.in_ok-numbers.ensures.led) c.in_ok-none.ensures

pub carried_rows-returns-in_default-clause-joined : goal.carried_rows-returns-in_default-clause-joined
carried_rows-returns-in_default-clause-joined g t c = nowhere-joined (g.S.Source.is c.args.source.now) (operand_meaning c.args.operand).kind (numbers_of c.args.routes) (list_of c.in_ok-none.none) c.in_ok-none.ensures

pub carried_rows-returns-clause-joined : goal.carried_rows-returns-clause-joined
carried_rows-returns-clause-joined g t c = carried-joined (g.S.Source.is c.args.source.now) _ (operand_meaning c.args.operand).kind (numbers_of c.args.routes) (list_of c.in_ok-carried.carried) c.kind-kind.ensures c.in_ok-carried.ensures

pub carried_rows-carried_on-requires : goal.carried_rows-carried_on-requires
carried_rows-carried_on-requires g t c = record {
  can = can-carry (g.S.Source.is c.args.source.now) c.args.routes.version (operand_meaning c.args.operand) _
      (pieces-forwards c.args.pieces.now (operand_meaning c.args.operand) c.requires.well_formed).1 c.kind-kind.ensures c.in_ok-rows.ensures.held;
}

pub carried_rows-returns-clause-held : goal.carried_rows-returns-clause-held
carried_rows-returns-clause-held g t c =
    let numbers = numbers_of c.args.routes in
    let some = sym c.deref.ensures.value ∙ c.in-Some.ensures.cases.0 in
    carried-held (g.S.Source.is c.args.source.now) c.args.routes.version (operand_meaning c.args.operand) _ numbers (list_of c.in_ok-carried.carried) c.kind-kind.ensures c.in_ok-rows.ensures.held
    (subst (λ sources. AreSourcesOf numbers sources c.args.pieces.now) some c.in_ok-numbers.ensures.led) c.in_ok-carried.ensures

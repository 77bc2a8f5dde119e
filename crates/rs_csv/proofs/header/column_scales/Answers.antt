use Rattle.std.proofs.Common.{◌∙◌, ◌<◌, ◌≤◌, ap, arith, get_or, length, map, subst, take_all}
use Rattle.rs_csv.specs.Header.{AreScales, IsScaled}
use Rattle.rs_csv.proofs.Headers.{scales_step}
use Rattle.rs_csv.proofs.header.column_scales.Goals as goal

pub returns : goal.returns
returns c =
    let items = c.args.definition.now.columns.items in
    let beyond : length items ≤ c.loop-column.column-index = omega (arith, ap length c.deref-column-items.ensures.value, c.deref-column-items.ensures.len, c.loop-column-test.false) in
    subst (λ columns. AreScales c.args.wanted.now columns c.loop-column.scales.items) (take_all c.loop-column.column-index items beyond) c.loop-column.invariant

pub loop-column-preserved : goal.loop-column-preserved
loop-column-preserved c =
    let items = c.args.definition.now.columns.items in
    let i = c.loop-column.column-index in
    let less : i < length items = omega (arith, ap length c.deref-column-items.ensures.value, c.deref-column-items.ensures.len, c.loop-column-test.true) in
    scales_step c.args.wanted.now items i c.column-item.result c.loop-column.scales.items _ c.in_ok-scale.scale less (c.column-item.is ∙ ap (λ list. get_or list i c.column-item.result) c.deref-column-items.ensures.value) c.loop-column.invariant
    (subst (λ column. IsScaled (map (λ words. words.now) c.args.wanted.now.scales.now) column c.in_ok-scale.scale) c.as_str.ensures.value c.in_ok-scale.ensures.scaled) c.in_ok-push.ensures.items

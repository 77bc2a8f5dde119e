use Rattle.std.proofs.lemmas.Result.{err_from_is_err_and}
use Rattle.std.proofs.lemmas.List.{take_all}
use Rattle.std.proofs.Common.{string_bytes, ap, subst, ◌++◌, ◌∙◌}
use Rattle.std.specs.Prelude.{flat_map}
use Rattle.rs_machine.specs.ReplyText.{row_text}
use Rattle.rs_serve.specs.ReplyView.{rows_of}
use Rattle.rs_protocol.specs.Inner.{PutsBut}
use Rattle.rs_protocol.proofs.Putting.{PutsLater-none, PutsLater-shown, PutsLater-stops-in}
use Rattle.rs_protocol.proofs.replies.put_rows.Goals as goal

pub loop-row-init : goal.loop-row-init
loop-row-init g c = PutsLater-none c.args.pending.now.items (g.W.Write.contents c.args.writer.now)

pub returns-in_err-put_row : goal.returns-in_err-put_row
returns-in_err-put_row g c =
    let p = err_from_is_err_and c.from_residual.result c.from_residual.ensures.1 in
    rw (p.1, p.2)
    (PutsLater-stops-in _ c.in_err-put_row.field-0.0 (row_text c.args.session) string_bytes c.args.rows.now c.loop-row.row-index c.row-item.result c.as_str-in-loop-row.result.now c.args.pending.now.items c.loop-row.pending.items
    (g.W.Write.contents c.args.writer.now) (g.W.Write.contents c.loop-row.writer) (g.W.Write.contents c.put_row.new.writer)
    c.loop-row-test.true (c.as_str-in-loop-row.ensures.value ∙ ap string_bytes c.row-item.is) c.loop-row.invariant (c.in_err-put_row.ensures c.args.session (c.as_str.ensures.value ∙ c.row_head-head.ensures)))

pub loop-row-preserved : goal.loop-row-preserved
loop-row-preserved g c =
    PutsLater-shown _ (row_text c.args.session) string_bytes c.args.rows.now c.loop-row.row-index c.row-item.result c.as_str-in-loop-row.result.now c.args.pending.now.items c.loop-row.pending.items c.put_row.new.pending.items
    (g.W.Write.contents c.args.writer.now) (g.W.Write.contents c.loop-row.writer) (g.W.Write.contents c.put_row.new.writer)
    c.loop-row-test.true (c.as_str-in-loop-row.ensures.value ∙ ap string_bytes c.row-item.is) c.loop-row.invariant (c.in_ok-put_row.ensures c.args.session (c.as_str.ensures.value ∙ c.row_head-head.ensures))

pub returns : goal.returns
returns g c =
    subst (λ rows. PutsBut (c.args.pending.now.items ++ flat_map (row_text c.args.session) (rows_of rows)) c.loop-row.pending.items (g.W.Write.contents c.args.writer.now) (g.W.Write.contents c.loop-row.writer))
    (take_all c.loop-row.row-index c.args.rows.now c.loop-row-test.false) c.loop-row.invariant

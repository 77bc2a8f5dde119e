-- Each command is served by its call, and the reply says what that answered.
use Rattle.std.proofs.Common.{List, map, subst}
use Rattle.rs_engine.specs.Replied.{count_reply_of, rows_reply_of}
use Rattle.rs_engine.specs.Serving.{IsServed}
use Rattle.rs_machine.specs.Step.{row_inserted, totals_printed}
use Rattle.arrayvec.specs.declared.array_string.ArrayString.{ArrayString}
use Rattle.rs_syntax.specs.QueryView.{query_tree}
use Rattle.rs_engine.proofs.Replying.{replied}
use Rattle.rs_engine.proofs.Clearing.{cleared_as}
use Rattle.rs_engine.proofs.Reading.{reads_refl}
use Rattle.rs_engine.proofs.Saving.{reopened_by, saved_as, saved_by, saved_none}
use Rattle.rs_engine.proofs.Staying.{stays_as, stays_counted, stays_listed, stays_reopened}
use Rattle.rs_serve.specs.Said.{IsSaid}
use Rattle.rs_syntax.specs.View.{location_tree, summed_tree, tree_of}
use Rattle.rs_syntax.specs.declared.commands.Command.{Command}
use Rattle.rs_value.specs.View.{literal_row}
use Rattle.rs_value.specs.declared.value.Literal.{Literal}
use Rattle.rs_engine.proofs.engine.Engine.reply_to.Goals as goal

pub returns-in-DefineRoute-clause-served : goal.returns-in-DefineRoute-clause-served
returns-in-DefineRoute-clause-served g c machine is = replied g.D.Disk c.args.session machine c.in-DefineRoute.is c.count_reply.ensures.reply (c.define_route.ensures.serves machine is).served

pub returns-in-DefineTable-clause-served : goal.returns-in-DefineTable-clause-served
returns-in-DefineTable-clause-served g c machine is = replied g.D.Disk c.args.session machine c.in-DefineTable.is c.count_reply-in-DefineTable.ensures.reply (c.define_table.ensures.serves machine is).served

pub returns-in-DefineReferent-clause-served : goal.returns-in-DefineReferent-clause-served
returns-in-DefineReferent-clause-served g c machine is = replied g.D.Disk c.args.session machine c.in-DefineReferent.is c.count_reply-in-DefineReferent.ensures.reply (c.define_referent.ensures.serves machine is).served

pub returns-in-DefineIndex-clause-served : goal.returns-in-DefineIndex-clause-served
returns-in-DefineIndex-clause-served g c machine is = replied g.D.Disk c.args.session machine c.in-DefineIndex.is c.count_reply-in-DefineIndex.ensures.reply (c.define_index.ensures.serves machine is).served

pub returns-in-DefineView-clause-served : goal.returns-in-DefineView-clause-served
returns-in-DefineView-clause-served g c machine is = replied g.D.Disk c.args.session machine c.in-DefineView.is c.count_reply-in-DefineView.ensures.reply (c.define_view.ensures.serves c.args.session (subst (λ (one : Command). IsSaid c.args.session (tree_of one)) c.in-DefineView.is c.requires.said) machine is).served

pub returns-in-DefineAlignment-clause-served : goal.returns-in-DefineAlignment-clause-served
returns-in-DefineAlignment-clause-served g c machine is = replied g.D.Disk c.args.session machine c.in-DefineAlignment.is c.count_reply-in-DefineAlignment.ensures.reply (c.define_alignment.ensures.serves machine is).served

pub returns-in-MoveReferent-clause-served : goal.returns-in-MoveReferent-clause-served
returns-in-MoveReferent-clause-served g c machine is = replied g.D.Disk c.args.session machine c.in-MoveReferent.is c.count_reply-in-MoveReferent.ensures.reply (c.move_referent.ensures.serves machine is).served

pub returns-in-DropRoute-clause-served : goal.returns-in-DropRoute-clause-served
returns-in-DropRoute-clause-served g c machine is = replied g.D.Disk c.args.session machine c.in-DropRoute.is c.count_reply-in-DropRoute.ensures.reply (c.drop_route.ensures.serves machine is).served

pub returns-in-DropTable-clause-served : goal.returns-in-DropTable-clause-served
returns-in-DropTable-clause-served g c machine is = replied g.D.Disk c.args.session machine c.in-DropTable.is c.count_reply-in-DropTable.ensures.reply (c.drop_table.ensures.serves machine is).served

pub returns-in-DropIndex-clause-served : goal.returns-in-DropIndex-clause-served
returns-in-DropIndex-clause-served g c machine is = replied g.D.Disk c.args.session machine c.in-DropIndex.is c.count_reply-in-DropIndex.ensures.reply (c.drop_index.ensures.serves machine is).served

pub returns-in-DropView-clause-served : goal.returns-in-DropView-clause-served
returns-in-DropView-clause-served g c machine is = replied g.D.Disk c.args.session machine c.in-DropView.is c.count_reply-in-DropView.ensures.reply (c.drop_view.ensures.serves machine is).served

pub returns-in-DropAlignment-clause-served : goal.returns-in-DropAlignment-clause-served
returns-in-DropAlignment-clause-served g c machine is = replied g.D.Disk c.args.session machine c.in-DropAlignment.is c.count_reply-in-DropAlignment.ensures.reply (c.drop_alignment.ensures.serves machine is).served

pub returns-in-DropReferent-clause-served : goal.returns-in-DropReferent-clause-served
returns-in-DropReferent-clause-served g c machine is = replied g.D.Disk c.args.session machine c.in-DropReferent.is c.count_reply-in-DropReferent.ensures.reply (c.drop_referent.ensures.serves machine is).served

pub returns-in-Insert-clause-served : goal.returns-in-Insert-clause-served
returns-in-Insert-clause-served g c machine is = replied g.D.Disk c.args.session machine c.in-Insert.is c.count_reply-in-Insert.ensures.reply
    (subst (λ (values : List Literal). IsServed g.D.Disk (row_inserted machine.state c.in-Insert.table.bytes c.in-Insert.route.bytes (location_tree c.in-Insert.place) (literal_row values)) machine
    (count_reply_of c.insert.result) c.insert.new.self) c.deref.ensures.value (c.insert.ensures.serves machine is).served)

pub returns-in-Remove-clause-served : goal.returns-in-Remove-clause-served
returns-in-Remove-clause-served g c machine is = replied g.D.Disk c.args.session machine c.in-Remove.is c.count_reply-in-Remove.ensures.reply (c.remove.ensures.serves machine is).served

pub returns-in-Translate-clause-served : goal.returns-in-Translate-clause-served
returns-in-Translate-clause-served g c machine is = replied g.D.Disk c.args.session machine c.in-Translate.is c.rows_reply.ensures.reply (c.translate.ensures.serves machine is)

pub returns-in-Select-clause-served : goal.returns-in-Select-clause-served
returns-in-Select-clause-served g c machine is = replied g.D.Disk c.args.session machine c.in-Select.is c.rows_reply-in-Select.ensures.reply (c.select.ensures.serves machine is)

pub returns-in-Total-clause-served : goal.returns-in-Total-clause-served
returns-in-Total-clause-served g c machine is = replied g.D.Disk c.args.session machine c.in-Total.is c.rows_reply-in-Total.ensures.reply
    (subst (λ (by : List (ArrayString 32)). IsServed g.D.Disk (totals_printed machine.state (query_tree c.in-Total.query) (map (λ (name : ArrayString 32). name.bytes) by) (summed_tree c.in-Total.summed)) machine
    (rows_reply_of c.total.result) c.total.new.self) c.as_slice.ensures.value (c.total.ensures.serves machine is))

pub returns-in-Explain-clause-served : goal.returns-in-Explain-clause-served
returns-in-Explain-clause-served g c machine is = replied g.D.Disk c.args.session machine c.in-Explain.is c.rows_reply-in-Explain.ensures.reply (c.explain.ensures.serves machine is)

pub returns-in-Open-clause-served : goal.returns-in-Open-clause-served
returns-in-Open-clause-served g c machine is = replied g.D.Disk c.args.session machine c.in-Open.is c.count_reply-in-Open.ensures.reply (c.open_cursor.ensures.serves machine is)

pub returns-in-Fetch-clause-served : goal.returns-in-Fetch-clause-served
returns-in-Fetch-clause-served g c machine is = replied g.D.Disk c.args.session machine c.in-Fetch.is c.rows_reply-in-Fetch.ensures.reply (c.fetch.ensures.serves machine is)

pub returns-in-Close-clause-served : goal.returns-in-Close-clause-served
returns-in-Close-clause-served g c machine is = replied g.D.Disk c.args.session machine c.in-Close.is c.count_reply-in-Close.ensures.reply (c.close_cursor.ensures.serves machine is).served

pub returns-in-Save-clause-served : goal.returns-in-Save-clause-served
returns-in-Save-clause-served g c machine is = replied g.D.Disk c.args.session machine c.in-Save.is c.count_reply-in-Save.ensures.reply (c.save.ensures.serves machine is)

pub returns-in-Reopen-clause-served : goal.returns-in-Reopen-clause-served
returns-in-Reopen-clause-served g c machine is = replied g.D.Disk c.args.session machine c.in-Reopen.is c.nothing_reply.ensures.reply (c.reopen.ensures.serves machine is)

pub returns-in-DefineRoute-clause-saved : goal.returns-in-DefineRoute-clause-saved
returns-in-DefineRoute-clause-saved g c = saved_none g.D.Disk _ _ _ c.args.command _ c.in-DefineRoute.is (λ P. tt)

pub returns-in-DefineTable-clause-saved : goal.returns-in-DefineTable-clause-saved
returns-in-DefineTable-clause-saved g c = saved_none g.D.Disk _ _ _ c.args.command _ c.in-DefineTable.is (λ P. tt)

pub returns-in-DefineReferent-clause-saved : goal.returns-in-DefineReferent-clause-saved
returns-in-DefineReferent-clause-saved g c = saved_none g.D.Disk _ _ _ c.args.command _ c.in-DefineReferent.is (λ P. tt)

pub returns-in-DefineIndex-clause-saved : goal.returns-in-DefineIndex-clause-saved
returns-in-DefineIndex-clause-saved g c = saved_none g.D.Disk _ _ _ c.args.command _ c.in-DefineIndex.is (λ P. tt)

pub returns-in-DefineView-clause-saved : goal.returns-in-DefineView-clause-saved
returns-in-DefineView-clause-saved g c = saved_none g.D.Disk _ _ _ c.args.command _ c.in-DefineView.is (λ P. tt)

pub returns-in-DefineAlignment-clause-saved : goal.returns-in-DefineAlignment-clause-saved
returns-in-DefineAlignment-clause-saved g c = saved_none g.D.Disk _ _ _ c.args.command _ c.in-DefineAlignment.is (λ P. tt)

pub returns-in-MoveReferent-clause-saved : goal.returns-in-MoveReferent-clause-saved
returns-in-MoveReferent-clause-saved g c = saved_none g.D.Disk _ _ _ c.args.command _ c.in-MoveReferent.is (λ P. tt)

pub returns-in-DropRoute-clause-saved : goal.returns-in-DropRoute-clause-saved
returns-in-DropRoute-clause-saved g c = saved_none g.D.Disk _ _ _ c.args.command _ c.in-DropRoute.is (λ P. tt)

pub returns-in-DropTable-clause-saved : goal.returns-in-DropTable-clause-saved
returns-in-DropTable-clause-saved g c = saved_none g.D.Disk _ _ _ c.args.command _ c.in-DropTable.is (λ P. tt)

pub returns-in-DropIndex-clause-saved : goal.returns-in-DropIndex-clause-saved
returns-in-DropIndex-clause-saved g c = saved_none g.D.Disk _ _ _ c.args.command _ c.in-DropIndex.is (λ P. tt)

pub returns-in-DropView-clause-saved : goal.returns-in-DropView-clause-saved
returns-in-DropView-clause-saved g c = saved_none g.D.Disk _ _ _ c.args.command _ c.in-DropView.is (λ P. tt)

pub returns-in-DropAlignment-clause-saved : goal.returns-in-DropAlignment-clause-saved
returns-in-DropAlignment-clause-saved g c = saved_none g.D.Disk _ _ _ c.args.command _ c.in-DropAlignment.is (λ P. tt)

pub returns-in-DropReferent-clause-saved : goal.returns-in-DropReferent-clause-saved
returns-in-DropReferent-clause-saved g c = saved_none g.D.Disk _ _ _ c.args.command _ c.in-DropReferent.is (λ P. tt)

pub returns-in-Insert-clause-saved : goal.returns-in-Insert-clause-saved
returns-in-Insert-clause-saved g c = saved_none g.D.Disk _ _ _ c.args.command _ c.in-Insert.is (λ P. tt)

pub returns-in-Remove-clause-saved : goal.returns-in-Remove-clause-saved
returns-in-Remove-clause-saved g c = saved_none g.D.Disk _ _ _ c.args.command _ c.in-Remove.is (λ P. tt)

pub returns-in-Translate-clause-saved : goal.returns-in-Translate-clause-saved
returns-in-Translate-clause-saved g c = saved_none g.D.Disk _ _ _ c.args.command _ c.in-Translate.is (λ P. tt)

pub returns-in-Select-clause-saved : goal.returns-in-Select-clause-saved
returns-in-Select-clause-saved g c = saved_none g.D.Disk _ _ _ c.args.command _ c.in-Select.is (λ P. tt)

pub returns-in-Total-clause-saved : goal.returns-in-Total-clause-saved
returns-in-Total-clause-saved g c = saved_none g.D.Disk _ _ _ c.args.command _ c.in-Total.is (λ P. tt)

pub returns-in-Explain-clause-saved : goal.returns-in-Explain-clause-saved
returns-in-Explain-clause-saved g c = saved_none g.D.Disk _ _ _ c.args.command _ c.in-Explain.is (λ P. tt)

pub returns-in-Open-clause-saved : goal.returns-in-Open-clause-saved
returns-in-Open-clause-saved g c = saved_none g.D.Disk _ _ _ c.args.command _ c.in-Open.is (λ P. tt)

pub returns-in-Fetch-clause-saved : goal.returns-in-Fetch-clause-saved
returns-in-Fetch-clause-saved g c = saved_none g.D.Disk _ _ _ c.args.command _ c.in-Fetch.is (λ P. tt)

pub returns-in-Close-clause-saved : goal.returns-in-Close-clause-saved
returns-in-Close-clause-saved g c = saved_none g.D.Disk _ _ _ c.args.command _ c.in-Close.is (λ P. tt)

pub returns-in-Save-clause-saved : goal.returns-in-Save-clause-saved
returns-in-Save-clause-saved g c = saved_as g.D.Disk _ _ _ c.args.command _ c.in-Save.is (saved_by g.D.Disk _ _ _ c.save.result c.count_reply-in-Save.ensures.reply c.save.ensures.saves)

pub returns-in-Reopen-clause-saved : goal.returns-in-Reopen-clause-saved
returns-in-Reopen-clause-saved g c = saved_as g.D.Disk _ _ _ c.args.command _ c.in-Reopen.is (reopened_by g.D.Disk _ _ _ c.reopen.result c.nothing_reply.ensures.reply c.reopen.ensures.saves)

pub returns-in-DefineRoute-clause-cleared : goal.returns-in-DefineRoute-clause-cleared
returns-in-DefineRoute-clause-cleared g c = cleared_as g.D.Disk c.in-DefineRoute.is c.count_reply.ensures.reply (λ machine is. (c.define_route.ensures.serves machine is).cleared)

pub returns-in-DefineTable-clause-cleared : goal.returns-in-DefineTable-clause-cleared
returns-in-DefineTable-clause-cleared g c = cleared_as g.D.Disk c.in-DefineTable.is c.count_reply-in-DefineTable.ensures.reply (λ machine is. (c.define_table.ensures.serves machine is).cleared)

pub returns-in-DefineReferent-clause-cleared : goal.returns-in-DefineReferent-clause-cleared
returns-in-DefineReferent-clause-cleared g c = cleared_as g.D.Disk c.in-DefineReferent.is c.count_reply-in-DefineReferent.ensures.reply (λ machine is. (c.define_referent.ensures.serves machine is).cleared)

pub returns-in-DefineIndex-clause-cleared : goal.returns-in-DefineIndex-clause-cleared
returns-in-DefineIndex-clause-cleared g c = cleared_as g.D.Disk c.in-DefineIndex.is c.count_reply-in-DefineIndex.ensures.reply (λ machine is. (c.define_index.ensures.serves machine is).cleared)

pub returns-in-DefineView-clause-cleared : goal.returns-in-DefineView-clause-cleared
returns-in-DefineView-clause-cleared g c = cleared_as g.D.Disk c.in-DefineView.is c.count_reply-in-DefineView.ensures.reply (λ machine is. (c.define_view.ensures.serves c.args.session (subst (λ (one : Command). IsSaid c.args.session (tree_of one)) c.in-DefineView.is c.requires.said) machine is).cleared)

pub returns-in-DefineAlignment-clause-cleared : goal.returns-in-DefineAlignment-clause-cleared
returns-in-DefineAlignment-clause-cleared g c = cleared_as g.D.Disk c.in-DefineAlignment.is c.count_reply-in-DefineAlignment.ensures.reply (λ machine is. (c.define_alignment.ensures.serves machine is).cleared)

pub returns-in-MoveReferent-clause-cleared : goal.returns-in-MoveReferent-clause-cleared
returns-in-MoveReferent-clause-cleared g c = cleared_as g.D.Disk c.in-MoveReferent.is c.count_reply-in-MoveReferent.ensures.reply (λ machine is. (c.move_referent.ensures.serves machine is).cleared)

pub returns-in-DropRoute-clause-cleared : goal.returns-in-DropRoute-clause-cleared
returns-in-DropRoute-clause-cleared g c = cleared_as g.D.Disk c.in-DropRoute.is c.count_reply-in-DropRoute.ensures.reply (λ machine is. (c.drop_route.ensures.serves machine is).cleared)

pub returns-in-DropTable-clause-cleared : goal.returns-in-DropTable-clause-cleared
returns-in-DropTable-clause-cleared g c = cleared_as g.D.Disk c.in-DropTable.is c.count_reply-in-DropTable.ensures.reply (λ machine is. (c.drop_table.ensures.serves machine is).cleared)

pub returns-in-DropIndex-clause-cleared : goal.returns-in-DropIndex-clause-cleared
returns-in-DropIndex-clause-cleared g c = cleared_as g.D.Disk c.in-DropIndex.is c.count_reply-in-DropIndex.ensures.reply (λ machine is. (c.drop_index.ensures.serves machine is).cleared)

pub returns-in-DropView-clause-cleared : goal.returns-in-DropView-clause-cleared
returns-in-DropView-clause-cleared g c = cleared_as g.D.Disk c.in-DropView.is c.count_reply-in-DropView.ensures.reply (λ machine is. (c.drop_view.ensures.serves machine is).cleared)

pub returns-in-DropAlignment-clause-cleared : goal.returns-in-DropAlignment-clause-cleared
returns-in-DropAlignment-clause-cleared g c = cleared_as g.D.Disk c.in-DropAlignment.is c.count_reply-in-DropAlignment.ensures.reply (λ machine is. (c.drop_alignment.ensures.serves machine is).cleared)

pub returns-in-DropReferent-clause-cleared : goal.returns-in-DropReferent-clause-cleared
returns-in-DropReferent-clause-cleared g c = cleared_as g.D.Disk c.in-DropReferent.is c.count_reply-in-DropReferent.ensures.reply (λ machine is. (c.drop_referent.ensures.serves machine is).cleared)

pub returns-in-Insert-clause-cleared : goal.returns-in-Insert-clause-cleared
returns-in-Insert-clause-cleared g c = cleared_as g.D.Disk c.in-Insert.is c.count_reply-in-Insert.ensures.reply (λ machine is. (c.insert.ensures.serves machine is).cleared)

pub returns-in-Remove-clause-cleared : goal.returns-in-Remove-clause-cleared
returns-in-Remove-clause-cleared g c = cleared_as g.D.Disk c.in-Remove.is c.count_reply-in-Remove.ensures.reply (λ machine is. (c.remove.ensures.serves machine is).cleared)

pub returns-in-Translate-clause-cleared : goal.returns-in-Translate-clause-cleared
returns-in-Translate-clause-cleared g c = cleared_as g.D.Disk c.in-Translate.is c.rows_reply.ensures.reply (λ machine is. tt)

pub returns-in-Select-clause-cleared : goal.returns-in-Select-clause-cleared
returns-in-Select-clause-cleared g c = cleared_as g.D.Disk c.in-Select.is c.rows_reply-in-Select.ensures.reply (λ machine is. tt)

pub returns-in-Total-clause-cleared : goal.returns-in-Total-clause-cleared
returns-in-Total-clause-cleared g c = cleared_as g.D.Disk c.in-Total.is c.rows_reply-in-Total.ensures.reply (λ machine is. tt)

pub returns-in-Explain-clause-cleared : goal.returns-in-Explain-clause-cleared
returns-in-Explain-clause-cleared g c = cleared_as g.D.Disk c.in-Explain.is c.rows_reply-in-Explain.ensures.reply (λ machine is. tt)

pub returns-in-Open-clause-cleared : goal.returns-in-Open-clause-cleared
returns-in-Open-clause-cleared g c = cleared_as g.D.Disk c.in-Open.is c.count_reply-in-Open.ensures.reply (λ machine is. tt)

pub returns-in-Fetch-clause-cleared : goal.returns-in-Fetch-clause-cleared
returns-in-Fetch-clause-cleared g c = cleared_as g.D.Disk c.in-Fetch.is c.rows_reply-in-Fetch.ensures.reply (λ machine is. tt)

pub returns-in-Close-clause-cleared : goal.returns-in-Close-clause-cleared
returns-in-Close-clause-cleared g c = cleared_as g.D.Disk c.in-Close.is c.count_reply-in-Close.ensures.reply (λ machine is. (c.close_cursor.ensures.serves machine is).cleared)

pub returns-in-Save-clause-cleared : goal.returns-in-Save-clause-cleared
returns-in-Save-clause-cleared g c = cleared_as g.D.Disk c.in-Save.is c.count_reply-in-Save.ensures.reply (λ machine is. tt)

pub returns-in-Reopen-clause-cleared : goal.returns-in-Reopen-clause-cleared
returns-in-Reopen-clause-cleared g c = cleared_as g.D.Disk c.in-Reopen.is c.nothing_reply.ensures.reply (λ machine is. tt)

pub returns-in-DefineRoute-clause-stays : goal.returns-in-DefineRoute-clause-stays
returns-in-DefineRoute-clause-stays g c = stays_counted g.D.Disk c.in-DefineRoute.is c.count_reply.ensures.reply c.define_route.ensures.leaves (λ held. held) tt

pub returns-in-DefineTable-clause-stays : goal.returns-in-DefineTable-clause-stays
returns-in-DefineTable-clause-stays g c = stays_counted g.D.Disk c.in-DefineTable.is c.count_reply-in-DefineTable.ensures.reply c.define_table.ensures.leaves (λ held. held) tt

pub returns-in-DefineReferent-clause-stays : goal.returns-in-DefineReferent-clause-stays
returns-in-DefineReferent-clause-stays g c = stays_counted g.D.Disk c.in-DefineReferent.is c.count_reply-in-DefineReferent.ensures.reply c.define_referent.ensures.leaves (λ held. held) tt

pub returns-in-DefineIndex-clause-stays : goal.returns-in-DefineIndex-clause-stays
returns-in-DefineIndex-clause-stays g c = stays_counted g.D.Disk c.in-DefineIndex.is c.count_reply-in-DefineIndex.ensures.reply c.define_index.ensures.leaves (λ held. held) tt

pub returns-in-DefineView-clause-stays : goal.returns-in-DefineView-clause-stays
returns-in-DefineView-clause-stays g c = stays_counted g.D.Disk c.in-DefineView.is c.count_reply-in-DefineView.ensures.reply c.define_view.ensures.leaves (λ held. held) tt

pub returns-in-DefineAlignment-clause-stays : goal.returns-in-DefineAlignment-clause-stays
returns-in-DefineAlignment-clause-stays g c = stays_counted g.D.Disk c.in-DefineAlignment.is c.count_reply-in-DefineAlignment.ensures.reply c.define_alignment.ensures.leaves (λ held. held) tt

pub returns-in-MoveReferent-clause-stays : goal.returns-in-MoveReferent-clause-stays
returns-in-MoveReferent-clause-stays g c = stays_counted g.D.Disk c.in-MoveReferent.is c.count_reply-in-MoveReferent.ensures.reply c.move_referent.ensures.leaves (λ held. held) tt

pub returns-in-DropRoute-clause-stays : goal.returns-in-DropRoute-clause-stays
returns-in-DropRoute-clause-stays g c = stays_counted g.D.Disk c.in-DropRoute.is c.count_reply-in-DropRoute.ensures.reply c.drop_route.ensures.leaves (λ held. held) tt

pub returns-in-DropTable-clause-stays : goal.returns-in-DropTable-clause-stays
returns-in-DropTable-clause-stays g c = stays_counted g.D.Disk c.in-DropTable.is c.count_reply-in-DropTable.ensures.reply c.drop_table.ensures.leaves (λ held. held) tt

pub returns-in-DropIndex-clause-stays : goal.returns-in-DropIndex-clause-stays
returns-in-DropIndex-clause-stays g c = stays_counted g.D.Disk c.in-DropIndex.is c.count_reply-in-DropIndex.ensures.reply c.drop_index.ensures.leaves (λ held. held) tt

pub returns-in-DropView-clause-stays : goal.returns-in-DropView-clause-stays
returns-in-DropView-clause-stays g c = stays_counted g.D.Disk c.in-DropView.is c.count_reply-in-DropView.ensures.reply c.drop_view.ensures.leaves (λ held. held) tt

pub returns-in-DropAlignment-clause-stays : goal.returns-in-DropAlignment-clause-stays
returns-in-DropAlignment-clause-stays g c = stays_counted g.D.Disk c.in-DropAlignment.is c.count_reply-in-DropAlignment.ensures.reply c.drop_alignment.ensures.leaves (λ held. held) tt

pub returns-in-DropReferent-clause-stays : goal.returns-in-DropReferent-clause-stays
returns-in-DropReferent-clause-stays g c = stays_counted g.D.Disk c.in-DropReferent.is c.count_reply-in-DropReferent.ensures.reply c.drop_referent.ensures.leaves (λ held. held) tt

pub returns-in-Insert-clause-stays : goal.returns-in-Insert-clause-stays
returns-in-Insert-clause-stays g c = stays_counted g.D.Disk c.in-Insert.is c.count_reply-in-Insert.ensures.reply c.insert.ensures.leaves (λ held. held) tt

pub returns-in-Remove-clause-stays : goal.returns-in-Remove-clause-stays
returns-in-Remove-clause-stays g c = stays_counted g.D.Disk c.in-Remove.is c.count_reply-in-Remove.ensures.reply c.remove.ensures.leaves (λ held. held) tt

pub returns-in-Translate-clause-stays : goal.returns-in-Translate-clause-stays
returns-in-Translate-clause-stays g c = stays_listed g.D.Disk c.translate.result c.in-Translate.is c.rows_reply.ensures.reply (reads_refl g.D.Disk c.args.self.now) (λ held. held) (λ kept. kept)

pub returns-in-Select-clause-stays : goal.returns-in-Select-clause-stays
returns-in-Select-clause-stays g c = stays_listed g.D.Disk c.select.result c.in-Select.is c.rows_reply-in-Select.ensures.reply c.select.ensures.reads (λ held. held) (λ kept. kept)

pub returns-in-Total-clause-stays : goal.returns-in-Total-clause-stays
returns-in-Total-clause-stays g c = stays_listed g.D.Disk c.total.result c.in-Total.is c.rows_reply-in-Total.ensures.reply c.total.ensures.reads (λ held. held) (λ kept. kept)

pub returns-in-Explain-clause-stays : goal.returns-in-Explain-clause-stays
returns-in-Explain-clause-stays g c = stays_listed g.D.Disk c.explain.result c.in-Explain.is c.rows_reply-in-Explain.ensures.reply (reads_refl g.D.Disk c.args.self.now) (λ held. held) (λ kept. kept)

pub returns-in-Open-clause-stays : goal.returns-in-Open-clause-stays
returns-in-Open-clause-stays g c = stays_as g.D.Disk c.in-Open.is c.count_reply-in-Open.ensures.reply c.open_cursor.ensures.stays

pub returns-in-Fetch-clause-stays : goal.returns-in-Fetch-clause-stays
returns-in-Fetch-clause-stays g c = stays_as g.D.Disk c.in-Fetch.is c.rows_reply-in-Fetch.ensures.reply c.fetch.ensures.stays

pub returns-in-Close-clause-stays : goal.returns-in-Close-clause-stays
returns-in-Close-clause-stays g c = stays_as g.D.Disk c.in-Close.is c.count_reply-in-Close.ensures.reply c.close_cursor.ensures.stays

pub returns-in-Save-clause-stays : goal.returns-in-Save-clause-stays
returns-in-Save-clause-stays g c = stays_counted g.D.Disk c.in-Save.is c.count_reply-in-Save.ensures.reply c.save.ensures.leaves (λ held. held) tt

pub returns-in-Reopen-clause-stays : goal.returns-in-Reopen-clause-stays
returns-in-Reopen-clause-stays g c = stays_reopened g.D.Disk c.reopen.result c.in-Reopen.is c.nothing_reply.ensures.reply c.reopen.ensures.stays c.reopen.ensures.none c.reopen.ensures.lasts c.reopen.ensures.saves.limit

use Rattle.std.proofs.Common.{[], ◌∷◌, subst}
use Rattle.std.specs.List.{concat}
use Rattle.rs_csv.specs.Cutting.{Takes, kept}
use Rattle.rs_csv.specs.Output.{table_of}
use Rattle.rs_csv.proofs.Steps.{ended_of, far_ended, far_fills, far_grown, far_left_out, far_overflows, far_stops, within_of}
use Rattle.rs_csv.proofs.filter.Filter.take_byte.Goals as goal

pub returns-in_default-clause-far : goal.returns-in_default-clause-far
returns-in_default-clause-far g c = λ before input far. far_stops c.args.self.now.job.wanted (table_of c.args.self.now.job.definition) before c.args.batch.now c.args.self.now.progress input (c.args.byte ∷ []) _ far

pub returns-in-Within-clause-far : goal.returns-in-Within-clause-far
returns-in-Within-clause-far g c = λ before input far.
    let whole = concat (kept far.waiting) in
    let byte = c.args.byte in
    let goes = within_of c.args.self.now.job.wanted.separator c.take.new.self whole far.rest byte (subst (λ kind. Takes c.args.self.now.job.wanted.separator kind c.take.new.self whole far.rest byte) c.in-Within.is (c.in-Ok.ensures c.args.self.now.job.wanted.separator whole far.rest far.in_batch)) in
    far_grown c.args.self.now.job.wanted (table_of c.args.self.now.job.definition) before c.args.batch.now c.take.new.self c.args.self.now.progress input byte _ far goes.0 goes.1

pub returns-then-is_full-clause-far : goal.returns-then-is_full-clause-far
returns-then-is_full-clause-far g c = λ before input far.
    let passed = c.take_batch in
    far_fills c.args.self.now.job.wanted (table_of c.args.self.now.job.definition) before passed.result c.args.batch.now c.take.new.self passed.new.batch c.args.self.now.progress passed.new.self.progress input c.args.byte _ _ _ _
    (λ whole begun is. subst (λ kind. Takes c.args.self.now.job.wanted.separator kind c.take.new.self whole begun c.args.byte) c.in-Ended.is (c.in-Ok.ensures c.args.self.now.job.wanted.separator whole begun is)) passed.ensures.batch passed.ensures.quiet passed.ensures.taken far

pub returns-else-is_full-clause-far : goal.returns-else-is_full-clause-far
returns-else-is_full-clause-far g c = λ before input far.
    let whole = concat (kept far.waiting) in
    let byte = c.args.byte in
    let ends = ended_of c.args.self.now.job.wanted.separator c.take.new.self whole far.rest byte (subst (λ kind. Takes c.args.self.now.job.wanted.separator kind c.take.new.self whole far.rest byte) c.in-Ended.is (c.in-Ok.ensures c.args.self.now.job.wanted.separator whole far.rest far.in_batch)) in
    far_ended c.args.self.now.job.wanted (table_of c.args.self.now.job.definition) before c.args.batch.now c.take.new.self c.args.self.now.progress input byte _ far ends.0 ends.1.0 ends.1.1

pub returns-in-TooLong-clause-far : goal.returns-in-TooLong-clause-far
returns-in-TooLong-clause-far g c = λ before input far.
    let passed = c.take_batch-in-TooLong in
    far_overflows c.args.self.now.job.wanted (table_of c.args.self.now.job.definition) before passed.result c.args.batch.now c.take.new.self passed.new.batch c.args.self.now.progress passed.new.self.progress input c.args.byte _ _ _ _
    (λ whole begun is. subst (λ kind. Takes c.args.self.now.job.wanted.separator kind c.take.new.self whole begun c.args.byte) c.in-TooLong.is (c.in-Ok.ensures c.args.self.now.job.wanted.separator whole begun is)) passed.ensures.batch passed.ensures.quiet passed.ensures.taken far

pub returns-in-EndedLong-clause-far : goal.returns-in-EndedLong-clause-far
returns-in-EndedLong-clause-far g c =
    let filter = c.self.inside in
    let byte = c.args.byte in
    let left = c.leave_out_long in
    rw (← c.self.view_is)
    (λ before input far.
    far_left_out filter.job.now.wanted (table_of filter.job.now.definition) before left.result c.args.batch.now c.take.new.self filter.progress left.new.progress input byte _
    (λ whole begun is. subst (λ kind. Takes filter.job.now.wanted.separator kind c.take.new.self whole begun byte) c.in-EndedLong.is (c.in-Ok.ensures filter.job.now.wanted.separator whole begun is)) left.ensures.plan left.ensures.bytes left.ensures.told left.ensures.number left.ensures.plans left.ensures.texts left.ensures.extents left.ensures.held far)

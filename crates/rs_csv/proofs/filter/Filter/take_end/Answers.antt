use Rattle.std.proofs.Common.{◌≡◌, ◌∙◌, true, ap, refl, subst, sym}
use Rattle.std.proofs.lemmas.Bool.{false≢true}
use Rattle.rs_csv.specs.Cutting.{kept, text_of}
use Rattle.rs_csv.specs.Output.{FilterParts, JobParts, SoFar, TakesMore, table_of}
use Rattle.rs_csv.proofs.Batches.{text_all}
use Rattle.rs_csv.proofs.Steps.{end_front, far_rest, far_told, last_of}
use Rattle.rs_csv.proofs.filter.Filter.take_end.Goals as goal
use Rattle.rs_csv.proofs.filter.Filter.take_end.Goals.{then-is_within_long+in_default, else-is_within_long}

pub returns-in-Err-clause-far : goal.returns-in-Err-clause-far
returns-in-Err-clause-far g c = λ before input far. end_front c.args.self.now.job.wanted (table_of c.args.self.now.job.definition) before c.args.batch.now c.args.self.now.progress input _ far

pub returns-clause-far : goal.returns-clause-far
returns-clause-far g c = λ before input far.
    let job = c.args.self.now.job in
    let table = table_of job.definition in
    let batch = c.args.batch.now in
    let filter = c.if-is_within_long.self in
    let now : SoFar job.wanted table before batch filter.progress input (g.W.Write.contents c.args.output.now) × (batch.is_long ≡ true → filter.progress.made.has_told ≡ true) × (filter.job ≡ job) = elim c.if-is_within_long.branch [
      | then-is_within_long+in_default w ↦
          let left = w.leave_out_long in
          subst (λ (f : FilterParts). SoFar job.wanted table before batch f.progress input (g.W.Write.contents c.args.output.now) × (batch.is_long ≡ true → f.progress.made.has_told ≡ true) × (f.job ≡ job)) (sym w.self-is) (
            far_told job.wanted table before batch c.self.inside.progress left.new.progress input _ left.ensures.plan left.ensures.bytes left.ensures.told w.in_default.ensures.number w.in_default.ensures.plans left.ensures.texts left.ensures.extents left.ensures.held
                (subst (λ (f : FilterParts). SoFar job.wanted table before batch f.progress input (g.W.Write.contents c.args.output.now)) (sym c.self.view_is) far),
            λ _. left.ensures.told,
            ap (λ (f : FilterParts). f.job) c.self.view_is,
          )
      | else-is_within_long w ↦
          subst (λ (f : FilterParts). SoFar job.wanted table before batch f.progress input (g.W.Write.contents c.args.output.now) × (batch.is_long ≡ true → f.progress.made.has_told ≡ true) × (f.job ≡ job)) (sym w.self-is)
          (far, λ long. absurd (false≢true (sym w.if-is_within_long.false ∙ c.is_within_long.ensures ∙ long)), refl)
    ] in
    let takes = subst (λ (j : JobParts). c.text.result.now ≡ text_of j.wanted.separator (last_of job.wanted table before now.0) → TakesMore j.wanted (table_of j.definition) c.take_text.result (last_of job.wanted table before now.0) filter.progress c.take_text.new.self.progress (g.W.Write.contents c.args.output.now) (g.W.Write.contents c.take_text.new.output)) now.2
    (c.take_text.ensures.taken (last_of job.wanted table before now.0)) (c.text.ensures ∙ text_all job.wanted.separator batch (kept now.0.waiting) now.0.rest now.0.in_batch) in
    far_rest job.wanted table before c.take_text.result batch filter.progress c.take_text.new.self.progress input _ _ _ _ now.0 now.1 c.take_text.ensures.quiet (takes before (kept now.0.past) now.0.taken)

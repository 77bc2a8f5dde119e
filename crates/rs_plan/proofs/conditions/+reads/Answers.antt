use Rattle.std.proofs.Common.{sym, ap, ◌∙◌}
use Rattle.std.specs.List.{list_all}
use Rattle.rs_facts.specs.ConditionView.{condition_of}
use Rattle.rs_planning.specs.Conjuncts.{columns_read}
use Rattle.rs_plan.specs.Conditions.{is_within}
use Rattle.rs_plan.proofs.ConditionWalks.{both-read, either-read}
use Rattle.rs_plan.proofs.conditions.+reads.Goals as goal

pub reads_only-returns-in-Both : goal.reads_only-returns-in-Both
reads_only-returns-in-Both t c =
    c.each_reads_only.ensures ∙ ap (list_all (λ part. list_all (is_within c.args.columns) (columns_read (condition_of part)))) c.as_slice.ensures.value
    ∙ both-read (is_within c.args.columns) c.in-Both.parts
    ∙ ap (λ k. list_all (is_within c.args.columns) (columns_read (condition_of k))) (sym c.in-Both.is)

pub reads_only-returns-in-Either : goal.reads_only-returns-in-Either
reads_only-returns-in-Either t c =
    c.each_reads_only-in-Either.ensures ∙ ap (list_all (λ part. list_all (is_within c.args.columns) (columns_read (condition_of part)))) c.as_slice-in-Either.ensures.value
    ∙ either-read (is_within c.args.columns) c.in-Either.parts
    ∙ ap (λ k. list_all (is_within c.args.columns) (columns_read (condition_of k))) (sym c.in-Either.is)

use Rattle.std.proofs.Common.{◌≡◌, [], refl, subst, sym}
use Rattle.std.specs.Prelude.{IsSome}
use Rattle.std.proofs.KnownBytes.{Consumes-nil}
use Rattle.rs_csv.specs.Cutting.{IsBatchOf}
use Rattle.rs_csv.specs.Output.{table_of}
use Rattle.rs_csv.proofs.Places.{closed_at}
use Rattle.rs_csv.proofs.Steps.{wrote_none}
use Rattle.rs_csv.proofs.filter.Filter.read_all.Goals as goal

pub returns-in_default-clause-input : goal.returns-in_default-clause-input
returns-in_default-clause-input g c = ([], Consumes-nil _, wrote_none c.args.self.now.job.wanted (table_of c.args.self.now.job.definition) _ _)

pub read_pieces-result-requires-clause-no_record : goal.read_pieces-result-requires-clause-no_record
read_pieces-result-requires-clause-no_record g c =
    let same : c.job.inside.wanted.separator ≡ c.args.self.now.job.wanted.separator = rw (← c.self.view_is, ← c.job.view_is) refl in
    subst (λ separator. IsBatchOf separator c.in-Ok.batch [] []) same c.in-Ok.ensures

pub returns-clause-closed : goal.returns-clause-closed
returns-clause-closed g c =
    closed_at c.read_pieces-result.result c.args.self.now.job.wanted.separator c.read_pieces-result.new.batch.place c.end_input.new.self.open_quote _ _ (λ inside. subst IsSome (sym c.end_input.ensures) (c.open_quote.ensures.1 inside)) c.read_pieces-result.ensures.place

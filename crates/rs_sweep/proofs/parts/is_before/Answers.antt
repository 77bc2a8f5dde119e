use Rattle.std.proofs.Common.{◌∙◌, sym}
use Rattle.rs_facts.specs.Spans.{seen}
use Rattle.rs_sweep.specs.Taken.{keyed, taken_of}
use Rattle.rs_sweep.proofs.PartLaws.{ends_before-less, ends_before-equal, ends_before-greater, ends_before-same}
use Rattle.rs_sweep.proofs.TakenLaws.{key-all, compared}
use Rattle.rs_sweep.proofs.parts.is_before.Goals as goal

pub returns-in-All : goal.returns-in-All
returns-in-All c = ends_before-same (taken_of c.args.rows c.args.stretch.now) (keyed c.args.rows (seen c.args.span.now)) (key-all c.args.rows c.args.stretch.now.first.now.tuple c.args.span.now.tuple c.in-All.is)

pub returns-in-Less : goal.returns-in-Less
returns-in-Less c = sym (ends_before-less (taken_of c.args.rows c.args.stretch.now) (keyed c.args.rows (seen c.args.span.now)) (compared c.args.rows c.args.stretch.now.first.now.tuple c.args.span.now.tuple c.compare_rows.result c.in-Each.is c.compare_rows.ensures ∙ c.in-Less.is))

pub returns-in-Equal : goal.returns-in-Equal
returns-in-Equal c = sym (ends_before-equal (taken_of c.args.rows c.args.stretch.now) (keyed c.args.rows (seen c.args.span.now)) (compared c.args.rows c.args.stretch.now.first.now.tuple c.args.span.now.tuple c.compare_rows.result c.in-Each.is c.compare_rows.ensures ∙ c.in-Equal.is))

pub returns-in-Greater : goal.returns-in-Greater
returns-in-Greater c = sym (ends_before-greater (taken_of c.args.rows c.args.stretch.now) (keyed c.args.rows (seen c.args.span.now)) (compared c.args.rows c.args.stretch.now.first.now.tuple c.args.span.now.tuple c.compare_rows.result c.in-Each.is c.compare_rows.ensures ∙ c.in-Greater.is))

use Rattle.std.proofs.Common.{◌≡◌, ◌↔◌, IsTrue, ◌∙◌, sym, refl}
use Rattle.rs_facts.specs.Spans.{seen}
use Rattle.rs_sweep.specs.Taken.{keyed, taken_of}
use Rattle.rs_sweep.proofs.PartLaws.{met-same, met-far}
use Rattle.rs_sweep.proofs.TakenLaws.{key-all, key-each}
use Rattle.rs_sweep.proofs.parts.is_met.Goals as goal

pub returns-in-All : goal.returns-in-All
returns-in-All c = met-same (taken_of c.args.rows c.args.stretch.now) (keyed c.args.rows (seen c.args.span.now)) _ c.if-stretch-span.true
    ((λ x. key-all c.args.rows c.args.stretch.now.first.now.tuple c.args.span.now.tuple c.in-All.is), (λ x. refl))

pub returns-in-Each : goal.returns-in-Each
returns-in-Each c =
    let one = key-each c.args.rows c.args.stretch.now.first.now.tuple c.in-Each.is in
    let two = key-each c.args.rows c.args.span.now.tuple c.in-Each.is in
    let says : IsTrue c.same_row.result ↔ (c.args.stretch.now.first.now.tuple ≡ c.args.span.now.tuple) = c.same_row.ensures in
    met-same (taken_of c.args.rows c.args.stretch.now) (keyed c.args.rows (seen c.args.span.now)) c.same_row.result c.if-stretch-span.true
    ((λ x. one ∙ says.0 x ∙ sym two), (λ x. says.1 (sym one ∙ x ∙ two)))

pub returns-else-stretch-span : goal.returns-else-stretch-span
returns-else-stretch-span c = met-far (taken_of c.args.rows c.args.stretch.now) (keyed c.args.rows (seen c.args.span.now)) c.if-stretch-span.false

-- Each in turn.
use Rattle.std.proofs.Common.{map, sym, subst, ◌∙◌, arith}
use Rattle.std.proofs.lemmas.Bool.{false≢true}
use Rattle.rs_catalog_pages.specs.Said.{said_alignment, said_route}
use Rattle.rs_catalog_pages.specs.declared.items.StoredAlignment.{StoredAlignment}
use Rattle.rs_catalog_meaning.specs.Meaning.{IsAlignment}
use Rattle.rs_catalog_meaning.proofs.Each.{all_said, more_at, not_said}
use Rattle.rs_catalog_meaning.proofs.alignments.is_each_alignment.Goals as goal

pub returns-then-not-is_alignment : goal.returns-then-not-is_alignment
returns-then-not-is_alignment c =
    let IsSo = λ (alignment : StoredAlignment). IsAlignment (map said_route c.args.routes.now) (said_alignment alignment) in
    not_said said_alignment (IsAlignment (map said_route c.args.routes.now)) c.args.alignments.now c.loop-alignment.alignment-index c.alignment-item.result c.loop-alignment-test.true
    (λ is. false≢true (sym c.if-not-is_alignment.true ∙ c.is_alignment.ensures.1 (subst IsSo (sym c.alignment-item.is) is)))

pub loop-alignment-preserved : goal.loop-alignment-preserved
loop-alignment-preserved c =
    let IsSo = λ (alignment : StoredAlignment). IsAlignment (map said_route c.args.routes.now) (said_alignment alignment) in
    more_at IsSo c.args.alignments.now c.loop-alignment.alignment-index c.alignment-item.result c.loop-alignment-test.true c.loop-alignment.invariant
    (subst IsSo c.alignment-item.is (c.is_alignment.ensures.0 c.if-not-is_alignment.false))

pub returns : goal.returns
returns c =
    all_said said_alignment (IsAlignment (map said_route c.args.routes.now)) c.args.alignments.now c.loop-alignment.alignment-index (omega arith) c.loop-alignment.invariant

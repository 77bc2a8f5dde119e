-- The one that is named is there.
use Rattle.std.proofs.Common.{◌∙◌, sym}
use Rattle.arrayvec.specs.ArrayString.{ArrayString}
use Rattle.rs_dump.proofs.Viewed.{read_there}
use Rattle.rs_dump.proofs.views.names_one_of.Goals as goal

pub returns-then-names_alignment-clause-named : goal.returns-then-names_alignment-clause-named
returns-then-names_alignment-clause-named c = λ is. record {
  other = c.name-item.result.bytes;
  among = read_there (λ (name : ArrayString). name.bytes) c.args.alignments.now c.loop-name.name-index c.name-item.result c.loop-name-test.true c.name-item.is;
  named = sym c.names_alignment.ensures ∙ c.if-names_alignment.true;
}

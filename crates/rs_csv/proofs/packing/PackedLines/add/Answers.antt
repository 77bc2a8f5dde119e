use Rattle.std.proofs.Common.{◌∙◌, ap}
use Rattle.rs_csv.specs.Words.{unpacked}
use Rattle.rs_csv.proofs.Unpacking.{blocks_more}
use Rattle.rs_csv.proofs.packing.PackedLines.add.Goals as goal

pub returns : goal.returns
returns c =
    let says = ap (unpacked c.pack.new.self) (c.in_ok-codes.ensures.items ∙ c.as_slice.ensures.value) ∙ c.in_ok-pack.ensures.packed in
    blocks_more (λ block. block.items) c.self.inside.words c.pack.new.self c.pack.ensures.grows c.self.inside.blocks.items c.push.new.self.items c.in_ok-codes.codes c.args.text.now c.args.self.now c.self.invariant c.in_ok-push.ensures.items says c.self.view_is

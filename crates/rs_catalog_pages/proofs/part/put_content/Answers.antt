-- The part that is lent begins after the header.
use Rattle.std.proofs.Common.{◌+◌, ◌-◌, length, arith}
use Rattle.rs_catalog_pages.specs.Parts.{content}
use Rattle.rs_catalog_pages.proofs.Bytes.{put_before, put_there, put_after}
use Rattle.rs_catalog_pages.proofs.part.put_content.Goals as goal

pub returns-clause-before : goal.returns-clause-before
returns-clause-before c = λ k n inside.
    put_before 16 (16 + length c.args.part.now - 16) k n c.args.bytes.now c.copy_from_slice.new.self (omega (arith, c.requires.size)) inside

pub returns-clause-bytes : goal.returns-clause-bytes
unfolding content
returns-clause-bytes c =
    put_there 16 (16 + length c.args.part.now - 16) c.args.bytes.now c.copy_from_slice.new.self c.args.part.now (omega (arith, c.requires.size)) c.copy_from_slice.ensures.after

pub returns-clause-after : goal.returns-clause-after
unfolding content
returns-clause-after c =
    put_after 16 (16 + length c.args.part.now - 16) c.args.bytes.now c.copy_from_slice.new.self c.args.part.now (omega (arith, c.requires.size)) c.copy_from_slice.ensures.after (omega arith)

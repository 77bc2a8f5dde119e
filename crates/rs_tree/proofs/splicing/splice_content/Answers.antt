-- What is lent is all that follows the header.
use Rattle.std.proofs.Common.{◌≤◌, ◌+◌, ◌-◌, ◌++◌, ℕ, List, length, take, drop, ap, ◌∙◌, arith}
use Rattle.std.proofs.lemmas.List.{take_rest}
use Rattle.std.proofs.lemmas.Slice.{take-put_mid_below}
use borrow.Rule.Slice.PartMut.{put_mid}
use Rattle.rs_records.specs.Records.{records}
use Rattle.rs_tree.specs.Content.{content}
use Rattle.rs_tree.proofs.EntryBytes.{front_numbers, rest_put}
use Rattle.rs_tree.proofs.splicing.splice_content.Goals as goal

pub returns-clause-before : goal.returns-clause-before
returns-clause-before c = λ k n inside.
    let old = c.args.bytes.now in
    let long : 16 ≤ length old = omega (arith, c.requires.size) in
    front_numbers 16 k n old (put_mid 16 (length old - 16) old c.splice.new.bytes) (take-put_mid_below 16 (length old - 16) old c.splice.new.bytes 16 (omega arith) long) inside

pub returns-clause-records : goal.returns-clause-records
unfolding content
returns-clause-records c = λ more whole.
    let old = c.args.bytes.now in
    let long : 16 ≤ length old = omega (arith, c.requires.size) in
    ap (records (c.args.count - c.args.removed + more) c.args.width) (rest_put 16 (length old - 16) old c.splice.new.bytes long (omega arith))
    ∙ c.splice.ensures more whole
    ∙ ap (λ (xs : List ℕ). take c.args.at (records c.args.count c.args.width xs) ++ (records more c.args.width c.args.added.now ++ drop (c.args.at + c.args.removed) (records c.args.count c.args.width xs)))
    (take_rest old 16)

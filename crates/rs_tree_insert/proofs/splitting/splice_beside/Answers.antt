-- The records are those of the page, and then those spliced.
use Rattle.std.proofs.Common.{◌≤◌, ◌*◌, ℕ, List, length, drop, ap, ◌∙◌, arith}
use Rattle.rs_records.specs.Records.{records}
use Rattle.rs_records.proofs.RecordLists.{records-front}
use Rattle.rs_tree_insert.specs.Writing.{spliced}
use Rattle.rs_tree_insert.proofs.splitting.splice_beside.Goals as goal

pub returns : goal.returns
returns c =
    let rest : List ℕ = drop (length c.content-bytes.result.now) c.args.both.now in
    let same = c.copy_from_slice.ensures.after ∙ c.content-bytes.ensures.bytes in
    let long : c.args.count * c.args.width ≤ length c.copy_from_slice.new.self = omega (arith, ap length c.copy_from_slice.ensures.after, c.content-bytes.ensures.size, c.requires.fit) in
    c.splice.ensures c.args.edit.more c.requires.whole
    ∙ ap (λ (rs : List (List ℕ)). spliced rs c.args.edit.at c.args.edit.removed (records c.args.edit.more c.args.width c.args.added.now))
    (records-front c.args.count c.args.width c.copy_from_slice.new.self rest long ∙ ap (records c.args.count c.args.width) same)

-- A header leaves what follows it.
use Rattle.std.proofs.Common.{◌+◌, ◌++◌, ℕ, List, take, drop, ap, sym, ◌∙◌}
use Rattle.rs_records.specs.Records.{records}
use Rattle.rs_tree.specs.Content.{content}
use Rattle.rs_tree.proofs.EntryBytes.{same_rest}
use Rattle.rs_tree.proofs.splicing.splice_page.Goals as goal

pub returns-clause-records : goal.returns-clause-records
unfolding content
returns-clause-records c = λ more whole.
    let stays = same_rest 16 c.args.page.now.bytes c.put_header.new.self.bytes (c.put_header.ensures.size ∙ sym c.content-size.ensures.page) (λ k n past. c.put_header.ensures.rest k n past) in
    c.splice_content.ensures.records more whole
    ∙ ap (λ (xs : List ℕ). take c.args.at (records c.args.count c.args.width xs) ++ (records more c.args.width c.args.added.now ++ drop (c.args.at + c.args.removed) (records c.args.count c.args.width xs))) stays

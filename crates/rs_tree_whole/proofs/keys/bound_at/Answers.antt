-- The key of the entry with the index, or what is given.
use Rattle.std.proofs.Common.{◌≡◌, Some, slice_get, ap, ◌∙◌, subst, arith}
use Rattle.std.specs.Option.{option_copied}
use Rattle.rs_tree.specs.Form.{least_from}
use Rattle.rs_tree.specs.Layouts.{entry_bytes}
use Rattle.rs_records.specs.Records.{records}
use Rattle.rs_tree_whole.proofs.Orders.{key_there, key_past}
use Rattle.rs_tree_whole.proofs.keys.bound_at.Goals as goal

pub returns-then-index-count : goal.returns-then-index-count
returns-then-index-count c = key_past (least_from c.args.layout.summary) c.args.count (entry_bytes c.args.layout) c.args.bytes.now c.args.index (option_copied c.args.bound) (omega arith)

pub returns : goal.returns
returns c =
    ap (λ k. Some k) c.least.ensures
    ∙ key_there (least_from c.args.layout.summary) c.args.count (entry_bytes c.args.layout) c.args.bytes.now c.args.index c.record_at.result.now (option_copied c.args.bound)
    (subst (λ w. slice_get (records c.args.count w c.args.bytes.now) c.args.index ≡ Some c.record_at.result.now) c.entry_width.ensures.width (c.record_at.ensures.one c.args.count (omega arith)))

use Rattle.std.proofs.Common.{◌≡◌, ◌++◌, map, drop}
use Rattle.rs_dump_lines.specs.Texts.{more_texts}
use Rattle.rs_dump_lines.proofs.lists.push_more.Given as goal

abbrev pub invariant-loop-item : goal.invariant-loop-item
invariant-loop-item g l = l.text.items ++ more_texts (map g.T.Written.text_of (drop l.item-index l.items)) ≡ l.fn.text.items ++ more_texts (map g.T.Written.text_of l.items)

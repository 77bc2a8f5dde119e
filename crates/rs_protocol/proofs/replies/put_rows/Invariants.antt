use Rattle.std.proofs.Common.{◌++◌, take}
use Rattle.std.specs.Prelude.{flat_map}
use Rattle.rs_machine.specs.ReplyText.{row_text}
use Rattle.rs_serve.specs.ReplyView.{rows_of}
use Rattle.rs_protocol.specs.Inner.{PutsBut}
use Rattle.rs_protocol.proofs.replies.put_rows.Given as goal

-- The rows so far are put, but for what is pending.
abbrev pub invariant-loop-row : goal.invariant-loop-row
invariant-loop-row g l =
    PutsBut (l.fn.pending.items ++ flat_map (row_text l.session) (rows_of (take l.row-index l.rows))) l.pending.items (g.W.Write.contents l.fn.writer) (g.W.Write.contents l.writer)

use Rattle.std.proofs.Common.{◌≡◌, ◌+◌, ◌++◌, take, vec_len}
use Rattle.rs_serve.specs.ReplyView.{rows_of}
use Rattle.rs_cursor.proofs.kept_from.push_copies.Given as goal

abbrev pub invariant-loop-line : goal.invariant-loop-line
invariant-loop-line l = record {
  copies : rows_of l.rows.items ≡ rows_of l.initial.rows.items ++ rows_of (take l.line-index l.lines);
  count : vec_len l.rows ≡ vec_len l.initial.rows + l.line-index;
}

-- What is replied to what a command's function answers.
use Rattle.std.specs.Prelude.{ℕ, [], length, Result, Ok, Err, String, Vec}
use Rattle.std.specs.declared.alloc.Global.{Global}
use Rattle.rs_refusal.specs.declared.refusal.Refusal.{Refusal}
use Rattle.rs_machine.specs.Served as machine
use Rattle.rs_serve.specs.ReplyView.{rows_of}

-- no rows and the count, or the refusal
abbrev pub count_reply_of : Result ℕ Refusal → machine.Reply
count_reply_of (Ok count) = machine.done [] count
count_reply_of (Err refusal) = machine.refused refusal

-- the rows and their number, or the refusal
abbrev pub rows_reply_of : Result (Vec (String Global) Global) Refusal → machine.Reply
rows_reply_of (Ok rows) = machine.done (rows_of rows.items) (length rows.items)
rows_reply_of (Err refusal) = machine.refused refusal

-- nothing, or the refusal
abbrev pub nothing_reply_of : Result (Unit {0}) Refusal → machine.Reply
nothing_reply_of (Ok nothing) = machine.done [] 0
nothing_reply_of (Err refusal) = machine.refused refusal

-- What a reply of the code says.
use Rattle.std.specs.Prelude.{◌≡◌, List, [], map, string_bytes, String}
use Rattle.rs_serve.specs.declared.reply.Reply.{Reply}
use Rattle.rs_serve.specs.declared.reply.Finish.{Finish}
use Rattle.rs_serve.specs.declared.reply.Finish.TheVariants.{Done, Refused}
use Rattle.rs_machine.specs.State.{RowText}
use Rattle.rs_machine.specs.Served as machine

-- the texts of the rows
abbrev pub rows_of : {A : Type 0} → List (String A) → List RowText
rows_of rows = map string_bytes rows

abbrev pub finished : List RowText → Finish → machine.Reply
finished rows (Done count) = machine.done rows count
finished rows (Refused refusal) = machine.refused refusal

abbrev pub reply_of : Reply → machine.Reply
reply_of reply = finished (rows_of reply.rows.items) reply.finish

-- beside a refusal stand no rows
abbrev pub StandsAlone : {A : Type 0} → List (String A) → Finish → Type 0
StandsAlone rows (Done count) = Unit {0}
StandsAlone rows (Refused refusal) = rows ≡ []

-- The text of a reply: its lines, each with its LF.
use Rattle.std.specs.Prelude.{ℕ, List, ◌++◌, codes, decimal, flat_map}
use Rattle.rs_refusal.specs.declared.refusal.Refusal.{Refusal}
use Rattle.rs_refusal.specs.Refusal.{number_of, words_of}
use Rattle.rs_machine.specs.State.{RowText}
use Rattle.rs_machine.specs.Served.{Reply, done, refused}

-- the session and the word, each with the space after it
abbrev pub head_of : ℕ → List ℕ → List ℕ
head_of session word = decimal session ++ codes " " ++ word ++ codes " "

abbrev pub row_text : ℕ → RowText → List ℕ
row_text session line = head_of session (codes "ROW") ++ line ++ codes "\n"

abbrev pub ok_text : ℕ → ℕ → List ℕ
ok_text session count = head_of session (codes "OK") ++ decimal count ++ codes "\n"

abbrev pub refusal_text : ℕ → Refusal → List ℕ
refusal_text session refusal = head_of session (codes "ERR") ++ decimal (number_of refusal) ++ codes " " ++ words_of refusal ++ codes "\n"

-- each ROW line and the OK line, or the ERR line alone
abbrev pub reply_text : ℕ → Reply → List ℕ
reply_text session (done rows count) = flat_map (row_text session) rows ++ ok_text session count
reply_text session (refused refusal) = refusal_text session refusal

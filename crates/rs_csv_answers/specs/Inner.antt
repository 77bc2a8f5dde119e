-- What the functions of this crate hand to one another.
use Rattle.std.specs.Prelude.{◌≡◌, ◌⊎◌, ℕ, List, ◌++◌, Result, Ok, Err, MatchResult, flat_map}
use Rattle.rs_csv_answers.specs.Heads.{HasHead}
use Rattle.rs_csv_answers.specs.Records.{record_of}
use Rattle.rs_machine.specs.Checking.{checked}
use Rattle.rs_machine.specs.Served.{Reply, done, refused}
use Rattle.rs_machine.specs.State.{State}
use Rattle.rs_refusal.specs.declared.refusal.Refusal.{Refusal}
use Rattle.rs_refusal.specs.declared.refusal.Refusal.TheVariants.{OutOfMemory}
use Rattle.rs_syntax.specs.Tree.{CommandTree, open_cursor, select}

-- the lines of a query are refused by its checks
abbrev pub IsRefusedBy : State → CommandTree → Refusal → Type 0
IsRefusedBy state (select query method) why = checked state query ≡ Err why
IsRefusedBy state (open_cursor name query method) why = checked state query ≡ Err why
IsRefusedBy state command why = ⊥

-- the header of a command's answer, or why there is none
abbrev pub IsHeadOf : {T : Type 0} → (T → List ℕ) → State → CommandTree → Result T Refusal → Type 0
IsHeadOf items state command result = MatchResult result (λ head. HasHead state command (items head)) (λ why. (why ≡ OutOfMemory) ⊎ IsRefusedBy state command why)

-- a header and the records of a reply's rows, or why there are none
abbrev pub IsJoined : {T : Type 0} → (T → List ℕ) → Result T Refusal → Reply → Result T Refusal → Type 0
IsJoined items head (done rows count) (Ok text) = (first : _) × (head ≡ Ok first) × (items text ≡ items first ++ flat_map record_of rows)
IsJoined items head (done rows count) (Err why) = (head ≡ Err why) ⊎ (why ≡ OutOfMemory)
IsJoined items head (refused refusal) (Ok text) = ⊥
IsJoined items head (refused refusal) (Err why) = why ≡ refusal

-- What a cursor gives over a list of steps, whichever sessions they are of.
use Rattle.std.specs.Prelude.{◌≡◌, ℕ, Bool, true, false, ◌&&◌, ◌==◌, List, [], ◌∷◌, ◌++◌, length, flat_map, Ok, if◌then◌else◌}
use Rattle.std.specs.List.{list_any}
use Rattle.rs_facts.specs.Fact.{Name}
use Rattle.rs_facts.specs.Insert.{same_name}
use Rattle.rs_methods.specs.declared.position.Method.{Method}
use Rattle.rs_syntax.specs.Tree.{QueryTree, CommandTree, open_cursor, fetch, close_cursor, reopen}
use Rattle.rs_machine.specs.State.{State, RowText}
use Rattle.rs_machine.specs.Step.{effect, selected}
use Rattle.rs_machine.specs.Served.{Machine, Reply, done, refused, Served}
use Rattle.rs_machine.specs.Request.{Request, command, Asks}
use Rattle.rs_machine.specs.Answered.{Answer}

-- what a session said, and what it was answered
pub record Exchange : Type 0 where
  pub session : ℕ
  pub command : CommandTree
  pub reply : Reply

abbrev pub exchange : ℕ → CommandTree → Reply → Exchange
exchange session tree reply = record { session = session; command = tree; reply = reply }

-- One after another, each is served by the machine that the one before left.
abbrev pub Steps : Machine → List Exchange → Machine → Type 0
Steps old [] new = new ≡ old
Steps old (one ∷ more) new = (between : Machine) × Served old one.session one.command one.reply between × Steps between more new

-- a request that is a command, with its answer
abbrev pub exchanged : Request → Reply → List Exchange
exchanged (command session tree) reply = exchange session tree reply ∷ []
exchanged request reply = []

-- The steps are the commands of these lines, each with its session and its answer.
abbrev pub AreCommandsOf : List (List ℕ) → List Answer → List Exchange → Type 0
AreCommandsOf [] [] steps = steps ≡ []
AreCommandsOf (line ∷ lines) (answer ∷ more) steps = (request : Request) × (rest : List Exchange)
    × Asks line request × (steps ≡ exchanged request answer.reply ++ rest) × AreCommandsOf lines more rest
AreCommandsOf [] (answer ∷ more) steps = ⊥
AreCommandsOf (line ∷ lines) [] steps = ⊥

-- ---- what is given

-- a refusal has no rows
abbrev pub rows_of : Reply → List RowText
rows_of (done rows count) = rows
rows_of (refused refusal) = []

-- whether what a session says is FETCH of this session's cursor of this name
abbrev pub fetches : ℕ → Name → ℕ → CommandTree → Bool
fetches session name speaker (fetch cursor rows) = session == speaker && same_name name cursor
fetches session name speaker tree = false

abbrev pub given_by : ℕ → Name → Exchange → List RowText
given_by session name one = if fetches session name one.session one.command then rows_of one.reply else []

-- the rows that FETCHes of this session's cursor of this name were answered, one after another
abbrev pub given : ℕ → Name → List Exchange → List RowText
given session name steps = flat_map (given_by session name) steps

-- ---- how long a cursor is open

-- whether what a session says is to close this session's cursor of this name: its own CLOSE, or REOPEN of any session
abbrev pub closes : ℕ → Name → ℕ → CommandTree → Bool
closes session name speaker (close_cursor cursor) = session == speaker && same_name name cursor
closes session name speaker reopen = true
closes session name speaker tree = false

abbrev pub is_accepted : Reply → Bool
is_accepted (done rows count) = true
is_accepted (refused refusal) = false

abbrev pub closed_by : ℕ → Name → Exchange → Bool
closed_by session name one = is_accepted one.reply && closes session name one.session one.command

-- A session opened a cursor, and then these steps were served, none of which closed it.
pub record IsOpenOver (old : Machine) (session : ℕ) (name : Name) (query : QueryTree) (method : Method) (steps : List Exchange) (new : Machine) : Type 0 where
  pub rows : List RowText
  pub count : ℕ
  pub opened : Machine
  pub opens : Served old session (open_cursor name query method) (done rows count) opened
  pub follow : Steps opened steps new
  pub stays : list_any (closed_by session name) steps ≡ false

-- ---- what is printed

-- SELECT would print these lines and no others
abbrev pub Prints : State → QueryTree → Method → List RowText → Type 0
Prints state query method lines = selected state query method ≡ Ok (effect lines (length lines) state)

-- A cursor that stays open gives the lines that it was opened with, one after another.
use Rattle.std.proofs.Common.{◌≡◌, ◌∙◌, ℕ, ◌<◌, ◌≤◌, Bool, true, false, ◌&&◌, cond, List, [], ◌∷◌, ◌++◌, Some, length, not, Result, Ok, Err, IfOk, refl, sym, ap, subst, inl, inr, arith, append_assoc, Contains}
use Rattle.std.specs.Prelude.{if◌then◌else◌, ◌==◌, nat_eq, nat_lt, take, drop}
use Rattle.std.specs.List.{list_any, AllByRecursion}
use Rattle.std.specs.FinMap as names
use Rattle.std.specs.FinMap.{get-insert}
use Rattle.std.proofs.lemmas.Bool.{and_parts, eqb-true, eq-eqb}
use Rattle.std.proofs.lemmas.List.{take-append-drop, length-take, drop_all, append-nil}
use Rattle.rs_refusal.specs.declared.refusal.Refusal.{Refusal}
use Rattle.rs_refusal.specs.declared.refusal.Refusal.TheVariants.{OutOfMemory, Disk, FileFull, NoSuchCursor, CursorNameTaken, TooManyCursors}
use Rattle.rs_facts.specs.Fact.{Name}
use Rattle.rs_facts.specs.Insert.{same_name}
use Rattle.rs_facts.specs.Query.{Query}
use Rattle.rs_methods.specs.declared.position.Method.{Method}
use Rattle.rs_syntax.specs.Tree.{QueryTree, CommandTree, open_cursor, fetch, close_cursor, save, reopen}
use Rattle.rs_machine.specs.declared.limits.TheConstants.{CURSORS}
use Rattle.rs_machine.specs.State.{State, RowText, Cursors, has, cursors_at}
use Rattle.rs_machine.specs.Checks.{◌>>=◌, unless, found, cursor_named}
use Rattle.rs_machine.specs.Checking.{checked}
use Rattle.rs_machine.specs.Step.{Effect, effect, outcome, lines_of, with_cursor, cursor_opened, rows_fetched}
use Rattle.rs_machine.specs.Served.{Machine, Reply, done, refused, Answers, NamesAWant, Served}
use Rattle.rs_machine_laws.specs.Given.{Exchange, exchange, Steps, fetches, given_by, given, closes, closed_by, IsOpenOver, Prints}
use Rattle.rs_machine.proofs.NameOrder.{name_cmp-total}
use Rattle.rs_machine_laws.proofs.Names.{false_true, either_false, same_name-true, same_name-itself, inserted_other, removed_other, still_there}
use Rattle.rs_machine_laws.proofs.Checked.{passed, not_true}
use Rattle.rs_machine_laws.proofs.Lists.{of_each}

-- ---- commands that leave the cursors

record KeepsCursors (state : State) (result : Result Effect Refusal) : Type 0 where
  kept : IfOk result (λ effect. effect.state.cursors ≡ state.cursors)

same_cursors : (state : State) (effect : Effect) → effect.state.cursors ≡ state.cursors → KeepsCursors state (Ok effect)
same_cursors state effect e = record { kept = e }

after : (state : State) {A : Type 0} (check : Result A Refusal) (next : A → Result Effect Refusal) → ((a : A) → KeepsCursors state (next a)) → KeepsCursors state (check >>= next)
after state (Ok a) next each = each a
after state (Err refusal) next each = record { kept = tt }

-- whether the command is about cursors
abbrev names_cursors : CommandTree → Bool
names_cursors (open_cursor name query method) = true
names_cursors (fetch name rows) = true
names_cursors (close_cursor name) = true
names_cursors reopen = true
names_cursors tree = false

keeps_cursors : (state : State) (session : ℕ) (tree : CommandTree) → names_cursors tree ≡ false → KeepsCursors state (outcome state session tree)
keeps_cursors state session (open_cursor name query method) e = false_true (sym e)
keeps_cursors state session (fetch name rows) e = false_true (sym e)
keeps_cursors state session (close_cursor name) e = false_true (sym e)
keeps_cursors state session reopen e = false_true (sym e)
keeps_cursors state session save e = record { kept = refl }
keeps_cursors state session tree e = search (after, same_cursors) depth 12

-- ---- what commands do to one cursor

record Gives (IsSo : Effect → Type 0) (result : Result Effect Refusal) : Type 0 where
  is_so : IfOk result IsSo

-- what is so of all that a check lets through
through : (IsSo : Effect → Type 0) {A : Type 0} (check : Result A Refusal) (next : A → Result Effect Refusal) → ((a : A) → check ≡ Ok a → Gives IsSo (next a)) → Gives IsSo (check >>= next)
through IsSo (Ok a) next each = each a refl
through IsSo (Err refusal) next each = record { is_so = tt }

-- the cursor has still to give these lines
abbrev HasLeft : ℕ → Name → List RowText → State → Type 0
HasLeft session name lines state = names.get (state.cursors session) name ≡ Some lines

-- where one session has other cursors, among which this one is the same
at_cursor : (session by : ℕ) (cursors : Cursors) (old : ℕ → Cursors) (name : Name) (lines : List RowText)
    → (nat_eq session by ≡ true → names.get cursors name ≡ Some lines) → names.get (old session) name ≡ Some lines → names.get (cursors_at by cursors old session) name ≡ Some lines
unfolding cursors_at
at_cursor session by cursors old name lines own other = at (nat_eq session by) refl
  where
    at : (same : Bool) → nat_eq session by ≡ same → names.get (if same then cursors else old session) name ≡ Some lines
    at true same = own same
    at false apart = other

-- the session's cursor was put there
put_cursor : (state : State) (session : ℕ) (name : Name) (lines : List RowText) → HasLeft session name lines (with_cursor state session name lines)
unfolding cursors_at
put_cursor state session name lines =
    ap (λ b. names.get (if b then names.insert (state.cursors session) name lines else state.cursors session) name) (eq-eqb session session refl)
    ∙ get-insert name_cmp-total (state.cursors session) name lines name
    ∙ ap (λ b. cond b (Some lines) (names.get (state.cursors session) name)) (same_name-itself name)

not_both : (a b : Bool) → a && b ≡ false → a ≡ true → b ≡ false
not_both true b e is = e
not_both false b e is = false_true is

from_kept : (state : State) (session : ℕ) (name : Name) (lines : List RowText) (result : Result Effect Refusal) → HasLeft session name lines state → KeepsCursors state result → Gives (λ effect. HasLeft session name lines effect.state) result
from_kept state session name lines (Ok effect) there keeps = record { is_so = ap (λ (cursors : ℕ → Cursors). names.get (cursors session) name) keeps.kept ∙ there }
from_kept state session name lines (Err refusal) there keeps = record { is_so = tt }

-- a command that neither fetches from the cursor nor closes it leaves it
leaves_cursor : (state : State) (session by : ℕ) (name : Name) (lines : List RowText) (tree : CommandTree) → HasLeft session name lines state
    → fetches session name by tree ≡ false → closes session name by tree ≡ false → Gives (λ effect. HasLeft session name lines effect.state) (outcome state by tree)
leaves_cursor state session by name lines (open_cursor other query method) there no_fetch no_close =
    through _ (checked state query) _ (λ made is.
    through _ (unless (not (has (state.cursors by) other)) CursorNameTaken) _ (λ u new.
    through _ (unless (nat_lt (names.len (state.cursors by)) CURSORS) TooManyCursors) _ (λ v room. record {
      is_so = at_cursor session by (names.insert (state.cursors by) other (lines_of state made method)) state.cursors name lines
          (λ same. still_there (state.cursors by) other (lines_of state made method) name lines (not_true _ (passed _ CursorNameTaken u new)) (subst (λ s. HasLeft s name lines state) (eqb-true session by same) there))
          there;
    })))
leaves_cursor state session by name lines (fetch other rows) there no_fetch no_close =
    through _ (cursor_named state by other) _ (λ others is. record {
      is_so = at_cursor session by (names.insert (state.cursors by) other (drop rows others)) state.cursors name lines
          (λ same. inserted_other (state.cursors by) other (drop rows others) name (not_both _ _ no_fetch same) ∙ subst (λ s. HasLeft s name lines state) (eqb-true session by same) there)
          there;
    })
leaves_cursor state session by name lines (close_cursor other) there no_fetch no_close =
    through _ (cursor_named state by other) _ (λ others is. record {
      is_so = at_cursor session by (names.remove (state.cursors by) other) state.cursors name lines
          (λ same. removed_other (state.cursors by) other name (not_both _ _ no_close same) ∙ subst (λ s. HasLeft s name lines state) (eqb-true session by same) there)
          there;
    })
leaves_cursor state session by name lines reopen there no_fetch no_close = false_true (sym no_close)
leaves_cursor state session by name lines tree there no_fetch no_close = from_kept state session name lines (outcome state by tree) there (keeps_cursors state by tree refl)

-- a FETCH gives the first of the lines, and leaves the others
abbrev Fetched : ℕ → Name → List RowText → ℕ → Effect → Type 0
Fetched session name lines asked effect = (effect.rows ≡ take asked lines) × HasLeft session name (drop asked lines) effect.state

fetches_lines : (state : State) (session : ℕ) (name : Name) (lines : List RowText) (asked : ℕ) → HasLeft session name lines state → Gives (Fetched session name lines asked) (rows_fetched state session name asked)
fetches_lines state session name lines asked there =
    subst (λ o. Gives (Fetched session name lines asked) (found o NoSuchCursor >>= (λ left. Ok (effect (take asked left) (length (take asked left)) (with_cursor state session name (drop asked left)))))) (sym there)
    (record { is_so = (refl, put_cursor state session name (drop asked lines)) })

-- an OPEN keeps the lines that SELECT would print
abbrev Opened : State → ℕ → Name → QueryTree → Method → Effect → Type 0
Opened state session name query method effect = (lines : List RowText) × Prints state query method lines × HasLeft session name lines effect.state

opens_lines : (state : State) (session : ℕ) (name : Name) (query : QueryTree) (method : Method) → Gives (Opened state session name query method) (cursor_opened state session name query method)
opens_lines state session name query method =
    through _ (checked state query) _ (λ made is.
    through _ (unless (not (has (state.cursors session) name)) CursorNameTaken) _ (λ u new.
    through _ (unless (nat_lt (names.len (state.cursors session)) CURSORS) TooManyCursors) _ (λ v room. record {
      is_so = (
        lines_of state made method,
        ap (λ (r : Result Query Refusal). r >>= (λ q. Ok (effect (lines_of state q method) (length (lines_of state q method)) state))) is,
        put_cursor state session name (lines_of state made method),
      );
    })))

-- ---- one step

done_refused : {P : Type 0} (rows : List RowText) (count : ℕ) (refusal : Refusal) → done rows count ≡ refused refusal → P
done_refused rows count refusal e = cc

same_rows : (rows others : List RowText) (count other : ℕ) → done rows count ≡ done others other → rows ≡ others
same_rows rows others count other e = cc

same_asked : (name : Name) (asked other : ℕ) → fetch name asked ≡ fetch name other → asked ≡ other
same_asked name asked other e = cc

-- what an accepted command did
record Did (IsSo : Effect → Type 0) (rows : List RowText) (new : Machine) : Type 0 where
  effect : Effect
  is_so : IsSo effect
  rows_are : rows ≡ effect.rows
  state_is : new.state ≡ effect.state

no_want : {P : Type 0} (old new : Machine) (rows : List RowText) (count : ℕ) → NamesAWant old (done rows count) new → P
no_want {P} old new rows count want = elim want.1 as (λ w. P) [
  | inl memory ↦ done_refused rows count OutOfMemory memory
  | inr other ↦ elim other as (λ w. P) [ inl disk ↦ done_refused rows count Disk disk.0 | inr room ↦ done_refused rows count FileFull room.0 ]
]

accepted_did : (IsSo : Effect → Type 0) (old new : Machine) (result : Result Effect Refusal) (rows : List RowText) (count : ℕ) → Gives IsSo result → Answers old result (done rows count) new → Did IsSo rows new
accepted_did IsSo old new (Ok effect) rows count gives answers = record { effect = effect; is_so = gives.is_so; rows_are = same_rows rows effect.rows count effect.count answers.0; state_is = answers.1 }
accepted_did IsSo old new (Err refusal) rows count gives answers = done_refused rows count refusal answers.0

served_did : (IsSo : Effect → Type 0) (old new : Machine) (session : ℕ) (tree : CommandTree) (rows : List RowText) (count : ℕ) → Gives IsSo (outcome old.state session tree) → Served old session tree (done rows count) new → Did IsSo rows new
served_did IsSo old new session tree rows count gives (inl answers) = accepted_did IsSo old new (outcome old.state session tree) rows count gives answers
served_did IsSo old new session tree rows count gives (inr want) = no_want old new rows count want

refused_rests : (old new : Machine) (result : Result Effect Refusal) (refusal : Refusal) → Answers old result (refused refusal) new → new.state ≡ old.state
refused_rests old new (Ok effect) refusal answers = done_refused effect.rows effect.count refusal (sym answers.0)
refused_rests old new (Err other) refusal answers = answers.1.state

served_rests : (old new : Machine) (session : ℕ) (tree : CommandTree) (refusal : Refusal) → Served old session tree (refused refusal) new → new.state ≡ old.state
served_rests old new session tree refusal (inl answers) = refused_rests old new (outcome old.state session tree) refusal answers
served_rests old new session tree refusal (inr want) = want.0.state

-- a FETCH of the cursor was answered fewer rows than it asked for
record GaveFewer (session : ℕ) (name : Name) (one : Exchange) : Type 0 where
  asked : ℕ
  count : ℕ
  rows : List RowText
  is : exchange session (fetch name asked) (done rows count) ≡ one
  fewer : length rows < asked

-- what becomes of a cursor that has still to give these lines
record Moved (session : ℕ) (name : Name) (lines : List RowText) (one : Exchange) (new : Machine) : Type 0 where
  rest : List RowText
  is : lines ≡ given_by session name one ++ rest
  left : HasLeft session name rest new.state
  over : GaveFewer session name one → rest ≡ []

none_given : (b : Bool) → ◌≡◌ {A = List RowText} (if b then [] else []) []
none_given true = refl
none_given false = refl

refused_moved : (old new : Machine) (session by : ℕ) (name : Name) (lines : List RowText) (tree : CommandTree) (refusal : Refusal) → HasLeft session name lines old.state → Served old by tree (refused refusal) new → Moved session name lines (exchange by tree (refused refusal)) new
refused_moved old new session by name lines tree refusal there served = record {
  rest = lines;
  is = ap (λ (rows : List RowText). rows ++ lines) (sym (none_given (fetches session name by tree)));
  left = ap (λ (s : State). names.get (s.cursors session) name) (served_rests old new by tree refusal served) ∙ there;
  over = λ few. done_refused few.rows few.count refusal (ap (λ (x : Exchange). x.reply) few.is);
}

both_true : (a b : Bool) → a ≡ true → b ≡ true → a && b ≡ true
both_true a b first second = ap (λ c. c && b) first ∙ second

-- a command that isn't a FETCH of the cursor
other_moved : (old new : Machine) (session by : ℕ) (name : Name) (lines : List RowText) (tree : CommandTree) (rows : List RowText) (count : ℕ) → HasLeft session name lines old.state → Served old by tree (done rows count) new
    → closes session name by tree ≡ false → fetches session name by tree ≡ false → Moved session name lines (exchange by tree (done rows count)) new
other_moved old new session by name lines tree rows count there served no_close no_fetch =
    let did = served_did (λ effect. HasLeft session name lines effect.state) old new by tree rows count (leaves_cursor old.state session by name lines tree there no_fetch no_close) served in
    record {
      rest = lines;
      is = ap (λ (b : Bool). (if b then rows else []) ++ lines) (sym no_fetch);
      left = ap (λ (s : State). names.get (s.cursors session) name) did.state_is ∙ did.is_so;
      over = λ few. false_true (sym no_fetch
          ∙ sym (ap (λ (x : Exchange). fetches session name x.session x.command) few.is)
          ∙ both_true (session == session) (same_name name name) (eq-eqb session session refl) (same_name-itself name));
    }

-- which command it is, and whose
record IsFetch (session : ℕ) (name : Name) (speaker : ℕ) (tree : CommandTree) : Type 0 where
  asked : ℕ
  tree_is : tree ≡ fetch name asked
  speaker_is : speaker ≡ session

is_fetch : (session : ℕ) (name : Name) (speaker : ℕ) (tree : CommandTree) → fetches session name speaker tree ≡ true → IsFetch session name speaker tree
is_fetch session name speaker (fetch other asked) e =
    let parts = and_parts (session == speaker) (same_name name other) e in
    record { asked = asked; tree_is = ap (λ n. fetch n asked) (sym (same_name-true name other parts.1)); speaker_is = sym (eqb-true session speaker parts.0) }
is_fetch session name speaker tree e = false_true e

all_taken : (asked : ℕ) (lines : List RowText) → length (take asked lines) < asked → length lines ≤ asked
all_taken asked lines few = omega (arith, length-take asked lines)

fetch_moved : (old new : Machine) (session by : ℕ) (name : Name) (lines : List RowText) (tree : CommandTree) (rows : List RowText) (count : ℕ) → HasLeft session name lines old.state → Served old by tree (done rows count) new
    → fetches session name by tree ≡ true → Moved session name lines (exchange by tree (done rows count)) new
fetch_moved old new session by name lines tree rows count there served its =
    let what = is_fetch session name by tree its in
    let served_it : Served old session (fetch name what.asked) (done rows count) new =
    subst (λ s. Served old s (fetch name what.asked) (done rows count) new) what.speaker_is (subst (λ t. Served old by t (done rows count) new) what.tree_is served) in
    let did = served_did (Fetched session name lines what.asked) old new session (fetch name what.asked) rows count (fetches_lines old.state session name lines what.asked there) served_it in
    let rows_are : rows ≡ take what.asked lines = did.rows_are ∙ did.is_so.0 in
    record {
      rest = drop what.asked lines;
      is = sym (take-append-drop what.asked lines)
          ∙ ap (λ (r : List RowText). r ++ drop what.asked lines) (sym rows_are)
          ∙ ap (λ (b : Bool). (if b then rows else []) ++ drop what.asked lines) (sym its);
      left = ap (λ (s : State). names.get (s.cursors session) name) did.state_is ∙ did.is_so.1;
      over = λ few.
          let asked_is : few.asked ≡ what.asked = same_asked name few.asked what.asked (ap (λ (x : Exchange). x.command) few.is ∙ what.tree_is) in
          let taken : few.rows ≡ take what.asked lines = same_rows few.rows rows few.count count (ap (λ (x : Exchange). x.reply) few.is) ∙ rows_are in
          drop_all what.asked lines (all_taken what.asked lines (subst (λ n. length (take what.asked lines) < n) asked_is (subst (λ (r : List RowText). length r < few.asked) taken few.fewer)));
    }

step_moved : (old new : Machine) (session by : ℕ) (name : Name) (lines : List RowText) (tree : CommandTree) (reply : Reply) → HasLeft session name lines old.state → Served old by tree reply new
    → closed_by session name (exchange by tree reply) ≡ false → Moved session name lines (exchange by tree reply) new
step_moved old new session by name lines tree (refused refusal) there served stays = refused_moved old new session by name lines tree refusal there served
step_moved old new session by name lines tree (done rows count) there served stays =
    elim (fetches session name by tree) as (λ b. fetches session name by tree ≡ b → Moved session name lines (exchange by tree (done rows count)) new) [
      | true ↦ λ its. fetch_moved old new session by name lines tree rows count there served its
      | false ↦ λ other. other_moved old new session by name lines tree rows count there served stays other
    ] refl

-- ---- steps

record MovedAlong (session : ℕ) (name : Name) (lines : List RowText) (steps : List Exchange) (new : Machine) : Type 0 where
  rest : List RowText
  is : lines ≡ given session name steps ++ rest
  left : HasLeft session name rest new.state
  over : AllByRecursion (λ one. GaveFewer session name one → rest ≡ []) steps

back_empty : (xs ys : List RowText) → xs ++ ys ≡ [] → ys ≡ []
back_empty [] ys e = e
back_empty (x ∷ xs) ys e = cc

steps_moved : (old new : Machine) (session : ℕ) (name : Name) (lines : List RowText) (steps : List Exchange) → HasLeft session name lines old.state → Steps old steps new → list_any (closed_by session name) steps ≡ false → MovedAlong session name lines steps new
steps_moved old new session name lines [] there on stays = record { rest = lines; is = refl; left = ap (λ (m : Machine). names.get (m.state.cursors session) name) on ∙ there; over = tt }
steps_moved old new session name lines (one ∷ more) there on stays =
    let stay = either_false (closed_by session name one) (list_any (closed_by session name) more) stays in
    let first = step_moved old on.0 session one.session name lines one.command one.reply there on.1 stay.0 in
    let others = steps_moved on.0 new session name first.rest more first.left on.2 stay.1 in
    record {
      rest = others.rest;
      is = first.is ∙ ap (λ (rows : List RowText). given_by session name one ++ rows) others.is ∙ sym (append_assoc (given_by session name one) (given session name more) others.rest);
      left = others.left;
      over = (λ few. back_empty (given session name more) others.rest (sym others.is ∙ first.over few), others.over);
    }

-- ---- from its OPEN on

opened_did : (old : Machine) (session : ℕ) (name : Name) (query : QueryTree) (method : Method) (steps : List Exchange) (new : Machine) (over : IsOpenOver old session name query method steps new) → Did (Opened old.state session name query method) over.rows over.opened
opened_did old session name query method steps new over = served_did (Opened old.state session name query method) old over.opened session (open_cursor name query method) over.rows over.count (opens_lines old.state session name query method) over.opens

record Follows (old new : Machine) (session : ℕ) (name : Name) (query : QueryTree) (method : Method) (steps : List Exchange) : Type 0 where
  lines : List RowText
  printed : Prints old.state query method lines
  moved : MovedAlong session name lines steps new

follows : (old new : Machine) (session : ℕ) (name : Name) (query : QueryTree) (method : Method) (steps : List Exchange) → IsOpenOver old session name query method steps new → Follows old new session name query method steps
follows old new session name query method steps over =
    let did = opened_did old session name query method steps new over in
    record {
      lines = did.is_so.0;
      printed = did.is_so.1;
      moved = steps_moved over.opened new session name did.is_so.0 steps (ap (λ (s : State). names.get (s.cursors session) name) did.state_is ∙ did.is_so.2) over.follow over.stays;
    }

-- what was given and what is left are what SELECT would have printed
pub prints_front : (old new : Machine) (session : ℕ) (name : Name) (query : QueryTree) (method : Method) (steps : List Exchange) → IsOpenOver old session name query method steps new
    → (rest : List RowText) × Prints old.state query method (given session name steps ++ rest) × (names.get (new.state.cursors session) name ≡ Some rest)
prints_front old new session name query method steps over =
    let all = follows old new session name query method steps over in
    (all.moved.rest, subst (Prints old.state query method) all.moved.is all.printed, all.moved.left)

-- nothing is left once a FETCH gave fewer than it asked for
pub prints_all : (old new : Machine) (session : ℕ) (name : Name) (query : QueryTree) (method : Method) (steps : List Exchange) → IsOpenOver old session name query method steps new
    → (asked count : ℕ) (rows : List RowText) → Contains steps (exchange session (fetch name asked) (done rows count)) → length rows < asked → Prints old.state query method (given session name steps)
prints_all old new session name query method steps over asked count rows among fewer =
    let all = follows old new session name query method steps over in
    let few : GaveFewer session name (exchange session (fetch name asked) (done rows count)) = record { asked = asked; count = count; rows = rows; is = refl; fewer = fewer } in
    let none : all.moved.rest ≡ [] = of_each (λ one. GaveFewer session name one → all.moved.rest ≡ []) steps _ all.moved.over among few in
    subst (Prints old.state query method) (all.moved.is ∙ ap (λ (left : List RowText). given session name steps ++ left) none ∙ append-nil (given session name steps)) all.printed

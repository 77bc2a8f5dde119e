-- What is answered as CSV, from the header and the reply.
use Rattle.std.proofs.Common.{◌≡◌, ◌⊎◌, ℕ, inl, inr, refl, List, length, Result, Ok, Err, ap, subst, sym}
use Rattle.rs_csv_answers.specs.Answers.{AnswersAsCsv}
use Rattle.rs_csv_answers.specs.Inner.{IsHeadOf, IsJoined, IsRefusedBy}
use Rattle.rs_facts.specs.Query.{Query}
use Rattle.rs_machine.specs.Answered.{answer}
use Rattle.rs_machine.specs.Checking.{checked}
use Rattle.rs_machine.specs.Checks.{◌>>=◌, unless}
use Rattle.rs_machine.specs.Request.{Asks, command}
use Rattle.rs_machine.specs.Served.{Answers, Machine, Reply, Served, done, refused}
use Rattle.rs_machine.specs.State.{RowText, has}
use Rattle.rs_machine.specs.Step.{counted, effect, lines_of, with_cursor}
use Rattle.rs_machine.specs.declared.limits.TheConstants.{CURSORS}
use Rattle.std.specs.FinMap as names
use Rattle.std.specs.Prelude.{nat_lt, not}
use Rattle.rs_methods.specs.declared.position.Method.{Method}
use Rattle.rs_refusal.specs.declared.refusal.Refusal.{Refusal}
use Rattle.rs_refusal.specs.declared.refusal.Refusal.TheVariants.{CursorNameTaken, OutOfMemory, TooManyCursors}
use Rattle.rs_syntax.specs.Tree.{CommandTree, QueryTree, select, define_route, define_table, define_referent, define_index, define_view, define_alignment, move_referent, drop_route, drop_table, drop_index, drop_view, drop_alignment, drop_referent, insert, remove, translate, total, explain, open_cursor, fetch, close_cursor, save, reopen}

-- a query that its checks refuse is not answered with lines
not_answered : (old new : Machine) (session : ℕ) (query : QueryTree) (method : Method) (why : Refusal) (rows : List RowText) (count : ℕ) → checked old.state query ≡ Err why
    → Served old session (select query method) (done rows count) new → ⊥
not_answered old new session query method why rows count is (inl answers) =
    let wrong : done rows count ≡ refused why = (subst (λ (r : Result Query Refusal).
    Answers old (r >>= (λ q. Ok (effect (lines_of old.state q method) (length (lines_of old.state q method)) old.state))) (done rows count) new) is answers).0 in cc
not_answered old new session query method why rows count is (inr (_, (inl memory))) = cc
not_answered old new session query method why rows count is (inr (_, (inr (inl disk)))) = let wrong = disk.0 in cc
not_answered old new session query method why rows count is (inr (_, (inr (inr room)))) = let wrong = room.0 in cc

-- nor is a cursor opened for it
not_opened : (old new : Machine) (session : ℕ) (name : List ℕ) (query : QueryTree) (method : Method) (why : Refusal) (rows : List RowText) (count : ℕ) → checked old.state query ≡ Err why
    → Served old session (open_cursor name query method) (done rows count) new → ⊥
not_opened old new session name query method why rows count is (inl answers) =
    let wrong : done rows count ≡ refused why = (subst (λ (r : Result Query Refusal). Answers old (r >>= (λ q. (unless (not (has (old.state.cursors session) name)) CursorNameTaken >>= (λ _. (unless (nat_lt (names.len (old.state.cursors session)) CURSORS) TooManyCursors >>= (λ _. Ok (counted 0 (with_cursor old.state session name (lines_of old.state q method))))))))) (done rows count) new) is answers).0 in cc
not_opened old new session name query method why rows count is (inr (_, (inl memory))) = cc
not_opened old new session name query method why rows count is (inr (_, (inr (inl disk)))) = let wrong = disk.0 in cc
not_opened old new session name query method why rows count is (inr (_, (inr (inr room)))) = let wrong = room.0 in cc

no_head : (old new : Machine) (session : ℕ) (tree : CommandTree) (why : Refusal) (rows : List RowText) (count : ℕ) → (why ≡ OutOfMemory) ⊎ IsRefusedBy old.state tree why
    → Served old session tree (done rows count) new → why ≡ OutOfMemory
no_head old new session tree why rows count (inl memory) served = memory
no_head old new session (select query method) why rows count (inr is) served = absurd (not_answered old new session query method why rows count is served)
no_head old new session (define_route _ _ _) why rows count (inr is) served = elim is [ ]
no_head old new session (define_table _ _ _) why rows count (inr is) served = elim is [ ]
no_head old new session (define_referent _ _ _) why rows count (inr is) served = elim is [ ]
no_head old new session (define_index _ _ _) why rows count (inr is) served = elim is [ ]
no_head old new session (define_view _ _ _) why rows count (inr is) served = elim is [ ]
no_head old new session (define_alignment _ _) why rows count (inr is) served = elim is [ ]
no_head old new session (move_referent _ _ _) why rows count (inr is) served = elim is [ ]
no_head old new session (drop_route _) why rows count (inr is) served = elim is [ ]
no_head old new session (drop_table _) why rows count (inr is) served = elim is [ ]
no_head old new session (drop_index _) why rows count (inr is) served = elim is [ ]
no_head old new session (drop_view _) why rows count (inr is) served = elim is [ ]
no_head old new session (drop_alignment _) why rows count (inr is) served = elim is [ ]
no_head old new session (drop_referent _ _) why rows count (inr is) served = elim is [ ]
no_head old new session (insert _ _ _ _) why rows count (inr is) served = elim is [ ]
no_head old new session (remove _ _ _) why rows count (inr is) served = elim is [ ]
no_head old new session (translate _ _ _) why rows count (inr is) served = elim is [ ]
no_head old new session (total _ _ _) why rows count (inr is) served = elim is [ ]
no_head old new session (explain _) why rows count (inr is) served = elim is [ ]
no_head old new session (open_cursor name query method) why rows count (inr is) served = absurd (not_opened old new session name query method why rows count is served)
no_head old new session (fetch _ _) why rows count (inr is) served = elim is [ ]
no_head old new session (close_cursor _) why rows count (inr is) served = elim is [ ]
no_head old new session save why rows count (inr is) served = elim is [ ]
no_head old new session reopen why rows count (inr is) served = elim is [ ]

pub answers_as_csv : {T : Type 0} (items : T → List ℕ) (line : List ℕ) (session : ℕ) (tree : CommandTree) (old new : Machine) (head result : Result T Refusal) (reply : Reply)
    → Asks line (command session tree) → Served old session tree reply new → IsHeadOf items old.state tree head → IsJoined items head reply result → AnswersAsCsv items line old result new
answers_as_csv {T} items line session tree old new head (Ok text) (done rows count) asks served of joined = record {
  given = answer session (done rows count);
  answered = inl (command session tree, asks, (refl, served));
  says = (
    items joined.0,
    record { session = session; tree = tree; asks = asks; has = subst (λ (h : Result T Refusal). IsHeadOf items old.state tree h) joined.1 of },
    joined.2,
  );
}
answers_as_csv {T} items line session tree old new head (Err why) (done rows count) asks served of (inl lacks) = record {
  given = answer session (done rows count);
  answered = inl (command session tree, asks, (refl, served));
  says = inr (no_head old new session tree why rows count (subst (λ (h : Result T Refusal). IsHeadOf items old.state tree h) lacks of) served);
}
answers_as_csv {T} items line session tree old new head (Err why) (done rows count) asks served of (inr memory) = record {
  given = answer session (done rows count);
  answered = inl (command session tree, asks, (refl, served));
  says = inr memory;
}
answers_as_csv {T} items line session tree old new head (Err why) (refused refusal) asks served of joined = record {
  given = answer session (refused refusal);
  answered = inl (command session tree, asks, (refl, served));
  says = inl (ap refused (sym joined));
}
answers_as_csv {T} items line session tree old new head (Ok text) (refused refusal) asks served of joined = absurd joined

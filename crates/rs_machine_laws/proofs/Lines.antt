-- Whatever lines are answered, a lawful state stays lawful.
use Rattle.std.proofs.Common.{◌∙◌, ℕ, ◌<◌, arith, List, [], ◌∷◌, Result, Ok, Err, sym, subst, inl, inr}
use Rattle.std.specs.Prelude.{IsTrue}
use Rattle.std.specs.FinMap as names
use Rattle.std.specs.FinMap.{get-empty}
use Rattle.rs_refusal.specs.declared.refusal.Refusal.{Refusal}
use Rattle.rs_value.specs.Values.{is_text}
use Rattle.rs_facts.specs.Fact.{name_cmp}
use Rattle.rs_facts.specs.Query.{RouteEnds, Table, Piece}
use Rattle.rs_planning.specs.Basis.{IndexedColumn}
use Rattle.rs_syntax.specs.Tree.{QueryTree, CommandTree}
use Rattle.rs_syntax.specs.Verdict.{Reads}
use Rattle.rs_syntax.specs.Sound.{IsSound}
use Rattle.rs_machine.specs.declared.limits.TheConstants.{ROUTES, REFERENTS, TABLES, INDEXES, VIEWS, ALIGNMENTS, SESSIONS}
use Rattle.rs_machine.specs.State.{fresh}
use Rattle.rs_machine.specs.Step.{Effect, outcome}
use Rattle.rs_machine.specs.Served.{Machine, Reply, Answers, Served}
use Rattle.rs_machine.specs.Request.{Request, unreadable, no_command, command, Asks}
use Rattle.rs_machine.specs.Answered.{Answer, Replies, AnswersLine, Answered}
use Rattle.rs_machine.specs.Opening.{AreInOrder}
use Rattle.rs_machine.specs.Lawful.{IsLawful}
use Rattle.rs_machine.proofs.ReadableLines.{readable_text}
use Rattle.rs_machine_laws.proofs.Names.{none_some, len_none, each_empty}
use Rattle.rs_machine_laws.proofs.Commands.{Keeps, outcome-lawful}
use Rattle.rs_machine_laws.proofs.Indexes.{none-cursors}
use Rattle.rs_machine_laws.proofs.Sessions.{session_below}

answers-lawful : (old : Machine) (result : Result Effect Refusal) (reply : Reply) (new : Machine) → Keeps result → IsLawful old.state → Answers old result reply new → IsLawful new.state
answers-lawful old (Ok effect) reply new kept lawful answers = subst IsLawful (sym answers.1) kept.lawful
answers-lawful old (Err refusal) reply new kept lawful answers = subst IsLawful (sym answers.1.state) lawful

served-lawful : (old : Machine) (session : ℕ) (tree : CommandTree) (reply : Reply) (new : Machine) → session < SESSIONS → IsSound tree → IsLawful old.state → Served old session tree reply new → IsLawful new.state
served-lawful old session tree reply new below sound lawful (inl answers) =
    answers-lawful old (outcome old.state session tree) reply new (outcome-lawful old.state session tree below sound lawful) lawful answers
served-lawful old session tree reply new below sound lawful (inr want) = subst IsLawful (sym want.0.state) lawful

-- The commands of lines are sound.
module _ (read_sound : (line : List ℕ) (from : ℕ) (tree : CommandTree) → IsTrue (is_text line) → Reads line from (Ok tree) → IsSound tree) where
  replies-lawful : (old : Machine) (line : List ℕ) (request : Request) (given : Answer) (new : Machine) → Asks line request → IsLawful old.state → Replies old request given new → IsLawful new.state
  replies-lawful old line (unreadable refusal) given new asks lawful replies = subst (λ (m : Machine). IsLawful m.state) (sym replies.1) lawful
  replies-lawful old line (no_command session refusal) given new asks lawful replies = subst (λ (m : Machine). IsLawful m.state) (sym replies.1) lawful
  replies-lawful old line (command session tree) given new asks lawful replies =
      served-lawful old session tree given.reply new (session_below line session asks.digits asks.begins) (read_sound _ asks.digits tree (readable_text line asks.begins.is_readable) asks.reads) lawful replies.1

  line-lawful : (old : Machine) (line : List ℕ) (given : Answer) (new : Machine) → IsLawful old.state → AnswersLine old line given new → IsLawful new.state
  line-lawful old line given new lawful (inl asked) = replies-lawful old line asked.0 given new asked.1 lawful asked.2
  line-lawful old line given new lawful (inr want) = subst (λ (m : Machine). IsLawful m.state) (sym want.rests) lawful

  -- whatever lines are answered
  pub answered-lawful : (old new : Machine) (lines : List (List ℕ)) (answers : List Answer) → IsLawful old.state → Answered old lines answers new → IsLawful new.state
  answered-lawful old new [] [] lawful answered = subst (λ (m : Machine). IsLawful m.state) (sym answered) lawful
  answered-lawful old new [] (given ∷ more) lawful answered = absurd answered
  answered-lawful old new (line ∷ lines) [] lawful answered = absurd answered
  answered-lawful old new (line ∷ lines) (given ∷ more) lawful answered =
      answered-lawful answered.0 new lines more (line-lawful old line given answered.0 lawful answered.1) answered.2

-- no views are in order
none_in_order : AreInOrder names.empty
none_in_order = record {
  place = λ name. 0;
  below = λ name query there. none_some query (sym (get-empty name_cmp name) ∙ there);
  apart = λ a b x y at on same. none_some x (sym (get-empty name_cmp a) ∙ at);
  before = λ name other query there among y on. none_some query (sym (get-empty name_cmp name) ∙ there);
}

-- nothing is there at the beginning
pub fresh-lawful : IsLawful fresh
unfolding fresh
fresh-lawful = record {
  routes = each_empty _;
  referents_named = record { each = λ route. each_empty _ };
  referents = λ route. each_empty _;
  tables = each_empty _;
  views = record { each = each_empty _; order = none_in_order };
  alignments = each_empty _;
  indexes = each_empty _;
  cursors = none-cursors;
  limits = record {
    routes = len_none RouteEnds ROUTES;
    referents = λ route. len_none ℕ REFERENTS;
    tables = len_none Table TABLES;
    indexes = len_none IndexedColumn INDEXES;
    views = len_none QueryTree VIEWS;
    alignments = len_none (List Piece) ALIGNMENTS;
    changes = omega arith;
  };
}

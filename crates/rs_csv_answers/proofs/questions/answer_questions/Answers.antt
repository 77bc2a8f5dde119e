-- Each question is answered after those before it.
use Rattle.std.proofs.Common.{◌≡◌, ℕ, Bool, Bor, Ok, Err, List, [], Result, ap, arith, length, map, refl, subst, sym}
use Rattle.std.proofs.KnownBytes.{Appends-nil, Keeps-refl, Keeps-trans}
use Rattle.std.proofs.lemmas.Result.{err_from_is_err_and}
use Rattle.rs_csv_answers.specs.Questions.{AnswersQuestions, IsAnswered}
use Rattle.rs_csv_answers.proofs.Turns.{all_at, all_there, both_true, stops_at}
use Rattle.rs_protocol.specs.declared.stream.Fault.{Fault}
use Rattle.rs_csv_answers.proofs.questions.answer_questions.Goals as goal

pub loop-place-init : goal.loop-place-init
loop-place-init g c = record {
  answers = λ old is. (old, is, record { answers = []; text = []; each = (refl, refl); said = refl; put = Appends-nil _ });
  quiet = λ _. Keeps-refl _;
}

pub returns-in_err-is_answered-clause-answers : goal.returns-in_err-is_answered-clause-answers
returns-in_err-is_answered-clause-answers g c = λ old is.
    let before = c.loop-place.invariant.answers old is in
    let next = c.in_err-is_answered.ensures.answers before.0 before.1 in
    let p = err_from_is_err_and c.from_residual.result c.from_residual.ensures.1 in
    let is_err : c.from_residual.result ≡ Err c.in_err-is_answered.field-0.0 = cc (p.1, p.2) in (
      next.0,
      next.1,
      subst (λ (r : Result Bool Fault). AnswersQuestions (map (λ (question : Bor (List ℕ)). question.now) c.args.questions.now) old r next.0
          (g.W.Write.contents c.args.output.now) (g.W.Write.contents c.answer_question.new.output)) (sym is_err)
          (stops_at IsAnswered (Bor (List ℕ)) (λ question. question.now) c.args.questions.now c.loop-place.place _ c.loop-place-test.true old before.0 next.0 _ _ _ _ _ before.2 next.2),
    )

pub loop-place-preserved : goal.loop-place-preserved
loop-place-preserved g c = record {
  answers = λ old is.
      let before = c.loop-place.invariant.answers old is in
      let next = c.in_ok-is_answered.ensures.answers before.0 before.1 in (
        next.0,
        next.1,
        all_at IsAnswered (Bor (List ℕ)) (λ question. question.now) c.args.questions.now c.loop-place.place _ c.loop-place-test.true old before.0 next.0 _ _ _ _ _ _
            c.are_both-are_answered.ensures before.2 next.2,
      );
  quiet = λ done.
      let both = both_true _ _ _ c.are_both-are_answered.ensures done in
      Keeps-trans _ _ _ (c.loop-place.invariant.quiet both.1) (c.in_ok-is_answered.ensures.quiet (ap (λ (b : Bool). Ok b) both.0));
}

pub returns-clause-answers : goal.returns-clause-answers
returns-clause-answers g c = λ old is.
    let before = c.loop-place.invariant.answers old is in
    let all : c.loop-place.place ≡ length c.args.questions.now = omega (arith, c.loop-place.auto.place-end, c.loop-place-test.false) in (
      before.0,
      before.1,
      all_there IsAnswered (Bor (List ℕ)) (λ question. question.now) c.args.questions.now c.loop-place.place old before.0 c.loop-place.are_answered _ _ all before.2,
    )

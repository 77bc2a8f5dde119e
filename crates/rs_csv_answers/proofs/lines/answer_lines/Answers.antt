-- Each line is answered after those before it.
use Rattle.std.proofs.Common.{Bool, Ok, ap, subst}
use Rattle.std.proofs.KnownBytes.{Keeps-refl, Keeps-trans, Consumes-nil}
use Rattle.std.proofs.lemmas.Result.{err_from_is_err_and}
use Rattle.rs_csv_answers.specs.Lines.{Reads}
use Rattle.rs_csv_answers.specs.declared.lines.Ended.TheVariants as ended
use Rattle.rs_csv_answers.proofs.Counting.{counts_none}
use Rattle.rs_csv_answers.proofs.ManyLines.{both_none, ends_so, some_refused, told_cut, told_more, told_none, told_stops, told_unread, told_whole}
use Rattle.rs_csv_answers.proofs.lines.answer_lines.Goals as goal

pub loop-init : goal.loop-init
loop-init g c = record {
  answers = λ old is. (old, is, told_none (g.R.Read.remaining c.args.reader.now) (g.W.Write.contents c.args.output.now) old _ (counts_none _ c.none-answered.ensures.lines c.none-answered.ensures.refused c.none-answered.ensures.numbers));
  becomes = g.met.S.Serve.becomes_itself c.args.engine.now;
  quiet = λ none. Keeps-refl _;
}

pub returns-in_err-next_line-clause-answers : goal.returns-in_err-next_line-clause-answers
returns-in_err-next_line-clause-answers g c = λ old is.
    let before = c.loop.invariant.answers old is in
    let p = err_from_is_err_and c.from_residual.result c.from_residual.ensures.1 in
    rw (p.1, p.2) (before.0, before.1, told_unread _ _ (g.R.Read.remaining c.next_line.new.reader) old before.0 _ _ _ before.2 c.next_line.new.line.items c.in_err-next_line.field-0.0 c.in_err-next_line.ensures)

pub returns-in_err-next_line-clause-becomes : goal.returns-in_err-next_line-clause-becomes
returns-in_err-next_line-clause-becomes g c = c.loop.invariant.becomes

pub returns-in-End-clause-answers : goal.returns-in-End-clause-answers
returns-in-End-clause-answers g c = λ old is.
    let before = c.loop.invariant.answers old is in
    let reads = subst (λ n. Reads (Ok n) c.next_line.new.line.items (g.R.Read.remaining c.loop.reader) (g.R.Read.remaining c.next_line.new.reader)) c.in-End.is c.in_ok-next_line.ensures in (
      before.0,
      before.1,
      ends_so ended.Whole c.end.result c.loop.answered _ _ old before.0 _ _ c.end.ensures
          (told_whole _ _ (g.R.Read.remaining c.next_line.new.reader) old before.0 _ _ _ before.2 c.next_line.new.line.items reads),
    )

pub returns-in-Cut-clause-answers : goal.returns-in-Cut-clause-answers
returns-in-Cut-clause-answers g c = λ old is.
    let before = c.loop.invariant.answers old is in
    let reads = subst (λ n. Reads (Ok n) c.next_line.new.line.items (g.R.Read.remaining c.loop.reader) (g.R.Read.remaining c.next_line.new.reader)) c.in-Cut.is c.in_ok-next_line.ensures in (
      before.0,
      before.1,
      ends_so ended.CutLine c.end-in-Cut.result c.loop.answered (g.R.Read.remaining c.args.reader.now) (g.R.Read.remaining c.next_line.new.reader) old before.0 (g.W.Write.contents c.args.output.now) (g.W.Write.contents c.loop.output) c.end-in-Cut.ensures
          (told_cut _ _ (g.R.Read.remaining c.next_line.new.reader) old before.0 _ _ _ before.2 c.next_line.new.line.items reads),
    )

pub returns-in_err-is_answered-in-Line-clause-answers : goal.returns-in_err-is_answered-in-Line-clause-answers
returns-in_err-is_answered-in-Line-clause-answers g c = λ old is.
    let before = c.loop.invariant.answers old is in
    let reads = subst (λ n. Reads (Ok n) c.next_line.new.line.items (g.R.Read.remaining c.loop.reader) (g.R.Read.remaining c.next_line.new.reader)) c.in-Line.is c.in_ok-next_line.ensures in
    let next = c.in_err-is_answered-in-Line.ensures.answers before.0 before.1 in
    let p = err_from_is_err_and c.from_residual-in_err-is_answered-in-Line.result c.from_residual-in_err-is_answered-in-Line.ensures.1 in
    let stops = told_stops c.as_slice.result.now _ _ (g.R.Read.remaining c.next_line.new.reader) old before.0 next.0 _ _ c.in_err-is_answered-in-Line.field-0.0 _ _ _ before.2
    (rw c.as_slice.ensures.value reads) next.2 in
    rw (p.1, p.2) (next.0, next.1, stops)

pub returns-in_err-is_answered-in-Line-clause-becomes : goal.returns-in_err-is_answered-in-Line-clause-becomes
returns-in_err-is_answered-in-Line-clause-becomes g c =
    g.met.S.Serve.becomes_later c.args.engine.now c.loop.engine c.answer_line.new.engine c.loop.invariant.becomes c.answer_line.ensures.becomes

pub returns-then-not-is_answered-clause-answers : goal.returns-then-not-is_answered-clause-answers
returns-then-not-is_answered-clause-answers g c = λ old is.
    let before = c.loop.invariant.answers old is in
    let reads = subst (λ n. Reads (Ok n) c.next_line.new.line.items (g.R.Read.remaining c.loop.reader) (g.R.Read.remaining c.next_line.new.reader)) c.in-Line.is c.in_ok-next_line.ensures in
    let next = c.in_ok-is_answered-in-Line.ensures.answers before.0 before.1 in
    let told = told_more c.as_slice.result.now _ _ (g.R.Read.remaining c.next_line.new.reader) old before.0 next.0 _ _ _ _ _ _ c.in_ok-is_answered-in-Line.ensures.refused before.2 (rw c.as_slice.ensures.value reads) next.2 in
    let some = some_refused c.answer_line.new.answered.refused c.loop.answered.refused _ c.in_ok-is_answered-in-Line.ensures.refused c.if-not-is_answered.true in (
      next.0,
      next.1,
      ends_so ended.Refused c.end-then-not-is_answered.result c.answer_line.new.answered (g.R.Read.remaining c.args.reader.now) (g.R.Read.remaining c.next_line.new.reader) old next.0
          (g.W.Write.contents c.args.output.now) (g.W.Write.contents c.answer_line.new.output) c.end-then-not-is_answered.ensures (some, told),
    )

pub returns-then-not-is_answered-clause-becomes : goal.returns-then-not-is_answered-clause-becomes
returns-then-not-is_answered-clause-becomes g c =
    g.met.S.Serve.becomes_later c.args.engine.now c.loop.engine c.answer_line.new.engine c.loop.invariant.becomes c.answer_line.ensures.becomes

pub loop-preserved : goal.loop-preserved
loop-preserved g c = record {
  answers = λ old is.
      let before = c.loop.invariant.answers old is in
      let reads = subst (λ n. Reads (Ok n) c.next_line.new.line.items (g.R.Read.remaining c.loop.reader) (g.R.Read.remaining c.next_line.new.reader)) c.in-Line.is c.in_ok-next_line.ensures in
      let next = c.in_ok-is_answered-in-Line.ensures.answers before.0 before.1 in (
        next.0,
        next.1,
        told_more c.as_slice.result.now _ _ (g.R.Read.remaining c.next_line.new.reader) old before.0 next.0 _ _ _ _ _ _ c.in_ok-is_answered-in-Line.ensures.refused before.2
            (rw c.as_slice.ensures.value reads) next.2,
      );
  becomes = g.met.S.Serve.becomes_later c.args.engine.now c.loop.engine c.answer_line.new.engine c.loop.invariant.becomes c.answer_line.ensures.becomes;
  quiet = λ none.
      let both = both_none c.answer_line.new.answered.refused c.loop.answered.refused c.in_ok-is_answered-in-Line.is_answered c.in_ok-is_answered-in-Line.ensures.refused none in
      Keeps-trans _ _ _ (c.loop.invariant.quiet both.1) (c.in_ok-is_answered-in-Line.ensures.quiet (ap (λ (b : Bool). Ok b) both.0));
}

pub returns-clause-answers : goal.returns-clause-answers
returns-clause-answers g c = λ old is.
    let before = c.loop.invariant.answers old is in
    (before.0, before.1, (_, _, before.2, (_, Consumes-nil _)))

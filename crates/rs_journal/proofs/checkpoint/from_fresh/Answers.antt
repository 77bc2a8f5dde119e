-- The journal, then the gate.
use Rattle.std.proofs.Common.{◌≡◌, ◌≢◌, Result, Ok, Err, OnErr, inl, rules}
use Rattle.rs_journal.specs.Journal.{journal_of}
use Rattle.rs_journal.specs.declared.stage.Stage.{Stage}
use Rattle.rs_journal.specs.declared.stage.Stage.TheVariants.{Fresh}
use Rattle.rs_journal.proofs.Advancing.{on_err, meanwhile-less, every-still, ends-then}
use Rattle.rs_journal.proofs.checkpoint.from_fresh.Goals as goal

pub returns-in_err-begin-clause-ends : goal.returns-in_err-begin-clause-ends
returns-in_err-begin-clause-ends g c = λ kept checkpoint makes every.
    let journal = journal_of g.C.Copies c.args.first c.args.copies.now in
    let goes = c.in_err-begin.ensures.goes kept checkpoint makes every in
    record {
      done = search rules;
      reached = on_err _ _ (every-still g.D.Disk kept journal checkpoint _ Fresh _ c.requires.stage goes.fault);
      meanwhile = meanwhile-less g.D.Disk _ _ _ _ (λ image is. inl is) goes.meanwhile;
    }

always : {T E : Type 0} (result : Result T E) (stage : Stage) (P : Type 0) → P → OnErr result (stage ≡ Fresh → P)
always (Ok t) stage P p = tt
always (Err e) stage P p = λ _. p

pub returns-in_err-begin-clause-untouched : goal.returns-in_err-begin-clause-untouched
returns-in_err-begin-clause-untouched g c = λ kept checkpoint makes every.
    let goes = c.in_err-begin.ensures.goes kept checkpoint makes every in
    always c.from_residual.result c.args.stage.now _ goes.meanwhile

pub returns-clause-ends : goal.returns-clause-ends
returns-clause-ends g c = λ kept checkpoint makes every.
    let journal = journal_of g.C.Copies c.args.first c.args.copies.now in
    let goes = c.in_ok-begin.ensures.goes kept checkpoint makes every in
    ends-then g.D.Disk _ kept journal checkpoint _ _ _ _ _ _ _ (λ image is. inl is) (λ image is. is)
    (search rules) goes.meanwhile (c.from_gate.ensures.ends c.args.first kept checkpoint makes goes.done)

touched : {T E : Type 0} (result : Result T E) (stage : Stage) (P : Type 0) → OnErr result (stage ≢ Fresh) → OnErr result (stage ≡ Fresh → P)
touched (Ok t) stage P on = tt
touched (Err e) stage P on = λ is. absurd (on is)

pub returns-clause-untouched : goal.returns-clause-untouched
returns-clause-untouched g c = λ kept checkpoint makes every. touched _ _ _ c.from_gate.ensures.goes_on

use Rattle.std.proofs.Common.{◌≡◌, true, false, get_or, sym, ap, ◌∙◌, arith}
use borrow.Author.Count.{below_more}
use Rattle.rs_refusal.specs.declared.refusal.Refusal.TheVariants.{NoSuchColumn}
use Rattle.rs_facts.specs.Insert.{same_name}
use Rattle.rs_syntax.specs.declared.commands.ColumnDefinition.{ColumnDefinition}
use Rattle.rs_machine.specs.Checks.{found}
use Rattle.rs_machine.specs.Checking.{place_in}
use Rattle.rs_checker.proofs.ColumnLaws.{names_of_columns, place_found, place_missing, here_too}
use Rattle.rs_checker.proofs.columns.place_of.Goals as goal

pub loop-place-init : goal.loop-place-init
loop-place-init c = λ k d l. absurd (omega arith)

pub returns-then-same_name-clause-place : goal.returns-then-same_name-clause-place
returns-then-same_name-clause-place c =
    let items = c.as_slice-column-items.result.now in
    sym (ap (λ columns. found (place_in (names_of_columns columns) c.args.name.now.bytes) NoSuchColumn) (sym c.as_slice-column-items.ensures.value)
    ∙ ap (λ place. found place NoSuchColumn) (place_found c.args.name.now.bytes items c.loop-place.place c.loop-place-test.true c.loop-place.invariant
    (λ d. here_too c.args.name.now.bytes items c.loop-place.place c.column-item.result d true c.loop-place-test.true c.column-item.is (sym c.same_name.ensures ∙ c.if-same_name.true))))

pub loop-place-preserved : goal.loop-place-preserved
loop-place-preserved c =
    let items = c.as_slice-column-items.result.now in
    λ k d l. below_more (λ k. (d : ColumnDefinition) → same_name c.args.name.now.bytes (get_or items k d).name.bytes ≡ false) c.loop-place.place
    (λ k l d. c.loop-place.invariant k d l)
    (λ d. here_too c.args.name.now.bytes items c.loop-place.place c.column-item.result d false c.loop-place-test.true c.column-item.is (sym c.same_name.ensures ∙ c.if-same_name.false)) k l d

pub returns-clause-place : goal.returns-clause-place
returns-clause-place c =
    let items = c.as_slice-column-items.result.now in
    sym (ap (λ columns. found (place_in (names_of_columns columns) c.args.name.now.bytes) NoSuchColumn) (sym c.as_slice-column-items.ensures.value)
    ∙ ap (λ place. found place NoSuchColumn) (place_missing c.args.name.now.bytes items (λ k d l. c.loop-place.invariant k d (omega arith))))

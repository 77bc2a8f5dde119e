use Rattle.std.proofs.Common.{◌≡◌, ◌∙◌, Option, Some, IsSome, ap, codes, refl, subst, sym}
use Rattle.std.specs.Prelude.{option_and_then}
use Rattle.std.proofs.lemmas.Result.{IfOk-weaker}
use Rattle.std.specs.Str.Parse.{ExplainsUnsignedError, HasUnsignedDigitsIfOk, ParsesUnsigned}
use Rattle.clap.specs.Words.{Text, found_of, rows_of}
use Rattle.clap.proofs.WalkLemmas.{first_value-rows, one_text-rows}
use Rattle.rs_command_line.specs.Asked.{aligns, asked_by, connections_in, explains, file_in, address_in, given_text, number_in, said_by, serves}
use Rattle.rs_command_line.proofs.Reading.{last_of_three, number_read, number_text, number_worth}
use Rattle.rs_command_line.proofs.command_line.asked_of_command.Goals as goal

pub returns-in-run : goal.returns-in-run
returns-in-run c =
    let rows = rows_of (found_of c.args.given.now) in
    subst (λ (name : Text). asked_by (name, rows) ≡ Some (said_by c.asked_of_run.result)) (sym c.in-run.is) c.asked_of_run.ensures

pub asked_of_ask-requires : goal.asked_of_ask-requires
asked_of_ask-requires c =
    subst (λ (name : Text). IsSome (asked_by (name, rows_of (found_of c.args.given.now)))) c.in-ask.is c.requires

pub returns-in-ask : goal.returns-in-ask
returns-in-ask c =
    let rows = rows_of (found_of c.args.given.now) in
    IfOk-weaker c.asked_of_ask.result _ _ (λ a h. subst (λ (name : Text). asked_by (name, rows) ≡ Some (said_by a)) (sym c.in-ask.is) h) c.asked_of_ask.ensures

pub returns-in-csv : goal.returns-in-csv
returns-in-csv c =
    let rows = rows_of (found_of c.args.given.now) in
    IfOk-weaker c.asked_of_csv.result _ _ (λ a h. subst (λ (name : Text). asked_by (name, rows) ≡ Some (said_by a)) (sym c.in-csv.is) h) c.asked_of_csv.ensures

pub returns-in-table : goal.returns-in-table
returns-in-table c =
    let rows = rows_of (found_of c.args.given.now) in
    let given = c.get_str.ensures ∙ first_value-rows (found_of c.args.given.now) (codes "separator") in
    subst (λ (name : Text). asked_by (name, rows) ≡ Some (aligns (given_text c.get_str.result))) (sym c.in-table.is) (ap (λ (o : Option Text). Some (aligns o)) (sym given))

pub asked_of_dump-requires : goal.asked_of_dump-requires
asked_of_dump-requires c =
    subst (λ (name : Text). IsSome (asked_by (name, rows_of (found_of c.args.given.now)))) c.in-dump.is c.requires

pub returns-in-dump : goal.returns-in-dump
returns-in-dump c =
    let rows = rows_of (found_of c.args.given.now) in
    subst (λ (name : Text). asked_by (name, rows) ≡ Some (said_by c.asked_of_dump.result)) (sym c.in-dump.is) c.asked_of_dump.ensures

pub returns-in-explain : goal.returns-in-explain
returns-in-explain c =
    let rows = rows_of (found_of c.args.given.now) in
    let given = c.get_str-in-explain.ensures ∙ first_value-rows (found_of c.args.given.now) (codes "refusal") in
    subst (λ (name : Text). asked_by (name, rows) ≡ Some (explains (given_text c.get_str-in-explain.result))) (sym c.in-explain.is) (ap (λ (o : Option Text). Some (explains o)) (sym given))

pub unwrap-requires : goal.unwrap-requires
unwrap-requires c =
    let rows = rows_of (found_of c.args.given.now) in
    let asks = subst (λ (name : Text). IsSome (asked_by (name, rows))) c.in-serve.is c.requires in
    let number = number_text _ (last_of_three (file_in rows) (address_in rows) (connections_in rows) asks) in
    let text = one_text-rows (found_of c.args.given.now) (codes "connections") ∙ number.1 in
    let read = number_read (λ bs r. ParsesUnsigned 32 10 bs r × ExplainsUnsignedError 10 bs r × HasUnsignedDigitsIfOk bs r) number.0 c.get_one.result (λ u x h. h.0) number.2 (c.get_one.ensures.value number.0 text) in
    rw read refl

pub returns-in-serve : goal.returns-in-serve
returns-in-serve c =
    let rows = rows_of (found_of c.args.given.now) in
    let asks = subst (λ (name : Text). IsSome (asked_by (name, rows))) c.in-serve.is c.requires in
    let number = number_text _ (last_of_three (file_in rows) (address_in rows) (connections_in rows) asks) in
    let text = one_text-rows (found_of c.args.given.now) (codes "connections") ∙ number.1 in
    let read = number_read (λ bs r. ParsesUnsigned 32 10 bs r × ExplainsUnsignedError 10 bs r × HasUnsignedDigitsIfOk bs r) number.0 c.get_one.result (λ u x h. h.0) number.2 (c.get_one.ensures.value number.0 text) in
    let connections : connections_in rows ≡ Some c.unwrap.result =
    ap (option_and_then number_in) number.1 ∙ number_worth number.0 number.2 ∙ sym read ∙ c.unwrap.ensures in
    subst (λ (name : Text). asked_by (name, rows) ≡ Some (serves c.text_of-in-serve.result.now c.text_of-in-serve-2.result.now c.unwrap.result)) (sym c.in-serve.is)
    (rw (c.text_of-in-serve.ensures, c.text_of-in-serve-2.ensures, connections) refl)

-- What is asked with a number of connections has one that is in its range.
use Rattle.std.proofs.Common.{◌≡◌, ◌≤◌, ◌||◌, ℕ, Bool, true, false, codes, refl, subst, List, Option, Some, None, option_map}
use Rattle.std.specs.Prelude.{⊤, IfSome, if◌then◌else◌, option_and_then}
use Rattle.std.specs.Option.{option_map_or}
use Rattle.std.specs.Str.{bytes_eq}
use Rattle.std.specs.Str.Parse.{digits_value, without_leading_plus}
use Rattle.clap.specs.ValueTests.{is_unsigned_in}
use Rattle.clap.specs.Walk.{Row, Text}
use Rattle.clap.specs.Words.{one_of}
use Rattle.clap.specs.declared.builder.value_parser.ValueParser.TheVariants.{Unsigned}
use Rattle.clap.proofs.ValueTestLemmas.{accepts-Accepts}
use Rattle.rs_command_line.specs.Asked.{HasConnectionsInRange, Said, address_in, answers, asked_by, asked_by_ask, asked_by_csv, asked_by_dump, asked_by_explain, asked_by_serve, asked_by_table, connections_in, creates, file_in, flag_in, number_in, runs, runs_over, said_by, serves, watches}
use Rattle.rs_command_line.specs.declared.command_line.Asked.{Asked}
use Rattle.rs_command_line.specs.declared.command_line.Asked.TheVariants as asked

abbrev IsInRange : Said → Type 0
IsInRange (serves file address connections) = (1 ≤ connections) × (connections ≤ 1000000)
IsInRange _ = ⊤

abbrev AreInRange : Option Said → Type 0
AreInRange said = IfSome said IsInRange

one_or_other : (b : Bool) (one other : Option Said) → AreInRange one → AreInRange other → AreInRange (if b then one else other)
one_or_other true one other p q = p
one_or_other false one other p q = q

mapped : {X : Type 0} (f : X → Said) (o : Option X) → ((x : X) → IsInRange (f x)) → AreInRange (option_map f o)
mapped {X} f None each = tt
mapped {X} f (Some x) each = each x

run_in_range : (file : Option Text) (csv bails reports : Bool)
    → IsInRange (if csv then answers file bails reports else if bails || reports then watches file bails reports else option_map_or runs_over file runs)
run_in_range file true bails reports = tt
run_in_range file false true reports = tt
run_in_range file false false true = tt
run_in_range None false false false = tt
run_in_range (Some f) false false false = tt

number_in_range : (t : Text) → IfSome (number_in t) (λ n. (1 ≤ n) × (n ≤ 1000000))
number_in_range t = go (is_unsigned_in 1 1000000 t) refl
  where
    go : (b : Bool) → is_unsigned_in 1 1000000 t ≡ b → IfSome (if b then Some (digits_value 10 (without_leading_plus t)) else None) (λ n. (1 ≤ n) × (n ≤ 1000000))
    go true passed = let fits = accepts-Accepts false (Unsigned 1 1000000) t passed in (fits.2, fits.3)
    go false passed = tt

of_one : (o : Option Text) → IfSome (option_and_then number_in o) (λ n. (1 ≤ n) × (n ≤ 1000000))
of_one None = tt
of_one (Some t) = number_in_range t

of_three : (file address : Option Text) (number : Option ℕ) → IfSome number (λ n. (1 ≤ n) × (n ≤ 1000000))
    → AreInRange (option_and_then (λ file. option_and_then (λ address. option_map (serves file address) number) address) file)
of_three None address number is = tt
of_three (Some f) None number is = tt
of_three (Some f) (Some a) None is = tt
of_three (Some f) (Some a) (Some n) is = is

in_range : (command : Text × List Row) → AreInRange (asked_by command)
in_range command =
    let rows = command.1 in
    one_or_other (bytes_eq command.0 (codes "create")) _ _ (mapped creates (file_in rows) (λ f. tt))
    (one_or_other (bytes_eq command.0 (codes "run")) _ _ (run_in_range (file_in rows) (flag_in (codes "csv") rows) (flag_in (codes "bail") rows) (flag_in (codes "report") rows))
    (one_or_other (bytes_eq command.0 (codes "ask")) (asked_by_ask rows) _ (mapped _ (file_in rows) (λ f. tt))
    (one_or_other (bytes_eq command.0 (codes "csv")) (asked_by_csv rows) _ tt
    (one_or_other (bytes_eq command.0 (codes "table")) (asked_by_table rows) _ tt
    (one_or_other (bytes_eq command.0 (codes "dump")) (asked_by_dump rows) _ (mapped _ (file_in rows) (λ f. tt))
    (one_or_other (bytes_eq command.0 (codes "explain")) (asked_by_explain rows) _ tt
    (one_or_other (bytes_eq command.0 (codes "serve")) (asked_by_serve rows) None
    (of_three (file_in rows) (address_in rows) (connections_in rows) (of_one (one_of (codes "connections") rows))) tt)))))))

met_in_range : (met : Option (Text × List Row)) → AreInRange (option_and_then asked_by met)
met_in_range None = tt
met_in_range (Some command) = in_range command

of_said : (it : Asked) → IsInRange (said_by it) → HasConnectionsInRange it
of_said (asked.Create file) is = tt
of_said asked.Run is = tt
of_said (asked.RunFile file) is = tt
of_said (asked.RunWatched file bails reports) is = tt
of_said (asked.RunAsCsv file bails reports) is = tt
of_said (asked.Ask file questions) is = tt
of_said (asked.Csv words) is = tt
of_said (asked.Table separator) is = tt
of_said (asked.Dump file table omits_rows) is = tt
of_said (asked.Explain refusal) is = tt
of_said (asked.Serve file address connections) is = is

pub asked_in_range : (met : Option (Text × List Row)) (it : Asked) → option_and_then asked_by met ≡ Some (said_by it) → HasConnectionsInRange it
asked_in_range met it is = of_said it (subst AreInRange is (met_in_range met))

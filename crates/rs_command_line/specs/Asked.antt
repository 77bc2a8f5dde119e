-- What the words of the command line ask.
use Rattle.std.specs.Prelude.{◌≤◌, ◌==◌, ⊤, ℕ, Bool, false, ◌||◌, unwrap_or, map, List, [], ◌∷◌, Option, Some, None, codes, if◌then◌else◌}
use Rattle.std.specs.Prelude.{option_map, option_and_then}
use Rattle.std.specs.Option.{option_map_or}
use Rattle.std.specs.Str.{bytes_eq}
use Rattle.std.specs.Str.Parse.{digits_value, without_leading_plus}
use Rattle.clap.specs.ValueTests.{is_unsigned_in}
use Rattle.clap.specs.Words.{Row, Text, all_of, first_of, one_of, subcommand_of}
use Rattle.rs_command_line.specs.CommandLine.{command_line}
use Rattle.std.specs.Borrow.{Bor}
use Rattle.rs_command_line.specs.declared.command_line.CsvWords.{CsvWords}
use Rattle.rs_command_line.specs.declared.command_line.Asked.{Asked}
use Rattle.rs_command_line.specs.declared.command_line.Asked.TheVariants as asked

-- What `csv` is told.
pub record CsvSaid : Type 0 where
  pub define : Option Text
  pub route : Option Text
  pub from : Option Text
  pub to : Option Text
  pub at : Option Text
  pub session : Option Text
  pub separator : Option Text
  pub number : Option Text
  pub rejects : Option Text
  pub names_file : Option Text
  pub stations : Option Text
  pub columns : List Text
  pub scales : List Text
  pub omits_definition : Bool
  pub defines_routes : Bool
  pub rounds : Bool
  pub makes_names : Bool
  pub is_latin1 : Bool

-- What is asked, with its texts and its number: a file is made, lines are answered over memory or over a file, questions are answered
-- from a file as CSV, lines are answered as CSV, CSV is made into lines or into a table for the eye, the lines that rebuild a file or a table of it are written, with its rows or without, a refusal is explained, or so many
-- connections on an address are served over a file.
pub data Said : Type 0 where
  creates : Text → Said
  runs : Said
  runs_over : Text → Said
  watches : Option Text → (bails : Bool) → (reports : Bool) → Said
  answers : Option Text → (bails : Bool) → (reports : Bool) → Said
  asks : (file : Text) → (questions : List Text) → Said
  converts : CsvSaid → Said
  aligns : Option Text → Said
  dumps : (file : Text) → (table : Option Text) → (omits_rows : Bool) → Said
  explains : Option Text → Said
  serves : Text → Text → ℕ → Said

-- the number that a text writes in digits, where it is from 1 to 1000000
abbrev pub number_in : Text → Option ℕ
number_in text =
    if is_unsigned_in 1 1000000 text then Some (digits_value 10 (without_leading_plus text)) else None

-- the texts of `--file` and `--listen`, and the number of `--connections`, as they were given or by default
abbrev pub file_in : List Row → Option Text
file_in = first_of (codes "file")

abbrev pub address_in : List Row → Option Text
address_in = first_of (codes "listen")

abbrev pub connections_in : List Row → Option ℕ
connections_in rows = option_and_then number_in (one_of (codes "connections") rows)

-- what each command asks, by what was found of its arguments
abbrev pub asked_by_create : List Row → Option Said
asked_by_create rows = option_map creates (file_in rows)

-- whether a flag is given
abbrev pub is_true : Option Text → Bool
is_true None = false
is_true (Some text) = bytes_eq text (codes "true")

abbrev pub flag_in : Text → List Row → Bool
flag_in id rows = is_true (first_of id rows)

abbrev pub asked_by_run : List Row → Option Said
asked_by_run rows =
    Some (if flag_in (codes "csv") rows then answers (file_in rows) (flag_in (codes "bail") rows) (flag_in (codes "report") rows)
    else if flag_in (codes "bail") rows || flag_in (codes "report") rows then watches (file_in rows) (flag_in (codes "bail") rows) (flag_in (codes "report") rows)
    else option_map_or runs_over (file_in rows) runs)

abbrev pub asked_by_ask : List Row → Option Said
asked_by_ask rows = option_map (λ file. asks file (unwrap_or (all_of (codes "question") rows) [])) (file_in rows)

abbrev pub asked_by_csv : List Row → Option Said
asked_by_csv rows = Some (converts (record {
  define = first_of (codes "define") rows;
  route = first_of (codes "route") rows;
  from = first_of (codes "from") rows;
  to = first_of (codes "to") rows;
  at = first_of (codes "at") rows;
  session = first_of (codes "session") rows;
  separator = first_of (codes "separator") rows;
  number = first_of (codes "number") rows;
  rejects = first_of (codes "rejects") rows;
  names_file = first_of (codes "names-file") rows;
  stations = first_of (codes "stations") rows;
  columns = unwrap_or (all_of (codes "column") rows) [];
  scales = unwrap_or (all_of (codes "scale") rows) [];
  omits_definition = flag_in (codes "no-define") rows;
  defines_routes = flag_in (codes "routes") rows;
  rounds = flag_in (codes "round") rows;
  makes_names = flag_in (codes "names") rows;
  is_latin1 = flag_in (codes "latin1") rows;
}))

abbrev pub asked_by_table : List Row → Option Said
asked_by_table rows = Some (aligns (first_of (codes "separator") rows))

abbrev pub asked_by_dump : List Row → Option Said
asked_by_dump rows = option_map (λ file. dumps file (first_of (codes "table") rows) (flag_in (codes "definitions") rows)) (file_in rows)

abbrev pub asked_by_explain : List Row → Option Said
asked_by_explain rows = Some (explains (first_of (codes "refusal") rows))

abbrev pub asked_by_serve : List Row → Option Said
asked_by_serve rows = option_and_then (λ file. option_and_then (λ address.
    option_map (serves file address) (connections_in rows)) (address_in rows)) (file_in rows)

-- what a command of this name asks
abbrev pub asked_by : Text × List Row → Option Said
asked_by command = if bytes_eq command.0 (codes "create") then asked_by_create command.1
    else (if bytes_eq command.0 (codes "run") then asked_by_run command.1
    else (if bytes_eq command.0 (codes "ask") then asked_by_ask command.1
    else (if bytes_eq command.0 (codes "csv") then asked_by_csv command.1
    else (if bytes_eq command.0 (codes "table") then asked_by_table command.1
    else (if bytes_eq command.0 (codes "dump") then asked_by_dump command.1
    else (if bytes_eq command.0 (codes "explain") then asked_by_explain command.1
    else (if bytes_eq command.0 (codes "serve") then asked_by_serve command.1 else None)))))))

-- what the words ask, the program's own name first: that of the command that they name
abbrev pub asked_of : List Text → Option Said
asked_of words = option_and_then asked_by (subcommand_of command_line words)

-- a text that was given or not
abbrev pub given_text : Option (Bor Text) → Option Text
given_text text = option_map (λ t. t.now) text

abbrev pub csv_said : CsvWords → CsvSaid
csv_said words = record {
  define = given_text words.define;
  route = given_text words.route;
  from = given_text words.from;
  to = given_text words.to;
  at = given_text words.at;
  session = given_text words.session;
  separator = given_text words.separator;
  number = given_text words.number;
  rejects = given_text words.rejects;
  names_file = given_text words.names_file;
  stations = given_text words.stations;
  columns = map (λ t. t.now) words.columns.items;
  scales = map (λ t. t.now) words.scales.items;
  omits_definition = words.omits_definition;
  defines_routes = words.defines_routes;
  rounds = words.rounds;
  makes_names = words.makes_names;
  is_latin1 = words.is_latin1;
}

-- what an answer says is asked
abbrev pub said_by : Asked → Said
said_by (asked.Create file) = creates file.now
said_by asked.Run = runs
said_by (asked.RunFile file) = runs_over file.now
said_by (asked.RunWatched file bails reports) = watches (given_text file) bails reports
said_by (asked.RunAsCsv file bails reports) = answers (given_text file) bails reports
said_by (asked.Ask file questions) = asks file.now (map (λ t. t.now) questions.items)
said_by (asked.Csv words) = converts (csv_said words)
said_by (asked.Table separator) = aligns (given_text separator)
said_by (asked.Dump file table omits_rows) = dumps file.now (given_text table) omits_rows
said_by (asked.Explain refusal) = explains (given_text refusal)
said_by (asked.Serve file address connections) = serves file.now address.now connections

-- from 1 to 1000000 connections are served
abbrev pub HasConnectionsInRange : Asked → Type 0
HasConnectionsInRange (asked.Serve file address connections) =
    (1 ≤ connections) × (connections ≤ 1000000)
HasConnectionsInRange _ = ⊤

-- the text begins with `-`, so that it is read as a flag and not as a value
abbrev pub begins_with_hyphen : Text → Bool
begins_with_hyphen [] = false
begins_with_hyphen (x ∷ xs) = x == 45

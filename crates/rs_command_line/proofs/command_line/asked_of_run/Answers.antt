use Rattle.std.proofs.Common.{◌≡◌, ◌∙◌, Bool, true, false, Option, Some, ap, codes, option_map, refl, sym, true≢false, ◌||◌}
use Rattle.std.specs.Prelude.{if◌then◌else◌}
use Rattle.std.specs.Option.{option_map_or}
use Rattle.clap.specs.Words.{Text, found_of}
use Rattle.clap.proofs.WalkLemmas.{first_value-rows}
use Rattle.rs_command_line.specs.Asked.{Said, answers, given_text, runs, runs_over, watches}
use Rattle.rs_command_line.proofs.command_line.asked_of_run.Goals.{then-bails-via-then-bails, then-bails-via-else-bails+then-reports}
use Rattle.rs_command_line.proofs.command_line.asked_of_run.Goals as goal

-- what is asked by a file and two flags, where the answers are not wanted as CSV
abbrev plain_with : Option Text → Bool → Bool → Option Said
plain_with file a b = Some (if a || b then watches file a b else option_map_or runs_over file runs)

-- what is asked by a file and three flags
abbrev run_with : Option Text → Bool → Bool → Bool → Option Said
run_with file csv a b = Some (if csv then answers file a b else if a || b then watches file a b else option_map_or runs_over file runs)

as_csv : (file : Option Text) (csv a b : Bool) → csv ≡ true → run_with file csv a b ≡ Some (answers file a b)
as_csv file true a b e = refl
as_csv file false a b e = absurd (true≢false (sym e))

not_as_csv : (file : Option Text) (csv a b : Bool) → csv ≡ false → run_with file csv a b ≡ plain_with file a b
not_as_csv file true a b e = absurd (true≢false e)
not_as_csv file false a b e = refl

first_flag : (file : Option Text) (a b : Bool) → a ≡ true → plain_with file a b ≡ Some (watches file a b)
first_flag file true b e = refl
first_flag file false b e = absurd (true≢false (sym e))

second_flag : (file : Option Text) (a b : Bool) → b ≡ true → plain_with file a b ≡ Some (watches file a b)
second_flag file true b e = refl
second_flag file false true e = refl
second_flag file false false e = absurd (true≢false (sym e))

no_flag : (file : Option Text) (a b : Bool) → a ≡ false → b ≡ false → plain_with file a b ≡ Some (option_map_or runs_over file runs)
no_flag file true b e k = absurd (true≢false e)
no_flag file false true e k = absurd (true≢false k)
no_flag file false false e k = refl

module _ (rows_file file : Option Text) (rows_csv csv rows_bails bails rows_reports reports : Bool) (same_file : rows_file ≡ file) (same_csv : csv ≡ rows_csv) (same_bails : bails ≡ rows_bails)
    (same_reports : reports ≡ rows_reports) where
  read : run_with rows_file rows_csv rows_bails rows_reports ≡ run_with file csv bails reports
  read =
      ap (λ (f : Option Text). run_with f rows_csv rows_bails rows_reports) same_file ∙ (ap (λ (c : Bool). run_with file c rows_bails rows_reports) (sym same_csv)
      ∙ (ap (λ (b : Bool). run_with file csv b rows_reports) (sym same_bails) ∙ ap (λ (r : Bool). run_with file csv bails r) (sym same_reports)))

pub returns-then-as_csv : goal.returns-then-as_csv
returns-then-as_csv c =
    let found = found_of c.args.given.now in
    read _ (given_text c.get_str-file.result) _ c.has_flag-as_csv.result _ c.has_flag-bails.result _ c.has_flag-reports.result (sym (c.get_str-file.ensures ∙ first_value-rows found (codes "file"))) c.has_flag-as_csv.ensures
    c.has_flag-bails.ensures c.has_flag-reports.ensures
    ∙ as_csv (given_text c.get_str-file.result) c.has_flag-as_csv.result c.has_flag-bails.result c.has_flag-reports.result c.if-as_csv.true

pub returns-then-bails : goal.returns-then-bails
returns-then-bails c =
    let found = found_of c.args.given.now in
    let same = read _ (given_text c.get_str-file.result) _ c.has_flag-as_csv.result _ c.has_flag-bails.result _ c.has_flag-reports.result (sym (c.get_str-file.ensures ∙ first_value-rows found (codes "file"))) c.has_flag-as_csv.ensures
    c.has_flag-bails.ensures c.has_flag-reports.ensures
    ∙ not_as_csv (given_text c.get_str-file.result) c.has_flag-as_csv.result c.has_flag-bails.result c.has_flag-reports.result c.if-as_csv.false in
    same ∙ elim c.then-bails.branch [
      | then-bails-via-then-bails w ↦ first_flag (given_text c.get_str-file.result) c.has_flag-bails.result c.has_flag-reports.result w.if-bails.true
      | then-bails-via-else-bails+then-reports w ↦ second_flag (given_text c.get_str-file.result) c.has_flag-bails.result c.has_flag-reports.result w.if-reports.true
    ]

pub returns-in-Some : goal.returns-in-Some
returns-in-Some c =
    let found = found_of c.args.given.now in
    let same = read _ (given_text c.get_str-file.result) _ c.has_flag-as_csv.result _ c.has_flag-bails.result _ c.has_flag-reports.result (sym (c.get_str-file.ensures ∙ first_value-rows found (codes "file"))) c.has_flag-as_csv.ensures
    c.has_flag-bails.ensures c.has_flag-reports.ensures
    ∙ not_as_csv (given_text c.get_str-file.result) c.has_flag-as_csv.result c.has_flag-bails.result c.has_flag-reports.result c.if-as_csv.false in
    same ∙ (no_flag (given_text c.get_str-file.result) c.has_flag-bails.result c.has_flag-reports.result c.if-bails.false c.if-reports.false
    ∙ ap (λ (o : Option Text). Some (option_map_or runs_over o runs)) (ap (option_map (λ s. s.now)) c.in-Some.is))

pub returns-in-None : goal.returns-in-None
returns-in-None c =
    let found = found_of c.args.given.now in
    let same = read _ (given_text c.get_str-file.result) _ c.has_flag-as_csv.result _ c.has_flag-bails.result _ c.has_flag-reports.result (sym (c.get_str-file.ensures ∙ first_value-rows found (codes "file"))) c.has_flag-as_csv.ensures
    c.has_flag-bails.ensures c.has_flag-reports.ensures
    ∙ not_as_csv (given_text c.get_str-file.result) c.has_flag-as_csv.result c.has_flag-bails.result c.has_flag-reports.result c.if-as_csv.false in
    same ∙ (no_flag (given_text c.get_str-file.result) c.has_flag-bails.result c.has_flag-reports.result c.if-bails.false c.if-reports.false
    ∙ ap (λ (o : Option Text). Some (option_map_or runs_over o runs)) (ap (option_map (λ s. s.now)) c.in-None.is))

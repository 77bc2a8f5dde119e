use Rattle.std.proofs.Common.{◌∙◌, ◌++◌, ap, subst}
use Rattle.csv.specs.Records.{fields_of}
use Rattle.rs_csv.specs.Output.{IsMade, IsPlanOf, held_lines, known_of, table_of}
use Rattle.rs_csv.proofs.Outputs.{made_header, record_makes}
use Rattle.rs_csv.proofs.filter.Filter.take_next.Goals as goal

pub returns-in-Some-clause-made : goal.returns-in-Some-clause-made
returns-in-Some-clause-made g c =
    let filter = c.self.inside in
    rw (← c.self.view_is)
    (record_makes filter.job.now.wanted (table_of filter.job.now.definition) c.take_record.result filter.progress c.in-Some.planned c.take_record.new.made (fields_of c.args.csv_record.now) _ _ c.in-Some.is c.self.invariant
    c.take_record.ensures.made c.take_record.ensures.texts c.take_record.ensures.quiet)

pub returns-in_ok-planned-in-None-clause-made : goal.returns-in_ok-planned-in-None-clause-made
returns-in_ok-planned-in-None-clause-made g c =
    let filter = c.self.inside in
    let wanted = filter.job.now.wanted in
    let table = table_of filter.job.now.definition in
    let old = filter.progress.made in
    let now = c.take_header.new.made in
    let planned = c.in_ok-planned-in-None.planned in
    let copy = c.in_ok-header-in-None.ensures.cases in
    rw (← c.self.view_is)
    (λ records sent made.
    made_header wanted table old now planned (fields_of c.args.csv_record.now) records (sent ++ held_lines filter.progress)
    (ap fields_of (c.in_ok-planned-in-None.ensures.header ∙ copy)) (subst (λ r. IsPlanOf wanted table (fields_of r) planned.plan) copy c.in_ok-planned-in-None.ensures.plan)
    c.in_ok-planned-in-None.ensures.number c.in_ok-planned-in-None.ensures.extents (c.in_ok-planned-in-None.ensures.made planned.plan (known_of now) 0)
    (subst (λ p. IsMade wanted table (known_of old) old.number old.extents p records ((sent ++ held_lines filter.progress) ++ old.bytes.items)) c.in-None.is made))

use Rattle.csv.specs.Records.{fields_of}
use Rattle.rs_csv.specs.Header.{Has}
use Rattle.rs_csv.proofs.Headers.{HasBelow}
use Rattle.rs_csv.proofs.names.find_field.Given as goal

abbrev pub invariant-loop-place : goal.invariant-loop-place
invariant-loop-place l = record { below : HasBelow (Has l.makes_names l.case (fields_of l.header) l.name) l.place l.found }

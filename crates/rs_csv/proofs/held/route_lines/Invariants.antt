use Rattle.std.proofs.Common.{◌≡◌}
use Rattle.rs_catalog.specs.Names.{entries_by_bytes}
use Rattle.rs_csv.specs.Output.{IsQuiet}
use Rattle.rs_csv.proofs.Defining.{PutTo}
use Rattle.rs_csv.proofs.held.route_lines.Given as goal

abbrev pub invariant-loop-name : goal.invariant-loop-name
invariant-loop-name g l = record {
  put : PutTo l.job.wanted.session (entries_by_bytes (λ extent. extent) l.initial.name-iterator) (entries_by_bytes (λ extent. extent) l.name-iterator) l.lines.items;
  quiet : IsQuiet l.fn.made.has_told l.made.has_told (g.E.Write.contents l.fn.errors) (g.E.Write.contents l.errors);
  quote : l.made.told.open_quote ≡ l.fn.made.told.open_quote;
}

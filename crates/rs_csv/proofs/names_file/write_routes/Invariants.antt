use Rattle.rs_catalog.specs.Names.{entries_by_bytes}
use Rattle.rs_csv.proofs.NamesFiles.{ArePut}
use Rattle.rs_csv.proofs.names_file.write_routes.Given as goal

abbrev pub invariant-loop-name : goal.invariant-loop-name
invariant-loop-name g l = ArePut (entries_by_bytes (λ text. text) l.initial.name-iterator) (entries_by_bytes (λ text. text) l.name-iterator) (g.W.Write.contents l.fn.output) (g.W.Write.contents l.output)

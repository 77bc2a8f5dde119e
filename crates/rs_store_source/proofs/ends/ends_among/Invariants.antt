-- The routes that are left decide.
use Rattle.std.proofs.Common.{◌≡◌}
use Rattle.rs_store.proofs.Visible.{left_of}
use Rattle.rs_store_source.specs.Shown.{ends_with}
use Rattle.rs_store_source.proofs.ends.ends_among.Given as goal

abbrev pub invariant-loop-entry : goal.invariant-loop-entry
invariant-loop-entry l = ends_with (left_of l.version l.entry-iterator) l.route ≡ ends_with (left_of l.version l.initial.entry-iterator) l.route

use Rattle.std.proofs.Common.{◌≡◌, drop}
use Rattle.rs_exec.specs.Changes.{AreFrom}
use Rattle.rs_exec.proofs.changes.are_in_order.Given as goal

abbrev pub invariant-loop-place : goal.invariant-loop-place
invariant-loop-place l = (l.next ≡ l.place-index) × (AreFrom l.next (drop l.place-index l.places) → AreFrom 0 l.places)

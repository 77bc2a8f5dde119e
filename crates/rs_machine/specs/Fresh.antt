-- The machine at the beginning.
use Rattle.rs_machine.specs.State.{fresh}
use Rattle.rs_machine.specs.Served.{Machine}

unfoldable pub fresh_machine : Machine
fresh_machine = record { state = fresh; failures = 0; full_refusals = 0 }

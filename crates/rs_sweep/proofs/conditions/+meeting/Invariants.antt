use Rattle.std.proofs.Common.{◌≡◌, drop}
use Rattle.rs_sweep.specs.Tests.{all_met, any_met}
use Rattle.rs_sweep.proofs.conditions.+meeting.Given as goal

-- All are met where those that are left are, and one is where one of those that are left is.
abbrev pub invariant-meets_all-loop-part : goal.invariant-meets_all-loop-part
invariant-meets_all-loop-part l = all_met (drop l.part-index l.parts) l.row ≡ all_met l.parts l.row

abbrev pub invariant-meets_any-loop-part : goal.invariant-meets_any-loop-part
invariant-meets_any-loop-part l = any_met (drop l.part-index l.parts) l.row ≡ any_met l.parts l.row

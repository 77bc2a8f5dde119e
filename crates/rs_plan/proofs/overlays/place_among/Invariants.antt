use Rattle.std.proofs.Common.{◌≡◌, ◌+◌, ◌-◌, ◌^◌, ◌==◌, min, drop}
use Rattle.std.specs.List.{position_or_len}
use Rattle.rs_plan.proofs.overlays.place_among.Given as goal

-- the column is none of those so far
abbrev pub invariant-loop-other : goal.invariant-loop-other
invariant-loop-other l = record {
  counted : l.place ≡ min l.other-index (2 ^ 8 - 1);
  after : position_or_len (λ other. other == l.column) l.columns ≡ l.other-index + position_or_len (λ other. other == l.column) (drop l.other-index l.columns);
}

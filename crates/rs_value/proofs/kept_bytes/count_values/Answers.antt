use Rattle.std.proofs.Common.{◌≡◌, ◌≤◌, length, arith, rules}
use Rattle.rs_value.proofs.KeptReading.{few_values}
use Rattle.rs_value.proofs.kept_bytes.count_values.Goals as goal

pub returns-else-not-is_empty : goal.returns-else-not-is_empty
returns-else-not-is_empty c row h =
    let left = c.loop-count.invariant.counted row h in
    let few = few_values _ left.0 left.1 in
    let none : length c.loop-count.rest.now ≡ 0 = search rules in
    omega (arith, left.2)

pub returns-after-loop-count : goal.returns-after-loop-count
returns-after-loop-count c row h =
    let left = c.loop-count.invariant.counted row h in
    let few = few_values _ row h in
    let all : length c.args.bytes.now ≤ c.loop-count.count = search rules in
    omega (arith, left.2)

use Rattle.std.proofs.Common.{◌-◌, nat_lt, length, drop, sym, arith, rules}
use Rattle.std.proofs.lemmas.List.{take_all, length-drop}
use Rattle.std.proofs.lemmas.Fn.{always_returns_same}
use Rattle.rs_methods.specs.declared.referents.Referent.{Referent}
use Rattle.rs_methods.proofs.OfRoute.{is_own, parted_below, cut_out}
use Rattle.rs_methods.proofs.referents.of_route.Goals as goal

pub returns : goal.returns
returns c =
    let from = c.partition_point-from.ensures in
    let count = c.partition_point-count.ensures in
    let below = from.partitioned (λ (x : Referent). nat_lt x.route c.args.route) (always_returns_same _ _ _ (λ a r f k. search rules)) (parted_below c.args.route c.args.items.now c.requires.sorted) in
    let rest = take_all (length c.args.items.now - c.partition_point-from.result) (drop c.partition_point-from.result c.args.items.now) (omega (arith, length-drop c.partition_point-from.result c.args.items.now)) in
    cut_out c.args.route c.args.items.now _ c.partition_point-from.result c.partition_point-count.result (sym rest) c.requires.sorted from.bound count.bound below
    (count.partitioned (is_own c.args.route) (always_returns_same _ _ _ (λ a r f k. search rules)))

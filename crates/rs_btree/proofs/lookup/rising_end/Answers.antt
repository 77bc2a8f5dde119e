-- A cell that the last is below comes after all before it too.
use Rattle.std.proofs.Common.{◌≡◌, ◌<◌, ◌≤◌, ◌+◌, ◌-◌, ℕ, List, Some, true, inl, inr, slice_get, subst, arith, rules}
use Rattle.std.specs.Prelude.{IsTrue}
use Rattle.std.proofs.lemmas.Bool.{cases_order}
use Rattle.rs_records.specs.Listed.{listed}
use Rattle.rs_records.specs.Order.{is_below}
use Rattle.rs_records.proofs.Orders.{is_below-trans}
use Rattle.rs_btree.specs.Looking.{AreRising}
use Rattle.rs_btree.proofs.lookup.rising_end.Goals as goal

-- the last and what it is below
module _ (cells : List (List ℕ)) (from end : ℕ) (last next : List ℕ) (some : from < end) (rising : AreRising cells from end) (there : slice_get cells (end - 1) ≡ Some last)
    (after : slice_get cells end ≡ Some next) (below : IsTrue (is_below last next)) where
  below_next : (one : ℕ) (a : List ℕ) → from ≤ one → one < end → slice_get cells one ≡ Some a → IsTrue (is_below a next)
  below_next one a low high is = elim (cases_order one (end - 1)) [
    | inl same ↦
        let found : slice_get cells (end - 1) ≡ Some a = subst (λ (k : ℕ). slice_get cells k ≡ Some a) same is in
        let level : last ≡ a = cc in
        subst (λ (x : List ℕ). IsTrue (is_below x next)) level below
    | inr (inl earlier) ↦ is_below-trans a last next (rising one (end - 1) a last low earlier (omega (arith, some)) is there) below
    | inr (inr later) ↦ absurd (omega (arith, later, high))
  ]

  rising_next : AreRising cells from (end + 1)
  rising_next one other a b low less high is found = elim (cases_order other end) [
    | inl same ↦
        let at : slice_get cells end ≡ Some b = subst (λ (k : ℕ). slice_get cells k ≡ Some b) same found in
        let level : next ≡ b = cc in
        subst (λ (x : List ℕ). IsTrue (is_below a x)) level (below_next one a low (omega (arith, less, same)) is)
    | inr (inl earlier) ↦ rising one other a b low less earlier is found
    | inr (inr later) ↦ absurd (omega (arith, later, high))
  ]

pub loop-end-preserved : goal.loop-end-preserved
loop-end-preserved c =
    let below : is_below c.get.result.now c.get-in-loop-end.result.now ≡ true = search rules in
    record {
      after = omega (arith, c.loop-end.invariant.after);
      within = omega (arith, c.loop-end-test.true, c.len-count.ensures);
      rising = rising_next (listed c.args.cells.now) c.args.from c.loop-end.end c.get.result.now c.get-in-loop-end.result.now
          c.loop-end.invariant.after c.loop-end.invariant.rising c.get.ensures c.get-in-loop-end.ensures below;
    }

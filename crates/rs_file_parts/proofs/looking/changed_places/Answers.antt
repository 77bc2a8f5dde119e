-- One run after the other.
use Rattle.std.proofs.Common.{◌≡◌, ◌+◌, ◌-◌, ◌*◌, drop, subst, sym, take, arith}
use Rattle.std.specs.List.{AllByRecursion}
use Rattle.rs_file_parts.specs.declared.looking.Places.{Places}
use Rattle.rs_file_parts.specs.Inner.{HaveChangedWithin}
use Rattle.rs_file_parts.specs.Parts.{IsTableCommitted}
use Rattle.rs_file_parts.proofs.Looked.{changed_not}
use Rattle.rs_file_parts.proofs.looking.changed_places.Goals as goal
use Rattle.rs_file_parts.proofs.looking.changed_places.Goals.{then-may_have_changed, else-may_have_changed}

pub loop-run-preserved : goal.loop-run-preserved
loop-run-preserved c =
    let tables = c.args.tables.now in
    let at = c.loop-run.run * 8 in
    let many : (at + 8) - at ≡ 8 = omega arith in
    let next : at + 8 ≡ (c.loop-run.run + 1) * 8 = omega arith in
    let changed : HaveChangedWithin c.if-may_have_changed.places.from c.if-may_have_changed.places.to (at + 8) tables =
    elim c.if-may_have_changed.branch [
      | then-may_have_changed w ↦ subst (λ (p : Places). HaveChangedWithin p.from p.to (at + 8) tables) (sym w.places-is) w.with_changed-places.ensures
      | else-may_have_changed w ↦
          subst (λ (p : Places). HaveChangedWithin p.from p.to (at + 8) tables) (sym w.places-is)
          (changed_not c.loop-run.places.from c.loop-run.places.to at 8 tables c.loop-run.invariant.changed
          (subst (λ n. AllByRecursion IsTableCommitted (take n (drop at tables))) many (c.may_have_changed.ensures w.if-may_have_changed.false)))
    ] in
    record {
      changed = subst (λ n. HaveChangedWithin c.if-may_have_changed.places.from c.if-may_have_changed.places.to n tables) next changed;
      inside = omega (arith, c.loop-run-test.true);
    }

use Rattle.std.proofs.Common.{◌<◌, length, true, slice_set, sym, ap, subst, ◌∙◌}
use Rattle.rs_catalog.specs.Names.{entries_by_bytes}
use Rattle.rs_catalog.proofs.FreeNumbers.{AreTaken, IsFirstFree, numbers_in, taken_start, taken_end, next_below, next_taken, least_free_of, below_limit, length-numbers}
use Rattle.rs_catalog.proofs.by_name.ByName.free_number.Goals as goal
use Rattle.rs_catalog.proofs.by_name.ByName.free_number.Goals.{After-least_free}
use Rattle.rs_catalog.proofs.by_name.ByName.free_number.Given.{Over}

pub loop-value-init : goal.loop-value-init
loop-value-init g c =
    subst (λ taken. AreTaken (length c.args.taken.now) (numbers_in g.T.Numbered.number_of c.into_iter-value-iterator.result) (numbers_in g.T.Numbered.number_of c.into_iter-value-iterator.result) taken) (sym c.requires.none)
    (taken_start (length c.args.taken.now) _ (below_limit g.T.Numbered.number_of c.args.self.now c.into_iter-value-iterator.result (length c.args.taken.now) (ap (entries_by_bytes (λ v. v)) c.into_iter-value-iterator.ensures.into_iter_gives ∙ c.iter-value-items.ensures) c.requires.each))

pub take-requires : goal.take-requires
take-requires g c =
    subst (λ n. n < length c.loop-value.taken) (sym c.own_number.ensures)
    (subst (λ m. g.T.Numbered.number_of c.in-Some.value.now < m) (sym c.loop-value.auto.taken)
    (next_below g.T.Numbered.number_of (length c.args.taken.now) _ _ _ _ c.in-Some.field-0-0.now c.in-Some.value.now c.loop-value.invariant c.in-Some.ensures.steps))

pub loop-value-preserved : goal.loop-value-preserved
loop-value-preserved g c =
    subst (λ taken. AreTaken (length c.args.taken.now) (numbers_in g.T.Numbered.number_of c.into_iter-value-iterator.result) (numbers_in g.T.Numbered.number_of c.next.new.self) taken)
    (ap (λ n. slice_set c.loop-value.taken n true) (sym c.own_number.ensures) ∙ sym c.take.ensures)
    (next_taken g.T.Numbered.number_of (length c.args.taken.now) _ _ _ _ c.in-Some.field-0-0.now c.in-Some.value.now c.loop-value.invariant c.in-Some.ensures.steps)

first_free : (g : Over) (c : After-least_free g) → IsFirstFree (length c.args.taken.now) (numbers_in g.T.Numbered.number_of c.into_iter-value-iterator.result) c.least_free.result
first_free g c =
    let all = numbers_in g.T.Numbered.number_of c.into_iter-value-iterator.result in
    let most = length c.args.taken.now in
    subst (λ n. IsFirstFree most all n) (sym c.least_free.ensures)
    (taken_end most all c.loop-value.taken
    (subst (λ es. AreTaken most all (numbers_in g.T.Numbered.number_of es) c.loop-value.taken) c.in-None.ensures.steps.0 c.loop-value.invariant)
    (subst (λ n. n < most) (sym (length-numbers g.T.Numbered.number_of c.args.self.now c.into_iter-value-iterator.result (ap (entries_by_bytes (λ v. v)) c.into_iter-value-iterator.ensures.into_iter_gives ∙ c.iter-value-items.ensures))) c.requires.room))

pub returns-clause-least : goal.returns-clause-least
returns-clause-least g c =
    least_free_of g.T.Numbered.number_of c.args.self.now c.into_iter-value-iterator.result (length c.args.taken.now) c.least_free.result (ap (entries_by_bytes (λ v. v)) c.into_iter-value-iterator.ensures.into_iter_gives ∙ c.iter-value-items.ensures) (first_free g c)

pub returns-clause-below : goal.returns-clause-below
returns-clause-below g c = (first_free g c).within

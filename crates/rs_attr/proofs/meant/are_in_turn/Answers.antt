-- The answer of `is_sorted_by`; the kind stays as it is.
use Rattle.std.proofs.Common.{◌≡◌, ◌∙◌, ap, refl, rules}
use Rattle.std.proofs.lemmas.Fn.{answers_by}
use Rattle.rs_attr.specs.Meant.{comes_before}
use Rattle.rs_attr.proofs.Lent.{turn_answer}
use Rattle.rs_value.specs.declared.column.Kind.{Kind}
use Rattle.rs_attr.proofs.meant.are_in_turn.Goals as goal

pub returns : goal.returns
returns c =
    turn_answer c.args.kind c.args.stretches.now c.requires.placed c.requires.sorted c.is_sorted_by.result
    (c.is_sorted_by.ensures.cases (comes_before c.args.kind) (answers_by _ _ (λ f. f.0.now ≡ c.args.kind)
    (λ f a r f' k i. (
      let told : r ≡ comes_before f.0.now a.0.now a.1.0.now = search rules in told ∙ ap (λ (kind : Kind). comes_before kind a.0.now a.1.0.now) i,
      let same : f'.0.now ≡ f.0.now = search rules in same ∙ i,
    )) _ refl))

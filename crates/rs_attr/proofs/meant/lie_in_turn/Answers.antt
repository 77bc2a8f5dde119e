-- The answer of `is_sorted_by`; the kind stays as it is.
use Rattle.std.proofs.Common.{◌≡◌, ◌∙◌, ap, refl, rules}
use Rattle.std.proofs.lemmas.Fn.{answers_by}
use Rattle.rs_attr.specs.Meant.{lies_before}
use Rattle.rs_attr.proofs.InPlace.{place_answer}
use Rattle.rs_value.specs.declared.column.Kind.{Kind}
use Rattle.rs_attr.proofs.meant.lie_in_turn.Goals as goal

pub returns : goal.returns
returns c =
    place_answer c.args.kind c.args.stretches.now c.requires c.is_sorted_by.result
    (c.is_sorted_by.ensures.cases (lies_before c.args.kind) (answers_by _ _ (λ f. f.0.now ≡ c.args.kind)
    (λ f a r f' k i. (
      let told : r ≡ lies_before f.0.now a.0.now a.1.0.now = search rules in told ∙ ap (λ (kind : Kind). lies_before kind a.0.now a.1.0.now) i,
      let same : f'.0.now ≡ f.0.now = search rules in same ∙ i,
    )) _ refl))

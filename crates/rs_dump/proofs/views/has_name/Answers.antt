-- One name after the other.
use Rattle.std.proofs.Common.{◌≡◌, ◌≢◌, ◌∷◌, ◌+◌, ◌∙◌, List, drop, false, true, subst, sym}
use Rattle.std.proofs.lemmas.Bool.{false≢true}
use Rattle.std.specs.Cmp.{Equal-is, eq_by_cmp_equiv}
use Rattle.std.specs.List.{AllByRecursion}
use Rattle.std.specs.Prelude.{Contains}
use Rattle.arrayvec.specs.ArrayString.{ArrayString}
use Rattle.rs_catalog.proofs.NameOrder.{name_cmp-antisymmetric, name_cmp-total}
use Rattle.rs_dump.specs.Views.{names_of}
use Rattle.rs_facts.specs.Fact.{Name, name_cmp}
use Rattle.rs_facts.specs.Insert.{same_name}
use Rattle.rs_dump.proofs.Puts.{next_left}
use Rattle.rs_dump.proofs.Viewed.{at_head, in_tail}
use Rattle.rs_dump.proofs.views.has_name.Goals as goal

is_one : (a b : Name) → same_name a b ≡ true → b ≡ a
is_one a b same = sym (name_cmp-antisymmetric a b ((Equal-is (name_cmp a b)).0 same))

is_another : (a b : Name) → same_name a b ≡ false → b ≢ a
is_another a b apart same =
    false≢true (sym (subst (λ (x : Name). same_name a x ≡ false) same apart) ∙ (eq_by_cmp_equiv name_cmp-total).refl a)

pub returns-then-is_same-clause-there : goal.returns-then-is_same-clause-there
returns-then-is_same-clause-there c = λ is.
    let names = c.args.names.now in
    let name = c.args.name.now.bytes in
    let other = c.other-item.result in
    let left : drop c.loop-other.other-index names ≡ other ∷ drop (c.loop-other.other-index + 1) names = next_left names c.loop-other.other-index other c.loop-other-test.true c.other-item.is in
    c.loop-other.invariant.there
    (subst (λ (rest : List ArrayString). Contains (names_of rest) name) (sym left)
    (subst (λ (first : Name). Contains (other.bytes ∷ names_of (drop (c.loop-other.other-index + 1) names)) first) (is_one name other.bytes (sym c.is_same.ensures ∙ c.if-is_same.true))
    (at_head other.bytes (names_of (drop (c.loop-other.other-index + 1) names)))))

pub loop-other-preserved : goal.loop-other-preserved
loop-other-preserved c =
    let names = c.args.names.now in
    let name = c.args.name.now.bytes in
    let other = c.other-item.result in
    let left : drop c.loop-other.other-index names ≡ other ∷ drop (c.loop-other.other-index + 1) names = next_left names c.loop-other.other-index other c.loop-other-test.true c.other-item.is in record {
      there = λ there. c.loop-other.invariant.there
          (subst (λ (rest : List ArrayString). Contains (names_of rest) name) (sym left) (in_tail other.bytes name (names_of (drop (c.loop-other.other-index + 1) names)) there));
      absent = λ all. c.loop-other.invariant.absent
          (subst (λ (rest : List ArrayString). AllByRecursion (λ (o : Name). o ≢ name) (names_of rest)) (sym left)
          (is_another name other.bytes (sym c.is_same.ensures ∙ c.if-is_same.false), all));
    }

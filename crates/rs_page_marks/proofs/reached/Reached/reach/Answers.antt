-- A number past the last is taken; one that isn't marked is one more, and one less is left.
use Rattle.std.proofs.Common.{◌≡◌, ◌<◌, true, false, length, refl, sym, ap, ◌∙◌, arith}
use Rattle.rs_page_owners.specs.Counts.{◌&◌, one_at}
use Rattle.rs_page_marks.specs.Marks.{taken}
use Rattle.rs_page_marks.proofs.Marking.{taken_past, taken_at, taken_more, unmarked_less, mark_at}
use Rattle.rs_page_marks.proofs.reached.Reached.reach.Goals as goal
use Rattle.rs_page_marks.proofs.reached.Reached.reach.Goals.{then-place-len-via-then-place-len, then-place-len-via-else-place-len+then-index}

pub returns-then-place-len-clause-free : goal.returns-then-place-len-clause-free
returns-then-place-len-clause-free c =
    let marked : taken c.self.inside.marks.items c.number-place.result ≡ 1 = elim c.then-place-len.branch [
      | then-place-len-via-then-place-len w ↦ taken_past c.self.inside.marks.items c.number-place.result (omega arith)
      | then-place-len-via-else-place-len+then-index w ↦
          let inside : c.number-place.result < length c.self.inside.marks.items = omega arith in
          taken_at c.self.inside.marks.items c.number-place.result true inside
          (mark_at c.self.inside.marks.items c.number-place.result w.index.result.now inside w.index.ensures ∙ w.if-index.true)
    ] in
    let there : taken c.args.self.now c.args.number ≡ 1 =
    ap (λ marks. taken marks c.args.number) (sym c.self.view_is) ∙ ap (taken c.self.inside.marks.items) (sym c.number-place.ensures) ∙ marked in
    (λ no. absurd (cc), λ none. absurd (omega (arith, there, none)))

pub overflow_sub-self : goal.overflow_sub-self
overflow_sub-self c =
    let inside : c.number-place.result < length c.self.inside.marks.items = omega arith in
    let free = mark_at c.self.inside.marks.items c.number-place.result c.index.result.now inside c.index.ensures ∙ c.if-index.false in
    omega (arith, unmarked_less c.self.inside.marks.items c.number-place.result inside free, c.self.invariant)

pub invariant_of-self : goal.invariant_of-self
invariant_of-self c =
    let inside : c.number-place.result < length c.self.inside.marks.items = omega arith in
    let free = mark_at c.self.inside.marks.items c.number-place.result c.index.result.now inside c.index.ensures ∙ c.if-index.false in
    omega (arith, unmarked_less c.self.inside.marks.items c.number-place.result inside free, c.self.invariant)

pub returns-clause-free : goal.returns-clause-free
returns-clause-free c =
    let inside : c.number-place.result < length c.self.inside.marks.items = omega arith in
    let free = mark_at c.self.inside.marks.items c.number-place.result c.index.result.now inside c.index.ensures ∙ c.if-index.false in
    let none : taken c.args.self.now c.args.number ≡ 0 =
    ap (λ marks. taken marks c.args.number) (sym c.self.view_is) ∙ ap (taken c.self.inside.marks.items) (sym c.number-place.ensures)
    ∙ taken_at c.self.inside.marks.items c.number-place.result false inside free in
    (λ _. none, λ _. refl)

pub returns-clause-reaches : goal.returns-clause-reaches
returns-clause-reaches c = λ _ n.
    let inside : c.number-place.result < length c.self.inside.marks.items = omega arith in
    let free = mark_at c.self.inside.marks.items c.number-place.result c.index.result.now inside c.index.ensures ∙ c.if-index.false in
    taken_more c.self.inside.marks.items c.number-place.result inside free n
    ∙ ap (λ marks. (taken marks & one_at c.number-place.result) n) c.self.view_is ∙ ap (λ k. (taken c.args.self.now & one_at k) n) c.number-place.ensures

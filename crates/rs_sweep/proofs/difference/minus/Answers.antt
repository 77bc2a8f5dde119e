use Rattle.std.proofs.Common.{◌≡◌, length, sym, ap, ◌∙◌}
use Rattle.std.proofs.lemmas.List.Sorted.{IsPermutation-map}
use Rattle.rs_facts.specs.Spans.{seen, IsPlaced}
use Rattle.rs_facts.proofs.SpanLaws.{places_of-permutation}
use Rattle.rs_sweep.proofs.Arrangement.{every-moved}
use Rattle.rs_sweep.proofs.difference.minus.Goals as goal

pub returns-clause-means : goal.returns-clause-means
returns-clause-means c = λ k.
    ap (λ p. p k) (sym (places_of-permutation _ _ (IsPermutation-map seen _ _ c.sort_by_place.ensures.moved)))
    ∙ c.in_ok-kept.ensures.cut.means k

pub returns-clause-placed : goal.returns-clause-placed
returns-clause-placed c = λ kind p. every-moved (IsPlaced kind) _ _ c.sort_by_place.ensures.moved (c.in_ok-kept.ensures.cut.placed kind p)

pub returns-clause-width : goal.returns-clause-width
returns-clause-width c = λ width p. every-moved (λ s. length s.row ≡ width) _ _ c.sort_by_place.ensures.moved (c.in_ok-kept.ensures.cut.wide width p)

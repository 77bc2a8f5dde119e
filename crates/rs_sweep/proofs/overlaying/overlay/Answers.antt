use Rattle.std.proofs.Common.{◌≡◌, ◌+◌, length, sym, ap, ◌∙◌}
use Rattle.std.proofs.lemmas.List.Sorted.{IsPermutation-map}
use Rattle.rs_facts.specs.Spans.{seen, IsPlaced}
use Rattle.rs_facts.proofs.Apart.{apart-permutation}
use Rattle.rs_facts.proofs.SpanLaws.{places_of-permutation}
use Rattle.rs_facts.specs.Query.{overlaid_kind}
use Rattle.rs_sweep.proofs.Arrangement.{every-moved}
use Rattle.rs_sweep.proofs.overlaying.overlay.Goals as goal

pub returns-clause-means : goal.returns-clause-means
returns-clause-means c = λ k. ap (λ p. p k) (sym (places_of-permutation _ _ (IsPermutation-map seen _ _ c.sort_by_place.ensures.moved))) ∙ c.in_ok-found.ensures.pieces.means k

pub returns-clause-placed : goal.returns-clause-placed
returns-clause-placed c = λ a b p q. every-moved (IsPlaced (overlaid_kind a b)) _ _ c.sort_by_place.ensures.moved (c.in_ok-found.ensures.pieces.placed a b p q)

pub returns-clause-width : goal.returns-clause-width
returns-clause-width c = λ m n p q. every-moved (λ s. length s.row ≡ m + n) _ _ c.sort_by_place.ensures.moved (c.in_ok-found.ensures.pieces.wide m n p q)

pub returns-clause-joined : goal.returns-clause-joined
returns-clause-joined c = λ a b m n w v p q. apart-permutation (overlaid_kind a b) _ _ (IsPermutation-map seen _ _ c.sort_by_place.ensures.moved) (c.in_ok-found.ensures.pieces.joined a b m n w v p q)

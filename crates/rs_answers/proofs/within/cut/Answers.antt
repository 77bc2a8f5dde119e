use Rattle.std.proofs.Common.{sym, ap, ◌∙◌}
use Rattle.std.proofs.lemmas.List.Sorted.{IsPermutation-map}
use Rattle.rs_facts.specs.Operators.{windowed}
use Rattle.rs_facts.specs.Spans.{seen}
use Rattle.rs_facts.proofs.Apart.{apart-permutation}
use Rattle.rs_facts.proofs.SpanLaws.{places_of-permutation}
use Rattle.rs_answers.proofs.Narrowing.{placed-moved, wide-moved}
use Rattle.rs_answers.proofs.within.cut.Goals as goal

pub returns-clause-means : goal.returns-clause-means
returns-clause-means c = λ k.
    c.window.ensures.means k
    ∙ ap (λ places. windowed c.args.kept.from c.args.kept.to k (places k)) (sym (places_of-permutation _ _ (IsPermutation-map seen _ _ c.sort_by_place.ensures.moved)))

pub returns-clause-placed : goal.returns-clause-placed
returns-clause-placed c = λ kind placed. c.window.ensures.placed kind (placed-moved kind _ _ (IsPermutation-map seen _ _ c.sort_by_place.ensures.moved) placed)

pub returns-clause-width : goal.returns-clause-width
returns-clause-width c = λ width wide. c.window.ensures.width width (wide-moved width _ _ (IsPermutation-map seen _ _ c.sort_by_place.ensures.moved) wide)

pub returns-clause-joined : goal.returns-clause-joined
returns-clause-joined c = λ kind joined. c.window.ensures.joined kind (apart-permutation kind _ _ (IsPermutation-map seen _ _ c.sort_by_place.ensures.moved) joined)

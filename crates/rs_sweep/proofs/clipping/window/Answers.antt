use Rattle.std.proofs.Common.{◌≡◌, filter, map, sym, ap, ◌∙◌, subst, rules}
use Rattle.std.proofs.lemmas.Fn.{filter_same}
use Rattle.rs_facts.specs.declared.fact.Span.{Span}
use Rattle.rs_facts.specs.Spans.{seen, places_of, ArePlaced}
use Rattle.rs_coalesce.specs.Joined.{AreJoined}
use Rattle.rs_coalesce.proofs.Separate.{joined-cut, joined-filtered}
use Rattle.rs_sweep.specs.Inner.{clipped}
use Rattle.rs_sweep.specs.Lists.{AreSorted, AreWide}
use Rattle.rs_sweep.proofs.Arrangement.{map-filter}
use Rattle.rs_sweep.proofs.Edits.{some, windowed-means, windowed-sorted, windowed-placed, windowed-wide, clipped-cuts}
use Rattle.rs_sweep.proofs.clipping.window.Goals as goal

is : (c : goal.After-retain) → map seen c.retain.new.self.items ≡ filter some (map (clipped c.args.lo c.args.hi) (map seen c.args.spans.now.items))
is c = ap (map seen) (filter_same _ (λ (s : Span). some (seen s)) _ (λ x b f' k. search rules) _ _ c.retain.ensures.filtered) ∙ map-filter some c.clip_each.new.spans.items ∙ ap (filter some) c.clip_each.ensures

pub returns-clause-means : goal.returns-clause-means
returns-clause-means c = λ k. ap (λ zs. places_of zs k) (is c) ∙ windowed-means c.args.lo c.args.hi (map seen c.args.spans.now.items) k

pub returns-clause-sorted : goal.returns-clause-sorted
returns-clause-sorted c = subst AreSorted (sym (is c)) (windowed-sorted c.args.lo c.args.hi (map seen c.args.spans.now.items) c.requires.sorted)

pub returns-clause-placed : goal.returns-clause-placed
returns-clause-placed c = λ kind h. subst (ArePlaced kind) (sym (is c)) (windowed-placed kind c.args.lo c.args.hi (map seen c.args.spans.now.items) h)

pub returns-clause-width : goal.returns-clause-width
returns-clause-width c = λ width h. subst (AreWide width) (sym (is c)) (windowed-wide width c.args.lo c.args.hi (map seen c.args.spans.now.items) h)

pub returns-clause-joined : goal.returns-clause-joined
returns-clause-joined c = λ kind h. subst (AreJoined kind) (sym (is c))
    (joined-filtered kind some (map (clipped c.args.lo c.args.hi) (map seen c.args.spans.now.items)) (joined-cut kind (clipped c.args.lo c.args.hi) (clipped-cuts c.args.lo c.args.hi) (map seen c.args.spans.now.items) h))

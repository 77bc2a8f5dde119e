use Rattle.std.proofs.Common.{◌≡◌, filter, map, sym, ap, ◌∙◌, subst, rules}
use Rattle.std.proofs.lemmas.Fn.{filter_same}
use Rattle.rs_facts.specs.Condition as said
use Rattle.rs_facts.specs.ConditionView.{condition_of}
use Rattle.rs_facts.specs.declared.fact.Span.{Span}
use Rattle.rs_facts.specs.Runs.{Stretch}
use Rattle.rs_facts.specs.Spans.{seen, places_of, ArePlaced}
use Rattle.rs_coalesce.specs.Joined.{AreJoined}
use Rattle.rs_coalesce.proofs.Separate.{joined-filtered}
use Rattle.rs_sweep.specs.Lists.{AreSorted, AreWide}
use Rattle.rs_sweep.proofs.Arrangement.{map-filter}
use Rattle.rs_sweep.proofs.Edits.{selected-means, selected-sorted, selected-placed, selected-wide}
use Rattle.rs_sweep.proofs.filter.select.Goals as goal

is : (c : goal.After-retain) → map seen c.retain.new.self.items ≡ filter (λ (s : Stretch). said.meets (condition_of c.args.condition.now) s.row) (map seen c.args.spans.now.items)
is c = ap (map seen) (filter_same _ (λ (s : Span). said.meets (condition_of c.args.condition.now) s.tuple) _ (λ x b f' k. search rules) _ _ c.retain.ensures.filtered) ∙ map-filter (λ (s : Stretch). said.meets (condition_of c.args.condition.now) s.row) c.args.spans.now.items

pub returns-clause-means : goal.returns-clause-means
returns-clause-means c = λ k. ap (λ zs. places_of zs k) (is c) ∙ selected-means (said.meets (condition_of c.args.condition.now)) (map seen c.args.spans.now.items) k

pub returns-clause-sorted : goal.returns-clause-sorted
returns-clause-sorted c = subst AreSorted (sym (is c)) (selected-sorted (said.meets (condition_of c.args.condition.now)) (map seen c.args.spans.now.items) c.requires.sorted)

pub returns-clause-placed : goal.returns-clause-placed
returns-clause-placed c = λ kind h. subst (ArePlaced kind) (sym (is c)) (selected-placed kind (said.meets (condition_of c.args.condition.now)) (map seen c.args.spans.now.items) h)

pub returns-clause-width : goal.returns-clause-width
returns-clause-width c = λ width h. subst (AreWide width) (sym (is c)) (selected-wide width (said.meets (condition_of c.args.condition.now)) (map seen c.args.spans.now.items) h)

pub returns-clause-joined : goal.returns-clause-joined
returns-clause-joined c = λ kind h. subst (AreJoined kind) (sym (is c)) (joined-filtered kind (λ (s : Stretch). said.meets (condition_of c.args.condition.now) s.row) (map seen c.args.spans.now.items) h)

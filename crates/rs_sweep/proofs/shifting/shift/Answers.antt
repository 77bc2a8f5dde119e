use Rattle.std.proofs.Common.{◌≡◌, filter, map, sym, ap, ◌∙◌, subst, rules}
use Rattle.std.proofs.lemmas.Fn.{filter_same}
use Rattle.rs_facts.specs.declared.fact.Span.{Span}
use Rattle.rs_facts.specs.Spans.{seen, places_of, ArePlaced}
use Rattle.rs_sweep.specs.Inner.{shifted}
use Rattle.rs_sweep.specs.Lists.{AreSorted, AreWide}
use Rattle.rs_sweep.proofs.Arrangement.{map-filter}
use Rattle.rs_sweep.proofs.Edits.{some, shifted-means, shifted-sorted, shifted-placed, shifted-wide}
use Rattle.rs_sweep.proofs.shifting.shift.Goals as goal

is : (c : goal.After-retain) → map seen c.retain.new.self.items ≡ filter some (map (shifted c.args.from c.args.to c.args.onto) (map seen c.args.spans.now.items))
is c = ap (map seen) (filter_same _ (λ (s : Span). some (seen s)) _ (λ x b f' k. search rules) _ _ c.retain.ensures.filtered) ∙ map-filter some c.shift_each.new.spans.items ∙ ap (filter some) c.shift_each.ensures

pub returns-clause-means : goal.returns-clause-means
returns-clause-means c = λ k. ap (λ zs. places_of zs k) (is c) ∙ shifted-means c.args.from c.args.to c.args.onto c.requires.not_backwards (map seen c.args.spans.now.items) k

pub returns-clause-sorted : goal.returns-clause-sorted
returns-clause-sorted c = λ h. subst AreSorted (sym (is c)) (shifted-sorted c.args.from c.args.to c.args.onto (map seen c.args.spans.now.items) h)

pub returns-clause-placed : goal.returns-clause-placed
returns-clause-placed c = λ kind h. subst (ArePlaced kind) (sym (is c)) (shifted-placed kind c.args.from c.args.to c.args.onto c.requires.not_backwards (map seen c.args.spans.now.items) h)

pub returns-clause-width : goal.returns-clause-width
returns-clause-width c = λ width h. subst (AreWide width) (sym (is c)) (shifted-wide width c.args.from c.args.to c.args.onto (map seen c.args.spans.now.items) h)

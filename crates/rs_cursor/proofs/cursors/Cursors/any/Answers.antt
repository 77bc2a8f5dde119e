use Rattle.std.proofs.Common.{◌≡◌, ℕ, map, rules, sym, subst, ◌∙◌}
use Rattle.std.specs.Bool.{OnFalse}
use Rattle.std.specs.FinMap as maps
use Rattle.std.proofs.lemmas.Iterator.Consumers.{YieldsList-from_rest}
use Rattle.std.proofs.lemmas.Iterator.Search.{any_from_yields_List}
use Rattle.rs_cursor.proofs.BySession.{any_held, any_machine, has_some}
use Rattle.rs_cursor.specs.Held.{held_of}
use Rattle.rs_cursor.proofs.cursors.Cursors.any.Goals as goal

pub returns-clause-machine : goal.returns-clause-machine
returns-clause-machine c = λ lines.
    any_from_yields_List has_some _ _ c.any.result c.any.ensures.ran (YieldsList-from_rest (map (λ e. e.1) c.self.inside.by_session.entries) c.values.ensures.rest) (λ x b q k. search rules)
    ∙ any_machine c.self.inside.by_session.entries c.args.self.now c.self.view_is c.self.invariant c.values.ensures.ordered lines

pub returns-clause-none : goal.returns-clause-none
returns-clause-none c =
    subst (λ b. OnFalse b ((session : ℕ) → held_of c.args.self.now session ≡ maps.empty))
    (sym (any_from_yields_List has_some _ _ c.any.result c.any.ensures.ran (YieldsList-from_rest (map (λ e. e.1) c.self.inside.by_session.entries) c.values.ensures.rest) (λ x b q k. search rules)))
    (any_held c.self.inside.by_session.entries c.args.self.now c.self.view_is)

use Rattle.std.proofs.Common.{map, sym, subst, ap, ◌∙◌}
use Rattle.std.proofs.lemmas.Bool.{leb-true}
use Rattle.rs_facts.specs.Spans.{seen}
use Rattle.rs_exec.specs.Given.{AreGiven}
use Rattle.rs_exec.specs.declared.source.Part.{Part}
use Rattle.rs_answers.proofs.Narrowing.{nothing-within, given-within, narrowed-later}
use Rattle.rs_answers.proofs.within.WithinSource.spans.Goals as goal

pub returns-then-is_empty-clause-gives : goal.returns-then-is_empty-clause-gives
returns-then-is_empty-clause-gives g c =
    nothing-within c.args.self.now.from c.args.self.now.to c.kept_of-kept.result.from c.kept_of-kept.result.to c.args.part c.kept_of-kept.ensures
    g.S.Source.is c.args.self.now.source.now c.args.asked.now (map seen c.new.result.items) (leb-true _ _ (sym c.is_empty.ensures ∙ c.if-is_empty.true)) (ap (map seen) c.new.ensures.items)

pub returns-in_err-spans-clause-stays : goal.returns-in_err-spans-clause-stays
returns-in_err-spans-clause-stays g c =
    narrowed-later g.S.Source.is c.args.self.now.source.now c.spans.new.self c.args.self.now.from c.args.self.now.to c.spans.ensures.stays

pub returns-clause-gives : goal.returns-clause-gives
returns-clause-gives g c =
    given-within c.args.self.now.from c.args.self.now.to c.kept_of-kept.result.from c.kept_of-kept.result.to c.args.part c.kept_of-kept.ensures
    g.S.Source.is c.args.self.now.source.now c.args.asked.now (map seen c.in_ok-spans.spans.items) (map seen c.cut.new.spans.items)
    (subst (λ (part : Part). AreGiven (g.S.Source.is c.args.self.now.source.now) c.args.asked.now part (map seen c.in_ok-spans.spans.items)) c.as_part.ensures c.in_ok-spans.ensures.gives)
    c.cut.ensures.means c.cut.ensures.placed c.cut.ensures.width c.cut.ensures.joined

pub returns-clause-stays : goal.returns-clause-stays
returns-clause-stays g c =
    narrowed-later g.S.Source.is c.args.self.now.source.now c.spans.new.self c.args.self.now.from c.args.self.now.to c.spans.ensures.stays

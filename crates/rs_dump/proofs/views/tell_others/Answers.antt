-- One view after the other.
use Rattle.std.proofs.Common.{◌∙◌, ap, is_some, refl, subst, sym}
use Rattle.std.proofs.lemmas.Bool.{false≢true}
use Rattle.std.specs.List.{AllByRecursion}
use Rattle.std.specs.Prelude.{Contains}
use Rattle.rs_catalog.specs.Definitions.{ViewItem}
use Rattle.rs_catalog.specs.Names.{entries_by_bytes}
use Rattle.rs_catalog.proofs.Names.{each_entry}
use Rattle.rs_dump.specs.Views.{names_of}
use Rattle.rs_dump_laws.specs.Parts.{IsUnder}
use Rattle.rs_facts.specs.Fact.{Name}
use Rattle.rs_dump.proofs.Viewed.{of_each_view}
use Rattle.rs_dump.proofs.views.tell_others.Goals as goal

pub loop-name-init : goal.loop-name-init
loop-name-init g c = record {
  under = subst (AllByRecursion (IsUnder c.args.catalog.now.views))
      (sym (ap (entries_by_bytes (λ view. view)) c.into_iter-name-iterator.ensures.into_iter_gives ∙ c.views-name-items.ensures)) (each_entry c.args.catalog.now.views);
  views = λ is all.
      subst (AllByRecursion (λ (entry : Name × ViewItem). Contains (names_of c.args.sorted.now.written.items) entry.0))
      (ap (entries_by_bytes (λ view. view)) c.into_iter-name-iterator.ensures.into_iter_gives ∙ c.views-name-items.ensures) all;
  lacking = λ is. absurd (false≢true is);
  quiet = λ is. refl;
}

pub loop-name-preserved-then-tell_missing : goal.loop-name-preserved-then-tell_missing
loop-name-preserved-then-tell_missing g c =
    let next = ap (entries_by_bytes (λ view. view)) c.in-Some.ensures.steps in
    let under = subst (AllByRecursion (IsUnder c.args.catalog.now.views)) next c.loop-name.invariant.under in record {
      under = under.1;
      views = λ is. absurd (false≢true (sym is));
      lacking = λ is. record { name = c.in-Some.name.now.bytes; there = ap is_some under.0; missing = c.tell_missing.ensures.missing c.if-tell_missing.true };
      quiet = λ is. absurd (false≢true (sym is));
    }

pub returns-clause-views : goal.returns-clause-views
returns-clause-views g c = λ is. record {
  each = of_each_view (λ (name : Name). Contains (names_of c.args.sorted.now.written.items) name) c.args.catalog.now.views
      (c.loop-name.invariant.views is
      (subst (AllByRecursion (λ (entry : Name × ViewItem). Contains (names_of c.args.sorted.now.written.items) entry.0))
      (ap (entries_by_bytes (λ view. view)) (sym c.in-None.ensures.steps.0)) tt));
}

-- One view after the other.
use Rattle.std.proofs.Common.{◌≡◌, ◌∙◌, true, ap, is_some, refl, subst, sym}
use Rattle.std.specs.List.{AllByRecursion}
use Rattle.std.specs.Prelude.{Contains}
use Rattle.rs_catalog.specs.Definitions.{ViewItem}
use Rattle.rs_catalog.specs.Names.{entries_by_bytes}
use Rattle.rs_catalog.proofs.Names.{each_entry}
use Rattle.rs_dump.specs.Views.{names_of}
use Rattle.rs_dump_laws.specs.Parts.{IsUnder}
use Rattle.rs_facts.specs.Fact.{Name}
use Rattle.rs_machine.specs.Opening.{names_query}
use Rattle.rs_syntax.specs.QueryView.{query_tree}
use Rattle.rs_dump.proofs.Viewed.{of_each_view}
use Rattle.rs_dump.proofs.views.names_written.Goals as goal

pub loop-name-init : goal.loop-name-init
loop-name-init c =
    let views = c.args.catalog.now.views in
    let same = ap (entries_by_bytes (λ view. view)) c.into_iter-name-iterator.ensures.into_iter_gives ∙ c.views-name-items.ensures in record {
      under = subst (AllByRecursion (IsUnder views)) (sym same) (each_entry views);
      written = λ all. subst (AllByRecursion (λ (entry : Name × ViewItem). names_query entry.0 (query_tree c.args.query.now) ≡ true → Contains (names_of c.args.written.now) entry.0)) same all;
    }

pub loop-name-preserved : goal.loop-name-preserved
loop-name-preserved c =
    let next = ap (entries_by_bytes (λ view. view)) c.in-Some.ensures.steps in record {
      under = (subst (AllByRecursion (IsUnder c.args.catalog.now.views)) next c.loop-name.invariant.under).1;
      written = λ all.
          c.loop-name.invariant.written
          (subst (AllByRecursion (λ (entry : Name × ViewItem). names_query entry.0 (query_tree c.args.query.now) ≡ true → Contains (names_of c.args.written.now) entry.0)) (sym next)
          (c.if-names_unwritten.ensures.written refl, all));
    }

pub returns-then-names_unwritten-clause-unwritten : goal.returns-then-names_unwritten-clause-unwritten
returns-then-names_unwritten-clause-unwritten c = λ is. record {
  other = c.in-Some.name.now.bytes;
  there = ap is_some (subst (AllByRecursion (IsUnder c.args.catalog.now.views)) (ap (entries_by_bytes (λ view. view)) c.in-Some.ensures.steps) c.loop-name.invariant.under).0;
  named = c.names_unwritten.ensures.named c.if-names_unwritten.true;
  missing = c.names_unwritten.ensures.missing c.if-names_unwritten.true;
}

pub returns-clause-written : goal.returns-clause-written
returns-clause-written c = λ is other there named.
    of_each_view (λ (name : Name). names_query name (query_tree c.args.query.now) ≡ true → Contains (names_of c.args.written.now) name) c.args.catalog.now.views
    (c.loop-name.invariant.written
    (subst (AllByRecursion (λ (entry : Name × ViewItem). names_query entry.0 (query_tree c.args.query.now) ≡ true → Contains (names_of c.args.written.now) entry.0))
    (ap (entries_by_bytes (λ view. view)) (sym c.in-None.ensures.steps.0)) tt)) other there named

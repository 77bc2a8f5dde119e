-- The one that is found is there.
use Rattle.std.proofs.Common.{◌∙◌, subst, sym}
use Rattle.std.specs.Prelude.{Contains}
use Rattle.rs_dump.specs.Views.{refused_names}
use Rattle.rs_dump.specs.declared.views.LeftOut.{LeftOut}
use Rattle.rs_facts.specs.Fact.{Name}
use Rattle.rs_dump.proofs.Entries.{same_name}
use Rattle.rs_dump.proofs.Viewed.{read_there}
use Rattle.rs_dump.proofs.views.refusal_of.Goals as goal

pub returns-then-is_same : goal.returns-then-is_same
returns-then-is_same c =
    let view = c.view-item.result in
    subst (λ (name : Name). Contains (refused_names c.args.refused.now) name) (sym (same_name c.args.name.now.bytes view.name.bytes (sym c.is_same.ensures ∙ c.if-is_same.true)))
    (read_there (λ (view : LeftOut). view.name.bytes) c.args.refused.now c.loop-view.view-index view c.loop-view-test.true c.view-item.is)

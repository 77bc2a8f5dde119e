use Rattle.std.proofs.Common.{sym, ap, subst, ◌∙◌}
use Rattle.std.proofs.lemmas.Result.{on_ok_weaker}
use Rattle.std.specs.FinMap as names
use Rattle.rs_facts.specs.WellFormed.{ArePiecesOn}
use Rattle.rs_catalog.specs.Definitions.{Definitions, routes_of, pieces_of}
use Rattle.rs_catalog.proofs.DefinitionLaws.{are_definitions-tried}
use Rattle.rs_catalog.proofs.catalog.Catalog.define_alignment.Goals as goal

pub invariant_of-self : goal.invariant_of-self
invariant_of-self c =
    are_definitions-tried c.define.result _ c.args.name.bytes (pieces_of c.args.pieces.items) c.define.new.self c.self.invariant
    (subst (λ (d : Definitions). ArePiecesOn (routes_of d) (pieces_of c.args.pieces.items)) (sym c.self.view_is) c.requires)
    (on_ok_weaker c.define.result (λ e. e ∙ ap (names.insert c.self.inside.alignments c.args.name.bytes) c.new.ensures) c.define.ensures.ok)
    c.define.ensures.err

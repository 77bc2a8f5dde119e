use Rattle.std.proofs.Common.{◌∙◌, sym}
use Rattle.std.proofs.lemmas.Bool.{false≢true}
use Rattle.rs_csv.proofs.Meeting.{met_nothing}
use Rattle.rs_csv.proofs.routes.no_extents.Goals as goal

pub returns-then-not-defines_routes : goal.returns-then-not-defines_routes
returns-then-not-defines_routes c = λ on. absurd (false≢true (sym c.if-not-defines_routes.true ∙ on))

pub returns : goal.returns
returns c = λ on. met_nothing c.new.result c.new.ensures

-- The lines of a query are those of the query that was checked.
use Rattle.rs_server.proofs.shown.ShownShapes.shape.Goals as goal

pub returns-clause-shape : goal.returns-clause-shape
returns-clause-shape g c = λ machine is.
    let known = c.in_ok-checked.ensures.is machine is.is in
    record { query = _; is = known.is; kind_is = known.kind; columns_are = known.columns }

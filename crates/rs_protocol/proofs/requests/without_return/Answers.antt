use Rattle.rs_protocol.proofs.Texts.{without_return-dropped, without_return-kept}
use Rattle.rs_protocol.proofs.requests.without_return.Goals as goal

pub returns-then-last-eq-CARRIAGE_RETURN : goal.returns-then-last-eq-CARRIAGE_RETURN
returns-then-last-eq-CARRIAGE_RETURN c = without_return-dropped _ _ _ c.in-Some.ensures.cases.0 c.if-last-eq-CARRIAGE_RETURN.true

pub returns-else-last-eq-CARRIAGE_RETURN : goal.returns-else-last-eq-CARRIAGE_RETURN
returns-else-last-eq-CARRIAGE_RETURN c = without_return-kept _ _ _ c.in-Some.ensures.cases.0 c.if-last-eq-CARRIAGE_RETURN.false

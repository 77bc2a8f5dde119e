-- Its state is that of its parts.
use Rattle.rs_engine.proofs.engine.laws.machine_is_the_only_one.Goals as goal

pub returns : goal.returns
returns g c = λ engine machine is. record { is = is; seen = c.stores_have_their_laws.ensures.state engine.oldest engine.store is.state is.stands }

-- The state of a store, and what live versions are shown after a change.
use Rattle.rs_engine.proofs.SeenLater.{seen_later}
use Rattle.rs_engine.proofs.engine.laws.stores_have_their_laws.Goals as goal

pub returns : goal.returns
returns g c = record {
  state = c.store_stands_in_one_state.ensures.state;
  live = seen_later g.D.Disk c.version_that_sees_the_same_has_the_same_world.ensures.facts c.version_that_sees_the_same_has_the_same_world.ensures.names;
}

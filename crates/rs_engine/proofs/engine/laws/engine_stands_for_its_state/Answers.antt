-- What the store shows is what its state has.
use Rattle.rs_engine.proofs.Present.{seen_now, stands_at}
use Rattle.rs_engine.proofs.engine.laws.engine_stands_for_its_state.Goals as goal

pub returns : goal.returns
returns g c = record {
  state = λ engine machine is.
      stands_at g.D.Disk c.stores_have_their_laws.ensures engine machine is c.store_stands_in_one_state.ensures.one c.store_shows_the_facts_of_its_state.ensures.shows
      c.store_shows_the_facts_of_its_state.ensures.facts c.store_shows_the_facts_of_its_state.ensures.ends;
  seen = λ engine machine is.
      seen_now g.D.Disk c.stores_have_their_laws.ensures engine machine is c.store_stands_in_one_state.ensures.one c.store_shows_the_facts_of_its_state.ensures.shows
      c.store_shows_the_facts_of_its_state.ensures.facts c.store_shows_the_facts_of_its_state.ensures.ends;
}

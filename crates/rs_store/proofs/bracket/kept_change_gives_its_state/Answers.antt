-- What the laws say of the contents, and what is kept of them.
use Rattle.rs_store.proofs.Settled.{has_become}
use Rattle.rs_store.proofs.bracket.kept_change_gives_its_state.Goals as goal

pub returns : goal.returns
returns g c = λ old first between last file changed settled catalog now referents held begun below kept from oldest state next stands low high part completes gives views.
    has_become g.D.Disk old first between last file changed settled catalog referents begun below
    c.meant_contents_stay_meant.ensures.says c.meant_contents_stay_meant.ensures.same c.contents_have_one_state.ensures.same
    c.live_versions_see_their_events.ensures.unchanged c.live_versions_see_their_referents.ensures.unchanged
    c.live_versions_see_the_same.ensures.records c.live_versions_see_the_same.ensures.joined kept
    c.completed_change_has_its_state.ensures from oldest state next now held stands low high part completes gives views

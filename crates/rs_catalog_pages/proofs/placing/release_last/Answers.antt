-- The last page is released, or why it isn't.
use Rattle.std.proofs.lemmas.Result.{on_ok_weaker}
use Rattle.rs_catalog_pages.specs.Storing.{AreNotOwn}
use Rattle.rs_catalog_pages.proofs.Fronts.{kept_popped}
use Rattle.rs_catalog_pages.proofs.Moving.{released, not_released-not_own}
use Rattle.rs_catalog_pages.proofs.Room.{released_none, released_room}
use Rattle.rs_page_owners.proofs.Working.{release-works}
use Rattle.rs_catalog_pages.proofs.placing.release_last.Goals as goal

pub returns-in-Some-clause-works : goal.returns-in-Some-clause-works
returns-in-Some-clause-works g c =
    release-works (g.P.Pages.is_tied c.args.pages.now) (g.P.Pages.is_tied c.args.pages.now → AreNotOwn (g.P.Pages.store c.args.pages.now).map c.args.numbers.now.items) c.in-Some.number c.release.result
    (g.P.Pages.store c.args.pages.now) (g.P.Pages.store c.release.new.self)
    (λ refused tied. not_released-not_own (g.P.Pages.is_tied c.args.pages.now) tied (g.P.Pages.store c.args.pages.now).map c.in-Some.number c.pop.new.self.items c.args.numbers.now.items c.in-Some.ensures.items refused)
    c.release.ensures.releases c.release.ensures.rests c.release.ensures.refused

pub returns-in-Some-clause-moves : goal.returns-in-Some-clause-moves
returns-in-Some-clause-moves g c = λ tied.
    on_ok_weaker c.release.result
    (λ releases. released (g.P.Pages.is_tied c.args.pages.now) tied (g.P.Pages.store c.args.pages.now) (g.P.Pages.store c.release.new.self) c.in-Some.number c.pop.new.self.items c.args.numbers.now.items c.in-Some.ensures.items releases)
    c.release.ensures.releases

pub returns-in-Some-clause-kept : goal.returns-in-Some-clause-kept
returns-in-Some-clause-kept g c = on_ok_weaker c.release.result (λ releases. kept_popped c.in-Some.number c.pop.new.self.items c.args.numbers.now.items c.in-Some.ensures.items) c.release.ensures.releases

pub returns-in-Some-clause-as_many : goal.returns-in-Some-clause-as_many
returns-in-Some-clause-as_many g c =
    released_none (g.P.Pages.is_tied c.args.pages.now) c.in-Some.number c.release.result (g.P.Pages.store c.args.pages.now) (g.P.Pages.store c.release.new.self) c.release.ensures.releases c.release.ensures.rests

pub returns-in-Some-clause-room : goal.returns-in-Some-clause-room
returns-in-Some-clause-room g c =
    released_room (g.P.Pages.is_tied c.args.pages.now) c.in-Some.number c.release.result (g.P.Pages.store c.args.pages.now) (g.P.Pages.store c.release.new.self) c.release.ensures.refused

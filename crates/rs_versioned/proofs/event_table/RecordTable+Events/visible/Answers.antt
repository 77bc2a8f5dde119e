-- The events of the cells that were found, as far as the version sees them.
use Rattle.std.proofs.Common.{◌≡◌, ℕ, List, filter, subst, sym, ◌∙◌}
use Rattle.std.specs.List.{AllZip}
use Rattle.rs_records.specs.Listed.{listed}
use Rattle.rs_versioned.specs.Events.{SaysEvent, event_width, is_visible}
use Rattle.rs_versioned.proofs.Overlapping.{overlapping_seen}
use Rattle.rs_versioned.proofs.event_table.RecordTable+Events.visible.Goals as goal

pub returns-in-Ok-clause-found : goal.returns-in-Ok-clause-found
returns-in-Ok-clause-found g c = λ tied events used accepted holds.
    let old = (g.P.Pages.store c.args.pages.now).map in
    let types = c.args.self.now.types in
    let width : ℕ = c.new-layout.result.width in
    let found = listed c.in_ok-found.found in
    let wide : width ≡ event_width types = c.new-layout.ensures.width ∙ c.width.ensures.width in
    subst (λ (cells : List (List ℕ)). AllZip (SaysEvent types) cells (filter (is_visible c.args.version c.args.route c.args.a c.args.b) events)) (sym c.in-Ok.ensures.seen)
    (overlapping_seen types width c.root.result c.in_ok-found._reads c.args.version c.args.route c.args.a c.args.b accepted old c.args.self.now.working found events used wide c.root.ensures
    (c.in_ok-found.ensures.found tied) holds)

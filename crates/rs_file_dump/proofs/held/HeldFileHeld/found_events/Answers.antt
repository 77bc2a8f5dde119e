-- What was found says the spans that are shown, and reading it leaves all as it was.
use Rattle.std.proofs.Common.{◌≡◌, ◌∙◌, IfOk, List, ap, rules, subst, sym}
use Rattle.rs_facts.specs.Runs.{Stretch}
use Rattle.rs_file_dump.proofs.Files.{shown_on}
use Rattle.rs_file_dump.specs.Files.{whole_route}
use Rattle.rs_file_meaning.specs.Seen.{events_of}
use Rattle.rs_store_source.proofs.Passing.{wants_counted}
use Rattle.rs_table_reads.specs.Events.{SaysSpans}
use Rattle.rs_table_reads.specs.Read.{spans_in}
use Rattle.rs_table_reads.specs.declared.window.RouteWindow.{RouteWindow}
use Rattle.rs_file_dump.proofs.held.HeldFileHeld.found_events.Goals as goal

pub returns-clause-shows : goal.returns-clause-shows
returns-clause-shows g c = shown_on g.D.Disk c.args.self.now.store c.found_events.new.self c.found_events.ensures.reads

pub returns-clause-wants : goal.returns-clause-wants
returns-clause-wants g c =
    wants_counted g.D.Disk c.found_events.result c.args.self.now.store c.found_events.new.self c.found_events.ensures.refused c.found_events.ensures.count
    (λ damaged. record { none = λ oldest state stands. c.found_events.ensures.sound stands.contents stands.keeps damaged })

pub returns-clause-says : goal.returns-clause-says
returns-clause-says g c = λ shown shows.
    let table = c.args.table.now in
    let number = c.args.route.now.route.number in
    let events = events_of shows.stands.contents table.number in
    let window : c.whole_route-window.result ≡ whole_route table.kind c.args.self.now.store.file.accepted number = search rules in
    let same = ap (λ (w : RouteWindow). spans_in w events) window ∙ sym (shows.spans table.number table.kind number) in
    subst (λ (spans : List Stretch). IfOk c.found_events.result (λ found. SaysSpans found spans)) same
    (c.found_events.ensures.says shows.stands.contents shows.stands.keeps)

-- A page that is no link of a free list is no free page.
use Rattle.std.proofs.Common.{◌≡◌, Some, rules}
use Rattle.rs_pages.specs.PageMap.{PageMap}
use Rattle.rs_pages.specs.Plain.{listed_page}
use Rattle.rs_pages.proofs.PlainStore.{listed-read, free_has_link}
use Rattle.rs_pages.proofs.plain.PlainPages.free_after.Goals as goal

pub returns-in-None-clause-none : goal.returns-in-None-clause-none
returns-in-None-clause-none c = λ next free.
    let map : PageMap = record { fields = c.args.self.now.fields; page = listed_page c.args.self.now.pages.items } in
    let there : listed_page c.args.self.now.pages.items c.args.number ≡ Some c.index.result.now.bytes =
    listed-read c.args.self.now.pages.items c.args.self.now.pages.len c.args.number c.number-index.result c.index.result.now c.number-index.ensures c.if-index-eq0.false
    c.args.self.now.pages.ok.0 (search rules) (search rules) in
    c.in-None.ensures.none next (free_has_link map c.args.number next c.index.result.now.bytes there free)

-- Page 0 as it is shown.
use Rattle.std.proofs.Common.{◌≡◌, ◌/◌, ◌-◌, ◌^◌, ℕ, List, length, is_err, false, min, IsTrue, ap, sym, subst, ◌∙◌, rules}
use Rattle.rs_disk.specs.Content.{Content}
use Rattle.rs_page.specs.declared.page.TheConstants.{PAGE_SIZE}
use Rattle.rs_page_cache.specs.Stored.{disk_page}
use Rattle.rs_journal.specs.Look.{shown}
use Rattle.rs_pager.specs.SecondHeader.{IsSecondHeader}
use Rattle.rs_pager.proofs.Opened.{first-page, long_enough, of-ok, tells_all}
use Rattle.rs_pager.proofs.opening.check_shown.Goals as goal

pub returns-in-Some-clause-fits : goal.returns-in-Some-clause-fits
returns-in-Some-clause-fits g c = λ honest.
    let content = shown (g.D.Disk.seen c.args.look.now.disk) in
    let fields = c.in-Some.field-0 in
    let found = c.in-Some.ensures.found in
    let done : is_err c.read.result ≡ false = search rules in
    let size : length c.read.new.buffer ≡ 4096 = search rules in
    let page : c.read.new.buffer ≡ disk_page content 0 = first-page content c.read.new.buffer size (of-ok c.read.result done (c.read.ensures.bytes honest)) in
    let still : IsTrue (g.D.Disk.is_honest c.read.new.self.disk) = subst IsTrue (sym c.read.ensures.reads.honesty) honest in
    let same = ap (λ (content : Content). content.size) (c.read.ensures.reads.reads honest) in
    let told : c.pages.result ≡ min (content.size / PAGE_SIZE) (2 ^ 32 - 1) = c.pages.ensures still ∙ ap (λ (size : ℕ). min (size / PAGE_SIZE) (2 ^ 32 - 1)) same in (
      fields,
      record {
        header = subst (λ (p : List ℕ). IsSecondHeader p fields) page found.0;
        least = found.1;
        within = found.2;
        room = long_enough fields.pages content.size c.pages.result told found.3;
      },
    )

pub returns-in-None-clause-damaged : goal.returns-in-None-clause-damaged
returns-in-None-clause-damaged g c = λ honest _ fields fits.
    let content = shown (g.D.Disk.seen c.args.look.now.disk) in
    let done : is_err c.read.result ≡ false = search rules in
    let size : length c.read.new.buffer ≡ 4096 = search rules in
    let page : c.read.new.buffer ≡ disk_page content 0 = first-page content c.read.new.buffer size (of-ok c.read.result done (c.read.ensures.bytes honest)) in
    let still : IsTrue (g.D.Disk.is_honest c.read.new.self.disk) = subst IsTrue (sym c.read.ensures.reads.honesty) honest in
    let same = ap (λ (content : Content). content.size) (c.read.ensures.reads.reads honest) in
    let told : c.pages.result ≡ min (content.size / PAGE_SIZE) (2 ^ 32 - 1) = c.pages.ensures still ∙ ap (λ (size : ℕ). min (size / PAGE_SIZE) (2 ^ 32 - 1)) same in
    c.in-None.ensures.none fields (subst (λ (p : List ℕ). IsSecondHeader p fields) (sym page) fits.header) fits.least fits.within
    (tells_all fields.pages c.args.limit content.size c.pages.result fits.within c.requires fits.room told)

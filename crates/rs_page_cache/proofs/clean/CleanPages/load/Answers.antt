-- The page that was read is the disk's, and the others were held before.
use Rattle.std.proofs.Common.{◌≡◌, ◌*◌, length, Contains, subst, refl, arith, rules}
use Rattle.rs_disk.specs.Content.{Gives}
use Rattle.rs_page.specs.declared.page.TheConstants.{PAGE_SIZE}
use Rattle.rs_page_cache.specs.Clean.{Clean, kept_pages}
use Rattle.rs_page_cache.specs.Stored.{disk_page}
use Rattle.rs_page_cache.proofs.CleanLists.{read-loads, stays-loads, in-all}
use Rattle.rs_page_cache.proofs.DiskPages.{read-page}
use Rattle.rs_page_cache.proofs.clean.CleanPages.load.Goals as goal

pub returns-in_err-map_err-clause-loads : goal.returns-in_err-map_err-clause-loads
returns-in_err-map_err-clause-loads g c = λ honest.
    stays-loads c.args.number _ c.args.self.now (kept_pages c.self.inside.kept.entries)
    (λ e there. c.promote.ensures.pages e (c.keep_spare.ensures.pages e
    (subst (λ (all : Clean). Contains all e) c.self.view_is (in-all c.self.inside.spare_number c.self.inside.spare (kept_pages c.self.inside.kept.entries) e there))))

pub returns-clause-loads : goal.returns-clause-loads
returns-clause-loads g c = λ honest.
    let content = g.D.Disk.seen c.args.disk.now in
    let size : length c.read.new.buffer ≡ PAGE_SIZE = search rules in
    let from : c.from.result ≡ c.args.number = search rules in
    let at : c.from.result * 4096 ≡ PAGE_SIZE * c.args.number = omega (arith, from) in
    let gives : Gives content (c.from.result * 4096) c.read.new.buffer = search rules in
    read-loads c.args.number c.read.new.buffer (λ page. page ≡ disk_page content c.args.number) c.args.self.now (kept_pages c.self.inside.kept.entries)
    (read-page content c.args.number PAGE_SIZE (c.from.result * 4096) c.read.new.buffer refl size at gives)
    (λ e there. c.promote.ensures.pages e (c.keep_spare.ensures.pages e
    (subst (λ (all : Clean). Contains all e) c.self.view_is (in-all c.self.inside.spare_number c.self.inside.spare (kept_pages c.self.inside.kept.entries) e there))))

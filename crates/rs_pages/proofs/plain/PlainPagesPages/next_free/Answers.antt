-- What a free page says on any disk, and that nothing is read.
use Rattle.std.proofs.Common.{◌<◌}
use Rattle.std.proofs.lemmas.Result.{IfOk-weaker}
use Rattle.rs_page.specs.Follow.{MayFollow}
use Rattle.rs_pages.specs.FreeList.{IsFreePage}
use Rattle.rs_pages.specs.Plain.{plain_store}
use Rattle.rs_pages.proofs.plain.PlainPagesPages.next_free.Goals as goal

pub returns-clause-range : goal.returns-clause-range
returns-clause-range c = IfOk-weaker c.free_after.result (IsFreePage (plain_store c.args.self.now).map c.args.number) (λ _. (1 < c.args.number) × (c.args.number < (plain_store c.args.self.now).map.fields.pages))
    (λ next free. (free.link.fits.1.0, free.below)) c.free_after.ensures.free

pub returns-clause-follows : goal.returns-clause-follows
returns-clause-follows c = IfOk-weaker c.free_after.result (IsFreePage (plain_store c.args.self.now).map c.args.number) (λ next. MayFollow next (plain_store c.args.self.now).map.fields.pages)
    (λ next free. free.link.fits.1.2) c.free_after.ensures.free

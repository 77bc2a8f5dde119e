-- The page that is lent is the working page with this number.
use Rattle.std.proofs.Common.{◌≡◌, subst}
use Rattle.std.proofs.lemmas.Result.{IfOk-weaker}
use Rattle.rs_refusal.specs.declared.refusal.Refusal.TheVariants as refusal
use Rattle.rs_page_marks.specs.Marks.{taken}
use Rattle.rs_catalog_pages.specs.Parts.{HasNoPart, AppendsPart, ReadsPart}
use Rattle.rs_catalog_pages.proofs.Parts.{no_fit-no_part, page-no_part, appends-reads}
use Rattle.rs_catalog_pages.proofs.chain.read_part.Goals as goal

pub returns-in-Ok-clause-reads : goal.returns-in-Ok-clause-reads
returns-in-Ok-clause-reads g c =
    let lends = c.in-Ok.ensures.lends in
    λ tied. IfOk-weaker c.append_part.result
    (λ next. AppendsPart c.in-Ok.page.now.bytes c.args.number next c.count-count.result c.args.left c.args.bytes.now.items c.append_part.new.bytes.items)
    (λ next. ReadsPart (g.P.Pages.store c.args.pages.now).map c.args.number next c.args.left c.args.bytes.now.items c.append_part.new.bytes.items)
    (λ next appends.
    appends-reads (g.P.Pages.store c.args.pages.now).map c.args.number next c.args.left c.in-Ok.page.now.bytes c.args.bytes.now.items c.append_part.new.bytes.items (lends.bytes tied) lends.size lends.below
    (subst (λ n. AppendsPart c.in-Ok.page.now.bytes c.args.number next n c.args.left c.args.bytes.now.items c.append_part.new.bytes.items) c.count-count.ensures.count appends))
    c.append_part.ensures.appended

pub returns-in-Ok-clause-damaged : goal.returns-in-Ok-clause-damaged
returns-in-Ok-clause-damaged g c = λ is tied.
    page-no_part (g.P.Pages.store c.args.pages.now).map c.args.number c.args.left (taken c.args.reached.now) c.in-Ok.page.now.bytes (c.in-Ok.ensures.lends.bytes tied)
    (subst (λ n. HasNoPart c.in-Ok.page.now.bytes c.args.number n c.args.left) c.count-count.ensures.count (c.append_part.ensures.none is))

pub returns-in-Err-clause-damaged : goal.returns-in-Err-clause-damaged
returns-in-Err-clause-damaged g c = λ is tied.
    let why : c.in-Err.refusal ≡ refusal.DamagedFile = cc (is) in
    no_fit-no_part (g.P.Pages.store c.args.pages.now).map c.args.number c.args.left (taken c.args.reached.now) (c.in-Err.ensures.refused.damaged tied why)

-- A page in use becomes the first of the free list.
use Rattle.std.proofs.Common.{◌≡◌, ◌<◌, ◌+◌, ◌∙◌, ℕ, Some, length, get_or, slice_get, subst, sym, arith}
use Rattle.std.specs.Prelude.{⊤}
use Rattle.std.proofs.Math.ListN.{set}
use Rattle.std.proofs.lemmas.Option.{slice_get-get_or}
use Rattle.rs_page.specs.declared.page.Page.{Page}
use Rattle.rs_pages.specs.Plain.{listed_store}
use Rattle.rs_pages.specs.Uses.{ReleasesPage}
use Rattle.rs_pages.proofs.PlainStore.{released, listed, with_free}
use Rattle.rs_pages.proofs.plain.PlainPagesPages.release.Goals as goal

pub returns-clause-releases : goal.returns-clause-releases
returns-clause-releases c =
    let n = c.args.number in
    let ps = c.args.self.now.pages.items in
    let fields = c.args.self.now.fields in
    let long : c.args.self.now.pages.len ≡ length ps = c.args.self.now.pages.ok.0 in
    let room : fields.pages ≡ length ps = c.args.self.now.counted ∙ long in
    let inside : n < length ps = omega (arith, c.in_ok-index.ensures.below, long) in
    let after : 0 < n = c.in_ok-index.ensures.after in
    let past : 1 < n = omega (arith, c.if-number-eq1.false, c.number.ensures) in
    let was : Page = get_or ps n c.blank.result in
    let at : slice_get ps n ≡ Some was = slice_get-get_or ps n c.blank.result inside in
    let used = c.in_ok-index.ensures.in_use was.bytes (listed ps n was after at) in
    subst (λ (i : ℕ). ReleasesPage ⊤ n (listed_store ps fields c.args.self.now.limit c.args.self.now.full_refusals)
    (listed_store (set ps i c.blank.result) (with_free fields n (fields.free_pages + 1)) c.args.self.now.limit c.args.self.now.full_refusals))
    (sym c.in_ok-index.ensures.index)
    (released ps fields c.args.self.now.limit c.args.self.now.full_refusals n was c.blank.result past inside room at used.0 used.1 c.blank.ensures)

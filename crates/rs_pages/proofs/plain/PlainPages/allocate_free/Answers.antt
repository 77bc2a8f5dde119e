-- The first of the free list is taken from it.
use Rattle.std.proofs.Common.{◌≡◌, ◌<◌, ◌∙◌, ℕ, length, subst, sym, refl, arith, ◌-◌}
use Rattle.std.specs.Prelude.{⊤}
use Rattle.std.proofs.Math.ListN.{set}
use Rattle.std.proofs.lemmas.Result.{err_from_is_err_and}
use Rattle.rs_page.specs.PageBytes.{IsBlank}
use Rattle.rs_pages.specs.Plain.{listed_store}
use Rattle.rs_pages.specs.Uses.{AllocatesPage}
use Rattle.rs_pages.proofs.PlainStore.{free-allocated, damaged-refused, list-begins, with_free}
use Rattle.rs_pages.proofs.plain.PlainPages.allocate_free.Goals as goal

pub returns-in_err-next-clause-refused : goal.returns-in_err-next-clause-refused
returns-in_err-next-clause-refused c =
    let p = err_from_is_err_and c.from_residual.result c.from_residual.ensures.1 in
    rw (p.1, p.2) (rw c.in_err-next.ensures.refused (damaged-refused _ (λ free list.
    let begins = list-begins _ free c.requires list in c.in_err-next.ensures.none begins.0 begins.1)))

pub returns-clause-allocates : goal.returns-clause-allocates
returns-clause-allocates c =
    let first = c.args.self.now.fields.first_free in
    let room : c.args.self.now.fields.pages ≡ length c.args.self.now.pages.items = c.args.self.now.counted ∙ c.args.self.now.pages.ok.0 in
    let counted : 0 < c.args.self.now.fields.free_pages = omega arith in
    subst (λ (i : ℕ). AllocatesPage ⊤ c.args.kind first (listed_store c.args.self.now.pages.items c.args.self.now.fields c.args.self.now.limit c.args.self.now.full_refusals)
    (listed_store (set c.args.self.now.pages.items i c.blank.result) (with_free c.args.self.now.fields c.in_ok-next.next (c.args.self.now.fields.free_pages - 1)) c.args.self.now.limit c.args.self.now.full_refusals))
    (sym c.number.ensures)
    (free-allocated c.args.self.now.pages.items c.args.self.now.fields c.args.self.now.limit c.args.self.now.full_refusals c.args.kind first c.in_ok-next.next c.blank.result
    refl c.requires room c.args.self.now.within counted c.in_ok-next.ensures.free
    (subst (λ i. IsBlank c.blank.result.bytes c.args.kind first i) c.new.ensures c.blank.ensures))

-- The bytes that were written are put into a new page 1.
use Rattle.std.proofs.Common.{◌≡◌, ◌++◌, true, is_ok, length, refl, sym, ap, subst, ◌∙◌, arith}
use Rattle.rs_pages.specs.PageMap.{ReplacesPage}
use Rattle.rs_catalog_pages.specs.Directory.{SaysDirectory}
use Rattle.rs_catalog_pages.specs.Said.{said_directory}
use Rattle.rs_catalog_pages.proofs.Directories.{length-directory, stores_directory}
use Rattle.rs_catalog_pages.proofs.directory.store_directory.Goals as goal

pub put_directory-requires : goal.put_directory-requires
put_directory-requires g c =
    let written = c.in_ok-write.ensures.written in
    let whole : c.as_slice.result.now ≡ written.back = c.as_slice.ensures.value ∙ written.is ∙ ap (λ l. l ++ written.back) c.new-bytes.ensures.items in
    omega (arith, ap length whole, length-directory written.back (said_directory c.args.directory.now) written.said)

pub returns-clause-stores : goal.returns-clause-stores
returns-clause-stores g c = λ tied.
    let ok : is_ok c.page_mut.result ≡ true = rw c.in_ok-page.was refl in
    let edits = c.page_mut.follows.holds c.put_directory.new.page ok in
    let written = c.in_ok-write.ensures.written in
    let whole : c.as_slice.result.now ≡ written.back = c.as_slice.ensures.value ∙ written.is ∙ ap (λ l. l ++ written.back) c.new-bytes.ensures.items in
    stores_directory (g.P.Pages.store c.args.pages.now).map (g.P.Pages.store (c.page_mut.follows.lender c.put_directory.new.page)).map c.put_directory.new.page.bytes c.as_slice.result.now (said_directory c.args.directory.now)
    c.put_directory.ensures.size c.put_directory.ensures.header (subst (λ b. SaysDirectory b (said_directory c.args.directory.now)) (sym whole) written.said) c.put_directory.ensures.bytes
    (subst (λ n. ReplacesPage n c.put_directory.new.page.bytes (g.P.Pages.store c.args.pages.now).map (g.P.Pages.store (c.page_mut.follows.lender c.put_directory.new.page)).map) c.new.ensures (edits.edits.replaces tied))

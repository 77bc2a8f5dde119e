-- A page with another header, or with other bytes than zeros after it, is none of a free list.
use Rattle.std.proofs.Common.{◌≡◌, ap, sym, ◌∙◌, subst, false, None, rules}
use Rattle.std.proofs.lemmas.Bool.{true≢false}
use Rattle.rs_page.specs.Header.{Fits}
use Rattle.rs_page.specs.PageBytes.{empty_header}
use Rattle.rs_page.specs.declared.header.PageHeader.{PageHeader}
use Rattle.rs_page.specs.declared.header.PageKind.TheVariants.{Free}
use Rattle.rs_page.proofs.Headers.{header_is_one}
use Rattle.rs_page.proofs.page.Page.free_link.Goals.{in_default-via-in-Some+then-eq+then-fits+else-are_zeros_from, in_default-via-in-Some+then-eq+else-fits, in_default-via-in-Some+else-eq, in_default-via-in_default}
use Rattle.rs_page.proofs.page.Page.free_link.Goals as goal

pub returns-in_default-clause-none : goal.returns-in_default-clause-none
returns-in_default-clause-none c = λ next link.
    let n = c.args.number in
    let page = c.args.self.now.bytes in
    elim c.in_default.branch [
      | in_default-via-in-Some+then-eq+then-fits+else-are_zeros_from w ↦
          let other : w.are_zeros_from.result ≡ false = search rules in
          true≢false (sym (w.are_zeros_from.ensures.1 link.blank.zeros) ∙ other)
      | in_default-via-in-Some+then-eq+else-fits w ↦
          let unfit : w.fits.result ≡ false = search rules in
          let same = header_is_one page w.in-Some.header (empty_header Free n next) w.in-Some.ensures.found link.blank.header in
          let fits = subst (λ (h : PageHeader). Fits h n c.args.pages) (sym same) link.fits in
          true≢false (sym (w.fits.ensures.1 fits) ∙ unfit)
      | in_default-via-in-Some+else-eq w ↦
          let same = header_is_one page w.in-Some.header (empty_header Free n next) w.in-Some.ensures.found link.blank.header in
          let kind : w.in-Some.header.kind ≡ Free = ap (λ (h : PageHeader). h.kind) same in
          search rules
      | in_default-via-in_default w ↦
          let none : c.header.result ≡ None = search rules in
          (rw none at c.header.ensures.none) (empty_header Free n next) link.blank.header
    ]

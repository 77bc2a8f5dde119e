-- The slots are put into page 1.
use Rattle.std.proofs.Common.{◌≡◌, true, Some, is_ok, refl, subst, rules}
use Rattle.rs_file_parts.specs.Calls.{HoldsNoDirectory}
use Rattle.rs_file_parts.proofs.Slotted.{directory_rewritten}
use Rattle.rs_file_parts.proofs.Written.{no_directory}
use Rattle.rs_page_owners.specs.Calls.{Leaves}
use Rattle.rs_page_owners.proofs.Working.{works_of}
use Rattle.rs_pages.specs.PageMap.{HasNoFit, ReplacesPage}
use Rattle.rs_file_parts.proofs.slots.write_slots.Goals as goal

pub returns-in_err-page-clause-leaves : goal.returns-in_err-page-clause-leaves
returns-in_err-page-clause-leaves g c =
    let old = g.P.Pages.store c.args.pages.now in
    let leaves : Leaves {T = Unit {0}} g.P.Pages (HasNoFit old.map 1) c.from_residual.result c.args.pages.now c.page_mut.follows.lender-at-none = search rules in
    record {
      keeps = leaves.keeps;
      works = works_of (g.P.Pages.is_tied c.args.pages.now → HasNoFit old.map 1) (g.P.Pages.is_tied c.args.pages.now → HoldsNoDirectory old.map) c.from_residual.result
          old (g.P.Pages.store c.page_mut.follows.lender-at-none) (λ none tied. no_directory old.map (none tied)) leaves.works;
    }

pub returns-clause-writes : goal.returns-clause-writes
returns-clause-writes g c = λ tied.
    let old = (g.P.Pages.store c.args.pages.now).map in
    let new = (g.P.Pages.store (c.page_mut.follows.lender c.put_slots.new.page)).map in
    let ok : is_ok c.page_mut.result ≡ true = rw c.in_ok-page.was refl in
    let edits = c.page_mut.follows.holds c.put_slots.new.page ok in
    directory_rewritten old new c.args.file.now c.args.version c.in_ok-page.page.now.bytes c.put_slots.new.page.bytes c.requires.ready
    (subst (λ n. old.page n ≡ Some c.in_ok-page.page.now.bytes) c.new.ensures (c.in_ok-page.ensures.lends.bytes tied)) c.put_slots.ensures
    (subst (λ n. ReplacesPage n c.put_slots.new.page.bytes old new) c.new.ensures (edits.edits.replaces tied))

-- Whichever part has the page at its top, its page is what was lent.
use Rattle.std.proofs.Common.{Result, Err, inl, inr, rules}
use Rattle.rs_refusal.specs.declared.refusal.Refusal.{Refusal}
use Rattle.rs_pages.specs.Lending.{RestsAfter}
use Rattle.rs_tree.specs.Reading.{HasNoNode}
use Rattle.rs_tree.proofs.Loading.{no_fit-no_node, on_ok}
use Rattle.rs_tree.specs.Forms.{form_in}
use Rattle.rs_tree_edit.proofs.Saying.{part_said}
use Rattle.rs_page_owners.proofs.Working.{ReadRefusal, rests-work}
use Rattle.rs_tree_edit.proofs.entries.write_entry_of.Goals as goal

pub returns-in-Ok-clause-says : goal.returns-in-Ok-clause-says
returns-in-Ok-clause-says g c = λ tied.
    on_ok c.write_node_entry.result c.write_node_entry.ensures.says (part_said
    (form_in g.S.Summary c.args.layout) (g.P.Pages.store c.args.pages.now).map c.args.number
    c.in-Ok.page.now.bytes c.write_node_entry.new.entry (c.in-Ok.ensures.lends.bytes tied))

pub returns-in-Err-clause-works : goal.returns-in-Err-clause-works
returns-in-Err-clause-works g c =
    let map = (g.P.Pages.store c.args.pages.now).map in
    let result : Result (Unit {0}) Refusal = Err c.in-Err.refusal in
    let refused = c.in-Err.ensures.refused in
    let why : ReadRefusal (g.P.Pages.is_tied c.args.pages.now → HasNoNode map c.args.number c.args.layout) c.in-Err.refusal =
    elim refused.cause [
      | inl disk ↦ inr (inl disk)
      | inr wrong ↦ inr (inr (wrong, λ tied. no_fit-no_node map c.args.number c.args.layout (refused.damaged tied wrong)))
    ] in
    let rests : RestsAfter g.P.Pages.is_tied g.P.Pages.store g.P.Pages.keeps result c.args.pages.now c.page.follows.lender-at-none = search rules in
    rests-work g.P.Pages.is_tied g.P.Pages.store g.P.Pages.keeps (g.P.Pages.is_tied c.args.pages.now → HasNoNode map c.args.number c.args.layout) result c.args.pages.now c.page.follows.lender-at-none rests why

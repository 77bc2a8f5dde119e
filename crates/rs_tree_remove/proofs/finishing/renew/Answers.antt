-- The entry is written from the part's own page, then put into the page above.
use Rattle.std.proofs.Common.{◌∙◌, subst, inl}
use Rattle.rs_page.specs.declared.header.PageKind.TheVariants as kind
use Rattle.rs_pages.specs.PageMap.{HasNoFit}
use Rattle.rs_pages.proofs.Stores.{HasNoFit-before}
use Rattle.rs_records.specs.Records.{records}
use Rattle.rs_tree.specs.Form.{Form}
use Rattle.rs_tree.specs.Layouts.{entry_bytes}
use Rattle.rs_tree.specs.Reading.{HasNoNode}
use Rattle.rs_tree.proofs.Loading.{on_ok}
use Rattle.rs_tree.specs.Forms.{form_in}
use Rattle.rs_tree_edit.specs.Editing.{Splices}
use Rattle.rs_page_owners.proofs.Working.{works_then}
use Rattle.rs_tree_remove.specs.Finishing.{CantRenew, Renews}
use Rattle.rs_tree_remove.proofs.Written.{one_record}
use Rattle.rs_tree_remove.proofs.finishing.renew.Goals as goal

pub returns-clause-works : goal.returns-clause-works
returns-clause-works g c =
    works_then {T = Unit {0}} (g.P.Pages.is_tied c.args.pages.now → HasNoNode (g.P.Pages.store c.args.pages.now).map c.args.top c.args.layout)
    (g.P.Pages.is_tied c.args.pages.now → CantRenew (g.P.Pages.store c.args.pages.now).map c.args.inner.number c.args.top c.args.layout)
    (g.P.Pages.is_tied c.write_entry_of.new.pages → HasNoFit (g.P.Pages.store c.write_entry_of.new.pages).map c.args.inner.number) tt c.edit_page.result
    (g.P.Pages.store c.args.pages.now) (g.P.Pages.store c.write_entry_of.new.pages) (g.P.Pages.store c.edit_page.new.pages)
    (λ none tied. let later = g.met.P.Pages.keeps_tied c.args.pages.now c.write_entry_of.new.pages c.in_ok-write_entry_of.ensures.rests.below tied in
    inl (HasNoFit-before (g.P.Pages.store c.args.pages.now).map (g.P.Pages.store c.write_entry_of.new.pages).map c.args.inner.number (c.in_ok-write_entry_of.ensures.rests.rests.keeps.pages tied) (none later)))
    c.in_ok-write_entry_of.ensures.works c.edit_page.ensures.works

pub returns-clause-renews : goal.returns-clause-renews
returns-clause-renews g c = λ tied.
    let form : Form = form_in g.S.Summary c.args.layout in
    let later = g.met.P.Pages.keeps_tied c.args.pages.now c.write_entry_of.new.pages c.in_ok-write_entry_of.ensures.rests.below tied in
    on_ok {Q = Renews form (g.P.Pages.store c.args.pages.now).map (g.P.Pages.store c.edit_page.new.pages).map c.args.inner.number c.args.inner.count c.args.stretch.at c.args.stretch.removed c.args.top} c.edit_page.result (c.edit_page.ensures.edited later) (λ splices. record {
      entry = c.write_entry_of.new.entry;
      says = c.in_ok-write_entry_of.ensures.says tied;
      mid = (g.P.Pages.store c.write_entry_of.new.pages).map;
      same = c.in_ok-write_entry_of.ensures.rests.rests.keeps.pages tied;
      splices = subst (λ rs. Splices (g.P.Pages.store c.write_entry_of.new.pages).map (g.P.Pages.store c.edit_page.new.pages).map c.args.inner.number kind.Inner (entry_bytes c.args.layout) c.args.inner.count c.args.stretch.at c.args.stretch.removed rs)
          (one_record (entry_bytes c.args.layout) c.write_entry_of.new.entry (c.write_entry_of.auto.entry ∙ c.requires.entry))
          (subst (λ w. Splices (g.P.Pages.store c.write_entry_of.new.pages).map (g.P.Pages.store c.edit_page.new.pages).map c.args.inner.number kind.Inner w c.args.inner.count c.args.stretch.at c.args.stretch.removed (records 1 w c.write_entry_of.new.entry)) c.entry_width.ensures.width splices);
    })

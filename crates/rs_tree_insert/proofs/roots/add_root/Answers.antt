-- The entries first, then the page above.
use Rattle.std.proofs.Common.{◌⊎◌, inr}
use Rattle.rs_records.specs.Records.{records}
use Rattle.rs_tree.specs.Form.{Form}
use Rattle.rs_tree.specs.Layouts.{entry_bytes}
use Rattle.rs_tree.specs.Forms.{form_in}
use Rattle.rs_tree_edit.specs.Editing.{HasNoFreeList}
use Rattle.rs_page_owners.proofs.Working.{works_then}
use Rattle.rs_tree_insert.specs.Inserting.{HasNoTops, tops}
use Rattle.rs_tree_insert.specs.declared.answer.Put.TheVariants.{Split}
use Rattle.rs_tree_insert.proofs.Halves.{if_ok}
use Rattle.rs_tree_insert.proofs.Tops.{list_before, adds_entries}
use Rattle.rs_tree_insert.proofs.roots.add_root.Goals as goal

pub returns-clause-works : goal.returns-clause-works
returns-clause-works g c =
    let form : Form = form_in g.S.Summary c.args.layout in
    let old = (g.P.Pages.store c.args.pages.now).map in
    let mid = (g.P.Pages.store c.write_entries.new.pages).map in
    works_then (g.P.Pages.is_tied c.args.pages.now → HasNoTops form old (tops c.args.first (Split c.args.second)))
    (g.P.Pages.is_tied c.args.pages.now → HasNoTops form old (tops c.args.first (Split c.args.second)) ⊎ HasNoFreeList old)
    (g.P.Pages.is_tied c.write_entries.new.pages → HasNoFreeList mid)
    c.in_ok-more.more c.add_page.result (g.P.Pages.store c.args.pages.now) (g.P.Pages.store c.write_entries.new.pages) (g.P.Pages.store c.add_page.new.pages)
    (λ broken tied. inr (list_before old mid (c.in_ok-more.ensures.rests.rests.keeps.pages tied)
    (broken (g.met.P.Pages.keeps_tied c.args.pages.now c.write_entries.new.pages c.in_ok-more.ensures.rests.below tied))))
    c.in_ok-more.ensures.works c.add_page.ensures.works

pub returns-clause-above : goal.returns-clause-above
returns-clause-above g c = λ tied.
    let mid = (g.P.Pages.store c.write_entries.new.pages).map in
    let later = g.met.P.Pages.keeps_tied c.args.pages.now c.write_entries.new.pages c.in_ok-more.ensures.rests.below tied in
    if_ok c.add_page.result (c.add_page.ensures.added later) (λ root adds. record {
      mid = mid;
      same = c.in_ok-more.ensures.rests.rests.keeps.pages tied;
      entries = records c.in_ok-more.more (entry_bytes c.args.layout) c.write_entries.new.entries;
      says = c.in_ok-more.ensures.says tied;
      adds = adds_entries mid (g.P.Pages.store c.add_page.new.pages).map root c.entry_width-width.result (entry_bytes c.args.layout) c.in_ok-more.more c.write_entries.new.entries c.entry_width-width.ensures.width adds;
    })

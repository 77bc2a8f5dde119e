-- The entries first, then the page above.
use Rattle.std.proofs.Common.{◌≡◌, ◌⊎◌, ◌*◌, inr, refl, ap, ◌∙◌, subst, arith}
use Rattle.rs_pages.proofs.Stores.{SamePages-refl}
use Rattle.rs_records.specs.Records.{records}
use Rattle.rs_tree.specs.Form.{Form, joined}
use Rattle.rs_tree.specs.Layouts.{entry_bytes}
use Rattle.rs_tree.specs.Forms.{form_in}
use Rattle.rs_page_owners.proofs.Working.{works_then, works_ok}
use Rattle.rs_tree_insert.specs.Inserting.{HasNoTops, tops}
use Rattle.rs_tree_insert.specs.Writing.{IsBroken}
use Rattle.rs_tree_insert.specs.declared.answer.Put.TheVariants.{Kept}
use Rattle.rs_tree_insert.proofs.Halves.{if_ok}
use Rattle.rs_tree_insert.proofs.Kept.{joined_between}
use Rattle.rs_tree_insert.proofs.Tops.{broken_before, puts_entries}
use Rattle.rs_tree_insert.proofs.path.write_above.Goals as goal

pub put_records-requires-clause-fit : goal.put_records-requires-clause-fit
put_records-requires-clause-fit g c =
    let same : c.args.place.count * c.entry_width-width.result ≡ c.args.place.count * entry_bytes c.args.layout = ap (λ w. c.args.place.count * w) c.entry_width-width.ensures.width in
    omega (arith, same, c.requires.fit)

pub returns-then-says_same-clause-works : goal.returns-then-says_same-clause-works
returns-then-says_same-clause-works g c =
    let form : Form = form_in g.S.Summary c.args.layout in
    let old = (g.P.Pages.store c.args.pages.now).map in
    works_ok (g.P.Pages.is_tied c.args.pages.now → HasNoTops form old (tops c.args.below c.args.put))
    (g.P.Pages.is_tied c.args.pages.now → HasNoTops form old (tops c.args.below c.args.put) ⊎ IsBroken old c.args.place.number)
    c.in_ok-more.more Kept (g.P.Pages.store c.args.pages.now) (g.P.Pages.store c.write_entries.new.pages) c.in_ok-more.ensures.works

pub returns-then-says_same-clause-above : goal.returns-then-says_same-clause-above
returns-then-says_same-clause-above g c = λ tied page there found.
    let mid = (g.P.Pages.store c.write_entries.new.pages).map in
    record {
      mid = mid;
      same = c.in_ok-more.ensures.rests.rests.keeps.pages tied;
      entries = records c.in_ok-more.more (entry_bytes c.args.layout) c.write_entries.new.entries;
      says = c.in_ok-more.ensures.says tied;
      puts = λ isnt. absurd (isnt refl);
      kept = λ is. record {
        entry = c.args.entry.now;
        stays = SamePages-refl mid;
        there = found;
        one = c.says_same.ensures.same c.if-says_same.true;
        exchange = λ cells others one other before after bytes said.
            subst (g.S.Summary.says bytes)
            (joined_between g.S.Summary.unit g.S.Summary.join g.S.Summary.of g.met.S.Summary.join_assoc g.met.S.Summary.unit_first g.met.S.Summary.unit_last before cells others after
            (c.says_same.ensures.one (joined g.S.Summary.unit g.S.Summary.join g.S.Summary.of cells) (joined g.S.Summary.unit g.S.Summary.join g.S.Summary.of others) one other)) said;
      };
    }

pub returns-clause-works : goal.returns-clause-works
returns-clause-works g c =
    let form : Form = form_in g.S.Summary c.args.layout in
    let old = (g.P.Pages.store c.args.pages.now).map in
    let mid = (g.P.Pages.store c.write_entries.new.pages).map in
    works_then (g.P.Pages.is_tied c.args.pages.now → HasNoTops form old (tops c.args.below c.args.put))
    (g.P.Pages.is_tied c.args.pages.now → HasNoTops form old (tops c.args.below c.args.put) ⊎ IsBroken old c.args.place.number)
    (g.P.Pages.is_tied c.write_entries.new.pages → IsBroken mid c.args.place.number)
    c.in_ok-more.more c.put_records.result (g.P.Pages.store c.args.pages.now) (g.P.Pages.store c.write_entries.new.pages) (g.P.Pages.store c.put_records.new.pages)
    (λ broken tied. inr (broken_before old mid c.args.place.number (c.in_ok-more.ensures.rests.rests.keeps.pages tied)
    (broken (g.met.P.Pages.keeps_tied c.args.pages.now c.write_entries.new.pages c.in_ok-more.ensures.rests.below tied))))
    c.in_ok-more.ensures.works c.put_records.ensures.works

pub returns-clause-above : goal.returns-clause-above
returns-clause-above g c = λ tied page there found.
    let mid = (g.P.Pages.store c.write_entries.new.pages).map in
    let same = c.in_ok-more.ensures.rests.rests.keeps.pages tied in
    let later = g.met.P.Pages.keeps_tied c.args.pages.now c.write_entries.new.pages c.in_ok-more.ensures.rests.below tied in
    if_ok c.put_records.result (c.put_records.ensures.puts later page (same.pages c.args.place.number ∙ there)) (λ answer puts. record {
      mid = mid;
      same = same;
      entries = records c.in_ok-more.more (entry_bytes c.args.layout) c.write_entries.new.entries;
      says = c.in_ok-more.ensures.says tied;
      kept = λ is. absurd (puts.written is);
      puts = λ isnt. puts_entries mid (g.P.Pages.store c.put_records.new.pages).map c.args.place.number page c.entry_width-width.result (entry_bytes c.args.layout) c.args.place.count c.args.place.at c.in_ok-more.more
          c.write_entries.new.entries answer c.entry_width-width.ensures.width puts;
    })

-- One entry after the other.
use Rattle.std.proofs.Common.{◌≡◌, ◌-◌, ◌*◌, ℕ, List, Some, ◌++◌, length, take, drop, slice_get, sym, ap, arith}
use Rattle.std.proofs.lemmas.Result.{err_from_is_err_and}
use Rattle.std.proofs.lemmas.List.{length-take-le, length-take, length-drop, length-append}
use borrow.Rule.Slice.PartMut.{post_of}
use Rattle.rs_records.specs.Records.{records}
use Rattle.rs_tree.specs.Form.{Form, joined}
use Rattle.rs_tree.specs.Layouts.{entry_bytes}
use Rattle.rs_tree.specs.Reading.{HasNoNode}
use Rattle.rs_tree.specs.Forms.{form_in}
use Rattle.rs_page_owners.proofs.Working.{works_then, works_err, works_ok}
use Rattle.rs_tree_insert.specs.Inserting.{HasNoTops, tops}
use Rattle.rs_tree_insert.specs.declared.answer.Put.{Put}
use Rattle.rs_tree_insert.proofs.Here.{part_later}
use Rattle.rs_tree_insert.proofs.Tops.{tops_first, tops_one, top_missing, no_node_before, two_entries, one_entry, says_one, says_two, says_before}
use Rattle.rs_tree_insert.proofs.entries.write_entries.Goals as goal

pub returns-in_err-write_entry_of-clause-works : goal.returns-in_err-write_entry_of-clause-works
returns-in_err-write_entry_of-clause-works g c =
    let form : Form = form_in g.S.Summary c.args.layout in
    let map = (g.P.Pages.store c.args.pages.now).map in
    let p = err_from_is_err_and c.from_residual.result c.from_residual.ensures.1 in
    works_err (g.P.Pages.is_tied c.args.pages.now → HasNoNode map c.args.first c.args.layout) (g.P.Pages.is_tied c.args.pages.now → HasNoTops form map (tops c.args.first c.args.put))
    c.from_residual.result c.in_err-write_entry_of.field-0.0 (g.P.Pages.store c.args.pages.now) (g.P.Pages.store c.write_entry_of.new.pages)
    (λ none tied. top_missing (λ bytes cells. g.S.Summary.says bytes (joined g.S.Summary.unit g.S.Summary.join g.S.Summary.of cells)) c.args.layout map (tops c.args.first c.args.put) 0 c.args.first (tops_first c.args.first c.args.put) (none tied))
    (cc (p.1, p.2)) c.in_err-write_entry_of.ensures.works

pub returns-in_err-write_entry_of-in-Split-clause-works : goal.returns-in_err-write_entry_of-in-Split-clause-works
returns-in_err-write_entry_of-in-Split-clause-works g c =
    let form : Form = form_in g.S.Summary c.args.layout in
    let map = (g.P.Pages.store c.args.pages.now).map in
    let p = err_from_is_err_and c.from_residual-in_err-write_entry_of-in-Split.result c.from_residual-in_err-write_entry_of-in-Split.ensures.1 in
    let second : slice_get (tops c.args.first c.args.put) 1 ≡ Some c.in-Split.other = ap (λ (a : Put). slice_get (tops c.args.first a) 1) c.in-Split.is in
    works_then (g.P.Pages.is_tied c.args.pages.now → HasNoNode map c.args.first c.args.layout) (g.P.Pages.is_tied c.args.pages.now → HasNoTops form map (tops c.args.first c.args.put))
    (g.P.Pages.is_tied c.write_entry_of.new.pages → HasNoNode (g.P.Pages.store c.write_entry_of.new.pages).map c.in-Split.other c.args.layout)
    tt c.from_residual-in_err-write_entry_of-in-Split.result (g.P.Pages.store c.args.pages.now) (g.P.Pages.store c.write_entry_of.new.pages) (g.P.Pages.store c.write_entry_of-in-Split.new.pages)
    (λ none tied.
    top_missing (λ bytes cells. g.S.Summary.says bytes (joined g.S.Summary.unit g.S.Summary.join g.S.Summary.of cells)) c.args.layout map (tops c.args.first c.args.put) 1 c.in-Split.other second
    (no_node_before map (g.P.Pages.store c.write_entry_of.new.pages).map c.in-Split.other c.args.layout (c.in_ok-write_entry_of.ensures.rests.rests.keeps.pages tied)
    (none (g.met.P.Pages.keeps_tied c.args.pages.now c.write_entry_of.new.pages c.in_ok-write_entry_of.ensures.rests.below tied))))
    c.in_ok-write_entry_of.ensures.works
    (works_err (g.P.Pages.is_tied c.write_entry_of.new.pages → HasNoNode (g.P.Pages.store c.write_entry_of.new.pages).map c.in-Split.other c.args.layout)
    (g.P.Pages.is_tied c.write_entry_of.new.pages → HasNoNode (g.P.Pages.store c.write_entry_of.new.pages).map c.in-Split.other c.args.layout)
    c.from_residual-in_err-write_entry_of-in-Split.result c.in_err-write_entry_of-in-Split.field-0.0 (g.P.Pages.store c.write_entry_of.new.pages) (g.P.Pages.store c.write_entry_of-in-Split.new.pages)
    (λ none. none) (cc (p.1, p.2)) c.in_err-write_entry_of-in-Split.ensures.works)

pub returns-in_ok-write_entry_of-in-Split-clause-says : goal.returns-in_ok-write_entry_of-in-Split-clause-says
returns-in_ok-write_entry_of-in-Split-clause-says g c = λ tied.
    let form : Form = form_in g.S.Summary c.args.layout in
    let map = (g.P.Pages.store c.args.pages.now).map in
    let mid = (g.P.Pages.store c.write_entry_of.new.pages).map in
    let w : ℕ = c.entry_width-width.result in
    let one : List ℕ = c.write_entry_of.new.entry in
    let other : List ℕ = c.write_entry_of-in-Split.new.entry in
    let old : List ℕ = drop w c.args.entries.now in
    let wide : length c.args.entries.now ≡ 2 * w = omega (arith, c.requires.room, c.entry_width-width.ensures.width) in
    let size : length one ≡ w = omega (arith, c.write_entry_of.auto.entry, length-take-le w c.args.entries.now (omega (arith, wide))) in
    let also : length other ≡ w = omega (
      arith,
      c.write_entry_of-in-Split.auto.entry,
      length-take (2 * w - w) (drop w (one ++ old)),
      length-drop w (one ++ old),
      length-append one old,
      length-drop w c.args.entries.now,
      wide,
    ) in
    let later = g.met.P.Pages.keeps_tied c.args.pages.now c.write_entry_of.new.pages c.in_ok-write_entry_of.ensures.rests.below tied in
    let rest : List ℕ = post_of w (2 * w - w) (one ++ old) in
    let listed = two_entries w (entry_bytes c.args.layout) one old other rest c.entry_width-width.ensures.width size also in
    says_two form map c.args.first c.in-Split.other c.args.put (records 2 (entry_bytes c.args.layout) (take w (one ++ old) ++ (other ++ rest))) one other c.in-Split.is listed (c.in_ok-write_entry_of.ensures.says tied)
    (says_before form map mid c.in-Split.other other (part_later form map mid (c.in_ok-write_entry_of.ensures.rests.rests.keeps.pages tied) c.in-Split.other) (c.in_ok-write_entry_of-in-Split.ensures.says later))

pub returns-in_default : goal.returns-in_default
returns-in_default g c =
    let form : Form = form_in g.S.Summary c.args.layout in
    let map = (g.P.Pages.store c.args.pages.now).map in
    let w : ℕ = c.entry_width-width.result in
    let one : List ℕ = c.write_entry_of.new.entry in
    let old : List ℕ = drop w c.args.entries.now in
    let wide : length c.args.entries.now ≡ 2 * w = omega (arith, c.requires.room, c.entry_width-width.ensures.width) in
    let size : length one ≡ w = omega (arith, c.write_entry_of.auto.entry, length-take-le w c.args.entries.now (omega (arith, wide))) in
    let top = tops_one c.args.first c.args.put c.in_default.not-Split in
    let did = c.in_ok-write_entry_of.ensures in
    record {
      rests = record { rests = did.rests.rests; below = did.rests.below; count = did.rests.count };
      works = works_ok (g.P.Pages.is_tied c.args.pages.now → HasNoNode map c.args.first c.args.layout) (g.P.Pages.is_tied c.args.pages.now → HasNoTops form map (tops c.args.first c.args.put)) tt 1
          (g.P.Pages.store c.args.pages.now) (g.P.Pages.store c.write_entry_of.new.pages) did.works;
      count = ap length (sym top);
      says = λ tied. says_one form map c.args.first c.args.put (records 1 (entry_bytes c.args.layout) (one ++ old)) one top (one_entry w (entry_bytes c.args.layout) one old c.entry_width-width.ensures.width size) (did.says tied);
    }

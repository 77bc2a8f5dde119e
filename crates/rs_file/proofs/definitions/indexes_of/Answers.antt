-- Each item in turn.
use Rattle.std.proofs.Common.{◌≡◌, ◌==◌, ◌+◌, [], ◌∷◌, ◌++◌, List, true, false, filter, map, take, sym, ap, subst, ◌∙◌, Vec, Global, arith}
use Rattle.std.specs.List.{AllByRecursion, AllZip}
use Rattle.std.proofs.lemmas.Bool.Decides.{nat_tests}
use Rattle.rs_attr.specs.Tables.{IndexState}
use Rattle.rs_attr.specs.declared.attr_index.AttrIndex.{AttrIndex}
use Rattle.rs_catalog_pages.specs.Items.{IndexItem}
use Rattle.rs_catalog_pages.specs.Said.{said_directory, said_index}
use Rattle.rs_file.specs.Contents.{IsIndex}
use Rattle.rs_file.proofs.Selected.{each_push, selected_no, selected_none, selected_yes}
use Rattle.rs_file.proofs.definitions.indexes_of.Goals as goal
use Rattle.rs_file.proofs.definitions.indexes_of.Goals.{then-item-number+in-Some+in_ok-push, else-item-number}

pub returns-in_default-clause-none : goal.returns-in_default-clause-none
returns-in_default-clause-none c = λ _ states.
    let same : (c.item-item.result.table == c.args.number) ≡ true = grind (arith, nat_tests) in
    selected_none said_index (λ (index : IndexItem). index.table == c.args.number) (IsIndex c.args.schema.now.items (said_directory c.args.directory.now)) c.args.items.now c.loop-item.item-index
    c.item-item.result (omega arith) c.item-item.is same c.in_default.ensures.none states

pub loop-item-preserved : goal.loop-item-preserved
loop-item-preserved c =
    let items = c.args.items.now in
    let i = c.loop-item.item-index in
    let item = c.item-item.result in
    let has = λ (index : IndexItem). index.table == c.args.number in
    let is = IsIndex c.args.schema.now.items (said_directory c.args.directory.now) in
    let found = c.loop-item.indexes.items in
    elim c.if-item-number.branch [
      | then-item-number+in-Some+in_ok-push w ↦
          let same : (item.table == c.args.number) ≡ true = grind (arith, nat_tests) in
          let more : c.if-item-number.indexes.items ≡ found ++ w.in-Some.index ∷ [] = ap (λ (v : Vec AttrIndex Global). v.items) w.indexes-is ∙ w.in_ok-push.ensures.items in
          record {
            found = subst (λ (states : List IndexState). AllZip is (filter has (map said_index (take (i + 1) items))) states) (sym more)
                (selected_yes said_index has is items i item found w.in-Some.index (omega arith) c.item-item.is same w.in-Some.ensures.is c.loop-item.invariant.found);
            committed = subst (AllByRecursion (λ (index : IndexState). index.committed ≡ index.working)) (sym more)
                (each_push (λ (index : IndexState). index.committed ≡ index.working) found w.in-Some.index c.loop-item.invariant.committed w.in-Some.ensures.committed);
          }
      | else-item-number w ↦
          let other : (item.table == c.args.number) ≡ false = grind (arith, nat_tests) in
          let kept : c.if-item-number.indexes.items ≡ found = ap (λ (v : Vec AttrIndex Global). v.items) w.indexes-is in
          record {
            found = subst (λ (states : List IndexState). AllZip is (filter has (map said_index (take (i + 1) items))) states) (sym kept)
                (selected_no said_index has is items i item found (omega arith) c.item-item.is other c.loop-item.invariant.found);
            committed = subst (AllByRecursion (λ (index : IndexState). index.committed ≡ index.working)) (sym kept) c.loop-item.invariant.committed;
          }
    ]

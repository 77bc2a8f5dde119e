-- One slot more.
use Rattle.std.proofs.Common.{◌≡◌, ◌∙◌, ◌+◌, [], ◌∷◌, ap, length, subst, sym}
use Rattle.std.specs.List.{AllByRecursion}
use Rattle.std.proofs.lemmas.List.{length-append}
use Rattle.rs_catalog_pages.specs.Said.{said_tree}
use Rattle.rs_catalog_pages.specs.declared.directory_items.StoredTree.{StoredTree}
use Rattle.rs_file.specs.Contents.{no_tree}
use Rattle.rs_file.proofs.Selected.{each_push}
use Rattle.rs_file.proofs.directory.no_trees.Goals as goal

pub loop-preserved : goal.loop-preserved
loop-preserved c =
    let tree = c.stored_tree.result in
    let here : said_tree tree ≡ no_tree = λ i. record {
      root = (c.stored_tree.ensures.root ∙ c.new.ensures) i;
      living = c.stored_tree.ensures.living i;
      garbage = c.stored_tree.ensures.garbage i;
    } in
    record {
      many = ap length c.in_ok-push.ensures.items ∙ length-append c.loop.trees.items (tree ∷ []) ∙ ap (λ n. n + 1) c.loop.invariant.many;
      none = subst (AllByRecursion (λ (tree : StoredTree). said_tree tree ≡ no_tree)) (sym c.in_ok-push.ensures.items)
          (each_push (λ (tree : StoredTree). said_tree tree ≡ no_tree) c.loop.trees.items tree c.loop.invariant.none here);
    }

-- One slot more.
use Rattle.std.proofs.Common.{◌≡◌, ◌∙◌, ◌+◌, [], ◌∷◌, ap, length, subst, sym}
use Rattle.std.specs.List.{AllByRecursion}
use Rattle.std.proofs.lemmas.List.{length-append}
use Rattle.rs_catalog_pages.specs.declared.directory_items.StoredRoot.{StoredRoot}
use Rattle.rs_file.proofs.Selected.{each_push}
use Rattle.rs_file.proofs.directory.no_roots.Goals as goal

pub loop-preserved : goal.loop-preserved
loop-preserved c =
    let root = c.stored_root.result in
    record {
      many = ap length c.in_ok-push.ensures.items ∙ length-append c.loop.roots.items (root ∷ []) ∙ ap (λ n. n + 1) c.loop.invariant.many;
      none = subst (AllByRecursion (λ (root : StoredRoot). root.root ≡ 0)) (sym c.in_ok-push.ensures.items)
          (each_push (λ (root : StoredRoot). root.root ≡ 0) c.loop.roots.items root c.loop.invariant.none (c.stored_root.ensures.root ∙ c.new.ensures));
    }

-- One slot of a directory is another, and all else that it says stays.
use Rattle.std.proofs.Common.{◌≡◌, ◌<◌, ◌≤◌, ◌+◌, ◌-◌, ◌*◌, ◌++◌, ℕ, List, get_or, length, replicate, set, take, drop, refl, sym, ap, subst, ◌∙◌, arith, length-append}
use Rattle.std.proofs.lemmas.List.{append_assoc, get_or-take, length-set}
use Rattle.rs_bytes.specs.Codes.{SaysBoth, SaysEach, SaysMany, SaysNumber}
use Rattle.rs_catalog_pages.specs.Directory.{DirectoryItems, IsDirectory, SaysDirectory, SaysTree, TreeItem}
use Rattle.rs_catalog_pages.proofs.Directories.{length-directory}
use Rattle.rs_page.specs.Header.{IsHeader}
use Rattle.rs_page.specs.Number.{number_at}
use Rattle.rs_page.specs.declared.header.PageHeader.{PageHeader}
use Rattle.rs_page.specs.declared.page.TheConstants.{PAGE_SIZE}
use Rattle.rs_page.proofs.Numbers.{number_at-same}
use Rattle.rs_file_parts.specs.Slots.{PutsSaid, with_bytes}
use Rattle.rs_file_parts.proofs.Overwritten.{Wide, each_put, first_put, rest_put, wide_both, wide_each, wide_number, with_all, with_back, with_front, with_left, with_long, with_next}

pub wide_tree : Wide SaysTree 20
wide_tree bytes tree is = wide_both (SaysNumber 4) (SaysBoth (SaysNumber 8) (SaysNumber 8)) 4 16 (wide_number 4) (wide_both (SaysNumber 8) (SaysNumber 8) 8 8 (wide_number 8) (wide_number 8)) bytes (tree.root, (tree.living, tree.garbage)) is

-- ---- the directory's bytes

-- how many bytes the trees and the roots have
trees_long : (bytes : List ℕ) (trees : List TreeItem) → SaysMany 128 (SaysEach SaysTree) bytes trees → length bytes ≡ 2560
trees_long bytes trees says = wide_each SaysTree 20 wide_tree bytes trees says.1 ∙ ap (λ n. n * 20) says.0

roots_long : (bytes : List ℕ) (roots : List ℕ) → SaysMany 64 (SaysEach (SaysNumber 4)) bytes roots → length bytes ≡ 256
roots_long bytes roots says = wide_each (SaysNumber 4) 4 (wide_number 4) bytes roots says.1 ∙ ap (λ n. n * 4) says.0

module _ (said part : List ℕ) (was : DirectoryItems) (says : SaysDirectory said was) where
  tree_said : (k : ℕ) (tree : TreeItem) → k < 128 → SaysTree part tree → SaysDirectory (with_bytes (k * 20) part said) (record was { tables = set was.tables k tree })
  tree_said k tree inside is =
      first_put (SaysMany 128 (SaysEach SaysTree)) (SaysBoth (SaysMany 64 (SaysEach (SaysNumber 4))) (SaysBoth SaysTree (SaysNumber 8))) (k * 20) part said
      was.tables (was.indexes, (was.referents, was.accepted)) says (set was.tables k tree)
      (omega (arith, trees_long says.0 was.tables says.3, wide_tree part tree is, inside))
      (length-set was.tables k tree ∙ says.3.0, each_put SaysTree 20 wide_tree says.0 was.tables k part tree (omega (arith, inside, says.3.0)) says.3.1 is)

  root_said : (k root : ℕ) → k < 64 → SaysNumber 4 part root → SaysDirectory (with_bytes (2560 + k * 4) part said) (record was { indexes = set was.indexes k root })
  root_said k root inside is =
      rest_put (SaysMany 128 (SaysEach SaysTree)) (SaysBoth (SaysMany 64 (SaysEach (SaysNumber 4))) (SaysBoth SaysTree (SaysNumber 8))) (2560 + k * 4) (k * 4) part said
      was.tables (was.indexes, (was.referents, was.accepted)) says (set was.indexes k root, (was.referents, was.accepted))
      (omega (arith, trees_long says.0 was.tables says.3))
      (first_put (SaysMany 64 (SaysEach (SaysNumber 4))) (SaysBoth SaysTree (SaysNumber 8)) (k * 4) part says.1
      was.indexes (was.referents, was.accepted) says.4 (set was.indexes k root)
      (omega (arith, roots_long says.4.0 was.indexes says.4.3, wide_number 4 part root is, inside))
      (length-set was.indexes k root ∙ says.4.3.0, each_put (SaysNumber 4) 4 (wide_number 4) says.4.0 was.indexes k part root (omega (arith, inside, says.4.3.0)) says.4.3.1 is))

  referents_said : (tree : TreeItem) → SaysTree part tree → SaysDirectory (with_bytes 2816 part said) (record was { referents = tree })
  referents_said tree is =
      let here : length part ≡ length says.4.4.0 = wide_tree part tree is ∙ sym (wide_tree says.4.4.0 was.referents says.4.4.3) in
      rest_put (SaysMany 128 (SaysEach SaysTree)) (SaysBoth (SaysMany 64 (SaysEach (SaysNumber 4))) (SaysBoth SaysTree (SaysNumber 8))) 2816 256 part said
      was.tables (was.indexes, (was.referents, was.accepted)) says (was.indexes, (tree, was.accepted))
      (omega (arith, trees_long says.0 was.tables says.3))
      (rest_put (SaysMany 64 (SaysEach (SaysNumber 4))) (SaysBoth SaysTree (SaysNumber 8)) 256 0 part says.1
      was.indexes (was.referents, was.accepted) says.4 (tree, was.accepted)
      (omega (arith, roots_long says.4.0 was.indexes says.4.3))
      (first_put SaysTree (SaysNumber 8) 0 part says.4.1 was.referents was.accepted says.4.4 tree (omega (arith, here)) (subst (λ b. SaysTree b tree) (sym (with_all part says.4.4.0 here)) is)))

  accepted_said : (version : ℕ) → SaysNumber 8 part version → SaysDirectory (with_bytes 2836 part said) (record was { accepted = version })
  accepted_said version is =
      let here : length part ≡ length says.4.4.1 = wide_number 8 part version is ∙ sym (wide_number 8 says.4.4.1 was.accepted says.4.4.4) in
      rest_put (SaysMany 128 (SaysEach SaysTree)) (SaysBoth (SaysMany 64 (SaysEach (SaysNumber 4))) (SaysBoth SaysTree (SaysNumber 8))) 2836 276 part said
      was.tables (was.indexes, (was.referents, was.accepted)) says (was.indexes, (was.referents, version))
      (omega (arith, trees_long says.0 was.tables says.3))
      (rest_put (SaysMany 64 (SaysEach (SaysNumber 4))) (SaysBoth SaysTree (SaysNumber 8)) 276 20 part says.1
      was.indexes (was.referents, was.accepted) says.4 (was.referents, version)
      (omega (arith, roots_long says.4.0 was.indexes says.4.3))
      (rest_put SaysTree (SaysNumber 8) 20 0 part says.4.1 was.referents was.accepted says.4.4 version (omega (arith, wide_tree says.4.4.0 was.referents says.4.4.3))
      (subst (λ b. SaysNumber 8 b version) (sym (with_all part says.4.4.1 here)) is)))

-- ---- the page

-- numbers in a front that stays
front_numbers : (a k n : ℕ) (old new : List ℕ) → take a new ≡ take a old → k + n ≤ a → number_at k n new ≡ number_at k n old
front_numbers a k n old new same inside =
    number_at-same k n old new (λ i lo hi. sym (get_or-take a new i 0 (omega arith)) ∙ ap (λ xs. get_or xs i 0) same ∙ get_or-take a old i 0 (omega arith))

header_kept : (a : ℕ) (old new : List ℕ) (header : PageHeader) → 16 ≤ a → take a new ≡ take a old → IsHeader old header → IsHeader new header
header_kept a old new header far same is = record {
  kind = front_numbers a 0 1 old new same (omega (arith, far)) ∙ is.kind;
  zero = front_numbers a 1 1 old new same (omega (arith, far)) ∙ is.zero;
  count = front_numbers a 2 2 old new same (omega (arith, far)) ∙ is.count;
  number = front_numbers a 4 4 old new same (omega (arith, far)) ∙ is.number;
  next = front_numbers a 8 4 old new same (omega (arith, far)) ∙ is.next;
  zeros = front_numbers a 12 4 old new same (omega (arith, far)) ∙ is.zeros;
}

page_put : (page part : List ℕ) (place at : ℕ) (was now : DirectoryItems) → length page ≡ PAGE_SIZE → (is : IsDirectory page was) → place ≡ 16 + at → at + length part ≤ length is.said
    → SaysDirectory (with_bytes at part is.said) now → IsDirectory (with_bytes place part page) now
page_put page part place at was now size is far inside says =
    let long = length-directory is.said was is.says in
    record {
      header = header_kept 16 page (with_bytes place part page) _ (omega arith) (with_front place 16 part page (omega (arith, far)) (omega (arith, far, size, inside, long))) is.header;
      said = with_bytes at part is.said;
      says = says;
      holds = ap (λ n. drop 16 (with_bytes n part page)) far ∙ with_back at 16 part page (omega (arith, size)) ∙ ap (with_bytes at part) is.holds
          ∙ with_left at part is.said (replicate (PAGE_SIZE - (16 + length is.said)) 0) inside
          ∙ ap (λ n. with_bytes at part is.said ++ replicate (PAGE_SIZE - (16 + n)) 0) (sym (with_long at part is.said inside));
    }

-- ---- the slots

module _ (old new : List ℕ) (place : ℕ) (size : length old ≡ PAGE_SIZE) (was : DirectoryItems) (is : IsDirectory old was) where
  long : length is.said ≡ 2844
  long = length-directory is.said was is.says

  pub tree_put : (k : ℕ) (tree : TreeItem) → k < 128 → place ≡ 16 + k * 20 → PutsSaid SaysTree place tree old new → IsDirectory new (record was { tables = set was.tables k tree })
  tree_put k tree inside far puts =
      subst (λ p. IsDirectory p (record was { tables = set was.tables k tree })) (sym puts.is)
      (page_put old puts.part place (k * 20) was (record was { tables = set was.tables k tree }) size is far
      (omega (arith, inside, wide_tree puts.part tree puts.said, long)) (tree_said is.said puts.part was is.says k tree inside puts.said))

  pub root_put : (k root : ℕ) → k < 64 → place ≡ 2576 + k * 4 → PutsSaid (SaysNumber 4) place root old new → IsDirectory new (record was { indexes = set was.indexes k root })
  root_put k root inside far puts =
      subst (λ p. IsDirectory p (record was { indexes = set was.indexes k root })) (sym puts.is)
      (page_put old puts.part place (2560 + k * 4) was (record was { indexes = set was.indexes k root }) size is (omega (arith, far))
      (omega (arith, inside, wide_number 4 puts.part root puts.said, long)) (root_said is.said puts.part was is.says k root inside puts.said))

  pub referents_put : (tree : TreeItem) → place ≡ 2832 → PutsSaid SaysTree place tree old new → IsDirectory new (record was { referents = tree })
  referents_put tree far puts =
      subst (λ p. IsDirectory p (record was { referents = tree })) (sym puts.is)
      (page_put old puts.part place 2816 was (record was { referents = tree }) size is (omega (arith, far))
      (omega (arith, wide_tree puts.part tree puts.said, long)) (referents_said is.said puts.part was is.says tree puts.said))

  pub accepted_put : (version : ℕ) → place ≡ 2852 → PutsSaid (SaysNumber 8) place version old new → IsDirectory new (record was { accepted = version })
  accepted_put version far puts =
      subst (λ p. IsDirectory p (record was { accepted = version })) (sym puts.is)
      (page_put old puts.part place 2836 was (record was { accepted = version }) size is (omega (arith, far))
      (omega (arith, wide_number 8 puts.part version puts.said, long)) (accepted_said is.said puts.part was is.says version puts.said))

-- a tree's numbers are put one after another
pub tree_at : (at : ℕ) (root living garbage old mid next new : List ℕ) (tree : TreeItem) → SaysNumber 4 root tree.root → SaysNumber 8 living tree.living → SaysNumber 8 garbage tree.garbage
    → mid ≡ with_bytes at root old → next ≡ with_bytes (at + 4) living mid → new ≡ with_bytes (at + 12) garbage next → at + 20 ≤ length old → PutsSaid SaysTree at tree old new
tree_at at root living garbage old mid next new tree r l g one two three inside =
    let first : length root ≡ 4 = wide_number 4 root tree.root r in
    let both : length (root ++ living) ≡ 12 = length-append root living ∙ omega (arith, first, wide_number 8 living tree.living l) in
    record {
      part = root ++ (living ++ garbage);
      said = (root, living ++ garbage, refl, r, (living, garbage, refl, l, g));
      is = three ∙ ap (with_bytes (at + 12) garbage) (two ∙ ap (with_bytes (at + 4) living) one ∙ with_next at (at + 4) root living old (omega (arith, first)) (omega (arith, inside)))
          ∙ with_next at (at + 12) (root ++ living) garbage old (omega (arith, both)) (omega (arith, inside)) ∙ ap (λ p. with_bytes at p old) (append_assoc root living garbage);
    }

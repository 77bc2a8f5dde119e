-- Parts with one page at their top have one height, one list of cells and the same uses.
use Rattle.std.proofs.Common.{◌≡◌, ◌≤◌, ℕ, zero, suc, List, [], ◌∷◌, length, map, refl, sym, ap, ◌∙◌, subst, arith}
use Rattle.std.proofs.lemmas.List.{length-map}
use Rattle.std.proofs.lemmas.List.Sums.{sum_by-cons}
use Rattle.std.specs.List.{AllByRecursion, AllZip, flat_map}
use Rattle.rs_page.specs.declared.header.PageHeader.{PageHeader}
use Rattle.rs_page.specs.declared.header.PageKind.TheVariants as kind
use Rattle.rs_pages.specs.PageMap.{PageMap}
use Rattle.rs_records.specs.Order.{Ascends}
use Rattle.rs_records.specs.Records.{records}
use Rattle.rs_tree.specs.Form.{Form, entry_width}
use Rattle.rs_tree.specs.Content.{SaysChild, content, tree_header}
use Rattle.rs_tree.specs.Shape.{Shape, Lies, page_of, cells_of, uses, child_of}
use Rattle.rs_tree.specs.Tree.{IsTree}
use Rattle.rs_tree.proofs.Below.{ascends_first, ascends_last}
use Rattle.rs_tree.proofs.Ones.{leaf_apart, same_header, same_page, tree_has_its_cells, tree_has_its_pages}
use Rattle.rs_tree_whole.specs.Checking.{uses_of}

module _ (form : Form) (pages : PageMap) where
  -- parts that the same entries say have one height, if there are some and each has
  pub firsts : (height level : ℕ) (entries : List (List ℕ)) (xs : List (Shape height)) (ys : List (Shape level)) → 1 ≤ length xs
      → AllZip (SaysChild form) entries (map (child_of height) xs) → AllZip (SaysChild form) entries (map (child_of level) ys)
      → AllByRecursion (Lies form pages height) xs → AllByRecursion (Lies form pages level) ys
      → ((x : Shape height) (y : Shape level) → Lies form pages height x → Lies form pages level y → page_of height x ≡ page_of level y → height ≡ level)
      → height ≡ level
  firsts height level entries [] ys some a b lies lie ih = absurd (omega arith)
  firsts height level [] (x ∷ xs) ys some a b lies lie ih = absurd a
  firsts height level (e ∷ es) (x ∷ xs) [] some a b lies lie ih = absurd b
  firsts height level (e ∷ es) (x ∷ xs) (y ∷ ys) some a b lies lie ih = ih x y lies.0 lie.0 (sym a.0.page ∙ b.0.page)

  pub same_height : (height : ℕ) (one : Shape height) (level : ℕ) (other : Shape level) → Lies form pages height one → Lies form pages level other → page_of height one ≡ page_of level other → height ≡ level
  same_height zero one zero other lies lie top = refl
  same_height zero one (suc level) other lies lie top = absurd (leaf_apart form pages one.page other.page one.cells (map (child_of level) other.parts) top lies lie.0)
  same_height (suc height) one zero other lies lie top = absurd (leaf_apart form pages other.page one.page other.cells (map (child_of height) one.parts) (sym top) lie lies.0)
  same_height (suc height) one (suc level) other lies lie top =
      let page = same_page form pages one.page other.page lies.0.page lie.0.page top lies.0.there lie.0.there in
      let header = same_header form pages lies.0.page lie.0.page (tree_header kind.Inner (length (map (child_of height) one.parts)) one.page) (tree_header kind.Inner (length (map (child_of level) other.parts)) other.page) page lies.0.inner.has.header lie.0.inner.has.header in
      let count : length (map (child_of height) one.parts) ≡ length (map (child_of level) other.parts) = ap (λ (h : PageHeader). h.count) header in
      let says = subst (λ p. AllZip (SaysChild form) (records (length (map (child_of level) other.parts)) (entry_width form) (content p)) (map (child_of height) one.parts)) page
      (subst (λ n. AllZip (SaysChild form) (records n (entry_width form) (content lies.0.page)) (map (child_of height) one.parts)) count lies.0.inner.entries) in
      let some : 1 ≤ length one.parts = omega (arith, lies.0.inner.some, length-map one.parts (child_of height)) in
      ap suc (firsts height level (records (length (map (child_of level) other.parts)) (entry_width form) (content lie.0.page)) one.parts other.parts some says lie.0.inner.entries lies.1 lie.1
      (λ x y. same_height height x level y))

  -- a part with ascending cells and each page once is a tree
  tree_of : (height : ℕ) (shape : Shape height) → Lies form pages height shape → Ascends (cells_of height shape) → ((n : ℕ) → uses height shape n ≤ 1)
      → IsTree form pages (page_of height shape) (cells_of height shape) (uses height shape)
  tree_of height shape lies up once = record { height = suc height; stands = record { shape = shape; lies = lies; top = refl; lists = refl; owns = λ n. refl }; ascends = up; once = once }

  module _ (height : ℕ) (one : Shape height) (level : ℕ) (other : Shape level) (lies : Lies form pages height one) (lie : Lies form pages level other) (top : page_of height one ≡ page_of level other)
      (up : Ascends (cells_of height one)) (rise : Ascends (cells_of level other)) (once : (n : ℕ) → uses height one n ≤ 1) (single : (n : ℕ) → uses level other n ≤ 1) where
    there : IsTree form pages (page_of level other) (cells_of height one) (uses height one)
    there = subst (λ p. IsTree form pages p (cells_of height one) (uses height one)) top (tree_of height one lies up once)

    pub same_cells : cells_of height one ≡ cells_of level other
    same_cells = tree_has_its_cells form pages (page_of level other) (cells_of height one) (cells_of level other) (uses height one) (uses level other) there (tree_of level other lie rise single)

    pub same_uses : (n : ℕ) → uses height one n ≡ uses level other n
    same_uses = tree_has_its_pages form pages (page_of level other) (cells_of height one) (cells_of level other) (uses height one) (uses level other) there (tree_of level other lie rise single)

  -- parts that the same entries say have the same uses
  pub same_uses_of : (height level : ℕ) (entries : List (List ℕ)) (xs : List (Shape height)) (ys : List (Shape level))
      → AllZip (SaysChild form) entries (map (child_of height) xs) → AllZip (SaysChild form) entries (map (child_of level) ys)
      → AllByRecursion (Lies form pages height) xs → AllByRecursion (Lies form pages level) ys
      → Ascends (flat_map (cells_of height) xs) → Ascends (flat_map (cells_of level) ys) → ((n : ℕ) → uses_of height xs n ≤ 1) → ((n : ℕ) → uses_of level ys n ≤ 1)
      → (n : ℕ) → uses_of height xs n ≡ uses_of level ys n
  same_uses_of height level [] [] [] a b lies lie up rise once single n = refl
  same_uses_of height level [] (x ∷ xs) ys a b lies lie up rise once single n = absurd a
  same_uses_of height level [] [] (y ∷ ys) a b lies lie up rise once single n = absurd b
  same_uses_of height level (e ∷ es) [] ys a b lies lie up rise once single n = absurd a
  same_uses_of height level (e ∷ es) (x ∷ xs) [] a b lies lie up rise once single n = absurd b
  same_uses_of height level (e ∷ es) (x ∷ xs) (y ∷ ys) a b lies lie up rise once single n =
      let top : page_of height x ≡ page_of level y = sym a.0.page ∙ b.0.page in
      let first = same_uses height x level y lies.0 lie.0 top (ascends_first (cells_of height x) (flat_map (cells_of height) xs) up) (ascends_first (cells_of level y) (flat_map (cells_of level) ys) rise)
      (λ m. omega (arith, once m, sum_by-cons (λ part. uses height part m) x xs)) (λ m. omega (arith, single m, sum_by-cons (λ part. uses level part m) y ys)) in
      let rest = same_uses_of height level es xs ys a.1 b.1 lies.1 lie.1 (ascends_last (cells_of height x) (flat_map (cells_of height) xs) up) (ascends_last (cells_of level y) (flat_map (cells_of level) ys) rise)
      (λ m. omega (arith, once m, sum_by-cons (λ part. uses height part m) x xs)) (λ m. omega (arith, single m, sum_by-cons (λ part. uses level part m) y ys)) n in
      omega (arith, first n, rest, sum_by-cons (λ part. uses height part n) x xs, sum_by-cons (λ part. uses level part n) y ys)

-- Pages hold one tree at the most from a root on.
use Rattle.std.proofs.Common.{◌≡◌, ◌<◌, ℕ, zero, suc, Some, List, [], ◌∷◌, ◌++◌, length, map, refl, sym, ap, ◌∙◌, subst, arith}
use Rattle.std.proofs.lemmas.List.Sums.{sum_by-cons}
use Rattle.std.specs.List.{AllByRecursion, AllZip, flat_map, sum_by}
use Rattle.rs_page.specs.Header.{IsHeader}
use Rattle.rs_page.specs.declared.header.PageHeader.{PageHeader}
use Rattle.rs_page.specs.declared.header.PageKind.TheVariants as kind
use Rattle.rs_page.proofs.Headers.{header_is_one}
use Rattle.rs_pages.specs.PageMap.{PageMap}
use Rattle.rs_pages.proofs.FreeLists.{page_one}
use Rattle.rs_records.specs.Records.{records}
use Rattle.rs_page_owners.specs.Counts.{one_at}
use Rattle.rs_tree.specs.Form.{Form, entry_width}
use Rattle.rs_tree.specs.Content.{SaysChild, Child, content, tree_header}
use Rattle.rs_tree.specs.Shape.{Shape, Lies, LeafLies, InnerLies, page_of, cells_of, uses, child_of}
use Rattle.rs_tree.specs.Tree.{IsTree, Stands}

pub leaf_not_inner : kind.Leaf ≡ kind.Inner → ⊥
leaf_not_inner e = cc

module _ (form : Form) (pages : PageMap) where
  pub same_page : (one other : ℕ) (a b : List ℕ) → one ≡ other → pages.page one ≡ Some a → pages.page other ≡ Some b → a ≡ b
  same_page one other a b same first second = page_one pages other a b (subst (λ n. pages.page n ≡ Some a) same first) second

  pub same_header : (a b : List ℕ) (one other : PageHeader) → a ≡ b → IsHeader a one → IsHeader b other → one ≡ other
  same_header a b one other same first second = header_is_one b one other (subst (λ p. IsHeader p one) same first) second

  pub leaf_apart : (number other : ℕ) (cells : List (List ℕ)) (children : List Child) → number ≡ other → LeafLies form pages number cells → InnerLies form pages other children → ⊥
  leaf_apart number other cells children same leaf inner =
      let page = same_page number other leaf.page inner.page same leaf.there inner.there in
      let header = same_header leaf.page inner.page (tree_header kind.Leaf (length cells) number) (tree_header kind.Inner (length children) other) page leaf.leaf.has.header inner.inner.has.header in
      leaf_not_inner (ap (λ (h : PageHeader). h.kind) header)

  -- the same cells and the same uses
  abbrev Same : (height : ℕ) → Shape height → (level : ℕ) → Shape level → Type 0
  Same height one level other = (cells_of height one ≡ cells_of level other) × ((n : ℕ) → uses height one n ≡ uses level other n)

  same_parts : (height level : ℕ) (entries : List (List ℕ)) (parts : List (Shape height)) (others : List (Shape level))
      → AllZip (SaysChild form) entries (map (child_of height) parts) → AllZip (SaysChild form) entries (map (child_of level) others)
      → AllByRecursion (Lies form pages height) parts → AllByRecursion (Lies form pages level) others
      → ((part : Shape height) (other : Shape level) → Lies form pages height part → Lies form pages level other → page_of height part ≡ page_of level other → Same height part level other)
      → (flat_map (cells_of height) parts ≡ flat_map (cells_of level) others)
      × ((n : ℕ) → sum_by (λ part. uses height part n) parts ≡ sum_by (λ part. uses level part n) others)
  same_parts height level [] [] [] a b lies lie ih = (refl, λ n. refl)
  same_parts height level [] (x ∷ xs) others a b lies lie ih = absurd a
  same_parts height level [] [] (y ∷ ys) a b lies lie ih = absurd b
  same_parts height level (e ∷ es) [] others a b lies lie ih = absurd a
  same_parts height level (e ∷ es) (x ∷ xs) [] a b lies lie ih = absurd b
  same_parts height level (e ∷ es) (x ∷ xs) (y ∷ ys) a b lies lie ih =
      let first = ih x y lies.0 lie.0 (sym a.0.page ∙ b.0.page) in
      let rest = same_parts height level es xs ys a.1 b.1 lies.1 lie.1 ih in (
        ap (λ cs. cs ++ flat_map (cells_of height) xs) first.0 ∙ ap (λ cs. cells_of level y ++ cs) rest.0,
        λ n. omega (arith, first.1 n, rest.1 n, sum_by-cons (λ part. uses height part n) x xs, sum_by-cons (λ part. uses level part n) y ys),
      )

  same_shape : (height : ℕ) (one : Shape height) (level : ℕ) (other : Shape level) → Lies form pages height one → Lies form pages level other → page_of height one ≡ page_of level other → Same height one level other
  same_shape zero one zero other lies lie top =
      let page = same_page one.page other.page lies.page lie.page top lies.there lie.there in
      let header = same_header lies.page lie.page (tree_header kind.Leaf (length one.cells) one.page) (tree_header kind.Leaf (length other.cells) other.page) page lies.leaf.has.header lie.leaf.has.header in
      let count : length one.cells ≡ length other.cells = ap (λ (h : PageHeader). h.count) header in (
        sym lies.leaf.holds ∙ ap (λ n. records n form.width (content lies.page)) count ∙ ap (λ p. records (length other.cells) form.width (content p)) page ∙ lie.leaf.holds,
        λ n. ap (λ p. one_at p n) top,
      )
  same_shape zero one (suc level) other lies lie top = absurd (leaf_apart one.page other.page one.cells (map (child_of level) other.parts) top lies lie.0)
  same_shape (suc height) one zero other lies lie top = absurd (leaf_apart other.page one.page other.cells (map (child_of height) one.parts) (sym top) lie lies.0)
  same_shape (suc height) one (suc level) other lies lie top =
      let page = same_page one.page other.page lies.0.page lie.0.page top lies.0.there lie.0.there in
      let header = same_header lies.0.page lie.0.page (tree_header kind.Inner (length (map (child_of height) one.parts)) one.page) (tree_header kind.Inner (length (map (child_of level) other.parts)) other.page) page lies.0.inner.has.header lie.0.inner.has.header in
      let count : length (map (child_of height) one.parts) ≡ length (map (child_of level) other.parts) = ap (λ (h : PageHeader). h.count) header in
      let says = subst (λ p. AllZip (SaysChild form) (records (length (map (child_of level) other.parts)) (entry_width form) (content p)) (map (child_of height) one.parts)) page
      (subst (λ n. AllZip (SaysChild form) (records n (entry_width form) (content lies.0.page)) (map (child_of height) one.parts)) count lies.0.inner.entries) in
      let parts = same_parts height level (records (length (map (child_of level) other.parts)) (entry_width form) (content lie.0.page)) one.parts other.parts says lie.0.inner.entries lies.1 lie.1
      (λ part another. same_shape height part level another) in
      (parts.0, λ n. omega (arith, parts.1 n, ap (λ p. one_at p n) top))

  above_one : (height : ℕ) (shape : Shape height) → Lies form pages height shape → 1 < page_of height shape
  above_one zero shape lies = lies.after
  above_one (suc height) shape lies = lies.0.after

  stands_one : (root : ℕ) (one other : List (List ℕ)) (used uses : ℕ → ℕ) (height level : ℕ) → Stands form pages height root one used → Stands form pages level root other uses
      → (one ≡ other) × ((n : ℕ) → used n ≡ uses n)
  stands_one root one other used uses zero zero a b = (a.no_cells ∙ sym b.no_cells, λ n. a.no_pages n ∙ sym (b.no_pages n))
  stands_one root one other used uses zero (suc level) a b = absurd (omega (arith, a.none, b.top, above_one level b.shape b.lies))
  stands_one root one other used uses (suc height) zero a b = absurd (omega (arith, b.none, a.top, above_one height a.shape a.lies))
  stands_one root one other used uses (suc height) (suc level) a b =
      let same = same_shape height a.shape level b.shape a.lies b.lies (a.top ∙ sym b.top) in
      (sym a.lists ∙ same.0 ∙ b.lists, λ n. sym (a.owns n) ∙ same.1 n ∙ b.owns n)

-- there is one list of cells
pub tree_has_its_cells : (form : Form) (pages : PageMap) (root : ℕ) (one other : List (List ℕ)) (used uses : ℕ → ℕ) → IsTree form pages root one used → IsTree form pages root other uses → one ≡ other
tree_has_its_cells form pages root one other used uses a b = (stands_one form pages root one other used uses a.height b.height a.stands b.stands).0

-- and one count of pages
pub tree_has_its_pages : (form : Form) (pages : PageMap) (root : ℕ) (one other : List (List ℕ)) (used uses : ℕ → ℕ) → IsTree form pages root one used → IsTree form pages root other uses → (n : ℕ) → used n ≡ uses n
tree_has_its_pages form pages root one other used uses a b = (stands_one form pages root one other used uses a.height b.height a.stands b.stands).1

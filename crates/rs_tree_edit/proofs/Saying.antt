-- What the entry says that is written from a page's own bytes.
use Rattle.std.proofs.Common.{◌≡◌, ℕ, zero, suc, Some, List, [], ◌∷◌, ◌++◌, length, take, drop, map, slice_get, refl, sym, ap, ◌∙◌, subst}
use Rattle.std.specs.List.{AllZip, flat_map}
use Rattle.rs_page.specs.Header.{IsHeader}
use Rattle.rs_page.specs.Number.{number_at}
use Rattle.rs_page.specs.declared.header.PageHeader.{PageHeader}
use Rattle.rs_page.specs.declared.header.PageKind.TheVariants as kind
use Rattle.rs_page.proofs.Headers.{header_is_one}
use Rattle.rs_pages.specs.PageMap.{PageMap}
use Rattle.rs_pages.proofs.FreeLists.{page_one}
use Rattle.rs_records.specs.Records.{records}
use Rattle.rs_tree.specs.Form.{Form, form_of, joined, child_bytes, least_from, entry_width}
use Rattle.rs_tree.specs.Content.{SaysChild, Child, IsLeaf, IsInner, HasRecords, content, tree_header}
use Rattle.rs_tree.specs.Shape.{Shape, cells_of, child_of}
use Rattle.rs_tree.specs.Walking.{IsPart}
use Rattle.rs_tree_edit.specs.Parts.{SaysPart, SaysNode}

leaf_not_inner : kind.Leaf ≡ kind.Inner → ⊥
leaf_not_inner e = cc

one_header : (page : List ℕ) (one other : PageHeader) → IsHeader page one → IsHeader page other → one ≡ other
one_header page one other a b = header_is_one page one other a b

first_flat : (c : Child) (cs : List Child) (least : List ℕ) → slice_get c.cells 0 ≡ Some least → slice_get (flat_map (λ child. child.cells) (c ∷ cs)) 0 ≡ Some least
first_flat c cs least e = at c.cells e where
  at : (xs : List (List ℕ)) → slice_get xs 0 ≡ Some least → slice_get (xs ++ flat_map (λ child. child.cells) cs) 0 ≡ Some least
  at [] none = absurd (cc)
  at (x ∷ xs) is = is

-- the least cell of all is that of the first entry
first_least : (form : Form) (es : List (List ℕ)) (children : List Child) (first : List ℕ) → AllZip (SaysChild form) es children → slice_get es 0 ≡ Some first
    → slice_get (flat_map (λ child. child.cells) children) 0 ≡ Some (drop (least_from form.summary) first)
first_least form [] children first all e = absurd (cc)
first_least form (x ∷ xs) [] first all e = absurd all
first_least form (x ∷ xs) (c ∷ cs) first all e =
    let same : x ≡ first = cc in
    first_flat c cs (drop (least_from form.summary) first) (all.0.least ∙ ap (λ y. Some (drop (least_from form.summary) y)) same)

module _ {S : Type 0} (unit : S) (join : S → S → S) (of : List ℕ → S) (says : List ℕ → S → Type 0) (summary width number count : ℕ) (page entry : List ℕ) (whole : S)
    (child : number_at 0 4 entry ≡ number) (said : says (take summary (drop child_bytes entry)) whole) where
  abbrev form : Form
  form = form_of says unit join of summary width

  pub leaf_said : HasRecords page kind.Leaf number count width → whole ≡ joined unit join of (records count width (content page))
      → slice_get (records count width (content page)) 0 ≡ Some (drop (least_from summary) entry) → SaysNode form number page entry
  leaf_said has sum first = record {
    leaf = λ cells is.
        let counted : count ≡ length cells = ap (λ (h : PageHeader). h.count) (one_header page (tree_header kind.Leaf count number) (tree_header kind.Leaf (length cells) number) has.header is.has.header) in
        let same : records count width (content page) ≡ cells = ap (λ n. records n width (content page)) counted ∙ is.holds in
        record { page = child; summary = subst (says (take summary (drop child_bytes entry))) (sum ∙ ap (joined unit join of) same) said; least = ap (λ (cs : List (List ℕ)). slice_get cs 0) (sym same) ∙ first };
    inner = λ children is.
        absurd (leaf_not_inner (ap (λ (h : PageHeader). h.kind) (one_header page (tree_header kind.Leaf count number) (tree_header kind.Inner (length children) number) has.header is.has.header)));
  }

  pub inner_said : (first : List ℕ) → HasRecords page kind.Inner number count (entry_width form)
      → ((children : List Child) → AllZip (SaysChild form) (records count (entry_width form) (content page)) children → whole ≡ joined unit join of (flat_map (λ child. child.cells) children))
      → slice_get (records count (entry_width form) (content page)) 0 ≡ Some first → drop (least_from summary) entry ≡ drop (least_from summary) first → SaysNode form number page entry
  inner_said first has sum there least = record {
    leaf = λ cells is.
        absurd (leaf_not_inner (ap (λ (h : PageHeader). h.kind) (one_header page (tree_header kind.Leaf (length cells) number) (tree_header kind.Inner count number) is.has.header has.header)));
    inner = λ children is.
        let counted : length children ≡ count = ap (λ (h : PageHeader). h.count) (one_header page (tree_header kind.Inner (length children) number) (tree_header kind.Inner count number) is.has.header has.header) in
        let all = subst (λ n. AllZip (SaysChild form) (records n (entry_width form) (content page)) children) counted is.entries in
        record {
          page = child;
          summary = subst (says (take summary (drop child_bytes entry))) (sum children all) said;
          least = first_least form (records count (entry_width form) (content page)) children first all there ∙ ap (λ xs. Some xs) (sym least);
        };
  }

flat_children : (height : ℕ) (parts : List (Shape height)) → flat_map (λ child. child.cells) (map (child_of height) parts) ≡ flat_map (cells_of height) parts
flat_children height [] = refl
flat_children height (x ∷ xs) = ap (λ cs. cells_of height x ++ cs) (flat_children height xs)

-- so it says the part with the page at its top
pub part_said : (form : Form) (pages : PageMap) (number : ℕ) (page entry : List ℕ) → pages.page number ≡ Some page → SaysNode form number page entry → SaysPart form pages number entry
part_said form pages number page entry there node = record { each = at } where
  same : (top : ℕ) (other : List ℕ) → top ≡ number → pages.page top ≡ Some other → other ≡ page
  same top other is has = page_one pages number other page (subst (λ n. pages.page n ≡ Some other) is has) there

  at : (height : ℕ) (shape : Shape height) → IsPart form pages number height shape → SaysChild form entry (child_of height shape)
  at zero shape part =
      let leaf = subst (λ n. IsLeaf form page n shape.cells) part.top (subst (λ p. IsLeaf form p shape.page shape.cells) (same shape.page part.lies.page part.top part.lies.there) part.lies.leaf) in
      subst (λ n. SaysChild form entry (record { page = n; cells = shape.cells })) (sym part.top) (node.leaf shape.cells leaf)
  at (suc height) shape part =
      let inner = subst (λ n. IsInner form page n (map (child_of height) shape.parts)) part.top (subst (λ p. IsInner form p shape.page (map (child_of height) shape.parts)) (same shape.page part.lies.0.page part.top part.lies.0.there) part.lies.0.inner) in
      subst (λ cs. SaysChild form entry (record { page = shape.page; cells = cs })) (flat_children height shape.parts)
      (subst (λ n. SaysChild form entry (record { page = n; cells = flat_map (λ child. child.cells) (map (child_of height) shape.parts) })) (sym part.top) (node.inner (map (child_of height) shape.parts) inner))

-- Walks into a page, and into the part that an entry says.
use Rattle.std.proofs.Common.{◌≡◌, ◌<◌, ◌≤◌, ◌+◌, ◌-◌, ◌*◌, ℕ, zero, suc, Bool, true, false, Some, List, [], ◌∷◌, ◌++◌, length, drop, take, map, slice_get, refl, sym, ap, ◌∙◌, subst, arith}
use Rattle.std.proofs.lemmas.List.{append-nil, length-drop}
use Rattle.rs_page.specs.declared.page.TheConstants.{PAGE_SIZE}
use Rattle.rs_page.specs.declared.header.TheConstants.{HEADER_SIZE}
use Rattle.std.specs.List.{AllByRecursion, AllZip, list_any}
use Rattle.rs_page.specs.Header.{IsHeader}
use Rattle.rs_page.specs.Number.{number_at}
use Rattle.rs_page.specs.declared.header.PageHeader.{PageHeader}
use Rattle.rs_page.specs.declared.header.PageKind.{PageKind}
use Rattle.rs_page.specs.declared.header.PageKind.TheVariants as kind
use Rattle.rs_page.proofs.Headers.{header_is_one}
use Rattle.rs_pages.specs.PageMap.{PageMap, SamePages}
use Rattle.rs_pages.proofs.FreeLists.{page_one}
use Rattle.rs_records.specs.Order.{Ascends}
use Rattle.rs_records.specs.Records.{records}
use Rattle.rs_tree.specs.Form.{Form, child_bytes, joined, form_of}
use Rattle.rs_tree.specs.Calls.{AcceptsParts}
use Rattle.rs_tree.specs.Content.{SaysChild, content, tree_header, HasRecords}
use Rattle.rs_tree.specs.Leading.{leading, leading_in, where_some}
use Rattle.rs_tree.specs.Searches.{wanted, weight}
use Rattle.rs_tree.specs.Shape.{Shape, Lies, cells_of, size_of, child_of}
use Rattle.rs_tree.proofs.Shapes.{lies_same, accepts_joined}
use Rattle.rs_tree.proofs.Weights.{accepted_weight, rejected_wanted, where_some-le}
use Rattle.rs_tree.specs.Layouts.{form_with, entry_bytes}
use Rattle.rs_tree.specs.Node.{IsNode}
use Rattle.rs_tree.specs.declared.layout.Layout.{Layout}
use Rattle.rs_tree.specs.declared.node.Node.TheVariants.{Leaf, Inner}
use Rattle.rs_tree.specs.Asking.{Computes}
use Rattle.rs_tree.specs.Reading.{HasNoNode}
use Rattle.rs_tree.specs.Walking.{IsPart, IsEntryOf, AreEntriesOf, Walked, Walks, WalksEntry, WalksEntries, ReadsOnce, ReadsEntryOnce, ReadsEntriesOnce, HasNoPart, HasNoPartOfEntry, HasNoPartsOfEntries}

-- two headers of one page
one_header : (a b page : List ℕ) (one other : PageHeader) → a ≡ page → b ≡ page → IsHeader a one → IsHeader b other → one ≡ other
one_header a b page one other is also first second =
    header_is_one page one other (subst (λ p. IsHeader p one) is first) (subst (λ p. IsHeader p other) also second)

leaf_not_inner : kind.Leaf ≡ kind.Inner → ⊥
leaf_not_inner e = cc

pub size-some : (height : ℕ) (shape : Shape height) → 1 ≤ size_of height shape
size-some zero shape = omega arith
size-some (suc height) shape = omega arith

module _ (says : List ℕ → List (List ℕ) → Type 0) (layout : Layout) (pages : PageMap) (number : ℕ) (page : List ℕ) where
  abbrev form : Form
  form = form_with says layout

  here : (top : ℕ) → top ≡ number → (other : List ℕ) → pages.page top ≡ Some other → pages.page number ≡ Some page → other ≡ page
  here top is other there lent = page_one pages number other page (subst (λ n. pages.page n ≡ Some other) is there) lent

  -- a page with cells is no inner one
  pub leaf_no_inner : (count height : ℕ) (shape : Shape (suc height)) → IsPart form pages number (suc height) shape → pages.page number ≡ Some page → IsNode page number layout (Leaf count) → ⊥
  leaf_no_inner count height shape part lent node =
      let same = here shape.page part.top part.lies.0.page part.lies.0.there lent in
      let header = one_header page part.lies.0.page page (tree_header kind.Leaf count number) (tree_header kind.Inner (length (map (child_of height) shape.parts)) shape.page) refl same node.0.header part.lies.0.inner.has.header in
      leaf_not_inner (ap (λ (h : PageHeader). h.kind) header)

  -- the cells of a leaf are the records of its page
  pub leaf_cells : (count height : ℕ) (shape : Shape height) → IsPart form pages number height shape → pages.page number ≡ Some page → IsNode page number layout (Leaf count)
      → cells_of height shape ≡ records count layout.width (content page)
  leaf_cells count zero shape part lent node =
      let same = here shape.page part.top part.lies.page part.lies.there lent in
      let header = one_header part.lies.page page page (tree_header kind.Leaf (length shape.cells) shape.page) (tree_header kind.Leaf count number) same refl part.lies.leaf.has.header node.0.header in
      let counted : length shape.cells ≡ count = ap (λ (h : PageHeader). h.count) header in
      sym part.lies.leaf.holds ∙ ap (λ n. records n layout.width (content part.lies.page)) counted ∙ ap (λ p. records count layout.width (content p)) same
  leaf_cells count (suc height) shape part lent node = absurd (leaf_no_inner count height shape part lent node)

  -- a page with entries is no leaf
  pub inner_no_leaf : (count : ℕ) (shape : Shape 0) → IsPart form pages number 0 shape → pages.page number ≡ Some page → IsNode page number layout (Inner count) → ⊥
  inner_no_leaf count shape part lent node =
      let same = here shape.page part.top part.lies.page part.lies.there lent in
      let header = one_header part.lies.page page page (tree_header kind.Leaf (length shape.cells) shape.page) (tree_header kind.Inner count number) same refl part.lies.leaf.has.header node.0.header in
      leaf_not_inner (ap (λ (h : PageHeader). h.kind) header)

  lies_later : (later : PageMap) → SamePages later pages → (height : ℕ) (parts : List (Shape height)) → AllByRecursion (Lies form pages height) parts → AllByRecursion (Lies form later height) parts
  lies_later later same height [] all = tt
  lies_later later same height (x ∷ xs) all = (lies_same form pages later same height x all.0, lies_later later same height xs all.1)

  -- the entries of the page say the parts below it
  pub inner_parts : (count height : ℕ) (shape : Shape (suc height)) (later : PageMap) → SamePages later pages → IsPart form pages number (suc height) shape → pages.page number ≡ Some page → IsNode page number layout (Inner count)
      → AreEntriesOf form later page count height shape.parts
  inner_parts count height shape later kept part lent node =
      let same = here shape.page part.top part.lies.0.page part.lies.0.there lent in
      let header = one_header part.lies.0.page page page (tree_header kind.Inner (length (map (child_of height) shape.parts)) shape.page) (tree_header kind.Inner count number) same refl part.lies.0.inner.has.header node.0.header in
      let counted : length (map (child_of height) shape.parts) ≡ count = ap (λ (h : PageHeader). h.count) header in
      record {
        says = subst (λ n. AllZip (SaysChild form) (records n (entry_bytes layout) (content page)) (map (child_of height) shape.parts)) counted
            (subst (λ p. AllZip (SaysChild form) (records (length (map (child_of height) shape.parts)) (entry_bytes layout) (content p)) (map (child_of height) shape.parts)) same part.lies.0.inner.entries);
        lie = lies_later later kept height shape.parts part.lies.1;
      }

  module _ (low high : List ℕ) (passes : List ℕ → Bool) (before after : List (List ℕ)) (left mid left_after : ℕ) (counted : left ≡ mid + 1) (lent : pages.page number ≡ Some page) where
    -- into a leaf
    pub walks_leaf : (count : ℕ) → IsNode page number layout (Leaf count)
        → (Ascends (records count layout.width (content page)) → after ≡ before ++ wanted low high passes (records count layout.width (content page)))
        → Walks form pages number low high passes before after left mid
    walks_leaf count node found = record { each = at } where
      at : (height : ℕ) (shape : Shape height) → IsPart form pages number height shape → Ascends (cells_of height shape)
          → Walked low high passes (cells_of height shape) (leading low high passes height shape) (1 + height * weight low high passes (cells_of height shape)) before after left mid
      at zero shape part up =
          let same = leaf_cells count 0 shape part lent node in
          record { found = found (subst Ascends same up) ∙ ap (λ cells. before ++ wanted low high passes cells) (sym same); reads = omega arith; least = omega arith }
      at (suc height) shape part up = absurd (leaf_no_inner count height shape part lent node)

    -- into an inner page
    pub walks_inner : (count : ℕ) (later : PageMap) → SamePages later pages → IsNode page number layout (Inner count) → WalksEntries form later page count low high passes before after mid left_after
        → Walks form pages number low high passes before after left left_after
    walks_inner count later kept node walks = record { each = at } where
      at : (height : ℕ) (shape : Shape height) → IsPart form pages number height shape → Ascends (cells_of height shape)
          → Walked low high passes (cells_of height shape) (leading low high passes height shape) (1 + height * weight low high passes (cells_of height shape)) before after left left_after
      at zero shape part up = absurd (inner_no_leaf count shape part lent node)
      at (suc height) shape part up =
          let walked = walks.each height shape.parts (inner_parts count height shape later kept part lent node) up in
          record { found = walked.found; reads = omega (arith, walked.reads); least = omega (arith, walked.least) }

    pub once_leaf : ReadsOnce form pages number left mid
    once_leaf = record { each = λ height shape part. omega (arith, size-some height shape) }

    pub once_inner : (count : ℕ) (later : PageMap) → SamePages later pages → IsNode page number layout (Inner count) → ReadsEntriesOnce form later page count mid left_after → ReadsOnce form pages number left left_after
    once_inner count later kept node once = record { each = at } where
      at : (height : ℕ) (shape : Shape height) → IsPart form pages number height shape → left ≤ left_after + size_of height shape
      at zero shape part = absurd (inner_no_leaf count shape part lent node)
      at (suc height) shape part = omega (arith, once.each height shape.parts (inner_parts count height shape later kept part lent node))

    -- where the entries say no parts, the page is the top of none
    pub no_parts-no_part : (count levels : ℕ) (later : PageMap) → SamePages later pages → IsNode page number layout (Inner count) → HasNoPartsOfEntries form later page count levels mid → HasNoPart form pages number levels left
    no_parts-no_part count levels later kept node none = record { none = at } where
      at : (height : ℕ) (shape : Shape height) → IsPart form pages number height shape → height ≤ levels → size_of height shape ≤ left → ⊥
      at zero shape part high' small = inner_no_leaf count shape part lent node
      at (suc height) shape part high' small = none.none height shape.parts (inner_parts count height shape later kept part lent node) high' (omega arith)

    -- nor where no level is left
    pub no_level-no_part : (count : ℕ) → IsNode page number layout (Inner count) → HasNoPart form pages number 0 left
    no_level-no_part count node = record { none = at } where
      at : (height : ℕ) (shape : Shape height) → IsPart form pages number height shape → height ≤ 0 → size_of height shape ≤ left → ⊥
      at zero shape part high' small = inner_no_leaf count shape part lent node
      at (suc height) shape part high' small = absurd (omega arith)

-- where no page of a tree has the number, it is the top of no part
pub no_node-no_part : (says : List ℕ → List (List ℕ) → Type 0) (layout : Layout) (pages : PageMap) (number levels left : ℕ) → (0 < left → HasNoNode pages number layout) → HasNoPart (form_with says layout) pages number levels left
no_node-no_part says layout pages number levels left none = record { none = at } where
  at : (height : ℕ) (shape : Shape height) → IsPart (form_with says layout) pages number height shape → height ≤ levels → size_of height shape ≤ left → ⊥
  at zero shape part high small =
      (none (omega arith)).none part.lies.page (Leaf (length shape.cells)) (subst (λ n. pages.page n ≡ Some part.lies.page) part.top part.lies.there) (subst (λ n. 1 < n) part.top part.lies.after)
      (subst (λ n. IsNode part.lies.page n layout (Leaf (length shape.cells))) part.top (part.lies.leaf.has, part.lies.leaf.some))
  at (suc height) shape part high small =
      (none (omega arith)).none part.lies.0.page (Inner (length (map (child_of height) shape.parts))) (subst (λ n. pages.page n ≡ Some part.lies.0.page) part.top part.lies.0.there) (subst (λ n. 1 < n) part.top part.lies.0.after)
      (subst (λ n. IsNode part.lies.0.page n layout (Inner (length (map (child_of height) shape.parts)))) part.top (part.lies.0.inner.has, part.lies.0.inner.some))

module _ (form : Form) (pages : PageMap) (entry : List ℕ) where
  part_of : (height : ℕ) (part : Shape height) → IsEntryOf form pages entry height part → IsPart form pages (number_at 0 4 entry) height part
  part_of height part is = record { lies = is.lies; top = sym is.says.page }

  -- into the part of an entry that is accepted
  pub walks_accepted : (low high : List ℕ) (passes : List ℕ → Bool) (before after : List (List ℕ)) (left left_after : ℕ)
      → ((height : ℕ) (part : Shape height) → SaysChild form entry (child_of height part) → list_any passes (cells_of height part) ≡ true)
      → Walks form pages (number_at 0 4 entry) low high passes before after left left_after → WalksEntry form pages entry low high passes before after left left_after
  walks_accepted low high passes before after left left_after accepted walks = record {
    each = λ height part is up.
        let walked = walks.each height part (part_of height part is) up in
        let some = accepted_weight low high passes (cells_of height part) up (accepted height part is.says) in
        let least = where_some-le (wanted low high passes (cells_of height part)) (leading low high passes height part) in
        record { found = walked.found; reads = omega (arith, walked.reads, some); least = omega (arith, walked.least, least) };
  }

  -- past the part of one that is not
  pub walks_rejected : (low high : List ℕ) (passes : List ℕ → Bool) (before : List (List ℕ)) (left : ℕ)
      → ((height : ℕ) (part : Shape height) → SaysChild form entry (child_of height part) → list_any passes (cells_of height part) ≡ false)
      → WalksEntry form pages entry low high passes before before left left
  walks_rejected low high passes before left rejected = record {
    each = λ height part is up.
        let none = rejected_wanted low high passes (cells_of height part) (rejected height part is.says) in
        let least : leading_in low high passes height part ≡ 0 = ap (λ cells. where_some cells (leading low high passes height part)) none in
        record { found = sym (append-nil before) ∙ ap (λ xs. before ++ xs) (sym none); reads = omega arith; least = omega (arith, least) };
  }

  pub once_accepted : (left left_after : ℕ) → ReadsOnce form pages (number_at 0 4 entry) left left_after → ReadsEntryOnce form pages entry left left_after
  once_accepted left left_after once = record { each = λ height part is. once.each height part (part_of height part is) }

  pub once_rejected : (left : ℕ) → ReadsEntryOnce form pages entry left left
  once_rejected left = record { each = λ height part is. omega arith }

  pub no_part-no_entry : (levels left : ℕ) → 0 < levels → HasNoPart form pages (number_at 0 4 entry) (levels - 1) left → HasNoPartOfEntry form pages entry levels left
  no_part-no_entry levels left some none = record { none = λ height part is high small. none.none height part (part_of height part is) (omega arith) small }

-- what is answered of the summary in an entry is so of some cell below it, or of none
pub answer_told : {S : Type 0} (unit : S) (join : S → S → S) (of : List ℕ → S) (says : List ℕ → S → Type 0) (summary width : ℕ) (answers : S → Bool → Type 0) (test : S → Bool) (read : S) (answer : Bool) (entry : List ℕ)
    → ((s : S) → join s unit ≡ s) → AcceptsParts join test → Computes answers test → answers read answer
    → ((s : S) → says (take summary (drop child_bytes entry)) s → read ≡ s)
    → (height : ℕ) (part : Shape height) → SaysChild (form_of says unit join of summary width) entry (child_of height part) → list_any (λ cell. test (of cell)) (cells_of height part) ≡ answer
answer_told unit join of says summary width answers test read answer entry last accepts computes answered reads height part told =
    let same : read ≡ joined unit join of (cells_of height part) = reads (joined unit join of (cells_of height part)) told.summary in
    sym (accepts_joined unit join of test last accepts _ (cells_of height part) told.least) ∙ ap test (sym same) ∙ sym (computes.each read answer answered)

-- how much follows the header of a page
pub content-size : (page : List ℕ) → length page ≡ PAGE_SIZE → length (content page) ≡ 4080
unfolding content
content-size page size = length-drop HEADER_SIZE page ∙ (omega (arith, size))

-- what fits a page's records fits its bytes
pub records_fit : (page : List ℕ) (k : PageKind) (number count width : ℕ) → HasRecords page k number count width → count * width ≤ 4080
records_fit page k number count width has = omega (arith, has.fit, content-size page has.size)

-- the entry as a record of the page's content
pub entry_there : (count width same_width : ℕ) (bytes same_bytes : List ℕ) (index : ℕ) (entry : List ℕ) → width ≡ same_width → bytes ≡ same_bytes
    → slice_get (records count width bytes) index ≡ Some entry → slice_get (records count same_width same_bytes) index ≡ Some entry
entry_there count width same_width bytes same_bytes index entry one other there =
    subst (λ b. slice_get (records count same_width b) index ≡ Some entry) other (subst (λ w. slice_get (records count w bytes) index ≡ Some entry) one there)

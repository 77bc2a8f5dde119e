-- The way to the last cells of a tree, by the last entry of each inner page.
use Rattle.std.proofs.Common.{◌≡◌, ◌<◌, ◌≤◌, ◌+◌, ◌-◌, ℕ, zero, suc, true, Some, List, [], ◌∷◌, ◌++◌, length, take, map, slice_get, refl, sym, ap, ◌∙◌, subst, arith}
use Rattle.std.proofs.lemmas.Cmp.{nat_cmp_total, tied_itself}
use Rattle.std.proofs.lemmas.List.{append_assoc, length-map, take_all}
use Rattle.std.specs.Cmp.Lexicographic.{slice_cmp}
use Rattle.std.specs.List.{flat_map}
use Rattle.std.specs.Ordering.{is_lt, nat_cmp, ordering_then}
use Rattle.std.specs.declared.cmp.Ordering.TheVariants.{Less}
use Rattle.rs_page.specs.Number.{number_at}
use Rattle.rs_pages.specs.PageMap.{PageMap, SamePages}
use Rattle.rs_pages.proofs.Stores.{SamePages-refl}
use Rattle.rs_records.specs.Order.{is_below, Ascends}
use Rattle.rs_records.specs.Records.{records}
use Rattle.rs_records.proofs.RecordLists.{length-records}
use Rattle.rs_tree.specs.Content.{SaysChild, content}
use Rattle.rs_tree.specs.Form.{Form}
use Rattle.rs_tree.specs.Shape.{Shape, Lies, cells_of, child_of, page_of, size_of}
use Rattle.rs_tree.specs.Tree.{IsNoTree, IsTree, Stands}
use Rattle.rs_tree.proofs.Below.{AllBelow, all_below_trans, ascends_across}
use Rattle.rs_tree.proofs.Bounds.{size-le}
use Rattle.rs_tree.proofs.Lists.{all_at, flat_push, inside_has, map_at, sum_upto, take_next, zip_at, zip_lengths}
use Rattle.rs_tree.specs.Layouts.{entry_bytes, form_with}
use Rattle.rs_tree.specs.Node.{IsNode}
use Rattle.rs_tree.specs.declared.layout.Layout.{Layout}
use Rattle.rs_tree.specs.declared.node.Node.TheVariants.{Leaf, Inner}
use Rattle.rs_tree.specs.Reading.{HasNoNode}
use Rattle.rs_tree.specs.Walking.{IsPart}
use Rattle.rs_tree.proofs.Entering.{inner_no_leaf, inner_parts, leaf_cells, no_node-no_part}
use Rattle.rs_cell_versions.specs.Looking.{IsAbove}

-- the last of the cells are those of the part with this page at its top, which has no more pages than so many
pub record EndsIn (form : Form) (pages : PageMap) (number left : ℕ) (cells : List (List ℕ)) : Type 0 where
  pub height : ℕ
  pub part : Shape height
  pub is : IsPart form pages number height part
  pub small : size_of height part ≤ left
  pub before : List (List ℕ)
  pub parted : cells ≡ before ++ cells_of height part

-- the way to the last cells has come to this page, whatever tree stands there
pub record LeadsTo (form : Form) (pages : PageMap) (root number left : ℕ) : Type 0 where
  pub each : (cells : List (List ℕ)) (used : ℕ → ℕ) → IsTree form pages root cells used → EndsIn form pages number left cells

-- a cell is below itself with one byte more
more_above : (x : ℕ) (cell : List ℕ) → slice_cmp nat_cmp cell (cell ++ x ∷ []) ≡ Less
more_above x [] = refl
more_above x (c ∷ cs) = ap (λ o. ordering_then o (slice_cmp nat_cmp cs (cs ++ x ∷ []))) (tied_itself nat_cmp_total c) ∙ more_above x cs

below_more : (x : ℕ) (cell : List ℕ) → is_below cell (cell ++ x ∷ []) ≡ true
unfolding is_below
below_more x cell = ap is_lt (more_above x cell)

-- all cells that ascend are below the last with one byte more
all_below_push : (x : ℕ) (cells : List (List ℕ)) (cell : List ℕ) → AllBelow cell cells → AllBelow (cell ++ x ∷ []) (cells ++ cell ∷ [])
all_below_push x [] cell all = (below_more x cell, tt)
all_below_push x (c ∷ cs) cell all = ((all_below_trans cell (cell ++ x ∷ []) (c ∷ cs) all (below_more x cell)).0, all_below_push x cs cell all.1)

-- a list with a last one is those before it and it
last_apart : {X : Type 0} (xs : List X) (x : X) → slice_get xs (length xs - 1) ≡ Some x → take (length xs - 1) xs ++ x ∷ [] ≡ xs
last_apart [] x there = absurd (cc)
last_apart (y ∷ ys) x there =
    let n : length (y ∷ ys) ≡ suc (length (y ∷ ys) - 1) = omega arith in
    sym (take_next (y ∷ ys) (length (y ∷ ys) - 1) x there) ∙ ap (λ k. take k (y ∷ ys)) (sym n) ∙ take_all (length (y ∷ ys)) (y ∷ ys) (omega arith)

-- what is no page of a tree was none before, on the same pages
pub no_node_before : (old mid : PageMap) (number : ℕ) (layout : Layout) → SamePages mid old → HasNoNode mid number layout → HasNoNode old number layout
no_node_before old mid number layout same none = record { none = λ page node there past is. none.none page node (same.pages number ∙ there) past is }

-- a tree with a root is a part
pub leads_first : (form : Form) (pages : PageMap) (root count : ℕ) → (root ≡ 0 → ⊥) → count ≡ pages.fields.pages → LeadsTo form pages root root count
leads_first form pages root count some counted = record { each = λ cells used tree. at cells used tree.height tree.stands tree.once } where
  at : (cells : List (List ℕ)) (used : ℕ → ℕ) (height : ℕ) → Stands form pages height root cells used → ((n : ℕ) → used n ≤ 1) → EndsIn form pages root count cells
  at cells used zero stands once = absurd (some stands.none)
  at cells used (suc height) stands once =
      let size = size-le form pages height stands.shape stands.lies (λ n. omega (arith, stands.owns n, once n)) in
      record {
        height = height;
        part = stands.shape;
        is = record { lies = stands.lies; top = stands.top };
        small = omega (arith, size, counted);
        before = [];
        parted = sym stands.lists;
      }

-- all cells of the empty tree are below any bound
pub above_none : (form : Form) (pages : PageMap) (root : ℕ) (bound : List ℕ) → root ≡ 0 → IsAbove form pages root bound
above_none form pages root bound is = record { each = λ cells used tree. at cells used tree.height tree.stands } where
  page_after : (height : ℕ) (shape : Shape height) → Lies form pages height shape → 1 < page_of height shape
  page_after zero shape lies = lies.after
  page_after (suc height) shape lies = lies.0.after

  at : (cells : List (List ℕ)) (used : ℕ → ℕ) (height : ℕ) → Stands form pages height root cells used → AllBelow bound cells
  at cells used zero stands = subst (AllBelow bound) (sym stands.no_cells) tt
  at cells used (suc height) stands = absurd (omega (arith, page_after height stands.shape stands.lies, stands.top, is))

module _ (says : List ℕ → List (List ℕ) → Type 0) (layout : Layout) (pages : PageMap) (root number left : ℕ) (leads : LeadsTo (form_with says layout) pages root number left) where
  abbrev form : Form
  form = form_with says layout

  -- nowhere
  pub leads_nowhere : (0 < left → HasNoNode pages number layout) → IsNoTree form pages root
  leads_nowhere none = record {
    none = λ cells used tree.
        let end = leads.each cells used tree in
        (no_node-no_part says layout pages number end.height left none).none end.height end.part end.is (omega arith) end.small;
  }

  module _ (page : List ℕ) (lent : pages.page number ≡ Some page) (count : ℕ) where
    -- to a leaf, whose last cell is the greatest
    pub leads_leaf : IsNode page number layout (Leaf count) → (cell : List ℕ) (x : ℕ) → slice_get (records count layout.width (content page)) (count - 1) ≡ Some cell → IsAbove form pages root (cell ++ x ∷ [])
    leads_leaf node cell x there = record {
      each = λ cells used tree.
          let end = leads.each cells used tree in
          let rs : List (List ℕ) = records count layout.width (content page) in
          let same : cells_of end.height end.part ≡ rs = leaf_cells says layout pages number page count end.height end.part end.is lent node in
          let size : length rs ≡ count = length-records count layout.width (content page) in
          let last : slice_get rs (length rs - 1) ≡ Some cell = ap (λ n. slice_get rs (n - 1)) size ∙ there in
          let parted : end.before ++ (take (length rs - 1) rs ++ cell ∷ []) ≡ cells = ap (λ xs. end.before ++ xs) (last_apart rs cell last ∙ sym same) ∙ sym end.parted in
          let apart : (end.before ++ take (length rs - 1) rs) ++ cell ∷ [] ≡ cells = append_assoc end.before (take (length rs - 1) rs) (cell ∷ []) ∙ parted in
          subst (AllBelow (cell ++ x ∷ [])) apart
          (all_below_push x (end.before ++ take (length rs - 1) rs) cell (ascends_across (end.before ++ take (length rs - 1) rs) cell [] (subst Ascends (sym apart) tree.ascends)));
    }

    -- to an inner page, and from it by its last entry
    pub leads_inner : (mid : ℕ) → left ≡ mid + 1 → IsNode page number layout (Inner count) → (entry : List ℕ) → slice_get (records count (entry_bytes layout) (content page)) (count - 1) ≡ Some entry
        → LeadsTo form pages root (number_at 0 4 entry) mid
    leads_inner mid counted node entry there = record {
      each = λ cells used tree. let end = leads.each cells used tree in at cells end.height end.part end.is end.small end.before end.parted;
    } where
      at : (cells : List (List ℕ)) (height : ℕ) (shape : Shape height) → IsPart form pages number height shape → size_of height shape ≤ left → (before : List (List ℕ)) → cells ≡ before ++ cells_of height shape
          → EndsIn form pages (number_at 0 4 entry) mid cells
      at cells zero shape is small before parted = absurd (inner_no_leaf says layout pages number page count shape is lent node)
      at cells (suc height) shape is small before parted =
          let entries = inner_parts says layout pages number page count height shape pages (SamePages-refl pages) is lent node in
          let parts : List (Shape height) = shape.parts in
          let rs : List (List ℕ) = records count (entry_bytes layout) (content page) in
          let sizes = zip_lengths (SaysChild form) rs (map (child_of height) parts) entries.says in
          let size : length parts ≡ count = omega (arith, sizes, length-records count (entry_bytes layout) (content page), length-map parts (child_of height)) in
          let some = node.1 in
          let last = inside_has parts (length parts - 1) (omega arith) in
          let apart = last_apart parts last.0 last.1 in
          let placed : slice_get (map (child_of height) parts) (count - 1) ≡ Some (child_of height last.0) = ap (λ n. slice_get (map (child_of height) parts) (n - 1)) (sym size) ∙ map_at (child_of height) parts (length parts - 1) last.0 last.1 in
          let told : SaysChild form entry (child_of height last.0) = zip_at (SaysChild form) rs (map (child_of height) parts) (count - 1) entry (child_of height last.0) entries.says there placed in
          let fewer = sum_upto (size_of height) parts (length parts - 1) last.0 last.1 in
          let flat : flat_map (cells_of height) parts ≡ flat_map (cells_of height) (take (length parts - 1) parts) ++ cells_of height last.0 =
          ap (flat_map (cells_of height)) (sym apart) ∙ flat_push (cells_of height) (take (length parts - 1) parts) last.0 in
          record {
            height = height;
            part = last.0;
            is = record { lies = all_at (Lies form pages height) parts (length parts - 1) last.0 entries.lie last.1; top = sym told.page };
            small = omega (arith, fewer, small, counted);
            before = before ++ flat_map (cells_of height) (take (length parts - 1) parts);
            parted = parted ∙ ap (λ xs. before ++ xs) flat ∙ sym (append_assoc before (flat_map (cells_of height) (take (length parts - 1) parts)) (cells_of height last.0));
          }

-- Parts that are freed one after another, then the page above them.
use Rattle.std.proofs.Common.{◌≡◌, ◌<◌, ◌≤◌, ◌+◌, ◌-◌, ◌^◌, ℕ, zero, suc, false, Some, List, [], ◌∷◌, length, take, drop, map, slice_get, refl, sym, ap, ◌∙◌, subst, inl, inr, arith}
use Rattle.std.proofs.Math.Nat.{pow-le-pow_right}
use Rattle.std.proofs.lemmas.Bool.{cases_lt}
use Rattle.std.proofs.lemmas.List.{take_all, length-map}
use Rattle.std.proofs.lemmas.List.Sums.{sum_by_push, sum_by-cons}
use Rattle.std.specs.List.{sum_by}
use Rattle.rs_page.specs.Number.{number_at}
use Rattle.rs_page.specs.PageBytes.{is_free, IsFit}
use Rattle.rs_page.specs.declared.file_header.FileHeader.{FileHeader}
use Rattle.rs_pages.specs.PageMap.{PageMap, SamePages, in_use}
use Rattle.rs_pages.specs.Store.{Store}
use Rattle.rs_pages.specs.Uses.{ReleasesPage}
use Rattle.rs_pages.proofs.FreeLists.{free_list_is_shorter_than_the_count}
use Rattle.rs_pages.proofs.Stores.{SamePages-refl, used_there}
use Rattle.rs_records.specs.Records.{records}
use Rattle.rs_records.proofs.RecordLists.{length-records}
use Rattle.rs_page_owners.specs.Counts.{one_at, ◌&◌, no_pages}
use Rattle.rs_page_owners.specs.Owners.{Shares, Keeps, Moves}
use Rattle.rs_page_owners.proofs.Moving.{one_at-same, shares_same, keeps_trans, releases-moves, same_pages-moves, moves_same}
use Rattle.rs_tree.specs.Calls.{IsNotShared}
use Rattle.rs_tree.specs.Content.{SaysChild, content}
use Rattle.rs_tree.specs.Form.{Form, entry_width}
use Rattle.rs_tree.specs.Shape.{Shape, Lies, page_of, uses, size_of, child_of}
use Rattle.rs_tree.specs.Tree.{IsTree, Stands}
use Rattle.rs_tree.proofs.Bounds.{size-le, size-ge}
use Rattle.rs_tree.proofs.Framed.{lies_kept}
use Rattle.rs_tree.proofs.Lists.{take_next, sum_upto, zip_lengths}
use Rattle.rs_tree.specs.Layouts.{form_with}
use Rattle.rs_tree.specs.Node.{IsNode}
use Rattle.rs_tree.specs.declared.layout.Layout.{Layout}
use Rattle.rs_tree.specs.declared.node.Node.TheVariants.{Leaf, Inner}
use Rattle.rs_tree.specs.Reading.{HasNoNode}
use Rattle.rs_tree.specs.Walking.{IsPart, IsEntryOf, AreEntriesOf}
use Rattle.rs_tree.proofs.Entering.{leaf_no_inner, inner_no_leaf, inner_parts, no_node-no_part as no_part}
use Rattle.rs_tree.proofs.Entries.{part_at}
use Rattle.rs_tree.proofs.Loading.{node_fits, node_used}
use Rattle.rs_page_owners.proofs.Working.{NotReleased}
use Rattle.rs_tree_whole.specs.Clearing.{ClearedBeside, ClearsPart, ClearsEntries, HasNoOwnPart, HasNoOwnParts, uses_of_all}

-- what is kept of two owners is kept of one
keeps_of : (used other : ℕ → ℕ) (old new : PageMap) → Keeps (used & other) old new → Keeps other old new
keeps_of used other old new keeps = record {
  pages = λ n own. keeps.pages n (omega arith);
  no_fewer = keeps.no_fewer;
  catalogue = keeps.catalogue;
  catalogue_length = keeps.catalogue_length;
}

-- a list's sum is that of the first ones, of the next one and of the rest
sum_around : {X : Type 0} (f : X → ℕ) (xs : List X) (k : ℕ) (x : X) → slice_get xs k ≡ Some x → sum_by f xs ≡ sum_by f (take k xs) + (f x + sum_by f (drop (suc k) xs))
sum_around f [] k x e = absurd (cc)
sum_around f (y ∷ ys) zero x e = let same : f y ≡ f x = ap f (let s : y ≡ x = cc in s) in omega (arith, same, sum_by-cons f y ys)
sum_around f (y ∷ ys) (suc k) x e = omega (arith, sum_around f ys k x e, sum_by-cons f y ys, sum_by-cons f y (take k ys))

sum_next : {X : Type 0} (f : X → ℕ) (xs : List X) (k : ℕ) (x : X) → slice_get xs k ≡ Some x → sum_by f (take (suc k) xs) ≡ sum_by f (take k xs) + f x
sum_next f xs k x e = ap (sum_by f) (take_next xs k x e) ∙ sum_by_push f (take k xs) x

module _ (form : Form) (old : PageMap) (page : List ℕ) (count : ℕ) where
  -- the first parts are free
  pub record ClearsSome (now : PageMap) (index left left_now : ℕ) : Type 0 where
    pub each : (height : ℕ) (parts : List (Shape height)) (others : ℕ → ℕ) → AreEntriesOf form old page count height parts → Shares old (uses_of_all height (take index parts) & others)
        → ClearedBeside old now (uses_of_all height (take index parts)) others (sum_by (size_of height) (take index parts)) left left_now

  pub clears_none : (left : ℕ) → ClearsSome old 0 left left
  clears_none left = record {
    each = λ height parts others are shares. record {
      moves = record {
        shares = shares;
        keeps = record { pages = λ n own. refl; no_fewer = omega arith; catalogue = refl; catalogue_length = refl };
      };
      reads = omega arith;
    };
  }

  -- those before the next one are free, so it lies where it did
  module _ (now : PageMap) (index left left_now : ℕ) (some : ClearsSome now index left left_now) (height : ℕ) (parts : List (Shape height)) (others : ℕ → ℕ)
      (are : AreEntriesOf form old page count height parts) (entry : List ℕ) (there : slice_get (records count (entry_width form) (content page)) index ≡ Some entry) where
    abbrev next_part : (part : Shape height) × (slice_get parts index ≡ Some part) × IsEntryOf form old entry height part
    next_part = part_at form old page count height parts index entry are there

    before_next : Shares old (uses_of_all height (take index parts) & (uses height next_part.0 & others))
        → ClearedBeside old now (uses_of_all height (take index parts)) (uses height next_part.0 & others) (sum_by (size_of height) (take index parts)) left left_now
    before_next shares = some.each height parts (uses height next_part.0 & others) are shares

    next_lies : ClearedBeside old now (uses_of_all height (take index parts)) (uses height next_part.0 & others) (sum_by (size_of height) (take index parts)) left left_now
        → IsPart form now (number_at 0 4 entry) height next_part.0
    next_lies cleared = record {
      lies = lies_kept form old now cleared.moves.keeps.no_fewer (uses height next_part.0 & others) cleared.moves.keeps.pages height next_part.0 (λ n. omega arith) next_part.2.lies;
      top = sym next_part.2.says.page;
    }

  pub clears_next : (now new : PageMap) (index : ℕ) (entry : List ℕ) (left left_now left_new : ℕ) → slice_get (records count (entry_width form) (content page)) index ≡ Some entry
      → ClearsSome now index left left_now → ClearsPart form now new (number_at 0 4 entry) left_now left_new → ClearsSome new (suc index) left left_new
  clears_next now new index entry left left_now left_new there some next = record { each = at } where
    at : (height : ℕ) (parts : List (Shape height)) (others : ℕ → ℕ) → AreEntriesOf form old page count height parts → Shares old (uses_of_all height (take (suc index) parts) & others)
        → ClearedBeside old new (uses_of_all height (take (suc index) parts)) others (sum_by (size_of height) (take (suc index) parts)) left left_new
    at height parts others are shares =
        let part = part_at form old page count height parts index entry are there in
        let used : (n : ℕ) → uses_of_all height (take (suc index) parts) n ≡ uses_of_all height (take index parts) n + uses height part.0 n =
        λ n. sum_next (λ one. uses height one n) parts index part.0 part.1 in
        let size = sum_next (size_of height) parts index part.0 part.1 in
        let was = before_next now index left left_now some height parts others are entry there
        (shares_same old (uses_of_all height (take (suc index) parts) & others) (uses_of_all height (take index parts) & (uses height part.0 & others)) (λ n. omega (arith, used n)) shares) in
        let is = next.each height part.0 others (next_lies now index left left_now some height parts others are entry there was)
        (shares_same now (no_pages & (uses height part.0 & others)) (uses height part.0 & others) (λ n. omega arith) was.moves.shares) in
        record {
          moves = record {
            shares = is.moves.shares;
            keeps = keeps_trans others old now new (keeps_of (uses height part.0) others old now was.moves.keeps) is.moves.keeps;
          };
          reads = omega (arith, was.reads, is.reads, size);
        }

  -- all parts are free
  pub clears_all : (now : PageMap) (left left_now : ℕ) → ClearsSome now count left left_now → ClearsEntries form old now page count left left_now
  clears_all now left left_now some = record {
    each = λ height parts others are shares.
        let whole : take count parts ≡ parts = all_parts height parts are in
        subst (λ ps. ClearedBeside old now (uses_of_all height ps) others (sum_by (size_of height) ps) left left_now) whole
        (some.each height parts others are (subst (λ ps. Shares old (uses_of_all height ps & others)) (sym whole) shares));
  } where
    all_parts : (height : ℕ) (parts : List (Shape height)) → AreEntriesOf form old page count height parts → take count parts ≡ parts
    all_parts height parts are = take_all count parts (omega (arith, zip_lengths (SaysChild form) (records count (entry_width form) (content page)) (map (child_of height) parts) are.says, length-map parts (child_of height), length-records count (entry_width form) (content page)))

  -- a part that isn't there shows that the parts aren't
  pub no_part-no_parts : (now : PageMap) (levels index : ℕ) (entry : List ℕ) (left left_now : ℕ) → slice_get (records count (entry_width form) (content page)) index ≡ Some entry
      → ClearsSome now index left left_now → 0 < levels → HasNoOwnPart form now (number_at 0 4 entry) (levels - 1) left_now → HasNoOwnParts form old page count levels left
  no_part-no_parts now levels index entry left left_now there some more none = record { none = at } where
    at : (height : ℕ) (parts : List (Shape height)) (others : ℕ → ℕ) → AreEntriesOf form old page count height parts → suc height ≤ levels
        → sum_by (size_of height) parts ≤ left → Shares old (uses_of_all height parts & others) → ⊥
    at height parts others are high small shares =
        let part = part_at form old page count height parts index entry are there in
        let rest : ℕ → ℕ = uses_of_all height (drop (suc index) parts) & others in
        let used : (n : ℕ) → uses_of_all height parts n ≡ uses_of_all height (take index parts) n + (uses height part.0 n + uses_of_all height (drop (suc index) parts) n) =
        λ n. sum_around (λ one. uses height one n) parts index part.0 part.1 in
        let was = before_next now index left left_now some height parts rest are entry there
        (shares_same old (uses_of_all height parts & others) (uses_of_all height (take index parts) & (uses height part.0 & rest)) (λ n. omega (arith, used n)) shares) in
        none.none height part.0 rest (next_lies now index left left_now some height parts rest are entry there was) (omega arith)
        (omega (arith, was.reads, small, sum_upto (size_of height) parts index part.0 part.1))
        (shares_same now (no_pages & (uses height part.0 & rest)) (uses height part.0 & rest) (λ n. omega arith) was.moves.shares)

module _ (says : List ℕ → List (List ℕ) → Type 0) (layout : Layout) (old : PageMap) (number : ℕ) (page : List ℕ) where
  abbrev form : Form
  form = form_with says layout

  -- what is below the top is free, and the top is there with its bytes
  pub record ClearsBelow (now : PageMap) (left left_now : ℕ) : Type 0 where
    pub each : (height : ℕ) (shape : Shape height) (others : ℕ → ℕ) → IsPart form old number height shape → Shares old (uses height shape & others)
        → Shares now (one_at number & others) × Keeps (one_at number & others) old now × (left ≤ left_now + size_of height shape)

  same_keeps : (now : PageMap) (others : ℕ → ℕ) → SamePages now old → Keeps others old now
  same_keeps now others same = record {
    pages = λ n own. same.pages n;
    no_fewer = omega (arith, ap (λ (f : FileHeader). f.pages) same.fields);
    catalogue = ap (λ (f : FileHeader). f.catalogue) same.fields;
    catalogue_length = ap (λ (f : FileHeader). f.catalogue_length) same.fields;
  }

  same_shares : (now : PageMap) (used : ℕ → ℕ) → SamePages now old → Shares old used → Shares now used
  same_shares now used same shares =
      let moved = (same_pages-moves old now used same).beside no_pages (shares_same old used (used & no_pages) (λ n. omega arith) shares) in
      shares_same now (used & no_pages) used (λ n. omega arith) moved.shares

  pub clears_leaf : (now : PageMap) (count left left_now : ℕ) → old.page number ≡ Some page → IsNode page number layout (Leaf count) → SamePages now old → left ≡ left_now + 1
      → ClearsBelow now left left_now
  clears_leaf now count left left_now lent node same counted = record { each = at } where
    at : (height : ℕ) (shape : Shape height) (others : ℕ → ℕ) → IsPart form old number height shape → Shares old (uses height shape & others)
        → Shares now (one_at number & others) × Keeps (one_at number & others) old now × (left ≤ left_now + size_of height shape)
    at zero shape others part shares = (
      same_shares now (one_at number & others) same (shares_same old (uses 0 shape & others) (one_at number & others) (λ n. ap (λ top. one_at top n + others n) part.top) shares),
      same_keeps now (one_at number & others) same,
      omega arith,
    )
    at (suc height) shape others part shares = absurd (leaf_no_inner says layout old number page count height shape part lent node)

  module _ (mid : PageMap) (count left left_mid : ℕ) (lent : old.page number ≡ Some page) (node : IsNode page number layout (Inner count)) (same : SamePages mid old) (counted : left ≡ left_mid + 1) where
    top_shares : (height : ℕ) (shape : Shape (suc height)) (others : ℕ → ℕ) → IsPart form old number (suc height) shape → Shares old (uses (suc height) shape & others)
        → Shares mid (uses_of_all height shape.parts & (one_at number & others))
    top_shares height shape others part shares =
        same_shares mid (uses_of_all height shape.parts & (one_at number & others)) same
        (shares_same old (uses (suc height) shape & others) (uses_of_all height shape.parts & (one_at number & others)) (λ n. omega (arith, ap (λ top. one_at top n) part.top)) shares)

    pub clears_inner : (now : PageMap) (left_now : ℕ) → ClearsEntries form mid now page count left_mid left_now → ClearsBelow now left left_now
    clears_inner now left_now clears = record { each = at } where
      at : (height : ℕ) (shape : Shape height) (others : ℕ → ℕ) → IsPart form old number height shape → Shares old (uses height shape & others)
          → Shares now (one_at number & others) × Keeps (one_at number & others) old now × (left ≤ left_now + size_of height shape)
      at zero shape others part shares = absurd (inner_no_leaf says layout old number page count shape part lent node)
      at (suc height) shape others part shares =
          let cleared = clears.each height shape.parts (one_at number & others) (inner_parts says layout old number page count height shape mid same part lent node) (top_shares height shape others part shares) in (
            shares_same now (no_pages & (one_at number & others)) (one_at number & others) (λ n. omega arith) cleared.moves.shares,
            keeps_trans (one_at number & others) old mid now (same_keeps mid (one_at number & others) same) cleared.moves.keeps,
            omega (arith, cleared.reads),
          )

    -- where the entries say no parts of their own, the page is the top of none
    pub no_parts-no_part : (levels : ℕ) → HasNoOwnParts form mid page count levels left_mid → HasNoOwnPart form old number levels left
    no_parts-no_part levels none = record { none = at } where
      at : (height : ℕ) (shape : Shape height) (others : ℕ → ℕ) → IsPart form old number height shape → height ≤ levels → size_of height shape ≤ left → Shares old (uses height shape & others) → ⊥
      at zero shape others part high small shares = inner_no_leaf says layout old number page count shape part lent node
      at (suc height) shape others part high small shares =
          none.none height shape.parts (one_at number & others) (inner_parts says layout old number page count height shape mid same part lent node) high (omega arith) (top_shares height shape others part shares)

  -- the top is released
  pub clears_top : (tied : Type 0) (mid new : Store) (left left_new : ℕ) → tied → ClearsBelow mid.map left left_new → ReleasesPage tied number mid new → ClearsPart form old new.map number left left_new
  clears_top tied mid new left left_new is below releases = record {
    each = λ height shape others part shares.
        let was = below.each height shape others part shares in
        let used : in_use mid.map number ≡ Some releases.was = used_there mid.map number releases.was (releases.lends.bytes is) releases.lends.in_use in
        let moved = (releases-moves mid.map new.map number releases.was releases.past releases.lends.below used (releases.releases is)).beside others was.0 in
        record {
          moves = record { shares = moved.shares; keeps = keeps_trans others old mid.map new.map (keeps_of (one_at number) others old mid.map was.1) moved.keeps };
          reads = was.2;
        };
  }

  -- the page at the top is in use and fits its number
  top_fits : (height : ℕ) (shape : Shape height) (pages : ℕ) → IsPart form old number height shape → (top : List ℕ) × (old.page number ≡ Some top) × (is_free top ≡ false) × IsFit top number pages × (1 < number) × (number < old.fields.pages)
  top_fits zero shape pages part =
      let node = subst (λ n. IsNode part.lies.page n layout (Leaf (length shape.cells))) part.top (part.lies.leaf.has, part.lies.leaf.some) in
      let past = subst (λ n. 1 < n) part.top part.lies.after in (
        part.lies.page,
        subst (λ n. old.page n ≡ Some part.lies.page) part.top part.lies.there,
        node_used part.lies.page number layout (Leaf (length shape.cells)) node,
        node_fits part.lies.page number pages layout (Leaf (length shape.cells)) past node,
        past,
        subst (λ n. n < old.fields.pages) part.top part.lies.below,
      )
  top_fits (suc height) shape pages part =
      let count : ℕ = length (map (child_of height) shape.parts) in
      let node = subst (λ n. IsNode part.lies.0.page n layout (Inner count)) part.top (part.lies.0.inner.has, part.lies.0.inner.some) in
      let past = subst (λ n. 1 < n) part.top part.lies.0.after in (
        part.lies.0.page,
        subst (λ n. old.page n ≡ Some part.lies.0.page) part.top part.lies.0.there,
        node_used part.lies.0.page number layout (Inner count) node,
        node_fits part.lies.0.page number pages layout (Inner count) past node,
        past,
        subst (λ n. n < old.fields.pages) part.top part.lies.0.below,
      )

  -- the top is not released only where it is none
  pub not_released-no_part : (tied : Type 0) (mid : Store) (levels left left_mid : ℕ) → tied → ClearsBelow mid.map left left_mid → NotReleased tied number mid → HasNoOwnPart form old number levels left
  not_released-no_part tied mid levels left left_mid is below refused = record { none = at } where
    at : (height : ℕ) (shape : Shape height) (others : ℕ → ℕ) → IsPart form old number height shape → height ≤ levels → size_of height shape ≤ left → Shares old (uses height shape & others) → ⊥
    at height shape others part high small shares =
        let was = below.each height shape others part shares in
        let top = top_fits height shape mid.map.fields.pages part in
        let kept : mid.map.page number ≡ old.page number = was.1.pages number (omega (arith, one_at-same number)) in
        elim refused [
          | inl none ↦ (none is).none top.0 (used_there mid.map number top.0 (kept ∙ top.1) top.2) top.3
          | inr (inl one) ↦ absurd (omega (arith, top.4, one))
          | inr (inr long) ↦ absurd (omega (arith, free_list_is_shorter_than_the_count mid.map was.0.free (omega (arith, top.5, was.1.no_fewer)) was.0.list))
        ]

-- where no page of a tree has the number, it is the top of no part
pub no_node-no_part : (says : List ℕ → List (List ℕ) → Type 0) (layout : Layout) (pages : PageMap) (number levels left : ℕ) → (0 < left → HasNoNode pages number layout) → HasNoOwnPart (form_with says layout) pages number levels left
no_node-no_part says layout pages number levels left none =
    let bare = no_part says layout pages number levels left none in
    record { none = λ height shape others part high small shares. bare.none height shape part high small }

-- nor is a page with entries where no level is left
pub no_level-no_part : (says : List ℕ → List (List ℕ) → Type 0) (layout : Layout) (pages : PageMap) (number levels left : ℕ) (page : List ℕ) (count : ℕ) → levels ≡ 0 → pages.page number ≡ Some page
    → IsNode page number layout (Inner count) → HasNoOwnPart (form_with says layout) pages number levels left
no_level-no_part says layout pages number levels left page count ground lent node = record { none = at } where
  at : (height : ℕ) (shape : Shape height) (others : ℕ → ℕ) → IsPart (form_with says layout) pages number height shape → height ≤ levels → size_of height shape ≤ left → Shares pages (uses height shape & others) → ⊥
  at zero shape others part high small shares = inner_no_leaf says layout pages number page count shape part lent node
  at (suc height) shape others part high small shares = absurd (omega arith)

page_after : (form : Form) (pages : PageMap) (height : ℕ) (shape : Shape height) → Lies form pages height shape → 1 < page_of height shape
page_after tree pages zero shape lies = lies.after
page_after tree pages (suc height) shape lies = lies.0.after

module _ (form : Form) (old : PageMap) (root : ℕ) where
  -- the empty tree has no pages
  pub clears_empty : root ≡ 0 → (cells : List (List ℕ)) (used : ℕ → ℕ) → IsTree form old root cells used → Moves old old used no_pages
  clears_empty is cells used tree = at tree.height tree.stands where
    at : (height : ℕ) → Stands form old height root cells used → Moves old old used no_pages
    at zero stands = moves_same old old no_pages no_pages used no_pages stands.no_pages (λ n. refl) (same_pages-moves old old no_pages (SamePages-refl old))
    at (suc height) stands = absurd (omega (arith, page_after form old height stands.shape stands.lies, stands.top, is))

  -- the part with the root at its top is the tree
  pub clears_tree : (new : PageMap) (count left : ℕ) → (root ≡ 0 → ⊥) → ClearsPart form old new root count left → (cells : List (List ℕ)) (used : ℕ → ℕ) → IsTree form old root cells used → Moves old new used no_pages
  clears_tree new count left some clears cells used tree = at tree.height tree.stands where
    at : (height : ℕ) → Stands form old height root cells used → Moves old new used no_pages
    at zero stands = absurd (some stands.none)
    at (suc height) stands = record {
      beside = λ others shares.
          let cleared = clears.each height stands.shape others (record { lies = stands.lies; top = stands.top })
          (shares_same old (used & others) (uses height stands.shape & others) (λ n. omega (arith, stands.owns n)) shares) in
          record { shares = cleared.moves.shares; keeps = cleared.moves.keeps };
    }

  -- where the root is the top of no part with pages of its own, no such tree stands there
  pub no_part-not_shared : (count : ℕ) → (root ≡ 0 → ⊥) → count ≡ old.fields.pages → count < 4294967296 → HasNoOwnPart form old root 31 count → IsNotShared form old root
  no_part-not_shared count some counted small none = record { none = λ cells used others tree shares. at cells used others tree.height tree.stands tree.once shares } where
    at : (cells : List (List ℕ)) (used others : ℕ → ℕ) (height : ℕ) → Stands form old height root cells used → ((n : ℕ) → used n ≤ 1) → Shares old (used & others) → ⊥
    at cells used others zero stands once shares = some stands.none
    at cells used others (suc height) stands once shares =
        let own : (n : ℕ) → uses height stands.shape n ≤ 1 = λ n. omega (arith, stands.owns n, once n) in
        let size = size-le form old height stands.shape stands.lies own in
        let least = size-ge form old height stands.shape stands.lies in
        elim (cases_lt height 32) [
          | inl less ↦ none.none height stands.shape others (record { lies = stands.lies; top = stands.top }) (omega arith) (omega (arith, size, counted))
              (shares_same old (used & others) (uses height stands.shape & others) (λ n. omega (arith, stands.owns n)) shares)
          | inr more ↦
              let power : 4294967296 ≤ 2 ^ height = pow-le-pow_right (omega arith) more in
              absurd (omega (arith, power, least, size, counted, small))
        ]

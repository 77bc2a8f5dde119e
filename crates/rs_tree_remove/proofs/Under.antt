-- A cell taken out of one of the parts below a page.
use Rattle.std.proofs.Common.{◌≡◌, ◌<◌, ◌≤◌, ◌+◌, ◌-◌, ℕ, zero, suc, Some, List, [], ◌∷◌, ◌++◌, take, drop, slice_get, sym, ap, ◌∙◌, subst, arith}
use Rattle.std.specs.List.{AllByRecursion, Contains, flat_map}
use Rattle.rs_page.specs.Number.{number_at}
use Rattle.rs_pages.specs.PageMap.{PageMap}
use Rattle.rs_pages.proofs.FreeLists.{page_one}
use Rattle.rs_pages.proofs.Stores.{SamePages-refl}
use Rattle.rs_page_owners.specs.Counts.{one_at, ◌&◌}
use Rattle.rs_page_owners.specs.Owners.{Shares, Moves}
use Rattle.rs_records.specs.Order.{Ascends}
use Rattle.rs_records.specs.Records.{records, keys}
use Rattle.rs_tree.specs.Cells.{without_cell}
use Rattle.rs_tree.specs.Content.{content}
use Rattle.rs_tree.specs.Form.{Form, entry_width, least_from}
use Rattle.rs_tree.specs.Shape.{Shape, Lies, cells_of, uses}
use Rattle.rs_tree.proofs.Parts.{leasts_ascend}
use Rattle.rs_tree.proofs.Shapes.{entries_leasts, part_ascends}
use Rattle.rs_tree.specs.Layouts.{form_with}
use Rattle.rs_tree.specs.Node.{IsNode}
use Rattle.rs_tree.specs.declared.layout.Layout.{Layout}
use Rattle.rs_tree.specs.declared.node.Node.TheVariants.{Inner}
use Rattle.rs_tree.specs.Walking.{IsPart, IsEntryOf, AreEntriesOf}
use Rattle.rs_tree.proofs.Entering.{inner_no_leaf, inner_parts}
use Rattle.rs_tree.proofs.Entries.{part_at}
use Rattle.rs_tree_edit.specs.Choosing.{IsEntryFor}
use Rattle.rs_tree_edit.specs.Parts.{TakesPlace, uses_all}
use Rattle.rs_tree_edit.proofs.Between.{LiesBetween, lies_between, among_between, among_all}
use Rattle.rs_tree_edit.proofs.Pieces.{flat_at, flat_between}
use Rattle.rs_tree_edit.proofs.Replacing.{part_replaced, part_shares, beside_part}
use Rattle.rs_tree_remove.specs.Finishing.{GaveWay, Finishes, NoneGaveWay}
use Rattle.rs_tree_remove.specs.Leaving.{LeavesOne, IsLeft, IsRemoved, RemovesPart, HasNoOwnPart}
use Rattle.rs_tree_remove.specs.declared.answer.Removed.{Removed}
use Rattle.rs_tree_remove.specs.declared.answer.Removed.TheVariants.{Missing, Kept, Gone, Single}
use Rattle.rs_tree_remove.proofs.Leaves.{without_between}
use Rattle.rs_tree_remove.specs.Mending.{IsLonely, Mends, NoneLonely}
use Rattle.rs_tree_remove.proofs.Passing.{out_removed}

module _ (says : List ℕ → List (List ℕ) → Type 0) (layout : Layout) (old : PageMap) (number : ℕ) (page : List ℕ) (count at below : ℕ) (cell entry : List ℕ) (node : IsNode page number layout (Inner count)) (lent : old.page number ≡ Some page)
    (chosen : Ascends (keys (least_from layout.summary) (records count (entry_width (form_with says layout)) (content page))) → IsEntryFor (keys (least_from layout.summary) (records count (entry_width (form_with says layout)) (content page))) cell at)
    (there : slice_get (records count (entry_width (form_with says layout)) (content page)) at ≡ Some entry) (gives : below ≡ number_at 0 4 entry) where
  abbrev form : Form
  form = form_with says layout

  module _ (height : ℕ) (shape : Shape (suc height)) (others : ℕ → ℕ) (whole : IsPart form old number (suc height) shape) (up : Ascends (cells_of (suc height) shape)) (shares : Shares old (uses (suc height) shape & others)) where
    abbrev are : AreEntriesOf form old page count height shape.parts
    are = inner_parts says layout old number page count height shape old (SamePages-refl old) whole lent node

    abbrev found : (part : Shape height) × (slice_get shape.parts at ≡ Some part) × IsEntryOf form old entry height part
    found = part_at form old page count height shape.parts at entry are there

    abbrev part : Shape height
    part = found.0

    pub part_is : IsPart form old below height part
    part_is = record { lies = found.2.lies; top = sym found.2.says.page ∙ sym gives }

    pub part_up : Ascends (cells_of height part)
    part_up = part_ascends (cells_of height) shape.parts at part up found.1

    pub part_shared : Shares old (uses height part & (beside_part height shape at & others))
    part_shared = part_shares old height shape at part others found.1 shares

    between : LiesBetween cell (flat_map (cells_of height) (take at shape.parts)) (flat_map (cells_of height) (drop (suc at) shape.parts))
    between =
        let rs : List (List ℕ) = records count (entry_width form) (content page) in
        let ls : List (List ℕ) = keys (least_from layout.summary) rs in
        let leasts = entries_leasts form height rs shape.parts are.says in
        lies_between (cells_of height) ls shape.parts cell at part leasts up (chosen (leasts_ascend (cells_of height) ls shape.parts leasts up)) found.1

    cells_are : cells_of (suc height) shape ≡ flat_map (cells_of height) (take at shape.parts) ++ (cells_of height part ++ flat_map (cells_of height) (drop (suc at) shape.parts))
    cells_are = flat_at (cells_of height) shape.parts at part found.1

    pub some_whole : Contains (cells_of height part) cell → Contains (cells_of (suc height) shape) cell
    some_whole has = subst (λ cs. Contains cs cell) (sym cells_are) (among_all cell (flat_map (cells_of height) (take at shape.parts)) (cells_of height part) (flat_map (cells_of height) (drop (suc at) shape.parts)) has)

    pub some_part : Contains (cells_of (suc height) shape) cell → Contains (cells_of height part) cell
    some_part has = among_between cell (flat_map (cells_of height) (take at shape.parts)) (cells_of height part) (flat_map (cells_of height) (drop (suc at) shape.parts)) between (subst (λ cs. Contains cs cell) cells_are has)

    pub without_whole : flat_map (cells_of height) (take at shape.parts) ++ (without_cell cell (cells_of height part) ++ flat_map (cells_of height) (drop (suc at) shape.parts)) ≡ without_cell cell (cells_of (suc height) shape)
    without_whole = sym (ap (without_cell cell) cells_are ∙ without_between cell (flat_map (cells_of height) (take at shape.parts)) (cells_of height part) (flat_map (cells_of height) (drop (suc at) shape.parts)) between)

    page_is : whole.lies.0.page ≡ page
    page_is = page_one old number whole.lies.0.page page (subst (λ n. old.page n ≡ Some whole.lies.0.page) whole.top whole.lies.0.there) lent

    -- the part gave way
    pub gave : (mid : PageMap) (tops : List ℕ) (place : TakesPlace form old mid height (uses height part) tops (without_cell cell (cells_of height part))) → GaveWay form old mid number page count at 1 tops height (uses (suc height) shape) others shape.parts place.parts
    gave mid tops place =
        let reparts = part_replaced form old mid height shape at part tops (without_cell cell (cells_of height part)) others whole.lies found.1 shares place in
        let next : suc at ≡ at + 1 = omega arith in
        record {
          after = subst (λ n. 1 < n) whole.top reparts.after;
          below = subst (λ n. n < mid.fields.pages) whole.top reparts.below;
          has = node.0;
          two = node.1;
          was = lent;
          there = ap mid.page (sym whole.top) ∙ reparts.there ∙ ap (λ (p : List ℕ). Some p) page_is;
          says = are.says;
          lie = subst (λ n. AllByRecursion (Lies form mid height) (take at shape.parts ++ (place.parts ++ drop n shape.parts))) next reparts.lie;
          top = place.top;
          shares = shares;
          moves = subst (λ n. Moves old mid (uses (suc height) shape) (one_at number & uses_all height (take at shape.parts ++ (place.parts ++ drop n shape.parts)))) next
              (subst (λ n. Moves old mid (uses (suc height) shape) (one_at n & uses_all height (take at shape.parts ++ (place.parts ++ drop (suc at) shape.parts)))) whole.top reparts.moves);
        }

    pub gave_cells : (mid : PageMap) (tops : List ℕ) (place : TakesPlace form old mid height (uses height part) tops (without_cell cell (cells_of height part)))
        → flat_map (cells_of height) (take at shape.parts ++ (place.parts ++ drop (at + 1) shape.parts)) ≡ without_cell cell (cells_of (suc height) shape)
    gave_cells mid tops place =
        let next : at + 1 ≡ suc at = omega arith in
        flat_between (cells_of height) (take at shape.parts) place.parts (drop (at + 1) shape.parts)
        ∙ ap (λ cs. flat_map (cells_of height) (take at shape.parts) ++ (cs ++ flat_map (cells_of height) (drop (at + 1) shape.parts))) place.lists
        ∙ ap (λ n. flat_map (cells_of height) (take at shape.parts) ++ (without_cell cell (cells_of height part) ++ flat_map (cells_of height) (drop n shape.parts))) next
        ∙ without_whole

  -- below the page as below the part
  module _ (mid : PageMap) where
    pub under_missing : RemovesPart form old mid below cell Missing → RemovesPart form old mid number cell Missing
    under_missing removes = record { each = by_height } where
      by_height : (height : ℕ) (shape : Shape height) (others : ℕ → ℕ) → IsPart form old number height shape → Ascends (cells_of height shape) → Shares old (uses height shape & others)
          → IsRemoved form old mid number height (uses height shape) cell (cells_of height shape) Missing
      by_height zero shape others whole up shares = absurd (inner_no_leaf says layout old number page count shape whole lent node)
      by_height (suc height) shape others whole up shares =
          let is = removes.each height (part height shape others whole up shares) (beside_part height shape at & others) (part_is height shape others whole up shares) (part_up height shape others whole up shares) (part_shared height shape others whole up shares) in
          record { none = λ has. is.none (some_part height shape others whole up shares has); same = is.same }

    pub under_kept : (new : PageMap) (answer : Removed) → RemovesPart form old mid below cell Kept → Finishes form mid new number page count at 1 (below ∷ []) answer → RemovesPart form old new number cell answer
    under_kept new answer removes finishes = record { each = by_height } where
      by_height : (height : ℕ) (shape : Shape height) (others : ℕ → ℕ) → IsPart form old number height shape → Ascends (cells_of height shape) → Shares old (uses height shape & others)
          → IsRemoved form old new number height (uses height shape) cell (cells_of height shape) answer
      by_height zero shape others whole up shares = absurd (inner_no_leaf says layout old number page count shape whole lent node)
      by_height (suc height) shape others whole up shares =
          let is = removes.each height (part height shape others whole up shares) (beside_part height shape at & others) (part_is height shape others whole up shares) (part_up height shape others whole up shares) (part_shared height shape others whole up shares) in
          let left = finishes.each old height (uses (suc height) shape) others shape.parts is.left.parts (gave height shape others whole up shares mid (below ∷ []) is.left) in
          out_removed form old new number (suc height) (uses (suc height) shape) cell (cells_of (suc height) shape) answer (record {
            some = some_whole height shape others whole up shares is.some;
            left = subst (λ cs. IsLeft form old new number (suc height) (uses (suc height) shape) cs answer) (gave_cells height shape others whole up shares mid (below ∷ []) is.left) left;
          })

    pub kept_none : (levels : ℕ) → RemovesPart form old mid below cell Kept → NoneGaveWay form mid number page count at 1 (below ∷ []) → HasNoOwnPart form old number levels
    kept_none levels removes none = record { none = by_height } where
      by_height : (height : ℕ) (shape : Shape height) (others : ℕ → ℕ) → IsPart form old number height shape → height ≤ levels → Ascends (cells_of height shape) → Shares old (uses height shape & others) → ⊥
      by_height zero shape others whole high up shares = inner_no_leaf says layout old number page count shape whole lent node
      by_height (suc height) shape others whole high up shares =
          let is = removes.each height (part height shape others whole up shares) (beside_part height shape at & others) (part_is height shape others whole up shares) (part_up height shape others whole up shares) (part_shared height shape others whole up shares) in
          none.none old height (uses (suc height) shape) others shape.parts is.left.parts (gave height shape others whole up shares mid (below ∷ []) is.left)

    pub under_gone : (new : PageMap) (answer : Removed) → RemovesPart form old mid below cell Gone → Finishes form mid new number page count at 1 [] answer → RemovesPart form old new number cell answer
    under_gone new answer removes finishes = record { each = by_height } where
      by_height : (height : ℕ) (shape : Shape height) (others : ℕ → ℕ) → IsPart form old number height shape → Ascends (cells_of height shape) → Shares old (uses height shape & others)
          → IsRemoved form old new number height (uses height shape) cell (cells_of height shape) answer
      by_height zero shape others whole up shares = absurd (inner_no_leaf says layout old number page count shape whole lent node)
      by_height (suc height) shape others whole up shares =
          let is = removes.each height (part height shape others whole up shares) (beside_part height shape at & others) (part_is height shape others whole up shares) (part_up height shape others whole up shares) (part_shared height shape others whole up shares) in
          let left = finishes.each old height (uses (suc height) shape) others shape.parts is.left.parts (gave height shape others whole up shares mid [] is.left) in
          out_removed form old new number (suc height) (uses (suc height) shape) cell (cells_of (suc height) shape) answer (record {
            some = some_whole height shape others whole up shares is.some;
            left = subst (λ cs. IsLeft form old new number (suc height) (uses (suc height) shape) cs answer) (gave_cells height shape others whole up shares mid [] is.left) left;
          })

    pub gone_none : (levels : ℕ) → RemovesPart form old mid below cell Gone → NoneGaveWay form mid number page count at 1 [] → HasNoOwnPart form old number levels
    gone_none levels removes none = record { none = by_height } where
      by_height : (height : ℕ) (shape : Shape height) (others : ℕ → ℕ) → IsPart form old number height shape → height ≤ levels → Ascends (cells_of height shape) → Shares old (uses height shape & others) → ⊥
      by_height zero shape others whole high up shares = inner_no_leaf says layout old number page count shape whole lent node
      by_height (suc height) shape others whole high up shares =
          let is = removes.each height (part height shape others whole up shares) (beside_part height shape at & others) (part_is height shape others whole up shares) (part_up height shape others whole up shares) (part_shared height shape others whole up shares) in
          none.none old height (uses (suc height) shape) others shape.parts is.left.parts (gave height shape others whole up shares mid [] is.left)

    lonely : (only height : ℕ) (shape : Shape (suc (suc height))) (others : ℕ → ℕ) (whole : IsPart form old number (suc (suc height)) shape) (up : Ascends (cells_of (suc (suc height)) shape)) (shares : Shares old (uses (suc (suc height)) shape & others))
        → LeavesOne form old mid height (uses (suc height) (part (suc height) shape others whole up shares)) below only (without_cell cell (cells_of (suc height) (part (suc height) shape others whole up shares)))
        → IsLonely form old mid number page at below only height shape others (part (suc height) shape others whole up shares) (without_cell cell (cells_of (suc height) (part (suc height) shape others whole up shares)))
    lonely only height shape others whole up shares left = record {
      lies = whole.lies;
      top = whole.top;
      was = lent;
      shares = shares;
      there = (found (suc height) shape others whole up shares).1;
      is = (part_is (suc height) shape others whole up shares).top;
      left = left;
    }

    pub under_single : (only : ℕ) (new : PageMap) (answer : Removed) → RemovesPart form old mid below cell (Single only) → Mends form mid new number page at below only answer → RemovesPart form old new number cell answer
    under_single only new answer removes mends = record { each = by_height } where
      by_height : (height : ℕ) (shape : Shape height) (others : ℕ → ℕ) → IsPart form old number height shape → Ascends (cells_of height shape) → Shares old (uses height shape & others)
          → IsRemoved form old new number height (uses height shape) cell (cells_of height shape) answer
      by_height zero shape others whole up shares = absurd (inner_no_leaf says layout old number page count shape whole lent node)
      by_height (suc zero) shape others whole up shares =
          absurd (removes.each 0 (part 0 shape others whole up shares) (beside_part 0 shape at & others) (part_is 0 shape others whole up shares) (part_up 0 shape others whole up shares) (part_shared 0 shape others whole up shares)).left
      by_height (suc (suc height)) shape others whole up shares =
          let is = removes.each (suc height) (part (suc height) shape others whole up shares) (beside_part (suc height) shape at & others) (part_is (suc height) shape others whole up shares) (part_up (suc height) shape others whole up shares) (part_shared (suc height) shape others whole up shares) in
          let left = mends.each old height shape others (part (suc height) shape others whole up shares) (without_cell cell (cells_of (suc height) (part (suc height) shape others whole up shares))) (lonely only height shape others whole up shares is.left) in
          out_removed form old new number (suc (suc height)) (uses (suc (suc height)) shape) cell (cells_of (suc (suc height)) shape) answer (record {
            some = some_whole (suc height) shape others whole up shares is.some;
            left = subst (λ cs. IsLeft form old new number (suc (suc height)) (uses (suc (suc height)) shape) cs answer) (without_whole (suc height) shape others whole up shares) left;
          })

    pub single_none : (only levels : ℕ) → RemovesPart form old mid below cell (Single only) → NoneLonely form mid number page at below only → HasNoOwnPart form old number levels
    single_none only levels removes none = record { none = by_height } where
      by_height : (height : ℕ) (shape : Shape height) (others : ℕ → ℕ) → IsPart form old number height shape → height ≤ levels → Ascends (cells_of height shape) → Shares old (uses height shape & others) → ⊥
      by_height zero shape others whole high up shares = inner_no_leaf says layout old number page count shape whole lent node
      by_height (suc zero) shape others whole high up shares =
          (removes.each 0 (part 0 shape others whole up shares) (beside_part 0 shape at & others) (part_is 0 shape others whole up shares) (part_up 0 shape others whole up shares) (part_shared 0 shape others whole up shares)).left
      by_height (suc (suc height)) shape others whole high up shares =
          let is = removes.each (suc height) (part (suc height) shape others whole up shares) (beside_part (suc height) shape at & others) (part_is (suc height) shape others whole up shares) (part_up (suc height) shape others whole up shares) (part_shared (suc height) shape others whole up shares) in
          none.none old height shape others (part (suc height) shape others whole up shares) (without_cell cell (cells_of (suc height) (part (suc height) shape others whole up shares))) (lonely only height shape others whole up shares is.left)

  -- where the part is none, the page has none
  pub below_none : (levels : ℕ) → 0 < levels → HasNoOwnPart form old below (levels - 1) → HasNoOwnPart form old number levels
  below_none levels some none = record { none = by_height } where
    by_height : (height : ℕ) (shape : Shape height) (others : ℕ → ℕ) → IsPart form old number height shape → height ≤ levels → Ascends (cells_of height shape) → Shares old (uses height shape & others) → ⊥
    by_height zero shape others whole high up shares = inner_no_leaf says layout old number page count shape whole lent node
    by_height (suc height) shape others whole high up shares =
        none.none height (part height shape others whole up shares) (beside_part height shape at & others) (part_is height shape others whole up shares) (omega arith) (part_up height shape others whole up shares) (part_shared height shape others whole up shares)

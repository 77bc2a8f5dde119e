-- The page with one part left and its neighbour, as two of the parts below a page.
use Rattle.std.proofs.Common.{◌≡◌, ◌<◌, ◌+◌, ℕ, zero, suc, Bool, true, false, Some, Ok, Err, List, [], ◌∷◌, ◌++◌, take, drop, map, slice_get, refl, sym, ap, ◌∙◌, subst, inr, arith}
use Rattle.std.proofs.lemmas.List.{append_assoc}
use Rattle.std.proofs.lemmas.List.Sums.{sum_by-cons, sum_by_push}
use Rattle.std.specs.List.{AllByRecursion, AllZip, flat_map}
use Rattle.rs_page.specs.Number.{number_at}
use Rattle.rs_refusal.specs.declared.refusal.Refusal.TheVariants as refusal
use Rattle.rs_page_owners.specs.Changes.{WorksAfter}
use Rattle.rs_pages.specs.Store.{Store}
use Rattle.rs_pages.specs.PageMap.{PageMap, SamePages}
use Rattle.rs_pages.proofs.Stores.{SamePages-refl}
use Rattle.rs_records.specs.Records.{records}
use Rattle.rs_page_owners.specs.Counts.{one_at, ◌&◌}
use Rattle.rs_page_owners.specs.Owners.{MovesBeside}
use Rattle.rs_page_owners.proofs.Moving.{one_at-same, moves_same, moves_part}
use Rattle.rs_tree.specs.Content.{SaysChild, content}
use Rattle.rs_tree.specs.Form.{Form, entry_width}
use Rattle.rs_tree.specs.Shape.{Shape, Lies, cells_of, uses, size_of, child_of}
use Rattle.rs_tree.proofs.Lists.{all_at, inside_has, zip_at, map_at, take_next, flat_push}
use Rattle.rs_tree.specs.Layouts.{form_with}
use Rattle.rs_tree.specs.Node.{IsNode}
use Rattle.rs_tree.specs.declared.layout.Layout.{Layout}
use Rattle.rs_tree.specs.declared.node.Node.TheVariants.{Leaf, Inner}
use Rattle.rs_tree.specs.Reading.{HasNoNode}
use Rattle.rs_tree.specs.Walking.{IsPart}
use Rattle.rs_tree.proofs.Entering.{inner_parts, no_node-no_part}
use Rattle.rs_tree_edit.specs.Parts.{uses_all}
use Rattle.rs_tree_edit.proofs.Pieces.{all_take, all_drop}
use Rattle.rs_tree_edit.proofs.Replacing.{parts_kept, beside_part, uses_split, part_shares}
use Rattle.rs_tree_remove.specs.Leaving.{IsLeft}
use Rattle.rs_tree_remove.specs.declared.answer.Removed.{Removed}
use Rattle.rs_tree_remove.proofs.Leaves.{leaf_no_inner}
use Rattle.rs_tree_remove.specs.Mending.{IsLonely, IsPair, Mends, NoneLonely, Pairs, NonePairs, IsNeighbour, beside}
use Rattle.rs_tree_remove.proofs.Joining.{said_count}
use Rattle.rs_tree_remove.proofs.Sharing.{pair_same}

-- after a call that was not refused something is damaged
pub damaged_after : {T U : Type 0} (before damaged : Type 0) (x : T) (a b : Store) → damaged → WorksAfter before (Ok x) a b → WorksAfter {T = U} damaged (Err refusal.DamagedFile) a b
damaged_after before damaged x a b is one = record {
  works = one.works;
  ends = record {
    cause = inr (inr (inr (refl, is)));
    count = record { disk = λ disk. let wrong : refusal.DamagedFile ≡ refusal.Disk = disk in absurd (cc); other = λ isnt. one.ends.failures };
  };
}

drop_next : {X : Type 0} (xs : List X) (i : ℕ) (x : X) → slice_get xs i ≡ Some x → drop i xs ≡ x ∷ drop (suc i) xs
drop_next [] i x e = absurd (cc)
drop_next (y ∷ ys) zero x e = let same : y ≡ x = cc in ap (λ z. z ∷ ys) same
drop_next (y ∷ ys) (suc i) x e = drop_next ys i x e

all_end : {X : Type 0} (P : X → Type 0) (xs : List X) (x : X) → AllByRecursion P (xs ++ (x ∷ [])) → P x
all_end P [] x all = all.0
all_end P (y ∷ ys) x all = all_end P ys x all.1

-- the sides of two neighbours: what is before and after one of them
pub record Sides {X : Type 0} (parts : List X) (index at : ℕ) (is_first : Bool) (near : X) : Type 0 where
  pub first : is_first ≡ true → (take index parts ≡ take at parts) × (drop (suc index) parts ≡ near ∷ drop (at + 2) parts)
  pub last : is_first ≡ false → (take index parts ≡ take at parts ++ (near ∷ [])) × (drop (suc index) parts ≡ drop (at + 2) parts)

sides : {X : Type 0} (parts : List X) (index at near : ℕ) (is_first : Bool) (x : X) → IsNeighbour index is_first at near → slice_get parts near ≡ Some x → Sides parts index at is_first x
sides parts index at near true x is there =
    let place : near ≡ suc index = omega (arith, is.1) in
    let next : suc (suc index) ≡ at + 2 = omega (arith, is.0) in
    record {
      first = λ e. (ap (λ n. take n parts) (sym is.0), drop_next parts (suc index) x (ap (slice_get parts) (sym place) ∙ there) ∙ ap (λ n. x ∷ drop n parts) next);
      last = λ e. absurd (cc);
    }
sides parts index at near false x is there =
    let place : suc at ≡ index = omega (arith, is.0) in
    let next : suc index ≡ at + 2 = omega (arith, is.0) in
    record {
      first = λ e. absurd (cc);
      last = λ e. (ap (λ n. take n parts) (sym place) ∙ take_next parts at x (ap (slice_get parts) (sym is.1) ∙ there), ap (λ n. drop n parts) next);
    }

module _ (says : List ℕ → List (List ℕ) → Type 0) (layout : Layout) (base now : PageMap) (number : ℕ) (page : List ℕ) (count index at place : ℕ) (is_first : Bool) (child only other : ℕ) (height : ℕ) (shape : Shape (suc (suc height))) (others : ℕ → ℕ) (part : Shape (suc height)) (cells : List (List ℕ)) (entry : List ℕ)
    (node : IsNode page number layout (Inner count)) (is : IsNeighbour index is_first at place) (inside : place < count)
    (there : slice_get (records count (entry_width (form_with says layout)) (content page)) place ≡ Some entry) (gives : other ≡ number_at 0 4 entry)
    (lonely : IsLonely (form_with says layout) base now number page index child only height shape others part cells) where
  abbrev form : Form
  form = form_with says layout

  pub above_says : AllZip (SaysChild form) (records count (entry_width form) (content page)) (map (child_of (suc height)) shape.parts)
  above_says = (inner_parts says layout base number page count (suc height) shape base (SamePages-refl base) (record { lies = lonely.lies; top = lonely.top }) lonely.was node).says

  pub part_lies : Lies form base (suc height) part
  part_lies = all_at (Lies form base (suc height)) shape.parts index part lonely.lies.1 lonely.there

  abbrev found : (near : Shape (suc height)) × (slice_get shape.parts place ≡ Some near)
  found = inside_has shape.parts place (omega (arith, said_count form (suc height) page count shape.parts above_says))

  abbrev near : Shape (suc height)
  near = found.0

  abbrev near_sides : Sides shape.parts index at is_first near
  near_sides = sides shape.parts index at place is_first near is found.1

  near_top : near.page ≡ other
  near_top =
      sym (zip_at (SaysChild form) (records count (entry_width form) (content page)) (map (child_of (suc height)) shape.parts) place entry (child_of (suc height) near) above_says there (map_at (child_of (suc height)) shape.parts place near found.1)).page
      ∙ sym gives

  moved : MovesBeside base now (uses (suc height) part) (one_at child & uses height lonely.left.part) (beside_part (suc height) shape index & others)
  moved = lonely.left.moves.beside (beside_part (suc height) shape index & others) (part_shares base (suc height) shape index part others lonely.there lonely.shares)

  before_lie : AllByRecursion (Lies form now (suc height)) (take index shape.parts)
  before_lie = parts_kept form base now (beside_part (suc height) shape index & others) moved.keeps (suc height) (take index shape.parts) (λ n. omega arith) (all_take (Lies form base (suc height)) shape.parts index lonely.lies.1)

  after_lie : AllByRecursion (Lies form now (suc height)) (drop (suc index) shape.parts)
  after_lie = parts_kept form base now (beside_part (suc height) shape index & others) moved.keeps (suc height) (drop (suc index) shape.parts) (λ n. omega arith) (all_drop (Lies form base (suc height)) shape.parts (suc index) lonely.lies.1)

  pub near_part : IsPart form now other (suc height) near
  near_part = record { lies = by_side is_first refl; top = near_top } where
    by_side : (b : Bool) → is_first ≡ b → Lies form now (suc height) near
    by_side true e = (subst (AllByRecursion (Lies form now (suc height))) (near_sides.first e).1 after_lie).0
    by_side false e = all_end (Lies form now (suc height)) (take at shape.parts) near (subst (AllByRecursion (Lies form now (suc height))) (near_sides.last e).0 before_lie)

  rest_use : (n : ℕ) → uses_all (suc height) (take index shape.parts) n + uses_all (suc height) (drop (suc index) shape.parts) n
      ≡ uses (suc height) near n + (uses_all (suc height) (take at shape.parts) n + uses_all (suc height) (drop (at + 2) shape.parts) n)
  rest_use n = by_side is_first refl where
    by_side : (b : Bool) → is_first ≡ b → uses_all (suc height) (take index shape.parts) n + uses_all (suc height) (drop (suc index) shape.parts) n
        ≡ uses (suc height) near n + (uses_all (suc height) (take at shape.parts) n + uses_all (suc height) (drop (at + 2) shape.parts) n)
    by_side true e =
        omega (arith, ap (λ ps. uses_all (suc height) ps n) (near_sides.first e).0, ap (λ ps. uses_all (suc height) ps n) (near_sides.first e).1, sum_by-cons (λ (p : Shape (suc height)). uses (suc height) p n) near (drop (at + 2) shape.parts))
    by_side false e =
        omega (arith, ap (λ ps. uses_all (suc height) ps n) (near_sides.last e).0, ap (λ ps. uses_all (suc height) ps n) (near_sides.last e).1, sum_by_push (λ (p : Shape (suc height)). uses (suc height) p n) (take at shape.parts) near)

  module _ (bytes : List ℕ) (size : ℕ) (lent : now.page other ≡ Some bytes) (near_node : IsNode bytes other layout (Inner size)) where
    pub pair_of : IsPair form base now number page count at is_first child only other bytes size height (uses (suc (suc height)) shape) others shape.parts lonely.left.part near.parts
    pair_of =
        let near_entries = inner_parts says layout now other bytes size height near now (SamePages-refl now) near_part lent near_node in
        let child_entries = inner_parts says layout base child lonely.left.page 2 height part base (SamePages-refl base) (record { lies = part_lies; top = lonely.is }) lonely.left.was (lonely.left.has, omega arith) in
        let rest : ℕ → ℕ = beside_part (suc height) shape index in
        record {
          past = subst (λ n. 1 < n) lonely.top lonely.lies.0.after;
          below = omega (arith, lonely.top, lonely.lies.0.below, moved.keeps.no_fewer);
          has = node.0;
          two = node.1;
          was = lonely.was;
          there = ap now.page (sym lonely.top) ∙ moved.keeps.pages shape.page (omega (arith, one_at-same shape.page)) ∙ ap base.page lonely.top ∙ lonely.was;
          says = above_says;
          lie_before = by_before is_first refl;
          lie_after = by_after is_first refl;
          child_page = lonely.left.page;
          child_past = subst (λ n. 1 < n) lonely.is part_lies.0.after;
          child_below = omega (arith, lonely.is, part_lies.0.below, moved.keeps.no_fewer);
          child_has = lonely.left.has;
          child_there = lonely.left.there;
          child_parts = part.parts;
          child_says = child_entries.says;
          lies = lonely.left.lies;
          top = lonely.left.is;
          near_past = subst (λ n. 1 < n) near_part.top near_part.lies.0.after;
          near_below = subst (λ n. n < now.fields.pages) near_part.top near_part.lies.0.below;
          near_has = near_node.0;
          near_two = near_node.1;
          near_there = lent;
          near_says = near_entries.says;
          near_lie = near_entries.lie;
          shares = lonely.shares;
          moves = moves_same base now (uses (suc height) part & rest) ((one_at child & uses height lonely.left.part) & rest) (uses (suc (suc height)) shape)
              ((one_at child & uses height lonely.left.part) & ((one_at other & uses_all height near.parts) & (one_at number & (uses_all (suc height) (take at shape.parts) & uses_all (suc height) (drop (at + 2) shape.parts)))))
              (uses_split (suc height) shape index part lonely.there)
              (λ n. omega (arith, rest_use n, ap (λ top. one_at top n) near_top, ap (λ top. one_at top n) lonely.top))
              (moves_part base now (uses (suc height) part) (one_at child & uses height lonely.left.part) rest lonely.left.moves);
        } where
          by_before : (b : Bool) → is_first ≡ b → AllByRecursion (Lies form now (suc height)) (take at shape.parts)
          by_before true e = subst (AllByRecursion (Lies form now (suc height))) (near_sides.first e).0 before_lie
          by_before false e = first_all (take at shape.parts) (near ∷ []) (subst (AllByRecursion (Lies form now (suc height))) (near_sides.last e).0 before_lie) where
            first_all : (xs ys : List (Shape (suc height))) → AllByRecursion (Lies form now (suc height)) (xs ++ ys) → AllByRecursion (Lies form now (suc height)) xs
            first_all [] ys all = tt
            first_all (x ∷ xs) ys all = (all.0, first_all xs ys all.1)

          by_after : (b : Bool) → is_first ≡ b → AllByRecursion (Lies form now (suc height)) (drop (at + 2) shape.parts)
          by_after true e = (subst (AllByRecursion (Lies form now (suc height))) (near_sides.first e).1 after_lie).1
          by_after false e = subst (AllByRecursion (Lies form now (suc height))) (near_sides.last e).1 after_lie

    -- the same cells
    pub pair_cells : flat_map (cells_of (suc height)) (take at shape.parts) ++ (beside is_first (cells_of height lonely.left.part) (flat_map (cells_of height) near.parts) ++ flat_map (cells_of (suc height)) (drop (at + 2) shape.parts))
        ≡ flat_map (cells_of (suc height)) (take index shape.parts) ++ (cells ++ flat_map (cells_of (suc height)) (drop (suc index) shape.parts))
    pair_cells = by_side is_first refl where
      left : List (List ℕ)
      left = flat_map (cells_of (suc height)) (take at shape.parts)

      right : List (List ℕ)
      right = flat_map (cells_of (suc height)) (drop (at + 2) shape.parts)

      by_side : (b : Bool) → is_first ≡ b → flat_map (cells_of (suc height)) (take at shape.parts) ++ (beside is_first (cells_of height lonely.left.part) (flat_map (cells_of height) near.parts) ++ flat_map (cells_of (suc height)) (drop (at + 2) shape.parts))
          ≡ flat_map (cells_of (suc height)) (take index shape.parts) ++ (cells ++ flat_map (cells_of (suc height)) (drop (suc index) shape.parts))
      by_side true e =
          ap (λ b. flat_map (cells_of (suc height)) (take at shape.parts) ++ (beside b (cells_of height lonely.left.part) (flat_map (cells_of height) near.parts) ++ flat_map (cells_of (suc height)) (drop (at + 2) shape.parts))) e
          ∙ ap (λ cs. flat_map (cells_of (suc height)) (take at shape.parts) ++ ((cs ++ flat_map (cells_of height) near.parts) ++ flat_map (cells_of (suc height)) (drop (at + 2) shape.parts))) lonely.left.lists
          ∙ ap (λ cs. flat_map (cells_of (suc height)) (take at shape.parts) ++ cs) (append_assoc cells (flat_map (cells_of height) near.parts) (flat_map (cells_of (suc height)) (drop (at + 2) shape.parts)))
          ∙ ap (λ ps. flat_map (cells_of (suc height)) (take at shape.parts) ++ (cells ++ flat_map (cells_of (suc height)) ps)) (sym (near_sides.first e).1)
          ∙ ap (λ ps. flat_map (cells_of (suc height)) ps ++ (cells ++ flat_map (cells_of (suc height)) (drop (suc index) shape.parts))) (sym (near_sides.first e).0)
      by_side false e =
          ap (λ b. flat_map (cells_of (suc height)) (take at shape.parts) ++ (beside b (cells_of height lonely.left.part) (flat_map (cells_of height) near.parts) ++ flat_map (cells_of (suc height)) (drop (at + 2) shape.parts))) e
          ∙ ap (λ cs. flat_map (cells_of (suc height)) (take at shape.parts) ++ ((flat_map (cells_of height) near.parts ++ cs) ++ flat_map (cells_of (suc height)) (drop (at + 2) shape.parts))) lonely.left.lists
          ∙ ap (λ cs. flat_map (cells_of (suc height)) (take at shape.parts) ++ cs) (append_assoc (flat_map (cells_of height) near.parts) cells (flat_map (cells_of (suc height)) (drop (at + 2) shape.parts)))
          ∙ sym (append_assoc (flat_map (cells_of (suc height)) (take at shape.parts)) (flat_map (cells_of height) near.parts) (cells ++ flat_map (cells_of (suc height)) (drop (at + 2) shape.parts)))
          ∙ ap (λ cs. cs ++ (cells ++ flat_map (cells_of (suc height)) (drop (at + 2) shape.parts))) (sym (flat_push (cells_of (suc height)) (take at shape.parts) near) ∙ ap (flat_map (cells_of (suc height))) (sym (near_sides.last e).0))
          ∙ ap (λ ps. flat_map (cells_of (suc height)) (take index shape.parts) ++ (cells ++ flat_map (cells_of (suc height)) ps)) (sym (near_sides.last e).1)

module _ (says : List ℕ → List (List ℕ) → Type 0) (layout : Layout) (now : PageMap) (number : ℕ) (page : List ℕ) (count index at place : ℕ) (is_first : Bool) (child only other : ℕ) (entry : List ℕ)
    (node : IsNode page number layout (Inner count)) (is : IsNeighbour index is_first at place) (inside : place < count)
    (there : slice_get (records count (entry_width (form_with says layout)) (content page)) place ≡ Some entry) (gives : other ≡ number_at 0 4 entry) where
  pub no_near : HasNoNode now other layout → NoneLonely (form_with says layout) now number page index child only
  no_near none = record {
    none = λ base height shape others part cells lonely.
        let here = near_part says layout base now number page count index at place is_first child only other height shape others part cells entry node is inside there gives lonely in
        let top : Shape (suc height) = near says layout base now number page count index at place is_first child only other height shape others part cells entry node is inside there gives lonely in
        (no_node-no_part says layout now other (suc height) (size_of (suc height) top) (λ some. none)).none (suc height) top here (omega arith) (omega arith);
  }

  module _ (bytes : List ℕ) (lent : now.page other ≡ Some bytes) where
    pub no_leaf_near : (size : ℕ) → IsNode bytes other layout (Leaf size) → NoneLonely (form_with says layout) now number page index child only
    no_leaf_near size leaf = record {
      none = λ base height shape others part cells lonely.
          leaf_no_inner says layout now other bytes [] size 0 lent leaf height _ (near_part says layout base now number page count index at place is_first child only other height shape others part cells entry node is inside there gives lonely);
    }

    module _ (size : ℕ) (near_node : IsNode bytes other layout (Inner size)) (later : PageMap) (same : SamePages later now) where
      pub no_pairs : NonePairs (form_with says layout) later number page count at is_first child only other bytes size → NoneLonely (form_with says layout) now number page index child only
      no_pairs none = record {
        none = λ base height shape others part cells lonely.
            none.none base height _ others shape.parts _ _
            (pair_same (form_with says layout) base now later number page count at is_first child only other bytes size height _ others shape.parts _ _ same
            (pair_of says layout base now number page count index at place is_first child only other height shape others part cells entry node is inside there gives lonely bytes size lent near_node));
      }

      pub mends_all : (new : PageMap) (answer : Removed) → Pairs (form_with says layout) later new number page count at is_first child only other bytes size answer → Mends (form_with says layout) now new number page index child only answer
      mends_all new answer pairs = record {
        each = λ base height shape others part cells lonely.
            let pair = pair_of says layout base now number page count index at place is_first child only other height shape others part cells entry node is inside there gives lonely bytes size lent near_node in
            subst (λ cs. IsLeft (form_with says layout) base new number (suc (suc height)) (uses (suc (suc height)) shape) cs answer)
            (pair_cells says layout base now number page count index at place is_first child only other height shape others part cells entry node is inside there gives lonely bytes size lent near_node)
            (pairs.each base height (uses (suc (suc height)) shape) others shape.parts lonely.left.part _
            (pair_same (form_with says layout) base now later number page count at is_first child only other bytes size height (uses (suc (suc height)) shape) others shape.parts lonely.left.part _ same pair));
      }

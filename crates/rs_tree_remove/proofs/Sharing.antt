-- A neighbour that gives one of its parts away.
use Rattle.std.proofs.Common.{◌≡◌, ◌<◌, ◌≤◌, ◌+◌, ◌-◌, ℕ, suc, Bool, true, false, cond, Some, List, [], ◌∷◌, ◌++◌, length, take, drop, map, slice_get, refl, sym, ap, ◌∙◌, subst, arith}
use Rattle.std.proofs.lemmas.List.{append-nil, append_assoc, drop_all, map-append}
use Rattle.std.proofs.lemmas.List.Sums.{sum_by-cons}
use Rattle.std.specs.List.{AllByRecursion, AllZip, flat_map}
use Rattle.rs_page.specs.declared.file_header.FileHeader.{FileHeader}
use Rattle.rs_page.specs.declared.header.PageKind.TheVariants as kind
use Rattle.rs_pages.specs.PageMap.{PageMap, SamePages}
use Rattle.rs_pages.proofs.FreeLists.{page_one}
use Rattle.rs_pages.proofs.Stores.{SamePages-refl}
use Rattle.rs_records.specs.Records.{records}
use Rattle.rs_page_owners.specs.Counts.{one_at, ◌&◌}
use Rattle.rs_page_owners.specs.Owners.{Shares, MovesBeside}
use Rattle.rs_page_owners.proofs.Moving.{one_at-same, shares_same, moves_trans, moves_same, moves_part, same_pages-moves}
use Rattle.rs_tree.specs.Content.{SaysChild, HasRecords, content}
use Rattle.rs_tree.specs.Form.{Form, entry_width}
use Rattle.rs_tree.specs.Shape.{Shape, Lies, page_of, cells_of, uses, child_of}
use Rattle.rs_page.specs.Number.{number_at}
use Rattle.rs_records.proofs.RecordLists.{length-records}
use Rattle.rs_tree.proofs.Lists.{all_at, inside_has, has_inside, zip_at, map_at}
use Rattle.rs_tree.proofs.Shapes.{lies_same}
use Rattle.rs_tree.specs.Layouts.{form_with}
use Rattle.rs_tree.specs.declared.layout.Layout.{Layout}
use Rattle.rs_tree.specs.declared.node.Node.TheVariants.{Inner}
use Rattle.rs_tree.specs.Reading.{HasNoNode}
use Rattle.rs_tree_edit.specs.Parts.{TakesPlace, uses_all}
use Rattle.rs_tree_edit.proofs.Pieces.{all_take, all_drop, all_append, flat_between, sum_between, list_at}
use Rattle.rs_tree_edit.proofs.Replacing.{parts_kept, parts_same}
use Rattle.rs_tree_remove.specs.Finishing.{GaveWay, Finishes, NoneGaveWay}
use Rattle.rs_tree_remove.specs.Leaving.{IsLeft}
use Rattle.rs_tree_remove.specs.declared.answer.Removed.TheVariants.{Kept}
use Rattle.rs_tree_remove.proofs.Written.{those_now}
use Rattle.rs_tree_remove.specs.Mending.{IsPair, Pairs, NonePairs, beside}
use Rattle.rs_tree_remove.proofs.Joining.{said_count, uses_beside, flat_beside, all_beside}

-- the pair is the same where the pages are
pub pair_same : (form : Form) (base now later : PageMap) (number : ℕ) (page : List ℕ) (count at : ℕ) (is_first : Bool) (child only other : ℕ) (near : List ℕ) (size height : ℕ) (before others : ℕ → ℕ)
    (parts : List (Shape (suc height))) (grand : Shape height) (siblings : List (Shape height)) → SamePages later now
    → IsPair form base now number page count at is_first child only other near size height before others parts grand siblings
    → IsPair form base later number page count at is_first child only other near size height before others parts grand siblings
pair_same form base now later number page count at is_first child only other near size height before others parts grand siblings same pair =
    let pages : later.fields.pages ≡ now.fields.pages = ap (λ (f : FileHeader). f.pages) same.fields in
    let owned : ℕ → ℕ = (one_at child & uses height grand) & ((one_at other & uses_all height siblings) & (one_at number & (uses_all (suc height) (take at parts) & uses_all (suc height) (drop (at + 2) parts)))) in
    record {
      past = pair.past;
      below = omega (arith, pair.below, pages);
      has = pair.has;
      two = pair.two;
      was = pair.was;
      there = same.pages number ∙ pair.there;
      says = pair.says;
      lie_before = parts_same form now later same (suc height) (take at parts) pair.lie_before;
      lie_after = parts_same form now later same (suc height) (drop (at + 2) parts) pair.lie_after;
      child_page = pair.child_page;
      child_past = pair.child_past;
      child_below = omega (arith, pair.child_below, pages);
      child_has = pair.child_has;
      child_there = same.pages child ∙ pair.child_there;
      child_parts = pair.child_parts;
      child_says = pair.child_says;
      lies = lies_same form now later same height grand pair.lies;
      top = pair.top;
      near_past = pair.near_past;
      near_below = omega (arith, pair.near_below, pages);
      near_has = pair.near_has;
      near_two = pair.near_two;
      near_there = same.pages other ∙ pair.near_there;
      near_says = pair.near_says;
      near_lie = parts_same form now later same height siblings pair.near_lie;
      shares = pair.shares;
      moves = moves_trans base now later before owned owned pair.moves (same_pages-moves now later owned same);
    }

from_first : {X : Type 0} (ys : List X) (x : X) → slice_get ys 0 ≡ Some x → ys ≡ x ∷ drop 1 ys
from_first [] x e = absurd (cc)
from_first (y ∷ ys) x e = let same : y ≡ x = cc in ap (λ z. z ∷ ys) same

-- the part that is next, and the others
given_away : {X : Type 0} (is_first : Bool) (place size : ℕ) (xs : List X) (x : X) → length xs ≡ size → 2 < size → place ≡ cond is_first 0 (size - 1) → slice_get xs place ≡ Some x
    → xs ≡ beside is_first (x ∷ []) (those_now place 1 xs [])
given_away true place size xs x counted more is there = from_first xs x (ap (slice_get xs) (sym is) ∙ there) ∙ ap (λ p. x ∷ those_now p 1 xs []) (sym is)
given_away false place size xs x counted more is there =
    let one : place + 1 ≡ suc place = omega arith in
    let past : drop (suc place) xs ≡ [] = drop_all (suc place) xs (omega (arith, counted, is)) in
    list_at xs place x there ∙ ap (λ ys. take place xs ++ (x ∷ ys)) past
    ∙ ap (λ ys. ys ++ (x ∷ [])) (sym (append-nil (take place xs)) ∙ ap (λ ys. take place xs ++ ys) (sym past) ∙ ap (λ n. take place xs ++ drop n xs) (sym one))

tops_beside : (height : ℕ) (is_first : Bool) (xs ys : List (Shape height)) (as' bs : List ℕ) → map (page_of height) xs ≡ as' → map (page_of height) ys ≡ bs → map (page_of height) (beside is_first xs ys) ≡ beside is_first as' bs
tops_beside height true xs ys as' bs one other = map-append (page_of height) xs ys ∙ ap (λ zs. zs ++ map (page_of height) ys) one ∙ ap (λ zs. as' ++ zs) other
tops_beside height false xs ys as' bs one other = map-append (page_of height) ys xs ∙ ap (λ zs. zs ++ map (page_of height) xs) other ∙ ap (λ zs. bs ++ zs) one

-- what one side gives the other keeps the order
regrouped : {X : Type 0} (is_first : Bool) (gs ys rest : List X) → beside is_first (beside is_first gs ys) rest ≡ beside is_first gs (beside is_first ys rest)
regrouped true gs ys rest = append_assoc gs ys rest
regrouped false gs ys rest = sym (append_assoc rest ys gs)

module _ (form : Form) (base now : PageMap) (number : ℕ) (page : List ℕ) (count at : ℕ) (is_first : Bool) (child only other : ℕ) (near : List ℕ) (size height : ℕ) (before others : ℕ → ℕ)
    (parts : List (Shape (suc height))) (grand : Shape height) (siblings : List (Shape height)) (place given first second : ℕ) (held entry : List ℕ) (more : 2 < size) (start : place ≡ cond is_first 0 (size - 1))
    (there : slice_get (records size (entry_width form) (content near)) place ≡ Some entry) (gives : given ≡ number_at 0 4 entry) (ordered : first ∷ second ∷ [] ≡ beside is_first (only ∷ []) (given ∷ []))
    (lent : now.page child ≡ Some held)
    (pair : IsPair form base now number page count at is_first child only other near size height before others parts grand siblings) where
  abbrev above : ℕ → ℕ
  above = one_at number & (uses_all (suc height) (take at parts) & uses_all (suc height) (drop (at + 2) parts))

  pub counted : length siblings ≡ size
  counted = said_count form height near size siblings pair.near_says

  abbrev found : (y : Shape height) × (slice_get siblings place ≡ Some y)
  found = inside_has siblings place (omega (arith, counted, has_inside (records size (entry_width form) (content near)) place entry there, length-records size (entry_width form) (content near)))

  abbrev y : Shape height
  y = found.0

  y_top : page_of height y ≡ given
  y_top =
      sym (zip_at (SaysChild form) (records size (entry_width form) (content near)) (map (child_of height) siblings) place entry (child_of height y) pair.near_says there (map_at (child_of height) siblings place y found.1)).page
      ∙ sym gives

  y_lies : Lies form now height y
  y_lies = all_at (Lies form now height) siblings place y pair.near_lie found.1

  abbrev rest : List (Shape height)
  rest = those_now place 1 siblings []

  siblings_are : siblings ≡ beside is_first (y ∷ []) rest
  siblings_are = given_away is_first place size siblings y counted more start found.1

  siblings_use : (n : ℕ) → uses_all height siblings n ≡ uses height y n + uses_all height rest n
  siblings_use n = omega (arith, ap (λ ps. uses_all height ps n) siblings_are, uses_beside height is_first (y ∷ []) rest n, sum_by-cons (λ part. uses height part n) y [])

  rest_lie : AllByRecursion (Lies form now height) rest
  rest_lie = all_append (Lies form now height) (take place siblings) (drop (place + 1) siblings) (all_take (Lies form now height) siblings place pair.near_lie) (all_drop (Lies form now height) siblings (place + 1) pair.near_lie)

  abbrev two_now : List (Shape height)
  two_now = beside is_first (grand ∷ []) (y ∷ [])

  abbrev all_now : List (Shape height)
  all_now = those_now 0 2 pair.child_parts two_now

  all_is : all_now ≡ two_now
  all_is = ap (λ ps. two_now ++ ps) (drop_all 2 pair.child_parts (omega (arith, said_count form height pair.child_page 2 pair.child_parts pair.child_says))) ∙ append-nil two_now

  all_uses : (n : ℕ) → uses_all height all_now n ≡ uses height grand n + uses height y n
  all_uses n = omega (arith, ap (λ ps. uses_all height ps n) all_is, uses_beside height is_first (grand ∷ []) (y ∷ []) n, sum_by-cons (λ part. uses height part n) grand [], sum_by-cons (λ part. uses height part n) y [])

  abbrev child_before : ℕ → ℕ
  child_before = one_at child & uses_all height all_now

  abbrev near_before : ℕ → ℕ
  near_before = one_at other & uses_all height rest

  child_shares : Shares now (child_before & (near_before & (above & others)))
  child_shares = shares_same now (((one_at child & uses height grand) & ((one_at other & uses_all height siblings) & above)) & others) (child_before & (near_before & (above & others)))
      (λ n. omega (arith, all_uses n, siblings_use n)) (pair.moves.beside others pair.shares).shares

  same_held : pair.child_page ≡ held
  same_held = page_one now child pair.child_page held pair.child_there lent

  -- the page with one part has two
  pub child_gave : GaveWay form now now child held 2 0 2 (first ∷ second ∷ []) height child_before (near_before & (above & others)) pair.child_parts two_now
  child_gave = record {
    after = pair.child_past;
    below = pair.child_below;
    has = subst (λ p. HasRecords p kind.Inner child 2 (entry_width form)) same_held pair.child_has;
    two = omega arith;
    was = lent;
    there = lent;
    says = subst (λ p. AllZip (SaysChild form) (records 2 (entry_width form) (content p)) (map (child_of height) pair.child_parts)) same_held pair.child_says;
    lie = subst (AllByRecursion (Lies form now height)) (sym all_is) (all_beside (Lies form now height) is_first (grand ∷ []) (y ∷ []) (pair.lies, tt) (y_lies, tt));
    top = tops_beside height is_first (grand ∷ []) (y ∷ []) (only ∷ []) (given ∷ []) (ap (λ n. n ∷ []) pair.top) (ap (λ n. n ∷ []) y_top) ∙ sym ordered;
    shares = child_shares;
    moves = same_pages-moves now now child_before (SamePages-refl now);
  }

  module _ (mid : PageMap) (finishes : Finishes form now mid child held 2 0 2 (first ∷ second ∷ []) Kept) where
    abbrev taken : TakesPlace form now mid (suc height) child_before (child ∷ []) (flat_map (cells_of height) all_now)
    taken = finishes.each now height child_before (near_before & (above & others)) pair.child_parts two_now child_gave

    mid_beside : MovesBeside now mid child_before (uses_all (suc height) taken.parts) (near_before & (above & others))
    mid_beside = taken.moves.beside (near_before & (above & others)) child_shares

    near_shares : Shares mid (near_before & (uses_all (suc height) taken.parts & (above & others)))
    near_shares = shares_same mid (uses_all (suc height) taken.parts & (near_before & (above & others))) (near_before & (uses_all (suc height) taken.parts & (above & others))) (λ n. omega arith) mid_beside.shares

    -- the neighbour has one part less
    pub near_gave : GaveWay form mid mid other near size place 1 [] height near_before (uses_all (suc height) taken.parts & (above & others)) siblings []
    near_gave =
        let there_now : mid.page other ≡ Some near = mid_beside.keeps.pages other (omega (arith, one_at-same other)) ∙ pair.near_there in
        record {
          after = pair.near_past;
          below = omega (arith, pair.near_below, mid_beside.keeps.no_fewer);
          has = pair.near_has;
          two = pair.near_two;
          was = there_now;
          there = there_now;
          says = pair.near_says;
          lie = parts_kept form now mid (near_before & (above & others)) mid_beside.keeps height rest (λ n. omega arith) rest_lie;
          top = refl;
          shares = near_shares;
          moves = same_pages-moves mid mid near_before (SamePages-refl mid);
        }

    module _ (new : PageMap) (less : Finishes form mid new other near size place 1 [] Kept) where
      abbrev left_over : TakesPlace form mid new (suc height) near_before (other ∷ []) (flat_map (cells_of height) rest)
      left_over = less.each mid height near_before (uses_all (suc height) taken.parts & (above & others)) siblings [] near_gave

      new_beside : MovesBeside mid new near_before (uses_all (suc height) left_over.parts) (uses_all (suc height) taken.parts & (above & others))
      new_beside = left_over.moves.beside (uses_all (suc height) taken.parts & (above & others)) near_shares

      kept_beside : (ps : List (Shape (suc height))) → ((n : ℕ) → uses_all (suc height) ps n ≤ above n) → AllByRecursion (Lies form now (suc height)) ps → AllByRecursion (Lies form new (suc height)) ps
      kept_beside ps within lie =
          parts_kept form mid new (uses_all (suc height) taken.parts & (above & others)) new_beside.keeps (suc height) ps (λ n. omega (arith, within n))
          (parts_kept form now mid (near_before & (above & others)) mid_beside.keeps (suc height) ps (λ n. omega (arith, within n)) lie)

      abbrev both : List (Shape (suc height))
      both = beside is_first taken.parts left_over.parts

      both_use : (n : ℕ) → uses_all (suc height) both n ≡ uses_all (suc height) taken.parts n + uses_all (suc height) left_over.parts n
      both_use n = uses_beside (suc height) is_first taken.parts left_over.parts n

      abbrev left : List (Shape (suc height))
      left = take at parts

      abbrev right : List (Shape (suc height))
      right = drop (at + 2) parts

      -- the two pages are others
      pub page_gave : (one another : ℕ) → one ∷ another ∷ [] ≡ beside is_first (child ∷ []) (other ∷ []) → GaveWay form base new number page count at 2 (one ∷ another ∷ []) (suc height) before others parts both
      page_gave one another order = record {
        after = pair.past;
        below = omega (arith, pair.below, mid_beside.keeps.no_fewer, new_beside.keeps.no_fewer);
        has = pair.has;
        two = pair.two;
        was = pair.was;
        there = new_beside.keeps.pages number (omega (arith, one_at-same number)) ∙ mid_beside.keeps.pages number (omega (arith, one_at-same number)) ∙ pair.there;
        says = pair.says;
        lie = all_append (Lies form new (suc height)) left (both ++ right) (kept_beside left (λ n. omega arith) pair.lie_before)
            (all_append (Lies form new (suc height)) both right
            (all_beside (Lies form new (suc height)) is_first taken.parts left_over.parts
            (parts_kept form mid new (uses_all (suc height) taken.parts & (above & others)) new_beside.keeps (suc height) taken.parts (λ n. omega arith) taken.lie)
            left_over.lie)
            (kept_beside right (λ n. omega arith) pair.lie_after));
        top = tops_beside (suc height) is_first taken.parts left_over.parts (child ∷ []) (other ∷ []) taken.top left_over.top ∙ sym order;
        shares = pair.shares;
        moves =
            let was : ℕ → ℕ = (one_at child & uses height grand) & ((one_at other & uses_all height siblings) & above) in
            let is : ℕ → ℕ = one_at number & uses_all (suc height) (left ++ (both ++ right)) in
            let between : ℕ → ℕ = near_before & (uses_all (suc height) taken.parts & above) in
            let one_move = moves_same now mid (child_before & (near_before & above)) (uses_all (suc height) taken.parts & (near_before & above)) was between
            (λ n. omega (arith, all_uses n, siblings_use n)) (λ n. omega arith) (moves_part now mid child_before (uses_all (suc height) taken.parts) (near_before & above) taken.moves) in
            let next_move = moves_same mid new (near_before & (uses_all (suc height) taken.parts & above)) (uses_all (suc height) left_over.parts & (uses_all (suc height) taken.parts & above)) between is
            (λ n. refl) (λ n. omega (arith, both_use n, sum_between (λ (p : Shape (suc height)). uses (suc height) p n) left both right))
            (moves_part mid new near_before (uses_all (suc height) left_over.parts) (uses_all (suc height) taken.parts & above) left_over.moves) in
            moves_trans base now new before was is pair.moves (moves_trans now mid new was between is one_move next_move);
      }

      pub shared_cells : flat_map (cells_of (suc height)) (those_now at 2 parts both)
          ≡ flat_map (cells_of (suc height)) left ++ (beside is_first (cells_of height grand) (flat_map (cells_of height) siblings) ++ flat_map (cells_of (suc height)) right)
      shared_cells =
          flat_between (cells_of (suc height)) left both right
          ∙ ap (λ cs. flat_map (cells_of (suc height)) left ++ (cs ++ flat_map (cells_of (suc height)) right))
          (flat_beside (suc height) is_first taken.parts left_over.parts
          ∙ ap (λ cs. beside is_first cs (flat_map (cells_of (suc height)) left_over.parts)) (taken.lists ∙ ap (flat_map (cells_of height)) all_is ∙ flat_beside height is_first (grand ∷ []) (y ∷ []))
          ∙ ap (λ cs. beside is_first (beside is_first (flat_map (cells_of height) (grand ∷ [])) (flat_map (cells_of height) (y ∷ []))) cs) left_over.lists
          ∙ regrouped is_first (flat_map (cells_of height) (grand ∷ [])) (flat_map (cells_of height) (y ∷ [])) (flat_map (cells_of height) rest)
          ∙ ap (λ cs. beside is_first (flat_map (cells_of height) (grand ∷ [])) cs) (sym (flat_beside height is_first (y ∷ []) rest) ∙ sym (ap (flat_map (cells_of height)) siblings_are))
          ∙ ap (λ cs. beside is_first cs (flat_map (cells_of height) siblings)) (append-nil (cells_of height grand)))

module _ (form : Form) (now : PageMap) (number : ℕ) (page : List ℕ) (count at : ℕ) (is_first : Bool) (child only other : ℕ) (near : List ℕ) (size place given first second : ℕ) (entry : List ℕ) (more : 2 < size) (start : place ≡ cond is_first 0 (size - 1))
    (there : slice_get (records size (entry_width form) (content near)) place ≡ Some entry) (gives : given ≡ number_at 0 4 entry) (ordered : first ∷ second ∷ [] ≡ beside is_first (only ∷ []) (given ∷ []))
    (later : PageMap) (held : List ℕ) (same : SamePages later now) (lent : later.page child ≡ Some held) where
  pub no_two : NoneGaveWay form later child held 2 0 2 (first ∷ second ∷ []) → NonePairs form now number page count at is_first child only other near size
  no_two none = record {
    none = λ base height before others parts grand siblings pair.
        none.none later height _ _ _ _ (child_gave form base later number page count at is_first child only other near size height before others parts grand siblings place given first second held entry more start there gives ordered lent (pair_same form base now later number page count at is_first child only other near size height before others parts grand siblings same pair));
  }

  module _ (mid : PageMap) (two : Finishes form later mid child held 2 0 2 (first ∷ second ∷ []) Kept) where
    pub no_less : NoneGaveWay form mid other near size place 1 [] → NonePairs form now number page count at is_first child only other near size
    no_less none = record {
      none = λ base height before others parts grand siblings pair.
          none.none mid height _ _ siblings [] (near_gave form base later number page count at is_first child only other near size height before others parts grand siblings place given first second held entry more start there gives ordered lent (pair_same form base now later number page count at is_first child only other near size height before others parts grand siblings same pair) mid two);
    }

    module _ (new : PageMap) (less : Finishes form mid new other near size place 1 [] Kept) (one another : ℕ) (order : one ∷ another ∷ [] ≡ beside is_first (child ∷ []) (other ∷ [])) where
      pub no_above : NoneGaveWay form new number page count at 2 (one ∷ another ∷ []) → NonePairs form now number page count at is_first child only other near size
      no_above none = record {
        none = λ base height before others parts grand siblings pair.
            none.none base (suc height) before others parts _ (page_gave form base later number page count at is_first child only other near size height before others parts grand siblings place given first second held entry more start there gives ordered lent (pair_same form base now later number page count at is_first child only other near size height before others parts grand siblings same pair) mid two new less one another order);
      }

      pub shares_all : (last : PageMap) → Finishes form new last number page count at 2 (one ∷ another ∷ []) Kept → Pairs form now last number page count at is_first child only other near size Kept
      shares_all last finishes = record {
        each = λ base height before others parts grand siblings pair.
            let gave = page_gave form base later number page count at is_first child only other near size height before others parts grand siblings place given first second held entry more start there gives ordered lent (pair_same form base now later number page count at is_first child only other near size height before others parts grand siblings same pair) mid two new less one another order in
            let is = shared_cells form base later number page count at is_first child only other near size height before others parts grand siblings place given first second held entry more start there gives ordered lent (pair_same form base now later number page count at is_first child only other near size height before others parts grand siblings same pair) mid two new less in
            subst (λ cs. IsLeft form base last number (suc (suc height)) before cs Kept) is
            (finishes.each base (suc height) before others parts (beside is_first (taken form base later number page count at is_first child only other near size height before others parts grand siblings place given first second held entry more start there gives ordered lent (pair_same form base now later number page count at is_first child only other near size height before others parts grand siblings same pair) mid two).parts (left_over form base later number page count at is_first child only other near size height before others parts grand siblings place given first second held entry more start there gives ordered lent (pair_same form base now later number page count at is_first child only other near size height before others parts grand siblings same pair) mid two new less).parts) gave);
      }

-- a page that had one part left is one of a tree's
pub no_held : (says : List ℕ → List (List ℕ) → Type 0) (layout : Layout) (now : PageMap) (number : ℕ) (page : List ℕ) (count at : ℕ) (is_first : Bool) (child only other : ℕ) (near : List ℕ) (size : ℕ)
    → HasNoNode now child layout → NonePairs (form_with says layout) now number page count at is_first child only other near size
no_held says layout now number page count at is_first child only other near size none = record {
  none = λ base height before others parts grand siblings pair. none.none pair.child_page (Inner 2) pair.child_there pair.child_past (pair.child_has, omega arith);
}

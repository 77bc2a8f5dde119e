-- A neighbour that takes the only part in.
use Rattle.std.proofs.Common.{◌≡◌, ◌≤◌, ◌+◌, ℕ, suc, Bool, true, false, cond, Result, Ok, Err, IfOk, List, [], ◌∷◌, ◌++◌, length, take, drop, map, refl, sym, ap, ◌∙◌, subst, arith}
use Rattle.std.proofs.lemmas.Grind.{flat_map-append}
use Rattle.std.proofs.lemmas.List.{append-nil, take_all, drop_all, length-map}
use Rattle.std.proofs.lemmas.List.Sums.{sum_by-cons, sum_by-append}
use Rattle.std.specs.List.{AllByRecursion, AllZip, flat_map}
use Rattle.rs_page.specs.declared.header.PageKind.TheVariants as kind
use Rattle.rs_pages.specs.PageMap.{PageMap}
use Rattle.rs_pages.specs.Store.{Store}
use Rattle.rs_pages.specs.Uses.{ReleasesPage}
use Rattle.rs_pages.proofs.Stores.{SamePages-refl, used_there}
use Rattle.rs_page_owners.specs.Counts.{one_at, ◌&◌, no_pages}
use Rattle.rs_page_owners.specs.Owners.{Shares, Moves, MovesBeside}
use Rattle.rs_page_owners.proofs.Moving.{one_at-same, shares_same, moves_trans, moves_same, moves_part, same_pages-moves, releases-moves}
use Rattle.rs_page_owners.proofs.Working.{NotReleased}
use Rattle.rs_tree.specs.Content.{SaysChild, content}
use Rattle.rs_records.specs.Records.{records}
use Rattle.rs_records.proofs.RecordLists.{length-records}
use Rattle.rs_tree.proofs.Lists.{zip_lengths}
use Rattle.rs_tree.specs.Form.{Form, entry_width}
use Rattle.rs_tree.specs.Shape.{Shape, Lies, cells_of, uses, child_of}
use Rattle.rs_tree.specs.Content.{tree_header}
use Rattle.rs_tree_edit.specs.Parts.{TakesPlace, uses_all}
use Rattle.rs_tree_edit.proofs.Pieces.{all_append, flat_between, sum_between}
use Rattle.rs_tree_edit.proofs.Replacing.{parts_kept}
use Rattle.rs_tree_remove.specs.Finishing.{GaveWay, Finishes, NoneGaveWay}
use Rattle.rs_tree_remove.specs.Leaving.{IsLeft}
use Rattle.rs_tree_remove.specs.declared.answer.Removed.{Removed}
use Rattle.rs_tree_remove.specs.declared.answer.Removed.TheVariants.{Kept}
use Rattle.rs_tree_remove.proofs.Refusing.{IsLent, lent-released}
use Rattle.rs_tree_remove.proofs.Written.{those_now}
use Rattle.rs_tree_remove.specs.Mending.{IsPair, Pairs, NonePairs, beside}

-- what follows where a call answers
pub if_ok : {T E : Type 0} {P Q : T → Type 0} (result : Result T E) → IfOk result P → ((x : T) → P x → Q x) → IfOk result Q
if_ok (Ok x) p f = f x p
if_ok (Err e) p f = tt

pub uses_beside : (height : ℕ) (is_first : Bool) (xs ys : List (Shape height)) (n : ℕ) → uses_all height (beside is_first xs ys) n ≡ uses_all height xs n + uses_all height ys n
uses_beside height true xs ys n = sum_by-append (λ part. uses height part n) xs ys
uses_beside height false xs ys n = omega (arith, sum_by-append (λ part. uses height part n) ys xs)

pub flat_beside : (height : ℕ) (is_first : Bool) (xs ys : List (Shape height)) → flat_map (cells_of height) (beside is_first xs ys) ≡ beside is_first (flat_map (cells_of height) xs) (flat_map (cells_of height) ys)
flat_beside height true xs ys = flat_map-append (cells_of height) xs ys
flat_beside height false xs ys = flat_map-append (cells_of height) ys xs

pub all_beside : {X : Type 0} (P : X → Type 0) (is_first : Bool) (xs ys : List X) → AllByRecursion P xs → AllByRecursion P ys → AllByRecursion P (beside is_first xs ys)
all_beside P true xs ys one other = all_append P xs ys one other
all_beside P false xs ys one other = all_append P ys xs other one

pub said_count : (form : Form) (height : ℕ) (page : List ℕ) (count : ℕ) (parts : List (Shape height)) → AllZip (SaysChild form) (records count (entry_width form) (content page)) (map (child_of height) parts) → length parts ≡ count
said_count form height page count parts says =
    omega (arith, zip_lengths (SaysChild form) (records count (entry_width form) (content page)) (map (child_of height) parts) says, length-map parts (child_of height), length-records count (entry_width form) (content page))

-- one taken in at the near end
taken_in : {X : Type 0} (is_first : Bool) (place : ℕ) (xs : List X) (x : X) → length xs ≡ 2 → place ≡ cond is_first 0 2 → those_now place 0 xs (x ∷ []) ≡ beside is_first (x ∷ []) xs
taken_in true place xs x two is = ap (λ p. those_now p 0 xs (x ∷ [])) is
taken_in false place xs x two is =
    ap (λ p. those_now p 0 xs (x ∷ [])) is ∙ ap (λ ys. ys ++ (x ∷ drop 2 xs)) (take_all 2 xs (omega arith)) ∙ ap (λ ys. xs ++ (x ∷ ys)) (drop_all 2 xs (omega arith))

module _ (form : Form) (base now : PageMap) (number : ℕ) (page : List ℕ) (count at : ℕ) (is_first : Bool) (child only other : ℕ) (near : List ℕ) (height : ℕ) (before others : ℕ → ℕ)
    (parts : List (Shape (suc height))) (grand : Shape height) (siblings : List (Shape height)) (place : ℕ) (start : place ≡ cond is_first 0 2)
    (pair : IsPair form base now number page count at is_first child only other near 2 height before others parts grand siblings) where
  -- the page above and the parts beside the two
  abbrev above : ℕ → ℕ
  above = one_at number & (uses_all (suc height) (take at parts) & uses_all (suc height) (drop (at + 2) parts))

  two_siblings : length siblings ≡ 2
  two_siblings = said_count form height near 2 siblings pair.near_says

  abbrev all_now : List (Shape height)
  all_now = those_now place 0 siblings (grand ∷ [])

  all_is : all_now ≡ beside is_first (grand ∷ []) siblings
  all_is = taken_in is_first place siblings grand two_siblings start

  all_uses : (n : ℕ) → uses_all height all_now n ≡ uses height grand n + uses_all height siblings n
  all_uses n = omega (arith, ap (λ ps. uses_all height ps n) all_is, uses_beside height is_first (grand ∷ []) siblings n, sum_by-cons (λ part. uses height part n) grand [])

  abbrev near_before : ℕ → ℕ
  near_before = one_at other & uses_all height all_now

  shared_now : Shares now (((one_at child & uses height grand) & ((one_at other & uses_all height siblings) & above)) & others)
  shared_now = (pair.moves.beside others pair.shares).shares

  near_shares : Shares now (near_before & (one_at child & (above & others)))
  near_shares = shares_same now (((one_at child & uses height grand) & ((one_at other & uses_all height siblings) & above)) & others) (near_before & (one_at child & (above & others)))
      (λ n. omega (arith, all_uses n)) shared_now

  -- the neighbour has one part more
  pub near_gave : GaveWay form now now other near 2 place 0 (only ∷ []) height near_before (one_at child & (above & others)) siblings (grand ∷ [])
  near_gave = record {
    after = pair.near_past;
    below = pair.near_below;
    has = pair.near_has;
    two = pair.near_two;
    was = pair.near_there;
    there = pair.near_there;
    says = pair.near_says;
    lie = subst (AllByRecursion (Lies form now height)) (sym all_is) (all_beside (Lies form now height) is_first (grand ∷ []) siblings (pair.lies, tt) pair.near_lie);
    top = ap (λ n. n ∷ []) pair.top;
    shares = near_shares;
    moves = same_pages-moves now now near_before (SamePages-refl now);
  }

  module _ (mid : PageMap) (finishes : Finishes form now mid other near 2 place 0 (only ∷ []) Kept) where
    abbrev taken : TakesPlace form now mid (suc height) near_before (other ∷ []) (flat_map (cells_of height) all_now)
    taken = finishes.each now height near_before (one_at child & (above & others)) siblings (grand ∷ []) near_gave

    mid_beside : MovesBeside now mid near_before (uses_all (suc height) taken.parts) (one_at child & (above & others))
    mid_beside = taken.moves.beside (one_at child & (above & others)) near_shares

    -- the page that had one part left is still there
    pub child_lent : IsLent mid child
    child_lent = record {
      page = pair.child_page;
      there = mid_beside.keeps.pages child (omega (arith, one_at-same child)) ∙ pair.child_there;
      used = rw pair.child_has.header.kind refl;
      fits = λ pages. record { header = tree_header kind.Inner 2 child; there = pair.child_has.header; fits = (refl, (pair.child_past, omega arith, refl)) };
      past = pair.child_past;
      below = omega (arith, pair.child_below, mid_beside.keeps.no_fewer);
    }

    pub child_shares : Shares mid (one_at child & (uses_all (suc height) taken.parts & (above & others)))
    child_shares = shares_same mid (uses_all (suc height) taken.parts & (one_at child & (above & others))) (one_at child & (uses_all (suc height) taken.parts & (above & others))) (λ n. omega arith) mid_beside.shares

    module _ (tied : Type 0) (was new : Store) (is : was.map ≡ mid) (held : tied) (releases : ReleasesPage tied child was new) where
      freed : Moves mid new.map (one_at child) no_pages
      freed = subst (λ m. Moves m new.map (one_at child) no_pages) is
          (releases-moves was.map new.map child releases.was releases.past releases.lends.below (used_there was.map child releases.was (releases.lends.bytes held) releases.lends.in_use) (releases.releases held))

      new_beside : MovesBeside mid new.map (one_at child) no_pages (uses_all (suc height) taken.parts & (above & others))
      new_beside = freed.beside (uses_all (suc height) taken.parts & (above & others)) child_shares

      kept_beside : (ps : List (Shape (suc height))) → ((n : ℕ) → uses_all (suc height) ps n ≤ above n) → AllByRecursion (Lies form now (suc height)) ps → AllByRecursion (Lies form new.map (suc height)) ps
      kept_beside ps within lie =
          parts_kept form mid new.map (uses_all (suc height) taken.parts & (above & others)) new_beside.keeps (suc height) ps (λ n. omega (arith, within n))
          (parts_kept form now mid (one_at child & (above & others)) mid_beside.keeps (suc height) ps (λ n. omega (arith, within n)) lie)

      abbrev left : List (Shape (suc height))
      left = take at parts

      abbrev right : List (Shape (suc height))
      right = drop (at + 2) parts

      -- the two pages gave way to one
      pub page_gave : GaveWay form base new.map number page count at 2 (other ∷ []) (suc height) before others parts taken.parts
      page_gave = record {
        after = pair.past;
        below = omega (arith, pair.below, mid_beside.keeps.no_fewer, new_beside.keeps.no_fewer);
        has = pair.has;
        two = pair.two;
        was = pair.was;
        there = new_beside.keeps.pages number (omega (arith, one_at-same number)) ∙ mid_beside.keeps.pages number (omega (arith, one_at-same number)) ∙ pair.there;
        says = pair.says;
        lie = all_append (Lies form new.map (suc height)) left (taken.parts ++ right) (kept_beside left (λ n. omega arith) pair.lie_before)
            (all_append (Lies form new.map (suc height)) taken.parts right
            (parts_kept form mid new.map (uses_all (suc height) taken.parts & (above & others)) new_beside.keeps (suc height) taken.parts (λ n. omega arith) taken.lie)
            (kept_beside right (λ n. omega arith) pair.lie_after));
        top = taken.top;
        shares = pair.shares;
        moves =
            let first = moves_same now mid (near_before & (one_at child & above)) (uses_all (suc height) taken.parts & (one_at child & above))
            ((one_at child & uses height grand) & ((one_at other & uses_all height siblings) & above)) (one_at child & (uses_all (suc height) taken.parts & above))
            (λ n. omega (arith, all_uses n)) (λ n. omega arith) (moves_part now mid near_before (uses_all (suc height) taken.parts) (one_at child & above) taken.moves) in
            let second = moves_same mid new.map (one_at child & (uses_all (suc height) taken.parts & above)) (no_pages & (uses_all (suc height) taken.parts & above))
            (one_at child & (uses_all (suc height) taken.parts & above)) (one_at number & uses_all (suc height) (left ++ (taken.parts ++ right)))
            (λ n. refl) (λ n. omega (arith, sum_between (λ (p : Shape (suc height)). uses (suc height) p n) left taken.parts right))
            (moves_part mid new.map (one_at child) no_pages (uses_all (suc height) taken.parts & above) freed) in
            moves_trans base now new.map before ((one_at child & uses height grand) & ((one_at other & uses_all height siblings) & above)) (one_at number & uses_all (suc height) (left ++ (taken.parts ++ right))) pair.moves
            (moves_trans now mid new.map ((one_at child & uses height grand) & ((one_at other & uses_all height siblings) & above)) (one_at child & (uses_all (suc height) taken.parts & above)) (one_at number & uses_all (suc height) (left ++ (taken.parts ++ right))) first second);
      }

      pub joined_cells : flat_map (cells_of (suc height)) (those_now at 2 parts taken.parts)
          ≡ flat_map (cells_of (suc height)) left ++ (beside is_first (cells_of height grand) (flat_map (cells_of height) siblings) ++ flat_map (cells_of (suc height)) right)
      joined_cells =
          flat_between (cells_of (suc height)) left taken.parts right
          ∙ ap (λ cs. flat_map (cells_of (suc height)) left ++ (cs ++ flat_map (cells_of (suc height)) right))
          (taken.lists ∙ ap (flat_map (cells_of height)) all_is ∙ flat_beside height is_first (grand ∷ []) siblings
          ∙ ap (λ cs. beside is_first cs (flat_map (cells_of height) siblings)) (append-nil (cells_of height grand)))

module _ (form : Form) (now : PageMap) (number : ℕ) (page : List ℕ) (count at : ℕ) (is_first : Bool) (child only other : ℕ) (near : List ℕ) (place : ℕ) (start : place ≡ cond is_first 0 2) where
  pub joins : (tied : Type 0) (was mid : Store) (new : PageMap) (answer : Removed) → tied → Finishes form now was.map other near 2 place 0 (only ∷ []) Kept → ReleasesPage tied child was mid
      → Finishes form mid.map new number page count at 2 (other ∷ []) answer → Pairs form now new number page count at is_first child only other near 2 answer
  joins tied was mid new answer held first releases last = record {
    each = λ base height before others parts grand siblings pair.
        let gave = page_gave form base now number page count at is_first child only other near height before others parts grand siblings place start pair was.map first tied was mid refl held releases in
        let news = (taken form base now number page count at is_first child only other near height before others parts grand siblings place start pair was.map first).parts in
        subst (λ cs. IsLeft form base new number (suc (suc height)) before cs answer)
        (joined_cells form base now number page count at is_first child only other near height before others parts grand siblings place start pair was.map first tied was mid refl held releases)
        (last.each base (suc height) before others parts news gave);
  }

  pub no_joining : NoneGaveWay form now other near 2 place 0 (only ∷ []) → NonePairs form now number page count at is_first child only other near 2
  no_joining none = record {
    none = λ base height before others parts grand siblings pair.
        none.none now height _ _ siblings (grand ∷ []) (near_gave form base now number page count at is_first child only other near height before others parts grand siblings place start pair);
  }

  pub no_release : (tied : Type 0) (was : Store) → tied → Finishes form now was.map other near 2 place 0 (only ∷ []) Kept → NotReleased tied child was → NonePairs form now number page count at is_first child only other near 2
  no_release tied was held first refused = record {
    none = λ base height before others parts grand siblings pair.
        lent-released tied was child _ held (child_lent form base now number page count at is_first child only other near height before others parts grand siblings place start pair was.map first)
        (child_shares form base now number page count at is_first child only other near height before others parts grand siblings place start pair was.map first) refused;
  }

  pub no_writing : (tied : Type 0) (was mid : Store) → tied → Finishes form now was.map other near 2 place 0 (only ∷ []) Kept → ReleasesPage tied child was mid
      → NoneGaveWay form mid.map number page count at 2 (other ∷ []) → NonePairs form now number page count at is_first child only other near 2
  no_writing tied was mid held first releases none = record {
    none = λ base height before others parts grand siblings pair.
        let gave = page_gave form base now number page count at is_first child only other near height before others parts grand siblings place start pair was.map first tied was mid refl held releases in
        let news = (taken form base now number page count at is_first child only other near height before others parts grand siblings place start pair was.map first).parts in
        none.none base (suc height) before others parts news gave;
  }

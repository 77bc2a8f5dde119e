-- An inner page that is written, or told to go, after parts below it gave way.
use Rattle.std.proofs.Common.{◌≡◌, ◌⊎◌, ◌<◌, ◌≤◌, ◌+◌, ◌-◌, ℕ, zero, suc, Some, List, [], ◌∷◌, ◌++◌, length, take, drop, map, slice_get, refl, sym, ap, ◌∙◌, subst, inl, inr, arith}
use Rattle.std.proofs.lemmas.List.{append-nil, drop_all, take_all, length-map, length-append, length-drop, length-take-le}
use Rattle.std.proofs.lemmas.List.Sums.{sum_by-cons}
use Rattle.std.specs.List.{AllByRecursion, AllZip, flat_map}
use Rattle.rs_page.specs.Number.{number_at}
use Rattle.rs_page.specs.declared.header.PageKind.TheVariants as kind
use Rattle.rs_pages.specs.PageMap.{PageMap, SamePages, HasNoFit}
use Rattle.rs_records.specs.Records.{records}
use Rattle.rs_records.proofs.RecordLists.{length-records, records_none, records_more}
use Rattle.rs_page_owners.specs.Counts.{one_at, ◌&◌}
use Rattle.rs_page_owners.specs.Owners.{Shares}
use Rattle.rs_page_owners.proofs.Moving.{moves_same, moves_trans, moves_part, shares_same}
use Rattle.rs_tree.specs.Form.{Form, entry_width}
use Rattle.rs_tree.specs.Content.{SaysChild, HasRecords, content, tree_header}
use Rattle.rs_tree.specs.Shape.{Shape, Lies, page_of, cells_of, uses, size_of, child_of}
use Rattle.rs_tree.proofs.Lists.{zip_lengths, zip_at, map_at}
use Rattle.rs_tree.specs.Layouts.{form_with}
use Rattle.rs_tree.specs.declared.layout.Layout.{Layout}
use Rattle.rs_tree.proofs.Entering.{no_node-no_part}
use Rattle.rs_tree_edit.specs.Editing.{Splices, Lists}
use Rattle.rs_tree_edit.specs.Parts.{TakesPlace, uses_all}
use Rattle.rs_tree_edit.proofs.Pieces.{zip_spliced}
use Rattle.rs_tree_edit.proofs.Replacing.{Reparts, reparts_same, inner_written, splices-moves, splices-lists, parts_kept}
use Rattle.rs_tree_remove.specs.Leaving.{LeavesOne}
use Rattle.rs_tree_remove.specs.Finishing.{GaveWay, Finishes, NoneGaveWay, CantRenew, Renews}
use Rattle.rs_tree_remove.proofs.Refusing.{IsLent, lent-fits}
use Rattle.rs_tree_remove.specs.declared.answer.Removed.TheVariants.{Kept, Single}

-- the parts below the page afterwards
abbrev pub those_now : {X : Type 0} → ℕ → ℕ → List X → List X → List X
those_now at removed parts news = take at parts ++ (news ++ drop (at + removed) parts)

pub none_of : {X : Type 0} (f : X → ℕ) (xs : List X) → map f xs ≡ [] → xs ≡ []
none_of f [] e = refl
none_of f (x ∷ xs) e = absurd (cc)

pub one_of : {X : Type 0} (f : X → ℕ) (xs : List X) (top : ℕ) → map f xs ≡ top ∷ [] → (x : X) × (xs ≡ x ∷ []) × (f x ≡ top)
one_of f [] top e = absurd (cc)
one_of f (x ∷ []) top e = let same : f x ≡ top = cc in (x, refl, same)
one_of f (x ∷ y ∷ ys) top e = absurd (cc)

all_last_part : {X : Type 0} (P : X → Type 0) (xs ys : List X) → AllByRecursion P (xs ++ ys) → AllByRecursion P ys
all_last_part P [] ys all = all
all_last_part P (x ∷ xs) ys all = all_last_part P xs ys all.1

-- the first of what came between
first_between : {X : Type 0} (P : X → Type 0) (xs : List X) (x : X) (ys : List X) → AllByRecursion P (xs ++ (x ∷ ys)) → P x
first_between P xs x ys all = (all_last_part P xs (x ∷ ys) all).0

length-now : {X : Type 0} (at removed : ℕ) (parts news : List X) → at + removed ≤ length parts → length (those_now at removed parts news) + removed ≡ length parts + length news
length-now at removed parts news inside =
    omega (arith, length-append (take at parts) (news ++ drop (at + removed) parts), length-append news (drop (at + removed) parts), length-drop (at + removed) parts, length-take-le at parts (omega arith))

module _ (form : Form) (base now : PageMap) (number : ℕ) (page : List ℕ) (count at removed : ℕ) (tops : List ℕ) (height : ℕ) (before others : ℕ → ℕ) (parts news : List (Shape height))
    (gave : GaveWay form base now number page count at removed tops height before others parts news) where
  pub gave_reparts : Reparts form base now height number page before (those_now at removed parts news)
  gave_reparts = record { after = gave.after; below = gave.below; there = gave.there; lie = gave.lie; moves = gave.moves }

  pub gave_count : length parts ≡ count
  gave_count =
      omega (arith, zip_lengths (SaysChild form) (records count (entry_width form) (content page)) (map (child_of height) parts) gave.says, length-map parts (child_of height), length-records count (entry_width form) (content page))

  -- the page is written
  pub page_written : (mid new : PageMap) (entries : List (List ℕ)) → SamePages mid now → Splices mid new number kind.Inner (entry_width form) count at removed entries
      → AllZip (SaysChild form) entries (map (child_of height) news) → at + removed ≤ count → 2 ≤ count - removed + length news
      → TakesPlace form base new (suc height) before (number ∷ []) (flat_map (cells_of height) (those_now at removed parts news))
  page_written mid new entries same splices says inside some =
      inner_written form base mid new height number page before others (those_now at removed parts news) count at removed entries
      (reparts_same form base now mid height number page before (those_now at removed parts news) same gave_reparts) gave.shares splices
      (zip_spliced (SaysChild form) (child_of height) (records count (entry_width form) (content page)) entries parts news at (at + removed) gave.says says)
      (omega (arith, length-now at removed parts news (omega (arith, gave_count)), gave_count))

  -- one part alone is left
  pub one_left : (q : Shape height) (top : ℕ) → count ≡ 2 → those_now at removed parts news ≡ q ∷ [] → page_of height q ≡ top
      → LeavesOne form base now height before number top (flat_map (cells_of height) (those_now at removed parts news))
  one_left q top pair only is = record {
    part = q;
    lies = (subst (AllByRecursion (Lies form now height)) only gave.lie).0;
    is = is;
    lists = sym (append-nil (cells_of height q)) ∙ ap (flat_map (cells_of height)) (sym only);
    page = page;
    has = subst (λ n. HasRecords page kind.Inner number n (entry_width form)) pair gave.has;
    was = gave.was;
    there = gave.there;
    moves = moves_same base now before (one_at number & uses_all height (those_now at removed parts news)) before (one_at number & uses height q) (λ n. refl)
        (λ n. omega (arith, ap (λ ps. uses_all height ps n) only, sum_by-cons (λ part. uses height part n) q [])) gave.moves;
  }

module _ (form : Form) (now : PageMap) (number : ℕ) (page : List ℕ) (count : ℕ) where
  -- an entry is dropped
  pub dropped : (new : PageMap) (at width : ℕ) (bytes : List ℕ) → width ≡ entry_width form → at < count → 3 ≤ count
      → Splices now new number kind.Inner width count at 1 (records 0 width bytes) → Finishes form now new number page count at 1 [] Kept
  dropped new at width bytes is inside more splices = record {
    each = λ base height before others parts news gave.
        let none : news ≡ [] = none_of (page_of height) news gave.top in
        let here : Splices now new number kind.Inner (entry_width form) count at 1 [] =
        subst (λ w. Splices now new number kind.Inner w count at 1 []) is (subst (Splices now new number kind.Inner width count at 1) (records_none width bytes) splices) in
        page_written form base now number page count at 1 [] height before others parts news gave now new [] (record { fields = refl; pages = λ n. refl }) here
        (subst (λ ps. AllZip (SaysChild form) [] (map (child_of height) ps)) (sym none) tt) (omega arith) (omega arith);
  }

  -- of two parts the other is left
  pub dropped_one : (at other : ℕ) (entry : List ℕ) → count ≡ 2 → at < count → other ≡ 1 - at → slice_get (records count (entry_width form) (content page)) other ≡ Some entry
      → Finishes form now now number page count at 1 [] (Single (number_at 0 4 entry))
  dropped_one at other entry two inside is there = record {
    each = λ base height before others parts news gave.
        let none : news ≡ [] = none_of (page_of height) news gave.top in
        let size : length parts ≡ 2 = gave_count form base now number page count at 1 [] height before others parts news gave ∙ two in
        let left = the_other height at other parts (omega arith) is size in
        let only : those_now at 1 parts news ≡ left.0 ∷ [] = ap (those_now at 1 parts) none ∙ left.1 in
        let said = zip_at (SaysChild form) (records count (entry_width form) (content page)) (map (child_of height) parts) other entry (child_of height left.0) gave.says there (map_at (child_of height) parts other left.0 left.2) in
        one_left form base now number page count at 1 [] height before others parts news gave left.0 (number_at 0 4 entry) two only (sym said.page);
  } where
    the_other : (height at other : ℕ) (parts : List (Shape height)) → at < 2 → other ≡ 1 - at → length parts ≡ 2 → (q : Shape height) × (those_now at 1 parts [] ≡ q ∷ []) × (slice_get parts other ≡ Some q)
    the_other height at other [] inside is size = absurd (omega arith)
    the_other height at other (a ∷ []) inside is size = absurd (omega arith)
    the_other height zero other (a ∷ b ∷ []) inside is size = let one : other ≡ 1 = omega arith in (b, refl, ap (slice_get (a ∷ b ∷ [])) one)
    the_other height (suc zero) other (a ∷ b ∷ []) inside is size = let none : other ≡ 0 = omega arith in (a, refl, ap (slice_get (a ∷ b ∷ [])) none)
    the_other height (suc (suc at)) other (a ∷ b ∷ []) inside is size = absurd (omega arith)
    the_other height at other (a ∷ b ∷ c ∷ cs) inside is size = absurd (omega arith)

  -- an entry is written anew
  pub renewed : (new : PageMap) (at removed top : ℕ) → at + removed ≤ count → (count ≡ removed → ⊥) → Renews form now new number count at removed top → Finishes form now new number page count at removed (top ∷ []) Kept
  renewed new at removed top inside more renews = record {
    each = λ base height before others parts news gave.
        let one = one_of (page_of height) news top gave.top in
        let lies : Lies form now height one.0 = first_between (Lies form now height) (take at parts) one.0 (drop (at + removed) parts) (subst (λ ns. AllByRecursion (Lies form now height) (those_now at removed parts ns)) one.1 gave.lie) in
        let said = renews.says.each height one.0 (record { lies = lies; top = one.2 }) in
        page_written form base now number page count at removed (top ∷ []) height before others parts news gave renews.mid new (renews.entry ∷ []) renews.same renews.splices
        (subst (λ ps. AllZip (SaysChild form) (renews.entry ∷ []) (map (child_of height) ps)) (sym one.1) (said, tt)) inside
        (omega (arith, ap length one.1, apart count removed more));
  } where
    apart : (m n : ℕ) → (m ≡ n → ⊥) → (m < n) ⊎ (n < m)
    apart zero zero h = absurd (h refl)
    apart zero (suc n) h = inl (omega arith)
    apart (suc m) zero h = inr (omega arith)
    apart (suc m) (suc n) h = elim (apart m n (λ e. h (ap suc e))) [ inl less ↦ inl (omega arith) | inr more ↦ inr (omega arith) ]

  -- it is the only one
  pub renewed_one : (at removed top : ℕ) → at + removed ≤ count → removed ≤ 2 → count ≡ removed → Finishes form now now number page count at removed (top ∷ []) (Single top)
  renewed_one at removed top inside few all = record {
    each = λ base height before others parts news gave.
        let one = one_of (page_of height) news top gave.top in
        let size : length parts ≡ removed = gave_count form base now number page count at removed (top ∷ []) height before others parts news gave ∙ all in
        let first : at ≡ 0 = omega arith in
        let only : those_now at removed parts news ≡ one.0 ∷ [] =
        ap (λ ns. those_now at removed parts ns) one.1 ∙ ap (λ a. those_now a removed parts (one.0 ∷ [])) first ∙ ap (λ rest. one.0 ∷ rest) (past parts removed size) in
        one_left form base now number page count at removed (top ∷ []) height before others parts news gave one.0 top (omega (arith, gave.two)) only one.2;
  } where
    past : {X : Type 0} (xs : List X) (n : ℕ) → length xs ≡ n → drop (0 + n) xs ≡ []
    past [] zero e = refl
    past [] (suc n) e = absurd (omega arith)
    past (x ∷ xs) zero e = absurd (omega arith)
    past (x ∷ xs) (suc n) e = drop_all (0 + suc n) (x ∷ xs) (omega arith)

-- one record
pub one_record : (width : ℕ) (entry : List ℕ) → length entry ≡ width → records 1 width entry ≡ entry ∷ []
one_record width entry size =
    let one : suc zero ≡ 1 = refl in
    records_more 0 width entry ∙ ap (λ x. x ∷ records 0 width (drop width entry)) (take_all width entry (omega arith)) ∙ ap (λ rs. entry ∷ rs) (records_none width (drop width entry))

-- where the page is not lent to be changed, or the part is none, nothing gave way
module _ (says : List ℕ → List (List ℕ) → Type 0) (layout : Layout) (now : PageMap) (number : ℕ) (page : List ℕ) (count at removed : ℕ) where
  abbrev form' : Form
  form' = form_with says layout

  pub gave_lent : (base : PageMap) (tops : List ℕ) (height : ℕ) (before others : ℕ → ℕ) (parts news : List (Shape height)) → GaveWay form' base now number page count at removed tops height before others parts news → IsLent now number
  gave_lent base tops height before others parts news gave = record {
    page = page;
    there = gave.there;
    used = rw gave.has.header.kind refl;
    fits = λ pages. record { header = tree_header kind.Inner count number; there = gave.has.header; fits = (refl, (gave.after, omega (arith, gave.two), refl)) };
    past = gave.after;
    below = gave.below;
  }

  pub no_fit-none : (tops : List ℕ) → HasNoFit now number → NoneGaveWay form' now number page count at removed tops
  no_fit-none tops none = record { none = λ base height before others parts news gave. lent-fits now number (gave_lent base tops height before others parts news gave) none }

  pub cant_renew-none : (top : ℕ) → CantRenew now number top layout → NoneGaveWay form' now number page count at removed (top ∷ [])
  cant_renew-none top (inl none) = no_fit-none (top ∷ []) none
  cant_renew-none top (inr none) = record {
    none = λ base height before others parts news gave.
        let one = one_of (page_of height) news top gave.top in
        let lies : Lies form' now height one.0 = first_between (Lies form' now height) (take at parts) one.0 (drop (at + removed) parts) (subst (λ ns. AllByRecursion (Lies form' now height) (those_now at removed parts ns)) one.1 gave.lie) in
        (no_node-no_part says layout now top height (size_of height one.0) (λ some. none)).none height one.0 (record { lies = lies; top = one.2 }) (omega arith) (omega arith);
  }

pub two_of : {X : Type 0} (f : X → ℕ) (xs : List X) (top other : ℕ) → map f xs ≡ top ∷ other ∷ [] → (x : X) × (y : X) × (xs ≡ x ∷ y ∷ []) × (f x ≡ top) × (f y ≡ other)
two_of f [] top other e = absurd (cc)
two_of f (x ∷ []) top other e = absurd (cc)
two_of f (x ∷ y ∷ []) top other e = let one : f x ≡ top = cc in let same : f y ≡ other = cc in (x, y, refl, one, same)
two_of f (x ∷ y ∷ z ∷ zs) top other e = absurd (cc)

-- one element and then the next give way
pub splice_twice : {X : Type 0} (xs : List X) (at : ℕ) (a b : X) → at + 2 ≤ length xs
    → take (suc at) (take at xs ++ (a ∷ drop (suc at) xs)) ++ (b ∷ drop (suc (suc at)) (take at xs ++ (a ∷ drop (suc at) xs))) ≡ take at xs ++ (a ∷ b ∷ drop (suc (suc at)) xs)
splice_twice [] at a b inside = absurd (omega arith)
splice_twice (x ∷ []) at a b inside = absurd (omega arith)
splice_twice (x ∷ y ∷ ys) zero a b inside = refl
splice_twice (x ∷ y ∷ ys) (suc at) a b inside = ap (λ zs. x ∷ zs) (splice_twice (y ∷ ys) at a b (omega arith))

twice : {X : Type 0} (xs : List X) (at : ℕ) (a b : X) → at + 2 ≤ length xs → those_now (at + 1) 1 (those_now at 1 xs (a ∷ [])) (b ∷ []) ≡ those_now at 2 xs (a ∷ b ∷ [])
twice xs at a b inside =
    let one : at + 1 ≡ suc at = omega arith in
    let two : at + 2 ≡ suc (suc at) = omega arith in
    let more : at + 1 + 1 ≡ suc (suc at) = omega arith in
    ap (λ n. take (at + 1) (take at xs ++ (a ∷ drop n xs)) ++ (b ∷ drop (at + 1 + 1) (take at xs ++ (a ∷ drop n xs)))) one
    ∙ ap (λ n. take n (take at xs ++ (a ∷ drop (suc at) xs)) ++ (b ∷ drop (at + 1 + 1) (take at xs ++ (a ∷ drop (suc at) xs)))) one
    ∙ ap (λ n. take (suc at) (take at xs ++ (a ∷ drop (suc at) xs)) ++ (b ∷ drop n (take at xs ++ (a ∷ drop (suc at) xs)))) more
    ∙ splice_twice xs at a b inside ∙ ap (λ n. take at xs ++ (a ∷ b ∷ drop n xs)) (sym two)

-- a page that was written is written once more
pub rewritten : (form : Form) (base now mid new : PageMap) (height number : ℕ) (page : List ℕ) (before others : ℕ → ℕ) (parts : List (Shape height)) (count at removed : ℕ) (added : List (List ℕ))
    → Reparts form base now height number page before parts → Shares base (before & others) → SamePages mid now
    → (splices : Splices mid new number kind.Inner (entry_width form) count at removed added) → Reparts form base new height number splices.page before parts
rewritten form base now mid new height number page before others parts count at removed added reparts shares same splices =
    let here = reparts_same form base now mid height number page before parts same reparts in
    let written = splices-moves mid new number kind.Inner (entry_width form) count at removed added splices in
    let shared = (here.moves.beside others shares).shares in
    let moved = written.beside (uses_all height parts & others) (shares_same mid ((one_at number & uses_all height parts) & others) (one_at number & (uses_all height parts & others)) (λ n. omega arith) shared) in
    record {
      after = here.after;
      below = omega (arith, here.below, moved.keeps.no_fewer);
      there = splices.replaces.there;
      lie = parts_kept form mid new (uses_all height parts & others) moved.keeps height parts (λ n. omega arith) here.lie;
      moves = moves_trans base mid new before (one_at number & uses_all height parts) (one_at number & uses_all height parts) here.moves
          (moves_part mid new (one_at number) (one_at number) (uses_all height parts) written);
    }

-- the entries of two neighbours are written anew
pub renewed_two : (form : Form) (now mid new : PageMap) (number : ℕ) (page : List ℕ) (count at first second : ℕ) → at + 2 ≤ count → Renews form now mid number count at 1 first → Renews form mid new number count (at + 1) 1 second
    → Finishes form now new number page count at 2 (first ∷ second ∷ []) Kept
renewed_two form now mid new number page count at first second inside one other = record {
  each = λ base height before others parts news gave.
      let pair = two_of (page_of height) news first second gave.top in
      let all : List (Shape height) = those_now at 2 parts news in
      let whole : those_now at 2 parts (pair.0 ∷ pair.1 ∷ []) ≡ all = ap (those_now at 2 parts) (sym pair.2) in
      let was = gave_reparts form base now number page count at 2 (first ∷ second ∷ []) height before others parts news gave in
      let is = rewritten form base now one.mid mid height number page before others all count at 1 (one.entry ∷ []) was gave.shares one.same one.splices in
      let lie_now = subst (AllByRecursion (Lies form now height)) (sym whole) gave.lie in
      let lie_mid = subst (AllByRecursion (Lies form mid height)) (sym whole) is.lie in
      let said = one.says.each height pair.0 (record { lies = first_between (Lies form now height) (take at parts) pair.0 (pair.1 ∷ drop (at + 2) parts) lie_now; top = pair.3 }) in
      let told = other.says.each height pair.1 (record { lies = (all_last_part (Lies form mid height) (take at parts) (pair.0 ∷ pair.1 ∷ drop (at + 2) parts) lie_mid).1.0; top = pair.4 }) in
      let rs : List (List ℕ) = records count (entry_width form) (content page) in
      let lists : Lists one.splices.page kind.Inner number (entry_width form) (those_now at 1 rs (one.entry ∷ [])) =
      splices-lists one.mid mid number kind.Inner (entry_width form) count at 1 (one.entry ∷ []) page (one.same.pages number ∙ gave.there) one.splices in
      let size : length rs ≡ count = length-records count (entry_width form) (content page) in
      let counted : length parts ≡ count = gave_count form base now number page count at 2 (first ∷ second ∷ []) height before others parts news gave in
      let again : length (those_now at 1 rs (one.entry ∷ [])) ≡ count = omega (arith, length-now at 1 rs (one.entry ∷ []) (omega (arith, size)), size) in
      let holds : records count (entry_width form) (content one.splices.page) ≡ those_now at 1 rs (one.entry ∷ []) =
      ap (λ n. records n (entry_width form) (content one.splices.page)) (sym again) ∙ lists.holds in
      let first_says = zip_spliced (SaysChild form) (child_of height) rs (one.entry ∷ []) parts (pair.0 ∷ []) at (at + 1) gave.says (said, tt) in
      let both_say = zip_spliced (SaysChild form) (child_of height) (those_now at 1 rs (one.entry ∷ [])) (other.entry ∷ []) (those_now at 1 parts (pair.0 ∷ [])) (pair.1 ∷ []) (at + 1) (at + 1 + 1) first_says (told, tt) in
      let parts_are : those_now (at + 1) 1 (those_now at 1 parts (pair.0 ∷ [])) (pair.1 ∷ []) ≡ all = twice parts at pair.0 pair.1 (omega (arith, counted)) ∙ whole in
      let says_here = subst (λ es. AllZip (SaysChild form) (those_now (at + 1) 1 es (other.entry ∷ [])) (map (child_of height) all)) (sym holds)
      (subst (λ ps. AllZip (SaysChild form) (those_now (at + 1) 1 (those_now at 1 rs (one.entry ∷ [])) (other.entry ∷ [])) (map (child_of height) ps)) parts_are both_say) in
      inner_written form base other.mid new height number one.splices.page before others all count (at + 1) 1 (other.entry ∷ [])
      (reparts_same form base mid other.mid height number one.splices.page before all other.same is) gave.shares other.splices says_here
      (omega (arith, length-now at 2 parts news (omega (arith, counted)), ap length pair.2, counted));
}

-- where the first can't be written
pub cant_renew-first : (says : List ℕ → List (List ℕ) → Type 0) (layout : Layout) (now : PageMap) (number : ℕ) (page : List ℕ) (count at first second : ℕ) → CantRenew now number first layout
    → NoneGaveWay (form_with says layout) now number page count at 2 (first ∷ second ∷ [])
cant_renew-first says layout now number page count at first second (inl none) = no_fit-none says layout now number page count at 2 (first ∷ second ∷ []) none
cant_renew-first says layout now number page count at first second (inr none) = record {
  none = λ base height before others parts news gave.
      let pair = two_of (page_of height) news first second gave.top in
      let whole : those_now at 2 parts news ≡ those_now at 2 parts (pair.0 ∷ pair.1 ∷ []) = ap (those_now at 2 parts) pair.2 in
      let lies = first_between (Lies (form_with says layout) now height) (take at parts) pair.0 (pair.1 ∷ drop (at + 2) parts) (subst (AllByRecursion (Lies (form_with says layout) now height)) whole gave.lie) in
      (no_node-no_part says layout now first height (size_of height pair.0) (λ some. none)).none height pair.0 (record { lies = lies; top = pair.3 }) (omega arith) (omega arith);
}

-- and where the second can't be
pub cant_renew-second : (says : List ℕ → List (List ℕ) → Type 0) (layout : Layout) (now mid : PageMap) (number : ℕ) (page : List ℕ) (count at first second : ℕ) → at + 2 ≤ count → Renews (form_with says layout) now mid number count at 1 first
    → CantRenew mid number second layout → NoneGaveWay (form_with says layout) now number page count at 2 (first ∷ second ∷ [])
cant_renew-second says layout now mid number page count at first second inside one cant = record {
  none = λ base height before others parts news gave.
      let form : Form = form_with says layout in
      let all : List (Shape height) = those_now at 2 parts news in
      let pair = two_of (page_of height) news first second gave.top in
      let whole : those_now at 2 parts (pair.0 ∷ pair.1 ∷ []) ≡ all = ap (those_now at 2 parts) (sym pair.2) in
      let was = gave_reparts form base now number page count at 2 (first ∷ second ∷ []) height before others parts news gave in
      let is = rewritten form base now one.mid mid height number page before others all count at 1 (one.entry ∷ []) was gave.shares one.same one.splices in
      let lie_mid = subst (AllByRecursion (Lies form mid height)) (sym whole) is.lie in
      by_cause height base before all pair.1 (all_last_part (Lies form mid height) (take at parts) (pair.0 ∷ pair.1 ∷ drop (at + 2) parts) lie_mid).1.0 pair.4 is cant;
} where
  by_cause : (height : ℕ) (base : PageMap) (before : ℕ → ℕ) (all : List (Shape height)) (part : Shape height) → Lies (form_with says layout) mid height part → page_of height part ≡ second
      → Reparts (form_with says layout) base mid height number one.splices.page before all → CantRenew mid number second layout → ⊥
  by_cause height base before all part lies top is (inl none) =
      let was : List (List ℕ) = records count (entry_width (form_with says layout)) (content one.splices.was) in
      let es : List (List ℕ) = take at was ++ ((one.entry ∷ []) ++ drop (at + 1) was) in
      let size : length was ≡ count = length-records count (entry_width (form_with says layout)) (content one.splices.was) in
      let some : 2 ≤ length es = omega (arith, length-now at 1 was (one.entry ∷ []) (omega (arith, size)), size) in
      lent-fits mid number (record {
        page = one.splices.page;
        there = is.there;
        used = rw one.splices.lists.has.header.kind refl;
        fits = λ pages. record { header = tree_header kind.Inner (length es) number; there = one.splices.lists.has.header; fits = (refl, (is.after, some, refl)) };
        past = is.after;
        below = is.below;
      }) none
  by_cause height base before all part lies top is (inr none) = (no_node-no_part says layout mid second height (size_of height part) (λ some. none)).none height part (record { lies = lies; top = top }) (omega arith) (omega arith)

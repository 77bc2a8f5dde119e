-- The sweep over two lists: what is found, and what the spans that are left have in common, is all that they have.
use Rattle.std.proofs.Common.{◌≡◌, ℕ, ◌+◌, ◌*◌, ◌<◌, ◌≤◌, min, max, Bool, true, false, ◌&&◌, ◌||◌, cond, List, [], ◌∷◌, ◌++◌, length, count_by, ◌⊎◌, refl, sym, ap, ◌∙◌, subst, inl, inr, arith}
use Rattle.std.proofs.lemmas.Bool.{lt-ltb}
use Rattle.std.proofs.lemmas.List.{length-append}
use Rattle.std.proofs.lemmas.List.Folds.{list_any-append}
use Rattle.std.proofs.lemmas.List.Sums.{sum_by-cons}
use Rattle.std.specs.List.{list_any, AllByRecursion}
use Rattle.rs_value.specs.Row.{Row}
use Rattle.rs_value.specs.declared.column.Kind.{Kind}
use Rattle.rs_value.specs.declared.column.Kind.TheVariants.{Point, Line}
use Rattle.rs_facts.specs.Fact.{contains, items}
use Rattle.rs_facts.specs.Insert.{within}
use Rattle.rs_facts.specs.Operators.{overlaid}
use Rattle.rs_facts.specs.Runs.{Stretch}
use Rattle.rs_facts.specs.Spans.{places_of, IsPlaced, ArePlaced}
use Rattle.rs_facts.proofs.KeptLaws.{every-append, every-weaker}
use Rattle.rs_facts.proofs.Rows.{same_row}
use Rattle.rs_facts.proofs.Sets.{same_rows}
use Rattle.rs_facts.proofs.SpanLaws.{holds, contains-places_of}
use Rattle.rs_facts.proofs.RowSets.{any-same, any-places, contains-overlaid}
use Rattle.rs_coalesce.specs.Joined.{AreJoined}
use Rattle.rs_sweep.specs.Inner.{piece_of, laid, ArePieces}
use Rattle.rs_facts.specs.Query.{overlaid_kind}
use Rattle.rs_sweep.specs.Lists.{AreSorted, AreWide, shares, pairs}
use Rattle.rs_sweep.specs.declared.laying.Side.TheVariants.{Left, Right}
use Rattle.rs_sweep.proofs.LaidSpans.{both, laid-holds, laid-few, laid-all}
use Rattle.rs_sweep.proofs.SeparatePieces.{Parted, parted-start, parted-left, parted-right, parted-end}

-- ---- all pairs

-- whether the row is made of a span of each list at the thousandth
unfoldable pub meets : List Stretch → List Stretch → Row → ℕ → Bool
meets left right row k = list_any (λ a. list_any (both Left row k a) right) left

and_swap : (a b c : Bool) → (a && (b && c)) ≡ (b && (a && c))
and_swap true true c = refl
and_swap true false c = refl
and_swap false true c = refl
and_swap false false c = refl

other_side : (row : Row) (k : ℕ) (a b : Stretch) → both Right row k b a ≡ both Left row k a b
unfolding both
other_side row k a b = and_swap (within b.lo b.hi k) (within a.lo a.hi k) (same_row (a.row ++ b.row) row)

or_move : (a b c d : Bool) → ((a || b) || (c || d)) ≡ ((a || c) || (b || d))
or_move true b c d = refl
or_move false true true d = refl
or_move false true false d = refl
or_move false false c d = refl

meets-left : (a : Stretch) (left right : List Stretch) (row : Row) (k : ℕ) → meets (a ∷ left) right row k ≡ (list_any (both Left row k a) right || meets left right row k)
unfolding meets
meets-left a left right row k = refl

meets-right : (b : Stretch) (left right : List Stretch) (row : Row) (k : ℕ) → meets left (b ∷ right) row k ≡ (list_any (both Right row k b) left || meets left right row k)
unfolding meets
meets-right b [] right row k = refl
meets-right b (a ∷ left) right row k =
    (λ i. (sym (other_side row k a b) i || list_any (both Left row k a) right) || meets-right b left right row k i)
    ∙ or_move (both Right row k b a) (list_any (both Left row k a) right) (list_any (both Right row k b) left) (list_any (λ a. list_any (both Left row k a) right) left)

any_and : {X : Type 0} (c : Bool) (p : X → Bool) (xs : List X) → list_any (λ x. c && p x) xs ≡ (c && list_any p xs)
any_and true p xs = refl
any_and false p [] = refl
any_and false p (x ∷ xs) = any_and false p xs

-- the rows that pairs of spans make are the pairs of rows
pub overlaid-meets : (left right : List Stretch) (k : ℕ) (row : Row) → contains (overlaid (places_of left k) (places_of right k)) row ≡ meets left right row k
unfolding meets both
overlaid-meets left right k row =
    contains-overlaid (places_of left k) (places_of right k) row
    ∙ any-places (λ x. list_any (λ y. same_row (x ++ y) row) (items (places_of right k))) left k
    ∙ any-same _ _ left (λ a.
    ap (λ t. within a.lo a.hi k && t) (any-places (λ y. same_row (a.row ++ y) row) right k)
    ∙ sym (any_and (within a.lo a.hi k) (λ b. within b.lo b.hi k && same_row (a.row ++ b.row) row) right))

-- ---- how many pairs share a thousandth

met_shares : (a b : Stretch) → a.lo ≤ b.lo → b.lo < a.hi → b.lo < b.hi → shares a b ≡ true
met_shares a b l m n = lt-ltb (max a.lo b.lo) (min a.hi b.hi) (omega (arith, l, m, n))

met_shares_back : (a b : Stretch) → b.lo ≤ a.lo → a.lo < b.hi → a.lo < a.hi → shares a b ≡ true
met_shares_back a b l m n = lt-ltb (max a.lo b.lo) (min a.hi b.hi) (omega (arith, l, m, n))

pub pairs-left : (a : Stretch) (left right : List Stretch) → pairs (a ∷ left) right ≡ count_by (λ b. shares a b) right + pairs left right
unfolding pairs
pairs-left a left right = sum_by-cons (λ a. count_by (λ b. shares a b) right) a left

pub pairs-right : (b : Stretch) (left right : List Stretch) → pairs left (b ∷ right) ≡ count_by (λ a. shares a b) left + pairs left right
unfolding pairs
pairs-right b [] right = refl
pairs-right b (a ∷ left) right =
    let rest = pairs-right b left right in
    let here = sum_by-cons (λ a. count_by (λ c. shares a c) (b ∷ right)) a left in
    let there = sum_by-cons (λ a. count_by (λ c. shares a c) right) a left in
    let one = sum_by-cons (λ c. let n : ℕ = cond (shares a c) 1 0 in n) b right in
    let two = sum_by-cons (λ c. let n : ℕ = cond (shares c b) 1 0 in n) a left in
    omega (arith, rest, here, there, one, two)

-- ---- kinds

all_some : (kind : Kind) (xs : List Stretch) → ArePlaced kind xs → ArePlaced Line xs
all_some Line xs h = h
all_some Point [] h = tt
all_some Point (x ∷ xs) h = (omega (arith, h.0), all_some Point xs h.1)

piece_placed_left : (ka kb : Kind) (a b : Stretch) → a.lo ≤ b.lo → b.lo < a.hi → IsPlaced ka a → IsPlaced kb b → IsPlaced (overlaid_kind ka kb) (piece_of Left a b)
piece_placed_left Line Line a b l m x y = omega (arith, l, m, x, y)
piece_placed_left Line Point a b l m x y = omega (arith, l, m, x, y)
piece_placed_left Point Line a b l m x y = omega (arith, l, m, x, y)
piece_placed_left Point Point a b l m x y = omega (arith, l, m, x, y)

piece_placed_right : (ka kb : Kind) (a b : Stretch) → b.lo ≤ a.lo → a.lo < b.hi → IsPlaced ka a → IsPlaced kb b → IsPlaced (overlaid_kind ka kb) (piece_of Right b a)
piece_placed_right Line Line a b l m x y = omega (arith, l, m, x, y)
piece_placed_right Line Point a b l m x y = omega (arith, l, m, x, y)
piece_placed_right Point Line a b l m x y = omega (arith, l, m, x, y)
piece_placed_right Point Point a b l m x y = omega (arith, l, m, x, y)

-- ---- the sweep

-- What is found, with the lists that are left, and how many comparisons were made. The bound is on all of them.
pub record Swept (left right l r found : List Stretch) (made bound : ℕ) : Type 0 where
  pub means : (row : Row) (k : ℕ) → (list_any (holds row k) found || meets l r row k) ≡ meets left right row k
  pub placed : (a b : Kind) → ArePlaced a left → ArePlaced b right → ArePlaced (overlaid_kind a b) found × ArePlaced a l × ArePlaced b r
  pub wide : (m n : ℕ) → AreWide m left → AreWide n right → AreWide (m + n) found × AreWide m l × AreWide n r
  pub parted : (a b : Kind) (m n : ℕ) → AreWide m left → AreWide n right → AreJoined a left → AreJoined b right → Parted a b m n l r found
  pub counted : made + 2 * (length l + length r) + 2 * pairs l r ≤ bound
  pub sorted_left : AreSorted l
  pub sorted_right : AreSorted r
  pub some_left : ArePlaced Line l
  pub some_right : ArePlaced Line r

pub swept-start : (left right : List Stretch) (made : ℕ) → AreSorted left → AreSorted right → ArePlaced Line left → ArePlaced Line right → Swept left right left right [] made (made + 2 * (length left + length right) + 2 * pairs left right)
swept-start left right made a b c d = record {
  means = λ row k. refl;
  placed = λ ka kb p q. (tt, p, q);
  wide = λ m n p q. (tt, p, q);
  parted = λ ka kb m n w v p q. parted-start ka kb m n left right w v p q;
  counted = omega arith;
  sorted_left = a;
  sorted_right = b;
  some_left = c;
  some_right = d;
}

above : (n : ℕ) (x : Stretch) (xs : List Stretch) → n ≤ x.lo → AllByRecursion (λ later. x.lo ≤ later.lo) xs → AllByRecursion (λ other. n ≤ other.lo) (x ∷ xs)
above n x xs l h = (l, every-weaker (λ later. x.lo ≤ later.lo) (λ other. n ≤ other.lo) (λ y m. omega (arith, l, m)) xs h)

or_on : (f g m n w : Bool) → (g || m) ≡ n → (f || n) ≡ w → ((f || g) || m) ≡ w
or_on true g m n w e h = h
or_on false g m n w e h = e ∙ h

added : (row : Row) (k : ℕ) (found more : List Stretch) (m n w : Bool) → (list_any (holds row k) more || m) ≡ n → (list_any (holds row k) found || n) ≡ w → (list_any (holds row k) (found ++ more) || m) ≡ w
added row k found more m n w e h = ap (λ t. t || m) (list_any-append (holds row k) found more) ∙ or_on (list_any (holds row k) found) (list_any (holds row k) more) m n w e h

-- the first of the left, which begins before all of the right, is laid over them
pub swept-left : (left right : List Stretch) (a b : Stretch) (l r found : List Stretch) (made later bound : ℕ) → Swept left right (a ∷ l) (b ∷ r) found made bound → a.lo ≤ b.lo
    → later ≤ made + 2 + 2 * length (laid Left a (b ∷ r)) → Swept left right l (b ∷ r) (found ++ laid Left a (b ∷ r)) later bound
swept-left left right a b l r found made later bound h first asked =
    let low = above a.lo b r first h.sorted_right.0 in
    let few = laid-few Left a (b ∷ r) (λ c. shares a c) (λ c x y z. met_shares a c x y z) low h.some_right in
    let all = pairs-left a l (b ∷ r) in
    record {
      means = λ row k. added row k found (laid Left a (b ∷ r)) (meets l (b ∷ r) row k) (meets (a ∷ l) (b ∷ r) row k) (meets left right row k)
          (ap (λ t. t || meets l (b ∷ r) row k) (laid-holds Left row k a (b ∷ r) low h.sorted_right) ∙ sym (meets-left a l (b ∷ r) row k))
          (h.means row k);
      placed = λ ka kb p q.
          let now = h.placed ka kb p q in
          (every-append (IsPlaced (overlaid_kind ka kb)) found (laid Left a (b ∷ r)) now.0 (laid-all (IsPlaced kb) (IsPlaced (overlaid_kind ka kb)) Left a (λ c x y z. piece_placed_left ka kb a c x y now.1.0 z) (b ∷ r) low now.2), now.1.1, now.2);
      wide = λ m n p q.
          let now = h.wide m n p q in
          (every-append (λ s. length s.row ≡ m + n) found (laid Left a (b ∷ r)) now.0 (laid-all (λ s. length s.row ≡ n) (λ s. length s.row ≡ m + n) Left a (λ c x y z. length-append a.row c.row ∙ (λ i. now.1.0 i + z i)) (b ∷ r) low now.2), now.1.1, now.2);
      parted = λ ka kb m n w v p q. parted-left ka kb m n a l (b ∷ r) found low (h.parted ka kb m n w v p q);
      counted = omega (arith, h.counted, asked, few, all);
      sorted_left = h.sorted_left.1;
      sorted_right = h.sorted_right;
      some_left = h.some_left.1;
      some_right = h.some_right;
    }

-- the first of the right, which begins no later than any of the left, is laid over them
pub swept-right : (left right : List Stretch) (a b : Stretch) (l r found : List Stretch) (made later bound : ℕ) → Swept left right (a ∷ l) (b ∷ r) found made bound → b.lo ≤ a.lo
    → later ≤ made + 2 + 2 * length (laid Right b (a ∷ l)) → Swept left right (a ∷ l) r (found ++ laid Right b (a ∷ l)) later bound
swept-right left right a b l r found made later bound h first asked =
    let low = above b.lo a l first h.sorted_left.0 in
    let few = laid-few Right b (a ∷ l) (λ c. shares c b) (λ c x y z. met_shares_back c b x y z) low h.some_left in
    let all = pairs-right b (a ∷ l) r in
    record {
      means = λ row k. added row k found (laid Right b (a ∷ l)) (meets (a ∷ l) r row k) (meets (a ∷ l) (b ∷ r) row k) (meets left right row k)
          (ap (λ t. t || meets (a ∷ l) r row k) (laid-holds Right row k b (a ∷ l) low h.sorted_left) ∙ sym (meets-right b (a ∷ l) r row k))
          (h.means row k);
      placed = λ ka kb p q.
          let now = h.placed ka kb p q in
          (every-append (IsPlaced (overlaid_kind ka kb)) found (laid Right b (a ∷ l)) now.0 (laid-all (IsPlaced ka) (IsPlaced (overlaid_kind ka kb)) Right b (λ c x y z. piece_placed_right ka kb c b x y z now.2.0) (a ∷ l) low now.1), now.1, now.2.1);
      wide = λ m n p q.
          let now = h.wide m n p q in
          (every-append (λ s. length s.row ≡ m + n) found (laid Right b (a ∷ l)) now.0 (laid-all (λ s. length s.row ≡ m) (λ s. length s.row ≡ m + n) Right b (λ c x y z. length-append c.row b.row ∙ (λ i. z i + now.2.0 i)) (a ∷ l) low now.1), now.1, now.2.1);
      parted = λ ka kb m n w v p q. parted-right ka kb m n b (a ∷ l) r found low (h.parted ka kb m n w v p q);
      counted = omega (arith, h.counted, asked, few, all);
      sorted_left = h.sorted_left;
      sorted_right = h.sorted_right.1;
      some_left = h.some_left;
      some_right = h.some_right.1;
    }

nothing_right : (l : List Stretch) (row : Row) (k : ℕ) → meets l [] row k ≡ false
unfolding meets
nothing_right [] row k = refl
nothing_right (a ∷ l) row k = nothing_right l row k

or_false : (t u : Bool) → u ≡ false → (t || u) ≡ t
or_false true u e = refl
or_false false u e = e

none_left : (l r : List Stretch) (row : Row) (k : ℕ) → (l ≡ []) ⊎ (r ≡ []) → meets l r row k ≡ false
unfolding meets
none_left l r row k (inl e) = ap (λ zs. meets zs r row k) e
none_left l r row k (inr e) = ap (λ zs. meets l zs row k) e ∙ nothing_right l row k

pub swept-end : (left right l r found : List Stretch) (made bound : ℕ) → Swept left right l r found made bound → (l ≡ []) ⊎ (r ≡ []) → ArePieces left right found
swept-end left right l r found made bound h done = record {
  means = λ k. same_rows _ _ (λ row.
      contains-places_of found k row
      ∙ sym (or_false (list_any (holds row k) found) (meets l r row k) (none_left l r row k done))
      ∙ h.means row k
      ∙ sym (overlaid-meets left right k row));
  placed = λ a b p q. (h.placed a b p q).0;
  wide = λ m n p q. (h.wide m n p q).0;
  joined = λ a b m n w v p q. parted-end a b m n l r found (h.parted a b m n w v p q);
}

-- ---- the same with the lists as they stand

pub step-left : (left right ls rs l r found now : List Stretch) (a b : Stretch) (made later bound : ℕ) → ls ≡ a ∷ l → rs ≡ b ∷ r → Swept left right ls rs found made bound → a.lo ≤ b.lo
    → now ≡ found ++ laid Left a rs → later ≤ made + 2 + 2 * length (laid Left a rs) → Swept left right l rs now later bound
step-left left right ls rs l r found now a b made later bound e f h first is asked =
    let one = subst (λ zs. Swept left right zs rs found made bound) e h in
    let two = subst (λ zs. Swept left right (a ∷ l) zs found made bound) f one in
    let few = subst (λ zs. later ≤ made + 2 + 2 * length (laid Left a zs)) f asked in
    let out = swept-left left right a b l r found made later bound two first few in
    subst (λ zs. Swept left right l zs now later bound) (sym f) (subst (λ zs. Swept left right l (b ∷ r) zs later bound) (sym (is ∙ ap (λ zs. found ++ laid Left a zs) f)) out)

pub step-right : (left right ls rs l r found now : List Stretch) (a b : Stretch) (made later bound : ℕ) → ls ≡ a ∷ l → rs ≡ b ∷ r → Swept left right ls rs found made bound → b.lo ≤ a.lo
    → now ≡ found ++ laid Right b ls → later ≤ made + 2 + 2 * length (laid Right b ls) → Swept left right ls r now later bound
step-right left right ls rs l r found now a b made later bound e f h first is asked =
    let one = subst (λ zs. Swept left right zs rs found made bound) e h in
    let two = subst (λ zs. Swept left right (a ∷ l) zs found made bound) f one in
    let few = subst (λ zs. later ≤ made + 2 + 2 * length (laid Right b zs)) e asked in
    let out = swept-right left right a b l r found made later bound two first few in
    subst (λ zs. Swept left right zs r now later bound) (sym e) (subst (λ zs. Swept left right (a ∷ l) r zs later bound) (sym (is ∙ ap (λ zs. found ++ laid Right b zs) e)) out)

-- The pieces of two lists, of each of which no two spans are one run: no two of the pieces are.
use Rattle.std.proofs.Common.{◌≡◌, ℕ, suc, ◌+◌, ◌≤◌, true, false, ◌⊎◌, inl, inr, List, [], ◌∷◌, ◌++◌, length, take, refl, sym, ap, ◌∙◌, subst, arith}
use Rattle.std.proofs.lemmas.List.{append_cancel_left, append_cancel_right, take_all, take-append-le}
use Rattle.std.specs.List.{AllByRecursion, Contains}
use Rattle.std.specs.Prelude.{nat_lt}
use Rattle.rs_value.specs.Row.{Row}
use Rattle.rs_value.specs.declared.column.Kind.{Kind}
use Rattle.rs_value.specs.declared.column.Kind.TheVariants.{Point, Line}
use Rattle.rs_facts.specs.Query.{overlaid_kind}
use Rattle.rs_facts.specs.Runs.{Stretch}
use Rattle.rs_facts.specs.Spans.{gap_of}
use Rattle.rs_facts.proofs.KeptLaws.{every-append, every-weaker}
use Rattle.rs_facts.proofs.RunLaws.{IsApart, each-at, every-from_each}
use Rattle.rs_coalesce.specs.Joined.{AreJoined}
use Rattle.rs_coalesce.proofs.Separate.{AreSeparate, separate-from_joined, joined-from_separate}
use Rattle.rs_sweep.specs.Inner.{joined_row, piece_of, laid}
use Rattle.rs_sweep.specs.Lists.{AreWide}
use Rattle.rs_sweep.specs.declared.laying.Side.{Side}
use Rattle.rs_sweep.specs.declared.laying.Side.TheVariants.{Left, Right}
use Rattle.rs_sweep.proofs.LaidSpans.{laid-met, laid-none, laid-all}

-- ---- rows side by side

-- rows of one width are known by what they are together
halves : (a b x y : Row) → length a ≡ length x → a ++ b ≡ x ++ y → (a ≡ x) × (b ≡ y)
halves a b x y long e =
    let front : a ≡ x =
    sym (take_all (length a) a (omega arith)) ∙ sym (take-append-le (length a) a b (omega arith)) ∙ ap (take (length a)) e
    ∙ take-append-le (length a) x y (omega (arith, long)) ∙ take_all (length a) x (omega (arith, long)) in
    (front, append_cancel_left x b y (subst (λ r. r ++ b ≡ x ++ y) front e))

both_rows : (side : Side) (a b x y : Row) → length a ≡ length x → length b ≡ length y → joined_row side a b ≡ joined_row side x y → (a ≡ x) × (b ≡ y)
both_rows Left a b x y long wide e = halves a b x y long e
both_rows Right a b x y long wide e = let h = halves b a y x wide e in (h.1, h.0)

other_rows : (side : Side) (a b y : Row) → joined_row side a b ≡ joined_row side a y → b ≡ y
other_rows Left a b y e = append_cancel_left a b y e
other_rows Right a b y e = append_cancel_right b y a e

-- ---- parts of two spans

gap-left : (a b : Kind) → gap_of (overlaid_kind a b) ≤ gap_of a
gap-left Line Line = omega arith
gap-left Line Point = omega arith
gap-left Point Line = omega arith
gap-left Point Point = omega arith

gap-right : (a b : Kind) → gap_of (overlaid_kind a b) ≤ gap_of b
gap-right Line Line = omega arith
gap-right Line Point = omega arith
gap-right Point Line = omega arith
gap-right Point Point = omega arith

-- parts of two spans of one row lie as far apart as these
parts_apart : (wider kind : Kind) (a b x y : Stretch) → gap_of kind ≤ gap_of wider → IsApart wider a b → a.row ≡ b.row → a.lo ≤ x.lo → x.hi ≤ a.hi → b.lo ≤ y.lo → y.hi ≤ b.hi → (x.hi + gap_of kind ≤ y.lo) ⊎ (y.hi + gap_of kind ≤ x.lo)
parts_apart wider kind a b x y gap apart same xl xh yl yh = elim (apart same) [
  | inl h ↦ inl (omega (arith, gap, h, xh, yl))
  | inr h ↦ inr (omega (arith, gap, h, xl, yh))
]

-- a part of both spans, with the rows of both
pub record LiesInBoth (side : Side) (one other part : Stretch) : Type 0 where
  pub row : part.row ≡ joined_row side one.row other.row
  pub from_one : one.lo ≤ part.lo
  pub upto_one : part.hi ≤ one.hi
  pub from_other : other.lo ≤ part.lo
  pub upto_other : part.hi ≤ other.hi

piece_lies : (side : Side) (one other : Stretch) → one.lo ≤ other.lo → LiesInBoth side one other (piece_of side one other)
piece_lies side one other low = record { row = refl; from_one = low; upto_one = omega arith; from_other = omega arith; upto_other = omega arith }

-- what spans of the two lists have in common is no one run with this piece
abbrev pub IsFree : Kind → Side → List Stretch → List Stretch → Stretch → Type 0
IsFree kind side ones others piece = (one other part : Stretch) → Contains ones one → Contains others other → LiesInBoth side one other part → IsApart kind piece part

free_swapped : (kind : Kind) (left right : List Stretch) (piece : Stretch) → IsFree kind Left left right piece → IsFree kind Right right left piece
free_swapped kind left right piece free one other part among in_left lies = free other one part in_left among (record { row = lies.row; from_one = lies.from_other; upto_one = lies.upto_other; from_other = lies.from_one; upto_other = lies.upto_one })

free_back : (kind : Kind) (left right : List Stretch) (piece : Stretch) → IsFree kind Right right left piece → IsFree kind Left left right piece
free_back kind left right piece free one other part among in_right lies = free other one part in_right among (record { row = lies.row; from_one = lies.from_other; upto_one = lies.upto_other; from_other = lies.from_one; upto_other = lies.upto_one })

at_first : (x : Stretch) (xs : List Stretch) → Contains (x ∷ xs) x
at_first x xs = (0, omega arith, refl)

at_later : (x y : Stretch) (xs : List Stretch) → Contains xs y → Contains (x ∷ xs) y
at_later x y xs h = (suc h.0, omega (arith, h.1), h.2)

separate_append : (kind : Kind) (xs ys : List Stretch) → AreSeparate kind xs → AreSeparate kind ys → AllByRecursion (λ x. AllByRecursion (IsApart kind x) ys) xs → AreSeparate kind (xs ++ ys)
separate_append kind [] ys a b h = b
separate_append kind (x ∷ xs) ys a b h = (every-append (IsApart kind x) xs ys a.0 h.0, separate_append kind xs ys a.1 b h.1)

-- ---- one span laid over others

module _ (side : Side) (kind one_kind other_kind : Kind) (below_one : gap_of kind ≤ gap_of one_kind) (below_other : gap_of kind ≤ gap_of other_kind) where
  beside : (one other next : Stretch) → IsApart other_kind other next → IsApart kind (piece_of side one other) (piece_of side one next)
  beside one other next apart same =
      parts_apart other_kind kind other next (piece_of side one other) (piece_of side one next) below_other apart (other_rows side one.row other.row next.row same)
      (omega arith) (omega arith) (omega arith) (omega arith)

  -- no two of its pieces are one run
  laid_separate : (one : Stretch) (others : List Stretch) → AllByRecursion (λ other. one.lo ≤ other.lo) others → AreSeparate other_kind others → AreSeparate kind (laid side one others)
  laid_separate one [] low apart = tt
  laid_separate one (other ∷ others) low apart = elim (nat_lt other.lo one.hi) as (λ t. nat_lt other.lo one.hi ≡ t → AreSeparate kind (laid side one (other ∷ others))) [
    | true ↦ λ e. subst (AreSeparate kind) (sym (laid-met side one other others e)) (
      laid-all (IsApart other_kind other) (IsApart kind (piece_of side one other)) side one (λ next l m apart. beside one other next apart) others low.1 apart.0,
      laid_separate one others low.1 apart.1,
    )
    | false ↦ λ e. subst (AreSeparate kind) (sym (laid-none side one other others e)) tt
  ] refl

  -- nor is one of them and what the spans that are left have in common
  laid_free : (m n : ℕ) (one : Stretch) (ones others : List Stretch) → AllByRecursion (λ other. one.lo ≤ other.lo) others → AllByRecursion (IsApart one_kind one) ones → length one.row ≡ m → AreWide m ones → AreWide n others → AllByRecursion (IsFree kind side ones others) (laid side one others)
  laid_free m n one ones others low apart long wide_ones wide_others =
      laid-all (Contains others) (IsFree kind side ones others) side one
      (λ other l below among x y part in_ones in_others lies same.
      let wide_one : length one.row ≡ length x.row = long ∙ sym (each-at (λ s. length s.row ≡ m) ones x wide_ones in_ones) in
      let wide_other : length other.row ≡ length y.row = each-at (λ s. length s.row ≡ n) others other wide_others among ∙ sym (each-at (λ s. length s.row ≡ n) others y wide_others in_others) in
      let rows = both_rows side one.row other.row x.row y.row wide_one wide_other (same ∙ lies.row) in
      parts_apart one_kind kind one x (piece_of side one other) part below_one (each-at (IsApart one_kind one) ones x apart in_ones) rows.0 l (omega arith) lies.from_one lies.upto_one)
      others low (every-from_each (Contains others) others (λ x h. h))

  -- nor is one of them and one found before
  found_apart : (one : Stretch) (ones others : List Stretch) (piece : Stretch) → AllByRecursion (λ other. one.lo ≤ other.lo) others → IsFree kind side (one ∷ ones) others piece → AllByRecursion (IsApart kind piece) (laid side one others)
  found_apart one ones others piece low free =
      laid-all (Contains others) (IsApart kind piece) side one
      (λ other l below among. free one other (piece_of side one other) (at_first one ones) among (piece_lies side one other l))
      others low (every-from_each (Contains others) others (λ x h. h))

  found_free : (one : Stretch) (ones others : List Stretch) (piece : Stretch) → IsFree kind side (one ∷ ones) others piece → IsFree kind side ones others piece
  found_free one ones others piece free x y part among in_others lies = free x y part (at_later one x ones among) in_others lies

  more_separate : (one : Stretch) (ones others found : List Stretch) → AllByRecursion (λ other. one.lo ≤ other.lo) others → AreSeparate other_kind others → AreSeparate kind found → AllByRecursion (IsFree kind side (one ∷ ones) others) found → AreSeparate kind (found ++ laid side one others)
  more_separate one ones others found low apart before free =
      separate_append kind found (laid side one others) before (laid_separate one others low apart)
      (every-weaker (IsFree kind side (one ∷ ones) others) (λ piece. AllByRecursion (IsApart kind piece) (laid side one others)) (λ piece h. found_apart one ones others piece low h) found free)

  more_free : (m n : ℕ) (one : Stretch) (ones others found : List Stretch) → AllByRecursion (λ other. one.lo ≤ other.lo) others → AllByRecursion (IsApart one_kind one) ones → AreWide m (one ∷ ones) → AreWide n others → AllByRecursion (IsFree kind side (one ∷ ones) others) found → AllByRecursion (IsFree kind side ones others) (found ++ laid side one others)
  more_free m n one ones others found low apart wide_ones wide_others free =
      every-append (IsFree kind side ones others) found (laid side one others)
      (every-weaker (IsFree kind side (one ∷ ones) others) (IsFree kind side ones others) (λ piece h. found_free one ones others piece h) found free)
      (laid_free m n one ones others low apart wide_ones.0 wide_ones.1 wide_others)

-- ---- the sweep

-- No two pieces that are found are one run, nor is one of them and what the spans that are left have in common.
pub record Parted (a b : Kind) (m n : ℕ) (l r found : List Stretch) : Type 0 where
  pub left : AreSeparate a l
  pub right : AreSeparate b r
  pub wide_left : AreWide m l
  pub wide_right : AreWide n r
  pub apart : AreSeparate (overlaid_kind a b) found
  pub free : AllByRecursion (IsFree (overlaid_kind a b) Left l r) found

module _ (a b : Kind) (m n : ℕ) where
  pub parted-start : (left right : List Stretch) → AreWide m left → AreWide n right → AreJoined a left → AreJoined b right → Parted a b m n left right []
  parted-start left right wide_left wide_right p q = record {
    left = separate-from_joined a left p;
    right = separate-from_joined b right q;
    wide_left = wide_left;
    wide_right = wide_right;
    apart = tt;
    free = tt;
  }

  pub parted-left : (one : Stretch) (l r found : List Stretch) → AllByRecursion (λ other. one.lo ≤ other.lo) r → Parted a b m n (one ∷ l) r found → Parted a b m n l r (found ++ laid Left one r)
  parted-left one l r found low h = record {
    left = h.left.1;
    right = h.right;
    wide_left = h.wide_left.1;
    wide_right = h.wide_right;
    apart = more_separate Left (overlaid_kind a b) a b (gap-left a b) (gap-right a b) one l r found low h.right h.apart h.free;
    free = more_free Left (overlaid_kind a b) a b (gap-left a b) (gap-right a b) m n one l r found low h.left.0 h.wide_left h.wide_right h.free;
  }

  pub parted-right : (one : Stretch) (l r found : List Stretch) → AllByRecursion (λ other. one.lo ≤ other.lo) l → Parted a b m n l (one ∷ r) found → Parted a b m n l r (found ++ laid Right one l)
  parted-right one l r found low h =
      let free = every-weaker (IsFree (overlaid_kind a b) Left l (one ∷ r)) (IsFree (overlaid_kind a b) Right (one ∷ r) l) (λ piece f. free_swapped (overlaid_kind a b) l (one ∷ r) piece f) found h.free in
      record {
        left = h.left;
        right = h.right.1;
        wide_left = h.wide_left;
        wide_right = h.wide_right.1;
        apart = more_separate Right (overlaid_kind a b) b a (gap-right a b) (gap-left a b) one r l found low h.left h.apart free;
        free = every-weaker (IsFree (overlaid_kind a b) Right r l) (IsFree (overlaid_kind a b) Left l r) (λ piece f. free_back (overlaid_kind a b) l r piece f) (found ++ laid Right one l)
            (more_free Right (overlaid_kind a b) b a (gap-right a b) (gap-left a b) n m one r l found low h.right.0 h.wide_right h.wide_left free);
      }

  pub parted-end : (l r found : List Stretch) → Parted a b m n l r found → AreJoined (overlaid_kind a b) found
  parted-end l r found h = joined-from_separate (overlaid_kind a b) found h.apart

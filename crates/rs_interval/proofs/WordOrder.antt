-- Numbers written in bytes, the highest first, compare as they do.
use Rattle.std.proofs.Common.{◌≡◌, ◌<◌, ◌≤◌, ◌+◌, ◌*◌, ◌%◌, ◌^◌, ℕ, zero, suc, List, ◌++◌, refl, sym, ap, ◌∙◌, inl, inr, arith, pow-suc, mul_comm}
use Rattle.std.proofs.Math.Arith.{mod-mul}
use Rattle.std.proofs.Math.Nat.{mod-lt, mod-eq_of_lt, pow-le-pow_right, mul-le-mul_right, add-mul}
use Rattle.std.proofs.lemmas.Bool.{cases_order}
use Rattle.std.specs.Cmp.{nat_cmp_is}
use Rattle.std.specs.Cmp.Lexicographic.{slice_cmp}
use Rattle.std.specs.Int.{w32, to_be_bytes, byte_at, bytes_high_first}
use Rattle.std.specs.Ordering.{nat_cmp, ordering_then}
use Rattle.std.specs.declared.cmp.Ordering.{Ordering}
use Rattle.std.specs.declared.cmp.Ordering.TheVariants.{Less, Equal, Greater}

pub less : (x y : ℕ) → x < y → nat_cmp x y ≡ Less
less x y h = sym (nat_cmp_is x y Less h)

pub equal : (x y : ℕ) → x ≡ y → nat_cmp x y ≡ Equal
equal x y h = sym (nat_cmp_is x y Equal h)

pub greater : (x y : ℕ) → y < x → nat_cmp x y ≡ Greater
greater x y h = sym (nat_cmp_is x y Greater h)

-- a digit in front decides, where it is another
pub beside : (a b unit x y : ℕ) → a < b → x < unit → a * unit + x < b * unit + y
beside a b unit x y h small =
    let whole : (a + 1) * unit ≤ b * unit = mul-le-mul_right unit (omega arith) in
    let apart : (a + 1) * unit ≡ a * unit + 1 * unit = add-mul a 1 unit in
    omega arith

pub then_assoc : (one two three : Ordering) → ordering_then one (ordering_then two three) ≡ ordering_then (ordering_then one two) three
then_assoc Less two three = refl
then_assoc Equal two three = refl
then_assoc Greater two three = refl

-- the order by a digit and then by the rest is the order by the whole
digits_cmp : (a b unit x y u v : ℕ) → x < unit → y < unit → u ≡ a * unit + x → v ≡ b * unit + y → ordering_then (nat_cmp a b) (nat_cmp x y) ≡ nat_cmp u v
digits_cmp a b unit x y u v small also is at = elim (cases_order a b) [
  | inl same ↦
      let units : a * unit ≡ b * unit = ap (λ (n : ℕ). n * unit) same in
      ap (λ o. ordering_then o (nat_cmp x y)) (equal a b same) ∙ elim (cases_order x y) [
        | inl level ↦ equal x y level ∙ sym (equal u v (omega arith))
        | inr apart ↦ elim apart [
          | inl below ↦ less x y below ∙ sym (less u v (omega arith))
          | inr above ↦ greater x y above ∙ sym (greater u v (omega arith))
        ]
      ]
  | inr apart ↦ elim apart [
    | inl below ↦ ap (λ o. ordering_then o (nat_cmp x y)) (less a b below) ∙ sym (less u v (omega (arith, beside a b unit x y below small)))
    | inr above ↦ ap (λ o. ordering_then o (nat_cmp x y)) (greater a b above) ∙ sym (greater u v (omega (arith, beside b a unit y x above also)))
  ]
]

pub above_none : (k : ℕ) → 0 < 256 ^ k
above_none k = pow-le-pow_right {n = 256} (omega arith) {i = 0} {j = k} (omega arith)

-- a number below 256 ^ (k + 1) is a byte and a number below 256 ^ k
pub digit_more : (k x : ℕ) → x % 256 ^ suc k ≡ byte_at k x * 256 ^ k + x % 256 ^ k
digit_more zero x = omega arith
digit_more (suc k) x =
    let wider : 256 ^ suc (suc k) ≡ 256 * 256 ^ suc k = pow-suc 256 (suc k) ∙ mul_comm (256 ^ suc k) 256 in
    rw (wider, mod-mul x {m = 256} {c = 256 ^ suc k} (omega arith) (above_none (suc k))) (omega arith)

-- what begins with numbers of as many bytes is ordered by these, and then by the rest
front_cmp : (k x y : ℕ) (xs ys : List ℕ)
    → slice_cmp nat_cmp (bytes_high_first k x ++ xs) (bytes_high_first k y ++ ys) ≡ ordering_then (nat_cmp (x % 256 ^ k) (y % 256 ^ k)) (slice_cmp nat_cmp xs ys)
front_cmp zero x y xs ys = let level : x % 1 ≡ y % 1 = omega arith in ap (λ o. ordering_then o (slice_cmp nat_cmp xs ys)) (sym (equal (x % 1) (y % 1) level))
front_cmp (suc k) x y xs ys =
    ap (ordering_then (nat_cmp (byte_at k x) (byte_at k y))) (front_cmp k x y xs ys)
    ∙ then_assoc (nat_cmp (byte_at k x) (byte_at k y)) (nat_cmp (x % 256 ^ k) (y % 256 ^ k)) (slice_cmp nat_cmp xs ys)
    ∙ ap (λ o. ordering_then o (slice_cmp nat_cmp xs ys))
    (digits_cmp (byte_at k x) (byte_at k y) (256 ^ k) (x % 256 ^ k) (y % 256 ^ k) (x % 256 ^ suc k) (y % 256 ^ suc k)
    (mod-lt x (above_none k)) (mod-lt y (above_none k)) (digit_more k x) (digit_more k y))

-- of four bytes
pub word_cmp : (x y : ℕ) (xs ys : List ℕ) → x < 2 ^ 32 → y < 2 ^ 32
    → slice_cmp nat_cmp (to_be_bytes w32 x ++ xs) (to_be_bytes w32 y ++ ys) ≡ ordering_then (nat_cmp x y) (slice_cmp nat_cmp xs ys)
word_cmp x y xs ys few small =
    front_cmp 4 x y xs ys ∙ ap (λ n. ordering_then (nat_cmp n (y % 2 ^ 32)) (slice_cmp nat_cmp xs ys)) (mod-eq_of_lt few)
    ∙ ap (λ n. ordering_then (nat_cmp x n) (slice_cmp nat_cmp xs ys)) (mod-eq_of_lt small)

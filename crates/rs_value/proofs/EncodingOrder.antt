-- The order of encoded rows is the order of rows.
use Rattle.std.proofs.Common.{◌≡◌, ℕ, zero, suc, ◌+◌, ◌-◌, ◌*◌, ◌%◌, ◌^◌, ◌<◌, ◌≤◌, ℤ, pos, negsuc, ◌+ℤ◌, List, [], ◌∷◌, ◌++◌, inl, inr, length, replicate, min, nat_abs, Bool, true, false, not, ◌||◌, IsTrue, refl, sym, ap, ◌∙◌, arith, rules, tests, pow-suc, mul_comm}
use Rattle.std.specs.declared.cmp.Ordering.{Ordering}
use Rattle.std.specs.declared.cmp.Ordering.TheVariants.{Less, Equal, Greater}
use Rattle.std.specs.Ordering.{nat_cmp, int_cmp, ordering_then}
use Rattle.std.specs.Cmp.{nat_cmp_is}
use Rattle.std.specs.Cmp.Lexicographic.{slice_cmp}
use Rattle.std.specs.List.{list_any}
use Rattle.std.specs.Int.{w64, to_be_bytes, byte_at, bytes_high_first}
use Rattle.std.proofs.Math.Nat.{pow-le-pow_right, add-mul, mod-lt, mod-eq_of_lt, mul-le-mul_right}
use Rattle.std.proofs.Math.Arith.{mod-mul}
use Rattle.std.proofs.lemmas.Bool.Decides.{nat_tests}
use Rattle.std.proofs.lemmas.Bool.{cases_order, le-ltb, and_parts, not-true}
use Rattle.std.proofs.lemmas.Cmp.{nat_list_cmp_total, tied_itself}
use Rattle.std.proofs.lemmas.List.{length-replicate, length-append}
use Rattle.std.proofs.lemmas.List.Sums.{sum_by-cons}
use Rattle.std.specs.Str.{is_utf8}
use Rattle.rs_value.specs.declared.column.ColumnType.{ColumnType}
use Rattle.rs_value.specs.declared.column.ColumnType.TheVariants as types
use Rattle.rs_value.specs.declared.column.TheConstants.{TEXT_BYTES}
use Rattle.rs_value.specs.Row.{Datum, null, number, text, Row, datum_cmp, row_cmp}
use Rattle.rs_value.specs.Values.{is_control, is_text, IsValue}
use Rattle.rs_value.specs.Encoding.{width, row_width, SaysNumber, SaysText, SaysDatum, SaysRow}

pub less : (x y : ℕ) → x < y → nat_cmp x y ≡ Less
less x y h = sym (nat_cmp_is x y Less h)

equal : (x y : ℕ) → x ≡ y → nat_cmp x y ≡ Equal
equal x y h = sym (nat_cmp_is x y Equal h)

pub greater : (x y : ℕ) → y < x → nat_cmp x y ≡ Greater
greater x y h = sym (nat_cmp_is x y Greater h)

-- A number added on both sides changes nothing.
added_cmp : (c x y u v : ℕ) → u ≡ c + x → v ≡ c + y → nat_cmp x y ≡ nat_cmp u v
added_cmp c x y u v at_u at_v = elim (cases_order x y) [
  | inl same ↦ equal x y same ∙ sym (equal u v (omega arith))
  | inr apart ↦ elim apart [
    | inl below ↦ less x y below ∙ sym (less u v (omega arith))
    | inr above ↦ greater x y above ∙ sym (greater u v (omega arith))
  ]
]

beside : (a b unit x y : ℕ) → a < b → x < unit → a * unit + x < b * unit + y
beside a b unit x y h hx =
    let whole : (a + 1) * unit ≤ b * unit = mul-le-mul_right unit (omega arith) in
    let apart : (a + 1) * unit ≡ a * unit + 1 * unit = add-mul a 1 unit in
    omega arith

-- The order by a digit in front and then by the rest is the order by the whole.
digits_cmp : (a b unit x y : ℕ) → x < unit → y < unit → ordering_then (nat_cmp a b) (nat_cmp x y) ≡ nat_cmp (a * unit + x) (b * unit + y)
digits_cmp a b unit x y hx hy = elim (cases_order a b) [
  | inl same ↦ ap (λ o. ordering_then o (nat_cmp x y)) (equal a b same) ∙ added_cmp (a * unit) x y _ _ refl (ap (λ n. n * unit + y) (sym same))
  | inr apart ↦ elim apart [
    | inl below ↦ ap (λ o. ordering_then o (nat_cmp x y)) (less a b below) ∙ sym (less _ _ (beside a b unit x y below hx))
    | inr above ↦ ap (λ o. ordering_then o (nat_cmp x y)) (greater a b above) ∙ sym (greater _ _ (beside b a unit y x above hy))
  ]
]

above_zero : (k : ℕ) → 0 < 256 ^ k
above_zero k = pow-le-pow_right {n = 256} (omega arith) {i = 0} {j = k} (omega arith)

-- the low k + 1 bytes are a byte in front of the low k
low_more : (k n : ℕ) → byte_at k n * 256 ^ k + n % 256 ^ k ≡ n % 256 ^ suc k
low_more zero n = omega arith
low_more (suc k) n =
    let unit = 256 ^ suc k in
    let wider : 256 ^ suc (suc k) ≡ 256 * unit = pow-suc 256 (suc k) ∙ mul_comm unit 256 in
    rw (wider, mod-mul n {m = 256} {c = unit} (omega arith) (above_zero (suc k))) (omega arith)

big_endian_cmp : (k x y : ℕ) → slice_cmp nat_cmp (bytes_high_first k x) (bytes_high_first k y) ≡ nat_cmp (x % 256 ^ k) (y % 256 ^ k)
big_endian_cmp zero x y = sym (equal (x % 1) (y % 1) (omega arith))
big_endian_cmp (suc k) x y =
    ap (ordering_then (nat_cmp (byte_at k x) (byte_at k y))) (big_endian_cmp k x y)
    ∙ digits_cmp (byte_at k x) (byte_at k y) (256 ^ k) (x % 256 ^ k) (y % 256 ^ k) (mod-lt x (above_zero k)) (mod-lt y (above_zero k))
    ∙ ap (λ n. nat_cmp n (byte_at k y * 256 ^ k + y % 256 ^ k)) (low_more k x) ∙ ap (nat_cmp (x % 256 ^ suc k)) (low_more k y)

pub eight_bytes_cmp : (x y : ℕ) → x < 2 ^ 64 → y < 2 ^ 64 → slice_cmp nat_cmp (to_be_bytes w64 x) (to_be_bytes w64 y) ≡ nat_cmp x y
eight_bytes_cmp x y hx hy = big_endian_cmp 8 x y ∙ ap (λ n. nat_cmp n (y % 2 ^ 64)) (mod-eq_of_lt hx) ∙ ap (nat_cmp x) (mod-eq_of_lt hy)

-- how far a number is above -2^63, without a sum of signed numbers
abbrev pub IsAbove : ℤ → ℕ → Type 0
IsAbove (pos k) above = above ≡ 2 ^ 63 + k
IsAbove (negsuc k) above = above + suc k ≡ 2 ^ 63

pub is_above : (n : ℤ) (above : ℕ) → nat_abs n ≤ 10 ^ 12 → pos above ≡ n +ℤ pos (2 ^ 63) → IsAbove n above
is_above (pos k) above few e = let same : above ≡ k + 2 ^ 63 = ap nat_abs e in omega arith
is_above (negsuc k) above few e =
    let few_here : suc k ≤ 10 ^ 12 = few in
    let same : pos above ≡ pos (2 ^ 63 - suc k) = rw (le-ltb (2 ^ 63) (suc k) (omega arith)) at e in
    let number : above ≡ 2 ^ 63 - suc k = ap nat_abs same in
    omega arith

pub from_above : (n : ℤ) (above : ℕ) → nat_abs n ≤ 10 ^ 12 → IsAbove n above → pos above ≡ n +ℤ pos (2 ^ 63)
from_above (pos k) above few e = let same : above ≡ k + 2 ^ 63 = omega arith in ap pos same
from_above (negsuc k) above few e =
    let few_here : suc k ≤ 10 ^ 12 = few in
    rw (le-ltb (2 ^ 63) (suc k) (omega arith)) (ap pos (omega arith))

pub below_all : (n : ℤ) (above : ℕ) → nat_abs n ≤ 10 ^ 12 → IsAbove n above → above < 2 ^ 64
below_all (pos k) above few e = let few_here : k ≤ 10 ^ 12 = few in omega arith
below_all (negsuc k) above few e = omega arith

-- The order of numbers is that of their distances.
pub above_cmp : (n m : ℤ) (x y : ℕ) → IsAbove n x → IsAbove m y → nat_cmp x y ≡ int_cmp n m
above_cmp (pos a) (pos b) x y e f = grind (arith, nat_tests)
above_cmp (pos a) (negsuc b) x y e f = greater x y (omega arith)
above_cmp (negsuc a) (pos b) x y e f = less x y (omega arith)
above_cmp (negsuc a) (negsuc b) x y e f = grind (arith, nat_tests)

pub false_parts : (a b : Bool) → a || b ≡ false → (a ≡ false) × (b ≡ false)
false_parts true b e = cc
false_parts false b e = (refl, e)

pub above_zeros : (y : ℕ) → is_control y ≡ false → 0 < y
above_zeros zero e = cc
above_zeros (suc y) e = omega arith

tied : (bytes : List ℕ) → slice_cmp nat_cmp bytes bytes ≡ Equal
tied bytes = tied_itself nat_list_cmp_total bytes

-- Zeros that fill two texts to the same width change nothing of their order.
text_cmp : (s t : List ℕ) (m n : ℕ) → length s + m ≡ length t + n → list_any is_control s ≡ false → list_any is_control t ≡ false
    → slice_cmp nat_cmp (s ++ replicate m 0) (t ++ replicate n 0) ≡ slice_cmp nat_cmp s t
text_cmp [] [] m n wide hs ht = let same : m ≡ n = omega arith in ap (λ k. slice_cmp nat_cmp (replicate m 0) (replicate k 0)) (sym same) ∙ tied (replicate m 0)
text_cmp [] (y ∷ t) zero n wide hs ht = absurd (omega arith)
text_cmp [] (y ∷ t) (suc m) n wide hs ht =
    ap (λ o. ordering_then o (slice_cmp nat_cmp (replicate m 0) (t ++ replicate n 0))) (less 0 y (above_zeros y (false_parts (is_control y) _ ht).0))
text_cmp (x ∷ s) [] m zero wide hs ht = absurd (omega arith)
text_cmp (x ∷ s) [] m (suc n) wide hs ht =
    ap (λ o. ordering_then o (slice_cmp nat_cmp (s ++ replicate m 0) (replicate n 0))) (greater x 0 (above_zeros x (false_parts (is_control x) _ hs).0))
text_cmp (x ∷ s) (y ∷ t) m n wide hs ht =
    ap (ordering_then (nat_cmp x y)) (text_cmp s t m n (omega arith) (false_parts (is_control x) _ hs).1 (false_parts (is_control y) _ ht).1)

pub not_control : (said : List ℕ) → IsTrue (is_text said) → list_any is_control said ≡ false
not_control said h = not-true (list_any is_control said) (and_parts (is_utf8 said) (not (list_any is_control said)) (search (rules, tests))).1

-- the width of what says a value
pub datum_wide : (type : ColumnType) (bytes : List ℕ) (datum : Datum) → SaysDatum type bytes datum → length bytes ≡ width type
datum_wide type bytes null h = ap length h ∙ length-replicate (width type) 0
datum_wide types.Int bytes (number n) h = ap length h.1.2
datum_wide types.Int bytes (text said) h = absurd h
datum_wide (types.Text most) bytes (number n) h = absurd h
datum_wide (types.Text most) bytes (text said) h =
    let short : length said ≤ min most TEXT_BYTES = h.1.0 in
    ap length h.1.1 ∙ ap suc (length-append said (replicate (most - length said) 0)) ∙ ap (λ (n : ℕ). suc (length said + n)) (length-replicate (most - length said) 0) ∙ omega arith

pub row_wide : (types : List ColumnType) (bytes : List ℕ) (row : Row) → SaysRow types bytes row → length bytes ≡ row_width types
row_wide [] bytes [] h = ap length h
row_wide [] bytes (datum ∷ row) h = absurd h
row_wide (type ∷ types) bytes [] h = absurd h
row_wide (type ∷ types) bytes (datum ∷ row) (first, rest, is, says, more) =
    let one : length first ≡ width type = datum_wide type first datum says in
    let others : length rest ≡ row_width types = row_wide types rest row more in
    let both : length first + length rest ≡ width type + row_width types = cc in
    ap length is ∙ length-append first rest ∙ both ∙ sym (sum_by-cons width type types)

zeros_more : (n : ℕ) → replicate {A = ℕ} (n + 1) 0 ≡ 0 ∷ replicate n 0
zeros_more n = let next : n + 1 ≡ suc n = omega arith in ap (λ k. replicate {A = ℕ} k 0) next

null_cmp : (wide : ℕ) (bytes rest : List ℕ) → bytes ≡ 1 ∷ rest → slice_cmp nat_cmp (replicate (wide + 1) 0) bytes ≡ Less
null_cmp wide bytes rest e = ap (λ l. slice_cmp nat_cmp l bytes) (zeros_more wide) ∙ ap (slice_cmp nat_cmp (0 ∷ replicate wide 0)) e

cmp_null : (wide : ℕ) (bytes rest : List ℕ) → bytes ≡ 1 ∷ rest → slice_cmp nat_cmp bytes (replicate (wide + 1) 0) ≡ Greater
cmp_null wide bytes rest e = ap (slice_cmp nat_cmp bytes) (zeros_more wide) ∙ ap (λ l. slice_cmp nat_cmp l (0 ∷ replicate wide 0)) e

numbers_cmp : (a b : List ℕ) (n m : ℤ) → IsValue (number n) → IsValue (number m) → SaysNumber a n → SaysNumber b m → slice_cmp nat_cmp a b ≡ int_cmp n m
numbers_cmp a b n m few fewer (x, at_x, is_a) (y, at_y, is_b) =
    let above_n = is_above n x few at_x in
    let above_m = is_above m y fewer at_y in
    ap (λ l. slice_cmp nat_cmp l b) is_a ∙ ap (slice_cmp nat_cmp (1 ∷ to_be_bytes w64 x)) is_b
    ∙ eight_bytes_cmp x y (below_all n x few above_n) (below_all m y fewer above_m) ∙ above_cmp n m x y above_n above_m

texts_cmp : (most : ℕ) (a b s t : List ℕ) → IsValue (text s) → IsValue (text t) → SaysText most a s → SaysText most b t → slice_cmp nat_cmp a b ≡ slice_cmp nat_cmp s t
texts_cmp most a b s t is_s is_t (short, is_a) (brief, is_b) =
    ap (λ l. slice_cmp nat_cmp l b) is_a ∙ ap (slice_cmp nat_cmp (1 ∷ s ++ replicate (most - length s) 0)) is_b
    ∙ text_cmp s t (most - length s) (most - length t) (omega arith) (not_control s is_s) (not_control t is_t)

pub then_equal : (o : Ordering) → o ≡ ordering_then o Equal
then_equal Less = refl
then_equal Equal = refl
then_equal Greater = refl

pub datums_cmp : (type : ColumnType) (a b : List ℕ) (x y : Datum) → SaysDatum type a x → SaysDatum type b y → slice_cmp nat_cmp a b ≡ datum_cmp x y
unfolding datum_cmp
datums_cmp type a b null null h g = ap (λ l. slice_cmp nat_cmp l b) (h ∙ sym g) ∙ tied b
datums_cmp types.Int a b null (number m) h g = ap (λ l. slice_cmp nat_cmp l b) h ∙ null_cmp 8 b _ g.1.2
datums_cmp types.Int a b null (text t) h g = absurd g
datums_cmp (types.Text most) a b null (number m) h g = absurd g
datums_cmp (types.Text most) a b null (text t) h g = ap (λ l. slice_cmp nat_cmp l b) h ∙ null_cmp most b _ g.1.1
datums_cmp types.Int a b (number n) null h g = ap (slice_cmp nat_cmp a) g ∙ cmp_null 8 a _ h.1.2
datums_cmp types.Int a b (number n) (number m) h g = numbers_cmp a b n m h.0 g.0 h.1 g.1 ∙ then_equal (int_cmp n m)
datums_cmp types.Int a b (number n) (text t) h g = absurd g
datums_cmp types.Int a b (text s) y h g = absurd h
datums_cmp (types.Text most) a b (number n) y h g = absurd h
datums_cmp (types.Text most) a b (text s) null h g = ap (slice_cmp nat_cmp a) g ∙ cmp_null most a _ h.1.1
datums_cmp (types.Text most) a b (text s) (number m) h g = absurd g
datums_cmp (types.Text most) a b (text s) (text t) h g = texts_cmp most a b s t h.0 g.0 h.1 g.1

pub then_assoc : (r s o : Ordering) → ordering_then (ordering_then r s) o ≡ ordering_then r (ordering_then s o)
then_assoc Less s o = refl
then_assoc Equal s o = refl
then_assoc Greater s o = refl

pub beside_cmp : (a b c d : List ℕ) → length a ≡ length b → slice_cmp nat_cmp (a ++ c) (b ++ d) ≡ ordering_then (slice_cmp nat_cmp a b) (slice_cmp nat_cmp c d)
beside_cmp [] [] c d wide = refl
beside_cmp [] (y ∷ b) c d wide = absurd (omega arith)
beside_cmp (x ∷ a) [] c d wide = absurd (omega arith)
beside_cmp (x ∷ a) (y ∷ b) c d wide = ap (ordering_then (nat_cmp x y)) (beside_cmp a b c d (omega arith)) ∙ sym (then_assoc (nat_cmp x y) _ _)

pub rows_cmp : (types : List ColumnType) (a b : List ℕ) (x y : Row) → SaysRow types a x → SaysRow types b y → slice_cmp nat_cmp a b ≡ row_cmp x y
unfolding row_cmp
rows_cmp [] a b [] [] h g = ap (λ l. slice_cmp nat_cmp l b) h ∙ ap (slice_cmp nat_cmp []) g
rows_cmp [] a b [] (e ∷ y) h g = absurd g
rows_cmp [] a b (d ∷ x) y h g = absurd h
rows_cmp (type ∷ types) a b [] y h g = absurd h
rows_cmp (type ∷ types) a b (d ∷ x) [] h g = absurd g
rows_cmp (type ∷ types) a b (d ∷ x) (e ∷ y) (first, rest, is, says, more) (front, back, at, tells, further) =
    let wide : length first ≡ length front = datum_wide type first d says ∙ sym (datum_wide type front e tells) in
    ap (λ l. slice_cmp nat_cmp l b) is ∙ ap (slice_cmp nat_cmp (first ++ rest)) at ∙ beside_cmp first front rest back wide
    ∙ ap (λ o. ordering_then o (slice_cmp nat_cmp rest back)) (datums_cmp type first front d e says tells)
    ∙ ap (ordering_then (datum_cmp d e)) (rows_cmp types rest back x y more further)

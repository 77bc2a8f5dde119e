-- Bytes are those of the number that they say.
use Rattle.std.proofs.Common.{◌≡◌, ◌<◌, ◌≤◌, ◌+◌, ◌*◌, ◌^◌, ℕ, zero, suc, List, [], ◌∷◌, ◌++◌, length, take, drop, slice_index, sym, ap, ◌∙◌, inl, inr, arith}
use Rattle.std.proofs.Math.Nat.{add-mul, mod-eq_of_lt, mod-lt, mul-le-mul_right}
use Rattle.std.proofs.lemmas.Bool.{cases_order}
use Rattle.std.proofs.lemmas.List.{append-nil, drop-drop, length-drop, length-take-le, take-append-drop}
use Rattle.std.specs.Int.{bytes_high_first, byte_at}
use Rattle.byteorder.specs.Endian.{big_from}
use Rattle.byteorder.specs.Numbers.{big_from-bytes, big_from-cons, big_from-lt, big_from-take, length-bytes_high_first}

-- each is a byte
abbrev pub AreBytes : List ℕ → Type 0
AreBytes bytes = (i : ℕ) → slice_index bytes i < 256

-- a digit in front decides, where it is another
beside : (a b unit x y : ℕ) → a < b → x < unit → a * unit + x < b * unit + y
beside a b unit x y h small =
    let whole : (a + 1) * unit ≤ b * unit = mul-le-mul_right unit (omega arith) in
    let apart : (a + 1) * unit ≡ a * unit + 1 * unit = add-mul a 1 unit in
    omega arith

same_digit : (a b unit x y : ℕ) → x < unit → y < unit → a * unit + x ≡ b * unit + y → a ≡ b
same_digit a b unit x y small also is = elim (cases_order a b) [
  | inl same ↦ same
  | inr apart ↦ elim apart [
    | inl below ↦ absurd (omega (arith, beside a b unit x y below small))
    | inr above ↦ absurd (omega (arith, beside b a unit y x above also))
  ]
]

-- as many bytes that say the same number are the same
same_number : (n : ℕ) (xs ys : List ℕ) → length xs ≡ n → length ys ≡ n → AreBytes xs → AreBytes ys → big_from 0 n xs ≡ big_from 0 n ys → xs ≡ ys
same_number zero [] [] a b few small same = λ i. []
same_number zero [] (y ∷ ys) a b few small same = absurd (omega arith)
same_number zero (x ∷ xs) ys a b few small same = absurd (omega arith)
same_number (suc n) [] ys a b few small same = absurd (omega arith)
same_number (suc n) (x ∷ xs) [] a b few small same = absurd (omega arith)
same_number (suc n) (x ∷ xs) (y ∷ ys) a b few small same =
    let whole : x * 256 ^ n + big_from 0 n xs ≡ y * 256 ^ n + big_from 0 n ys =
    ap (λ (r : ℕ). x * 256 ^ n + r) (sym (big_from-cons 0 n x xs)) ∙ same ∙ ap (λ (r : ℕ). y * 256 ^ n + r) (big_from-cons 0 n y ys) in
    let first : x ≡ y =
    same_digit x y (256 ^ n) (big_from 0 n xs) (big_from 0 n ys) (big_from-lt 0 n xs (λ i. few (suc i))) (big_from-lt 0 n ys (λ i. small (suc i))) whole in
    let units : x * 256 ^ n ≡ y * 256 ^ n = ap (λ (k : ℕ). k * 256 ^ n) first in
    let rest : big_from 0 n xs ≡ big_from 0 n ys = omega arith in
    ap (λ (z : ℕ). z ∷ xs) first ∙ ap (λ (zs : List ℕ). y ∷ zs) (same_number n xs ys (omega arith) (omega arith) (λ i. few (suc i)) (λ i. small (suc i)) rest)

byte_small : (k x : ℕ) → byte_at k x < 256
byte_small zero x = mod-lt x (omega arith)
byte_small (suc k) x = mod-lt _ (omega arith)

number_small : (n x : ℕ) → AreBytes (bytes_high_first n x)
number_small zero x i = omega arith
number_small (suc n) x zero = byte_small n x
number_small (suc n) x (suc i) = number_small n x i

number_bytes : (n : ℕ) (bytes : List ℕ) → length bytes ≡ n → AreBytes bytes → bytes_high_first n (big_from 0 n bytes) ≡ bytes
number_bytes n bytes size small =
    let number : ℕ = big_from 0 n bytes in
    same_number n (bytes_high_first n number) bytes (length-bytes_high_first n number) size (number_small n number) small
    (ap (big_from 0 n) (sym (append-nil (bytes_high_first n number))) ∙ big_from-bytes n number [] ∙ mod-eq_of_lt (big_from-lt 0 n bytes small))

drop_small : (k : ℕ) (bytes : List ℕ) → AreBytes bytes → AreBytes (drop k bytes)
drop_small zero bytes small i = small i
drop_small (suc k) [] small i = omega arith
drop_small (suc k) (b ∷ bytes) small i = drop_small k bytes (λ j. small (suc j)) i

take_small : (k : ℕ) (bytes : List ℕ) → AreBytes bytes → AreBytes (take k bytes)
take_small zero bytes small i = omega arith
take_small (suc k) [] small i = omega arith
take_small (suc k) (b ∷ bytes) small zero = small zero
take_small (suc k) (b ∷ bytes) small (suc i) = take_small k bytes (λ j. small (suc j)) i

-- the number that is said from a place on is that of the bytes there
pub bytes_at : (n k : ℕ) (bytes : List ℕ) → k + n ≤ length bytes → AreBytes bytes → bytes_high_first n (big_from 0 n (drop k bytes)) ≡ take n (drop k bytes)
bytes_at n k bytes long small =
    let rest : List ℕ = drop k bytes in
    let size : length (take n rest) ≡ n = length-take-le n rest (omega (arith, length-drop k bytes)) in
    ap (bytes_high_first n) (sym (big_from-take 0 n n rest (omega arith))) ∙ number_bytes n (take n rest) size (take_small n rest (drop_small k bytes small))

-- and it fits
pub number_at_fits : (n k : ℕ) (bytes : List ℕ) → AreBytes bytes → big_from 0 n (drop k bytes) < 256 ^ n
number_at_fits n k bytes small = big_from-lt 0 n (drop k bytes) (drop_small k bytes small)

-- the bytes from a place on are some and those after them
pub bytes_next : (k n m : ℕ) (cell part : List ℕ) → m ≡ k + n → part ≡ take n (drop k cell) → drop k cell ≡ part ++ drop m cell
bytes_next k n m cell part place is =
    sym (take-append-drop n (drop k cell)) ∙ ap (λ (l : List ℕ). l ++ drop n (drop k cell)) (sym is) ∙ ap (λ (l : List ℕ). part ++ l) (drop-drop n k cell ∙ ap (λ (j : ℕ). drop j cell) (sym place))

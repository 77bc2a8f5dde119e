-- As many bytes as an item of one size has say such an item, whatever they are.
use Rattle.std.proofs.Common.{◌≡◌, ◌<◌, ◌≤◌, ◌+◌, ◌*◌, ◌%◌, ◌^◌, ℕ, zero, suc, List, [], ◌∷◌, length, take, drop, slice_index, refl, sym, ap, ap₂, ◌∙◌, inl, inr, arith}
use Rattle.std.proofs.Math.Nat.{add-mul, mod-eq_of_lt, mod-lt, mul-le-mul_right, mul_comm, pow-suc}
use Rattle.std.proofs.lemmas.Bool.{cases_order}
use Rattle.std.proofs.lemmas.List.{length-drop, length-take-le, take-append-drop}
use Rattle.std.specs.Int.{byte_at, bytes_high_first}
use Rattle.rs_bytes.specs.Codes.{Code, SaysBoth, SaysEach, SaysMany, SaysNumber}
use Rattle.rs_bytes.specs.Laws.{above_zero, low_more}

-- each is a byte
abbrev pub AreBytes : List ℕ → Type 0
AreBytes bytes = (i : ℕ) → slice_index bytes i < 256

-- so many bytes say an item each time
abbrev pub IsFixed : {A : Type 0} → Code A → ℕ → Type 0
IsFixed {A} says size = (bytes : List ℕ) → length bytes ≡ size → AreBytes bytes → (value : A) × says bytes value

drop_bytes : (k : ℕ) (bytes : List ℕ) → AreBytes bytes → AreBytes (drop k bytes)
drop_bytes zero bytes small i = small i
drop_bytes (suc k) [] small i = omega arith
drop_bytes (suc k) (b ∷ bytes) small i = drop_bytes k bytes (λ j. small (suc j)) i

take_bytes : (k : ℕ) (bytes : List ℕ) → AreBytes bytes → AreBytes (take k bytes)
take_bytes zero bytes small i = omega arith
take_bytes (suc k) [] small i = omega arith
take_bytes (suc k) (b ∷ bytes) small zero = small zero
take_bytes (suc k) (b ∷ bytes) small (suc i) = take_bytes k bytes (λ j. small (suc j)) i

-- a digit in front decides, where it is another
beside : (a b unit x y : ℕ) → a < b → x < unit → a * unit + x < b * unit + y
beside a b unit x y h small =
    let whole : (a + 1) * unit ≤ b * unit = mul-le-mul_right unit (omega arith) in
    let apart : (a + 1) * unit ≡ a * unit + 1 * unit = add-mul a 1 unit in
    omega arith

same_digits : (a b unit x y : ℕ) → x < unit → y < unit → a * unit + x ≡ b * unit + y → (a ≡ b) × (x ≡ y)
same_digits a b unit x y small also is = elim (cases_order a b) [
  | inl same ↦
      let units : a * unit ≡ b * unit = ap (λ (k : ℕ). k * unit) same in
      let rest : x ≡ y = omega arith in (same, rest)
  | inr apart ↦ elim apart [
    | inl below ↦ absurd (omega (arith, beside a b unit x y below small))
    | inr above ↦ absurd (omega (arith, beside b a unit y x above also))
  ]
]

-- numbers that are the same below their higher bytes have the same low bytes
same_bytes : (k x y : ℕ) → x % 256 ^ k ≡ y % 256 ^ k → bytes_high_first k x ≡ bytes_high_first k y
same_bytes zero x y same = refl
same_bytes (suc k) x y same =
    let parts = same_digits (byte_at k x) (byte_at k y) (256 ^ k) (x % 256 ^ k) (y % 256 ^ k) (mod-lt x (above_zero k)) (mod-lt y (above_zero k))
    (low_more k x ∙ same ∙ sym (low_more k y)) in
    ap₂ (λ (b : ℕ) (bs : List ℕ). b ∷ bs) parts.0 (same_bytes k x y parts.1)

pub fixed_number : (k : ℕ) → IsFixed (SaysNumber k) k
fixed_number zero [] size small = (0, (omega arith, refl))
fixed_number zero (b ∷ bytes) size small = absurd (omega (arith, size))
fixed_number (suc k) [] size small = absurd (omega (arith, size))
fixed_number (suc k) (b ∷ bytes) size small =
    let rest = fixed_number k bytes (omega (arith, size)) (λ i. small (suc i)) in
    let y : ℕ = rest.0 in
    let unit : ℕ = 256 ^ k in
    let x : ℕ = b * unit + y in
    let few : y < unit = rest.1.0 in
    let wider : 256 ^ suc k ≡ 256 * unit = pow-suc 256 k ∙ mul_comm unit 256 in
    let least : b < 256 = small zero in
    let below : x < 256 * unit + 0 = beside b 256 unit y 0 least few in
    let fits : x < 256 ^ suc k = omega (arith, wider, below) in
    let parts = same_digits (byte_at k x) b unit (x % unit) y (mod-lt x (above_zero k)) few (low_more k x ∙ mod-eq_of_lt fits) in
    let low : bytes ≡ bytes_high_first k x = rest.1.1 ∙ same_bytes k y x (mod-eq_of_lt few ∙ sym parts.1) in
    (x, (fits, ap₂ (λ (c : ℕ) (bs : List ℕ). c ∷ bs) (sym parts.0) low))

pub fixed_both : {A B : Type 0} (says : Code A) (tells : Code B) (m n : ℕ) → IsFixed says m → IsFixed tells n → IsFixed (SaysBoth says tells) (m + n)
fixed_both says tells m n one other bytes size small =
    let front = one (take m bytes) (length-take-le m bytes (omega (arith, size))) (take_bytes m bytes small) in
    let back = other (drop m bytes) (omega (arith, length-drop m bytes, size)) (drop_bytes m bytes small) in
    ((front.0, back.0), (take m bytes, drop m bytes, sym (take-append-drop m bytes), front.1, back.1))

pub fixed_many : {A : Type 0} (says : Code A) (m : ℕ) → IsFixed says m → (count : ℕ) → IsFixed (SaysMany count (SaysEach says)) (count * m)
fixed_many says m one zero [] size small = ([], (refl, refl))
fixed_many says m one zero (b ∷ bytes) size small = absurd (omega (arith, size))
fixed_many says m one (suc count) bytes size small =
    let step : suc count * m ≡ m + count * m = omega arith in
    let front = one (take m bytes) (length-take-le m bytes (omega (arith, size, step))) (take_bytes m bytes small) in
    let back = fixed_many says m one count (drop m bytes) (omega (arith, length-drop m bytes, size, step)) (drop_bytes m bytes small) in
    (front.0 ∷ back.0, (ap suc back.1.0, (take m bytes, drop m bytes, sym (take-append-drop m bytes), front.1, back.1.1)))

-- Bytes say one value at their front at the most.
use Rattle.std.proofs.Common.{ℕ, zero, suc, ◌+◌, ◌*◌, ◌%◌, ◌^◌, ◌<◌, ◌≡◌, List, [], ◌∷◌, ◌++◌, length, take, drop, refl, sym, ap, ap₂, ◌∙◌, arith, All, append_assoc, pow-suc, mul_comm}
use Rattle.std.specs.Int.{byte_at, bytes_high_first}
use Rattle.std.proofs.Math.Nat.{pow-le-pow_right, mod-eq_of_lt}
use Rattle.std.proofs.Math.Arith.{mod-mul}
use Rattle.std.proofs.lemmas.List.{take_at, drop_at}
use Rattle.std.proofs.lemmas.List.Elements.{All-nil, All-cons}
use Rattle.rs_bytes.specs.Codes.{Code, IsOne, IsOneOfLength, SaysNumber, SaysBoth, SaysUtf8, SaysEach, SaysCounted}

pub above_zero : (k : ℕ) → 0 < 256 ^ k
above_zero k = pow-le-pow_right {n = 256} (omega arith) {i = 0} {j = k} (omega arith)

-- the low k + 1 bytes are a byte in front of the low k
pub low_more : (k n : ℕ) → byte_at k n * 256 ^ k + n % 256 ^ k ≡ n % 256 ^ suc k
low_more zero n = omega arith
low_more (suc k) n =
    let unit = 256 ^ suc k in
    let wider : 256 ^ suc (suc k) ≡ 256 * unit = pow-suc 256 (suc k) ∙ mul_comm unit 256 in
    rw (wider, mod-mul n {m = 256} {c = unit} (omega arith) (above_zero (suc k))) (omega arith)

head_or : ℕ → List ℕ → ℕ
head_or d [] = d
head_or d (x ∷ xs) = x

-- Two numbers of the same bytes are the same up to these bytes.
same_low : (k x y : ℕ) → bytes_high_first k x ≡ bytes_high_first k y → x % 256 ^ k ≡ y % 256 ^ k
unfolding head_or
same_low zero x y same = omega arith
same_low (suc k) x y same =
    let top : byte_at k x ≡ byte_at k y = ap (head_or 0) same in
    let low : x % 256 ^ k ≡ y % 256 ^ k = same_low k x y (ap (drop 1) same) in
    sym (low_more k x) ∙ ap₂ (λ (a b : ℕ). a * 256 ^ k + b) top low ∙ low_more k y

length_high : (k x : ℕ) → length (bytes_high_first k x) ≡ k
length_high zero x = refl
length_high (suc k) x = ap suc (length_high k x)

-- Two lists with fronts of the same length are the same in front and after it.
pub parts : (f r g s : List ℕ) → length f ≡ length g → f ++ r ≡ g ++ s → (f ≡ g) × (r ≡ s)
parts f r g s wide same = (
  sym (take_at f r (length g) wide) ∙ ap (take (length g)) same ∙ take_at g s (length g) refl,
  sym (drop_at f r (length g) wide) ∙ ap (drop (length g)) same ∙ drop_at g s (length g) refl,
)

pub number_one : (n : ℕ) → IsOne (SaysNumber n)
number_one n f r g s x y (small, is) (few, at) same =
    let cut = parts f r g s (ap length is ∙ length_high n x ∙ sym (ap length at ∙ length_high n y)) same in
    (sym (mod-eq_of_lt small) ∙ same_low n x y (sym is ∙ cut.0 ∙ at) ∙ mod-eq_of_lt few, cut.1)

pub both_one : {A B : Type 0} (says : Code A) (tells : Code B) → IsOne says → IsOne tells → IsOne (SaysBoth says tells)
both_one says tells one other f r g s x y (first, rest, is, a, b) (front, back, at, c, d) same =
    let whole : first ++ (rest ++ r) ≡ front ++ (back ++ s) = sym (append_assoc first rest r) ∙ ap (λ l. l ++ r) (sym is) ∙ same ∙ ap (λ l. l ++ s) at ∙ append_assoc front back s in
    let left = one first (rest ++ r) front (back ++ s) x.0 y.0 a c whole in
    let right = other rest r back s x.1 y.1 b d left.1 in
    (ap₂ (λ p q. (p, q)) left.0 right.0, right.1)

pub utf8_one : IsOneOfLength SaysUtf8
utf8_one f r g s x y many (is, a) (at, b) same =
    parts x r y s many (ap (λ l. l ++ r) (sym is) ∙ same ∙ ap (λ l. l ++ s) at)

pub each_one : {A : Type 0} (says : Code A) → IsOne says → IsOneOfLength (SaysEach says)
each_one says one f r g s [] [] many h k same = (refl, sym (ap (λ l. l ++ r) h) ∙ same ∙ ap (λ l. l ++ s) k)
each_one says one f r g s [] (y ∷ ys) many h k same = absurd (omega arith)
each_one says one f r g s (x ∷ xs) [] many h k same = absurd (omega arith)
each_one says one f r g s (x ∷ xs) (y ∷ ys) many (first, rest, is, a, b) (front, back, at, c, d) same =
    let whole : first ++ (rest ++ r) ≡ front ++ (back ++ s) = sym (append_assoc first rest r) ∙ ap (λ l. l ++ r) (sym is) ∙ same ∙ ap (λ l. l ++ s) at ∙ append_assoc front back s in
    let left = one first (rest ++ r) front (back ++ s) x y a c whole in
    let right = each_one says one rest r back s xs ys (omega arith) b d left.1 in
    (ap₂ ◌∷◌ left.0 right.0, right.1)

pub counted_one : {A : Type 0} (n : ℕ) (says : Code (List A)) → IsOneOfLength says → IsOne (SaysCounted n says)
counted_one n says one f r g s xs ys (count, rest, is, a, b) (many, back, at, c, d) same =
    let whole : count ++ (rest ++ r) ≡ many ++ (back ++ s) = sym (append_assoc count rest r) ∙ ap (λ l. l ++ r) (sym is) ∙ same ∙ ap (λ l. l ++ s) at ∙ append_assoc many back s in
    let left = number_one n count (rest ++ r) many (back ++ s) (length xs) (length ys) a c whole in
    one rest r back s xs ys left.0 b d left.1

-- What bytes say is in its range.
pub each_fits : {A : Type 0} (says : Code A) (P : A → Type 0) → ((bytes : List ℕ) (x : A) → says bytes x → P x) → (bytes : List ℕ) (xs : List A) → SaysEach says bytes xs → All P xs
each_fits says P fitting bytes [] h = All-nil P
each_fits says P fitting bytes (x ∷ xs) (first, rest, is, a, b) = All-cons P x xs (fitting first x a) (each_fits says P fitting rest xs b)

-- Which bytes say which value, and what reading and writing one does.
use Rattle.std.specs.Prelude.{ℕ, ◌^◌, ◌<◌, ◌≡◌, List, [], ◌∷◌, ◌++◌, length, IsTrue}
use Rattle.std.specs.Int.{bytes_high_first}
use Rattle.std.specs.Str.{is_utf8}

-- these bytes say this value
abbrev pub Code : Type 0 → Type 1
Code A = List ℕ → A → Type 0

-- The bytes at the front of old say the value, and new is left.
pub record Reads {A : Type 0} (says : Code A) (old : List ℕ) (value : A) (new : List ℕ) : Type 0 where
  pub front : List ℕ
  pub is : old ≡ front ++ new
  pub said : says front value

-- No bytes at the front of old say a value.
pub record ReadsNone {A : Type 0} (says : Code A) (old : List ℕ) : Type 0 where
  pub none : (value : A) (new : List ℕ) → Reads says old value new → ⊥

-- Bytes at the front of old say a value.
pub record ReadsSome {A : Type 0} (says : Code A) (old : List ℕ) : Type 0 where
  pub value : A
  pub new : List ℕ
  pub reads : Reads says old value new

-- New is old and bytes that say the value.
pub record Writes {A : Type 0} (says : Code A) (old : List ℕ) (value : A) (new : List ℕ) : Type 0 where
  pub back : List ℕ
  pub is : new ≡ old ++ back
  pub said : says back value

-- Bytes say one value at their front at the most, and it ends in one place.
abbrev pub IsOne : {A : Type 0} → Code A → Type 0
IsOne {A = A} says = (f r g s : List ℕ) (x y : A) → says f x → says g y → f ++ r ≡ g ++ s → (x ≡ y) × (r ≡ s)

-- the same where it is known how many there are
abbrev pub IsOneOfLength : {A : Type 0} → Code (List A) → Type 0
IsOneOfLength {A = A} says = (f r g s : List ℕ) (xs ys : List A) → length xs ≡ length ys → says f xs → says g ys → f ++ r ≡ g ++ s → (xs ≡ ys) × (r ≡ s)

-- a number in n bytes, the highest first
abbrev pub SaysNumber : ℕ → Code ℕ
SaysNumber n bytes x = (x < 256 ^ n) × (bytes ≡ bytes_high_first n x)

-- a value, then another
abbrev pub SaysBoth : {A B : Type 0} → Code A → Code B → Code (A × B)
SaysBoth says tells bytes pair = (first rest : List ℕ) × (bytes ≡ first ++ rest) × says first pair.0 × tells rest pair.1

-- the bytes of a text of UTF-8
abbrev pub SaysUtf8 : Code (List ℕ)
SaysUtf8 bytes text = (bytes ≡ text) × IsTrue (is_utf8 text)

-- values one after another
abbrev pub SaysEach : {A : Type 0} → Code A → Code (List A)
SaysEach says bytes [] = bytes ≡ []
SaysEach says bytes (value ∷ values) = (first rest : List ℕ) × (bytes ≡ first ++ rest) × says first value × SaysEach says rest values

-- a list of so many
abbrev pub SaysMany : {A : Type 0} → ℕ → Code (List A) → Code (List A)
SaysMany count says bytes values = (length values ≡ count) × says bytes values

-- how many there are in a list, in n bytes, then the list
abbrev pub SaysCounted : {A : Type 0} → ℕ → Code (List A) → Code (List A)
SaysCounted n says bytes values = (count rest : List ℕ) × (bytes ≡ count ++ rest) × SaysNumber n count (length values) × says rest values

-- Marks round a text, by the bytes between its quotes.
use Rattle.std.proofs.Common.{◌≡◌, ◌==◌, ◌||◌, ◌++◌, ℕ, Bool, true, false, cond, List, [], ◌∷◌, length, refl, ap, subst, eqb-true}
use Rattle.std.specs.List.{list_any}
use Rattle.rs_csv_answers.specs.Records.{calls_for_marks, marks_doubled, needs_marks, quotes_single, text_field}

-- a quote calls for none
single-any : (is_second : Bool) (inner : List ℕ) → list_any calls_for_marks (quotes_single is_second inner) ≡ list_any calls_for_marks inner
single-any is_second [] = refl
single-any false (byte ∷ bytes) = ap (λ b. calls_for_marks byte || b) (single-any (byte == 39) bytes)
single-any true (byte ∷ bytes) = go (byte == 39) refl (single-any false bytes) (single-any (byte == 39) bytes)
  where
    go : (b : Bool) → (byte == 39) ≡ b → list_any calls_for_marks (quotes_single false bytes) ≡ list_any calls_for_marks bytes
        → list_any calls_for_marks (quotes_single (byte == 39) bytes) ≡ list_any calls_for_marks bytes
        → list_any calls_for_marks (cond b (quotes_single false bytes) (byte ∷ quotes_single (byte == 39) bytes)) ≡ (calls_for_marks byte || list_any calls_for_marks bytes)
    go true same one other = rw (eqb-true byte 39 same) one
    go false same one other = ap (λ b. calls_for_marks byte || b) other

-- what is no empty text needs marks where a byte calls for them
pub needs-empty : (inner : List ℕ) → inner ≡ [] → needs_marks (quotes_single false inner) ≡ true
needs-empty inner none = rw none refl

pub needs-some : (inner : List ℕ) → (length inner == 0) ≡ false → needs_marks (quotes_single false inner) ≡ list_any calls_for_marks inner
needs-some [] some = cc
needs-some (byte ∷ bytes) some = single-any false (byte ∷ bytes)

-- without a byte that calls for marks there is none to be doubled
not-called : (byte : ℕ) (more : Bool) → (calls_for_marks byte || more) ≡ false → ((byte == 34) ≡ false) × (more ≡ false)
not-called byte more none = go (byte == 34) refl
  where
    rest : (b : Bool) → (b || more) ≡ false → more ≡ false
    rest false e = e
    rest true e = cc

    go : (b : Bool) → (byte == 34) ≡ b → (b ≡ false) × (more ≡ false)
    go true same = let wrong : (calls_for_marks 34 || more) ≡ false = subst (λ b. (calls_for_marks b || more) ≡ false) (eqb-true byte 34 same) none in cc
    go false same = (refl, rest (calls_for_marks byte) none)

pub none-doubled : (text : List ℕ) → list_any calls_for_marks text ≡ false → marks_doubled text ≡ text
none-doubled [] none = refl
none-doubled (byte ∷ bytes) none =
    let plain = not-called byte (list_any calls_for_marks bytes) none in
    rw plain.0 (ap (λ l. byte ∷ l) (none-doubled bytes plain.1))

-- of a text that needs none the field is the text
pub unmarked : (text : List ℕ) → needs_marks text ≡ false → marks_doubled text ≡ text_field text
unmarked [] none = cc
unmarked (byte ∷ bytes) none = rw none (none-doubled (byte ∷ bytes) none)

pub marked : (text : List ℕ) → needs_marks text ≡ true → 34 ∷ (marks_doubled text ++ 34 ∷ []) ≡ text_field text
marked text needs = rw needs refl

-- Where a row is cut: at each space between no quotes.
use Rattle.std.proofs.Common.{◌≡◌, ◌∙◌, ◌==◌, ◌&&◌, ◌++◌, ◌+◌, ◌-◌, ◌<◌, ◌≤◌, ℕ, Bool, true, false, not, cond, List, [], ◌∷◌, length, length-drop, get_or, take, drop, refl, sym, ap, append_assoc, arith}
use Rattle.std.proofs.lemmas.List.{drop_more, get_or-drop, take_more}
use Rattle.rs_csv_answers.specs.Records.{field_of, fields_from}

-- the bytes from one place up to another
abbrev pub part : List ℕ → ℕ → ℕ → List ℕ
part row begin place = take (place - begin) (drop begin row)

-- one byte more
part-more : (row : List ℕ) (begin place d : ℕ) → begin ≤ place → place < length row → part row begin (place + 1) ≡ part row begin place ++ get_or row place d ∷ []
part-more row begin place d begun within =
    let left : length (drop begin row) ≡ length row - begin = length-drop begin row in
    let count : place + 1 - begin ≡ (place - begin) + 1 = omega arith in
    let at : begin + (place - begin) ≡ place = omega arith in
    ap (λ n. take n (drop begin row)) count ∙ take_more (drop begin row) (place - begin) d (omega (arith, left))
    ∙ ap (λ b. part row begin place ++ b ∷ []) (get_or-drop begin row (place - begin) d ∙ ap (λ n. get_or row n d) at)

-- none yet
part-none : (row : List ℕ) (place : ℕ) → part row place place ≡ []
part-none row place =
    let none : place - place ≡ 0 = omega arith in
    ap (λ n. take n (drop place row)) none

-- a byte that ends a field
pub field-ends : (row : List ℕ) (is_quoted : Bool) (begin place d : ℕ) → place < length row → (get_or row place d == 32 && not is_quoted) ≡ true
    → fields_from is_quoted (part row begin place) (drop place row) ≡ field_of (part row begin place) ++ 44 ∷ fields_from is_quoted (part row (place + 1) (place + 1)) (drop (place + 1) row)
field-ends row is_quoted begin place d within ends =
    ap (λ l. fields_from is_quoted (part row begin place) l) (drop_more row place d within)
    ∙ ap (λ b. cond b (field_of (part row begin place) ++ 44 ∷ fields_from false [] (drop (place + 1) row))
    (fields_from (cond (get_or row place d == 39) (not is_quoted) is_quoted) (part row begin place ++ get_or row place d ∷ []) (drop (place + 1) row))) ends
    ∙ ap (λ b. field_of (part row begin place) ++ 44 ∷ fields_from b [] (drop (place + 1) row)) (sym (unquoted (get_or row place d == 32) is_quoted ends))
    ∙ ap (λ l. field_of (part row begin place) ++ 44 ∷ fields_from is_quoted l (drop (place + 1) row)) (sym (part-none row (place + 1)))
  where
    unquoted : (a b : Bool) → (a && not b) ≡ true → b ≡ false
    unquoted true false e = refl
    unquoted true true e = cc
    unquoted false b e = cc

-- a byte that ends none
pub field-goes-on : (row : List ℕ) (is_quoted : Bool) (begin place d : ℕ) → begin ≤ place → place < length row → (get_or row place d == 32 && not is_quoted) ≡ false
    → fields_from is_quoted (part row begin place) (drop place row)
    ≡ fields_from (cond (get_or row place d == 39) (not is_quoted) is_quoted) (part row begin (place + 1)) (drop (place + 1) row)
field-goes-on row is_quoted begin place d begun within goes =
    ap (λ l. fields_from is_quoted (part row begin place) l) (drop_more row place d within)
    ∙ ap (λ b. cond b (field_of (part row begin place) ++ 44 ∷ fields_from false [] (drop (place + 1) row))
    (fields_from (cond (get_or row place d == 39) (not is_quoted) is_quoted) (part row begin place ++ get_or row place d ∷ []) (drop (place + 1) row))) goes
    ∙ ap (λ l. fields_from (cond (get_or row place d == 39) (not is_quoted) is_quoted) l (drop (place + 1) row)) (sym (part-more row begin place d begun within))

-- so the record goes on after a field and a comma
pub ends-here : (all text with_field with_comma row : List ℕ) (is_quoted after : Bool) (begin place next d : ℕ) → place < length row
    → (get_or row place d == 32 && not is_quoted) ≡ true → text ++ fields_from is_quoted (part row begin place) (drop place row) ≡ all
    → with_field ≡ text ++ field_of (part row begin place) → with_comma ≡ with_field ++ 44 ∷ [] → next ≡ place + 1 → after ≡ is_quoted
    → (next ≤ place + 1) × (with_comma ++ fields_from after (part row next (place + 1)) (drop (place + 1) row) ≡ all)
ends-here all text with_field with_comma row is_quoted after begin place next d within ends so_far field comma is same =
    let rest = fields_from is_quoted (part row (place + 1) (place + 1)) (drop (place + 1) row) in (
      omega (arith, is),
      ap (λ n. with_comma ++ fields_from after (part row n (place + 1)) (drop (place + 1) row)) is
          ∙ ap (λ b. with_comma ++ fields_from b (part row (place + 1) (place + 1)) (drop (place + 1) row)) same
          ∙ ap (λ l. l ++ rest) comma ∙ append_assoc with_field (44 ∷ []) rest ∙ ap (λ l. l ++ 44 ∷ rest) field
          ∙ append_assoc text (field_of (part row begin place)) (44 ∷ rest)
          ∙ ap (λ l. text ++ l) (sym (field-ends row is_quoted begin place d within ends)) ∙ so_far,
    )

-- or with one byte more of the field
pub goes-on-here : (all text now row : List ℕ) (is_quoted after : Bool) (begin place next d : ℕ) → begin ≤ place → place < length row
    → (get_or row place d == 32 && not is_quoted) ≡ false → text ++ fields_from is_quoted (part row begin place) (drop place row) ≡ all
    → now ≡ text → next ≡ begin → after ≡ cond (get_or row place d == 39) (not is_quoted) is_quoted
    → (next ≤ place + 1) × (now ++ fields_from after (part row next (place + 1)) (drop (place + 1) row) ≡ all)
goes-on-here all text now row is_quoted after begin place next d begun within goes so_far same is turned = (
  omega (arith, is, begun),
  ap (λ l. l ++ fields_from after (part row next (place + 1)) (drop (place + 1) row)) same
      ∙ ap (λ n. text ++ fields_from after (part row n (place + 1)) (drop (place + 1) row)) is
      ∙ ap (λ b. text ++ fields_from b (part row begin (place + 1)) (drop (place + 1) row)) turned
      ∙ ap (λ l. text ++ l) (sym (field-goes-on row is_quoted begin place d begun within goes)) ∙ so_far,
)

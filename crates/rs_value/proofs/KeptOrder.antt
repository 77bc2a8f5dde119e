-- The order of the bytes that keep rows is the order of rows.
use Rattle.std.proofs.Common.{◌≡◌, ℕ, ◌≤◌, ℤ, nat_abs, ◌^◌, List, [], ◌∷◌, ◌++◌, false, refl, sym, ap, ◌∙◌}
use Rattle.std.specs.Ordering.{nat_cmp, int_cmp, ordering_then}
use Rattle.std.specs.Cmp.Lexicographic.{slice_cmp}
use Rattle.std.specs.List.{AllByRecursion, list_any}
use Rattle.std.specs.Int.{w64, to_be_bytes}
use Rattle.rs_value.specs.Row.{Datum, null, number, text, Row, datum_cmp, row_cmp}
use Rattle.rs_value.specs.Values.{is_control}
use Rattle.rs_value.specs.Kept.{above_least, kept_datum, kept_bytes, MayBeKept, Keeps}
use Rattle.rs_value.proofs.EncodingOrder.{above_zeros, false_parts, not_control, less, greater, above_cmp, is_above, below_all, eight_bytes_cmp, beside_cmp, then_assoc, then_equal}
use Rattle.rs_value.proofs.KeptRows.{above_is, row_is}

numbers_cmp : (n m : ℤ) → nat_abs n ≤ 10 ^ 12 → nat_abs m ≤ 10 ^ 12 → slice_cmp nat_cmp (to_be_bytes w64 (above_least n)) (to_be_bytes w64 (above_least m)) ≡ int_cmp n m
numbers_cmp n m few fewer =
    let above_n = is_above n (above_least n) few (above_is n few) in
    let above_m = is_above m (above_least m) fewer (above_is m fewer) in
    eight_bytes_cmp (above_least n) (above_least m) (below_all n _ few above_n) (below_all m _ fewer above_m) ∙ above_cmp n m _ _ above_n above_m

texts_cmp : (s t b c : List ℕ) → list_any is_control s ≡ false → list_any is_control t ≡ false
    → slice_cmp nat_cmp ((s ++ 0 ∷ []) ++ b) ((t ++ 0 ∷ []) ++ c) ≡ ordering_then (slice_cmp nat_cmp s t) (slice_cmp nat_cmp b c)
texts_cmp [] [] b c hs ht = refl
texts_cmp [] (y ∷ t) b c hs ht =
    ap (λ o. ordering_then o (slice_cmp nat_cmp b ((t ++ 0 ∷ []) ++ c))) (less 0 y (above_zeros y (false_parts (is_control y) _ ht).0))
texts_cmp (x ∷ s) [] b c hs ht =
    ap (λ o. ordering_then o (slice_cmp nat_cmp ((s ++ 0 ∷ []) ++ b) c)) (greater x 0 (above_zeros x (false_parts (is_control x) _ hs).0))
texts_cmp (x ∷ s) (y ∷ t) b c hs ht =
    ap (ordering_then (nat_cmp x y)) (texts_cmp s t b c (false_parts (is_control x) _ hs).1 (false_parts (is_control y) _ ht).1)
    ∙ sym (then_assoc (nat_cmp x y) (slice_cmp nat_cmp s t) (slice_cmp nat_cmp b c))

datums_cmp : (d e : Datum) (b c : List ℕ) → MayBeKept d → MayBeKept e → slice_cmp nat_cmp (kept_datum d ++ b) (kept_datum e ++ c) ≡ ordering_then (datum_cmp d e) (slice_cmp nat_cmp b c)
unfolding datum_cmp
datums_cmp null null b c h g = refl
datums_cmp null (number m) b c h g = refl
datums_cmp null (text t) b c h g = refl
datums_cmp (number n) null b c h g = refl
datums_cmp (number n) (number m) b c h g =
    beside_cmp (to_be_bytes w64 (above_least n)) (to_be_bytes w64 (above_least m)) b c refl
    ∙ ap (λ o. ordering_then o (slice_cmp nat_cmp b c)) (numbers_cmp n m h.0 g.0 ∙ then_equal (int_cmp n m))
datums_cmp (number n) (text t) b c h g = refl
datums_cmp (text s) null b c h g = refl
datums_cmp (text s) (number m) b c h g = refl
datums_cmp (text s) (text t) b c h g = texts_cmp s t b c (not_control s h.0) (not_control t g.0)

rows_cmp : (x y : Row) → AllByRecursion MayBeKept x → AllByRecursion MayBeKept y → slice_cmp nat_cmp (kept_bytes x) (kept_bytes y) ≡ row_cmp x y
unfolding row_cmp
rows_cmp [] [] h g = refl
rows_cmp [] (null ∷ y) h g = refl
rows_cmp [] (number m ∷ y) h g = refl
rows_cmp [] (text t ∷ y) h g = refl
rows_cmp (null ∷ x) [] h g = refl
rows_cmp (number n ∷ x) [] h g = refl
rows_cmp (text s ∷ x) [] h g = refl
rows_cmp (d ∷ x) (e ∷ y) h g =
    datums_cmp d e (kept_bytes x) (kept_bytes y) h.0 g.0 ∙ ap (ordering_then (datum_cmp d e)) (rows_cmp x y h.1 g.1)

pub kept_cmp : (a b : List ℕ) (x y : Row) → Keeps a x → Keeps b y → slice_cmp nat_cmp a b ≡ row_cmp x y
kept_cmp a b x y h g = ap (λ l. slice_cmp nat_cmp l b) h.bytes_are ∙ ap (slice_cmp nat_cmp (kept_bytes x)) g.bytes_are ∙ rows_cmp x y h.values g.values

pub kept_once : (bytes : List ℕ) (x y : Row) → Keeps bytes x → Keeps bytes y → x ≡ y
kept_once bytes x y h g = sym (row_is bytes x h) ∙ row_is bytes y g

pub kept_one_way : (a b : List ℕ) (row : Row) → Keeps a row → Keeps b row → a ≡ b
kept_one_way a b row h g = h.bytes_are ∙ sym g.bytes_are

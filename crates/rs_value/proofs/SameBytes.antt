-- Strings of bytes are the same where they tie, and where their ends and what is before them are the same.
use Rattle.std.proofs.Common.{◌≡◌, ℕ, ◌-◌, List, ◌++◌, length, take, drop, Bool, ◌↔◌, IsTrue, sym, ap, ◌∙◌}
use Rattle.std.specs.Ordering.{nat_cmp, is_eq}
use Rattle.std.specs.Cmp.Lexicographic.{slice_cmp}
use Rattle.std.specs.Str.{bytes_eq}
use Rattle.std.proofs.lemmas.List.{take-append-drop}
use Rattle.std.proofs.lemmas.Map.Text.{is_eq-slice_cmp}
use Rattle.std.proofs.lemmas.Slice.Eq.{bytes_eq-Decides}

same : (tied : Bool) (xs ys : List ℕ) → tied ≡ bytes_eq xs ys → IsTrue tied ↔ (xs ≡ ys)
same tied xs ys is = ((λ h. (bytes_eq-Decides xs ys).0 (sym is ∙ h)), (λ h. is ∙ (bytes_eq-Decides xs ys).1 h))

-- Where strings of bytes tie, they are the same.
pub same_where_tied : (tied : Bool) (xs ys : List ℕ) → tied ≡ is_eq (slice_cmp nat_cmp xs ys) → IsTrue tied ↔ (xs ≡ ys)
same_where_tied tied xs ys is = same tied xs ys (is ∙ is_eq-slice_cmp xs ys)

-- Strings of one length whose last bytes are the same are the same where what is before these ties.
pub same_in_front : (tied : Bool) (xs ys fronts others ends lasts : List ℕ) → length xs ≡ length ys
    → fronts ≡ take (length xs - 8) xs → others ≡ take (length ys - 8) ys → ends ≡ drop (length xs - 8) xs → lasts ≡ drop (length ys - 8) ys
    → ends ≡ lasts → tied ≡ is_eq (slice_cmp nat_cmp fronts others) → IsTrue tied ↔ (xs ≡ ys)
same_in_front tied xs ys fronts others ends lasts even fronts_are others_are ends_are lasts_are last is =
    let both = same_where_tied tied fronts others is in (
      (λ h. sym (take-append-drop (length xs - 8) xs)
          ∙ ap (λ l. l ++ drop (length xs - 8) xs) (sym fronts_are ∙ both.0 h ∙ others_are)
          ∙ ap (λ l. take (length ys - 8) ys ++ l) (sym ends_are ∙ last ∙ lasts_are)
          ∙ take-append-drop (length ys - 8) ys),
      (λ h. both.1 (fronts_are ∙ ap (λ l. take (length l - 8) l) h ∙ sym others_are)),
    )

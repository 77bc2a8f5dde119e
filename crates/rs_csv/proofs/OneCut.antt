-- The input is cut in one way.
use Rattle.std.proofs.Common.{◌≡◌, ◌∙◌, ℕ, true, false, List, [], ◌∷◌, ◌++◌, refl, sym, ap, subst, append_assoc}
use Rattle.std.specs.Prelude.{All}
use Rattle.std.specs.List.{concat}
use Rattle.std.proofs.lemmas.Bool.{false≢true}
use Rattle.std.proofs.lemmas.List.Elements.{All-head, All-tail}
use Rattle.rs_csv.specs.declared.quoting.Place.{Place}
use Rattle.rs_csv.specs.declared.quoting.Place.TheVariants as places
use Rattle.rs_csv.specs.Quoting.{after, ends_record}
use Rattle.rs_csv.specs.Cutting.{HasNoEnd, IsRawRecord, after_all}

module _ (separator : ℕ) where
  both : (place : Place) (byte other : ℕ) → byte ≡ other → ends_record place byte ≡ true → ends_record place other ≡ false → ⊥
  both place byte other same ends none = false≢true (sym none ∙ sym (ap (ends_record place) same) ∙ ends)

  -- two records that begin one text, and what stands after them
  one_first : (place : Place) (front other more later : List ℕ) (last end : ℕ) → HasNoEnd separator place front → HasNoEnd separator place other → ends_record (after_all separator place front) last ≡ true → ends_record (after_all separator place other) end ≡ true
      → front ++ last ∷ more ≡ other ++ end ∷ later → (front ++ last ∷ [] ≡ other ++ end ∷ []) × (more ≡ later)
  one_first place [] [] more later last end none none' ends ends' same = let first : last ≡ end = cc in (ap (λ byte. byte ∷ []) first, cc)
  one_first place [] (byte ∷ other) more later last end none none' ends ends' same = let first : last ≡ byte = cc in absurd (both place last byte first ends none'.0)
  one_first place (byte ∷ front) [] more later last end none none' ends ends' same = let first : end ≡ byte = cc in absurd (both place end byte first ends' none.0)
  one_first place (byte ∷ front) (byte' ∷ other) more later last end none none' ends ends' same =
      let first : byte ≡ byte' = cc in
      let rest : front ++ last ∷ more ≡ other ++ end ∷ later = cc in
      let none_here : HasNoEnd separator (after separator place byte) other = subst (λ b. HasNoEnd separator (after separator place b) other) (sym first) none'.1 in
      let ends_here : ends_record (after_all separator (after separator place byte) other) end ≡ true = subst (λ b. ends_record (after_all separator (after separator place b) other) end ≡ true) (sym first) ends' in
      let tails = one_first (after separator place byte) front other more later last end none.1 none_here ends ends_here rest in
      (ap (λ bytes. byte ∷ bytes) tails.0 ∙ ap (λ b. b ∷ (other ++ end ∷ [])) first, tails.1)

  -- bytes without an end are no record and more
  no_first : (place : Place) (rest front more : List ℕ) (last : ℕ) → HasNoEnd separator place rest → ends_record (after_all separator place front) last ≡ true → rest ≡ front ++ last ∷ more → ⊥
  no_first place [] [] more last none ends same = cc
  no_first place [] (byte ∷ front) more last none ends same = cc
  no_first place (byte ∷ rest) [] more last none ends same = let first : last ≡ byte = cc in both place last byte first ends none.0
  no_first place (byte ∷ rest) (byte' ∷ front) more last none ends same =
      let first : byte' ≡ byte = cc in
      let tail : rest ≡ front ++ last ∷ more = cc in
      no_first (after separator place byte) rest front more last none.1 (subst (λ b. ends_record (after_all separator (after separator place b) front) last ≡ true) first ends) tail

  -- the first record set apart
  apart : (raw : List ℕ) (raws : List (List ℕ)) (rest : List ℕ) (is : IsRawRecord separator raw) → concat (raw ∷ raws) ++ rest ≡ is.front ++ is.last ∷ (concat raws ++ rest)
  apart raw raws rest is = append_assoc raw (concat raws) rest ∙ ap (λ bytes. bytes ++ (concat raws ++ rest)) is.whole ∙ append_assoc is.front (is.last ∷ []) (concat raws ++ rest)

  pub one_cut : (raws others : List (List ℕ)) (rest other : List ℕ) → All (IsRawRecord separator) raws → All (IsRawRecord separator) others → HasNoEnd separator places.Start rest → HasNoEnd separator places.Start other → concat raws ++ rest ≡ concat others ++ other
      → (raws ≡ others) × (rest ≡ other)
  one_cut [] [] rest other each each' none none' same = (refl, same)
  one_cut [] (raw ∷ others) rest other each each' none none' same =
      let is = All-head (IsRawRecord separator) raw others each' in
      absurd (no_first places.Start rest is.front (concat others ++ other) is.last none is.ended (same ∙ apart raw others other is))
  one_cut (raw ∷ raws) [] rest other each each' none none' same =
      let is = All-head (IsRawRecord separator) raw raws each in
      absurd (no_first places.Start other is.front (concat raws ++ rest) is.last none' is.ended (sym same ∙ apart raw raws rest is))
  one_cut (raw ∷ raws) (raw' ∷ others) rest other each each' none none' same =
      let is = All-head (IsRawRecord separator) raw raws each in
      let is' = All-head (IsRawRecord separator) raw' others each' in
      let firsts = one_first places.Start is.front is'.front (concat raws ++ rest) (concat others ++ other) is.last is'.last is.begun is'.begun is.ended is'.ended (sym (apart raw raws rest is) ∙ same ∙ apart raw' others other is') in
      let heads : raw ≡ raw' = is.whole ∙ firsts.0 ∙ sym is'.whole in
      let laters = one_cut raws others rest other (All-tail (IsRawRecord separator) raw raws each) (All-tail (IsRawRecord separator) raw' others each') none none' firsts.1 in
      (ap (λ one. one ∷ raws) heads ∙ ap (λ all. raw' ∷ all) laters.0, laters.1)

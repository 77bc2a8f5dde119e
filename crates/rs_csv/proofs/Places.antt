-- The place after all of the input is that after its last record, which has not ended.
use Rattle.std.proofs.Common.{◌≡◌, ◌∙◌, ℕ, List, [], ◌∷◌, ◌++◌, refl, sym, ap, subst}
use Rattle.std.specs.Prelude.{All, IsSome, None, OnOk, Ok, Err, Option, Result}
use Rattle.std.specs.List.{concat}
use Rattle.std.specs.Io.KnownBytes.{Consumes}
use Rattle.std.proofs.lemmas.Bool.{false≢true}
use Rattle.std.proofs.lemmas.List.Elements.{All-head, All-tail}
use Rattle.csv.specs.Reading.{strip_bom}
use Rattle.rs_syntax.specs.Tree.{CommandTree}
use Rattle.rs_csv.specs.declared.batch.Batch.{Batch}
use Rattle.rs_csv.specs.declared.filter.Wanted.{Wanted}
use Rattle.rs_csv.specs.declared.progress.Progress.{Progress}
use Rattle.rs_csv.specs.declared.quoting.Place.{Place}
use Rattle.rs_csv.specs.declared.quoting.Place.TheVariants as places
use Rattle.rs_csv.specs.Cutting.{IsCut, IsRawRecord, after_all}
use Rattle.rs_csv.specs.Output.{SoFar}
use Rattle.rs_csv.specs.Reading.{EndsClosed, IsPlaceAfter}
use Rattle.rs_csv.proofs.Cuts.{after_all_append, after_end}

module _ (separator : ℕ) where
  after_raw : (raw : List ℕ) → IsRawRecord separator raw → after_all separator places.Start raw ≡ places.Start
  after_raw raw is = ap (after_all separator places.Start) is.whole ∙ after_all_append separator places.Start is.front (is.last ∷ []) ∙ after_end separator (after_all separator places.Start is.front) is.last is.ended

  after_raws : (raws : List (List ℕ)) → All (IsRawRecord separator) raws → after_all separator places.Start (concat raws) ≡ places.Start
  after_raws [] each = refl
  after_raws (raw ∷ raws) each =
      after_all_append separator places.Start raw (concat raws) ∙ ap (λ place. after_all separator place (concat raws)) (after_raw raw (All-head (IsRawRecord separator) raw raws each))
      ∙ after_raws raws (All-tail (IsRawRecord separator) raw raws each)

  after_cut : (input : List ℕ) (raws : List (List ℕ)) (rest : List ℕ) → IsCut separator input raws rest → after_all separator places.Start input ≡ after_all separator places.Start rest
  after_cut input raws rest cut =
      ap (after_all separator places.Start) cut.whole ∙ after_all_append separator places.Start (concat raws) rest ∙ ap (λ place. after_all separator place rest) (after_raws raws cut.each)

-- the batch is at the place after the input so far, also once its end is taken
pub place_far : {T E : Type 0} (result : Result T E) (wanted : Wanted) (table : CommandTree) (output : Option (List ℕ)) (batch : Batch) (progress : Progress) (told : List ℕ) (unread unread_now output_now : Option (List ℕ)) (place : Place)
    → Consumes unread unread_now told → SoFar wanted table output batch progress (strip_bom told) output_now → place ≡ batch.place → OnOk result (IsPlaceAfter wanted.separator place unread unread_now)
place_far (Ok _) wanted table output batch progress told unread unread_now output_now place consumed far same =
    (told, consumed, same ∙ far.in_batch.place ∙ sym (after_cut wanted.separator (strip_bom told) (far.past ++ far.waiting) far.rest far.cut))
place_far (Err _) wanted table output batch progress told unread unread_now output_now place consumed far same = tt

-- where no quote is open there, it does not end within quotes
pub closed_at : {T E : Type 0} (result : Result T E) (separator : ℕ) (place : Place) (quote : Option ℕ) (unread unread_now : Option (List ℕ))
    → (place ≡ places.Inside → IsSome quote) → OnOk result (IsPlaceAfter separator place unread unread_now) → OnOk result (quote ≡ None → EndsClosed separator unread unread_now)
closed_at (Ok _) separator place quote unread unread_now opens is = λ none. (is.0, is.1, λ inside. absurd (false≢true (subst IsSome none (opens (is.2 ∙ inside)))))
closed_at (Err _) separator place quote unread unread_now opens is = tt

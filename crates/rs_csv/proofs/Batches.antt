-- What a batch has, and how it grows.
use Rattle.std.proofs.Common.{◌≡◌, ◌∙◌, ◌⊎◌, inl, inr, ℕ, ◌+◌, ◌<◌, ◌≤◌, Bool, true, false, List, [], ◌∷◌, ◌++◌, length, length-append, take, refl, sym, ap, subst, arith, append_assoc, append-nil}
use Rattle.std.specs.List.{concat}
use Rattle.std.proofs.lemmas.Bool.{false≢true}
use Rattle.rs_csv.specs.declared.batch.Batch.{Batch}
use Rattle.rs_csv.specs.declared.batch.TheConstants.{RECORD_BYTES}
use Rattle.rs_csv.specs.declared.quoting.Place.{Place}
use Rattle.rs_csv.specs.declared.quoting.Place.TheVariants as places
use Rattle.rs_csv.specs.Quoting.{after, mark, marked}
use Rattle.rs_csv.specs.Cutting.{IsBatchOf, IsBatchWithin, IsBetween, after_all, begun_text, text_of, within}
use Rattle.rs_csv.proofs.Cuts.{after_all_append, concat_more, marked_append, within_long, within_short}
use lib.Seq.{take-append_seam}

-- ---- steps of a batch

-- what a byte does to a batch, but for its text
pub record IsPushed (old : Batch) (byte : ℕ) (now : Batch) : Type 0 where
  pub separated : now.separator ≡ old.separator
  pub place : now.place ≡ after old.separator old.place byte
  pub long : now.is_long ≡ old.is_long
  pub begun : now.begun ≡ old.begun
  pub length_is : old.length ≤ RECORD_BYTES → now.length ≡ old.length + 1
  pub grown : old.is_long ≡ false → now.text.items ≡ old.text.items ++ mark old.place byte
  pub same : old.is_long ≡ true → now.text.items ≡ old.text.items

-- the text of a batch after a byte
pub record IsTexted (old : Batch) (byte : ℕ) (now : Batch) : Type 0 where
  pub separated : now.separator ≡ old.separator
  pub place : now.place ≡ old.place
  pub long : now.is_long ≡ old.is_long
  pub begun : now.begun ≡ old.begun
  pub length_is : now.length ≡ old.length
  pub grown : old.is_long ≡ false → now.text.items ≡ old.text.items ++ mark old.place byte
  pub same : old.is_long ≡ true → now.text.items ≡ old.text.items

module _ (separator : ℕ) where
  -- a byte more of the record that has begun
  pub text_grown : (is_long : Bool) (text now whole begun : List ℕ) (place : Place) (byte : ℕ) → text ≡ 10 ∷ marked separator places.Start whole ++ begun_text separator is_long begun → place ≡ after_all separator places.Start begun
      → (is_long ≡ false → now ≡ text ++ mark place byte) → (is_long ≡ true → now ≡ text) → now ≡ 10 ∷ marked separator places.Start whole ++ begun_text separator is_long (begun ++ byte ∷ [])
  text_grown true text now whole begun place byte is at grown same = same refl ∙ is
  text_grown false text now whole begun place byte is at grown same =
      grown refl ∙ ap (λ bs. bs ++ mark place byte) is ∙ append_assoc (10 ∷ marked separator places.Start whole) (marked separator places.Start begun) (mark place byte)
      ∙ ap (λ bs. 10 ∷ marked separator places.Start whole ++ bs)
      (ap (λ at. marked separator places.Start begun ++ mark at byte) at ∙ ap (λ bs. marked separator places.Start begun ++ bs) (sym (append-nil (mark (after_all separator places.Start begun) byte))) ∙ sym (marked_append separator places.Start begun (byte ∷ [])))

  pub place_grown : (place : Place) (begun : List ℕ) (byte : ℕ) → place ≡ after_all separator places.Start begun → after separator place byte ≡ after_all separator places.Start (begun ++ byte ∷ [])
  place_grown place begun byte is = ap (λ at. after separator at byte) is ∙ sym (after_all_append separator places.Start begun (byte ∷ []))

  -- the text of a record that became too long is taken away
  pub text_cut : (text whole begun : List ℕ) (begins : ℕ) → text ≡ 10 ∷ marked separator places.Start whole ++ begun_text separator false begun → begins ≡ 1 + length (marked separator places.Start whole)
      → take begins text ≡ 10 ∷ marked separator places.Start whole ++ []
  text_cut text whole begun begins is at =
      let at_seam : begins ≡ length (10 ∷ marked separator places.Start whole) = omega (arith, at) in
      ap (λ n. take n text) at_seam ∙ ap (take (length (10 ∷ marked separator places.Start whole))) is ∙ take-append_seam (10 ∷ marked separator places.Start whole) (marked separator places.Start begun) ∙ sym (append-nil (10 ∷ marked separator places.Start whole))

  -- a record that ended is a whole one
  pub text_ended : (text whole raw : List ℕ) → text ≡ 10 ∷ marked separator places.Start whole ++ begun_text separator false raw → after_all separator places.Start whole ≡ places.Start → text ≡ 10 ∷ marked separator places.Start (whole ++ raw) ++ []
  text_ended text whole raw is ends =
      is ∙ ap (λ bs. 10 ∷ bs) (ap (λ at. marked separator places.Start whole ++ marked separator at raw) (sym ends) ∙ sym (marked_append separator places.Start whole raw)) ∙ sym (append-nil (10 ∷ marked separator places.Start (whole ++ raw)))

  pub ends_more : (whole raw : List ℕ) → after_all separator places.Start whole ≡ places.Start → after_all separator places.Start raw ≡ places.Start → after_all separator places.Start (whole ++ raw) ≡ places.Start
  ends_more whole raw first second = after_all_append separator places.Start whole raw ∙ ap (λ at. after_all separator at raw) first ∙ second

  pub begins_at : (text whole : List ℕ) → text ≡ 10 ∷ marked separator places.Start whole ++ [] → length text ≡ 1 + length (marked separator places.Start whole)
  begins_at text whole is = let all : length text ≡ length (10 ∷ marked separator places.Start whole) = ap length (is ∙ append-nil (10 ∷ marked separator places.Start whole)) in omega (arith, all)

  -- ---- what is read of a batch

  begun_none : (is_long : Bool) (begun : List ℕ) → (begun ≡ []) ⊎ (is_long ≡ true) → begun_text separator is_long begun ≡ []
  begun_none true begun none = refl
  begun_none false begun (inl none) = ap (marked separator places.Start) none
  begun_none false begun (inr long) = absurd (false≢true long)

  pub text_between : (batch : Batch) (raws : List (List ℕ)) (begun : List ℕ) → IsBatchOf separator batch (concat raws) begun → IsBetween batch begun → batch.text.items ≡ text_of separator raws
  text_between batch raws begun is between =
      is.text ∙ ap (λ bs. 10 ∷ marked separator places.Start (concat raws) ++ bs) (begun_none batch.is_long begun between) ∙ append-nil (text_of separator raws)

  rest_text : (is_long : Bool) (raws : List (List ℕ)) (rest : List ℕ) → after_all separator places.Start (concat raws) ≡ places.Start → (is_long ≡ true → RECORD_BYTES < length rest) → (is_long ≡ false → length rest ≤ RECORD_BYTES)
      → marked separator places.Start (concat raws) ++ begun_text separator is_long rest ≡ marked separator places.Start (concat (raws ++ within RECORD_BYTES (rest ∷ [])))
  rest_text true raws rest ends long short =
      append-nil (marked separator places.Start (concat raws)) ∙ ap (λ rs. marked separator places.Start (concat rs)) (sym (ap (λ rs. raws ++ rs) (within_long RECORD_BYTES rest (long refl)) ∙ append-nil raws))
  rest_text false raws rest ends long short =
      ap (λ at. marked separator places.Start (concat raws) ++ marked separator at rest) (sym ends) ∙ sym (marked_append separator places.Start (concat raws) rest)
      ∙ ap (marked separator places.Start) (sym (ap (λ rs. concat (raws ++ rs)) (within_short RECORD_BYTES rest (short refl)) ∙ concat_more raws rest))

  -- at the end the text of a batch is that of its records and of the rest
  pub text_all : (batch : Batch) (raws : List (List ℕ)) (rest : List ℕ) → IsBatchOf separator batch (concat raws) rest → batch.text.items ≡ text_of separator (raws ++ within RECORD_BYTES (rest ∷ []))
  text_all batch raws rest is = is.text ∙ ap (λ bs. 10 ∷ bs) (rest_text batch.is_long raws rest is.ends is.is_long (λ short. (is.is_short short).1))

  -- ---- its records

  pub batch_grown : (old now : Batch) (byte : ℕ) (whole begun : List ℕ) → IsPushed old byte now → IsBatchOf separator old whole begun → IsBatchWithin (RECORD_BYTES + 1) separator now whole (begun ++ byte ∷ [])
  batch_grown old now byte whole begun pushed is = record {
    text =
        text_grown old.is_long old.text.items now.text.items whole begun old.place byte is.text is.place pushed.grown pushed.same
        ∙ ap (λ l. 10 ∷ marked separator places.Start whole ++ begun_text separator l (begun ++ byte ∷ [])) (sym pushed.long);
    separated = pushed.separated ∙ is.separated;
    ends = is.ends;
    begins = pushed.begun ∙ is.begins;
    place = pushed.place ∙ ap (λ parts. after parts old.place byte) is.separated ∙ place_grown old.place begun byte is.place;
    is_long = λ long. let was : RECORD_BYTES < length begun = is.is_long (sym pushed.long ∙ long) in omega (arith, length-append begun (byte ∷ []));
    is_short = λ short. let was = is.is_short (sym pushed.long ∙ short) in
        (pushed.length_is (subst (λ n. n ≤ RECORD_BYTES) (sym was.0) was.1) ∙ ap (λ n. n + 1) was.0 ∙ sym (length-append begun (byte ∷ [])), omega (arith, length-append begun (byte ∷ []), was.1));
  }

  pub batch_ended : (old now : Batch) (whole raw : List ℕ) → now.separator ≡ old.separator → now.text ≡ old.text → now.place ≡ old.place → now.begun ≡ length old.text.items → now.length ≡ 0 → old.is_long ≡ false → now.is_long ≡ false
      → IsBatchWithin (RECORD_BYTES + 1) separator old whole raw → after_all separator places.Start raw ≡ places.Start → (length raw ≤ RECORD_BYTES + 1) × IsBatchOf separator now (whole ++ raw) []
  batch_ended old now whole raw separated text place begun none was short is at =
      let now_text : old.text.items ≡ 10 ∷ marked separator places.Start (whole ++ raw) ++ [] = text_ended old.text.items whole raw (subst (λ l. old.text.items ≡ 10 ∷ marked separator places.Start whole ++ begun_text separator l raw) was is.text) is.ends in (
        (is.is_short was).1,
        record {
          separated = separated ∙ is.separated;
          text = ap (λ t. t.items) text ∙ now_text ∙ ap (λ l. 10 ∷ marked separator places.Start (whole ++ raw) ++ begun_text separator l []) (sym short);
          ends = ends_more whole raw is.ends at;
          begins = begun ∙ begins_at old.text.items (whole ++ raw) now_text;
          place = place ∙ is.place ∙ at;
          is_long = λ long. absurd (false≢true (sym short ∙ long));
          is_short = λ _. (none, omega arith);
        },
      )

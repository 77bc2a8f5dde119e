-- Bytes that go on a record outside quotes.
use Rattle.std.proofs.Common.{◌≡◌, ◌∙◌, inl, inr, ℕ, zero, suc, ◌+◌, ◌<◌, ◌≤◌, ◌==◌, ◌||◌, not, cond, true, false, List, [], ◌∷◌, ◌++◌, length, length-append, take, refl, sym, ap, subst, arith, append_assoc, append-nil}
use Rattle.std.proofs.lemmas.Bool.{false≢true}
use Rattle.std.specs.Prelude.{slice_index}
use Rattle.memchr.specs.Find.{is_byte3}
use Rattle.rs_csv.specs.declared.batch.Batch.{Batch}
use Rattle.rs_csv.specs.declared.batch.TheConstants.{RECORD_BYTES}
use Rattle.rs_csv.specs.declared.quoting.Place.{Place}
use Rattle.rs_csv.specs.declared.quoting.Place.TheVariants as places
use Rattle.rs_csv.specs.Quoting.{after, ends_record, goes_on, is_line_end, mark, marked, AreRun, IsOutside}
use Rattle.rs_csv.specs.Cutting.{HasNoEnd, IsBatchOf, IsCut, Runs, after_all, begun_text}
use Rattle.rs_csv.proofs.Cuts.{after_all_append, marked_append}

-- bytes none of which ends a run
pub run_from : (bytes : List ℕ) (n : ℕ) → n ≤ length bytes → ((k : ℕ) → k < n → is_byte3 34 10 13 (slice_index bytes k) ≡ true → ⊥) → AreRun (take n bytes)
run_from bytes zero le none = tt
run_from [] (suc n) le none = absurd (omega (arith, le))
run_from (byte ∷ bytes) (suc n) le none = (on byte (none 0 (omega arith)), run_from bytes n (omega (arith, le)) (λ k below. none (suc k) (omega (arith, below))))
  where
    on : (byte : ℕ) → (is_byte3 34 10 13 byte ≡ true → ⊥) → goes_on byte ≡ true
    on byte not_one = elim (byte == 34) as (λ a. byte == 34 ≡ a → goes_on byte ≡ true) [
      | true ↦ λ a. absurd (not_one (λ i. a i || byte == 10 || byte == 13))
      | false ↦ λ a. elim (byte == 10 || byte == 13) as (λ b. (byte == 10 || byte == 13) ≡ b → goes_on byte ≡ true) [
        | true ↦ λ b. absurd (not_one ((λ i. a i || byte == 10 || byte == 13) ∙ b))
        | false ↦ λ b. (λ i. not (b i || a i))
      ] refl
    ] refl

module _ (separator : ℕ) where
  -- one byte of a run
  run_after : (place : Place) (byte : ℕ) → IsOutside place → goes_on byte ≡ true → after separator place byte ≡ after separator places.Plain byte
  run_after places.Start byte out is = grind arith
  run_after places.Plain byte out is = refl
  run_after places.Inside byte (inl out) is = cc
  run_after places.Inside byte (inr out) is = cc
  run_after places.Behind byte (inl out) is = cc
  run_after places.Behind byte (inr out) is = cc

  outside_after : (place : Place) (byte : ℕ) → IsOutside place → goes_on byte ≡ true → IsOutside (after separator place byte)
  outside_after place byte out is = subst IsOutside (sym (run_after place byte out is)) (elim (byte == separator || is_line_end byte) as (λ t. IsOutside (cond t places.Start places.Plain)) [ true ↦ inl refl | false ↦ inr refl ])

  run_mark : (place : Place) (byte : ℕ) → IsOutside place → goes_on byte ≡ true → mark place byte ≡ byte ∷ []
  run_mark places.Start byte out is = grind arith
  run_mark places.Plain byte out is = grind arith
  run_mark places.Inside byte out is = grind arith
  run_mark places.Behind byte out is = grind arith

  run_goes : (place : Place) (byte : ℕ) → IsOutside place → goes_on byte ≡ true → ends_record place byte ≡ false
  run_goes places.Start byte out is = grind arith
  run_goes places.Plain byte out is = grind arith
  run_goes places.Inside byte out is = grind arith
  run_goes places.Behind byte out is = grind arith

  -- some of them
  run_marked : (place : Place) (run : List ℕ) → IsOutside place → AreRun run → marked separator place run ≡ run
  run_marked place [] out are = refl
  run_marked place (byte ∷ run) out are =
      ap (λ bs. bs ++ marked separator (after separator place byte) run) (run_mark place byte out are.0)
      ∙ ap (λ bs. byte ∷ bs) (run_marked (after separator place byte) run (outside_after place byte out are.0) are.1)

  -- after the last of them
  run_end : (place : Place) (front : List ℕ) (last : ℕ) → IsOutside place → AreRun (front ++ last ∷ []) → after_all separator place (front ++ last ∷ []) ≡ after separator places.Plain last
  run_end place [] last out are = run_after place last out are.0
  run_end place (byte ∷ front) last out are = run_end (after separator place byte) front last (outside_after place byte out are.0) are.1

  run_no_end : (place : Place) (run : List ℕ) → IsOutside place → AreRun run → HasNoEnd separator place run
  run_no_end place [] out are = tt
  run_no_end place (byte ∷ run) out are = (run_goes place byte out are.0, run_no_end (after separator place byte) run (outside_after place byte out are.0) are.1)

  -- ---- a batch

  pub run_none : (batch : Batch) (whole begun : List ℕ) → IsBatchOf separator batch whole begun → Runs separator batch whole begun []
  run_none batch whole begun is = (tt, subst (IsBatchOf separator batch whole) (sym (append-nil begun)) is)

  pub run_taken : (old new : Batch) (run front : List ℕ) (last : ℕ) → run ≡ front ++ last ∷ [] → new.separator ≡ old.separator → new.text.items ≡ old.text.items ++ run → new.is_long ≡ old.is_long → new.begun ≡ old.begun → new.length ≡ old.length + length run → new.place ≡ after old.separator places.Plain last
      → old.is_long ≡ false → IsOutside old.place → AreRun run → new.length ≤ RECORD_BYTES → (whole begun : List ℕ) → IsBatchOf separator old whole begun → Runs separator new whole begun run
  run_taken old new run front last ends separated text long begins counted at short outside are room whole begun is =
      let here : IsOutside (after_all separator places.Start begun) = subst IsOutside is.place outside in
      let was : old.text.items ≡ 10 ∷ marked separator places.Start whole ++ marked separator places.Start begun = is.text ∙ ap (λ l. 10 ∷ marked separator places.Start whole ++ begun_text separator l begun) short in
      let grown : new.text.items ≡ 10 ∷ marked separator places.Start whole ++ marked separator places.Start (begun ++ run) =
      text ∙ ap (λ bs. bs ++ run) was ∙ append_assoc (10 ∷ marked separator places.Start whole) (marked separator places.Start begun) run
      ∙ ap (λ bs. 10 ∷ marked separator places.Start whole ++ bs)
      (ap (λ bs. marked separator places.Start begun ++ bs) (sym (run_marked (after_all separator places.Start begun) run here are)) ∙ sym (marked_append separator places.Start begun run)) in
      let length_was : old.length ≡ length begun = (is.is_short short).0 in (
        run_no_end (after_all separator places.Start begun) run here are,
        record {
          separated = separated ∙ is.separated;
          text = grown ∙ ap (λ l. 10 ∷ marked separator places.Start whole ++ begun_text separator l (begun ++ run)) (sym (long ∙ short));
          ends = is.ends;
          begins = begins ∙ is.begins;
          place = at ∙ ap (λ s. after s places.Plain last) is.separated
              ∙ sym (after_all_append separator places.Start begun run ∙ ap (after_all separator (after_all separator places.Start begun)) ends ∙ run_end (after_all separator places.Start begun) front last here (subst AreRun ends are));
          is_long = λ wrong. absurd (false≢true (sym (long ∙ short) ∙ wrong));
          is_short = λ _. let both = length-append begun run in (omega (arith, counted, length_was, both), omega (arith, counted, length_was, both, room));
        },
      )

  -- ---- a cut

  no_end_append : (place : Place) (a b : List ℕ) → HasNoEnd separator place a → HasNoEnd separator (after_all separator place a) b → HasNoEnd separator place (a ++ b)
  no_end_append place [] b first second = second
  no_end_append place (byte ∷ a) b first second = (first.0, no_end_append (after separator place byte) a b first.1 second)

  pub cut_run : (input : List ℕ) (raws : List (List ℕ)) (rest run : List ℕ) → IsCut separator input raws rest → HasNoEnd separator (after_all separator places.Start rest) run → IsCut separator (input ++ run) raws (rest ++ run)
  cut_run input raws rest run cut none = record {
    whole = ap (λ bs. bs ++ run) cut.whole ∙ append_assoc _ rest run;
    each = cut.each;
    begun = no_end_append places.Start rest run cut.begun none;
  }

-- How far the input was cut and taken, by one more step.
use Rattle.std.proofs.Common.{◌≡◌, ◌∙◌, inl, inr, ℕ, ◌+◌, ◌-◌, ◌<◌, ◌≤◌, Bool, true, false, List, [], ◌∷◌, ◌++◌, length, Option, None, refl, sym, ap, subst, append_assoc, append-nil, take, take_all, drop, get_or, length-drop, arith}
use Rattle.std.specs.Prelude.{IfOk, IsSome, MatchResult, OnOk, Result, Ok, Err}
use Rattle.std.specs.List.{concat}
use Rattle.std.specs.Io.KnownBytes.{IsAtEnd}
use Rattle.std.proofs.KnownBytes.{Appends-nil}
use Rattle.std.proofs.lemmas.Bool.{false≢true}
use Rattle.std.proofs.lemmas.List.{take-append-drop, take_more}
use Rattle.std.proofs.Math.Seq.{take-add}
use Rattle.csv.specs.Reading.{strip_bom}
use Rattle.rs_syntax.specs.Tree.{CommandTree}
use Rattle.rs_csv.specs.declared.batch.Batch.{Batch}
use Rattle.rs_csv.specs.declared.batch.Taken.TheVariants as kinds
use Rattle.rs_csv.specs.declared.batch.TheConstants.{RECORD_BYTES}
use Rattle.rs_csv.specs.declared.progress.Progress.{Progress}
use Rattle.rs_csv.specs.declared.filter.Stop.{Stop}
use Rattle.rs_csv.specs.declared.filter.Wanted.{Wanted}
use Rattle.rs_csv.specs.declared.quoting.Place.TheVariants as places
use Rattle.rs_csv.specs.Quoting.{ends_record}
use Rattle.rs_csv.specs.Cutting.{IsBatchOf, IsBetween, IsCut, Runs, Takes, after_all, kept, kept_of, within}
use Rattle.rs_csv.specs.Output.{AreTaken, EndsTaken, IsQuiet, SoFar, TakesMore, TookAll, Wrote, WroteAll, WroteAtEnd, WroteFront, WroteSoFar}
use Rattle.rs_csv.specs.Routes.{HaveMet}
use Rattle.rs_csv.proofs.Cuts.{concat_more, cut_ended, cut_more, cut_none, cut_within, kept_append, within_long, within_short}
use Rattle.rs_csv.proofs.Outputs.{Stays, stays_quiet}
use Rattle.rs_csv.proofs.Runs.{cut_run}
use Rattle.rs_csv.proofs.Taking.{front_more, taken_front, taken_none, taken_told, wrote_nothing}

-- ---- a byte

module _ (separator : ℕ) (batch : Batch) (whole begun : List ℕ) (byte : ℕ) where
  abbrev Ends : Bool → Type 0
  Ends ends = ends_record (after_all separator places.Start begun) byte ≡ ends

  pub within_of : Takes separator kinds.Within batch whole begun byte → Ends false × IsBatchOf separator batch whole (begun ++ byte ∷ [])
  within_of (inl goes) = goes
  within_of (inr ends) = absurd ends.1

  pub long_of : Takes separator kinds.TooLong batch whole begun byte → Ends false × ((batch.is_long ≡ true) × IsBatchOf separator batch whole (begun ++ byte ∷ []))
  long_of (inl goes) = goes
  long_of (inr ends) = absurd ends.1

  pub ended_of : Takes separator kinds.Ended batch whole begun byte → Ends true × ((length (begun ++ byte ∷ []) ≤ RECORD_BYTES + 1) × IsBatchOf separator batch (whole ++ (begun ++ byte ∷ [])) [])
  ended_of (inl goes) = absurd goes.1
  ended_of (inr ends) = ends

  pub ended_long_of : Takes separator kinds.EndedLong batch whole begun byte → Ends true × ((RECORD_BYTES + 1 < length (begun ++ byte ∷ [])) × IsBatchOf separator batch whole [])
  ended_long_of (inl goes) = absurd goes.1
  ended_long_of (inr ends) = ends

-- a record more is kept, or it is not
kept_short : (raws : List (List ℕ)) (raw : List ℕ) → length raw ≤ RECORD_BYTES + 1 → kept (raws ++ raw ∷ []) ≡ kept raws ++ raw ∷ []
kept_short raws raw short = kept_append raws (raw ∷ []) ∙ ap (λ rs. kept raws ++ rs) (within_short (RECORD_BYTES + 1) raw short)

kept_long : (raws : List (List ℕ)) (raw : List ℕ) → RECORD_BYTES + 1 < length raw → kept (raws ++ raw ∷ []) ≡ kept raws
kept_long raws raw long = kept_append raws (raw ∷ []) ∙ ap (λ rs. kept raws ++ rs) (within_long (RECORD_BYTES + 1) raw long) ∙ append-nil (kept raws)

-- ---- pieces

-- a byte more of a piece, and those after it
pub piece_more : (input piece : List ℕ) (i d : ℕ) → i < length piece → ((input ++ take i piece) ++ get_or piece i d ∷ []) ++ drop (i + 1) piece ≡ input ++ piece
piece_more input piece i d less =
    ap (λ bs. bs ++ drop (i + 1) piece) (append_assoc input (take i piece) (get_or piece i d ∷ []) ∙ ap (λ bs. input ++ bs) (sym (take_more piece i d less)))
    ∙ append_assoc input (take (i + 1) piece) (drop (i + 1) piece) ∙ ap (λ bs. input ++ bs) (take-append-drop (i + 1) piece)

pub piece_next : (input piece : List ℕ) (i d : ℕ) → i < length piece → (input ++ take i piece) ++ get_or piece i d ∷ [] ≡ input ++ take (i + 1) piece
piece_next input piece i d less = append_assoc input (take i piece) (get_or piece i d ∷ []) ∙ ap (λ bs. input ++ bs) (sym (take_more piece i d less))

-- more bytes of a piece, and all that are left
pub piece_run : (input piece : List ℕ) (i count : ℕ) → (input ++ take i piece) ++ take count (take (length piece - i) (drop i piece)) ≡ input ++ take (i + count) piece
piece_run input piece i count =
    let all : take (length piece - i) (drop i piece) ≡ drop i piece = take_all (length piece - i) (drop i piece) (omega (arith, length-drop i piece)) in
    ap (λ bs. (input ++ take i piece) ++ take count bs) all ∙ append_assoc input (take i piece) (take count (drop i piece)) ∙ ap (λ bs. input ++ bs) (sym (take-add i count piece))

pub piece_rest : (input piece : List ℕ) (i : ℕ) → (input ++ take i piece) ++ drop i piece ≡ input ++ piece
piece_rest input piece i = append_assoc input (take i piece) (drop i piece) ∙ ap (λ bs. input ++ bs) (take-append-drop i piece)

module _ (wanted : Wanted) (table : CommandTree) (before : Option (List ℕ)) where
  pub wrote_more : (input bytes : List ℕ) (after : Option (List ℕ)) → WroteSoFar wanted table input before after → WroteSoFar wanted table (input ++ bytes) before after
  wrote_more input bytes after wrote =
      let on = cut_more wanted.separator bytes input wrote.raws wrote.rest wrote.cut in
      record {
        raws = wrote.raws ++ on.more;
        rest = on.rest;
        cut = on.cut;
        wrote = subst (λ raws. WroteFront wanted table raws before after) (sym (kept_append wrote.raws on.more)) (front_more wanted table (kept wrote.raws) (kept on.more) before after wrote.wrote);
      }

  far_front : (batch : Batch) (progress : Progress) (input : List ℕ) (after : Option (List ℕ)) (far : SoFar wanted table before batch progress input after) → WroteFront wanted table (kept (far.past ++ far.waiting)) before after
  far_front batch progress input after far =
      subst (λ raws. WroteFront wanted table raws before after) (sym (kept_append far.past far.waiting))
      (front_more wanted table (kept far.past) (kept far.waiting) before after (taken_front wanted table progress (kept far.past) before after far.taken))

  -- nothing is done with more bytes
  pub far_stops : (batch : Batch) (progress : Progress) (input bytes : List ℕ) (after : Option (List ℕ)) → SoFar wanted table before batch progress input after → WroteSoFar wanted table (input ++ bytes) before after
  far_stops batch progress input bytes after far =
      wrote_more input bytes after (record { raws = far.past ++ far.waiting; rest = far.rest; cut = far.cut; wrote = far_front batch progress input after far })

  -- ---- a byte of the input

  pub far_grown : (old new : Batch) (progress : Progress) (input : List ℕ) (byte : ℕ) (after : Option (List ℕ)) (far : SoFar wanted table before old progress input after) → ends_record (after_all wanted.separator places.Start far.rest) byte ≡ false
      → IsBatchOf wanted.separator new (concat (kept far.waiting)) (far.rest ++ byte ∷ []) → SoFar wanted table before new progress (input ++ byte ∷ []) after
  far_grown old new progress input byte after far ends is = record {
    past = far.past;
    waiting = far.waiting;
    rest = far.rest ++ byte ∷ [];
    cut = cut_within wanted.separator input (far.past ++ far.waiting) far.rest byte far.cut ends;
    in_batch = is;
    none_lacks = far.none_lacks;
    taken = far.taken;
  }

  -- bytes that end no record
  pub far_run : (old new : Batch) (progress : Progress) (input run : List ℕ) (after : Option (List ℕ)) → ((whole begun : List ℕ) → IsBatchOf wanted.separator old whole begun → Runs wanted.separator new whole begun run)
      → SoFar wanted table before old progress input after → SoFar wanted table before new progress (input ++ run) after
  far_run old new progress input run after runs far =
      let is = runs (concat (kept far.waiting)) far.rest far.in_batch in
      record {
        past = far.past;
        waiting = far.waiting;
        rest = far.rest ++ run;
        cut = cut_run wanted.separator input (far.past ++ far.waiting) far.rest run far.cut is.0;
        in_batch = is.1;
        none_lacks = far.none_lacks;
        taken = far.taken;
      }

  pub far_ended : (old new : Batch) (progress : Progress) (input : List ℕ) (byte : ℕ) (after : Option (List ℕ)) (far : SoFar wanted table before old progress input after) → ends_record (after_all wanted.separator places.Start far.rest) byte ≡ true
      → length (far.rest ++ byte ∷ []) ≤ RECORD_BYTES + 1 → IsBatchOf wanted.separator new (concat (kept far.waiting) ++ (far.rest ++ byte ∷ [])) [] → SoFar wanted table before new progress (input ++ byte ∷ []) after
  far_ended old new progress input byte after far ends short is =
      let raw : List ℕ = far.rest ++ byte ∷ [] in
      let whole : (far.past ++ far.waiting) ++ raw ∷ [] ≡ far.past ++ (far.waiting ++ raw ∷ []) = append_assoc far.past far.waiting (raw ∷ []) in
      record {
        past = far.past;
        waiting = far.waiting ++ raw ∷ [];
        rest = [];
        cut = subst (λ raws. IsCut wanted.separator (input ++ byte ∷ []) raws []) whole (cut_ended wanted.separator input (far.past ++ far.waiting) far.rest byte far.cut ends);
        in_batch = subst (λ bytes. IsBatchOf wanted.separator new bytes []) (sym (ap concat (kept_short far.waiting raw short) ∙ concat_more (kept far.waiting) raw)) is;
        none_lacks = λ off. ap kept (sym whole) ∙ kept_short (far.past ++ far.waiting) raw short ∙ ap (λ raws. raws ++ raw ∷ []) (far.none_lacks off) ∙ whole;
        taken = far.taken;
      }

  pub far_ended_long : (old new : Batch) (progress progress_now : Progress) (input : List ℕ) (byte : ℕ) (after : Option (List ℕ)) (far : SoFar wanted table before old progress input after)
      → ends_record (after_all wanted.separator places.Start far.rest) byte ≡ true → RECORD_BYTES + 1 < length (far.rest ++ byte ∷ []) → IsBatchOf wanted.separator new (concat (kept far.waiting)) [] → progress_now.made.has_told ≡ true
      → AreTaken wanted table before progress_now (kept far.past) after → SoFar wanted table before new progress_now (input ++ byte ∷ []) after
  far_ended_long old new progress progress_now input byte after far ends long is told taken =
      let raw : List ℕ = far.rest ++ byte ∷ [] in
      record {
        past = far.past;
        waiting = far.waiting ++ raw ∷ [];
        rest = [];
        cut = subst (λ raws. IsCut wanted.separator (input ++ byte ∷ []) raws []) (append_assoc far.past far.waiting (raw ∷ [])) (cut_ended wanted.separator input (far.past ++ far.waiting) far.rest byte far.cut ends);
        in_batch = subst (λ bytes. IsBatchOf wanted.separator new bytes []) (sym (ap concat (kept_long far.waiting raw long))) is;
        none_lacks = λ off. absurd (false≢true (sym off ∙ told));
        taken = taken;
      }

  pub far_left_out : {T E : Type 0} (result : Result T E) (old new : Batch) (progress progress_now : Progress) (input : List ℕ) (byte : ℕ) (after : Option (List ℕ)) → ((whole begun : List ℕ) → IsBatchOf wanted.separator old whole begun → Takes wanted.separator kinds.EndedLong new whole begun byte) → progress_now.planned ≡ progress.planned → progress_now.made.bytes.items ≡ progress.made.bytes.items
      → progress_now.made.has_told ≡ true → OnOk result (progress_now.made.number ≡ progress.made.number + 1) → OnOk result (IsSome progress_now.planned) → progress_now.made.texts ≡ progress.made.texts → progress_now.made.extents ≡ progress.made.extents → progress_now.held ≡ progress.held
      → SoFar wanted table before old progress input after → MatchResult result (λ _. SoFar wanted table before new progress_now (input ++ byte ∷ []) after) (λ _. WroteSoFar wanted table (input ++ byte ∷ []) before after)
  far_left_out (Ok _) old new progress progress_now input byte after takes planned bytes told number some texts extents held far =
      let ends = ended_long_of wanted.separator new (concat (kept far.waiting)) far.rest byte (takes (concat (kept far.waiting)) far.rest far.in_batch) in
      far_ended_long old new progress progress_now input byte after far ends.0 ends.1.0 ends.1.1 told (taken_told wanted table progress progress_now (kept far.past) before after planned bytes told number some texts extents held far.taken)
  far_left_out (Err _) old new progress progress_now input byte after takes planned bytes told number some texts extents held far = far_stops old progress input (byte ∷ []) after far

  -- the records of a batch are taken
  pub far_passes : {T E : Type 0} (result : Result T E) (old new : Batch) (progress progress_now : Progress) (input : List ℕ) (after later a b : Option (List ℕ)) (far : SoFar wanted table before old progress input after)
      → OnOk result (IsBatchOf wanted.separator new [] far.rest) → OnOk result (IsQuiet progress.made.has_told progress_now.made.has_told a b)
      → MatchResult result (λ _. AreTaken wanted table before progress_now (kept far.past ++ kept far.waiting) later) (λ _. WroteFront wanted table (kept far.past ++ kept far.waiting) before later)
      → MatchResult result (λ _. SoFar wanted table before new progress_now input later) (λ _. WroteSoFar wanted table input before later)
  far_passes (Ok _) old new progress progress_now input after later a b far is quiet takes =
      let all : (far.past ++ far.waiting) ++ [] ≡ far.past ++ far.waiting = append-nil (far.past ++ far.waiting) in
      record {
        past = far.past ++ far.waiting;
        waiting = [];
        rest = far.rest;
        cut = subst (λ raws. IsCut wanted.separator input raws far.rest) (sym all) far.cut;
        in_batch = is;
        none_lacks = λ off. ap kept all ∙ far.none_lacks (stays_quiet progress.made.has_told progress_now.made.has_told a b quiet off) ∙ sym all;
        taken = subst (λ raws. AreTaken wanted table before progress_now raws later) (sym (kept_append far.past far.waiting)) takes;
      }
  far_passes (Err _) old new progress progress_now input after later a b far is quiet takes = record {
    raws = far.past ++ far.waiting;
    rest = far.rest;
    cut = far.cut;
    wrote = subst (λ raws. WroteFront wanted table raws before later) (sym (kept_append far.past far.waiting)) takes;
  }

  -- a record ended, and those of the batch are taken
  pub far_fills : {T E : Type 0} (result : Result T E) (old mid new : Batch) (progress progress_now : Progress) (input : List ℕ) (byte : ℕ) (after later a b : Option (List ℕ))
      → ((whole begun : List ℕ) → IsBatchOf wanted.separator old whole begun → Takes wanted.separator kinds.Ended mid whole begun byte) → ((whole begun : List ℕ) → IsBatchOf wanted.separator mid whole begun → IsBetween mid begun → OnOk result (IsBatchOf wanted.separator new [] begun))
      → OnOk result (IsQuiet progress.made.has_told progress_now.made.has_told a b)
      → ((more : List (List ℕ)) (begun : List ℕ) → IsBatchOf wanted.separator mid (concat more) begun → IsBetween mid begun → TakesMore wanted table result more progress progress_now after later)
      → SoFar wanted table before old progress input after
      → MatchResult result (λ _. SoFar wanted table before new progress_now (input ++ byte ∷ []) later) (λ _. WroteSoFar wanted table (input ++ byte ∷ []) before later)
  unfolding far_ended
  far_fills result old mid new progress progress_now input byte after later a b takes clears quiet passes far =
      let ends = ended_of wanted.separator mid (concat (kept far.waiting)) far.rest byte (takes (concat (kept far.waiting)) far.rest far.in_batch) in
      let now = far_ended old mid progress input byte after far ends.0 ends.1.0 ends.1.1 in
      far_passes result mid new progress progress_now (input ++ byte ∷ []) after later a b now (clears (concat (kept now.waiting)) [] now.in_batch (inl refl)) quiet
      (passes (kept now.waiting) [] now.in_batch (inl refl) before (kept now.past) now.taken)

  -- a record became too long, and those of the batch are taken
  pub far_overflows : {T E : Type 0} (result : Result T E) (old mid new : Batch) (progress progress_now : Progress) (input : List ℕ) (byte : ℕ) (after later a b : Option (List ℕ))
      → ((whole begun : List ℕ) → IsBatchOf wanted.separator old whole begun → Takes wanted.separator kinds.TooLong mid whole begun byte) → ((whole begun : List ℕ) → IsBatchOf wanted.separator mid whole begun → IsBetween mid begun → OnOk result (IsBatchOf wanted.separator new [] begun))
      → OnOk result (IsQuiet progress.made.has_told progress_now.made.has_told a b)
      → ((more : List (List ℕ)) (begun : List ℕ) → IsBatchOf wanted.separator mid (concat more) begun → IsBetween mid begun → TakesMore wanted table result more progress progress_now after later)
      → SoFar wanted table before old progress input after
      → MatchResult result (λ _. SoFar wanted table before new progress_now (input ++ byte ∷ []) later) (λ _. WroteSoFar wanted table (input ++ byte ∷ []) before later)
  unfolding far_grown
  far_overflows result old mid new progress progress_now input byte after later a b takes clears quiet passes far =
      let goes = long_of wanted.separator mid (concat (kept far.waiting)) far.rest byte (takes (concat (kept far.waiting)) far.rest far.in_batch) in
      let now = far_grown old mid progress input byte after far goes.0 goes.1.1 in
      far_passes result mid new progress progress_now (input ++ byte ∷ []) after later a b now (clears (concat (kept far.waiting)) (far.rest ++ byte ∷ []) goes.1.1 (inr goes.1.0)) quiet
      (passes (kept far.waiting) (far.rest ++ byte ∷ []) goes.1.1 (inr goes.1.0) before (kept far.past) far.taken)

  -- ---- the end of the input

  abbrev pub last_of : {batch : Batch} {progress : Progress} {input : List ℕ} {after : Option (List ℕ)} → SoFar wanted table before batch progress input after → List (List ℕ)
  last_of far = kept far.waiting ++ within RECORD_BYTES (far.rest ∷ [])

  all_kept : (past waiting : List (List ℕ)) (rest : List ℕ) → kept past ++ (kept waiting ++ within RECORD_BYTES (rest ∷ [])) ≡ kept_of (past ++ waiting) rest
  all_kept past waiting rest =
      sym (append_assoc (kept past) (kept waiting) (within RECORD_BYTES (rest ∷ []))) ∙ ap (λ raws. raws ++ within RECORD_BYTES (rest ∷ [])) (sym (kept_append past waiting))

  none_lacks_of : (is_long : Bool) (raws : List (List ℕ)) (rest : List ℕ) (told now : Bool) → (is_long ≡ true → told ≡ true) → (is_long ≡ false → length rest ≤ RECORD_BYTES) → Stays told now → (told ≡ false → kept raws ≡ raws)
      → now ≡ false → kept_of raws rest ≡ raws ++ rest ∷ []
  none_lacks_of true raws rest told now long short stays none off = absurd (false≢true (sym (stays off) ∙ long refl))
  none_lacks_of false raws rest told now long short stays none off =
      ap (λ rs. rs ++ within RECORD_BYTES (rest ∷ [])) (none (stays off)) ∙ ap (λ rs. raws ++ rs) (within_short RECORD_BYTES rest (short refl))

  pub far_rest : {T E : Type 0} (result : Result T E) (batch : Batch) (progress progress_now : Progress) (input : List ℕ) (after later a b : Option (List ℕ)) (far : SoFar wanted table before batch progress input after)
      → (batch.is_long ≡ true → progress.made.has_told ≡ true) → OnOk result (IsQuiet progress.made.has_told progress_now.made.has_told a b)
      → MatchResult result (λ _. AreTaken wanted table before progress_now (kept far.past ++ last_of far) later) (λ _. WroteFront wanted table (kept far.past ++ last_of far) before later)
      → MatchResult result (λ _. TookAll wanted table before progress_now input later) (λ _. WroteAtEnd wanted table input before later)
  far_rest (Ok _) batch progress progress_now input after later a b far long quiet takes = record {
    raws = far.past ++ far.waiting;
    rest = far.rest;
    cut = far.cut;
    none_lacks =
        none_lacks_of batch.is_long (far.past ++ far.waiting) far.rest progress.made.has_told progress_now.made.has_told long (λ short. (far.in_batch.is_short short).1)
        (stays_quiet progress.made.has_told progress_now.made.has_told a b quiet) far.none_lacks;
    taken = subst (λ raws. AreTaken wanted table before progress_now raws later) (all_kept far.past far.waiting far.rest) takes;
  }
  far_rest (Err _) batch progress progress_now input after later a b far long quiet takes = record {
    raws = far.past ++ far.waiting;
    rest = far.rest;
    cut = far.cut;
    wrote = subst (λ raws. WroteFront wanted table raws before later) (all_kept far.past far.waiting far.rest) takes;
  }

  -- something was told at the end
  pub far_told : (batch : Batch) (progress progress_now : Progress) (input : List ℕ) (after : Option (List ℕ)) → progress_now.planned ≡ progress.planned → progress_now.made.bytes.items ≡ progress.made.bytes.items
      → progress_now.made.has_told ≡ true → progress_now.made.number ≡ progress.made.number + 1 → IsSome progress_now.planned → progress_now.made.texts ≡ progress.made.texts → progress_now.made.extents ≡ progress.made.extents → progress_now.held ≡ progress.held
      → SoFar wanted table before batch progress input after → SoFar wanted table before batch progress_now input after
  far_told batch progress progress_now input after planned bytes told number some texts extents held far = record {
    past = far.past;
    waiting = far.waiting;
    rest = far.rest;
    cut = far.cut;
    in_batch = far.in_batch;
    none_lacks = λ off. absurd (false≢true (sym off ∙ told));
    taken = taken_told wanted table progress progress_now (kept far.past) before after planned bytes told number some texts extents held far.taken;
  }

  pub end_front : (batch : Batch) (progress : Progress) (input : List ℕ) (after : Option (List ℕ)) → SoFar wanted table before batch progress input after → WroteAtEnd wanted table input before after
  end_front batch progress input after far = record {
    raws = far.past ++ far.waiting;
    rest = far.rest;
    cut = far.cut;
    wrote = front_more wanted table (kept (far.past ++ far.waiting)) (within RECORD_BYTES (far.rest ∷ [])) before after (far_front batch progress input after far);
  }

  -- ---- what was written by then

  pub wrote_early : (input : List ℕ) (remaining after : Option (List ℕ)) → WroteSoFar wanted table input before after → Wrote wanted table input remaining before after
  wrote_early input remaining after wrote = record { raws = wrote.raws; rest = wrote.rest; cut = wrote.cut; wrote = inl wrote.wrote }

  pub wrote_last : (input : List ℕ) (remaining after : Option (List ℕ)) → IsAtEnd remaining → WroteAtEnd wanted table input before after → Wrote wanted table input remaining before after
  wrote_last input remaining after at_end wrote = record { raws = wrote.raws; rest = wrote.rest; cut = wrote.cut; wrote = inr (at_end, wrote.wrote) }

  -- nothing more is read
  pub far_ends : (batch : Batch) (progress : Progress) (input : List ℕ) (remaining after : Option (List ℕ)) → SoFar wanted table before batch progress input after → Wrote wanted table input remaining before after
  far_ends batch progress input remaining after far =
      wrote_early input remaining after (subst (λ bytes. WroteSoFar wanted table bytes before after) (append-nil input) (far_stops batch progress input [] after far))

  -- the rest was taken at the end of the input
  pub took_last : {T E : Type 0} (result : Result T E) (progress : Progress) (input : List ℕ) (remaining after : Option (List ℕ)) → IsAtEnd remaining
      → MatchResult result (λ _. TookAll wanted table before progress input after) (λ _. WroteAtEnd wanted table input before after)
      → MatchResult result (λ _. IsAtEnd remaining × TookAll wanted table before progress input after) (λ _. Wrote wanted table input remaining before after)
  took_last (Ok _) progress input remaining after at_end took = (at_end, took)
  took_last (Err _) progress input remaining after at_end wrote = wrote_last input remaining after at_end wrote

-- nothing was read or made
pub far_start : (wanted : Wanted) (table : CommandTree) (batch : Batch) (progress : Progress) (output : Option (List ℕ)) → IsBatchOf wanted.separator batch [] [] → progress.planned ≡ None → progress.made.bytes.items ≡ [] → progress.made.number ≡ 0 → progress.held ≡ []
    → (wanted.defines_routes ≡ true → HaveMet progress.made.extents [])
    → SoFar wanted table output batch progress [] output
far_start wanted table batch progress output is none no_line no_number no_held none_met = record {
  past = [];
  waiting = [];
  rest = [];
  cut = cut_none wanted.separator;
  in_batch = is;
  none_lacks = λ _. refl;
  taken = taken_none wanted table progress output none no_line no_number no_held none_met;
}

-- ---- what was written, to an end

module _ (wanted : Wanted) (table : CommandTree) where
  -- nothing was read
  pub wrote_none : (remaining output : Option (List ℕ)) → Wrote wanted table (strip_bom []) remaining output output
  unfolding strip_bom
  wrote_none remaining output = record { raws = []; rest = []; cut = cut_none wanted.separator; wrote = inl (wrote_nothing wanted table [] output output (Appends-nil output)) }

  -- all was read, and what waited is written
  pub ends_whole : (result : Result Bool Stop) (progress : Progress) (input : List ℕ) (remaining before output later : Option (List ℕ)) → IsAtEnd remaining → TookAll wanted table before progress input output
      → EndsTaken wanted table result progress output later → IfOk result (λ told. told ≡ false → progress.made.has_told ≡ false)
      → MatchResult result (λ lacks. IsAtEnd remaining × WroteAll wanted table lacks input before later) (λ _. Wrote wanted table input remaining before later)
  ends_whole (Ok told) progress input remaining before output later at_end took ends stays = (
    at_end,
    record { raws = took.raws; rest = took.rest; cut = took.cut; none_lacks = λ off. took.none_lacks (stays off); wrote = ends before (kept_of took.raws took.rest) took.taken },
  )
  ends_whole (Err _) progress input remaining before output later at_end took ends stays = record { raws = took.raws; rest = took.rest; cut = took.cut; wrote = inr (at_end, ends before (kept_of took.raws took.rest) took.taken) }

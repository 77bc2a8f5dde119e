-- How the content and the images go on from call to call.
use Rattle.std.proofs.Common.{◌≡◌, inl, inr, ℕ, ◌+◌, ◌-◌, true, false, Bool, List, [], ◌∷◌, length, reverse, slice_index, arith, refl, sym, ap, subst, ◌∙◌, Result, Ok, Err, OnOk, is_err, is_ok}
use Rattle.std.proofs.Math.Path.{fun_ext}
use Rattle.std.proofs.lemmas.Bool.{cases_lt}
use Rattle.std.proofs.lemmas.Bool.Decides.{nat_tests}
use Rattle.rs_disk.specs.Content.{Content, content_of, Holds, KeepsOthers}
use Rattle.rs_disk.specs.Crash.{Same, Torn, Follows, Passes}
use Rattle.rs_recording_disk.specs.declared.call.Call.{Call}
use Rattle.rs_recording_disk.specs.declared.call.Call.TheVariants.{Read, Write, Sync}
use Rattle.rs_recording_disk.specs.Range.{Range}
use Rattle.rs_recording_disk.specs.Recorded.{written, content_after, LeavesAfter, Recorded, content_now, LeavesNow, LeftSince, with_call}
use Rattle.rs_recording_disk.specs.Laws.{written_keeps, reads_too, start_ends}

pub same_content : (a b : Content) → a.size ≡ b.size → ((i : ℕ) → a.byte i ≡ b.byte i) → a ≡ b
same_content a b size byte =
    let make : ℕ → (ℕ → ℕ) → Content = λ n f. record { size = n; byte = f } in
    ap (λ n. make n a.byte) size ∙ ap (λ f. make b.size f) (fun_ext byte)

-- what holds these bytes, and the old ones elsewhere, is the old content with these bytes written
pub is_written : (at : ℕ) (bytes : List ℕ) (old new : Content) → Holds new at bytes → KeepsOthers at (length bytes) old new → new ≡ written at bytes old
is_written at [] old new holds keeps = same_content new old (keeps.nothing refl) (λ i. elim (cases_lt i at) [ inl low ↦ keeps.before i low | inr high ↦ keeps.after i (omega (arith, high)) ])
is_written at (b ∷ bs) old new holds keeps =
    same_content new (written at (b ∷ bs) old) (omega (arith, keeps.no_shorter, keeps.no_longer, holds.reaches)) (λ i. elim (cases_lt i at) [
      | inl low ↦ let e = keeps.before i low in grind (arith, nat_tests)
      | inr high ↦ elim (cases_lt i (at + length (b ∷ bs))) [
        | inl inside ↦
            let e = holds.each (i - at) (omega arith) in
            let there : at + (i - at) ≡ i = omega arith in
            let here : new.byte i ≡ slice_index (b ∷ bs) (i - at) = ap (λ place. new.byte place) (sym there) ∙ e in
            grind (arith, nat_tests)
        | inr past ↦ let e = keeps.after i past in grind (arith, nat_tests)
      ]
    ])

-- and it holds these bytes
pub written_holds : (at : ℕ) (bytes : List ℕ) (content : Content) → Holds (written at bytes content) at bytes
written_holds at [] content = record {
  each = λ k below. absurd (omega (arith, below));
  reaches = λ some. absurd (omega (arith, some));
}
written_holds at (b ∷ bs) content = record {
  each = λ k below. let there : at + k - at ≡ k = omega arith in grind (arith, nat_tests);
  reaches = λ some. omega arith;
}

pub torn_not : (at n : ℕ) (content : Content) → Torn at n content content
torn_not at n content = record {
  before = λ i _ _. refl;
  after = λ i _ _. refl;
  no_shorter = omega arith;
  no_longer = omega arith;
  nothing = λ _. refl;
}

-- where nothing is recorded, nothing happened
pub passes_by : (step : Content → Content → Type 0) → ((content : Content) → step content content) → (old new : Recorded) → new ≡ old → Passes LeavesNow LeftSince step old new
passes_by step not_done old new is_old =
    subst (λ recorded. Passes LeavesNow LeftSince step old recorded) (sym is_old) (record {
      now = λ image leaves. record { source = image; was_left = leaves; steps = not_done image };
      meanwhile = λ start image left. inl left;
      earlier = λ start image left. left;
    })

-- one more call
pub passes_on : (step : Content → Content → Type 0) (call : Call) (old new : Recorded) → new ≡ with_call call old → ((image : Content) → LeavesAfter call (content_now old) (LeavesNow old) image → Follows (LeavesNow old) step image) → Passes LeavesNow LeftSince step old new
passes_on step call old new is_called follows =
    subst (λ recorded. Passes LeavesNow LeftSince step old recorded) (sym is_called) (record {
      now = follows;
      meanwhile = λ start image left. elim left [ inl here ↦ inr (follows image here.1) | inr there ↦ inl there ];
      earlier = λ start image left. inr left;
    })

pub read_passes : (old : Recorded) (image : Content) → LeavesAfter Read (content_now old) (LeavesNow old) image → Follows (LeavesNow old) Same image
read_passes old image leaves = record { source = image; was_left = leaves; steps = refl }

pub sync_passes : (is_done : Bool) (old : Recorded) (image : Content) → LeavesAfter (Sync is_done) (content_now old) (LeavesNow old) image → Follows (LeavesNow old) Same image
sync_passes true old image leaves = record {
  source = content_now old;
  was_left = reads_too (content_of old.start) old.past (start_ends old.start);
  steps = leaves;
}
sync_passes false old image leaves = record { source = image; was_left = leaves; steps = refl }

-- what is recorded of a disk of these first bytes by these calls
abbrev pub recorded_by : List ℕ → List Call → Recorded
recorded_by start calls = record { start = start; past = reverse calls }

-- the call that was noted is the last of the past
pub is_noted : (start : List ℕ) (before between after : List Call) (call : Call) (old : Recorded) → recorded_by start before ≡ old → between ≡ before → reverse after ≡ call ∷ reverse between → recorded_by start after ≡ with_call call old
is_noted start before between after call old was same noted =
    let make : List Call → Recorded = λ past. record { start = start; past = past } in
    ap make (noted ∙ ap (λ calls. call ∷ reverse calls) same) ∙ ap (with_call call) was

-- and where none was noted, it is as before
pub is_unnoted : (start : List ℕ) (before after : List Call) (old : Recorded) → recorded_by start before ≡ old → after ≡ before → recorded_by start after ≡ old
is_unnoted start before after old was same = ap (recorded_by start) same ∙ was

-- a write that was done whole
pub noted_holds : (at left : ℕ) (kept part : List ℕ) (range : Range) (old new : Recorded) → new ≡ with_call (Write range) old → range ≡ record { at = at; bytes = kept; unwritten = left } → kept ≡ part → Holds (content_now new) at part
noted_holds at left kept part range old new noted range_is whole =
    subst (λ bytes. Holds (content_now new) at bytes) whole (subst (λ recorded. Holds (content_now recorded) at kept) (sym noted) (subst (λ range. Holds (content_after (Write range) (content_now old)) at kept) (sym range_is) (written_holds at kept (content_now old))))

-- a write that was done in whole or in part
pub noted_keeps : (at left n : ℕ) (kept : List ℕ) (range : Range) (old new : Recorded) → new ≡ with_call (Write range) old → range ≡ record { at = at; bytes = kept; unwritten = left } → length kept + left ≡ n → KeepsOthers at n (content_now old) (content_now new)
noted_keeps at left n kept range old new noted range_is size =
    subst (λ n. KeepsOthers at n (content_now old) (content_now new)) size (subst (λ recorded. KeepsOthers at (length kept + left) (content_now old) (content_now recorded)) (sym noted) (subst (λ range. KeepsOthers at (length kept + left) (content_now old) (content_after (Write range) (content_now old))) (sym range_is) (written_keeps at left kept (content_now old))))

-- a write that didn't fail wrote all its bytes
pub ok_is_written : {T E : Type 0} (result : Result T E) (at : ℕ) (bytes : List ℕ) (old new : Content) → is_err result ≡ false → OnOk result (Holds new at bytes) → KeepsOthers at (length bytes) old new → new ≡ written at bytes old
ok_is_written (Ok _) at bytes old new is_ok holds keeps = is_written at bytes old new holds keeps
ok_is_written (Err _) at bytes old new is_ok holds keeps = cc

pub on_ok_map : {T E P Q : Type 0} (result : Result T E) → (P → Q) → OnOk result P → OnOk result Q
on_ok_map (Ok _) f p = f p
on_ok_map (Err _) f p = p

-- the same where what is answered is another fault
pub if_ok_is_written : {T T' E E' : Type 0} (result : Result T E) (answer : Result T' E') (at : ℕ) (bytes : List ℕ) (old new : Content) → is_ok answer ≡ is_ok result → OnOk result (Holds new at bytes) → KeepsOthers at (length bytes) old new → OnOk answer (new ≡ written at bytes old)
if_ok_is_written (Ok _) (Ok _) at bytes old new same holds keeps =
    is_written at bytes old new holds keeps
if_ok_is_written (Err _) (Ok _) at bytes old new same holds keeps = cc
if_ok_is_written result (Err _) at bytes old new same holds keeps = tt

-- A disk that records its calls keeps the model of crashes.
use Rattle.std.proofs.Common.{◌≡◌, inl, inr, ℕ, ◌+◌, ◌*◌, ◌≤◌, true, false, List, [], ◌∷◌, length, arith, refl, sym, ap, subst}
use Rattle.std.proofs.lemmas.Bool.{cases_lt}
use Rattle.std.proofs.lemmas.Bool.Decides.{nat_tests}
use Rattle.std.proofs.lemmas.List.{get_or_past}
use Rattle.rs_page.specs.declared.page.TheConstants.{PAGE_SIZE}
use Rattle.rs_disk.specs.Content.{Content, content_of, KeepsOthers, IsCutTo}
use Rattle.rs_disk.specs.Crash.{Torn}
use Rattle.rs_recording_disk.specs.declared.call.Call.{Call}
use Rattle.rs_recording_disk.specs.declared.call.Call.TheVariants.{Read, Write, Sync, Cut}
use Rattle.rs_recording_disk.specs.declared.image.Unsynced.TheVariants.{Kept}
use Rattle.rs_recording_disk.specs.Image.{image_of}
use Rattle.rs_recording_disk.specs.Recorded.{written, cut_to, content_after, replayed, EndsInZeros, LeavesAfter, Leaves, LeftAfter, Recorded, content_now, LeavesNow, LeftSince}

-- what is written in part keeps all but the range
pub written_keeps : (at more : ℕ) (bytes : List ℕ) (content : Content) → KeepsOthers at (length bytes + more) content (written at bytes content)
written_keeps at more [] content = record {
  before = λ i _. refl;
  after = λ i _. refl;
  no_shorter = omega arith;
  no_longer = omega arith;
  nothing = λ _. refl;
}
written_keeps at more (b ∷ bs) content = record {
  before = λ i before. grind (arith, nat_tests);
  after = λ i after. grind (arith, nat_tests);
  no_shorter = omega arith;
  no_longer = omega arith;
  nothing = λ none. absurd (omega (arith, none));
}

-- and so may a crash leave it
pub keeps_is_torn : (at n : ℕ) (old new : Content) → KeepsOthers at n old new → Torn at n old new
keeps_is_torn at n old new keeps = record {
  before = λ i _. keeps.before i;
  after = λ i _. keeps.after i;
  no_shorter = keeps.no_shorter;
  no_longer = keeps.no_longer;
  nothing = keeps.nothing;
}

pub written_ends : (at : ℕ) (bytes : List ℕ) (content : Content) → EndsInZeros content → EndsInZeros (written at bytes content)
written_ends at [] content ends = ends
written_ends at (b ∷ bs) content ends = record {
  zeros = λ i past. let old = ends.zeros i (omega arith) in grind (arith, nat_tests);
}

pub cut_is : (bound : ℕ) (content : Content) → IsCutTo bound content (cut_to bound content)
cut_is bound content = record {
  size = refl;
  kept = λ i below. grind (arith, nat_tests);
}

pub cut_ends : (bound : ℕ) (content : Content) → EndsInZeros content → EndsInZeros (cut_to bound content)
cut_ends bound content ends = record {
  zeros = λ i past. elim (cases_lt i bound) [
    | inl below ↦ let old = ends.zeros i (omega arith) in grind (arith, nat_tests)
    | inr beyond ↦ grind (arith, nat_tests)
  ];
}

pub content_after_ends : (call : Call) (content : Content) → EndsInZeros content → EndsInZeros (content_after call content)
content_after_ends Read content ends = ends
content_after_ends (Write range) content ends = written_ends range.at range.bytes content ends
content_after_ends (Sync is_done) content ends = ends
content_after_ends (Cut pages true) content ends = cut_ends (PAGE_SIZE * pages) content ends
content_after_ends (Cut pages false) content ends = ends

pub replayed_ends : (start : Content) (past : List Call) → EndsInZeros start → EndsInZeros (replayed start past)
replayed_ends start [] ends = ends
replayed_ends start (call ∷ earlier) ends =
    content_after_ends call (replayed start earlier) (replayed_ends start earlier ends)

pub image_ends : (start : Content) (past : List Call) → EndsInZeros start → (image : Content) → Leaves start past image → EndsInZeros image
image_ends start [] ends image leaves = subst EndsInZeros (sym leaves) ends
image_ends start (Read ∷ earlier) ends image leaves = image_ends start earlier ends image leaves
image_ends start (Write range ∷ earlier) ends image leaves = leaves.1
image_ends start (Sync true ∷ earlier) ends image leaves =
    subst EndsInZeros (sym leaves) (replayed_ends start earlier ends)
image_ends start (Sync false ∷ earlier) ends image leaves = image_ends start earlier ends image leaves
image_ends start (Cut pages is_done ∷ earlier) ends image leaves = leaves.1

-- the content after a call is among what a crash may leave then
pub content_is_left : (call : Call) (content : Content) (before : Content → Type 0) → before content → EndsInZeros content → LeavesAfter call content before (content_after call content)
content_is_left Read content before was ends = was
content_is_left (Write range) content before was ends = (
  record {
    source = content;
    was_left = was;
    steps = keeps_is_torn range.at (length range.bytes + range.unwritten) content (written range.at range.bytes content) (written_keeps range.at range.unwritten range.bytes content);
  },
  written_ends range.at range.bytes content ends,
)
content_is_left (Sync true) content before was ends = refl
content_is_left (Sync false) content before was ends = was
content_is_left (Cut pages true) content before was ends =
    (record { source = content; was_left = was; steps = inl (cut_is (PAGE_SIZE * pages) content) }, cut_ends (PAGE_SIZE * pages) content ends)
content_is_left (Cut pages false) content before was ends =
    (record { source = content; was_left = was; steps = inr refl }, ends)

pub reads_too : (start : Content) (past : List Call) → EndsInZeros start → Leaves start past (replayed start past)
reads_too start [] ends = refl
reads_too start (call ∷ earlier) ends =
    content_is_left call (replayed start earlier) (Leaves start earlier) (reads_too start earlier ends) (replayed_ends start earlier ends)

pub no_later : (began : ℕ) (start : Content) (past : List Call) (image : Content) → LeftAfter began start past image → began ≤ length past
no_later began start [] image left = left.0
no_later began start (call ∷ earlier) image (inl here) = here.0
no_later began start (call ∷ earlier) image (inr there) =
    omega (arith, no_later began start earlier image there)

pub counts_now : (began : ℕ) (start : Content) (past : List Call) (image : Content) → began ≤ length past → Leaves start past image → LeftAfter began start past image
counts_now began start [] image later leaves = (later, leaves)
counts_now began start (call ∷ earlier) image later leaves = inl (later, leaves)

pub only_now : (start : Content) (past : List Call) (image : Content) → LeftAfter (length past) start past image → Leaves start past image
only_now start [] image left = left.1
only_now start (call ∷ earlier) image (inl here) = here.1
only_now start (call ∷ earlier) image (inr there) =
    absurd (omega (arith, no_later (length (call ∷ earlier)) start earlier image there))

-- bytes in memory end in zeros
pub start_ends : (bytes : List ℕ) → EndsInZeros (content_of bytes)
start_ends bytes = record { zeros = λ i past. get_or_past bytes i 0 past }

pub starts_now : (recorded : Recorded) → LeftSince recorded recorded (content_now recorded)
starts_now recorded =
    counts_now (length recorded.past) (content_of recorded.start) recorded.past (content_now recorded) (omega arith) (reads_too (content_of recorded.start) recorded.past (start_ends recorded.start))

pub counts_since : (from recorded : Recorded) (image other : Content) → LeftSince from recorded other → LeavesNow recorded image → LeftSince from recorded image
counts_since from recorded image other left leaves =
    counts_now (length from.past) (content_of recorded.start) recorded.past image (no_later (length from.past) (content_of recorded.start) recorded.past other left) leaves

-- the same of what is recorded
pub seen_ends : (recorded : Recorded) → EndsInZeros (content_now recorded)
seen_ends recorded =
    replayed_ends (content_of recorded.start) recorded.past (start_ends recorded.start)

pub left_ends : (recorded : Recorded) (image : Content) → LeavesNow recorded image → EndsInZeros image
left_ends recorded = image_ends (content_of recorded.start) recorded.past (start_ends recorded.start)

pub reads_now : (recorded : Recorded) → LeavesNow recorded (content_now recorded)
reads_now recorded =
    reads_too (content_of recorded.start) recorded.past (start_ends recorded.start)

pub only_left : (recorded : Recorded) (image : Content) → LeftSince recorded recorded image → LeavesNow recorded image
only_left recorded = only_now (content_of recorded.start) recorded.past

-- the image in which all is kept is the content itself
pub kept_reads : (start : Content) (past : List Call) → image_of Kept start past ≡ replayed start past
kept_reads start [] = refl
kept_reads start (Read ∷ earlier) = kept_reads start earlier
kept_reads start (Write range ∷ earlier) = ap (written range.at range.bytes) (kept_reads start earlier)
kept_reads start (Sync true ∷ earlier) = refl
kept_reads start (Sync false ∷ earlier) = kept_reads start earlier
kept_reads start (Cut pages is_done ∷ earlier) = ap (content_after (Cut pages is_done)) (kept_reads start earlier)

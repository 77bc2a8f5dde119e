-- Numbers and copies on a disk stay where their bytes do.
use Rattle.std.proofs.lemmas.Bool.{cases_lt}
use Rattle.std.proofs.Common.{Result, Ok, Err, OnOk, ◌-◌, ◌≡◌, inl, inr, ℕ, suc, ◌+◌, ◌*◌, ◌<◌, ◌≤◌, List, [], ◌∷◌, length, slice_index, arith, sym, ap, ◌∙◌, subst}
use Rattle.rs_disk.specs.Content.{Content, Gives, Holds}
use Rattle.rs_page.specs.Number.{number_at}
use Rattle.rs_page.specs.declared.page.TheConstants.{PAGE_SIZE}
use Rattle.rs_journal.specs.FilePages.{word_at}
use Rattle.rs_journal.specs.Journal.{Journal, HasFields, HasNumbers, HasNumberPage, HasCopies, HasJournal, number_pages, copies_start, end_page}
use Rattle.rs_journal.specs.Stages.{IsBeforeJournal}
use Rattle.rs_disk.specs.Reaches.{IsOutside, KeepsWhere}

pub word-same : (one other : ℕ → ℕ) (at : ℕ) → ((k : ℕ) → k < 4 → one (at + k) ≡ other (at + k)) → word_at one at ≡ word_at other at
unfolding word_at
word-same one other at same =
    let zero_on : at + 0 ≡ at = omega arith in
    let a : one at ≡ other at = sym (ap one zero_on) ∙ same 0 (omega arith) ∙ ap other zero_on in
    let b = same 1 (omega arith) in
    let c = same 2 (omega arith) in
    let d = same 3 (omega arith) in
    omega (arith, a, b, c, d)

number-bytes : (at : ℕ) (page : List ℕ) → number_at at 4 page
    ≡ 16777216 * slice_index page at + 65536 * slice_index page (at + 1) + 256 * slice_index page (at + 2) + slice_index page (at + 3)
unfolding number_at
number-bytes at page =
    let one : slice_index page (suc at) ≡ slice_index page (at + 1) = ap (slice_index page) (omega arith) in
    let two : slice_index page (suc (suc at)) ≡ slice_index page (at + 2) = ap (slice_index page) (omega arith) in
    let three : slice_index page (suc (suc (suc at))) ≡ slice_index page (at + 3) = ap (slice_index page) (omega arith) in
    omega (arith, one, two, three)

-- what is written at an offset is read as a number there
pub word-held : (content : Content) (at k : ℕ) (bytes : List ℕ) → Holds content at bytes → k + 4 ≤ length bytes
    → word_at content.byte (at + k) ≡ number_at k 4 bytes
unfolding word_at
word-held content at k bytes holds inside =
    let a : content.byte (at + k) ≡ slice_index bytes k = holds.each k (omega arith) in
    let b : content.byte (at + k + 1) ≡ slice_index bytes (k + 1) = ap content.byte (omega arith) ∙ holds.each (k + 1) (omega arith) in
    let c : content.byte (at + k + 2) ≡ slice_index bytes (k + 2) = ap content.byte (omega arith) ∙ holds.each (k + 2) (omega arith) in
    let d : content.byte (at + k + 3) ≡ slice_index bytes (k + 3) = ap content.byte (omega arith) ∙ holds.each (k + 3) (omega arith) in
    omega (arith, a, b, c, d, number-bytes k bytes)

pub word-kept : (stays : ℕ → Type 0) (a b : Content) (at : ℕ) → KeepsWhere stays a b → at + 4 ≤ a.size
    → ((k : ℕ) → k < 4 → stays (at + k)) → word_at b.byte at ≡ word_at a.byte at
word-kept stays a b at keeps inside there =
    word-same b.byte a.byte at (λ k lt. keeps.bytes (at + k) (omega arith) (there k lt))

pub fields-kept : (stays : ℕ → Type 0) (first count : ℕ) (a b : Content) → KeepsWhere stays a b
    → ((i : ℕ) → 68 ≤ i → i < 76 → stays i) → HasFields first count a → HasFields first count b
fields-kept stays first count a b keeps there has =
    let long : 76 ≤ a.size = has.inside in
    let longer : a.size ≤ b.size = keeps.no_shorter in
    record {
      first_page = word-kept stays a b 68 keeps (omega arith) (λ k lt. there (68 + k) (omega arith) (omega arith)) ∙ has.first_page;
      copies = word-kept stays a b 72 keeps (omega arith) (λ k lt. there (72 + k) (omega arith) (omega arith)) ∙ has.copies;
      inside = omega arith;
    }

pub numbers-kept : (stays : ℕ → Type 0) (first pages count : ℕ) (number : ℕ → ℕ) (a b : Content) → KeepsWhere stays a b
    → ((i : ℕ) → PAGE_SIZE * first ≤ i → i < PAGE_SIZE * (first + pages) → stays i)
    → HasNumbers first pages count number a → HasNumbers first pages count number b
numbers-kept stays first pages count number a b keeps there has =
    let longer : a.size ≤ b.size = keeps.no_shorter in
    record {
      each = λ k lt below.
          let long : PAGE_SIZE * (first + pages) ≤ a.size = has.inside (omega arith) in
          word-kept stays a b (PAGE_SIZE * first + 4 * k) keeps (omega arith) (λ j lt'. there (PAGE_SIZE * first + 4 * k + j) (omega arith) (omega arith)) ∙ has.each k lt below;
      inside = λ some. let long : PAGE_SIZE * (first + pages) ≤ a.size = has.inside some in omega arith;
    }

pub copies-kept : (stays : ℕ → Type 0) (start count : ℕ) (copy : ℕ → ℕ → ℕ) (a b : Content) → KeepsWhere stays a b
    → ((i : ℕ) → PAGE_SIZE * start ≤ i → i < PAGE_SIZE * (start + count) → stays i)
    → HasCopies start count copy a → HasCopies start count copy b
copies-kept stays start count copy a b keeps there has =
    let longer : a.size ≤ b.size = keeps.no_shorter in
    record {
      each = λ k j lt within.
          let long : PAGE_SIZE * (start + count) ≤ a.size = has.inside (omega arith) in
          keeps.bytes (PAGE_SIZE * (start + k) + j) (omega arith) (there (PAGE_SIZE * (start + k) + j) (omega arith) (omega arith)) ∙ has.each k j lt within;
      inside = λ some. let long : PAGE_SIZE * (start + count) ≤ a.size = has.inside some in omega arith;
    }

-- outside a range is outside each part of it
pub outside-part : (lo hi from to i : ℕ) → lo ≤ from → to ≤ hi → IsOutside lo hi i → IsOutside from to i
outside-part lo hi from to i above below is = elim is [ inl before ↦ inl (omega arith) | inr after ↦ inr (omega arith) ]

pub no-copies : (start : ℕ) (copy : ℕ → ℕ → ℕ) (content : Content) → HasCopies start 0 copy content
no-copies start copy content = record { each = λ k j lt _. absurd (omega arith); inside = λ some. absurd (omega arith) }

-- one copy more
pub copies-more : (start n number : ℕ) (copy : ℕ → ℕ → ℕ) (page : List ℕ) (a b : Content) → number ≡ start + n
    → KeepsWhere (IsOutside (PAGE_SIZE * number) (PAGE_SIZE * number + PAGE_SIZE)) a b
    → Holds b (PAGE_SIZE * number) page → length page ≡ PAGE_SIZE
    → ((j : ℕ) → j < PAGE_SIZE → slice_index page j ≡ copy n j)
    → HasCopies start n copy a → HasCopies start (n + 1) copy b
copies-more start n number copy page a b at keeps holds long is has =
    let before : HasCopies start n copy b = copies-kept _ start n copy a b keeps (λ i lo hi. inl (omega arith)) has in
    record {
      each = λ k j lt within. elim (cases_lt k n) [
        | inl earlier ↦ before.each k j earlier within
        | inr later ↦
            let same : k ≡ n = omega arith in
            let inside : j < length page = omega (arith, long) in
            let place : PAGE_SIZE * (start + k) + j ≡ PAGE_SIZE * number + j = omega (arith, at, same) in
            ap b.byte place ∙ holds.each j inside ∙ is j within ∙ ap (λ m. copy m j) (sym same)
      ];
      inside = λ some. let reach : PAGE_SIZE * number + length page ≤ b.size = holds.reaches (omega (arith, long)) in omega (arith, long, at);
    }

pub no-numbers : (first count : ℕ) (number : ℕ → ℕ) (content : Content) → HasNumbers first 0 count number content
no-numbers first count number content = record { each = λ k _ lt. absurd (omega arith); inside = λ some. absurd (omega arith) }

-- one page of numbers more
pub numbers-more : (first p count : ℕ) (number : ℕ → ℕ) (a b : Content)
    → KeepsWhere (IsOutside (PAGE_SIZE * (first + p)) (PAGE_SIZE * (first + p) + PAGE_SIZE)) a b
    → HasNumberPage first p count number b
    → HasNumbers first p count number a → HasNumbers first (p + 1) count number b
numbers-more first p count number a b keeps page has =
    let before : HasNumbers first p count number b = numbers-kept _ first p count number a b keeps (λ i lo hi. inl (omega arith)) has in
    record {
      each = λ k lt below. elim (cases_lt k (1024 * p)) [
        | inl earlier ↦ before.each k lt earlier
        | inr later ↦ page.each k lt later (omega arith)
      ];
      inside = λ some. let reach : PAGE_SIZE * (first + p) + PAGE_SIZE ≤ b.size = page.inside in omega arith;
    }

-- a page of numbers that was written
pub numbers-written : (first p count spot : ℕ) (number : ℕ → ℕ) (page : List ℕ) (content : Content) → spot ≡ first + p
    → Holds content (PAGE_SIZE * spot) page → length page ≡ PAGE_SIZE
    → ((k : ℕ) → k < 1024 → 1024 * p + k < count → number_at (4 * k) 4 page ≡ number (1024 * p + k))
    → HasNumberPage first p count number content
numbers-written first p count spot number page content there holds long is = record {
  each = λ k lt lo hi.
      let place : 1024 * p + (k - 1024 * p) ≡ k = omega arith in
      let at : PAGE_SIZE * first + 4 * k ≡ PAGE_SIZE * spot + 4 * (k - 1024 * p) = omega (arith, there) in
      ap (word_at content.byte) at ∙ word-held content (PAGE_SIZE * spot) (4 * (k - 1024 * p)) page holds (omega (arith, long))
      ∙ is (k - 1024 * p) (omega arith) (omega arith) ∙ ap number place;
  inside = let reach : PAGE_SIZE * spot + length page ≤ content.size = holds.reaches (omega (arith, long)) in omega (arith, long, there);
}

-- the fields that were written
pub fields-written : (first count : ℕ) (bytes : List ℕ) (content : Content) → Holds content 68 bytes → length bytes ≡ 8
    → number_at 0 4 bytes ≡ first → number_at 4 4 bytes ≡ count → HasFields first count content
fields-written first count bytes content holds long is_first is_count = record {
  first_page = word-held content 68 0 bytes holds (omega (arith, long)) ∙ is_first;
  copies = word-held content 68 4 bytes holds (omega (arith, long)) ∙ is_count;
  inside = let reach : 68 + length bytes ≤ content.size = holds.reaches (omega (arith, long)) in omega (arith, long);
}

pub on_ok_map : {T E P Q : Type 0} (result : Result T E) → (P → Q) → OnOk result P → OnOk result Q
on_ok_map (Ok _) f p = f p
on_ok_map (Err _) f p = p

-- what comes before the journal is outside its ranges
pub before-range : (first lo hi i : ℕ) → first ≤ lo → IsBeforeJournal first i → IsOutside (PAGE_SIZE * lo) (PAGE_SIZE * hi) i
before-range first lo hi i later is = let below : i < PAGE_SIZE * first = is.0 in inl (omega arith)

-- all parts of a journal
pub journal-written : (journal : Journal) (count start : ℕ) (content : Content) → count ≡ journal.count → start ≡ copies_start journal
    → HasFields journal.first count content
    → HasNumbers journal.first (number_pages journal.count) journal.count journal.number content
    → HasCopies start journal.count journal.copy content → HasJournal journal content
journal-written journal count start content same at fields numbers copies = record {
  fields = subst (λ n. HasFields journal.first n content) same fields;
  numbers = numbers;
  copies = subst (λ s. HasCopies s journal.count journal.copy content) at copies;
}

pub journal-kept : (stays : ℕ → Type 0) (journal : Journal) (a b : Content) → KeepsWhere stays a b
    → ((i : ℕ) → 68 ≤ i → i < 76 → stays i)
    → ((i : ℕ) → PAGE_SIZE * journal.first ≤ i → i < PAGE_SIZE * end_page journal.first journal.count → stays i)
    → HasJournal journal a → HasJournal journal b
journal-kept stays journal a b keeps low high has = record {
  fields = fields-kept stays journal.first journal.count a b keeps low has.fields;
  numbers = numbers-kept stays journal.first (number_pages journal.count) journal.count journal.number a b keeps (λ i lo hi. high i lo (omega arith)) has.numbers;
  copies = copies-kept stays (copies_start journal) journal.count journal.copy a b keeps (λ i lo hi. high i (omega arith) (omega arith)) has.copies;
}

pub gate-written : (byte : ℕ) (content : Content) → Holds content 64 (byte ∷ []) → content.byte 64 ≡ byte
gate-written byte content holds = holds.each 0 (omega arith)

-- a number that was read
pub word-given : (content : Content) (at : ℕ) (bytes : List ℕ) → Gives content at bytes → length bytes ≡ 4
    → number_at 0 4 bytes ≡ word_at content.byte at
unfolding word_at
word-given content at bytes gives long =
    let a : slice_index bytes 0 ≡ content.byte at = gives.each 0 (omega (arith, long)) ∙ ap content.byte (omega arith) in
    let b : slice_index bytes 1 ≡ content.byte (at + 1) = gives.each 1 (omega (arith, long)) in
    let c : slice_index bytes 2 ≡ content.byte (at + 2) = gives.each 2 (omega (arith, long)) in
    let d : slice_index bytes 3 ≡ content.byte (at + 3) = gives.each 3 (omega (arith, long)) in
    let whole = number-bytes 0 bytes in
    omega (arith, a, b, c, d, whole)

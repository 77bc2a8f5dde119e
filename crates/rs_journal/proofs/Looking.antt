-- What a look shows, byte by byte.
use Rattle.std.proofs.lemmas.Bool.{cases_lt, cases_eq}
use Rattle.std.proofs.lemmas.Grind.{common_steps}
use Rattle.std.proofs.lemmas.Bool.Decides.{nat_tests}
use Rattle.std.proofs.Common.{◌≡◌, inl, inr, ℕ, zero, suc, ◌+◌, ◌-◌, ◌*◌, ◌/◌, ◌%◌, ◌<◌, ◌≤◌, Bool, true, false, not, ◌&&◌, ◌==◌, nat_lt, nat_le, if◌then◌else◌, List, length, slice_index, take, drop, min, arith, refl, sym, ap, ◌∙◌, subst}
use Rattle.rs_disk.specs.Content.{Content, Gives}
use Rattle.rs_disk.specs.Reaches.{IsOutside}
use Rattle.rs_page.specs.declared.page.TheConstants.{PAGE_SIZE}
use Rattle.rs_journal.specs.FilePages.{FilePages, IsOfPages, HasPages, word_at}
use Rattle.rs_journal.specs.Journal.{Journal, Ascends, IsApart, Recovers, RecoversBy, IsTold, Tells, number_pages, copies_start}
use Rattle.rs_journal.specs.Recovery.{journal_in}
use Rattle.rs_journal.specs.Look.{is_open, is_first_version, copies_in, copied_byte, formatted_byte, masked_byte, shown_byte, shown, in_format, as_shown, as_kept, IsLook, GivesBytes}
use Rattle.rs_journal.proofs.Staging.{apart-or}

-- Tests.

if-same : (a b x y : ℕ) → a ≡ b → (if (a == b) then x else y) ≡ x
if-same a b x y same = grind (arith, nat_tests)

if-other : (a b x y : ℕ) → (a ≡ b → ⊥) → (if (a == b) then x else y) ≡ y
if-other a b x y other = grind (arith, nat_tests)

if-below : (a b x y : ℕ) → a < b → (if nat_lt a b then x else y) ≡ x
if-below a b x y lt = grind (arith, nat_tests)

if-past : (a b x y : ℕ) → b ≤ a → (if nat_lt a b then x else y) ≡ y
if-past a b x y past = grind (arith, nat_tests)

masked-inside : (byte : ℕ → ℕ) (i : ℕ) → 64 ≤ i → i < 76 → masked_byte byte i ≡ 0
masked-inside byte i lo hi = grind (arith, nat_tests)

masked-outside : (byte : ℕ → ℕ) (i : ℕ) → IsOfPages i → masked_byte byte i ≡ byte i
masked-outside byte i own = elim own [
  | inl before ↦ grind (arith, nat_tests)
  | inr after ↦ grind (arith, nat_tests)
]

-- Copies in place of their pages.

-- copies that are alike
pub copied-alike : (number number' : ℕ → ℕ) (copy copy' : ℕ → ℕ → ℕ) (byte : ℕ → ℕ) (n i : ℕ)
    → ((k : ℕ) → k < n → number k ≡ number' k) → ((k j : ℕ) → k < n → j < PAGE_SIZE → copy k j ≡ copy' k j)
    → copied_byte number copy byte n i ≡ copied_byte number' copy' byte n i
copied-alike number number' copy copy' byte zero i same same' = refl
copied-alike number number' copy copy' byte (suc n) i same same' =
    let rest : copied_byte number copy byte n i ≡ copied_byte number' copy' byte n i
    = copied-alike number number' copy copy' byte n i (λ k lt. same k (omega arith)) (λ k j lt within. same' k j (omega arith) within) in
    let here : number n ≡ number' n = same n (omega arith) in
    let bytes : copy n (i % PAGE_SIZE) ≡ copy' n (i % PAGE_SIZE) = same' n (i % PAGE_SIZE) (omega arith) (omega arith) in
    elim (cases_eq (i / PAGE_SIZE) (number n)) [
      | inl is ↦
          if-same (i / PAGE_SIZE) (number n) (copy n (i % PAGE_SIZE)) (copied_byte number copy byte n i) is ∙ bytes
          ∙ sym (if-same (i / PAGE_SIZE) (number' n) (copy' n (i % PAGE_SIZE)) (copied_byte number' copy' byte n i) (is ∙ here))
      | inr other ↦
          if-other (i / PAGE_SIZE) (number n) (copy n (i % PAGE_SIZE)) (copied_byte number copy byte n i) other ∙ rest
          ∙ sym (if-other (i / PAGE_SIZE) (number' n) (copy' n (i % PAGE_SIZE)) (copied_byte number' copy' byte n i) (λ is. other (is ∙ sym here)))
    ]

-- a byte of a page that is copied
pub copied-inside : (number : ℕ → ℕ) (copy : ℕ → ℕ → ℕ) (byte : ℕ → ℕ) (n i k j : ℕ) → Ascends n number → k < n → j < PAGE_SIZE
    → i ≡ PAGE_SIZE * number k + j → copied_byte number copy byte n i ≡ copy k j
copied-inside number copy byte zero i k j ascends lt within is = absurd (omega arith)
copied-inside number copy byte (suc n) i k j ascends lt within is = elim (cases_lt k n) [
  | inl earlier ↦
      let less : number k < number n = ascends k n earlier (omega arith) in
      if-other (i / PAGE_SIZE) (number n) (copy n (i % PAGE_SIZE)) (copied_byte number copy byte n i) (λ same. omega (arith, is, same))
      ∙ copied-inside number copy byte n i k j (λ a b before lt'. ascends a b before (omega arith)) earlier within is
  | inr later ↦
      let last : n ≡ k = omega arith in
      let there : number n ≡ number k = ap number last in
      let offset : i % PAGE_SIZE ≡ j = omega (arith, is) in
      if-same (i / PAGE_SIZE) (number n) (copy n (i % PAGE_SIZE)) (copied_byte number copy byte n i) (omega (arith, is, there))
      ∙ ap (λ m. copy m (i % PAGE_SIZE)) last ∙ ap (copy k) offset
]

-- a byte of no such page
pub copied-apart : (number : ℕ → ℕ) (copy : ℕ → ℕ → ℕ) (byte : ℕ → ℕ) (n i : ℕ) → IsApart n number i → copied_byte number copy byte n i ≡ byte i
copied-apart number copy byte zero i apart = refl
copied-apart number copy byte (suc n) i apart =
    if-other (i / PAGE_SIZE) (number n) (copy n (i % PAGE_SIZE)) (copied_byte number copy byte n i)
    (λ same. elim (apart n (omega arith)) [ inl before ↦ omega (arith, same) | inr after ↦ omega (arith, same) ])
    ∙ copied-apart number copy byte n i (λ k lt. apart k (omega arith))

-- numbers of other pages are passed over, those before the page and those after it
pub copied-past : (number : ℕ → ℕ) (copy : ℕ → ℕ → ℕ) (byte : ℕ → ℕ) (n i : ℕ) → ((k : ℕ) → k < n → number k < i / PAGE_SIZE)
    → copied_byte number copy byte n i ≡ byte i
copied-past number copy byte zero i below = refl
copied-past number copy byte (suc n) i below =
    let less : number n < i / PAGE_SIZE = below n (omega arith) in
    if-other (i / PAGE_SIZE) (number n) (copy n (i % PAGE_SIZE)) (copied_byte number copy byte n i) (λ same. omega (arith, same, less))
    ∙ copied-past number copy byte n i (λ k lt. below k (omega arith))

pub copied-before : (number : ℕ → ℕ) (copy : ℕ → ℕ → ℕ) (byte : ℕ → ℕ) (more n i : ℕ)
    → ((k : ℕ) → n ≤ k → k < n + more → i / PAGE_SIZE < number k)
    → copied_byte number copy byte (n + more) i ≡ copied_byte number copy byte n i
copied-before number copy byte zero n i above = (let none : n + 0 ≡ n = omega arith in ap (λ (m : ℕ). copied_byte number copy byte m i) none)
copied-before number copy byte (suc more) n i above =
    let next : n + suc more ≡ suc (n + more) = omega arith in
    let greater : i / PAGE_SIZE < number (n + more) = above (n + more) (omega arith) (omega arith) in
    ap (λ (m : ℕ). copied_byte number copy byte m i) next
    ∙ if-other (i / PAGE_SIZE) (number (n + more)) (copy (n + more) (i % PAGE_SIZE)) (copied_byte number copy byte (n + more) i) (λ same. omega (arith, same, greater))
    ∙ copied-before number copy byte more n i (λ k from lt. above k from (omega arith))

-- what is known of a list's numbers, of a list that is the same
pub below-of : (list numbers : List ℕ) (n bound : ℕ) → list ≡ numbers
    → (Ascends (length list) (slice_index list) → (k : ℕ) → k < n → slice_index list k < bound)
    → Ascends (length numbers) (slice_index numbers) → (k : ℕ) → k < n → slice_index numbers k < bound
below-of list numbers n bound same below =
    subst (λ (xs : List ℕ). Ascends (length xs) (slice_index xs) → (k : ℕ) → k < n → slice_index xs k < bound) same below

pub others-of : (list numbers : List ℕ) (n bound : ℕ) → list ≡ numbers
    → (Ascends (length list) (slice_index list) → (k : ℕ) → n ≤ k → k < length list → bound ≤ slice_index list k)
    → Ascends (length numbers) (slice_index numbers) → (k : ℕ) → n ≤ k → k < length numbers → bound ≤ slice_index numbers k
others-of list numbers n bound same others =
    subst (λ (xs : List ℕ). Ascends (length xs) (slice_index xs) → (k : ℕ) → n ≤ k → k < length xs → bound ≤ slice_index xs k) same others

-- before the first place that is looked at, and from the last on, no page has bytes of the buffer
pub copied-from : (number : ℕ → ℕ) (copy : ℕ → ℕ → ℕ) (byte : ℕ → ℕ) (from first at : ℕ) (bytes : List ℕ) → first ≡ at / PAGE_SIZE
    → ((k : ℕ) → k < from → number k < first) → ((k : ℕ) → k < length bytes → slice_index bytes k ≡ byte (at + k))
    → GivesBytes (copied_byte number copy byte from) at bytes
copied-from number copy byte from first at bytes is below gives = record {
  each = λ k lt. gives k lt ∙ sym (copied-past number copy byte from (at + k)
      (λ m before. let less : number m < first = below m before in omega (arith, is, less)));
}

pub copied-to : (number : ℕ → ℕ) (copy : ℕ → ℕ → ℕ) (byte : ℕ → ℕ) (place to count bound at : ℕ) (bytes : List ℕ)
    → bound ≡ at / PAGE_SIZE + (length bytes / PAGE_SIZE + 2) → place ≤ count → to ≤ place
    → ((k : ℕ) → to ≤ k → k < count → bound ≤ number k)
    → GivesBytes (copied_byte number copy byte place) at bytes → GivesBytes (copied_byte number copy byte count) at bytes
copied-to number copy byte place to count bound at bytes is inside past others gives = record {
  each = λ k lt.
      let all : place + (count - place) ≡ count = omega arith in
      gives.each k lt
      ∙ sym (copied-before number copy byte (count - place) place (at + k)
      (λ m from before. let greater : bound ≤ number m = others m (omega arith) (omega arith) in omega (arith, is, greater)))
      ∙ ap (λ (n : ℕ). copied_byte number copy byte n (at + k)) all;
}

-- Bytes that are put over those of a buffer.

part-long : (s n : ℕ) (bytes : List ℕ) → s + n ≤ length bytes → length (take (s + n - s) (drop s bytes)) ≡ n
part-long s n bytes inside = grind (arith, common_steps)

part-at : (s n j : ℕ) (bytes : List ℕ) → s + n ≤ length bytes → j < n → slice_index (take (s + n - s) (drop s bytes)) j ≡ slice_index bytes (s + j)
part-at s n j bytes inside lt = grind (arith, common_steps)

-- a part of them is put where it begins in the buffer
pub put-part : (bytes new : List ℕ) (room at start from skipped count k : ℕ) → from ≡ start - at → skipped ≡ at - start
    → count ≡ min (room - from) (length bytes - skipped)
    → ((j : ℕ) → j < length (take (skipped + count - skipped) (drop skipped bytes))
    → slice_index new (from + j) ≡ slice_index (take (skipped + count - skipped) (drop skipped bytes)) j)
    → k < room → start ≤ at + k → at + k < start + length bytes → slice_index new k ≡ slice_index bytes (at + k - start)
put-part bytes new room at start from skipped count k is_from is_skipped is_count put inside lo hi =
    let fits : skipped + count ≤ length bytes = omega (arith, is_skipped, is_count) in
    let lt : k - from < count = omega (arith, is_from, is_skipped, is_count) in
    let there : from + (k - from) ≡ k = omega (arith, is_from) in
    let spot : skipped + (k - from) ≡ at + k - start = omega (arith, is_from, is_skipped) in
    let long = part-long skipped count bytes fits in
    sym (ap (slice_index new) there) ∙ put (k - from) (omega (arith, long)) ∙ part-at skipped count (k - from) bytes fits lt ∙ ap (slice_index bytes) spot

-- what isn't of a page is before or after it
outside-page : (number start long i : ℕ) → start ≡ PAGE_SIZE * number → long ≡ PAGE_SIZE → (i / PAGE_SIZE ≡ number → ⊥)
    → IsOutside start (start + long) i
outside-page number start long i begins size other = elim (cases_lt i start) [
  | inl before ↦ inl before
  | inr after ↦ elim (cases_lt i (start + long)) [
    | inl within ↦ absurd (other (omega (arith, begins, size)))
    | inr past ↦ inr past
  ]
]

-- a whole page is put
pub page-put : (number start at copy : ℕ) (page old new : List ℕ) (byte : ℕ → ℕ) → start ≡ PAGE_SIZE * number → length page ≡ PAGE_SIZE
    → ((j : ℕ) → j < PAGE_SIZE → slice_index page j ≡ byte (PAGE_SIZE * copy + j))
    → ((k : ℕ) → k < length new → start ≤ at + k → at + k < start + length page → slice_index new k ≡ slice_index page (at + k - start))
    → ((k : ℕ) → IsOutside start (start + length page) (at + k) → slice_index new k ≡ slice_index old k)
    → (k : ℕ) → k < length new
    → slice_index new k ≡ (if ((at + k) / PAGE_SIZE == number) then byte (PAGE_SIZE * copy + (at + k) % PAGE_SIZE) else slice_index old k)
page-put number start at copy page old new byte begins long is inside outside k lt = elim (cases_eq ((at + k) / PAGE_SIZE) number) [
  | inl here ↦
      let spot : at + k - start ≡ (at + k) % PAGE_SIZE = omega (arith, begins, here) in
      inside k lt (omega (arith, begins, here)) (omega (arith, begins, here, long)) ∙ ap (slice_index page) spot
      ∙ is ((at + k) % PAGE_SIZE) (omega arith)
      ∙ sym (if-same ((at + k) / PAGE_SIZE) number (byte (PAGE_SIZE * copy + (at + k) % PAGE_SIZE)) (slice_index old k) here)
  | inr other ↦
      outside k (outside-page number start (length page) (at + k) begins long other)
      ∙ sym (if-other ((at + k) / PAGE_SIZE) number (byte (PAGE_SIZE * copy + (at + k) % PAGE_SIZE)) (slice_index old k) other)
]

-- no byte of the page is in the buffer
pub page-apart : (number start i x y : ℕ) → start ≡ PAGE_SIZE * number → IsOutside start (start + PAGE_SIZE) i
    → y ≡ (if (i / PAGE_SIZE == number) then x else y)
page-apart number start i x y begins apart =
    sym (if-other (i / PAGE_SIZE) number x y
    (λ same. elim apart [ inl before ↦ omega (arith, begins, same) | inr after ↦ omega (arith, begins, same) ]))

-- What is kept in memory says what is shown.

-- the format of page 0, where it is 1, is in the file
format-inside : (content : Content) → ((i : ℕ) → content.size ≤ i → content.byte i ≡ 0) → word_at content.byte 24 ≡ 1 → 27 < content.size
unfolding word_at
format-inside content zeros one = elim (cases_lt 27 content.size) [
  | inl inside ↦ inside
  | inr past ↦ let none : content.byte (24 + 3) ≡ 0 = zeros 27 past in absurd (omega (arith, none, one))
]

first-version : (opened : Bool) (format flag : ℕ) → (not opened && (format == 1 && flag == 0)) ≡ true → format ≡ 1
first-version true format flag is = cc
first-version false format flag is = grind (arith, nat_tests)

formatted-same : (raised : Bool) (one other : ℕ → ℕ) (i : ℕ) → one i ≡ other i → formatted_byte raised one i ≡ formatted_byte raised other i
formatted-same raised one other i same = ap (λ (x : ℕ). if (raised && i == 27) then 2 else x) same

masked-same : (one other : ℕ → ℕ) (i : ℕ) → one i ≡ other i → masked_byte one i ≡ masked_byte other i
masked-same one other i same = ap (λ (x : ℕ). if (nat_le 64 i && nat_lt i 76) then 0 else x) same

masked-zero : (byte : ℕ → ℕ) (i : ℕ) → byte i ≡ 0 → masked_byte byte i ≡ 0
masked-zero byte i none = masked-same byte (λ _. 0) i none ∙ masked-nothing i
  where
    masked-nothing : (k : ℕ) → masked_byte (λ _. 0) k ≡ 0
    masked-nothing k = grind (arith, nat_tests)

formatted-other : (raised : Bool) (byte : ℕ → ℕ) (i : ℕ) → (raised ≡ true → i ≡ 27 → ⊥) → formatted_byte raised byte i ≡ byte i
formatted-other false byte i other = refl
formatted-other true byte i other = if-other i 27 2 (byte i) (other refl)

-- past the end nothing is put
nothing-past : (numbers : List ℕ) (copies : ℕ) (raised : Bool) (content : Content) (copy : ℕ → ℕ → ℕ) (i : ℕ) → IsLook numbers copies raised content
    → ((k : ℕ) → content.size ≤ k → content.byte k ≡ 0) → content.size ≤ i
    → masked_byte (formatted_byte raised (copied_byte (slice_index numbers) copy content.byte (length numbers))) i ≡ 0
nothing-past numbers copies raised content copy i look zeros past =
    let bare = copied_byte (slice_index numbers) copy content.byte (length numbers) in
    masked-zero (formatted_byte raised bare) i
    (formatted-other raised bare i
    (λ is at. let inside : 27 < content.size = format-inside content zeros (first-version (is_open content) (word_at content.byte 24) (content.byte 28) (sym look.format ∙ is)) in omega (arith, at))
    ∙ copied-apart (slice_index numbers) copy content.byte (length numbers) i
    (λ k lt. let inside : PAGE_SIZE * slice_index numbers k + PAGE_SIZE ≤ content.size = look.inside k lt in inr (omega arith))
    ∙ zeros i past)

-- the copies are those of the journal that page 0 names
copies-named : (numbers : List ℕ) (copies : ℕ) (raised : Bool) (content : Content) (i : ℕ) → IsLook numbers copies raised content
    → copied_byte (slice_index numbers) (λ k j. content.byte (PAGE_SIZE * (copies + k) + j)) content.byte (length numbers) i
    ≡ copied_byte (journal_in content).number (journal_in content).copy content.byte (copies_in content) i
copies-named numbers copies raised content i look =
    copied-alike (slice_index numbers) (journal_in content).number (λ k j. content.byte (PAGE_SIZE * (copies + k) + j)) (journal_in content).copy content.byte (length numbers) i
    look.each (λ k j lt within. ap (λ (start : ℕ). content.byte (PAGE_SIZE * (start + k) + j)) (look.start (omega arith)))
    ∙ ap (λ (n : ℕ). copied_byte (journal_in content).number (journal_in content).copy content.byte n i) look.count

pub shown-by : (numbers : List ℕ) (copies : ℕ) (raised : Bool) (content : Content) (at : ℕ) (bytes : List ℕ)
    → ((i : ℕ) → content.size ≤ i → content.byte i ≡ 0) → IsLook numbers copies raised content
    → GivesBytes (masked_byte (formatted_byte raised (copied_byte (slice_index numbers) (λ k j. content.byte (PAGE_SIZE * (copies + k) + j)) content.byte (length numbers)))) at bytes
    → Gives (shown content) at bytes
shown-by numbers copies raised content at bytes zeros look gives = record {
  each = λ k lt. gives.each k lt ∙ elim (cases_lt (at + k) content.size) [
    | inl inside ↦
        masked-same (formatted_byte raised bare) (formatted_byte (is_first_version content) named) (at + k)
        (formatted-same raised bare named (at + k) (copies-named numbers copies raised content (at + k) look)
        ∙ ap (λ (r : Bool). formatted_byte r named (at + k)) look.format)
        ∙ sym (if-below (at + k) content.size (shown_byte content (at + k)) 0 inside)
    | inr past ↦
        nothing-past numbers copies raised content (λ m j. content.byte (PAGE_SIZE * (copies + m) + j)) (at + k) look zeros past
        ∙ sym (if-past (at + k) content.size (shown_byte content (at + k)) 0 past)
  ];
}
  where
    bare : ℕ → ℕ
    bare = copied_byte (slice_index numbers) (λ k j. content.byte (PAGE_SIZE * (copies + k) + j)) content.byte (length numbers)

    named : ℕ → ℕ
    named = copied_byte (journal_in content).number (journal_in content).copy content.byte (copies_in content)

-- Of the pages that stand after recovery.

same-count : (raised : Bool) (format : ℕ) (pages : FilePages) → (in_format raised format pages).count ≡ pages.count
same-count false format pages = refl
same-count true format pages = refl

-- format 2 in place of 1
format-shown : (raised : Bool) (pages : FilePages) (byte : ℕ → ℕ) (i : ℕ) → byte i ≡ pages.byte i
    → formatted_byte raised byte i ≡ (in_format raised 2 pages).byte i
format-shown false pages byte i same = same
format-shown true pages byte i same = ap (λ (x : ℕ). if i == 27 then 2 else x) same

-- a journal that a content tells is the one that page 0 names
number-named : (content : Content) (journal : Journal) (k : ℕ) → Tells content journal → k < journal.count
    → (journal_in content).number k ≡ journal.number k
number-named content journal k tells lt =
    ap (λ (first : ℕ). word_at content.byte (PAGE_SIZE * first + 4 * k)) tells.there.fields.first_page
    ∙ tells.there.numbers.each k lt (omega arith)

copy-named : (content : Content) (journal : Journal) (k j : ℕ) → Tells content journal → k < journal.count → j < PAGE_SIZE
    → (journal_in content).copy k j ≡ journal.copy k j
copy-named content journal k j tells lt within =
    let first : word_at content.byte 68 ≡ journal.first = tells.there.fields.first_page in
    let pages : number_pages (word_at content.byte 72) ≡ number_pages journal.count = ap number_pages tells.there.fields.copies in
    let spot : PAGE_SIZE * (word_at content.byte 68 + number_pages (word_at content.byte 72) + k) + j ≡ PAGE_SIZE * (copies_start journal + k) + j
    = omega (arith, first, pages) in
    ap content.byte spot ∙ tells.there.copies.each k j lt within

-- the bytes that a journal leaves, one by one
copied-of : (content : Content) (pages : FilePages) (by : RecoversBy content pages) (i : ℕ) → i < PAGE_SIZE * pages.count → IsOfPages i
    → copied_byte (journal_in content).number (journal_in content).copy content.byte by.journal.count i ≡ pages.byte i
copied-of content pages by i lt own =
    let first : word_at content.byte 68 ≡ by.journal.first = by.tells.there.fields.first_page in
    let count : word_at content.byte 72 ≡ by.journal.count = by.tells.there.fields.copies in
    let alike : copied_byte (journal_in content).number (journal_in content).copy content.byte by.journal.count i
    ≡ copied_byte by.journal.number by.journal.copy content.byte by.journal.count i
    = copied-alike (journal_in content).number by.journal.number (journal_in content).copy by.journal.copy content.byte by.journal.count i
    (λ k inside. number-named content by.journal k by.tells inside) (λ k j inside within. copy-named content by.journal k j by.tells inside within) in
    alike ∙ elim (apart-or by.journal.count by.journal.number i) [
      | inl f ↦
          let is : i ≡ PAGE_SIZE * by.journal.number f.place + f.offset = f.is in
          copied-inside by.journal.number by.journal.copy content.byte by.journal.count i f.place f.offset by.tells.well_formed.ascending f.lt f.within is
          ∙ sym (by.overlays.copied f.place f.offset f.lt f.within (omega arith) (subst IsOfPages is own)) ∙ ap pages.byte (sym is)
      | inr apart ↦
          copied-apart by.journal.number by.journal.copy content.byte by.journal.count i apart ∙ by.overlays.others i lt own apart
    ]

-- what a look shows before the end and outside the gate
shown-own : (content : Content) (i : ℕ) → i < content.size → IsOfPages i → (shown content).byte i
    ≡ formatted_byte (is_first_version content) (copied_byte (journal_in content).number (journal_in content).copy content.byte (copies_in content)) i
shown-own content i inside own =
    if-below i content.size (shown_byte content i) 0 inside
    ∙ masked-outside (formatted_byte (is_first_version content) (copied_byte (journal_in content).number (journal_in content).copy content.byte (copies_in content))) i own

no-copies : (opened : Bool) (count : ℕ) → opened ≡ false → (if opened then count else 0) ≡ 0
no-copies opened count shut = ap (λ (b : Bool). if b then count else 0) shut

all-copies : (opened : Bool) (count : ℕ) → opened ≡ true → (if opened then count else 0) ≡ count
all-copies opened count is = ap (λ (b : Bool). if b then count else 0) is

same-test : (a b : ℕ) → a ≡ b → (a == b) ≡ true
same-test a b same = grind (arith, nat_tests)

other-test : (a b : ℕ) → (a ≡ b → ⊥) → (a == b) ≡ false
other-test a b other = grind (arith, nat_tests)

-- the bytes without a mask, of pages that stand after recovery
bare-of : (content : Content) (pages : FilePages) (i : ℕ) → Recovers content pages → i < PAGE_SIZE * pages.count → IsOfPages i
    → copied_byte (journal_in content).number (journal_in content).copy content.byte (copies_in content) i ≡ pages.byte i
bare-of content pages i gives lt own = elim (cases_eq (content.byte 64) 1) [
  | inl opened ↦
      let by = gives.opened opened in
      let count : copies_in content ≡ by.journal.count
      = all-copies (content.byte 64 == 1) (journal_in content).count (same-test (content.byte 64) 1 opened) ∙ by.tells.there.fields.copies in
      ap (λ (n : ℕ). copied_byte (journal_in content).number (journal_in content).copy content.byte n i) count ∙ copied-of content pages by i lt own
  | inr closed ↦
      let count : copies_in content ≡ 0 = no-copies (content.byte 64 == 1) (journal_in content).count (other-test (content.byte 64) 1 closed) in
      ap (λ (n : ℕ). copied_byte (journal_in content).number (journal_in content).copy content.byte n i) count ∙ (gives.shut closed).bytes i lt own
]

recovered-size : (content : Content) (pages : FilePages) → Recovers content pages → PAGE_SIZE * pages.count ≤ content.size
recovered-size content pages gives = elim (cases_eq (content.byte 64) 1) [
  | inl opened ↦ (gives.opened opened).overlays.size
  | inr closed ↦ (gives.shut closed).size
]

-- a look shows the pages that stand after recovery
pub shows_pages : (content : Content) (pages : FilePages) → Recovers content pages → HasPages (as_shown content pages) (shown content)
shows_pages content pages gives =
    let count : (as_shown content pages).count ≡ pages.count = same-count (is_first_version content) 2 pages in
    let long : PAGE_SIZE * pages.count ≤ content.size = recovered-size content pages gives in
    record {
      size = omega (arith, count, long);
      bytes = λ i lt own.
          let inside : i < PAGE_SIZE * pages.count = omega (arith, count) in
          shown-own content i (omega (arith, long, inside)) own
          ∙ format-shown (is_first_version content) pages (copied_byte (journal_in content).number (journal_in content).copy content.byte (copies_in content)) i
          (bare-of content pages i gives inside own);
    }

-- what is told of an open gate
told-own : (content : Content) (pages : FilePages) (i : ℕ) → HasPages pages (shown content) → i < PAGE_SIZE * pages.count → IsOfPages i
    → formatted_byte (is_first_version content) (copied_byte (journal_in content).number (journal_in content).copy content.byte (copies_in content)) i ≡ pages.byte i
told-own content pages i has lt own =
    let long : PAGE_SIZE * pages.count ≤ content.size = has.size in
    sym (shown-own content i (omega (arith, long)) own) ∙ has.bytes i lt own

not-first : (opened : Bool) (rest : Bool) → opened ≡ true → (not opened && rest) ≡ false
not-first opened rest is = ap (λ (b : Bool). not b && rest) is

-- with an open gate no format is shown in place of another
told-open : (content : Content) (pages : FilePages) (i : ℕ) → content.byte 64 ≡ 1 → HasPages pages (shown content) → i < PAGE_SIZE * pages.count → IsOfPages i
    → copied_byte (journal_in content).number (journal_in content).copy content.byte (journal_in content).count i ≡ pages.byte i
told-open content pages i is has lt own =
    let opened : (content.byte 64 == 1) ≡ true = same-test (content.byte 64) 1 is in
    let bare : ℕ → ℕ = copied_byte (journal_in content).number (journal_in content).copy content.byte (copies_in content) in
    let count : copies_in content ≡ (journal_in content).count = all-copies (content.byte 64 == 1) (journal_in content).count opened in
    let plain : is_first_version content ≡ false = not-first (content.byte 64 == 1) (word_at content.byte 24 == 1 && content.byte 28 == 0) opened in
    ap (λ (n : ℕ). copied_byte (journal_in content).number (journal_in content).copy content.byte n i) (sym count)
    ∙ ap (λ (r : Bool). formatted_byte r bare i) (sym plain)
    ∙ told-own content pages i has lt own

-- the format that a closed file of version 1 has
first-byte : (content : Content) → is_first_version content ≡ true → content.byte 27 ≡ 1
unfolding word_at
first-byte content is =
    let word : word_at content.byte 24 ≡ 1 = first-version (is_open content) (word_at content.byte 24) (content.byte 28) is in
    let spot : content.byte 27 ≡ content.byte (24 + 3) = ap content.byte (omega arith) in
    omega (arith, word, spot)

format-kept : (raised : Bool) (pages : FilePages) (byte : ℕ → ℕ) (i : ℕ) → (raised ≡ true → byte 27 ≡ 1)
    → formatted_byte raised byte i ≡ pages.byte i → byte i ≡ (in_format raised 1 pages).byte i
format-kept false pages byte i first same = same
format-kept true pages byte i first same = elim (cases_eq i 27) [
  | inl at ↦ ap byte at ∙ first refl ∙ sym (if-same i 27 1 (pages.byte i) at)
  | inr other ↦ sym (if-other i 27 2 (byte i) other) ∙ same ∙ sym (if-other i 27 1 (pages.byte i) other)
]

plain-pages : (raised : Bool) (format : ℕ) (content : Content) (pages : FilePages) → raised ≡ false → RecoversBy content pages
    → RecoversBy content (in_format raised format pages)
plain-pages false format content pages is by = by
plain-pages true format content pages is by = cc

-- what a look shows are the pages that stand after recovery
pub shown_recovers : (content : Content) (pages : FilePages) → (content.byte 64 ≡ 1 → IsTold content) → HasPages pages (shown content)
    → Recovers content (as_kept content pages)
shown_recovers content pages told has = record {
  opened = λ is.
      let journal = (told is).journal in
      let tells = (told is).tells in
      let plain : is_first_version content ≡ false
      = not-first (content.byte 64 == 1) (word_at content.byte 24 == 1 && content.byte 28 == 0) (same-test (content.byte 64) 1 is) in
      let count : (journal_in content).count ≡ journal.count = tells.there.fields.copies in
      let ascends : Ascends (journal_in content).count (journal_in content).number = λ j k before lt.
      let less : journal.number j < journal.number k = tells.well_formed.ascending j k before (omega (arith, count)) in
      let one = number-named content journal j tells (omega (arith, count)) in
      let other = number-named content journal k tells (omega (arith, count)) in
      omega (arith, less, one, other) in
      plain-pages (is_first_version content) 1 content pages plain (record {
        journal = journal;
        tells = tells;
        overlays = record {
          copied = λ k j lt within below own.
              let number = number-named content journal k tells lt in
              sym (told-open content pages (PAGE_SIZE * journal.number k + j) is has below own)
              ∙ copied-inside (journal_in content).number (journal_in content).copy content.byte (journal_in content).count (PAGE_SIZE * journal.number k + j) k j
              ascends (omega (arith, count)) within (omega (arith, number))
              ∙ copy-named content journal k j tells lt within;
          others = λ i lt own apart.
              sym (copied-apart (journal_in content).number (journal_in content).copy content.byte (journal_in content).count i
              (λ k lt'. subst (λ (n : ℕ). IsOutside (PAGE_SIZE * n) (PAGE_SIZE * n + PAGE_SIZE) i)
              (sym (number-named content journal k tells (omega (arith, count)))) (apart k (omega (arith, count)))))
              ∙ told-open content pages i is has lt own;
          size = has.size;
        };
      });
  shut = λ closed.
      let none : copies_in content ≡ 0 = no-copies (content.byte 64 == 1) (journal_in content).count (other-test (content.byte 64) 1 closed) in
      let count : (as_kept content pages).count ≡ pages.count = same-count (is_first_version content) 1 pages in
      let long : PAGE_SIZE * pages.count ≤ content.size = has.size in
      record {
        size = omega (arith, count, long);
        bytes = λ i lt own.
            format-kept (is_first_version content) pages content.byte i (first-byte content)
            (formatted-same (is_first_version content) content.byte
            (copied_byte (journal_in content).number (journal_in content).copy content.byte (copies_in content)) i
            (sym (ap (λ (n : ℕ). copied_byte (journal_in content).number (journal_in content).copy content.byte n i) none))
            ∙ told-own content pages i has (omega (arith, count)) own);
      };
}

-- the gate is shown closed
pub shown-shut : (content : Content) → (shown content).byte 64 ≡ 0
shown-shut content = elim (cases_lt 64 content.size) [
  | inl inside ↦
      if-below 64 content.size (shown_byte content 64) 0 inside
      ∙ masked-inside (formatted_byte (is_first_version content) (copied_byte (journal_in content).number (journal_in content).copy content.byte (copies_in content)))
      64 (omega arith) (omega arith)
  | inr past ↦ if-past 64 content.size (shown_byte content 64) 0 past
]

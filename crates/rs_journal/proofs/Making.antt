-- The pages that a journal makes, and the pages that an image gives.
use Rattle.std.proofs.lemmas.Bool.{cases_lt, cases_eq}
use Rattle.std.proofs.Common.{◌≡◌, ◌⊎◌, inl, inr, ℕ, ◌+◌, ◌*◌, ◌/◌, ◌<◌, ◌≤◌, arith, refl, sym, ap, ◌∙◌, subst}
use Rattle.rs_disk.specs.Content.{Content}
use Rattle.rs_page.specs.declared.page.TheConstants.{PAGE_SIZE}
use Rattle.rs_journal.specs.FilePages.{FilePages, IsOfPages, SamePages, word_at}
use Rattle.rs_journal.specs.Journal.{Journal, Ascends, IsWellFormed, Recovers, RecoversBy, Tells, Fills, MadePages, IsNotCopied, number_pages, copies_start}
use Rattle.rs_journal.specs.Recovery.{SaysCount}
use Rattle.rs_journal.proofs.Staging.{Found, apart-or}
use Rattle.rs_journal.proofs.Words.{word-same}
use Rattle.rs_disk.specs.Reaches.{IsOutside}

-- the byte that a journal makes at an offset, which lies in a page that it copies or in none
byte_of : (journal : Journal) → FilePages → (i : ℕ) → Found journal.count journal.number i ⊎ IsNotCopied journal i → ℕ
byte_of journal kept i (inl f) = journal.copy f.place f.offset
byte_of journal kept i (inr apart) = kept.byte i

-- numbers that ascend are those of one place each
one-place : (count : ℕ) (number : ℕ → ℕ) (j k : ℕ) → Ascends count number → j < count → k < count → number j ≡ number k → j ≡ k
one-place count number j k ascends lt lt' same = elim (cases_lt j k) [
  | inl before ↦ let less : number j < number k = ascends j k before lt' in absurd (omega (arith, same))
  | inr not ↦ elim (cases_lt k j) [
    | inl after ↦ let less : number k < number j = ascends k j after lt in absurd (omega (arith, same))
    | inr same' ↦ omega arith
  ]
]

byte-copied : (journal : Journal) (kept : FilePages) (i k j : ℕ) (where_is : Found journal.count journal.number i ⊎ IsNotCopied journal i)
    → Ascends journal.count journal.number → k < journal.count → j < PAGE_SIZE → i ≡ PAGE_SIZE * journal.number k + j
    → byte_of journal kept i where_is ≡ journal.copy k j
unfolding byte_of
byte-copied journal kept i k j (inl f) ascends lt within is =
    let there : i ≡ PAGE_SIZE * journal.number f.place + f.offset = f.is in
    let inside : f.offset < PAGE_SIZE = f.within in
    let number : journal.number f.place ≡ journal.number k = omega (arith, there, is) in
    let place : f.place ≡ k = one-place journal.count journal.number f.place k ascends f.lt lt number in
    let offset : f.offset ≡ j = omega (arith, there, is, number) in
    ap (λ m. journal.copy m f.offset) place ∙ ap (journal.copy k) offset
byte-copied journal kept i k j (inr apart) ascends lt within is = elim (apart k lt) [
  | inl before ↦ absurd (omega (arith, is))
  | inr after ↦ absurd (omega (arith, is))
]

byte-apart : (journal : Journal) (kept : FilePages) (i : ℕ) (where_is : Found journal.count journal.number i ⊎ IsNotCopied journal i)
    → IsNotCopied journal i → byte_of journal kept i where_is ≡ kept.byte i
unfolding byte_of
byte-apart journal kept i (inl f) apart =
    let there : i ≡ PAGE_SIZE * journal.number f.place + f.offset = f.is in
    let inside : f.offset < PAGE_SIZE = f.within in
    elim (apart f.place f.lt) [
      | inl before ↦ absurd (omega (arith, there))
      | inr after ↦ absurd (omega (arith, there))
    ]
byte-apart journal kept i (inr _) apart = refl

-- a byte that no copy has is one of the pages kept last
old-byte : (journal : Journal) (from to i : ℕ) → Fills journal from to → i < PAGE_SIZE * to → IsNotCopied journal i → i < PAGE_SIZE * from
old-byte journal from to i fills lt apart = elim (cases_lt i (PAGE_SIZE * from)) [
  | inl inside ↦ inside
  | inr past ↦
      let copied = fills (i / PAGE_SIZE) (omega arith) (omega arith) in
      let is : journal.number copied.place ≡ i / PAGE_SIZE = copied.is in
      absurd (elim (apart copied.place copied.inside) [
        | inl before ↦ omega (arith, is)
        | inr after ↦ omega (arith, is)
      ])
]

pub makes_pages : (journal : Journal) (kept : FilePages) (count : ℕ) → IsWellFormed journal → 0 < kept.count → 0 < count
    → kept.count ≤ journal.first → count ≤ journal.first → Fills journal kept.count count → MadePages journal kept count
makes_pages journal kept count well some_kept some after_kept after fills = record {
  checkpoint = record {
    count = count;
    byte = λ i. byte_of journal kept i (apart-or journal.count journal.number i);
  };
  counts = refl;
  makes = record {
    carries = record {
      well_formed = well;
      some = some;
      copied = λ k j lt within _ _. byte-copied journal kept (PAGE_SIZE * journal.number k + j) k j _ well.ascending lt within refl;
    };
    some_kept = some_kept;
    after_kept = after_kept;
    after = after;
    others = λ i lt _ apart. (old-byte journal kept.count count i fills lt apart, sym (byte-apart journal kept i _ apart));
    no_copy = λ none. elim (cases_lt kept.count count) [
      | inl more ↦ let copied = fills kept.count (omega arith) more in
          let inside : copied.place < journal.count = copied.inside in absurd (omega (arith, none))
      | inr no_more ↦ omega arith
    ];
  };
}

-- Two journals of one image are alike.

numbers-alike : (image : Content) (one other : Journal) (k : ℕ) → Tells image one → Tells image other → k < one.count
    → one.number k ≡ other.number k
numbers-alike image one other k tells tells' lt =
    let first : one.first ≡ other.first = sym tells.there.fields.first_page ∙ tells'.there.fields.first_page in
    let count : one.count ≡ other.count = sym tells.there.fields.copies ∙ tells'.there.fields.copies in
    let mine : word_at image.byte (PAGE_SIZE * one.first + 4 * k) ≡ one.number k = tells.there.numbers.each k lt (omega arith) in
    let theirs : word_at image.byte (PAGE_SIZE * other.first + 4 * k) ≡ other.number k
    = tells'.there.numbers.each k (omega (arith, count)) (omega (arith, count)) in
    sym mine ∙ ap (λ first. word_at image.byte (PAGE_SIZE * first + 4 * k)) first ∙ theirs

copies-alike : (image : Content) (one other : Journal) (k j : ℕ) → Tells image one → Tells image other → k < one.count
    → j < PAGE_SIZE → one.copy k j ≡ other.copy k j
copies-alike image one other k j tells tells' lt within =
    let first : one.first ≡ other.first = sym tells.there.fields.first_page ∙ tells'.there.fields.first_page in
    let count : one.count ≡ other.count = sym tells.there.fields.copies ∙ tells'.there.fields.copies in
    let mine = tells.there.copies.each k j lt within in
    let theirs = tells'.there.copies.each k j (omega (arith, count)) within in
    let pages : number_pages one.count ≡ number_pages other.count = ap number_pages count in
    let at : PAGE_SIZE * (copies_start one + k) + j ≡ PAGE_SIZE * (copies_start other + k) + j = omega (arith, first, pages) in
    sym mine ∙ ap image.byte at ∙ theirs

apart-alike : (image : Content) (one other : Journal) (i : ℕ) → Tells image one → Tells image other → IsNotCopied one i → IsNotCopied other i
apart-alike image one other i tells tells' apart = λ k lt.
    let count : one.count ≡ other.count = sym tells.there.fields.copies ∙ tells'.there.fields.copies in
    let lt' : k < one.count = omega (arith, count) in
    subst (λ n. IsOutside (PAGE_SIZE * n) (PAGE_SIZE * n + PAGE_SIZE) i) (numbers-alike image one other k tells tells' lt') (apart k lt')

-- the bytes that two maps of one image both have
open-bytes : (image : Content) (one other : FilePages) (i : ℕ) → RecoversBy image one → RecoversBy image other
    → i < PAGE_SIZE * one.count → i < PAGE_SIZE * other.count → IsOfPages i → one.byte i ≡ other.byte i
open-bytes image one other i by by' lt lt' own = elim (apart-or by.journal.count by.journal.number i) [
  | inl f ↦
      let is : i ≡ PAGE_SIZE * by.journal.number f.place + f.offset = f.is in
      let number = numbers-alike image by.journal by'.journal f.place by.tells by'.tells f.lt in
      let is' : i ≡ PAGE_SIZE * by'.journal.number f.place + f.offset = omega (arith, is, number) in
      let count : by.journal.count ≡ by'.journal.count = sym by.tells.there.fields.copies ∙ by'.tells.there.fields.copies in
      let inside : f.place < by.journal.count = f.lt in
      let mine = by.overlays.copied f.place f.offset f.lt f.within (omega arith) (subst IsOfPages is own) in
      let theirs = by'.overlays.copied f.place f.offset (omega (arith, count)) f.within (omega (arith, is')) (subst IsOfPages is' own) in
      ap one.byte is ∙ mine ∙ copies-alike image by.journal by'.journal f.place f.offset by.tells by'.tells f.lt f.within
      ∙ sym theirs ∙ sym (ap other.byte is')
  | inr apart ↦
      sym (by.overlays.others i lt own apart)
      ∙ by'.overlays.others i lt' own (apart-alike image by.journal by'.journal i by.tells by'.tells apart)
]

both-bytes : (image : Content) (one other : FilePages) (i : ℕ) → Recovers image one → Recovers image other
    → i < PAGE_SIZE * one.count → i < PAGE_SIZE * other.count → IsOfPages i → one.byte i ≡ other.byte i
both-bytes image one other i gives gives' lt lt' own = elim (cases_eq (image.byte 64) 1) [
  | inl opened ↦ open-bytes image one other i (gives.opened opened) (gives'.opened opened) lt lt' own
  | inr closed ↦ sym ((gives.shut closed).bytes i lt own) ∙ (gives'.shut closed).bytes i lt' own
]

pub one_map : (image : Content) (one other : FilePages) → SaysCount one → SaysCount other
    → Recovers image one → Recovers image other → SamePages one other
one_map image one other says says' gives gives' =
    let some : 0 < one.count = says.some in
    let some' : 0 < other.count = says'.some in
    let word : word_at one.byte 32 ≡ word_at other.byte 32
    = word-same one.byte other.byte 32 (λ k lt. both-bytes image one other (32 + k) gives gives' (omega arith) (omega arith) (inl (omega arith))) in
    let count : one.count ≡ other.count = sym says.says ∙ word ∙ says'.says in
    record {
      count = count;
      bytes = λ i lt own. both-bytes image one other i gives gives' lt (omega (arith, count)) own;
    }

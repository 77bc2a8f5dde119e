-- What a look shows of a file is a file of the same pages.
use Rattle.std.proofs.Common.{◌≡◌, ◌≢◌, ◌⊎◌, inl, inr, ℕ, ◌+◌, ◌*◌, ◌<◌, ◌≤◌, Bool, true, false, List, length, slice_index, refl, sym, ap, ◌∙◌, subst, arith}
use Rattle.std.specs.Prelude.{◌==◌, ◌&&◌, not, None, if◌then◌else◌}
use Rattle.std.proofs.lemmas.Bool.{cases_eq, cases_lt}
use Rattle.std.proofs.lemmas.Bool.Decides.{nat_tests}
use Rattle.std.proofs.lemmas.List.{get_or_past}
use Rattle.rs_disk.specs.Content.{Content}
use Rattle.rs_page.specs.Number.{number_at}
use Rattle.rs_page.specs.Header.{IsHeader}
use Rattle.rs_page.specs.declared.file_header.FileHeader.{FileHeader}
use Rattle.rs_page.specs.declared.header.PageHeader.{PageHeader}
use Rattle.rs_page.specs.declared.page.TheConstants.{PAGE_SIZE}
use Rattle.rs_page.proofs.Numbers.{number_at-same, byte_at}
use Rattle.rs_pages.specs.PageMap.{PageMap, SamePages}
use Rattle.rs_pages.proofs.Stores.{SamePages-trans}
use Rattle.rs_page_cache.specs.Stored.{disk_page}
use Rattle.rs_journal.specs.FilePages.{FilePages, HasPages, IsOfPages, word_at}
use Rattle.rs_journal.specs.Journal.{IsTold, Recovers}
use Rattle.rs_journal.specs.Look.{as_kept, in_format, is_first_version, is_open, shown}
use Rattle.rs_journal.specs.Recovery.{IsDamaged}
use Rattle.rs_journal.proofs.Looking.{shows_pages, shown_recovers, shown-shut}
use Rattle.rs_journal.proofs.Words.{word-same}
use Rattle.rs_pager.specs.FirstHeader.{IsFirstHeader}
use Rattle.rs_pager.specs.Lasts.{GivesMap}
use Rattle.rs_pager.specs.LookedAt.{GivesFirst, IsFileOfNone, ShowsSameFile}
use Rattle.rs_pager.specs.Opening.{pages_of}
use Rattle.rs_pager.specs.SecondHeader.{EndsInOwnZeros, IsSecondHeader}
use Rattle.rs_pager.specs.Stored.{content_of_pages, stored_map}
use Rattle.rs_pager.specs.Versions.{IsFileOfPages, StoresFirst}
use Rattle.rs_pager.proofs.Checkpoints.{stored-inside}
use Rattle.rs_pager.proofs.DiskBytes.{disk_page-at, disk_page-same, length-disk_page}
use Rattle.rs_pager.proofs.Keeping.{ArePages-same}
use Rattle.rs_pager.proofs.Versions.{are-own, at_zero, first-shut, given-plain, has-header, has-own, open-plain, other-test, same-test, same-format, kept-format, word-first}

-- ---- headers of both versions

-- two pages agree but for the format's last byte, the gate and the journal's fields
record AgreeBut (one other : List ℕ) : Type 0 where
  pub each : (k : ℕ) → k < 4096 → IsOfPages k → k ≢ 27 → slice_index one k ≡ slice_index other k

module _ (one other : List ℕ) (agree : AgreeBut one other) where
  low_number : (at n : ℕ) → at + n ≤ 27 → number_at at n other ≡ number_at at n one
  low_number at n room = number_at-same at n one other (λ i lo hi. sym (agree.each i (omega arith) (inl (omega arith)) (λ is. omega (arith, is))))

  high_number : (at n : ℕ) → 28 ≤ at → at + n ≤ 64 → number_at at n other ≡ number_at at n one
  high_number at n past room = number_at-same at n one other (λ i lo hi. sym (agree.each i (omega arith) (inl (omega arith)) (λ is. omega (arith, is))))

  own_number : (k : ℕ) → k < 4096 → IsOfPages k → k ≢ 27 → number_at k 1 other ≡ number_at k 1 one
  own_number k lt own not_format =
      number_at-same k 1 one other (λ i lo hi. let at : k ≡ i = omega arith in sym (agree.each i (omega arith) (subst IsOfPages at own) (subst (λ (n : ℕ). n ≢ 27) at not_format)))

  header_kept : (header : PageHeader) → IsHeader one header → IsHeader other header
  header_kept header is = record {
    kind = low_number 0 1 (omega arith) ∙ is.kind;
    zero = low_number 1 1 (omega arith) ∙ is.zero;
    count = low_number 2 2 (omega arith) ∙ is.count;
    number = low_number 4 4 (omega arith) ∙ is.number;
    next = low_number 8 4 (omega arith) ∙ is.next;
    zeros = low_number 12 4 (omega arith) ∙ is.zeros;
  }

  zeros_kept : length other ≡ 4096 → EndsInOwnZeros one → EndsInOwnZeros other
  zeros_kept size is = record {
    each = λ k past own. elim (cases_lt k 4096) [
      | inl inside ↦ own_number k inside own (λ at. omega (arith, at, past)) ∙ is.each k past own
      | inr outside ↦ byte_at k other ∙ get_or_past other k 0 (omega (arith, size))
    ];
  }

  -- page 0 of version 1 that is raised to version 2
  raised_header : (fields : FileHeader) → length other ≡ 4096 → number_at 24 4 other ≡ 2 → number_at 28 1 one ≡ 0 → IsFirstHeader one fields → IsSecondHeader other fields
  raised_header fields size format flag is = record {
    first = header_kept _ is.first;
    marks = record {
      magic = low_number 16 4 (omega arith) ∙ is.marks.magic;
      magic_end = low_number 20 4 (omega arith) ∙ is.marks.magic_end;
      format = format;
      flag = high_number 28 1 (omega arith) (omega arith) ∙ flag;
      unused = high_number 29 2 (omega arith) (omega arith) ∙ is.marks.unused;
      unused_too = high_number 31 1 (omega arith) (omega arith) ∙ is.marks.unused_too;
    };
    zeros = zeros_kept size is.zeros;
    pages = high_number 32 4 (omega arith) (omega arith) ∙ is.pages;
    first_free = high_number 36 4 (omega arith) (omega arith) ∙ is.first_free;
    free_pages = high_number 40 4 (omega arith) (omega arith) ∙ is.free_pages;
    catalogue = high_number 44 4 (omega arith) (omega arith) ∙ is.catalogue;
    catalogue_length = high_number 48 4 (omega arith) (omega arith) ∙ is.catalogue_length;
  }

  -- and one of version 2 that was raised
  lowered_header : (fields : FileHeader) → length other ≡ 4096 → number_at 24 4 other ≡ 1 → number_at 64 1 other ≢ 1 → IsSecondHeader one fields → IsFirstHeader other fields
  lowered_header fields size format shut is = record {
    first = header_kept _ is.first;
    marks = record {
      magic = low_number 16 4 (omega arith) ∙ is.marks.magic;
      magic_end = low_number 20 4 (omega arith) ∙ is.marks.magic_end;
      format = format;
      unused = high_number 29 2 (omega arith) (omega arith) ∙ is.marks.unused;
      unused_too = high_number 31 1 (omega arith) (omega arith) ∙ is.marks.unused_too;
      shut = shut;
    };
    zeros = zeros_kept size is.zeros;
    pages = high_number 32 4 (omega arith) (omega arith) ∙ is.pages;
    first_free = high_number 36 4 (omega arith) (omega arith) ∙ is.first_free;
    free_pages = high_number 40 4 (omega arith) (omega arith) ∙ is.free_pages;
    catalogue = high_number 44 4 (omega arith) (omega arith) ∙ is.catalogue;
    catalogue_length = high_number 48 4 (omega arith) (omega arith) ∙ is.catalogue_length;
  }

  -- page 0 of version 1 as it is
  first_header : (fields : FileHeader) → length other ≡ 4096 → number_at 24 4 other ≡ 1 → number_at 64 1 other ≢ 1 → IsFirstHeader one fields → IsFirstHeader other fields
  first_header fields size format shut is = record {
    first = header_kept _ is.first;
    marks = record {
      magic = low_number 16 4 (omega arith) ∙ is.marks.magic;
      magic_end = low_number 20 4 (omega arith) ∙ is.marks.magic_end;
      format = format;
      unused = high_number 29 2 (omega arith) (omega arith) ∙ is.marks.unused;
      unused_too = high_number 31 1 (omega arith) (omega arith) ∙ is.marks.unused_too;
      shut = shut;
    };
    zeros = zeros_kept size is.zeros;
    pages = high_number 32 4 (omega arith) (omega arith) ∙ is.pages;
    first_free = high_number 36 4 (omega arith) (omega arith) ∙ is.first_free;
    free_pages = high_number 40 4 (omega arith) (omega arith) ∙ is.free_pages;
    catalogue = high_number 44 4 (omega arith) (omega arith) ∙ is.catalogue;
    catalogue_length = high_number 48 4 (omega arith) (omega arith) ∙ is.catalogue_length;
  }

-- ---- formats

same_count : (raised : Bool) (format : ℕ) (pages : FilePages) → (in_format raised format pages).count ≡ pages.count
same_count false format pages = refl
same_count true format pages = refl

if_other : (i k a b : ℕ) → i ≢ k → (if i == k then a else b) ≡ b
if_other i k a b other = ap (λ (t : Bool). if t then a else b) (other-test i k other)

if_same : (i k a b : ℕ) → i ≡ k → (if i == k then a else b) ≡ a
if_same i k a b same = ap (λ (t : Bool). if t then a else b) (same-test i k same)

other_byte : (raised : Bool) (format : ℕ) (pages : FilePages) (i : ℕ) → i ≢ 27 → (in_format raised format pages).byte i ≡ pages.byte i
other_byte false format pages i other = refl
other_byte true format pages i other = if_other i 27 format (pages.byte i) other

plain_byte : (raised : Bool) (format : ℕ) (pages : FilePages) (i : ℕ) → raised ≡ false → (in_format raised format pages).byte i ≡ pages.byte i
plain_byte false format pages i is = refl
plain_byte true format pages i is = cc

raised_byte : (raised : Bool) (format : ℕ) (pages : FilePages) → raised ≡ true → (in_format raised format pages).byte 27 ≡ format
raised_byte true format pages is = if_same 27 27 format (pages.byte 27) refl
raised_byte false format pages is = cc

and_true : (a b : Bool) → (a && b) ≡ true → (a ≡ true) × (b ≡ true)
and_true true b is = (refl, is)
and_true false b is = cc

not_true : (a : Bool) → not a ≡ true → a ≡ false
not_true false is = refl
not_true true is = cc

test_is : (a b : ℕ) → (a == b) ≡ true → a ≡ b
test_is a b is = grind (arith, nat_tests)

shut_test : (a b : ℕ) → (a == b) ≡ false → a ≢ b
shut_test a b is same = grind (arith, nat_tests)

-- a closed file of version 1 has a gate that isn't open, format 1 and a flag of 0
pub record IsClosedFirst (content : Content) : Type 0 where
  pub shut : content.byte 64 ≢ 1
  pub format : word_at content.byte 24 ≡ 1
  pub flag : content.byte 28 ≡ 0

closed_first : (content : Content) → is_first_version content ≡ true → IsClosedFirst content
closed_first content is =
    let one = and_true (not (is_open content)) (word_at content.byte 24 == 1 && content.byte 28 == 0) is in
    let two = and_true (word_at content.byte 24 == 1) (content.byte 28 == 0) one.1 in
    record {
      shut = shut_test (content.byte 64) 1 (not_true (is_open content) one.0);
      format = test_is (word_at content.byte 24) 1 two.0;
      flag = test_is (content.byte 28) 0 two.1;
    }

is_closed_first : (content : Content) → content.byte 64 ≢ 1 → word_at content.byte 24 ≡ 1 → content.byte 28 ≡ 0 → is_first_version content ≡ true
is_closed_first content shut format flag =
    ap (λ (b : Bool). not b && (word_at content.byte 24 == 1 && content.byte 28 == 0)) (other-test (content.byte 64) 1 shut)
    ∙ ap (λ (b : Bool). b && content.byte 28 == 0) (same-test (word_at content.byte 24) 1 format)
    ∙ same-test (content.byte 28) 0 flag

flag_plain : (opened one : Bool) (flag : ℕ) → flag ≢ 0 → (not opened && (one && flag == 0)) ≡ false
flag_plain true one flag other = refl
flag_plain false false flag other = refl
flag_plain false true flag other = other-test flag 0 other

decided : (b : Bool) → (b ≡ true) ⊎ (b ≡ false)
decided true = inl refl
decided false = inr refl

-- the last byte of a format
raised_word : (one other : ℕ → ℕ) → word_at one 24 ≡ 1 → other 24 ≡ one 24 → other 25 ≡ one 25 → other 26 ≡ one 26 → other 27 ≡ 2 → word_at other 24 ≡ 2
unfolding word_at
raised_word one other is a b c d =
    let a1 : one (24 + 1) ≡ one 25 = ap one (omega arith) in
    let b1 : one (24 + 2) ≡ one 26 = ap one (omega arith) in
    let c1 : one (24 + 3) ≡ one 27 = ap one (omega arith) in
    let a2 : other (24 + 1) ≡ other 25 = ap other (omega arith) in
    let b2 : other (24 + 2) ≡ other 26 = ap other (omega arith) in
    let c2 : other (24 + 3) ≡ other 27 = ap other (omega arith) in
    omega (arith, is, a, b, c, d, a1, b1, c1, a2, b2, c2)

last_byte : (byte : ℕ → ℕ) (format : ℕ) → format < 256 → word_at byte 24 ≡ format → byte 27 ≡ format
unfolding word_at
last_byte byte format small is =
    let c1 : byte (24 + 3) ≡ byte 27 = ap byte (omega arith) in
    omega (arith, is, small, c1)

-- ---- what a look shows of a content with a gate that isn't open

module _ (content : Content) (shut : content.byte 64 ≢ 1) (count : ℕ) (room : PAGE_SIZE * count ≤ content.size) where
  own_shown : HasPages (in_format (is_first_version content) 2 (pages_of content count)) (shown content)
  own_shown = shows_pages content (pages_of content count) (record { opened = λ is. absurd (shut is); shut = λ _. has-own content count room })

  own_inside : (i : ℕ) → i < PAGE_SIZE * count → i < PAGE_SIZE * (in_format (is_first_version content) 2 (pages_of content count)).count
  own_inside i lt = let same = same_count (is_first_version content) 2 (pages_of content count) in omega (arith, lt, same)

  -- the same bytes, but for the format's last
  shown_other : (i : ℕ) → i < PAGE_SIZE * count → IsOfPages i → i ≢ 27 → (shown content).byte i ≡ content.byte i
  shown_other i lt own other = own_shown.bytes i (own_inside i lt) own ∙ other_byte (is_first_version content) 2 (pages_of content count) i other

  -- and that one too, where no format is raised
  shown_plain : is_first_version content ≡ false → (i : ℕ) → i < PAGE_SIZE * count → IsOfPages i → (shown content).byte i ≡ content.byte i
  shown_plain plain i lt own = own_shown.bytes i (own_inside i lt) own ∙ plain_byte (is_first_version content) 2 (pages_of content count) i plain

  shown_raised : is_first_version content ≡ true → 27 < PAGE_SIZE * count → (shown content).byte 27 ≡ 2
  shown_raised raised lt = own_shown.bytes 27 (own_inside 27 lt) (inl (omega arith)) ∙ raised_byte (is_first_version content) 2 (pages_of content count) raised

  -- the pages after page 0
  module _ (fields : FileHeader) (same_pages : fields.pages ≤ count) where
    later_page : (n : ℕ) → 0 < n → n < fields.pages → disk_page (shown content) n ≡ disk_page content n
    later_page n pos lt = disk_page-same (shown content) content n
        (λ i lo hi. shown_other i (omega (arith, lt, hi, same_pages)) (inr (omega (arith, pos, lo))) (λ is. omega (arith, is, pos, lo)))

    shown_map : SamePages (stored_map (shown content) fields) (stored_map content fields)
    shown_map = record { fields = refl; pages = λ n. stored-inside fields.pages n None (shown content) content (λ pos lt _. later_page n pos lt) }

    content_map : SamePages (stored_map content fields) (stored_map (shown content) fields)
    content_map = record { fields = refl; pages = λ n. sym (shown_map.pages n) }

-- page 0 of what is shown, and of the content
module _ (content : Content) (shut : content.byte 64 ≢ 1) (size : 4096 ≤ content.size) where
  one_page : PAGE_SIZE * 1 ≤ content.size
  one_page = omega (arith, size)

  first_agrees : AgreeBut (disk_page content 0) (disk_page (shown content) 0)
  first_agrees = record {
    each = λ k lt own other. at_zero content k lt ∙ sym (shown_other content shut 1 one_page k (omega (arith, lt)) own other) ∙ sym (at_zero (shown content) k lt);
  }

  agrees_first : AgreeBut (disk_page (shown content) 0) (disk_page content 0)
  agrees_first = record { each = λ k lt own other. sym (first_agrees.each k lt own other) }

  same_byte : (k : ℕ) → k < 64 → k ≢ 27 → (shown content).byte k ≡ content.byte k
  same_byte k lt other = shown_other content shut 1 one_page k (omega (arith, lt)) (inl (omega (arith, lt))) other

  shut_page : number_at 64 1 (disk_page content 0) ≢ 1
  shut_page opened = shut (sym (at_zero content 64 (omega arith)) ∙ sym (byte_at 64 (disk_page content 0)) ∙ opened)

  raised_format : is_first_version content ≡ true → number_at 24 4 (disk_page (shown content) 0) ≡ 2
  raised_format raised =
      sym (word-first (shown content) 24 size (omega arith))
      ∙ raised_word content.byte (shown content).byte (closed_first content raised).format
      (same_byte 24 (omega arith) (λ is. omega (arith, is))) (same_byte 25 (omega arith) (λ is. omega (arith, is))) (same_byte 26 (omega arith) (λ is. omega (arith, is)))
      (shown_raised content shut 1 one_page raised (omega arith))

  plain_format : is_first_version content ≡ false → word_at (shown content).byte 24 ≡ word_at content.byte 24
  plain_format plain = word-same (shown content).byte content.byte 24 (λ k lt. shown_plain content shut 1 one_page plain (24 + k) (omega (arith, lt)) (inl (omega (arith, lt))))

-- the gate is shown closed
shown_shut : (content : Content) → (shown content).byte 64 ≢ 1
shown_shut content is = let zero = shown-shut content in omega (arith, is, zero)

shown_shut_page : (content : Content) → number_at 64 1 (disk_page (shown content) 0) ≢ 1
shown_shut_page content opened = shown_shut content (sym (at_zero (shown content) 64 (omega arith)) ∙ sym (byte_at 64 (disk_page (shown content) 0)) ∙ opened)

-- a content that has pages gives them, with a gate that isn't open
has_gives : (content : Content) (pages : FilePages) → content.byte 64 ≢ 1 → HasPages pages content → Recovers content pages
has_gives content pages shut has = record { opened = λ is. absurd (shut is); shut = λ _. has }

-- ---- files

-- a file of version 2 is shown as one
second_shown : (content : Content) (map : PageMap) → GivesMap map content → GivesMap map (shown content)
second_shown content map gives = record {
  pages = gives.pages;
  recovers = has_gives (shown content) gives.pages (shown_shut content)
      (subst (λ (pages : FilePages). HasPages pages (shown content)) (same-format (is_first_version content) gives.pages (given-plain map gives.pages content gives.recovers gives.are))
      (shows_pages content gives.pages gives.recovers));
  are = gives.are;
}

module _ (content : Content) (map : PageMap) (least : 2 ≤ map.fields.pages) (is : StoresFirst content map) where
  first_room : 4096 ≤ content.size
  first_room = omega (arith, is.size, least)

  first_shut : content.byte 64 ≢ 1
  first_shut = first-shut content map.fields is.header

  first_word : word_at content.byte 24 ≡ 1
  first_word = word-first content 24 first_room (omega arith) ∙ is.header.marks.format

  -- one of version 1 that was closed is shown as one of version 2
  closed_shown : content.byte 28 ≡ 0 → GivesMap map (shown content)
  closed_shown flag =
      let raised = is_closed_first content first_shut first_word flag in
      let flag_page : number_at 28 1 (disk_page content 0) ≡ 0 = byte_at 28 (disk_page content 0) ∙ at_zero content 28 (omega arith) ∙ flag in
      let header = raised_header (disk_page content 0) (disk_page (shown content) 0) (first_agrees content first_shut first_room) map.fields
      (length-disk_page (shown content) 0) (raised_format content first_shut first_room raised) flag_page is.header in
      record {
        pages = pages_of (shown content) map.fields.pages;
        recovers = has_gives (shown content) (pages_of (shown content) map.fields.pages) (shown_shut content) (has-own (shown content) map.fields.pages is.size);
        are = ArePages-same (stored_map (shown content) map.fields) map (pages_of (shown content) map.fields.pages)
            (SamePages-trans _ _ _ is.pages (content_map content first_shut map.fields.pages is.size map.fields (omega arith)))
            (are-own map.fields.pages (shown content) map.fields (record { header = header; least = least; within = omega arith; room = is.size }));
      }

  -- one that was not closed is shown as it is
  left_open_shown : content.byte 28 ≢ 0 → StoresFirst (shown content) map
  left_open_shown flag =
      let plain : is_first_version content ≡ false = flag_plain (is_open content) (word_at content.byte 24 == 1) (content.byte 28) flag in
      record {
        header = first_header (disk_page content 0) (disk_page (shown content) 0) (first_agrees content first_shut first_room) map.fields
            (length-disk_page (shown content) 0)
            (sym (word-first (shown content) 24 first_room (omega arith)) ∙ plain_format content first_shut first_room plain ∙ first_word) (shown_shut_page content) is.header;
        size = is.size;
        pages = SamePages-trans _ _ _ is.pages (content_map content first_shut map.fields.pages is.size map.fields (omega arith));
      }

-- ---- what is shown as a file

module _ (content : Content) (told : content.byte 64 ≡ 1 → IsTold content) (none : GivesFirst content → ⊥) (map : PageMap) (least : 2 ≤ map.fields.pages) where
  given_map : (gives : GivesMap map (shown content)) → HasPages gives.pages (shown content)
      → SamePages (stored_map (content_of_pages gives.pages) map.fields) (stored_map (shown content) map.fields)
  given_map gives has =
      let count : gives.pages.count ≡ map.fields.pages = gives.are.counts in
      record {
        fields = refl;
        pages = λ n. stored-inside map.fields.pages n None (content_of_pages gives.pages) (shown content)
            (λ pos lt _. disk_page-same (content_of_pages gives.pages) (shown content) n
            (λ i lo hi. sym (has.bytes i (omega (arith, lt, hi, count)) (inr (omega (arith, pos, lo))))));
      }

  second_was : GivesMap map (shown content) → IsFileOfPages content map
  second_was gives =
      let has = gives.recovers.shut (shown_shut content) in
      let was : Recovers content (as_kept content gives.pages) = shown_recovers content gives.pages told has in
      let count : gives.pages.count ≡ map.fields.pages = gives.are.counts in
      elim (decided (is_first_version content)) [
        | inl raised ↦
            let first = closed_first content raised in
            let size : 4096 ≤ content.size = omega (arith, has.size, count, least) in
            inr (record {
              header = lowered_header (disk_page (shown content) 0) (disk_page content 0) (agrees_first content first.shut size) map.fields
                  (length-disk_page content 0) (sym (word-first content 24 size (omega arith)) ∙ first.format) (shut_page content first.shut size)
                  (has-header map gives.pages (shown content) gives.are has);
              size = omega (arith, has.size, count);
              pages = SamePages-trans _ _ _ gives.are.stores.pages (SamePages-trans _ _ _ (given_map gives has)
                  (shown_map content first.shut gives.pages.count has.size map.fields (omega (arith, count))));
            })
        | inr plain ↦ inl (record {
          pages = gives.pages;
          recovers = subst (λ (pages : FilePages). Recovers content pages) (kept-format (is_first_version content) gives.pages plain) was;
          are = gives.are;
        })
      ]

  not_raised : content.byte 64 ≢ 1 → 4096 ≤ content.size → word_at (shown content).byte 24 ≡ 1 → is_first_version content ≡ false
  not_raised shut size word = elim (decided (is_first_version content)) [
    | inr plain ↦ plain
    | inl raised ↦
        let two : word_at (shown content).byte 24 ≡ 2 = word-first (shown content) 24 size (omega arith) ∙ raised_format content shut size raised in
        absurd (omega (arith, word, two))
  ]

  first_was : StoresFirst (shown content) map → StoresFirst content map
  first_was is =
      let size : 4096 ≤ content.size = omega (arith, is.size, least) in
      let word : word_at (shown content).byte 24 ≡ 1 = word-first (shown content) 24 size (omega arith) ∙ is.header.marks.format in
      let shut : content.byte 64 ≢ 1 = λ opened. none (record { opened = opened; format = last_byte (shown content).byte 1 (omega arith) word }) in
      let plain = not_raised shut size word in
      record {
        header = first_header (disk_page (shown content) 0) (disk_page content 0) (agrees_first content shut size) map.fields (length-disk_page content 0)
            (sym (word-first content 24 size (omega arith)) ∙ sym (plain_format content shut size plain) ∙ word) (shut_page content shut size) is.header;
        size = is.size;
        pages = SamePages-trans _ _ _ is.pages (shown_map content shut map.fields.pages is.size map.fields (omega arith));
      }

  flag_was : StoresFirst (shown content) map → (shown content).byte 28 ≡ content.byte 28
  flag_was is = same_byte content (first-shut content map.fields (first_was is).header) (omega (arith, is.size, least)) 28 (omega arith) (λ wrong. omega (arith, wrong))

pub shows_file : (content : Content) → (content.byte 64 ≡ 1 → IsTold content) → (GivesFirst content → ⊥) → ShowsSameFile content (shown content)
shows_file content told none = record {
  second = second_shown content;
  closed = λ map least is flag. closed_shown content map least is flag;
  left_open = λ map least is flag. left_open_shown content map least is flag;
  others = λ map least is. elim is [
    | inl gives ↦ second_was content told none map least gives
    | inr first ↦ inr (first_was content told none map least first)
  ];
  first = λ map least is. first_was content told none map least is;
  flag = λ map least is. flag_was content told none map least is;
}

-- ---- what is no file

-- an open gate's journal gives a page 0 of version 1
pub first_is_none : (content : Content) → GivesFirst content → IsFileOfNone content
first_is_none content gives_first = record {
  none = λ map least is. elim is [
    | inl gives ↦
        let shown_gives = second_shown content map gives in
        let has = shown_gives.recovers.shut (shown_shut content) in
        let count : shown_gives.pages.count ≡ map.fields.pages = shown_gives.are.counts in
        let header = has-header map shown_gives.pages (shown content) shown_gives.are has in
        let word : word_at (shown content).byte 24 ≡ 2 = word-first (shown content) 24 (omega (arith, has.size, count, least)) (omega arith) ∙ header.marks.format in
        let last = last_byte (shown content).byte 2 (omega arith) word in
        omega (arith, last, gives_first.format)
    | inr first ↦ first-shut content map.fields first.header gives_first.opened
  ];
}

-- a journal that an open gate names is not well formed
pub damaged_is_none : (content : Content) → IsDamaged content → IsFileOfNone content
damaged_is_none content damaged = record {
  none = λ map least is. elim is [
    | inl gives ↦ damaged.no_pages gives.pages gives.are.says gives.recovers
    | inr first ↦ first-shut content map.fields first.header damaged.opened
  ];
}

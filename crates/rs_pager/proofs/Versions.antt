-- What page 0 of either version says of a content and of the pages that it gives.
use Rattle.std.proofs.Common.{◌≡◌, ◌≢◌, inl, inr, ℕ, ◌+◌, ◌*◌, ◌<◌, ◌≤◌, Bool, true, false, List, slice_index, refl, sym, ap, ◌∙◌, subst, arith}
use Rattle.std.specs.Prelude.{◌==◌, ◌&&◌, not, Some, None, if◌then◌else◌}
use Rattle.std.proofs.lemmas.Bool.{cases_eq}
use Rattle.std.proofs.lemmas.Bool.Decides.{nat_tests}
use Rattle.rs_disk.specs.Content.{Content, Holds}
use Rattle.rs_page.specs.Number.{number_at}
use Rattle.rs_page.specs.declared.file_header.FileHeader.{FileHeader}
use Rattle.rs_page.specs.declared.page.TheConstants.{PAGE_SIZE}
use Rattle.rs_page.proofs.Numbers.{byte_at}
use Rattle.rs_pages.specs.PageMap.{PageMap, is_page}
use Rattle.rs_page_cache.specs.Stored.{disk_page}
use Rattle.rs_journal.specs.FilePages.{FilePages, HasPages, word_at}
use Rattle.rs_journal.specs.Journal.{Recovers}
use Rattle.rs_journal.specs.Look.{as_kept, as_shown, in_format, is_first_version, is_open, shown}
use Rattle.rs_journal.specs.Recovery.{IsDamaged, SaysCount}
use Rattle.rs_journal.proofs.Words.{word-held}
use Rattle.rs_pager.specs.FirstHeader.{IsFirstHeader}
use Rattle.rs_pager.specs.Lasts.{GivesMap}
use Rattle.rs_pager.specs.Maps.{ArePages}
use Rattle.rs_pager.specs.Opening.{FitsSecond, HasFirst, IsNoSecond, pages_of}
use Rattle.rs_pager.specs.SecondHeader.{IsSecondHeader}
use Rattle.rs_pager.specs.Stored.{content_of_pages, stored_map}
use Rattle.rs_pager.specs.Versions.{IsNoFile}
use Rattle.rs_pager.proofs.DiskBytes.{disk_page-at, length-disk_page}
use Rattle.rs_pager.proofs.Headers.{first_header_is_one, kept-header, said-count}

pub at_zero : (content : Content) (k : ℕ) → k < 4096 → slice_index (disk_page content 0) k ≡ content.byte k
at_zero content k lt = let at : 4096 * 0 + k ≡ k = omega arith in subst (λ i. slice_index (disk_page content 0) k ≡ content.byte i) at (disk_page-at content 0 k lt)

-- a word of page 0
pub word-first : (content : Content) (k : ℕ) → 4096 ≤ content.size → k + 4 ≤ 4096 → word_at content.byte k ≡ number_at k 4 (disk_page content 0)
word-first content k size lt =
    let long = length-disk_page content 0 in
    let holds : Holds content 0 (disk_page content 0) = record {
      each = λ k lt. let at : k ≡ 0 + k = omega arith in subst (λ i. content.byte i ≡ slice_index (disk_page content 0) k) at (sym (at_zero content k (omega (arith, lt, long))));
      reaches = λ _. omega (arith, size, long);
    } in
    let at : 0 + k ≡ k = omega arith in
    subst (λ i. word_at content.byte i ≡ number_at k 4 (disk_page content 0)) at (word-held content 0 k (disk_page content 0) holds (omega (arith, long, lt)))

-- no page is a header of both
pub not_both : (page : List ℕ) (one other : FileHeader) → IsFirstHeader page one → IsSecondHeader page other → ⊥
not_both page one other first second = omega (arith, first.marks.format, second.marks.format)

-- ---- a file of version 1

-- its gate is closed
pub first-shut : (content : Content) (fields : FileHeader) → IsFirstHeader (disk_page content 0) fields → content.byte 64 ≢ 1
first-shut content fields is opened = is.marks.shut (byte_at 64 (disk_page content 0) ∙ at_zero content 64 (omega arith) ∙ opened)

-- and page 0 says how many pages there are
pub first-count : (content : Content) (fields : FileHeader) → 4096 ≤ content.size → IsFirstHeader (disk_page content 0) fields → word_at content.byte 32 ≡ fields.pages
first-count content fields size is = word-first content 32 size (omega arith) ∙ is.pages

-- a content that has these pages has their page 0
pub has-header : (map : PageMap) (pages : FilePages) (content : Content) → ArePages map pages → HasPages pages content → IsSecondHeader (disk_page content 0) map.fields
has-header map pages content are has = kept-header (content_of_pages pages) content map.fields
    (λ k lt own. has.bytes k (omega (arith, lt, are.says.some)) own) are.stores.header

-- so it is no file of version 2
pub first-no_second : (content : Content) (fields : FileHeader) (map : PageMap) → IsFirstHeader (disk_page content 0) fields → GivesMap map content → ⊥
first-no_second content fields map is gives =
    not_both (disk_page content 0) fields map.fields is
    (has-header map gives.pages content gives.are (gives.recovers.shut (first-shut content fields is)))

-- a count of pages that can't be
pub no_file-first : (content : Content) (fields : FileHeader) (limit : ℕ) → IsFirstHeader (disk_page content 0) fields
    → ((2 ≤ fields.pages) → (fields.pages ≤ limit) → (PAGE_SIZE * fields.pages ≤ content.size) → ⊥) → IsNoFile content limit
no_file-first content fields limit is none = record {
  none = λ map stands least greatest. elim stands [
    | inl gives ↦ first-no_second content fields map is gives
    | inr stores ↦
        let same : map.fields ≡ fields = first_header_is_one (disk_page content 0) map.fields fields stores.header is in
        let count : map.fields.pages ≡ fields.pages = ap (λ (f : FileHeader). f.pages) same in
        none (omega (arith, count, least)) (omega (arith, count, greatest)) (omega (arith, count, stores.size))
  ];
}

-- neither of the two
pub no_file : (content : Content) (limit : ℕ) → (HasFirst content → ⊥) → IsNoSecond content limit → IsNoFile content limit
no_file content limit none nor = record {
  none = λ map stands least greatest. elim stands [
    | inl gives ↦ nor.none map gives least greatest
    | inr stores ↦ none (record { fields = map.fields; header = stores.header })
  ];
}

-- ---- a file of version 2

-- pages that are there fit
pub fits-by : (map : PageMap) (pages : FilePages) (content : Content) (limit : ℕ) → ArePages map pages → HasPages pages content → 2 ≤ map.fields.pages → map.fields.pages ≤ limit
    → FitsSecond limit content map.fields
fits-by map pages content limit are has least within = record {
  header = has-header map pages content are has;
  least = least;
  within = within;
  room = omega (arith, has.size, are.counts);
}

-- page 0 says how many they are
pub says-by : (limit : ℕ) (content : Content) (fields : FileHeader) → FitsSecond limit content fields → SaysCount (pages_of content fields.pages)
says-by limit content fields fits = record {
  says = said-count content fields (omega (arith, fits.least, fits.room)) fits.header;
  some = omega (arith, fits.least);
}

-- so many pages of a content are there
pub has-own : (content : Content) (count : ℕ) → PAGE_SIZE * count ≤ content.size → HasPages (pages_of content count) content
has-own content count room = record { size = room; bytes = λ i lt own. refl }

-- and they are the ones that it stores
pub stored-own : (content : Content) (count : ℕ) (n : ℕ) → disk_page content n ≡ disk_page (content_of_pages (pages_of content count)) n
unfolding disk_page
stored-own content count n = refl

pub are-own : (limit : ℕ) (content : Content) (fields : FileHeader) → FitsSecond limit content fields → ArePages (stored_map content fields) (pages_of content fields.pages)
are-own limit content fields fits = record {
  says = says-by limit content fields fits;
  counts = refl;
  stores = record {
    header = subst (λ (page : List ℕ). IsSecondHeader page fields) (stored-own content fields.pages 0) fits.header;
    size = omega arith;
    pages = record {
      fields = refl;
      pages = λ n. ap (λ (page : List ℕ). if is_page fields.pages n then Some page else None) (stored-own content fields.pages n);
    };
  };
}

-- damaged bytes give no pages
pub damaged-none : (content : Content) (limit : ℕ) → IsDamaged content → IsNoSecond content limit
damaged-none content limit is = record { none = λ map gives least within. is.no_pages gives.pages gives.are.says gives.recovers }

-- ---- what a look shows

pub same-format : (raised : Bool) (pages : FilePages) → raised ≡ false → in_format raised 2 pages ≡ pages
same-format false pages is = refl
same-format true pages is = cc

pub kept-format : (raised : Bool) (pages : FilePages) → raised ≡ false → in_format raised 1 pages ≡ pages
kept-format false pages is = refl
kept-format true pages is = cc

pub other-test : (a b : ℕ) → (a ≡ b → ⊥) → (a == b) ≡ false
other-test a b other = grind (arith, nat_tests)

pub same-test : (a b : ℕ) → a ≡ b → (a == b) ≡ true
same-test a b same = grind (arith, nat_tests)

pub open-plain : (content : Content) → content.byte 64 ≡ 1 → is_first_version content ≡ false
open-plain content is = ap (λ (b : Bool). not b && (word_at content.byte 24 == 1 && content.byte 28 == 0)) (same-test (content.byte 64) 1 is)

other-plain : (opened : Bool) (word flag : ℕ) → (word ≡ 1 → ⊥) → (not opened && (word == 1 && flag == 0)) ≡ false
other-plain true word flag other = refl
other-plain false word flag other = ap (λ (b : Bool). b && flag == 0) (other-test word 1 other)

-- a content that gives pages of version 2 is no closed file of version 1
pub given-plain : (map : PageMap) (pages : FilePages) (content : Content) → Recovers content pages → ArePages map pages → is_first_version content ≡ false
given-plain map pages content gives are = elim (cases_eq (content.byte 64) 1) [
  | inl opened ↦ open-plain content opened
  | inr closed ↦
      let has = gives.shut closed in
      let format : word_at content.byte 24 ≡ 2 = word-first content 24 (omega (arith, has.size, are.says.some)) (omega arith) ∙ (has-header map pages content are has).marks.format in
      other-plain (is_open content) (word_at content.byte 24) (content.byte 28) (λ is. omega (arith, is, format))
]

-- where what is shown of a content doesn't fit, it gives no pages that do
pub shown-none : (content : Content) (limit : ℕ) → ((pages : FilePages) → Recovers content pages → HasPages (as_shown content pages) (shown content))
    → ((fields : FileHeader) → FitsSecond limit (shown content) fields → ⊥) → IsNoSecond content limit
shown-none content limit shows none = record {
  none = λ map gives least within.
      none map.fields (fits-by map gives.pages (shown content) limit gives.are
      (subst (λ (pages : FilePages). HasPages pages (shown content)) (same-format (is_first_version content) gives.pages (given-plain map gives.pages content gives.recovers gives.are))
      (shows gives.pages gives.recovers)) least within);
}

-- and where it does through an open gate, it gives them
pub shown-some : (content : Content) (limit : ℕ) (fields : FileHeader) → content.byte 64 ≡ 1
    → ((pages : FilePages) → HasPages pages (shown content) → Recovers content (as_kept content pages))
    → FitsSecond limit (shown content) fields → IsNoSecond content limit → ⊥
shown-some content limit fields opened others fits nor =
    let pages : FilePages = pages_of (shown content) fields.pages in
    nor.none (stored_map (shown content) fields) (record {
      pages = pages;
      recovers = subst (λ (p : FilePages). Recovers content p) (kept-format (is_first_version content) pages (open-plain content opened))
          (others pages (has-own (shown content) fields.pages fits.room));
      are = are-own limit (shown content) fields fits;
    }) fits.least fits.within

-- Page 0 says the same fields whatever the gate and the journal's fields are.
use Rattle.std.proofs.Common.{◌≡◌, ◌≢◌, inl, inr, ℕ, ◌+◌, ◌*◌, ◌<◌, ◌≤◌, List, length, slice_index, sym, ◌∙◌, subst, arith}
use Rattle.std.proofs.lemmas.Bool.{cases_lt}
use Rattle.std.proofs.lemmas.List.{get_or_past}
use Rattle.rs_disk.specs.Content.{Content, Holds}
use Rattle.rs_page.specs.Number.{number_at}
use Rattle.rs_page.specs.Header.{IsHeader}
use Rattle.rs_page.specs.declared.file_header.FileHeader.{FileHeader}
use Rattle.rs_page.specs.declared.header.PageHeader.{PageHeader}
use Rattle.rs_page.proofs.Numbers.{number_at-same, byte_at}
use Rattle.rs_page_cache.specs.Stored.{disk_page}
use Rattle.rs_journal.specs.FilePages.{IsOfPages, word_at}
use Rattle.rs_journal.proofs.Words.{word-held}
use Rattle.rs_pager.specs.FirstHeader.{IsFirstHeader}
use Rattle.rs_pager.specs.SecondHeader.{IsSecondHeader, HasSecondMarks, EndsInOwnZeros}
use Rattle.rs_pager.proofs.DiskBytes.{disk_page-at, length-disk_page}

-- two pages agree but for the gate and the journal's fields
pub record Agree (one other : List ℕ) : Type 0 where
  pub each : (k : ℕ) → k < 4096 → IsOfPages k → slice_index one k ≡ slice_index other k

module _ (one other : List ℕ) (agree : Agree one other) where
  same_number : (at n : ℕ) → at + n ≤ 4096 → ((i : ℕ) → at ≤ i → i < at + n → IsOfPages i) → number_at at n other ≡ number_at at n one
  same_number at n room own = number_at-same at n one other (λ i lo hi. sym (agree.each i (omega arith) (own i lo hi)))

  low_number : (at n : ℕ) → at + n ≤ 64 → number_at at n other ≡ number_at at n one
  low_number at n room = same_number at n (omega arith) (λ i lo hi. inl (omega arith))

  header-same : (header : PageHeader) → IsHeader one header → IsHeader other header
  header-same header is = record {
    kind = low_number 0 1 (omega arith) ∙ is.kind;
    zero = low_number 1 1 (omega arith) ∙ is.zero;
    count = low_number 2 2 (omega arith) ∙ is.count;
    number = low_number 4 4 (omega arith) ∙ is.number;
    next = low_number 8 4 (omega arith) ∙ is.next;
    zeros = low_number 12 4 (omega arith) ∙ is.zeros;
  }

  marks-same : HasSecondMarks one → HasSecondMarks other
  marks-same is = record {
    magic = low_number 16 4 (omega arith) ∙ is.magic;
    magic_end = low_number 20 4 (omega arith) ∙ is.magic_end;
    format = low_number 24 4 (omega arith) ∙ is.format;
    flag = low_number 28 1 (omega arith) ∙ is.flag;
    unused = low_number 29 2 (omega arith) ∙ is.unused;
    unused_too = low_number 31 1 (omega arith) ∙ is.unused_too;
  }

  zeros-same : length other ≡ 4096 → EndsInOwnZeros one → EndsInOwnZeros other
  zeros-same size is = record {
    each = λ k past own. elim (cases_lt k 4096) [
      | inl inside ↦ same_number k 1 (omega arith) (λ i lo hi. let at : k ≡ i = omega arith in subst IsOfPages at own) ∙ is.each k past own
      | inr outside ↦ byte_at k other ∙ get_or_past other k 0 (omega (arith, size))
    ];
  }

  pub second_header-same : (fields : FileHeader) → length other ≡ 4096 → IsSecondHeader one fields → IsSecondHeader other fields
  second_header-same fields size is = record {
    first = header-same _ is.first;
    marks = marks-same is.marks;
    zeros = zeros-same size is.zeros;
    pages = low_number 32 4 (omega arith) ∙ is.pages;
    first_free = low_number 36 4 (omega arith) ∙ is.first_free;
    free_pages = low_number 40 4 (omega arith) ∙ is.free_pages;
    catalogue = low_number 44 4 (omega arith) ∙ is.catalogue;
    catalogue_length = low_number 48 4 (omega arith) ∙ is.catalogue_length;
  }

  pub first_header-same : (fields : FileHeader) → length other ≡ 4096 → number_at 64 1 other ≢ 1 → IsFirstHeader one fields → IsFirstHeader other fields
  first_header-same fields size shut is = record {
    first = header-same _ is.first;
    marks = record {
      magic = low_number 16 4 (omega arith) ∙ is.marks.magic;
      magic_end = low_number 20 4 (omega arith) ∙ is.marks.magic_end;
      format = low_number 24 4 (omega arith) ∙ is.marks.format;
      unused = low_number 29 2 (omega arith) ∙ is.marks.unused;
      unused_too = low_number 31 1 (omega arith) ∙ is.marks.unused_too;
      shut = shut;
    };
    zeros = zeros-same size is.zeros;
    pages = low_number 32 4 (omega arith) ∙ is.pages;
    first_free = low_number 36 4 (omega arith) ∙ is.first_free;
    free_pages = low_number 40 4 (omega arith) ∙ is.free_pages;
    catalogue = low_number 44 4 (omega arith) ∙ is.catalogue;
    catalogue_length = low_number 48 4 (omega arith) ∙ is.catalogue_length;
  }

fields_with : ℕ → ℕ → ℕ → ℕ → ℕ → FileHeader
fields_with pages first_free free_pages catalogue catalogue_length =
    record { pages = pages; first_free = first_free; free_pages = free_pages; catalogue = catalogue; catalogue_length = catalogue_length }

same_numbers : (one other : FileHeader) → one.pages ≡ other.pages → one.first_free ≡ other.first_free → one.free_pages ≡ other.free_pages
    → one.catalogue ≡ other.catalogue → one.catalogue_length ≡ other.catalogue_length
    → fields_with one.pages one.first_free one.free_pages one.catalogue one.catalogue_length
    ≡ fields_with other.pages other.first_free other.free_pages other.catalogue other.catalogue_length
same_numbers one other pages first free catalogue size = cc

-- a page 0 of version 2 says one header's fields at the most
pub second_header_is_one : (page : List ℕ) (one other : FileHeader) → IsSecondHeader page one → IsSecondHeader page other → one ≡ other
unfolding fields_with
second_header_is_one page one other a b =
    same_numbers one other (sym a.pages ∙ b.pages) (sym a.first_free ∙ b.first_free) (sym a.free_pages ∙ b.free_pages) (sym a.catalogue ∙ b.catalogue) (sym a.catalogue_length ∙ b.catalogue_length)

-- and one of version 1 as well
pub first_header_is_one : (page : List ℕ) (one other : FileHeader) → IsFirstHeader page one → IsFirstHeader page other → one ≡ other
unfolding fields_with
first_header_is_one page one other a b =
    same_numbers one other (sym a.pages ∙ b.pages) (sym a.first_free ∙ b.first_free) (sym a.free_pages ∙ b.free_pages) (sym a.catalogue ∙ b.catalogue) (sym a.catalogue_length ∙ b.catalogue_length)

at_zero : (content : Content) (k : ℕ) → k < 4096 → slice_index (disk_page content 0) k ≡ content.byte k
at_zero content k lt = let at : 4096 * 0 + k ≡ k = omega arith in subst (λ i. slice_index (disk_page content 0) k ≡ content.byte i) at (disk_page-at content 0 k lt)

-- what agrees with page 0 of a content makes it a header
pub stored-header : (content : Content) (page : List ℕ) (fields : FileHeader) → ((k : ℕ) → k < 4096 → IsOfPages k → content.byte k ≡ slice_index page k)
    → IsSecondHeader page fields → IsSecondHeader (disk_page content 0) fields
stored-header content page fields same is = second_header-same page (disk_page content 0)
    (record { each = λ k lt own. sym (at_zero content k lt ∙ same k lt own) }) fields (length-disk_page content 0) is

-- and so do two contents that differ in these bytes at the most
pub kept-header : (old new : Content) (fields : FileHeader) → ((k : ℕ) → k < 4096 → IsOfPages k → new.byte k ≡ old.byte k)
    → IsSecondHeader (disk_page old 0) fields → IsSecondHeader (disk_page new 0) fields
kept-header old new fields same is = stored-header new (disk_page old 0) fields (λ k lt own. same k lt own ∙ sym (at_zero old k lt)) is

-- the count of pages that page 0 says
pub said-count : (content : Content) (fields : FileHeader) → 4096 ≤ content.size → IsSecondHeader (disk_page content 0) fields → word_at content.byte 32 ≡ fields.pages
said-count content fields size is =
    let long = length-disk_page content 0 in
    let holds : Holds content 0 (disk_page content 0) = record {
      each = λ k lt. let at : k ≡ 0 + k = omega arith in subst (λ i. content.byte i ≡ slice_index (disk_page content 0) k) at (sym (at_zero content k (omega (arith, lt, long))));
      reaches = λ _. omega (arith, size, long);
    } in
    word-held content 0 32 (disk_page content 0) holds (omega (arith, long)) ∙ is.pages

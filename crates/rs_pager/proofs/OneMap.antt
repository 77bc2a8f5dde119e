-- A content is a file of one map of pages at the most.
use Rattle.std.proofs.Common.{◌≡◌, ◌≢◌, inl, inr, ℕ, None, ◌<◌, ◌≤◌, ◌+◌, ◌*◌, List, sym, ap, ◌∙◌, arith}
use Rattle.rs_disk.specs.Content.{Content}
use Rattle.rs_page.specs.declared.file_header.FileHeader.{FileHeader}
use Rattle.rs_pages.specs.PageMap.{PageMap, SamePages}
use Rattle.rs_page_cache.specs.Stored.{disk_page}
use Rattle.rs_journal.specs.FilePages.{FilePages, HasPages, SamePages as SameFilePages}
use Rattle.rs_journal.proofs.Making.{one_map}
use Rattle.rs_pager.specs.FirstHeader.{IsFirstHeader}
use Rattle.rs_pager.specs.Lasts.{GivesMap}
use Rattle.rs_pager.specs.Maps.{ArePages}
use Rattle.rs_pager.specs.SecondHeader.{IsSecondHeader}
use Rattle.rs_pager.specs.Stored.{content_of_pages, stored_map}
use Rattle.rs_pager.specs.Versions.{IsFileOfPages, StoresFirst}
use Rattle.rs_pager.proofs.Checkpoints.{stored-inside}
use Rattle.rs_pager.proofs.DiskBytes.{disk_page-at, disk_page-same}
use Rattle.rs_pager.proofs.Headers.{first_header_is_one, kept-header, second_header_is_one}
use Rattle.rs_pager.proofs.Versions.{first-shut}

-- the same pages of a file are those of one map
module _ (pages others : FilePages) (same : SameFilePages pages others) (one other : PageMap) (are : ArePages one pages) (are' : ArePages other others) where
  some_page : 4096 ≤ 4096 * pages.count
  some_page = omega (arith, are.says.some)

  fields_one : one.fields ≡ other.fields
  fields_one = second_header_is_one (disk_page (content_of_pages pages) 0) one.fields other.fields are.stores.header
      (kept-header (content_of_pages others) (content_of_pages pages) other.fields (λ k lt own. same.bytes k (omega (arith, some_page)) own) are'.stores.header)

  inside_one : (n i : ℕ) → n < other.fields.pages → i < 4096 * n + 4096 → i < 4096 * pages.count
  inside_one n i lt hi = let count : one.fields.pages ≡ other.fields.pages = ap (λ (f : FileHeader). f.pages) fields_one in omega (arith, are.counts, count)

  page_one : (n : ℕ) → one.page n ≡ other.page n
  page_one n =
      are.stores.pages.pages n
      ∙ ap (λ (f : FileHeader). (stored_map (content_of_pages pages) f).page n) fields_one
      ∙ stored-inside other.fields.pages n None (content_of_pages pages) (content_of_pages others)
      (λ pos lt _. disk_page-same (content_of_pages pages) (content_of_pages others) n (λ i lo hi. same.bytes i (inside_one n i lt hi) (inr (omega arith))))
      ∙ sym (are'.stores.pages.pages n)

  pages_one : SamePages one other
  pages_one = record { fields = fields_one; pages = page_one }

second_one : (content : Content) (one other : PageMap) → GivesMap one content → GivesMap other content → SamePages one other
second_one content one other a b =
    pages_one a.pages b.pages (one_map content a.pages b.pages a.are.says b.are.says a.recovers b.recovers) one other a.are b.are

first_one : (content : Content) (one other : PageMap) → StoresFirst content one → StoresFirst content other → SamePages one other
first_one content one other a b =
    let same : one.fields ≡ other.fields = first_header_is_one (disk_page content 0) one.fields other.fields a.header b.header in
    record { fields = same; pages = λ n. a.pages.pages n ∙ ap (λ (f : FileHeader). (stored_map content f).page n) same ∙ sym (b.pages.pages n) }

pub no_both : (content : Content) (one other : PageMap) → GivesMap one content → StoresFirst content other → ⊥
no_both content one other a b =
    let there : HasPages a.pages content = a.recovers.shut (first-shut content other.fields b.header) in
    let some : 4096 ≤ 4096 * a.pages.count = omega (arith, a.are.says.some) in
    let header : IsSecondHeader (disk_page content 0) one.fields =
    kept-header (content_of_pages a.pages) content one.fields (λ k lt own. there.bytes k (omega (arith, some)) own) a.are.stores.header in
    omega (arith, header.marks.format, b.header.marks.format)

pub file_is_one : (content : Content) (one other : PageMap) → IsFileOfPages content one → IsFileOfPages content other → SamePages one other
file_is_one content one other (inl a) (inl b) = second_one content one other a b
file_is_one content one other (inl a) (inr b) = absurd (no_both content one other a b)
file_is_one content one other (inr a) (inl b) = absurd (no_both content other one b a)
file_is_one content one other (inr a) (inr b) = first_one content one other a b

-- A content that has the pages of a file of version 1, with a closed gate, is that file.
use Rattle.std.proofs.Common.{◌≡◌, ◌≢◌, inl, inr, ℕ, None, ◌+◌, ◌*◌, ◌<◌, ◌≤◌, List, sym, ◌∙◌, arith}
use Rattle.rs_disk.specs.Content.{Content}
use Rattle.rs_page.specs.Number.{number_at}
use Rattle.rs_page.specs.declared.file_header.TheConstants.{FLAG_OFFSET}
use Rattle.rs_page.proofs.Numbers.{byte_at}
use Rattle.rs_page_cache.specs.Stored.{disk_page}
use Rattle.rs_pages.specs.PageMap.{PageMap}
use Rattle.rs_journal.specs.FilePages.{FilePages, IsOfPages, word_at}
use Rattle.rs_journal.specs.Recovery.{SaysCount}
use Rattle.rs_journal.specs.Stages.{IsQuiet}
use Rattle.rs_journal.proofs.Words.{word-same}
use Rattle.rs_pager.specs.FirstHeader.{IsFirstHeader}
use Rattle.rs_pager.specs.Versions.{StoresFirst}
use Rattle.rs_pager.proofs.Checkpoints.{stored-inside}
use Rattle.rs_pager.proofs.DiskBytes.{disk_page-same, length-disk_page}
use Rattle.rs_pager.proofs.Headers.{first_header-same}
use Rattle.rs_pager.proofs.Versions.{at_zero, first-count}

module _ (content image : Content) (kept : FilePages) (map : PageMap) (says : SaysCount kept) (was : IsQuiet kept content) (is : IsQuiet kept image) (first : StoresFirst content map) where
  size : 4096 ≤ content.size
  size = omega (arith, was.pages_there.size, says.some)

  same_byte : (i : ℕ) → i < 4096 * kept.count → IsOfPages i → image.byte i ≡ content.byte i
  same_byte i lt own = is.pages_there.bytes i lt own ∙ sym (was.pages_there.bytes i lt own)

  -- page 0 says how many pages are kept
  count : kept.count ≡ map.fields.pages
  count = sym says.says ∙ sym (word-same content.byte kept.byte 32 (λ k lt. was.pages_there.bytes (32 + k) (omega (arith, lt, says.some)) (inl (omega (arith, lt)))))
      ∙ first-count content map.fields size first.header

  shut : number_at 64 1 (disk_page image 0) ≢ 1
  shut opened = is.closed (sym (byte_at 64 (disk_page image 0) ∙ at_zero image 64 (omega arith)) ∙ opened)

  header : IsFirstHeader (disk_page image 0) map.fields
  header = first_header-same (disk_page content 0) (disk_page image 0)
      (record { each = λ k lt own. at_zero content k lt ∙ sym (same_byte k (omega (arith, lt, says.some)) own) ∙ sym (at_zero image k lt) })
      map.fields (length-disk_page image 0) shut first.header

  page_there : (n : ℕ) → 0 < n → n < map.fields.pages → disk_page content n ≡ disk_page image n
  page_there n pos lt = sym (disk_page-same image content n (λ i lo hi. same_byte i (omega (arith, hi, lt, count)) (inr (omega (arith, lo, pos)))))

  pub first_is_kept : StoresFirst image map
  first_is_kept = record {
    header = header;
    size = omega (arith, is.pages_there.size, count);
    pages = record {
      fields = first.pages.fields;
      pages = λ n. first.pages.pages n ∙ stored-inside map.fields.pages n None content image (λ pos lt _. page_there n pos lt);
    };
  }

  pub flag_is_kept : image.byte FLAG_OFFSET ≡ content.byte FLAG_OFFSET
  flag_is_kept = same_byte FLAG_OFFSET (omega (arith, says.some)) (inl (omega arith))

-- Page 0 of a file of version 2.
use Rattle.std.specs.Prelude.{◌≡◌, ◌≤◌, ℕ, List}
use Rattle.rs_page.specs.Number.{number_at}
use Rattle.rs_page.specs.Header.{IsHeader}
use Rattle.rs_page.specs.declared.header.PageKind.TheVariants.{Header}
use Rattle.rs_page.specs.declared.file_header.FileHeader.{FileHeader}
use Rattle.rs_page.specs.declared.file_header.TheConstants.{MAGIC, MAGIC_END, FIELDS_END, FLAG_OFFSET}
use Rattle.rs_journal.specs.FilePages.{IsOfPages}
use Rattle.rs_pager.specs.declared.second_header.TheConstants.{SECOND_FORMAT}

-- magic and format are in their places, with zeros after them
pub record HasSecondMarks (page : List ℕ) : Type 0 where
  pub magic : number_at 16 4 page ≡ MAGIC
  pub magic_end : number_at 20 4 page ≡ MAGIC_END
  pub format : number_at 24 4 page ≡ SECOND_FORMAT
  pub flag : number_at FLAG_OFFSET 1 page ≡ 0
  pub unused : number_at 29 2 page ≡ 0
  pub unused_too : number_at 31 1 page ≡ 0

-- there are zeros after the fields, but for the gate and the journal's fields, which may be any
pub record EndsInOwnZeros (page : List ℕ) : Type 0 where
  pub each : (k : ℕ) → FIELDS_END ≤ k → IsOfPages k → number_at k 1 page ≡ 0

-- the page is page 0 with these fields; the gate and the journal's fields may be any
pub record IsSecondHeader (page : List ℕ) (header : FileHeader) : Type 0 where
  pub first : IsHeader page (record { kind = Header; count = 0; number = 0; next = 0 })
  pub marks : HasSecondMarks page
  pub zeros : EndsInOwnZeros page
  pub pages : number_at 32 4 page ≡ header.pages
  pub first_free : number_at 36 4 page ≡ header.first_free
  pub free_pages : number_at 40 4 page ≡ header.free_pages
  pub catalogue : number_at 44 4 page ≡ header.catalogue
  pub catalogue_length : number_at 48 4 page ≡ header.catalogue_length

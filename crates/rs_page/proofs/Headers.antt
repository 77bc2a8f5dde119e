-- The bytes of a page say one header at the most.
use Rattle.std.proofs.Common.{◌≡◌, ◌↔◌, ℕ, List, IsTrue, nat_eq, if◌then◌else◌, refl, sym, ap, ◌∙◌}
use Rattle.rs_page.specs.declared.header.PageKind.{PageKind}
use Rattle.rs_page.specs.declared.header.PageKind.TheVariants.{Header, Leaf, Inner, Catalogue, Free, Directory}
use Rattle.rs_page.specs.declared.header.PageHeader.{PageHeader}
use Rattle.rs_page.specs.declared.file_header.FileHeader.{FileHeader}
use Rattle.rs_page.specs.Header.{IsHeader, kind_number}
use Rattle.rs_page.specs.FileHeader.{IsFileHeader}
use Rattle.rs_page.specs.PageBytes.{is_free}

-- the kind with this number, the directory where it is none of the others
kind_with : ℕ → PageKind
kind_with n = if nat_eq n 1 then Header else if nat_eq n 2 then Leaf else if nat_eq n 3 then Inner else if nat_eq n 4 then Catalogue else if nat_eq n 5 then Free else Directory

kind_with-number : (kind : PageKind) → kind_with (kind_number kind) ≡ kind
unfolding kind_with
kind_with-number Header = refl
kind_with-number Leaf = refl
kind_with-number Inner = refl
kind_with-number Catalogue = refl
kind_with-number Free = refl
kind_with-number Directory = refl

-- a number stands for one kind at the most
pub kind_is_one : (one other : PageKind) → kind_number one ≡ kind_number other → one ≡ other
kind_is_one one other same = sym (kind_with-number one) ∙ ap kind_with same ∙ kind_with-number other

header_with : PageKind → ℕ → ℕ → ℕ → PageHeader
header_with kind count number next = record { kind = kind; count = count; number = number; next = next }

same_parts : (one other : PageHeader) → one.kind ≡ other.kind → one.count ≡ other.count → one.number ≡ other.number → one.next ≡ other.next
    → header_with one.kind one.count one.number one.next ≡ header_with other.kind other.count other.number other.next
same_parts one other kind count number next = cc

same_header : (one other : PageHeader) → one.kind ≡ other.kind → one.count ≡ other.count → one.number ≡ other.number → one.next ≡ other.next → one ≡ other
unfolding header_with
same_header one other kind count number next = same_parts one other kind count number next

pub header_is_one : (page : List ℕ) (one other : PageHeader) → IsHeader page one → IsHeader page other → one ≡ other
header_is_one page one other a b =
    same_header one other (kind_is_one one.kind other.kind (sym a.kind ∙ b.kind)) (sym a.count ∙ b.count) (sym a.number ∙ b.number) (sym a.next ∙ b.next)

fields_with : ℕ → ℕ → ℕ → ℕ → ℕ → FileHeader
fields_with pages first_free free_pages catalogue catalogue_length =
    record { pages = pages; first_free = first_free; free_pages = free_pages; catalogue = catalogue; catalogue_length = catalogue_length }

same_numbers : (one other : FileHeader) → one.pages ≡ other.pages → one.first_free ≡ other.first_free → one.free_pages ≡ other.free_pages
    → one.catalogue ≡ other.catalogue → one.catalogue_length ≡ other.catalogue_length
    → fields_with one.pages one.first_free one.free_pages one.catalogue one.catalogue_length
    ≡ fields_with other.pages other.first_free other.free_pages other.catalogue other.catalogue_length
same_numbers one other pages first free catalogue size = cc

same_fields : (one other : FileHeader) → one.pages ≡ other.pages → one.first_free ≡ other.first_free → one.free_pages ≡ other.free_pages
    → one.catalogue ≡ other.catalogue → one.catalogue_length ≡ other.catalogue_length → one ≡ other
unfolding fields_with
same_fields one other pages first free catalogue size = same_numbers one other pages first free catalogue size

pub file_header_is_one : (page : List ℕ) (one other : FileHeader) → IsFileHeader page one → IsFileHeader page other → one ≡ other
file_header_is_one page one other a b =
    same_fields one other (sym a.pages ∙ b.pages) (sym a.first_free ∙ b.first_free) (sym a.free_pages ∙ b.free_pages) (sym a.catalogue ∙ b.catalogue) (sym a.catalogue_length ∙ b.catalogue_length)

free_kind : (kind : PageKind) → IsTrue (nat_eq (kind_number kind) (kind_number Free)) ↔ kind ≡ Free
free_kind Header = (λ no. cc, λ e. cc)
free_kind Leaf = (λ no. cc, λ e. cc)
free_kind Inner = (λ no. cc, λ e. cc)
free_kind Catalogue = (λ no. cc, λ e. cc)
free_kind Free = (λ yes. refl, λ e. refl)
free_kind Directory = (λ no. cc, λ e. cc)

-- a page is free exactly where its header says so
pub free_by_its_header : (page : List ℕ) (header : PageHeader) → IsHeader page header → (IsTrue (is_free page) ↔ header.kind ≡ Free)
free_by_its_header page header is = rw is.kind (free_kind header.kind)

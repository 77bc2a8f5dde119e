-- One page of the catalogue: it holds one part, and where it holds one its header fits it.
use Rattle.std.proofs.Common.{◌≡◌, ◌↔◌, ◌<◌, ◌≤◌, ℕ, Bool, IsTrue, false, Some, List, take, length, length-take, length-drop, refl, sym, ap, subst, ◌∙◌, arith}
use Rattle.std.proofs.lemmas.List.{length-take-le}
use Rattle.rs_page.specs.declared.page.TheConstants.{PAGE_SIZE}
use Rattle.rs_page.specs.Follow.{MayFollow}
use Rattle.rs_page.specs.Header.{IsHeader, Fits, FitsKind, kind_number}
use Rattle.rs_page.specs.PageBytes.{is_free, IsFit}
use Rattle.rs_page.specs.declared.header.PageHeader.{PageHeader}
use Rattle.rs_page.specs.declared.header.PageKind.TheVariants.{Catalogue}
use Rattle.rs_page.specs.declared.file_header.FileHeader.{FileHeader}
use Rattle.rs_page.proofs.Headers.{header_is_one}
use Rattle.rs_pages.specs.PageMap.{PageMap, SamePages, HasNoFit, in_use}
use Rattle.rs_pages.proofs.FreeLists.{page_one}
use Rattle.rs_pages.proofs.Stores.{used_there}
use Rattle.rs_catalog_pages.specs.Chain.{HoldsPart, catalogue_header}
use Rattle.rs_catalog_pages.specs.Parts.{content, IsPart, HasNoPart, AppendsPart, ReadsPart, HasNoFreshPart, WritesPart}

pub length-content : (page : List ℕ) → length page ≡ PAGE_SIZE → length (content page) ≡ 4080
unfolding content
length-content page size = omega (arith, length-drop 16 page)

-- a page holds one part
pub part_one : (page : List ℕ) (number a b pages more : ℕ) (p q : List ℕ) → IsPart page number a pages p → IsPart page number b more q → (a ≡ b) × (p ≡ q)
part_one page number a b pages more p q one other =
    let same = header_is_one page (catalogue_header (length p) number a) (catalogue_header (length q) number b) one.header other.header in
    let count : length p ≡ length q = ap (λ (h : PageHeader). h.count) same in
    (ap (λ (h : PageHeader). h.next) same, sym one.held ∙ ap (λ n. take n (content page)) count ∙ other.held)

part_few : (page : List ℕ) (number next pages : ℕ) (part : List ℕ) → length page ≡ PAGE_SIZE → IsPart page number next pages part → length part ≤ 4080
part_few page number next pages part size is = omega (arith, ap length is.held, length-take (length part) (content page), length-content page size)

part_fits : (page : List ℕ) (number next pages : ℕ) (part : List ℕ) → length page ≡ PAGE_SIZE → IsPart page number next pages part → Fits (catalogue_header (length part) number next) number pages
part_fits page number next pages part size is = (refl, (is.after, part_few page number next pages part size is, is.follows))

pub part_fit : (page : List ℕ) (number next pages : ℕ) (part : List ℕ) → length page ≡ PAGE_SIZE → IsPart page number next pages part → IsFit page number pages
part_fit page number next pages part size is = record {
  header = catalogue_header (length part) number next;
  there = is.header;
  fits = part_fits page number next pages part size is;
}

pub catalogue_used : (page : List ℕ) (count number next : ℕ) → IsHeader page (catalogue_header count number next) → is_free page ≡ false
catalogue_used page count number next is = rw is.kind refl

-- what a page that begins with a fitting header holds
pub part_there : (page : List ℕ) (header : PageHeader) (number pages : ℕ) (bytes : List ℕ) → length page ≡ PAGE_SIZE → IsHeader page header → header.kind ≡ Catalogue → Fits header number pages
    → bytes ≡ take header.count (content page) → IsPart page number header.next pages bytes
part_there page header number pages bytes size there kind fits is =
    let fit : FitsKind Catalogue number header.count header.next pages = subst (λ k. FitsKind k number header.count header.next pages) kind fits.1 in
    let few : header.count ≤ length (content page) = omega (arith, fit.1, length-content page size) in
    let count : length bytes ≡ header.count = ap length is ∙ length-take-le header.count (content page) few in
    record {
      after = fit.0;
      header = record {
        kind = there.kind ∙ ap kind_number kind;
        zero = there.zero;
        count = there.count ∙ sym count;
        number = there.number ∙ fits.0;
        next = there.next;
        zeros = there.zeros;
      };
      follows = fit.2;
      held = ap (λ n. take n (content page)) count ∙ sym is;
    }

-- and where it holds a part its header is such a one
pub part_header : (page : List ℕ) (header : PageHeader) (number next pages : ℕ) (part : List ℕ) → length page ≡ PAGE_SIZE → IsHeader page header → IsPart page number next pages part
    → (header.kind ≡ Catalogue) × Fits header number pages
part_header page header number next pages part size there is =
    let same = header_is_one page (catalogue_header (length part) number next) header is.header there in
    (sym (ap (λ (h : PageHeader). h.kind) same), subst (λ h. Fits h number pages) same (part_fits page number next pages part size is))

-- the same of the page with this number
pub part_held : (map : PageMap) (number next : ℕ) (page part : List ℕ) → map.page number ≡ Some page → length page ≡ PAGE_SIZE → number < map.fields.pages
    → IsPart page number next map.fields.pages part → HoldsPart map number next part
unfolding content
part_held map number next page part there size below is = record {
  after = is.after;
  below = below;
  page = page;
  there = there;
  size = size;
  header = is.header;
  follows = is.follows;
  held = is.held;
}

pub held_part : (map : PageMap) (number next : ℕ) (part : List ℕ) → (holds : HoldsPart map number next part) → IsPart holds.page number next map.fields.pages part
unfolding content
held_part map number next part holds = record { after = holds.after; header = holds.header; follows = holds.follows; held = holds.held }

pub held_at : (map : PageMap) (number next : ℕ) (page part : List ℕ) → map.page number ≡ Some page → HoldsPart map number next part → IsPart page number next map.fields.pages part
held_at map number next page part there holds =
    subst (λ p. IsPart p number next map.fields.pages part) (page_one map number holds.page page holds.there there) (held_part map number next part holds)

pub holds_one : (map : PageMap) (number a b : ℕ) (p q : List ℕ) → HoldsPart map number a p → HoldsPart map number b q → (a ≡ b) × (p ≡ q)
holds_one map number a b p q one other =
    part_one other.page number a b map.fields.pages map.fields.pages p q (held_at map number a other.page p other.there one) (held_part map number b q other)

pub holds_used : (map : PageMap) (number next : ℕ) (part : List ℕ) → (holds : HoldsPart map number next part) → in_use map number ≡ Some holds.page
holds_used map number next part holds = used_there map number holds.page holds.there (catalogue_used holds.page (length part) number next holds.header)

pub holds_fit : (map : PageMap) (number next : ℕ) (part : List ℕ) → (holds : HoldsPart map number next part) → IsFit holds.page number map.fields.pages
holds_fit map number next part holds = part_fit holds.page number next map.fields.pages part holds.size (held_part map number next part holds)

-- where no page in use fits, none holds a part
pub no_fit-no_part : (map : PageMap) (number left : ℕ) (before : ℕ → ℕ) → HasNoFit map number → HasNoFreshPart map number left before
no_fit-no_part map number left before none = record {
  none = λ next part holds within fresh. none.none holds.page (holds_used map number next part holds) (holds_fit map number next part holds);
}

-- one that was reached isn't fresh
pub reached-no_part : (map : PageMap) (number left : ℕ) (before : ℕ → ℕ) → (before number ≡ 0 → ⊥) → HasNoFreshPart map number left before
reached-no_part map number left before reached = record { none = λ next part holds within fresh. reached fresh }

-- one whose page holds none
pub page-no_part : (map : PageMap) (number left : ℕ) (before : ℕ → ℕ) (page : List ℕ) → map.page number ≡ Some page → HasNoPart page number map.fields.pages left → HasNoFreshPart map number left before
page-no_part map number left before page there none = record {
  none = λ next part holds within fresh. none.none next part (held_at map number next page part there holds) within;
}

-- what was appended was read
pub appends-reads : (map : PageMap) (number next left : ℕ) (page old new : List ℕ) → map.page number ≡ Some page → length page ≡ PAGE_SIZE → number < map.fields.pages
    → AppendsPart page number next map.fields.pages left old new → ReadsPart map number next left old new
appends-reads map number next left page old new there size below appends = record {
  part = appends.part;
  holds = part_held map number next page appends.part there size below appends.is;
  within = appends.within;
  appended = appends.appended;
}

-- a longer part is none that is asked for
pub longer-no_part : (page : List ℕ) (number next pages left : ℕ) (part : List ℕ) → IsPart page number next pages part → left < length part → HasNoPart page number pages left
longer-no_part page number next pages left part is longer = record {
  none = λ other more is_other within. absurd (omega (arith, within, longer, ap length (part_one page number next other pages pages part more is is_other).1));
}

-- the same pages hold the same parts
holds_same : (one other : PageMap) (number next : ℕ) (part : List ℕ) → SamePages one other → HoldsPart one number next part → HoldsPart other number next part
holds_same one other number next part same holds =
    let count : one.fields.pages ≡ other.fields.pages = ap (λ (f : FileHeader). f.pages) same.fields in
    record {
      after = holds.after;
      below = omega (arith, holds.below, count);
      page = holds.page;
      there = sym (same.pages number) ∙ holds.there;
      size = holds.size;
      header = holds.header;
      follows = subst (MayFollow next) count holds.follows;
      held = holds.held;
    }

pub reads_before : (old mid : PageMap) (number next left : ℕ) (was is : List ℕ) → SamePages mid old → ReadsPart mid number next left was is → ReadsPart old number next left was is
reads_before old mid number next left was is same reads = record {
  part = reads.part;
  holds = holds_same mid old number next reads.part same reads.holds;
  within = reads.within;
  appended = reads.appended;
}

-- a page that says such a part, where this is said of the page with this number
pub says-holds : (map : PageMap) (number next : ℕ) (page part : List ℕ) (is : Bool) → map.page number ≡ Some page → length page ≡ PAGE_SIZE → number < map.fields.pages
    → (IsTrue is ↔ IsPart page number next map.fields.pages part) → (IsTrue is ↔ HoldsPart map number next part)
says-holds map number next page part is there size below says =
    (λ yes. part_held map number next page part there size below (says.0 yes), λ holds. says.1 (held_at map number next page part there holds))

-- where a page holds a part already, it is written by leaving all as it is
pub holds-writes : (old new : PageMap) (number next : ℕ) (part : List ℕ) → SamePages new old → HoldsPart old number next part → WritesPart old new number next part
unfolding content
holds-writes old new number next part same holds = record {
  was = holds.page;
  there = holds.there;
  used = catalogue_used holds.page (length part) number next holds.header;
  below = holds.below;
  page = holds.page;
  size = holds.size;
  header = holds.header;
  held = holds.held;
  replaces = record {
    fields = same.fields;
    there = same.pages number ∙ holds.there;
    others = record { pages = λ n other. same.pages n };
  };
}

pub writes_before : (old mid new : PageMap) (number next : ℕ) (part : List ℕ) → SamePages mid old → WritesPart mid new number next part → WritesPart old new number next part
writes_before old mid new number next part same writes =
    let count : mid.fields.pages ≡ old.fields.pages = ap (λ (f : FileHeader). f.pages) same.fields in
    record {
      was = writes.was;
      there = sym (same.pages number) ∙ writes.there;
      used = writes.used;
      below = omega (arith, writes.below, count);
      page = writes.page;
      size = writes.size;
      header = writes.header;
      held = writes.held;
      replaces = record {
        fields = writes.replaces.fields ∙ same.fields;
        there = writes.replaces.there;
        others = record { pages = λ n other. writes.replaces.others.pages n other ∙ same.pages n };
      };
    }

pub no_part_before : (old mid : PageMap) (number left : ℕ) (before : ℕ → ℕ) → SamePages mid old → HasNoFreshPart mid number left before → HasNoFreshPart old number left before
no_part_before old mid number left before same none = record {
  none = λ next part holds within fresh.
      none.none next part (holds_same old mid number next part (record { fields = sym same.fields; pages = λ n. sym (same.pages n) }) holds) within fresh;
}

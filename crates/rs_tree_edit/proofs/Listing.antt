-- What a page holds after its records were put in the place of others, and what a page has that came into use.
use Rattle.std.proofs.Common.{◌≡◌, ◌<◌, ◌≤◌, ◌+◌, ◌-◌, ◌*◌, ℕ, None, Some, false, List, ◌++◌, length, take, drop, sym, ap, ◌∙◌, subst, arith}
use Rattle.std.proofs.lemmas.List.{length-drop, append-nil}
use Rattle.rs_page.specs.declared.page.TheConstants.{PAGE_SIZE}
use Rattle.rs_page.specs.Header.{IsHeader}
use Rattle.rs_page.specs.PageBytes.{is_free}
use Rattle.rs_page.specs.declared.file_header.FileHeader.{FileHeader}
use Rattle.rs_page.specs.declared.header.PageKind.{PageKind}
use Rattle.rs_page.specs.declared.header.PageHeader.{PageHeader}
use Rattle.rs_pages.specs.FreeList.{Allocates}
use Rattle.rs_pages.specs.PageMap.{PageMap, ReplacesPage, in_use}
use Rattle.rs_records.specs.Records.{records}
use Rattle.rs_records.proofs.RecordLists.{length-records, records_none}
use Rattle.rs_page_owners.specs.Counts.{one_at, no_pages}
use Rattle.rs_page_owners.proofs.Moving.{moves_trans, allocates-moves}
use Rattle.rs_tree.specs.Content.{content, tree_header, HasRecords}
use Rattle.rs_tree_edit.specs.Editing.{Lists, Splices, AddsPage}
use Rattle.rs_tree_edit.proofs.Replacing.{splices-moves}

content_size : (page : List ℕ) → length page ≡ PAGE_SIZE → length (content page) ≡ 4080
unfolding content
content_size page size = omega (arith, length-drop 16 page, size)

-- a page that says so many records, and has them
pub lists_of : (page : List ℕ) (what : PageKind) (number width count : ℕ) (rs : List (List ℕ)) → IsHeader page (tree_header what count number) → length page ≡ PAGE_SIZE → count * width ≤ 4080
    → records count width (content page) ≡ rs → Lists page what number width rs
lists_of page what number width count rs header size fit holds =
    let counted : count ≡ length rs = sym (length-records count width (content page)) ∙ ap length holds in
    let inside : count * width ≤ length (content page) = omega (arith, content_size page size) in
    let has : HasRecords page what number count width = record { header = header; size = size; fit = inside } in
    record { has = subst (λ n. HasRecords page what number n width) counted has; holds = ap (λ n. records n width (content page)) (sym counted) ∙ holds }

pub spliced_page : (old new : PageMap) (number : ℕ) (what : PageKind) (width count at removed more : ℕ) (added was page : List ℕ) (header : PageHeader)
    → old.page number ≡ Some was → is_free was ≡ false → number < old.fields.pages → ReplacesPage number page old new
    → header ≡ tree_header what (count - removed + more) number → IsHeader page header → length page ≡ PAGE_SIZE → (count - removed + more) * width ≤ 4080
    → records (count - removed + more) width (content page) ≡ take at (records count width (content was)) ++ (records more width added ++ drop (at + removed) (records count width (content was)))
    → Splices old new number what width count at removed (records more width added)
spliced_page old new number what width count at removed more added was page header there used below replaces is written size fit holds = record {
  was = was;
  page = page;
  there = there;
  used = used;
  below = below;
  replaces = replaces;
  lists = lists_of page what number width (count - removed + more) _ (subst (IsHeader page) is written) size fit holds;
}

-- a page that came into use and was filled
pub filled_page : (old mid new : PageMap) (number : ℕ) (what : PageKind) (width count : ℕ) (bytes : List ℕ)
    → Allocates what old mid number → in_use old number ≡ None → 1 < number → number < mid.fields.pages → old.fields.pages ≤ mid.fields.pages
    → Splices mid new number what width 0 0 0 (records count width bytes)
    → AddsPage old new number what width (records count width bytes)
filled_page old mid new number what width count bytes allocates fresh after below no_fewer splices =
    let same : new.fields.pages ≡ mid.fields.pages = ap (λ (f : FileHeader). f.pages) splices.replaces.fields in
    let none = records_none width (content splices.was) in
    let all : take 0 (records 0 width (content splices.was)) ++ (records count width bytes ++ drop 0 (records 0 width (content splices.was))) ≡ records count width bytes =
    ap (λ rs. records count width bytes ++ rs) none ∙ append-nil (records count width bytes) in
    record {
      after = after;
      below = omega (arith, below, same);
      no_fewer = omega (arith, no_fewer, same);
      fresh = fresh;
      page = splices.page;
      there = splices.replaces.there;
      lists = subst (Lists splices.page what number width) all splices.lists;
      others = record { pages = λ n other. splices.replaces.others.pages n other ∙ allocates.others.pages n other };
      moves = moves_trans old mid new no_pages (one_at number) (one_at number) (allocates-moves what old mid number after allocates)
          (splices-moves mid new number what width 0 0 0 (records count width bytes) splices);
    }

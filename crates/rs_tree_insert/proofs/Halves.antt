-- Records that went into two pages.
use Rattle.std.proofs.Common.{◌≡◌, ◌<◌, ◌≤◌, ◌+◌, ◌-◌, ◌*◌, ℕ, None, Some, false, List, [], ◌++◌, length, take, drop, Result, Ok, Err, IfOk, inl, inr, refl, sym, ap, ◌∙◌, subst, arith}
use Rattle.std.proofs.lemmas.Bool.{cases_lt}
use Rattle.std.proofs.lemmas.List.{append-nil, drop_all, length-drop, length-take-le}
use Rattle.rs_page.specs.Header.{page_kind}
use Rattle.rs_page.specs.PageBytes.{is_free}
use Rattle.rs_page.specs.declared.file_header.FileHeader.{FileHeader}
use Rattle.rs_page.specs.declared.header.PageKind.{PageKind}
use Rattle.rs_page.specs.declared.header.ContentKind.{ContentKind}
use Rattle.rs_page.specs.declared.header.ContentKind.TheVariants.{Leaf, Inner, Catalogue}
use Rattle.rs_pages.specs.PageMap.{PageMap, in_use}
use Rattle.rs_pages.proofs.FreeLists.{page_in_use_leaves_the_free_list}
use Rattle.rs_pages.proofs.Stores.{used_there}
use Rattle.rs_records.specs.Records.{records}
use Rattle.rs_records.proofs.RecordLists.{length-records, records-take, take-records, drop-records, times_upto}
use Rattle.rs_page_owners.specs.Counts.{one_at, no_pages, ◌&◌}
use Rattle.rs_page_owners.proofs.Moving.{moves_trans, moves_same, moves_part}
use Rattle.rs_tree.specs.Content.{content}
use Rattle.rs_tree_edit.specs.Editing.{Lists, Splices, AddsPage, HasNoFreeList}
use Rattle.rs_tree_edit.proofs.Replacing.{splices-moves}
use Rattle.rs_tree_insert.specs.Writing.{SplitsPage}

-- a page with records is in use
content_used : (kind : ContentKind) (page : List ℕ) (number width : ℕ) (rs : List (List ℕ)) → Lists page (page_kind kind) number width rs → is_free page ≡ false
content_used Leaf page number width rs lists = rw lists.has.header.kind refl
content_used Inner page number width rs lists = rw lists.has.header.kind refl
content_used Catalogue page number width rs lists = rw lists.has.header.kind refl

-- the first half of the records
pub first_half : (both : List ℕ) (width total half : ℕ) (rs : List (List ℕ)) → half ≤ total → records total width both ≡ rs → records half width (take (half * width) both) ≡ take half rs
first_half both width total half rs h all =
    records-take half width (half * width) both (omega arith) ∙ sym (take-records half total width both h) ∙ ap (take half) all

products : (total half width : ℕ) → half ≤ total → (total - half) * width ≡ total * width - half * width
products total half width h =
    let whole : total ≡ half + (total - half) = omega arith in
    let times : total * width ≡ (half + (total - half)) * width = ap (λ n. n * width) whole in
    omega arith

-- the rest
pub last_half : (both : List ℕ) (width total half : ℕ) (rs : List (List ℕ)) → half ≤ total → records total width both ≡ rs
    → records (total - half) width (take (total * width - half * width) (drop (half * width) both)) ≡ drop half rs
last_half both width total half rs h all =
    let enough : (total - half) * width ≤ total * width - half * width = omega (arith, products total half width h) in
    records-take (total - half) width (total * width - half * width) (drop (half * width) both) enough ∙ sym (drop-records half total width both h) ∙ ap (drop half) all

all_gone : (count width : ℕ) (bytes : List ℕ) (added : List (List ℕ)) → take 0 (records count width bytes) ++ (added ++ drop (0 + count) (records count width bytes)) ≡ added
all_gone count width bytes added =
    let none : drop (0 + count) (records count width bytes) ≡ [] = drop_all (0 + count) (records count width bytes) (omega (arith, length-records count width bytes)) in
    ap (λ rs. added ++ rs) none ∙ append-nil added

pub split_done : (old mid new : PageMap) (kind : ContentKind) (number other width count total half : ℕ) (both : List ℕ) (rs : List (List ℕ))
    → 2 ≤ half → half + 2 ≤ total → records total width both ≡ rs
    → Splices old mid number (page_kind kind) width count 0 count (records half width (take (half * width) both))
    → AddsPage mid new other (page_kind kind) width (records (total - half) width (take (total * width - half * width) (drop (half * width) both)))
    → SplitsPage old new number other (page_kind kind) width rs
split_done old mid new kind number other width count total half both rs some more all splices adds =
    let size : length rs ≡ total = ap length (sym all) ∙ length-records total width both in
    let inside : half ≤ total = omega arith in
    let first : Lists splices.page (page_kind kind) number width (take half rs) =
    subst (Lists splices.page (page_kind kind) number width)
    (all_gone count width (content splices.was) (records half width (take (half * width) both)) ∙ first_half both width total half rs inside all) splices.lists in
    let used : in_use mid number ≡ Some splices.page = used_there mid number splices.page splices.replaces.there (content_used kind splices.page number width (take half rs) first) in
    let apart : number ≡ other → ⊥ = λ same. let wrong : Some splices.page ≡ None = sym used ∙ ap (in_use mid) same ∙ adds.fresh in absurd (cc) in
    record {
      staying = half;
      some = some;
      some_more = omega arith;
      after = adds.after;
      below = omega (arith, splices.below, ap (λ (f : FileHeader). f.pages) splices.replaces.fields, adds.no_fewer);
      below_too = adds.below;
      first = splices.page;
      second = adds.page;
      there = adds.others.pages number apart ∙ splices.replaces.there;
      there_too = adds.there;
      lists = first;
      lists_too = subst (Lists adds.page (page_kind kind) other width) (last_half both width total half rs inside all) adds.lists;
      moves = moves_trans old mid new (one_at number) (one_at number) (one_at number & one_at other)
          (splices-moves old mid number (page_kind kind) width count 0 count (records half width (take (half * width) both)) splices)
          (moves_same mid new (no_pages & one_at number) (one_at other & one_at number) (one_at number) (one_at number & one_at other) (λ n. omega arith) (λ n. omega arith)
          (moves_part mid new no_pages (one_at other) (one_at number) adds.moves));
    }

-- where there is no free list after a page was written, there was none
pub no_list_before : (old mid : PageMap) (number : ℕ) (what : PageKind) (width count at removed : ℕ) (added : List (List ℕ)) → Splices old mid number what width count at removed added
    → HasNoFreeList mid → HasNoFreeList old
no_list_before old mid number what width count at removed added splices none = record {
  none = λ free list. none.none free (page_in_use_leaves_the_free_list old mid number splices.was splices.page free (used_there old number splices.was splices.there splices.used) splices.replaces list);
}

-- more records than fit a page, where three fit one at least
pub four : (width total : ℕ) → 3 * width ≤ 4080 → 4080 < total * width → 4 ≤ total
four width total narrow full = elim (cases_lt total 4) [
  | inl few ↦ absurd (omega (arith, times_upto total 3 width (omega arith)))
  | inr many ↦ many
]

pub parts_fit : (width count removed more : ℕ) → removed ≤ count → more ≤ removed + 1 → 3 * width ≤ 4080 → count * width ≤ 4080 → (count - removed + more) * width ≤ 8160
parts_fit width count removed more part one narrow fit =
    let few : count - removed + more ≤ count + 1 = omega arith in
    let next : (count + 1) * width ≡ count * width + width = omega arith in
    omega (arith, times_upto (count - removed + more) (count + 1) width few, next)

pub last_length : (both : List ℕ) (width total half : ℕ) → half ≤ total → total * width ≤ length both → length (take (total * width - half * width) (drop (half * width) both)) ≡ (total - half) * width
last_length both width total half h inside =
    let below = times_upto half total width h in
    let enough : total * width - half * width ≤ length (drop (half * width) both) = omega (arith, length-drop (half * width) both) in
    length-take-le (total * width - half * width) (drop (half * width) both) enough ∙ sym (products total half width h)

pub if_ok : {T E : Type 0} {P Q : T → Type 0} (r : Result T E) → IfOk r P → ((x : T) → P x → Q x) → IfOk r Q
if_ok (Ok x) p f = f x p
if_ok (Err e) p f = tt

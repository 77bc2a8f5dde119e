-- The free list: there is one, no page is in it twice, it is shorter than the count, and what is written elsewhere
-- leaves it.
use Rattle.std.proofs.Common.{◌≡◌, ◌≢◌, ◌<◌, ◌≤◌, ◌+◌, ◌-◌, ℕ, zero, suc, true, false, Some, None, List, [], ◌∷◌, length, drop, get_or, slice_index, nat_lt, Contains, ap, sym, ◌∙◌, subst, refl, inl, inr, ◌⊎◌, arith}
use Rattle.std.proofs.Math.Dec.{eqb}
use Rattle.std.proofs.lemmas.Bool.Decides.{eqb_tells, nat_tests}
use Rattle.std.proofs.lemmas.Map.Keys.{IsDistinct-cons, apart_from_distinct}
use Rattle.std.proofs.lemmas.Map.Steps.{length-le_from_distinct_below}
use Rattle.std.specs.List.{AllByRecursion, IsDistinct, list_any}
use Rattle.rs_page.specs.Follow.{MayFollow}
use Rattle.rs_page.specs.PageBytes.{empty_header, is_free, IsFreeLink}
use Rattle.rs_page.specs.declared.file_header.FileHeader.{FileHeader}
use Rattle.rs_page.specs.declared.header.PageHeader.{PageHeader}
use Rattle.rs_page.specs.declared.header.PageKind.{PageKind}
use Rattle.rs_page.specs.declared.header.PageKind.TheVariants.{Free}
use Rattle.rs_page.specs.Header.{IsHeader}
use Rattle.rs_page.proofs.Headers.{header_is_one, free_by_its_header}
use Rattle.rs_pages.specs.PageMap.{PageMap, SamePages, ReplacesPage, KeepsOtherPages, in_use, with_catalogue}
use Rattle.rs_pages.specs.FreeList.{IsFreePage, FreeFrom, IsFreeList, TakesFree, TakesLast, Allocates, Releases}

-- a map has one page with a number
pub page_one : (map : PageMap) (n : ℕ) (a b : List ℕ) → map.page n ≡ Some a → map.page n ≡ Some b → a ≡ b
page_one map n a b one other = let same : Some a ≡ Some b = sym one ∙ other in cc

-- a free page has one next page
pub next_one : (map : PageMap) (n a b : ℕ) → IsFreePage map n a → IsFreePage map n b → a ≡ b
next_one map n a b one other =
    let page : one.page ≡ other.page = page_one map n one.page other.page one.there other.there in
    let header : IsHeader other.page (empty_header Free n a) = subst (λ p. IsHeader p (empty_header Free n a)) page one.link.blank.header in
    ap (λ (h : PageHeader). h.next) (header_is_one other.page (empty_header Free n a) (empty_header Free n b) header other.link.blank.header)

-- a free page has a number past the header and the directory
pub free_past : (map : PageMap) (n next : ℕ) → IsFreePage map n next → 1 < n
free_past map n next free = free.link.fits.1.0

not_zero : (n : ℕ) → 1 < n → n ≡ 0 → ⊥
not_zero n h e = omega arith

-- there is one free list from a page on
pub chain_one : (map : PageMap) (first : ℕ) (a b : List ℕ) → FreeFrom map first a → FreeFrom map first b → a ≡ b
chain_one map first [] [] p q = refl
chain_one map first [] (n ∷ ns) p q = absurd (not_zero n (free_past map n q.1.0 q.1.1) (sym q.0 ∙ p))
chain_one map first (n ∷ ns) [] p q = absurd (not_zero n (free_past map n p.1.0 p.1.1) (sym p.0 ∙ q))
chain_one map first (n ∷ ns) (m ∷ ms) p q =
    let same : n ≡ m = sym p.0 ∙ q.0 in
    let next : p.1.0 ≡ q.1.0 = next_one map m p.1.0 q.1.0 (subst (λ i. IsFreePage map i p.1.0) same p.1.1) q.1.1 in
    let rest : ns ≡ ms = chain_one map q.1.0 ns ms (subst (λ i. FreeFrom map i ns) next p.1.2) q.1.2 in
    cc

-- the number is in the list
abbrev pub IsIn : ℕ → List ℕ → Type 0
IsIn n [] = ⊥
IsIn n (m ∷ ms) = (n ≡ m) ⊎ IsIn n ms

-- the free list from a page in it on
from_there : (map : PageMap) (first n : ℕ) (ns : List ℕ) → FreeFrom map first ns → IsIn n ns → (rest : List ℕ) × FreeFrom map n rest × (length rest ≤ length ns)
from_there map first n [] chain is_in = absurd is_in
from_there map first n (m ∷ ms) chain (inl is) = (m ∷ ms, subst (λ i. FreeFrom map i (m ∷ ms)) (chain.0 ∙ sym is) chain, omega arith)
from_there map first n (m ∷ ms) chain (inr is_in) =
    let rest = from_there map chain.1.0 n ms chain.1.2 is_in in (rest.0, rest.1, omega (arith, rest.2))

-- no page of a free list comes again after itself
pub first_once : (map : PageMap) (n : ℕ) (ns : List ℕ) → FreeFrom map n (n ∷ ns) → IsIn n ns → ⊥
first_once map n ns chain is_in =
    let rest = from_there map chain.1.0 n ns chain.1.2 is_in in
    let same : rest.0 ≡ n ∷ ns = chain_one map n rest.0 (n ∷ ns) rest.1 chain in
    let longer : length rest.0 ≡ length (n ∷ ns) = ap length same in
    omega (arith, rest.2)

-- a page of a free list is free
pub in_free : (map : PageMap) (first n : ℕ) (ns : List ℕ) → FreeFrom map first ns → IsIn n ns → (next : ℕ) × IsFreePage map n next
in_free map first n [] chain is_in = absurd is_in
in_free map first n (m ∷ ms) chain (inl is) = (chain.1.0, subst (λ i. IsFreePage map i chain.1.0) (sym is) chain.1.1)
in_free map first n (m ∷ ms) chain (inr is_in) = in_free map chain.1.0 n ms chain.1.2 is_in

-- a page that begins as a free one is free
pub begins_free : (page : List ℕ) (n next : ℕ) → IsHeader page (empty_header Free n next) → is_free page ≡ true
begins_free page n next header = (free_by_its_header page (empty_header Free n next) header).1 refl

-- where the page is free, none is in use
pub free-not_used : (map : PageMap) (n : ℕ) (page : List ℕ) → map.page n ≡ Some page → is_free page ≡ true → in_use map n ≡ None
free-not_used map n page there free = rw (there, free) refl

-- a page in use is no free page
pub not_free : (map : PageMap) (n : ℕ) (page : List ℕ) → in_use map n ≡ Some page → ((next : ℕ) × IsFreePage map n next) → ⊥
not_free map n page used free =
    let none : in_use map n ≡ None = free-not_used map n free.1.page free.1.there (begins_free free.1.page n free.0 free.1.link.blank.header) in
    let wrong : Some page ≡ None = sym used ∙ none in
    cc

-- a page that another call wrote over stays free
free_kept : (old new : PageMap) (n m next : ℕ) → KeepsOtherPages n old new → old.fields.pages ≤ new.fields.pages → m ≢ n → IsFreePage old m next
    → ((page : List ℕ) → IsFreeLink page m next old.fields.pages → IsFreeLink page m next new.fields.pages) → IsFreePage new m next
free_kept old new n m next keeps count ne free links = record {
  below = omega (arith, free.below);
  page = free.page;
  there = keeps.pages m ne ∙ free.there;
  link = links free.page free.link;
}

same_count : (a b : ℕ) → a ≡ b → b ≤ a
same_count a b e = omega arith

-- a free list in which the page that was written is not is one still
pub chain_kept : (old new : PageMap) (n first : ℕ) (ns : List ℕ) → KeepsOtherPages n old new → new.fields.pages ≡ old.fields.pages → (IsIn n ns → ⊥)
    → FreeFrom old first ns → FreeFrom new first ns
chain_kept old new n first [] keeps count none chain = chain
chain_kept old new n first (m ∷ ms) keeps count none chain = (
  chain.0,
  (
    chain.1.0,
    free_kept old new n m chain.1.0 keeps (same_count new.fields.pages old.fields.pages count) (λ e. none (inl (sym e))) chain.1.1
        (λ page. subst (IsFreeLink page m chain.1.0) (sym count)),
    chain_kept old new n chain.1.0 ms keeps count (λ s. none (inr s)) chain.1.2,
  ),
)

-- there is one free list
pub free_list_is_one : (map : PageMap) (one other : List ℕ) → IsFreeList map one → IsFreeList map other → one ≡ other
free_list_is_one map a b one other = chain_one map map.fields.first_free a b one.chain other.chain

-- the first of the free list is taken from it
list_taken : (old new : PageMap) (n : ℕ) (rest : List ℕ) → (next : ℕ) → TakesFree old.fields new.fields n next → IsFreePage old n next → KeepsOtherPages n old new → IsFreeList old (n ∷ rest) → IsFreeList new rest
list_taken old new n rest after takes was_free keeps list =
    let chain : FreeFrom old n (n ∷ rest) = subst (λ i. FreeFrom old i (n ∷ rest)) takes.first list.chain in
    let next : list.chain.1.0 ≡ after = next_one old n list.chain.1.0 after (subst (λ i. IsFreePage old i list.chain.1.0) (sym list.chain.0 ∙ takes.first) list.chain.1.1) was_free in
    let first : new.fields.first_free ≡ after = ap (λ (f : FileHeader). f.first_free) takes.fields in
    let free : new.fields.free_pages ≡ old.fields.free_pages - 1 = ap (λ (f : FileHeader). f.free_pages) takes.fields in
    let all : suc (length rest) ≡ old.fields.free_pages = list.count in
    record {
      chain = subst (λ i. FreeFrom new i rest) (next ∙ sym first)
          (chain_kept old new n list.chain.1.0 rest keeps (ap (λ (f : FileHeader). f.pages) takes.fields) (first_once old n rest chain) list.chain.1.2);
      count = omega arith;
    }

-- the free list after a page came from it or after the last one
list_allocated : (old new : PageMap) (n : ℕ) (ns : List ℕ) → ((next : ℕ) × TakesFree old.fields new.fields n next × IsFreePage old n next) ⊎ TakesLast old.fields new.fields n → KeepsOtherPages n old new
    → IsFreeList old ns → IsFreeList new (drop 1 ns)
list_allocated old new n [] (inl takes) keeps list = absurd (takes.1.some (sym takes.1.first ∙ list.chain))
list_allocated old new n (m ∷ ms) (inl takes) keeps list =
    let same : m ≡ n = sym list.chain.0 ∙ takes.1.first in
    list_taken old new n ms takes.0 takes.1 takes.2 keeps (subst (λ i. IsFreeList old (i ∷ ms)) same list)
list_allocated old new n [] (inr takes) keeps list = record {
  chain = ap (λ (f : FileHeader). f.first_free) takes.fields ∙ list.chain;
  count = list.count ∙ sym (ap (λ (f : FileHeader). f.free_pages) takes.fields);
}
list_allocated old new n (m ∷ ms) (inr takes) keeps list =
    absurd (not_zero m (free_past old m list.chain.1.0 list.chain.1.1) (sym list.chain.0 ∙ takes.none_free))

pub allocating_takes_the_first_free_page : (kind : PageKind) (old new : PageMap) (n : ℕ) (ns : List ℕ) → Allocates kind old new n
    → IsFreeList old ns → IsFreeList new (drop 1 ns)
allocating_takes_the_first_free_page kind old new n ns allocates list = list_allocated old new n ns allocates.fields allocates.others list

-- what may follow a page that is put before a free list
follows : (map : PageMap) (first : ℕ) (ns : List ℕ) → FreeFrom map first ns → MayFollow first map.fields.pages
follows map first [] chain = inl chain
follows map first (m ∷ ms) chain =
    subst (λ i. MayFollow i map.fields.pages) (sym chain.0) (inr (free_past map m chain.1.0 chain.1.1, chain.1.1.below))

-- a page that was in use is put before the free list
pub released_page_is_the_first_free : (old new : PageMap) (n : ℕ) (was : List ℕ) (ns : List ℕ) → 1 < n → n < old.fields.pages
    → in_use old n ≡ Some was → Releases old new n → IsFreeList old ns → IsFreeList new (n ∷ ns)
released_page_is_the_first_free old new n was ns past below used releases list =
    let count : new.fields.pages ≡ old.fields.pages = ap (λ (f : FileHeader). f.pages) releases.fields in
    let first : new.fields.first_free ≡ n = ap (λ (f : FileHeader). f.first_free) releases.fields in
    let free : new.fields.free_pages ≡ old.fields.free_pages + 1 = ap (λ (f : FileHeader). f.free_pages) releases.fields in
    let all : length ns ≡ old.fields.free_pages = list.count in
    let none = λ (is_in : IsIn n ns). not_free old n was used (in_free old old.fields.first_free n ns list.chain is_in) in
    record {
      chain = (
        first,
        (
          old.fields.first_free,
          record {
            below = subst (λ pages. n < pages) (sym count) below;
            page = releases.there.page;
            there = releases.there.there;
            link = record {
              blank = releases.there.blank;
              fits = (refl, (past, refl, subst (λ pages. MayFollow old.fields.first_free pages) (sym count) (follows old old.fields.first_free ns list.chain)));
            };
          },
          chain_kept old new n old.fields.first_free ns releases.others count none list.chain,
        ),
      );
      count = omega arith;
    }

-- a page is free where as many pages are the same
free_same : (one other : PageMap) → one.fields.pages ≡ other.fields.pages → ((m : ℕ) → one.page m ≡ other.page m)
    → (n next : ℕ) → IsFreePage other n next → IsFreePage one n next
free_same one other count same n next free = record {
  below = subst (λ pages. n < pages) (sym count) free.below;
  page = free.page;
  there = same n ∙ free.there;
  link = subst (IsFreeLink free.page n next) (sym count) free.link;
}

-- a free list from a page on is one where as many pages are the same
chain_same : (one other : PageMap) → one.fields.pages ≡ other.fields.pages → ((m : ℕ) → one.page m ≡ other.page m)
    → (first : ℕ) (ns : List ℕ) → FreeFrom other first ns → FreeFrom one first ns
chain_same one other count same first [] chain = chain
chain_same one other count same first (m ∷ ms) chain =
    (chain.0, (chain.1.0, free_same one other count same m chain.1.0 chain.1.1, chain_same one other count same chain.1.0 ms chain.1.2))

-- the same pages have the same free list
pub same_pages_have_one_free_list : (one other : PageMap) (ns : List ℕ) → SamePages one other → IsFreeList other ns → IsFreeList one ns
same_pages_have_one_free_list one other ns same list = record {
  chain = subst (λ (f : FileHeader). FreeFrom one f.first_free ns) (sym same.fields)
      (chain_same one other (ap (λ (f : FileHeader). f.pages) same.fields) same.pages other.fields.first_free ns list.chain);
  count = list.count ∙ ap (λ (f : FileHeader). f.free_pages) (sym same.fields);
}

-- a page in use is written, and the free list stays
pub page_in_use_leaves_the_free_list : (old new : PageMap) (n : ℕ) (was page : List ℕ) (ns : List ℕ) → in_use old n ≡ Some was → ReplacesPage n page old new
    → IsFreeList old ns → IsFreeList new ns
page_in_use_leaves_the_free_list old new n was page ns used replaces list = record {
  chain = subst (λ (f : FileHeader). FreeFrom new f.first_free ns) (sym replaces.fields)
      (chain_kept old new n old.fields.first_free ns replaces.others (ap (λ (f : FileHeader). f.pages) replaces.fields)
      (λ is_in. not_free old n was used (in_free old old.fields.first_free n ns list.chain is_in)) list.chain);
  count = list.count ∙ ap (λ (f : FileHeader). f.free_pages) (sym replaces.fields);
}

-- the catalogue begins elsewhere, and the free list stays
pub catalogue_leaves_the_free_list : (old new : PageMap) (first size : ℕ) (ns : List ℕ) → new.fields ≡ with_catalogue first size old.fields
    → ((m : ℕ) → new.page m ≡ old.page m) → IsFreeList old ns → IsFreeList new ns
catalogue_leaves_the_free_list old new first size ns fields pages list = record {
  chain = subst (λ i. FreeFrom new i ns) (sym (ap (λ (f : FileHeader). f.first_free) fields))
      (chain_same new old (ap (λ (f : FileHeader). f.pages) fields) pages old.fields.first_free ns list.chain);
  count = list.count ∙ sym (ap (λ (f : FileHeader). f.free_pages) fields);
}

-- a number that is not in the list is none of it
apart : (n : ℕ) (ns : List ℕ) → (IsIn n ns → ⊥) → AllByRecursion (λ m. eqb n m ≡ false) ns
apart n [] none = tt
apart n (m ∷ ms) none = (elim (eqb_tells n m) [ inl same ↦ absurd (none (inl same.1)) | inr other ↦ other.0 ], apart n ms (λ s. none (inr s)))

-- a number of the list is in it
found : (q : ℕ) (ns : List ℕ) → list_any (eqb q) ns ≡ true → IsIn q ns
found q [] any = cc
found q (m ∷ ms) any = elim (eqb_tells q m) [ inl same ↦ inl same.1 | inr other ↦ inr (found q ms (rw other.0 at any)) ]

-- no page is in a free list twice
distinct : (map : PageMap) (first : ℕ) (ns : List ℕ) → FreeFrom map first ns → IsDistinct eqb ns
unfolding IsDistinct
distinct map first [] chain = tt
distinct map first (n ∷ ns) chain =
    (apart n ns (first_once map n ns (subst (λ i. FreeFrom map i (n ∷ ns)) chain.0 chain)), distinct map chain.1.0 ns chain.1.2)

-- page 0 and the free pages, each once
below_all : (map : PageMap) (first q : ℕ) (ns : List ℕ) → 0 < map.fields.pages → FreeFrom map first ns → IsIn q (0 ∷ ns) → q < map.fields.pages
below_all map first q ns some chain (inl is) = omega arith
below_all map first q ns some chain (inr is_in) = (in_free map first q ns chain is_in).1.below

header_apart : (map : PageMap) (first : ℕ) (ns : List ℕ) → FreeFrom map first ns → IsIn 0 ns → ⊥
header_apart map first ns chain is_in =
    let free = in_free map first 0 ns chain is_in in
    let past : 1 < 0 = free_past map 0 free.0 free.1 in
    omega arith

-- a free list is shorter than the count of pages
pub free_list_is_shorter_than_the_count : (map : PageMap) (ns : List ℕ) → 0 < map.fields.pages → IsFreeList map ns → map.fields.free_pages < map.fields.pages
free_list_is_shorter_than_the_count map ns some list =
    let chain = list.chain in
    let once : IsDistinct eqb (0 ∷ ns) = IsDistinct-cons eqb 0 ns (apart 0 ns (header_apart map map.fields.first_free ns chain)) (distinct map map.fields.first_free ns chain) in
    let bound : length (0 ∷ ns) ≤ map.fields.pages = length-le_from_distinct_below (0 ∷ ns) map.fields.pages once
    (λ q any. below_all map map.fields.first_free q ns some chain (found q (0 ∷ ns) any)) in
    let count : length ns ≡ map.fields.free_pages = list.count in
    omega arith

-- a number that the list contains is in it
at_in : (n : ℕ) (ns : List ℕ) (k : ℕ) → k < length ns → get_or ns k n ≡ n → IsIn n ns
at_in n [] k lt is = absurd (omega arith)
at_in n (m ∷ ms) zero lt is = inl (sym is)
at_in n (m ∷ ms) (suc k) lt is = inr (at_in n ms k (omega arith) is)

-- each page of a free list comes after page 1, is one of the file's, and is not in use
pub free_page_is_not_in_use : (map : PageMap) (ns : List ℕ) (n : ℕ) → IsFreeList map ns → Contains ns n
    → (1 < n) × (n < map.fields.pages) × (in_use map n ≡ None)
free_page_is_not_in_use map ns n list there =
    let free = in_free map map.fields.first_free n ns list.chain (at_in n ns there.0 there.1 there.2) in
    let link = free.1.link in
    (free_past map n free.0 free.1, free.1.below, free-not_used map n free.1.page free.1.there (begins_free free.1.page n free.0 link.blank.header))

-- where numbers differ, an earlier one is no later one
not_again : (ns : List ℕ) (i j : ℕ) → IsDistinct eqb ns → i < j → j < length ns → slice_index ns i ≡ slice_index ns j → ⊥
not_again ns i j once before inside same =
    let other : eqb (slice_index ns i) (slice_index ns j) ≡ false = apart_from_distinct eqb ns i j 0 once before inside in
    grind (arith, nat_tests)

-- no page is in a free list twice
pub free_list_has_each_page_once : (map : PageMap) (ns : List ℕ) → IsFreeList map ns
    → (i j : ℕ) → i < length ns → j < length ns → slice_index ns i ≡ slice_index ns j → i ≡ j
free_list_has_each_page_once map ns list i j one other same =
    let once : IsDistinct eqb ns = distinct map map.fields.first_free ns list.chain in
    elim (nat_lt i j) as (λ b. nat_lt i j ≡ b → i ≡ j) [
      | true ↦ λ e. absurd (not_again ns i j once (grind (arith, nat_tests)) other same)
      | false ↦ λ e. elim (nat_lt j i) as (λ b. nat_lt j i ≡ b → i ≡ j) [
        | true ↦ λ f. absurd (not_again ns j i once (grind (arith, nat_tests)) one (sym same))
        | false ↦ λ f. grind (arith, nat_tests)
      ] refl
    ] refl

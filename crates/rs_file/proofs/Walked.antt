-- The free list, walked page by page.
use Rattle.std.proofs.Common.{◌≡◌, ◌≤◌, ◌<◌, ◌+◌, ℕ, List, [], ◌∷◌, ◌++◌, length, refl, sym, ap, subst, ◌∙◌, arith, append_assoc, append-nil, length-append}
use Rattle.rs_catalog_pages.proofs.Counting.{times-append, times-cons, times-none}
use Rattle.rs_file.specs.FreePages.{HasNoFreshFreeList, ReachesFree}
use Rattle.rs_page_owners.specs.Counts.{◌&◌, times}
use Rattle.rs_page_owners.proofs.Moving.{one_at-same}
use Rattle.rs_page.specs.PageBytes.{IsFreeLink}
use Rattle.rs_pages.specs.FreeList.{FreeFrom, IsFreeList, IsFreePage}
use Rattle.rs_pages.specs.PageMap.{PageMap, SamePages}
use Rattle.rs_pages.proofs.FreeLists.{free_past, next_one}

-- the first free pages are these, and the others follow from the next one on
pub record HasWalked (map : PageMap) (next left : ℕ) (before now : ℕ → ℕ) : Type 0 where
  pub numbers : List ℕ
  pub whole : (rest : List ℕ) → FreeFrom map next rest → FreeFrom map map.fields.first_free (numbers ++ rest)
  pub splits : (all : List ℕ) → FreeFrom map map.fields.first_free all → (rest : List ℕ) × (all ≡ numbers ++ rest) × FreeFrom map next rest
  pub counted : length numbers + left ≡ map.fields.free_pages
  pub reached : (number : ℕ) → now number ≡ (before & times numbers) number

pub walked_none : (map : PageMap) (before : ℕ → ℕ) → HasWalked map map.fields.first_free map.fields.free_pages before before
walked_none map before = record {
  numbers = [];
  whole = λ rest from. from;
  splits = λ all from. (all, refl, from);
  counted = omega arith;
  reached = λ n. omega (arith, times-none n);
}

next_split : (map : PageMap) (next following : ℕ) (rest : List ℕ) → IsFreePage map next following → FreeFrom map next rest → (more : List ℕ) × (rest ≡ next ∷ more) × FreeFrom map following more
next_split map next following [] free from = absurd (let past = free_past map next following free in omega (arith, from, past))
next_split map next following (n ∷ more) free from =
    let same = next_one map n from.1.0 following from.1.1 (subst (λ m. IsFreePage map m following) from.0 free) in
    (more, ap (λ m. m ∷ more) (sym from.0), subst (λ m. FreeFrom map m more) same from.1.2)

-- one page more
pub walked_more : (map : PageMap) (next following left fewer : ℕ) (before now then : ℕ → ℕ) → HasWalked map next left before now → IsFreePage map next following → fewer + 1 ≡ left
    → ((n : ℕ) → then n ≡ (now & times (next ∷ [])) n) → HasWalked map following fewer before then
walked_more map next following left fewer before now then walked free less reaches = record {
  numbers = walked.numbers ++ next ∷ [];
  whole = λ rest from. subst (FreeFrom map map.fields.first_free) (sym (append_assoc walked.numbers (next ∷ []) rest)) (walked.whole (next ∷ rest) (refl, (following, free, from)));
  splits = λ all from.
      let cut = walked.splits all from in
      let more = next_split map next following cut.0 free cut.2 in
      (more.0, cut.1 ∙ ap (λ l. walked.numbers ++ l) more.1 ∙ sym (append_assoc walked.numbers (next ∷ []) more.0), more.2);
  counted = omega (arith, length-append walked.numbers (next ∷ []), walked.counted, less);
  reached = λ n. omega (arith, reaches n, walked.reached n, times-append walked.numbers (next ∷ []) n);
}

-- all were walked
pub walked_all : (map : PageMap) (next left : ℕ) (before now : ℕ → ℕ) → HasWalked map next left before now → next ≡ 0 → left ≡ 0 → ReachesFree map before now
walked_all map next left before now walked end none = record {
  free = walked.numbers;
  list = record { chain = subst (FreeFrom map map.fields.first_free) (append-nil walked.numbers) (walked.whole [] end); count = omega (arith, walked.counted, none) };
  reached = walked.reached;
}

-- where the list ends too early, there is none
pub walked_short : (map : PageMap) (next left : ℕ) (before now : ℕ → ℕ) → HasWalked map next left before now → next ≡ 0 → (left ≡ 0 → ⊥) → HasNoFreshFreeList map before
walked_short map next left before now walked end some = record {
  none = λ free list fresh. let cut = walked.splits free list.chain in at free list cut.0 cut.1 cut.2;
} where
  at : (free : List ℕ) → IsFreeList map free → (rest : List ℕ) → free ≡ walked.numbers ++ rest → FreeFrom map next rest → ⊥
  at free list [] all from = some (omega (arith, walked.counted, list.count, ap length (all ∙ append-nil walked.numbers)))
  at free list (n ∷ more) all from = absurd (let past = free_past map n from.1.0 from.1.1 in omega (arith, from.0, end, past))

-- where there is no next page that is fresh and free, and one too many was not walked, there is none
pub walked_wrong : (map : PageMap) (next left : ℕ) (before now : ℕ → ℕ) → HasWalked map next left before now → (next ≡ 0 → ⊥)
    → (0 < left → now next ≡ 0 → (following : ℕ) → IsFreePage map next following → ⊥) → HasNoFreshFreeList map before
walked_wrong map next left before now walked some none = record {
  none = λ free list fresh. let cut = walked.splits free list.chain in at free list fresh cut.0 cut.1 cut.2;
} where
  at : (free : List ℕ) → IsFreeList map free → ((n : ℕ) → (before & times free) n ≤ 1) → (rest : List ℕ) → free ≡ walked.numbers ++ rest → FreeFrom map next rest → ⊥
  at free list fresh [] all from = some from
  at free list fresh (n ∷ more) all from =
      let long : length free ≡ length walked.numbers + length (n ∷ more) = ap length all ∙ length-append walked.numbers (n ∷ more) in
      let here : times free n ≡ times walked.numbers n + times (n ∷ more) n = ap (λ l. times l n) all ∙ times-append walked.numbers (n ∷ more) n in
      let isnt : now n ≡ 0 = omega (arith, fresh n, walked.reached n, here, times-cons n more n, one_at-same n) in
      none (omega (arith, long, list.count, walked.counted)) (ap now from.0 ∙ isnt) from.1.0 (subst (λ m. IsFreePage map m from.1.0) (sym from.0) from.1.1)

-- a free page of the same pages
pub free_before : (old mid : PageMap) (number following : ℕ) → SamePages mid old → IsFreePage mid number following → IsFreePage old number following
free_before old mid number following same free = record {
  below = subst (λ fields. number < fields.pages) same.fields free.below;
  page = free.page;
  there = sym (same.pages number) ∙ free.there;
  link = subst (λ fields. IsFreeLink free.page number following fields.pages) same.fields free.link;
}

pub free_after : (old mid : PageMap) (number following : ℕ) → SamePages mid old → IsFreePage old number following → IsFreePage mid number following
free_after old mid number following same free = record {
  below = subst (λ fields. number < fields.pages) (sym same.fields) free.below;
  page = free.page;
  there = same.pages number ∙ free.there;
  link = subst (λ fields. IsFreeLink free.page number following fields.pages) (sym same.fields) free.link;
}

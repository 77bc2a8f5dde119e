-- Pages in a list: one is written, one comes after the last.
use Rattle.std.proofs.Common.{◌≡◌, ◌≢◌, ◌≤◌, ◌<◌, ◌+◌, ◌-◌, inl, inr, ℕ, zero, suc, true, false, Option, Some, None, List, [], ◌∷◌, ◌++◌, length, nat_lt, slice_get, refl, sym, ap, ◌∙◌, subst, arith, get_or, IfSome}
use Rattle.std.specs.Prelude.{⊤}
use Rattle.std.proofs.Math.ListN.{set}
use Rattle.std.proofs.lemmas.Option.{slice_get_past, slice_get_read}
use Rattle.std.proofs.lemmas.Bool.{true≢false}
use Rattle.std.proofs.lemmas.Bool.Decides.{nat_tests}
use Rattle.rs_refusal.specs.Counts.{counted_on}
use Rattle.rs_page.specs.declared.page.TheConstants.{PAGE_SIZE}
use Rattle.rs_refusal.proofs.CountLemmas.{counted_on_le}
use Rattle.rs_refusal.specs.declared.refusal.Refusal.TheVariants as refusal
use Rattle.rs_page.specs.PageBytes.{IsBlank, IsFreeLink, is_free}
use Rattle.rs_page.specs.declared.page.Page.{Page}
use Rattle.rs_page.specs.declared.file_header.FileHeader.{FileHeader}
use Rattle.rs_page.specs.declared.header.PageKind.{PageKind}
use Rattle.rs_page.specs.declared.header.PageKind.TheVariants.{Free}
use Rattle.rs_pages.specs.Held.{page_or}
use Rattle.rs_pages.specs.PageMap.{PageMap}
use Rattle.rs_pages.specs.FreeList.{IsFreePage, IsFreeList, TakesFree, TakesLast}
use Rattle.rs_pages.specs.Store.{Store, KeepsCounts, HoldsCopy}
use Rattle.rs_pages.specs.Uses.{Lends, AllocatesPage, RefusesPage, ReleasesPage}
use Rattle.rs_pages.specs.Plain.{listed_page, listed_store}
use Rattle.rs_pages.proofs.FreeLists.{page_one, free-not_used, begins_free}
use Rattle.rs_pages.proofs.Stores.{KeepsCounts-refl, KeepsPages-refl, damaged_file-counts}

pub at_set : {X : Type 0} (xs : List X) (i : ℕ) (x : X) → i < length xs → slice_get (set xs i x) i ≡ Some x
at_set [] i x h = absurd (omega arith)
at_set (y ∷ ys) zero x h = refl
at_set (y ∷ ys) (suc i) x h = at_set ys i x (omega arith)

pub beside_set : {X : Type 0} (xs : List X) (i j : ℕ) (x : X) → j ≢ i → slice_get (set xs i x) j ≡ slice_get xs j
beside_set [] i j x ne = refl
beside_set (y ∷ ys) zero zero x ne = absurd (ne refl)
beside_set (y ∷ ys) zero (suc j) x ne = refl
beside_set (y ∷ ys) (suc i) zero x ne = refl
beside_set (y ∷ ys) (suc i) (suc j) x ne = beside_set ys i j x (λ e. ne (ap suc e))

at_end : {X : Type 0} (xs : List X) (x : X) → slice_get (xs ++ x ∷ []) (length xs) ≡ Some x
at_end [] x = refl
at_end (y ∷ ys) x = at_end ys x

beside_end : {X : Type 0} (xs : List X) (x : X) (j : ℕ) → j ≢ length xs → slice_get (xs ++ x ∷ []) j ≡ slice_get xs j
beside_end [] x zero ne = absurd (ne refl)
beside_end [] x (suc j) ne = refl
beside_end (y ∷ ys) x zero ne = refl
beside_end (y ∷ ys) x (suc j) ne = beside_end ys x j (λ e. ne (ap suc e))

after_zero : (n : ℕ) → nat_lt 0 (suc n) ≡ true
after_zero n = grind (arith, nat_tests)

-- page 0 is in no list
pub listed : (ps : List Page) (n : ℕ) (page : Page) → 0 < n → slice_get ps n ≡ Some page → listed_page ps n ≡ Some page.bytes
listed ps zero page pos at = absurd (omega arith)
listed ps (suc n) page pos at = rw (after_zero n, at) refl

listed-past : (ps : List Page) (n : ℕ) → 0 < n → length ps ≤ n → listed_page ps n ≡ None
listed-past ps zero pos past = absurd (omega arith)
listed-past ps (suc n) pos past = rw (after_zero n, slice_get_past ps (suc n) past) refl

pub listed-same : (ps qs : List Page) (n : ℕ) → slice_get ps n ≡ slice_get qs n → listed_page ps n ≡ listed_page qs n
listed-same ps qs n same = rw same refl

-- a free page is no change in use
free_not_held : (ps : List Page) (n : ℕ) (page free : List ℕ) → listed_page ps n ≡ Some free → is_free free ≡ true → page_or (listed_page ps n) None ≡ Some page
    → is_free page ≡ false → ⊥
free_not_held ps n page free there is held used =
    let same : Some free ≡ Some page = subst (λ (o : Option (List ℕ)). page_or o None ≡ Some page) there held in
    let one : free ≡ page = cc in
    true≢false (sym is ∙ ap is_free one ∙ used)

-- the copies in the list after another page was put into it
pub put-held : (ps qs : List Page) (fields after : FileHeader) (limit full n : ℕ) (page : Page) → listed_page qs n ≡ Some page.bytes
    → ((m : ℕ) → m ≢ n → listed_page qs m ≡ listed_page ps m) → HoldsCopy n page.bytes (listed_store ps fields limit full) (listed_store qs after limit full)
put-held ps qs fields after limit full n page there others = record {
  there = rw there refl;
  others = λ m ne. rw (others m ne) refl;
}

pub counts : (ps qs : List Page) (fields after : FileHeader) (limit full more : ℕ) → full ≤ more → KeepsCounts (listed_store ps fields limit full) (listed_store qs after limit more)
counts ps qs fields after limit full more rises = record { limit = refl; begun = refl; full_refusals = rises }

-- the fields of a file of so many pages
abbrev pub with_pages : FileHeader → ℕ → FileHeader
with_pages fields pages = record fields { pages = pages }

-- a page after the last
pub last-allocated : (ps qs : List Page) (fields : FileHeader) (limit full : ℕ) (kind : PageKind) (n : ℕ) (page : Page)
    → n ≡ fields.pages → fields.pages ≡ length ps → 2 ≤ fields.pages → fields.pages < limit → fields.first_free ≡ 0
    → IsBlank page.bytes kind n 0 → qs ≡ ps ++ page ∷ []
    → AllocatesPage ⊤ kind n (listed_store ps fields limit full) (listed_store qs (with_pages fields (fields.pages + 1)) limit full)
last-allocated ps qs fields limit full kind n page is room two below none blank pushed =
    let after : FileHeader = with_pages fields (fields.pages + 1) in
    let after_is : after ≡ with_pages fields (n + 1) = ap (λ (i : ℕ). with_pages fields (i + 1)) (sym is) in
    subst (λ (all : List Page). AllocatesPage ⊤ kind n (listed_store ps fields limit full) (listed_store all (with_pages fields (fields.pages + 1)) limit full)) (sym pushed) (
    let size : n ≡ length ps = is ∙ room in
    let pos : 0 < n = omega arith in
    let there : listed_page (ps ++ page ∷ []) n ≡ Some page.bytes =
    listed (ps ++ page ∷ []) n page pos (subst (λ i. slice_get (ps ++ page ∷ []) i ≡ Some page) (sym size) (at_end ps page)) in
    let others = λ (m : ℕ) (ne : m ≢ n). listed-same (ps ++ page ∷ []) ps m (beside_end ps page m (λ e. ne (e ∙ sym size))) in
    let count : after.pages ≡ n + 1 = ap (λ (f : FileHeader). f.pages) after_is in
    let takes : TakesLast fields after n = record { none_free = none; last = sym is; fields = after_is } in
    record {
      allocates = λ _. record {
        fields = inr takes;
        there = record { page = page.bytes; blank = blank; there = there };
        others = record { pages = others };
      };
      fields = inr takes;
      fresh = λ _. rw (listed-past ps n pos (omega arith)) refl;
      not_held = λ used. let none_there : Some used.page ≡ None = sym used.held ∙ rw (listed-past ps n pos (omega arith)) refl in cc;
      after = omega arith;
      below = omega arith;
      no_fewer = omega arith;
      within = omega arith;
      page = page.bytes;
      blank = blank;
      held = put-held ps (ps ++ page ∷ []) fields after limit full n page there others;
      counts = counts ps (ps ++ page ∷ []) fields after limit full full (omega arith);
      failures = refl;
      full = refl;
    })

-- the fields of a file with this free list
abbrev pub with_free : FileHeader → ℕ → ℕ → FileHeader
with_free fields first count = record fields { first_free = first; free_pages = count }

-- the first free page
pub free-allocated : (ps : List Page) (fields : FileHeader) (limit full : ℕ) (kind : PageKind) (n next : ℕ) (page : Page)
    → fields.first_free ≡ n → n ≢ 0 → fields.pages ≡ length ps → fields.pages ≤ limit → 0 < fields.free_pages
    → IsFreePage (record { fields = fields; page = listed_page ps }) n next
    → IsBlank page.bytes kind n 0
    → AllocatesPage ⊤ kind n (listed_store ps fields limit full) (listed_store (set ps n page) (with_free fields next (fields.free_pages - 1)) limit full)
free-allocated ps fields limit full kind n next page first some room within counted free blank =
    let after : FileHeader = with_free fields next (fields.free_pages - 1) in
    let past : 1 < n = free.link.fits.1.0 in
    let inside : n < fields.pages = free.below in
    let takes : TakesFree fields after n next = record { first = first; some = some; counted = counted; follows = free.link.fits.1.2; fields = refl } in
    let there : listed_page (set ps n page) n ≡ Some page.bytes = listed (set ps n page) n page (omega arith) (at_set ps n page (omega arith)) in
    let others = λ (m : ℕ) (ne : m ≢ n). listed-same (set ps n page) ps m (beside_set ps n m page ne) in
    record {
      allocates = λ _. record {
        fields = inl (next, takes, free);
        there = record { page = page.bytes; blank = blank; there = there };
        others = record { pages = others };
      };
      fields = inl (next, takes);
      fresh = λ _. free-not_used (record { fields = fields; page = listed_page ps }) n free.page free.there (begins_free free.page n next free.link.blank.header);
      not_held = λ used. free_not_held ps n used.page free.page free.there (begins_free free.page n next free.link.blank.header) used.held used.in_use;
      after = past;
      below = omega arith;
      no_fewer = omega arith;
      within = omega arith;
      page = page.bytes;
      blank = blank;
      held = put-held ps (set ps n page) fields after limit full n page there others;
      counts = counts ps (set ps n page) fields after limit full full (omega arith);
      failures = refl;
      full = refl;
    }

-- a page of the list that is in use may be lent
pub listed-lends : (ps : List Page) (fields : FileHeader) (limit full n : ℕ) (page : List ℕ) → 0 < n → n < fields.pages → listed_page ps n ≡ Some page
    → is_free page ≡ false → length page ≡ PAGE_SIZE → Lends ⊤ (listed_store ps fields limit full) n page
listed-lends ps fields limit full n page pos below there used size = record {
  after = pos;
  below = below;
  size = size;
  bytes = λ _. there;
  in_use = used;
  held = subst (λ (o : Option (List ℕ)). IfSome (page_or o None) (λ held. page ≡ held)) (sym there) refl;
  fits = λ none. let wrong : Some page ≡ None = subst (λ (o : Option (List ℕ)). page_or o None ≡ None) there none in cc;
}

full-not_disk : refusal.FileFull ≡ refusal.Disk → ⊥
full-not_disk is = cc

-- a page in use becomes the first free one
pub released : (ps : List Page) (fields : FileHeader) (limit full : ℕ) (n : ℕ) (was page : Page)
    → 1 < n → n < length ps → fields.pages ≡ length ps → slice_get ps n ≡ Some was → is_free was.bytes ≡ false → length was.bytes ≡ PAGE_SIZE
    → IsBlank page.bytes Free n fields.first_free
    → ReleasesPage ⊤ n (listed_store ps fields limit full) (listed_store (set ps n page) (with_free fields n (fields.free_pages + 1)) limit full)
released ps fields limit full n was page past inside room at used size blank =
    let after : FileHeader = with_free fields n (fields.free_pages + 1) in
    let there : listed_page (set ps n page) n ≡ Some page.bytes = listed (set ps n page) n page (omega arith) (at_set ps n page inside) in
    let others = λ (m : ℕ) (ne : m ≢ n). listed-same (set ps n page) ps m (beside_set ps n m page ne) in
    let old : listed_page ps n ≡ Some was.bytes = listed ps n was (omega arith) at in
    record {
      was = was.bytes;
      lends = listed-lends ps fields limit full n was.bytes (omega arith) (omega arith) old used size;
      past = past;
      releases = λ _. record {
        fields = refl;
        there = record { page = page.bytes; blank = blank; there = there };
        others = record { pages = others };
      };
      fields = refl;
      page = page.bytes;
      blank = blank;
      held = put-held ps (set ps n page) fields after limit full n page there others;
      counts = counts ps (set ps n page) fields after limit full full (omega arith);
      failures = refl;
      full = refl;
    }

-- a full file
pub full-refused : (ps : List Page) (fields : FileHeader) (limit full more : ℕ) → limit ≤ fields.pages → fields.first_free ≡ 0 → more ≡ counted_on full
    → RefusesPage ⊤ refusal.FileFull (listed_store ps fields limit full) (listed_store ps fields limit more)
full-refused ps fields limit full more at_limit none counted = record {
  keeps = record { pages = λ _. record { fields = refl; pages = λ n. refl }; fields = refl; held = λ n. refl };
  counts = counts ps ps fields fields limit full more (subst (λ i. full ≤ i) (sym counted) (counted_on_le full));
  full = λ ne. absurd (ne refl);
  wants = record {
    cause = inr (inr (inl (refl, record { at_limit = at_limit; none_free = none; counted = counted })));
    count = record { disk = λ is. absurd (full-not_disk is); other = λ _. refl };
  };
}

-- a free list that is none
pub damaged-refused : (s : Store) → ((free : List ℕ) → IsFreeList s.map free → ⊥) → RefusesPage ⊤ refusal.DamagedFile s s
damaged-refused s none = record {
  keeps = KeepsPages-refl ⊤ s;
  counts = KeepsCounts-refl s;
  full = λ _. refl;
  wants = record { cause = inr (inr (inr (refl, λ _. none))); count = damaged_file-counts refusal.DamagedFile s refl };
}

-- the first of a free list is a free page
pub list-begins : (map : PageMap) (ns : List ℕ) → map.fields.first_free ≢ 0 → IsFreeList map ns → (next : ℕ) × IsFreePage map map.fields.first_free next
list-begins map [] some list = absurd (some list.chain)
list-begins map (n ∷ ns) some list = (list.chain.1.0, subst (λ i. IsFreePage map i list.chain.1.0) (sym list.chain.0) list.chain.1.1)

-- a free list is empty where page 0 counts no free page
pub list-counts : (map : PageMap) (ns : List ℕ) → map.fields.first_free ≢ 0 → map.fields.free_pages ≡ 0 → IsFreeList map ns → ⊥
list-counts map [] some none list = some list.chain
list-counts map (n ∷ ns) some none list = let count : suc (length ns) ≡ map.fields.free_pages = list.count in omega arith

-- a page that was read from the list
pub listed-read : (ps : List Page) (size n i : ℕ) (page : Page) → i ≡ n → (i ≡ 0 → ⊥) → size ≡ length ps → i < size → page ≡ get_or ps i page
    → listed_page ps n ≡ Some page.bytes
listed-read ps size n i page same some long inside read =
    let at : slice_get ps i ≡ Some page = slice_get_read ps size i page long inside read in
    listed ps n page (omega arith) (subst (λ j. slice_get ps j ≡ Some page) same at)

-- a free page that is there is a link of a free list
pub free_has_link : (map : PageMap) (n next : ℕ) (page : List ℕ) → map.page n ≡ Some page → IsFreePage map n next → IsFreeLink page n next map.fields.pages
free_has_link map n next page there free = subst (λ p. IsFreeLink p n next map.fields.pages) (page_one map n free.page page free.there there) free.link

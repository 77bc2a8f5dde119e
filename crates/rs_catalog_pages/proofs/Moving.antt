-- The pages of the catalogue are in use, whichever come and go.
use Rattle.std.proofs.Common.{◌≡◌, ◌⊎◌, ◌<◌, ◌≤◌, ◌+◌, ℕ, None, Some, List, [], ◌∷◌, ◌++◌, refl, sym, ap, subst, ◌∙◌, inl, inr, arith}
use Rattle.rs_page.specs.Follow.{MayFollow}
use Rattle.rs_page.specs.Header.{FitsKind}
use Rattle.rs_page.specs.PageBytes.{IsFit, empty_header}
use Rattle.rs_page.specs.declared.header.PageKind.{PageKind}
use Rattle.rs_page.specs.declared.header.PageKind.TheVariants.{Header, Leaf, Inner, Catalogue, Free, Directory}
use Rattle.rs_page.specs.declared.file_header.FileHeader.{FileHeader}
use Rattle.rs_pages.specs.FreeList.{Allocates, IsFreeList}
use Rattle.rs_pages.specs.PageMap.{PageMap, HasNoFit, in_use, used_page}
use Rattle.rs_pages.specs.Store.{Store}
use Rattle.rs_pages.specs.Uses.{ReleasesPage}
use Rattle.rs_pages.proofs.FreeLists.{free_list_is_shorter_than_the_count}
use Rattle.rs_pages.proofs.Stores.{used_there}
use Rattle.rs_page_owners.specs.Counts.{◌&◌, one_at, times, no_pages}
use Rattle.rs_page_owners.specs.Owners.{Moves, Shares}
use Rattle.rs_page_owners.proofs.Moving.{one_at-same, same_number, moves_trans, moves_same, moves_part, allocates-moves, releases-moves}
use Rattle.rs_catalog_pages.specs.Storing.{IsInUse, AreInUse, MovesPages, AreNotOwn}
use Rattle.rs_catalog_pages.proofs.Counting.{times-push, one_at-off, none_or_some}
use Rattle.rs_catalog_pages.proofs.Parts.{catalogue_used}

kind_more : (kind : PageKind) (number count next a b : ℕ) → a ≤ b → FitsKind kind number count next a → FitsKind kind number count next b
kind_more Header number count next a b more fits = fits
kind_more Directory number count next a b more fits = fits
kind_more Leaf number count next a b more fits = fits
kind_more Inner number count next a b more fits = fits
kind_more Catalogue number count next a b more fits = (fits.0, fits.1, follows fits.2) where
  follows : MayFollow next a → MayFollow next b
  follows (inl none) = inl none
  follows (inr past) = inr (past.0, omega (arith, past.1))
kind_more Free number count next a b more fits = (fits.0, fits.1, follows fits.2) where
  follows : MayFollow next a → MayFollow next b
  follows (inl none) = inl none
  follows (inr past) = inr (past.0, omega (arith, past.1))

-- a page that fits fits a longer file too
fit_more : (page : List ℕ) (number a b : ℕ) → a ≤ b → IsFit page number a → IsFit page number b
fit_more page number a b more fit = record {
  header = fit.header;
  there = fit.there;
  fits = (fit.fits.0, kind_more fit.header.kind number fit.header.count fit.header.next a b more fit.fits.1);
}

-- a page that stays is in use still
pub in_use_kept : (old new : PageMap) (number : ℕ) → old.fields.pages ≤ new.fields.pages → new.page number ≡ old.page number → IsInUse old number → IsInUse new number
in_use_kept old new number count kept is = record {
  after = is.after;
  below = omega (arith, is.below, count);
  page = is.page;
  used = ap used_page kept ∙ is.used;
  fit = fit_more is.page number old.fields.pages new.fields.pages count is.fit;
}

pub MovesPages-refl : (map : PageMap) (numbers : List ℕ) → Moves map map (times numbers) (times numbers) → MovesPages map map numbers numbers
MovesPages-refl map numbers moves = record { moves = moves; used = λ own. own }

pub MovesPages-trans : (one two three : PageMap) (before between after : List ℕ) → MovesPages one two before between → MovesPages two three between after → MovesPages one three before after
MovesPages-trans one two three before between after a b = record {
  moves = moves_trans one two three (times before) (times between) (times after) a.moves b.moves;
  used = λ own. b.used (a.used own);
}

-- what isn't own after a move wasn't before it
pub not_own_before : (old new : PageMap) (before after : List ℕ) → MovesPages old new before after → AreNotOwn new after → AreNotOwn old before
not_own_before old new before after moves none = record {
  none = λ others own shares. none.none others (moves.used own) (moves.moves.beside others shares).shares;
}

-- a page that came into use
pub allocated : (old new : PageMap) (number : ℕ) (numbers now : List ℕ) → Allocates Catalogue old new number → in_use old number ≡ None → 1 < number → number < new.fields.pages → old.fields.pages ≤ new.fields.pages
    → now ≡ numbers ++ number ∷ [] → MovesPages old new numbers now
allocated old new number numbers now allocates fresh past below more is = record {
  moves = moves_same old new (no_pages & times numbers) (one_at number & times numbers) (times numbers) (times now) (λ n. omega arith) (λ n. sym (timed n))
      (moves_part old new no_pages (one_at number) (times numbers) (allocates-moves Catalogue old new number past allocates));
  used = λ own. record { each = each own; once = once own };
} where
  timed : (n : ℕ) → times now n ≡ one_at number n + times numbers n
  timed n = ap (λ ns. times ns n) is ∙ times-push numbers number n

  each : AreInUse old numbers → (n : ℕ) → 0 < times now n → IsInUse new n
  each own n there = elim (same_number n number) [
    | inl same ↦ subst (IsInUse new) (sym same) (record {
      after = past;
      below = below;
      page = allocates.there.page;
      used = used_there new number allocates.there.page allocates.there.there (catalogue_used allocates.there.page 0 number 0 allocates.there.blank.header);
      fit = record { header = empty_header Catalogue number 0; there = allocates.there.blank.header; fits = (refl, (past, omega arith, inl refl)) };
    })
    | inr other ↦ in_use_kept old new n more (allocates.others.pages n other) (own.each n (omega (arith, there, timed n, one_at-off number n other)))
  ]

  once : AreInUse old numbers → (n : ℕ) → times now n ≤ 1
  once own n = elim (same_number n number) [
    | inl same ↦ elim (none_or_some (times numbers number)) [
      | inl none ↦ omega (arith, timed n, one_at-same number, none, ap (one_at number) same, ap (times numbers) same)
      | inr some ↦ absurd (let wrong : Some (own.each number some).page ≡ None = sym (own.each number some).used ∙ fresh in cc)
    ]
    | inr other ↦ omega (arith, timed n, one_at-off number n other, own.once n)
  ]

-- no page can be taken from what is no free list
pub no_list-not_own : (map : PageMap) (numbers : List ℕ) → ((free : List ℕ) → IsFreeList map free → ⊥) → AreNotOwn map numbers
no_list-not_own map numbers none = record { none = λ others own shares. none shares.free shares.list }

-- the last page was released
pub released : (tied : Type 0) → tied → (old new : Store) (number : ℕ) (numbers all : List ℕ) → all ≡ numbers ++ number ∷ [] → ReleasesPage tied number old new → MovesPages old.map new.map all numbers
released tied is old new number numbers all whole releases = record {
  moves = moves_same old.map new.map (one_at number & times numbers) (no_pages & times numbers) (times all) (times numbers) timed (λ n. omega arith)
      (moves_part old.map new.map (one_at number) no_pages (times numbers)
      (releases-moves old.map new.map number releases.was releases.past releases.lends.below (used_there old.map number releases.was (releases.lends.bytes is) releases.lends.in_use) (releases.releases is)));
  used = λ own. record {
    each = λ n there.
        in_use_kept old.map new.map n (omega (arith, ap (λ (f : FileHeader). f.pages) releases.fields))
        ((releases.releases is).others.pages n (λ same. let here : 0 < times numbers number = subst (λ k. 0 < times numbers k) same there in omega (arith, own.once number, timed number, one_at-same number, here)))
        (own.each n (omega (arith, there, timed n)));
    once = λ n. omega (arith, own.once n, timed n);
  };
} where
  timed : (n : ℕ) → times all n ≡ one_at number n + times numbers n
  timed n = ap (λ ns. times ns n) whole ∙ times-push numbers number n

-- one that can't be released isn't own
pub not_released-not_own : (tied : Type 0) → tied → (map : PageMap) (number : ℕ) (numbers all : List ℕ) → all ≡ numbers ++ number ∷ []
    → (tied → HasNoFit map number) ⊎ (number ≡ 1) ⊎ (map.fields.pages ≤ map.fields.free_pages) → AreNotOwn map all
not_released-not_own tied is map number numbers all whole refused = record { none = λ others own shares. by others own shares refused } where
  there : 0 < times all number
  there = omega (arith, ap (λ ns. times ns number) whole, times-push numbers number number, one_at-same number)

  by : (others : ℕ → ℕ) → AreInUse map all → Shares map (times all & others) → (tied → HasNoFit map number) ⊎ (number ≡ 1) ⊎ (map.fields.pages ≤ map.fields.free_pages) → ⊥
  by others own shares (inl none) = let here = own.each number there in (none is).none here.page here.used here.fit
  by others own shares (inr (inl one)) = let past = (own.each number there).after in omega (arith, past, one)
  by others own shares (inr (inr many)) =
      let below = (own.each number there).below in
      omega (arith, many, free_list_is_shorter_than_the_count map shares.free (omega (arith, below)) shares.list)

-- one that doesn't fit isn't own
pub no_fit-not_own : (map : PageMap) (number : ℕ) (numbers : List ℕ) → 0 < times numbers number → HasNoFit map number → AreNotOwn map numbers
no_fit-not_own map number numbers there none = record { none = λ others own shares. let here = own.each number there in none.none here.page here.used here.fit }

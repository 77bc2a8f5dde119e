-- Moves of an owner's pages.
use Rattle.std.proofs.Common.{◌≡◌, ◌⊎◌, ◌<◌, ◌≤◌, ◌+◌, ℕ, true, false, Some, List, [], ◌∷◌, drop, eqb, cond, refl, sym, ap, ◌∙◌, inl, inr, arith}
use Rattle.std.proofs.lemmas.Bool.Decides.{nat_tests}
use Rattle.std.proofs.lemmas.List.Sums.{sum_by-cons}
use Rattle.rs_pages.specs.FileHeader.{FileHeader}
use Rattle.rs_pages.specs.PageKind.{PageKind}
use Rattle.rs_pages.specs.PageMap.{PageMap, SamePages, ReplacesPage, in_use}
use Rattle.rs_pages.specs.FreeList.{IsFreeList, IsFreePage, Allocates, Releases, TakesFree, TakesLast}
use Rattle.rs_pages.proofs.FreeLists.{allocating_takes_the_first_free_page, released_page_is_the_first_free, page_in_use_leaves_the_free_list, same_pages_have_one_free_list}
use Rattle.rs_page_owners.specs.Counts.{one_at, times, ◌&◌, no_pages}
use Rattle.rs_page_owners.specs.Owners.{Shares, Keeps, KeepsPages, Moves, MovesBeside}

pub one_at-same : (page : ℕ) → one_at page page ≡ 1
unfolding one_at
one_at-same page = grind (arith, nat_tests)

pub one_at-other : (page number : ℕ) → (number ≡ page → ⊥) → one_at page number ≡ 0
unfolding one_at
one_at-other page number ne = grind (arith, nat_tests)

one_at-le : (page number : ℕ) → one_at page number ≤ 1
unfolding one_at
one_at-le page number = at (eqb page number) where
  at : (b : _) → cond b 1 0 ≤ 1
  at true = omega arith
  at false = omega arith

times-cons : (page : ℕ) (pages : List ℕ) (number : ℕ) → times (page ∷ pages) number ≡ one_at page number + times pages number
unfolding times one_at
times-cons page pages number = sum_by-cons (λ p. cond (eqb p number) 1 0) page pages

times-none : (number : ℕ) → times [] number ≡ 0
unfolding times
times-none number = refl

pub same_number : (n m : ℕ) → (n ≡ m) ⊎ (n ≡ m → ⊥)
same_number n m = elim (eqb n m) as (λ b. eqb n m ≡ b → (n ≡ m) ⊎ (n ≡ m → ⊥)) [
  | true ↦ λ e. inl (grind (arith, nat_tests))
  | false ↦ λ e. inr (λ s. grind (arith, nat_tests))
] refl

-- shares of the same counts
pub shares_same : (map : PageMap) (one other : ℕ → ℕ) → ((n : ℕ) → one n ≡ other n) → Shares map one → Shares map other
shares_same map one other same shares = record {
  free = shares.free;
  list = shares.list;
  within = λ n h. omega (arith, shares.within n h, same n);
  beyond = λ n h. omega (arith, shares.beyond n h, same n);
}

-- of what an owner keeps, its pages
pub pages_kept : (used : ℕ → ℕ) (old new : PageMap) → Keeps used old new → KeepsPages used old new
pages_kept used old new keeps = record { pages = keeps.pages; no_fewer = keeps.no_fewer }

pub keeps_trans : (used : ℕ → ℕ) (first second third : PageMap) → Keeps used first second → Keeps used second third → Keeps used first third
keeps_trans used first second third a b = record {
  pages = λ number own. b.pages number own ∙ a.pages number own;
  no_fewer = omega (arith, a.no_fewer, b.no_fewer);
  catalogue = b.catalogue ∙ a.catalogue;
  catalogue_length = b.catalogue_length ∙ a.catalogue_length;
}

pub moves_trans : (first second third : PageMap) (before between after : ℕ → ℕ)
    → Moves first second before between → Moves second third between after → Moves first third before after
moves_trans first second third before between after a b = record {
  beside = λ others shares.
      let one = a.beside others shares in
      let two = b.beside others one.shares in
      record { shares = two.shares; keeps = keeps_trans others first second third one.keeps two.keeps };
}

-- a move of pages that are counted the same
pub moves_same : (old new : PageMap) (before after was is : ℕ → ℕ) → ((n : ℕ) → was n ≡ before n) → ((n : ℕ) → after n ≡ is n) → Moves old new before after → Moves old new was is
moves_same old new before after was is one other moves = record {
  beside = λ others shares.
      let moved = moves.beside others (shares_same old (was & others) (before & others) (λ n. ap (λ k. k + others n) (one n)) shares) in
      record { shares = shares_same new (after & others) (is & others) (λ n. ap (λ k. k + others n) (other n)) moved.shares; keeps = moved.keeps };
}

-- a part's move is the whole's
pub moves_part : (old new : PageMap) (before after rest : ℕ → ℕ) → Moves old new before after → Moves old new (before & rest) (after & rest)
moves_part old new before after rest moves = record {
  beside = λ others shares.
      let moved = moves.beside (rest & others) (shares_same old ((before & rest) & others) (before & (rest & others)) (λ n. omega arith) shares) in
      record {
        shares = shares_same new (after & (rest & others)) ((after & rest) & others) (λ n. omega arith) moved.shares;
        keeps = record {
          pages = λ n own. moved.keeps.pages n (omega arith);
          no_fewer = moved.keeps.no_fewer;
          catalogue = moved.keeps.catalogue;
          catalogue_length = moved.keeps.catalogue_length;
        };
      };
}

-- where the pages are the same, nothing moves
pub same_pages-moves : (old new : PageMap) (used : ℕ → ℕ) → SamePages new old → Moves old new used used
same_pages-moves old new used same = record {
  beside = λ others shares.
      let count : new.fields.pages ≡ old.fields.pages = ap (λ (f : FileHeader). f.pages) same.fields in
      record {
        shares = record {
          free = shares.free;
          list = same_pages_have_one_free_list new old shares.free same shares.list;
          within = λ n h. shares.within n (omega arith);
          beyond = λ n h. shares.beyond n (omega arith);
        };
        keeps = record {
          pages = λ n own. same.pages n;
          no_fewer = omega arith;
          catalogue = ap (λ (f : FileHeader). f.catalogue) same.fields;
          catalogue_length = ap (λ (f : FileHeader). f.catalogue_length) same.fields;
        };
      };
}

-- a page that is the owner's is written
pub replaces-moves : (old new : PageMap) (number : ℕ) (was page : List ℕ) → in_use old number ≡ Some was → number < old.fields.pages → ReplacesPage number page old new
    → Moves old new (one_at number) (one_at number)
replaces-moves old new number was page used below replaces = record {
  beside = λ others shares.
      let count : new.fields.pages ≡ old.fields.pages = ap (λ (f : FileHeader). f.pages) replaces.fields in
      let own : others number ≡ 0 = omega (arith, shares.within number below, one_at-same number) in
      record {
        shares = record {
          free = shares.free;
          list = page_in_use_leaves_the_free_list old new number was page shares.free used replaces shares.list;
          within = λ n h. shares.within n (omega arith);
          beyond = λ n h. shares.beyond n (omega arith);
        };
        keeps = record {
          pages = λ n theirs. replaces.others.pages n (λ same. let none : others n ≡ 0 = ap others same ∙ own in omega arith);
          no_fewer = omega arith;
          catalogue = ap (λ (f : FileHeader). f.catalogue) replaces.fields;
          catalogue_length = ap (λ (f : FileHeader). f.catalogue_length) replaces.fields;
        };
      };
}

-- an owner's page is released
pub releases-moves : (old new : PageMap) (number : ℕ) (was : List ℕ) → 1 < number → number < old.fields.pages → in_use old number ≡ Some was → Releases old new number
    → Moves old new (one_at number) no_pages
releases-moves old new number was past below used releases = record {
  beside = λ others shares.
      let count : new.fields.pages ≡ old.fields.pages = ap (λ (f : FileHeader). f.pages) releases.fields in
      let own : others number ≡ 0 = omega (arith, shares.within number below, one_at-same number) in
      record {
        shares = record {
          free = number ∷ shares.free;
          list = released_page_is_the_first_free old new number was shares.free past below used releases shares.list;
          within = λ n h. omega (arith, shares.within n (omega arith), times-cons number shares.free n);
          beyond = λ n h. omega (arith, shares.beyond n (omega arith), times-cons number shares.free n);
        };
        keeps = record {
          pages = λ n theirs. releases.others.pages n (λ same. let none : others n ≡ 0 = ap others same ∙ own in omega arith);
          no_fewer = omega arith;
          catalogue = ap (λ (f : FileHeader). f.catalogue) releases.fields;
          catalogue_length = ap (λ (f : FileHeader). f.catalogue_length) releases.fields;
        };
      };
}

-- the free list that a page is taken from
takes_list : (old : PageMap) (number : ℕ) (free : List ℕ) → old.fields.first_free ≡ number → (number ≡ 0 → ⊥) → IsFreeList old free → free ≡ number ∷ drop 1 free
takes_list old number [] first some list = absurd (some (sym first ∙ list.chain))
takes_list old number (n ∷ rest) first some list = ap (λ m. m ∷ rest) (sym list.chain.0 ∙ first)

-- and one that has none
none_list : (old : PageMap) (free : List ℕ) → old.fields.first_free ≡ 0 → IsFreeList old free → free ≡ []
none_list old [] none list = refl
none_list old (n ∷ rest) none list =
    let past : 1 < n = list.chain.1.1.link.fits.1.0 in
    let zero_first : n ≡ 0 = sym list.chain.0 ∙ none in
    absurd (omega arith)

-- a page comes into use and is the owner's
pub allocates-moves : (kind : PageKind) (old new : PageMap) (number : ℕ) → 1 < number → Allocates kind old new number → Moves old new no_pages (one_at number)
allocates-moves kind old new number past allocates = record { beside = λ others shares. by_fields others shares allocates.fields } where
  by_fields : (others : ℕ → ℕ) → Shares old (no_pages & others) → ((next : ℕ) × TakesFree old.fields new.fields number next × IsFreePage old number next) ⊎ TakesLast old.fields new.fields number
      → MovesBeside old new no_pages (one_at number) others
  by_fields others shares (inl takes) =
      let list = takes_list old number shares.free takes.1.first takes.1.some shares.list in
      let count : new.fields.pages ≡ old.fields.pages = ap (λ (f : FileHeader). f.pages) takes.1.fields in
      let timed : (n : ℕ) → times shares.free n ≡ one_at number n + times (drop 1 shares.free) n = λ n. ap (λ ns. times ns n) list ∙ times-cons number (drop 1 shares.free) n in
      let own : others number ≡ 0 = omega (arith, shares.within number takes.2.below, timed number, one_at-same number) in
      record {
        shares = record {
          free = drop 1 shares.free;
          list = allocating_takes_the_first_free_page kind old new number shares.free allocates shares.list;
          within = λ n h. omega (arith, shares.within n (omega arith), timed n);
          beyond = λ n h. omega (arith, shares.beyond n (omega arith), timed n);
        };
        keeps = record {
          pages = λ n theirs. allocates.others.pages n (λ same. let none : others n ≡ 0 = ap others same ∙ own in omega arith);
          no_fewer = omega arith;
          catalogue = ap (λ (f : FileHeader). f.catalogue) takes.1.fields;
          catalogue_length = ap (λ (f : FileHeader). f.catalogue_length) takes.1.fields;
        };
      }
  by_fields others shares (inr takes) =
      let none = none_list old shares.free takes.none_free shares.list in
      let count : new.fields.pages ≡ number + 1 = ap (λ (f : FileHeader). f.pages) takes.fields in
      let last : old.fields.pages ≡ number = takes.last in
      let timed : (n : ℕ) → times (drop 1 shares.free) n ≡ times shares.free n = λ n. ap (λ ns. times (drop 1 ns) n) none ∙ ap (λ ns. times ns n) (sym none) in
      let own : others number ≡ 0 = omega (arith, shares.beyond number (omega arith)) in
      record {
        shares = record {
          free = drop 1 shares.free;
          list = allocating_takes_the_first_free_page kind old new number shares.free allocates shares.list;
          within = λ n h. elim (same_number n number) [
            | inl same ↦
                let there : others n + times shares.free n ≡ 0 = omega (arith, shares.beyond n (omega arith)) in
                let one : one_at number n ≡ 1 = ap (one_at number) same ∙ one_at-same number in
                let not_first : one_at 0 n ≡ 0 = one_at-other 0 n (λ e. omega arith) in
                omega (arith, there, one, not_first, timed n)
            | inr other ↦ omega (arith, shares.within n (omega arith), one_at-other number n other, timed n)
          ];
          beyond = λ n h. omega (arith, shares.beyond n (omega arith), one_at-other number n (λ e. omega arith), timed n);
        };
        keeps = record {
          pages = λ n theirs. allocates.others.pages n (λ same. let zero_here : others n ≡ 0 = ap others same ∙ own in omega arith);
          no_fewer = omega arith;
          catalogue = ap (λ (f : FileHeader). f.catalogue) takes.fields;
          catalogue_length = ap (λ (f : FileHeader). f.catalogue_length) takes.fields;
        };
      }

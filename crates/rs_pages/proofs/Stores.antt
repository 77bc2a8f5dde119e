-- What stays, stays in one call after another.
use Rattle.std.proofs.Common.{◌≡◌, ℕ, false, Some, List, Result, Ok, Err, IfSome, IsOkUnless, refl, sym, ap, ◌∙◌, subst, arith}
use Rattle.rs_refusal.specs.declared.refusal.Refusal.{Refusal}
use Rattle.rs_refusal.specs.declared.refusal.Refusal.TheVariants as refusal
use Rattle.rs_page.specs.PageBytes.{is_free, IsFit}
use Rattle.rs_page.specs.declared.file_header.FileHeader.{FileHeader}
use Rattle.rs_pages.specs.Held.{HeldPage, held_change}
use Rattle.rs_pages.specs.PageMap.{PageMap, SamePages, in_use, used_page, HasNoFit}
use Rattle.rs_pages.specs.Store.{Store, KeepsCounts, KeepsPages, Rests, CountsFailure}
use Rattle.rs_pages.specs.Lending.{RestsAfter}
use Rattle.rs_pages.specs.Uses.{Lends, HoldsUsed}

pub SamePages-refl : (map : PageMap) → SamePages map map
SamePages-refl map = record { fields = refl; pages = λ n. refl }

pub SamePages-trans : (one mid other : PageMap) → SamePages one mid → SamePages mid other → SamePages one other
SamePages-trans one mid other a b = record { fields = a.fields ∙ b.fields; pages = λ n. a.pages n ∙ b.pages n }

pub KeepsCounts-refl : (s : Store) → KeepsCounts s s
KeepsCounts-refl s = record { limit = refl; begun = refl; full_refusals = omega arith }

pub KeepsCounts-trans : (a b c : Store) → KeepsCounts a b → KeepsCounts b c → KeepsCounts a c
KeepsCounts-trans a b c one other = record {
  limit = other.limit ∙ one.limit;
  begun = other.begun ∙ one.begun;
  full_refusals = omega (arith, one.full_refusals, other.full_refusals);
}

pub KeepsPages-refl : (tied : Type 0) (s : Store) → KeepsPages tied s s
KeepsPages-refl tied s = record { pages = λ _. SamePages-refl s.map; fields = refl; held = λ n. refl }

pub Rests-refl : (tied : Type 0) (s : Store) → Rests tied s s
Rests-refl tied s = record { keeps = KeepsPages-refl tied s; counts = KeepsCounts-refl s; full = refl }

-- nothing has happened, and the refusal is none of the disk's
pub CountsFailure-refl : (why : Refusal) (s : Store) → (why ≡ refusal.Disk → ⊥) → CountsFailure why s s
CountsFailure-refl why s none = record { disk = λ is. absurd (none is); other = λ _. refl }

pub damaged_file-counts : (why : Refusal) (s : Store) → why ≡ refusal.DamagedFile → CountsFailure why s s
damaged_file-counts why s is = CountsFailure-refl why s (λ disk. let wrong : refusal.DamagedFile ≡ refusal.Disk = sym is ∙ disk in cc)

-- a call that reads nothing rests
pub still-rests : {S T : Type 0} (is_tied : S → Type 0) (store : S → Store) (keeps : S → S → Type 0) (r : Result T Refusal) (s : S) → keeps s s
    → IsOkUnless r refusal.DamagedFile → RestsAfter is_tied store keeps r s s
still-rests is_tied store keeps (Ok x) s kept is = record { rests = Rests-refl (is_tied s) (store s); below = kept; count = refl }
still-rests is_tied store keeps (Err why) s kept is = record { rests = Rests-refl (is_tied s) (store s); below = kept; count = damaged_file-counts why (store s) is }

-- what is lent after clean pages were read was there before
pub Lends-before : (tied later : Type 0) (old mid : Store) (n : ℕ) (page : List ℕ) → (tied → later) → Rests tied old mid
    → Lends later mid n page → Lends tied old n page
Lends-before tied later old mid n page then rests lends =
    let count : mid.map.fields.pages ≡ old.map.fields.pages = ap (λ (f : FileHeader). f.pages) rests.keeps.fields in
    let held = rests.keeps.held n in
    record {
      after = lends.after;
      below = omega (arith, lends.below, count);
      size = lends.size;
      bytes = λ is. sym ((rests.keeps.pages is).pages n) ∙ lends.bytes (then is);
      in_use = lends.in_use;
      held = subst (λ (h : HeldPage). IfSome (held_change h) (λ was. page ≡ was)) held lends.held;
      fits = λ none. subst (IsFit page n) count (lends.fits (ap held_change held ∙ none));
    }

-- a change in use that was held is held still
pub HoldsUsed-after : (tied : Type 0) (old mid : Store) (n : ℕ) → Rests tied old mid → HoldsUsed old n → HoldsUsed mid n
HoldsUsed-after tied old mid n rests used = record {
  page = used.page;
  held = ap held_change (rests.keeps.held n) ∙ used.held;
  in_use = used.in_use;
}

-- where no page fits after clean pages were read, none did before
pub HasNoFit-before : (old mid : PageMap) (n : ℕ) → SamePages mid old → HasNoFit mid n → HasNoFit old n
HasNoFit-before old mid n same none = record {
  none = λ page used fit. none.none page (ap used_page (same.pages n) ∙ used)
      (subst (IsFit page n) (sym (ap (λ (f : FileHeader). f.pages) same.fields)) fit);
}

-- a page that is there and not free is in use
pub used_there : (map : PageMap) (number : ℕ) (page : List ℕ) → map.page number ≡ Some page → is_free page ≡ false → in_use map number ≡ Some page
used_there map number page there used = rw (there, used) refl

-- How many pages the file has, and when it is full.
use Rattle.std.proofs.Common.{◌≡◌, ◌⊎◌, ◌≤◌, ◌+◌, ℕ, List, [], ◌∷◌, ◌++◌, length, Result, Ok, Err, IfErr, OnOk, OnErr, sym, ap, ◌∙◌, inl, inr, arith}
use Rattle.std.proofs.lemmas.List.{length-append}
use Rattle.rs_refusal.specs.declared.refusal.Refusal.{Refusal}
use Rattle.rs_refusal.specs.declared.refusal.Refusal.TheVariants as refusal
use Rattle.rs_page.specs.declared.file_header.FileHeader.{FileHeader}
use Rattle.rs_page.specs.declared.header.PageKind.{PageKind}
use Rattle.rs_pages.specs.FreeList.{TakesFree, TakesLast}
use Rattle.rs_pages.specs.Store.{Store, Rests}
use Rattle.rs_pages.specs.Uses.{AllocatesPage, ReleasesPage, RefusesToRelease}

-- a page that comes into use is one page more at the most
pub allocated_one : (tied : Type 0) (kind : PageKind) (number : ℕ) (a b : Store) → AllocatesPage tied kind number a b → b.map.fields.pages ≤ a.map.fields.pages + 1
allocated_one tied kind number a b allocates = count allocates.fields where
  count : ((next : ℕ) × TakesFree a.map.fields b.map.fields number next) ⊎ TakesLast a.map.fields b.map.fields number → b.map.fields.pages ≤ a.map.fields.pages + 1
  count (inl takes) = omega (arith, ap (λ (f : FileHeader). f.pages) takes.1.fields)
  count (inr takes) = omega (arith, ap (λ (f : FileHeader). f.pages) takes.fields, takes.last)

-- one that is released, or not, stays one of the file's
pub released_none : {T : Type 0} (tied : Type 0) (number : ℕ) (r : Result T Refusal) (a b : Store) → OnOk r (ReleasesPage tied number a b) → OnErr r (Rests tied a b)
    → b.map.fields.pages ≡ a.map.fields.pages
released_none tied number (Ok x) a b releases rests = ap (λ (f : FileHeader). f.pages) releases.fields
released_none tied number (Err why) a b releases rests = ap (λ (f : FileHeader). f.pages) rests.keeps.fields

-- releasing needs no room
pub released_room : {T : Type 0} (tied : Type 0) (number : ℕ) (r : Result T Refusal) (a b : Store) → IfErr r (λ why. RefusesToRelease tied number why a b)
    → r ≡ Err refusal.FileFull → ⊥
released_room tied number (Ok x) a b refused is = cc
released_room {T} tied number (Err why) a b refused is = by_cause refused.wants.cause where
  same : why ≡ refusal.FileFull
  same = cc

  by_cause : {D : Type 0} → (why ≡ refusal.OutOfMemory) ⊎ (why ≡ refusal.Disk) ⊎ ((why ≡ refusal.FileFull) × ⊥) ⊎ ((why ≡ refusal.DamagedFile) × D) → ⊥
  by_cause (inl memory) = let wrong : refusal.OutOfMemory ≡ refusal.FileFull = sym memory ∙ same in cc
  by_cause (inr (inl disk)) = let wrong : refusal.Disk ≡ refusal.FileFull = sym disk ∙ same in cc
  by_cause (inr (inr (inl full))) = full.1
  by_cause (inr (inr (inr damaged))) = let wrong : refusal.DamagedFile ≡ refusal.FileFull = sym damaged.0 ∙ same in cc

-- a list with one number more
pub pushed_one : (number : ℕ) (old new : List ℕ) → new ≡ old ++ number ∷ [] → length new ≡ length old + 1
pushed_one number old new is = omega (arith, ap length is, length-append old (number ∷ []))

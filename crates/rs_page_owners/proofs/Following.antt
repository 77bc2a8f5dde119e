-- Calls that change pages, after what worked and counted nothing.
use Rattle.std.proofs.Common.{◌≡◌, ◌⊎◌, ℕ, Result, Ok, Err, refl, inl, inr}
use Rattle.rs_pages.specs.Refusal.{Refusal}
use Rattle.rs_pages.specs.Refusal.TheVariants as refusal
use Rattle.rs_pages.specs.Store.{Store, Rests, CountsFailure}
use Rattle.rs_pages.proofs.Resting.{counts_after}
use Rattle.rs_pages.proofs.Stores.{CountsFailure-refl}
use Rattle.rs_page_owners.specs.Changes.{Works, EndsFull, CountsNothing, WorksAfter}
use Rattle.rs_page_owners.proofs.Working.{Rests-works}
use Rattle.rs_page_owners.proofs.Working as working

-- what worked and counted nothing is a call that was not refused
worked : (a b : Store) → Works a b → CountsNothing a b → WorksAfter {T = ℕ} (Unit {0}) (Ok 0) a b
worked a b works nothing = record { works = works; ends = nothing }

pub works_then : {T : Type 0} (damaged later : Type 0) (result : Result T Refusal) (a b c : Store) → Works a b → CountsNothing a b → (later → damaged)
    → WorksAfter later result b c → WorksAfter damaged result a c
works_then damaged later result a b c works nothing worse after =
    working.works_then {T = ℕ} (Unit {0}) damaged later 0 result a b c worse (worked a b works nothing) after

-- refused, as it was refused within
pub works_err : {T U : Type 0} (damaged later : Type 0) (why : Refusal) (a b c : Store) → Works a b → CountsNothing a b → (later → damaged)
    → WorksAfter {T = U} later (Err why) b c → WorksAfter {T = T} damaged (Err why) a c
works_err {T = T} {U = U} damaged later why a b c works nothing worse after =
    works_then {T = T} damaged later (Err why) a b c works nothing worse (working.works_err {T = U} {U = T} later later (Err why) why b c (λ is. is) refl after)

-- a read that was refused
pub reads_err : {T : Type 0} (tied damaged : Type 0) (why : Refusal) (a b : Store) → Rests tied a b → CountsFailure why a b → (why ≡ refusal.Disk) ⊎ (why ≡ refusal.DamagedFile)
    → (why ≡ refusal.DamagedFile → damaged) → WorksAfter {T = T} damaged (Err why) a b
reads_err tied damaged why a b rests counts cause worse = record { works = Rests-works tied a b rests; ends = record { cause = by_cause cause; count = counts } } where
  by_cause : (why ≡ refusal.Disk) ⊎ (why ≡ refusal.DamagedFile)
      → (why ≡ refusal.OutOfMemory) ⊎ (why ≡ refusal.Disk) ⊎ ((why ≡ refusal.FileFull) × EndsFull a b) ⊎ ((why ≡ refusal.DamagedFile) × damaged)
  by_cause (inl disk) = inr (inl disk)
  by_cause (inr is) = inr (inr (inr (is, worse is)))

-- nothing more is done where something is damaged
pub damaged_err : {T : Type 0} (damaged : Type 0) (a b : Store) → Works a b → CountsNothing a b → damaged → WorksAfter {T = T} damaged (Err refusal.DamagedFile) a b
damaged_err damaged a b works nothing is = record {
  works = works;
  ends = record {
    cause = inr (inr (inr (refl, is)));
    count = counts_after refusal.DamagedFile a b b nothing.failures (CountsFailure-refl refusal.DamagedFile b (λ disk. let wrong : refusal.DamagedFile ≡ refusal.Disk = disk in cc));
  };
}

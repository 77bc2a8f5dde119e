-- A refusal before the place of the catalogue is set, and why a call that reads is refused.
use Rattle.std.proofs.Common.{◌≡◌, ◌⊎◌, Result, Ok, Err, IfErr, inl, inr, ap}
use Rattle.rs_refusal.specs.declared.refusal.Refusal.TheVariants as refusal
use Rattle.rs_refusal.specs.declared.refusal.Refusal.{Refusal}
use Rattle.rs_pages.specs.Store.{Store}
use Rattle.rs_page_owners.specs.Changes.{WorksAfter}
use Rattle.rs_page_owners.proofs.Working.{CountsNothing-refl, wants_after}
use Rattle.rs_catalog_pages.specs.Calls.{RefusesToRead}
use Rattle.rs_catalog_pages.specs.Storing.{StoresAfter}

pub works-stores : {T U : Type 0} (later damaged : Type 0) (why : Refusal) (a b : Store) → (later → damaged) → WorksAfter {T = U} later (Err why) a b → StoresAfter {T = T} damaged (Err why) a b
works-stores later damaged why a b then one = record {
  counts = one.works.counts;
  no_fewer = one.works.no_fewer;
  ends = wants_after damaged later why a a b then (CountsNothing-refl a) one.ends;
}

-- a refusal of what looks at a page that was read already
pub refuses_page : {T : Type 0} (tied missing : Type 0) (r : Result T Refusal) → IfErr r (λ why. (why ≡ refusal.OutOfMemory) ⊎ (why ≡ refusal.DamagedFile))
    → (tied → r ≡ Err refusal.DamagedFile → missing) → IfErr r (RefusesToRead tied missing)
refuses_page tied missing (Ok x) cause none = tt
refuses_page tied missing (Err why) (inl memory) none = record { cause = inl memory; damaged = λ is there. none is (ap Err there) }
refuses_page tied missing (Err why) (inr broken) none = record { cause = inr (inr broken); damaged = λ is there. none is (ap Err there) }

-- What is answered once pages were read.
use Rattle.std.proofs.Common.{◌≡◌, Result, Ok, Err}
use Rattle.std.specs.Result.{IsOkUnless}
use Rattle.rs_refusal.specs.declared.refusal.Refusal.{Refusal}
use Rattle.rs_refusal.specs.declared.refusal.Refusal.TheVariants as refusal
use Rattle.rs_pages.specs.Lending.{RestsAfter}
use Rattle.rs_pages.specs.Store.{Store}

module _ {S : Type 0} (is_tied : S → Type 0) (store : S → Store) (keeps : S → S → Type 0) where
  -- an answer made of what was read
  pub rests_ok : {T U : Type 0} (x : T) (y : U) (a b : S) → RestsAfter is_tied store keeps (Ok x) a b → RestsAfter is_tied store keeps (Ok y) a b
  rests_ok x y a b one = record { rests = one.rests; below = one.below; count = one.count }

  -- a refusal that is handed on
  pub rests_err : {T U : Type 0} (why : Refusal) (a b : S) → RestsAfter {T = T} is_tied store keeps (Err why) a b → RestsAfter {T = U} is_tied store keeps (Err why) a b
  rests_err why a b one = record { rests = one.rests; below = one.below; count = one.count }

  -- a refusal that is none of the disk's
  pub rests_refused : {T U : Type 0} (x : T) (why : Refusal) (a b : S) → (why ≡ refusal.Disk → ⊥) → RestsAfter is_tied store keeps (Ok x) a b → RestsAfter {T = U} is_tied store keeps (Err why) a b
  rests_refused x why a b isnt one = record { rests = one.rests; below = one.below; count = record { disk = λ is. absurd (isnt is); other = λ _. one.count } }

  -- an answer that takes memory
  pub rests_made : {T U : Type 0} (x : T) (r : Result U Refusal) (a b : S) → IsOkUnless r refusal.OutOfMemory → RestsAfter is_tied store keeps (Ok x) a b → RestsAfter is_tied store keeps r a b
  rests_made x (Ok y) a b told one = rests_ok x y a b one
  rests_made x (Err why) a b told one = rests_refused x why a b (λ is. cc) one

-- what is refused for want of memory alone finds no damage
pub never_damaged : {T : Type 0} (r : Result T Refusal) → IsOkUnless r refusal.OutOfMemory → r ≡ Err refusal.DamagedFile → ⊥
never_damaged (Ok y) told is = absurd (cc)
never_damaged (Err why) told is = absurd (cc)

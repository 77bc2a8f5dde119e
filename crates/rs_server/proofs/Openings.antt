-- What comes of a file as it was opened, by what opening it gave.
use Rattle.std.proofs.Common.{◌≡◌, ℕ, Bool, IsTrue, List, Option, Some, Result, Ok, Err, refl, subst, sym}
use Rattle.std.proofs.KnownBytes.{Keeps-refl}
use Rattle.std.specs.Borrow.{Bor}
use Rattle.rs_disk.specs.declared.disk.Disk as disk
use Rattle.rs_pages.specs.declared.pages.TheConstants.{GREATEST_LIMIT}
use Rattle.rs_server.specs.Disks.{CreatesFile, ServesFile, ServesFileAt, told_of}
use Rattle.rs_server.specs.Opened.{CreatesOpened, Dumps, DumpsOpened, ServesOpened, ServesOpenedAt}
use Rattle.rs_server.specs.Saying.{SaysFront, failure_line}
use Rattle.rs_server.specs.declared.report.Failure.{Failure}
use Rattle.rs_server.specs.declared.report.TheConstants.{FAILED}

module _ {D : Type 0} (d : disk.Ghosts D) where
  pub creates_disk : (opened : Result D Failure) (one : D) (ended : Result D (Option D × Failure)) (told : Option Failure) → opened ≡ Ok one
      → (IsTrue (d.is_honest one) → CreatesFile d GREATEST_LIMIT one ended) → told ≡ told_of ended → CreatesOpened d opened told
  creates_disk opened one ended told is made tells =
      subst (λ (result : Result D Failure). CreatesOpened d result told) (sym is) (λ honest. (ended, made honest, tells))

  pub creates_none : (opened : Result D Failure) (failure : Failure) → opened ≡ Err failure → CreatesOpened d opened (Some failure)
  creates_none opened failure is = subst (λ (result : Result D Failure). CreatesOpened d result (Some failure)) (sym is) refl

  module _ (a b c e : Option (List ℕ)) where
    pub serves_disk : (opened : Result D Failure) (one : D) (ended : Result D (Option D × Failure)) (told : Option Failure) → opened ≡ Ok one
        → (IsTrue (d.is_honest one) → ServesFile d GREATEST_LIMIT one ended a b c e) → told ≡ told_of ended → ServesOpened d opened told a b c e
    serves_disk opened one ended told is serves tells =
        subst (λ (result : Result D Failure). ServesOpened d result told a b c e) (sym is) (λ honest. (ended, serves honest, tells))

    pub dumps_disk : (table : Option (List ℕ)) (omits_rows : Bool) (opened : Result D Failure) (one : D) (status : ℕ) → opened ≡ Ok one
        → Dumps d table omits_rows one status a b → DumpsOpened d table omits_rows opened status a b c e
    dumps_disk table omits_rows opened one status is dumps =
        subst (λ (result : Result D Failure). DumpsOpened d table omits_rows result status a b c e) (sym is) dumps

  pub serves_none : (a b : Option (List ℕ)) (opened : Result D Failure) (failure : Failure) → opened ≡ Err failure → ServesOpened d opened (Some failure) a a b b
  serves_none a b opened failure is =
      subst (λ (result : Result D Failure). ServesOpened d result (Some failure) a a b b) (sym is) (refl, Keeps-refl a, Keeps-refl b)

  pub dumps_none : (a b c : Option (List ℕ)) (table : Option (List ℕ)) (omits_rows : Bool) (opened : Result D Failure) (failure : Failure) (status : ℕ) → opened ≡ Err failure
      → status ≡ FAILED → SaysFront (failure_line failure) b c → DumpsOpened d table omits_rows opened status a a b c
  dumps_none a b c table omits_rows opened failure status is failed says =
      subst (λ (result : Result D Failure). DumpsOpened d table omits_rows result status a a b c) (sym is) (failed, Keeps-refl a, says)

  module _ (address : Bor (List ℕ)) (connections : ℕ) (a : Option (List ℕ)) where
    pub serves_disk_at : (b : Option (List ℕ)) (opened : Result D Failure) (one : D) (ended : Result D (Option D × Failure)) (told : Option Failure) → opened ≡ Ok one
        → (IsTrue (d.is_honest one) → ServesFileAt d GREATEST_LIMIT address connections one ended a b) → told ≡ told_of ended
        → ServesOpenedAt d address connections opened told a b
    serves_disk_at b opened one ended told is serves tells =
        subst (λ (result : Result D Failure). ServesOpenedAt d address connections result told a b) (sym is) (λ honest. (ended, serves honest, tells))

    pub serves_none_at : (opened : Result D Failure) (failure : Failure) → opened ≡ Err failure → ServesOpenedAt d address connections opened (Some failure) a a
    serves_none_at opened failure is =
        subst (λ (result : Result D Failure). ServesOpenedAt d address connections result (Some failure) a a) (sym is) (refl, Keeps-refl a)

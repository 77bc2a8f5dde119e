-- What a closed file stands for, within the limit of any file, and what is told of a close.
use Rattle.std.proofs.Common.{◌≡◌, ◌≤◌, ◌⊎◌, ℕ, inl, inr, Option, Some, None, IsTrue, ap, arith, subst, sym}
use Rattle.rs_disk.specs.Content.{Content}
use Rattle.rs_disk.specs.declared.disk.Disk as disk
use Rattle.rs_machine.specs.State.{State}
use Rattle.rs_pages.specs.declared.pages.TheConstants.{GREATEST_LIMIT}
use Rattle.rs_refusal.specs.declared.refusal.Refusal.{Refusal}
use Rattle.rs_refusal.specs.declared.refusal.Refusal.TheVariants as refusal
use Rattle.rs_server.specs.Disks.{IsClosedAs, TellsFirst}
use Rattle.rs_server.specs.declared.report.Failure.{Failure}
use Rattle.rs_server.specs.declared.report.Failure.TheVariants.{Refused}
use Rattle.rs_engine.specs.Standing.{IsSecondFileOf, Stands}

-- a file within one limit is one within a greater one
pub stands_within : (limit most : ℕ) → limit ≤ most → (content : Content) (state : State) → Stands limit content state → Stands most content state
stands_within limit most below content state stands = record {
  file = record {
    pages = stands.file.pages;
    stores = stands.file.stores;
    stand = record {
      within = omega (arith, stands.file.stand.within, below);
      contents = stands.file.stand.contents;
      stands = stands.file.stand.stands;
    };
  };
  closed = stands.closed;
}

second_within : (limit most : ℕ) → limit ≤ most → (content : Content) (state : State) → IsSecondFileOf limit content state → IsSecondFileOf most content state
second_within limit most below content state second = record {
  pages = second.pages;
  stand = record {
    within = omega (arith, second.stand.within, below);
    contents = second.stand.contents;
    stands = second.stand.stands;
  };
  file_pages = second.file_pages;
  are = second.are;
  quiet = second.quiet;
}

pub closed_as : {D : Type 0} (d : disk.Ghosts D) (limit : ℕ) → limit ≤ GREATEST_LIMIT → (closed : D) (state : State) → Stands limit (d.seen closed) state → IsSecondFileOf limit (d.seen closed) state
    → (IsTrue (d.keeps_crashes closed) → (image : Content) → d.may_leave closed image → Stands limit image state) → IsClosedAs d GREATEST_LIMIT state closed
closed_as d limit below closed state stands second durable = record {
  stands = stands_within limit GREATEST_LIMIT below (d.seen closed) state stands;
  second = second_within limit GREATEST_LIMIT below (d.seen closed) state second;
  durable = λ keeps image left. stands_within limit GREATEST_LIMIT below image state (durable keeps image left);
}

-- why the file was not closed is told where nothing failed before
pub tells_why : (D : Type 0) (before : Option Failure) (why : Refusal) → before ≡ None → (why ≡ refusal.OutOfMemory) ⊎ (why ≡ refusal.Disk)
    → TellsFirst {D = D} before None (Some (Refused why))
tells_why D before why none cause = subst (λ (b : Option Failure). TellsFirst {D = D} b None (Some (Refused why))) (sym none) (elim cause [
  | inl memory ↦ inl (ap (λ (w : Refusal). Some (Refused w)) memory)
  | inr failed ↦ inr (ap (λ (w : Refusal). Some (Refused w)) failed)
])

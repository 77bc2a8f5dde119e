-- What is known of a disk that was not opened.
use Rattle.std.proofs.Common.{ℕ, List, Option, Some, None, Err, refl}
use Rattle.std.specs.Io.KnownBytes.{Keeps}
use Rattle.rs_disk.specs.declared.disk.Disk as disk
use Rattle.rs_engine.specs.Calls.{PreservesFile, WantsOpening}
use Rattle.rs_engine.specs.Files.{Opens}
use Rattle.rs_engine.specs.Kept.{EngineState}
use Rattle.rs_pager.proofs.Recovered.{recovered-err}
use Rattle.rs_pager.specs.Opened.{CountsFault}
use Rattle.rs_refusal.specs.declared.refusal.Refusal.{Refusal}
use Rattle.rs_server.specs.Disks.{RefusesFile}
use Rattle.rs_server.specs.declared.report.Failure.{Failure}
use Rattle.rs_server.specs.declared.report.Failure.TheVariants.{Refused}

-- what is known of a stream stays where nothing is done with it
kept : (known : Option (List ℕ)) → Keeps known known
kept None = tt
kept (Some bytes) = refl

pub refuses_file : {D : Type 0} (d : disk.Ghosts D) (limit : ℕ) (old back : D) (why : Refusal) (unread before : Option (List ℕ)) → Opens d limit old (Err (back, why)) → WantsOpening why
    → CountsFault why (d.failures old) (d.failures back) → PreservesFile d limit old (Err (back, why))
    → RefusesFile d limit old (Err (Some back, Refused why)) unread unread before before
refuses_file {D} d limit old back why unread before opens wants count preserves = record {
  disk = back;
  why = why;
  refused = refl;
  wants = wants;
  count = count;
  damaged = opens.damaged;
  left_open = opens.left_open;
  recovers = λ map pages are gives.
      recovered-err d {T = EngineState D} {E = D × Refusal} {T' = D} {E' = Option D × Failure} pages (back, why) (Some back, Refused why) old back
      (opens.recovers map pages are gives);
  preserves = preserves;
  input = kept unread;
  output = kept before;
}

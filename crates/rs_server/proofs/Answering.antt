-- What comes of lines that are answered as CSV, by how they were and by what opening the file gave.
use Rattle.std.proofs.Common.{◌≡◌, ℕ, IsTrue, List, Option, Some, None, Result, Ok, Err, refl, subst, sym}
use Rattle.std.proofs.KnownBytes.{Keeps-refl}
use Rattle.std.specs.Io.KnownBytes.{Keeps}
use Rattle.std.specs.Prelude.{IfOk}
use Rattle.rs_csv_answers.specs.declared.lines.Answered.{Answered}
use Rattle.rs_disk.specs.declared.disk.Disk as disk
use Rattle.rs_pages.specs.declared.pages.TheConstants.{GREATEST_LIMIT}
use Rattle.rs_protocol.specs.declared.stream.Fault.{Fault}
use Rattle.rs_server.specs.AsCsv.{AnswersFile, IsQuietAfter, Outcome}
use Rattle.rs_server.specs.Opened.{AnswersOpened}
use Rattle.rs_server.specs.Disks.{told_of}
use Rattle.rs_server.specs.declared.report.Failure.{Failure}

-- ---- what was said of the lines

pub quiet_lines : (outcome : Result Answered Fault) (a b : Option (List ℕ)) → IfOk outcome (λ answered. answered.refused ≡ 0 → Keeps a b) → IsQuietAfter (Some outcome) a b
quiet_lines (Ok answered) a b quiet = quiet
quiet_lines (Err fault) a b quiet = tt

-- ---- by what opening it gave

module _ {D : Type 0} (d : disk.Ghosts D) where
  pub answers_disk : (opened : Result D Failure) (one : D) (outcome : Outcome) (ended : Result D (Option D × Failure)) (told : Option Failure) (a b c : Option (List ℕ)) → opened ≡ Ok one
      → (IsTrue (d.is_honest one) → AnswersFile d GREATEST_LIMIT one outcome ended a b c) → told ≡ told_of ended → AnswersOpened d opened outcome told a b c
  answers_disk opened one outcome ended told a b c is answers tells =
      subst (λ (result : Result D Failure). AnswersOpened d result outcome told a b c) (sym is) (λ honest. (ended, answers honest, tells))

  pub answers_none : (opened : Result D Failure) (failure : Failure) (a b : Option (List ℕ)) → opened ≡ Err failure → AnswersOpened d opened None (Some failure) a b b
  answers_none opened failure a b is = subst (λ (result : Result D Failure). AnswersOpened d result None (Some failure) a b b) (sym is) (refl, refl, Keeps-refl b)

-- Want of memory is passed on.
use Rattle.std.proofs.Common.{refl}
use Rattle.rs_dump.proofs.views.note_refusal.Goals as goal

pub returns-in-OutOfMemory-clause-stops : goal.returns-in-OutOfMemory-clause-stops
returns-in-OutOfMemory-clause-stops c = refl

use Rattle.std.proofs.Common.{sym, ap, subst, ◌∙◌}
use Rattle.rs_catalog.proofs.Numbered.{numbered}
use Rattle.rs_cursor.proofs.BySession.{of_sessions-empty}
use Rattle.rs_cursor.proofs.HeldLaws.{held_of-empty}
use Rattle.rs_cursor.proofs.MachineCursors.{cursors_by-none}
use Rattle.rs_cursor.specs.Held.{held_of}
use Rattle.rs_cursor.specs.Sessions.{AreOfSessions}
use Rattle.rs_cursor.proofs.cursors.Cursors.close_all.Goals as goal

pub invariant_of-self : goal.invariant_of-self
invariant_of-self c = subst (λ entries. AreOfSessions (numbered entries)) (sym c.new.ensures.empty) of_sessions-empty

pub returns-clause-held : goal.returns-clause-held
returns-clause-held c = λ session. ap (λ entries. held_of (numbered entries) session) c.new.ensures.empty ∙ held_of-empty session

pub returns-clause-machine : goal.returns-clause-machine
returns-clause-machine c = λ lines. cursors_by-none lines _ (λ session. ap (λ entries. held_of (numbered entries) session) c.new.ensures.empty ∙ held_of-empty session)

-- What changes keep.
use Rattle.rs_file_parts.proofs.Defined.{ready_defined}
use Rattle.rs_file_parts.proofs.Ready.{keeps_none, keeps_then, ready_after}
use Rattle.rs_file_parts.proofs.laws.changed_file_can_be_changed.Goals as goal

pub returns-clause-ready : goal.returns-clause-ready
returns-clause-ready c = ready_after

pub returns-clause-unchanged : goal.returns-clause-unchanged
returns-clause-unchanged c = keeps_none

pub returns-clause-joined : goal.returns-clause-joined
returns-clause-joined c = keeps_then

pub returns-clause-defined : goal.returns-clause-defined
returns-clause-defined c = ready_defined

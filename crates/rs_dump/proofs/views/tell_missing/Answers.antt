use Rattle.std.proofs.Common.{◌≢◌, List, subst}
use Rattle.std.specs.List.{AllByRecursion}
use Rattle.arrayvec.specs.ArrayString.{ArrayString}
use Rattle.rs_dump.specs.Views.{names_of}
use Rattle.rs_facts.specs.Fact.{Name}
use Rattle.rs_dump.proofs.Viewed.{not_there}
use Rattle.rs_dump.proofs.views.tell_missing.Goals as goal

pub returns-clause-missing : goal.returns-clause-missing
returns-clause-missing g c = λ is.
    not_there (names_of c.args.sorted.now.written.items) c.args.name.now.bytes
    (subst (λ (items : List ArrayString). AllByRecursion (λ (other : Name). other ≢ c.args.name.now.bytes) (names_of items)) c.deref.ensures.value
    (c.has_name.ensures.absent c.if-has_name.false))

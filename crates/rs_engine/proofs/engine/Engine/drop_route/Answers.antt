-- A route that is dropped: it is read whether a table has a fact on it, then the route is taken.
use Rattle.std.proofs.Common.{◌∙◌, ℕ, Err, Result, ap, subst, sym}
use Rattle.std.proofs.lemmas.Result.{err_from_is_err_and}
use Rattle.rs_engine.specs.Replied.{count_reply_of}
use Rattle.rs_engine.specs.Clearing.{ByChange, IsServedClearing}
use Rattle.rs_engine.proofs.Clearing.{refused_clearing}
use Rattle.rs_engine.proofs.AfterReads.{cleared_after, read_machine}
use Rattle.rs_engine.proofs.Reading.{read_wanted, still}
use Rattle.rs_engine.proofs.Staying.{leaves_after, leaves_read}
use Rattle.rs_machine.specs.Step.{route_dropped}
use Rattle.rs_refusal.specs.declared.refusal.Refusal.{Refusal}
use Rattle.rs_engine.proofs.engine.Engine.drop_route.Goals as goal

pub returns-in_err-has_facts : goal.returns-in_err-has_facts
returns-in_err-has_facts g c =
    let p = err_from_is_err_and c.from_residual.result c.from_residual.ensures.1 in
    record {
      serves = λ machine is. subst (λ (r : Result ℕ Refusal). IsServedClearing g.D.Disk ByChange (route_dropped machine.state c.args.name.now.bytes) machine is.stands.contents (count_reply_of r) c.has_facts.new.self) (sym (p.1 ∙ ap Err p.2))
          (refused_clearing g.D.Disk (read_wanted g.D.Disk c.args.self.now c.has_facts.new.self machine is c.in_err-has_facts.ensures.reads (route_dropped machine.state c.args.name.now.bytes) c.in_err-has_facts.field-0.0
          c.in_err-has_facts.ensures.wants));
      leaves = leaves_read g.D.Disk c.args.self.now c.has_facts.new.self c.from_residual.result c.in_err-has_facts.ensures.reads;
    }

pub returns : goal.returns
returns g c = record {
  serves = λ machine is. cleared_after g.D.Disk c.args.self.now c.has_facts.new.self machine is c.in_ok-has_facts.ensures.reads (route_dropped machine.state c.args.name.now.bytes)
      (count_reply_of c.take_route.result) c.take_route.new.self
      (c.take_route.ensures.serves (read_machine g.D.Disk c.args.self.now c.has_facts.new.self machine is c.in_ok-has_facts.ensures.reads)
      (still g.D.Disk c.args.self.now c.has_facts.new.self machine is c.in_ok-has_facts.ensures.reads) (c.in_ok-has_facts.ensures.tells machine is));
  leaves = leaves_after g.D.Disk c.args.self.now c.has_facts.new.self c.take_route.new.self c.take_route.result c.in_ok-has_facts.ensures.reads c.take_route.ensures.leaves;
}

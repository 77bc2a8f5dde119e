-- Each part goes on from the machine that the engine is.
use Rattle.std.proofs.Common.{◌≡◌, List, [], ◌∷◌, Option, refl, subst, sym}
use Rattle.rs_disk.specs.declared.disk.Disk as disk
use Rattle.rs_disk.specs.Content.{Content}
use Rattle.rs_engine.specs.Files.{machine_with}
use Rattle.rs_engine.specs.Kept.{EngineState, IsMachine}
use Rattle.rs_engine.specs.Single.{IsOneMachine}
use Rattle.rs_machine.specs.Served.{Machine}
use Rattle.rs_machine.specs.State.{State}
use Rattle.rs_machine.specs.Step.{without_cursors}
use Rattle.rs_server.specs.Reopenings.{AreDone, Does, GoOn, Goes, Part, served, reopened, not_closed, opened_again}
use Rattle.rs_engine.specs.Standing.{Stands}
use Rattle.std.specs.Prelude.{ℕ}

module _ {D : Type 0} (d : disk.Ghosts D)
    (only : (engine : EngineState D) (machine : Machine) → IsMachine d engine machine → IsOneMachine d engine machine)
    (one_state : (limit most : ℕ) (content : Content) (one other : State) → Stands limit content one → Stands most content other → one ≡ other) where
  pub part_goes : (part : Part) (old new : EngineState D) (machine : Machine) → Does d part old new → IsOneMachine d old machine
      → (next : Machine) × IsOneMachine d new next × Goes part machine next
  part_goes (served service) old new machine does is = does machine is
  part_goes (reopened reply) old new machine does is =
      let it = does machine is.is in
      (it.next, only new it.next it.is, it.answer)
  part_goes not_closed old new machine does is =
      let next : Machine = record machine { failures = d.failures new.store.pager.disk } in
      (next, only new next (does.closes.stays machine is.is), refl)
  part_goes opened_again old new machine does is =
      let opened = does.opens.opens in
      let next = machine_with d opened.state new in (
        next,
        only new next opened.is,
        one_state does.limit old.store.pager.limit (d.seen does.disk) opened.state (without_cursors machine.state) opened.stood (does.closes.stands machine is.is),
      )

  pub parts_go_on : (parts : List Part) (old new : EngineState D) (machine : Machine) → AreDone d parts old new → IsOneMachine d old machine
      → (last : Machine) × IsOneMachine d new last × GoOn parts machine last
  parts_go_on [] old new machine done is = (machine, subst (λ (engine : EngineState D). IsOneMachine d engine machine) (sym done) is, refl)
  parts_go_on (part ∷ parts) old new machine done is =
      let first = part_goes part old done.0 machine done.1 is in
      let rest = parts_go_on parts done.0 new first.0 done.2 first.1 in
      (rest.0, rest.1, (first.0, first.2, rest.2))

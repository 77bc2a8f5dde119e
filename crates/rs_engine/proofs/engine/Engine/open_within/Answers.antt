-- The store stands in the state that the disk stood for, and there are no cursors; or the disk was handed back.
use Rattle.std.proofs.Common.{Ok, arith, subst, sym}
use Rattle.std.proofs.lemmas.Result.{err_from_is_err_and}
use Rattle.rs_engine.proofs.Filing.{begins_opened, opens_err, opens_ok}
use Rattle.rs_store_source.specs.Calls.{PreservesFile}
use Rattle.rs_store_source.specs.Kept.{StoreState}
use Rattle.rs_engine.proofs.engine.Engine.open_within.Goals as goal

pub returns-in_err-store-clause-opens : goal.returns-in_err-store-clause-opens
returns-in_err-store-clause-opens g c = λ honest.
    let back = c.in_err-store.field-0.0 in
    let p = err_from_is_err_and c.from_residual.result c.from_residual.ensures.1 in
    rw (p.1, p.2) (opens_err g.D.Disk c.args.limit c.args.disk back.0 back.1 (c.in_err-store.ensures.opens honest))

pub returns-clause-opens : goal.returns-clause-opens
returns-clause-opens g c = λ honest.
    opens_ok g.D.Disk c.args.limit c.args.disk c.in_ok-store.store c.engine_over.result c.engine_over.ensures.store
    (begins_opened g.D.Disk c.args.limit (g.D.Disk.seen c.args.disk) c.in_ok-store.store c.engine_over.result c.engine_over.ensures.store c.engine_over.ensures.oldest c.engine_over.ensures.cursors
    c.state_of_a_disk_is_lawful.ensures (c.in_ok-store.ensures.opens honest).opens (omega (arith, c.in_ok-store.ensures.hands.limit, c.requires.greatest)) c.in_ok-store.ensures.full)
    (c.in_ok-store.ensures.opens honest)

pub returns-in_err-store-clause-preserves : goal.returns-in_err-store-clause-preserves
returns-in_err-store-clause-preserves g c = λ honest.
    let p = err_from_is_err_and c.from_residual.result c.from_residual.ensures.1 in
    rw (p.1, p.2) (c.in_err-store.ensures.preserves honest)

pub returns-clause-preserves : goal.returns-clause-preserves
returns-clause-preserves g c = λ honest.
    subst (λ (s : StoreState g.row.D.Denot). PreservesFile g.D.Disk c.args.limit c.args.disk (Ok s)) (sym c.engine_over.ensures.store) (c.in_ok-store.ensures.preserves honest)

-- Each table in turn, and then the referents.
use Rattle.std.proofs.Common.{◌≡◌, ◌<◌, ◌+◌, suc, Some, length, set, refl, sym, ap, ◌∙◌, subst, arith}
use Rattle.std.proofs.lemmas.Option.{slice_get-get_or}
use Rattle.rs_file.specs.declared.opened.OpenedFile.{OpenedFile}
use Rattle.rs_file_parts.specs.Inner.{IsTableTakenBack}
use Rattle.rs_file_parts.specs.Parts.{IsTableCommitted}
use Rattle.rs_file_parts.proofs.Ended.{back_committed, file_as_before, ready_back}
use Rattle.rs_file_parts.proofs.Lists.{Partly, each_right, partly_all, partly_long, partly_next}
use Rattle.rs_versioned.specs.Tables.{ReferentTableState}
use Rattle.rs_file_parts.proofs.ending.take_back.Goals as goal

pub index_mut-requires : goal.index_mut-requires
index_mut-requires c = omega (arith, partly_long IsTableTakenBack c.loop-place.place c.args.file.now.tables.items c.loop-place.file.tables.items c.loop-place.invariant.tables, c.loop-place-test.true)

pub loop-place-preserved : goal.loop-place-preserved
loop-place-preserved c =
    let fn = c.args.file.now.tables.items in
    let all = c.loop-place.file.tables.items in
    let place = c.loop-place.place in
    let one = c.index_mut.result.now in
    let now = c.take_back_table.new.table in
    let next : suc place ≡ place + 1 = omega arith in
    let below : place < length all = omega (arith, partly_long IsTableTakenBack place fn all c.loop-place.invariant.tables, c.loop-place-test.true) in
    record {
      tables = subst (λ n. Partly IsTableTakenBack n fn (set all place now)) next
          (partly_next IsTableTakenBack place fn all one now c.loop-place.invariant.tables (slice_get-get_or all place one below ∙ ap Some (sym c.index_mut.ensures.value)) c.take_back_table.ensures);
      definitions = c.loop-place.invariant.definitions;
      pages = c.loop-place.invariant.pages;
      referents = c.loop-place.invariant.referents;
      accepted = c.loop-place.invariant.accepted;
    }

pub loop-place-init : goal.loop-place-init
loop-place-init c = record { tables = refl; definitions = refl; pages = refl; referents = refl; accepted = refl }

pub returns-clause-back : goal.returns-clause-back
returns-clause-back c =
    let fn = c.args.file.now.tables.items in
    let all = c.loop-place.file.tables.items in
    let zip = partly_all IsTableTakenBack c.loop-place.place fn all c.loop-place.invariant.tables (omega (arith, partly_long IsTableTakenBack c.loop-place.place fn all c.loop-place.invariant.tables, c.loop-place-test.false)) in
    let is : OpenedFile = record c.loop-place.file { referents = c.abandon.new.self } in
    let stood = ap (λ (r : ReferentTableState). r.committed) c.loop-place.invariant.referents in
    λ was committed keeps. file_as_before was c.args.file.now is committed keeps c.loop-place.invariant.definitions c.loop-place.invariant.pages c.loop-place.invariant.accepted zip
    (c.abandon.ensures.working ∙ stood) (c.abandon.ensures.committed ∙ stood)

pub returns-clause-committed : goal.returns-clause-committed
returns-clause-committed c =
    let fn = c.args.file.now.tables.items in
    let all = c.loop-place.file.tables.items in
    let zip = partly_all IsTableTakenBack c.loop-place.place fn all c.loop-place.invariant.tables (omega (arith, partly_long IsTableTakenBack c.loop-place.place fn all c.loop-place.invariant.tables, c.loop-place-test.false)) in
    record { tables = each_right IsTableTakenBack IsTableCommitted back_committed fn all zip; referents = c.abandon.ensures.committed ∙ sym c.abandon.ensures.working }

pub returns-clause-ready : goal.returns-clause-ready
returns-clause-ready c =
    let fn = c.args.file.now.tables.items in
    let all = c.loop-place.file.tables.items in
    let zip = partly_all IsTableTakenBack c.loop-place.place fn all c.loop-place.invariant.tables (omega (arith, partly_long IsTableTakenBack c.loop-place.place fn all c.loop-place.invariant.tables, c.loop-place-test.false)) in
    let is : OpenedFile = record c.loop-place.file { referents = c.abandon.new.self } in
    λ ready. ready_back c.args.file.now is c.loop-place.invariant.definitions zip ready

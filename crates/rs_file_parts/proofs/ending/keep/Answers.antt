-- Each table in turn, and then the referents.
use Rattle.std.proofs.Common.{◌≡◌, ◌<◌, ◌+◌, suc, Some, List, length, set, refl, sym, ap, ◌∙◌, subst, arith}
use Rattle.std.proofs.lemmas.Option.{slice_get-get_or}
use Rattle.rs_file.specs.declared.opened.OpenedFile.{OpenedFile}
use Rattle.rs_file.specs.declared.opened.OpenedTable.{OpenedTable}
use Rattle.rs_file_parts.specs.Inner.{HaveChangedWithin, IsTableKept}
use Rattle.rs_file_parts.specs.Parts.{IsTableCommitted}
use Rattle.rs_file_parts.proofs.Ended.{kept_before, kept_whole, order_kept, ready_kept, stays_opened, table_committed}
use Rattle.rs_file_parts.proofs.Lists.{Partly, each_right, partly_long, partly_next}
use Rattle.rs_versioned.specs.Tables.{ReferentTableState}
use Rattle.rs_file_parts.proofs.ending.keep.Goals as goal

pub index_mut-requires : goal.index_mut-requires
index_mut-requires c =
    omega (
      arith,
      partly_long IsTableKept c.loop-place.place c.args.file.now.tables.items c.loop-place.file.tables.items c.loop-place.invariant.tables,
      c.loop-place-test.true,
      c.changed_places-places.ensures.within,
      ap length c.as_slice.ensures.value,
    )

pub loop-place-preserved : goal.loop-place-preserved
loop-place-preserved c =
    let fn = c.args.file.now.tables.items in
    let all = c.loop-place.file.tables.items in
    let place = c.loop-place.place in
    let one = c.index_mut.result.now in
    let now = c.keep_table.new.table in
    let next : suc place ≡ place + 1 = omega arith in
    let below : place < length all =
    omega (arith, partly_long IsTableKept place fn all c.loop-place.invariant.tables, c.loop-place-test.true, c.changed_places-places.ensures.within, ap length c.as_slice.ensures.value) in
    record {
      tables = subst (λ n. Partly IsTableKept n fn (set all place now)) next
          (partly_next IsTableKept place fn all one now c.loop-place.invariant.tables (slice_get-get_or all place one below ∙ ap Some (sym c.index_mut.ensures.value)) c.keep_table.ensures);
      definitions = c.loop-place.invariant.definitions;
      pages = c.loop-place.invariant.pages;
      referents = c.loop-place.invariant.referents;
      accepted = c.loop-place.invariant.accepted;
    }

pub loop-place-init : goal.loop-place-init
loop-place-init c =
    let fn = c.args.file.now.tables.items in
    let changed : HaveChangedWithin c.changed_places-places.result.from c.changed_places-places.result.to (length fn) fn =
    subst (λ (tables : List OpenedTable). HaveChangedWithin c.changed_places-places.result.from c.changed_places-places.result.to (length tables) tables) c.as_slice.ensures.value c.changed_places-places.ensures in
    record { tables = kept_before c.changed_places-places.result.from c.changed_places-places.result.to fn changed; definitions = refl; pages = refl; referents = refl; accepted = refl }

pub returns-clause-committed : goal.returns-clause-committed
returns-clause-committed c =
    let fn = c.args.file.now.tables.items in
    let all = c.loop-place.file.tables.items in
    let changed : HaveChangedWithin c.changed_places-places.result.from c.changed_places-places.result.to (length fn) fn =
    subst (λ (tables : List OpenedTable). HaveChangedWithin c.changed_places-places.result.from c.changed_places-places.result.to (length tables) tables) c.as_slice.ensures.value c.changed_places-places.ensures in
    let zip = kept_whole c.changed_places-places.result.from c.changed_places-places.result.to c.loop-place.place fn all changed c.loop-place-test.false c.loop-place.invariant.tables in
    record { tables = each_right IsTableKept IsTableCommitted table_committed fn all zip; referents = c.commit.ensures.committed ∙ sym c.commit.ensures.working }

pub returns-clause-stays : goal.returns-clause-stays
returns-clause-stays c =
    let fn = c.args.file.now.tables.items in
    let all = c.loop-place.file.tables.items in
    let changed : HaveChangedWithin c.changed_places-places.result.from c.changed_places-places.result.to (length fn) fn =
    subst (λ (tables : List OpenedTable). HaveChangedWithin c.changed_places-places.result.from c.changed_places-places.result.to (length tables) tables) c.as_slice.ensures.value c.changed_places-places.ensures in
    let zip = kept_whole c.changed_places-places.result.from c.changed_places-places.result.to c.loop-place.place fn all changed c.loop-place-test.false c.loop-place.invariant.tables in
    let is : OpenedFile = record c.loop-place.file { referents = c.commit.new.self } in
    stays_opened c.args.file.now is c.loop-place.invariant.definitions c.loop-place.invariant.pages zip (c.commit.ensures.working ∙ ap (λ (r : ReferentTableState). r.working) c.loop-place.invariant.referents)

pub returns-clause-ready : goal.returns-clause-ready
returns-clause-ready c =
    let fn = c.args.file.now.tables.items in
    let all = c.loop-place.file.tables.items in
    let changed : HaveChangedWithin c.changed_places-places.result.from c.changed_places-places.result.to (length fn) fn =
    subst (λ (tables : List OpenedTable). HaveChangedWithin c.changed_places-places.result.from c.changed_places-places.result.to (length tables) tables) c.as_slice.ensures.value c.changed_places-places.ensures in
    let zip = kept_whole c.changed_places-places.result.from c.changed_places-places.result.to c.loop-place.place fn all changed c.loop-place-test.false c.loop-place.invariant.tables in
    let is : OpenedFile = record c.loop-place.file { referents = c.commit.new.self } in
    λ ready. ready_kept c.args.file.now is c.loop-place.invariant.definitions zip ready

pub returns-clause-order : goal.returns-clause-order
returns-clause-order c =
    let fn = c.args.file.now.tables.items in
    let all = c.loop-place.file.tables.items in
    let changed : HaveChangedWithin c.changed_places-places.result.from c.changed_places-places.result.to (length fn) fn =
    subst (λ (tables : List OpenedTable). HaveChangedWithin c.changed_places-places.result.from c.changed_places-places.result.to (length tables) tables) c.as_slice.ensures.value c.changed_places-places.ensures in
    let zip = kept_whole c.changed_places-places.result.from c.changed_places-places.result.to c.loop-place.place fn all changed c.loop-place-test.false c.loop-place.invariant.tables in
    let is : OpenedFile = record c.loop-place.file { referents = c.commit.new.self } in
    order_kept c.args.file.now is zip (c.commit.ensures.working ∙ ap (λ (r : ReferentTableState). r.working) c.loop-place.invariant.referents)

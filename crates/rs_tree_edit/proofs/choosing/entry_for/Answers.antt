-- The place is the entry's where it has the cell, else that of the next one.
use Rattle.std.proofs.Common.{◌≡◌, ◌<◌, ℕ, List, length, Some, slice_get, sym, ◌∙◌, subst, arith}
use Rattle.std.proofs.lemmas.Bool.{false≢true}
use Rattle.rs_records.specs.Records.{records, keys, IsPlace}
use Rattle.rs_records.proofs.RecordLists.{length-keys}
use Rattle.rs_tree.specs.Form.{least_from}
use Rattle.rs_tree.proofs.Lists.{has_inside}
use Rattle.rs_tree.specs.Layouts.{entry_bytes}
use Rattle.rs_tree_edit.specs.Choosing.{IsEntryFor}
use Rattle.rs_tree_edit.proofs.Between.{same_keys, entry_here, entry_before}
use Rattle.rs_tree_edit.proofs.choosing.entry_for.Goals as goal

pub returns-then-has_key-clause-within : goal.returns-then-has_key-clause-within
returns-then-has_key-clause-within c =
    let ls : List (List ℕ) = keys c.least_from-least.result (records c.args.count c.entry_width-width.result c.args.bytes.now) in
    omega (arith, has_inside ls c.place-found.result c.args.cell.now (c.has_key.ensures.0 c.if-has_key.true), length-keys c.least_from-least.result c.args.count c.entry_width-width.result c.args.bytes.now)

pub returns-then-has_key-clause-chosen : goal.returns-then-has_key-clause-chosen
returns-then-has_key-clause-chosen c = λ up.
    let same = same_keys c.args.count c.least_from-least.result (least_from c.args.layout.summary) c.entry_width-width.result (entry_bytes c.args.layout) c.args.bytes.now c.least_from-least.ensures.least c.entry_width-width.ensures.width in
    entry_here (keys (least_from c.args.layout.summary) (records c.args.count (entry_bytes c.args.layout) c.args.bytes.now)) c.args.cell.now c.place-found.result up
    (subst (λ (ls : List (List ℕ)). slice_get ls c.place-found.result ≡ Some c.args.cell.now) same (c.has_key.ensures.0 c.if-has_key.true))

pub returns-else-has_key-clause-within : goal.returns-else-has_key-clause-within
returns-else-has_key-clause-within c =
    omega (arith, c.saturating_sub.ensures, c.place-found.ensures.within, length-keys c.least_from-least.result c.args.count c.entry_width-width.result c.args.bytes.now, c.requires.some)

pub returns-else-has_key-clause-chosen : goal.returns-else-has_key-clause-chosen
returns-else-has_key-clause-chosen c = λ up.
    let ls : List (List ℕ) = keys (least_from c.args.layout.summary) (records c.args.count (entry_bytes c.args.layout) c.args.bytes.now) in
    let same = same_keys c.args.count c.least_from-least.result (least_from c.args.layout.summary) c.entry_width-width.result (entry_bytes c.args.layout) c.args.bytes.now c.least_from-least.ensures.least c.entry_width-width.ensures.width in
    let some : 0 < length ls = omega (arith, length-keys (least_from c.args.layout.summary) c.args.count (entry_bytes c.args.layout) c.args.bytes.now, c.requires.some) in
    let place = subst (λ (xs : List (List ℕ)). IsPlace xs c.args.cell.now c.place-found.result) same c.place-found.ensures in
    let none : slice_get ls c.place-found.result ≡ Some c.args.cell.now → ⊥ =
    λ has. false≢true (sym c.if-has_key.false ∙ c.has_key.ensures.1 (subst (λ (xs : List (List ℕ)). slice_get xs c.place-found.result ≡ Some c.args.cell.now) (sym same) has)) in
    subst (IsEntryFor ls c.args.cell.now) (sym c.saturating_sub.ensures) (entry_before ls c.args.cell.now c.place-found.result up some place none)

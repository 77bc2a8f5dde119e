-- One cell after the other.
use Rattle.std.proofs.Common.{◌≡◌, ◌<◌, ◌≤◌, ◌∙◌, false, Result, Ok, Err, List, length, subst, sym, arith}
use Rattle.std.specs.Prelude.{OnOk, is_err}
use Rattle.std.proofs.lemmas.Bool.{false≢true}
use Rattle.std.proofs.lemmas.List.{take_all}
use Rattle.rs_catalog.specs.Referents.{referents_on}
use Rattle.rs_stored_catalog.specs.Referents.{HasMore, IsReferent}
use Rattle.rs_records.specs.Listed.{listed}
use Rattle.rs_stored_catalog.proofs.PutReferents.{entries_of, put_at, put_none}
use Rattle.rs_tree.proofs.Lists.{all_at, has_inside, inside_has, zip_at, zip_lengths}
use Rattle.rs_versioned.proofs.CellsWide.{cell_wide}
use Rattle.rs_versioned.specs.Referents.{ReferentRecord, SaysReferent}
use Rattle.rs_stored_catalog.proofs.referents.put_cells.Goals as goal

-- what is no error is ok
no_error : {T E P : Type 0} (r : Result T E) → is_err r ≡ false → OnOk r P → P
no_error (Ok x) is so = so
no_error (Err e) is so = absurd (false≢true (sym is))

pub loop-index-init : goal.loop-index-init
loop-index-init c = λ referents all distinct. put_none c.args.number referents (referents_on c.args.made.now)

pub referent_said-requires : goal.referent_said-requires
referent_said-requires c = record { width = cell_wide c.args.cells.now c.loop-index.index c.get.result.now c.get.ensures ∙ c.requires.width }

pub returns-in_default-clause-damaged : goal.returns-in_default-clause-damaged
returns-in_default-clause-damaged c = λ is referents all are.
    let cells = listed c.args.cells.now in
    let k = c.loop-index.index in
    let cell = c.get.result.now in
    let inside : k < length referents = omega (arith, has_inside cells k cell c.get.ensures, zip_lengths SaysReferent cells referents all) in
    let one = inside_has referents k inside in
    c.in_default.ensures.none one.0 (zip_at SaysReferent cells referents k cell one.0 all c.get.ensures one.1) (all_at IsReferent referents k one.0 are one.1)

pub loop-index-preserved : goal.loop-index-preserved
loop-index-preserved c = λ referents all distinct.
    let cells = listed c.args.cells.now in
    let k = c.loop-index.index in
    let cell = c.get.result.now in
    let inside : k < length referents = omega (arith, has_inside cells k cell c.get.ensures, zip_lengths SaysReferent cells referents all) in
    let one = inside_has referents k inside in
    let said = c.in-Some.ensures.said one.0 (zip_at SaysReferent cells referents k cell one.0 all c.get.ensures one.1) in
    put_at c.args.number referents k one.0 one.1 distinct (referents_on c.args.made.now) (referents_on c.loop-index.made) (referents_on c.put.new.self)
    (c.loop-index.invariant referents all distinct) _ _ (no_error c.put.result (sym c.is_err.ensures.value ∙ c.if-is_err.false) c.put.ensures.ok)
    said.0 said.1

pub returns-clause-puts : goal.returns-clause-puts
returns-clause-puts c = λ referents all distinct.
    let whole : length referents ≤ c.loop-index.index = omega (arith, c.loop-index-test.false, c.len-index-end.ensures, zip_lengths SaysReferent (listed c.args.cells.now) referents all) in
    subst (λ (those : List ReferentRecord). HasMore c.args.number (entries_of those) (referents_on c.args.made.now) (referents_on c.loop-index.made))
    (take_all c.loop-index.index referents whole) (c.loop-index.invariant referents all distinct)

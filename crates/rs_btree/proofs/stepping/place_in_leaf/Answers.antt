-- The cell is there where it isn't below what has its place.
use Rattle.std.proofs.Common.{◌≡◌, ◌≤◌, ◌<◌, ◌+◌, false, sym, ap, ◌∙◌, refl, arith, rules}
use Rattle.std.proofs.lemmas.Bool.{false≢true}
use Rattle.std.specs.Prelude.{not}
use Rattle.rs_records.proofs.RecordLists.{length-keys, times_upto}
use Rattle.rs_btree.proofs.Pages.{leaf_lacks, leaf_tells, there_contains}
use Rattle.rs_btree.proofs.stepping.place_in_leaf.Goals as goal

pub returns-then-is_at-clause-there : goal.returns-then-is_at-clause-there
returns-then-is_at-clause-there c = λ up. there_contains _ c.args.likely c.args.cell.now ((c.is_at.ensures (search rules)).1)

pub record_at-requires : goal.record_at-requires
record_at-requires c =
    let upto : c.place-at.result ≤ c.args.count = omega (arith, c.place-at.ensures.within, length-keys 0 c.args.count c.args.width c.args.bytes.now) in
    let inside : c.place-at.result + 1 ≤ c.args.count = omega (arith, upto, c.if-at-count.false) in
    omega (arith, times_upto (c.place-at.result + 1) c.args.count c.args.width inside, c.requires.fit)

pub returns-then-at-count-clause-none : goal.returns-then-at-count-clause-none
returns-then-at-count-clause-none c = λ up has.
    leaf_lacks c.args.count c.args.width c.place-at.result c.args.bytes.now c.args.bytes.now c.args.cell.now refl c.place-at.ensures c.if-at-count.true up has

pub returns-then-is_below-clause-none : goal.returns-then-is_below-clause-none
returns-then-is_below-clause-none c = λ up has.
    let inside : c.place-at.result < c.args.count = omega (arith, c.place-at.ensures.within, length-keys 0 c.args.count c.args.width c.args.bytes.now, c.if-at-count.false) in
    let tells = leaf_tells c.args.count c.args.width c.place-at.result c.args.bytes.now c.args.bytes.now c.args.cell.now c.record_at.result.now c.is_below.result
    refl c.place-at.ensures (c.record_at.ensures.one c.args.count inside) c.is_below.ensures up in
    let isnt : not c.is_below.result ≡ false = ap not c.if-is_below.true in
    false≢true (sym isnt ∙ tells.1 has)

pub returns-clause-within : goal.returns-clause-within
returns-clause-within c = omega (arith, c.place-at.ensures.within, length-keys 0 c.args.count c.args.width c.args.bytes.now, c.if-at-count.false)

pub returns-clause-there : goal.returns-clause-there
returns-clause-there c = λ up.
    let inside : c.place-at.result < c.args.count = omega (arith, c.place-at.ensures.within, length-keys 0 c.args.count c.args.width c.args.bytes.now, c.if-at-count.false) in
    let tells = leaf_tells c.args.count c.args.width c.place-at.result c.args.bytes.now c.args.bytes.now c.args.cell.now c.record_at.result.now c.is_below.result
    refl c.place-at.ensures (c.record_at.ensures.one c.args.count inside) c.is_below.ensures up in
    tells.0 (ap not c.if-is_below.false)

-- The search goes on below the last entry that the first cell is not below: so do those after it that are below the next entry.
use Rattle.std.proofs.Common.{◌≡◌, ◌≤◌, ◌<◌, ◌-◌, ℕ, List, Some, true, [], slice_get, slice_index_or, inl, inr, refl, sym, subst, arith}
use Rattle.std.proofs.lemmas.Bool.{cases_lt}
use Rattle.rs_records.specs.Listed.{listed}
use Rattle.rs_records.specs.Order.{is_below}
use Rattle.rs_records.specs.Records.{keys, records}
use Rattle.rs_records.proofs.RecordLists.{length-keys}
use Rattle.rs_tree.specs.Form.{Form}
use Rattle.rs_tree.specs.Forms.{form_in}
use Rattle.rs_btree.specs.Looking.{LiesBetween}
use Rattle.rs_btree.proofs.Pages.{between_place, entries_lack, entries_narrow, key_told, rises_between}
use Rattle.rs_btree.proofs.stepping.step_below.Goals as goal

pub returns-then-at-eq0-clause-leads : goal.returns-then-at-eq0-clause-leads
returns-then-at-eq0-clause-leads g c =
    let form : Form = form_in g.S.Summary c.args.layout in
    let within : c.place_after-at.result ≤ _ = omega (arith, c.place_after-at.ensures.within, length-keys c.least_from-least.result c.args.count c.entry_width-width.result c.content-bytes.result.now) in (
      refl,
      λ cell there.
          let same : c.get.result.now ≡ cell = cc in
          let between : LiesBetween (keys c.least_from-least.result (records c.args.count c.entry_width-width.result c.content-bytes.result.now)) cell c.place_after-at.result =
          subst (λ (key : List ℕ). LiesBetween (keys c.least_from-least.result (records c.args.count c.entry_width-width.result c.content-bytes.result.now)) key c.place_after-at.result) same c.place_after-at.ensures.between in
          entries_lack form c.args.page.now.bytes c.args.count c.entry_width-width.result c.least_from-least.result c.place_after-at.result c.content-bytes.result.now cell _
          c.entry_width-width.ensures.width c.least_from-least.ensures.least c.content-bytes.ensures.bytes refl (between_place _ cell c.place_after-at.result within between) c.if-at-eq0.true,
    )

pub returns-then-at-count-clause-leads : goal.returns-then-at-count-clause-leads
returns-then-at-count-clause-leads g c = λ place cell low high there.
    let form : Form = form_in g.S.Summary c.args.layout in
    let many = length-keys c.least_from-least.result c.args.count c.entry_width-width.result c.content-bytes.result.now in
    let within : c.place_after-at.result ≤ _ = omega (arith, c.place_after-at.ensures.within, many) in
    let inside : c.place_after-at.result - 1 < c.args.count = omega (arith, c.place_after-at.ensures.within, c.if-at-eq0.false) in
    let ks : List (List ℕ) = keys c.least_from-least.result (records c.args.count c.entry_width-width.result c.content-bytes.result.now) in
    let between : LiesBetween ks cell c.place_after-at.result =
    rises_between ks (listed c.args.cells.now) c.args.from c.args.to c.get.result.now c.place_after-at.result c.get.ensures c.requires.rising c.place_after-at.ensures.between place cell low high there
    (λ less. absurd (omega (arith, less, many, c.if-at-count.true))) in
    entries_narrow form c.args.page.now.bytes c.args.count c.entry_width-width.result c.least_from-least.result c.place_after-at.result c.content-bytes.result.now cell _
    c.entry_width-width.ensures.width c.least_from-least.ensures.least c.content-bytes.ensures.bytes refl (between_place ks cell c.place_after-at.result within between)
    c.record_at.result.now c.child-below.result (λ zero. omega (arith, zero, c.if-at-eq0.false)) (c.record_at.ensures.one c.args.count inside) c.child-below.ensures

pub returns-clause-leads : goal.returns-clause-leads
returns-clause-leads g c = λ place cell low high there.
    let form : Form = form_in g.S.Summary c.args.layout in
    let many = length-keys c.least_from-least.result c.args.count c.entry_width-width.result c.content-bytes.result.now in
    let within : c.place_after-at.result ≤ _ = omega (arith, c.place_after-at.ensures.within, many) in
    let inside : c.place_after-at.result - 1 < c.args.count = omega (arith, c.place_after-at.ensures.within, c.if-at-eq0.false) in
    let more : c.place_after-at.result < c.args.count = omega (arith, c.place_after-at.ensures.within, c.if-at-count.false) in
    let rs : List (List ℕ) = records c.args.count c.entry_width-width.result c.content-bytes.result.now in
    let ks : List (List ℕ) = keys c.least_from-least.result rs in
    let next = c.record_at-2.ensures.one c.args.count more in
    let between : LiesBetween ks cell c.place_after-at.result =
    rises_between ks (listed c.args.cells.now) c.args.from c.run_end.result c.get.result.now c.place_after-at.result c.get.ensures
    (λ one other a b low less high. c.requires.rising one other a b low less (omega (arith, high, c.run_end.ensures.within.1)))
    c.place_after-at.ensures.between place cell low high there
    (λ less. elim (cases_lt c.args.from place) [
      | inl after ↦ key_told c.least_from-least.result rs c.place_after-at.result c.record_at-2.result.now cell true next (sym (c.run_end.ensures.below place cell (omega (arith, after)) high there))
      | inr same ↦
          let here : place ≡ c.args.from = omega (arith, same, low) in
          let found : slice_get (listed c.args.cells.now) c.args.from ≡ Some cell = subst (λ (k : ℕ). slice_get (listed c.args.cells.now) k ≡ Some cell) here there in
          let level : c.get.result.now ≡ cell = cc in
          subst (λ (x : List ℕ). is_below x (slice_index_or ks c.place_after-at.result []) ≡ true) level (c.place_after-at.ensures.between.after less)
    ]) in
    entries_narrow form c.args.page.now.bytes c.args.count c.entry_width-width.result c.least_from-least.result c.place_after-at.result c.content-bytes.result.now cell _
    c.entry_width-width.ensures.width c.least_from-least.ensures.least c.content-bytes.ensures.bytes refl (between_place ks cell c.place_after-at.result within between)
    c.record_at.result.now c.child-below.result (λ zero. omega (arith, zero, c.if-at-eq0.false)) (c.record_at.ensures.one c.args.count inside) c.child-below.ensures

-- The entries between the two places.
use Rattle.std.proofs.Common.{◌≡◌, ◌-◌, ◌*◌, ◌∙◌, ap, arith, drop, length, subst, take}
use Rattle.std.proofs.lemmas.List.{length-drop, take_all}
use Rattle.rs_records.proofs.RecordLists.{times_upto}
use Rattle.rs_records.specs.Listed.{listed}
use Rattle.rs_records.specs.Records.{keys, records}
use Rattle.rs_tree.specs.Form.{least_from}
use Rattle.rs_tree.specs.Layouts.{entry_bytes}
use Rattle.rs_tree.specs.Walking.{IsRange}
use Rattle.rs_tree.proofs.Holding.{copied_between, ends_within, room_between}
use Rattle.rs_tree.proofs.look.take_entries.Goals as goal

pub overflow_mul-from : goal.overflow_mul-from
overflow_mul-from c =
    let ends = ends_within c.args.layout c.args.count c.content-bytes.result.now c.args.low.now c.args.high.now c.entries_within-from.result.0 c.entries_within-from.result.1 c.entries_within-from.ensures in
    let upto = times_upto c.entries_within-from.result.0 c.args.count (entry_bytes c.args.layout) ends.0 in
    let same = ap (λ w. c.entries_within-from.result.0 * w) c.entry_width-width.ensures.width in
    omega (arith, upto, same, c.requires.fit)

pub slice_bounds-copied-count : goal.slice_bounds-copied-count
slice_bounds-copied-count c =
    let ends = ends_within c.args.layout c.args.count c.content-bytes.result.now c.args.low.now c.args.high.now c.entries_within-from.result.0 c.entries_within-from.result.1 c.entries_within-from.ensures in
    let upto = times_upto c.entries_within-from.result.0 c.args.count (entry_bytes c.args.layout) ends.0 in
    let same = ap (λ w. c.entries_within-from.result.0 * w) c.entry_width-width.ensures.width in
    omega (arith, upto, same, c.requires.fit, c.content-bytes.ensures.size)

pub slice_bounds-copied-start : goal.slice_bounds-copied-start
slice_bounds-copied-start c =
    let ends = ends_within c.args.layout c.args.count c.content-bytes.result.now c.args.low.now c.args.high.now c.entries_within-from.result.0 c.entries_within-from.result.1 c.entries_within-from.ensures in
    let upto = times_upto c.entries_within-from.result.0 c.args.count (entry_bytes c.args.layout) ends.0 in
    let same = ap (λ w. c.entries_within-from.result.0 * w) c.entry_width-width.ensures.width in
    omega (arith, upto, same, c.requires.fit, c.content-bytes.ensures.size)

pub copied-requires-clause-inside : goal.copied-requires-clause-inside
copied-requires-clause-inside c =
    let count = c.args.count in
    let from = c.entries_within-from.result.0 in
    let to = c.entries_within-from.result.1 in
    let bytes = c.content-bytes.result.now in
    let width = c.entry_width-width.result in
    let ends = ends_within c.args.layout count bytes c.args.low.now c.args.high.now from to c.entries_within-from.ensures in
    let same = ap (λ w. count * w) c.entry_width-width.ensures.width in
    let room = room_between count width from to bytes ends.0 ends.1 (omega (arith, same, c.requires.fit, c.content-bytes.ensures.size)) in
    let all = ap length (take_all (length bytes - from * width) (drop (from * width) bytes) (omega (arith, length-drop (from * width) bytes))) in
    let many = ap (λ n. n * width) c.saturating_sub.ensures in
    omega (arith, room, all, many)

pub returns-clause-held : goal.returns-clause-held
returns-clause-held c =
    let count = c.args.count in
    let from = c.entries_within-from.result.0 in
    let to = c.entries_within-from.result.1 in
    let bytes = c.content-bytes.result.now in
    let width = c.entry_width-width.result in
    let ends = ends_within c.args.layout count bytes c.args.low.now c.args.high.now from to c.entries_within-from.ensures in
    let all = take_all (length bytes - from * width) (drop (from * width) bytes) (omega (arith, length-drop (from * width) bytes)) in
    let copied : listed c.in_ok-entries.entries ≡ take (to - from) (drop from (records count width bytes)) =
    c.in_ok-entries.ensures.records ∙ ap (λ n. records n width (take (length bytes - from * width) (drop (from * width) bytes))) c.saturating_sub.ensures
    ∙ ap (records (to - from) width) all ∙ copied_between count width from to bytes ends.0 ends.1 in
    record {
      from = from;
      to = to;
      range = subst (λ b. IsRange (keys (least_from c.args.layout.summary) (records count (entry_bytes c.args.layout) b)) c.args.low.now c.args.high.now from to) c.content-bytes.ensures.bytes c.entries_within-from.ensures;
      part = subst (λ b. listed c.in_ok-entries.entries ≡ take (to - from) (drop from (records count (entry_bytes c.args.layout) b))) c.content-bytes.ensures.bytes
          (subst (λ w. listed c.in_ok-entries.entries ≡ take (to - from) (drop from (records count w bytes))) c.entry_width-width.ensures.width copied);
    }

-- Each of the cells in memory is of their width, and what a test keeps of them one after the other.
use Rattle.std.proofs.Common.{◌≡◌, ◌<◌, ◌≤◌, ◌+◌, ◌*◌, ℕ, suc, Bool, cond, Some, List, [], ◌∷◌, ◌++◌, length, take, drop, slice_get, filter, sym, ap, ◌∙◌, arith}
use Rattle.std.proofs.lemmas.List.{length-drop, length-take-le}
use Rattle.std.proofs.lemmas.List.Elements.{filter-append}
use Rattle.std.proofs.lemmas.Option.{same_Some, slice_get_within}
use Rattle.std.specs.Vec.{vec_len}
use Rattle.rs_records.specs.declared.cells.Cells.{Cells}
use Rattle.rs_records.specs.Listed.{listed, record_width}
use Rattle.rs_records.proofs.RecordLists.{length-records, records-at, times_upto}
use Rattle.rs_tree.proofs.Lists.{take_next}

pub cell_wide : (cells : Cells) (index : ℕ) (cell : List ℕ) → slice_get (listed cells) index ≡ Some cell → length cell ≡ record_width cells
cell_wide cells index cell there =
    let within : index < length (listed cells) = slice_get_within (listed cells) index cell there in
    let below : index < cells.count = omega (arith, length-records cells.count cells.width cells.bytes.items, within) in
    let whole : vec_len cells.bytes ≡ cells.count * cells.width = cells.whole in
    let upto : (index + 1) * cells.width ≤ cells.count * cells.width = times_upto (index + 1) cells.count cells.width (omega arith) in
    let size : vec_len cells.bytes ≡ length cells.bytes.items = cells.bytes.ok.0 in
    let is : take cells.width (drop (index * cells.width) cells.bytes.items) ≡ cell =
    same_Some (take cells.width (drop (index * cells.width) cells.bytes.items)) cell (sym (records-at cells.count cells.width cells.bytes.items index below) ∙ there) in
    sym (ap length is)
    ∙ length-take-le cells.width (drop (index * cells.width) cells.bytes.items) (omega (arith, upto, whole, size, length-drop (index * cells.width) cells.bytes.items))

pub filter_next : (test : List ℕ → Bool) (xs : List (List ℕ)) (i : ℕ) (x : List ℕ) (b : Bool) → slice_get xs i ≡ Some x → test x ≡ b
    → filter test (take (i + 1) xs) ≡ filter test (take i xs) ++ cond b (x ∷ []) []
filter_next test xs i x b there is =
    let next : i + 1 ≡ suc i = omega arith in
    ap (λ (n : ℕ). filter test (take n xs)) next ∙ ap (filter test) (take_next xs i x there) ∙ filter-append test (take i xs) (x ∷ [])
    ∙ ap (λ t. filter test (take i xs) ++ cond t (x ∷ []) []) is

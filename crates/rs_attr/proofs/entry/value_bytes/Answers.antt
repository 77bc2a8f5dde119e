-- A row of one column with one value.
use Rattle.std.proofs.Common.{◌≡◌, ◌∙◌, ◌++◌, [], ◌∷◌, List, ℕ, drop, length, map, sym, ap, subst}
use Rattle.std.proofs.lemmas.List.{take_at}
use Rattle.rs_value.specs.declared.column.ColumnType.{ColumnType}
use Rattle.rs_value.specs.Encoding.{SaysDatum, SaysRow, width}
use Rattle.rs_value.specs.Row.{Row}
use Rattle.rs_value.specs.Values.{IsRowOf}
use Rattle.rs_value.specs.View.{datum_of, row_of}
use Rattle.rs_value.proofs.EncodingOrder.{datum_wide}
use Rattle.rs_attr.proofs.Values.{one_said}
use Rattle.rs_attr.proofs.entry.value_bytes.Goals as goal

pub encode-requires-clause-row : goal.encode-requires-clause-row
unfolding row_of
encode-requires-clause-row c =
    let types : c.push.new.self.items ≡ c.args.column ∷ [] = c.push.ensures.items ∙ ap (λ (l : List ColumnType). l ++ c.args.column ∷ []) c.new-schema.ensures in
    let row : row_of c.from_ref.result.now ≡ datum_of c.args.value.now ∷ [] = ap (map datum_of) c.from_ref.ensures.value in
    subst (λ (t : List ColumnType). IsRowOf t (row_of c.from_ref.result.now)) (sym types) (subst (λ (r : Row). IsRowOf (c.args.column ∷ []) r) (sym row) (c.requires.of_type, tt))

pub returns-clause-says : goal.returns-clause-says
unfolding row_of
returns-clause-says c =
    let bytes : List ℕ = c.encode.new.bytes in
    let types : c.push.new.self.items ≡ c.args.column ∷ [] = c.push.ensures.items ∙ ap (λ (l : List ColumnType). l ++ c.args.column ∷ []) c.new-schema.ensures in
    let row : row_of c.from_ref.result.now ≡ datum_of c.args.value.now ∷ [] = ap (map datum_of) c.from_ref.ensures.value in
    let said : SaysDatum c.args.column bytes (datum_of c.args.value.now) = one_said c.args.column bytes (datum_of c.args.value.now)
    (subst (λ (r : Row). SaysRow (c.args.column ∷ []) bytes r) row (subst (λ (t : List ColumnType). SaysRow t bytes (row_of c.from_ref.result.now)) types c.encode.ensures.says)) in
    let wide : length bytes ≡ width c.args.column = datum_wide c.args.column bytes (datum_of c.args.value.now) said in
    let size : length bytes ≡ c.resize.new.self.len = wide ∙ sym c.column_width.ensures.value ∙ sym c.in_ok-resize.ensures.len in
    subst (λ (l : List ℕ). SaysDatum c.args.column l (datum_of c.args.value.now))
    (sym (take_at bytes (drop (length bytes) c.resize.new.self.items) c.resize.new.self.len size)) said

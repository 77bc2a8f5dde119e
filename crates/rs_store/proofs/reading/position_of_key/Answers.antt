-- The first index that is the key's, or none.
use Rattle.std.proofs.Common.{◌≡◌, ◌<◌, ◌+◌, ◌==◌, ◌&&◌, ◌∙◌, ℕ, Bool, true, false, Some, ap, inl, inr, length, map, refl, slice_get, sym, arith}
use Rattle.std.proofs.lemmas.Bool.{and_parts, cases_lt, eq-eqb, ne_eqb}
use Rattle.std.proofs.lemmas.List.{length-map}
use Rattle.std.proofs.lemmas.Option.{same_Some, slice_get-map, slice_get_read, slice_get_within}
use Rattle.std.specs.Option.{option_map}
use Rattle.rs_catalog_pages.specs.Items.{IndexItem}
use Rattle.rs_catalog_pages.specs.Said.{said_index}
use Rattle.rs_catalog_pages.specs.declared.items.StoredIndex.{StoredIndex}
use Rattle.rs_store.specs.Reading.{is_of_key}
use Rattle.rs_store.proofs.Positions.{filter_at, filter_count}
use Rattle.rs_store.proofs.reading.position_of_key.Goals.{else-indexes-place, then-indexes-place}
use Rattle.rs_store.proofs.reading.position_of_key.Goals as goal

pub returns-then-is_of_key-clause-found : goal.returns-then-is_of_key-clause-found
returns-then-is_of_key-clause-found c =
    let indexes = c.args.indexes.now in
    let key = c.args.key in
    let place = c.loop-place.place in
    let one = c.index-indexes-place.result in
    let item = said_index one in
    let here : slice_get indexes place ≡ Some one = slice_get_read indexes (length indexes) place one refl c.loop-place-test.true c.index-indexes-place.is in
    let said : slice_get (map said_index indexes) place ≡ Some item = slice_get-map said_index indexes place ∙ ap (option_map said_index) here in
    let is : is_of_key key item ≡ true = sym c.is_of_key.ensures ∙ c.if-is_of_key.true in
    let table = and_parts (item.table == key.table) (item.number == key.number) (and_parts (item.table == key.table && item.number == key.number) (item.column == key.column) is).0 in
    record {
      item = item;
      there = ap (slice_get _) c.loop-place.invariant.at ∙ filter_at (λ (i : IndexItem). i.table == key.table) (map said_index indexes) place item said table.0;
      is = is;
    }

pub loop-place-preserved : goal.loop-place-preserved
loop-place-preserved c =
    let indexes = c.args.indexes.now in
    let key = c.args.key in
    let at = c.loop-place.place in
    let one = c.index-indexes-place.result in
    let item = said_index one in
    let here : slice_get indexes at ≡ Some one = slice_get_read indexes (length indexes) at one refl c.loop-place-test.true c.index-indexes-place.is in
    let said : slice_get (map said_index indexes) at ≡ Some item = slice_get-map said_index indexes at ∙ ap (option_map said_index) here in
    let isnt : is_of_key key item ≡ false = sym c.is_of_key.ensures ∙ c.if-is_of_key.false in
    let none : (k : ℕ) → k < at + 1 → (other : IndexItem) → slice_get (map said_index indexes) k ≡ Some other → is_of_key key other ≡ false = λ k below other there.
    elim (cases_lt k at) [
      | inl before ↦ c.loop-place.invariant.none k before other there
      | inr past ↦
          let same : at ≡ k = omega (arith, below, past) in
          let alike : item ≡ other = same_Some item other (sym said ∙ ap (slice_get (map said_index indexes)) same ∙ there) in
          ap (is_of_key key) (sym alike) ∙ isnt
    ] in
    let so = c.loop-place.invariant in
    let two = c.index-indexes-place-in-loop-place.result in
    let again : slice_get indexes at ≡ Some two = slice_get_read indexes (length indexes) at two refl c.loop-place-test.true c.index-indexes-place-in-loop-place.is in
    let read = same_Some one two (sym here ∙ again) ∙ c.index-indexes-place-in-loop-place.is in
    let of_table : IndexItem → Bool = λ i. i.table == key.table in
    elim c.if-indexes-place.branch [
      | then-indexes-place w ↦
          let is : of_table item ≡ true = eq-eqb item.table key.table (ap (λ (i : StoredIndex). i.table) read ∙ w.if-indexes-place.true) in
          record {
            at = w.position-is ∙ ap (λ (n : ℕ). n + 1) so.at ∙ sym (filter_count of_table (map said_index indexes) at item true said is);
            none = none;
            few = omega (arith, w.position-is, so.few);
          }
      | else-indexes-place w ↦
          let apart : of_table item ≡ false = ne_eqb item.table key.table (λ same. w.if-indexes-place.false (ap (λ (i : StoredIndex). i.table) (sym read) ∙ same)) in
          record {
            at = omega (arith, w.position-is, so.at, filter_count of_table (map said_index indexes) at item false said apart);
            none = none;
            few = omega (arith, w.position-is, so.few);
          }
    ]

pub returns-clause-none : goal.returns-clause-none
returns-clause-none c = record {
  none = λ place item there.
      c.loop-place.invariant.none place
      (omega (arith, slice_get_within (map said_index c.args.indexes.now) place item there, length-map c.args.indexes.now said_index, c.loop-place-test.false)) item there;
}

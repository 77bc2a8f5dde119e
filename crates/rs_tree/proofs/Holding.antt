-- The entries that were taken of an inner page, and walks through them.
use Rattle.std.proofs.Common.{◌≡◌, ◌<◌, ◌≤◌, ◌+◌, ◌-◌, ◌*◌, ℕ, zero, suc, Bool, Some, List, [], ◌∷◌, ◌++◌, length, take, drop, slice_get, refl, sym, ap, ◌∙◌, subst, arith}
use Rattle.std.proofs.lemmas.List.{length-drop, length-take-le}
use Rattle.std.proofs.lemmas.Option.{same_Some, slice_get_within}
use Rattle.std.specs.Vec.{vec_len}
use Rattle.rs_pages.specs.PageMap.{PageMap, SamePages}
use Rattle.rs_records.specs.declared.cells.Cells.{Cells}
use Rattle.rs_records.specs.Listed.{listed, record_width}
use Rattle.rs_records.specs.Records.{keys, records}
use Rattle.rs_records.proofs.RecordLists.{drop-records, length-keys, length-records, records-at, take-records, times_upto}
use Rattle.rs_tree.specs.Content.{content}
use Rattle.rs_tree.specs.Form.{Form, least_from}
use Rattle.rs_tree.specs.Layouts.{form_with, entry_bytes}
use Rattle.rs_tree.specs.Looking.{HoldsEntries}
use Rattle.rs_tree.specs.Walking.{IsRange, WalksEntry, WalksEntries, ReadsEntryOnce, ReadsEntriesOnce, HasNoPartOfEntry, HasNoPartsOfEntries}
use Rattle.rs_tree.specs.declared.layout.Layout.{Layout}
use Rattle.rs_tree.proofs.Entries.{WalksSome, ReadsSome, walks_next, walks_all, reads_next, reads_all, no_entry-no_parts}
use Rattle.rs_tree.proofs.Lists.{drop_at_place}

-- both places are among the entries
pub ends_within : (layout : Layout) (count : ℕ) (bytes low high : List ℕ) (from to : ℕ)
    → IsRange (keys (least_from layout.summary) (records count (entry_bytes layout) bytes)) low high from to → (from ≤ count) × (to ≤ count)
ends_within layout count bytes low high from to range =
    let many = length-keys (least_from layout.summary) count (entry_bytes layout) bytes in
    (omega (arith, range.before, range.first.within, many), omega (arith, range.last.within, many))

-- the records from one place up to another, among the bytes from the first of them on
pub copied_between : (count width from to : ℕ) (bytes : List ℕ) → from ≤ count → to ≤ count
    → records (to - from) width (drop (from * width) bytes) ≡ take (to - from) (drop from (records count width bytes))
copied_between count width from to bytes first last =
    sym (take-records (to - from) (count - from) width (drop (from * width) bytes) (omega arith)) ∙ ap (take (to - from)) (sym (drop-records from count width bytes first))

-- they have room there
pub room_between : (count width from to : ℕ) (bytes : List ℕ) → from ≤ count → to ≤ count → count * width ≤ length bytes
    → (to - from) * width ≤ length (drop (from * width) bytes)
room_between count width from to bytes first last fit =
    let left = times_upto (to - from) (count - from) width (omega arith) in
    let whole : from + (count - from) ≡ count = omega arith in
    let parts : (from + (count - from)) * width ≡ count * width = ap (λ n. n * width) whole in
    omega (arith, left, parts, fit, length-drop (from * width) bytes)

-- each of the records in memory is of their width
pub entry_wide : (cells : Cells) (index : ℕ) (cell : List ℕ) → slice_get (listed cells) index ≡ Some cell → length cell ≡ record_width cells
entry_wide cells index cell there =
    let within : index < length (listed cells) = slice_get_within (listed cells) index cell there in
    let below : index < cells.count = omega (arith, length-records cells.count cells.width cells.bytes.items, within) in
    let whole : vec_len cells.bytes ≡ cells.count * cells.width = cells.whole in
    let upto : (index + 1) * cells.width ≤ cells.count * cells.width = times_upto (index + 1) cells.count cells.width (omega arith) in
    let size : vec_len cells.bytes ≡ length cells.bytes.items = cells.bytes.ok.0 in
    let is : take cells.width (drop (index * cells.width) cells.bytes.items) ≡ cell =
    same_Some (take cells.width (drop (index * cells.width) cells.bytes.items)) cell (sym (records-at cells.count cells.width cells.bytes.items index below) ∙ there) in
    sym (ap length is)
    ∙ length-take-le cells.width (drop (index * cells.width) cells.bytes.items) (omega (arith, upto, whole, size, length-drop (index * cells.width) cells.bytes.items))

-- what is there among the first is there
take_has : {X : Type 0} (n : ℕ) (xs : List X) (i : ℕ) (x : X) → slice_get (take n xs) i ≡ Some x → slice_get xs i ≡ Some x
take_has zero [] i x e = absurd (cc)
take_has zero (y ∷ ys) i x e = absurd (cc)
take_has (suc n) [] i x e = absurd (cc)
take_has (suc n) (y ∷ ys) zero x e = e
take_has (suc n) (y ∷ ys) (suc i) x e = take_has n ys i x e

module _ (says : List ℕ → List (List ℕ) → Type 0) (layout : Layout) (pages : PageMap) (low high : List ℕ) (entries : List (List ℕ)) (page : List ℕ) (count : ℕ)
    (held : HoldsEntries page count layout low high entries) where
  abbrev form : Form
  form = form_with says layout

  abbrev all : List (List ℕ)
  all = records count (entry_bytes layout) (content page)

  -- an entry that was taken is one of the page's
  held_at : (i : ℕ) (entry : List ℕ) → slice_get entries i ≡ Some entry → slice_get all (held.from + i) ≡ Some entry
  held_at i entry there =
      sym (drop_at_place all held.from i)
      ∙ take_has (held.to - held.from) (drop held.from all) i entry (ap (λ xs. slice_get xs i) (sym held.part) ∙ there)

  -- so many were taken
  held_length : length entries ≡ held.to - held.from
  held_length =
      let inside : held.to ≤ length all = omega (arith, held.range.last.within, length-keys (least_from layout.summary) count (entry_bytes layout) (content page), length-records count (entry_bytes layout) (content page)) in
      ap length held.part ∙ length-take-le (held.to - held.from) (drop held.from all) (omega (arith, length-drop held.from all))

  back : (i : ℕ) → i ≡ held.from + i - held.from
  back i = omega arith

  module _ (passes : List ℕ → Bool) where
    pub held_walks_next : (i : ℕ) (entry : List ℕ) (later : PageMap) (before mid after : List (List ℕ)) (left left_mid left_after : ℕ)
        → slice_get entries i ≡ Some entry → SamePages later pages
        → WalksSome form pages page count low high passes held.from i before mid left left_mid → WalksEntry form later entry low high passes mid after left_mid left_after
        → WalksSome form pages page count low high passes held.from (i + 1) before after left left_after
    held_walks_next i entry later before mid after left left_mid left_after there same some next =
        let on : held.from + i + 1 - held.from ≡ i + 1 = omega arith in
        subst (λ k. WalksSome form pages page count low high passes held.from k before after left left_after) on
        (walks_next form pages page count low high passes held.from (held.from + i) entry later before mid after left left_mid left_after (omega arith) (held_at i entry there) same
        (subst (λ k. WalksSome form pages page count low high passes held.from k before mid left left_mid) (back i) some) next)

    pub held_walks_all : (i : ℕ) (before after : List (List ℕ)) (left left_after : ℕ) → i ≡ length entries
        → WalksSome form pages page count low high passes held.from i before after left left_after → WalksEntries form pages page count low high passes before after left left_after
    held_walks_all i before after left left_after done some =
        let size = held_length in
        walks_all form pages page count low high passes held.from held.to (held.from + i) before after left left_after (content page) refl held.range
        (omega arith) (omega arith) (omega arith) (subst (λ k. WalksSome form pages page count low high passes held.from k before after left left_after) (back i) some)

  pub held_reads_next : (i : ℕ) (entry : List ℕ) (later : PageMap) (left left_mid left_after : ℕ) → slice_get entries i ≡ Some entry → SamePages later pages
      → ReadsSome form pages page count held.from i left left_mid → ReadsEntryOnce form later entry left_mid left_after → ReadsSome form pages page count held.from (i + 1) left left_after
  held_reads_next i entry later left left_mid left_after there same some next =
      let on : held.from + i + 1 - held.from ≡ i + 1 = omega arith in
      subst (λ k. ReadsSome form pages page count held.from k left left_after) on
      (reads_next form pages page count held.from (held.from + i) entry later left left_mid left_after (omega arith) (held_at i entry there) same
      (subst (λ k. ReadsSome form pages page count held.from k left left_mid) (back i) some) next)

  pub held_reads_all : (i : ℕ) (left left_after : ℕ) → ReadsSome form pages page count held.from i left left_after → ReadsEntriesOnce form pages page count left left_after
  held_reads_all i left left_after some = reads_all form pages page count held.from i left left_after some

  -- a part that isn't there shows that the parts aren't
  pub held_no_entry : (levels i : ℕ) (entry : List ℕ) (later : PageMap) (left left_mid : ℕ) → slice_get entries i ≡ Some entry → SamePages later pages
      → ReadsSome form pages page count held.from i left left_mid → HasNoPartOfEntry form later entry levels left_mid → HasNoPartsOfEntries form pages page count levels left
  held_no_entry levels i entry later left left_mid there same some none =
      no_entry-no_parts form pages page count levels held.from (held.from + i) entry later left left_mid (omega arith) (held_at i entry there) same
      (subst (λ k. ReadsSome form pages page count held.from k left left_mid) (back i) some) none

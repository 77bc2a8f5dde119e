-- The parts of a buffer of dead cells, and the front of a list in the order of death that no version from the oldest on sees.
use Rattle.std.proofs.Common.{◌≡◌, ◌≤◌, ◌+◌, ◌-◌, ◌*◌, ◌^◌, ℕ, zero, suc, true, false, cond, not, eqb, leb, ◌&&◌, Some, List, [], ◌∷◌, ◌++◌, length, take, drop, filter, slice_get, Result, Ok, Err, OnOk, OnErr, refl, sym, ap, ◌∙◌, subst, arith}
use Rattle.std.proofs.lemmas.Bool.Decides.{nat_tests}
use Rattle.std.proofs.lemmas.List.{append-nil, drop-drop, drop_all, drop_at, drop-append-le, length-append, length-drop, length-take-le, take_all, take_at, take-append-drop}
use Rattle.std.proofs.lemmas.List.Elements.{filter-append}
use Rattle.std.specs.List.{AllByRecursion}
use Rattle.rs_records.specs.Records.{records}
use Rattle.rs_records.proofs.RecordLists.{copied_records, length-records, records-append, records-front, records-take, records_more, records_none, times_upto}
use Rattle.rs_tree.proofs.Lists.{drop_at_place, has_inside, take_next}
use Rattle.rs_cell_versions.specs.Changes.{cleared}
use Rattle.rs_cell_versions.specs.DeadCells.{HoldsDead, part}
use Rattle.rs_cell_versions.specs.Version.{died_of, is_clearable}
use Rattle.rs_cell_versions.specs.Versioned.{AreInOrder}

less_times : (n m w : ℕ) → m ≤ n → (n - m) * w ≡ n * w - m * w
less_times n m w h = let e : n * w ≡ ((n - m) + m) * w = ap (λ i. i * w) (let f : n ≡ (n - m) + m = omega arith in f) in omega arith

pub length-part : (first end width : ℕ) (bytes : List ℕ) → length (part first end width bytes) ≡ end - first
unfolding part
length-part first end width bytes = omega (arith, length-drop first (records end width bytes), length-records end width bytes)

-- bytes after its last cell are nothing to a part
pub part-front : (first end width k : ℕ) (bytes more : List ℕ) → end * width ≤ k → k ≤ length bytes → part first end width (take k bytes ++ more) ≡ part first end width bytes
unfolding part
part-front first end width k bytes more inside long =
    let size = length-take-le k bytes long in
    ap (drop first) (records-front end width (take k bytes) more (omega arith) ∙ records-take end width k bytes inside)

pub part-take : (first end width k : ℕ) (bytes : List ℕ) → end * width ≤ k → part first end width (take k bytes) ≡ part first end width bytes
unfolding part
part-take first end width k bytes inside = ap (drop first) (records-take end width k bytes inside)

-- one more cell
pub part-more : (first end width : ℕ) (bytes : List ℕ) → first ≤ end → length (drop (end * width) bytes) ≡ width
    → part first (end + 1) width bytes ≡ part first end width bytes ++ drop (end * width) bytes ∷ []
unfolding part
part-more first end width bytes begins size =
    let last : List ℕ = drop (end * width) bytes in
    let one : records 1 width last ≡ last ∷ [] =
    records_more 0 width last ∙ ap (λ x. x ∷ records 0 width (drop width last)) (take_all width last (omega arith)) ∙ ap (λ rs. last ∷ rs) (records_none width (drop width last)) in
    let within : first ≤ length (records end width bytes) = omega (arith, length-records end width bytes) in
    ap (drop first) (records-append end 1 width bytes ∙ ap (λ rs. records end width bytes ++ rs) one) ∙ drop-append-le first (records end width bytes) (last ∷ []) within

-- fewer cells from the front
pub part-later : (first more end width : ℕ) (bytes : List ℕ) → part (first + more) end width bytes ≡ drop more (part first end width bytes)
unfolding part
part-later first more end width bytes = sym (drop-drop more first (records end width bytes))

pub part-none : (end width : ℕ) (bytes : List ℕ) → part end end width bytes ≡ []
unfolding part
part-none end width bytes = drop_all end (records end width bytes) (omega (arith, length-records end width bytes))

-- the part alone, from the first byte on
pub part-moved : (first end width : ℕ) (bytes : List ℕ) → first ≤ end → end * width ≤ length bytes
    → part 0 (end - first) width (take (end * width - first * width) (drop (first * width) bytes)) ≡ part first end width bytes
unfolding part
part-moved first end width bytes begins fits =
    ap (records (end - first) width) (sym (append-nil (take (end * width - first * width) (drop (first * width) bytes))))
    ∙ copied_records width end first (end * width - first * width) bytes [] begins fits refl

-- a cell of a part
pub part-at : (first end width index : ℕ) (bytes cell : List ℕ) → first ≤ index → slice_get (records end width bytes) index ≡ Some cell
    → slice_get (part first end width bytes) (index - first) ≡ Some cell
unfolding part
part-at first end width index bytes cell after there =
    let place : first + (index - first) ≡ index = omega arith in
    drop_at_place (records end width bytes) first (index - first) ∙ ap (slice_get (records end width bytes)) place ∙ there

-- lists in order
pub in_order-push : (cells : List (List ℕ)) (cell : List ℕ) → AreInOrder cells → AllByRecursion (λ other. died_of other ≤ died_of cell) cells → AreInOrder (cells ++ cell ∷ [])
in_order-push [] cell order all = (tt, tt)
in_order-push (c ∷ cs) cell order all = (pushed cs order.0, in_order-push cs cell order.1 all.1) where
  pushed : (xs : List (List ℕ)) → AllByRecursion (λ other. died_of c ≤ died_of other) xs → AllByRecursion (λ other. died_of c ≤ died_of other) (xs ++ cell ∷ [])
  pushed [] h = (all.0, tt)
  pushed (x ∷ xs) h = (h.0, pushed xs h.1)

pub in_order-drop : (n : ℕ) (cells : List (List ℕ)) → AreInOrder cells → AreInOrder (drop n cells)
in_order-drop zero cells order = order
in_order-drop (suc n) [] order = tt
in_order-drop (suc n) (c ∷ cs) order = in_order-drop n cs order.1

pub all_push : (P : List ℕ → Type 0) (cells : List (List ℕ)) (cell : List ℕ) → AllByRecursion P cells → P cell → AllByRecursion P (cells ++ cell ∷ [])
all_push P [] cell all last = (last, tt)
all_push P (c ∷ cs) cell all last = (all.0, all_push P cs cell all.1 last)

-- what a buffer holds after one cell more, fewer from the front, or cells written after the last
pub holds-more : (width first end kept_first kept_end : ℕ) (bytes : List ℕ) → HoldsDead width first end kept_first kept_end bytes → length (drop (end * width) bytes) ≡ width
    → AllByRecursion (λ other. died_of other ≤ died_of (drop (end * width) bytes)) (part first end width bytes) → HoldsDead width first (end + 1) kept_first kept_end bytes
holds-more width first end kept_first kept_end bytes holds size last =
    let long = length-drop (end * width) bytes in
    record {
      wide = holds.wide;
      fits = omega (arith, holds.wide, holds.fits);
      begins = omega (arith, holds.begins);
      kept_begins = holds.kept_begins;
      given_back = holds.given_back;
      within = omega (arith, holds.within);
      in_order = subst AreInOrder (sym (part-more first end width bytes holds.begins size)) (in_order-push (part first end width bytes) (drop (end * width) bytes) holds.in_order last);
      kept_in_order = holds.kept_in_order;
    }

pub holds-later : (width first more end kept_first kept_end : ℕ) (bytes : List ℕ) → HoldsDead width first end kept_first kept_end bytes → first + more ≤ end
    → HoldsDead width (first + more) end kept_first kept_end bytes
holds-later width first more end kept_first kept_end bytes holds inside = record {
  wide = holds.wide;
  fits = holds.fits;
  begins = inside;
  kept_begins = holds.kept_begins;
  given_back = holds.given_back;
  within = holds.within;
  in_order = subst AreInOrder (sym (part-later first more end width bytes)) (in_order-drop more (part first end width bytes) holds.in_order);
  kept_in_order = holds.kept_in_order;
}

pub holds-written : (width first end kept_first kept_end : ℕ) (bytes more : List ℕ) → HoldsDead width first end kept_first kept_end bytes
    → HoldsDead width first end kept_first kept_end (take (end * width) bytes ++ more)
holds-written width first end kept_first kept_end bytes more holds =
    let kept = times_upto kept_end end width holds.within in
    record {
      wide = holds.wide;
      fits = omega (arith, length-append (take (end * width) bytes) more, length-take-le (end * width) bytes holds.fits);
      begins = holds.begins;
      kept_begins = holds.kept_begins;
      given_back = holds.given_back;
      within = holds.within;
      in_order = subst AreInOrder (sym (part-front first end width (end * width) bytes more (omega arith) holds.fits)) holds.in_order;
      kept_in_order = subst AreInOrder (sym (part-front kept_first kept_end width (end * width) bytes more kept holds.fits)) holds.kept_in_order;
    }

-- what a buffer holds after one cell more, written after the last and listed at once
pub holds-pushed : (width first end kept_first kept_end : ℕ) (bytes cell : List ℕ) → HoldsDead width first end kept_first kept_end bytes → length cell ≡ width
    → AllByRecursion (λ other. died_of other ≤ died_of cell) (part first end width bytes) → HoldsDead width first (end + 1) kept_first kept_end (take (end * width) bytes ++ cell)
holds-pushed width first end kept_first kept_end bytes cell holds size last =
    let front : length (take (end * width) bytes) ≡ end * width = length-take-le (end * width) bytes holds.fits in
    let written : drop (end * width) (take (end * width) bytes ++ cell) ≡ cell = drop_at (take (end * width) bytes) cell (end * width) front in
    holds-more width first end kept_first kept_end (take (end * width) bytes ++ cell) (holds-written width first end kept_first kept_end bytes cell holds) (ap length written ∙ size)
    (subst (λ (c : List ℕ). AllByRecursion (λ other. died_of other ≤ died_of c) (part first end width (take (end * width) bytes ++ cell))) (sym written)
    (subst (AllByRecursion (λ other. died_of other ≤ died_of cell)) (sym (part-front first end width (end * width) bytes cell (omega arith) holds.fits)) last))

pub part-pushed : (width first end kept_first kept_end : ℕ) (bytes cell : List ℕ) → HoldsDead width first end kept_first kept_end bytes → length cell ≡ width
    → part first (end + 1) width (take (end * width) bytes ++ cell) ≡ part first end width bytes ++ cell ∷ []
part-pushed width first end kept_first kept_end bytes cell holds size =
    let front : length (take (end * width) bytes) ≡ end * width = length-take-le (end * width) bytes holds.fits in
    let written : drop (end * width) (take (end * width) bytes ++ cell) ≡ cell = drop_at (take (end * width) bytes) cell (end * width) front in
    part-more first end width (take (end * width) bytes ++ cell) holds.begins (ap length written ∙ size) ∙ ap (λ c. part first end width (take (end * width) bytes ++ cell) ++ c ∷ []) written
    ∙ ap (λ cells. cells ++ cell ∷ []) (part-front first end width (end * width) bytes cell (omega arith) holds.fits)

pub holds-none : (width : ℕ) (bytes : List ℕ) → 20 ≤ width → HoldsDead width 0 0 0 0 bytes
holds-none width bytes wide = record {
  wide = wide;
  fits = omega arith;
  begins = omega arith;
  kept_begins = omega arith;
  given_back = omega arith;
  within = omega arith;
  in_order = subst AreInOrder (sym (part-none 0 width bytes)) tt;
  kept_in_order = subst AreInOrder (sym (part-none 0 width bytes)) tt;
}

-- the working part is the committed one too, at the front
pub holds-moved : (width first end kept_first kept_end : ℕ) (bytes : List ℕ) → HoldsDead width first end kept_first kept_end bytes
    → HoldsDead width 0 (end - first) 0 (end - first) (take (end * width - first * width) (drop (first * width) bytes))
holds-moved width first end kept_first kept_end bytes holds =
    let order : AreInOrder (part 0 (end - first) width (take (end * width - first * width) (drop (first * width) bytes))) =
    subst AreInOrder (sym (part-moved first end width bytes holds.begins holds.fits)) holds.in_order in
    let below = times_upto first end width holds.begins in
    let less : (end - first) * width ≡ end * width - first * width = less_times end first width holds.begins in
    record {
      wide = holds.wide;
      fits = omega (arith, less, holds.fits, length-take-le (end * width - first * width) (drop (first * width) bytes) (omega (arith, length-drop (first * width) bytes, holds.fits)));
      begins = omega arith;
      kept_begins = omega arith;
      given_back = omega arith;
      within = omega arith;
      in_order = order;
      kept_in_order = order;
    }

-- bytes that were written after others, or none
pub written_more : {T E : Type 0} (r : Result T E) (was now added : List ℕ) → OnOk r (now ≡ was ++ added) → OnErr r (now ≡ was) → (more : List ℕ) × (now ≡ was ++ more)
written_more (Ok x) was now added ok err = (added, ok)
written_more (Err x) was now added ok err = ([], err ∙ sym (append-nil was))

-- a cell that died no earlier than one that isn't clearable isn't either
still_seen : (a b oldest last : ℕ) → oldest ≤ last → a ≤ b → (not (eqb a last) && leb a oldest) ≡ false → (not (eqb b last) && leb b oldest) ≡ false
still_seen a b oldest last most later seen = grind (arith, nat_tests)

pub not_clearable : (oldest : ℕ) (one other : List ℕ) → oldest ≤ 2 ^ 64 - 1 → died_of one ≤ died_of other → is_clearable oldest one ≡ false → is_clearable oldest other ≡ false
not_clearable oldest one other most later seen = still_seen (died_of one) (died_of other) oldest (2 ^ 64 - 1) most later seen

none_after : (oldest : ℕ) (one : List ℕ) (cells : List (List ℕ)) → oldest ≤ 2 ^ 64 - 1 → is_clearable oldest one ≡ false → AllByRecursion (λ other. died_of one ≤ died_of other) cells
    → filter (is_clearable oldest) cells ≡ []
none_after oldest one [] most seen all = refl
none_after oldest one (c ∷ cs) most seen all =
    ap (λ b. cond b (c ∷ filter (is_clearable oldest) cs) (filter (is_clearable oldest) cs)) (not_clearable oldest one c most all.0 seen) ∙ none_after oldest one cs most seen all.1

-- from the first that isn't clearable on none is
none_from : (oldest i : ℕ) (cells : List (List ℕ)) (cell : List ℕ) → oldest ≤ 2 ^ 64 - 1 → AreInOrder cells → slice_get cells i ≡ Some cell → is_clearable oldest cell ≡ false
    → filter (is_clearable oldest) (drop i cells) ≡ []
none_from oldest i [] cell most order there seen = absurd (cc)
none_from oldest zero (c ∷ cs) cell most order there seen =
    let same : c ≡ cell = cc in
    let first : is_clearable oldest c ≡ false = ap (is_clearable oldest) same ∙ seen in
    ap (λ b. cond b (c ∷ filter (is_clearable oldest) cs) (filter (is_clearable oldest) cs)) first ∙ none_after oldest c cs most first order.0
none_from oldest (suc i) (c ∷ cs) cell most order there seen = none_from oldest i cs cell most order.1 there seen

-- so many at the front are clearable
pub record AreClearable (oldest n : ℕ) (cells : List (List ℕ)) : Type 0 where
  pub kept : filter (is_clearable oldest) (take n cells) ≡ take n cells

pub clearable-none : (oldest : ℕ) (cells : List (List ℕ)) → AreClearable oldest 0 cells
clearable-none oldest cells = record { kept = refl }

pub clearable-next : (oldest n : ℕ) (cells : List (List ℕ)) (cell : List ℕ) → AreClearable oldest n cells → slice_get cells n ≡ Some cell → is_clearable oldest cell ≡ true
    → AreClearable oldest (suc n) cells
clearable-next oldest n cells cell so there is = record {
  kept = ap (filter (is_clearable oldest)) (take_next cells n cell there) ∙ filter-append (is_clearable oldest) (take n cells) (cell ∷ [])
      ∙ ap (λ xs. xs ++ filter (is_clearable oldest) (cell ∷ [])) so.kept ∙ ap (λ b. take n cells ++ cond b (cell ∷ []) []) is ∙ sym (take_next cells n cell there);
}

cleared-front : (oldest most n : ℕ) (cells : List (List ℕ)) → AreClearable oldest n cells
    → cleared oldest most cells ≡ take most (take n cells ++ filter (is_clearable oldest) (drop n cells))
cleared-front oldest most n cells so =
    ap (take most) (ap (filter (is_clearable oldest)) (sym (take-append-drop n cells)) ∙ filter-append (is_clearable oldest) (take n cells) (drop n cells)
    ∙ ap (λ xs. xs ++ filter (is_clearable oldest) (drop n cells)) so.kept)

-- as many as are wanted
pub cleared-most : (oldest most n : ℕ) (cells : List (List ℕ)) → AreClearable oldest n cells → n ≡ most → n ≤ length cells → cleared oldest most cells ≡ take n cells
cleared-most oldest most n cells so all inside =
    cleared-front oldest most n cells so ∙ take_at (take n cells) (filter (is_clearable oldest) (drop n cells)) most (length-take-le n cells inside ∙ all)

few : (most n : ℕ) (cells rest : List (List ℕ)) → n ≤ most → n ≤ length cells → rest ≡ [] → take most (take n cells ++ rest) ≡ take n cells
few most n cells rest less inside none =
    let size = length-take-le n cells inside in
    ap (λ xs. take most (take n cells ++ xs)) none ∙ ap (take most) (append-nil (take n cells)) ∙ take_all most (take n cells) (omega arith)

-- up to the first that isn't clearable
pub cleared-seen : (oldest most n : ℕ) (cells : List (List ℕ)) (cell : List ℕ) → oldest ≤ 2 ^ 64 - 1 → AreInOrder cells → AreClearable oldest n cells → n ≤ most
    → slice_get cells n ≡ Some cell → is_clearable oldest cell ≡ false → cleared oldest most cells ≡ take n cells
cleared-seen oldest most n cells cell top order so less there seen =
    cleared-front oldest most n cells so
    ∙ few most n cells (filter (is_clearable oldest) (drop n cells)) less (omega (arith, has_inside cells n cell there)) (none_from oldest n cells cell top order there seen)

-- all of them
pub cleared-all : (oldest most n : ℕ) (cells : List (List ℕ)) → AreClearable oldest n cells → n ≤ most → length cells ≡ n → cleared oldest most cells ≡ take n cells
cleared-all oldest most n cells so less size =
    cleared-front oldest most n cells so
    ∙ few most n cells (filter (is_clearable oldest) (drop n cells)) less (omega arith) (ap (filter (is_clearable oldest)) (drop_all n cells (omega arith)))

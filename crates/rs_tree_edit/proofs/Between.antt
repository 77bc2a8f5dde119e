-- The part that a cell belongs in: all before it is below the cell, and all after it above.
use Rattle.std.proofs.Common.{◌≡◌, ◌<◌, ◌-◌, ℕ, zero, suc, true, false, Some, List, [], ◌∷◌, ◌++◌, IsTrue, length, take, drop, get_or, slice_get, refl, sym, ap, ◌∙◌, subst, inl, inr, arith}
use Rattle.std.proofs.lemmas.Bool.{false≢true}
use Rattle.std.proofs.lemmas.List.{append-nil, append_assoc}
use Rattle.std.proofs.lemmas.List.Elements.{filter-append, Contains-append_left, Contains-append_right, Contains-append_cases}
use Rattle.std.specs.List.{AllByRecursion, Contains, flat_map}
use Rattle.rs_records.specs.Order.{is_below, Ascends}
use Rattle.rs_records.specs.Records.{records, keys, IsPlace}
use Rattle.rs_records.proofs.Orders.{is_below-self, is_below-trans, is_below-cases}
use Rattle.rs_tree.specs.Cells.{cells_below, cells_above, with_cell}
use Rattle.rs_tree.proofs.Below.{AllBelow, below_one_way, below_upto, ascends_across, ascends_last}
use Rattle.rs_tree.proofs.Lists.{has_inside, inside_has, zip_at, zip_lengths}
use Rattle.rs_tree.proofs.Parts.{Leasts}
use Rattle.rs_tree_edit.specs.Choosing.{IsEntryFor}
use Rattle.rs_tree_edit.proofs.Pieces.{flat_at}

pub index_of : (ls : List (List ℕ)) (i : ℕ) (l : List ℕ) → slice_get ls i ≡ Some l → get_or ls i [] ≡ l
index_of [] i l e = absurd (cc)
index_of (x ∷ xs) zero l e = let same : x ≡ l = cc in same
index_of (x ∷ xs) (suc i) l e = index_of xs i l e

-- the keys of records by numbers that are the same
pub same_keys : (count from least width entry : ℕ) (bytes : List ℕ) → from ≡ least → width ≡ entry → keys from (records count width bytes) ≡ keys least (records count entry bytes)
same_keys count from least width entry bytes one other = ap (λ k. keys k (records count width bytes)) one ∙ ap (λ w. keys least (records count w bytes)) other

-- the next of cells that ascend is above
next_above : (ls : List (List ℕ)) (i : ℕ) → Ascends ls → suc i < length ls → IsTrue (is_below (get_or ls i []) (get_or ls (suc i) []))
next_above [] i up h = absurd (omega arith)
next_above (x ∷ []) zero up h = absurd (omega arith)
next_above (x ∷ y ∷ ys) zero up h = up.0.0
next_above (x ∷ xs) (suc i) up h = next_above xs i up.1 (omega arith)

-- what is neither below the cell nor the cell is above it
pub above_of : (cell l : List ℕ) → is_below l cell ≡ false → (l ≡ cell → ⊥) → is_below cell l ≡ true
above_of cell l not_below other = elim (is_below-cases l cell) [
  | inl less ↦ absurd (false≢true (sym not_below ∙ less))
  | inr (inl same) ↦ absurd (other same)
  | inr (inr more) ↦ more
]

-- the entry at the place, where it has the cell
pub entry_here : (ls : List (List ℕ)) (cell : List ℕ) (place : ℕ) → Ascends ls → slice_get ls place ≡ Some cell → IsEntryFor ls cell place
entry_here ls cell place up has =
    let at = index_of ls place cell has in
    record {
      within = has_inside ls place cell has;
      not_above = λ some. ap (is_below cell) at ∙ is_below-self cell;
      above = λ h. subst (λ x. is_below x (get_or ls (suc place) []) ≡ true) at (next_above ls place up h);
    }

-- else the one before
pub entry_before : (ls : List (List ℕ)) (cell : List ℕ) (place : ℕ) → Ascends ls → 0 < length ls → IsPlace ls cell place → (slice_get ls place ≡ Some cell → ⊥) → IsEntryFor ls cell (place - 1)
entry_before ls cell zero up some place none = record {
  within = some;
  not_above = λ h. absurd (omega arith);
  above = λ h. is_below-trans cell (get_or ls 0 []) (get_or ls 1 []) (here ls place.after some none) (next_above ls 0 up h);
} where
  here : (xs : List (List ℕ)) → (0 < length xs → is_below (get_or xs 0 []) cell ≡ false) → 0 < length xs → (slice_get xs 0 ≡ Some cell → ⊥) → is_below cell (get_or xs 0 []) ≡ true
  here [] after h isnt = absurd (omega arith)
  here (x ∷ xs) after h isnt = above_of cell x (after h) (λ same. isnt (ap (λ (y : List ℕ). Some y) same))
entry_before ls cell (suc place) up some is none =
    let same : place ≡ suc place - 1 = omega arith in
    let chosen : IsEntryFor ls cell place = record {
      within = omega (arith, is.within);
      not_above = λ h. below_one_way (get_or ls place []) cell (is.before place refl);
      above = λ h. here ls (suc place) (is.after h) h none;
    } in
    subst (IsEntryFor ls cell) same chosen where
      here : (xs : List (List ℕ)) (i : ℕ) → is_below (get_or xs i []) cell ≡ false → i < length xs → (slice_get xs i ≡ Some cell → ⊥) → is_below cell (get_or xs i []) ≡ true
      here xs i after h isnt =
          let there = inside_has xs i h in
          let same = index_of xs i there.0 there.1 in
          above_of cell (get_or xs i []) after (λ e. isnt (there.1 ∙ ap (λ (y : List ℕ). Some y) (sym same ∙ e)))

-- each of these is above the cell
abbrev pub AllAbove : List ℕ → List (List ℕ) → Type 0
AllAbove cell = AllByRecursion (λ other. is_below cell other ≡ true)

all_below_upto : (l cell : List ℕ) (cs : List (List ℕ)) → is_below cell l ≡ false → AllBelow l cs → AllBelow cell cs
all_below_upto l cell [] h all = tt
all_below_upto l cell (c ∷ cs) h all = (below_upto c l cell all.0 h, all_below_upto l cell cs h all.1)

pub all_above_trans : (cell l : List ℕ) (cs : List (List ℕ)) → is_below cell l ≡ true → AllByRecursion (λ other. IsTrue (is_below l other)) cs → AllAbove cell cs
all_above_trans cell l [] h all = tt
all_above_trans cell l (c ∷ cs) h all = (is_below-trans cell l c h all.0, all_above_trans cell l cs h all.1)

-- the cells of the parts before it and after it
pub record LiesBetween (cell : List ℕ) (before after : List (List ℕ)) : Type 0 where
  pub below : AllBelow cell before
  pub above : AllAbove cell after

module _ {X : Type 0} (cells : X → List (List ℕ)) where
  pub lies_between : (ls : List (List ℕ)) (parts : List X) (cell : List ℕ) (at : ℕ) (part : X) → Leasts cells ls parts → Ascends (flat_map cells parts) → IsEntryFor ls cell at → slice_get parts at ≡ Some part
      → LiesBetween cell (flat_map cells (take at parts)) (flat_map cells (drop (suc at) parts))
  lies_between ls parts cell at part leasts up chosen there = record { below = before at chosen.not_above there; above = after (drop (suc at) parts) (drop (suc at) ls) rest_leasts rest_up first_above } where
    size : length ls ≡ length parts
    size = zip_lengths (λ least p. slice_get (cells p) 0 ≡ Some least) ls parts leasts

    first_of : (cs ds : List (List ℕ)) (l : List ℕ) (xs : List (List ℕ)) → slice_get cs 0 ≡ Some l → Ascends (xs ++ (cs ++ ds)) → AllBelow l xs
    first_of [] ds l xs e h = absurd (cc)
    first_of (c ∷ cs) ds l xs e h = let same : c ≡ l = cc in subst (λ y. AllBelow y xs) same (ascends_across xs c (cs ++ ds) h)

    before : (i : ℕ) → (0 < i → is_below cell (get_or ls i []) ≡ false) → slice_get parts i ≡ Some part → AllBelow cell (flat_map cells (take i parts))
    before zero h e = tt
    before (suc i) h e =
        let least = inside_has ls (suc i) (omega (arith, size, has_inside parts (suc i) part e)) in
        let says : slice_get (cells part) 0 ≡ Some least.0 = zip_at (λ l p. slice_get (cells p) 0 ≡ Some l) ls parts (suc i) least.0 part leasts least.1 e in
        let not_above : is_below cell least.0 ≡ false = ap (is_below cell) (sym (index_of ls (suc i) least.0 least.1)) ∙ h (omega arith) in
        all_below_upto least.0 cell (flat_map cells (take (suc i) parts)) not_above
        (first_of (cells part) (flat_map cells (drop (suc (suc i)) parts)) least.0 (flat_map cells (take (suc i) parts)) says
        (subst Ascends (flat_at cells parts (suc i) part e) up))

    rest_leasts : Leasts cells (drop (suc at) ls) (drop (suc at) parts)
    rest_leasts = drop_zip ls parts (suc at) leasts where
      drop_zip : (as' : List (List ℕ)) (bs : List X) (i : ℕ) → Leasts cells as' bs → Leasts cells (drop i as') (drop i bs)
      drop_zip as' bs zero all = all
      drop_zip [] [] (suc i) all = tt
      drop_zip [] (b ∷ bs) (suc i) all = absurd all
      drop_zip (a ∷ as') [] (suc i) all = absurd all
      drop_zip (a ∷ as') (b ∷ bs) (suc i) all = drop_zip as' bs i all.1

    rest_up : Ascends (flat_map cells (drop (suc at) parts))
    rest_up = ascends_last (cells part) (flat_map cells (drop (suc at) parts)) (ascends_last (flat_map cells (take at parts)) (cells part ++ flat_map cells (drop (suc at) parts)) (subst Ascends (flat_at cells parts at part there) up))

    first_above : (l : List ℕ) → slice_get (drop (suc at) ls) 0 ≡ Some l → is_below cell l ≡ true
    first_above l e = at_place ls (suc at) e chosen.above where
      at_place : (xs : List (List ℕ)) (i : ℕ) → slice_get (drop i xs) 0 ≡ Some l → (i < length xs → is_below cell (get_or xs i []) ≡ true) → is_below cell l ≡ true
      at_place [] zero e h = absurd (cc)
      at_place [] (suc i) e h = absurd (cc)
      at_place (x ∷ xs) zero e h = let same : x ≡ l = cc in subst (λ y. is_below cell y ≡ true) same (h (omega arith))
      at_place (x ∷ xs) (suc i) e h = at_place xs i e (λ inside. h (omega arith))

    after : (ps : List X) (ms : List (List ℕ)) → Leasts cells ms ps → Ascends (flat_map cells ps) → ((l : List ℕ) → slice_get ms 0 ≡ Some l → is_below cell l ≡ true) → AllAbove cell (flat_map cells ps)
    after [] ms all h first = tt
    after (p ∷ ps) [] all h first = absurd all
    after (p ∷ ps) (m ∷ ms) all h first = by_cells (cells p) (all.0) h where
      by_cells : (cs : List (List ℕ)) → slice_get cs 0 ≡ Some m → Ascends (cs ++ flat_map cells ps) → AllAbove cell (cs ++ flat_map cells ps)
      by_cells [] e g = absurd (cc)
      by_cells (c ∷ cs) e g =
          let same : c ≡ m = cc in
          let here : is_below cell c ≡ true = ap (is_below cell) same ∙ first m refl in
          (here, all_above_trans cell c (cs ++ flat_map cells ps) here g.0)

-- filters of cells that lie on one side
pub below_all : (cell : List ℕ) (cs : List (List ℕ)) → AllBelow cell cs → cells_below cell cs ≡ cs
below_all cell [] all = refl
below_all cell (c ∷ cs) all = rw all.0 (ap (λ xs. c ∷ xs) (below_all cell cs all.1))

pub below_none : (cell : List ℕ) (cs : List (List ℕ)) → AllAbove cell cs → cells_below cell cs ≡ []
below_none cell [] all = refl
below_none cell (c ∷ cs) all = rw (below_one_way cell c all.0) (below_none cell cs all.1)

pub above_all : (cell : List ℕ) (cs : List (List ℕ)) → AllAbove cell cs → cells_above cell cs ≡ cs
above_all cell [] all = refl
above_all cell (c ∷ cs) all = rw all.0 (ap (λ xs. c ∷ xs) (above_all cell cs all.1))

pub above_none : (cell : List ℕ) (cs : List (List ℕ)) → AllBelow cell cs → cells_above cell cs ≡ []
above_none cell [] all = refl
above_none cell (c ∷ cs) all = rw (below_one_way c cell all.0) (above_none cell cs all.1)

pub below_between : (cell : List ℕ) (before cs after : List (List ℕ)) → LiesBetween cell before after → cells_below cell (before ++ (cs ++ after)) ≡ before ++ cells_below cell cs
below_between cell before cs after lies =
    filter-append (λ other. is_below other cell) before (cs ++ after) ∙ ap (λ xs. xs ++ cells_below cell (cs ++ after)) (below_all cell before lies.below)
    ∙ ap (λ xs. before ++ xs) (filter-append (λ other. is_below other cell) cs after ∙ ap (λ xs. cells_below cell cs ++ xs) (below_none cell after lies.above) ∙ append-nil (cells_below cell cs))

pub above_between : (cell : List ℕ) (before cs after : List (List ℕ)) → LiesBetween cell before after → cells_above cell (before ++ (cs ++ after)) ≡ cells_above cell cs ++ after
above_between cell before cs after lies =
    filter-append (λ other. is_below cell other) before (cs ++ after) ∙ ap (λ xs. xs ++ cells_above cell (cs ++ after)) (above_none cell before lies.below)
    ∙ filter-append (λ other. is_below cell other) cs after ∙ ap (λ xs. cells_above cell cs ++ xs) (above_all cell after lies.above)

-- the cell comes into the part that it belongs in
pub with_between : (cell : List ℕ) (before cs after : List (List ℕ)) → LiesBetween cell before after → with_cell cell (before ++ (cs ++ after)) ≡ before ++ (with_cell cell cs ++ after)
with_between cell before cs after lies =
    ap (λ xs. xs ++ cell ∷ cells_above cell (before ++ (cs ++ after))) (below_between cell before cs after lies)
    ∙ ap (λ xs. (before ++ cells_below cell cs) ++ cell ∷ xs) (above_between cell before cs after lies)
    ∙ append_assoc before (cells_below cell cs) (cell ∷ (cells_above cell cs ++ after))
    ∙ ap (λ xs. before ++ xs) (sym (append_assoc (cells_below cell cs) (cell ∷ cells_above cell cs) after))

not_among_below : (cell : List ℕ) (cs : List (List ℕ)) → AllBelow cell cs → Contains cs cell → ⊥
not_among_below cell [] all has = omega (arith, has.1)
not_among_below cell (c ∷ cs) all (zero, inside, is) = false≢true (sym (is_below-self cell) ∙ subst (λ x. is_below x cell ≡ true) is all.0)
not_among_below cell (c ∷ cs) all (suc k, inside, is) = not_among_below cell cs all.1 (k, omega arith, is)

not_among_above : (cell : List ℕ) (cs : List (List ℕ)) → AllAbove cell cs → Contains cs cell → ⊥
not_among_above cell [] all has = omega (arith, has.1)
not_among_above cell (c ∷ cs) all (zero, inside, is) = false≢true (sym (is_below-self cell) ∙ subst (λ x. is_below cell x ≡ true) is all.0)
not_among_above cell (c ∷ cs) all (suc k, inside, is) = not_among_above cell cs all.1 (k, omega arith, is)

-- and is among all exactly where it is among those of this part
pub among_between : (cell : List ℕ) (before cs after : List (List ℕ)) → LiesBetween cell before after → Contains (before ++ (cs ++ after)) cell → Contains cs cell
among_between cell before cs after lies has = elim (Contains-append_cases before (cs ++ after) cell has) [
  | inl first ↦ absurd (not_among_below cell before lies.below first)
  | inr rest ↦ elim (Contains-append_cases cs after cell rest) [
    | inl here ↦ here
    | inr last ↦ absurd (not_among_above cell after lies.above last)
  ]
]

pub among_all : (cell : List ℕ) (before cs after : List (List ℕ)) → Contains cs cell → Contains (before ++ (cs ++ after)) cell
among_all cell before cs after has = Contains-append_right before (cs ++ after) cell (Contains-append_left cs after cell has)

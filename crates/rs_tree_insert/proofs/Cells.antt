-- The cells of a leaf with one more among them, or the same ones.
use Rattle.std.proofs.Common.{◌≡◌, ◌+◌, ℕ, zero, suc, true, Some, List, [], ◌∷◌, ◌++◌, length, take, drop, slice_get, refl, sym, ap, ◌∙◌, subst, arith}
use Rattle.std.proofs.lemmas.List.{take-append-drop, take_all}
use Rattle.std.specs.List.{Contains}
use Rattle.rs_records.specs.Order.{is_below, Ascends}
use Rattle.rs_records.specs.Records.{records, keys, IsPlace}
use Rattle.rs_records.proofs.RecordLists.{records_more, records_none}
use Rattle.rs_records.proofs.Orders.{is_below-self}
use Rattle.rs_tree.specs.Cells.{with_cell}
use Rattle.rs_tree.proofs.Below.{NoneBelow, ascends_across, ascends_last}
use Rattle.rs_tree.proofs.Parts.{place_splits}
use Rattle.rs_tree_edit.proofs.Pieces.{list_at}
use Rattle.rs_tree_edit.proofs.Between.{AllAbove, LiesBetween, above_of, all_above_trans, with_between, among_between}

pub whole_keys : (rs : List (List ℕ)) → keys 0 rs ≡ rs
whole_keys [] = refl
whole_keys (r ∷ rs) = ap (λ xs. r ∷ xs) (whole_keys rs)

first_dropped : (cells : List (List ℕ)) (at : ℕ) (x : List ℕ) → slice_get (drop at cells) 0 ≡ Some x → slice_get cells at ≡ Some x
first_dropped [] zero x e = e
first_dropped [] (suc at) x e = absurd (cc)
first_dropped (c ∷ cs) zero x e = e
first_dropped (c ∷ cs) (suc at) x e = first_dropped cs at x e

above_rest : (cell : List ℕ) (cells : List (List ℕ)) → Ascends cells → NoneBelow cell cells → (slice_get cells 0 ≡ Some cell → ⊥) → AllAbove cell cells
above_rest cell [] up none isnt = tt
above_rest cell (c ∷ cs) up none isnt =
    let here : is_below cell c ≡ true = above_of cell c none.0 (λ same. isnt (ap (λ (x : List ℕ). Some x) same)) in
    (here, all_above_trans cell c cs here up.0)

-- where the cell belongs but is not
pub splits_between : (cells : List (List ℕ)) (cell : List ℕ) (at : ℕ) → Ascends cells → IsPlace cells cell at → (slice_get cells at ≡ Some cell → ⊥) → LiesBetween cell (take at cells) (drop at cells)
splits_between cells cell at up place none =
    let splits = place_splits cells cell at up place in
    let rest : Ascends (drop at cells) = ascends_last (take at cells) (drop at cells) (subst Ascends (sym (take-append-drop at cells)) up) in
    record { below = splits.0; above = above_rest cell (drop at cells) rest splits.1 (λ has. none (first_dropped cells at cell has)) }

-- it comes in between
pub with_new : (cells : List (List ℕ)) (cell : List ℕ) (at : ℕ) → LiesBetween cell (take at cells) (drop at cells) → take at cells ++ ((cell ∷ []) ++ drop (at + 0) cells) ≡ with_cell cell cells
with_new cells cell at lies =
    let same : at + 0 ≡ at = omega arith in
    ap (λ n. take at cells ++ ((cell ∷ []) ++ drop n cells)) same ∙ sym (with_between cell (take at cells) [] (drop at cells) lies) ∙ ap (with_cell cell) (take-append-drop at cells)

-- and was not there
pub new_absent : (cells : List (List ℕ)) (cell : List ℕ) (at : ℕ) → LiesBetween cell (take at cells) (drop at cells) → Contains cells cell → ⊥
new_absent cells cell at lies has =
    let none = among_between cell (take at cells) [] (drop at cells) lies (subst (λ cs. Contains cs cell) (sym (take-append-drop at cells)) has) in
    omega (arith, none.1)

contains_at : (cells : List (List ℕ)) (cell : List ℕ) → Contains cells cell → (k : ℕ) × (slice_get cells k ≡ Some cell)
contains_at [] cell (k, inside, is) = absurd (omega arith)
contains_at (c ∷ cs) cell (zero, inside, is) = (0, ap (λ (x : List ℕ). Some x) is)
contains_at (c ∷ cs) cell (suc k, inside, is) = let rest = contains_at cs cell (k, omega arith, is) in (suc rest.0, rest.1)

pub at_contains : (cells : List (List ℕ)) (cell : List ℕ) (k : ℕ) → slice_get cells k ≡ Some cell → Contains cells cell
at_contains [] cell k e = absurd (cc)
at_contains (c ∷ cs) cell zero e = (0, omega arith, let same : c ≡ cell = cc in same)
at_contains (c ∷ cs) cell (suc k) e = let rest = at_contains cs cell k e in (suc rest.0, omega (arith, rest.1), rest.2)

with_itself : (cell : List ℕ) → with_cell cell (cell ∷ []) ≡ cell ∷ []
with_itself cell = rw (is_below-self cell) refl

-- with a cell that is there, the cells are the same
pub with_present : (cells : List (List ℕ)) (cell : List ℕ) → Ascends cells → Contains cells cell → with_cell cell cells ≡ cells
with_present cells cell up has =
    let found = contains_at cells cell has in
    let whole = list_at cells found.0 cell found.1 in
    let sorted : Ascends (take found.0 cells ++ cell ∷ drop (suc found.0) cells) = subst Ascends whole up in
    let lies : LiesBetween cell (take found.0 cells) (drop (suc found.0) cells) = record {
      below = ascends_across (take found.0 cells) cell (drop (suc found.0) cells) sorted;
      above = (ascends_last (take found.0 cells) (cell ∷ drop (suc found.0) cells) sorted).0;
    } in
    ap (with_cell cell) whole ∙ with_between cell (take found.0 cells) (cell ∷ []) (drop (suc found.0) cells) lies
    ∙ ap (λ cs. take found.0 cells ++ (cs ++ drop (suc found.0) cells)) (with_itself cell) ∙ sym whole

-- one cell as a record
pub one_record : (width : ℕ) (cell : List ℕ) → length cell ≡ width → records 1 width cell ≡ cell ∷ []
one_record width cell size =
    records_more 0 width cell ∙ ap (λ x. x ∷ records 0 width (drop width cell)) (take_all width cell (omega arith)) ∙ ap (λ rs. cell ∷ rs) (records_none width (drop width cell))

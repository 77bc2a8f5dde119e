-- Which cells are left once some are gone: those that are none of these, and they ascend still.
use Rattle.std.proofs.Common.{◌≡◌, ◌↔◌, List, ℕ, [], ◌∷◌, suc, sym, ◌∙◌, subst, inl, inr, arith}
use Rattle.std.proofs.lemmas.Bool.{false≢true}
use Rattle.std.proofs.lemmas.List.Elements.{Contains-append_cases, Contains-append_left, Contains-append_right}
use Rattle.std.specs.List.{Contains}
use Rattle.rs_records.specs.Order.{Ascends, is_below}
use Rattle.rs_records.proofs.Orders.{is_below-self}
use Rattle.rs_tree.specs.Cells.{cells_above, cells_below, without_cell}
use Rattle.rs_cell_versions.specs.Changes.{without_cells}
use Rattle.rs_cell_versions.proofs.Among.{among, filtered, first_or_rest, with_present, without_absent}
use Rattle.rs_cell_versions.proofs.Seen.{without-ascends}

module _ (gone : List ℕ) (cells : List (List ℕ)) (up : Ascends cells) where
  -- what is left is none that is gone
  not_gone : Contains (without_cell gone cells) gone → ⊥
  not_gone has = elim (Contains-append_cases (cells_below gone cells) (cells_above gone cells) gone has) [
    | inl low ↦ false≢true (sym (is_below-self gone) ∙ (filtered (λ other. is_below other gone) cells gone low).0)
    | inr high ↦ false≢true (sym (is_below-self gone) ∙ (filtered (λ other. is_below gone other) cells gone high).0)
  ]

  -- and was there
  was_there : (cell : List ℕ) → Contains (without_cell gone cells) cell → Contains cells cell
  was_there cell has = elim (Contains-append_cases (cells_below gone cells) (cells_above gone cells) cell has) [
    | inl low ↦ (filtered (λ other. is_below other gone) cells cell low).1
    | inr high ↦ (filtered (λ other. is_below gone other) cells cell high).1
  ]

  -- each other that was there is left
  is_left : (cell : List ℕ) → Contains cells cell → (gone ≡ cell → ⊥) → Contains (without_cell gone cells) cell
  is_left cell has other = elim (among gone cells) [
    | inl there ↦ elim (Contains-append_cases (cells_below gone cells) (gone ∷ cells_above gone cells) cell (subst (λ (cs : List (List ℕ)). Contains cs cell) (sym (with_present gone cells up there)) has)) [
      | inl low ↦ Contains-append_left (cells_below gone cells) (cells_above gone cells) cell low
      | inr rest ↦ elim (first_or_rest cell gone (cells_above gone cells) rest) [
        | inl same ↦ absurd (other same)
        | inr high ↦ Contains-append_right (cells_below gone cells) (cells_above gone cells) cell high
      ]
    ]
    | inr none ↦ subst (λ (cs : List (List ℕ)). Contains cs cell) (sym (without_absent gone cells up none)) has
  ]

pub left_ascend : (gone cells : List (List ℕ)) → Ascends cells → Ascends (without_cells gone cells)
left_ascend [] cells up = up
left_ascend (g ∷ gs) cells up = left_ascend gs (without_cell g cells) (without-ascends g cells up)

pub left_are_others : (gone cells : List (List ℕ)) (cell : List ℕ) → Ascends cells → Contains (without_cells gone cells) cell ↔ (Contains cells cell × (Contains gone cell → ⊥))
left_are_others [] cells cell up = (λ has. (has, λ none. omega (arith, none.1)), λ both. both.0)
left_are_others (g ∷ gs) cells cell up =
    let rest = left_are_others gs (without_cell g cells) cell (without-ascends g cells up) in (
      λ has.
          let still = rest.0 has in (
            was_there g cells up cell still.0,
            λ among_gone. elim (first_or_rest cell g gs among_gone) [
              | inl same ↦ not_gone g cells up (subst (Contains (without_cell g cells)) (sym same) still.0)
              | inr later ↦ still.1 later
            ],
          ),
      λ both. rest.1 (is_left g cells up cell both.0 (λ same. both.1 (0, omega arith, same)), λ later. both.1 (suc later.0, omega (arith, later.1), later.2)),
    )

-- From one page on to the next: what is told of the part below is told of the part above, and where the one isn't there the other isn't.
use Rattle.std.proofs.Common.{◌≡◌, ◌<◌, ◌≤◌, ◌+◌, ◌-◌, ℕ, zero, suc, Some, List, [], slice_get, inl, inr, subst, arith}
use Rattle.std.proofs.lemmas.Bool.{cases_lt}
use Rattle.std.proofs.lemmas.Option.{slice_get-get_or}
use Rattle.std.specs.Prelude.{length, get_or}
use Rattle.std.specs.List.{Contains}
use Rattle.rs_pages.specs.PageMap.{PageMap, SamePages}
use Rattle.rs_records.specs.Order.{Ascends}
use Rattle.rs_tree.specs.Form.{Form}
use Rattle.rs_tree.specs.Layouts.{form_with}
use Rattle.rs_tree.specs.Reading.{HasNoNode}
use Rattle.rs_tree.specs.Shape.{Shape, cells_of, size_of}
use Rattle.rs_tree.specs.Walking.{IsPart}
use Rattle.rs_tree.specs.declared.layout.Layout.{Layout}
use Rattle.rs_tree.proofs.Entering.{no_node-no_part}
use Rattle.rs_tree.proofs.Shapes.{lies_same}
use Rattle.rs_btree.specs.Looking.{GoesOn, HasNoTop, IsFirst, OfEach, TellsFirst}

-- of each up to a place and of each from there on is of each
pub of_both : (P : List ℕ → Type 0) (cells : List (List ℕ)) (from at to : ℕ) → OfEach P cells from at → OfEach P cells at to → OfEach P cells from to
of_both P cells from at to one other place cell low high there = elim (cases_lt place at) [
  | inl before ↦ one place cell low before there
  | inr after ↦ other place cell after high there
]

-- of each up to a place, and of the one that is there
pub of_one_more : (P : List ℕ → Type 0) (cells : List (List ℕ)) (from at : ℕ) (cell : List ℕ) → OfEach P cells from at → slice_get cells at ≡ Some cell → P cell → OfEach P cells from (at + 1)
of_one_more P cells from at cell each there is place other low high found = elim (cases_lt place at) [
  | inl before ↦ each place other low before found
  | inr after ↦
      let same : place ≡ at = omega (arith, after, high) in
      let here : slice_get cells at ≡ Some other = subst (λ (k : ℕ). slice_get cells k ≡ Some other) same found in
      let level : cell ≡ other = cc in
      subst P level is
]

-- where those before are there, the first that isn't comes after them
pub first_after : (all cells : List (List ℕ)) (from at to place : ℕ) → OfEach (Contains all) cells from at → IsFirst all cells at to place → IsFirst all cells from to place
first_after all cells from at to place before first = record { has = of_both (Contains all) cells from at place before first.has; lacks = first.lacks }

-- whichever part has this page at its top, it has the cells from one place on and before another
pub record TellsSome (form : Form) (map : PageMap) (number : ℕ) (cells : List (List ℕ)) (from to : ℕ) : Type 0 where
  pub each : (height : ℕ) (shape : Shape height) → IsPart form map number height shape → Ascends (cells_of height shape) → OfEach (Contains (cells_of height shape)) cells from to

module _ (form : Form) (pages later : PageMap) (same : SamePages later pages) where
  part_later : (number height : ℕ) (part : Shape height) → IsPart form pages number height part → IsPart form later number height part
  part_later number height part is = record { lies = lies_same form pages later same height part is.lies; top = is.top }

  pub told_before : (number : ℕ) (cells : List (List ℕ)) (from to place : ℕ) → TellsFirst form later number cells from to place → TellsFirst form pages number cells from to place
  told_before number cells from to place told = record { each = λ height shape part up. told.each height shape (part_later number height shape part) up }

  pub none_before : (number levels : ℕ) → HasNoTop form later number levels → HasNoTop form pages number levels
  none_before number levels none = record { none = λ height shape part low. none.none height shape (part_later number height shape part) low }

module _ (form : Form) (pages later : PageMap) (number below : ℕ) (cells : List (List ℕ)) (from end : ℕ) (same : SamePages later pages) (some : from < end) (inside : end ≤ length cells)
    (goes : OfEach (GoesOn form pages number below) cells from end) where
  first_goes : GoesOn form pages number below (get_or cells from [])
  first_goes = let lt : from < length cells = omega (arith, some, inside) in goes from (get_or cells from []) (omega arith) some (slice_get-get_or cells from [] lt)

  pub told_above : (place : ℕ) → from ≤ place → place ≤ end → TellsFirst form later below cells from end place → TellsFirst form pages number cells from end place
  told_above place low high told = record { each = tells } where
    tells : (height : ℕ) (shape : Shape height) → IsPart form pages number height shape → Ascends (cells_of height shape) → IsFirst (cells_of height shape) cells from end place
    tells zero shape part up = absurd (first_goes.no_leaf shape part)
    tells (suc height) shape part up = record {
      has = λ at cell after before there.
          let one = (goes at cell after (omega (arith, before, high)) there).each height shape part in
          (one.same up).0 ((told.each height one.part (part_later form pages later same below height one.part one.is) (one.ascends up)).has at cell after before there);
      lacks = λ less cell there has.
          let one = (goes place cell low less there).each height shape part in
          (told.each height one.part (part_later form pages later same below height one.part one.is) (one.ascends up)).lacks less cell there ((one.same up).1 has);
    }

  pub none_above : (levels : ℕ) → (levels ≡ 0 → ⊥) → HasNoTop form later below (levels - 1) → HasNoTop form pages number levels
  none_above levels more none = record { none = at } where
    at : (height : ℕ) (shape : Shape height) → IsPart form pages number height shape → height ≤ levels → ⊥
    at zero shape part low = first_goes.no_leaf shape part
    at (suc height) shape part low =
        let one = first_goes.each height shape part in none.none height one.part (part_later form pages later same below height one.part one.is) (omega (arith, low, more))

  -- where the search goes on there is a level more
  pub no_level : (levels : ℕ) → levels ≡ 0 → HasNoTop form pages number levels
  no_level levels none = record { none = at } where
    at : (height : ℕ) (shape : Shape height) → IsPart form pages number height shape → height ≤ levels → ⊥
    at zero shape part low = first_goes.no_leaf shape part
    at (suc height) shape part low = omega (arith, low, none)

-- what is told of the cells up to a place, and of those from there on
pub told_after : (form : Form) (pages : PageMap) (number : ℕ) (cells : List (List ℕ)) (from at to place : ℕ) → TellsSome form pages number cells from at
    → TellsFirst form pages number cells at to place → TellsFirst form pages number cells from to place
told_after form pages number cells from at to place before first = record {
  each = λ height shape part up. first_after (cells_of height shape) cells from at to place (before.each height shape part up) (first.each height shape part up);
}

-- where the first that isn't there comes after some of them, these are there
pub told_some : (form : Form) (pages : PageMap) (number : ℕ) (cells : List (List ℕ)) (from to place : ℕ) → place ≡ to → TellsFirst form pages number cells from to place
    → TellsSome form pages number cells from to
told_some form pages number cells from to place past told = record {
  each = λ height shape part up at cell after before there. (told.each height shape part up).has at cell after (omega (arith, before, past)) there;
}

pub some_more : (form : Form) (pages : PageMap) (number : ℕ) (cells : List (List ℕ)) (from at to : ℕ) → TellsSome form pages number cells from at
    → TellsSome form pages number cells at to → TellsSome form pages number cells from to
some_more form pages number cells from at to one other = record {
  each = λ height shape part up. of_both (Contains (cells_of height shape)) cells from at to (one.each height shape part up) (other.each height shape part up);
}

-- a place before the end is one of more cells too, and the end is one where all are there
pub told_wider : (form : Form) (pages : PageMap) (number : ℕ) (cells : List (List ℕ)) (from end to place : ℕ) → place < end → TellsFirst form pages number cells from end place
    → TellsFirst form pages number cells from to place
told_wider form pages number cells from end to place less told = record {
  each = λ height shape part up. record { has = (told.each height shape part up).has; lacks = λ _. (told.each height shape part up).lacks less };
}

pub some_all : (form : Form) (pages : PageMap) (number : ℕ) (cells : List (List ℕ)) (from at to : ℕ) → to ≤ at → TellsSome form pages number cells from at
    → TellsFirst form pages number cells from to to
some_all form pages number cells from at to past some = record {
  each = λ height shape part up. record {
    has = λ place cell low high there. some.each height shape part up place cell low (omega (arith, high, past)) there;
    lacks = λ less cell there has. omega (arith, less);
  };
}

-- where no page of a tree has the number, it is the top of no part
pub no_node : (says : List ℕ → List (List ℕ) → Type 0) (layout : Layout) (pages : PageMap) (number levels : ℕ) → HasNoNode pages number layout → HasNoTop (form_with says layout) pages number levels
no_node says layout pages number levels none = record {
  none = λ height shape part low. (no_node-no_part says layout pages number levels (size_of height shape) (λ some. none)).none height shape part low (omega arith);
}

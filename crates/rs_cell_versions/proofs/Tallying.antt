-- Cells counted against what is to come, one after the other.
use Rattle.std.proofs.Common.{◌≡◌, ◌<◌, ◌≤◌, ◌+◌, ◌*◌, ℕ, suc, Bool, true, false, cond, not, Some, List, [], ◌∷◌, ◌++◌, length, take, drop, filter, slice_get, refl, sym, ap, ◌∙◌, subst, arith}
use Rattle.std.proofs.lemmas.List.{append-nil, append_assoc, length-drop, length-take-le}
use Rattle.std.proofs.lemmas.List.Elements.{filter-append}
use Rattle.std.proofs.lemmas.List.Sums.{sum_by-append, sum_by-cons}
use Rattle.std.specs.List.{AllByRecursion, count_by}
use Rattle.rs_records.specs.Records.{records}
use Rattle.rs_records.proofs.RecordLists.{length-records, records-at, times_upto}
use Rattle.rs_tree.proofs.Lists.{all_at, has_inside, sum_upto, take_next}
use Rattle.rs_cell_versions.specs.Looking.{AreOthers, Counts, Tallied}
use Rattle.rs_cell_versions.specs.Version.{IsDated, is_dead, is_living}
use Rattle.rs_cell_versions.proofs.Dated.{all_both}

-- a record of a list of records is as wide as each
pub record_wide : (count width : ℕ) (bytes : List ℕ) (index : ℕ) (cell : List ℕ) → count * width ≤ length bytes → slice_get (records count width bytes) index ≡ Some cell → length cell ≡ width
record_wide count width bytes index cell fits there =
    let inside : index < count = omega (arith, has_inside (records count width bytes) index cell there, length-records count width bytes) in
    let upto = times_upto (index + 1) count width (omega arith) in
    let same : take width (drop (index * width) bytes) ≡ cell = let e = records-at count width bytes index inside in cc in
    ap length (sym same) ∙ length-take-le width (drop (index * width) bytes) (omega (arith, length-drop (index * width) bytes))

abbrev weigh : (List ℕ → Bool) → List ℕ → ℕ
weigh test cell = cond (test cell) 1 0

count-one : (test : List ℕ → Bool) (cell : List ℕ) (b : Bool) → test cell ≡ b → count_by test (cell ∷ []) ≡ cond b 1 0
count-one test cell b e =
    let same : cond {A = ℕ} (test cell) 1 0 ≡ cond {A = ℕ} b 1 0 = ap (λ (t : Bool). cond {A = ℕ} t 1 0) e in
    omega (arith, same, sum_by-cons (weigh test) cell [])

filter-one : (test : List ℕ → Bool) (cell : List ℕ) (b : Bool) → test cell ≡ b → filter test (cell ∷ []) ≡ cond b (cell ∷ []) []
filter-one test cell b e = ap (λ t. cond t (cell ∷ []) []) e

pub counts_none : (all : Tallied) → Counts all all []
counts_none all = record { accepted = refl; dated = tt; living = omega arith; garbage = omega arith; dead = sym (append-nil all.dead) }

-- some and then others
pub counts_then : (old mid new : Tallied) (xs ys : List (List ℕ)) → Counts old mid xs → Counts mid new ys → Counts old new (xs ++ ys)
counts_then old mid new xs ys one other = record {
  accepted = other.accepted ∙ one.accepted;
  dated = all_both (IsDated old.accepted) xs ys one.dated (subst (λ (n : ℕ). AllByRecursion (IsDated n) ys) one.accepted other.dated);
  living = omega (arith, one.living, other.living, sum_by-append (weigh is_living) xs ys);
  garbage = omega (arith, one.garbage, other.garbage, sum_by-append (weigh is_dead) xs ys);
  dead = other.dead ∙ ap (λ cells. cells ++ filter is_dead ys) one.dead ∙ append_assoc old.dead (filter is_dead xs) (filter is_dead ys)
      ∙ ap (λ cells. old.dead ++ cells) (sym (filter-append is_dead xs ys));
}

-- one more of a list
pub counts_next : (old mid new : Tallied) (cells : List (List ℕ)) (index : ℕ) (cell : List ℕ) → Counts old mid (take index cells) → slice_get cells index ≡ Some cell → Counts mid new (cell ∷ [])
    → Counts old new (take (index + 1) cells)
counts_next old mid new cells index cell so there one =
    let next : suc index ≡ index + 1 = omega arith in
    subst (Counts old new) (sym (take_next cells index cell there) ∙ ap (λ n. take n cells) next) (counts_then old mid new (take index cells) (cell ∷ []) so one)

-- a cell that lives
pub counts_living : (old new : Tallied) (cell : List ℕ) → IsDated old.accepted cell → is_living cell ≡ true → new.accepted ≡ old.accepted → new.living_left + 1 ≡ old.living_left → new.garbage_left ≡ old.garbage_left
    → new.dead ≡ old.dead → Counts old new (cell ∷ [])
counts_living old new cell dated lives accepted living garbage dead =
    let isnt : is_dead cell ≡ false = ap not lives in
    record {
      accepted = accepted;
      dated = (dated, tt);
      living = omega (arith, count-one is_living cell true lives, living);
      garbage = omega (arith, count-one is_dead cell false isnt, garbage);
      dead = dead ∙ sym (append-nil old.dead) ∙ ap (λ cells. old.dead ++ cells) (sym (filter-one is_dead cell false isnt));
    }

-- a cell that is dead
pub counts_dead : (old new : Tallied) (cell : List ℕ) → IsDated old.accepted cell → is_living cell ≡ false → new.accepted ≡ old.accepted → new.living_left ≡ old.living_left → new.garbage_left + 1 ≡ old.garbage_left
    → new.dead ≡ old.dead ++ cell ∷ [] → Counts old new (cell ∷ [])
counts_dead old new cell dated isnt accepted living garbage dead =
    let is : is_dead cell ≡ true = ap not isnt in
    record {
      accepted = accepted;
      dated = (dated, tt);
      living = omega (arith, count-one is_living cell false isnt, living);
      garbage = omega (arith, count-one is_dead cell true is, garbage);
      dead = dead ∙ ap (λ cells. old.dead ++ cells) (sym (filter-one is_dead cell true is));
    }

-- a cell that is not to come
pub others_undated : (old : Tallied) (cell : List ℕ) → (IsDated old.accepted cell → ⊥) → AreOthers old (cell ∷ [])
others_undated old cell isnt = record { none = λ dated living garbage. isnt dated.0 }

pub others_living : (old : Tallied) (cell : List ℕ) → is_living cell ≡ true → old.living_left ≡ 0 → AreOthers old (cell ∷ [])
others_living old cell lives none = record { none = λ dated living garbage. omega (arith, living, count-one is_living cell true lives, none) }

pub others_dead : (old : Tallied) (cell : List ℕ) → is_living cell ≡ false → old.garbage_left ≡ 0 → AreOthers old (cell ∷ [])
others_dead old cell isnt none = record { none = λ dated living garbage. omega (arith, garbage, count-one is_dead cell true (ap not isnt), none) }

-- where a cell of a list is not to come, the list isn't
pub others_within : (old mid : Tallied) (cells : List (List ℕ)) (index : ℕ) (cell : List ℕ) → Counts old mid (take index cells) → slice_get cells index ≡ Some cell → AreOthers mid (cell ∷ []) → AreOthers old cells
others_within old mid cells index cell so there others = record {
  none = λ dated living garbage.
      let one = all_at (IsDated old.accepted) cells index cell dated there in
      let many = sum_upto (weigh is_living) cells index cell there in
      let dead = sum_upto (weigh is_dead) cells index cell there in
      others.none (subst (λ (n : ℕ). IsDated n cell) (sym so.accepted) one, tt)
      (omega (arith, living, so.living, many, sum_by-cons (weigh is_living) cell []))
      (omega (arith, garbage, so.garbage, dead, sum_by-cons (weigh is_dead) cell []));
}

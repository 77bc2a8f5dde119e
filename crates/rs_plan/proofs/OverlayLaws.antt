-- The OVERLAY of some operands: sorted by weight, its columns put back, as the rule has it.
use Rattle.std.proofs.Common.{◌≡◌, ℕ, zero, suc, ◌+◌, ◌-◌, ◌^◌, ◌<◌, ◌≤◌, ◌==◌, Bool, true, false, not, cond, List, [], ◌∷◌, ◌++◌, map, flat_map, min, length, Vec, Global, refl, sym, ap, ◌∙◌, subst, arith}
use Rattle.std.specs.Prelude.{sum_by, Contains}
use Rattle.std.specs.List.{AllByRecursion, range_with_len, position_or_len}
use Rattle.std.specs.List.Sorted.{IsPermutation, IsSortedByKey, IsStableByKey}
use Rattle.std.specs.Ordering.{nat_cmp}
use Rattle.std.proofs.lemmas.List.{length-map}
use Rattle.std.proofs.lemmas.List.Concat.{length-flat_map}
use Rattle.std.proofs.lemmas.List.FromFn.{length-range_with_len}
use Rattle.std.proofs.lemmas.List.Sorted.{IsPermutation-map, sum_by-IsPermutation}
use Rattle.std.proofs.lemmas.List.Sums.{sum_by-cons}
use Rattle.rs_planning.specs.Basis.{Basis}
use Rattle.rs_planning.specs.Laws.{weight_of, AreByWeight}
use Rattle.rs_planning.specs.Plan as plans
use Rattle.rs_planning.specs.Plan.{plan_width}
use Rattle.rs_planning.specs.Rule.{PlacedOperand, weight, weight_together, in_written_order, lightest_first, columns_together, put_back, operands_of, overlay_of, together}
use Rattle.rs_planning.proofs.ByWeight.{sorts-agree}
use Rattle.rs_plan.specs.declared.operand.Operand.{Operand}
use Rattle.rs_plan.specs.declared.overlays.Written.{Written}
use Rattle.rs_plan.specs.declared.plan.Plan.{Plan}
use Rattle.rs_plan.specs.declared.plan.Plan.TheVariants as variants
use Rattle.rs_plan.specs.Operands.{operand_tree, operand_names, AreAmong, IsWeighed, weights, widths, IsOverlay, IsTogether, written_from, range_of, place_among}
use Rattle.rs_plan.specs.PlanView.{operands_in, plan_tree, named_in}
use Rattle.rs_plan.proofs.PlanLaws.{overlay-tree, overlay-names}
use Rattle.rs_plan.proofs.Sorting.{all-permuted, sorted-seen, stable-seen}
use Rattle.rs_plan.proofs.Walks.{map-map, append-end}

-- ---- numbers that are not too large

small : (m most : ℕ) → m ≤ most → min m most ≡ m
small m most le = omega (arith, le)

abbrev most_width : ℕ
most_width = 2 ^ 8 - 1

range-is : (n : ℕ) (from first : ℕ) → first + from + n ≤ 2 ^ 8 → map (λ place. min (first + place) most_width) (range_with_len from n) ≡ range_with_len (first + from) n
range-is zero from first le = refl
range-is (suc n) from first le =
    let next : first + (from + 1) ≡ first + from + 1 = omega arith in
    λ i. small (first + from) most_width (omega arith) i ∷ (range-is n (from + 1) first (omega arith) ∙ ap (λ m. range_with_len m n) next) i

-- the range is that of the definition
abbrev AreNear : Written → Type 0
AreNear one = one.first + one.operand.width ≤ 2 ^ 8

near-range : (one : Written) → AreNear one → range_of one ≡ range_with_len one.first one.operand.width
near-range one near =
    let start : one.first + 0 ≡ one.first = omega arith in
    range-is one.operand.width 0 one.first (omega (arith, near)) ∙ ap (λ m. range_with_len m one.operand.width) start

position-within : (column : ℕ) (columns : List ℕ) → position_or_len (λ other. other == column) columns ≤ length columns
position-within column [] = omega arith
position-within column (x ∷ columns) = by (x == column) (position-within column columns)
  where
    by : (t : Bool) → position_or_len (λ other. other == column) columns ≤ length columns → cond (not t) (1 + position_or_len (λ other. other == column) columns) 0 ≤ length (x ∷ columns)
    by true le = omega arith
    by false le = omega (arith, le)

mapped-same : {A B : Type 0} (f g : A → B) → ((x : A) → f x ≡ g x) → (xs : List A) → map f xs ≡ map g xs
mapped-same f g same [] = refl
mapped-same f g same (x ∷ xs) = λ i. same x i ∷ mapped-same f g same xs i

-- ---- what is written

wide-cons : (operand : Operand) (operands : List Operand) → widths (operand ∷ operands) ≡ operand.width + widths operands
wide-cons operand operands = sum_by-cons (λ (one : Operand). one.width) operand operands

weights-written : (first : ℕ) (operands : List Operand) → sum_by (λ (one : Written). one.operand.weight) (written_from first operands) ≡ weights operands
weights-written first [] = refl
weights-written first (operand ∷ operands) =
    sum_by-cons (λ (one : Written). one.operand.weight) (record { operand = operand; first = first }) (written_from (min (first + operand.width) most_width) operands)
    ∙ ap (λ n. operand.weight + n) (weights-written (min (first + operand.width) most_width) operands)
    ∙ sym (sum_by-cons (λ (one : Operand). one.weight) operand operands)

widths-written : (first : ℕ) (operands : List Operand) → sum_by (λ (one : Written). one.operand.width) (written_from first operands) ≡ widths operands
widths-written first [] = refl
widths-written first (operand ∷ operands) =
    sum_by-cons (λ (one : Written). one.operand.width) (record { operand = operand; first = first }) (written_from (min (first + operand.width) most_width) operands)
    ∙ ap (λ n. operand.width + n) (widths-written (min (first + operand.width) most_width) operands)
    ∙ sym (wide-cons operand operands)

written-near : (first : ℕ) (operands : List Operand) → first + widths operands < 2 ^ 8 → AllByRecursion AreNear (written_from first operands)
written-near first [] fits = tt
written-near first (operand ∷ operands) fits =
    let wide = wide-cons operand operands in
    let next : min (first + operand.width) most_width ≡ first + operand.width = small (first + operand.width) most_width (omega (arith, wide)) in
    (omega (arith, wide), written-near (min (first + operand.width) most_width) operands (omega (arith, wide, next)))

every-written : (P : Operand → Type 0) (first : ℕ) (operands : List Operand) → AllByRecursion P operands → AllByRecursion (λ (one : Written). P one.operand) (written_from first operands)
every-written P first [] all = tt
every-written P first (operand ∷ operands) all = (all.0, every-written P (min (first + operand.width) most_width) operands all.1)

-- ---- as the rule sees it

abbrev placed : Written → PlacedOperand
placed one = record { plan = operand_tree one.operand; columns = range_with_len one.first one.operand.width }

module _ (basis : Basis) where
  in-order : (first : ℕ) (operands : List Operand) → AllByRecursion (IsWeighed basis) operands → first + widths operands < 2 ^ 8 → map placed (written_from first operands) ≡ in_written_order basis.world first (map operand_tree operands)
  in-order first [] weighed fits = refl
  in-order first (operand ∷ operands) weighed fits =
      let wide = wide-cons operand operands in
      let next : min (first + operand.width) most_width ≡ first + operand.width = small (first + operand.width) most_width (omega (arith, wide)) in
      ap (λ l. placed (record { operand = operand; first = first }) ∷ l) (in-order (min (first + operand.width) most_width) operands weighed.1 (omega (arith, wide, next)))
      ∙ ap (λ n. placed (record { operand = operand; first = first }) ∷ in_written_order basis.world n (map operand_tree operands)) next
      ∙ ap (λ n. record { plan = operand_tree operand; columns = range_with_len first n } ∷ in_written_order basis.world (first + n) (map operand_tree operands)) weighed.0.1

  weight-together : (ones : List Written) → AllByRecursion (λ one. IsWeighed basis one.operand) ones → sum_by (λ (one : Written). one.operand.weight) ones ≡ weight_together basis.record_count (operands_of (map placed ones))
  weight-together [] weighed = refl
  weight-together (one ∷ ones) weighed = sum_by-cons (λ (one : Written). one.operand.weight) one ones ∙ (λ i. weighed.0.0 i + weight-together ones weighed.1 i)

columns-placed : (ones : List Written) → AllByRecursion AreNear ones → flat_map range_of ones ≡ columns_together (map placed ones)
columns-placed [] near = refl
columns-placed (one ∷ ones) near = λ i. near-range one near.0 i ++ columns-placed ones near.1 i

operands-placed : (ones : List Written) → operands_in (map (λ (one : Written). operand_tree one.operand) ones) ≡ operands_of (map placed ones)
operands-placed [] = refl
operands-placed (one ∷ ones) = ap (plans.operand (operand_tree one.operand)) (operands-placed ones)

-- ---- what they name

names-written : (first : ℕ) (operands : List Operand) → flat_map (λ (one : Written). operand_names one.operand) (written_from first operands) ≡ flat_map operand_names operands
names-written first [] = refl
names-written first (operand ∷ operands) = ap (λ l. operand_names operand ++ l) (names-written (min (first + operand.width) most_width) operands)

names-joined : (ones : List Written) → flat_map (λ named. named) (map named_in (map (λ (one : Written). one.operand.plan) ones)) ≡ flat_map (λ (one : Written). operand_names one.operand) ones
names-joined [] = refl
names-joined (one ∷ ones) = ap (λ l. operand_names one.operand ++ l) (names-joined ones)

module _ {A X : Type 0} (P : X → Type 0) (f : A → List X) where
  split : (xs ys : List X) → AllByRecursion P (xs ++ ys) → AllByRecursion P xs × AllByRecursion P ys
  split [] ys all = (tt, all)
  split (x ∷ xs) ys all = let rest = split xs ys all.1 in ((all.0, rest.0), rest.1)

  join : (xs ys : List X) → AllByRecursion P xs → AllByRecursion P ys → AllByRecursion P (xs ++ ys)
  join [] ys a b = b
  join (x ∷ xs) ys a b = (a.0, join xs ys a.1 b)

  of-each : (items : List A) → AllByRecursion P (flat_map f items) → AllByRecursion (λ a. AllByRecursion P (f a)) items
  of-each [] all = tt
  of-each (a ∷ items) all = let parts = split (f a) (flat_map f items) all in (parts.0, of-each items parts.1)

  to-whole : (items : List A) → AllByRecursion (λ a. AllByRecursion P (f a)) items → AllByRecursion P (flat_map f items)
  to-whole [] all = tt
  to-whole (a ∷ items) all = join (f a) (flat_map f items) all.0 (to-whole items all.1)

  pub flat-permuted : (items others : List A) → IsPermutation items others → AllByRecursion P (flat_map f items) → AllByRecursion P (flat_map f others)
  flat-permuted items others moved all = to-whole others (all-permuted (λ a. AllByRecursion P (f a)) items others moved (of-each items all))

-- ---- the OVERLAY

module _ (operands : List Operand) (sorted : List Written) (moved : IsPermutation (written_from 0 operands) sorted) (rising : IsSortedByKey (λ (one : Written). one.operand.weight) nat_cmp sorted)
    (stable : IsStableByKey (λ (one : Written). one.operand.weight) nat_cmp (written_from 0 operands) sorted) (total wide : ℕ) (total_is : total ≡ min (weights operands) (2 ^ 128 - 1)) (wide_is : wide ≡ min (widths operands) most_width)
    (back : Vec ℕ Global) (back_is : back.items ≡ map (place_among (flat_map range_of sorted)) (range_with_len 0 wide)) (made : Vec Plan Global) (made_is : made.items ≡ map (λ (one : Written). one.operand.plan) sorted) where
  abbrev written : List Written
  written = written_from 0 operands

  abbrev one : Operand
  one = record { plan = variants.Overlay back made; weight = total; width = wide }

  module _ (basis : Basis) (weighed : AllByRecursion (IsWeighed basis) operands) (light : weights operands < 2 ^ 128) (narrow : widths operands < 2 ^ 8) where
    all_weighed : AllByRecursion (λ (one : Written). IsWeighed basis one.operand) written
    all_weighed = every-written (IsWeighed basis) 0 operands weighed

    sorted_weighed : AllByRecursion (λ (one : Written). IsWeighed basis one.operand) sorted
    sorted_weighed = all-permuted _ written sorted moved all_weighed

    sorted_near : AllByRecursion AreNear sorted
    sorted_near = all-permuted _ written sorted moved (written-near 0 operands (omega (arith, narrow)))

    ranked : (ones : List Written) → AllByRecursion (λ (one : Written). IsWeighed basis one.operand) ones → AllByRecursion (λ (one : Written). weight_of basis.record_count (placed one) ≡ one.operand.weight) ones
    ranked [] all = tt
    ranked (one ∷ ones) all = (sym all.0.0, ranked ones all.1)

    by_weight : AreByWeight basis.record_count (map placed written) (map placed sorted)
    by_weight = record {
      same = IsPermutation-map placed written sorted moved;
      rising = sorted-seen (λ (one : Written). one.operand.weight) (weight_of basis.record_count) placed sorted rising (ranked sorted sorted_weighed);
      stable = stable-seen (λ (one : Written). one.operand.weight) (weight_of basis.record_count) placed (λ n. record { operand = record { plan = variants.Overlay back made; weight = n; width = 0 }; first = 0 }) (λ n. refl) written sorted stable (ranked written all_weighed) (ranked sorted sorted_weighed);
    }

    abbrev lightest : List PlacedOperand
    lightest = lightest_first basis.record_count (in_written_order basis.world 0 (map operand_tree operands))

    is_lightest : map placed sorted ≡ lightest
    is_lightest = sorts-agree basis.record_count (map placed written) (map placed sorted) by_weight ∙ ap (lightest_first basis.record_count) (in-order basis 0 operands weighed (omega (arith, narrow)))

    abbrev columns : List ℕ
    columns = flat_map range_of sorted

    near_long : (ones : List Written) → sum_by (λ (one : Written). length (range_of one)) ones ≡ sum_by (λ (one : Written). one.operand.width) ones
    near_long [] = refl
    near_long (one ∷ ones) =
        sum_by-cons (λ (one : Written). length (range_of one)) one ones
        ∙ (λ i. (length-map (range_with_len 0 one.operand.width) (λ place. min (one.first + place) most_width) ∙ length-range_with_len 0 one.operand.width) i + near_long ones i)
        ∙ sym (sum_by-cons (λ (one : Written). one.operand.width) one ones)

    long : length columns ≡ widths operands
    long = length-flat_map range_of sorted ∙ near_long sorted ∙ sum_by-IsPermutation (λ (one : Written). one.operand.width) written sorted moved ∙ widths-written 0 operands

    wide_all : wide ≡ length columns
    wide_all = wide_is ∙ small (widths operands) most_width (omega (arith, narrow)) ∙ sym long

    is_back : back.items ≡ put_back lightest
    is_back =
        back_is ∙ ap (λ n. map (place_among columns) (range_with_len 0 n)) wide_all
        ∙ mapped-same (place_among columns) (λ column. position_or_len (λ other. other == column) columns) (λ column. let within = position-within column columns in small _ most_width (omega (arith, within, long, narrow))) (range_with_len 0 (length columns))
        ∙ ap (λ l. map (λ column. position_or_len (λ other. other == column) l) (range_with_len 0 (length l))) (columns-placed sorted sorted_near ∙ ap columns_together is_lightest)

    is_operands : operands_in (map plan_tree made.items) ≡ operands_of lightest
    is_operands = ap (λ l. operands_in (map plan_tree l)) made_is ∙ ap operands_in (map-map plan_tree (λ (one : Written). one.operand.plan) sorted) ∙ operands-placed sorted ∙ ap operands_of is_lightest

    is_tree : operand_tree one ≡ overlay_of lightest
    is_tree = overlay-tree back made ∙ (λ i. plans.overlay_node (is_back i) (is_operands i))

    is_weighed : IsWeighed basis one
    is_weighed = (
      total_is ∙ small (weights operands) (2 ^ 128 - 1) (omega (arith, light)) ∙ sym (weights-written 0 operands) ∙ sym (sum_by-IsPermutation (λ (one : Written). one.operand.weight) written sorted moved)
          ∙ weight-together basis sorted sorted_weighed ∙ ap (λ l. weight_together basis.record_count (operands_of l)) is_lightest ∙ ap (weight basis.record_count) (sym is_tree),
      sym (ap length back_is ∙ length-map (range_with_len 0 wide) (place_among columns) ∙ length-range_with_len 0 wide) ∙ ap (plan_width basis.world) (sym (overlay-tree back made)),
    )

  pub overlay-made : IsOverlay operands one
  overlay-made = record {
    tree = λ basis weighed light narrow. is_tree basis weighed light narrow;
    weighed = λ basis weighed light narrow. is_weighed basis weighed light narrow;
    light = lesser total_is;
    names = λ whole among.
        subst (AreAmong whole) (sym (overlay-names back made ∙ ap (λ l. flat_map (λ named. named) (map named_in l)) made_is ∙ names-joined sorted))
        (flat-permuted (Contains whole) (λ (one : Written). operand_names one.operand) written sorted moved (subst (AreAmong whole) (sym (names-written 0 operands)) among));
  }
    where
      lesser : total ≡ min (weights operands) (2 ^ 128 - 1) → total ≤ weights operands
      lesser e = omega (arith, e)

-- ---- one plan of them

pub several-together : (operands : List Operand) (one : Operand) → (length operands ≡ 1 → ⊥) → IsOverlay operands one → IsTogether operands one
several-together operands one several is = record {
  tree = λ basis weighed light narrow. is.tree basis weighed light narrow ∙ by basis operands several;
  weighed = is.weighed;
  light = is.light;
  names = is.names;
}
  where
    by : (basis : Basis) (operands : List Operand) → (length operands ≡ 1 → ⊥) → overlay_of (lightest_first basis.record_count (in_written_order basis.world 0 (map operand_tree operands))) ≡ together basis (map operand_tree operands)
    by basis [] several = refl
    by basis (operand ∷ []) several = absurd (several refl)
    by basis (operand ∷ next ∷ operands) several = refl

pub alone-together : (operands : List Operand) (one : Operand) → operands ≡ one ∷ [] → IsTogether operands one
alone-together operands one is = subst (λ l. IsTogether l one) (sym is) (record {
  tree = λ basis weighed light narrow. refl;
  weighed = λ basis weighed light narrow. weighed.0;
  light = let all = sum_by-cons (λ (one : Operand). one.weight) one [] in omega (arith, all);
  names = λ whole among. subst (AreAmong whole) (append-end (operand_names one)) among;
})

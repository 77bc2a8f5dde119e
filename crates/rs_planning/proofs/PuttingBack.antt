-- Operands in another order, and their columns put back into the written order.
use Rattle.std.proofs.Common.{◌≡◌, ℕ, zero, suc, ◌+◌, ◌-◌, ◌<◌, ◌≤◌, Bool, true, false, not, ◌||◌, cond, eqb, set as set_at, List, [], ◌∷◌, ◌++◌, map, flat_map, length, get_or, inl, inr, refl, sym, ap, ◌∙◌, subst, arith}
use Rattle.std.proofs.Math.ListN.{get_or-map as get_or-map_at}
use Rattle.std.proofs.lemmas.Bool.{or_cases, or_left, or_right, eqb-true, eq-eqb, ne_eqb, cases_lt, cases_eq}
use Rattle.std.proofs.lemmas.List.{map-set, get_or-map, get_or_append_left, get_or-append_right, length-append, length-map, ext_get_or}
use Rattle.std.proofs.lemmas.List.Concat.{length-flat_map}
use Rattle.std.proofs.lemmas.List.Elements.{All-from_recursion, recursion_from_All}
use Rattle.std.proofs.lemmas.List.FromFn.{get_or-map-range_with_len, length-map-range_with_len, length-range_with_len}
use Rattle.std.proofs.lemmas.List.Sorted.{IsPermutation-refl, IsPermutation-sym, IsPermutation-trans, IsPermutation-cons, IsPermutation-middle, IsPermutation-swap, IsPermutation-keeps, All-permutation, sum_by-IsPermutation, list_any-IsPermutation}
use Rattle.std.specs.Prelude.{nat_le}
use Rattle.std.specs.List.{swap, list_any, AllByRecursion, range_with_len, position_or_len}
use Rattle.std.specs.List.Sorted.{IsPermutation}
use Rattle.rs_value.specs.Row.{null, Datum, Row}
use Rattle.rs_facts.specs.Fact.{Name, contains}
use Rattle.rs_facts.specs.Operators.{datum_at, chosen, mapped}
use Rattle.rs_facts.specs.Query.{World}
use Rattle.rs_facts.proofs.Gapping.{only_empty, has_empty}
use Rattle.rs_facts.proofs.Sets.{same_rows}
use Rattle.rs_facts.proofs.RowSets.{either-way}
use Rattle.rs_planning.specs.Plan.{Plan, plan_rows_at, overlaid_rows_at, plan_width}
use Rattle.rs_planning.specs.Rule.{PlacedOperand, weight, in_written_order, inserted_by_weight, lightest_first, columns_together, put_back, operands_of}
use Rattle.rs_planning.proofs.Meeting.{every-weaker}
use Rattle.rs_planning.proofs.Shown.{changed, pairs}

-- ---- operands by weight are the same operands

insertion-permutes : (record_count : Name → ℕ) (one : PlacedOperand) (others : List PlacedOperand) → IsPermutation (one ∷ others) (inserted_by_weight record_count one others)
insertion-permutes record_count one [] = IsPermutation-refl (one ∷ [])
insertion-permutes record_count one (other ∷ others) = by (nat_le (weight record_count one.plan) (weight record_count other.plan)) (insertion-permutes record_count one others)
  where
    by : (t : Bool) → IsPermutation (one ∷ others) (inserted_by_weight record_count one others) → IsPermutation (one ∷ other ∷ others) (cond t (one ∷ other ∷ others) (other ∷ inserted_by_weight record_count one others))
    by true h = IsPermutation-refl (one ∷ other ∷ others)
    by false h = IsPermutation-trans _ _ _ (IsPermutation-middle (one ∷ []) other others) (IsPermutation-cons other _ _ h)

pub lightest-permutes : (record_count : Name → ℕ) (placed : List PlacedOperand) → IsPermutation placed (lightest_first record_count placed)
lightest-permutes record_count [] = IsPermutation-refl []
lightest-permutes record_count (one ∷ others) = IsPermutation-trans _ _ _ (IsPermutation-cons one _ _ (lightest-permutes record_count others)) (insertion-permutes record_count one (lightest_first record_count others))

-- ---- of each operand one row

abbrev Choice : Type 0
Choice = PlacedOperand × Row

abbrev operands_in : List Choice → List PlacedOperand
operands_in choices = map (λ (choice : Choice). choice.0) choices

abbrev joined : List Choice → Row
joined choices = flat_map (λ (choice : Choice). choice.1) choices

abbrev AreAmong : World → Name → ℕ → List Choice → Type 0
AreAmong world route k choices = AllByRecursion (λ choice. contains (plan_rows_at world choice.0.plan route k) choice.1 ≡ true) choices

record IsJoined (world : World) (route : Name) (k : ℕ) (placed : List PlacedOperand) (row : Row) : Type 0 where
  choices : List Choice
  of : operands_in choices ≡ placed
  among : AreAmong world route k choices
  is : row ≡ joined choices

choices-of : (world : World) (route : Name) (k : ℕ) (placed : List PlacedOperand) (row : Row) → contains (overlaid_rows_at world (operands_of placed) route k) row ≡ true → IsJoined world route k placed row
choices-of world route k [] row e = record { choices = []; of = refl; among = tt; is = only_empty row e }
choices-of world route k (one ∷ others) row e =
    let pair = (pairs (plan_rows_at world one.plan route k) (overlaid_rows_at world (operands_of others) route k) row).0 e in
    let rest = choices-of world route k others pair.right pair.in_second in
    record { choices = (one, pair.left) ∷ rest.choices; of = ap (λ (l : List PlacedOperand). one ∷ l) rest.of; among = (pair.in_first, rest.among); is = pair.together ∙ ap (λ (r : Row). pair.left ++ r) rest.is }

of-choices : (world : World) (route : Name) (k : ℕ) (choices : List Choice) → AreAmong world route k choices → contains (overlaid_rows_at world (operands_of (operands_in choices)) route k) (joined choices) ≡ true
of-choices world route k [] among = has_empty
of-choices world route k (choice ∷ choices) among = (pairs (plan_rows_at world choice.0.plan route k) (overlaid_rows_at world (operands_of (operands_in choices)) route k) (joined (choice ∷ choices))).1
    (record { left = choice.1; right = joined choices; in_first = among.0; in_second = of-choices world route k choices among.1; together = refl })

-- ---- another order of the operands is one of the choices

map-swap : (choices : List Choice) (i j : ℕ) → operands_in (swap choices i j) ≡ swap (operands_in choices) i j
map-swap [] i j = refl
map-swap (first ∷ choices) i j =
    map-set fst (set_at (first ∷ choices) i (get_or (first ∷ choices) j first)) j (get_or (first ∷ choices) i first)
    ∙ ap (λ (l : List PlacedOperand). set_at l j (fst (get_or (first ∷ choices) i first))) (map-set fst (first ∷ choices) i (get_or (first ∷ choices) j first))
    ∙ (λ t. set_at (set_at (operands_in (first ∷ choices)) i (sym (get_or-map_at fst (first ∷ choices) j first) t)) j (sym (get_or-map_at fst (first ∷ choices) i first) t))
  where
    fst : Choice → PlacedOperand
    fst choice = choice.0

record Moved (choices : List Choice) (placed : List PlacedOperand) : Type 0 where
  now : List Choice
  of : operands_in now ≡ placed
  moved : IsPermutation choices now

move : (choices : List Choice) (placed : List PlacedOperand) → IsPermutation (operands_in choices) placed → Moved choices placed
move choices placed permutation = IsPermutation-keeps (operands_in choices) (Moved choices) (record { now = choices; of = refl; moved = IsPermutation-refl choices }) step placed permutation
  where
    step : (l : List PlacedOperand) (i j : ℕ) → i < length l → j < length l → Moved choices l → Moved choices (swap l i j)
    step l i j a b h =
        let same : length h.now ≡ length l = sym (length-map h.now (λ (choice : Choice). choice.0)) ∙ ap length h.of in
        record {
          now = swap h.now i j;
          of = map-swap h.now i j ∙ ap (λ (l : List PlacedOperand). swap l i j) h.of;
          moved = IsPermutation-trans choices h.now (swap h.now i j) h.moved (IsPermutation-swap h.now (swap h.now i j) i j (omega (arith, same)) (omega (arith, same)) refl);
        }

-- ---- the first place of a column in a list

abbrev place_in : List ℕ → ℕ → ℕ
place_in columns column = position_or_len (λ place. eqb place column) columns

abbrev names : List ℕ → ℕ → Bool
names columns column = list_any (λ place. eqb place column) columns

place-append : (xs ys : List ℕ) (column : ℕ) → place_in (xs ++ ys) column ≡ cond (names xs column) (place_in xs column) (length xs + place_in ys column)
place-append [] ys column = omega arith
place-append (x ∷ xs) ys column = by (eqb x column) (names xs column) (place-append xs ys column)
  where
    by : (s t : Bool) → place_in (xs ++ ys) column ≡ cond t (place_in xs column) (length xs + place_in ys column)
        → cond (not s) (1 + place_in (xs ++ ys) column) 0 ≡ cond (s || t) (cond (not s) (1 + place_in xs column) 0) (length (x ∷ xs) + place_in ys column)
    by true t h = refl
    by false true h = ap (λ n. 1 + n) h
    by false false h = omega (arith, h)

place-below : (xs : List ℕ) (column : ℕ) → names xs column ≡ true → place_in xs column < length xs
place-below [] column e = absurd (let wrong : false ≡ true = e in cc)
place-below (x ∷ xs) column e = by (eqb x column) (names xs column) e (place-below xs column)
  where
    by : (s t : Bool) → (s || t) ≡ true → (t ≡ true → place_in xs column < length xs) → cond (not s) (1 + place_in xs column) 0 < length (x ∷ xs)
    by true t e h = omega arith
    by false true e h = let b = h refl in omega (arith, b)
    by false false e h = absurd (let wrong : false ≡ true = e in cc)

range-names : (from n column : ℕ) → names (range_with_len from n) column ≡ true → (from ≤ column) × (column < from + n)
range-names from zero column e = absurd (let wrong : false ≡ true = e in cc)
range-names from (suc n) column e = elim (or_cases (eqb from column) (names (range_with_len (from + 1) n) column) e) [
  | inl here ↦ let same = eqb-true from column here in (omega (arith, same), omega (arith, same))
  | inr there ↦ let rest = range-names (from + 1) n column there in let a = rest.0 in let b = rest.1 in (omega (arith, a), omega (arith, b))
]

names-range : (from n column : ℕ) → from ≤ column → column < from + n → names (range_with_len from n) column ≡ true
names-range from zero column a b = absurd (omega arith)
names-range from (suc n) column a b = elim (cases_eq from column) [
  | inl same ↦ or_left (eqb from column) _ (eq-eqb from column same)
  | inr apart ↦ or_right (eqb from column) _ (names-range (from + 1) n column (omega (arith, apart)) (omega arith))
]

place-range : (from n column : ℕ) → from ≤ column → column < from + n → place_in (range_with_len from n) column ≡ column - from
place-range from zero column a b = absurd (omega arith)
place-range from (suc n) column a b = elim (cases_eq from column) [
  | inl same ↦ ap (λ t. cond (not t) (1 + place_in (range_with_len (from + 1) n) column) 0) (eq-eqb from column same) ∙ omega (arith, same)
  | inr apart ↦
      let rest = place-range (from + 1) n column (omega (arith, apart)) (omega arith) in
      ap (λ t. cond (not t) (1 + place_in (range_with_len (from + 1) n) column) 0) (ne_eqb from column apart) ∙ omega (arith, rest, apart)
]

-- ---- the value in a column, whatever the order

abbrev HasWidth : Choice → Type 0
HasWidth choice = length choice.1 ≡ length choice.0.columns

abbrev value_of : Choice → ℕ → Datum
value_of choice column = datum_at choice.1 (place_in choice.0.columns column)

abbrev covers : Choice → ℕ → Bool
covers choice column = names choice.0.columns column

-- what is so of each choice that has the column is so of the one whose value is found
record IsFound (choices : List Choice) (column : ℕ) : Type 1 where
  one : Choice
  has : covers one column ≡ true
  so : (P : Choice → Type 0) → AllByRecursion P choices → P one
  value : datum_at (joined choices) (place_in (columns_together (operands_in choices)) column) ≡ value_of one column

at-left : (x y : Row) (i : ℕ) → i < length x → datum_at (x ++ y) i ≡ datum_at x i
at-left x y i below = get_or_append_left x y null i below

at-right : (x y : Row) (i : ℕ) → datum_at (x ++ y) (length x + i) ≡ datum_at y i
at-right x y i = get_or-append_right x y (length x) (length x + i) null refl (omega arith) ∙ ap (datum_at y) (omega arith)

find : (choices : List Choice) (column : ℕ) → AllByRecursion HasWidth choices → list_any (λ choice. covers choice column) choices ≡ true → IsFound choices column
find [] column wide e = absurd (let wrong : false ≡ true = e in cc)
find (choice ∷ choices) column wide e = by (covers choice column) refl (find choices column wide.1)
  where
    here : covers choice column ≡ true → IsFound (choice ∷ choices) column
    here h = record {
      one = choice;
      has = h;
      so = λ P all. all.0;
      value =
          ap (datum_at (joined (choice ∷ choices))) (place-append choice.0.columns (columns_together (operands_in choices)) column ∙ ap (λ t. cond t (place_in choice.0.columns column) (length choice.0.columns + place_in (columns_together (operands_in choices)) column)) h)
          ∙ at-left choice.1 (joined choices) (place_in choice.0.columns column) (let below = place-below choice.0.columns column h in let w = wide.0 in omega (arith, below, w));
    }

    there : covers choice column ≡ false → IsFound choices column → IsFound (choice ∷ choices) column
    there h rest = record {
      one = rest.one;
      has = rest.has;
      so = λ P all. rest.so P all.1;
      value =
          ap (datum_at (joined (choice ∷ choices))) (place-append choice.0.columns (columns_together (operands_in choices)) column ∙ ap (λ t. cond t (place_in choice.0.columns column) (length choice.0.columns + place_in (columns_together (operands_in choices)) column)) h ∙ ap (λ n. n + place_in (columns_together (operands_in choices)) column) (sym wide.0))
          ∙ at-right choice.1 (joined choices) (place_in (columns_together (operands_in choices)) column)
          ∙ rest.value;
    }

    by : (t : Bool) → covers choice column ≡ t → (list_any (λ other. covers other column) choices ≡ true → IsFound choices column) → IsFound (choice ∷ choices) column
    by true h rest = here h
    by false h rest = there h (rest (sym (ap (λ t. t || list_any (λ other. covers other column) choices) h) ∙ e))

-- ---- the written order

abbrev AreFrom : ℕ → List Choice → Type 0
AreFrom from [] = Unit {0}
AreFrom from (choice ∷ choices) = (choice.0.columns ≡ range_with_len from (length choice.1)) × AreFrom (from + length choice.1) choices

-- the value in a column is where the column is written
abbrev IsWritten : ℕ → Row → Choice → Type 0
IsWritten from row choice = (column : ℕ) → covers choice column ≡ true → (from ≤ column) × (datum_at row (column - from) ≡ value_of choice column)

written : (from : ℕ) (choices : List Choice) → AreFrom from choices → AllByRecursion (IsWritten from (joined choices)) choices
written from [] are = tt
written from (choice ∷ choices) are = (
  λ column h.
      let bounds = range-names from (length choice.1) column (sym (ap (λ columns. names columns column) are.0) ∙ h) in
      let a = bounds.0 in let b = bounds.1 in (
        a,
        at-left choice.1 (joined choices) (column - from) (omega (arith, a, b))
            ∙ ap (datum_at choice.1) (sym (place-range from (length choice.1) column a b))
            ∙ ap (λ columns. datum_at choice.1 (place_in columns column)) (sym are.0),
      ),
  every-weaker _ _ (λ other so column h.
      let rest = so column h in
      let a = rest.0 in (
        (omega (arith, a)),
        ap (datum_at (joined (choice ∷ choices))) (let split : column - from ≡ length choice.1 + (column - (from + length choice.1)) = omega (arith, a) in split)
            ∙ at-right choice.1 (joined choices) (column - (from + length choice.1))
            ∙ rest.1,
      )) choices (written (from + length choice.1) choices are.1),
)

covered-in : (from : ℕ) (choices : List Choice) (column : ℕ) → AreFrom from choices → from ≤ column → column < from + length (joined choices) → list_any (λ choice. covers choice column) choices ≡ true
covered-in from [] column are a b = absurd (omega arith)
covered-in from (choice ∷ choices) column are a b = elim (cases_lt column (from + length choice.1)) [
  | inl l ↦ or_left (covers choice column) _ (ap (λ columns. names columns column) are.0 ∙ names-range from (length choice.1) column a l)
  | inr r ↦ or_right (covers choice column) _ (covered-in (from + length choice.1) choices column are.1 r (omega (arith, b, length-append choice.1 (joined choices))))
]

-- ---- put back

length-together : (choices : List Choice) → AllByRecursion HasWidth choices → length (columns_together (operands_in choices)) ≡ length (joined choices)
length-together [] wide = refl
length-together (choice ∷ choices) wide =
    let w = wide.0 in
    let rest = length-together choices wide.1 in
    omega (arith, w, rest, length-append choice.0.columns (columns_together (operands_in choices)), length-append choice.1 (joined choices))

back : (choices now : List Choice) → AreFrom 0 choices → AllByRecursion HasWidth choices → IsPermutation choices now → chosen (put_back (operands_in now)) (joined now) ≡ joined choices
unfolding chosen
back choices now are wide moved = ext_get_or null _ _ (length-map places _ ∙ length-map-range_with_len place 0 _ ∙ many) (λ i below.
    let b : i < length (columns_together (operands_in now)) = subst (λ n. i < n) (length-map places _ ∙ length-map-range_with_len place 0 _) below in
    let found = find now i wide_now (any_now i (subst (λ n. i < n) many b)) in
    get_or-map (λ column. datum_at (joined now) column) places i 0 null (subst (λ n. i < n) (sym (length-map-range_with_len place 0 _)) b)
    ∙ ap (datum_at (joined now)) (get_or-map-range_with_len place 0 (length (columns_together (operands_in now))) i i 0 b (omega arith))
    ∙ found.value
    ∙ sym (found.so (IsWritten 0 (joined choices)) written_now i found.has).1
    ∙ ap (datum_at (joined choices)) (omega arith))
  where
    place : ℕ → ℕ
    place column = place_in (columns_together (operands_in now)) column

    places : List ℕ
    places = put_back (operands_in now)

    now_from : (P : Choice → Type 0) → AllByRecursion P choices → AllByRecursion P now
    now_from P all = recursion_from_All P now (All-permutation P choices now moved (All-from_recursion P choices all))

    wide_now : AllByRecursion HasWidth now
    wide_now = now_from HasWidth wide

    written_now : AllByRecursion (IsWritten 0 (joined choices)) now
    written_now = now_from (IsWritten 0 (joined choices)) (written 0 choices are)

    many : length (columns_together (operands_in now)) ≡ length (joined choices)
    many = length-together now wide_now ∙ length-flat_map (λ (choice : Choice). choice.1) now ∙ sum_by-IsPermutation (λ (choice : Choice). length choice.1) choices now moved ∙ sym (length-flat_map (λ (choice : Choice). choice.1) choices)

    any_now : (i : ℕ) → i < length (joined choices) → list_any (λ choice. covers choice i) now ≡ true
    any_now i b = sym (list_any-IsPermutation (λ choice. covers choice i) choices now moved) ∙ covered-in 0 choices i are (omega arith) (omega (arith, b))

-- ---- the rows of several operands

-- each row of the plan has the plan's width
abbrev pub HasItsWidth : World → Plan → Type 0
HasItsWidth world plan = (route : Name) (k : ℕ) (row : Row) → contains (plan_rows_at world plan route k) row ≡ true → length row ≡ plan_width world plan

are-from : (world : World) (route : Name) (k from : ℕ) (plans : List Plan) (choices : List Choice) → AllByRecursion (HasItsWidth world) plans
    → operands_in choices ≡ in_written_order world from plans → AreAmong world route k choices → AreFrom from choices × AllByRecursion HasWidth choices
are-from world route k from [] [] wide of among = (tt, tt)
are-from world route k from [] (choice ∷ choices) wide of among = absurd (let e = of in cc)
are-from world route k from (plan ∷ plans) [] wide of among = absurd (let e = of in cc)
are-from world route k from (plan ∷ plans) (choice ∷ choices) wide of among =
    let same : choice.0 ≡ record { plan = plan; columns = range_with_len from (plan_width world plan) } = let e = of in cc in
    let others : operands_in choices ≡ in_written_order world (from + plan_width world plan) plans = let e = of in cc in
    let length_is : length choice.1 ≡ plan_width world plan = wide.0 route k choice.1 (subst (λ (p : PlacedOperand). contains (plan_rows_at world p.plan route k) choice.1 ≡ true) same among.0) in
    let columns_are : choice.0.columns ≡ range_with_len from (plan_width world plan) = ap (λ (p : PlacedOperand). p.columns) same in
    let rest = are-from world route k (from + plan_width world plan) plans choices wide.1 others among.1 in (
      (columns_are ∙ ap (range_with_len from) (sym length_is), subst (λ n. AreFrom (from + n) choices) (sym length_is) rest.0),
      (length_is ∙ sym (length-range_with_len from (plan_width world plan)) ∙ ap length (sym columns_are), rest.1),
    )

-- the operands in another order, put back, have the rows that they have in the written order
pub back-rows : (world : World) (plans : List Plan) (placed : List PlacedOperand) → AllByRecursion (HasItsWidth world) plans → IsPermutation (in_written_order world 0 plans) placed → (route : Name) (k : ℕ)
    → mapped (chosen (put_back placed)) (overlaid_rows_at world (operands_of placed) route k) ≡ overlaid_rows_at world (operands_of (in_written_order world 0 plans)) route k
back-rows world plans placed wide permutation route k = same_rows _ _ (λ row. either-way _ _ (there row) (and_back row))
  where
    order : List PlacedOperand
    order = in_written_order world 0 plans

    same_among : (choices : List Choice) (moved : List Choice) → IsPermutation choices moved → AreAmong world route k choices → AreAmong world route k moved
    same_among choices moved p among = recursion_from_All _ moved (All-permutation (λ choice. contains (plan_rows_at world choice.0.plan route k) choice.1 ≡ true) choices moved p (All-from_recursion _ choices among))

    there : (row : Row) → contains (mapped (chosen (put_back placed)) (overlaid_rows_at world (operands_of placed) route k)) row ≡ true → contains (overlaid_rows_at world (operands_of order) route k) row ≡ true
    there row e =
        let one = (changed (chosen (put_back placed)) (overlaid_rows_at world (operands_of placed) route k) row).0 e in
        let now = choices-of world route k placed one.from one.among in
        let before = move now.choices order (subst (λ l. IsPermutation l order) (sym now.of) (IsPermutation-sym order placed permutation)) in
        let among = same_among now.choices before.now before.moved now.among in
        let laid = are-from world route k 0 plans before.now wide before.of among in
        let joined_is = back before.now now.choices laid.0 laid.1 (IsPermutation-sym now.choices before.now before.moved) in
        let row_is : row ≡ joined before.now = one.is ∙ ap (chosen (put_back placed)) now.is ∙ ap (λ l. chosen (put_back l) (joined now.choices)) (sym now.of) ∙ joined_is in
        ap (contains (overlaid_rows_at world (operands_of order) route k)) row_is
        ∙ ap (λ l. contains (overlaid_rows_at world (operands_of l) route k) (joined before.now)) (sym before.of)
        ∙ of-choices world route k before.now among

    and_back : (row : Row) → contains (overlaid_rows_at world (operands_of order) route k) row ≡ true → contains (mapped (chosen (put_back placed)) (overlaid_rows_at world (operands_of placed) route k)) row ≡ true
    and_back row e =
        let before = choices-of world route k order row e in
        let laid = are-from world route k 0 plans before.choices wide before.of before.among in
        let now = move before.choices placed (subst (λ l. IsPermutation l placed) (sym before.of) permutation) in
        let among = same_among before.choices now.now now.moved before.among in
        (changed (chosen (put_back placed)) (overlaid_rows_at world (operands_of placed) route k) row).1 (record {
          from = joined now.now;
          among = ap (λ l. contains (overlaid_rows_at world (operands_of l) route k) (joined now.now)) (sym now.of) ∙ of-choices world route k now.now among;
          is = before.is ∙ sym (back before.choices now.now laid.0 laid.1 now.moved) ∙ ap (λ l. chosen (put_back l) (joined now.now)) now.of;
        })

-- What the numbers of a group are after the spans of a route.
use Rattle.std.proofs.Common.{◌≡◌, ℕ, ℤ, zero, suc, ◌+◌, ◌-◌, ◌*◌, ◌^◌, ◌<◌, ◌≤◌, min, max, Bool, true, false, ◌||◌, cond, List, [], ◌∷◌, length, Option, Some, None, is_some, unwrap_or, refl, sym, ap, ◌∙◌, subst, arith}
use Rattle.std.proofs.lemmas.Bool.{ltb-true, ltb-false}
use Rattle.std.proofs.lemmas.List.Sums.{sum_by-cons}
use Rattle.std.specs.Prelude.{nat_lt}
use Rattle.std.specs.List.{list_any, sum_by, fold}
use Rattle.rs_value.specs.Row.{Datum, null, number, text, Row}
use Rattle.rs_facts.specs.declared.totals.TheConstants.{GREATEST_TOTAL}
use Rattle.rs_facts.specs.Condition.{is_null}
use Rattle.rs_facts.specs.Operators.{datum_at}
use Rattle.rs_facts.specs.Runs.{Stretch}
use Rattle.rs_facts.specs.Totals.{is_of, above, below}
use Rattle.rs_total.specs.declared.numbers.Numbers.{Numbers}
use Rattle.rs_total.specs.declared.numbers.Sizes.{Sizes}
use Rattle.rs_total.specs.Counting.{no_numbers, along_line, with_places, within_limit, sizes_with, with_value, with_summed, with_span, kept_with, kept_along}
use Rattle.rs_total.specs.Totalling.{counts, is_above, is_below, AreSizes}
use Rattle.rs_total.proofs.Sums.{amount_if}
use Rattle.rs_total.proofs.SpanSums.{AreSpans, amount_along, reached}

-- ---- one span

abbrev past_start : ℕ → ℕ → ℕ
past_start start reach = reach - start

value_places : (facts : ℕ) (datum : Datum) (n : Numbers) → (with_value facts datum n).places ≡ n.places
value_places facts null n = refl
value_places facts (number z) n = refl
value_places facts (text bytes) n = refl

value_reach : (facts : ℕ) (datum : Datum) (n : Numbers) → (with_value facts datum n).reach ≡ n.reach
value_reach facts null n = refl
value_reach facts (number z) n = refl
value_reach facts (text bytes) n = refl

summed_places : (column : Option ℕ) (span : Stretch) (n : Numbers) → (with_summed column span n).places ≡ n.places
summed_places None span n = refl
summed_places (Some column) span n = value_places (span.hi - span.lo) (datum_at span.row column) n

summed_reach : (column : Option ℕ) (span : Stretch) (n : Numbers) → (with_summed column span n).reach ≡ n.reach
summed_reach None span n = refl
summed_reach (Some column) span n = value_reach (span.hi - span.lo) (datum_at span.row column) n

-- what fits is not cut
fitting : (a b m : ℕ) → a ≤ m → b ≡ a → min b m ≡ a
fitting a b m h e = omega arith

value_weight : (facts : ℕ) (datum : Datum) (n : Numbers) → n.weight + facts * cond (is_null datum) 0 1 ≤ 2 ^ 128 - 1 → (with_value facts datum n).weight ≡ n.weight + facts * cond (is_null datum) 0 1
value_weight facts null n h = omega arith
value_weight facts (number z) n h = omega arith
value_weight facts (text bytes) n h = omega arith

summed_weight : (column : Option ℕ) (span : Stretch) (n : Numbers) → n.weight + amount_along (counts column) span ≤ 2 ^ 128 - 1 → (with_summed column span n).weight ≡ n.weight + amount_along (counts column) span
summed_weight None span n h = omega arith
summed_weight (Some column) span n h = value_weight (span.hi - span.lo) (datum_at span.row column) n h

limit_sizes : (sizes : Sizes) (a b : ℕ) → sizes.above ≡ a → sizes.below ≡ b → AreSizes a b (within_limit sizes)
limit_sizes sizes a b e f =
    elim (nat_lt GREATEST_TOTAL (sizes.above + sizes.below)) as (λ t. nat_lt GREATEST_TOTAL (sizes.above + sizes.below) ≡ t → AreSizes a b (cond t None (Some sizes))) [
      | true ↦ λ t. let past = ltb-true GREATEST_TOTAL (sizes.above + sizes.below) t in omega (arith, e, f, past)
      | false ↦ λ t. let within = ltb-false GREATEST_TOTAL (sizes.above + sizes.below) t in (e, f, omega (arith, e, f, within))
    ] refl

-- once past the limit, always
stays_past : (a b c d : ℕ) → GREATEST_TOTAL < a + b → GREATEST_TOTAL < (a + c) + (b + d)
stays_past a b c d h = omega arith

value_sizes : (facts : ℕ) (datum : Datum) (n : Numbers) (a b : ℕ) → AreSizes a b n.sizes → AreSizes (a + facts * above datum) (b + facts * below datum) (with_value facts datum n).sizes
value_sizes facts datum n a b h = sized facts datum n.sizes a b h
  where
    none_more : (a facts : ℕ) → a + facts * 0 ≡ a
    none_more a facts = omega arith

    same : (a b c d : ℕ) (sizes : Option Sizes) → c ≡ a → d ≡ b → AreSizes a b sizes → AreSizes c d sizes
    same a b c d sizes e f h = subst (λ x. AreSizes x d sizes) (sym e) (subst (λ y. AreSizes a y sizes) (sym f) h)

    numbered : (facts : ℕ) (z : ℤ) (sizes : Option Sizes) (a b : ℕ) → AreSizes a b sizes → AreSizes (a + facts * above (number z)) (b + facts * below (number z)) (sizes_with facts z sizes)
    numbered facts z None a b h = stays_past a b (facts * above (number z)) (facts * below (number z)) h
    numbered facts z (Some sizes) a b h = limit_sizes (record { above = sizes.above + facts * above (number z); below = sizes.below + facts * below (number z) }) _ _ (ap (λ x. x + facts * above (number z)) h.0) (ap (λ x. x + facts * below (number z)) h.1)

    sized : (facts : ℕ) (datum : Datum) (sizes : Option Sizes) (a b : ℕ) → AreSizes a b sizes → AreSizes (a + facts * above datum) (b + facts * below datum) (with_value facts datum (record n { sizes = sizes })).sizes
    sized facts null sizes a b h = same a b _ _ sizes (none_more a facts) (none_more b facts) h
    sized facts (number z) sizes a b h = numbered facts z sizes a b h
    sized facts (text bytes) sizes a b h = same a b _ _ sizes (none_more a facts) (none_more b facts) h

summed_sizes : (column : Option ℕ) (span : Stretch) (n : Numbers) (a b : ℕ) → AreSizes a b n.sizes → AreSizes (a + amount_along (is_above column) span) (b + amount_along (is_below column) span) (with_summed column span n).sizes
summed_sizes None span n a b h = same (span.hi - span.lo) n.sizes h
  where
    same : (facts : ℕ) (sizes : Option Sizes) → AreSizes a b sizes → AreSizes (a + facts * 0) (b + facts * 0) sizes
    same facts sizes h = let e : a + facts * 0 ≡ a = omega arith in let f : b + facts * 0 ≡ b = omega arith in subst (λ x. AreSizes x (b + facts * 0) sizes) (sym e) (subst (λ y. AreSizes a y sizes) (sym f) h)
summed_sizes (Some column) span n a b h = value_sizes (span.hi - span.lo) (datum_at span.row column) n a b h

-- What a span of the group changes, on a route that begins at `start`.
record Takes (start : ℕ) (column : Option ℕ) (span : Stretch) (old new : Numbers) : Type 0 where
  places : old.places + (span.hi - max span.lo (past_start start old.reach)) ≤ 2 ^ 128 - 1 → new.places ≡ old.places + (span.hi - max span.lo (past_start start old.reach))
  reach : new.reach ≡ max old.reach (start + span.hi)
  weight : old.weight + amount_along (counts column) span ≤ 2 ^ 128 - 1 → new.weight ≡ old.weight + amount_along (counts column) span
  sizes : (a b : ℕ) → AreSizes a b old.sizes → AreSizes (a + amount_along (is_above column) span) (b + amount_along (is_below column) span) new.sizes

takes_span : (start : ℕ) (column : Option ℕ) (span : Stretch) (n : Numbers) → start + span.hi < 2 ^ 64 → span.lo < span.hi → Takes start column span n (with_span start column span n)
unfolding with_span
takes_span start column span n room some =
    let placed = with_places (along_line start span.lo) (along_line start span.hi) n in
    let lo : along_line start span.lo ≡ start + span.lo = omega arith in
    let hi : along_line start span.hi ≡ start + span.hi = omega arith in
    let new : along_line start span.hi - max (along_line start span.lo) n.reach ≡ span.hi - max span.lo (n.reach - start) = omega (arith, lo, hi) in
    record {
      places = λ h. summed_places column span placed ∙ fitting _ _ _ h (ap (λ x. n.places + x) new);
      reach = summed_reach column span placed ∙ ap (max n.reach) hi;
      weight = λ h. summed_weight column span placed h;
      sizes = λ a b h. summed_sizes column span placed a b h;
    }

-- ---- the spans of a route

module _ (test : Row → Bool) (start : ℕ) (column : Option ℕ) where
  abbrev pub numbers_with : Numbers → Stretch → Numbers
  numbers_with n span = cond (test span.row) (with_span start column span n) n

  -- What the spans of a route change.
  pub record TakesAll (spans : List Stretch) (top : ℕ) (old new : Numbers) : Type 0 where
    pub places : old.places + reached test (past_start start old.reach) spans ≤ 2 ^ 128 - 1 → new.places ≡ old.places + reached test (past_start start old.reach) spans
    pub reach : new.reach ≤ max old.reach (start + top)
    pub weight : old.weight + sum_by (amount_along (amount_if test (counts column))) spans ≤ 2 ^ 128 - 1 → new.weight ≡ old.weight + sum_by (amount_along (amount_if test (counts column))) spans
    pub sizes : (a b : ℕ) → AreSizes a b old.sizes → AreSizes (a + sum_by (amount_along (amount_if test (is_above column))) spans) (b + sum_by (amount_along (amount_if test (is_below column))) spans) new.sizes

  same_sizes : (a b c d : ℕ) (sizes : Option Sizes) → a ≡ c → b ≡ d → AreSizes a b sizes → AreSizes c d sizes
  same_sizes a b c d sizes e f h = subst (λ x. AreSizes x d sizes) e (subst (λ y. AreSizes a y sizes) f h)

  abbrev along_if : (Row → ℕ) → Stretch → ℕ
  along_if amount = amount_along (amount_if test amount)

  taken_first : (amount : Row → ℕ) (span : Stretch) (spans : List Stretch) (x : ℕ) → test span.row ≡ true → (x + amount_along amount span) + sum_by (along_if amount) spans ≡ x + sum_by (along_if amount) (span ∷ spans)
  taken_first amount span spans x e =
      let whole = sum_by-cons (along_if amount) span spans in
      let first : along_if amount span ≡ amount_along amount span = ap (λ t. (span.hi - span.lo) * cond t (amount span.row) 0) e in
      omega (arith, whole, first)

  left_first : (amount : Row → ℕ) (span : Stretch) (spans : List Stretch) → test span.row ≡ false → sum_by (along_if amount) spans ≡ sum_by (along_if amount) (span ∷ spans)
  left_first amount span spans e =
      let whole = sum_by-cons (along_if amount) span spans in
      let first : along_if amount span ≡ (span.hi - span.lo) * 0 = ap (λ t. (span.hi - span.lo) * cond t (amount span.row) 0) e in
      omega (arith, whole, first)

  taken_reached : (span : Stretch) (spans : List Stretch) (reach : ℕ) → test span.row ≡ true → reached test reach (span ∷ spans) ≡ (span.hi - max span.lo reach) + reached test (max reach span.hi) spans
  taken_reached span spans reach e = ap (λ t. cond t ((span.hi - max span.lo reach) + reached test (max reach span.hi) spans) (reached test reach spans)) e

  left_reached : (span : Stretch) (spans : List Stretch) (reach : ℕ) → test span.row ≡ false → reached test reach (span ∷ spans) ≡ reached test reach spans
  left_reached span spans reach e = ap (λ t. cond t ((span.hi - max span.lo reach) + reached test (max reach span.hi) spans) (reached test reach spans)) e

  then_rest : (span : Stretch) (spans : List Stretch) (top : ℕ) (old mid new : Numbers) → test span.row ≡ true → span.hi ≤ top → Takes start column span old mid → TakesAll spans top mid new → TakesAll (span ∷ spans) top old new
  then_rest span spans top old mid new e high one rest =
      let now = past_start start old.reach in
      let on : past_start start mid.reach ≡ max now span.hi = omega (arith, one.reach) in
      let tail : reached test (past_start start mid.reach) spans ≡ reached test (max now span.hi) spans = ap (λ r. reached test r spans) on in
      let whole = taken_reached span spans now e in
      let weighed = taken_first (counts column) span spans old.weight e in
      record {
        places = λ h.
            let first = one.places (omega (arith, h, whole)) in
            let last = rest.places (omega (arith, h, whole, first, tail)) in
            omega (arith, first, last, whole, tail);
        reach = omega (arith, one.reach, rest.reach, high);
        weight = λ h.
            let first = one.weight (omega (arith, h, weighed)) in
            let last = rest.weight (omega (arith, h, weighed, first)) in
            omega (arith, first, last, weighed);
        sizes = λ a b h. same_sizes _ _ _ _ new.sizes (taken_first (is_above column) span spans a e) (taken_first (is_below column) span spans b e) (rest.sizes _ _ (one.sizes a b h));
      }

  left_out : (span : Stretch) (spans : List Stretch) (top : ℕ) (old new : Numbers) → test span.row ≡ false → TakesAll spans top old new → TakesAll (span ∷ spans) top old new
  left_out span spans top old new e rest =
      let whole = left_reached span spans (past_start start old.reach) e in
      let weighed = left_first (counts column) span spans e in
      record {
        places = λ h. let last = rest.places (omega (arith, h, whole)) in omega (arith, last, whole);
        reach = rest.reach;
        weight = λ h. let last = rest.weight (omega (arith, h, weighed)) in omega (arith, last, weighed);
        sizes = λ a b h. same_sizes _ _ _ _ new.sizes (ap (λ n. a + n) (left_first (is_above column) span spans e)) (ap (λ n. b + n) (left_first (is_below column) span spans e)) (rest.sizes a b h);
      }

  pub takes-all : (from top : ℕ) (spans : List Stretch) (n : Numbers) → AreSpans from top spans → start + top < 2 ^ 64 → TakesAll spans top n (fold numbers_with n spans)
  takes-all from top [] n inside room = record {
    places = λ h. omega arith;
    reach = omega arith;
    weight = λ h. omega arith;
    sizes = λ a b h. same_sizes _ _ _ _ n.sizes (omega arith) (omega arith) h;
  }
  takes-all from top (span ∷ spans) n inside room =
      elim (test span.row) as (λ t. test span.row ≡ t → TakesAll (span ∷ spans) top n (fold numbers_with (cond t (with_span start column span n) n) spans)) [
        | true ↦ λ e. then_rest span spans top n (with_span start column span n) _ e inside.0.2 (takes_span start column span n (omega (arith, inside.0.2, room)) inside.0.1) (takes-all from top spans (with_span start column span n) inside.1 room)
        | false ↦ λ e. left_out span spans top n _ e (takes-all from top spans n inside.1 room)
      ] refl

  -- ---- how much a route can add

  pub few-amounts : (amount : Row → ℕ) → ((row : Row) → amount row ≤ 1) → (from top : ℕ) (spans : List Stretch) → AreSpans from top spans → top < 2 ^ 32 → sum_by (along_if amount) spans ≤ length spans * 2 ^ 32
  few-amounts amount small from top [] inside short = omega arith
  few-amounts amount small from top (span ∷ spans) inside short =
      let rest = few-amounts amount small from top spans inside.1 short in
      let whole = sum_by-cons (along_if amount) span spans in
      let first : along_if amount span ≤ span.hi - span.lo = at_most (test span.row) (span.hi - span.lo) (amount span.row) (small span.row) in
      omega (arith, rest, whole, first, inside.0.2)
    where
      at_most : (t : Bool) (n a : ℕ) → a ≤ 1 → n * cond t a 0 ≤ n
      at_most true n zero h = omega arith
      at_most true n (suc zero) h = omega arith
      at_most true n (suc (suc a)) h = absurd (omega arith)
      at_most false n a h = omega arith

  pub few-reached : (from top : ℕ) (spans : List Stretch) → AreSpans from top spans → top < 2 ^ 32 → (reach : ℕ) → reached test reach spans ≤ length spans * 2 ^ 32
  few-reached from top [] inside short reach = omega arith
  few-reached from top (span ∷ spans) inside short reach =
      elim (test span.row) as (λ t. cond t ((span.hi - max span.lo reach) + reached test (max reach span.hi) spans) (reached test reach spans) ≤ suc (length spans) * 2 ^ 32) [
        | true ↦ let rest = few-reached from top spans inside.1 short (max reach span.hi) in omega (arith, rest, inside.0.2)
        | false ↦ let rest = few-reached from top spans inside.1 short reach in omega (arith, rest)
      ]

-- ---- what is kept of a group

kept_or : {X : Type 0} (t : Bool) (x : X) (kept : Option X) (d : X) → unwrap_or (cond t (Some x) kept) d ≡ cond t x (unwrap_or kept d)
kept_or true x kept d = refl
kept_or false x kept d = refl

some_or : {X : Type 0} (t : Bool) (x : X) (kept : Option X) → is_some (cond t (Some x) kept) ≡ (t || is_some kept)
some_or true x kept = refl
some_or false x kept = refl

module _ (by : List ℕ) (column : Option ℕ) (start : ℕ) (group : Row) where
  pub kept-numbers : (kept : Option Numbers) (spans : List Stretch) → unwrap_or (kept_along by column start group kept spans) no_numbers ≡ fold (numbers_with (is_of by group) start column) (unwrap_or kept no_numbers) spans
  unfolding kept_along
  kept-numbers kept [] = refl
  kept-numbers kept (span ∷ spans) =
      kept-numbers (kept_with by column start group kept span) spans
      ∙ ap (λ n. fold (numbers_with (is_of by group) start column) n spans) (kept_or (is_of by group span.row) (with_span start column span (unwrap_or kept no_numbers)) kept no_numbers)

  pub kept-some : (kept : Option Numbers) (spans : List Stretch) → is_some (kept_along by column start group kept spans) ≡ (is_some kept || list_any (λ span. is_of by group span.row) spans)
  unfolding kept_along
  kept-some kept [] = sym (or_false (is_some kept))
    where
      or_false : (t : Bool) → (t || false) ≡ t
      or_false true = refl
      or_false false = refl
  kept-some kept (span ∷ spans) =
      kept-some (kept_with by column start group kept span) spans
      ∙ ap (λ t. t || list_any (λ s. is_of by group s.row) spans) (some_or (is_of by group span.row) (with_span start column span (unwrap_or kept no_numbers)) kept)
      ∙ turned (is_of by group span.row) (is_some kept) (list_any (λ s. is_of by group s.row) spans)
    where
      turned : (a b c : Bool) → ((a || b) || c) ≡ (b || (a || c))
      turned true true c = refl
      turned true false c = refl
      turned false true c = refl
      turned false false c = refl

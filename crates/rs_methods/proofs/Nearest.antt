-- The nearest referent below a measure: what it is, and that its name is found where it stands.
use Rattle.std.proofs.Common.{◌≡◌, ℕ, ◌+◌, ◌-◌, ◌≤◌, ◌⊎◌, Bool, true, false, cond, not, ◌&&◌, List, [], ◌∷◌, map, Contains, Some, None, Result, Ok, Err, IfOk, String, string_bytes, nat_eq, nat_le, zero, suc, refl, sym, ap, ◌∙◌, subst, inl, inr, arith}
use Rattle.std.specs.declared.cmp.Ordering.{Ordering}
use Rattle.std.specs.declared.cmp.Ordering.TheVariants.{Less, Equal, Greater}
use Rattle.std.specs.Cmp.{IsTotalOrder}
use Rattle.std.specs.Ordering.{nat_cmp, ordering_then, ordering_reverse, is_lt, is_gt}
use Rattle.std.specs.Cmp.Lexicographic.{slice_cmp}
use Rattle.std.specs.Str.{bytes_eq}
use Rattle.std.specs.FinMap.{is_sorted, nat_cmp-IsAntisymmetric, slice_cmp-IsAntisymmetric}
use Rattle.std.specs.FinMap.Entries.{below_all}
use Rattle.std.proofs.lemmas.Cmp.{nat_cmp_total, nat_list_cmp_total, on_total, then_total, back_total, tied_itself, upto, ranked}
use Rattle.std.proofs.lemmas.List.Elements.{Contains-append_cases, Contains-append_right}
use Rattle.std.proofs.lemmas.Slice.Eq.{bytes_eq-Decides}
use Rattle.std.proofs.lemmas.Bool.Decides.{nat_tests, Decides-eqb}
use Rattle.rs_methods.specs.declared.referents.Referent.{Referent}
use Rattle.rs_methods.specs.Position.{start_name, measure_of, referent_measure, nearness_cmp, nearer, nearest_from, nearest, IsCandidate, IsNearest, beyond, on_route, located_beyond, located, expression_text}
use Rattle.rs_methods.specs.Referents.{key_cmp, entry_of, is_key, AreReferents, referents_of}
use Rattle.rs_methods.proofs.ReferentList.{key_cmp_total, first, second, never_start, measure_of_step, key_of}

-- a referent of a route: its name and its measure
abbrev pub Mark : Type 0
Mark = List ℕ × ℕ

pub nearness_cmp_total : IsTotalOrder nearness_cmp
unfolding nearness_cmp
nearness_cmp_total = then_total (on_total (λ (mark : List ℕ × ℕ). mark.1) (back_total nat_cmp_total)) (on_total (λ (mark : List ℕ × ℕ). mark.0) nat_list_cmp_total)

-- One step of the code's loop.
pub nearest_step : (k : ℕ) (best mark : Mark) (marks : List Mark) (taken : Bool) → taken ≡ (nat_le mark.1 k && is_lt (nearness_cmp mark best)) → nearest_from k best (mark ∷ marks) ≡ nearest_from k (cond taken mark best) marks
nearest_step k best mark marks taken is = ap (λ b. nearest_from k (cond b mark best) marks) (sym is)

-- the one taken of two is one of them
pub nearer_is_one : (test : Bool) (best mark : Mark) → (cond test mark best ≡ best) ⊎ (cond test mark best ≡ mark)
nearer_is_one true best mark = inr refl
nearer_is_one false best mark = inl refl

-- The nearest is the first or among the others.
pub nearest_from_among : (k : ℕ) (best : Mark) (marks : List Mark) → (nearest_from k best marks ≡ best) ⊎ Contains marks (nearest_from k best marks)
nearest_from_among k best [] = inl refl
nearest_from_among k best (mark ∷ marks) =
    elim (nearest_from_among k (nearer k best mark) marks) as (λ _. (nearest_from k (nearer k best mark) marks ≡ best) ⊎ Contains (mark ∷ marks) (nearest_from k (nearer k best mark) marks)) [
      | inl same ↦ elim (nearer_is_one (nat_le mark.1 k && is_lt (nearness_cmp mark best)) best mark) as (λ _. (nearest_from k (nearer k best mark) marks ≡ best) ⊎ Contains (mark ∷ marks) (nearest_from k (nearer k best mark) marks)) [
        | inl old ↦ inl (same ∙ old)
        | inr new ↦ inr (0, omega arith, sym (same ∙ new))
      ]
      | inr among ↦ inr (Contains-append_right (mark ∷ []) marks (nearest_from k (nearer k best mark) marks) among)
    ]

pub nearer_not_above : (k : ℕ) (le lt : Bool) (best mark : Mark) → le ≡ nat_le mark.1 k → best.1 ≤ k → (cond (le && lt) mark best).1 ≤ k
nearer_not_above k true true best mark is low = grind (arith, nat_tests)
nearer_not_above k true false best mark is low = low
nearer_not_above k false lt best mark is low = low

pub nearest_from_not_above : (k : ℕ) (best : Mark) (marks : List Mark) → best.1 ≤ k → (nearest_from k best marks).1 ≤ k
nearest_from_not_above k best [] low = low
nearest_from_not_above k best (mark ∷ marks) low = nearest_from_not_above k (nearer k best mark) marks (nearer_not_above k (nat_le mark.1 k) (is_lt (nearness_cmp mark best)) best mark refl low)

-- `a` is at least as near as `b`.
abbrev pub AsNear : Mark → Mark → Type 0
AsNear a b = is_gt (nearness_cmp a b) ≡ false

as_near_itself : (a : Mark) → AsNear a a
as_near_itself a = ap is_gt (tied_itself nearness_cmp_total a)

as_near_through : (a b c : Mark) → AsNear a b → AsNear b c → AsNear a c
as_near_through = upto nearness_cmp_total

not_gt_of_lt : (order : Ordering) → is_lt order ≡ true → is_gt order ≡ false
not_gt_of_lt Less is = refl
not_gt_of_lt Equal is = refl
not_gt_of_lt Greater is = cc

not_gt_of_not_lt_back : (order : Ordering) → is_lt order ≡ false → is_gt (ordering_reverse order) ≡ false
not_gt_of_not_lt_back Less is = cc
not_gt_of_not_lt_back Equal is = refl
not_gt_of_not_lt_back Greater is = refl

pub nearer_as_near : (best mark : Mark) (lt : Bool) → lt ≡ is_lt (nearness_cmp mark best) → AsNear (cond lt mark best) best × AsNear (cond lt mark best) mark
nearer_as_near best mark true is = (not_gt_of_lt (nearness_cmp mark best) (sym is), as_near_itself mark)
nearer_as_near best mark false is = (as_near_itself best, ap is_gt (nearness_cmp_total.antisymm best mark) ∙ not_gt_of_not_lt_back (nearness_cmp mark best) (sym is))

pub nearer_best : (k : ℕ) (best mark : Mark) (le : Bool) → le ≡ nat_le mark.1 k → AsNear (cond (le && is_lt (nearness_cmp mark best)) mark best) best
nearer_best k best mark true is = (nearer_as_near best mark (is_lt (nearness_cmp mark best)) refl).0
nearer_best k best mark false is = as_near_itself best

pub nearer_mark : (k : ℕ) (best mark : Mark) (le : Bool) → le ≡ nat_le mark.1 k → mark.1 ≤ k → AsNear (cond (le && is_lt (nearness_cmp mark best)) mark best) mark
nearer_mark k best mark true is low = (nearer_as_near best mark (is_lt (nearness_cmp mark best)) refl).1
nearer_mark k best mark false is low = absurd (grind (arith, nat_tests))

pub nearest_from_best : (k : ℕ) (best : Mark) (marks : List Mark) → AsNear (nearest_from k best marks) best
nearest_from_best k best [] = as_near_itself best
nearest_from_best k best (mark ∷ marks) =
    as_near_through (nearest_from k (nearer k best mark) marks) (nearer k best mark) best (nearest_from_best k (nearer k best mark) marks) (nearer_best k best mark (nat_le mark.1 k) refl)

pub only : (mark other : Mark) → Contains (mark ∷ []) other → mark ≡ other
only mark other (zero, within, is) = is
only mark other (suc n, within, is) = absurd (omega (arith, within))

pub nearest_from_each : (k : ℕ) (best : Mark) (marks : List Mark) (other : Mark) → Contains marks other → other.1 ≤ k → AsNear (nearest_from k best marks) other
nearest_from_each k best [] other among low = absurd (omega (arith, among.1))
nearest_from_each k best (mark ∷ marks) other among low =
    elim (Contains-append_cases (mark ∷ []) marks other among) as (λ _. AsNear (nearest_from k (nearer k best mark) marks) other) [
      | inl here ↦ as_near_through (nearest_from k (nearer k best mark) marks) (nearer k best mark) other
          (nearest_from_best k (nearer k best mark) marks)
          (subst (λ m. AsNear (nearer k best mark) m) (only mark other here) (nearer_mark k best mark (nat_le mark.1 k) refl (subst (λ (m : Mark). m.1 ≤ k) (sym (only mark other here)) low)))
      | inr later ↦ nearest_from_each k (nearer k best mark) marks other later low
    ]

-- So it is the referent with the greatest measure, and the least name there.
greatest_of_near : (a b : Mark) → AsNear a b → b.1 ≤ a.1
unfolding nearness_cmp
greatest_of_near a b near =
    elim (nat_cmp b.1 a.1) as (λ o. o ≡ nat_cmp b.1 a.1 → is_gt (ordering_then o (slice_cmp nat_cmp a.0 b.0)) ≡ false → b.1 ≤ a.1) [
      | Less ↦ λ is h. omega (arith, ranked b.1 a.1 Less is)
      | Equal ↦ λ is h. omega (arith, ranked b.1 a.1 Equal is)
      | Greater ↦ λ is h. cc
    ] refl near

not_lt_of_not_gt_back : (order : Ordering) → is_gt order ≡ false → is_lt (ordering_reverse order) ≡ false
not_lt_of_not_gt_back Less is = refl
not_lt_of_not_gt_back Equal is = refl
not_lt_of_not_gt_back Greater is = cc

least_of_near : (name : List ℕ) (a : Mark) → AsNear a (name, a.1) → is_lt (slice_cmp nat_cmp name a.0) ≡ false
unfolding nearness_cmp
least_of_near name a near =
    let names : is_gt (slice_cmp nat_cmp a.0 name) ≡ false = sym (ap (λ o. is_gt (ordering_then o (slice_cmp nat_cmp a.0 name))) (tied_itself nat_cmp_total a.1)) ∙ near in
    ap is_lt (nat_list_cmp_total.antisymm name a.0) ∙ not_lt_of_not_gt_back (slice_cmp nat_cmp a.0 name) names

as_near_candidate : (start : ℕ) (referents : List Mark) (k : ℕ) (name : List ℕ) (measure : ℕ) → IsCandidate start referents name measure → measure ≤ k → AsNear (nearest start referents k) (name, measure)
as_near_candidate start referents k name measure (inl is) low =
    let same : ◌≡◌ {A = Mark} (start_name, start) (name, measure) = λ i. (sym is.0 i, sym is.1 i) in
    subst (λ (m : Mark). AsNear (nearest start referents k) m) same (nearest_from_best k (start_name, start) referents)
as_near_candidate start referents k name measure (inr among) low = nearest_from_each k (start_name, start) referents (name, measure) among low

candidate_of : (start : ℕ) (referents : List Mark) (near : Mark) → (near ≡ (start_name, start)) ⊎ Contains referents near → IsCandidate start referents near.0 near.1
candidate_of start referents near (inl is) = inl (ap (λ (m : Mark). m.0) is, ap (λ (m : Mark). m.1) is)
candidate_of start referents near (inr among) = inr among

pub nearest_is_nearest : (start : ℕ) (referents : List Mark) (k : ℕ) → start ≤ k → IsNearest start referents k (nearest start referents k)
nearest_is_nearest start referents k low = record {
  candidate = candidate_of start referents (nearest start referents k) (nearest_from_among k (start_name, start) referents);
  not_above = nearest_from_not_above k (start_name, start) referents low;
  greatest = λ name measure candidate below. greatest_of_near (nearest start referents k) (name, measure) (as_near_candidate start referents k name measure candidate below);
  least_name = λ name candidate. least_of_near name (nearest start referents k) (as_near_candidate start referents k name (nearest start referents k).1 candidate (nearest_from_not_above k (start_name, start) referents low));
}

-- There is one such referent.
equal_of_neither : (order : Ordering) → is_lt order ≡ false → is_lt (ordering_reverse order) ≡ false → order ≡ Equal
equal_of_neither Less a b = cc
equal_of_neither Equal a b = refl
equal_of_neither Greater a b = cc

pub nearest_is_one : (start : ℕ) (referents : List Mark) (k : ℕ) (a b : Mark) → IsNearest start referents k a → IsNearest start referents k b → a ≡ b
nearest_is_one start referents k a b near other =
    let up : b.1 ≤ a.1 = near.greatest b.0 b.1 other.candidate other.not_above in
    let down : a.1 ≤ b.1 = other.greatest a.0 a.1 near.candidate near.not_above in
    let measures : a.1 ≡ b.1 = omega arith in
    let no_less : is_lt (slice_cmp nat_cmp b.0 a.0) ≡ false = near.least_name b.0 (subst (λ m. IsCandidate start referents b.0 m) (sym measures) other.candidate) in
    let not_less : is_lt (slice_cmp nat_cmp a.0 b.0) ≡ false = other.least_name a.0 (subst (λ m. IsCandidate start referents a.0 m) measures near.candidate) in
    let tied : slice_cmp nat_cmp a.0 b.0 ≡ Equal = equal_of_neither (slice_cmp nat_cmp a.0 b.0) not_less (sym (ap is_lt (nat_list_cmp_total.antisymm b.0 a.0)) ∙ no_less) in
    let names : a.0 ≡ b.0 = slice_cmp-IsAntisymmetric nat_cmp-IsAntisymmetric a.0 b.0 tied in
    λ i. (names i, measures i)

-- In a list of referents the nearest is found by its name.
below_other : (route : ℕ) (name : List ℕ) (key : ℕ × List ℕ) → is_lt (key_cmp (route, name) key) ≡ true → is_key route name key ≡ false
below_other route name key below =
    elim (is_key route name key) as (λ b. is_key route name key ≡ b → b ≡ false) [
      | true ↦ λ same. sym below ∙ ap is_lt (subst (λ (q : ℕ × List ℕ). key_cmp (route, name) q ≡ Equal) (key_of route name key same) (tied_itself key_cmp_total (route, name)))
      | false ↦ λ same. refl
    ] refl

unfound_below : (route : ℕ) (name : List ℕ) (es : List ((ℕ × List ℕ) × ℕ)) → below_all key_cmp (route, name) es ≡ true → measure_of name (referents_of route es) ≡ None
unfound_below route name [] below = refl
unfound_below route name (e ∷ es) below =
    measure_of_step name (nat_eq e.0.0 route) (e.0.1, e.1) (referents_of route es)
    ∙ (ap (λ b. cond b (Some e.1) (measure_of name (referents_of route es))) (below_other route name e.0 (first _ _ below))
    ∙ unfound_below route name es (second _ _ below))

not_true : (b : Bool) → not b ≡ true → b ≡ false
not_true true is = cc
not_true false is = refl

and_false : (a b : Bool) → b ≡ false → (a && b) ≡ false
and_false true b is = is
and_false false b is = refl

unfound_start : (route : ℕ) (es : List ((ℕ × List ℕ) × ℕ)) → never_start es ≡ true → measure_of start_name (referents_of route es) ≡ None
unfound_start route [] never = refl
unfound_start route (e ∷ es) never =
    measure_of_step start_name (nat_eq e.0.0 route) (e.0.1, e.1) (referents_of route es)
    ∙ (ap (λ b. cond b (Some e.1) (measure_of start_name (referents_of route es))) (and_false (nat_eq e.0.0 route) (bytes_eq e.0.1 start_name) (not_true (bytes_eq e.0.1 start_name) (first _ _ never)))
    ∙ unfound_start route es (second _ _ never))

bytes_eq_itself : (xs : List ℕ) → bytes_eq xs xs ≡ true
bytes_eq_itself xs = (bytes_eq-Decides xs xs).1 refl

-- a name found after another that is not among the rest
found_behind : (mark near : Mark) (marks : List Mark) → measure_of mark.0 marks ≡ None → measure_of near.0 marks ≡ Some near.1 → measure_of near.0 (mark ∷ marks) ≡ Some near.1
found_behind mark near marks unfound found =
    elim (bytes_eq mark.0 near.0) as (λ b. bytes_eq mark.0 near.0 ≡ b → cond b (Some mark.1) (measure_of near.0 marks) ≡ Some near.1) [
      | true ↦ λ same. let none : measure_of near.0 marks ≡ None = subst (λ n. measure_of n marks ≡ None) ((bytes_eq-Decides mark.0 near.0).0 same) unfound in cc
      | false ↦ λ same. found
    ] refl

found_first : (mark near : Mark) (marks : List Mark) → near ≡ mark → measure_of near.0 (mark ∷ marks) ≡ Some near.1
found_first mark near marks is = subst (λ (m : Mark). measure_of m.0 (mark ∷ marks) ≡ Some m.1) (sym is) (ap (λ b. cond b (Some mark.1) (measure_of mark.0 marks)) (bytes_eq_itself mark.0))

nearest_found : (k route : ℕ) (es : List ((ℕ × List ℕ) × ℕ)) (best : Mark) → is_sorted key_cmp es ≡ true
    → (nearest_from k best (referents_of route es) ≡ best) ⊎ (measure_of (nearest_from k best (referents_of route es)).0 (referents_of route es) ≡ Some (nearest_from k best (referents_of route es)).1)
nearest_found k route [] best sorted = inl refl
nearest_found k route (e ∷ es) best sorted =
    let mark : Mark = (e.0.1, e.1) in
    let rest : List Mark = referents_of route es in
    elim (nat_eq e.0.0 route) as (λ s. nat_eq e.0.0 route ≡ s → (nearest_from k best (cond s (mark ∷ rest) rest) ≡ best) ⊎ (measure_of (nearest_from k best (cond s (mark ∷ rest) rest)).0 (cond s (mark ∷ rest) rest) ≡ Some (nearest_from k best (cond s (mark ∷ rest) rest)).1)) [
      | true ↦ λ same. elim (nearest_found k route es (nearer k best mark) (second _ _ sorted)) as (λ _. (nearest_from k (nearer k best mark) rest ≡ best) ⊎ (measure_of (nearest_from k (nearer k best mark) rest).0 (mark ∷ rest) ≡ Some (nearest_from k (nearer k best mark) rest).1)) [
        | inl is ↦ elim (nearer_is_one (nat_le mark.1 k && is_lt (nearness_cmp mark best)) best mark) as (λ _. (nearest_from k (nearer k best mark) rest ≡ best) ⊎ (measure_of (nearest_from k (nearer k best mark) rest).0 (mark ∷ rest) ≡ Some (nearest_from k (nearer k best mark) rest).1)) [
          | inl old ↦ inl (is ∙ old)
          | inr new ↦ inr (found_first mark (nearest_from k (nearer k best mark) rest) rest (is ∙ new))
        ]
        | inr found ↦ inr (found_behind mark (nearest_from k (nearer k best mark) rest) rest
            (unfound_below route e.0.1 es (subst (λ r. below_all key_cmp (r, e.0.1) es ≡ true) ((Decides-eqb e.0.0 route).0 same) (first _ _ sorted))) found)
      ]
      | false ↦ λ same. nearest_found k route es best (second _ _ sorted)
    ] refl

pub nearest_found_again : (start k route : ℕ) (es : List ((ℕ × List ℕ) × ℕ)) → AreReferents es
    → referent_measure start (referents_of route es) (nearest start (referents_of route es) k).0 ≡ Some (nearest start (referents_of route es) k).1
nearest_found_again start k route es are =
    let near : Mark = nearest start (referents_of route es) k in
    elim (nearest_found k route es (start_name, start) are.sorted) as (λ _. referent_measure start (referents_of route es) near.0 ≡ Some near.1) [
      | inl is ↦ subst (λ (m : Mark). referent_measure start (referents_of route es) m.0 ≡ Some m.1) (sym is) refl
      | inr found ↦ elim (bytes_eq start_name near.0) as (λ b. bytes_eq start_name near.0 ≡ b → cond b (Some start) (measure_of near.0 (referents_of route es)) ≡ Some near.1) [
        | true ↦ λ same. let none : measure_of near.0 (referents_of route es) ≡ None = subst (λ n. measure_of n (referents_of route es) ≡ None) ((bytes_eq-Decides start_name near.0).0 same) (unfound_start route es are.never_start) in cc
        | false ↦ λ same. found
      ] refl
    ]

pub found_by_code : (start k route : ℕ) (es : List ((ℕ × List ℕ) × ℕ)) (items : List Referent) (first_name : List ℕ) (near : Mark)
    → first_name ≡ start_name → map entry_of items ≡ es → near ≡ nearest_from k (first_name, start) (referents_of route (map entry_of items)) → AreReferents (map entry_of items)
    → referent_measure start (referents_of route es) near.0 ≡ Some near.1
found_by_code start k route es items first_name near same_name view is are =
    let now : near ≡ nearest start (referents_of route es) k = is ∙ (ap (λ n. nearest_from k (n, start) (referents_of route (map entry_of items))) same_name ∙ ap (λ l. nearest start (referents_of route l) k) view) in
    subst (λ (m : Mark). referent_measure start (referents_of route es) m.0 ≡ Some m.1) (sym now) (nearest_found_again start k route es (subst AreReferents view are))

-- A measure of the route is located where it is.
pub on_route_itself : (start finish k : ℕ) → start ≤ k → k ≤ finish → on_route start finish k ≡ Ok k
on_route_itself start finish k low high = grind (arith, nat_tests)

pub located_relative : (start finish : ℕ) (referents : List Mark) (k : ℕ) (near : Mark) → start ≤ k → k ≤ finish → near.1 ≤ k → referent_measure start referents near.0 ≡ Some near.1 → located start finish referents (beyond near.0 (k - near.1)) ≡ Ok k
located_relative start finish referents k near low high not_above found =
    ap (λ r. located_beyond start finish r (k - near.1)) found
    ∙ let back : near.1 + (k - near.1) ≡ k = omega arith in (ap (on_route start finish) back ∙ on_route_itself start finish k low high)

-- The text and the place of what the code prints by a referent.
pub text_of_near : (start k measure : ℕ) (referents : List Mark) (name bytes : List ℕ) (near : Mark) → near ≡ nearest start referents k → name ≡ near.0 → measure ≡ k - near.1 → bytes ≡ expression_text (beyond name measure)
    → bytes ≡ expression_text (beyond (nearest start referents k).0 (k - (nearest start referents k).1))
text_of_near start k measure referents name bytes near is same_name same_measure printed =
    printed ∙ (ap (λ n. expression_text (beyond n measure)) same_name ∙ (ap (λ m. expression_text (beyond near.0 m)) same_measure ∙ ap (λ (m : Mark). expression_text (beyond m.0 (k - m.1))) is))

pub text_ok_of_near : {A E : Type 0} (start k measure : ℕ) (referents : List Mark) (name : List ℕ) (near : Mark) (r : Result (String A) E) → near ≡ nearest start referents k → name ≡ near.0 → measure ≡ k - near.1 → IfOk r (λ text. string_bytes text ≡ expression_text (beyond name measure))
    → IfOk r (λ text. string_bytes text ≡ expression_text (beyond (nearest start referents k).0 (k - (nearest start referents k).1)))
text_ok_of_near start k measure referents name near (Ok text) is same_name same_measure printed = text_of_near start k measure referents name (string_bytes text) near is same_name same_measure printed
text_ok_of_near start k measure referents name near (Err e) is same_name same_measure printed = tt

pub place_of_near : (start finish : ℕ) (referents : List Mark) (k : ℕ) (near : Mark) → near ≡ nearest start referents k → start ≤ k → k ≤ finish → near.1 ≤ k → referent_measure start referents near.0 ≡ Some near.1
    → located start finish referents (beyond (nearest start referents k).0 (k - (nearest start referents k).1)) ≡ Ok k
place_of_near start finish referents k near is low high not_above found =
    subst (λ (m : Mark). located start finish referents (beyond m.0 (k - m.1)) ≡ Ok k) is (located_relative start finish referents k near low high not_above found)

-- What is printed by the nearest is printed by whichever referent is described as the nearest.
pub text_by_nearest : {A E : Type 0} (start k : ℕ) (referents : List Mark) (r : Result (String A) E) → start ≤ k → IfOk r (λ text. string_bytes text ≡ expression_text (beyond (nearest start referents k).0 (k - (nearest start referents k).1)))
    → (near : Mark) → IsNearest start referents k near → IfOk r (λ text. string_bytes text ≡ expression_text (beyond near.0 (k - near.1)))
text_by_nearest start k referents r low printed near is =
    subst (λ (m : Mark). IfOk r (λ text. string_bytes text ≡ expression_text (beyond m.0 (k - m.1)))) (nearest_is_one start referents k (nearest start referents k) near (nearest_is_nearest start referents k low) is) printed

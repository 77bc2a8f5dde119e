-- Where a search ends in the list of referents: at the key, or where the key belongs.
use Rattle.std.proofs.Common.{◌≡◌, ℕ, ◌+◌, ◌<◌, ◌≤◌, true, false, List, [], ◌∷◌, ◌++◌, length, map, get_or, take, drop, Some, None, Result, Ok, Err, IfOk, IfErr, nat_eq, zero, suc, refl, sym, ap, ◌∙◌, subst, inl, inr, arith, add-one}
use Rattle.std.specs.declared.cmp.Ordering.{Ordering}
use Rattle.std.specs.declared.cmp.Ordering.TheVariants.{Less, Equal, Greater}
use Rattle.std.specs.Ordering.{nat_cmp, ordering_then, ordering_reverse, ordering_index, is_lt}
use Rattle.std.specs.Cmp.Lexicographic.{slice_cmp}
use Rattle.std.specs.Str.{bytes_eq}
use Rattle.std.specs.FinMap.{put, is_sorted, nat_cmp-IsAntisymmetric, slice_cmp-IsAntisymmetric}
use Rattle.std.specs.FinMap.Entries.{below_all}
use Rattle.std.specs.List.Sorted.{IsSearchInRange, IsBinarySearchResult, IsNonDecreasingBy, IsSortedBy}
use Rattle.std.proofs.lemmas.Bool.{cases_lt}
use Rattle.std.proofs.lemmas.Bool.Decides.{Decides-eqb}
use Rattle.std.proofs.lemmas.Cmp.{ranked, tied_itself}
use Rattle.std.proofs.lemmas.List.Sorted.{searchable_from_sorted}
use Rattle.std.proofs.lemmas.Slice.Eq.{bytes_eq-Decides}
use Rattle.rs_methods.specs.declared.referents.Referent.{Referent}
use Rattle.rs_methods.specs.Referents.{key_cmp, entry_of, is_key, AreReferents}
use Rattle.rs_methods.specs.Inner.{IsFound, IsAbsent}
use Rattle.rs_methods.proofs.ReferentList.{key_cmp_total, first, second, both, key_of, Passed, passed_more, found_here, absent_here, found_in, found_in-here, found_in-past}

-- A key ties with its route and name, and with no other.
tied_is_key : (route : ℕ) (name : List ℕ) (key : ℕ × List ℕ) → key_cmp (route, name) key ≡ Equal → is_key route name key ≡ true
unfolding key_cmp
tied_is_key route name key tied =
    elim (nat_cmp route key.0) as (λ o. o ≡ nat_cmp route key.0 → ordering_then o (slice_cmp nat_cmp name key.1) ≡ Equal → is_key route name key ≡ true) [
      | Less ↦ λ is h. cc
      | Equal ↦ λ is h.
          both (nat_eq key.0 route) (bytes_eq key.1 name) ((Decides-eqb key.0 route).1 (sym (ranked route key.0 Equal is)))
          ((bytes_eq-Decides key.1 name).1 (sym (slice_cmp-IsAntisymmetric nat_cmp-IsAntisymmetric name key.1 h)))
      | Greater ↦ λ is h. cc
    ] refl tied

untied_is_other : (route : ℕ) (name : List ℕ) (key : ℕ × List ℕ) → (key_cmp (route, name) key ≡ Equal → ⊥) → is_key route name key ≡ false
untied_is_other route name key untied =
    elim (is_key route name key) as (λ b. is_key route name key ≡ b → b ≡ false) [
      | true ↦ λ same. absurd (untied (subst (λ (q : ℕ × List ℕ). key_cmp (route, name) q ≡ Equal) (key_of route name key same) (tied_itself key_cmp_total (route, name))))
      | false ↦ λ same. refl
    ] refl

-- how a key stands to the one at a place
abbrev pub at_place : (ℕ × List ℕ) → List Referent → ℕ → Referent → Ordering
at_place key items place d = key_cmp key (entry_of (get_or items place d)).0

turned : (key other : ℕ × List ℕ) (order : Ordering) → key_cmp other key ≡ order → key_cmp key other ≡ ordering_reverse order
turned key other order is = key_cmp_total.antisymm key other ∙ ap ordering_reverse is

-- What is found where the key stands, and where it doesn't.
found_at : (route : ℕ) (name : List ℕ) (items : List Referent) (place : ℕ) (d : Referent) → place < length items → at_place (route, name) items place d ≡ Equal
    → ((j : ℕ) → j < place → at_place (route, name) items j d ≡ Equal → ⊥) → found_in route name items ≡ Some (get_or items place d).measure
found_at route name [] place d within same before = absurd (omega arith)
found_at route name (x ∷ xs) zero d within same before = found_in-here route name x xs (tied_is_key route name (entry_of x).0 same)
found_at route name (x ∷ xs) (suc place) d within same before =
    found_in-past route name x xs (untied_is_other route name (entry_of x).0 (before 0 (omega arith)))
    ∙ found_at route name xs place d (omega arith) same (λ j low. before (suc j) (omega arith))

unfound : (route : ℕ) (name : List ℕ) (items : List Referent) (d : Referent) → ((j : ℕ) → j < length items → at_place (route, name) items j d ≡ Equal → ⊥) → found_in route name items ≡ None
unfound route name [] d nowhere = refl
unfound route name (x ∷ xs) d nowhere =
    found_in-past route name x xs (untied_is_other route name (entry_of x).0 (nowhere 0 (omega arith)))
    ∙ unfound route name xs d (λ j low. nowhere (suc j) (omega arith))

-- The keys of the list rise.
below_at : (key : ℕ × List ℕ) (items : List Referent) (place : ℕ) (d : Referent) → below_all key_cmp key (map entry_of items) ≡ true → place < length items → is_lt (at_place key items place d) ≡ true
below_at key [] place d below within = absurd (omega arith)
below_at key (x ∷ xs) zero d below within = first _ _ below
below_at key (x ∷ xs) (suc place) d below within = below_at key xs place d (second _ _ below) (omega arith)

pub rises : (items : List Referent) (i j : ℕ) (d : Referent) → is_sorted key_cmp (map entry_of items) ≡ true → i < j → j < length items → is_lt (at_place (entry_of (get_or items i d)).0 items j d) ≡ true
rises [] i j d sorted low within = absurd (omega arith)
rises (x ∷ xs) i zero d sorted low within = absurd (omega arith)
rises (x ∷ xs) zero (suc j) d sorted low within = below_at (entry_of x).0 xs j d (first _ _ sorted) (omega arith)
rises (x ∷ xs) (suc i) (suc j) d sorted low within = rises xs i j d (second _ _ sorted) (omega arith) (omega arith)

less_of : (order : Ordering) → is_lt order ≡ true → order ≡ Less
less_of Less is = refl
less_of Equal is = cc
less_of Greater is = cc

no_fall : (order : Ordering) → order ≡ Less → is_lt (ordering_reverse order) ≡ false
no_fall Less is = refl
no_fall Equal is = refl
no_fall Greater is = cc

never_falls : (items : List Referent) → is_sorted key_cmp (map entry_of items) ≡ true → IsSortedBy (λ (a b : Referent). is_lt (key_cmp (entry_of a).0 (entry_of b).0)) items
never_falls items sorted k d low within =
    let here : ℕ × List ℕ = (entry_of (get_or items k d)).0 in
    let next : ℕ × List ℕ = (entry_of (get_or items (k + 1) d)).0 in
    ap is_lt (key_cmp_total.antisymm next here) ∙ no_fall (key_cmp here next) (less_of _ (rises items k (k + 1) d sorted (omega arith) within))

pub searchable : (key : ℕ × List ℕ) (items : List Referent) → is_sorted key_cmp (map entry_of items) ≡ true → IsNonDecreasingBy (λ (x : Referent). ordering_index (key_cmp (entry_of x).0 key)) items
searchable key items sorted = searchable_from_sorted key_cmp_total (λ (x : Referent). (entry_of x).0) items key (never_falls items sorted)

-- All that stands before a place is passed.
passed_to : (key : ℕ × List ℕ) (items : List Referent) (d : Referent) (place : ℕ) → place ≤ length items → ((j : ℕ) → j < place → at_place key items j d ≡ Greater) → Passed key items place
passed_to key items d zero within above = record { puts = λ measure. refl }
passed_to key items d (suc place) within above =
    subst (Passed key items) (add-one place) (passed_more key items place d (omega arith) (passed_to key items d place (omega arith) (λ j low. above j (omega arith))) (above place (omega arith)))

drop_whole : (items : List Referent) → drop (length items) items ≡ []
drop_whole [] = refl
drop_whole (x ∷ xs) = drop_whole xs

not_equal_greater : (order : Ordering) → order ≡ Greater → order ≡ Equal → ⊥
not_equal_greater order is same = cc

not_equal_less : (order : Ordering) → order ≡ Less → order ≡ Equal → ⊥
not_equal_less order is same = cc

absent_last : (key : ℕ × List ℕ) (items : List Referent) (place : ℕ) → place ≡ length items → Passed key items place → found_in key.0 key.1 items ≡ None → IsAbsent key items place
absent_last key items place last passed missing =
    let none : drop place items ≡ [] = ap (λ n. drop n items) last ∙ drop_whole items in
    record {
      puts = λ measure.
          passed.puts measure
          ∙ (ap (λ l. map entry_of (take place items) ++ put key_cmp key measure (map entry_of l)) none
          ∙ sym (ap (λ l. map entry_of (take place items) ++ (key, measure) ∷ map entry_of l) none));
      missing = missing;
    }

-- What the search says at the key, and where the key belongs.
pub placed_at : (key : ℕ × List ℕ) (items : List Referent) (place : ℕ) (d : Referent) → is_sorted key_cmp (map entry_of items) ≡ true → place < length items → key_cmp (entry_of (get_or items place d)).0 key ≡ Equal → IsFound key items place
placed_at key items place d sorted within tied =
    let here : ℕ × List ℕ = (entry_of (get_or items place d)).0 in
    let same : at_place key items place d ≡ Equal = turned key here Equal tied in
    let above : (j : ℕ) → j < place → at_place key items j d ≡ Greater = λ j low.
    let there : ℕ × List ℕ = (entry_of (get_or items j d)).0 in
    turned key there Less (key_cmp_total.antisymm there key ∙ (ap ordering_reverse (key_cmp_total.congr key here there same) ∙ (sym (key_cmp_total.antisymm there here) ∙ less_of _ (rises items j place d sorted low within))))
    in
    found_here key items place d within (passed_to key items d place (omega arith) above) same
    (found_at key.0 key.1 items place d within same (λ j low. not_equal_greater _ (above j low)))

pub placed_before : (key : ℕ × List ℕ) (items : List Referent) (place : ℕ) (d : Referent) → place ≤ length items → ((j : ℕ) → j < place → key_cmp (entry_of (get_or items j d)).0 key ≡ Less) → ((j : ℕ) → place ≤ j → j < length items → key_cmp (entry_of (get_or items j d)).0 key ≡ Greater) → IsAbsent key items place
placed_before key items place d within below above =
    let passed : Passed key items place = passed_to key items d place within (λ j low. turned key (entry_of (get_or items j d)).0 Less (below j low)) in
    let missing : found_in key.0 key.1 items ≡ None = unfound key.0 key.1 items d (λ j low. elim (cases_lt j place) as (λ _. at_place key items j d ≡ Equal → ⊥) [
      | inl before ↦ not_equal_greater _ (turned key (entry_of (get_or items j d)).0 Less (below j before))
      | inr behind ↦ not_equal_less _ (turned key (entry_of (get_or items j d)).0 Greater (above j behind low))
    ]) in
    elim (cases_lt place (length items)) as (λ _. IsAbsent key items place) [
      | inl inside ↦ absent_here key items place d inside passed (turned key (entry_of (get_or items place d)).0 Greater (above place (omega arith) inside)) missing
      | inr last ↦ absent_last key items place (omega arith) passed missing
    ]

pub placed : (key : ℕ × List ℕ) (items : List Referent) → AreReferents (map entry_of items) → (r : Result ℕ ℕ) → IsSearchInRange r (length items) → IsBinarySearchResult (λ (x : Referent). key_cmp (entry_of x).0 key) items r
    → record { found : IfOk r (IsFound key items); absent : IfErr r (IsAbsent key items) }
placed key [] are (Ok place) within equal = absurd (omega arith)
placed key [] are (Err place) within parted = record { found = tt; absent = absent_last key [] place (omega arith) (subst (Passed key []) {x = 0} (omega arith) (record { puts = λ measure. refl })) refl }
placed key (x ∷ xs) are (Ok place) within equal = record { found = placed_at key (x ∷ xs) place x are.sorted within (equal x); absent = tt }
placed key (x ∷ xs) are (Err place) within parted =
    let sides = parted (searchable key (x ∷ xs) are.sorted) in
    record { found = tt; absent = placed_before key (x ∷ xs) place x within (λ j low. sides.0 j x (omega arith) low) (λ j low inside. sides.1 j x low inside) }

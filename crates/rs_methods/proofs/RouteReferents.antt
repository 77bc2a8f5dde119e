-- What a put and a removal make of the referents of each route.
use Rattle.std.proofs.Common.{◌≡◌, ℕ, ◌<◌, ◌≤◌, true, false, cond, not, ◌&&◌, List, [], ◌∷◌, filter, nat_eq, refl, sym, ap, ◌∙◌, subst, arith}
use Rattle.std.specs.declared.cmp.Ordering.{Ordering}
use Rattle.std.specs.declared.cmp.Ordering.TheVariants.{Less, Equal, Greater}
use Rattle.std.specs.Ordering.{nat_cmp, ordering_then, is_lt}
use Rattle.std.specs.Cmp.Lexicographic.{slice_cmp}
use Rattle.std.specs.Str.{bytes_eq}
use Rattle.std.specs.FinMap.{put, is_sorted}
use Rattle.std.specs.FinMap.Entries.{below_all, by_order}
use Rattle.std.proofs.lemmas.Cmp.{ranked}
use Rattle.std.proofs.lemmas.Bool.Decides.{nat_tests, Decides-eqb}
use Rattle.rs_methods.specs.Referents.{key_cmp, is_key, referents_of}
use Rattle.rs_methods.proofs.ReferentList.{first, second}

abbrev pub Entry : Type 0
Entry = (ℕ × List ℕ) × ℕ

-- Removal: one route loses the name, each other keeps its referents.
pub referents_of-filter_same : (route : ℕ) (name : List ℕ) (es : List Entry) → referents_of route (filter (λ e. not (is_key route name e.0)) es) ≡ filter (λ m. not (bytes_eq m.0 name)) (referents_of route es)
referents_of-filter_same route name [] = refl
referents_of-filter_same route name (e ∷ es) =
    let rest : referents_of route (filter (λ e. not (is_key route name e.0)) es) ≡ filter (λ m. not (bytes_eq m.0 name)) (referents_of route es) = referents_of-filter_same route name es in
    elim (nat_eq e.0.0 route) as (λ s. nat_eq e.0.0 route ≡ s → referents_of route (cond (not (s && bytes_eq e.0.1 name)) (e ∷ filter (λ e. not (is_key route name e.0)) es) (filter (λ e. not (is_key route name e.0)) es)) ≡ filter (λ m. not (bytes_eq m.0 name)) (cond s ((e.0.1, e.1) ∷ referents_of route es) (referents_of route es))) [
      | true ↦ λ here. elim (bytes_eq e.0.1 name) as (λ b. referents_of route (cond (not b) (e ∷ filter (λ e. not (is_key route name e.0)) es) (filter (λ e. not (is_key route name e.0)) es)) ≡ cond (not b) ((e.0.1, e.1) ∷ filter (λ m. not (bytes_eq m.0 name)) (referents_of route es)) (filter (λ m. not (bytes_eq m.0 name)) (referents_of route es))) [
        | true ↦ rest
        | false ↦ ap (λ s. cond s ((e.0.1, e.1) ∷ referents_of route (filter (λ e. not (is_key route name e.0)) es)) (referents_of route (filter (λ e. not (is_key route name e.0)) es))) here ∙ ap (λ l. (e.0.1, e.1) ∷ l) rest
      ]
      | false ↦ λ there. ap (λ s. cond s ((e.0.1, e.1) ∷ referents_of route (filter (λ e. not (is_key route name e.0)) es)) (referents_of route (filter (λ e. not (is_key route name e.0)) es))) there ∙ rest
    ] refl

-- the key of another route is not the one that goes
other_key : (route other : ℕ) (name : List ℕ) (key : ℕ × List ℕ) → nat_eq route other ≡ false → nat_eq key.0 other ≡ true → is_key route name key ≡ false
other_key route other name key apart here =
    elim (nat_eq key.0 route) as (λ b. nat_eq key.0 route ≡ b → (b && bytes_eq key.1 name) ≡ false) [
      | true ↦ λ same.
          let a : key.0 ≡ route = (Decides-eqb key.0 route).0 same in
          let b : key.0 ≡ other = (Decides-eqb key.0 other).0 here in
          let both : nat_eq route other ≡ true = (Decides-eqb route other).1 (sym a ∙ b) in cc
      | false ↦ λ same. refl
    ] refl

pub referents_of-filter_other : (route other : ℕ) (name : List ℕ) (es : List Entry) → nat_eq route other ≡ false → referents_of other (filter (λ e. not (is_key route name e.0)) es) ≡ referents_of other es
referents_of-filter_other route other name [] apart = refl
referents_of-filter_other route other name (e ∷ es) apart =
    let rest : referents_of other (filter (λ e. not (is_key route name e.0)) es) ≡ referents_of other es = referents_of-filter_other route other name es apart in
    elim (nat_eq e.0.0 other) as (λ s. nat_eq e.0.0 other ≡ s → referents_of other (cond (not (is_key route name e.0)) (e ∷ filter (λ e. not (is_key route name e.0)) es) (filter (λ e. not (is_key route name e.0)) es)) ≡ cond s ((e.0.1, e.1) ∷ referents_of other es) (referents_of other es)) [
      | true ↦ λ here.
          ap (λ b. referents_of other (cond (not b) (e ∷ filter (λ e. not (is_key route name e.0)) es) (filter (λ e. not (is_key route name e.0)) es))) (other_key route other name e.0 apart here)
          ∙ (ap (λ s. cond s ((e.0.1, e.1) ∷ referents_of other (filter (λ e. not (is_key route name e.0)) es)) (referents_of other (filter (λ e. not (is_key route name e.0)) es))) here ∙ ap (λ l. (e.0.1, e.1) ∷ l) rest)
      | false ↦ λ there. elim (is_key route name e.0) as (λ b. referents_of other (cond (not b) (e ∷ filter (λ e. not (is_key route name e.0)) es) (filter (λ e. not (is_key route name e.0)) es)) ≡ referents_of other es) [
        | true ↦ rest
        | false ↦ ap (λ s. cond s ((e.0.1, e.1) ∷ referents_of other (filter (λ e. not (is_key route name e.0)) es)) (referents_of other (filter (λ e. not (is_key route name e.0)) es))) there ∙ rest
      ]
    ] refl

-- Put: where the routes differ, nothing changes; on its own route, the name is put among the names.
put_elsewhere : (route other : ℕ) (name : List ℕ) (measure : ℕ) (e : Entry) (es : List Entry) (order : Ordering) → nat_eq route other ≡ false → (order ≡ Equal → e.0.0 ≡ route)
    → referents_of other (put key_cmp (route, name) measure es) ≡ referents_of other es
    → referents_of other (by_order order (((route, name), measure) ∷ e ∷ es) ((e.0, measure) ∷ es) (e ∷ put key_cmp (route, name) measure es)) ≡ referents_of other (e ∷ es)
put_elsewhere route other name measure e es Less apart same rest = ap (λ s. cond s ((name, measure) ∷ referents_of other (e ∷ es)) (referents_of other (e ∷ es))) apart
put_elsewhere route other name measure e es Equal apart same rest =
    let there : nat_eq e.0.0 other ≡ false = subst (λ r. nat_eq r other ≡ false) (sym (same refl)) apart in
    ap (λ s. cond s ((e.0.1, measure) ∷ referents_of other es) (referents_of other es)) there ∙ sym (ap (λ s. cond s ((e.0.1, e.1) ∷ referents_of other es) (referents_of other es)) there)
put_elsewhere route other name measure e es Greater apart same rest = ap (λ l. cond (nat_eq e.0.0 other) ((e.0.1, e.1) ∷ l) l) rest

tied_routes : (a b : ℕ × List ℕ) → key_cmp a b ≡ Equal → b.0 ≡ a.0
unfolding key_cmp
tied_routes a b tied =
    elim (nat_cmp a.0 b.0) as (λ o. o ≡ nat_cmp a.0 b.0 → ordering_then o (slice_cmp nat_cmp a.1 b.1) ≡ Equal → b.0 ≡ a.0) [
      | Less ↦ λ is h. cc
      | Equal ↦ λ is h. sym (ranked a.0 b.0 Equal is)
      | Greater ↦ λ is h. cc
    ] refl tied

pub referents_of-put_other : (route other : ℕ) (name : List ℕ) (measure : ℕ) (es : List Entry) → nat_eq route other ≡ false → referents_of other (put key_cmp (route, name) measure es) ≡ referents_of other es
referents_of-put_other route other name measure [] apart = ap (λ s. cond s ((name, measure) ∷ []) []) apart
referents_of-put_other route other name measure (e ∷ es) apart =
    put_elsewhere route other name measure e es (key_cmp (route, name) e.0) apart (tied_routes (route, name) e.0) (referents_of-put_other route other name measure es apart)

pub routes_rise : (a b : ℕ × List ℕ) → is_lt (key_cmp a b) ≡ true → a.0 ≤ b.0
unfolding key_cmp
routes_rise a b below =
    elim (nat_cmp a.0 b.0) as (λ o. o ≡ nat_cmp a.0 b.0 → is_lt (ordering_then o (slice_cmp nat_cmp a.1 b.1)) ≡ true → a.0 ≤ b.0) [
      | Less ↦ λ is h. omega (arith, ranked a.0 b.0 Less is)
      | Equal ↦ λ is h. omega (arith, ranked a.0 b.0 Equal is)
      | Greater ↦ λ is h. cc
    ] refl below

not_same_number : (a b : ℕ) → b < a → nat_eq a b ≡ false
not_same_number a b above = grind (arith, nat_tests)

different : (a b : ℕ) → a < b → nat_eq a b ≡ false
different a b below = grind (arith, nat_tests)

unlisted_above : (route : ℕ) (key : ℕ × List ℕ) (es : List Entry) → route < key.0 → below_all key_cmp key es ≡ true → referents_of route es ≡ []
unlisted_above route key [] low below = refl
unlisted_above route key (e ∷ es) low below =
    let rise : key.0 ≤ e.0.0 = routes_rise key e.0 (first _ _ below) in
    ap (λ s. cond s ((e.0.1, e.1) ∷ referents_of route es) (referents_of route es)) (not_same_number e.0.0 route (omega arith))
    ∙ unlisted_above route key es low (second _ _ below)

-- the name is put among the names of a route that the entry is of, or that stands before or after it
put_among : (route : ℕ) (name : List ℕ) (measure : ℕ) (e : Entry) (es : List Entry) (order : Ordering) → nat_eq e.0.0 route ≡ true → nat_eq route route ≡ true
    → referents_of route (put key_cmp (route, name) measure es) ≡ put (slice_cmp nat_cmp) name measure (referents_of route es)
    → referents_of route (by_order order (((route, name), measure) ∷ e ∷ es) ((e.0, measure) ∷ es) (e ∷ put key_cmp (route, name) measure es))
    ≡ by_order order ((name, measure) ∷ (e.0.1, e.1) ∷ referents_of route es) ((e.0.1, measure) ∷ referents_of route es) ((e.0.1, e.1) ∷ put (slice_cmp nat_cmp) name measure (referents_of route es))
put_among route name measure e es Less here itself rest =
    ap (λ s. cond s ((name, measure) ∷ referents_of route (e ∷ es)) (referents_of route (e ∷ es))) itself
    ∙ ap (λ s. (name, measure) ∷ cond s ((e.0.1, e.1) ∷ referents_of route es) (referents_of route es)) here
put_among route name measure e es Equal here itself rest = ap (λ s. cond s ((e.0.1, measure) ∷ referents_of route es) (referents_of route es)) here
put_among route name measure e es Greater here itself rest =
    ap (λ s. cond s ((e.0.1, e.1) ∷ referents_of route (put key_cmp (route, name) measure es)) (referents_of route (put key_cmp (route, name) measure es))) here
    ∙ ap (λ l. (e.0.1, e.1) ∷ l) rest

pub referents_of-put_same : (route : ℕ) (name : List ℕ) (measure : ℕ) (es : List Entry) → is_sorted key_cmp es ≡ true → referents_of route (put key_cmp (route, name) measure es) ≡ put (slice_cmp nat_cmp) name measure (referents_of route es)
unfolding key_cmp
referents_of-put_same route name measure [] sorted = ap (λ s. cond s ((name, measure) ∷ []) []) ((Decides-eqb route route).1 refl)
referents_of-put_same route name measure (e ∷ es) sorted =
    let itself : nat_eq route route ≡ true = (Decides-eqb route route).1 refl in
    let rest : referents_of route (put key_cmp (route, name) measure es) ≡ put (slice_cmp nat_cmp) name measure (referents_of route es) = referents_of-put_same route name measure es (second _ _ sorted) in
    elim (nat_cmp route e.0.0) as (λ o. o ≡ nat_cmp route e.0.0
    → referents_of route (by_order (ordering_then o (slice_cmp nat_cmp name e.0.1)) (((route, name), measure) ∷ e ∷ es) ((e.0, measure) ∷ es) (e ∷ put key_cmp (route, name) measure es)) ≡ put (slice_cmp nat_cmp) name measure (referents_of route (e ∷ es))) [
      | Less ↦ λ is.
          let low : route < e.0.0 = ranked route e.0.0 Less is in
          let none : referents_of route (e ∷ es) ≡ [] = ap (λ s. cond s ((e.0.1, e.1) ∷ referents_of route es) (referents_of route es)) (not_same_number e.0.0 route low) ∙ unlisted_above route e.0 es low (first _ _ sorted) in
          ap (λ s. cond s ((name, measure) ∷ referents_of route (e ∷ es)) (referents_of route (e ∷ es))) itself
          ∙ (ap (λ l. (name, measure) ∷ l) none ∙ sym (ap (put (slice_cmp nat_cmp) name measure) none))
      | Equal ↦ λ is.
          let here : nat_eq e.0.0 route ≡ true = (Decides-eqb e.0.0 route).1 (sym (ranked route e.0.0 Equal is)) in
          put_among route name measure e es (slice_cmp nat_cmp name e.0.1) here itself rest
          ∙ sym (ap (λ s. put (slice_cmp nat_cmp) name measure (cond s ((e.0.1, e.1) ∷ referents_of route es) (referents_of route es))) here)
      | Greater ↦ λ is.
          let there : nat_eq e.0.0 route ≡ false = different e.0.0 route (ranked route e.0.0 Greater is) in
          ap (λ s. cond s ((e.0.1, e.1) ∷ referents_of route (put key_cmp (route, name) measure es)) (referents_of route (put key_cmp (route, name) measure es))) there
          ∙ (rest ∙ sym (ap (λ s. put (slice_cmp nat_cmp) name measure (cond s ((e.0.1, e.1) ∷ referents_of route es) (referents_of route es))) there))
    ] refl

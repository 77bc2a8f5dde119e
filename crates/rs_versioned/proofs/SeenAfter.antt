-- What a version sees once records have come, ended or gone.
use Rattle.std.proofs.Common.{◌≡◌, ◌<◌, ◌≤◌, ◌&&◌, ◌==◌, ◌⊎◌, ℕ, zero, suc, Bool, true, false, cond, nat_le, nat_lt, List, [], ◌∷◌, ◌++◌, map, filter, refl, sym, ap, ◌∙◌, subst, inl, inr, arith}
use Rattle.std.proofs.lemmas.Bool.{and_from, and_left, and_right, le-leb, le-ltb, false≢true, lt-leb, lt-ltb, ne_eqb}
use Rattle.std.proofs.lemmas.Bool.Decides.{nat_tests}
use Rattle.std.proofs.lemmas.List.Sorted.{Contains-permutation, IsPermutation-cons, IsPermutation-map, IsPermutation-refl, IsPermutation-sym, IsPermutation-trans}
use Rattle.std.specs.List.{AllByRecursion, Contains}
use Rattle.std.specs.List.Sorted.{IsPermutation}
use Rattle.rs_versioned.specs.Records.{WasAdded, HasEnded, WasEnded, HasOneMore, HasCleared, Kept, is_seen}
use Rattle.rs_versioned.proofs.Shuffles.{IsPermutation-filter}

-- a record's end changes the version of its end alone, of what is shown and of its route nothing
pub record EndsAs {R Y : Type 0} (kept : Kept R) (route_of : R → ℕ) (show : R → Y) : Type 0 where
  pub route : (version : ℕ) (one : R) → route_of (kept.ended version one) ≡ route_of one
  pub shown : (version : ℕ) (one : R) → show (kept.ended version one) ≡ show one
  pub born : (version : ℕ) (one : R) → kept.born (kept.ended version one) ≡ kept.born one
  pub died : (version : ℕ) (one : R) → kept.died (kept.ended version one) ≡ version

-- one was there twice among these and is there once now
pub record WasTwice {Y : Type 0} (one : Y) (old now : List Y) : Type 0 where
  pub more : IsPermutation old (one ∷ now)
  pub there : Contains now one

same_number : (n : ℕ) → (n == n) ≡ true
same_number n = grind (arith, nat_tests)

module _ {R Y : Type 0} (kept : Kept R) (route_of : R → ℕ) (show : R → Y) where
  -- the version sees it, and it is on the route
  abbrev is_there : ℕ → ℕ → R → Bool
  is_there version route one = route_of one == route && is_seen kept version one

  -- what the version sees on the route
  abbrev shown_at : ℕ → ℕ → List R → List Y
  shown_at version route records = map show (filter (is_there version route) records)

  unborn : (version route : ℕ) (one : R) → version < kept.born one → is_there version route one ≡ false
  unborn version route one early =
      and_right (route_of one == route) (is_seen kept version one) (and_left (nat_le (kept.born one) version) (nat_lt version (kept.died one)) (lt-leb (kept.born one) version early))

  over : (version route : ℕ) (one : R) → kept.died one ≤ version → is_there version route one ≡ false
  over version route one late =
      and_right (route_of one == route) (is_seen kept version one) (and_right (nat_le (kept.born one) version) (nat_lt version (kept.died one)) (le-ltb version (kept.died one) late))

  apart_from : (version route : ℕ) (one : R) → (route ≡ route_of one → ⊥) → is_there version route one ≡ false
  apart_from version route one apart = and_left (route_of one == route) (is_seen kept version one) (ne_eqb (route_of one) route (λ same. apart (sym same)))

  there : (version : ℕ) (one : R) → kept.born one ≤ version → version < kept.died one → is_there version (route_of one) one ≡ true
  there version one born lives =
      and_from (route_of one == route_of one) (is_seen kept version one) (same_number (route_of one))
      (and_from (nat_le (kept.born one) version) (nat_lt version (kept.died one)) (le-leb (kept.born one) version born) (lt-ltb version (kept.died one) lives))

  module _ (version route : ℕ) where
    abbrev shown : List R → List Y
    shown = shown_at version route

    abbrev Same : List R → List R → Type 0
    Same xs ys = IsPermutation (shown xs) (shown ys)

    shuffled_shown : (xs ys : List R) → IsPermutation xs ys → Same xs ys
    shuffled_shown xs ys p = IsPermutation-map show (filter (is_there version route) xs) (filter (is_there version route) ys) (IsPermutation-filter (is_there version route) xs ys p)

    then : (xs ys zs : List R) → Same xs ys → Same ys zs → Same xs zs
    then xs ys zs = IsPermutation-trans (shown xs) (shown ys) (shown zs)

    back : (xs ys : List R) → Same xs ys → Same ys xs
    back xs ys = IsPermutation-sym (shown xs) (shown ys)

    -- the first of the records
    first : (b : Bool) (x : R) (xs : List R) → is_there version route x ≡ b → shown (x ∷ xs) ≡ cond b (show x ∷ shown xs) (shown xs)
    first b x xs is = ap (λ c. map show (cond c (x ∷ filter (is_there version route) xs) (filter (is_there version route) xs))) is ∙ by_test b where
      by_test : (c : Bool) → map show (cond c (x ∷ filter (is_there version route) xs) (filter (is_there version route) xs)) ≡ cond c (show x ∷ shown xs) (shown xs)
      by_test true = refl
      by_test false = refl

    first_unseen : (x : R) (xs : List R) → is_there version route x ≡ false → Same (x ∷ xs) xs
    first_unseen x xs is = subst (λ l. IsPermutation (shown (x ∷ xs)) l) (first false x xs is) (IsPermutation-refl (shown (x ∷ xs)))

    -- what isn't seen has come
    pub unseen_come : (one : R) (old now : List R) → HasOneMore one old now → is_there version route one ≡ false → IsPermutation (shown_at version route now) (shown_at version route old)
    unseen_come one old now (inl was) unseen = shuffled_shown now old was.same
    unseen_come one old now (inr come) unseen = then now (one ∷ old) old (shuffled_shown now (one ∷ old) come.more) (first_unseen one old unseen)

    pub seen_come : (one : R) (old now : List R) → WasAdded one old now → is_there version route one ≡ true → IsPermutation (shown_at version route now) (show one ∷ shown_at version route old)
    seen_come one old now come seen = subst (IsPermutation (shown now)) (first true one old seen) (shuffled_shown now (one ∷ old) come.more)

    -- what isn't seen, with its end or without it, has ended
    pub unseen_ended : (at : ℕ) (one : R) (old now : List R) → HasEnded kept at one old now → is_there version route one ≡ false → is_there version route (kept.ended at one) ≡ false
        → IsPermutation (shown_at version route now) (shown_at version route old)
    unseen_ended at one old now (inl missing) unseen hidden = shuffled_shown now old missing.same
    unseen_ended at one old now (inr gone) unseen hidden =
        let was : Same gone.rest old =
        back old gone.rest (then old (one ∷ gone.rest) gone.rest (shuffled_shown old (one ∷ gone.rest) gone.were) (first_unseen one gone.rest unseen)) in
        then now gone.rest old (elim gone.are [
          | inl late ↦ unseen_come (kept.ended at one) gone.rest now late.1 hidden
          | inr early ↦ shuffled_shown now gone.rest early.1
        ]) was

    -- what is seen is so no more
    pub seen_gone : (at : ℕ) (one : R) (old now : List R) → WasEnded kept at one old now → is_there version route one ≡ true → is_there version route (kept.ended at one) ≡ false
        → IsPermutation (shown_at version route old) (show one ∷ shown_at version route now)
    seen_gone at one old now gone seen hidden =
        let left : Same now gone.rest = elim gone.are [
          | inl late ↦ unseen_come (kept.ended at one) gone.rest now late.1 hidden
          | inr early ↦ shuffled_shown now gone.rest early.1
        ] in
        IsPermutation-trans (shown old) (show one ∷ shown gone.rest) (show one ∷ shown now)
        (subst (IsPermutation (shown old)) (first true one gone.rest seen) (shuffled_shown old (one ∷ gone.rest) gone.were))
        (IsPermutation-cons (show one) (shown gone.rest) (shown now) (back now gone.rest left))

    -- what is seen with its end as without it, and wasn't there with its end
    pub still_seen : (at : ℕ) (one : R) (old now : List R) → HasEnded kept at one old now → (Contains old (kept.ended at one) → ⊥)
        → is_there version route (kept.ended at one) ≡ is_there version route one → show (kept.ended at one) ≡ show one → (at ≤ kept.born one → is_there version route one ≡ false)
        → IsPermutation (shown_at version route now) (shown_at version route old)
    still_seen at one old now (inl missing) new alike look hidden = shuffled_shown now old missing.same
    still_seen at one old now (inr gone) new alike look hidden =
        let last : R = kept.ended at one in
        let before : Same (one ∷ gone.rest) old = back old (one ∷ gone.rest) (shuffled_shown old (one ∷ gone.rest) gone.were) in
        then now (one ∷ gone.rest) old (elim gone.are [
          | inl late ↦ elim late.1 [
            | inl was ↦
                let inside : Contains (one ∷ gone.rest) last = (suc was.there.0, omega (arith, was.there.1), was.there.2) in
                absurd (new (Contains-permutation (one ∷ gone.rest) old last (IsPermutation-sym old (one ∷ gone.rest) gone.were) inside))
            | inr come ↦
                let level : shown (last ∷ gone.rest) ≡ shown (one ∷ gone.rest) =
                first (is_there version route one) last gone.rest alike
                ∙ ap (λ s. cond (is_there version route one) (s ∷ shown gone.rest) (shown gone.rest)) look
                ∙ sym (first (is_there version route one) one gone.rest refl) in
                subst (IsPermutation (shown now)) level (shuffled_shown now (last ∷ gone.rest) come.more)
          ]
          | inr early ↦
              then now gone.rest (one ∷ gone.rest) (shuffled_shown now gone.rest early.1) (back (one ∷ gone.rest) gone.rest (first_unseen one gone.rest (hidden early.0)))
        ]) before

    -- what is seen is shown
    shown_has : (one : R) (xs : List R) → is_there version route one ≡ true → Contains xs one → Contains (shown xs) (show one)
    shown_has one [] seen has = absurd (omega (arith, has.1))
    shown_has one (x ∷ xs) seen (zero, inside, is) =
        let here : shown (x ∷ xs) ≡ show x ∷ shown xs = first true x xs (ap (is_there version route) is ∙ seen) in
        subst (λ l. Contains l (show one)) (sym here) (0, omega arith, ap show is)
    shown_has one (x ∷ xs) seen (suc k, inside, is) =
        subst (λ l. Contains l (show one)) (sym (first (is_there version route x) x xs refl)) (by_test (is_there version route x) (shown_has one xs seen (k, omega arith, is))) where
          by_test : (b : Bool) → Contains (shown xs) (show one) → Contains (cond b (show x ∷ shown xs) (shown xs)) (show one)
          by_test true more = (suc more.0, omega (arith, more.1), more.2)
          by_test false more = more

    -- what is seen with its end as without it is seen as before, or it was there twice
    pub still_seen_or_twice : (at : ℕ) (one : R) (old now : List R) → HasEnded kept at one old now
        → is_there version route (kept.ended at one) ≡ is_there version route one → show (kept.ended at one) ≡ show one → (at ≤ kept.born one → is_there version route one ≡ false)
        → IsPermutation (shown_at version route now) (shown_at version route old) ⊎ WasTwice (show one) (shown_at version route old) (shown_at version route now)
    still_seen_or_twice at one old now ended alike look hidden = by_test (is_there version route one) refl where
      last : R
      last = kept.ended at one

      by_test : (b : Bool) → is_there version route one ≡ b → IsPermutation (shown now) (shown old) ⊎ WasTwice (show one) (shown old) (shown now)
      by_test false unseen = inl (unseen_ended at one old now ended unseen (alike ∙ unseen))
      by_test true seen = elim ended [
        | inl missing ↦ inl (shuffled_shown now old missing.same)
        | inr gone ↦
            let was : IsPermutation (shown old) (show one ∷ shown gone.rest) = subst (IsPermutation (shown old)) (first true one gone.rest seen) (shuffled_shown old (one ∷ gone.rest) gone.were) in
            elim gone.are [
              | inl late ↦ elim late.1 [
                | inl twin ↦
                    let left : Same gone.rest now = back now gone.rest (shuffled_shown now gone.rest twin.same) in
                    let again : Contains (shown gone.rest) (show one) = subst (Contains (shown gone.rest)) look (shown_has last gone.rest (alike ∙ seen) twin.there) in
                    inr (record {
                      more = IsPermutation-trans (shown old) (show one ∷ shown gone.rest) (show one ∷ shown now) was (IsPermutation-cons (show one) (shown gone.rest) (shown now) left);
                      there = Contains-permutation (shown gone.rest) (shown now) (show one) left again;
                    })
                | inr come ↦
                    let more : IsPermutation (shown now) (show last ∷ shown gone.rest) = subst (IsPermutation (shown now)) (first true last gone.rest (alike ∙ seen)) (shuffled_shown now (last ∷ gone.rest) come.more) in
                    let level : IsPermutation (shown now) (show one ∷ shown gone.rest) = subst (λ s. IsPermutation (shown now) (s ∷ shown gone.rest)) look more in
                    inl (IsPermutation-trans (shown now) (show one ∷ shown gone.rest) (shown old) level (IsPermutation-sym (shown old) (show one ∷ shown gone.rest) was))
              ]
              | inr early ↦ absurd (false≢true (sym (hidden early.0) ∙ seen))
            ]
      ]

    none_seen : (oldest : ℕ) (gone now : List R) → oldest ≤ version → AllByRecursion (λ one. kept.died one ≤ oldest) gone → Same (gone ++ now) now
    none_seen oldest [] now before all = IsPermutation-refl (shown now)
    none_seen oldest (x ∷ gone) now before all =
        then (x ∷ (gone ++ now)) (gone ++ now) now (first_unseen x (gone ++ now) (over version route x (omega (arith, all.0, before)))) (none_seen oldest gone now before all.1)

    pub unseen_cleared : (oldest : ℕ) (cells : List (List ℕ)) (old now : List R) → HasCleared kept oldest cells old now → oldest ≤ version
        → IsPermutation (shown_at version route now) (shown_at version route old)
    unseen_cleared oldest cells old now without before =
        back old now (then old (without.gone ++ now) now (shuffled_shown old (without.gone ++ now) without.rest) (none_seen oldest without.gone now before without.unseen))

  -- versions before the birth and the end, and from them on
  pub before_birth : (version route : ℕ) (one : R) (old now : List R) → HasOneMore one old now → version < kept.born one
      → IsPermutation (shown_at version route now) (shown_at version route old)
  before_birth version route one old now more early = unseen_come version route one old now more (unborn version route one early)

  pub from_birth : (version : ℕ) (one : R) (old now : List R) → WasAdded one old now → kept.born one ≤ version → version < kept.died one
      → IsPermutation (shown_at version (route_of one) now) (show one ∷ shown_at version (route_of one) old)
  from_birth version one old now come born lives = seen_come version (route_of one) one old now come (there version one born lives)

  pub come_elsewhere : (version route : ℕ) (one : R) (old now : List R) → HasOneMore one old now → (route ≡ route_of one → ⊥)
      → IsPermutation (shown_at version route now) (shown_at version route old)
  come_elsewhere version route one old now more apart = unseen_come version route one old now more (apart_from version route one apart)

  module _ (ends : EndsAs kept route_of show) where
    alike_before : (version at route : ℕ) (one : R) → at < version → at < kept.died one → is_there at route (kept.ended version one) ≡ is_there at route one
    alike_before version at route one before lives =
        let last : R = kept.ended version one in
        let later : nat_lt at (kept.died last) ≡ nat_lt at (kept.died one) =
        ap (nat_lt at) (ends.died version one) ∙ lt-ltb at version before ∙ sym (lt-ltb at (kept.died one) lives) in
        ap (λ (n : ℕ). n == route && is_seen kept at last) (ends.route version one)
        ∙ ap (λ (n : ℕ). route_of one == route && (nat_le n at && nat_lt at (kept.died last))) (ends.born version one)
        ∙ ap (λ b. route_of one == route && (nat_le (kept.born one) at && b)) later

    pub before_end : (version at route : ℕ) (one : R) (old now : List R) → HasEnded kept version one old now → (Contains old (kept.ended version one) → ⊥)
        → at < version → at < kept.died one → IsPermutation (shown_at at route now) (shown_at at route old)
    before_end version at route one old now ended new before lives =
        still_seen at route version one old now ended new (alike_before version at route one before lives) (ends.shown version one) (λ late. unborn at route one (omega (arith, late, before)))

    pub before_end_or_twice : (version at route : ℕ) (one : R) (old now : List R) → HasEnded kept version one old now → at < version → at < kept.died one
        → IsPermutation (shown_at at route now) (shown_at at route old) ⊎ WasTwice (show one) (shown_at at route old) (shown_at at route now)
    before_end_or_twice version at route one old now ended before lives =
        still_seen_or_twice at route version one old now ended (alike_before version at route one before lives) (ends.shown version one) (λ late. unborn at route one (omega (arith, late, before)))

    pub from_end : (version at : ℕ) (one : R) (old now : List R) → WasEnded kept version one old now → kept.born one ≤ at → at < kept.died one → version ≤ at
        → IsPermutation (shown_at at (route_of one) old) (show one ∷ shown_at at (route_of one) now)
    from_end version at one old now gone born lives past =
        seen_gone at (route_of one) version one old now gone (there at one born lives) (over at (route_of one) (kept.ended version one) (omega (arith, ends.died version one, past)))

    pub ended_elsewhere : (version at route : ℕ) (one : R) (old now : List R) → HasEnded kept version one old now → (route ≡ route_of one → ⊥)
        → IsPermutation (shown_at at route now) (shown_at at route old)
    ended_elsewhere version at route one old now ended apart =
        unseen_ended at route version one old now ended (apart_from at route one apart) (apart_from at route (kept.ended version one) (λ same. apart (same ∙ ends.route version one)))

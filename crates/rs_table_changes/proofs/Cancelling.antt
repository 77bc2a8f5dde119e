-- What is in both lists before all else may be left out of both.
use Rattle.std.proofs.Common.{◌≡◌, List, [], ◌∷◌, ◌++◌, refl, sym, ap, subst, arith}
use Rattle.std.proofs.lemmas.List.Sorted.{IsPermutation-cons, IsPermutation-refl, IsPermutation-swap, IsPermutation-sym, IsPermutation-trans}
use Rattle.std.specs.List.Sorted.{IsPermutation}
use Rattle.rs_versioned.proofs.Shuffles.{shuffled}

module _ {X : Type 0} where
  -- the element at some place, and the others in some order
  record Takes (one : X) (others xs : List X) : Type 0 where
    before : List X
    after : List X
    is : xs ≡ before ++ one ∷ after
    are : IsPermutation (before ++ after) others

  -- an element between others is as good as before them
  pub middle : (xs : List X) (x : X) (ys : List X) → IsPermutation (xs ++ x ∷ ys) (x ∷ (xs ++ ys))
  middle [] x ys = IsPermutation-refl (x ∷ ys)
  middle (y ∷ xs) x ys =
      IsPermutation-trans (y ∷ (xs ++ x ∷ ys)) (y ∷ x ∷ (xs ++ ys)) (x ∷ y ∷ (xs ++ ys)) (IsPermutation-cons y (xs ++ x ∷ ys) (x ∷ (xs ++ ys)) (middle xs x ys))
      (IsPermutation-swap (y ∷ x ∷ (xs ++ ys)) (x ∷ y ∷ (xs ++ ys)) 0 1 (omega arith) (omega arith) refl)

  -- one list taken apart in one way is the other taken apart in one way
  record Follows (xs ys : List X) : Type 0 where
    each : (before : List X) (one : X) (after : List X) → xs ≡ before ++ one ∷ after → Takes one (before ++ after) ys

  follows_same : (xs : List X) → Follows xs xs
  follows_same xs = record { each = λ before one after is. record { before = before; after = after; is = is; are = IsPermutation-refl (before ++ after) } }

  follows_then : (xs ys zs : List X) → Follows xs ys → Follows ys zs → Follows xs zs
  follows_then xs ys zs first last = record {
    each = λ before one after is.
        let mid = first.each before one after is in
        let end = last.each mid.before one mid.after mid.is in
        record {
          before = end.before;
          after = end.after;
          is = end.is;
          are = IsPermutation-trans (end.before ++ end.after) (mid.before ++ mid.after) (before ++ after) end.are mid.are;
        };
  }

  tail_of : List X → List X
  tail_of [] = []
  tail_of (x ∷ xs) = xs

  head_is : (x y : X) (xs ys : List X) → ◌≡◌ {A = List X} (x ∷ xs) (y ∷ ys) → x ≡ y
  head_is x y xs ys e = cc

  follows_under : (x : X) (xs ys : List X) → IsPermutation xs ys → Follows xs ys → Follows (x ∷ xs) (x ∷ ys)
  unfolding tail_of
  follows_under x xs ys p f = record { each = each } where
    each : (before : List X) (one : X) (after : List X) → x ∷ xs ≡ before ++ one ∷ after → Takes one (before ++ after) (x ∷ ys)
    each [] one after is = record {
      before = [];
      after = ys;
      is = ap (λ z. z ∷ ys) (head_is x one xs after is);
      are = IsPermutation-sym after ys (subst (λ l. IsPermutation l ys) (ap tail_of is) p);
    }
    each (b ∷ before) one after is =
        let rest = f.each before one after (ap tail_of is) in
        record {
          before = x ∷ rest.before;
          after = rest.after;
          is = ap (λ l. x ∷ l) rest.is;
          are = subst (λ z. IsPermutation (x ∷ (rest.before ++ rest.after)) (z ∷ (before ++ after))) (head_is x b xs (before ++ one ∷ after) is)
              (IsPermutation-cons x (rest.before ++ rest.after) (before ++ after) rest.are);
        }

  follows_flip : (x y : X) (xs : List X) → Follows (x ∷ y ∷ xs) (y ∷ x ∷ xs)
  unfolding tail_of
  follows_flip x y xs = record { each = each } where
    each : (before : List X) (one : X) (after : List X) → x ∷ y ∷ xs ≡ before ++ one ∷ after → Takes one (before ++ after) (y ∷ x ∷ xs)
    each [] one after is = record {
      before = y ∷ [];
      after = xs;
      is = ap (λ z. y ∷ z ∷ xs) (head_is x one (y ∷ xs) after is);
      are = subst (λ l. IsPermutation (y ∷ xs) l) (ap tail_of is) (IsPermutation-refl (y ∷ xs));
    }
    each (b ∷ []) one after is =
        let rest : y ∷ xs ≡ one ∷ after = ap tail_of is in
        record {
          before = [];
          after = x ∷ xs;
          is = ap (λ z. z ∷ x ∷ xs) (head_is y one xs after rest);
          are = subst (λ z. IsPermutation (x ∷ xs) (z ∷ after)) (head_is x b (y ∷ xs) (one ∷ after) is) (subst (λ l. IsPermutation (x ∷ xs) (x ∷ l)) (ap tail_of rest) (IsPermutation-refl (x ∷ xs)));
        }
    each (b ∷ c ∷ before) one after is =
        let rest : y ∷ xs ≡ c ∷ (before ++ one ∷ after) = ap tail_of is in
        record {
          before = y ∷ x ∷ before;
          after = after;
          is = ap (λ l. y ∷ x ∷ l) (ap tail_of rest);
          are = subst (λ z. IsPermutation (y ∷ x ∷ (before ++ after)) (z ∷ c ∷ (before ++ after))) (head_is x b (y ∷ xs) (c ∷ (before ++ one ∷ after)) is)
              (subst (λ z. IsPermutation (y ∷ x ∷ (before ++ after)) (x ∷ z ∷ (before ++ after))) (head_is y c xs (before ++ one ∷ after) rest)
              (IsPermutation-swap (y ∷ x ∷ (before ++ after)) (x ∷ y ∷ (before ++ after)) 0 1 (omega arith) (omega arith) refl));
        }

  record Both (xs ys : List X) : Type 0 where
    moved : IsPermutation xs ys
    follows : Follows xs ys

  both : (xs ys : List X) → IsPermutation xs ys → Both xs ys
  both = shuffled Both
      (λ xs. record { moved = IsPermutation-refl xs; follows = follows_same xs })
      (λ xs ys zs a b. record { moved = IsPermutation-trans xs ys zs a.moved b.moved; follows = follows_then xs ys zs a.follows b.follows })
      (λ x xs ys a. record { moved = IsPermutation-cons x xs ys a.moved; follows = follows_under x xs ys a.moved a.follows })
      (λ x y xs. record { moved = IsPermutation-swap (x ∷ y ∷ xs) (y ∷ x ∷ xs) 0 1 (omega arith) (omega arith) refl; follows = follows_flip x y xs })

  taken : (x : X) (xs ys : List X) → Takes x xs (x ∷ ys) → IsPermutation xs ys
  unfolding tail_of
  taken x xs ys t = by t.before t.after t.is t.are where
    by : (before after : List X) → x ∷ ys ≡ before ++ x ∷ after → IsPermutation (before ++ after) xs → IsPermutation xs ys
    by [] after is are = subst (λ l. IsPermutation xs l) (sym (ap tail_of is)) (IsPermutation-sym after xs are)
    by (b ∷ before) after is are =
        let first : x ≡ b = head_is x b ys (before ++ x ∷ after) is in
        subst (λ l. IsPermutation xs l) (sym (ap tail_of is))
        (IsPermutation-trans xs (b ∷ (before ++ after)) (before ++ x ∷ after) (IsPermutation-sym (b ∷ (before ++ after)) xs are)
        (subst (λ z. IsPermutation (z ∷ (before ++ after)) (before ++ x ∷ after)) first (IsPermutation-sym (before ++ x ∷ after) (x ∷ (before ++ after)) (middle before x after))))

  pub cancel_first : (x : X) (xs ys : List X) → IsPermutation (x ∷ xs) (x ∷ ys) → IsPermutation xs ys
  cancel_first x xs ys p = taken x xs ys ((both (x ∷ xs) (x ∷ ys) p).follows.each [] x xs refl)

  pub cancel_front : (fs xs ys : List X) → IsPermutation (fs ++ xs) (fs ++ ys) → IsPermutation xs ys
  cancel_front [] xs ys p = p
  cancel_front (f ∷ fs) xs ys p = cancel_front fs xs ys (cancel_first f (fs ++ xs) (fs ++ ys) p)

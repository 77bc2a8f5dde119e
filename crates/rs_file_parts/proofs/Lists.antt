-- One element among others, and lists that change from the first element on.
use Rattle.std.proofs.Common.{◌≡◌, ◌<◌, ◌≤◌, ◌+◌, ◌-◌, ℕ, zero, suc, Some, List, [], ◌∷◌, ◌++◌, length, set, slice_get, take, refl, sym, ap, ◌∙◌, subst, inl, inr, arith}
use Rattle.std.proofs.lemmas.Bool.{cases_lt}
use Rattle.std.proofs.lemmas.List.{take-append-le, take_all}
use Rattle.std.specs.List.{AllByRecursion, AllZip}

-- the element at a place stands among the others, and another may stand there
pub record Stands {X : Type 0} (xs : List X) (place : ℕ) (x : X) : Type 0 where
  pub before : List X
  pub after : List X
  pub long : length before ≡ place
  pub are : xs ≡ before ++ x ∷ after
  pub changed : (y : X) → set xs place y ≡ before ++ y ∷ after

pub stands_at : {X : Type 0} (xs : List X) (place : ℕ) (x : X) → slice_get xs place ≡ Some x → Stands xs place x
stands_at [] place x is = absurd (cc)
stands_at (y ∷ ys) zero x is = let same : y ≡ x = cc in record { before = []; after = ys; long = refl; are = ap (λ z. z ∷ ys) same; changed = λ z. refl }
stands_at (y ∷ ys) (suc p) x is =
    let one : Stands ys p x = stands_at ys p x is in
    record { before = y ∷ one.before; after = one.after; long = ap suc one.long; are = ap (λ zs. y ∷ zs) one.are; changed = λ z. ap (λ zs. y ∷ zs) (one.changed z) }

-- the element that goes with one among others
pub record Beside {X Y : Type 0} (R : X → Y → Type 0) (before : List X) (x : X) (after : List X) (ys : List Y) : Type 0 where
  pub first : List Y
  pub one : Y
  pub last : List Y
  pub are : ys ≡ first ++ one ∷ last
  pub long : length first ≡ length before
  pub firsts : AllZip R before first
  pub goes : R x one
  pub lasts : AllZip R after last

pub beside : {X Y : Type 0} (R : X → Y → Type 0) (before : List X) (x : X) (after : List X) (ys : List Y) → AllZip R (before ++ x ∷ after) ys → Beside R before x after ys
beside R [] x after [] all = absurd all
beside R [] x after (y ∷ ys) all = record { first = []; one = y; last = ys; are = refl; long = refl; firsts = tt; goes = all.0; lasts = all.1 }
beside R (b ∷ bs) x after [] all = absurd all
beside R (b ∷ bs) x after (y ∷ ys) all =
    let rest = beside R bs x after ys all.1 in
    record { first = y ∷ rest.first; one = rest.one; last = rest.last; are = ap (λ zs. y ∷ zs) rest.are; long = ap suc rest.long; firsts = (all.0, rest.firsts); goes = rest.goes; lasts = rest.lasts }

pub together : {X Y : Type 0} (R : X → Y → Type 0) (before : List X) (x : X) (after : List X) (first : List Y) (y : Y) (last : List Y)
    → AllZip R before first → R x y → AllZip R after last → AllZip R (before ++ x ∷ after) (first ++ y ∷ last)
together R [] x after [] y last firsts one lasts = (one, lasts)
together R [] x after (f ∷ fs) y last firsts one lasts = absurd firsts
together R (b ∷ bs) x after [] y last firsts one lasts = absurd firsts
together R (b ∷ bs) x after (f ∷ fs) y last firsts one lasts = (firsts.0, together R bs x after fs y last firsts.1 one lasts)

pub all_one : {X : Type 0} (P : X → Type 0) (before : List X) (x : X) (after : List X) → AllByRecursion P (before ++ x ∷ after) → P x
all_one P [] x after all = all.0
all_one P (b ∷ bs) x after all = all_one P bs x after all.1

pub all_first : {X : Type 0} (P : X → Type 0) (before after : List X) → AllByRecursion P (before ++ after) → AllByRecursion P before
all_first P [] after all = tt
all_first P (b ∷ bs) after all = (all.0, all_first P bs after all.1)

pub all_other : {X : Type 0} (P : X → Type 0) (before : List X) (x y : X) (after : List X) → AllByRecursion P (before ++ x ∷ after) → P y → AllByRecursion P (before ++ y ∷ after)
all_other P [] x y after all one = (one, all.1)
all_other P (b ∷ bs) x y after all one = (all.0, all_other P bs x y after all.1 one)

-- each with itself, and one relation after another
pub each_same : {X : Type 0} (R : X → X → Type 0) → ((x : X) → R x x) → (xs : List X) → AllZip R xs xs
each_same R same [] = tt
each_same R same (x ∷ xs) = (same x, each_same R same xs)

pub each_then : {X Y Z : Type 0} (R : X → Y → Type 0) (S : Y → Z → Type 0) (T : X → Z → Type 0) → ((x : X) (y : Y) (z : Z) → R x y → S y z → T x z)
    → (xs : List X) (ys : List Y) (zs : List Z) → AllZip R xs ys → AllZip S ys zs → AllZip T xs zs
each_then R S T then [] [] [] one other = tt
each_then R S T then [] [] (z ∷ zs) one other = absurd other
each_then R S T then [] (y ∷ ys) zs one other = absurd one
each_then R S T then (x ∷ xs) [] zs one other = absurd one
each_then R S T then (x ∷ xs) (y ∷ ys) [] one other = absurd other
each_then R S T then (x ∷ xs) (y ∷ ys) (z ∷ zs) one other = (then x y z one.0 other.0, each_then R S T then xs ys zs one.1 other.1)

pub each_weaker : {X Y : Type 0} (R S : X → Y → Type 0) → ((x : X) (y : Y) → R x y → S x y) → (xs : List X) (ys : List Y) → AllZip R xs ys → AllZip S xs ys
each_weaker R S weaker [] [] all = tt
each_weaker R S weaker [] (y ∷ ys) all = absurd all
each_weaker R S weaker (x ∷ xs) [] all = absurd all
each_weaker R S weaker (x ∷ xs) (y ∷ ys) all = (weaker x y all.0, each_weaker R S weaker xs ys all.1)

pub each_right : {X Y : Type 0} (R : X → Y → Type 0) (P : Y → Type 0) → ((x : X) (y : Y) → R x y → P y) → (xs : List X) (ys : List Y) → AllZip R xs ys → AllByRecursion P ys
each_right R P right [] [] all = tt
each_right R P right [] (y ∷ ys) all = absurd all
each_right R P right (x ∷ xs) [] all = absurd all
each_right R P right (x ∷ xs) (y ∷ ys) all = (right x y all.0, each_right R P right xs ys all.1)

-- what holds of each of one list, and the relation to another, gives what holds of each of that
pub each_along : {X Y : Type 0} (P : X → Type 0) (R : X → Y → Type 0) (Q : Y → Type 0) → ((x : X) (y : Y) → P x → R x y → Q y) → (xs : List X) (ys : List Y)
    → AllByRecursion P xs → AllZip R xs ys → AllByRecursion Q ys
each_along P R Q along [] [] all zip = tt
each_along P R Q along [] (y ∷ ys) all zip = absurd zip
each_along P R Q along (x ∷ xs) [] all zip = absurd zip
each_along P R Q along (x ∷ xs) (y ∷ ys) all zip = (along x y all.0 zip.0, each_along P R Q along xs ys all.1 zip.1)

-- the first so many have changed, and the others are as they were
abbrev pub Partly : {X : Type 0} → (X → X → Type 0) → ℕ → List X → List X → Type 0
Partly R zero xs ys = ys ≡ xs
Partly R (suc n) [] [] = Unit {0}
Partly R (suc n) [] (y ∷ ys) = ⊥
Partly R (suc n) (x ∷ xs) [] = ⊥
Partly R (suc n) (x ∷ xs) (y ∷ ys) = R x y × Partly R n xs ys

pub partly_next : {X : Type 0} (R : X → X → Type 0) (n : ℕ) (xs ys : List X) (y now : X) → Partly R n xs ys → slice_get ys n ≡ Some y → R y now → Partly R (suc n) xs (set ys n now)
partly_next R zero [] [] y now partly at changed = absurd (cc)
partly_next R zero [] (z ∷ zs) y now partly at changed = absurd (cc)
partly_next R zero (x ∷ xs) [] y now partly at changed = absurd (cc)
partly_next R zero (x ∷ xs) (z ∷ zs) y now partly at changed =
    let same : y ≡ x = cc in let rest : zs ≡ xs = cc in (subst (λ v. R v now) same changed, rest)
partly_next R (suc n) [] [] y now partly at changed = absurd (cc)
partly_next R (suc n) [] (z ∷ zs) y now partly at changed = absurd partly
partly_next R (suc n) (x ∷ xs) [] y now partly at changed = absurd partly
partly_next R (suc n) (x ∷ xs) (z ∷ zs) y now partly at changed = (partly.0, partly_next R n xs zs y now partly.1 at changed)

pub partly_long : {X : Type 0} (R : X → X → Type 0) (n : ℕ) (xs ys : List X) → Partly R n xs ys → length ys ≡ length xs
partly_long R zero xs ys partly = ap length partly
partly_long R (suc n) [] [] partly = refl
partly_long R (suc n) [] (y ∷ ys) partly = absurd partly
partly_long R (suc n) (x ∷ xs) [] partly = absurd partly
partly_long R (suc n) (x ∷ xs) (y ∷ ys) partly = ap suc (partly_long R n xs ys partly.1)

pub partly_all : {X : Type 0} (R : X → X → Type 0) (n : ℕ) (xs ys : List X) → Partly R n xs ys → length xs ≤ n → AllZip R xs ys
partly_all R zero [] [] partly below = tt
partly_all R zero [] (y ∷ ys) partly below = absurd (cc)
partly_all R zero (x ∷ xs) ys partly below = absurd (omega arith)
partly_all R (suc n) [] [] partly below = tt
partly_all R (suc n) [] (y ∷ ys) partly below = absurd partly
partly_all R (suc n) (x ∷ xs) [] partly below = absurd partly
partly_all R (suc n) (x ∷ xs) (y ∷ ys) partly below = (partly.0, partly_all R n xs ys partly.1 (omega arith))

-- what is written over a whole list is the list
pub refilled : {X : Type 0} (n : ℕ) (ws rest : List X) → length ws ≡ n → take n (ws ++ rest) ≡ ws
refilled n ws rest same = take-append-le n ws rest (omega arith) ∙ take_all n ws (omega arith)

-- one more has changed as it should where it is as it was
partly_stays : {X : Type 0} (R : X → X → Type 0) (n : ℕ) (xs ys : List X) → Partly R n xs ys → ((x : X) → slice_get xs n ≡ Some x → R x x) → Partly R (suc n) xs ys
partly_stays R zero [] [] partly same = tt
partly_stays R zero [] (y ∷ ys) partly same = absurd (cc)
partly_stays R zero (x ∷ xs) [] partly same = absurd (cc)
partly_stays R zero (x ∷ xs) (y ∷ ys) partly same =
    let one : y ≡ x = cc in let rest : ys ≡ xs = cc in (subst (R x) (sym one) (same x refl), rest)
partly_stays R (suc n) [] [] partly same = tt
partly_stays R (suc n) [] (y ∷ ys) partly same = absurd partly
partly_stays R (suc n) (x ∷ xs) [] partly same = absurd partly
partly_stays R (suc n) (x ∷ xs) (y ∷ ys) partly same = (partly.0, partly_stays R n xs ys partly.1 same)

-- and so many more
pub partly_to : {X : Type 0} (R : X → X → Type 0) (more n to : ℕ) (xs ys : List X) → more + n ≡ to → Partly R n xs ys
    → ((place : ℕ) (x : X) → n ≤ place → place < to → slice_get xs place ≡ Some x → R x x) → Partly R to xs ys
partly_to R zero n to xs ys all partly same = let end : n ≡ to = omega arith in subst (λ m. Partly R m xs ys) end partly
partly_to R (suc more) n to xs ys all partly same =
    partly_to R more (suc n) to xs ys (omega arith) (partly_stays R n xs ys partly (λ x there. same n x (omega arith) (omega arith) there))
    (λ place x low high there. same place x (omega arith) high there)

-- or all
pub partly_whole : {X : Type 0} (R : X → X → Type 0) (n : ℕ) (xs ys : List X) → Partly R n xs ys
    → ((place : ℕ) (x : X) → n ≤ place → place < length xs → slice_get xs place ≡ Some x → R x x) → AllZip R xs ys
partly_whole R n xs ys partly same = elim (cases_lt n (length xs)) [
  | inl inside ↦ partly_all R (length xs) xs ys (partly_to R (length xs - n) n (length xs) xs ys (omega arith) partly same) (omega arith)
  | inr past ↦ partly_all R n xs ys partly past
]

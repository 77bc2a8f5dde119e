-- What is so of each element of a list, or of two lists beside one another.
use Rattle.std.proofs.Common.{List, [], ◌∷◌, ◌++◌, length, map, arith}
use Rattle.std.specs.Prelude.{◌≡◌, Contains}
use Rattle.std.specs.List.{AllByRecursion, AllZip}
use Rattle.std.specs.List.Sorted.{IsPermutation}
use Rattle.std.proofs.lemmas.List.Elements.{All-contains, All-from_recursion, recursion_from_All}
use Rattle.std.proofs.lemmas.List.Sorted.{All-permutation}
use Rattle.rs_file_meaning.proofs.Named.{first_there, later_there}

pub each_weaker : {X : Type 0} (P Q : X → Type 0) → ((x : X) → P x → Q x) → (xs : List X) → AllByRecursion P xs → AllByRecursion Q xs
each_weaker P Q gives [] all = tt
each_weaker P Q gives (x ∷ xs) all = (gives x all.0, each_weaker P Q gives xs all.1)

pub each_among : {X : Type 0} (P Q : X → Type 0) (xs : List X) → AllByRecursion P xs → ((x : X) → Contains xs x → P x → Q x) → AllByRecursion Q xs
each_among P Q [] all gives = tt
each_among P Q (x ∷ xs) all gives = (gives x (first_there x xs) all.0, each_among P Q xs all.1 (λ y there. gives y (later_there x y xs there)))

pub each_at : {X : Type 0} (P : X → Type 0) (xs : List X) (x : X) → AllByRecursion P xs → Contains xs x → P x
each_at P xs x all there = All-contains P xs x (All-from_recursion P xs all) there

pub each_shown : {X Y : Type 0} (show : X → Y) (P : Y → Type 0) (xs : List X) → AllByRecursion (λ x. P (show x)) xs → AllByRecursion P (map show xs)
each_shown show P [] all = tt
each_shown show P (x ∷ xs) all = (all.0, each_shown show P xs all.1)

pub shown_each : {X Y : Type 0} (show : X → Y) (P : Y → Type 0) (xs : List X) → AllByRecursion P (map show xs) → AllByRecursion (λ x. P (show x)) xs
shown_each show P [] all = tt
shown_each show P (x ∷ xs) all = (all.0, shown_each show P xs all.1)

pub each_moved : {Y : Type 0} (P : Y → Type 0) (xs ys : List Y) → IsPermutation xs ys → AllByRecursion P xs → AllByRecursion P ys
each_moved P xs ys p all = recursion_from_All P ys (All-permutation P xs ys p (All-from_recursion P xs all))

-- ---- two lists

pub zip_each : {X Y : Type 0} (R S : X → Y → Type 0) (xs : List X) (ys : List Y) → AllZip R xs ys → ((x : X) (y : Y) → R x y → S x y) → AllZip S xs ys
zip_each R S [] [] all gives = tt
zip_each R S [] (y ∷ ys) all gives = absurd all
zip_each R S (x ∷ xs) [] all gives = absurd all
zip_each R S (x ∷ xs) (y ∷ ys) all gives = (gives x y all.0, zip_each R S xs ys all.1 gives)

pub zip_held : {X Y : Type 0} (R S : X → Y → Type 0) (Q : Y → Type 0) (xs : List X) (ys : List Y) → AllZip R xs ys → AllByRecursion Q ys → ((x : X) (y : Y) → R x y → Q y → S x y) → AllZip S xs ys
zip_held R S Q [] [] all held gives = tt
zip_held R S Q [] (y ∷ ys) all held gives = absurd all
zip_held R S Q (x ∷ xs) [] all held gives = absurd all
zip_held R S Q (x ∷ xs) (y ∷ ys) all held gives = (gives x y all.0 held.0, zip_held R S Q xs ys all.1 held.1 gives)

pub zip_among : {X Y : Type 0} (R S : X → Y → Type 0) (xs : List X) (ys : List Y) → AllZip R xs ys → ((x : X) (y : Y) → Contains xs x → R x y → S x y) → AllZip S xs ys
zip_among R S [] [] all gives = tt
zip_among R S [] (y ∷ ys) all gives = absurd all
zip_among R S (x ∷ xs) [] all gives = absurd all
zip_among R S (x ∷ xs) (y ∷ ys) all gives = (gives x y (first_there x xs) all.0, zip_among R S xs ys all.1 (λ z w there. gives z w (later_there x z xs there)))

-- through a list in the middle
pub zip_then : {X Y Z : Type 0} (R : X → Y → Type 0) (S : Y → Z → Type 0) (U : X → Z → Type 0) (xs : List X) (ys : List Y) (zs : List Z) → AllZip R xs ys → AllZip S ys zs
    → ((x : X) (y : Y) (z : Z) → R x y → S y z → U x z) → AllZip U xs zs
zip_then R S U [] [] [] one other gives = tt
zip_then R S U [] [] (z ∷ zs) one other gives = absurd other
zip_then R S U [] (y ∷ ys) zs one other gives = absurd one
zip_then R S U (x ∷ xs) [] zs one other gives = absurd one
zip_then R S U (x ∷ xs) (y ∷ ys) [] one other gives = absurd other
zip_then R S U (x ∷ xs) (y ∷ ys) (z ∷ zs) one other gives = (gives x y z one.0 other.0, zip_then R S U xs ys zs one.1 other.1 gives)

pub zip_itself : {X : Type 0} (R : X → X → Type 0) → ((x : X) → R x x) → (xs : List X) → AllZip R xs xs
zip_itself R same [] = tt
zip_itself R same (x ∷ xs) = (same x, zip_itself R same xs)

-- with another element between the same ones
pub zip_between : {X : Type 0} (R : X → X → Type 0) → ((x : X) → R x x) → (xs : List X) (x y : X) (others : List X) → R x y → AllZip R (xs ++ x ∷ others) (xs ++ y ∷ others)
zip_between R same [] x y others is = (is, zip_itself R same others)
zip_between R same (z ∷ xs) x y others is = (same z, zip_between R same xs x y others is)

pub zip_at : {X Y : Type 0} (R : X → Y → Type 0) (xs : List X) (x : X) (others : List X) (ys : List Y) (y : Y) (more : List Y) → length xs ≡ length ys
    → AllZip R (xs ++ x ∷ others) (ys ++ y ∷ more) → R x y
zip_at R [] x others [] y more long all = all.0
zip_at R [] x others (w ∷ ys) y more long all = absurd (omega (arith, long))
zip_at R (v ∷ xs) x others [] y more long all = absurd (omega (arith, long))
zip_at R (v ∷ xs) x others (w ∷ ys) y more long all = zip_at R xs x others ys y more (omega (arith, long)) all.1

pub zip_more : {X Y : Type 0} (R : X → Y → Type 0) (xs : List X) (x : X) (others : List X) (ys : List Y) (y : Y) (more : List Y) → length xs ≡ length ys
    → AllZip R (xs ++ others) (ys ++ more) → R x y → AllZip R (xs ++ x ∷ others) (ys ++ y ∷ more)
zip_more R [] x others [] y more long all is = (is, all)
zip_more R [] x others (w ∷ ys) y more long all is = absurd (omega (arith, long))
zip_more R (v ∷ xs) x others [] y more long all is = absurd (omega (arith, long))
zip_more R (v ∷ xs) x others (w ∷ ys) y more long all is = (all.0, zip_more R xs x others ys y more (omega (arith, long)) all.1 is)

pub zip_less : {X Y : Type 0} (R : X → Y → Type 0) (xs : List X) (x : X) (others : List X) (ys : List Y) (y : Y) (more : List Y) → length xs ≡ length ys
    → AllZip R (xs ++ x ∷ others) (ys ++ y ∷ more) → AllZip R (xs ++ others) (ys ++ more)
zip_less R [] x others [] y more long all = all.1
zip_less R [] x others (w ∷ ys) y more long all = absurd (omega (arith, long))
zip_less R (v ∷ xs) x others [] y more long all = absurd (omega (arith, long))
zip_less R (v ∷ xs) x others (w ∷ ys) y more long all = (all.0, zip_less R xs x others ys y more (omega (arith, long)) all.1)

-- another in place of the one between
pub zip_put : {X Y : Type 0} (R : X → Y → Type 0) (xs : List X) (x : X) (others : List X) (ys : List Y) (y z : Y) (more : List Y) → length xs ≡ length ys
    → AllZip R (xs ++ x ∷ others) (ys ++ y ∷ more) → R x z → AllZip R (xs ++ x ∷ others) (ys ++ z ∷ more)
zip_put R xs x others ys y z more long all is = zip_more R xs x others ys z more long (zip_less R xs x others ys y more long all) is

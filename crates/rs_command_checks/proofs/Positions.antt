-- Where a position that is located may lie, and what the checks of a span say.
use Rattle.std.proofs.Common.{◌≡◌, ℕ, ◌+◌, ◌-◌, ◌*◌, ◌/◌, ◌<◌, ◌≤◌, Bool, true, false, ◌&&◌, nat_lt, List, Option, Some, None, Result, Ok, Err, refl, subst, arith}
use Rattle.std.specs.Prelude.{nat_le, if◌then◌else◌}
use Rattle.std.proofs.lemmas.Bool.Decides.{nat_tests}
use Rattle.rs_refusal.specs.declared.refusal.Refusal.{Refusal}
use Rattle.rs_refusal.specs.declared.refusal.Refusal.TheVariants.{OutsideTheRoute, EmptySpan}
use Rattle.rs_methods.specs.Position.{PositionExpression, absolute, beyond, before, interpolative, on_route, located_beyond, located_before, located, referent_measure}
use Rattle.rs_facts.specs.Fact.{Name}
use Rattle.rs_machine.specs.Checks.{◌>>=◌, unless}

both_true : (a b : Bool) → (a && b) ≡ true → (a ≡ true) × (b ≡ true)
both_true true b e = (refl, e)
both_true false b e = cc

at_most : (a b : ℕ) → nat_le a b ≡ true → a ≤ b
at_most a b e = grind (arith, nat_tests)

pub less_than : (a b : ℕ) → nat_lt a b ≡ true → a < b
less_than a b e = grind (arith, nat_tests)

if_ok : (test : Bool) (refusal : Refusal) (x m : ℕ) → (if test then Ok x else Err refusal) ≡ Ok m → (test ≡ true) × (x ≡ m)
if_ok true refusal x m e = (refl, cc)
if_ok false refusal x m e = cc

-- the measure lies between the route's ends
abbrev pub LiesBetween : ℕ → ℕ → ℕ → Type 0
LiesBetween start finish m = (start ≤ m) × (m ≤ finish)

on_route-between : (start finish number m : ℕ) → on_route start finish number ≡ Ok m → LiesBetween start finish m
on_route-between start finish number m e =
    let inside = if_ok (nat_le start number && nat_le number finish) OutsideTheRoute number m e in
    let ends = both_true _ _ inside.0 in
    subst (LiesBetween start finish) inside.1 (at_most _ _ ends.0, at_most _ _ ends.1)

beyond-between : (start finish : ℕ) (referent : Option ℕ) (measure m : ℕ) → located_beyond start finish referent measure ≡ Ok m → LiesBetween start finish m
beyond-between start finish None measure m e = cc
beyond-between start finish (Some referent) measure m e = on_route-between start finish (referent + measure) m e

near-between : (test : Bool) (start finish number m : ℕ) → (if test then on_route start finish number else Err OutsideTheRoute) ≡ Ok m → LiesBetween start finish m
near-between true start finish number m e = on_route-between start finish number m e
near-between false start finish number m e = cc

before-between : (start finish : ℕ) (referent : Option ℕ) (measure m : ℕ) → located_before start finish referent measure ≡ Ok m → LiesBetween start finish m
before-between start finish None measure m e = cc
before-between start finish (Some referent) measure m e = near-between (nat_le measure referent) start finish (referent - measure) m e

pub located-between : (start finish : ℕ) (referents : List (Name × ℕ)) (position : PositionExpression) (m : ℕ) → located start finish referents position ≡ Ok m → LiesBetween start finish m
located-between start finish referents (absolute measure) m e = on_route-between start finish measure m e
located-between start finish referents (beyond name measure) m e = beyond-between start finish (referent_measure start referents name) measure m e
located-between start finish referents (before name measure) m e = before-between start finish (referent_measure start referents name) measure m e
located-between start finish referents (interpolative part) m e = on_route-between start finish (start + part * (finish - start) / 1000000000) m e

-- ---- what the checks of a span say

pub then_ok : {A B : Type 0} (first : Result A Refusal) (next : A → Result B Refusal) (y : B) → (first >>= next) ≡ Ok y → (x : A) × (first ≡ Ok x) × (next x ≡ Ok y)
then_ok (Ok x) next y e = (x, refl, e)
then_ok (Err refusal) next y e = cc

pub in_order : (from to : ℕ) (test : Bool) (span : ℕ × ℕ) → (unless test EmptySpan >>= λ _. Ok (from, to)) ≡ Ok span → (test ≡ true) × ((from, to) ≡ span)
in_order from to true span e = (refl, cc)
in_order from to false span e = cc

-- What a check that passed says.
use Rattle.std.proofs.Common.{◌≡◌, ◌≢◌, ℕ, ◌+◌, ◌-◌, ◌<◌, ◌≤◌, Bool, true, false, ◌&&◌, ◌||◌, cond, not, List, [], ◌∷◌, Option, Some, None, Result, Ok, Err, refl, sym, ap, subst, arith}
use Rattle.std.specs.Prelude.{nat_lt, nat_le}
use Rattle.std.specs.List.{AllByRecursion, list_any}
use Rattle.std.specs.FinMap as names
use Rattle.std.proofs.lemmas.Bool.{ltb-true, leb-true, and_parts}
use Rattle.rs_refusal.specs.declared.refusal.Refusal.{Refusal}
use Rattle.rs_refusal.specs.declared.refusal.Refusal.TheVariants.{EmptySpan, OutsideTheRoute}
use Rattle.rs_methods.specs.Position.{PositionExpression, absolute, beyond, before, interpolative, referent_measure, on_route, located_beyond, located_before, located}
use Rattle.rs_value.specs.declared.column.Kind.{Kind}
use Rattle.rs_value.specs.declared.column.Kind.TheVariants.{Point, Line}
use Rattle.rs_facts.specs.Fact.{Name}
use Rattle.rs_facts.specs.Insert.{same_name}
use Rattle.rs_facts.specs.Query.{RouteEnds}
use Rattle.rs_syntax.specs.Tree.{EventLocationTree, along, at_point}
use Rattle.rs_machine.specs.State.{State}
use Rattle.rs_machine.specs.Checks.{◌>>=◌, unless, found, position_on, span_on, event_span, location_kind, same_kind, some_name_twice}
use Rattle.rs_machine.specs.Lawful.{IsPlaceOf, MayHoldAt, AreDistinct}
use Rattle.rs_machine_laws.proofs.Names.{false_true, either_false, same_name-false}

pub ok_same : {A : Type 0} (a b : A) → ◌≡◌ {A = Result A Refusal} (Ok a) (Ok b) → a ≡ b
ok_same {A} a b e = ap (elim_ok a) e
  where
    elim_ok : A → Result A Refusal → A
    elim_ok other (Ok x) = x
    elim_ok other (Err r) = other

pub err_ok : {A : Type 0} {P : Type 0} (r : Refusal) (a : A) → ◌≡◌ {A = Result A Refusal} (Err r) (Ok a) → P
err_ok r a e = cc

-- what a check let through
pub then_ok : {A B : Type 0} (check : Result A Refusal) (next : A → Result B Refusal) (made : B) → (check >>= next) ≡ Ok made → (a : A) × (check ≡ Ok a) × (next a ≡ Ok made)
then_ok (Ok a) next made e = (a, refl, e)
then_ok (Err refusal) next made e = err_ok refusal made e

-- the test held
pub passed : (test : Bool) (refusal : Refusal) (u : Unit {0}) → unless test refusal ≡ Ok u → test ≡ true
passed true refusal u e = refl
passed false refusal u e = err_ok refusal u e

pub not_true : (b : Bool) → not b ≡ true → b ≡ false
not_true true e = false_true e
not_true false e = refl

-- it was found
pub was_found : {X : Type 0} (o : Option X) (refusal : Refusal) (x : X) → found o refusal ≡ Ok x → o ≡ Some x
was_found (Some y) refusal x e = ap Some (ok_same y x e)
was_found None refusal x e = err_ok refusal x e

pub or_right : (a b : Bool) → a || b ≡ true → a ≡ false → b ≡ true
or_right true b e other = false_true (sym other)
or_right false b e other = e

-- ---- positions

on_route-lies : (start finish number measure : ℕ) → on_route start finish number ≡ Ok measure → (start ≤ measure) × (measure ≤ finish)
on_route-lies start finish number measure e =
    elim (nat_le start number && nat_le number finish) as (λ b. nat_le start number && nat_le number finish ≡ b → cond b (Ok number) (Err OutsideTheRoute) ≡ Ok measure → (start ≤ measure) × (measure ≤ finish)) [
      | true ↦ λ inside is.
          let parts = and_parts (nat_le start number) (nat_le number finish) inside in
          let same = ok_same number measure is in
          let low = leb-true start number parts.0 in
          let high = leb-true number finish parts.1 in
          (omega arith, omega arith)
      | false ↦ λ inside is. err_ok OutsideTheRoute measure is
    ] refl e

beyond-lies : (start finish : ℕ) (referent : Option ℕ) (number measure : ℕ) → located_beyond start finish referent number ≡ Ok measure → (start ≤ measure) × (measure ≤ finish)
beyond-lies start finish None number measure e = err_ok _ measure e
beyond-lies start finish (Some referent) number measure e = on_route-lies start finish (referent + number) measure e

before-lies : (start finish : ℕ) (referent : Option ℕ) (number measure : ℕ) → located_before start finish referent number ≡ Ok measure → (start ≤ measure) × (measure ≤ finish)
before-lies start finish None number measure e = err_ok _ measure e
before-lies start finish (Some referent) number measure e =
    elim (nat_le number referent) as (λ b. cond b (on_route start finish (referent - number)) (Err OutsideTheRoute) ≡ Ok measure → (start ≤ measure) × (measure ≤ finish)) [
      | true ↦ λ is. on_route-lies start finish (referent - number) measure is
      | false ↦ λ is. err_ok OutsideTheRoute measure is
    ] e

located-lies : (start finish : ℕ) (referents : List (Name × ℕ)) (position : PositionExpression) (measure : ℕ) → located start finish referents position ≡ Ok measure → (start ≤ measure) × (measure ≤ finish)
located-lies start finish referents (absolute number) measure e = on_route-lies start finish number measure e
located-lies start finish referents (beyond name number) measure e = beyond-lies start finish (referent_measure start referents name) number measure e
located-lies start finish referents (before name number) measure e = before-lies start finish (referent_measure start referents name) number measure e
located-lies start finish referents (interpolative part) measure e = on_route-lies start finish _ measure e

-- a position that was located lies on the route
pub position-lies : (state : State) (route : Name) (ends : RouteEnds) (position : PositionExpression) (measure : ℕ) → position_on state route ends position ≡ Ok measure → IsPlaceOf measure ends
position-lies state route ends position measure e = located-lies ends.start ends.finish (names.entries (state.referents route)) position measure e

-- two positions that were located: the first below the second, both on the route
pub record IsSpanOf (ends : RouteEnds) (span : ℕ × ℕ) : Type 0 where
  pub from : ends.start ≤ span.0
  pub some : span.0 < span.1
  pub upto : span.1 ≤ ends.finish

-- what the parts of a span give
spanned : (ends : RouteEnds) (first second : Result ℕ Refusal) (span : ℕ × ℕ)
    → ((measure : ℕ) → first ≡ Ok measure → IsPlaceOf measure ends) → ((measure : ℕ) → second ≡ Ok measure → IsPlaceOf measure ends)
    → (first >>= (λ from. second >>= (λ to. unless (nat_lt from to) EmptySpan >>= (λ _. Ok (from, to))))) ≡ Ok span → IsSpanOf ends span
spanned ends (Err r) second span one two e = err_ok r span e
spanned ends (Ok from) (Err r) span one two e = err_ok r span e
spanned ends (Ok from) (Ok to) span one two e =
    elim (nat_lt from to) as (λ b. nat_lt from to ≡ b → (unless b EmptySpan >>= (λ _. Ok (from, to))) ≡ Ok span → IsSpanOf ends span) [
      | true ↦ λ less is. subst (IsSpanOf ends) (ok_same (from, to) span is) (record { from = (one from refl).0; some = ltb-true from to less; upto = (two to refl).1 })
      | false ↦ λ less is. err_ok EmptySpan span is
    ] refl e

pub span-lies : (state : State) (route : Name) (ends : RouteEnds) (first second : PositionExpression) (span : ℕ × ℕ) → span_on state route ends first second ≡ Ok span → IsSpanOf ends span
span-lies state route ends first second span e =
    spanned ends (position_on state route ends first) (position_on state route ends second) span (position-lies state route ends first) (position-lies state route ends second) e

pub same_kind-same : (a b : Kind) → same_kind a b ≡ true → a ≡ b
same_kind-same Line Line e = refl
same_kind-same Line Point e = false_true e
same_kind-same Point Line e = false_true e
same_kind-same Point Point e = refl

-- each thousandth of an event is one where a row of its kind may hold
pub event-lies : (state : State) (route : Name) (ends : RouteEnds) (place : EventLocationTree) (span : ℕ × ℕ) → event_span state route ends place ≡ Ok span
    → (k : ℕ) → span.0 ≤ k → k < span.1 → MayHoldAt (location_kind place) k ends
event-lies state route ends (along from to) span e k low high = let lies = span-lies state route ends from to span e in let a = lies.from in let b = lies.upto in (omega arith, omega arith)
event-lies state route ends (at_point position) span e k low high =
    let at = then_ok (position_on state route ends position) _ span e in
    let same = ok_same (at.0, at.0 + 1) span at.2 in
    let lies = position-lies state route ends position at.0 at.1 in
    let one : at.0 ≡ span.0 = ap (λ (p : ℕ × ℕ). p.0) same in
    let two : at.0 + 1 ≡ span.1 = ap (λ (p : ℕ × ℕ). p.1) same in
    (omega (arith, lies.0, lies.1), omega (arith, lies.0, lies.1))

-- ---- columns

pub others : (name : Name) (more : List Name) → list_any (same_name name) more ≡ false → AllByRecursion (λ other. name ≢ other) more
others name [] none = tt
others name (other ∷ more) none =
    let parts = either_false (same_name name other) (list_any (same_name name) more) none in
    (same_name-false name other parts.0, others name more parts.1)

pub distinct : (names : List Name) → some_name_twice names ≡ false → AreDistinct names
distinct [] none = tt
distinct (name ∷ more) none =
    let parts = either_false (list_any (same_name name) more) (some_name_twice more) none in
    (others name more parts.0, distinct more parts.1)

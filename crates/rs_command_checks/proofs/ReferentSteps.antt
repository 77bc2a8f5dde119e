-- What the machine answers where a referent is to be defined, moved or dropped.
use Rattle.std.proofs.Common.{◌≡◌, ℕ, ◌<◌, ◌≤◌, Bool, true, false, not, nat_lt, ◌||◌, Option, Some, None, Result, Ok, Err, refl, sym, ap, ◌∙◌}
use Rattle.std.specs.FinMap as names
use Rattle.std.specs.Cmp.{eq_by_cmp_equiv}
use Rattle.rs_refusal.specs.declared.refusal.Refusal.{Refusal}
use Rattle.rs_refusal.specs.declared.refusal.Refusal.TheVariants.{NoSuchRoute, NameTaken, NoSuchReferent, InUse, Limit}
use Rattle.rs_methods.specs.Position.{PositionExpression, start_name, located}
use Rattle.rs_facts.specs.Fact.{Name, Names}
use Rattle.rs_facts.specs.Insert.{same_name}
use Rattle.rs_facts.specs.Query.{RouteEnds}
use Rattle.rs_machine.specs.declared.limits.TheConstants.{REFERENTS}
use Rattle.rs_machine.specs.Opening.{names_referent}
use Rattle.rs_machine.specs.State.{has}
use Rattle.rs_machine.specs.Checks.{◌>>=◌, unless, found, has_referent, position_on}
use Rattle.rs_machine.specs.Step.{Effect, counted, may_change, referent_defined, referent_moved, referent_dropped}
use Rattle.rs_catalog.specs.Definitions.{RouteItem}
use Rattle.rs_catalog.specs.Referents.{referents_on}
use Rattle.rs_catalog.specs.Uses.{some_view_query}
use Rattle.rs_catalog.proofs.NameOrder.{name_cmp-total}
use Rattle.rs_catalog_laws.proofs.Numbers.{false_true}
use Rattle.rs_catalog_laws.proofs.OtherReferents as laws
use Rattle.rs_command_checks.specs.declared.checks.Checks.{Checks}
use Rattle.rs_command_checks.specs.States.{Unseen, state_by}
use Rattle.rs_command_checks.specs.Referents.{route_of_referent, with_referent, without_referent}
use Rattle.rs_command_checks.proofs.Outcomes.{below-true, below-false, route_at, no_route}

-- ---- the referents of a route

module _ (checks : Checks) (unseen : Unseen) (route : Name) (item : RouteItem) (there : names.get checks.catalog.now.routes route ≡ Some item) where
  pub referents_there : (state_by checks unseen).referents route ≡ referents_on checks.referents.now item.number
  referents_there = laws.referents_there checks.catalog.now route item (referents_on checks.referents.now) there

  pub has_there : (name : Name) → has ((state_by checks unseen).referents route) name ≡ has (referents_on checks.referents.now item.number) name
  has_there name = ap (λ (referents : Names ℕ). has referents name) referents_there

  pub has_referent_there : (name : Name) → same_name start_name name ≡ false → has (referents_on checks.referents.now item.number) name ≡ has_referent (state_by checks unseen) route name
  has_referent_there name off = sym (ap (λ b. b || has ((state_by checks unseen).referents route) name) off ∙ has_there name)

  pub position_there : (position : PositionExpression) → position_on (state_by checks unseen) route item.ends position ≡ located item.ends.start item.ends.finish (names.entries (referents_on checks.referents.now item.number)) position
  position_there position = ap (λ (referents : Names ℕ). located item.ends.start item.ends.finish (names.entries referents) position) referents_there

  -- ---- a referent's definition

  module _ (name : Name) (position : PositionExpression) where
    abbrev Lies : Result ℕ Refusal → Type 0
    Lies answer = answer ≡ located item.ends.start item.ends.finish (names.entries (referents_on checks.referents.now item.number)) position

    abbrev Named : Result Effect Refusal → Type 0
    Named answer = referent_defined (state_by checks unseen) route name position ≡ answer

    lies : (answer : Result ℕ Refusal) → Lies answer → position_on (state_by checks unseen) route item.ends position ≡ answer
    lies answer is = position_there position ∙ sym is

    pub new_off_route : (refusal : Refusal) → Lies (Err refusal) → Named (Err refusal)
    new_off_route refusal is = rw (route_at checks unseen route item there, lies (Err refusal) is)

    module _ (measure : ℕ) (is : Lies (Ok measure)) where
      pub new_taken : has_referent (state_by checks unseen) route name ≡ true → Named (Err NameTaken)
      new_taken e = rw (route_at checks unseen route item there, lies (Ok measure) is, e)

      pub new_too_many : has_referent (state_by checks unseen) route name ≡ false → REFERENTS ≤ names.len (referents_on checks.referents.now item.number) → Named (Err Limit)
      new_too_many e f = rw (route_at checks unseen route item there, lies (Ok measure) is, e, referents_there, below-false (names.len (referents_on checks.referents.now item.number)) REFERENTS f)

      pub new_checked : has_referent (state_by checks unseen) route name ≡ false → names.len (referents_on checks.referents.now item.number) < REFERENTS
          → Named (may_change (state_by checks unseen) >>= λ _. Ok (counted 0 (with_referent (state_by checks unseen) route name measure)))
      new_checked e f =
          rw (route_at checks unseen route item there, lies (Ok measure) is, e, ap (λ (r : Names ℕ). nat_lt (names.len r) REFERENTS) referents_there ∙ below-true (names.len (referents_on checks.referents.now item.number)) REFERENTS f)

    -- ---- a referent's move

    abbrev Moved : Result Effect Refusal → Type 0
    Moved answer = referent_moved (state_by checks unseen) route name position ≡ answer

    -- what comes after the checks of a referent that may be moved
    behind_checks : {B : Type 0} (o : Option RouteEnds) (is_there start : Bool) (next : RouteEnds → Result B Refusal) (at : RouteEnds)
        → (found o NoSuchRoute >>= λ ends. unless is_there NoSuchReferent >>= λ _. unless (not start) InUse >>= λ _. Ok ends) ≡ Ok at
        → (found o NoSuchRoute >>= λ ends. unless is_there NoSuchReferent >>= λ _. unless (not start) InUse >>= λ _. next ends) ≡ next at
    behind_checks None is_there start next at e = cc
    behind_checks (Some ends) false start next at e = cc
    behind_checks (Some ends) true true next at e = cc
    behind_checks (Some ends) true false next at e = cc

    module _ (movable : route_of_referent (state_by checks unseen) route name ≡ Ok item.ends) where
      moved_behind : Moved (position_on (state_by checks unseen) route item.ends position >>= λ measure. may_change (state_by checks unseen) >>= λ _. Ok (counted 0 (with_referent (state_by checks unseen) route name measure)))
      moved_behind = behind_checks (names.get (state_by checks unseen).routes route) (has_referent (state_by checks unseen) route name) (same_name start_name name)
          (λ ends. position_on (state_by checks unseen) route ends position >>= λ measure. may_change (state_by checks unseen) >>= λ _. Ok (counted 0 (with_referent (state_by checks unseen) route name measure))) item.ends movable

      pub moved_off_route : (refusal : Refusal) → Lies (Err refusal) → Moved (Err refusal)
      moved_off_route refusal is = moved_behind ∙ ap (λ (r : Result ℕ Refusal). r >>= λ measure. may_change (state_by checks unseen) >>= λ _. Ok (counted 0 (with_referent (state_by checks unseen) route name measure))) (lies (Err refusal) is)

      pub moved_checked : (measure : ℕ) → Lies (Ok measure) → Moved (may_change (state_by checks unseen) >>= λ _. Ok (counted 0 (with_referent (state_by checks unseen) route name measure)))
      moved_checked measure is = moved_behind ∙ ap (λ (r : Result ℕ Refusal). r >>= λ measure. may_change (state_by checks unseen) >>= λ _. Ok (counted 0 (with_referent (state_by checks unseen) route name measure))) (lies (Ok measure) is)

  -- ---- a referent that may be moved or dropped

  module _ (name : Name) where
    abbrev Found : Result RouteEnds Refusal → Type 0
    Found answer = route_of_referent (state_by checks unseen) route name ≡ answer

    pub old_missing : has_referent (state_by checks unseen) route name ≡ false → Found (Err NoSuchReferent)
    old_missing e = rw (route_at checks unseen route item there, e)

    pub old_is_start : has_referent (state_by checks unseen) route name ≡ true → same_name start_name name ≡ true → Found (Err InUse)
    old_is_start e f = rw (route_at checks unseen route item there, e, f)

    pub old_found : has_referent (state_by checks unseen) route name ≡ true → same_name start_name name ≡ false → Found (Ok item.ends)
    old_found e f = rw (route_at checks unseen route item there, e, f)

    or_right : (a b : Bool) → a ≡ false → (a || b) ≡ true → b ≡ true
    or_right false b off either = either
    or_right true b off either = false_true (sym off)

    pub old_has : has_referent (state_by checks unseen) route name ≡ true → same_name start_name name ≡ false → has ((state_by checks unseen).referents route) name ≡ true
    old_has e f = or_right (same_name start_name name) (has ((state_by checks unseen).referents route) name) f e

pub old_no_route : (checks : Checks) (unseen : Unseen) (route name : Name) → names.get checks.catalog.now.routes route ≡ None → route_of_referent (state_by checks unseen) route name ≡ Err NoSuchRoute
old_no_route checks unseen route name none = rw (no_route checks unseen route none)

pub new_no_route : (checks : Checks) (unseen : Unseen) (route name : Name) (position : PositionExpression) → names.get checks.catalog.now.routes route ≡ None → referent_defined (state_by checks unseen) route name position ≡ Err NoSuchRoute
new_no_route checks unseen route name position none = rw (no_route checks unseen route none)

-- the checks of a referent that may be moved or dropped, and what comes after them
abbrev old_checks : Option RouteEnds → Bool → Bool → Result RouteEnds Refusal
old_checks o is_there start = found o NoSuchRoute >>= λ ends. unless is_there NoSuchReferent >>= λ _. unless (not start) InUse >>= λ _. Ok ends

moving_fails : {B : Type 0} (o : Option RouteEnds) (is_there start : Bool) (next : RouteEnds → Result B Refusal) (refusal : Refusal) → old_checks o is_there start ≡ Err refusal
    → (found o NoSuchRoute >>= λ ends. unless is_there NoSuchReferent >>= λ _. unless (not start) InUse >>= λ _. next ends) ≡ Err refusal
moving_fails None is_there start next refusal e = cc
moving_fails (Some ends) false start next refusal e = cc
moving_fails (Some ends) true true next refusal e = cc
moving_fails (Some ends) true false next refusal e = cc

abbrev dropping : {B : Type 0} → Option RouteEnds → Bool → Bool → Bool → Result B Refusal → Result B Refusal
dropping o is_there start used next = found o NoSuchRoute >>= λ _. unless is_there NoSuchReferent >>= λ _. unless (not (start || used)) InUse >>= λ _. next

dropping_fails : {B : Type 0} (o : Option RouteEnds) (is_there start used : Bool) (next : Result B Refusal) (refusal : Refusal) → old_checks o is_there start ≡ Err refusal
    → dropping o is_there start used next ≡ Err refusal
dropping_fails None is_there start used next refusal e = cc
dropping_fails (Some ends) false start used next refusal e = cc
dropping_fails (Some ends) true true used next refusal e = cc
dropping_fails (Some ends) true false used next refusal e = cc

dropping_goes_on : {B : Type 0} (o : Option RouteEnds) (is_there start used : Bool) (next : Result B Refusal) (at : RouteEnds) → old_checks o is_there start ≡ Ok at
    → dropping o is_there start used next ≡ (unless (not used) InUse >>= λ _. next)
dropping_goes_on None is_there start used next at e = cc
dropping_goes_on (Some ends) false start used next at e = cc
dropping_goes_on (Some ends) true true used next at e = cc
dropping_goes_on (Some ends) true false used next at e = refl

module _ (checks : Checks) (unseen : Unseen) (route name : Name) where
  pub moves_none : (position : PositionExpression) (refusal : Refusal) → route_of_referent (state_by checks unseen) route name ≡ Err refusal → referent_moved (state_by checks unseen) route name position ≡ Err refusal
  moves_none position refusal e = moving_fails (names.get (state_by checks unseen).routes route) (has_referent (state_by checks unseen) route name) (same_name start_name name)
      (λ ends. position_on (state_by checks unseen) route ends position >>= λ measure. may_change (state_by checks unseen) >>= λ _. Ok (counted 0 (with_referent (state_by checks unseen) route name measure))) refusal e

  abbrev after_drop : Result Effect Refusal
  after_drop = may_change (state_by checks unseen) >>= λ _. Ok (counted 0 (without_referent (state_by checks unseen) route name))

  pub drops_none : (refusal : Refusal) → route_of_referent (state_by checks unseen) route name ≡ Err refusal → referent_dropped (state_by checks unseen) route name ≡ Err refusal
  drops_none refusal e = dropping_fails (names.get (state_by checks unseen).routes route) (has_referent (state_by checks unseen) route name) (same_name start_name name)
      (some_view_query checks.catalog.now (names_referent route name)) after_drop refusal e

  module _ (ends : RouteEnds) (found_there : route_of_referent (state_by checks unseen) route name ≡ Ok ends) where
    found_so : referent_dropped (state_by checks unseen) route name ≡ (unless (not (some_view_query checks.catalog.now (names_referent route name))) InUse >>= λ _. after_drop)
    found_so = dropping_goes_on (names.get (state_by checks unseen).routes route) (has_referent (state_by checks unseen) route name) (same_name start_name name)
        (some_view_query checks.catalog.now (names_referent route name)) after_drop ends found_there

    pub drops_seen_referent : some_view_query checks.catalog.now (names_referent route name) ≡ true → referent_dropped (state_by checks unseen) route name ≡ Err InUse
    drops_seen_referent e = found_so ∙ ap (λ b. unless (not b) InUse >>= λ _. after_drop) e

    pub drops_referent : some_view_query checks.catalog.now (names_referent route name) ≡ false → referent_dropped (state_by checks unseen) route name
        ≡ (may_change (state_by checks unseen) >>= λ _. Ok (counted 0 (without_referent (state_by checks unseen) route name)))
    drops_referent e = found_so ∙ ap (λ b. unless (not b) InUse >>= λ _. after_drop) e

-- a name that is not START's
pub not_start : (name : Name) → same_name start_name name ≡ false → name ≡ start_name → ⊥
not_start name off same = false_true (sym off ∙ ap (same_name start_name) same ∙ (eq_by_cmp_equiv name_cmp-total).refl start_name)

neither : (a b : Bool) → (a || b) ≡ false → (a ≡ false) × (b ≡ false)
neither false b e = (refl, e)
neither true b e = false_true (sym e)

pub new_not_start : (checks : Checks) (unseen : Unseen) (route name : Name) → has_referent (state_by checks unseen) route name ≡ false → name ≡ start_name → ⊥
new_not_start checks unseen route name off = not_start name (neither (same_name start_name name) (has ((state_by checks unseen).referents route) name) off).0

-- and that the route has not
pub new_has : (checks : Checks) (unseen : Unseen) (route name : Name) → has_referent (state_by checks unseen) route name ≡ false → has ((state_by checks unseen).referents route) name ≡ false
new_has checks unseen route name off = (neither (same_name start_name name) (has ((state_by checks unseen).referents route) name) off).1

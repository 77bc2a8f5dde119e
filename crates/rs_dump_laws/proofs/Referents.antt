-- The referents of a dump are accepted, each at its measure.
use Rattle.std.proofs.Common.{◌≡◌, ◌≢◌, ◌∙◌, ℕ, ◌+◌, ◌<◌, ◌≤◌, true, false, ◌&&◌, ◌||◌, cond, List, [], ◌∷◌, length, map, Some, None, is_some, refl, sym, ap, subst, arith}
use Rattle.std.specs.Prelude.{fold, if◌then◌else◌}
use Rattle.std.specs.List.{AllByRecursion}
use Rattle.std.specs.FinMap as names
use Rattle.std.specs.FinMap.{get-empty, get-insert, same_map}
use Rattle.std.proofs.lemmas.Bool.{and_from, and_parts}
use Rattle.rs_refusal.specs.declared.refusal.Refusal.TheVariants.{Limit, NameTaken, NoSuchRoute}
use Rattle.rs_methods.specs.Position.{absolute, start_name}
use Rattle.rs_facts.specs.Fact.{Name, Names, name_cmp}
use Rattle.rs_facts.specs.Insert.{same_name}
use Rattle.rs_machine.specs.State.{State, has, no_referents}
use Rattle.rs_machine.specs.Checks.{found, has_referent, position_on, unless}
use Rattle.rs_machine.specs.Lawful.{IsReferent}
use Rattle.rs_machine.specs.Step.{may_change, referents_at, with_referents}
use Rattle.rs_machine.specs.declared.limits.TheConstants.{CHANGES, REFERENTS}
use Rattle.rs_machine.proofs.NameOrder.{name_cmp-total, name_cmp-antisymmetric}
use Rattle.rs_dump_laws.specs.Accepted.{Accepted}
use Rattle.rs_dump_laws.specs.Dump.{referent_command}
use Rattle.rs_dump_laws.specs.Parts.{AreAll, IsReferentOf, PlacedReferent}
use Rattle.rs_dump_laws.proofs.NamedThings.{len_one_more, none_less, same_name-apart, same_name-itself, same_name-true, some_same}
use Rattle.rs_dump_laws.proofs.Stores.{AreNew, IsAnsweredBy, Store, answered, listed_new}
use Rattle.rs_dump_laws.proofs.Walks.{AreTaken, IsTaken, fails, is_below, is_found, lies_there, may, next_is, taken}

-- the referents of all routes
abbrev pub Referents : Type 0
Referents = Name → Names ℕ

abbrev put : Referents → PlacedReferent → Referents
put referents one = referents_at one.route (names.insert (referents one.route) one.name one.measure) referents

-- ---- what is there after one was put

on_other_route : (one : PlacedReferent) (referents : Referents) (route : Name) → same_name route one.route ≡ false → put referents one route ≡ referents route
unfolding referents_at
on_other_route one referents route apart = ap (λ b. if b then names.insert (referents one.route) one.name one.measure else referents route) apart

on_its_route : (one : PlacedReferent) (referents : Referents) (route : Name) → same_name route one.route ≡ true → put referents one route ≡ names.insert (referents route) one.name one.measure
unfolding referents_at
on_its_route one referents route same =
    ap (λ b. if b then names.insert (referents one.route) one.name one.measure else referents route) same
    ∙ ap (λ r. names.insert (referents r) one.name one.measure) (sym (same_name-true route one.route same))

looked : (referents : Referents) (one : PlacedReferent) (q : Name × Name) → names.get (put referents one q.0) q.1 ≡ cond (same_name q.0 one.route && same_name q.1 one.name) (Some one.measure) (names.get (referents q.0) q.1)
looked referents one q = elim (same_name q.0 one.route) as (λ b. same_name q.0 one.route ≡ b → names.get (put referents one q.0) q.1 ≡ cond (b && same_name q.1 one.name) (Some one.measure) (names.get (referents q.0) q.1)) [
  | true ↦ λ same. ap (λ r. names.get r q.1) (on_its_route one referents q.0 same) ∙ get-insert name_cmp-total (referents q.0) one.name one.measure q.1
  | false ↦ λ apart. ap (λ r. names.get r q.1) (on_other_route one referents q.0 apart)
] refl

-- asked by a route and a name
abbrev referent_store : Store Referents PlacedReferent (Name × Name) ℕ
referent_store = record {
  put = put;
  look = λ referents q. names.get (referents q.0) q.1;
  answers = λ one q. same_name q.0 one.route && same_name q.1 one.name;
  value = λ one. one.measure;
  looked = looked;
}

abbrev pub put_all_referents : Referents → List PlacedReferent → Referents
put_all_referents referents list = fold put referents list

-- ---- all referents of a state

answers_of : (state : State) → IsAnsweredBy referent_store (IsReferentOf state) (λ q. names.get (state.referents q.0) q.1)
answers_of state = record {
  each = λ one is q told.
      let parts = and_parts (same_name q.0 one.route) (same_name q.1 one.name) told in
      ap (λ r. names.get (state.referents r) q.1) (same_name-true q.0 one.route parts.0)
      ∙ ap (names.get (state.referents one.route)) (same_name-true q.1 one.name parts.1) ∙ is;
  all = λ q measure e. (record { route = q.0; name = q.1; measure = measure }, e, and_from (same_name q.0 q.0) (same_name q.1 q.1) (same_name-itself q.0) (same_name-itself q.1), refl);
  one = λ a b is other q told too.
      let first = and_parts (same_name q.0 a.route) (same_name q.1 a.name) told in
      let second = and_parts (same_name q.0 b.route) (same_name q.1 b.name) too in
      let route : a.route ≡ b.route = sym (same_name-true q.0 a.route first.0) ∙ same_name-true q.0 b.route second.0 in
      let name : a.name ≡ b.name = sym (same_name-true q.1 a.name first.1) ∙ same_name-true q.1 b.name second.1 in
      let measure : a.measure ≡ b.measure = some_same a.measure b.measure (sym is ∙ ap (λ r. names.get (state.referents r) a.name) route ∙ ap (names.get (state.referents b.route)) name ∙ other) in
      λ i. record { route = route i; name = name i; measure = measure i };
}

none_yet : (q : Name × Name) → names.get (no_referents q.0) q.1 ≡ None
none_yet q = get-empty name_cmp q.1

pub all_referents : (state : State) (list : List PlacedReferent) → AreAll (IsReferentOf state) list → put_all_referents no_referents list ≡ state.referents
all_referents state list all = λ i route. same_map name_cmp-total name_cmp-antisymmetric (put_all_referents no_referents list route) (state.referents route)
    (λ name. answered referent_store (IsReferentOf state) (λ q. names.get (state.referents q.0) q.1) (answers_of state) no_referents list all none_yet (route, name)) i

-- no referent is there when its turn comes
abbrev pub AreNewReferents : Referents → List PlacedReferent → Type 0
AreNewReferents referents [] = Unit {0}
AreNewReferents referents (one ∷ more) = (has (referents one.route) one.name ≡ false) × AreNewReferents (put referents one) more

new_referents : (referents : Referents) (list : List PlacedReferent) → AreNew referent_store referents list → AreNewReferents referents list
new_referents referents [] new = tt
new_referents referents (one ∷ more) new = (
  ap is_some (new.0 (one.route, one.name) (and_from (same_name one.route one.route) (same_name one.name one.name) (same_name-itself one.route) (same_name-itself one.name))),
  new_referents (put referents one) more new.1,
)

pub all_new_referents : (state : State) (list : List PlacedReferent) → AreAll (IsReferentOf state) list → AreNewReferents no_referents list
all_new_referents state list all =
    new_referents no_referents list (listed_new referent_store (IsReferentOf state) (λ q. names.get (state.referents q.0) q.1) (answers_of state) no_referents list all none_yet)

-- ---- room

none_less_one : (referents : Referents) (one : PlacedReferent) (route : Name) → names.len (referents route) ≤ names.len (put referents one route)
none_less_one referents one route = elim (same_name route one.route) as (λ b. same_name route one.route ≡ b → names.len (referents route) ≤ names.len (put referents one route)) [
  | true ↦ λ same. subst (λ r. names.len (referents route) ≤ names.len r) (sym (on_its_route one referents route same)) (none_less (referents route) one.name one.measure)
  | false ↦ λ apart. subst (λ r. names.len (referents route) ≤ names.len r) (sym (on_other_route one referents route apart)) (omega arith)
] refl

none_less_all : (referents : Referents) (list : List PlacedReferent) (route : Name) → names.len (referents route) ≤ names.len (put_all_referents referents list route)
none_less_all referents [] route = omega arith
none_less_all referents (one ∷ more) route = let first = none_less_one referents one route in let rest = none_less_all (put referents one) more route in omega arith

room_for_one : (referents : Referents) (one : PlacedReferent) (more : List PlacedReferent) → has (referents one.route) one.name ≡ false
    → ((route : Name) → names.len (put_all_referents referents (one ∷ more) route) ≤ REFERENTS) → names.len (referents one.route) < REFERENTS
room_for_one referents one more new few =
    let long = len_one_more (referents one.route) one.name one.measure new in
    let put_there = ap names.len (on_its_route one referents one.route (same_name-itself one.route)) in
    let rest = none_less_all (put referents one) more one.route in
    let most = few one.route in
    omega arith

-- ---- accepted

abbrev put_referent : State → PlacedReferent → State
put_referent state one = with_referents state one.route (names.insert (state.referents one.route) one.name one.measure)

abbrev with_all_referents : State → Referents → ℕ → State
with_all_referents state referents changes = record state { referents = referents; changes = changes }

no_name : (state : State) (one : PlacedReferent) → one.name ≢ start_name → has (state.referents one.route) one.name ≡ false → has_referent state one.route one.name ≡ false
no_name state one other new = ap (λ b. b || has (state.referents one.route) one.name) (same_name-apart start_name one.name (λ same. other (sym same))) ∙ new

one_taken : (state : State) (one : PlacedReferent) → has (state.referents one.route) one.name ≡ false → IsReferent state.routes one.route one.name one.measure
    → names.len (state.referents one.route) < REFERENTS → state.changes < CHANGES → IsTaken referent_command put_referent state one
one_taken state one new is few room = (
  0,
  next_is (found _ NoSuchRoute) is.lies.ends _ (is_found (names.get state.routes one.route) NoSuchRoute is.lies.ends is.lies.there)
      ∙ next_is (position_on state one.route is.lies.ends (absolute one.measure)) one.measure _ (lies_there state one.route is.lies.ends one.measure is.lies.is_so)
      ∙ next_is (unless _ NameTaken) tt _ (fails (has_referent state one.route one.name) NameTaken (no_name state one is.not_start new))
      ∙ next_is (unless _ Limit) tt _ (is_below (names.len (state.referents one.route)) REFERENTS Limit few)
      ∙ next_is (may_change state) tt _ (may state room),
)

all_taken : (state : State) (list : List PlacedReferent) → AreNewReferents state.referents list → AllByRecursion (λ one. IsReferent state.routes one.route one.name one.measure) list
    → ((route : Name) → names.len (put_all_referents state.referents list route) ≤ REFERENTS) → state.changes + length list ≤ CHANGES → AreTaken referent_command put_referent state list
all_taken state [] new are few room = tt
all_taken state (one ∷ more) new are few room = (
  one_taken state one new.0 are.0 (room_for_one state.referents one more new.0 few) (omega arith),
  all_taken (put_referent state one) more new.1 are.1 few (omega arith),
)

after_all : (state : State) (list : List PlacedReferent) → fold put_referent state list ≡ with_all_referents state (put_all_referents state.referents list) (state.changes + length list)
after_all state [] = ap (with_all_referents state state.referents) (let e : state.changes ≡ state.changes + 0 = omega arith in e)
after_all state (one ∷ more) =
    after_all (put_referent state one) more
    ∙ ap (with_all_referents state (put_all_referents state.referents (one ∷ more))) (let e : state.changes + 1 + length more ≡ state.changes + length (one ∷ more) = omega arith in e)

pub referents_accepted : (state : State) (list : List PlacedReferent) → AreNewReferents state.referents list → AllByRecursion (λ one. IsReferent state.routes one.route one.name one.measure) list
    → ((route : Name) → names.len (put_all_referents state.referents list route) ≤ REFERENTS) → state.changes + length list ≤ CHANGES
    → Accepted state (map referent_command list) (with_all_referents state (put_all_referents state.referents list) (state.changes + length list))
referents_accepted state list new are few room =
    subst (Accepted state (map referent_command list)) (after_all state list) (taken referent_command put_referent state list (all_taken state list new are few room))

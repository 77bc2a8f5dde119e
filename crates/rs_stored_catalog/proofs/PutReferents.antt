-- The referents of routes as they are put one after another.
use Rattle.std.proofs.Common.{◌≡◌, ◌≢◌, ◌+◌, ◌==◌, ◌||◌, ℕ, zero, suc, Bool, true, false, cond, inl, inr, Option, Some, None, List, [], ◌∷◌, ◌++◌, map, nat_eq, slice_get, take, refl, ap, sym, subst, ◌∙◌, arith}
use Rattle.std.specs.FinMap as names
use Rattle.std.specs.FinMap.Entries.{find-append}
use Rattle.std.specs.Option.{option_or}
use Rattle.std.specs.Ordering.{eq_by_cmp}
use Rattle.std.proofs.lemmas.Bool.Decides.{nat_tests}
use Rattle.std.proofs.lemmas.List.{map-append}
use Rattle.std.proofs.lemmas.List.Folds.{list_any-append}
use Rattle.rs_catalog.specs.Referents.{at_number}
use Rattle.rs_catalog.proofs.MapLaws.{same_name-true}
use Rattle.rs_catalog.proofs.NameOrder.{name_cmp-antisymmetric, name_cmp-total}
use Rattle.rs_stored_catalog.specs.Referents.{HasMore}
use Rattle.rs_facts.specs.Fact.{Name, Names, name_cmp}
use Rattle.rs_machine.specs.Lawful.{AreDistinct}
use Rattle.rs_page_owners.proofs.Moving.{same_number}
use Rattle.rs_stored_catalog.proofs.MeantReferents.{has_number, none_elsewhere}
use Rattle.rs_tree.proofs.Lists.{all_at, map_at, take_next}
use Rattle.rs_versioned.specs.Meant.{AreReferentsMeant}
use Rattle.rs_versioned.specs.Referents.{ReferentRecord, referents_at}
use Rattle.rs_versioned.specs.declared.route_span.RouteSpan.{RouteSpan}

-- ---- one referent after another

-- a referent's name and its measure
abbrev pub entry_of : ReferentRecord → Name × ℕ
entry_of referent = (referent.name, referent.measure)

abbrev pub entries_of : List ReferentRecord → List (Name × ℕ)
entries_of referents = map entry_of referents

abbrev pub names_of : List (Name × ℕ) → List Name
names_of entries = map (λ one. one.0) entries

-- names that differ don't tie
apart : (a b : Name) → b ≢ a → eq_by_cmp name_cmp a b ≡ false
apart a b other = by_test (eq_by_cmp name_cmp a b) refl where
  by_test : (t : Bool) → eq_by_cmp name_cmp a b ≡ t → t ≡ false
  by_test true is = absurd (other (sym (same_name-true a b is)))
  by_test false is = refl

-- where each has a name of its own, the name of the next is none of those before it
is_new : (referents : List ReferentRecord) (k : ℕ) (one : ReferentRecord) → slice_get referents k ≡ Some one → AreDistinct (names_of (entries_of referents))
    → names.find name_cmp one.name (entries_of (take k referents)) ≡ None
is_new [] k one there distinct = absurd (cc)
is_new (first ∷ more) zero one there distinct = refl
is_new (first ∷ more) (suc k) one there distinct =
    ap (λ (b : Bool). cond b (Some first.measure) (names.find name_cmp one.name (entries_of (take k more))))
    (apart one.name first.name (all_at (λ other. first.name ≢ other) (names_of (entries_of more)) k one.name distinct.0
    (map_at (λ (e : Name × ℕ). e.0) (entries_of more) k (entry_of one) (map_at entry_of more k one there))))
    ∙ is_new more k one there distinct.1

none_more : (route : ℕ) (now : ℕ → Names ℕ) → HasMore route [] now now
none_more route now = record { there = λ name. refl; others = λ number isnt. refl }

-- nothing is put yet
pub put_none : (route : ℕ) (referents : List ReferentRecord) (now : ℕ → Names ℕ) → HasMore route (entries_of (take 0 referents)) now now
put_none route [] now = none_more route now
put_none route (one ∷ more) now = none_more route now

module _ (route : ℕ) (entries : List (Name × ℕ)) (name : Name) (measure : ℕ) (old mid now : ℕ → Names ℕ) (so_far : HasMore route entries old mid) (new : names.find name_cmp name entries ≡ None)
    (put : now ≡ at_number route (names.insert (mid route) name measure) mid) where
  here : now route ≡ names.insert (mid route) name measure
  unfolding at_number
  here =
      let same : nat_eq route route ≡ true = grind (arith, nat_tests) in
      ap (λ (f : ℕ → Names ℕ). f route) put ∙ ap (λ (b : Bool). cond b (names.insert (mid route) name measure) (mid route)) same

  elsewhere : (number : ℕ) → number ≢ route → now number ≡ mid number
  unfolding at_number
  elsewhere number other =
      let off : nat_eq number route ≡ false = grind (arith, nat_tests) in
      ap (λ (f : ℕ → Names ℕ). f number) put ∙ ap (λ (b : Bool). cond b (names.insert (mid route) name measure) (mid number)) off

  chosen : (b : Bool) (found old_one : Option ℕ) → cond b (Some measure) (option_or found old_one) ≡ option_or (cond b (Some measure) found) old_one
  chosen true found old_one = refl
  chosen false found old_one = refl

  -- one referent more
  put_next : HasMore route (entries ++ (name, measure) ∷ []) old now
  put_next = record {
    there = λ q.
        ap (λ (m : Names ℕ). names.get m q) here ∙ names.get-insert name_cmp-total (mid route) name measure q
        ∙ ap (cond (eq_by_cmp name_cmp q name) (Some measure)) (so_far.there q)
        ∙ chosen (eq_by_cmp name_cmp q name) (names.find name_cmp q entries) (names.get (old route) q)
        ∙ ap (λ (o : Option ℕ). option_or o (names.get (old route) q)) (sym (find-append name_cmp name_cmp-total entries name measure q new));
    others = λ number other. elsewhere number other ∙ so_far.others number other;
  }

-- one referent more of a list
pub put_at : (route : ℕ) (referents : List ReferentRecord) (k : ℕ) (one : ReferentRecord) → slice_get referents k ≡ Some one → AreDistinct (names_of (entries_of referents))
    → (old mid now : ℕ → Names ℕ) → HasMore route (entries_of (take k referents)) old mid → (name : Name) (measure : ℕ)
    → now ≡ at_number route (names.insert (mid route) name measure) mid → name ≡ one.name → measure ≡ one.measure → HasMore route (entries_of (take (k + 1) referents)) old now
put_at route referents k one there distinct old mid now so_far name measure put named measured =
    let next : suc k ≡ k + 1 = omega arith in
    let as_one : now ≡ at_number route (names.insert (mid route) one.name one.measure) mid =
    put ∙ ap (λ (n : Name). at_number route (names.insert (mid route) n measure) mid) named ∙ ap (λ (m : ℕ). at_number route (names.insert (mid route) one.name m) mid) measured in
    subst (λ (entries : List (Name × ℕ)). HasMore route entries old now)
    (sym (map-append entry_of (take k referents) (one ∷ [])) ∙ ap entries_of (sym (take_next referents k one there) ∙ ap (λ (n : ℕ). take n referents) next))
    (put_next route (entries_of (take k referents)) one.name one.measure old mid now so_far (is_new referents k one there distinct) as_one)

-- ---- one route after another

-- these, or none
abbrev pub held : Bool → List (Name × ℕ) → Names ℕ
held b entries = cond b (names.from_entries entries) names.empty

-- the routes that have one of these numbers have just the referents that the version sees on them, and no other has any
abbrev pub HaveThose : List RouteSpan → ℕ → List ReferentRecord → (ℕ → Names ℕ) → Type 0
HaveThose routes version referents now = (number : ℕ) → now number ≡ held (has_number number routes) (referents_at version number referents)

-- whether they were there before or none was, they are there now
pub either_way : (b : Bool) (entries : List (Name × ℕ)) (was is : Names ℕ) → was ≡ held b entries
    → ((q : Name) → names.get is q ≡ option_or (names.find name_cmp q entries) (names.get was q)) → is ≡ names.from_entries entries
either_way b entries was is before after = names.same_map name_cmp-total name_cmp-antisymmetric is (names.from_entries entries) (λ q.
    after q ∙ ap (λ (m : Names ℕ). option_or (names.find name_cmp q entries) (names.get m q)) before ∙ by_turn b q ∙ sym (names.get-from_entries name_cmp-total entries q)) where
      or_none : (o : Option ℕ) → option_or o None ≡ o
      or_none None = refl
      or_none (Some x) = refl

      or_same : (o : Option ℕ) → option_or o o ≡ o
      or_same None = refl
      or_same (Some x) = refl

      by_turn : (t : Bool) (q : Name) → option_or (names.find name_cmp q entries) (names.get (held t entries) q) ≡ names.find name_cmp q entries
      by_turn true q = ap (option_or (names.find name_cmp q entries)) (names.get-from_entries name_cmp-total entries q) ∙ or_same (names.find name_cmp q entries)
      by_turn false q = ap (option_or (names.find name_cmp q entries)) (names.get-empty name_cmp q) ∙ or_none (names.find name_cmp q entries)

or_true : (b : Bool) → (b || true) ≡ true
or_true true = refl
or_true false = refl

or_false : (b : Bool) → (b || false) ≡ b
or_false true = refl
or_false false = refl

module _ (routes : List RouteSpan) (k : ℕ) (route : RouteSpan) (there : slice_get routes k ≡ Some route) (version : ℕ) (referents : List ReferentRecord) (old now : ℕ → Names ℕ)
    (so_far : HaveThose (take k routes) version referents old) (more : HasMore route.number (referents_at version route.number referents) old now) where
  grows : (number : ℕ) → has_number number (take (k + 1) routes) ≡ (has_number number (take k routes) || (route.number == number))
  grows number =
      let next : suc k ≡ k + 1 = omega arith in
      ap (λ (n : ℕ). has_number number (take n routes)) (sym next) ∙ ap (has_number number) (take_next routes k route there)
      ∙ list_any-append (λ (one : RouteSpan). one.number == number) (take k routes) (route ∷ []) ∙ ap (λ (b : Bool). has_number number (take k routes) || b) (or_false (route.number == number))

  on_it : now route.number ≡ held (has_number route.number (take (k + 1) routes)) (referents_at version route.number referents)
  on_it =
      let same : (route.number == route.number) ≡ true = grind (arith, nat_tests) in
      let has : has_number route.number (take (k + 1) routes) ≡ true = grows route.number ∙ ap (λ (b : Bool). has_number route.number (take k routes) || b) same ∙ or_true (has_number route.number (take k routes)) in
      either_way (has_number route.number (take k routes)) (referents_at version route.number referents) (old route.number) (now route.number) (so_far route.number) more.there
      ∙ ap (λ (b : Bool). held b (referents_at version route.number referents)) (sym has)

  off_it : (number : ℕ) → number ≢ route.number → now number ≡ held (has_number number (take (k + 1) routes)) (referents_at version number referents)
  off_it number other =
      let off : (route.number == number) ≡ false = grind (arith, nat_tests) in
      let has : has_number number (take (k + 1) routes) ≡ has_number number (take k routes) = grows number ∙ ap (λ (b : Bool). has_number number (take k routes) || b) off ∙ or_false (has_number number (take k routes)) in
      more.others number other ∙ so_far number
      ∙ ap (λ (b : Bool). held b (referents_at version number referents)) (sym has)

  -- one route more
  pub have_next : HaveThose (take (k + 1) routes) version referents now
  have_next number = elim (same_number number route.number) [
    | inl is ↦ subst (λ (n : ℕ). now n ≡ held (has_number n (take (k + 1) routes)) (referents_at version n referents)) (sym is) on_it
    | inr isnt ↦ off_it number isnt
  ]

-- where they are meant, each route has just the referents that the version sees on it
pub all_brought : (routes : List RouteSpan) (version : ℕ) (referents : List ReferentRecord) → AreReferentsMeant routes version referents → (now : ℕ → Names ℕ) → HaveThose routes version referents now
    → (number : ℕ) → now number ≡ names.from_entries (referents_at version number referents)
all_brought routes version referents meant now those number = those number ∙ by_turn (has_number number routes) refl where
  by_turn : (b : Bool) → has_number number routes ≡ b → held b (referents_at version number referents) ≡ names.from_entries (referents_at version number referents)
  by_turn true is = refl
  by_turn false isnt = ap (λ (entries : List (Name × ℕ)). names.from_entries entries) (sym (none_elsewhere routes version referents meant number isnt))

-- Laws of the referents that are kept of each route, by the route's number.
use Rattle.std.proofs.Common.{◌≡◌, ℕ, Bool, true, false, cond, not, ◌&&◌, T, IsTrue, List, [], ◌∷◌, length, filter, nat_eq, Option, Some, None, refl, sym, ap, subst, ◌∙◌}
use Rattle.std.specs.Prelude.{◌≢◌, is_some, unwrap_or}
use Rattle.std.proofs.Math.Path.{fun_ext}
use Rattle.std.proofs.lemmas.Slice.Eq.{bytes_eq-Decides}
use Rattle.std.proofs.lemmas.Bool.Decides.{Decides-eqb, same_from_decides}
use Rattle.std.specs.Ordering.{nat_cmp, is_lt, ordering_then}
use Rattle.std.specs.Cmp.{eq_by_cmp_equiv, nat_cmp_total, tied_itself, unsigned_tied}
use Rattle.std.specs.Cmp.Lexicographic.{slice_cmp}
use Rattle.std.specs.Str.{bytes_eq}
use Rattle.std.specs.FinMap as maps
use Rattle.std.specs.FinMap.{find, put, is_sorted, get-from_entries, get-insert, get-remove, get-empty, len-entries, same_map}
use Rattle.std.specs.FinMap.Entries.{below_all, find-put, find-where_key}
use Rattle.std.specs.Map.{lookup}
use Rattle.std.specs.BTreeMap.{BTreeMap, is_at}
use Rattle.rs_methods.specs.declared.position.Method.{Method}
use Rattle.rs_methods.specs.declared.route.Route.{Route}
use Rattle.rs_methods.specs.OnRoute.{located_on, expressed_on}
use Rattle.rs_methods.specs.Position.{PositionExpression, start_name, measure_of, located, expression_at}
use Rattle.rs_methods.specs.Referents.{key_cmp, is_key, AreReferents, referents_of}
use Rattle.rs_methods.proofs.RouteReferents.{referents_of-put_same, referents_of-filter_same}
use Rattle.rs_facts.specs.Fact.{Name, Names, name_cmp}
use Rattle.rs_facts.specs.Insert.{same_name}
use Rattle.rs_facts.specs.Query.{RouteEnds}
use Rattle.rs_machine.specs.State.{has}
use Rattle.rs_catalog.specs.declared.referents.TheConstants.{OWN_ROUTE}
use Rattle.rs_catalog.specs.Definitions.{Numbered}
use Rattle.rs_catalog.specs.Referents.{HeldReferents, referents_by_name, referents_on, no_referents, at_number}
use Rattle.rs_catalog.proofs.NameOrder.{name_cmp-total, name_cmp-antisymmetric}
use Rattle.rs_catalog.proofs.Names.{entries-from_entries, left_true, right_true}
use Rattle.rs_catalog.proofs.MapLaws.{same_name-true}
use Rattle.rs_catalog.proofs.Numbered.{numbered, get-numbered}

abbrev pub Held : Type 0
Held = Numbered HeldReferents

-- ---- one name

-- names are told apart by their bytes
pub same_bytes : (a b : Name) → same_name a b ≡ bytes_eq b a
same_bytes a b = same_from_decides (same_name a b) (bytes_eq b a)
    (λ e. sym (same_name-true a b e), λ e. ap (same_name a) e ∙ (eq_by_cmp_equiv name_cmp-total).refl a) (bytes_eq-Decides b a)

pub start_by_bytes : (name : Name) → bytes_eq name start_name ≡ same_name start_name name
start_by_bytes name = sym (same_bytes start_name name)

-- ---- the referents of a list, by name

and_true : (a b : Bool) → T a → T b → T (a && b)
and_true true b h k = k
and_true false b h k = absurd h

to_T : (b : Bool) → IsTrue b → T b
to_T b e = subst T (sym e) tt

-- of two referents of one route in order, the names are in order
names_rise : (route : ℕ) (a b : ℕ × Name) → nat_eq a.0 route ≡ true → nat_eq b.0 route ≡ true → T (is_lt (key_cmp a b)) → T (is_lt (name_cmp a.1 b.1))
unfolding key_cmp name_cmp
names_rise route a b here there below =
    let one : a.0 ≡ b.0 = (Decides-eqb a.0 route).0 here ∙ sym ((Decides-eqb b.0 route).0 there) in
    subst (λ o. T (is_lt (ordering_then o (slice_cmp nat_cmp a.1 b.1)))) (ap (nat_cmp a.0) (sym one) ∙ tied_itself nat_cmp_total a.0) below

below_names : (route : ℕ) (key : ℕ × Name) (es : HeldReferents) → nat_eq key.0 route ≡ true → T (below_all key_cmp key es) → T (below_all name_cmp key.1 (referents_of route es))
below_names route key [] here below = tt
below_names route key (e ∷ es) here below =
    let rest = below_names route key es here (right_true _ _ below) in
    elim (nat_eq e.0.0 route) as (λ s. nat_eq e.0.0 route ≡ s → T (below_all name_cmp key.1 (cond s ((e.0.1, e.1) ∷ referents_of route es) (referents_of route es)))) [
      | true ↦ λ there. and_true _ _ (names_rise route key e.0 here there (left_true _ _ below)) rest
      | false ↦ λ there. rest
    ] refl

names_sorted : (route : ℕ) (es : HeldReferents) → T (is_sorted key_cmp es) → T (is_sorted name_cmp (referents_of route es))
names_sorted route [] h = tt
names_sorted route (e ∷ es) h =
    let rest = names_sorted route es (right_true _ _ h) in
    elim (nat_eq e.0.0 route) as (λ s. nat_eq e.0.0 route ≡ s → T (is_sorted name_cmp (cond s ((e.0.1, e.1) ∷ referents_of route es) (referents_of route es)))) [
      | true ↦ λ here. and_true _ _ (below_names route e.0 es here (left_true _ _ h)) rest
      | false ↦ λ here. rest
    ] refl

-- the machine's referents of a list in order are the list's
pub entries-referents : (es : HeldReferents) → AreReferents es → maps.entries (referents_by_name es) ≡ referents_of OWN_ROUTE es
entries-referents es are = entries-from_entries (referents_of OWN_ROUTE es) (names_sorted OWN_ROUTE es (to_T _ are.sorted))

pub len-referents : (es : HeldReferents) → AreReferents es → maps.len (referents_by_name es) ≡ length (referents_of OWN_ROUTE es)
len-referents es are = len-entries (referents_by_name es) ∙ ap length (entries-referents es are)

find-measure_of : (es : List (Name × ℕ)) (q : Name) → find name_cmp q es ≡ measure_of q es
find-measure_of [] q = refl
find-measure_of (e ∷ es) q = ap (λ b. cond b (Some e.1) (find name_cmp q es)) (same_bytes q e.0) ∙ ap (cond (bytes_eq e.0 q) (Some e.1)) (find-measure_of es q)

pub get-referents : (es : HeldReferents) (q : Name) → maps.get (referents_by_name es) q ≡ measure_of q (referents_of OWN_ROUTE es)
get-referents es q = get-from_entries name_cmp-total (referents_of OWN_ROUTE es) q ∙ find-measure_of (referents_of OWN_ROUTE es) q

-- a put and a removal among names
by_name-put : (es : List (Name × ℕ)) (name : Name) (measure : ℕ) → maps.from_entries {R = name_cmp} (put name_cmp name measure es) ≡ maps.insert (maps.from_entries es) name measure
by_name-put es name measure = same_map name_cmp-total name_cmp-antisymmetric _ _ (λ q.
    get-from_entries name_cmp-total (put name_cmp name measure es) q ∙ find-put name_cmp name_cmp-total q name measure es
    ∙ sym (get-insert name_cmp-total (maps.from_entries es) name measure q ∙ ap (cond (same_name q name) (Some measure)) (get-from_entries name_cmp-total es q)))

by_name-filter : (es : List (Name × ℕ)) (name : Name) → maps.from_entries {R = name_cmp} (filter (λ e. not (bytes_eq e.0 name)) es) ≡ maps.remove (maps.from_entries es) name
by_name-filter es name = same_map name_cmp-total name_cmp-antisymmetric _ _ (λ q.
    get-from_entries name_cmp-total (filter (λ e. not (bytes_eq e.0 name)) es) q
    ∙ find-where_key name_cmp (λ x. not (bytes_eq x name)) q (λ x tied. ap (λ x. not (bytes_eq x name)) (sym (name_cmp-antisymmetric q x tied))) es
    ∙ turned (bytes_eq q name) (find name_cmp q es)
    ∙ ap (λ b. cond b None (find name_cmp q es)) (sym (same_bytes name q) ∙ (eq_by_cmp_equiv name_cmp-total).symm name q)
    ∙ sym (get-remove name_cmp-total (maps.from_entries es) name q ∙ ap (cond (same_name q name) None) (get-from_entries name_cmp-total es q)))
  where
    turned : (b : Bool) (x : Option ℕ) → cond (not b) x None ≡ cond b None x
    turned true x = refl
    turned false x = refl

-- ---- the referents of each route

pub held_at : (held : Held) (number : ℕ) (list : HeldReferents) → maps.get held number ≡ Some list → referents_on held number ≡ referents_by_name list
unfolding referents_on
held_at held number list there = ap (λ o. referents_by_name (unwrap_or o [])) there

pub held_none : (held : Held) (number : ℕ) → maps.get held number ≡ None → referents_on held number ≡ referents_by_name []
unfolding referents_on
held_none held number there = ap (λ o. referents_by_name (unwrap_or o [])) there

pub referents_on-empty : referents_on maps.empty ≡ no_referents
referents_on-empty = fun_ext (λ number. held_none maps.empty number (get-empty nat_cmp number))

-- one route's list is another
pub referents_on-insert : (held : Held) (number : ℕ) (list : HeldReferents) (after : Names ℕ) → referents_by_name list ≡ after
    → referents_on (maps.insert held number list) ≡ at_number number after (referents_on held)
unfolding referents_on at_number
referents_on-insert held number list after means = fun_ext (λ n.
    ap (λ o. referents_by_name (unwrap_or o [])) (get-insert nat_cmp_total held number list n)
    ∙ ap (λ b. referents_by_name (unwrap_or (cond b (Some list) (maps.get held n)) [])) (unsigned_tied n number)
    ∙ elim (nat_eq n number) as (λ b. referents_by_name (unwrap_or (cond b (Some list) (maps.get held n)) []) ≡ cond b after (referents_on held n)) [
      | true ↦ means
      | false ↦ refl
    ])

-- one route's list is gone
pub referents_on-remove : (held : Held) (number : ℕ) → referents_on (maps.remove held number) ≡ at_number number maps.empty (referents_on held)
unfolding referents_on at_number
referents_on-remove held number = fun_ext (λ n.
    ap (λ o. referents_by_name (unwrap_or o [])) (get-remove nat_cmp_total held number n)
    ∙ ap (λ b. referents_by_name (unwrap_or (cond b None (maps.get held n)) [])) (unsigned_tied n number)
    ∙ elim (nat_eq n number) as (λ b. referents_by_name (unwrap_or (cond b None (maps.get held n)) []) ≡ cond b maps.empty (referents_on held n)) [
      | true ↦ refl
      | false ↦ refl
    ])

-- nothing changes where a route takes the referents that it has
pub at_number-same : (referents : ℕ → Names ℕ) (number : ℕ) → at_number number (referents number) referents ≡ referents
unfolding at_number
at_number-same referents number = fun_ext (λ n.
    elim (nat_eq n number) as (λ b. nat_eq n number ≡ b → cond b (referents number) (referents n) ≡ referents n) [
      | true ↦ λ e. ap referents (sym ((Decides-eqb n number).0 e))
      | false ↦ λ e. refl
    ] refl)

-- ---- positions on a route by the list that is kept of it

module _ (route : Route) (ends : RouteEnds) (es : HeldReferents) (number : route.number ≡ OWN_ROUTE) (start : route.start ≡ ends.start) (finish : route.finish ≡ ends.finish) (are : AreReferents es) where
  own : referents_of route.number es ≡ maps.entries (referents_by_name es)
  own = ap (λ n. referents_of n es) number ∙ sym (entries-referents es are)

  pub located_own : (position : PositionExpression) → located_on route es position ≡ located ends.start ends.finish (maps.entries (referents_by_name es)) position
  located_own position =
      ap (λ s. located s route.finish (referents_of route.number es) position) start
      ∙ ap (λ f. located ends.start f (referents_of route.number es) position) finish
      ∙ ap (λ list. located ends.start ends.finish list position) own

  pub expressed_own : (method : Method) (k : ℕ) → expressed_on route es method k ≡ expression_at ends.start ends.finish (maps.entries (referents_by_name es)) method k
  expressed_own method k =
      ap (λ s. expression_at s route.finish (referents_of route.number es) method k) start
      ∙ ap (λ f. expression_at ends.start f (referents_of route.number es) method k) finish
      ∙ ap (λ list. expression_at ends.start ends.finish list method k) own

pub no_referents_in_order : AreReferents []
no_referents_in_order = record { sorted = refl; never_start = refl }

-- ---- the list of one route that a look-up finds

abbrev pub Lists : Type 0
Lists = List (ℕ × HeldReferents)

abbrev pub ByNumber : Type 0
ByNumber = BTreeMap ℕ HeldReferents

-- a list with one of its own referents put at a measure
abbrev pub put_own : Name → ℕ → HeldReferents → HeldReferents
put_own name measure es = put key_cmp (OWN_ROUTE, name) measure es

pub found_list : (lists : Lists) (now : Held) (number : ℕ) (list : HeldReferents) → numbered lists ≡ now → lookup (is_at (nat_cmp number)) lists ≡ Some list
    → maps.get now number ≡ Some list
found_list lists now number list same there = ap (λ (m : Held). maps.get m number) (sym same) ∙ get-numbered lists number ∙ there

pub found_no_list : (lists : Lists) (now : Held) (number : ℕ) → numbered lists ≡ now → lookup (is_at (nat_cmp number)) lists ≡ None
    → maps.get now number ≡ None
found_no_list lists now number same there = ap (λ (m : Held). maps.get m number) (sym same) ∙ get-numbered lists number ∙ there

-- ---- one route's list after a put and after a removal

by_name-put_own : (es : HeldReferents) (name : Name) (measure : ℕ) → AreReferents es → referents_by_name (put key_cmp (OWN_ROUTE, name) measure es) ≡ maps.insert (referents_by_name es) name measure
unfolding name_cmp
by_name-put_own es name measure are = ap (maps.from_entries {R = name_cmp}) (referents_of-put_same OWN_ROUTE name measure es are.sorted) ∙ by_name-put (referents_of OWN_ROUTE es) name measure

by_name-removed_own : (es : HeldReferents) (name : Name) → referents_by_name (filter (λ e. not (is_key OWN_ROUTE name e.0)) es) ≡ maps.remove (referents_by_name es) name
by_name-removed_own es name = ap (maps.from_entries {R = name_cmp}) (referents_of-filter_same OWN_ROUTE name es) ∙ by_name-filter (referents_of OWN_ROUTE es) name

module _ (now new : Held) (number : ℕ) (name : Name) (es : HeldReferents) (has_list : referents_on now number ≡ referents_by_name es) where
  pub referent_put : (measure : ℕ) → AreReferents es → new ≡ maps.insert now number (put key_cmp (OWN_ROUTE, name) measure es)
      → referents_on new ≡ at_number number (maps.insert (referents_on now number) name measure) (referents_on now)
  referent_put measure are is = ap referents_on is ∙ referents_on-insert now number _ _ (by_name-put_own es name measure are ∙ ap (λ (held : Names ℕ). maps.insert held name measure) (sym has_list))

  pub referent_removed : new ≡ maps.insert now number (filter (λ e. not (is_key OWN_ROUTE name e.0)) es)
      → referents_on new ≡ at_number number (maps.remove (referents_on now number) name) (referents_on now)
  referent_removed is = ap referents_on is ∙ referents_on-insert now number _ _ (by_name-removed_own es name ∙ ap (λ (held : Names ℕ). maps.remove held name) (sym has_list))

-- where a route has no list, a removal changes nothing
remove-empty : (name : Name) → maps.remove (maps.empty {X = ℕ} {R = name_cmp}) name ≡ maps.empty
remove-empty name = same_map name_cmp-total name_cmp-antisymmetric _ _ (λ q.
    get-remove name_cmp-total maps.empty name q ∙ none_either (same_name q name) (maps.get maps.empty q) (get-empty name_cmp q) ∙ sym (get-empty name_cmp q))
  where
    none_either : (b : Bool) (o : Option ℕ) → o ≡ None → cond b None o ≡ None
    none_either true o e = refl
    none_either false o e = e

pub nothing_removed : (now : Held) (number : ℕ) (name : Name) → maps.get now number ≡ None
    → referents_on now ≡ at_number number (maps.remove (referents_on now number) name) (referents_on now)
nothing_removed now number name there =
    let same : maps.remove (referents_on now number) name ≡ referents_on now number =
    ap (λ (held : Names ℕ). maps.remove held name) (held_none now number there) ∙ remove-empty name ∙ sym (held_none now number there) in
    sym (ap (λ (held : Names ℕ). at_number number held (referents_on now)) same ∙ at_number-same (referents_on now) number)

false_true : {P : Type 0} → false ≡ true → P
false_true e = cc

-- a referent that a route has stands in the list that is kept of it
pub has_measure : (es : HeldReferents) (name : Name) → has (referents_by_name es) name ≡ true → measure_of name (referents_of OWN_ROUTE es) ≢ None
has_measure es name there none = false_true (sym (ap is_some (get-referents es name ∙ none)) ∙ there)

-- a route of which no list is kept has none
pub no_list_has_none : {P : Type 0} (now : Held) (number : ℕ) (name : Name) → maps.get now number ≡ None → has (referents_on now number) name ≡ true → P
no_list_has_none now number name none there =
    false_true (sym (ap (λ (held : Names ℕ). has held name) (held_none now number none) ∙ ap is_some (get-referents [] name)) ∙ there)

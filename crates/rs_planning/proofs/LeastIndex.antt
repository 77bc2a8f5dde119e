-- The index of a leaf has the least name of those that serve.
use Rattle.std.proofs.Common.{◌≡◌, Bool, true, false, ◌&&◌, cond, List, [], ◌∷◌, Option, Some, None, Ordering, Less, Equal, Greater, is_eq, is_lt, T, refl, sym, ap, ◌∙◌, subst}
use Rattle.std.specs.Prelude.{◌≢◌, ◌↔◌}
use Rattle.std.proofs.lemmas.Cmp.{tied_itself}
use Rattle.std.specs.Cmp.{IsTotalOrder}
use Rattle.std.specs.Cmp.Lexicographic.{nat_list_cmp_total}
use Rattle.std.specs.FinMap as names
use Rattle.std.specs.FinMap.{find, is_sorted, IsAntisymmetric, nat_cmp-IsAntisymmetric, slice_cmp-IsAntisymmetric}
use Rattle.std.specs.FinMap.Entries.{below_all}
use Rattle.std.specs.List as lists
use Rattle.std.specs.Option.{option_map}
use Rattle.std.specs.Ordering.{eq_by_cmp, ordering_reverse}
use Rattle.rs_facts.specs.Condition.{Condition}
use Rattle.rs_facts.specs.Fact.{Name, name_cmp}
use Rattle.rs_planning.specs.Basis.{IndexedColumn, Basis}
use Rattle.rs_planning.specs.Laws as laws
use Rattle.rs_planning.specs.Laws.{IsLeastIndex}
use Rattle.rs_planning.specs.Rule.{serves, index_for}

-- ---- names in their order

total : IsTotalOrder name_cmp
unfolding name_cmp
total = nat_list_cmp_total

antisymmetric : IsAntisymmetric name_cmp
unfolding name_cmp
antisymmetric = slice_cmp-IsAntisymmetric nat_cmp-IsAntisymmetric

itself : (name : Name) → eq_by_cmp name_cmp name name ≡ true
itself name = ap is_eq (tied_itself total name)

equal : (o : Ordering) → is_eq o ≡ true → o ≡ Equal
equal Less e = cc
equal Equal e = refl
equal Greater e = cc

one : (a b : Name) → eq_by_cmp name_cmp a b ≡ true → a ≡ b
one a b e = antisymmetric a b (equal (name_cmp a b) e)

-- of two names one is less
not_both : (a b : Name) → name_cmp a b ≡ Less → name_cmp b a ≢ Less
not_both a b less other = let back = total.antisymm a b in let turned : ordering_reverse (name_cmp b a) ≡ Less = sym back ∙ less in let wrong : Greater ≡ Less = ap ordering_reverse (sym other) ∙ turned in cc

apart : (a b : Name) → name_cmp a b ≡ Less → eq_by_cmp name_cmp b a ≡ false
apart a b less = elim (eq_by_cmp name_cmp b a) as (λ t. eq_by_cmp name_cmp b a ≡ t → t ≡ false) [
  | true ↦ λ e. let same = one b a e in let tied = tied_itself total a in let l : name_cmp a a ≡ Less = subst (λ n. name_cmp a n ≡ Less) same less in cc
  | false ↦ λ e. refl
] refl

-- where neither is less, they are one
meet : (a b : Name) → name_cmp a b ≢ Less → name_cmp b a ≢ Less → a ≡ b
meet a b x y = by (name_cmp a b) refl
  where
    by : (o : Ordering) → name_cmp a b ≡ o → a ≡ b
    by Less e = absurd (x e)
    by Equal e = antisymmetric a b e
    by Greater e = absurd (y (total.antisymm b a ∙ ap ordering_reverse e))

-- ---- entries in the order of their names

less : (o : Ordering) → T (is_lt o) → o ≡ Less
less Less p = refl
less Equal p = absurd p
less Greater p = absurd p

first : (a b : Bool) → T (a && b) → T a
first true b p = tt
first false b p = p

second : (a b : Bool) → T (a && b) → T b
second true b p = p
second false b p = absurd p

abbrev Entries : Type 0
Entries = List (Name × IndexedColumn)

-- what is found has a greater name
above : (name : Name) (entries : Entries) → T (below_all name_cmp name entries) → (other : Name) (of : IndexedColumn) → find name_cmp other entries ≡ Some of → name_cmp name other ≡ Less
above name [] below other of e = absurd (let wrong = e in cc)
above name (entry ∷ entries) below other of e = by (eq_by_cmp name_cmp other entry.0) refl e (above name entries (second _ _ below) other of)
  where
    by : (t : Bool) → eq_by_cmp name_cmp other entry.0 ≡ t → cond t (Some entry.1) (find name_cmp other entries) ≡ Some of → (find name_cmp other entries ≡ Some of → name_cmp name other ≡ Less) → name_cmp name other ≡ Less
    by true same e rest = subst (λ n. name_cmp name n ≡ Less) (sym (one other entry.0 same)) (less _ (first _ _ below))
    by false same e rest = rest e

module _ (test : IndexedColumn → Bool) where
  abbrev found : Entries → Option (Name × IndexedColumn)
  found entries = lists.find (λ entry. test entry.1) entries

  -- the entry is there and passes, and none that passes has a lesser name
  record IsFirst (entries : Entries) (entry : Name × IndexedColumn) : Type 0 where
    there : find name_cmp entry.0 entries ≡ Some entry.1
    passes : test entry.1 ≡ true
    least : (other : Name) (its : IndexedColumn) → find name_cmp other entries ≡ Some its → test its ≡ true → name_cmp other entry.0 ≢ Less

  first-found : (entries : Entries) → T (is_sorted name_cmp entries) → (entry : Name × IndexedColumn) → found entries ≡ Some entry → IsFirst entries entry
  first-found [] sorted entry e = absurd (let wrong = e in cc)
  first-found (head ∷ entries) sorted entry e = by (test head.1) refl e (first-found entries (second _ _ sorted) entry)
    where
      here : test head.1 ≡ true → head ≡ entry → IsFirst (head ∷ entries) entry
      here passes same = subst (IsFirst (head ∷ entries)) same (record {
        there = ap (λ t. cond t (Some head.1) (find name_cmp head.0 entries)) (itself head.0);
        passes = passes;
        least = λ other its e p less_than. lesser other its less_than (eq_by_cmp name_cmp other head.0) refl e;
      })
        where
          lesser : (other : Name) (its : IndexedColumn) → name_cmp other head.0 ≡ Less → (t : Bool) → eq_by_cmp name_cmp other head.0 ≡ t → cond t (Some head.1) (find name_cmp other entries) ≡ Some its → ⊥
          lesser other its l true same e = let tie = equal (name_cmp other head.0) same in cc
          lesser other its l false same e = not_both head.0 other (above head.0 entries (first _ _ sorted) other its e) l

      there : test head.1 ≡ false → IsFirst entries entry → IsFirst (head ∷ entries) entry
      there fails rest = record {
        there = ap (λ t. cond t (Some head.1) (find name_cmp entry.0 entries)) (apart head.0 entry.0 (above head.0 entries (first _ _ sorted) entry.0 entry.1 rest.there)) ∙ rest.there;
        passes = rest.passes;
        least = λ other its e p. later other its p (eq_by_cmp name_cmp other head.0) e;
      }
        where
          later : (other : Name) (its : IndexedColumn) → test its ≡ true → (t : Bool) → cond t (Some head.1) (find name_cmp other entries) ≡ Some its → name_cmp other entry.0 ≢ Less
          later other its p true e = let same : head.1 ≡ its = let x = e in cc in let wrong : false ≡ true = sym fails ∙ ap test same ∙ p in cc
          later other its p false e = rest.least other its e p

      by : (t : Bool) → test head.1 ≡ t → cond t (Some head) (found entries) ≡ Some entry → (found entries ≡ Some entry → IsFirst entries entry) → IsFirst (head ∷ entries) entry
      by true t e rest = here t (let same = e in cc)
      by false t e rest = there t (rest e)

  none-found : (entries : Entries) → found entries ≡ None → (name : Name) (of : IndexedColumn) → find name_cmp name entries ≡ Some of → test of ≡ false
  none-found [] e name of there = absurd (let wrong = there in cc)
  none-found (head ∷ entries) e name of there = by (test head.1) refl e (eq_by_cmp name_cmp name head.0) there (λ rest. none-found entries rest name of)
    where
      by : (t : Bool) → test head.1 ≡ t → cond t (Some head) (found entries) ≡ None → (s : Bool) → cond s (Some head.1) (find name_cmp name entries) ≡ Some of
          → (found entries ≡ None → find name_cmp name entries ≡ Some of → test of ≡ false) → test of ≡ false
      by true t e s there rest = absurd (let wrong = e in cc)
      by false t e true there rest = let same : head.1 ≡ of = let x = there in cc in ap test (sym same) ∙ t
      by false t e false there rest = rest e there

-- ---- the law

module _ (basis : Basis) (table : Name) (conditions : List Condition) where
  abbrev test : IndexedColumn → Bool
  test of = serves table conditions of

  abbrev entries : Entries
  entries = names.entries basis.indexes

  in-entries : (name : Name) (of : IndexedColumn) → names.get basis.indexes name ≡ Some of → find name_cmp name entries ≡ Some of
  in-entries name of e = sym (names.get-entries basis.indexes name) ∙ e

  least-of : (entry : Name × IndexedColumn) → found test entries ≡ Some entry → IsLeastIndex basis table conditions entry.0
  least-of entry e =
      let is = first-found test entries (names.entries_sorted basis.indexes) entry e in
      record { of = entry.1; there = names.get-entries basis.indexes entry.0 ∙ is.there; serves_it = is.passes; least = λ other its t p. is.least other its (in-entries other its t) p }

  there : (name : Name) → index_for basis table conditions ≡ Some name → IsLeastIndex basis table conditions name
  there name e = by (found test entries) refl e
    where
      by : (o : Option (Name × IndexedColumn)) → found test entries ≡ o → option_map (λ entry. entry.0) o ≡ Some name → IsLeastIndex basis table conditions name
      by None f e = absurd (let wrong = e in cc)
      by (Some entry) f e = subst (IsLeastIndex basis table conditions) (let same = e in cc) (least-of entry f)

  and_back : (name : Name) → IsLeastIndex basis table conditions name → index_for basis table conditions ≡ Some name
  and_back name is = by (found test entries) refl
    where
      by : (o : Option (Name × IndexedColumn)) → found test entries ≡ o → option_map (λ entry. entry.0) o ≡ Some name
      by None f = absurd (let fails = none-found test entries f name is.of (in-entries name is.of is.there) in let passes = is.serves_it in let wrong : false ≡ true = sym fails ∙ passes in cc)
      by (Some entry) f =
          let other = least-of entry f in
          ap Some (meet entry.0 name (is.least entry.0 other.of other.there other.serves_it) (other.least name is.of is.there is.serves_it))

  pub none-there : (index_for basis table conditions ≡ None) ↔ ((name : Name) (of : IndexedColumn) → names.get basis.indexes name ≡ Some of → serves table conditions of ≡ false)
  none-there = (
    λ e name of t. by_none (found test entries) refl e name of (in-entries name of t),
    λ fails. by_some fails (found test entries) refl,
  )
    where
      by_none : (o : Option (Name × IndexedColumn)) → found test entries ≡ o → option_map (λ entry. entry.0) o ≡ None → (name : Name) (of : IndexedColumn) → find name_cmp name entries ≡ Some of → test of ≡ false
      by_none None f e = none-found test entries f
      by_none (Some entry) f e = absurd (let wrong = e in cc)

      by_some : ((name : Name) (of : IndexedColumn) → names.get basis.indexes name ≡ Some of → serves table conditions of ≡ false) → (o : Option (Name × IndexedColumn)) → found test entries ≡ o → option_map (λ entry. entry.0) o ≡ None
      by_some fails None f = refl
      by_some fails (Some entry) f = let is = least-of entry f in absurd (let wrong : false ≡ true = sym (fails entry.0 is.of is.there) ∙ is.serves_it in cc)

pub least-taken : laws.TheLeastIndexIsTaken
least-taken basis table conditions name = (there basis table conditions name, and_back basis table conditions name)

pub none-taken : laws.NoIndexWhereNoneServes
none-taken basis table conditions = none-there basis table conditions

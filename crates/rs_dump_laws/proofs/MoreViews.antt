-- Views stay in order when one more is defined, and queries that do not name it open as before.
use Rattle.std.proofs.Common.{◌≡◌, ◌∙◌, ℕ, suc, ◌+◌, ◌<◌, ◌⊎◌, inl, inr, true, false, Bool, cond, Contains, List, [], ◌∷◌, Some, None, is_some, refl, sym, ap, subst, arith}
use Rattle.std.specs.List.{AllByRecursion, list_any}
use Rattle.std.specs.FinMap as names
use Rattle.std.specs.FinMap.{get-empty, get-insert}
use Rattle.std.proofs.lemmas.Bool.{or_parts}
use Rattle.rs_facts.specs.Fact.{Name, Names, name_cmp}
use Rattle.rs_facts.specs.Insert.{same_name}
use Rattle.rs_syntax.specs.Tree.{QueryTree}
use Rattle.rs_machine.specs.State.{has}
use Rattle.rs_machine.specs.Opening.{AreInOrder, names_in, names_query, opened, opened_times}
use Rattle.rs_machine.specs.Lawful.{Each}
use Rattle.rs_machine.proofs.NameOrder.{name_cmp-total}
use Rattle.rs_machine_laws.proofs.Opening.{Avoids, opened_alike, settled}
use Rattle.rs_dump_laws.specs.Parts.{NameViewsBefore}
use Rattle.rs_dump_laws.proofs.Lists.{all_weaker, of_each}
use Rattle.rs_dump_laws.proofs.NamedThings.{AreNewNames, itself, len_one_more, put_all_named, same_name-back, same_name-true, some_same}

false_true : {P : Type 0} → false ≡ true → P
false_true e = cc

none_some : {X P : Type 0} (x : X) → None ≡ Some x → P
none_some x e = cc

-- what stands at a name after another took a thing: that thing, or what stood there
abbrev AtInserted : {X : Type 0} → Names X → Name → X → Name → X → Type 0
AtInserted things name thing q other = ((same_name q name ≡ true) × (thing ≡ other)) ⊎ ((same_name q name ≡ false) × (names.get things q ≡ Some other))

at_inserted : {X : Type 0} (things : Names X) (name : Name) (thing : X) (q : Name) (other : X) → names.get (names.insert things name thing) q ≡ Some other → AtInserted things name thing q other
at_inserted things name thing q other there =
    elim (same_name q name) as (λ same. same_name q name ≡ same → cond same (Some thing) (names.get things q) ≡ Some other → AtInserted things name thing q other) [
      | true ↦ λ same found. inl (same, some_same thing other found)
      | false ↦ λ same found. inr (same, found)
    ] refl (sym (get-insert name_cmp-total things name thing q) ∙ there)

pub inserted_other : {X : Type 0} (things : Names X) (name : Name) (thing : X) (q : Name) → same_name q name ≡ false → names.get (names.insert things name thing) q ≡ names.get things q
inserted_other things name thing q apart = get-insert name_cmp-total things name thing q ∙ ap (λ b. cond b (Some thing) (names.get things q)) apart

-- where there is no view, views are in order
pub no_views : AreInOrder names.empty
no_views = record {
  place = λ name. 0;
  below = λ name query there. none_some query (sym (get-empty name_cmp name) ∙ there);
  apart = λ a b x y there other same. none_some x (sym (get-empty name_cmp a) ∙ there);
  before = λ name other query there among y also. none_some query (sym (get-empty name_cmp name) ∙ there);
}

-- ---- one view more

module _ (views : Names QueryTree) (name : Name) (query : QueryTree) (new : has views name ≡ false) where
  abbrev after : Names QueryTree
  after = names.insert views name query

  one_more : names.len after ≡ suc (names.len views)
  one_more = let e : names.len after ≡ names.len views + 1 = len_one_more views name query new in omega arith

  module _ (order : AreInOrder views) (free : Avoids name query) (each : Each views (λ n q. Avoids name q)) where
    -- the new one stands last
    abbrev last_place : Name → ℕ
    last_place n = cond (same_name n name) (names.len views) (order.place n)

    is_last : (n : Name) → same_name n name ≡ true → last_place n ≡ names.len views
    is_last n same = ap (λ b. cond b (names.len views) (order.place n)) same

    as_before : (n : Name) → same_name n name ≡ false → last_place n ≡ order.place n
    as_before n other = ap (λ b. cond b (names.len views) (order.place n)) other

    below_after : (n : Name) (q : QueryTree) → AtInserted views name query n q → last_place n < names.len after
    below_after n q (inl at) = let e = is_last n at.0 in let l = one_more in omega arith
    below_after n q (inr at) = let e = as_before n at.0 in let l = one_more in let b = order.below n q at.1 in omega arith

    apart_after : (a b : Name) (x y : QueryTree) → AtInserted views name query a x → AtInserted views name query b y → last_place a ≡ last_place b → a ≡ b
    apart_after a b x y (inl at) (inl on) same = same_name-true a name at.0 ∙ sym (same_name-true b name on.0)
    apart_after a b x y (inl at) (inr on) same = absurd (let e = is_last a at.0 in let f = as_before b on.0 in let l = order.below b y on.1 in omega arith)
    apart_after a b x y (inr at) (inl on) same = absurd (let e = as_before a at.0 in let f = is_last b on.0 in let l = order.below a x at.1 in omega arith)
    apart_after a b x y (inr at) (inr on) same = order.apart a b x y at.1 on.1 (sym (as_before a at.0) ∙ same ∙ as_before b on.0)

    not_named : (q : QueryTree) (n : Name) → Avoids name q → Contains (names_in q) n → same_name n name ≡ true → ⊥
    not_named q n avoids among same = false_true (sym (of_each (λ other. same_name name other ≡ false) (names_in q) n avoids among) ∙ same_name-back name n ∙ same)

    before_after : (n other : Name) (q y : QueryTree) → AtInserted views name query n q → Contains (names_in q) other → AtInserted views name query other y → last_place other < last_place n
    before_after n other q y (inl at) among (inl on) = absurd (not_named q other (subst (Avoids name) at.1 free) among on.0)
    before_after n other q y (inl at) among (inr on) = let e = is_last n at.0 in let f = as_before other on.0 in let l = order.below other y on.1 in omega arith
    before_after n other q y (inr at) among (inl on) = absurd (not_named q other (each n q at.1) among on.0)
    before_after n other q y (inr at) among (inr on) = let e = as_before n at.0 in let f = as_before other on.0 in let l = order.before n other q at.1 among y on.1 in omega arith

    order_more : AreInOrder after
    order_more = record {
      place = last_place;
      below = λ n q there. below_after n q (at_inserted views name query n q there);
      apart = λ a b x y at on same. apart_after a b x y (at_inserted views name query a x at) (at_inserted views name query b y on) same;
      before = λ n other q there among y on. before_after n other q y (at_inserted views name query n q there) among (at_inserted views name query other y on);
    }

    opened_more : (q : QueryTree) → Avoids name q → opened after q ≡ opened views q
    unfolding opened
    opened_more q avoids =
        ap (λ times. opened_times times after q) one_more
        ∙ sym (opened_alike views after name (λ n other. sym (inserted_other views name query n (same_name-back n name ∙ other))) (λ n w other there. each n w there) (suc (names.len views)) q avoids)
        ∙ settled views q order

-- ---- all that come

-- the query names none of these views
abbrev pub AvoidsAll : List (Name × QueryTree) → QueryTree → Type 0
AvoidsAll list query = AllByRecursion (λ later. Avoids later.0 query) list

none_pass : (test : Name → Bool) (xs : List Name) → list_any test xs ≡ false → AllByRecursion (λ x. test x ≡ false) xs
none_pass test [] none = tt
none_pass test (x ∷ xs) none = let parts = or_parts (test x) (list_any test xs) none in (parts.0, none_pass test xs parts.1)

pub avoids_all : (list : List (Name × QueryTree)) (query : QueryTree) → AllByRecursion (λ later. names_query later.0 query ≡ false) list → AvoidsAll list query
avoids_all list query none =
    all_weaker (λ (later : Name × QueryTree). names_query later.0 query ≡ false) (λ later. Avoids later.0 query) (λ later free. none_pass (same_name later.0) (names_in query) free) list none

-- The views are in order, and neither they nor those that come name one that comes later.
pub record IsBegun (views : Names QueryTree) (list : List (Name × QueryTree)) : Type 0 where
  pub order : AreInOrder views
  pub new : AreNewNames itself views list
  pub free : Each views (λ name query. AvoidsAll list query)
  pub before : NameViewsBefore list

pub begun_further : (views : Names QueryTree) (view : Name × QueryTree) (more : List (Name × QueryTree)) → IsBegun views (view ∷ more) → IsBegun (names.insert views view.0 view.1) more
begun_further views view more is =
    let own = avoids_all (view ∷ more) view.1 is.before.0 in
    record {
      order = order_more views view.0 view.1 is.new.0 is.order own.0 (λ n q there. (is.free n q there).0);
      new = is.new.1;
      free = λ n q there. elim (at_inserted views view.0 view.1 n q there) [
        | inl at ↦ subst (AvoidsAll more) at.1 own.1
        | inr at ↦ (is.free n q at.1).1
      ];
      before = is.before.1;
    }

-- a query that names none of those that come opens as it will when they are there
pub opened_all : (views : Names QueryTree) (list : List (Name × QueryTree)) → IsBegun views list → (query : QueryTree) → AvoidsAll list query → opened (put_all_named itself views list) query ≡ opened views query
opened_all views [] is query avoids = refl
opened_all views (view ∷ more) is query avoids =
    opened_all (names.insert views view.0 view.1) more (begun_further views view more is) query avoids.1
    ∙ opened_more views view.0 view.1 is.new.0 is.order (avoids_all (view ∷ more) view.1 is.before.0).0 (λ n q there. (is.free n q there).0) query avoids.0

-- a name that is none of theirs is a view's where it will be one's
pub has_all : (views : Names QueryTree) (list : List (Name × QueryTree)) (name : Name) → AllByRecursion (λ later. same_name later.0 name ≡ false) list → has (put_all_named itself views list) name ≡ has views name
has_all views [] name apart = refl
has_all views (view ∷ more) name apart =
    has_all (names.insert views view.0 view.1) more name apart.1
    ∙ ap is_some (inserted_other views view.0 view.1 name (same_name-back name view.0 ∙ apart.0))

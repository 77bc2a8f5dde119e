-- Views stay in order when one more is defined, and when one that none names is dropped.
use Rattle.std.proofs.Common.{◌≡◌, ◌≢◌, ◌∙◌, ℕ, suc, ◌+◌, ◌-◌, ◌<◌, ◌≤◌, ◌⊎◌, inl, inr, true, false, cond, Contains, Some, is_some, refl, sym, ap, subst, eqb-true, arith}
use Rattle.std.specs.Prelude.{◌==◌, nat_lt, if◌then◌else◌}
use Rattle.std.specs.FinMap as names
use Rattle.std.specs.FinMap.{len-insert, len-remove}
use Rattle.std.proofs.lemmas.Bool.{ltb-true, ltb-false, eqb-false}
use Rattle.rs_facts.specs.Fact.{Name, Names}
use Rattle.rs_facts.specs.Insert.{same_name}
use Rattle.rs_syntax.specs.Tree.{QueryTree}
use Rattle.rs_machine.specs.State.{has}
use Rattle.rs_machine.specs.Opening.{names_in, opened, opened_times, AreInOrder}
use Rattle.rs_machine.specs.Lawful.{Each}
use Rattle.rs_machine.proofs.NameOrder.{name_cmp-total}
use Rattle.rs_machine_laws.proofs.Names.{false_true, same_name-true, same_name-false, same_name-back, AtInserted, at_inserted, inserted_other, at_removed, removed_other}
use Rattle.rs_machine_laws.proofs.Lists.{of_each}
use Rattle.rs_machine_laws.proofs.Opening.{Avoids, settled, opened_alike}

-- ---- one view more

module _ (views : Names QueryTree) (name : Name) (query : QueryTree) (new : has views name ≡ false) where
  abbrev after : Names QueryTree
  after = names.insert views name query

  one_more : names.len after ≡ suc (names.len views)
  one_more = let e : names.len after ≡ names.len views + 1 = len-insert name_cmp-total views name query ∙ ap (λ b. cond b (names.len views) (names.len views + 1)) new in omega (arith, e)

  module _ (order : AreInOrder views) (free : Avoids name query) (each : Each views (λ n q. Avoids name q)) where
    -- the new one stands last
    abbrev last_place : Name → ℕ
    last_place n = cond (same_name n name) (names.len views) (order.place n)

    is_last : (n : Name) → same_name n name ≡ true → last_place n ≡ names.len views
    is_last n same = ap (λ b. cond b (names.len views) (order.place n)) same

    as_before : (n : Name) → same_name n name ≡ false → last_place n ≡ order.place n
    as_before n other = ap (λ b. cond b (names.len views) (order.place n)) other

    below_after : (n : Name) (q : QueryTree) → AtInserted views name query n q → last_place n < names.len after
    below_after n q (inl at) = let e = is_last n at.0 in let l = one_more in omega arith
    below_after n q (inr at) = let e = as_before n at.0 in let l = one_more in let b = order.below n q at.1 in omega arith

    apart_after : (a b : Name) (x y : QueryTree) → AtInserted views name query a x → AtInserted views name query b y → last_place a ≡ last_place b → a ≡ b
    apart_after a b x y (inl at) (inl on) same = same_name-true a name at.0 ∙ sym (same_name-true b name on.0)
    apart_after a b x y (inl at) (inr on) same = absurd (let e = is_last a at.0 in let f = as_before b on.0 in let l = order.below b y on.1 in omega arith)
    apart_after a b x y (inr at) (inl on) same = absurd (let e = as_before a at.0 in let f = is_last b on.0 in let l = order.below a x at.1 in omega arith)
    apart_after a b x y (inr at) (inr on) same = order.apart a b x y at.1 on.1 (sym (as_before a at.0) ∙ same ∙ as_before b on.0)

    not_named : (q : QueryTree) (n : Name) → Avoids name q → Contains (names_in q) n → same_name n name ≡ true → ⊥
    not_named q n avoids among same = false_true (sym (of_each (λ other. same_name name other ≡ false) (names_in q) n avoids among) ∙ same_name-back name n ∙ same)

    before_after : (n other : Name) (q y : QueryTree) → AtInserted views name query n q → Contains (names_in q) other → AtInserted views name query other y → last_place other < last_place n
    before_after n other q y (inl at) among (inl on) = absurd (not_named q other (subst (Avoids name) at.1 free) among on.0)
    before_after n other q y (inl at) among (inr on) = let e = is_last n at.0 in let f = as_before other on.0 in let l = order.below other y on.1 in omega arith
    before_after n other q y (inr at) among (inl on) = absurd (not_named q other (each n q at.1) among on.0)
    before_after n other q y (inr at) among (inr on) = let e = as_before n at.0 in let f = as_before other on.0 in let l = order.before n other q at.1 among y on.1 in omega arith

    pub order_more : AreInOrder after
    order_more = record {
      place = last_place;
      below = λ n q there. below_after n q (at_inserted views name query n q there);
      apart = λ a b x y at on same. apart_after a b x y (at_inserted views name query a x at) (at_inserted views name query b y on) same;
      before = λ n other q there among y on. before_after n other q y (at_inserted views name query n q there) among (at_inserted views name query other y on);
    }

    -- queries that do not name it open as they did
    pub opened_more : (q : QueryTree) → Avoids name q → opened after q ≡ opened views q
    unfolding opened
    opened_more q avoids =
        ap (λ times. opened_times times after q) one_more
        ∙ sym (opened_alike views after name (λ n other. sym (inserted_other views name query n (same_name-back n name ∙ other))) (λ n w other there. each n w there) (suc (names.len views)) q avoids)
        ∙ settled views q order

-- ---- one view less

-- the places above the one that is left move one down
abbrev down : ℕ → ℕ → ℕ
down gone n = if nat_lt gone n then n - 1 else n

down_cases : (gone n : ℕ) → n ≢ gone → ((n < gone) × (down gone n ≡ n)) ⊎ ((gone < n) × (down gone n ≡ n - 1))
down_cases gone n apart =
    elim (nat_lt gone n) as (λ b. nat_lt gone n ≡ b → ((n < gone) × ((if b then n - 1 else n) ≡ n)) ⊎ ((gone < n) × ((if b then n - 1 else n) ≡ n - 1))) [
      | true ↦ λ less. inr (ltb-true gone n less, refl)
      | false ↦ λ more. inl (strictly (ltb-false gone n more), refl)
    ] refl
  where
    strictly : n ≤ gone → n < gone
    strictly h = elim (n == gone) as (λ b. (n == gone) ≡ b → n < gone) [
      | true ↦ λ e. absurd (apart (eqb-true n gone e))
      | false ↦ λ e. let f = eqb-false n gone e in omega arith
    ] refl

module _ (views : Names QueryTree) (name : Name) (dropped : QueryTree) (there : names.get views name ≡ Some dropped) (order : AreInOrder views) where
  abbrev rest : Names QueryTree
  rest = names.remove views name

  one_less : suc (names.len rest) ≡ names.len views
  one_less =
      let e : names.len rest ≡ names.len views - 1 = len-remove name_cmp-total views name ∙ ap (λ b. cond b (names.len views - 1) (names.len views)) (ap is_some there) in
      let b = order.below name dropped there in
      omega (arith, e)

  abbrev low_place : Name → ℕ
  low_place n = down (order.place name) (order.place n)

  place_apart : (n : Name) (q : QueryTree) → same_name n name ≡ false → names.get views n ≡ Some q → order.place n ≢ order.place name
  place_apart n q other at same = same_name-false n name other (order.apart n name q dropped at there same)

  below_rest : (n : Name) (q : QueryTree) → same_name n name ≡ false → names.get views n ≡ Some q → low_place n < names.len rest
  below_rest n q other at =
      let l = one_less in let a = order.below n q at in let b = order.below name dropped there in
      elim (down_cases (order.place name) (order.place n) (place_apart n q other at)) [ inl c ↦ omega (arith, c.0, c.1) | inr c ↦ omega (arith, c.0, c.1) ]

  same_down : (gone a b : ℕ) → a ≢ gone → b ≢ gone → down gone a ≡ down gone b → a ≡ b
  same_down gone a b x y e = elim (down_cases gone a x) [
    | inl c ↦ elim (down_cases gone b y) [ inl d ↦ omega (arith, c.0, c.1, d.0, d.1) | inr d ↦ absurd (omega (arith, c.0, c.1, d.0, d.1)) ]
    | inr c ↦ elim (down_cases gone b y) [ inl d ↦ absurd (omega (arith, c.0, c.1, d.0, d.1)) | inr d ↦ omega (arith, c.0, c.1, d.0, d.1) ]
  ]

  less_down : (gone a b : ℕ) → a ≢ gone → b ≢ gone → a < b → down gone a < down gone b
  less_down gone a b x y l = elim (down_cases gone a x) [
    | inl c ↦ elim (down_cases gone b y) [ inl d ↦ omega (arith, c.0, c.1, d.0, d.1) | inr d ↦ omega (arith, c.0, c.1, d.0, d.1) ]
    | inr c ↦ elim (down_cases gone b y) [ inl d ↦ absurd (omega (arith, c.0, c.1, d.0, d.1)) | inr d ↦ omega (arith, c.0, c.1, d.0, d.1) ]
  ]

  apart_rest : (a b : Name) (x y : QueryTree) → (same_name a name ≡ false) × (names.get views a ≡ Some x) → (same_name b name ≡ false) × (names.get views b ≡ Some y) → low_place a ≡ low_place b → a ≡ b
  apart_rest a b x y at on same =
      order.apart a b x y at.1 on.1 (same_down (order.place name) (order.place a) (order.place b) (place_apart a x at.0 at.1) (place_apart b y on.0 on.1) same)

  before_rest : (n other : Name) (q y : QueryTree) → (same_name n name ≡ false) × (names.get views n ≡ Some q) → Contains (names_in q) other → (same_name other name ≡ false) × (names.get views other ≡ Some y) → low_place other < low_place n
  before_rest n other q y at among on =
      less_down (order.place name) (order.place other) (order.place n) (place_apart other y on.0 on.1) (place_apart n q at.0 at.1) (order.before n other q at.1 among y on.1)

  pub order_less : AreInOrder rest
  order_less = record {
    place = low_place;
    below = λ n q is. let at = at_removed views name n q is in below_rest n q at.0 at.1;
    apart = λ a b x y at on same. apart_rest a b x y (at_removed views name a x at) (at_removed views name b y on) same;
    before = λ n other q is among y on. before_rest n other q y (at_removed views name n q is) among (at_removed views name other y on);
  }

  pub opened_less : Each rest (λ n q. Avoids name q) → (q : QueryTree) → Avoids name q → opened rest q ≡ opened views q
  unfolding opened
  opened_less each q avoids =
      sym (settled rest q order_less)
      ∙ ap (λ times. opened_times times rest q) one_less
      ∙ opened_alike rest views name (λ n other. removed_other views name n (same_name-back n name ∙ other)) (λ n w other at. each n w at) (names.len views) q avoids

-- Spans that begin in turn lie apart where each is of another row than those that are still open.
use Rattle.std.proofs.Common.{◌≡◌, ◌≢◌, ◌<◌, ◌≤◌, ◌+◌, ◌⊎◌, ℕ, zero, suc, List, [], ◌∷◌, ◌++◌, length, map, get_or, Contains, refl, sym, ap, ◌∙◌, subst, inl, inr, arith}
use Rattle.std.proofs.lemmas.Bool.{cases_eq, cases_lt}
use Rattle.std.proofs.lemmas.List.{get_or-map, length-map}
use Rattle.std.proofs.lemmas.List.Elements.{Contains-append_left, Contains-append_right}
use Rattle.rs_attr.proofs.Lent.{text_same}
use Rattle.rs_attr.specs.Meant.{stretch_of}
use Rattle.rs_attr.specs.declared.meant.RowStretch.{RowStretch}
use Rattle.rs_facts.proofs.RunLaws.{IsApart, LieApart}
use Rattle.rs_facts.specs.Spans.{gap_of}
use Rattle.rs_value.specs.declared.column.Kind.{Kind}

-- the first spans lie apart, and those of them that may reach past `lo` are open
pub record AreApart (kind : Kind) (spans : List RowStretch) (so_far : ℕ) (opened : List RowStretch) (lo : ℕ) : Type 0 where
  pub apart : (i j : ℕ) (d : RowStretch) → i < j → j < so_far → IsApart kind (stretch_of (get_or spans i d)) (stretch_of (get_or spans j d))
  pub closed : (i : ℕ) (d : RowStretch) → i < so_far → Contains opened (get_or spans i d) ⊎ ((get_or spans i d).hi + gap_of kind ≤ lo)

pub none_apart : (kind : Kind) (spans opened : List RowStretch) (lo : ℕ) → AreApart kind spans 0 opened lo
none_apart kind spans opened lo = record {
  apart = λ i j d low inside. absurd (omega (arith, inside));
  closed = λ i d inside. absurd (omega (arith, inside));
}

-- one that begins no earlier, and of whose row none stays open
pub next_apart : (kind : Kind) (spans : List RowStretch) (next : ℕ) (opened stay pushed : List RowStretch) (lo : ℕ) (span : RowStretch)
    → AreApart kind spans next opened lo → ((d : RowStretch) → get_or spans next d ≡ span) → lo ≤ span.lo
    → ((one : RowStretch) → Contains opened one → Contains stay one ⊎ (one.hi + gap_of kind ≤ span.lo))
    → ((one : RowStretch) → Contains stay one → one.row.now ≢ span.row.now)
    → pushed ≡ stay ++ span ∷ []
    → AreApart kind spans (next + 1) pushed span.lo
next_apart kind spans next opened stay pushed lo span so_far is up left other all = record {
  apart = λ i j d low inside. elim (cases_eq j next) [
    | inl last ↦ subst (λ s. IsApart kind (stretch_of (get_or spans i d)) (stretch_of s)) (sym (ap (λ n. get_or spans n d) last ∙ is d)) (beside i d (omega (arith, low, last)))
    | inr before ↦ so_far.apart i j d low (omega (arith, inside, before))
  ];
  closed = λ i d inside. elim (cases_eq i next) [
    | inl last ↦ inl (subst (Contains pushed) (sym (ap (λ n. get_or spans n d) last ∙ is d)) (subst (λ l. Contains l span) (sym all) (Contains-append_right stay (span ∷ []) span (0, omega arith, refl))))
    | inr before ↦ elim (open_or i d (omega (arith, inside, before))) [
      | inl among ↦ inl (subst (λ l. Contains l (get_or spans i d)) (sym all) (Contains-append_left stay (span ∷ []) (get_or spans i d) among))
      | inr past ↦ inr past
    ]
  ];
} where
  open_or : (i : ℕ) (d : RowStretch) → i < next → Contains stay (get_or spans i d) ⊎ ((get_or spans i d).hi + gap_of kind ≤ span.lo)
  open_or i d inside = elim (so_far.closed i d inside) [
    | inl among ↦ left (get_or spans i d) among
    | inr past ↦ inr (omega (arith, past, up))
  ]

  beside : (i : ℕ) (d : RowStretch) → i < next → IsApart kind (stretch_of (get_or spans i d)) (stretch_of span)
  beside i d inside = λ same. elim (open_or i d inside) [
    | inl among ↦ absurd (other (get_or spans i d) among (text_same (get_or spans i d).row.now span.row.now same))
    | inr past ↦ inl past
  ]

pub all_apart : (kind : Kind) (spans : List RowStretch) (opened : List RowStretch) (lo : ℕ) → AreApart kind spans (length spans) opened lo → LieApart kind (map stretch_of spans)
all_apart kind [] opened lo apart i j d a b other = absurd (omega (arith, a))
all_apart kind (x ∷ xs) opened lo apart i j d a b other =
    let many = length-map (x ∷ xs) stretch_of in
    let one : i < length (x ∷ xs) = omega (arith, a, many) in
    let two : j < length (x ∷ xs) = omega (arith, b, many) in
    subst (λ s. IsApart kind (get_or (map stretch_of (x ∷ xs)) i d) s) (sym (get_or-map stretch_of (x ∷ xs) j x d two))
    (subst (λ s. IsApart kind s (stretch_of (get_or (x ∷ xs) j x))) (sym (get_or-map stretch_of (x ∷ xs) i x d one))
    (elim (cases_lt i j) [
      | inl low ↦ apart.apart i j x low two
      | inr high ↦ λ same. elim (apart.apart j i x (omega (arith, high, other)) one (sym same)) [ inl h ↦ inr h | inr h ↦ inl h ]
    ]))

pub alone : (x one : RowStretch) → Contains (x ∷ []) one → one ≡ x
alone x one (zero, inside, is) = sym is
alone x one (suc k, inside, is) = absurd (omega (arith, inside))

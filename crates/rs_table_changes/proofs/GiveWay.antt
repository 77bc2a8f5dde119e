-- What versions see once some events have ended and others have come.
use Rattle.std.proofs.Common.{◌≡◌, ◌≢◌, ◌<◌, ◌≤◌, ◌⊎◌, ℕ, inl, inr, List, [], ◌∷◌, ◌++◌, map, append_assoc, append-nil, refl, sym, ◌∙◌, subst, arith}
use Rattle.std.proofs.lemmas.List.Elements.{Contains-append_right}
use Rattle.std.proofs.lemmas.List.Sorted.{Contains-permutation, IsPermutation-append_right, IsPermutation-cons, IsPermutation-refl, IsPermutation-sym, IsPermutation-to_front, IsPermutation-trans}
use Rattle.std.specs.List.{AllByRecursion, Contains}
use Rattle.std.specs.List.Sorted.{IsPermutation}
use Rattle.rs_cell_versions.specs.declared.cell.TheConstants.{LIVING}
use Rattle.rs_facts.specs.Runs.{Stretch}
use Rattle.rs_facts.specs.Spans.{AreOnce}
use Rattle.rs_facts.proofs.RunLaws.{cases_cons}
use Rattle.rs_value.specs.declared.column.ColumnType.{ColumnType}
use Rattle.rs_versioned.specs.Events.{Event, kept_events, span_of, spans_at}
use Rattle.rs_versioned.specs.Records.{HasEnded, HasOneMore}
use Rattle.rs_versioned.proofs.EventsSeen.{event_route, events_end}
use Rattle.rs_versioned.proofs.SameRuns.{once_shuffled}
use Rattle.rs_versioned.proofs.SeenAfter.{come_elsewhere, ended_elsewhere, from_birth, from_end}
use Rattle.rs_table_changes.specs.Chains.{ComeAll, EndAll, living_event}
use Rattle.rs_table_changes.proofs.Cancelling.{cancel_first, middle}
use Rattle.rs_table_changes.proofs.Shown.{same_shown, shown_there}

-- ---- events that are there still

-- some records, and others
pub record Beside (some now : List Event) : Type 0 where
  pub others : List Event
  pub are : IsPermutation now (some ++ others)

pub first_there : (one : Event) (xs old : List Event) → IsPermutation old (one ∷ xs) → Contains old one
first_there one xs old p = Contains-permutation (one ∷ xs) old one (IsPermutation-sym old (one ∷ xs) p) (0, omega arith, refl)

-- an event that was among others has ended, and these are there
pub one_ended : (types : List ColumnType) (version : ℕ) (one : Event) (xs old now : List Event) → HasEnded (kept_events types) version one old now → IsPermutation old (one ∷ xs) → Beside xs now
one_ended types version one xs old now (inl missing) p = absurd (missing.missing (first_there one xs old p))
one_ended types version one xs old now (inr ended) p = by ended.are where
  left : IsPermutation ended.rest xs
  left = cancel_first one ended.rest xs (IsPermutation-trans (one ∷ ended.rest) old (one ∷ xs) (IsPermutation-sym old (one ∷ ended.rest) ended.were) p)

  none_more : IsPermutation now xs → Beside xs now
  none_more q = record { others = []; are = subst (IsPermutation now) (sym (append-nil xs)) q }

  by : ((one.born < version) × HasOneMore (record { route = one.route; lo = one.lo; hi = one.hi; row = one.row; born = one.born; died = version }) ended.rest now) ⊎ ((version ≤ one.born) × IsPermutation now ended.rest) → Beside xs now
  by (inr early) = none_more (IsPermutation-trans now ended.rest xs early.1 left)
  by (inl late) = elim late.1 [
    | inl was ↦ none_more (IsPermutation-trans now ended.rest xs was.same left)
    | inr come ↦
        let last : Event = record { route = one.route; lo = one.lo; hi = one.hi; row = one.row; born = one.born; died = version } in
        record {
          others = last ∷ [];
          are = IsPermutation-trans now (last ∷ xs) (xs ++ last ∷ []) (IsPermutation-trans now (last ∷ ended.rest) (last ∷ xs) come.more (IsPermutation-cons last ended.rest xs left))
              (IsPermutation-sym (xs ++ last ∷ []) (last ∷ xs) (IsPermutation-to_front xs last));
        }
  ]

pub all_ended : (types : List ColumnType) (version : ℕ) (gone xs old now : List Event) → EndAll types version gone old now → IsPermutation old (gone ++ xs) → Beside xs now
all_ended types version [] xs old now e p = record { others = []; are = subst (λ l. IsPermutation l (xs ++ [])) (sym e) (subst (IsPermutation old) (sym (append-nil xs)) p) }
all_ended types version (one ∷ gone) xs old now e p =
    let next = one_ended types version one (gone ++ xs) old e.0 e.1 p in
    let rest = all_ended types version gone (xs ++ next.others) e.0 now e.2 (subst (IsPermutation e.0) (append_assoc gone xs next.others) next.are) in
    record { others = next.others ++ rest.others; are = subst (IsPermutation now) (append_assoc xs next.others rest.others) rest.are }

-- one more that has ended, and one more that has come
pub end_next : (types : List ColumnType) (version : ℕ) (gone : List Event) (one : Event) (old mid now : List Event) → EndAll types version gone old mid → HasEnded (kept_events types) version one mid now
    → EndAll types version (gone ++ one ∷ []) old now
end_next types version [] one old mid now e ended = (now, subst (λ l. HasEnded (kept_events types) version one l now) e ended, refl)
end_next types version (x ∷ gone) one old mid now e ended = (e.0, e.1, end_next types version gone one e.0 mid now e.2 ended)

pub come_next : (route version : ℕ) (come : List Stretch) (span : Stretch) (old mid now : List Event) → ComeAll route version come old mid → HasOneMore (living_event route version span) mid now
    → ComeAll route version (come ++ span ∷ []) old now
come_next route version [] span old mid now e came = (now, subst (λ l. HasOneMore (living_event route version span) l now) e came, refl)
come_next route version (x ∷ come) span old mid now e came = (e.0, e.1, come_next route version come span e.0 mid now e.2 came)

-- ---- what the version sees

module _ (types : List ColumnType) (version route : ℕ) (below : version < LIVING) where
  -- an event that the version sees on the route, and that lives
  pub record IsSeenHere (one : Event) : Type 0 where
    pub on : one.route ≡ route
    pub lives : one.died ≡ LIVING
    pub born : one.born ≤ version

  one_gone : (one : Event) (xs old now : List Event) → IsSeenHere one → HasEnded (kept_events types) version one old now → IsPermutation old (one ∷ xs)
      → IsPermutation (spans_at version route old) (span_of one ∷ spans_at version route now)
  one_gone one xs old now seen (inl missing) p = absurd (missing.missing (first_there one xs old p))
  one_gone one xs old now seen (inr ended) p =
      subst (λ (r : ℕ). IsPermutation (spans_at version r old) (span_of one ∷ spans_at version r now)) seen.on
      (from_end (kept_events types) event_route span_of (events_end types) version version one old now ended seen.born (subst (λ (n : ℕ). version < n) (sym seen.lives) below) (omega arith))

  -- the spans of those that have ended, and those that are seen still
  pub ended_here : (gone xs old now : List Event) → EndAll types version gone old now → IsPermutation old (gone ++ xs) → AllByRecursion IsSeenHere gone
      → IsPermutation (spans_at version route old) (map span_of gone ++ spans_at version route now)
  ended_here [] xs old now e p all = subst (λ l. IsPermutation (spans_at version route old) (spans_at version route l)) (sym e) (IsPermutation-refl (spans_at version route old))
  ended_here (one ∷ gone) xs old now e p all =
      let next = one_ended types version one (gone ++ xs) old e.0 e.1 p in
      let rest = ended_here gone (xs ++ next.others) e.0 now e.2 (subst (IsPermutation e.0) (append_assoc gone xs next.others) next.are) all.1 in
      IsPermutation-trans (spans_at version route old) (span_of one ∷ spans_at version route e.0) (span_of one ∷ (map span_of gone ++ spans_at version route now))
      (one_gone one (gone ++ xs) old e.0 all.0 e.1 p) (IsPermutation-cons (span_of one) (spans_at version route e.0) (map span_of gone ++ spans_at version route now) rest)

  pub ended_there : (gone old now : List Event) → EndAll types version gone old now → AllByRecursion IsSeenHere gone → (other : ℕ) → other ≢ route
      → IsPermutation (spans_at version other now) (spans_at version other old)
  ended_there [] old now e all other apart = subst (λ l. IsPermutation (spans_at version other l) (spans_at version other old)) (sym e) (IsPermutation-refl (spans_at version other old))
  ended_there (one ∷ gone) old now e all other apart =
      IsPermutation-trans (spans_at version other now) (spans_at version other e.0) (spans_at version other old) (ended_there gone e.0 now e.2 all.1 other apart)
      (ended_elsewhere (kept_events types) event_route span_of (events_end types) version version other one old e.0 e.1 (λ same. apart (same ∙ all.0.on)))

  -- ---- spans that come

  one_came : (span : Stretch) (old now : List Event) → HasOneMore (living_event route version span) old now → (Contains (spans_at version route old) span → ⊥)
      → IsPermutation (spans_at version route now) (span ∷ spans_at version route old)
  one_came span old now (inr added) none = from_birth (kept_events types) event_route span_of version (living_event route version span) old now added (omega arith) below
  one_came span old now (inl was) none = absurd (none (shown_there types version route below (living_event route version span) old refl refl (omega arith) was.there))

  not_in : (span : Stretch) (spans : List Stretch) → AllByRecursion (λ other. span ≢ other) spans → Contains spans span → ⊥
  not_in span [] all has = omega (arith, has.1)
  not_in span (s ∷ spans) all has = elim (cases_cons s span spans has) [
    | inl same ↦ all.0 (sym same)
    | inr later ↦ not_in span spans all.1 later
  ]

  later_ones : (P : Stretch → Type 0) (xs ys : List Stretch) → AllByRecursion P (xs ++ ys) → AllByRecursion P ys
  later_ones P [] ys all = all
  later_ones P (x ∷ xs) ys all = later_ones P xs ys all.1

  -- those that were not there, each once, are there beside those that were
  pub came_here : (come : List Stretch) (old now : List Event) → ComeAll route version come old now → AreOnce (come ++ spans_at version route old)
      → IsPermutation (spans_at version route now) (come ++ spans_at version route old)
  came_here [] old now e once = subst (λ l. IsPermutation (spans_at version route l) (spans_at version route old)) (sym e) (IsPermutation-refl (spans_at version route old))
  came_here (span ∷ come) old now e once =
      let was : List Stretch = spans_at version route old in
      let next : List Stretch = spans_at version route e.0 in
      let one : IsPermutation next (span ∷ was) = one_came span old e.0 e.1 (not_in span was (later_ones (λ other. span ≢ other) come was once.0)) in
      let swapped : IsPermutation (come ++ next) (span ∷ (come ++ was)) =
      IsPermutation-trans (come ++ next) (come ++ span ∷ was) (span ∷ (come ++ was)) (IsPermutation-append_right come next (span ∷ was) one) (middle come span was) in
      let rest = came_here come e.0 now e.2 (once_shuffled (span ∷ (come ++ was)) (come ++ next) (IsPermutation-sym (come ++ next) (span ∷ (come ++ was)) swapped) once) in
      IsPermutation-trans (spans_at version route now) (come ++ next) (span ∷ (come ++ was)) rest swapped

  pub came_there : (come : List Stretch) (old now : List Event) → ComeAll route version come old now → (other : ℕ) → other ≢ route → IsPermutation (spans_at version other now) (spans_at version other old)
  came_there [] old now e other apart = subst (λ l. IsPermutation (spans_at version other l) (spans_at version other old)) (sym e) (IsPermutation-refl (spans_at version other old))
  came_there (span ∷ come) old now e other apart =
      IsPermutation-trans (spans_at version other now) (spans_at version other e.0) (spans_at version other old) (came_there come e.0 now e.2 other apart)
      (come_elsewhere (kept_events types) event_route span_of version other (living_event route version span) old e.0 e.1 apart)

  -- whatever is seen came, or was seen
  one_of : (span : Stretch) (old now : List Event) → HasOneMore (living_event route version span) old now → (s : Stretch) → Contains (spans_at version route now) s
      → (span ≡ s) ⊎ Contains (spans_at version route old) s
  one_of span old now (inl was) s has =
      inr (Contains-permutation (spans_at version route now) (spans_at version route old) s (same_shown types version route now old was.same) has)
  one_of span old now (inr added) s has =
      cases_cons span s (spans_at version route old) (Contains-permutation (spans_at version route now) (span ∷ spans_at version route old) s
      (from_birth (kept_events types) event_route span_of version (living_event route version span) old now added (omega arith) below) has)

  pub came_only : (come : List Stretch) (old now : List Event) → ComeAll route version come old now → (s : Stretch) → Contains (spans_at version route now) s → Contains come s ⊎ Contains (spans_at version route old) s
  came_only [] old now e s has = inr (subst (λ l. Contains (spans_at version route l) s) e has)
  came_only (span ∷ come) old now e s has = elim (came_only come e.0 now e.2 s has) [
    | inl later ↦ inl (Contains-append_right (span ∷ []) come s later)
    | inr before ↦ elim (one_of span old e.0 e.1 s before) [
      | inl same ↦ inl (0, omega arith, same)
      | inr was ↦ inr was
    ]
  ]

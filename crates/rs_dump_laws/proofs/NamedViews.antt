-- The views that a view names pass the checks of their DEFINE lines where it does.
use Rattle.std.proofs.Common.{◌≡◌, ◌∙◌, ℕ, zero, suc, inl, inr, List, [], ◌∷◌, Some, Result, Ok, Err, refl, sym, ap, subst}
use Rattle.std.specs.Prelude.{Contains, unwrap_or, nat_le}
use Rattle.std.specs.FinMap as names
use Rattle.std.proofs.lemmas.Bool.{and_from, le-leb}
use Rattle.std.proofs.lemmas.List.Elements.{Contains-append_cases}
use Rattle.rs_refusal.specs.declared.refusal.Refusal.{Refusal}
use Rattle.rs_refusal.specs.declared.refusal.Refusal.TheVariants.{Limit}
use Rattle.rs_facts.specs.Fact.{Name, Names}
use Rattle.rs_facts.specs.Query.{Query, merge_rows, minus_rows, transform_rows, window_rows}
use Rattle.rs_syntax.specs.Tree.{ConditionTree, QueryTree, WindowTree, covered, dissolved, filtered, gapped, merged, named, overlaid, renamed, subtracted, transformed, windowed}
use Rattle.rs_machine.specs.State.{State}
use Rattle.rs_machine.specs.Checks.{◌>>=◌, alignment_named, unless}
use Rattle.rs_machine.specs.Checking.{alike, alignments_known, checked, cover_checked, dissolve_checked, filter_checked, fits_limits, gaps_checked, names_known, nodes_checked, overlay_checked, rename_checked, window_checked}
use Rattle.rs_machine.specs.Lawful.{IsLawful}
use Rattle.rs_machine.specs.Opening.{alignments_in, depth, names_in, nodes, opened, opened_times}
use Rattle.rs_machine.specs.declared.limits.TheConstants.{DEPTH, NODES}
use Rattle.rs_machine_laws.proofs.Opening.{settled}
use Rattle.rs_dump_laws.proofs.KeptStates.{aligned_ok, known_ok, nodes_passed}
use Rattle.rs_dump_laws.proofs.Lists.{of_each}
use Rattle.rs_dump_laws.proofs.Walks.{holds, next_is}

-- ---- an operator opens by its operands

module _ (views : Names QueryTree) where
  abbrev after : ℕ → QueryTree → QueryTree
  after times query = opened_times times views query

  filtered_at : (times : ℕ) (a : QueryTree) (c : ConditionTree) → after times (filtered a c) ≡ filtered (after times a) c
  filtered_at zero a c = refl
  filtered_at (suc times) a c = filtered_at times _ c

  dissolved_at : (times : ℕ) (a : QueryTree) (c : List Name) → after times (dissolved a c) ≡ dissolved (after times a) c
  dissolved_at zero a c = refl
  dissolved_at (suc times) a c = dissolved_at times _ c

  renamed_at : (times : ℕ) (a : QueryTree) (from to : Name) → after times (renamed a from to) ≡ renamed (after times a) from to
  renamed_at zero a from to = refl
  renamed_at (suc times) a from to = renamed_at times _ from to

  overlaid_at : (times : ℕ) (a b : QueryTree) → after times (overlaid a b) ≡ overlaid (after times a) (after times b)
  overlaid_at zero a b = refl
  overlaid_at (suc times) a b = overlaid_at times _ _

  covered_at : (times : ℕ) (a b : QueryTree) → after times (covered a b) ≡ covered (after times a) (after times b)
  covered_at zero a b = refl
  covered_at (suc times) a b = covered_at times _ _

  merged_at : (times : ℕ) (a b : QueryTree) → after times (merged a b) ≡ merged (after times a) (after times b)
  merged_at zero a b = refl
  merged_at (suc times) a b = merged_at times _ _

  subtracted_at : (times : ℕ) (a b : QueryTree) → after times (subtracted a b) ≡ subtracted (after times a) (after times b)
  subtracted_at zero a b = refl
  subtracted_at (suc times) a b = subtracted_at times _ _

  windowed_at : (times : ℕ) (a : QueryTree) (w : WindowTree) → after times (windowed a w) ≡ windowed (after times a) w
  windowed_at zero a w = refl
  windowed_at (suc times) a w = windowed_at times _ w

  transformed_at : (times : ℕ) (a : QueryTree) (n : Name) → after times (transformed a n) ≡ transformed (after times a) n
  transformed_at zero a n = refl
  transformed_at (suc times) a n = transformed_at times _ n

  gapped_at : (times : ℕ) (a : QueryTree) → after times (gapped a) ≡ gapped (after times a)
  gapped_at zero a = refl
  gapped_at (suc times) a = gapped_at times _

-- ---- what a query names passes where it does

-- the first check passed
first_ok : {A B : Type 0} (check : Result A Refusal) (next : A → Result B Refusal) (made : B) → (check >>= next) ≡ Ok made → (a : A) × (check ≡ Ok a)
first_ok (Ok a) next made e = (a, refl)
first_ok {A} {B} (Err refusal) next made e = absurd (let wrong : ◌≡◌ {A = Result B Refusal} (Err refusal) (Ok made) = e in cc)

-- both did
two_ok : {A B C : Type 0} (check : Result A Refusal) (other : Result B Refusal) (next : A → B → Result C Refusal) (made : C) → (check >>= (λ x. other >>= (λ y. next x y))) ≡ Ok made
    → ((a : A) × (check ≡ Ok a)) × ((b : B) × (other ≡ Ok b))
two_ok (Ok a) (Ok b) next made e = ((a, refl), (b, refl))
two_ok {A} {B} {C} (Ok a) (Err refusal) next made e = absurd (let wrong : ◌≡◌ {A = Result C Refusal} (Err refusal) (Ok made) = e in cc)
two_ok {A} {B} {C} (Err refusal) other next made e = absurd (let wrong : ◌≡◌ {A = Result C Refusal} (Err refusal) (Ok made) = e in cc)

module _ (state : State) (times : ℕ) (other : Name) where
  abbrev in_full : QueryTree → QueryTree
  in_full query = opened_times times state.views query

  abbrev Passes : QueryTree → Type 0
  Passes query = (made : Query) × (nodes_checked state (in_full query) ≡ Ok made)

  named_passes : (query : QueryTree) → Passes query → Contains (names_in query) other → Passes (named other)
  named_passes (named name) passes among = subst (λ n. Passes (named n)) (of_each (λ n. name ≡ n) (name ∷ []) other (refl, tt) among) passes
  named_passes (filtered a c) passes among =
      named_passes a (first_ok (nodes_checked state (in_full a)) (λ q. filter_checked state q c) passes.0 (sym (ap (nodes_checked state) (filtered_at state.views times a c)) ∙ passes.1)) among
  named_passes (dissolved a c) passes among =
      named_passes a (first_ok (nodes_checked state (in_full a)) (λ q. dissolve_checked state q c) passes.0 (sym (ap (nodes_checked state) (dissolved_at state.views times a c)) ∙ passes.1)) among
  named_passes (renamed a from to) passes among =
      named_passes a (first_ok (nodes_checked state (in_full a)) (λ q. rename_checked state q from to) passes.0 (sym (ap (nodes_checked state) (renamed_at state.views times a from to)) ∙ passes.1)) among
  named_passes (windowed a w) passes among =
      named_passes a (first_ok (nodes_checked state (in_full a)) (λ q. window_checked state w >>= (λ located. Ok (window_rows q located))) passes.0 (sym (ap (nodes_checked state) (windowed_at state.views times a w)) ∙ passes.1)) among
  named_passes (transformed a n) passes among =
      named_passes a (first_ok (nodes_checked state (in_full a)) (λ q. alignment_named state n >>= (λ pieces. Ok (transform_rows q n pieces))) passes.0 (sym (ap (nodes_checked state) (transformed_at state.views times a n)) ∙ passes.1)) among
  named_passes (gapped a) passes among =
      named_passes a (first_ok (nodes_checked state (in_full a)) (λ q. gaps_checked state q) passes.0 (sym (ap (nodes_checked state) (gapped_at state.views times a)) ∙ passes.1)) among
  named_passes (overlaid a b) passes among =
      let both = two_ok (nodes_checked state (in_full a)) (nodes_checked state (in_full b)) (λ x y. overlay_checked state x y) passes.0 (sym (ap (nodes_checked state) (overlaid_at state.views times a b)) ∙ passes.1) in
      elim (Contains-append_cases (names_in a) (names_in b) other among) [ inl one ↦ named_passes a both.0 one | inr two ↦ named_passes b both.1 two ]
  named_passes (covered a b) passes among =
      let both = two_ok (nodes_checked state (in_full a)) (nodes_checked state (in_full b)) (λ x y. cover_checked state x y) passes.0 (sym (ap (nodes_checked state) (covered_at state.views times a b)) ∙ passes.1) in
      elim (Contains-append_cases (names_in a) (names_in b) other among) [ inl one ↦ named_passes a both.0 one | inr two ↦ named_passes b both.1 two ]
  named_passes (merged a b) passes among =
      let both = two_ok (nodes_checked state (in_full a)) (nodes_checked state (in_full b)) (λ x y. alike state x y >>= (λ _. Ok (merge_rows x y))) passes.0 (sym (ap (nodes_checked state) (merged_at state.views times a b)) ∙ passes.1) in
      elim (Contains-append_cases (names_in a) (names_in b) other among) [ inl one ↦ named_passes a both.0 one | inr two ↦ named_passes b both.1 two ]
  named_passes (subtracted a b) passes among =
      let both = two_ok (nodes_checked state (in_full a)) (nodes_checked state (in_full b)) (λ x y. alike state x y >>= (λ _. Ok (minus_rows x y))) passes.0 (sym (ap (nodes_checked state) (subtracted_at state.views times a b)) ∙ passes.1) in
      elim (Contains-append_cases (names_in a) (names_in b) other among) [ inl one ↦ named_passes a both.0 one | inr two ↦ named_passes b both.1 two ]

-- a view that is named by one that passes passes
pub views_named_pass : (state : State) (name other : Name) (query inner : QueryTree) (made : Query) → IsLawful state → names.get state.views name ≡ Some query → names.get state.views other ≡ Some inner
    → Contains (names_in query) other → checked state query ≡ Ok made → (own : Query) × (checked state inner ≡ Ok own)
unfolding opened
views_named_pass state name other query inner made lawful there also among passes =
    let whole = nodes_passed state query made passes in
    let part = named_passes state (names.len state.views) other query (made, whole) among in
    let is = (lawful.views.each other inner also).is in
    let opens : opened_times (names.len state.views) state.views (named other) ≡ opened state.views inner =
    sym (settled state.views (named other) lawful.views.order) ∙ ap (λ o. opened_times (names.len state.views) state.views (unwrap_or o (named other))) also in
    let few = is.few_nodes in
    let flat = is.not_deep in
    let size = opened state.views inner in (
      part.0,
      next_is (names_known state (names_in inner)) tt _ (known_ok state (names_in inner) is.known)
          ∙ next_is (alignments_known state (alignments_in inner)) tt _ (aligned_ok state (alignments_in inner) is.alignments)
          ∙ next_is (unless (fits_limits size) Limit) tt _ (holds (fits_limits size) Limit (and_from (nat_le (nodes size) NODES) (nat_le (depth size) DEPTH) (le-leb (nodes size) NODES few) (le-leb (depth size) DEPTH flat)))
          ∙ sym (ap (nodes_checked state) opens)
          ∙ part.1,
    )

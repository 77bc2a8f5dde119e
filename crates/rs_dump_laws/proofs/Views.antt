-- The views of a dump are accepted, each after those that it names.
use Rattle.std.proofs.Common.{◌≡◌, ◌∙◌, ℕ, ◌+◌, ◌<◌, ◌≤◌, false, ◌||◌, List, [], ◌∷◌, length, map, Result, Ok, refl, sym, ap, subst, arith}
use Rattle.std.specs.Prelude.{fold}
use Rattle.std.specs.List.{AllByRecursion}
use Rattle.std.specs.FinMap as names
use Rattle.rs_refusal.specs.declared.refusal.Refusal.{Refusal}
use Rattle.rs_refusal.specs.declared.refusal.Refusal.TheVariants.{Limit, NameTaken, NoSuchName}
use Rattle.rs_facts.specs.Fact.{Name, Names}
use Rattle.rs_facts.specs.Insert.{same_name}
use Rattle.rs_facts.specs.Query.{Query, transform_rows, window_rows}
use Rattle.rs_syntax.specs.Tree.{QueryTree, covered, dissolved, filtered, gapped, merged, named, overlaid, part_of_route, renamed, subtracted, transformed, whole_route, windowed}
use Rattle.rs_machine.specs.State.{State, has, no_cursors}
use Rattle.rs_machine.specs.Checks.{◌>>=◌, alignment_named, has_table_or_view, unless}
use Rattle.rs_machine.specs.Checking.{alike, alignments_known, checked, cover_checked, dissolve_checked, filter_checked, fits_limits, gaps_checked, names_known, nodes_checked, overlay_checked, rename_checked, window_checked}
use Rattle.rs_facts.specs.Query.{merge_rows, minus_rows}
use Rattle.rs_machine.specs.Lawful.{Each, IsView}
use Rattle.rs_machine.specs.Opening.{alignments_in, names_in, opened}
use Rattle.rs_machine.specs.Step.{may_change, with_view}
use Rattle.rs_machine.specs.declared.limits.TheConstants.{CHANGES, VIEWS}
use Rattle.rs_dump_laws.specs.Accepted.{Accepted}
use Rattle.rs_dump_laws.specs.Dump.{ViewsPass, view_command}
use Rattle.rs_dump_laws.specs.Parts.{IsUnder}
use Rattle.rs_dump_laws.proofs.MoreViews.{IsBegun, avoids_all, begun_further, has_all, opened_all}
use Rattle.rs_dump_laws.proofs.NamedThings.{itself, put_all_named, room_for_first}
use Rattle.rs_dump_laws.proofs.Walks.{AreTaken, IsTaken, fails, is_below, may, next_is, taken}

-- ---- what the checks of a query look at

-- what they look at beside the names and the sizes: no views, no indexes, no changes, no cursors
abbrev looked_at : State → State
looked_at state = record {
  routes = state.routes;
  referents = state.referents;
  tables = state.tables;
  views = names.empty;
  alignments = state.alignments;
  indexes = names.empty;
  changes = 0;
  cursors = no_cursors;
}

nodes_look : (state : State) (tree : QueryTree) → nodes_checked state tree ≡ nodes_checked (looked_at state) tree
nodes_look state (named name) = refl
nodes_look state (filtered a condition) = ap (λ (r : Result Query Refusal). r >>= (λ q. filter_checked state q condition)) (nodes_look state a)
nodes_look state (dissolved a columns) = ap (λ (r : Result Query Refusal). r >>= (λ q. dissolve_checked state q columns)) (nodes_look state a)
nodes_look state (renamed a from to) = ap (λ (r : Result Query Refusal). r >>= (λ q. rename_checked state q from to)) (nodes_look state a)
nodes_look state (gapped a) = ap (λ (r : Result Query Refusal). r >>= (λ q. gaps_checked state q)) (nodes_look state a)
nodes_look state (overlaid a b) = λ i. nodes_look state a i >>= (λ x. nodes_look state b i >>= (λ y. overlay_checked state x y))
nodes_look state (covered a b) = λ i. nodes_look state a i >>= (λ x. nodes_look state b i >>= (λ y. cover_checked state x y))
nodes_look state (merged a b) = λ i. nodes_look state a i >>= (λ x. nodes_look state b i >>= (λ y. alike state x y >>= (λ _. Ok (merge_rows x y))))
nodes_look state (subtracted a b) = λ i. nodes_look state a i >>= (λ x. nodes_look state b i >>= (λ y. alike state x y >>= (λ _. Ok (minus_rows x y))))
nodes_look state (windowed a (whole_route route)) = ap (λ (r : Result Query Refusal). r >>= (λ q. window_checked state (whole_route route) >>= (λ located. Ok (window_rows q located)))) (nodes_look state a)
nodes_look state (windowed a (part_of_route route from to)) =
    ap (λ (r : Result Query Refusal). r >>= (λ q. window_checked state (part_of_route route from to) >>= (λ located. Ok (window_rows q located)))) (nodes_look state a)
nodes_look state (transformed a alignment) = ap (λ (r : Result Query Refusal). r >>= (λ q. alignment_named state alignment >>= (λ pieces. Ok (transform_rows q alignment pieces)))) (nodes_look state a)

-- the state with these views alone, and without indexes
abbrev pub with_views : State → Names QueryTree → ℕ → State
with_views state views changes = record {
  routes = state.routes;
  referents = state.referents;
  tables = state.tables;
  views = views;
  alignments = state.alignments;
  indexes = names.empty;
  changes = changes;
  cursors = no_cursors;
}

nodes_same : (state : State) (views : Names QueryTree) (changes : ℕ) (tree : QueryTree) → nodes_checked (with_views state views changes) tree ≡ nodes_checked state tree
nodes_same state views changes tree = nodes_look (with_views state views changes) tree ∙ sym (nodes_look state tree)

names_same : (state : State) (views : Names QueryTree) (changes : ℕ) (list : List Name) → AllByRecursion (λ name. has views name ≡ has state.views name) list → names_known (with_views state views changes) list ≡ names_known state list
names_same state views changes [] same = refl
names_same state views changes (name ∷ list) same =
    λ i. unless (has state.tables name || same.0 i) NoSuchName >>= (λ _. names_same state views changes list same.1 i)

alignments_same : (state : State) (views : Names QueryTree) (changes : ℕ) (list : List Name) → alignments_known (with_views state views changes) list ≡ alignments_known state list
alignments_same state views changes [] = refl
alignments_same state views changes (name ∷ list) = ap (λ r. unless (has state.alignments name) NoSuchName >>= (λ _. r)) (alignments_same state views changes list)

-- a query whose views are there, and opened as in the state, is checked as there
checked_same : (state : State) (views : Names QueryTree) (changes : ℕ) (query : QueryTree) → AllByRecursion (λ name. has views name ≡ has state.views name) (names_in query)
    → opened views query ≡ opened state.views query → checked (with_views state views changes) query ≡ checked state query
checked_same state views changes query known opens = λ i.
    names_same state views changes (names_in query) known i >>= (λ _.
    alignments_same state views changes (alignments_in query) i >>= (λ _.
    unless (fits_limits (opens i)) Limit >>= (λ _.
    nodes_same state views changes (opens i) i)))

-- ---- views

module _ (state : State) (texts : Name → List ℕ) (pass : ViewsPass state) (each : Each state.views (IsView state)) where
  abbrev put_view : State → (Name × QueryTree) → State
  put_view current view = with_view current view.0 view.1

  all_known : (views : Names QueryTree) (list : List (Name × QueryTree)) (names : List Name) → AllByRecursion (λ later. AllByRecursion (λ name. same_name later.0 name ≡ false) names) list
      → AllByRecursion (λ name. has views name ≡ has (put_all_named itself views list) name) names
  all_known views list [] apart = tt
  all_known views list (name ∷ names) apart = (sym (has_all views list name (heads list apart)), all_known views list names (tails list apart))
    where
      heads : (list : List (Name × QueryTree)) → AllByRecursion (λ later. AllByRecursion (λ other. same_name later.0 other ≡ false) (name ∷ names)) list → AllByRecursion (λ later. same_name later.0 name ≡ false) list
      heads [] apart = tt
      heads (later ∷ list) apart = (apart.0.0, heads list apart.1)

      tails : (list : List (Name × QueryTree)) → AllByRecursion (λ later. AllByRecursion (λ other. same_name later.0 other ≡ false) (name ∷ names)) list
          → AllByRecursion (λ later. AllByRecursion (λ other. same_name later.0 other ≡ false) names) list
      tails [] apart = tt
      tails (later ∷ list) apart = (apart.0.1, tails list apart.1)

  -- the next view passes, since nothing that comes later is named by it
  next_passes : (views : Names QueryTree) (changes : ℕ) (view : Name × QueryTree) (more : List (Name × QueryTree)) → IsBegun views (view ∷ more) → put_all_named itself views (view ∷ more) ≡ state.views
      → checked (with_views state views changes) view.1 ≡ checked state view.1
  next_passes views changes view more is whole =
      let avoids = avoids_all (view ∷ more) view.1 is.before.0 in
      checked_same state views changes view.1
      (subst (λ all. AllByRecursion (λ name. has views name ≡ has all name) (names_in view.1)) whole (all_known views (view ∷ more) (names_in view.1) avoids))
      (sym (opened_all views (view ∷ more) is view.1 avoids) ∙ ap (λ all. opened all view.1) whole)

  no_name : (views : Names QueryTree) (changes : ℕ) (name : Name) → has state.tables name ≡ false → has views name ≡ false → has_table_or_view (with_views state views changes) name ≡ false
  no_name views changes name table new = ap (λ b. b || has views name) table ∙ new

  one_taken : (views : Names QueryTree) (changes : ℕ) (view : Name × QueryTree) (more : List (Name × QueryTree)) → IsBegun views (view ∷ more) → put_all_named itself views (view ∷ more) ≡ state.views
      → IsUnder state.views view → names.len views < VIEWS → changes < CHANGES → IsTaken (view_command texts) put_view (with_views state views changes) view
  one_taken views changes view more is whole under few room =
      let made = pass view.0 view.1 under in
      let none = no_name views changes view.0 (each view.0 view.1 under).no_table is.new.0 in (
        0,
        next_is (checked (with_views state views changes) view.1) made.0 _ (next_passes views changes view more is whole ∙ made.1)
            ∙ next_is (unless _ NameTaken) tt _ (fails (has_table_or_view (with_views state views changes) view.0) NameTaken none)
            ∙ next_is (unless _ Limit) tt _ (is_below (names.len views) VIEWS Limit few)
            ∙ next_is (may_change (with_views state views changes)) tt _ (may (with_views state views changes) room),
      )

  all_taken : (views : Names QueryTree) (changes : ℕ) (list : List (Name × QueryTree)) → IsBegun views list → put_all_named itself views list ≡ state.views → AllByRecursion (IsUnder state.views) list
      → names.len (put_all_named itself views list) ≤ VIEWS → changes + length list ≤ CHANGES → AreTaken (view_command texts) put_view (with_views state views changes) list
  all_taken views changes [] is whole under few room = tt
  all_taken views changes (view ∷ more) is whole under few room = (
    one_taken views changes view more is whole under.0 (room_for_first itself views view more VIEWS is.new.0 few) (omega arith),
    all_taken (names.insert views view.0 view.1) (changes + 1) more (begun_further views view more is) whole under.1 few (omega arith),
  )

  after_all : (views : Names QueryTree) (changes : ℕ) (list : List (Name × QueryTree)) → fold put_view (with_views state views changes) list ≡ with_views state (put_all_named itself views list) (changes + length list)
  after_all views changes [] = ap (with_views state views) (let e : changes ≡ changes + 0 = omega arith in e)
  after_all views changes (view ∷ more) =
      after_all (names.insert views view.0 view.1) (changes + 1) more
      ∙ ap (with_views state (put_all_named itself views (view ∷ more))) (let e : changes + 1 + length more ≡ changes + length (view ∷ more) = omega arith in e)

  pub views_accepted : (views : Names QueryTree) (changes : ℕ) (list : List (Name × QueryTree)) → IsBegun views list → put_all_named itself views list ≡ state.views → AllByRecursion (IsUnder state.views) list
      → names.len (put_all_named itself views list) ≤ VIEWS → changes + length list ≤ CHANGES
      → Accepted (with_views state views changes) (map (view_command texts) list) (with_views state (put_all_named itself views list) (changes + length list))
  views_accepted views changes list is whole under few room =
      subst (Accepted (with_views state views changes) (map (view_command texts) list)) (after_all views changes list)
      (taken (view_command texts) put_view (with_views state views changes) list (all_taken views changes list is whole under few room))

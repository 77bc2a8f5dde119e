-- Where no alignment is too long and each view passes, no view lacks.
use Rattle.std.proofs.Common.{◌≡◌, ◌∙◌, ℕ, Bool, true, false, ◌⊎◌, inl, inr, List, [], ◌∷◌, Ok, Err, Result, Some, ap, map, refl, subst, sym}
use Rattle.std.specs.Prelude.{Contains, Option, is_some}
use Rattle.std.specs.FinMap as names
use Rattle.std.specs.List.{AllByRecursion}
use Rattle.std.proofs.lemmas.Option.{same_Some}
use Rattle.rs_catalog.specs.Definitions.{Definitions, Numbered, Rest, ViewItem}
use Rattle.rs_catalog.specs.Referents.{HeldReferents}
use Rattle.rs_catalog.proofs.StateLaws.{get-views_of}
use Rattle.rs_dump.specs.Dumped.{WroteAll}
use Rattle.rs_dump.specs.Shown.{Shown}
use Rattle.rs_dump.specs.States.{CanBeDumpedWhole, IsStateOf}
use Rattle.rs_dump.specs.Views.{HasAllThatPass, LacksSome, MayLack, names_a_view, names_an_alignment, refused}
use Rattle.rs_dump_laws.specs.Dump.{IsDumpOf}
use Rattle.rs_dump_laws.specs.Parts.{IsUnder, NameViewsBefore}
use Rattle.rs_facts.specs.Fact.{Name}
use Rattle.rs_facts.specs.Query.{Piece, Query}
use Rattle.rs_facts.specs.Runs.{Stretch}
use Rattle.rs_machine.specs.Checking.{checked}
use Rattle.rs_machine.specs.Lawful.{IsLawful}
use Rattle.rs_machine.specs.Opening.{names_query}
use Rattle.rs_machine.specs.State.{State, has}
use Rattle.rs_refusal.specs.declared.refusal.Refusal.{Refusal}
use Rattle.rs_syntax.specs.QueryView.{query_tree}
use Rattle.rs_syntax.specs.Tree.{CommandTree, QueryTree}
use Rattle.rs_dump.proofs.Elements.{first_or_later, none_in_nothing, of_each}
use Rattle.rs_dump.proofs.Entries.{has_one}
use Rattle.rs_dump.proofs.InTurn.{IsAmong, each_among, named}
use Rattle.rs_dump.proofs.Mapped.{from_map}
use Rattle.rs_dump.proofs.StateCommands.{state_of}
use Rattle.rs_dump.proofs.WrittenViews.{has_value, known_in, of_item}

-- what a law says of lawful states
abbrev pub HaveDumps : Type 0
HaveDumps = (texts : Name → List ℕ) (state : State) → IsLawful state → (commands : List CommandTree) × IsDumpOf texts state commands

not_both : {X : Type 0} (result : Result X Refusal) (made : X) (why : Refusal) → result ≡ Ok made → result ≡ Err why → ⊥
not_both result made why passes fails = let wrong : Ok made ≡ Err why = sym passes ∙ fails in cc

module _ (definitions : Definitions) (held : Numbered HeldReferents) (spans_on : ℕ → ℕ → List Stretch) (rest : Rest) (written : List Name)
    (passing : HasAllThatPass (known_in definitions held) written) (can : CanBeDumpedWhole (state_of definitions held spans_on rest)) where
  abbrev the_state : State
  the_state = state_of definitions held spans_on rest

  -- it is not missing
  abbrev pub IsThere : Name → Type 0
  IsThere name = (Contains written name → ⊥) → ⊥

  same_has : (name : Name) → has the_state.views name ≡ has definitions.views name
  same_has name = ap is_some (get-views_of definitions name) ∙ has_value (λ (item : ViewItem). query_tree item.query) (names.get definitions.views name)

  no_reason : (query : QueryTree) (made : Query) → checked the_state query ≡ Ok made
      → ((other : Name) → has the_state.views other ≡ true → names_query other query ≡ true → IsThere other) → MayLack (known_in definitions held) written query → ⊥
  no_reason query made passes others (refused why each) = not_both (checked the_state query) made why passes (each spans_on rest)
  no_reason query made passes others (names_a_view other there is missing) = others other (same_has other ∙ there) is missing
  no_reason query made passes others (names_an_alignment other among is) =
      none_in_nothing ⊥ other (subst (λ (long : List (Name × List Piece)). Contains (map (λ (entry : Name × List Piece). entry.0) long) other) can.alignments among)

  -- a view is written where those are that it names
  one_there : (name : Name) (query : QueryTree) → names.get the_state.views name ≡ Some query
      → ((other : Name) → has the_state.views other ≡ true → names_query other query ≡ true → IsThere other) → IsThere name
  one_there name query there others missing =
      let of = of_item definitions name query there in
      let made = can.views name query there in
      no_reason query made.0 made.1 others (subst (MayLack (known_in definitions held) written) of.same (passing.each name of.item of.there missing))

  -- one that the first of these names is none of them
  named_before : (view : Name × QueryTree) (more : List (Name × QueryTree)) → AllByRecursion (λ later. names_query later.0 view.1 ≡ false) (view ∷ more)
      → (other : Name × QueryTree) → names_query other.0 view.1 ≡ true → Contains (view ∷ more) other → ⊥
  named_before view more free other is among =
      let wrong : true ≡ false = sym is ∙ of_each (λ later. names_query later.0 view.1 ≡ false) (view ∷ more) other free among in cc

  -- Each is written or among those that are left; so each is written.
  each_there : (left : List (Name × QueryTree)) → AllByRecursion (IsUnder the_state.views) left → NameViewsBefore left
      → ((view : Name × QueryTree) → IsUnder the_state.views view → IsThere view.0 ⊎ Contains left view)
      → (view : Name × QueryTree) → IsUnder the_state.views view → IsThere view.0
  each_there [] under before either view is = elim (either view is) [ inl there ↦ there | inr among ↦ none_in_nothing (IsThere view.0) view among ]
  each_there (first ∷ left) under before either view is =
      let first_there : IsThere first.0 = one_there first.0 first.1 under.0 (λ other there names_it.
      let one = has_one the_state.views other there in
      elim (either (other, one.0) one.1) [ inl written_one ↦ written_one | inr among ↦ absurd (named_before first left before.0 (other, one.0) names_it among) ]) in
      each_there left under.1 before.1 (λ one one_is. elim (either one one_is) [
        | inl there ↦ inl there
        | inr among ↦ elim (first_or_later first one left among) [ inl same ↦ inl (subst (λ (v : Name × QueryTree). IsThere v.0) same first_there) | inr later ↦ inr later ]
      ]) view is

  pub none_lacks : HaveDumps → IsLawful the_state → LacksSome definitions written → ⊥
  none_lacks have_dumps lawful lacks =
      let parts = (have_dumps (λ name. []) the_state lawful).1.parts in
      let are = (have_dumps (λ name. []) the_state lawful).1.are_parts in
      let one = has_one the_state.views lacks.name (same_has lacks.name ∙ lacks.there) in
      each_there parts.views are.views.each are.views_in_order (λ view is. inr (are.views.complete view is)) (lacks.name, one.0) one.1 lacks.missing

module _ (definitions : Definitions) (held : Numbered HeldReferents) (shown : Shown) (state : State) (omits_rows lacks : Bool) (before after : Option (List ℕ)) where
  pub nothing_lacks : HaveDumps → IsStateOf definitions held shown state → WroteAll definitions held shown omits_rows lacks before after → CanBeDumpedWhole state → lacks ≡ false
  nothing_lacks have_dumps of wrote can =
      let here : CanBeDumpedWhole (state_of definitions held of.spans_on of.rest) = subst CanBeDumpedWhole of.is can in
      elim lacks as (λ b. lacks ≡ b → b ≡ false) [
        | true ↦ λ is. absurd (elim (wrote.lacking is) [
          | inl long ↦ long here.alignments
          | inr some ↦ none_lacks definitions held of.spans_on of.rest (named wrote.views) wrote.passing here have_dumps (subst IsLawful of.is of.lawful) some
        ])
        | false ↦ λ is. refl
      ] refl

  -- and where nothing does, each view that there is was written, and passes
  pub passes_where_nothing_lacks : IsStateOf definitions held shown state → WroteAll definitions held shown omits_rows lacks before after → lacks ≡ false → CanBeDumpedWhole state
  passes_where_nothing_lacks of wrote none = subst CanBeDumpedWhole (sym of.is) (record {
    alignments = wrote.all_alignments none;
    views = λ name query there.
        let known = known_in definitions held in
        let item = of_item definitions name query there in
        let from = from_map (λ (view : Name × ViewItem). view.0) wrote.views name ((wrote.all_views none).each name (ap is_some item.there)) in
        let one = of_each (IsAmong known (named wrote.views)) wrote.views from.one (each_among known [] wrote.views wrote.in_turn) from.among in
        let same : from.one.1 ≡ item.item = same_Some from.one.1 item.item (sym one.there ∙ ap (names.get definitions.views) from.is ∙ item.there) in
        let made = one.passes.each of.spans_on of.rest in
        (made.0, ap (checked (state_of definitions held of.spans_on of.rest)) (sym (ap (λ (i : ViewItem). query_tree i.query) same ∙ item.same)) ∙ made.1);
  })

-- The views that were written are all that a dump keeps, and each may be kept.
use Rattle.std.proofs.Common.{◌≡◌, ◌∙◌, ℕ, Bool, true, false, List, [], ap, map, refl, subst, sym}
use Rattle.std.specs.Prelude.{Contains, Option, Some, None, is_some, option_map}
use Rattle.std.specs.FinMap as names
use Rattle.std.specs.Cmp.{eq_by_cmp_equiv}
use Rattle.std.specs.List.{AllByRecursion, list_any}
use Rattle.std.proofs.lemmas.Bool.{false≢true}
use Rattle.rs_catalog.specs.Definitions.{Definitions, Numbered, Rest, ViewItem, views_of}
use Rattle.rs_catalog.specs.Referents.{HeldReferents}
use Rattle.rs_catalog.proofs.MapLaws.{same_name-true, some_same}
use Rattle.rs_catalog.proofs.NameOrder.{name_cmp-total}
use Rattle.rs_catalog.proofs.StateLaws.{get-views_of}
use Rattle.rs_dump.specs.Alignments.{too_long}
use Rattle.rs_dump.specs.Views.{AreInTurn, HasAllViews, Known, view_of}
use Rattle.rs_dump_laws.specs.Dump.{view_command}
use Rattle.rs_dump_laws.specs.Kept.{IsKeeping, Keeping, MayBeKept, kept_of}
use Rattle.rs_dump_laws.specs.Parts.{AreAll, IsUnder}
use Rattle.rs_dump_lines.specs.Texts.{HaveLines}
use Rattle.rs_facts.specs.Fact.{Name, Names}
use Rattle.rs_facts.specs.Insert.{same_name}
use Rattle.rs_facts.specs.Query.{Piece}
use Rattle.rs_facts.specs.Runs.{Stretch}
use Rattle.rs_machine.specs.Lawful.{Each}
use Rattle.rs_machine.specs.Opening.{alignments_in, names_alignment, names_in}
use Rattle.rs_machine.specs.Request.{Asks, command}
use Rattle.rs_machine.specs.State.{State, has}
use Rattle.rs_syntax.specs.QueryView.{query_tree}
use Rattle.rs_syntax.specs.Tree.{QueryTree, define_view}
use Rattle.rs_dump.specs.States.{HasDefiningLine}
use Rattle.rs_dump.proofs.Elements.{all_weaker, any_from, from_each, of_each, some_of_any}
use Rattle.rs_dump.proofs.InTurn.{IsAmong, each_among, named, once_in_turn, queried}
use Rattle.rs_dump.proofs.KeptNames.{all_kept, fits, left_out, still_kept, was_kept}
use Rattle.rs_dump.proofs.Mapped.{all_map, from_map, in_map, map_alike, map_twice}
use Rattle.rs_dump.proofs.StateCommands.{state_of}

-- what is known where the alignments that are too long are left out
abbrev pub known_in : Definitions → Numbered HeldReferents → Known
known_in definitions held = record { definitions = definitions; referents = held; left_out = map (λ (entry : Name × List Piece). entry.0) (too_long (names.entries definitions.alignments)) }

-- the text of the view of a name
abbrev text_in : Option ViewItem → List ℕ
text_in (Some view) = view.text
text_in None = []

abbrev pub texts_of : Definitions → Name → List ℕ
texts_of definitions name = text_in (names.get definitions.views name)

same_name-itself : (name : Name) → same_name name name ≡ true
same_name-itself name = (eq_by_cmp_equiv name_cmp-total).refl name

pub has_value : {X Y : Type 0} (f : X → Y) (found : Option X) → is_some (option_map f found) ≡ is_some found
has_value f None = refl
has_value f (Some x) = refl

-- the item of a view that the state has
pub record IsOfItem (definitions : Definitions) (name : Name) (query : QueryTree) : Type 0 where
  pub item : ViewItem
  pub there : names.get definitions.views name ≡ Some item
  pub same : query_tree item.query ≡ query

pub of_item : (definitions : Definitions) (name : Name) (query : QueryTree) → names.get (views_of definitions) name ≡ Some query → IsOfItem definitions name query
of_item definitions name query there = by (names.get definitions.views name) refl (sym (get-views_of definitions name) ∙ there)
  where
    by : (found : Option ViewItem) → names.get definitions.views name ≡ found → option_map (λ (item : ViewItem). query_tree item.query) found ≡ Some query → IsOfItem definitions name query
    by None at is = absurd (let wrong : ◌≡◌ {A = Option QueryTree} None (Some query) = is in cc)
    by (Some item) at is = record { item = item; there = at; same = some_same (query_tree item.query) query is }

module _ (definitions : Definitions) (held : Numbered HeldReferents) (views : List (Name × ViewItem)) (turn : AreInTurn (known_in definitions held) [] views) where
  abbrev is_written : Name → Bool
  is_written name = list_any (same_name name) (named views)

  abbrev pub keeping : Keeping
  keeping = record { view = is_written; alignment = fits definitions.alignments }

  is_written-from : (name : Name) → Contains (named views) name → is_written name ≡ true
  is_written-from name among = any_from (same_name name) (named views) name among (same_name-itself name)

  among_all : AllByRecursion (IsAmong (known_in definitions held) (named views)) views
  among_all = each_among (known_in definitions held) [] views turn

  -- one of those that were written
  record IsOne (name : Name) : Type 0 where
    view : Name × ViewItem
    within : Contains views view
    among : IsAmong (known_in definitions held) (named views) view
    same : view.0 ≡ name

  one_of : (name : Name) → is_written name ≡ true → IsOne name
  one_of name is =
      let some = some_of_any (same_name name) (named views) is in
      let from = from_map (λ (view : Name × ViewItem). view.0) views some.one some.among in
      record {
        view = from.one;
        within = from.among;
        among = of_each (IsAmong (known_in definitions held) (named views)) views from.one among_all from.among;
        same = from.is ∙ sym (same_name-true name some.one some.is);
      }

  -- what stands in the state under the name of one that was written
  under : (view : Name × ViewItem) → names.get definitions.views view.0 ≡ Some view.1 → names.get (views_of definitions) view.0 ≡ Some (query_tree view.1.query)
  under view there = get-views_of definitions view.0 ∙ ap (option_map (λ (item : ViewItem). query_tree item.query)) there

  -- ---- all that is kept

  abbrev kept_views : Names QueryTree
  kept_views = names.retain_keys (views_of definitions) is_written

  pub written_all : AreAll (IsUnder kept_views) (map queried views)
  written_all = record {
    once = once_in_turn (known_in definitions held) [] views turn;
    each = all_map (IsUnder kept_views) (λ (view : Name × ViewItem). IsUnder kept_views (queried view)) queried (λ view is. is) views
        (from_each (λ (view : Name × ViewItem). IsUnder kept_views (queried view)) views (λ view within.
        still_kept (views_of definitions) is_written view.0 (is_written-from view.0 (in_map (λ (v : Name × ViewItem). v.0) views view within))
        ∙ under view (of_each (IsAmong (known_in definitions held) (named views)) views view among_all within).there));
    complete = λ entry is.
        let was = was_kept (views_of definitions) is_written entry.0 entry.1 is in
        let one = one_of entry.0 was.0 in
        let query : query_tree one.view.1.query ≡ entry.1 = some_same (query_tree one.view.1.query) entry.1 (sym (under one.view one.among.there) ∙ ap (names.get (views_of definitions)) one.same ∙ was.1) in
        subst (Contains (map queried views)) (λ i. (one.same i, query i)) (in_map queried views one.view one.within);
  }

  pub same_views : map (view_command (texts_of definitions)) (map queried views) ≡ map view_of views
  same_views =
      map_twice queried (view_command (texts_of definitions)) views
      ∙ map_alike (λ (view : Name × ViewItem). view_command (texts_of definitions) (queried view)) view_of views
      (all_weaker (IsAmong (known_in definitions held) (named views)) (λ view. view_command (texts_of definitions) (queried view) ≡ view_of view)
      (λ view among. ap (λ (found : Option ViewItem). define_view view.0 (query_tree view.1.query) (text_in found)) among.there) views among_all)

  -- where all were written, all are kept
  pub all_written : HasAllViews definitions (named views) → kept_views ≡ views_of definitions
  all_written all = all_kept (views_of definitions) is_written
      (λ name there. is_written-from name (all.each name (sym (ap is_some (get-views_of definitions name) ∙ has_value (λ (item : ViewItem). query_tree item.query) (names.get definitions.views name)) ∙ there)))

  -- ---- each may be kept

  module _ (spans_on : ℕ → ℕ → List Stretch) (rest : Rest) where
    abbrev the_state : State
    the_state = state_of definitions held spans_on rest

    name_kept : (view : Name × ViewItem) → IsAmong (known_in definitions held) (named views) view → (other : Name) → Contains (names_in (query_tree view.1.query)) other
        → has the_state.views other ≡ true → is_written other ≡ true
    name_kept view among other within there =
        is_written-from other (among.ready.views other
        (sym (ap is_some (get-views_of definitions other) ∙ has_value (λ (item : ViewItem). query_tree item.query) (names.get definitions.views other)) ∙ there)
        (any_from (same_name other) (names_in (query_tree view.1.query)) other within (same_name-itself other)))

    alignment_kept : (view : Name × ViewItem) → IsAmong (known_in definitions held) (named views) view → (other : Name) → Contains (alignments_in (query_tree view.1.query)) other
        → fits definitions.alignments other ≡ true
    alignment_kept view among other within = elim (fits definitions.alignments other) as (λ b. fits definitions.alignments other ≡ b → b ≡ true) [
      | true ↦ λ is. refl
      | false ↦ λ long.
          let query = query_tree view.1.query in
          let free : names_alignment other query ≡ false = of_each (λ alignment. names_alignment alignment query ≡ false) (known_in definitions held).left_out other among.ready.alignments (left_out definitions.alignments other long) in
          absurd (false≢true (sym free ∙ any_from (same_name other) (alignments_in query) other within (same_name-itself other)))
    ] refl

    may_be_kept : (view : Name × ViewItem) → IsAmong (known_in definitions held) (named views) view → MayBeKept the_state keeping (query_tree view.1.query)
    may_be_kept view among =
        let query = query_tree view.1.query in
        let passing = among.passes.each spans_on rest in
        record {
          made = passing.0;
          passes = passing.1;
          views = from_each (λ other. has the_state.views other ≡ true → is_written other ≡ true) (names_in query) (name_kept view among);
          alignments = from_each (λ other. fits definitions.alignments other ≡ true) (alignments_in query) (alignment_kept view among);
        }

    pub keeps : IsKeeping the_state keeping
    keeps name query there is =
        let one = one_of name is in
        let same : query_tree one.view.1.query ≡ query = some_same (query_tree one.view.1.query) query (sym (under one.view one.among.there) ∙ ap (names.get (views_of definitions)) one.same ∙ there) in
        subst (MayBeKept the_state keeping) same (may_be_kept one.view one.among)

    pub have_lines : Each definitions.views HasDefiningLine → HaveLines (texts_of definitions) (kept_of keeping the_state)
    have_lines lines name query there =
        let was = was_kept (views_of definitions) is_written name query there in
        let of = of_item definitions name query was.1 in
        let line = lines name of.item of.there in (
          line.0,
          line.1,
          (subst (λ (q : QueryTree). Asks line.0 (command line.1 (define_view name q (texts_of definitions name)))) of.same
              (subst (λ (text : List ℕ). Asks line.0 (command line.1 (define_view name (query_tree of.item.query) text))) (sym (ap text_in of.there)) line.2)),
        )

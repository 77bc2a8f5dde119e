-- Views in turn: none stands twice, and none names itself or a later one.
use Rattle.std.proofs.Common.{◌≡◌, ◌≢◌, true, false, List, [], ◌∷◌, ◌++◌, ap, append_assoc, map, refl, subst}
use Rattle.std.specs.Prelude.{Some, is_some}
use Rattle.std.specs.FinMap as names
use Rattle.std.specs.List.{AllByRecursion}
use Rattle.std.proofs.lemmas.List.Elements.{Contains-append_left}
use Rattle.rs_catalog.specs.Definitions.{ViewItem}
use Rattle.rs_dump.specs.Views.{AreInTurn, IsReady, Known, PassesNow}
use Rattle.rs_dump_laws.specs.Parts.{AreOnce, NameViewsBefore}
use Rattle.rs_facts.specs.Fact.{Name}
use Rattle.rs_machine.specs.Opening.{names_query}
use Rattle.rs_syntax.specs.QueryView.{query_tree}
use Rattle.rs_syntax.specs.Tree.{QueryTree}
use Rattle.rs_dump.proofs.Elements.{all_back, all_both, all_front, all_weaker, of_each}
use Rattle.rs_dump.proofs.Mapped.{all_map}

abbrev Views : Type 0
Views = List (Name × ViewItem)

abbrev pub named : Views → List Name
named views = map (λ (view : Name × ViewItem). view.0) views

-- a view as the state knows it
abbrev pub queried : Name × ViewItem → Name × QueryTree
queried view = (view.0, query_tree view.1.query)

-- ---- each of them

-- the view is there, its query passes, and what it names is among these
pub record IsAmong (known : Known) (all : List Name) (view : Name × ViewItem) : Type 0 where
  pub there : names.get known.definitions.views view.0 ≡ Some view.1
  pub ready : IsReady known all (query_tree view.1.query)
  pub passes : PassesNow known.definitions known.referents (query_tree view.1.query)

ready_more : (known : Known) (some more : List Name) (query : QueryTree) → IsReady known some query → IsReady known (some ++ more) query
ready_more known some more query ready = record {
  views = λ other there is. Contains-append_left some more other (ready.views other there is);
  alignments = ready.alignments;
}

pub each_among : (known : Known) (before : List Name) (views : Views) → AreInTurn known before views → AllByRecursion (IsAmong known (before ++ named views)) views
each_among known before [] turn = tt
each_among known before (view ∷ views) turn = (
  record { there = turn.0.there; ready = ready_more known before (named (view ∷ views)) (query_tree view.1.query) turn.0.ready; passes = turn.0.passes },
  subst (λ (all : List Name). AllByRecursion (IsAmong known all) views) (append_assoc before (view.0 ∷ []) (named views)) (each_among known (before ++ view.0 ∷ []) views turn.1),
)

-- ---- none twice

-- none of these names is the view's
abbrev IsApart : List Name → Name × ViewItem → Type 0
IsApart before view = AllByRecursion (λ other. other ≢ view.0) before

none_before : (known : Known) (before : List Name) (views : Views) → AreInTurn known before views → AllByRecursion (IsApart before) views
none_before known before [] turn = tt
none_before known before (view ∷ views) turn = (
  turn.0.once,
  all_weaker (IsApart (before ++ view.0 ∷ [])) (IsApart before) (λ later apart. all_front (λ other. other ≢ later.0) before (view.0 ∷ []) apart) views
      (none_before known (before ++ view.0 ∷ []) views turn.1),
)

others : (known : Known) (before : List Name) (view : Name × ViewItem) (views : Views) → AreInTurn known (before ++ view.0 ∷ []) views → AllByRecursion (λ later. view.0 ≢ later.0) views
others known before view views turn =
    all_weaker (IsApart (before ++ view.0 ∷ [])) (λ later. view.0 ≢ later.0) (λ later apart. (all_back (λ other. other ≢ later.0) before (view.0 ∷ []) apart).0) views
    (none_before known (before ++ view.0 ∷ []) views turn)

pub once_in_turn : (known : Known) (before : List Name) (views : Views) → AreInTurn known before views → AreOnce (map queried views)
once_in_turn known before [] turn = tt
once_in_turn known before (view ∷ views) turn = (
  all_map (λ (other : Name × QueryTree). queried view ≢ other) (λ (later : Name × ViewItem). view.0 ≢ later.0) queried (λ later apart same. apart (ap (λ (entry : Name × QueryTree). entry.0) same)) views
      (others known before view views turn.1),
  once_in_turn known (before ++ view.0 ∷ []) views turn.1,
)

-- ---- what they name

not_named : (known : Known) (before : List Name) (query : QueryTree) (later : Name × ViewItem) → IsReady known before query → names.get known.definitions.views later.0 ≡ Some later.1 → IsApart before later
    → names_query later.0 query ≡ false
not_named known before query later ready there apart = elim (names_query later.0 query) as (λ b. names_query later.0 query ≡ b → b ≡ false) [
  | true ↦ λ is. absurd (of_each (λ other. other ≢ later.0) before later.0 apart (ready.views later.0 (ap is_some there) is) refl)
  | false ↦ λ free. refl
] refl

pub name_before : (known : Known) (before : List Name) (views : Views) → AreInTurn known before views → NameViewsBefore (map queried views)
name_before known before [] turn = tt
name_before known before (view ∷ views) turn =
    let query = query_tree view.1.query in
    let all = before ++ view.0 ∷ [] in (
      (
        not_named known before query view turn.0.ready turn.0.there turn.0.once,
        all_map (λ (later : Name × QueryTree). names_query later.0 query ≡ false) (λ (later : Name × ViewItem). names_query later.0 query ≡ false) queried (λ later free. free) views
            (all_both (IsAmong known (all ++ named views)) (IsApart before) (λ later. names_query later.0 query ≡ false)
            (λ later among apart. not_named known before query later turn.0.ready among.there apart) views
            (each_among known all views turn.1) (none_before known before (view ∷ views) turn).1),
      ),
      name_before known all views turn.1,
    )

-- A file in which there are no definitions stands for the state at the beginning.
use Rattle.std.proofs.Common.{◌≡◌, ℕ, Some, List, [], sym, ap, subst, ◌∙◌, arith}
use Rattle.std.specs.FinMap as names
use Rattle.std.specs.FinMap.{get-empty, get-from_sorted, len-empty, len-entries, same_map}
use Rattle.std.specs.List.{AllZip}
use Rattle.std.proofs.lemmas.List.{nil_from_length}
use Rattle.std.proofs.lemmas.Option.{none-some}
use Rattle.rs_catalog.specs.Definitions.{indexes_of, no_definitions, referents_from, state_from, tables_from, views_of}
use Rattle.rs_catalog.proofs.NameOrder.{name_cmp-antisymmetric, name_cmp-total}
use Rattle.rs_catalog.proofs.StateLaws.{indexes_of-none, referents_from-none, routes_of-none, tables_from-none, views_of-none}
use Rattle.rs_catalog_meaning.specs.Meaning.{AreMeant}
use Rattle.rs_facts.specs.Fact.{Name, Names, name_cmp}
use Rattle.rs_facts.specs.Query.{RouteEnds, Table}
use Rattle.rs_facts.specs.Runs.{Stretch}
use Rattle.rs_file.specs.Contents.{HoldsAll}
use Rattle.rs_file.specs.Creating as created
use Rattle.rs_file.specs.Creating.{no_contents}
use Rattle.rs_machine.specs.Lawful.{AreViewsMeant}
use Rattle.rs_machine.specs.State.{State, fresh, no_cursors, no_referents}
use Rattle.rs_pages.specs.PageMap.{PageMap}
use Rattle.rs_planning.specs.Basis.{IndexedColumn}
use Rattle.rs_syntax.specs.Tree.{QueryTree}
use Rattle.rs_file_meaning.specs.Seen.{referents_seen, spans_seen}
use Rattle.rs_file_meaning.specs.Standing.{StandsFor}
use Rattle.rs_file_meaning.specs.States.{AreDefinitionsAt, IsViewOf}

none_there : {X P : Type 0} (name : Name) (x : X) → names.get (names.empty {X = X} {R = name_cmp}) name ≡ Some x → P
none_there name x there = absurd (none-some x (sym (get-empty name_cmp name) ∙ there))

none_sorted : {X : Type 0} → names.empty {X = X} {R = name_cmp} ≡ names.from_sorted []
none_sorted = same_map name_cmp-total name_cmp-antisymmetric _ _ (λ q. get-empty name_cmp q ∙ sym (get-from_sorted name_cmp [] q tt))

no_entries : {X : Type 0} → names.entries (names.empty {X = X} {R = name_cmp}) ≡ []
no_entries {X} = nil_from_length (names.entries (names.empty {X = X} {R = name_cmp})) (sym (len-entries (names.empty {X = X} {R = name_cmp})) ∙ len-empty name_cmp X)

state_of_parts : Names RouteEnds → (Name → Names ℕ) → Names Table → Names QueryTree → Names IndexedColumn → State
state_of_parts routes referents tables views indexes = record {
  routes = routes;
  referents = referents;
  tables = tables;
  views = views;
  alignments = names.empty;
  indexes = indexes;
  changes = 0;
  cursors = no_cursors;
}

fresh_is : (referents : ℕ → Names ℕ) (spans : ℕ → ℕ → List Stretch) → fresh ≡ state_from no_definitions referents spans (record { changes = 0; cursors = no_cursors })
unfolding fresh state_of_parts
fresh_is referents spans = sym (
    ap (λ routes. state_of_parts routes (referents_from no_definitions referents) (tables_from no_definitions spans) (views_of no_definitions) (indexes_of no_definitions)) routes_of-none
    ∙ ap (λ refs. state_of_parts names.empty refs (tables_from no_definitions spans) (views_of no_definitions) (indexes_of no_definitions)) (referents_from-none referents)
    ∙ ap (λ tables. state_of_parts names.empty no_referents tables (views_of no_definitions) (indexes_of no_definitions)) (tables_from-none spans)
    ∙ ap (λ views. state_of_parts names.empty no_referents names.empty views (indexes_of no_definitions)) views_of-none
    ∙ ap (λ indexes. state_of_parts names.empty no_referents names.empty names.empty indexes) indexes_of-none)

definitions_none : AreDefinitionsAt 0 created.no_definitions no_definitions
definitions_none = record {
  routes = none_sorted;
  tables = none_sorted;
  indexes = none_sorted;
  views = subst (AllZip IsViewOf []) (sym no_entries) tt;
  alignments = none_sorted;
}

views_none : AreViewsMeant fresh
unfolding fresh
views_none = record {
  each = λ name query there. none_there name query there;
  order = record {
    place = λ name. 0;
    below = λ name query there. none_there name query there;
    apart = λ a b x y one other same. none_there a x one;
    before = λ name other query there inside y known. none_there name query there;
  };
}

pub created_stands : AreMeant created.no_definitions → (map : PageMap) (pages : List ℕ) → HoldsAll map (no_contents pages) → StandsFor map (no_contents pages) fresh
created_stands meant map pages holds = record {
  holds = holds;
  meant = record {
    definitions = meant;
    records = λ version low high. record { tables = tt; referents = record { each = tt; once = λ route. tt; few = λ route. omega arith } };
  };
  is = record {
    definitions = no_definitions;
    are = definitions_none;
    is = fresh_is (referents_seen (no_contents pages) 0) (spans_seen (no_contents pages) 0);
  };
  views = views_none;
}

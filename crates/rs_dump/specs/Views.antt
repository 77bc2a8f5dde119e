-- The views that a dump has, in their order.
use Rattle.std.specs.Prelude.{◌≡◌, ◌≢◌, ℕ, Bool, true, false, Contains, List, [], ◌∷◌, ◌++◌, map, Err, Ok, Option, Some}
use Rattle.std.specs.FinMap as names
use Rattle.std.specs.List.{AllByRecursion}
use Rattle.std.specs.Io.KnownBytes.{Appends}
use Rattle.arrayvec.specs.ArrayString.{ArrayString}
use Rattle.rs_catalog.specs.Definitions.{Definitions, Numbered, Rest, ViewItem, state_from}
use Rattle.rs_catalog.specs.Referents.{HeldReferents, referents_on}
use Rattle.rs_dump.specs.Written.{StopsWriting, WroteFront, lines_bytes}
use Rattle.rs_dump.specs.declared.stop.Stop.{Stop}
use Rattle.rs_dump.specs.declared.views.Defined.{Defined}
use Rattle.rs_dump.specs.declared.views.LeftOut.{LeftOut}
use Rattle.rs_dump.specs.declared.views.Sorted.{Sorted}
use Rattle.rs_facts.specs.Fact.{Name}
use Rattle.rs_facts.specs.Query.{Query}
use Rattle.rs_facts.specs.Runs.{Stretch}
use Rattle.rs_machine.specs.Checking.{checked}
use Rattle.rs_machine.specs.Opening.{names_alignment, names_query}
use Rattle.rs_machine.specs.State.{has}
use Rattle.rs_refusal.specs.declared.refusal.Refusal.{Refusal}
use Rattle.rs_syntax.specs.QueryView.{query_tree}
use Rattle.rs_syntax.specs.Tree.{CommandTree, QueryTree, define_view}

abbrev pub names_of : List ArrayString → List Name
names_of names = map (λ name. name.bytes) names

-- in each state of these definitions and referents the query passes the checks of a view's DEFINE line
pub record PassesNow (definitions : Definitions) (referents : Numbered HeldReferents) (query : QueryTree) : Type 0 where
  pub each : (spans_on : ℕ → ℕ → List Stretch) (rest : Rest) → (made : Query) × (checked (state_from definitions (referents_on referents) spans_on rest) query ≡ Ok made)

-- what is known of what is dumped: the definitions, the referents, and the names of the alignments that are left out
pub record Known : Type 0 where
  pub definitions : Definitions
  pub referents : Numbered HeldReferents
  pub left_out : List Name

abbrev pub known_of : Defined → Known
known_of defined = record { definitions = defined.catalog.now; referents = defined.referents.now; left_out = names_of defined.left_out.now }

-- each view that the query names is among these, and no alignment that it names was left out
pub record IsReady (known : Known) (written : List Name) (query : QueryTree) : Type 0 where
  pub views : (other : Name) → has known.definitions.views other ≡ true → names_query other query ≡ true → Contains written other
  pub alignments : AllByRecursion (λ alignment. names_alignment alignment query ≡ false) known.left_out

-- the view may come after these
pub record MayFollow (known : Known) (before : List Name) (view : Name × ViewItem) : Type 0 where
  pub there : names.get known.definitions.views view.0 ≡ Some view.1
  pub once : AllByRecursion (λ other. other ≢ view.0) before
  pub ready : IsReady known before (query_tree view.1.query)
  pub passes : PassesNow known.definitions known.referents (query_tree view.1.query)

-- each may come after those that stand before it
abbrev pub AreInTurn : Known → List Name → List (Name × ViewItem) → Type 0
AreInTurn known before [] = Unit {0}
AreInTurn known before (view ∷ views) = MayFollow known before view × AreInTurn known (before ++ view.0 ∷ []) views

abbrev pub view_of : Name × ViewItem → CommandTree
view_of view = define_view view.0 (query_tree view.1.query) view.1.text

-- the output grew by the lines of these views, each of which may come after those before it
pub record IsSorted (known : Known) (written : List Name) (before after : Option (List ℕ)) : Type 0 where
  pub views : List (Name × ViewItem)
  pub named : map (λ view. view.0) views ≡ written
  pub in_turn : AreInTurn known [] views
  pub put : Appends before after (lines_bytes (map view_of views))

-- the output grew by a front of the lines of such views
pub record FrontOfViews (known : Known) (stop : Stop) (before after : Option (List ℕ)) : Type 0 where
  pub views : List (Name × ViewItem)
  pub in_turn : AreInTurn known [] views
  pub front : WroteFront stop (lines_bytes (map view_of views)) before after

-- it stops for want of memory or since the output failed, and among the lines of views where it began with them
abbrev pub StopsSorting : Defined → Sorted → Stop → Option (List ℕ) → Option (List ℕ) → Type 0
StopsSorting defined old stop output output_now = StopsWriting stop × ((before : Option (List ℕ)) → IsSorted (known_of defined) (names_of old.written.items) before output
    → FrontOfViews (known_of defined) stop before output_now)

-- so it was, and so it is
abbrev pub sorts : Defined → Sorted → Sorted → Option (List ℕ) → Option (List ℕ) → Type 0
sorts defined old new output output_now = (before : Option (List ℕ)) → IsSorted (known_of defined) (names_of old.written.items) before output
    → IsSorted (known_of defined) (names_of new.written.items) before output_now

-- Why a view is not written: its DEFINE line would be refused now, in each state of these definitions and referents; or it names a view
-- that is not written; or an alignment that was left out.
pub data MayLack (known : Known) (written : List Name) (query : QueryTree) : Type 0 where
  refused : (why : Refusal) → ((spans_on : ℕ → ℕ → List Stretch) (rest : Rest)
      → checked (state_from known.definitions (referents_on known.referents) spans_on rest) query ≡ Err why) → MayLack known written query
  names_a_view : (other : Name) → has known.definitions.views other ≡ true → names_query other query ≡ true → (Contains written other → ⊥) → MayLack known written query
  names_an_alignment : (other : Name) → Contains known.left_out other → names_alignment other query ≡ true → MayLack known written query

-- no view is missing that could be written
pub record HasAllThatPass (known : Known) (written : List Name) : Type 0 where
  pub each : (name : Name) (view : ViewItem) → names.get known.definitions.views name ≡ Some view → (Contains written name → ⊥)
      → MayLack known written (query_tree view.query)

-- some view is missing
pub record LacksSome (definitions : Definitions) (written : List Name) : Type 0 where
  pub name : Name
  pub there : has definitions.views name ≡ true
  pub missing : Contains written name → ⊥

-- no view is missing
pub record HasAllViews (definitions : Definitions) (written : List Name) : Type 0 where
  pub each : (name : Name) → has definitions.views name ≡ true → Contains written name

-- ---- one after another

-- the first names, and then others
pub record Grows (old new : List ArrayString) : Type 0 where
  pub more : List ArrayString
  pub is : new ≡ old ++ more

abbrev pub left_out_as : ArrayString → Refusal → LeftOut
left_out_as name why = record { name = name; refusal = why }

abbrev pub refused_names : List LeftOut → List Name
refused_names those = map (λ view. view.name.bytes) those

-- a view of this name is refused the checks of its DEFINE line now, in each state of these definitions and referents
pub record IsRefused (known : Known) (name : Name) : Type 0 where
  pub view : ViewItem
  pub there : names.get known.definitions.views name ≡ Some view
  pub why : Refusal
  pub each : (spans_on : ℕ → ℕ → List Stretch) (rest : Rest)
      → checked (state_from known.definitions (referents_on known.referents) spans_on rest) (query_tree view.query) ≡ Err why

abbrev pub AreRefused : Known → List LeftOut → Type 0
AreRefused known those = AllByRecursion (IsRefused known) (refused_names those)

-- More names were written, each with its line, and those that were noted as refused are refused.
pub record Goes (defined : Defined) (old new : Sorted) (output output_now : Option (List ℕ)) : Type 0 where
  pub sorted : sorts defined old new output output_now
  pub grows : Grows old.written.items new.written.items
  pub refusals : AreRefused (known_of defined) old.refused.items → AreRefused (known_of defined) new.refused.items

-- where the view is not written, it may lack
abbrev pub LacksForAReason : Known → List Name → Name × ViewItem → Type 0
LacksForAReason known written view = (Contains written view.0 → ⊥) → MayLack known written (query_tree view.1.query)

-- the query names a view that is not written
pub record NamesUnwritten (definitions : Definitions) (written : List Name) (query : QueryTree) : Type 0 where
  pub other : Name
  pub there : has definitions.views other ≡ true
  pub named : names_query other query ≡ true
  pub missing : Contains written other → ⊥

-- the query names one of these alignments
pub record NamesOneOf (alignments : List Name) (query : QueryTree) : Type 0 where
  pub other : Name
  pub among : Contains alignments other
  pub named : names_alignment other query ≡ true

-- The lines of views were written in turn. None is left out that could be written, and something is said to lack just where a view is missing.
pub record WroteViews (known : Known) (lacks : Bool) (before after : Option (List ℕ)) : Type 0 where
  pub written : List Name
  pub sorted : IsSorted known written before after
  pub all : lacks ≡ false → HasAllViews known.definitions written
  pub passing : HasAllThatPass known written
  pub lacking : lacks ≡ true → LacksSome known.definitions written

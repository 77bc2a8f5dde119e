-- Pages stand for one state at the most.
use Rattle.std.proofs.Common.{◌≡◌, ℕ, List, [], ◌∷◌, map, Ok, refl, sym, ap, subst, ◌∙◌}
use Rattle.std.specs.FinMap as names
use Rattle.std.specs.List.{AllZip}
use Rattle.rs_catalog.specs.Definitions as catalog
use Rattle.rs_catalog.specs.Definitions.{Definitions, indexed_column, on_numbered, referents_from, state_from, table_from, tables_from, views_of}
use Rattle.rs_catalog.specs.Names.{map_values}
use Rattle.rs_catalog_pages.specs.Items.{CatalogueItems, ViewItem}
use Rattle.rs_facts.specs.Fact.{Name, Names}
use Rattle.rs_facts.specs.Query.{Piece}
use Rattle.rs_facts.specs.Runs.{Stretch}
use Rattle.rs_file.specs.Contents.{Contents, HoldsAll, SameContents}
use Rattle.rs_machine.specs.State.{State, no_cursors}
use Rattle.rs_pages.specs.PageMap.{PageMap}
use Rattle.rs_syntax.specs.QueryView.{query_tree}
use Rattle.rs_syntax.specs.Tree.{QueryTree, define_view}
use Rattle.rs_syntax.specs.Verdict.{Reads}
use Rattle.rs_syntax_laws.specs.ViewTexts.{TextSaysQuery}
use Rattle.rs_file_meaning.specs.Changed.{SaysTheSame}
use Rattle.rs_file_meaning.specs.Seen.{referents_seen, spans_seen}
use Rattle.rs_file_meaning.specs.Standing.{StandsFor}
use Rattle.rs_file_meaning.specs.States.{AreDefinitionsAt, HasLine, IsStateAt, IsViewOf}
use Rattle.rs_file_meaning.proofs.KeptMeaning.{says_same}
use Rattle.rs_file_meaning.proofs.SameWorld.{same_referents, same_spans}

-- what is said of the texts of views
abbrev pub LineSaysText : Type 0
LineSaysText = (line : List ℕ) (from : ℕ) (name : List ℕ) (query : QueryTree) (text : List ℕ) → Reads line from (Ok (define_view name query text)) → TextSaysQuery text query

abbrev pub TextSaysOne : Type 0
TextSaysOne = (text : List ℕ) (a b : QueryTree) → TextSaysQuery text a → TextSaysQuery text b → a ≡ b

module _ (says : LineSaysText) (alone : TextSaysOne) where
  pub query_one : (name other : Name) (a b : QueryTree) (text : List ℕ) → HasLine name a text → HasLine other b text → a ≡ b
  query_one name other a b text one two =
      alone text a b (says _ _ name a text one.asks.reads) (says _ _ other b text two.asks.reads)

  abbrev seen : Name × catalog.ViewItem → Name × QueryTree
  seen entry = (entry.0, query_tree entry.1.query)

  pairs : (a b : Name) (x y : QueryTree) → a ≡ b → x ≡ y → ◌≡◌ {A = Name × QueryTree} (a, x) (b, y)
  pairs a b x y e f = ap (λ (n : Name). (n, x)) e ∙ ap (λ (q : QueryTree). (b, q)) f

  queries_one : (views : List ViewItem) (one other : List (Name × catalog.ViewItem)) → AllZip IsViewOf views one → AllZip IsViewOf views other → map seen one ≡ map seen other
  queries_one [] [] [] is are = refl
  queries_one [] [] (f ∷ fs) is are = absurd are
  queries_one [] (e ∷ es) other is are = absurd is
  queries_one (view ∷ views) [] other is are = absurd is
  queries_one (view ∷ views) (e ∷ es) [] is are = absurd are
  queries_one (view ∷ views) (e ∷ es) (f ∷ fs) is are =
      ap (λ (p : Name × QueryTree). p ∷ map seen es)
      (pairs e.0 f.0 (query_tree e.1.query) (query_tree f.1.query) (is.0.named ∙ sym are.0.named)
      (query_one view.name view.name (query_tree e.1.query) (query_tree f.1.query) view.text is.0.defined are.0.defined))
      ∙ ap (λ (l : List (Name × QueryTree)). seen f ∷ l) (queries_one views es fs is.1 are.1)

  views_one : (views : List ViewItem) (one other : Definitions) → AllZip IsViewOf views (names.entries one.views) → AllZip IsViewOf views (names.entries other.views)
      → views_of one ≡ views_of other
  unfolding map_values
  views_one views one other is are = ap (λ (l : List (Name × QueryTree)). names.from_entries l) (queries_one views (names.entries one.views) (names.entries other.views) is are)

  -- the state by its parts
  state_by : Names catalog.RouteItem → Names catalog.TableItem → Names catalog.IndexItem → Names QueryTree → Names (List Piece)
      → (ℕ → Names ℕ) → (ℕ → ℕ → List Stretch) → ℕ → State
  state_by routes tables indexes views alignments referents spans version = record {
    routes = map_values (λ item. item.ends) routes;
    referents = λ route. on_numbered names.empty referents (names.get routes route);
    tables = map_values (table_from routes spans) tables;
    views = views;
    alignments = alignments;
    indexes = map_values indexed_column indexes;
    changes = version;
    cursors = no_cursors;
  }

  abbrev state_with : Definitions → (ℕ → Names ℕ) → (ℕ → ℕ → List Stretch) → ℕ → State
  state_with definitions referents spans version = state_from definitions referents spans (record { changes = version; cursors = no_cursors })

  state_parts : (definitions : Definitions) (referents : ℕ → Names ℕ) (spans : ℕ → ℕ → List Stretch) (version : ℕ)
      → state_with definitions referents spans version
      ≡ state_by definitions.routes definitions.tables definitions.indexes (views_of definitions) definitions.alignments referents spans version
  unfolding state_by tables_from referents_from
  state_parts definitions referents spans version = refl

  states_one : (version : ℕ) (catalogue : CatalogueItems) (one other : Definitions) (referents : ℕ → Names ℕ) (spans : ℕ → ℕ → List Stretch)
      → AreDefinitionsAt version catalogue one → AreDefinitionsAt version catalogue other → state_with one referents spans version ≡ state_with other referents spans version
  states_one version catalogue one other referents spans is are =
      state_parts one referents spans version
      ∙ ap (λ (routes : Names catalog.RouteItem). state_by routes one.tables one.indexes (views_of one) one.alignments referents spans version) (is.routes ∙ sym are.routes)
      ∙ ap (λ (tables : Names catalog.TableItem). state_by other.routes tables one.indexes (views_of one) one.alignments referents spans version) (is.tables ∙ sym are.tables)
      ∙ ap (λ (indexes : Names catalog.IndexItem). state_by other.routes other.tables indexes (views_of one) one.alignments referents spans version) (is.indexes ∙ sym are.indexes)
      ∙ ap (λ (views : Names QueryTree). state_by other.routes other.tables other.indexes views one.alignments referents spans version) (views_one catalogue.views one other is.views are.views)
      ∙ ap (λ (alignments : Names (List Piece)). state_by other.routes other.tables other.indexes (views_of other) alignments referents spans version) (is.alignments ∙ sym are.alignments)
      ∙ sym (state_parts other referents spans version)

  pub contents_one : (version : ℕ) (contents : Contents) (one other : State) → IsStateAt version contents one → IsStateAt version contents other → one ≡ other
  contents_one version contents one other is are =
      is.is ∙ states_one version contents.definitions is.definitions are.definitions (referents_seen contents version) (spans_seen contents version) is.are are.are ∙ sym are.is

-- the same contents have the same states
pub same_state : (version : ℕ) (one other : Contents) (state : State) → SaysTheSame one other → IsStateAt version one state → IsStateAt version other state
same_state version one other state same is = record {
  definitions = is.definitions;
  are = subst (λ (c : CatalogueItems). AreDefinitionsAt version c is.definitions) same.definitions is.are;
  is = is.is
      ∙ ap (λ (referents : ℕ → Names ℕ). state_from is.definitions referents (spans_seen one version) (record { changes = version; cursors = no_cursors })) (same_referents one other same version)
      ∙ ap (λ (spans : ℕ → ℕ → List Stretch). state_from is.definitions (referents_seen other version) spans (record { changes = version; cursors = no_cursors })) (same_spans one other same version);
}

-- what is said of pages
abbrev pub FileHoldsOne : Type 0
FileHoldsOne = (map : PageMap) (one other : Contents) → HoldsAll map one → HoldsAll map other → SameContents one other

module _ (says : LineSaysText) (alone : TextSaysOne) (one_thing : FileHoldsOne) where
  pub pages_one : (pages : PageMap) (contents others : Contents) (one other : State) → StandsFor pages contents one → StandsFor pages others other → one ≡ other
  pages_one pages contents others one other is are =
      let same = one_thing pages contents others is.holds are.holds in
      let accepted : contents.directory.accepted ≡ others.directory.accepted = ap (λ d. d.accepted) same.directory in
      contents_one says alone others.directory.accepted others one other
      (subst (λ (version : ℕ). IsStateAt version others one) accepted (same_state contents.directory.accepted contents others one (says_same contents others same) is.is))
      are.is

-- The steps by which views are entered: widened, checked beside one another, and then as they are written.
use Rattle.std.specs.Prelude.{◌≡◌, ◌⊎◌, ℕ, true, List, Result, Ok, IfErr}
use Rattle.std.specs.FinMap as names
use Rattle.std.specs.List.{AllByRecursion, AllZip, list_all}
use Rattle.rs_catalog.specs.Definitions as catalog
use Rattle.rs_catalog.specs.Definitions.{Definitions}
use Rattle.rs_catalog_meaning.specs.Meaning.{AreInOrder}
use Rattle.rs_catalog_pages.specs.Items.{ViewItem}
use Rattle.rs_facts.specs.Fact.{Name, Names}
use Rattle.rs_facts.specs.Query.{Query}
use Rattle.rs_machine.specs.Checking.{checked}
use Rattle.rs_machine.specs.Lawful.{widened}
use Rattle.rs_machine.specs.Opening.{windows_in}
use Rattle.rs_machine.specs.State.{State}
use Rattle.rs_refusal.specs.declared.refusal.Refusal.{Refusal}
use Rattle.rs_file_meaning.specs.States.{HasLine, IsViewOf}
use Rattle.rs_refusal.specs.declared.refusal.Refusal.TheVariants as refusal
use Rattle.rs_syntax.specs.QueryView.{query_tree}
use Rattle.rs_syntax.specs.Sound.{IsName, IsQuery}
use Rattle.rs_syntax.specs.Tree.{QueryTree}
use Rattle.rs_stored_catalog.specs.Windows.{window_there}

-- ---- views of a file

-- each has a name that a line can say, and the names rise
pub record AreListedViews (views : List ViewItem) : Type 0 where
  pub in_order : AreInOrder (λ (view : ViewItem). view.name) views
  pub named : AllByRecursion (λ (view : ViewItem). IsName view.name) views

-- some line defines the view by this query
abbrev pub IsQueryOf : ViewItem → QueryTree → Type 0
IsQueryOf view query = HasLine view.name query view.text

-- ---- what is entered

-- a view's query with each window as wide as its route
pub record IsWidenedOf (view : ViewItem) (entry : Name × catalog.ViewItem) : Type 0 where
  pub named : entry.0 ≡ view.name
  pub query : QueryTree
  pub defined : IsQueryOf view query
  pub is : query_tree entry.1.query ≡ widened query

-- what the windows of the query name is there
abbrev pub AreWindowsThere : Definitions → (ℕ → Names ℕ) → QueryTree → Type 0
AreWindowsThere definitions referents_on query = list_all (window_there definitions referents_on) (windows_in query) ≡ true

-- a view as it is written, whose windows name what is there
pub record IsWrittenOf (definitions : Definitions) (referents_on : ℕ → Names ℕ) (view : ViewItem) (entry : Name × catalog.ViewItem) : Type 0 where
  pub is : IsViewOf view entry
  pub sound : IsQuery (query_tree entry.1.query)
  pub windows : AreWindowsThere definitions referents_on (query_tree entry.1.query)

-- these views are there, each so, and no other; all else is as it was
pub record AreEntered (IsSo : ViewItem → Name × catalog.ViewItem → Type 0) (listed : List ViewItem) (old new : Definitions) : Type 0 where
  pub views : AllZip IsSo listed (names.entries new.views)
  pub others : new ≡ record old { views = new.views }

-- ---- checks

-- the query passes its checks in this state
abbrev pub PassesIn : State → QueryTree → Type 0
PassesIn state query = (made : Query) × (checked state query ≡ Ok made)

-- each view's query does
abbrev pub AllPassIn : State → Definitions → Type 0
AllPassIn state definitions = AllByRecursion (λ (entry : Name × catalog.ViewItem). PassesIn state (query_tree entry.1.query)) (names.entries definitions.views)

-- ---- refusals

-- memory is wanting, or the file is damaged
abbrev pub RefusesViews : {A : Type 0} → Result A Refusal → Type 0
RefusesViews result = IfErr result (λ why. (why ≡ refusal.OutOfMemory) ⊎ (why ≡ refusal.DamagedFile))

-- What is dumped of a state of the machine, and what is a dump of it.
use Rattle.std.specs.Prelude.{◌≡◌, ℕ, Bool, false, List, [], Option, Some}
use Rattle.std.specs.FinMap as names
use Rattle.std.specs.Io.KnownBytes.{Appends}
use Rattle.rs_catalog.specs.Definitions.{Definitions, Numbered, Rest, RouteItem, TableItem, ViewItem, state_from}
use Rattle.rs_catalog.specs.Referents.{HeldReferents, referents_on}
use Rattle.rs_dump.specs.Alignments.{too_long}
use Rattle.rs_dump.specs.Shown.{Shown}
use Rattle.rs_dump.specs.Written.{lines_bytes}
use Rattle.rs_dump_laws.specs.Dump.{IsDumpOf, ViewsPass}
use Rattle.rs_dump_laws.specs.Kept.{IsKeeping, Keeping, kept_of}
use Rattle.rs_dump_lines.specs.Texts.{HaveLines}
use Rattle.rs_facts.specs.Fact.{Name}
use Rattle.rs_facts.specs.Runs.{Stretch}
use Rattle.rs_facts.specs.Spans.{AreAllRunsOf, places_of}
use Rattle.rs_machine.specs.Lawful.{Each, IsLawful}
use Rattle.rs_machine.specs.Request.{Asks, command}
use Rattle.rs_machine.specs.State.{State}
use Rattle.rs_syntax.specs.QueryView.{query_tree}
use Rattle.rs_syntax.specs.Tree.{CommandTree, define_view}

-- some line of a session defines a view of this name with its query and its text
abbrev pub HasDefiningLine : Name → ViewItem → Type 0
HasDefiningLine name view = (line : List ℕ) × (session : ℕ) × Asks line (command session (define_view name (query_tree view.query) view.text))

-- The lawful state has these definitions and these referents. On each of its routes the spans that are shown of a table are all maximal
-- runs of its facts, each once.
pub record IsStateOf (definitions : Definitions) (held : Numbered HeldReferents) (shown : Shown) (state : State) : Type 0 where
  pub lawful : IsLawful state
  pub spans_on : ℕ → ℕ → List Stretch
  pub rest : Rest
  pub is : state ≡ state_from definitions (λ (route : ℕ). referents_on held route) spans_on rest
  pub spans : (name : Name) (table : TableItem) → names.get definitions.tables name ≡ Some table
      → (on : Name) (route : RouteItem) → names.get definitions.routes on ≡ Some route
      → AreAllRunsOf table.kind (places_of (spans_on table.number route.number)) (shown table.number table.kind route.number)
  pub views : Each definitions.views HasDefiningLine

-- Nothing of the state has to be left out: no alignment is too long for a line, and each view passes now the checks of its DEFINE line,
-- asked of the whole state.
pub record CanBeDumpedWhole (state : State) : Type 0 where
  pub alignments : too_long (names.entries state.alignments) ≡ []
  pub views : ViewsPass state

-- The output grew by the lines of a dump of the state without some views and alignments; where nothing is said to be left out, of the
-- whole state.
pub record IsDumped (state : State) (lacks : Bool) (before after : Option (List ℕ)) : Type 0 where
  pub texts : Name → List ℕ
  pub keeping : Keeping
  pub keeps : IsKeeping state keeping
  pub commands : List CommandTree
  pub is : IsDumpOf texts (kept_of keeping state) commands
  pub lines : HaveLines texts (kept_of keeping state)
  pub put : Appends before after (lines_bytes commands)
  pub whole : lacks ≡ false → kept_of keeping state ≡ state

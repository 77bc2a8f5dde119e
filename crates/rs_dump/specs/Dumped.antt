-- What is written of what is held: all sections, or those of one table.
use Rattle.std.specs.Prelude.{◌≡◌, ◌≢◌, ◌⊎◌, ℕ, Bool, false, true, if◌then◌else◌, List, [], ◌∷◌, ◌++◌, map, Option, Some}
use Rattle.std.specs.FinMap as names
use Rattle.std.specs.Io.KnownBytes.{Appends}
use Rattle.rs_catalog.specs.Definitions.{Definitions, Numbered, TableItem, ViewItem}
use Rattle.rs_catalog.specs.Referents.{HeldReferents}
use Rattle.rs_dump.specs.Alignments.{fitting, too_long}
use Rattle.rs_dump.specs.Sections.{index_commands, named_route, named_table, referent_commands, route_commands, row_commands, rows_of_table, table_commands, table_of, table_seen}
use Rattle.rs_dump.specs.Shown.{Shown}
use Rattle.rs_dump.specs.Views.{AreInTurn, HasAllThatPass, HasAllViews, LacksSome, view_of}
use Rattle.rs_dump.specs.Stopping.{HasNoTable}
use Rattle.rs_dump.specs.Written.{WroteFront, line_bytes, lines_bytes}
use Rattle.rs_dump.specs.declared.held.NamedTable.{NamedTable}
use Rattle.rs_dump.specs.declared.stop.Stop.{Stop}
use Rattle.rs_dump.specs.declared.stop.Stop.TheVariants.{Refused}
use Rattle.rs_dump_laws.specs.Dump.{alignment_command}
use Rattle.rs_facts.specs.Fact.{Name}
use Rattle.rs_refusal.specs.declared.refusal.Refusal.TheVariants.{NoSuchName}
use Rattle.rs_syntax.specs.Tree.{CommandTree}

-- ---- the sections

abbrev pub first_commands : Definitions → Numbered HeldReferents → List CommandTree
first_commands definitions referents = route_commands definitions ++ (referent_commands definitions referents ++ table_commands definitions)

abbrev pub all_rows : Definitions → Shown → List CommandTree
all_rows definitions shown = row_commands (map named_table (names.entries definitions.tables)) (map named_route (names.entries definitions.routes)) shown

abbrev pub last_commands : Definitions → List (Name × ViewItem) → List CommandTree
last_commands definitions views = map alignment_command (fitting (names.entries definitions.alignments)) ++ (map view_of views ++ index_commands definitions)

-- ---- what was written

-- Alignments that fit, views in turn and indexes. No view is left out that could be written, and something is said to be left out just
-- where something is.
pub record WroteLast (definitions : Definitions) (referents : Numbered HeldReferents) (lacks : Bool) (before after : Option (List ℕ)) : Type 0 where
  pub views : List (Name × ViewItem)
  pub in_turn : AreInTurn (record { definitions = definitions; referents = referents; left_out = map (λ entry. entry.0) (too_long (names.entries definitions.alignments)) }) [] views
  pub put : Appends before after (lines_bytes (last_commands definitions views))
  pub all_alignments : lacks ≡ false → too_long (names.entries definitions.alignments) ≡ []
  pub all_views : lacks ≡ false → HasAllViews definitions (map (λ view. view.0) views)
  pub passing : HasAllThatPass (record { definitions = definitions; referents = referents; left_out = map (λ entry. entry.0) (too_long (names.entries definitions.alignments)) })
      (map (λ view. view.0) views)
  pub lacking : lacks ≡ true → (too_long (names.entries definitions.alignments) ≢ []) ⊎ LacksSome definitions (map (λ view. view.0) views)

-- All sections, or all but the rows.
pub record WroteAll (definitions : Definitions) (referents : Numbered HeldReferents) (shown : Shown) (omits_rows lacks : Bool) (before after : Option (List ℕ)) : Type 0 where
  pub views : List (Name × ViewItem)
  pub in_turn : AreInTurn (record { definitions = definitions; referents = referents; left_out = map (λ entry. entry.0) (too_long (names.entries definitions.alignments)) }) [] views
  pub put : Appends before after (lines_bytes (first_commands definitions referents ++ ((if omits_rows then [] else all_rows definitions shown) ++ last_commands definitions views)))
  pub all_alignments : lacks ≡ false → too_long (names.entries definitions.alignments) ≡ []
  pub all_views : lacks ≡ false → HasAllViews definitions (map (λ view. view.0) views)
  pub passing : HasAllThatPass (record { definitions = definitions; referents = referents; left_out = map (λ entry. entry.0) (too_long (names.entries definitions.alignments)) })
      (map (λ view. view.0) views)
  pub lacking : lacks ≡ true → (too_long (names.entries definitions.alignments) ≢ []) ⊎ LacksSome definitions (map (λ view. view.0) views)

-- The table of this name is there, and its definition was written.
pub record PutsTable (definitions : Definitions) (name : Name) (before after : Option (List ℕ)) (found : NamedTable) : Type 0 where
  pub item : TableItem
  pub there : names.get definitions.tables name ≡ Some item
  pub seen : table_seen found ≡ named_table (name, item)
  pub put : Appends before after (line_bytes (table_of (name, item)))

-- Its definition and its rows, or its definition alone.
pub record WroteTable (definitions : Definitions) (shown : Shown) (omits_rows : Bool) (name : Name) (before after : Option (List ℕ)) : Type 0 where
  pub item : TableItem
  pub there : names.get definitions.tables name ≡ Some item
  pub put : Appends before after (lines_bytes (table_of (name, item)
      ∷ (if omits_rows then [] else rows_of_table (named_table (name, item)) (map named_route (names.entries definitions.routes)) shown)))

-- ---- what was written where it stopped

-- a front of alignments that fit, views in turn and indexes
pub record FrontOfLast (definitions : Definitions) (referents : Numbered HeldReferents) (stop : Stop) (before after : Option (List ℕ)) : Type 0 where
  pub views : List (Name × ViewItem)
  pub in_turn : AreInTurn (record { definitions = definitions; referents = referents; left_out = map (λ entry. entry.0) (too_long (names.entries definitions.alignments)) }) [] views
  pub front : WroteFront stop (lines_bytes (last_commands definitions views)) before after

-- a front of all sections, or of all but the rows
pub record FrontOfAll (definitions : Definitions) (referents : Numbered HeldReferents) (shown : Shown) (omits_rows : Bool) (stop : Stop) (before after : Option (List ℕ)) : Type 0 where
  pub views : List (Name × ViewItem)
  pub in_turn : AreInTurn (record { definitions = definitions; referents = referents; left_out = map (λ entry. entry.0) (too_long (names.entries definitions.alignments)) }) [] views
  pub front : WroteFront stop (lines_bytes (first_commands definitions referents ++ ((if omits_rows then [] else all_rows definitions shown) ++ last_commands definitions views))) before after

-- there is no table of this name, and nothing was written
pub record MissesTable (definitions : Definitions) (name : Name) (stop : Stop) (before after : Option (List ℕ)) : Type 0 where
  pub is : stop ≡ Refused NoSuchName
  pub none : HasNoTable definitions name
  pub kept : after ≡ before

-- a front of the lines that are told of the table of this name
pub record FrontInTable (definitions : Definitions) (lines : TableItem → List CommandTree) (name : Name) (stop : Stop) (before after : Option (List ℕ)) : Type 0 where
  pub item : TableItem
  pub there : names.get definitions.tables name ≡ Some item
  pub front : WroteFront stop (lines_bytes (lines item)) before after

-- there is no such table; or a front of its definition and its rows, or of its definition alone
abbrev pub FrontOfTable : Definitions → Shown → Bool → Name → Stop → Option (List ℕ) → Option (List ℕ) → Type 0
FrontOfTable definitions shown omits_rows name stop before after = MissesTable definitions name stop before after ⊎ FrontInTable definitions (λ item. table_of (name, item)
    ∷ (if omits_rows then [] else rows_of_table (named_table (name, item)) (map named_route (names.entries definitions.routes)) shown)) name stop before after

-- What is written of the definitions, referents and spans of a lawful state is a dump of it without what was left out.
use Rattle.std.proofs.Common.{◌≡◌, ◌∙◌, ℕ, Bool, false, List, [], ◌++◌, Option, ap, map, subst, sym}
use Rattle.rs_catalog.specs.Definitions.{Definitions, Numbered}
use Rattle.rs_catalog.specs.Referents.{HeldReferents}
use Rattle.rs_dump.specs.Dumped.{WroteAll, all_rows, first_commands, last_commands}
use Rattle.rs_dump.specs.Sections.{referent_commands, route_commands, table_commands}
use Rattle.rs_dump.specs.Shown.{Shown}
use Rattle.rs_dump.specs.States.{IsDumped, IsStateOf}
use Rattle.rs_dump_laws.specs.Dump.{alignment_command, commands_of}
use Rattle.rs_dump_laws.specs.Kept.{IsKeeping, Keeping, kept_of}
use Rattle.rs_dump_laws.specs.Listed.{AreRunsOfTables, listed_parts}
use Rattle.rs_dump_laws.specs.Parts.{AreAll, ArePartsOf, IsUnder, NameViewsBefore, Parts}
use Rattle.rs_facts.specs.Fact.{Name}
use Rattle.rs_facts.specs.Runs.{Stretch}
use Rattle.rs_machine.specs.Lawful.{IsLawful}
use Rattle.rs_machine.specs.State.{State}
use Rattle.rs_syntax.specs.Tree.{CommandTree, QueryTree}
use Rattle.rs_dump.proofs.InTurn.{name_before, queried}
use Rattle.rs_dump.proofs.KeptNames.{all_fit, kept_fit}
use Rattle.rs_dump.proofs.Mapped.{regrouped}
use Rattle.rs_dump.proofs.StateCommands.{same_indexes, same_referents, same_routes, same_tables, state_of}
use Rattle.rs_dump.proofs.StateRows.{runs_of_tables, same_rows, spans_named}
use Rattle.rs_dump.proofs.WrittenViews.{all_written, have_lines, keeping, keeps, known_in, same_views, texts_of, written_all}

-- what the laws of a dump say
abbrev KeepsLawful : Type 0
KeepsLawful = (state : State) (keeping : Keeping) → IsLawful state → IsKeeping state keeping → IsLawful (kept_of keeping state)

abbrev ListsAll : Type 0
ListsAll = (state : State) (spans : Name → Name → List Stretch) (views : List (Name × QueryTree)) → IsLawful state → AreRunsOfTables state spans → AreAll (IsUnder state.views) views → NameViewsBefore views
    → ArePartsOf state (listed_parts state spans views)

module _ (definitions : Definitions) (held : Numbered HeldReferents) (shown : Shown) (state : State) (of : IsStateOf definitions held shown state) (lacks : Bool) (before after : Option (List ℕ))
    (wrote : WroteAll definitions held shown false lacks before after) where
  abbrev the_state : State
  the_state = state_of definitions held of.spans_on of.rest

  abbrev kept_ones : Keeping
  kept_ones = keeping definitions held wrote.views wrote.in_turn

  abbrev kept : State
  kept = kept_of kept_ones the_state

  abbrev parts : Parts
  parts = listed_parts kept (spans_named definitions shown) (map queried wrote.views)

  abbrev written : List CommandTree
  written = first_commands definitions held ++ (all_rows definitions shown ++ last_commands definitions wrote.views)

  -- section by section
  same_commands : commands_of (texts_of definitions) kept parts ≡ written
  same_commands =
      let routes = same_routes definitions held of.spans_on of.rest in
      let referents = same_referents definitions held of.spans_on of.rest in
      let tables = same_tables definitions held of.spans_on of.rest in
      let rows = same_rows definitions held shown of.spans_on of.rest in
      let alignments = ap (map alignment_command) (kept_fit definitions.alignments) in
      let views = same_views definitions held wrote.views wrote.in_turn in
      let indexes = same_indexes definitions held of.spans_on of.rest in
      (λ i. routes i ++ (referents i ++ (tables i ++ (rows i ++ (alignments i ++ (views i ++ indexes i))))))
      ∙ sym (regrouped (route_commands definitions) (referent_commands definitions held) (table_commands definitions)
      (all_rows definitions shown ++ last_commands definitions wrote.views))

  -- nothing is left out where nothing is said to be
  nothing_lacks : lacks ≡ false → kept ≡ the_state
  nothing_lacks none =
      let views = all_written definitions held wrote.views wrote.in_turn (wrote.all_views none) in
      let alignments = all_fit definitions.alignments (wrote.all_alignments none) in
      λ i. record the_state { views = views i; alignments = alignments i }

  module _ (keeps_lawful : KeepsLawful) (lists_all : ListsAll) where
    the_lawful : IsLawful the_state
    the_lawful = subst IsLawful of.is of.lawful

    is_keeping : IsKeeping the_state kept_ones
    is_keeping = keeps definitions held wrote.views wrote.in_turn of.spans_on of.rest

    are_parts : ArePartsOf kept parts
    are_parts =
        lists_all kept (spans_named definitions shown) (map queried wrote.views) (keeps_lawful the_state kept_ones the_lawful is_keeping)
        (runs_of_tables definitions held shown of.spans_on of.rest of.spans)
        (written_all definitions held wrote.views wrote.in_turn)
        (name_before (known_in definitions held) [] wrote.views wrote.in_turn)

    the_dump : IsDumped the_state lacks before after
    the_dump = record {
      texts = texts_of definitions;
      keeping = kept_ones;
      keeps = is_keeping;
      commands = written;
      is = record { parts = parts; are_parts = are_parts; are = sym same_commands };
      lines = have_lines definitions held wrote.views wrote.in_turn of.spans_on of.rest of.views;
      put = wrote.put;
      whole = nothing_lacks;
    }

    pub is_dumped : IsDumped state lacks before after
    is_dumped = subst (λ (s : State). IsDumped s lacks before after) (sym of.is) the_dump

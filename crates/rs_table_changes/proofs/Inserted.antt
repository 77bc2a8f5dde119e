-- Insertion into a table in pages.
use Rattle.std.proofs.Common.{◌≡◌, ◌+◌, ◌-◌, ◌<◌, ◌≤◌, ◌∙◌, ℕ, min, inl, inr, List, [], filter, sym, subst, arith}
use Rattle.std.specs.List.{AllByRecursion, AllZip}
use Rattle.rs_attr.proofs.Placing.{later_table}
use Rattle.rs_attr.specs.Tables.{BecomesTable, ChangesTable, HoldsTable, IndexState, all_of}
use Rattle.rs_cell_versions.specs.Versioned.{Standing}
use Rattle.rs_cell_versions.specs.declared.cell.TheConstants.{LIVING}
use Rattle.rs_facts.proofs.Rows.{same_row}
use Rattle.rs_facts.specs.Runs.{Stretch}
use Rattle.rs_facts.specs.Spans.{IsPlaced, gap_of}
use Rattle.rs_page_owners.specs.Counts.{◌&◌}
use Rattle.rs_page_owners.specs.Owners.{Shares}
use Rattle.rs_page_owners.proofs.Moving.{moves_trans, same_pages-moves}
use Rattle.rs_pages.specs.PageMap.{PageMap, SamePages}
use Rattle.rs_value.specs.declared.column.ColumnType.{ColumnType}
use Rattle.rs_value.specs.declared.column.Kind.{Kind}
use Rattle.rs_versioned.specs.Events.{Event, SaysEvent, is_visible, kept_events, spans_at}
use Rattle.rs_versioned.specs.Records.{HoldsRecords}
use Rattle.rs_versioned.proofs.KeptRecords.{events_are_kept}
use Rattle.rs_versioned.proofs.Present.{IsDatedRecord, held_dated}
use Rattle.rs_versioned.proofs.RunsByVersion.{spans_level}
use Rattle.rs_table_changes.specs.Chains.{ComeAll, GivesWay, GivesWayAt}
use Rattle.rs_table_changes.specs.Changes.{Inserts, ThenCleared}
use Rattle.rs_table_changes.specs.Inner.{EndsSo, HasThese}
use Rattle.rs_table_changes.specs.Picked.{IsHeld, IsWidened, Joins, passing}
use Rattle.rs_table_changes.specs.Seen.{GivenWayIsSeen}
use Rattle.rs_table_changes.specs.Turns.{EventsTurn}
use Rattle.rs_table_changes.proofs.Finding.{Finds, has_none, has_passing, live_gone, small_each}
use Rattle.rs_table_changes.proofs.Inserting.{InsertsHere, held_now, is_one_met, met_are, one_met_on, widened}
use Rattle.rs_table_changes.proofs.Tables.{same_shares, same_table}
use Rattle.rs_table_changes.proofs.Taken.{cleared_as, gave_way, none_cleared}
use Rattle.rs_table_changes.proofs.Turning.{AreApart, events_apart, none_turned, turned}

module _ (types : List ColumnType) (kind : Kind) (version route : ℕ) (below : version < LIVING) (span : Stretch) (placed : IsPlaced kind span)
    (from upto : ℕ) (reaches : from ≡ span.lo - gap_of kind) (ends : upto ≡ min (span.hi + gap_of kind) 4294967295)
    (old : PageMap) (was : Standing) (found gone : List (List ℕ)) (come : List Stretch) (count : ℕ)
    (finds : Finds types old was (is_visible version route from upto) found) (joins : Joins types span found gone come count) where
  dated : (accepted : ℕ) (events : List Event) (used : ℕ → ℕ) → HoldsRecords (kept_events types) old was accepted events used → AllByRecursion (IsDatedRecord (kept_events types) accepted) events
  dated accepted events used holds = held_dated (kept_events types) (events_are_kept types) old was accepted events used holds

  -- the events of the cells, among those of a table
  pub are_there : (accepted : ℕ) (events : List Event) (used : ℕ → ℕ) → accepted ≤ version → HoldsRecords (kept_events types) old was accepted events used → HasThese types gone events
  are_there accepted events used upto_now holds = elim (joins.each (filter (is_visible version route from upto) events) (finds events used accepted holds)) [
    | inl held ↦ has_none types gone events held.none_gone
    | inr wider ↦
        has_passing types version route accepted upto_now gone events (dated accepted events used holds) (is_one_met version route from upto span.row)
        (one_met_on version route from upto span.row) (subst (AllZip (SaysEvent types) gone) (met_are version route from upto span.row events) wider.say)
  ]

  module _ (mid new : PageMap) (same : SamePages mid old) (is : Standing) (were are : List IndexState) (law : GivenWayIsSeen)
      (oldest at : ℕ) (ends_so : EndsSo at version oldest) (made : (gs : List Event) → AllZip (SaysEvent types) gone gs → ChangesTable types mid new was is were are version version (GivesWayAt types at version route gs come)) where
    module _ (accepted : ℕ) (before : accepted < version) (events : List Event) (used : ℕ → ℕ) (uses : List (ℕ → ℕ)) (others : ℕ → ℕ) (holds : HoldsTable types old was were accepted events used uses)
        (shares : Shares old (used & all_of uses & others)) where
      level : (other : ℕ) → spans_at version other events ≡ spans_at accepted other events
      level other = spans_level types old was accepted events used holds.records version other (omega (arith, before)) below

      fit : AllByRecursion (λ (one : Event). one.hi < 4294967296) events
      fit = small_each types holds.records.cells events holds.records.say

      apart : AreApart events
      apart = events_apart types holds.records.cells events holds.records.holds.tree.ascends holds.records.say

      -- so they have changed, and what was taken out was cleared
      abbrev Becomes : List Event → List Event → Type 0
      Becomes = ThenCleared (min oldest version) types (Inserts kind accepted version route span count)

      -- the change as it is said of the events
      become : (change : List Event → List Event → Type 0) → ChangesTable types mid new was is were are version version change
          → ((now : List Event) → change events now → Becomes events now) → BecomesTable types old new (used & all_of uses) is are version (Becomes events)
      become change changes so =
          let later = later_table types old was were accepted version events used uses (omega (arith, before)) holds in
          let step = changes.each events used uses others (same_table types old mid same was were version events used uses others shares later) (same_shares types old mid same was were (used & all_of uses) others shares) in
          record {
            events = step.events;
            after = step.after;
            afters = step.afters;
            holds = step.holds;
            moves = moves_trans old mid new (used & all_of uses) (used & all_of uses) (step.after & all_of step.afters) (same_pages-moves old mid (used & all_of uses) same) step.moves;
            changed = so step.events step.changed;
          }

      whole : (gs : List Event) (now : List Event) → AllByRecursion (λ (one : Event). one.died ≡ LIVING) gs → GivesWay types version route gs come events now
          → EventsTurn version events now → InsertsHere kind accepted version route span count events now → Inserts kind accepted version route span count events now
      whole gs now live way turns here = record {
        changes = record { live = λ oldest first runs. law types version route gs come events now below live way kind oldest accepted before runs; elsewhere = here.elsewhere; turns = turns };
        facts = here.facts;
        runs = here.runs;
        within = here.within;
        counted = here.counted;
      }

      -- nothing has changed
      nothing : (none : come ≡ []) (now : List Event) → GivesWayAt types at version route [] come events now → now ≡ events
      nothing none now way = subst (λ l. ComeAll route version l way.between now) none way.came ∙ way.ended

      if_held : IsHeld span (passing (λ other. same_row other span.row) (filter (is_visible version route from upto) events)) gone come count
          → BecomesTable types old new (used & all_of uses) is are version (Becomes events)
      if_held held =
          let here = subst (λ l. IsHeld span l gone come count) (met_are version route from upto span.row events) held in
          become (GivesWayAt types at version route [] come) (made [] (subst (λ l. AllZip (SaysEvent types) l []) (sym held.none_gone) tt)) (λ now way.
          none_cleared (min oldest version) types (Inserts kind accepted version route span count) events now
          (whole [] now tt (record { between = way.between; ended = way.ended; came = way.came }) (subst (EventsTurn version events) (sym (nothing held.none_come now way)) (none_turned version events))
          (held_now types kind version route below accepted before events now (dated accepted events used holds.records) fit level span placed from upto reaches ends gone come count here
          (nothing held.none_come now way))))

      if_widened : IsWidened types span (passing (λ other. same_row other span.row) (filter (is_visible version route from upto) events)) gone come count
          → BecomesTable types old new (used & all_of uses) is are version (Becomes events)
      if_widened wider =
          let met = filter (is_one_met version route from upto span.row) events in
          let here = subst (λ l. IsWidened types span l gone come count) (met_are version route from upto span.row events) wider in
          become (GivesWayAt types at version route met come) (made met here.say) (λ now at_last.
          let live = live_gone types version route accepted (omega (arith, before)) events (dated accepted events used holds.records) (is_one_met version route from upto span.row) (one_met_on version route from upto span.row) in
          cleared_as (min oldest version) types (GivesWay types version route met come) (Inserts kind accepted version route span count) events now (λ between way.
          whole met between live way (turned types version below route accepted before events between (dated accepted events used holds.records) apart (is_one_met version route from upto span.row) live come way)
          (widened types kind version route below accepted before events between (dated accepted events used holds.records) fit level span placed from upto reaches ends
          (subst (λ l. GivesWay types version route met l events between) here.is way) count here.counted))
          (gave_way types version below route accepted before events now (dated accepted events used holds.records) apart (is_one_met version route from upto span.row) live gone here.say come oldest at ends_so at_last))

      becomes : BecomesTable types old new (used & all_of uses) is are version (Becomes events)
      becomes = elim (joins.each (filter (is_visible version route from upto) events) (finds events used accepted holds.records)) [ inl held ↦ if_held held | inr wider ↦ if_widened wider ]

    pub inserted : (accepted : ℕ) → accepted < version → ChangesTable types old new was is were are accepted version (ThenCleared (min oldest version) types (Inserts kind accepted version route span count))
    inserted accepted before = record { each = λ events used uses others holds shares. becomes accepted before events used uses others holds shares }

-- Removal from a table in pages.
use Rattle.std.proofs.Common.{◌≡◌, ◌<◌, ◌≤◌, ◌∙◌, ℕ, List, map, filter, min, ap, subst, arith}
use Rattle.std.specs.List.{AllByRecursion, AllZip}
use Rattle.std.specs.Prelude.{Option}
use Rattle.std.proofs.lemmas.List.Sorted.{IsPermutation-refl}
use Rattle.rs_attr.proofs.Placing.{later_table}
use Rattle.rs_attr.specs.Tables.{BecomesTable, ChangesTable, HoldsTable, IndexState, all_of}
use Rattle.rs_cell_versions.specs.Versioned.{Standing}
use Rattle.rs_cell_versions.specs.declared.cell.TheConstants.{LIVING}
use Rattle.rs_spans.specs.Removal.{goes_by}
use Rattle.rs_facts.specs.Runs.{Stretch}
use Rattle.rs_facts.specs.declared.condition.Condition.{Condition}
use Rattle.rs_page_owners.specs.Counts.{◌&◌}
use Rattle.rs_page_owners.specs.Owners.{Shares}
use Rattle.rs_page_owners.proofs.Moving.{moves_trans, same_pages-moves}
use Rattle.rs_pages.proofs.Stores.{SamePages-refl}
use Rattle.rs_pages.specs.PageMap.{PageMap, SamePages}
use Rattle.rs_value.specs.declared.column.ColumnType.{ColumnType}
use Rattle.rs_versioned.specs.Events.{Event, SaysEvent, is_visible, kept_events, span_of, spans_at}
use Rattle.rs_versioned.specs.Records.{HoldsRecords}
use Rattle.rs_versioned.proofs.KeptRecords.{events_are_kept}
use Rattle.rs_versioned.proofs.Present.{IsDatedRecord, held_dated}
use Rattle.rs_versioned.proofs.RunsByVersion.{spans_level}
use Rattle.rs_table_changes.specs.Chains.{GivesWay, GivesWayAt}
use Rattle.rs_table_changes.specs.Changes.{Removes, ThenCleared}
use Rattle.rs_table_changes.specs.Inner.{EndsSo, HasThese}
use Rattle.rs_table_changes.specs.Picked.{Takes, outside_all, shared_by}
use Rattle.rs_table_changes.specs.Seen.{GivenWayIsSeen}
use Rattle.rs_table_changes.proofs.Finding.{Finds, has_passing, live_gone}
use Rattle.rs_table_changes.proofs.Removing.{gone_are, is_one_gone, nothing_removed, one_gone_on, removed}
use Rattle.rs_table_changes.proofs.Tables.{same_shares, same_table}
use Rattle.rs_table_changes.proofs.Taken.{cleared_as, gave_way, none_cleared}
use Rattle.rs_table_changes.proofs.Turning.{events_apart, none_turned, turned}

module _ (types : List ColumnType) (version route : ℕ) (below : version < LIVING) (lo hi : ℕ) (goes : Option Condition) (old : PageMap) (was : Standing) where
  dated : (accepted : ℕ) (events : List Event) (used : ℕ → ℕ) → HoldsRecords (kept_events types) old was accepted events used → AllByRecursion (IsDatedRecord (kept_events types) accepted) events
  dated accepted events used holds = held_dated (kept_events types) (events_are_kept types) old was accepted events used holds

  level : (accepted : ℕ) (events : List Event) (used : ℕ → ℕ) → accepted < version → HoldsRecords (kept_events types) old was accepted events used → (other : ℕ) → spans_at version other events ≡ spans_at accepted other events
  level accepted events used before holds other = spans_level types old was accepted events used holds version other (omega (arith, before)) below

  -- ---- where there is nothing between the ends, nothing changes

  pub none_removed : (oldest : ℕ) (were : List IndexState) → hi ≤ lo → (accepted : ℕ) → accepted < version → ChangesTable types old old was was were were accepted version (ThenCleared (min oldest version) types (Removes accepted version route lo hi goes 0))
  none_removed oldest were empty accepted before = record {
    each = λ events used uses others holds shares.
        let here = nothing_removed types version route below accepted before events events (dated accepted events used holds.records) (level accepted events used before holds.records) lo hi (goes_by goes) empty in
        record {
          events = events;
          after = used;
          afters = uses;
          holds = later_table types old was were accepted version events used uses (omega (arith, before)) holds;
          moves = same_pages-moves old old (used & all_of uses) (SamePages-refl old);
          changed = none_cleared (min oldest version) types (Removes accepted version route lo hi goes 0) events events (record {
            changes = λ kind. record { live = λ oldest first runs. record { each = λ at low high. IsPermutation-refl _ }; elsewhere = here.elsewhere; turns = none_turned version events };
            facts = here.facts;
            runs = here.runs;
            within = here.within;
            counted = here.counted;
          });
        };
  }

  module _ (found gone : List (List ℕ)) (come : List Stretch) (count : ℕ) (finds : Finds types old was (is_visible version route lo hi) found) (takes : Takes types lo hi (goes_by goes) found gone come count) where
    going_of : List Event → List Event
    going_of events = filter (is_one_gone version route lo hi (goes_by goes)) events

    say_going : (accepted : ℕ) (events : List Event) (used : ℕ → ℕ) → HoldsRecords (kept_events types) old was accepted events used
        → AllZip (SaysEvent types) gone (filter (is_one_gone version route lo hi (goes_by goes)) events)
    say_going accepted events used holds =
        subst (AllZip (SaysEvent types) gone) (gone_are version route lo hi (goes_by goes) events) (takes.say (filter (is_visible version route lo hi) events) (finds events used accepted holds))

    -- the events of the cells, among those of a table
    pub are_there : (accepted : ℕ) (events : List Event) (used : ℕ → ℕ) → accepted ≤ version → HoldsRecords (kept_events types) old was accepted events used → HasThese types gone events
    are_there accepted events used upto holds =
        has_passing types version route accepted upto gone events (dated accepted events used holds) (is_one_gone version route lo hi (goes_by goes)) (one_gone_on version route lo hi (goes_by goes))
        (say_going accepted events used holds)

    module _ (some : lo < hi) (mid new : PageMap) (same : SamePages mid old) (is : Standing) (were are : List IndexState) (law : GivenWayIsSeen)
        (oldest at : ℕ) (ends_so : EndsSo at version oldest) (made : (gs : List Event) → AllZip (SaysEvent types) gone gs → ChangesTable types mid new was is were are version version (GivesWayAt types at version route gs come)) where
      -- so they have changed, and what was taken out was cleared
      abbrev Becomes : ℕ → List Event → List Event → Type 0
      Becomes accepted = ThenCleared (min oldest version) types (Removes accepted version route lo hi goes count)

      becomes : (accepted : ℕ) → accepted < version → (events : List Event) (used : ℕ → ℕ) (uses : List (ℕ → ℕ)) (others : ℕ → ℕ) → HoldsTable types old was were accepted events used uses
          → Shares old (used & all_of uses & others) → BecomesTable types old new (used & all_of uses) is are version (Becomes accepted events)
      becomes accepted before events used uses others holds shares =
          let these = filter (is_one_gone version route lo hi (goes_by goes)) events in
          let visible = filter (is_visible version route lo hi) events in
          let seen_now = finds events used accepted holds.records in
          let later = later_table types old was were accepted version events used uses (omega (arith, before)) holds in
          let step = (made these (say_going accepted events used holds.records)).each events used uses others (same_table types old mid same was were version events used uses others shares later)
          (same_shares types old mid same was were (used & all_of uses) others shares) in
          let left : come ≡ outside_all lo hi (map span_of these) = takes.is visible seen_now ∙ ap (λ l. outside_all lo hi (map span_of l)) (gone_are version route lo hi (goes_by goes) events) in
          let counted : count ≡ shared_by lo hi (map span_of these) = takes.counted visible seen_now ∙ ap (λ l. shared_by lo hi (map span_of l)) (gone_are version route lo hi (goes_by goes) events) in
          let live = live_gone types version route accepted (omega (arith, before)) events (dated accepted events used holds.records) (is_one_gone version route lo hi (goes_by goes)) (one_gone_on version route lo hi (goes_by goes)) in
          let apart = events_apart types holds.records.cells events holds.records.holds.tree.ascends holds.records.say in
          let went = gave_way types version below route accepted before events step.events (dated accepted events used holds.records) apart (is_one_gone version route lo hi (goes_by goes)) live
          gone (say_going accepted events used holds.records) come oldest at ends_so step.changed in
          record {
            events = step.events;
            after = step.after;
            afters = step.afters;
            holds = step.holds;
            moves = moves_trans old mid new (used & all_of uses) (used & all_of uses) (step.after & all_of step.afters) (same_pages-moves old mid (used & all_of uses) same) step.moves;
            changed = cleared_as (min oldest version) types (GivesWay types version route these come) (Removes accepted version route lo hi goes count) events step.events (λ between way.
                let here = removed types version route below accepted before events between (dated accepted events used holds.records) (level accepted events used before holds.records) lo hi (goes_by goes) some
                (subst (λ l. GivesWay types version route these l events between) left way) count counted in
                record {
                  changes = λ kind. record {
                    live = λ first upto runs. law types version route these come events between below live way kind first accepted before runs;
                    elsewhere = here.elsewhere;
                    turns = turned types version below route accepted before events between (dated accepted events used holds.records) apart (is_one_gone version route lo hi (goes_by goes)) live come way;
                  };
                  facts = here.facts;
                  runs = here.runs;
                  within = here.within;
                  counted = here.counted;
                }) went;
          }

      pub removed_in_pages : (accepted : ℕ) → accepted < version → ChangesTable types old new was is were are accepted version (Becomes accepted)
      removed_in_pages accepted before = record { each = λ events used uses others holds shares. becomes accepted before events used uses others holds shares }

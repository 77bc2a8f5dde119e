-- What lies in the pages of a table, as far as a change looks at it.
use Rattle.std.proofs.Common.{◌≡◌, ◌<◌, ◌≤◌, ◌==◌, ◌&&◌, ℕ, Bool, true, not, nat_le, nat_lt, inl, inr, List, [], ◌∷◌, filter, refl, sym, subst, arith}
use Rattle.std.proofs.lemmas.Bool.{and_parts, ltb-true}
use Rattle.std.proofs.lemmas.List.Sorted.{IsPermutation-filter_both, IsPermutation-refl}
use Rattle.std.specs.List.{AllByRecursion, AllZip}
use Rattle.rs_attr.specs.Tables.{IndexState, all_of}
use Rattle.rs_cell_versions.specs.Versioned.{Standing}
use Rattle.rs_cell_versions.specs.declared.cell.TheConstants.{LIVING}
use Rattle.rs_interval.specs.Finding.{event_form}
use Rattle.rs_page_owners.specs.Counts.{◌&◌}
use Rattle.rs_pages.specs.PageMap.{PageMap, SamePages}
use Rattle.rs_tree.specs.Tree.{IsNoTree}
use Rattle.rs_value.specs.declared.column.ColumnType.{ColumnType}
use Rattle.rs_versioned.specs.Events.{Event, SaysEvent, event_width, is_on, kept_events}
use Rattle.rs_versioned.specs.Records.{HoldsRecords}
use Rattle.rs_versioned.proofs.Present.{IsDatedRecord}
use Rattle.rs_table_changes.specs.Calls.{HoldsNoTableBy}
use Rattle.rs_table_changes.specs.Inner.{HasThese, HoldsNoTableWith}
use Rattle.rs_table_changes.specs.Picked.{SayNone}
use Rattle.rs_table_changes.proofs.Seeing.{all_kept}
use Rattle.rs_table_changes.proofs.Tables.{same_shares, same_table}

-- what a search finds of the events of a table, whatever they are
abbrev pub Finds : (types : List ColumnType) → PageMap → Standing → (test : Event → Bool) → List (List ℕ) → Type 0
Finds types pages standing test found = (events : List Event) (used : ℕ → ℕ) (accepted : ℕ) → HoldsRecords (kept_events types) pages standing accepted events used
    → AllZip (SaysEvent types) found (filter test events)

-- a place is below 2^32
pub small_each : (types : List ColumnType) (cells : List (List ℕ)) (events : List Event) → AllZip (SaysEvent types) cells events → AllByRecursion (λ (one : Event). one.hi < 4294967296) events
small_each types [] [] say = tt
small_each types [] (e ∷ es) say = absurd say
small_each types (c ∷ cs) [] say = absurd say
small_each types (c ∷ cs) (e ∷ es) say = (say.0.fields.to_fits, small_each types cs es say.1)

-- what a version sees of events dated up to it lives
pub live_gone : (types : List ColumnType) (version route accepted : ℕ) → accepted ≤ version → (events : List Event) → AllByRecursion (IsDatedRecord (kept_events types) accepted) events → (q : Event → Bool)
    → ((one : Event) → q one ≡ true → is_on version route one ≡ true) → AllByRecursion (λ (one : Event). one.died ≡ LIVING) (filter q events)
live_gone types version route accepted upto events dated q on =
    all_kept (IsDatedRecord (kept_events types) accepted) (λ (one : Event). one.died ≡ LIVING) q (λ one is passes.
    let parts = and_parts (one.route == route) (nat_le one.born version && nat_lt version one.died) (on one passes) in
    let later = ltb-true version one.died (and_parts (nat_le one.born version) (nat_lt version one.died) parts.1).1 in
    elim is.1 [ inl lives ↦ lives | inr died ↦ absurd (omega (arith, died.1, later, upto)) ]) events dated

module _ (types : List ColumnType) (version : ℕ) (old mid : PageMap) (same : SamePages mid old) (was : Standing) (were : List IndexState) where
  -- no tree stands there
  pub none_without_tree : IsNoTree (event_form (event_width types)) old was.root → HoldsNoTableBy version types old was were
  none_without_tree none = record { none = λ accepted events used uses others upto holds shares. none.none holds.records.cells used holds.records.holds.tree }

  module _ (test : Event → Bool) (found : List (List ℕ)) (finds : Finds types old was test found) where
    -- a cell that was found says no event
    pub none_said : SayNone types found → HoldsNoTableBy version types old was were
    none_said none = record { none = λ accepted events used uses others upto holds shares. none.none (filter test events) (finds events used accepted holds.records) }

    -- no table with the events that are to end lies there
    pub none_with_these : (gone : List (List ℕ)) → ((accepted : ℕ) (events : List Event) (used : ℕ → ℕ) → accepted ≤ version → HoldsRecords (kept_events types) old was accepted events used → HasThese types gone events)
        → HoldsNoTableWith version gone types mid was were → HoldsNoTableBy version types old was were
    none_with_these gone has none = record {
      none = λ accepted events used uses others upto holds shares.
          none.none accepted events used uses others upto (same_table types old mid same was were accepted events used uses others shares holds)
          (same_shares types old mid same was were (used & all_of uses) others shares) (has accepted events used upto holds.records);
    }

-- nothing is to end
pub has_none : (types : List ColumnType) (gone : List (List ℕ)) (events : List Event) → gone ≡ [] → HasThese types gone events
has_none types gone events none = record {
  these = [];
  others = events;
  say = subst (λ l. AllZip (SaysEvent types) l []) (sym none) tt;
  live = tt;
  are = IsPermutation-refl events;
}

-- the events that pass the test are
pub has_passing : (types : List ColumnType) (version route accepted : ℕ) → accepted ≤ version → (gone : List (List ℕ)) (events : List Event) → AllByRecursion (IsDatedRecord (kept_events types) accepted) events
    → (q : Event → Bool) → ((one : Event) → q one ≡ true → is_on version route one ≡ true) → AllZip (SaysEvent types) gone (filter q events) → HasThese types gone events
has_passing types version route accepted upto gone events dated q on say = record {
  these = filter q events;
  others = filter (λ one. not (q one)) events;
  say = say;
  live = live_gone types version route accepted upto events dated q on;
  are = IsPermutation-filter_both q (λ one. not (q one)) (λ _. refl) events;
}

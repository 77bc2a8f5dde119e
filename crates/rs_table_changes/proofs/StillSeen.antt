-- Versions before a change see what they saw, one event after the other.
use Rattle.std.proofs.Common.{◌≡◌, ◌<◌, ℕ, List, [], ◌∷◌, sym, subst}
use Rattle.std.specs.List.{AllByRecursion}
use Rattle.rs_cell_versions.specs.declared.cell.TheConstants.{LIVING}
use Rattle.rs_facts.specs.Runs.{Stretch}
use Rattle.rs_file_meaning.specs.Live.{KeepsEvents}
use Rattle.rs_value.specs.declared.column.ColumnType.{ColumnType}
use Rattle.rs_value.specs.declared.column.Kind.{Kind}
use Rattle.rs_versioned.specs.Events.{Event, kept_events}
use Rattle.rs_versioned.specs.Records.{HasEnded, HasOneMore}
use Rattle.rs_versioned.specs.Runs.{AreRunsFrom}
use Rattle.rs_table_changes.specs.Chains.{ComeAll, EndAll, GivesWay}

module _ (unchanged : (oldest accepted : ℕ) (events : List Event) → KeepsEvents oldest accepted events events)
    (joined : (oldest accepted : ℕ) (old next now : List Event) → KeepsEvents oldest accepted old next → KeepsEvents oldest accepted next now → KeepsEvents oldest accepted old now)
    (comes : (oldest accepted : ℕ) (one : Event) (old now : List Event) → HasOneMore one old now → accepted < one.born → KeepsEvents oldest accepted old now)
    (ends : (kind : Kind) (oldest accepted : ℕ) (types : List ColumnType) (version : ℕ) (one : Event) (old now : List Event)
    → AreRunsFrom kind oldest accepted old → HasEnded (kept_events types) version one old now → one.died ≡ LIVING → accepted < version → version < LIVING → KeepsEvents oldest accepted old now)
    (runs : (kind : Kind) (oldest accepted : ℕ) (old now : List Event) → KeepsEvents oldest accepted old now → AreRunsFrom kind oldest accepted old → AreRunsFrom kind oldest accepted now) where
  come_seen : (version route oldest accepted : ℕ) → accepted < version → (come : List Stretch) (old now : List Event) → ComeAll route version come old now → KeepsEvents oldest accepted old now
  come_seen version route oldest accepted before [] old now e = subst (KeepsEvents oldest accepted old) (sym e) (unchanged oldest accepted old)
  come_seen version route oldest accepted before (span ∷ come) old now e =
      joined oldest accepted old e.0 now (comes oldest accepted _ old e.0 e.1 before) (come_seen version route oldest accepted before come e.0 now e.2)

  end_seen : (types : List ColumnType) (version : ℕ) → version < LIVING → (kind : Kind) (oldest accepted : ℕ) → accepted < version → (gone : List Event) (old now : List Event)
      → AllByRecursion (λ (one : Event). one.died ≡ LIVING) gone → EndAll types version gone old now → AreRunsFrom kind oldest accepted old → KeepsEvents oldest accepted old now
  end_seen types version below kind oldest accepted before [] old now live e are = subst (KeepsEvents oldest accepted old) (sym e) (unchanged oldest accepted old)
  end_seen types version below kind oldest accepted before (one ∷ gone) old now live e are =
      let first = ends kind oldest accepted types version one old e.0 are e.1 live.0 before below in
      joined oldest accepted old e.0 now first (end_seen types version below kind oldest accepted before gone e.0 now live.1 e.2 (runs kind oldest accepted old e.0 first are))

  pub given_way : (types : List ColumnType) (version route : ℕ) (gone : List Event) (come : List Stretch) (old now : List Event) → version < LIVING → AllByRecursion (λ (one : Event). one.died ≡ LIVING) gone
      → GivesWay types version route gone come old now → (kind : Kind) (oldest accepted : ℕ) → accepted < version → AreRunsFrom kind oldest accepted old → KeepsEvents oldest accepted old now
  given_way types version route gone come old now below live way kind oldest accepted before are =
      joined oldest accepted old way.between now (end_seen types version below kind oldest accepted before gone old way.between live way.ended are)
      (come_seen version route oldest accepted before come way.between now way.came)

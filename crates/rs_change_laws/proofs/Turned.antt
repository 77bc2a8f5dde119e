-- Records that have turned where the same tables are listed.
use Rattle.std.proofs.Common.{◌≡◌, inl, ℕ, List, sym, subst}
use Rattle.std.specs.Prelude.{Contains}
use Rattle.rs_catalog_pages.specs.Items.{TableItem}
use Rattle.rs_file_parts.specs.Contents.{Contents}
use Rattle.rs_table_changes.specs.Turns.{EventsTurn, ReferentsTurn}
use Rattle.rs_change_laws.specs.Changing.{HasTurned}
use Rattle.rs_file_meaning.specs.Seen.{events_of}
use Rattle.rs_table_changes.proofs.Turning.{none_turned}
use Rattle.rs_versioned.specs.Events.{Event}

-- where a number has the events that it had
pub same_turned : (version number : ℕ) (old now : Contents) → events_of now number ≡ events_of old number → EventsTurn version (events_of old number) (events_of now number)
same_turned version number old now same =
    subst (λ (events : List Event). EventsTurn version (events_of old number) events) (sym same) (none_turned version (events_of old number))

-- where each does, and the tables are listed as they were
pub turned_beside : (version : ℕ) (old now : Contents) → now.definitions.tables ≡ old.definitions.tables → ((number : ℕ) → events_of now number ≡ events_of old number)
    → ReferentsTurn version old.referents.referents now.referents.referents → HasTurned version old now
turned_beside version old now same events referents = record {
  tables = λ table there. inl (subst (λ (items : List TableItem). Contains items table) same there);
  events = λ table there. same_turned version table.number old now (events table.number);
  referents = referents;
}

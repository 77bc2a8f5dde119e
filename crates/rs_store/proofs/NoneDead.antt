-- A store of which no record is dead has released all that no live version sees.
use Rattle.std.proofs.Common.{◌≡◌, ◌≤◌, ℕ, Bool, true, false, List, [], ◌∷◌, cond, refl, arith}
use Rattle.std.proofs.lemmas.Bool.{leb-true, le-leb}
use Rattle.std.proofs.lemmas.List.Sums.{sum_by-cons}
use Rattle.std.specs.List.{AllZip, sum_by}
use Rattle.std.specs.Prelude.{nat_le}
use Rattle.rs_catalog_pages.specs.Directory.{DirectoryItems}
use Rattle.rs_changes.specs.Clearing.{LosesRecords}
use Rattle.rs_disk.specs.declared.disk.Disk as disk
use Rattle.rs_file.specs.Contents.{Contents, TableContents}
use Rattle.rs_file_meaning.specs.Live.{KeepsLive}
use Rattle.rs_file_parts.specs.Clearing.{ClearsTable, clearable, clearable_events}
use Rattle.rs_file_parts.proofs.Cleared.{none_cleared}
use Rattle.rs_machine.specs.State.{State}
use Rattle.rs_versioned.specs.Events.{Event, kept_events}
use Rattle.rs_versioned.specs.Referents.{ReferentRecord, kept_referents}
use Rattle.rs_store.specs.Kept.{StandsIn, StoreState, garbage_of}
use Rattle.rs_store.specs.Releasing.{HasReleased}
use Rattle.rs_store.proofs.Same.{fewer_meant}
use Rattle.rs_store.proofs.MayGo.{all_may_go}

abbrev LiveUnchanged : Type 0
LiveUnchanged = (oldest : ℕ) (contents : Contents) (directory : DirectoryItems) → KeepsLive oldest contents (record contents { directory = directory })

-- what has died by a version has by each later one
ended_later : (died oldest later : ℕ) → oldest ≤ later → cond (nat_le died oldest) 1 0 ≤ cond (nat_le died later) 1 0
ended_later died oldest later low = by_test (nat_le died oldest) refl where
  by_test : (b : Bool) → nat_le died oldest ≡ b → cond b 1 0 ≤ cond (nat_le died later) 1 0
  by_test true is = rw (le-leb died later (omega (arith, leb-true died oldest is, low))) omega arith
  by_test false is = omega arith

weighs_less : {A : Type 0} (one other : A → ℕ) → ((a : A) → one a ≤ other a) → (all : List A) → sum_by one all ≤ sum_by other all
weighs_less one other less [] = omega arith
weighs_less one other less (a ∷ all) = omega (arith, sum_by-cons one a all, sum_by-cons other a all, less a, weighs_less one other less all)

-- so fewer records may be cleared for an older version
clearable_later : (oldest later : ℕ) (contents : Contents) → oldest ≤ later → clearable oldest contents ≤ clearable later contents
clearable_later oldest later contents low =
    let tables = weighs_less (λ (table : TableContents). clearable_events oldest table.events) (λ table. clearable_events later table.events)
    (λ table. weighs_less (λ (event : Event). cond (nat_le event.died oldest) 1 0) (λ event. cond (nat_le event.died later) 1 0) (λ event. ended_later event.died oldest later low) table.events)
    contents.tables in
    let referents = weighs_less (λ (one : ReferentRecord). cond (nat_le one.died oldest) 1 0) (λ one. cond (nat_le one.died later) 1 0) (λ one. ended_later one.died oldest later low)
    contents.referents.referents in
    omega (arith, tables, referents)

-- ---- nothing is cleared

tables_uncleared : (oldest : ℕ) (tables : List TableContents) → AllZip (ClearsTable oldest) tables tables
tables_uncleared oldest [] = tt
tables_uncleared oldest (table ∷ tables) =
    (record { types = refl; cells = []; cleared = none_cleared (kept_events table.types) oldest table.events }, tables_uncleared oldest tables)

loses_none : (oldest : ℕ) (contents : Contents) → clearable oldest contents ≡ 0 → LosesRecords oldest 64 0 contents contents
loses_none oldest contents none = record {
  cleared = record {
    parts = record {
      definitions = refl;
      directory = refl;
      tables = tables_uncleared oldest contents.tables;
      referents = record { cells = []; cleared = none_cleared kept_referents oldest contents.referents.referents };
    };
    many = omega arith;
    as_many = λ below. omega (arith, none);
  };
  accepted = refl;
}

module _ {D : Type 0} (d : disk.Ghosts D) where
  pub none_released : LiveUnchanged → (store : StoreState D) → garbage_of store.file ≡ 0 → (from oldest : ℕ) (state : State) (stands : StandsIn d from store state)
      → from ≤ oldest → oldest ≤ store.file.accepted → HasReleased d oldest 0 stands.contents store state
  none_released live store none from oldest state stands low high =
      let level = stands.keeps.opened.accepted in
      let may_go = all_may_go d store stands.contents stands.keeps in
      record {
        stands = record {
          contents = stands.contents;
          keeps = stands.keeps;
          live = omega (arith, high, level);
          meant = fewer_meant from oldest stands.contents low stands.meant;
          is = stands.is;
          views = stands.views;
        };
        loses = loses_none oldest stands.contents (omega (arith, none, may_go, clearable_later oldest store.file.accepted stands.contents high));
        live = live oldest stands.contents stands.contents.directory;
      }

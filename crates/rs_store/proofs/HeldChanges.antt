-- The changes that a pager holds, as others are begun and taken back, and what is open as it is.
use Rattle.std.proofs.Common.{◌≡◌, ◌≤◌, ◌<◌, ◌∙◌, ◌∷◌, ℕ, List, Option, None, Result, Ok, Err, [], true, ap, inl, inr, length, refl, subst, sym}
use Rattle.std.proofs.lemmas.Bool.{cases_lt}
use Rattle.rs_disk.specs.declared.disk.Disk as disk
use Rattle.rs_file.specs.declared.opened.OpenedFile.{OpenedFile}
use Rattle.rs_file.specs.declared.opened.OpenedTable.{OpenedTable}
use Rattle.rs_file_parts.specs.Parts.{IsAsItWas, SameOpened}
use Rattle.rs_journal.specs.declared.stage.Stage.{Stage}
use Rattle.rs_journal.specs.declared.stage.Stage.TheVariants.{Fresh, Gate, Home, Closing}
use Rattle.rs_pager.specs.Maps.{HoldsNoChange, IsTied, KeepsBelow, KeepsChanges, KeepsMaps, committed, pager_store, working}
use Rattle.rs_pager.specs.Opened.{Abandons}
use Rattle.rs_pager.specs.Paged.{Paged, held}
use Rattle.rs_pager.specs.declared.pager.TheConstants.{MOST_CHANGED}
use Rattle.rs_pager.proofs.Keeping.{forgotten-below}
use Rattle.rs_pages.specs.Held.{HeldPage}
use Rattle.rs_pages.specs.Lending.{RestsAfter}
use Rattle.rs_pages.specs.PageMap.{SamePages}
use Rattle.rs_refusal.specs.declared.refusal.Refusal.{Refusal}
use Rattle.rs_store.specs.Changing.{StillHolds}
use Rattle.rs_store.specs.Settling.{BeginsWith}
use Rattle.std.specs.List.{AllZip}
use Rattle.std.specs.Prelude.{◌≢◌, ◌⊎◌, OnErr, OnOk}

-- ---- what is open

same_tables : (tables : List OpenedTable) → AllZip SameOpened tables tables
same_tables [] = tt
same_tables (table ∷ tables) = (record { records = refl; indexes = refl }, same_tables tables)

as_it_is : (file : OpenedFile) → IsAsItWas file file
as_it_is file = record { definitions = refl; pages = refl; accepted = refl; tables = same_tables file.tables.items; referents = refl }

-- what is open is the same, and so it is as it was
pub still_as_it_was : (was is : OpenedFile) → is ≡ was → IsAsItWas was is
still_as_it_was was is same = subst (λ (file : OpenedFile). IsAsItWas was file) (sym same) (as_it_is was)

-- ---- held changes

pub changes-refl : {D : Type 0} (p : Paged D) → KeepsChanges p p
changes-refl p = record { held = λ number. refl; lacks = refl; committed_fields = refl; working_fields = refl }

pub changes-trans : {D : Type 0} (a b c : Paged D) → KeepsChanges a b → KeepsChanges b c → KeepsChanges a c
changes-trans a b c one other = record {
  held = λ number. other.held number ∙ one.held number;
  lacks = other.lacks ∙ one.lacks;
  committed_fields = other.committed_fields ∙ one.committed_fields;
  working_fields = other.working_fields ∙ one.working_fields;
}

-- a copy that came after changes were begun is gone
abandoned_again : (was between is : HeldPage) → between.committed ≡ was.committed → was.copy ≡ None → is ≡ record between { copy = None } → is ≡ was
abandoned_again was between is committed copy abandoned =
    abandoned ∙ ap (λ (page : Option (List ℕ)). record was { committed = page; copy = None }) committed ∙ ap (λ (page : Option (List ℕ)). record was { copy = page }) (sym copy)

module _ {D : Type 0} (d : disk.Ghosts D) where
  pub still_by_changes : (old new : Paged D) → KeepsChanges old new → StillHolds d old new
  still_by_changes old new keeps = record { committed_fields = keeps.committed_fields; working_fields = keeps.working_fields; changes = inl keeps }

  none_later : (old new : Paged D) → KeepsChanges old new → HoldsNoChange old → HoldsNoChange new
  none_later old new keeps none = record { none = λ number. keeps.held number ∙ none.none number; lacks = keeps.lacks ∙ none.lacks }

  -- what was held still is, or was written, where the same is held from then on
  pub still_later : (a b c : Paged D) → StillHolds d a b → KeepsChanges b c → StillHolds d a c
  still_later a b c holds keeps = record {
    committed_fields = keeps.committed_fields ∙ holds.committed_fields;
    working_fields = keeps.working_fields ∙ holds.working_fields;
    changes = elim holds.changes [
      | inl same ↦ inl (changes-trans a b c same keeps)
      | inr written ↦ inr (none_later b c keeps written)
    ];
  }

  pub still_after : (a b c : Paged D) → KeepsChanges a b → StillHolds d b c → StillHolds d a c
  still_after a b c keeps holds = record {
    committed_fields = holds.committed_fields ∙ keeps.committed_fields;
    working_fields = holds.working_fields ∙ keeps.working_fields;
    changes = elim holds.changes [
      | inl same ↦ inl (changes-trans a b c keeps same)
      | inr written ↦ inr written
    ];
  }

  -- ---- changes that were begun

  -- no checkpoint is under way, or one is
  fresh_or_not : (stage : Stage) → (stage ≡ Fresh) ⊎ (stage ≢ Fresh)
  fresh_or_not Fresh = inl refl
  fresh_or_not Gate = inr (λ e. absurd cc)
  fresh_or_not Home = inr (λ e. absurd cc)
  fresh_or_not Closing = inr (λ e. absurd cc)

  -- where few pages were held and no checkpoint was under way, they are held still; else all were written
  pub begins_with : {X : Type 0} (was room : Paged D) → (was.under_way.stage ≡ Fresh → length was.changes ≤ MOST_CHANGED → X × (room ≡ was))
      → ((MOST_CHANGED < length was.changes) ⊎ (was.under_way.stage ≢ Fresh) → HoldsNoChange room × (room.changes ≡ []))
      → ((number : ℕ) → (held room number).copy ≡ None) → SamePages (working d room) (committed d room) → KeepsMaps d was room
      → BeginsWith d was (record room { is_begun = true })
  begins_with was room few many copies same maps = record {
    holds = record {
      committed_fields = maps.committed_fields;
      working_fields = maps.working_fields;
      changes = elim (fresh_or_not was.under_way.stage) [
        | inr ne ↦ written_all (inr ne)
        | inl fresh ↦ elim (cases_lt MOST_CHANGED (length was.changes)) [
          | inl above ↦ written_all (inl above)
          | inr within ↦ let is = (few fresh within).1 in inl (record {
            held = λ number. ap (λ (p : Paged D). held p number) is;
            lacks = ap (λ (p : Paged D). p.is_header_changed) is;
            committed_fields = maps.committed_fields;
            working_fields = maps.working_fields;
          })
        ]
      ];
    };
    copies = copies;
    fields = same.fields;
  }
    where
      written_all : (MOST_CHANGED < length was.changes) ⊎ (was.under_way.stage ≢ Fresh)
          → KeepsChanges was (record room { is_begun = true }) ⊎ HoldsNoChange (record room { is_begun = true })
      written_all why = let none = (many why).0 in inr (record { none = none.none; lacks = none.lacks })

  -- changes that were begun and taken back leave what was held
  taken_back : (first between last : Paged D) → BeginsWith d first first → KeepsBelow d first between → Abandons between last → KeepsChanges first last
  taken_back first between last begins below back = record {
    held = λ number. abandoned_again (held first number) (held between number) (held last number) (below.changed number) (begins.copies number) (back.held number);
    lacks = back.lacks ∙ below.lacks;
    committed_fields = back.committed_fields ∙ below.committed_fields;
    working_fields = back.working ∙ below.committed_fields ∙ sym begins.fields;
  }

  pub still_taken_back : (old first between last : Paged D) → BeginsWith d old first → KeepsBelow d first between → Abandons between last → StillHolds d old last
  still_taken_back old first between last begins below back =
      let again : BeginsWith d first first = record { holds = still_by_changes first first (changes-refl first); copies = begins.copies; fields = begins.fields } in
      still_later old first last begins.holds (taken_back first between last again below back)

  -- ---- changes that were written, and pages that were read

  -- what is saved is written, or held still
  pub still_saved : (was now : Paged D) (r : Result (Unit {0}) Refusal) → KeepsMaps d was now → OnErr r (KeepsChanges was now ⊎ HoldsNoChange now) → OnOk r (HoldsNoChange now)
      → StillHolds d was now
  still_saved was now (Ok answer) maps held none = record { committed_fields = maps.committed_fields; working_fields = maps.working_fields; changes = inr none }
  still_saved was now (Err why) maps held none = record { committed_fields = maps.committed_fields; working_fields = maps.working_fields; changes = held }

  -- a read holds the same changes
  pub changes_by_reading : {T : Type 0} (r : Result T Refusal) (was now : Paged D) → RestsAfter (IsTied d) (pager_store d) (KeepsBelow d) r was now → KeepsChanges was now
  changes_by_reading r was now rests = record {
    held = rests.rests.keeps.held;
    lacks = rests.below.lacks;
    committed_fields = rests.below.committed_fields;
    working_fields = rests.rests.keeps.fields;
  }

  -- and so does a pager whose clean pages were dropped
  pub changes_by_forgetting : (was now : Paged D) → now ≡ record was { clean = [] } → KeepsChanges was now
  changes_by_forgetting was now forgets =
      subst (λ (p : Paged D). KeepsChanges was p) (sym forgets) (record { held = λ number. refl; lacks = refl; committed_fields = refl; working_fields = refl })

  pub below_by_forgetting : (was now : Paged D) → now ≡ record was { clean = [] } → KeepsBelow d was now
  below_by_forgetting was now forgets = subst (λ (p : Paged D). KeepsBelow d was p) (sym forgets) (forgotten-below d was)

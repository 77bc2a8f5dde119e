-- Definitions that were written into a file, or were refused, over any pages.
use Rattle.std.proofs.Common.{◌≡◌, ◌≤◌, ◌+◌, ◌⊎◌, Result, Ok, Err, ap, inl, inr, refl, arith}
use Rattle.std.specs.List.{AllByRecursion}
use Rattle.std.specs.Prelude.{OnOk}
use Rattle.rs_catalog.specs.Definitions.{Definitions}
use Rattle.rs_catalog_pages.specs.Items.{CatalogueItems}
use Rattle.rs_catalog_pages.specs.Said.{said_catalogue}
use Rattle.rs_catalog_pages.specs.Storing.{StoresAfter}
use Rattle.rs_catalog_pages.specs.declared.items.StoredCatalogue.{StoredCatalogue}
use Rattle.rs_changes.specs.Changing.{ChangesFile, HoldsNoFile}
use Rattle.rs_changes.specs.Calls.{ComesNext, LeavesFile}
use Rattle.rs_file.specs.Contents.{Contents}
use Rattle.rs_file.specs.declared.opened.OpenedFile.{OpenedFile}
use Rattle.rs_file_parts.proofs.Ready.{keeps_none}
use Rattle.rs_pages.specs.Store.{Store}
use Rattle.rs_pages.specs.declared.pages.Pages.{Ghosts}
use Rattle.rs_refusal.specs.declared.refusal.Refusal.{Refusal}
use Rattle.rs_refusal.specs.declared.refusal.Refusal.TheVariants as refusal
use Rattle.rs_store.specs.Rewriting.{CanBeKept, IsNextWith, Redefines, Rewrites}
use Rattle.rs_stored_catalog.specs.Listing.{listing_of}

-- why definitions are refused before any page was changed
abbrev pub IsUnmade : CatalogueItems → Refusal → Type 0
IsUnmade items why = (why ≡ refusal.OutOfMemory) ⊎ ((why ≡ refusal.DamagedFile) × (CanBeKept items → ⊥))

-- one cause of damage gives another
stores_by : {T : Type 0} (one other : Type 0) (result : Result T Refusal) (a b : Store) → (one → other) → StoresAfter {T = T} one result a b → StoresAfter {T = T} other result a b
stores_by one other (Ok answer) a b gives stores = record { counts = stores.counts; no_fewer = stores.no_fewer; ends = stores.ends }
stores_by one other (Err why) a b gives stores = record {
  counts = stores.counts;
  no_fewer = stores.no_fewer;
  ends = record {
    cause = elim stores.ends.cause [
      | inl memory ↦ inl memory
      | inr (inl failed) ↦ inr (inl failed)
      | inr (inr (inl full)) ↦ inr (inr (inl full))
      | inr (inr (inr damaged)) ↦ inr (inr (inr (damaged.0, gives damaged.1)))
    ];
    count = stores.ends.count;
  };
}

-- no page was changed
stores_none : (items : CatalogueItems) (none : Type 0) (why : Refusal) (a : Store) → IsUnmade items why → StoresAfter {T = Unit {0}} (CanBeKept items → none) (Err why) a a
stores_none items none why a unmade = record {
  counts = record { limit = refl; begun = refl; full_refusals = omega arith };
  no_fewer = omega arith;
  ends = record {
    cause = elim unmade [
      | inl memory ↦ inl memory
      | inr damaged ↦ inr (inr (inr (damaged.0, λ kept. absurd (damaged.1 kept))))
    ];
    count = record {
      disk = λ is. elim unmade [ inl memory ↦ absurd (cc (is, memory)) | inr damaged ↦ absurd (cc (is, damaged.0)) ];
      other = λ isnt. refl;
    };
  };
}

next_with : (definitions : StoredCatalogue) (result : Result (Unit {0}) Refusal) (was is : OpenedFile) → AllByRecursion (λ route. route.born ≤ was.accepted + 1) (said_catalogue definitions).routes
    → ComesNext definitions result was is → OnOk result (IsNextWith (said_catalogue definitions) was is)
next_with definitions (Ok answer) was is births comes = record {
  may = comes.next.may;
  accepted = comes.next.accepted;
  definitions_are = ap said_catalogue comes.next.definitions_are;
  births = births;
}
next_with definitions (Err why) was is births comes = tt

module _ {P : Type 0} (pages : Ghosts P) (oldest : _) (change : Contents → Contents → Type 0) where
  -- what a call that changes a file says of these definitions
  pub rewrites_by : (definitions : StoredCatalogue) (result : Result (Unit {0}) Refusal) (old new : P) (was is : OpenedFile)
      → AllByRecursion (λ route. route.born ≤ was.accepted + 1) (said_catalogue definitions).routes → LeavesFile pages was result old new
      → (pages.is_tied old → OnOk result (ChangesFile oldest (pages.store old).map (pages.store new).map was is change)) → ComesNext definitions result was is
      → Rewrites pages.is_tied pages.store pages.keeps oldest change (said_catalogue definitions) result old new was is
  rewrites_by definitions result old new was is births leaves changes comes = record {
    below = leaves.keeps;
    stores = stores_by (pages.is_tied old → HoldsNoFile (pages.store old).map was) (CanBeKept (said_catalogue definitions) → pages.is_tied old → HoldsNoFile (pages.store old).map was)
        result (pages.store old) (pages.store new) (λ none kept. none) leaves.stores;
    changes = changes;
    next = next_with definitions result was is births comes;
    stays = comes.stays;
  }

  -- no page was changed, for want of memory or since the definitions can't be kept
  pub rewrites_unmade : (items : CatalogueItems) (why : Refusal) (old : P) (was : OpenedFile) → pages.keeps old old → IsUnmade items why
      → Rewrites pages.is_tied pages.store pages.keeps oldest change items (Err why) old old was was
  rewrites_unmade items why old was keeps unmade = record {
    below = keeps;
    stores = stores_none items (pages.is_tied old → HoldsNoFile (pages.store old).map was) why (pages.store old) unmade;
    changes = λ tied. tt;
    next = tt;
    stays = keeps_none was;
  }

  -- the catalogue in memory is as it was
  pub redefines_none : (next : Definitions) (why : Refusal) (old : P) (was : OpenedFile) (catalog now : Definitions) → pages.keeps old old → IsUnmade (listing_of next) why → now ≡ catalog
      → Redefines pages.is_tied pages.store pages.keeps oldest change next (Err why) old old was was catalog now
  redefines_none next why old was catalog now keeps unmade back = record { rewrites = rewrites_unmade (listing_of next) why old was keeps unmade; made = tt; back = back }

-- A store in which a change was begun and made or refused, once that is kept or taken back.
use Rattle.std.proofs.Common.{◌≡◌, ◌≤◌, ◌<◌, ◌+◌, ℕ, Bool, Result, Ok, Err, ap, subst, sym}
use Rattle.std.specs.List.{AllByRecursion}
use Rattle.std.specs.Prelude.{OnErr, OnOk}
use Rattle.rs_catalog.specs.Definitions.{Definitions, Numbered}
use Rattle.rs_catalog.specs.Referents.{HeldReferents, referents_on}
use Rattle.rs_catalog_pages.specs.Items.{CatalogueItems}
use Rattle.rs_changes.specs.Changing.{GivesState, HoldsNoFile}
use Rattle.rs_disk.specs.declared.disk.Disk as disk
use Rattle.rs_file.specs.Contents.{Contents}
use Rattle.rs_file.specs.declared.opened.OpenedFile.{OpenedFile}
use Rattle.rs_file_parts.specs.Parts.{IsCommitted}
use Rattle.rs_machine.specs.Lawful.{AreColumnsOfTable, AreViewsMeant, Each}
use Rattle.rs_machine.specs.State.{State}
use Rattle.rs_machine.specs.declared.limits.TheConstants.{CHANGES}
use Rattle.rs_pager.specs.Maps.{IsTied, KeepsBelow, pager_store, working}
use Rattle.rs_pager.specs.Paged.{Paged}
use Rattle.rs_refusal.specs.declared.refusal.Refusal.{Refusal}
use Rattle.rs_refusal.specs.declared.refusal.Refusal.TheVariants as refusal
use Rattle.rs_store.specs.Bracket.{ComesToRest}
use Rattle.rs_store.specs.Changing.{HasBecome, LeavesStore}
use Rattle.rs_store.specs.Kept.{IsAtRest, StandsIn, StoreState}
use Rattle.rs_store.specs.Rewriting.{CanBeKept, Redefines}
use Rattle.rs_store.specs.Settling.{HasBegun, Settles}
use Rattle.rs_stored_catalog.specs.Listing.{listing_of}
use Rattle.rs_store.proofs.Keeping.{store_over}
use Rattle.rs_store.proofs.Rows.{KeptGives, by_part}
use Rattle.rs_store.proofs.Settled.{left_made, left_refused, no_file_refuted, rests_made, rests_refused}

module _ {D : Type 0} (d : disk.Ghosts D) (was : StoreState D) (first between last : Paged D) (changed settled : OpenedFile)
    (begun : HasBegun d was (store_over d first was.file was.catalog was.referents)) where
  -- ---- definitions that came or went

  pub redefined_left : {may : State → Type 0} (oldest : ℕ) (change : Contents → Contents → Type 0) (next : Definitions) (result : Result (Unit {0}) Refusal) (now : Definitions)
      (held : Numbered HeldReferents) → Redefines (IsTied d) (pager_store d) (KeepsBelow d) oldest change next result first between was.file changed was.catalog now
      → Settles d result between last changed settled → OnErr result ((route : ℕ) → referents_on held route ≡ referents_on was.referents route) → IsCommitted was.file
      → (result ≡ Err refusal.DamagedFile → (from : ℕ) (state : State) → StandsIn d from was state → may state → CanBeKept (listing_of next))
      → LeavesStore d may result was (store_over d last settled now held)
  redefined_left oldest change next (Ok answer) now held redefines settles alike whole kept =
      left_made d was first between last was.file changed settled was.catalog was.referents begun redefines.rewrites.below
      {damaged = CanBeKept (listing_of next) → IsTied d first → HoldsNoFile (working d first) was.file} answer now held
      redefines.rewrites.stores redefines.rewrites.next.accepted settles
  redefined_left {may = may} oldest change next (Err why) now held redefines settles alike whole kept =
      left_refused d was first between last was.file changed settled was.catalog was.referents begun redefines.rewrites.below
      {may = may} {damaged = CanBeKept (listing_of next) → IsTied d first → HoldsNoFile (working d first) was.file} why now held redefines.rewrites.stores
      (λ from state stands allowed is none. no_file_refuted d was first between last was.file changed settled was.catalog was.referents begun redefines.rewrites.below from state stands
      (none (kept (ap Err is) from state stands allowed)))
      redefines.rewrites.stays whole settles redefines.back alike

  pub redefined_rests : (oldest : ℕ) (change : Contents → Contents → Type 0) (next : Definitions) (result : Result (Unit {0}) Refusal) (now : Definitions)
      → Redefines (IsTied d) (pager_store d) (KeepsBelow d) oldest change next result first between was.file changed was.catalog now
      → Settles d result between last changed settled → IsAtRest was.file was.catalog → was.file.accepted < CHANGES → Each next.tables (λ name table. AreColumnsOfTable table.columns)
      → IsAtRest settled now
  redefined_rests oldest change next (Ok answer) now redefines settles rests room columns =
      let made = redefines.rewrites.next in
      let comes : ComesToRest was.file changed next = record {
        may = made.may;
        accepted = made.accepted;
        listing = sym made.definitions_are;
        births = subst (λ (items : CatalogueItems). AllByRecursion (λ route. route.born ≤ was.file.accepted + 1) items.routes) (sym made.definitions_are) made.births;
        columns = columns;
      } in
      subst (λ (n : Definitions). IsAtRest settled n) (sym redefines.made) (rests_made was.file changed settled next room comes settles.file)
  redefined_rests oldest change next (Err why) now redefines settles rests room columns =
      subst (λ (n : Definitions). IsAtRest settled n) (sym redefines.back) (rests_refused was.file changed settled was.catalog rests redefines.rewrites.stays settles.file)

  -- and the state that it has become
  pub redefined_becomes : (oldest : ℕ) (change : Contents → Contents → Type 0) (next : Definitions) (result : Result (Unit {0}) Refusal) (now : Definitions) (held : Numbered HeldReferents)
      → Redefines (IsTied d) (pager_store d) (KeepsBelow d) oldest change next result first between was.file changed was.catalog now
      → Settles d result between last changed settled → KeptGives d → was.file.accepted < CHANGES
      → (from : ℕ) (state after : State) (stands : StandsIn d from was state) → from ≤ oldest → oldest ≤ was.file.accepted + 1
      → ((result ≡ Err refusal.OutOfMemory → ⊥) → OnOk result ((part : Contents) → change stands.contents part → GivesState oldest stands.contents part next held after)) → AreViewsMeant after
      → OnOk result (HasBecome d oldest stands.contents (store_over d last settled now held) after)
  redefined_becomes oldest change next (Ok answer) now held redefines settles kept_gives room from state after stands low high gives views =
      let tied = (begun.keeps.contents stands.contents stands.keeps).tied in
      subst (λ (n : Definitions). HasBecome d oldest stands.contents (store_over d last settled n held) after) (sym redefines.made)
      (by_part d was first between last was.file changed settled was.catalog was.referents begun redefines.rewrites.below kept_gives from oldest state stands low high room
      next held after change (redefines.rewrites.changes tied) (gives (λ e. absurd cc)) views settles)
  redefined_becomes oldest change next (Err why) now held redefines settles kept_gives room from state after stands low high gives views = tt

-- what is so of the answer that was settled and of the store as it was opened is so of what was answered and of the store as it was given
pub given_so : {D T : Type 0} (P : Result T Refusal → StoreState D → Type 0) (made result : Result T Refusal) (was old : StoreState D) → result ≡ made → was ≡ old → P made was → P result old
given_so P made result was old same is so = subst (λ s. P result s) is (subst (λ r. P r was) (sym same) so)

-- what is so where it was made gives what follows of it
pub ok_of : {T P Q : Type 0} (result : Result T Refusal) → (P → Q) → OnOk result P → OnOk result Q
ok_of (Ok answer) gives is = gives is
ok_of (Err why) gives is = tt

pub err_alike : {T : Type 0} (result : Result T Refusal) (held referents : Numbered HeldReferents) → OnErr result (held ≡ referents)
    → OnErr result ((route : ℕ) → referents_on held route ≡ referents_on referents route)
err_alike (Ok answer) held referents same = tt
err_alike (Err why) held referents same = λ route. ap (λ (r : Numbered HeldReferents). referents_on r route) same

-- Other definitions, and a route's referents that have ended before them: what is open then, and what becomes of the contents.
use Rattle.std.proofs.Common.{◌≡◌, ◌≤◌, ◌+◌, ◌∙◌, ℕ, List, [], ◌∷◌, refl, sym, ap, subst, arith}
use Rattle.std.specs.List.{AllByRecursion, AllZip}
use Rattle.rs_catalog_pages.specs.Items.{CatalogueItems}
use Rattle.rs_catalog_pages.specs.Said.{said_catalogue}
use Rattle.rs_catalog_pages.specs.declared.items.StoredCatalogue.{StoredCatalogue}
use Rattle.rs_cell_versions.specs.Version.{HaveDiedBy}
use Rattle.rs_cell_versions.specs.Versioned.{Standing}
use Rattle.rs_file.specs.Contents.{Contents, HoldsParts, beside_referents}
use Rattle.rs_file.specs.declared.opened.OpenedFile.{OpenedFile}
use Rattle.rs_file.specs.declared.opened.OpenedTable.{OpenedTable}
use Rattle.rs_file.proofs.Parts.{shares_referents}
use Rattle.rs_file_parts.specs.Calls.{ChangesDefinitions, ChangesReferents, GivesFormer}
use Rattle.rs_file_parts.specs.Parts.{HaveAllDiedBy, HoldsNoParts, IsReady, KeepsCommitted, KeepsOpened, Makes}
use Rattle.rs_file_parts.specs.declared.definitions.Former.{Former}
use Rattle.rs_changes.specs.Ending.{HoldsNoReferents}
use Rattle.rs_file_parts.proofs.Defined.{ready_defined}
use Rattle.rs_file_parts.proofs.Lists.{each_same}
use Rattle.rs_file_parts.proofs.Made.{makes_then}
use Rattle.rs_file_parts.proofs.Ready.{keeps_then, same_kept}
use Rattle.rs_pages.specs.PageMap.{PageMap}
use Rattle.rs_change_laws.specs.Changing.{HoldsNoFile}
use Rattle.rs_change_laws.specs.Parts.{DropsRoute, EndsAllOn}
use Rattle.rs_changes.proofs.Wholes.{MakesNext, makes_next, parts_opened}
use Rattle.rs_versioned.specs.Records.{HoldsRecords}
use Rattle.rs_versioned.specs.Referents.{kept_referents}
use Rattle.rs_versioned.specs.Tables.{ReferentTableState}

-- ---- what is open

pub died_later : (from to : ℕ) → from ≤ to → (dead : List (List ℕ)) → HaveDiedBy from dead → HaveDiedBy to dead
died_later from to later [] all = tt
died_later from to later (d ∷ dead) all = (omega (arith, all.0, later), died_later from to later dead all.1)

tables_later : (from to : ℕ) → from ≤ to → (tables : List OpenedTable) → AllByRecursion (λ table. HaveDiedBy from table.records.working.dead) tables
    → AllByRecursion (λ table. HaveDiedBy to table.records.working.dead) tables
tables_later from to later [] all = tt
tables_later from to later (t ∷ tables) all = (died_later from to later t.records.working.dead all.0, tables_later from to later tables all.1)

-- with other referents, of which the dead died by the later version
pub order_ended : (from to : ℕ) (file : OpenedFile) (referents : ReferentTableState) → from ≤ to → HaveAllDiedBy from file → HaveDiedBy to referents.working.dead
    → HaveAllDiedBy to (record file { referents = referents })
order_ended from to file referents later order dead = record { tables = tables_later from to later file.tables.items order.tables; referents = dead }

pub order_later : (from to : ℕ) (file : OpenedFile) → from ≤ to → HaveAllDiedBy from file → HaveAllDiedBy to file
order_later from to file later order = record {
  tables = tables_later from to later file.tables.items order.tables;
  referents = died_later from to later file.referents.working.dead order.referents;
}

pub keeps_ended : (file : OpenedFile) (referents : ReferentTableState) → referents.committed ≡ file.referents.committed → KeepsCommitted file (record file { referents = referents })
keeps_ended file referents same = record { definitions = refl; pages = refl; accepted = refl; tables = each_same KeepsOpened same_kept file.tables.items; referents = same }

module _ (definitions : StoredCatalogue) (was is : OpenedFile) (former : Former) (gives : GivesFormer definitions was is former) where
  pub accepted_stays : is.accepted ≡ was.accepted
  accepted_stays = ap (λ (file : OpenedFile). file.accepted) gives.rest

  pub ready_then : IsReady was → (said_catalogue definitions).tables ≡ (said_catalogue was.definitions).tables
      → (said_catalogue definitions).indexes ≡ (said_catalogue was.definitions).indexes → IsReady is
  ready_then ready tables indexes = ready_defined was is ready (ap (λ (file : OpenedFile). file.tables.items) gives.rest)
      (ap (λ d. (said_catalogue d).tables) gives.definitions_are ∙ tables) (ap (λ d. (said_catalogue d).indexes) gives.definitions_are ∙ indexes)

  pub order_then : HaveAllDiedBy (was.accepted + 1) was → HaveAllDiedBy (is.accepted + 1) is
  order_then order =
      subst (λ n. HaveAllDiedBy (n + 1) is) (sym accepted_stays)
      (subst (HaveAllDiedBy (was.accepted + 1)) (sym gives.rest) (record { tables = order.tables; referents = order.referents }))

  pub births_then : (version : ℕ) → AllByRecursion (λ route. route.born ≤ version) (said_catalogue definitions).routes → AllByRecursion (λ route. route.born ≤ version) (said_catalogue is.definitions).routes
  births_then version births = subst (λ d. AllByRecursion (λ route. route.born ≤ version) (said_catalogue d).routes) (sym gives.definitions_are) births

  -- the tables are the same
  pub stood_same : AllZip KeepsOpened was.tables.items is.tables.items
  stood_same = subst (AllZip KeepsOpened was.tables.items) (sym (ap (λ (file : OpenedFile). file.tables.items) gives.rest)) (each_same KeepsOpened same_kept was.tables.items)

  -- with the former definitions what stood there at the last commit stays
  pub keeps_restored : (first next : OpenedFile) → KeepsCommitted first was → KeepsCommitted is next → KeepsCommitted first (record next { definitions = former.definitions; pages = former.pages })
  keeps_restored first next before after = keeps_then first was (record next { definitions = former.definitions; pages = former.pages }) before (record {
    definitions = gives.former_definitions;
    pages = gives.former_pages;
    accepted = after.accepted ∙ accepted_stays;
    tables = subst (λ (tables : List OpenedTable). AllZip KeepsOpened tables next.tables.items) (ap (λ (file : OpenedFile). file.tables.items) gives.rest) after.tables;
    referents = after.referents ∙ ap (λ (file : OpenedFile). file.referents.committed) gives.rest;
  })

-- ---- a route that goes

module _ (old mid : PageMap) (was between : OpenedFile) (route : ℕ) where
  abbrev Ended : Type 0
  Ended = Makes old mid was between was.accepted (was.accepted + 1) (ChangesReferents (EndsAllOn (was.accepted + 1) route))

  -- where no contents lie for the definitions, the file held none
  pub none_ended : Ended → HoldsNoParts mid between → HoldsNoFile old was
  none_ended ended none = record {
    none = λ contents holds opened.
        let made = ended.each contents (subst (λ n. HoldsParts old n contents) opened.accepted holds.parts) (parts_opened was contents opened) in
        none.none (was.accepted + 1) made.contents made.holds made.opened;
  }

  pub makes_dropped : (new : PageMap) (is : OpenedFile) (listing : CatalogueItems) → Ended → Makes mid new between is (was.accepted + 1) (was.accepted + 1) (ChangesDefinitions listing)
      → MakesNext old new was is (DropsRoute route listing)
  makes_dropped new is listing ended defines =
      makes_next Both (DropsRoute route listing) old new was is
      (λ contents now same drops. (drops.0, subst (λ n. ChangesReferents (EndsAllOn (n + 1) route) contents drops.0) (sym same) drops.1, drops.2))
      (makes_then (ChangesReferents (EndsAllOn (was.accepted + 1) route)) (ChangesDefinitions listing) Both (λ old next now one other. (next, one, other)) old mid new was between is was.accepted (was.accepted + 1) (was.accepted + 1)
      ended defines)
    where
      Both : Contents → Contents → Type 0
      Both old now = (next : Contents) × ChangesReferents (EndsAllOn (was.accepted + 1) route) old next × ChangesDefinitions listing next now

-- where no such referents lie there, the file held no contents
pub no_referents_no_file : (map : PageMap) (was : OpenedFile) → HoldsNoReferents map was.referents.working (was.accepted + 1) → HoldsNoFile map was
no_referents_no_file map was none = record {
  none = λ contents holds opened.
      none.none contents.directory.accepted contents.referents.referents contents.referents.used (beside_referents contents) (omega (arith, opened.accepted))
      (subst (λ (s : Standing). HoldsRecords kept_referents map s contents.directory.accepted contents.referents.referents contents.referents.used) opened.referents holds.parts.referents)
      (shares_referents map contents.directory.accepted contents holds.parts);
}

pub drops_stay : (route : ℕ) (listing : CatalogueItems) (contents now : Contents) → DropsRoute route listing contents now → now.directory ≡ contents.directory
drops_stay route listing contents now drops = ap (λ (c : Contents). c.directory) drops.2.rest ∙ ap (λ (c : Contents). c.directory) drops.1.rest

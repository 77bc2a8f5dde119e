-- What is open, as it was.
use Rattle.std.proofs.Common.{List, [], ◌∷◌, sym, ap, ◌∙◌}
use Rattle.std.specs.List.{AllZip}
use Rattle.rs_catalog_pages.specs.Said.{said_catalogue}
use Rattle.rs_file.specs.Contents.{Contents, TableContents}
use Rattle.rs_file.specs.Opening.{IsOpened}
use Rattle.rs_file.specs.declared.opened.OpenedFile.{OpenedFile}
use Rattle.rs_file.specs.declared.opened.OpenedTable.{OpenedTable}
use Rattle.rs_file_parts.specs.Parts.{IsAsItWas, IsOpenedFile, SameOpened}
use Rattle.rs_versioned.specs.Tables.{EventTableState, ReferentTableState}

same_opened : (was is : List OpenedTable) (tables : List TableContents) → AllZip SameOpened was is → AllZip IsOpened was tables → AllZip IsOpened is tables
same_opened [] [] tables same opened = opened
same_opened [] (i ∷ is) tables same opened = absurd same
same_opened (w ∷ ws) [] tables same opened = absurd same
same_opened (w ∷ ws) (i ∷ is) [] same opened = absurd opened
same_opened (w ∷ ws) (i ∷ is) (t ∷ ts) same opened = (
  record {
    types = ap (λ (r : EventTableState). r.types) same.0.records ∙ opened.0.types;
    stands = ap (λ (r : EventTableState). r.working) same.0.records ∙ opened.0.stands;
    indexes = same.0.indexes ∙ opened.0.indexes;
  },
  same_opened ws is ts same.1 opened.1,
)

pub still_opened : (was is : OpenedFile) (contents : Contents) → IsAsItWas was is → IsOpenedFile was contents → IsOpenedFile is contents
still_opened was is contents same opened = record {
  definitions = opened.definitions ∙ sym (ap said_catalogue same.definitions);
  pages = opened.pages ∙ sym (ap (λ (v : _). v.items) same.pages);
  tables = same_opened was.tables.items is.tables.items contents.tables same.tables opened.tables;
  referents = opened.referents ∙ sym (ap (λ (r : ReferentTableState). r.working) same.referents);
}

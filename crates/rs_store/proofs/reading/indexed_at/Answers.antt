-- The index at the position is one of the table that is open.
use Rattle.std.proofs.Common.{List, map, refl, subst}
use Rattle.rs_catalog_pages.specs.Said.{said_catalogue, said_index}
use Rattle.rs_catalog_pages.specs.declared.items.StoredIndex.{StoredIndex}
use Rattle.rs_store.specs.Reading.{IsIndexAt}
use Rattle.rs_store.proofs.TableReads.{indexed_open}
use Rattle.rs_store.proofs.reading.indexed_at.Goals as goal

pub returns-clause-at : goal.returns-clause-at
returns-clause-at c =
    subst (λ (indexes : List StoredIndex). IsIndexAt (map said_index indexes) c.args.key c.in_ok-position.position) c.as_slice.ensures.value c.in_ok-position.ensures.found

pub returns-clause-indexed : goal.returns-clause-indexed
returns-clause-indexed c =
    let file = c.args.file.now in
    let at : IsIndexAt (said_catalogue file.definitions).indexes c.args.key c.in_ok-position.position =
    subst (λ (indexes : List StoredIndex). IsIndexAt (map said_index indexes) c.args.key c.in_ok-position.position) c.as_slice.ensures.value c.in_ok-position.ensures.found in (
      c.from.ensures,
      indexed_open file c.requires.ready c.args.key c.in_ok-position.position at (record { position = c.in_ok-position.position; column = c.from.result }) refl c.from.ensures,
    )

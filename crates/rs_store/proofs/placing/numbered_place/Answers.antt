-- Some table has the number, so its first place is found.
use Rattle.std.proofs.Common.{ℕ, List, subst}
use Rattle.std.specs.Prelude.{IfNone, IfSome, Option}
use Rattle.rs_catalog_pages.specs.declared.items.StoredTable.{StoredTable}
use Rattle.rs_store.specs.Placing.{HasNoNumber, IsNumberedAt}
use Rattle.rs_store.proofs.Placed.{is_found}
use Rattle.rs_store.proofs.placing.numbered_place.Goals as goal

pub unwrap-requires : goal.unwrap-requires
unwrap-requires c =
    is_found c.numbered_at.result
    (subst (λ (tables : List StoredTable). IfNone c.numbered_at.result (HasNoNumber tables c.args.number)) c.as_slice.ensures.value c.numbered_at.ensures.none) c.requires

pub returns : goal.returns
returns c =
    subst (λ (tables : List StoredTable). IsNumberedAt tables c.args.number c.unwrap.result) c.as_slice.ensures.value
    (subst (λ (o : Option ℕ). IfSome o (IsNumberedAt c.as_slice.result.now c.args.number)) c.unwrap.ensures c.numbered_at.ensures.found)

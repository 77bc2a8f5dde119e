-- One key after another.
use Rattle.std.proofs.Common.{◌≡◌, ◌++◌, List, map, sym, ap, ◌∙◌, append-nil}
use Rattle.rs_catalog.specs.Names.{entries_by_bytes}
use Rattle.rs_store_source.specs.Routes.{key_of}
use Rattle.rs_store_source.specs.declared.routes.TableKey.{TableKey}
use Rattle.rs_store_source.proofs.Keyed.{key_listed, keys_more}
use Rattle.rs_store_source.proofs.routes.table_keys.Goals as goal

pub loop-table-init : goal.loop-table-init
loop-table-init c =
    ap (λ (items : List TableKey). items ++ map key_listed (entries_by_bytes (λ table. table) c.into_iter-table-iterator.result)) c.new-keys.ensures.items
    ∙ ap (map key_listed) (ap (entries_by_bytes (λ table. table)) c.into_iter-table-iterator.ensures.into_iter_gives ∙ c.tables-table-items.ensures)

pub loop-table-preserved : goal.loop-table-preserved
loop-table-preserved c =
    let one : TableKey = record { number = c.number.result; kind = c.kind.result } in
    let same : one ≡ key_of c.in-Some.table.now = λ i. record { number = c.number.ensures i; kind = c.kind.ensures i } in
    ap (λ (items : List TableKey). items ++ map key_listed (entries_by_bytes (λ table. table) c.next.new.self)) c.in_ok-push.ensures.items
    ∙ keys_more c.loop-table.keys.items one c.loop-table.table-iterator c.in-Some.field-0-0.now c.in-Some.table.now c.next.new.self c.in-Some.ensures.steps same
    ∙ c.loop-table.invariant

pub returns : goal.returns
returns c =
    sym (append-nil c.loop-table.keys.items)
    ∙ ap (λ rest. c.loop-table.keys.items ++ map key_listed (entries_by_bytes (λ table. table) rest)) (sym c.in-None.ensures.steps.0)
    ∙ c.loop-table.invariant

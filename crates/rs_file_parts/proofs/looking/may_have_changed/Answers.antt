-- One table after the other.
use Rattle.std.proofs.Common.{◌≡◌, length, refl, arith}
use Rattle.std.proofs.lemmas.Nat.{le_or_l, le_or_r}
use Rattle.std.proofs.lemmas.Option.{slice_get_read}
use Rattle.rs_attr.specs.Tables.{IndexState}
use Rattle.rs_file_parts.specs.Parts.{IsTableCommitted}
use Rattle.rs_file_parts.proofs.Looked.{all_of_none, all_one_more, neither}
use Rattle.rs_file_parts.proofs.looking.may_have_changed.Goals as goal

pub loop-table-preserved : goal.loop-table-preserved
loop-table-preserved c = λ unset none.
    let tables = c.args.tables.now in
    let at = c.loop-table.table-index in
    let one = c.table-item.result in
    let marks = neither c.loop-table.changed c.is_changed-changed.result unset in
    let before : c.loop-table.indexes ≡ 0 = omega (arith, none, le_or_l c.loop-table.indexes c.len-indexes.result) in
    let here : c.len-indexes.result ≡ 0 = omega (arith, none, le_or_r c.loop-table.indexes c.len-indexes.result) in
    let long : length one.indexes.items ≡ 0 = omega arith in
    let stands : IsTableCommitted one =
    record { records = c.is_changed-changed.ensures marks.1; indexes = all_of_none (λ (index : IndexState). index.committed ≡ index.working) one.indexes.items long } in
    all_one_more IsTableCommitted tables at one (slice_get_read tables (length tables) at one refl (omega arith) c.table-item.is) (c.loop-table.invariant marks.0 before) stands

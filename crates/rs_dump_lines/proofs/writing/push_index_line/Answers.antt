use Rattle.std.proofs.Common.{codes}
use Rattle.std.proofs.lemmas.Result.{on_ok_weaker}
use Rattle.rs_dump_lines.proofs.Joined.{as_it_is, then}
use Rattle.rs_dump_lines.proofs.writing.push_index_line.Goals as goal

pub returns : goal.returns
returns c =
    on_ok_weaker c.push_text-7.result (λ more.
    then _ _ _ (codes "0 DEFINE INDEX ") _ c.in_ok-push_text.ensures
    (then _ _ _ c.args.name.now.bytes _ (as_it_is _ _ _ _ c.in_ok-push_text-2.ensures c.as_str.ensures.value)
    (then _ _ _ (codes " ON ") _ c.in_ok-push_text-3.ensures
    (then _ _ _ c.args.table.now.bytes _ (as_it_is _ _ _ _ c.in_ok-push_text-4.ensures c.as_str-2.ensures.value)
    (then _ _ _ (codes "(") _ c.in_ok-push_text-5.ensures
    (then _ _ _ c.args.column.now.bytes _ (as_it_is _ _ _ _ c.in_ok-push_text-6.ensures c.as_str-3.ensures.value) more))))))
    c.push_text-7.ensures

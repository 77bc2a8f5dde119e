use Rattle.std.proofs.Common.{codes}
use Rattle.std.proofs.lemmas.Result.{on_ok_weaker}
use Rattle.rs_dump_lines.specs.Texts.{measures_text, row_front}
use Rattle.rs_dump_lines.proofs.Joined.{as_it_is, row_line, then}
use Rattle.rs_dump_lines.proofs.writing.push_row_line.Goals as goal

pub returns : goal.returns
returns c = λ table route said front_is says.
    let kind = c.args.kind in
    let lo = c.args.row.now.lo in
    let hi = c.args.row.now.hi in
    on_ok_weaker c.push_row.result (λ more.
    as_it_is _ _ _ _
    (then _ _ _ (row_front kind table route) _ (as_it_is _ _ _ _ c.in_ok-extend_from_slice.ensures.items front_is)
    (then _ _ _ (measures_text kind lo hi) _ c.in_ok-push_measures.ensures
    (then _ _ _ (codes " VALUES") _ c.in_ok-extend_from_slice-2.ensures.items more)))
    (row_line kind table route lo hi said))
    (c.push_row.ensures said says)

use Rattle.std.proofs.Common.{ap, codes}
use Rattle.std.proofs.lemmas.Result.{on_ok_weaker}
use Rattle.rs_dump_laws.specs.Lines.{bracketed_texts, column_text, kind_word}
use Rattle.rs_syntax.specs.View.{column_tree}
use Rattle.rs_dump_lines.proofs.Joined.{as_it_is, texts_of, then}
use Rattle.rs_dump_lines.proofs.writing.push_table_line.Goals as goal

pub returns : goal.returns
returns c =
    on_ok_weaker c.push_bracketed.result (λ more.
    then _ _ _ (codes "0 DEFINE ") _ c.in_ok-push_text.ensures
    (then _ _ _ (kind_word c.args.kind) _ (as_it_is _ _ _ _ c.in_ok-push_text-2.ensures c.kind_word.ensures)
    (then _ _ _ (codes " TABLE ") _ c.in_ok-push_text-3.ensures
    (then _ _ _ c.args.name.now.bytes _ (as_it_is _ _ _ _ c.in_ok-push_text-4.ensures c.as_str.ensures.value)
    (as_it_is _ _ _ _ more (ap bracketed_texts (texts_of column_text column_tree c.args.columns.now)))))))
    c.push_bracketed.ensures

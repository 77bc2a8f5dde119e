use Rattle.std.proofs.Common.{ap, codes}
use Rattle.std.proofs.lemmas.Result.{on_ok_weaker}
use Rattle.rs_dump_laws.specs.Lines.{bracketed_texts, piece_text}
use Rattle.rs_syntax.specs.View.{piece_tree}
use Rattle.rs_dump_lines.proofs.Joined.{as_it_is, texts_of, then}
use Rattle.rs_dump_lines.proofs.writing.push_alignment_line.Goals as goal

pub returns : goal.returns
returns c =
    on_ok_weaker c.push_bracketed.result (λ more.
    then _ _ _ (codes "0 DEFINE ALIGNMENT ") _ c.in_ok-push_text.ensures
    (then _ _ _ c.args.name.now.bytes _ (as_it_is _ _ _ _ c.in_ok-push_text-2.ensures c.as_str.ensures.value)
    (as_it_is _ _ _ _ more (ap bracketed_texts (texts_of piece_text piece_tree c.args.pieces.now)))))
    c.push_bracketed.ensures

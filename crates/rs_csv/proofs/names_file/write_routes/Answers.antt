use Rattle.std.proofs.Common.{◌∙◌, ◌++◌, ap, append-nil, subst}
use Rattle.std.specs.Prelude.{codes}
use Rattle.std.specs.Io.KnownBytes.{Appends}
use Rattle.rs_catalog.specs.Names.{entries_by_bytes}
use Rattle.rs_csv.specs.NamesFile.{name_row}
use Rattle.rs_csv.proofs.NamesFiles.{put_next}
use Rattle.rs_csv.proofs.names_file.write_routes.Goals as goal

pub loop-name-preserved : goal.loop-name-preserved
loop-name-preserved g c =
    let before = g.W.Write.contents c.args.output.now in
    let after = g.W.Write.contents c.loop-name.output in
    let now = g.W.Write.contents c.put_parts.new.writer in
    let text = c.in-Some.text.now in
    let row =
    append-nil c.as_slice-in-loop-name.result.now ∙ c.as_slice-in-loop-name.ensures.value ∙ c.in_ok-push_row.ensures ∙ ap (λ front. front ++ name_row c.as_slice.result.now c.as_str.result.now (codes "route")) c.new-row.ensures.items
    ∙ ap (λ said. name_row said c.as_str.result.now (codes "route")) c.as_slice.ensures.value ∙ ap (λ name. name_row text.items name (codes "route")) c.as_str.ensures.value in
    put_next (entries_by_bytes (λ text. text) c.into_iter-name-iterator.result) (entries_by_bytes (λ text. text) c.loop-name.name-iterator) (entries_by_bytes (λ text. text) c.next.new.self) (c.in-Some.name.now.bytes, text) before after now
    (ap (entries_by_bytes (λ text. text)) c.in-Some.ensures.steps) c.loop-name.invariant (subst (Appends after now) row c.in_default.ensures)

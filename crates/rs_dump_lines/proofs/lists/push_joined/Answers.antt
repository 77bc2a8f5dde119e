use Rattle.std.proofs.Common.{◌∙◌, ap, map, sym}
use Rattle.std.specs.List.{join_with_byte}
use Rattle.std.proofs.lemmas.Result.{on_ok_weaker}
use Rattle.rs_dump_laws.specs.Lines.{COMMA}
use Rattle.rs_dump_lines.proofs.Joined.{as_it_is, joined_more, then}
use Rattle.rs_dump_lines.proofs.lists.push_joined.Goals as goal

pub returns : goal.returns
returns g c =
    let text = g.T.Written.text_of in
    on_ok_weaker c.push_more.result (λ more.
    as_it_is _ _ _ _ (then _ _ _ (text c.in-Some.first.now) _ c.in_ok-push.ensures more)
    (sym (ap (λ items. join_with_byte COMMA (map text items)) c.in-Some.ensures.cases.0 ∙ joined_more (text c.in-Some.first.now) (map text c.in-Some.others.now))))
    c.push_more.ensures

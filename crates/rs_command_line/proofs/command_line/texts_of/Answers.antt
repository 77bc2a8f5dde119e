use Rattle.std.proofs.Common.{◌≡◌, ◌∙◌, [], Option, List, Some, None, ap, map, option_map, sym}
use Rattle.std.specs.Prelude.{unwrap_or}
use Rattle.std.proofs.lemmas.Result.{IfOk-weaker}
use Rattle.clap.specs.Words.{Text, all_of, found_of, rows_of}
use Rattle.clap.proofs.WalkLemmas.{raw_values-rows}
use Rattle.rs_command_line.proofs.command_line.texts_of.Goals as goal

pub returns-in-Some : goal.returns-in-Some
returns-in-Some c =
    let found = found_of c.args.given.now in
    let given : all_of c.args.id.now (rows_of found) ≡ Some (map (λ t. t.now) c.in-Some.texts.now) =
    sym (c.get_strs.ensures ∙ raw_values-rows found c.args.id.now) ∙ ap (option_map (λ s. map (λ v. v.now) s.now)) c.in-Some.is in
    IfOk-weaker c.from_slice.result _ _ (λ v is. ap (map (λ t. t.now)) is ∙ sym (ap (λ (o : Option (List Text)). unwrap_or o []) given)) c.from_slice.ensures.items

pub returns-in-None : goal.returns-in-None
returns-in-None c =
    let found = found_of c.args.given.now in
    let given : all_of c.args.id.now (rows_of found) ≡ None =
    sym (c.get_strs.ensures ∙ raw_values-rows found c.args.id.now) ∙ ap (option_map (λ s. map (λ v. v.now) s.now)) c.in-None.is in
    ap (map (λ t. t.now)) c.new.ensures.items ∙ sym (ap (λ (o : Option (List Text)). unwrap_or o []) given)

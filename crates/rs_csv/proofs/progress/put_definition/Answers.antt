use Rattle.std.proofs.Common.{◌∙◌, ◌++◌, ◌∷◌, [], ap, refl, string_bytes}
use Rattle.std.proofs.lemmas.Result.{on_ok_weaker}
use Rattle.rs_csv.specs.Output.{table_of}
use Rattle.rs_csv.proofs.Outputs.{definition_goes, same_goes}
use Rattle.rs_csv.proofs.progress.put_definition.Goals as goal

pub returns : goal.returns
returns c =
    let job = c.job.inside in
    rw (← c.job.view_is)
    (on_ok_weaker c.push_line.result
    (λ pushed plan known number. definition_goes job.wanted.session (table_of job.definition) plan known number c.args.bytes.now.items c.push_line.new.bytes.items (string_bytes job.definition.line)
    (pushed ∙ ap (λ line. c.args.bytes.now.items ++ line ++ 10 ∷ []) c.as_str.ensures.value) c.job.invariant.defines.asks)
    c.push_line.ensures)

pub returns-then-not-job : goal.returns-then-not-job
returns-then-not-job c = λ plan known number. same_goes c.args.job.now.wanted.session (table_of c.args.job.now.definition) plan known number c.args.bytes.now.items c.args.bytes.now.items refl

use Rattle.std.proofs.Common.{◌∙◌, ◌++◌, [], ap, append-nil, inl, inr, refl, subst, sym}
use Rattle.std.specs.Prelude.{codes}
use Rattle.std.proofs.lemmas.Result.{on_ok_weaker}
use Rattle.rs_csv_lines.specs.Fields.{content}
use Rattle.rs_csv_lines.specs.Names.{IsMadeName}
use Rattle.rs_csv.specs.NamesFile.{name_row}
use Rattle.rs_csv.proofs.names_file.push_column.Goals as goal

pub returns-in-Some : goal.returns-in-Some
returns-in-Some c =
    let field = content c.args.field.now in
    let name = c.in-Some.name.bytes in
    let old = c.args.rows.now.items in
    on_ok_weaker c.push_row.result
    (λ put. (
      name_row field name (codes "column"),
      inl (name, subst (λ text. IsMadeName text name) c.content-text.ensures c.in-Some.ensures, refl),
      put ∙ ap (λ text. old ++ name_row text c.as_str.result.now (codes "column")) c.content-text.ensures ∙ ap (λ said. old ++ name_row field said (codes "column")) c.as_str.ensures.value,
    ))
    c.push_row.ensures

pub returns-in-None : goal.returns-in-None
returns-in-None c = ([], inr (λ name made. c.in-None.ensures name (subst (λ text. IsMadeName text name) (sym c.content-text.ensures) made), refl), sym (append-nil c.args.rows.now.items))

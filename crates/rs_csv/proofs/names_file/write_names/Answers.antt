use Rattle.std.proofs.Common.{◌∙◌, ◌++◌, ap, append-nil, append_assoc, refl, subst}
use Rattle.std.specs.Io.KnownBytes.{Appends}
use Rattle.std.proofs.KnownBytes.{Appends-trans}
use Rattle.std.proofs.lemmas.Result.{on_ok_weaker}
use Rattle.rs_csv.specs.NamesFile.{file_header, route_rows}
use Rattle.rs_csv.proofs.names_file.write_names.Goals as goal

pub returns-clause-wrote : goal.returns-clause-wrote
returns-clause-wrote g c =
    let before = g.W.Write.contents c.args.output.now in
    let middle = g.W.Write.contents c.put_parts.new.writer in
    let after = g.W.Write.contents c.write_routes.new.output in
    let rows = c.in_ok-rows.ensures in
    let routes = route_rows c.args.names.now.texts in
    let first = subst (Appends before middle) (append-nil c.as_slice.result.now ∙ c.as_slice.ensures.value) c.in_default.ensures in
    on_ok_weaker c.write_routes.result
    (λ puts. (
      file_header ++ rows.0 ++ routes,
      record { columns = rows.0; of_columns = rows.1; whole = refl },
      subst (Appends before after) (ap (λ bytes. bytes ++ routes) rows.2 ∙ append_assoc file_header rows.0 routes) (Appends-trans before middle after c.in_ok-rows.rows.items routes first puts),
    ))
    c.write_routes.ensures.wrote

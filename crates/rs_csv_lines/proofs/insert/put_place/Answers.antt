use Rattle.std.proofs.Common.{string_bytes, ◌++◌, inl, inr, refl}
use Rattle.std.specs.Prelude.{codes}
use Rattle.csv.specs.Records.{fields_of}
use Rattle.rs_methods.specs.Position.{expression_of}
use Rattle.rs_syntax.specs.Tree.{along, at_point}
use Rattle.rs_csv_lines.proofs.Putting.{two_more, four_more, puts_along, puts_at}
use Rattle.rs_csv_lines.proofs.insert.put_place.Goals as goal

pub returns-in_ok-last-in-Along : goal.returns-in_ok-last-in-Along
returns-in_ok-last-in-Along c =
    let first = c.in_ok-first-in-Along.ensures in
    let last = c.in_ok-last-in-Along.ensures in (
      along (expression_of c.in_ok-first-in-Along.first) (expression_of c.in_ok-last-in-Along.last),
      codes " FROM " ++ first.0 ++ codes " TO " ++ last.0,
      puts_along c.args.measures (fields_of c.args.csv_record.now) c.args.place c.in-Along.from c.in-Along.to _ _ first.0 last.0 c.in-Along.is first.1 last.1,
      four_more (string_bytes c.args.line.now) _ _ _ _ (codes " FROM ") first.0 (codes " TO ") last.0 c.in_ok-push_str-in-Along.ensures.bytes first.2 c.in_ok-push_str-in-Along-2.ensures.bytes last.2,
      inl refl,
    )

pub returns-in_ok-first-in-At : goal.returns-in_ok-first-in-At
returns-in_ok-first-in-At c =
    let first = c.in_ok-first-in-At.ensures in (
      at_point (expression_of c.in_ok-first-in-At.first),
      codes " AT " ++ first.0,
      puts_at c.args.measures (fields_of c.args.csv_record.now) c.args.place c.in-At.at _ first.0 c.in-At.is first.1,
      two_more (string_bytes c.args.line.now) _ _ (codes " AT ") first.0 c.in_ok-push_str-in-At.ensures.bytes first.2,
      inr (refl, refl),
    )

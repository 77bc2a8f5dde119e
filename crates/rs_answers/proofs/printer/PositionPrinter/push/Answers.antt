use Rattle.std.proofs.Common.{rules, sym}
use Rattle.std.specs.Prelude.{string_bytes}
use Rattle.rs_answers.specs.Printed.{place_on}
use Rattle.rs_answers.proofs.LineTexts.{printed_absolute, printed_expressed}
use Rattle.rs_answers.proofs.printer.PositionPrinter.push.Goals as goal

pub returns-in-Absolute : goal.returns-in-Absolute
returns-in-Absolute c =
    rw (printed_absolute c.args.self.now.referents.now c.args.self.now.route c.args.self.now.method (place_on c.args.self.now.route.ends c.args.place) c.in-Absolute.is) (search rules)

pub returns-in_ok-position-in-Relative : goal.returns-in_ok-position-in-Relative
returns-in_ok-position-in-Relative c =
    rw (sym (printed_expressed c.args.self.now.referents.now c.args.self.now.route c.args.self.now.method (place_on c.args.self.now.route.ends c.args.place) c.place_on-k.result (string_bytes c.in_ok-position-in-Relative.position)
    c.place_on-k.ensures.nearest c.in_ok-position-in-Relative.ensures)) (search rules)

use Rattle.std.proofs.Common.{length, ap, arith}
use Rattle.rs_lexer.proofs.TokenLaws.{name_fits}
use Rattle.rs_meaning.proofs.meaning.name.Goals as goal

pub push_str-requires : goal.push_str-requires
push_str-requires c =
    let fits = name_fits c.args.line.now c.args.token c.requires.inside c.requires.kind in
    omega (arith, ap length c.text.ensures, ap length c.new-name.ensures)

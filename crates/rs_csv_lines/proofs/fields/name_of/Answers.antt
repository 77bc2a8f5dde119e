use Rattle.std.proofs.Common.{arith}
use Rattle.rs_lexer.proofs.CutLaws.{cut_inside}
use Rattle.rs_csv_lines.proofs.Spelled.{kind_is, says_name}
use Rattle.rs_csv_lines.proofs.fields.name_of.Goals as goal

pub name-requires : goal.name-requires
name-requires c = record {
  inside = cut_inside c.args.text.now c.requires 0 _ (omega arith);
  kind = kind_is _ _ c.eq.result c.eq.ensures c.if-eq.true;
}

pub returns-then-eq : goal.returns-then-eq
returns-then-eq c =
    says_name c.args.text.now c.name.result.bytes c.args.tokens.now _ c.requires c.in-len1.len_at_least c.in-len1.len_below
    (kind_is _ _ c.eq.result c.eq.ensures c.if-eq.true) c.name.ensures

use Rattle.std.proofs.Common.{◌≡◌, ◌-◌, ◌∷◌, ◌++◌, ◌∙◌, IfSome, ap, arith, drop, get_or, length, map, refl, subst, sym, take, take_all}
use Rattle.std.specs.List.{join_with_byte}
use Rattle.std.proofs.lemmas.List.{drop_all}
use Rattle.rs_value.specs.Encoding.{SaysRow}
use Rattle.rs_value.specs.LentView.{lent_datum}
use Rattle.rs_value.specs.Row.{null}
use Rattle.rs_value.specs.Text.{datum_text}
use Rattle.rs_value.specs.declared.column.ColumnType.TheVariants.{Int}
use Rattle.rs_dump_laws.specs.Lines.{COMMA}
use Rattle.rs_dump_lines.specs.Texts.{more_texts}
use Rattle.rs_dump_lines.proofs.Joined.{first_before, one_more}
use Rattle.rs_dump_lines.proofs.SaidRows.{said_last, said_long, said_only}
use Rattle.rs_dump_lines.proofs.rows.put_values_before.Goals as goal

pub loop-left-init : goal.loop-left-init
loop-left-init c =
    let columns = c.args.columns.now in
    let values = c.args.values.now in
    record {
      begins = omega arith;
      few = omega arith;
      length = refl;
      says = λ said says.
          let long = said_long columns values said says in
          subst (λ ts. SaysRow ts values (take (length columns) said)) (sym (take_all (length columns) columns (omega arith)))
          (subst (λ r. SaysRow columns values r) (sym (take_all (length columns) said (omega arith))) says);
      put = λ said says.
          let long = said_long columns values said says in
          sym (ap (λ r. more_texts (map datum_text r) ++ drop c.args.end c.args.bytes.now) (drop_all (length columns) said (omega arith)));
    }

pub overflow_sub-rest : goal.overflow_sub-rest
overflow_sub-rest c =
    let (said, says) = c.requires.says in
    (said_last c.args.columns.now c.args.values.now c.loop-left.rest.now (c.loop-left.left - 1) c.loop-left.left c.column_width.result Int said (omega arith) c.loop-left.invariant.few
    c.column_width.ensures.value says (c.loop-left.invariant.says said says)).0

pub read_value-requires : goal.read_value-requires
read_value-requires c =
    let (said, says) = c.requires.says in
    let last = said_last c.args.columns.now c.args.values.now c.loop-left.rest.now (c.loop-left.left - 1) c.loop-left.left c.column_width.result Int said (omega arith) c.loop-left.invariant.few
    c.column_width.ensures.value says (c.loop-left.invariant.says said says) in
    (get_or said (c.loop-left.left - 1) null, rw c.split_at.ensures.back last.1)

pub loop-left-preserved : goal.loop-left-preserved
loop-left-preserved c =
    let left = c.loop-left.left - 1 in
    record {
      begins = omega (arith, c.in_ok-at.ensures.begins, c.loop-left.invariant.begins);
      few = omega arith;
      length = c.in_ok-at.ensures.length ∙ c.loop-left.invariant.length;
      says = λ said says.
          let last = said_last c.args.columns.now c.args.values.now c.loop-left.rest.now left c.loop-left.left c.column_width.result Int said (omega arith) c.loop-left.invariant.few
          c.column_width.ensures.value says (c.loop-left.invariant.says said says) in
          rw c.split_at.ensures.front last.2;
      put = λ said says.
          let last = said_last c.args.columns.now c.args.values.now c.loop-left.rest.now left c.loop-left.left c.column_width.result Int said (omega arith) c.loop-left.invariant.few
          c.column_width.ensures.value says (c.loop-left.invariant.says said says) in
          let value : lent_datum c.read_value.result ≡ get_or said left null = c.read_value.ensures (get_or said left null) (rw c.split_at.ensures.back last.1) in
          let long = said_long c.args.columns.now c.args.values.now said says in
          c.in_ok-at.ensures.put ∙ ap (λ datum. COMMA ∷ (datum_text datum ++ drop c.loop-left.at c.loop-left.bytes)) value
          ∙ ap (λ more. COMMA ∷ (datum_text (get_or said left null) ++ more)) (c.loop-left.invariant.put said says)
          ∙ one_more said left c.loop-left.left (drop c.args.end c.args.bytes.now) (omega arith) (omega (arith, c.loop-left.invariant.few, long));
    }

pub read_value-requires-2 : goal.read_value-requires-2
read_value-requires-2 c =
    let (said, says) = c.requires.says in
    (get_or said 0 null, said_only c.args.columns.now c.loop-left.rest.now c.loop-left.left Int said (omega arith) (omega arith) (c.loop-left.invariant.says said says))

pub returns-clause-put : goal.returns-clause-put
returns-clause-put c = λ said says.
    let long = said_long c.args.columns.now c.args.values.now said says in
    let only = said_only c.args.columns.now c.loop-left.rest.now c.loop-left.left Int said (omega arith) (omega arith) (c.loop-left.invariant.says said says) in
    let values : datum_text (lent_datum c.read_value-2.result) ++ drop c.loop-left.at c.loop-left.bytes ≡ join_with_byte COMMA (map datum_text said) ++ drop c.args.end c.args.bytes.now =
    ap (λ datum. datum_text datum ++ drop c.loop-left.at c.loop-left.bytes) (c.read_value-2.ensures (get_or said 0 null) only)
    ∙ ap (λ more. datum_text (get_or said 0 null) ++ more) (c.loop-left.invariant.put said says)
    ∙ first_before said c.loop-left.left (drop c.args.end c.args.bytes.now) (omega arith) (omega arith) in
    subst (λ text. IfSome c.put_value_before-2.result (λ start. drop start c.put_value_before-2.new.bytes ≡ 40 ∷ text)) values c.put_value_before-2.ensures.put

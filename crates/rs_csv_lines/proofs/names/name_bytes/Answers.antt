use Rattle.std.proofs.Common.{◌≡◌, ◌∙◌, ap, length, arith}
use Rattle.std.proofs.lemmas.Bool.{false≢true}
use Rattle.rs_grammar.specs.declared.kind.TheConstants.{NAME_BYTES}
use Rattle.rs_csv_lines.specs.Names.{before_name}
use Rattle.rs_csv_lines.proofs.Named.{all_here, cut_here, is_full}
use Rattle.rs_csv_lines.proofs.names.name_bytes.Goals as goal

pub returns-in-Err : goal.returns-in-Err
returns-in-Err c =
    let text = c.args.text.now in
    let one = ap length (c.in-Err.ensures.ascii (omega (arith, c.from.ensures, c.name_byte.ensures.ascii))) in
    let full : length c.loop-byte.name.bytes ≡ NAME_BYTES = is_full (length c.loop-byte.name.bytes) NAME_BYTES _ one c.loop-byte.invariant.few (λ fits. false≢true (c.in-Err.ensures.variant.1 fits)) in
    ap (λ name. name.bytes) c.in-Err.ensures.err ∙ cut_here (before_name text) text c.loop-byte.name.bytes c.loop-byte.byte-index NAME_BYTES c.loop-byte.invariant.bytes full

pub returns : goal.returns
returns c =
    let text = c.args.text.now in
    all_here (before_name text) text c.loop-byte.name.bytes c.loop-byte.byte-index NAME_BYTES c.loop-byte.invariant.bytes (omega (arith, c.loop-byte.auto.byte-index-end, c.loop-byte-test.false)) c.loop-byte.invariant.few

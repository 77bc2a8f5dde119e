use Rattle.std.proofs.Common.{subst, sym, ◌∙◌}
use Rattle.rs_bytes.specs.Codes.{Reads, SaysMany, SaysUtf8}
use Rattle.std.proofs.lemmas.Result.{err_from_is_err_and}
use Rattle.rs_bytes.proofs.Reading.{utf8_read, none_text}
use Rattle.rs_bytes.proofs.texts.read_text.Goals as goal

pub returns-in_ok-from_str-in-Ok-clause-read : goal.returns-in_ok-from_str-in-Ok-clause-read
returns-in_ok-from_str-in-Ok-clause-read c =
    subst (λ text. Reads (SaysMany c.args.count SaysUtf8) c.args.reader.now text c.take.new.self) (sym (c.in_ok-from_str-in-Ok.ensures.ok ∙ c.in-Ok.ensures.cases.0))
    (utf8_read c.args.reader.now c.in_ok-bytes.bytes.now c.take.new.self c.args.count c.in_ok-bytes.ensures.taken c.in_ok-bytes.ensures.count c.in-Ok.ensures.cases.1)

pub returns-in-Err-clause-damaged : goal.returns-in-Err-clause-damaged
returns-in-Err-clause-damaged c is =
    none_text c.args.reader.now c.in_ok-bytes.bytes.now c.take.new.self c.args.count c.in_ok-bytes.ensures.taken c.in_ok-bytes.ensures.count c.in-Err.ensures.cases.0

pub returns-in_err-from_str-in-Ok-clause-memory : goal.returns-in_err-from_str-in-Ok-clause-memory
returns-in_err-from_str-in-Ok-clause-memory c =
    let p = err_from_is_err_and c.from_residual-in_err-from_str-in-Ok.result c.from_residual-in_err-from_str-in-Ok.ensures.1 in
    rw (p.1) (λ is. record {
      value = c.in_ok-bytes.bytes.now;
      new = c.take.new.self;
      reads = utf8_read c.args.reader.now c.in_ok-bytes.bytes.now c.take.new.self c.args.count c.in_ok-bytes.ensures.taken c.in_ok-bytes.ensures.count c.in-Ok.ensures.cases.1;
    })

use Rattle.std.proofs.Common.{◌≡◌, string_bytes}
use Rattle.std.proofs.lemmas.Result.{IfOk-weaker, IfErr-weaker, err_from_is_err_and}
use Rattle.rs_refusal.specs.declared.refusal.Refusal.TheVariants as refusals
use Rattle.rs_bytes.specs.Codes.{Reads, ReadsNone, SaysUtf8, SaysMany, SaysCounted}
use Rattle.rs_bytes.proofs.Reading.{none_counted, none_behind, counted_read}
use Rattle.rs_bytes.proofs.texts.StringItem.read.Goals as goal

pub returns-in_err-count-clause-damaged : goal.returns-in_err-count-clause-damaged
returns-in_err-count-clause-damaged c =
    let p = err_from_is_err_and c.from_residual.result c.from_residual.ensures.1 in
    rw (p.1, p.2) (λ is. none_counted 1 SaysUtf8 c.args.reader.now (c.in_err-count.ensures.damaged is))

pub returns-clause-read : goal.returns-clause-read
returns-clause-read c =
    IfOk-weaker c.read_text.result
    (λ item. Reads (SaysMany c.from.result SaysUtf8) c.read.new.reader (string_bytes item) c.read_text.new.reader)
    (λ item. Reads (SaysCounted 1 SaysUtf8) c.args.reader.now (string_bytes item) c.read_text.new.reader)
    (λ item many. counted_read 1 SaysUtf8 c.args.reader.now c.read.new.reader c.read_text.new.reader c.in_ok-count.count c.from.result (string_bytes item) c.from.ensures c.in_ok-count.ensures.read many)
    c.read_text.ensures.read

pub returns-clause-damaged : goal.returns-clause-damaged
returns-clause-damaged c =
    IfErr-weaker c.read_text.result
    (λ refusal. refusal ≡ refusals.DamagedFile → ReadsNone (SaysMany c.from.result SaysUtf8) c.read.new.reader)
    (λ refusal. refusal ≡ refusals.DamagedFile → ReadsNone (SaysCounted 1 SaysUtf8) c.args.reader.now)
    (λ refusal lacks is. none_behind 1 SaysUtf8 c.args.reader.now c.read.new.reader c.in_ok-count.count c.from.result c.from.ensures c.in_ok-count.ensures.read (lacks is))
    c.read_text.ensures.damaged

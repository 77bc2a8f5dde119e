use Rattle.std.proofs.Common.{◌≡◌, map, refl}
use Rattle.std.proofs.lemmas.Result.{IfOk-weaker, IfErr-weaker, err_from_is_err_and}
use Rattle.rs_refusal.specs.declared.refusal.Refusal.TheVariants as refusals
use Rattle.rs_bytes.specs.Codes.{Reads, ReadsNone, SaysEach, SaysMany, SaysCounted}
use Rattle.rs_bytes.proofs.Reading.{none_counted, none_behind, counted_read}
use Rattle.rs_bytes.proofs.lists.VecItem.read.Goals as goal

pub returns-in_err-count-clause-damaged : goal.returns-in_err-count-clause-damaged
returns-in_err-count-clause-damaged g c =
    let p = err_from_is_err_and c.from_residual.result c.from_residual.ensures.1 in
    rw (p.1, p.2) (λ is. none_counted 4 (SaysEach g.T.Item.says) c.args.reader.now (c.in_err-count.ensures.damaged is))

pub returns-clause-read : goal.returns-clause-read
returns-clause-read g c =
    IfOk-weaker c.read_each.result
    (λ item. Reads (SaysMany c.in_ok-count.count (SaysEach g.T.Item.says)) c.read.new.reader (map g.T.Item.said item.items) c.read_each.new.reader)
    (λ item. Reads (SaysCounted 4 (SaysEach g.T.Item.says)) c.args.reader.now (map g.T.Item.said item.items) c.read_each.new.reader)
    (λ item many. counted_read 4 (SaysEach g.T.Item.says) c.args.reader.now c.read.new.reader c.read_each.new.reader c.in_ok-count.count c.in_ok-count.count (map g.T.Item.said item.items) refl c.in_ok-count.ensures.read many)
    c.read_each.ensures.read

pub returns-clause-damaged : goal.returns-clause-damaged
returns-clause-damaged g c =
    IfErr-weaker c.read_each.result
    (λ refusal. refusal ≡ refusals.DamagedFile → ReadsNone (SaysMany c.in_ok-count.count (SaysEach g.T.Item.says)) c.read.new.reader)
    (λ refusal. refusal ≡ refusals.DamagedFile → ReadsNone (SaysCounted 4 (SaysEach g.T.Item.says)) c.args.reader.now)
    (λ refusal lacks is. none_behind 4 (SaysEach g.T.Item.says) c.args.reader.now c.read.new.reader c.in_ok-count.count c.in_ok-count.count refl c.in_ok-count.ensures.read (lacks is))
    c.read_each.ensures.damaged

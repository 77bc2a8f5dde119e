use Rattle.std.proofs.Common.{[], ◌∷◌, map, length, sym, subst, ap, ◌∙◌, arith, length-append}
use Rattle.std.proofs.lemmas.List.{length-map}
use Rattle.std.proofs.lemmas.Result.{err_from_is_err_and}
use Rattle.rs_bytes.specs.Codes.{Reads, SaysEach}
use Rattle.rs_bytes.proofs.Reading.{none_next, none_read, each_read, many_read}
use Rattle.rs_bytes.proofs.lists.read_each.Goals as goal

pub loop-i-init : goal.loop-i-init
loop-i-init g c = record {
  many = ap length c.new-items.ensures.items;
  within = omega arith;
  read = subst (λ items. Reads (SaysEach g.T.Item.says) c.args.reader.now (map g.T.Item.said items) c.args.reader.now) (sym c.new-items.ensures.items) (none_read g.T.Item.says c.args.reader.now);
}

pub returns-in_err-read-clause-damaged : goal.returns-in_err-read-clause-damaged
returns-in_err-read-clause-damaged g c =
    let p = err_from_is_err_and c.from_residual.result c.from_residual.ensures.1 in
    rw (p.1, p.2) (λ is. none_next g.T.Item.says g.met.T.Item.one _ _ _ c.loop-i._i _ c.loop-i.invariant.read (length-map c.loop-i.items.items g.T.Item.said ∙ c.loop-i.invariant.many) c.loop-i-test.true (c.in_err-read.ensures.damaged is))

pub loop-i-preserved : goal.loop-i-preserved
loop-i-preserved g c = record {
  many = ap length c.in_ok-push.ensures.items ∙ length-append c.loop-i.items.items (c.in_ok-read.field-0 ∷ []) ∙ omega (arith, c.loop-i.invariant.many);
  within = omega (arith, c.loop-i-test.true);
  read = subst (λ items. Reads (SaysEach g.T.Item.says) c.args.reader.now (map g.T.Item.said items) c.read.new.reader) (sym c.in_ok-push.ensures.items)
      (each_read g.T.Item.says g.T.Item.said _ _ _ c.loop-i.items.items c.in_ok-read.field-0 c.loop-i.invariant.read c.in_ok-read.ensures.read);
}

pub returns-clause-read : goal.returns-clause-read
returns-clause-read g c =
    many_read (SaysEach g.T.Item.says) _ _ _ _ (length-map c.loop-i.items.items g.T.Item.said ∙ omega (arith, c.loop-i.invariant.many, c.loop-i.invariant.within, c.loop-i-test.false)) c.loop-i.invariant.read

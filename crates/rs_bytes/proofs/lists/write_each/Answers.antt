use Rattle.std.proofs.Common.{map, take, subst}
use Rattle.std.proofs.lemmas.List.{take_all}
use Rattle.rs_bytes.specs.Codes.{Writes, SaysEach}
use Rattle.rs_bytes.proofs.Reading.{none_written, each_written, value_at, take_next}
use Rattle.rs_bytes.proofs.lists.write_each.Goals as goal

pub loop-item-init : goal.loop-item-init
loop-item-init g c = none_written g.T.Item.says c.args.bytes.now.items

pub write-requires : goal.write-requires
write-requires g c = record { fits = value_at g.T.Item.fits g.T.Item.said c.args.items.now c.loop-item.item-index c.item-item.result c.loop-item-test.true c.item-item.is c.requires.fit }

pub loop-item-preserved : goal.loop-item-preserved
loop-item-preserved g c =
    subst (λ values. Writes (SaysEach g.T.Item.says) c.args.bytes.now.items values c.write.new.bytes.items)
    (take_next g.T.Item.said c.args.items.now c.loop-item.item-index c.item-item.result c.loop-item-test.true c.item-item.is)
    (each_written g.T.Item.says c.args.bytes.now.items c.loop-item.bytes.items c.write.new.bytes.items
    (map g.T.Item.said (take c.loop-item.item-index c.args.items.now)) (g.T.Item.said c.item-item.result) c.loop-item.invariant c.in_ok-write.ensures.written)

pub returns : goal.returns
returns g c = record {
  written = subst (λ items. Writes (SaysEach g.T.Item.says) c.args.bytes.now.items (map g.T.Item.said items) c.loop-item.bytes.items)
      (take_all c.loop-item.item-index c.args.items.now c.loop-item-test.false) c.loop-item.invariant;
}

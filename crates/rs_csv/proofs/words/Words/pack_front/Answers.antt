use Rattle.std.proofs.Common.{take}
use Rattle.rs_csv.proofs.Unpacking.{packs_text}
use Rattle.rs_csv.proofs.words.Words.pack_front.Goals as goal

pub returns-in_ok-learn-clause-packed : goal.returns-in_ok-learn-clause-packed
returns-in_ok-learn-clause-packed c =
    let found = c.find-found in
    packs_text c.args.self.now c.learn.new.self c.args.packed.now.items c.push.new.self.items found.result.code c.learn.ensures c.in_ok-push.ensures.items c.requires.known found.ensures.known (take found.result.count c.args.text.now) found.ensures.stands

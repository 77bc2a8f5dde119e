-- The store has the referents that a live version sees.
use Rattle.std.proofs.Common.{◌≤◌, arith}
use Rattle.std.proofs.lemmas.Result.{IfOk-weaker}
use Rattle.rs_engine.proofs.Wanting.{shown_referents, wants_live}
use Rattle.rs_store_source.proofs.Passing.{shows_on}
use Rattle.rs_engine.proofs.engine.live.LiveStoreVersions.referents_at.Goals as goal

pub returns-clause-shown : goal.returns-clause-shown
returns-clause-shown g c =
    let live = c.args.self.now in
    let upto : c.args.version ≤ live.store.file.accepted = omega (arith, c.if-accepted-version.false, c.accepted.ensures) in
    shown_referents g.D.Disk live.oldest live.store c.referents_at.new.self c.args.version c.args.route c.referents_at.result
    (λ state stands. IfOk-weaker c.referents_at.result _ _ (λ referents alone. alone.there) (c.referents_at.ensures.sees live.oldest state stands (omega (arith, c.if-version-self.false)) upto))

pub returns-clause-stays : goal.returns-clause-stays
returns-clause-stays g c = λ snapshots. shows_on g.D.Disk c.args.self.now.oldest c.args.self.now.store c.referents_at.new.self c.referents_at.ensures.reads snapshots

pub returns-clause-wants : goal.returns-clause-wants
returns-clause-wants g c =
    let live = c.args.self.now in
    let upto : c.args.version ≤ live.store.file.accepted = omega (arith, c.if-accepted-version.false, c.accepted.ensures) in
    wants_live g.D.Disk live.oldest live.store c.referents_at.new.self c.referents_at.result c.referents_at.ensures.refused c.referents_at.ensures.count
    (λ state stands. c.referents_at.ensures.sound live.oldest state stands (omega (arith, c.if-version-self.false)) upto)

use Rattle.std.proofs.lemmas.Result.{err_from_is_err_and}
use Rattle.std.proofs.Common.{◌∙◌, Err, refl, subst}
use Rattle.std.specs.Io.KnownBytes.{Appends}
use Rattle.rs_protocol.specs.Inner.{Puts}
use Rattle.rs_protocol.proofs.Putting.{PutsLater-held, PutsLater-anew, PutsLater-after, Puts-stops}
use Rattle.rs_protocol.proofs.put.hold.Goals as goal

pub returns-then-holds_back : goal.returns-then-holds_back
returns-then-holds_back g c = PutsLater-held c.args.pending.now.items c.args.bytes.now c.holds_back.new.pending.items (g.W.Write.contents c.args.writer.now) (c.if-holds_back.ensures.held refl)

pub returns-in_err-put : goal.returns-in_err-put
returns-in_err-put g c =
    let p = err_from_is_err_and c.from_residual.result c.from_residual.ensures.1 in
    rw (p.1, p.2)
    (Puts-stops (Unit {0}) (Unit {0}) c.in_err-put.field-0.0 c.args.pending.now.items c.args.bytes.now (g.W.Write.contents c.args.writer.now) (g.W.Write.contents c.put.new.writer)
    (subst (λ l. Puts {T = Unit {0}} (Err c.in_err-put.field-0.0) l (g.W.Write.contents c.args.writer.now) (g.W.Write.contents c.put.new.writer)) (c.as_slice.ensures.value ∙ c.if-holds_back.ensures.unchanged refl) c.in_err-put.ensures))

pub returns-then-holds_back-2 : goal.returns-then-holds_back-2
returns-then-holds_back-2 g c = PutsLater-anew c.args.pending.now.items c.args.bytes.now c.holds_back-2.new.pending.items c.clear.new.self.items (g.W.Write.contents c.args.writer.now) (g.W.Write.contents c.put.new.writer)
    c.clear.ensures (c.if-holds_back-2.ensures.held refl)
    (subst (Appends (g.W.Write.contents c.args.writer.now) (g.W.Write.contents c.put.new.writer)) (c.as_slice.ensures.value ∙ c.if-holds_back.ensures.unchanged refl) c.in_ok-put.ensures)

pub returns : goal.returns
returns g c = PutsLater-after c.put-2.result c.args.bytes.now c.args.pending.now.items c.holds_back-2.new.pending.items
    (g.W.Write.contents c.args.writer.now) (g.W.Write.contents c.put.new.writer) (g.W.Write.contents c.put-2.new.writer)
    (c.if-holds_back-2.ensures.unchanged refl ∙ c.clear.ensures)
    (subst (Appends (g.W.Write.contents c.args.writer.now) (g.W.Write.contents c.put.new.writer)) (c.as_slice.ensures.value ∙ c.if-holds_back.ensures.unchanged refl) c.in_ok-put.ensures)
    c.put-2.ensures

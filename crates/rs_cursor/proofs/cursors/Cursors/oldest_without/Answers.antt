use Rattle.std.proofs.Common.{map, sym, ap, subst, ◌∙◌}
use Rattle.std.specs.FinMap as maps
use Rattle.rs_cursor.proofs.Lowest.{HasIn, goes_over, goes_to_end}
use Rattle.rs_cursor.proofs.Oldests.{oldest_of_sessions, without, without-elsewhere, without-held, without-here, without-none}
use Rattle.rs_cursor.specs.Held.{held_at, held_of}
use Rattle.rs_cursor.specs.Oldest.{IsLowest, LooksAt}
use Rattle.rs_cursor.specs.declared.cursor.Cursor.{Cursor}
use Rattle.rs_facts.specs.Fact.{Names}
use Rattle.rs_cursor.proofs.cursors.Cursors.oldest_without.Goals as goal

pub loop-number-preserved-then-number : goal.loop-number-preserved-then-number
loop-number-preserved-then-number c =
    goes_over LooksAt _ _ (map (λ e. without c.args.session c.args.name.now.bytes e.0 e.1) c.next.new.self) _ c.args.most c.loop-number.oldest c.oldest_of_others-oldest.result
    (ap (map (λ e. without c.args.session c.args.name.now.bytes e.0 e.1)) c.in-Some.ensures.steps) c.loop-number.invariant
    (subst (λ (left : Names Cursor). IsLowest (LooksAt left) c.loop-number.oldest c.oldest_of_others-oldest.result)
    (sym (without-here c.args.session c.args.name.now.bytes c.in-Some.number.now c.in-Some.cursors.now (c.if-number.true ∙ c.number.ensures.value))) c.oldest_of_others-oldest.ensures)

pub loop-number-preserved : goal.loop-number-preserved
loop-number-preserved c =
    goes_over LooksAt _ _ (map (λ e. without c.args.session c.args.name.now.bytes e.0 e.1) c.next.new.self) _ c.args.most c.loop-number.oldest c.oldest_of-oldest.result
    (ap (map (λ e. without c.args.session c.args.name.now.bytes e.0 e.1)) c.in-Some.ensures.steps) c.loop-number.invariant
    (subst (λ (left : Names Cursor). IsLowest (LooksAt left) c.loop-number.oldest c.oldest_of-oldest.result)
    (sym (without-elsewhere c.args.session c.args.name.now.bytes c.in-Some.number.now c.in-Some.cursors.now (λ same. c.if-number.false (same ∙ sym c.number.ensures.value)))) c.oldest_of-oldest.ensures)

pub returns : goal.returns
returns c =
    oldest_of_sessions (without c.args.session c.args.name.now.bytes) (without-none c.args.session c.args.name.now.bytes) c.self.inside.by_session.entries c.args.self.now c.self.view_is
    (held_at c.args.session (maps.remove (held_of c.args.self.now c.args.session) c.args.name.now.bytes) (held_of c.args.self.now))
    (without-held c.args.session c.args.name.now.bytes (held_of c.args.self.now)) c.into_iter-number-iterator.ensures.into_iter_gives.5 c.args.most c.loop-number.oldest
    (subst (λ all. IsLowest (HasIn LooksAt (map (λ e. without c.args.session c.args.name.now.bytes e.0 e.1) all)) c.args.most c.loop-number.oldest) c.into_iter-number-iterator.ensures.into_iter_gives.0
    (goes_to_end LooksAt _ _ c.args.most c.loop-number.oldest (ap (map (λ e. without c.args.session c.args.name.now.bytes e.0 e.1)) c.in-None.ensures.steps.0) c.loop-number.invariant))

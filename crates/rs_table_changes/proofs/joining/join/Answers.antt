-- What is picked is held by one, or gives way to a wide span.
use Rattle.std.proofs.Common.{◌∙◌, ◌-◌, ◌++◌, [], ◌∷◌, map, refl, sym, ap, subst, inl, inr}
use Rattle.std.specs.List.{Contains}
use Rattle.rs_facts.specs.Runs.{Stretch}
use Rattle.rs_facts.specs.Spans.{seen}
use Rattle.rs_table_changes.specs.Picked.{shared_by, wide}
use Rattle.rs_table_changes.proofs.Outside.{holding}
use Rattle.rs_table_changes.proofs.joining.join.Goals as goal

pub returns-then-is_covered-clause-joins : goal.returns-then-is_covered-clause-joins
returns-then-is_covered-clause-joins c =
    let picks = c.in_ok-picked.ensures.picks in
    let held = holding (seen c.args.span.now) c.deref.result.now (sym c.is_covered.ensures ∙ c.if-is_covered.true) in
    record {
      each = λ events say. inl (record {
        one = held.one;
        among = subst (λ l. Contains l held.one) (ap (map seen) c.deref.ensures.value ∙ picks.are events say) held.among;
        covered = held.covered;
        none_gone = c.new.ensures.none;
        none_come = ap (map seen) c.new-come.ensures.items;
        no_new = refl;
      });
    }

pub returns-clause-joins : goal.returns-clause-joins
returns-clause-joins c =
    let span = seen c.args.span.now in
    let picks = c.in_ok-picked.ensures.picks in
    record {
      each = λ events say. inr (record {
        say = picks.say events say;
        is = ap (map seen) c.in_ok-push.ensures.items ∙ ap (λ l. map seen (l ++ c.in_ok-widened.field-0 ∷ [])) c.new-come.ensures.items
            ∙ ap (λ (s : Stretch). s ∷ []) (c.in_ok-widened.ensures ∙ ap (λ l. wide span (map seen l)) c.deref-2.ensures.value ∙ ap (wide span) (picks.are events say));
        counted = c.new_facts-count.ensures ∙ ap (λ l. (span.hi - span.lo) - shared_by span.lo span.hi l) (ap (map seen) c.deref-3.ensures.value ∙ picks.are events say);
      });
    }

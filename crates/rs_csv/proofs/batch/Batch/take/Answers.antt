use Rattle.std.proofs.Common.{◌≡◌, ◌∙◌, ◌++◌, ◌∷◌, [], inr, sym, ap, true}
use Rattle.rs_csv.specs.declared.quoting.Place.TheVariants as places
use Rattle.rs_csv.specs.Quoting.{ends_record}
use Rattle.rs_csv.specs.Cutting.{after_all}
use Rattle.rs_csv.proofs.Cuts.{after_all_append, after_end}
use Rattle.rs_csv.proofs.batch.Batch.take.Goals as goal

pub returns-then-ends : goal.returns-then-ends
returns-then-ends c = λ separator whole begun is.
    let ends : ends_record (after_all separator places.Start begun) c.args.byte ≡ true = ap (λ at. ends_record at c.args.byte) (sym is.place) ∙ sym c.ends_record-ends.ensures ∙ c.if-ends.true in
    let at = after_all_append separator places.Start begun (c.args.byte ∷ []) ∙ after_end separator (after_all separator places.Start begun) c.args.byte ends in
    inr (ends, c.end_record.ensures separator whole (begun ++ c.args.byte ∷ []) (c.in_ok-push.ensures separator whole begun is) at)

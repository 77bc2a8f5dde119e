use Rattle.std.proofs.Common.{◌∙◌, refl, sym, ap, subst, arith}
use Rattle.std.proofs.lemmas.Bool.{false≢true}
use Rattle.rs_csv.specs.Quoting.{after}
use Rattle.rs_csv.proofs.Batches.{batch_grown, IsTexted}
use Rattle.rs_csv.proofs.batch.Batch.push.Goals as goal
use Rattle.rs_csv.proofs.batch.Batch.push.Goals.{then-not-self+in_ok-push_marked, else-not-self}

pub returns : goal.returns
returns c =
    let texted : IsTexted c.args.self.now c.args.byte c.if-not-self.self = elim c.if-not-self.branch [
      | then-not-self+in_ok-push_marked w ↦ subst (IsTexted c.args.self.now c.args.byte) (sym w.self-is) (record {
        separated = refl;
        place = refl;
        long = refl;
        begun = refl;
        length_is = refl;
        grown = λ _. w.in_ok-push_marked.ensures;
        same = λ long. absurd (false≢true (sym w.if-not-self.true ∙ long));
      })
      | else-not-self w ↦ subst (IsTexted c.args.self.now c.args.byte) (sym w.self-is) (record {
        separated = refl;
        place = refl;
        long = refl;
        begun = refl;
        length_is = refl;
        grown = λ short. absurd (false≢true (sym short ∙ w.if-not-self.false));
        same = λ _. refl;
      })
    ] in
    λ separator whole begun is. batch_grown separator c.args.self.now _ c.args.byte whole begun (record {
      separated = texted.separated;
      place = c.after-self.ensures ∙ ap (λ at. after c.if-not-self.self.separator at c.args.byte) texted.place ∙ ap (λ parts. after parts c.args.self.now.place c.args.byte) texted.separated;
      long = texted.long;
      begun = texted.begun;
      length_is = λ short. let same = texted.length_is in omega (arith, same, c.saturating_add-self.ensures);
      grown = texted.grown;
      same = texted.same;
    }) is

use Rattle.std.proofs.Common.{◌≡◌, ◌∙◌, ap, rules, length, ◌==◌, false, ◌++◌, ◌∷◌, [], drop, string_bytes}
use Rattle.rs_value.specs.Text.{datum_text}
use Rattle.rs_value.proofs.KeptText.{each_more, no_more}
use Rattle.rs_value.proofs.kept_text.push_each.Goals as goal

pub loop-rest-preserved : goal.loop-rest-preserved
loop-rest-preserved c =
    let some : (length c.loop-rest.rest.now == 0) ≡ false = search rules in
    let space : string_bytes c.push.new.self ≡ string_bytes c.loop-rest.text ++ 32 ∷ [] = search rules in
    record {
      there = (drop 1 c.loop-rest.invariant.there.0, c.split_first.ensures.rest c.loop-rest.invariant.there.0 c.loop-rest.invariant.there.1);
      text = λ row h.
          let before = c.loop-rest.invariant.text row h in (
            drop 1 before.0,
            c.split_first.ensures.rest before.0 before.1,
            each_more c.loop-rest.rest.now (string_bytes c.loop-rest.text) (string_bytes c.push.new.self) (string_bytes c.push_lent.new.text) before.0 before.1 some space
                (c.in_ok-push_lent.ensures ∙ ap (λ d. string_bytes c.push.new.self ++ datum_text d) (c.first_value.ensures before.0 before.1)) ∙ before.2,
          );
    }

pub returns : goal.returns
returns c row h =
    let before = c.loop-rest.invariant.text row h in
    let none : length c.loop-rest.rest.now ≡ 0 = search rules in
    no_more c.loop-rest.rest.now _ _ before.0 before.1 none before.2

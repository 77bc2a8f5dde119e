use Rattle.std.proofs.Common.{◌≡◌, true, false, get_or, take, sym, ap, ◌∙◌, arith}
use Rattle.std.proofs.lemmas.Bool.Decides.{nat_tests}
use Rattle.std.specs.Prelude.{◌==◌, if◌then◌else◌}
use Rattle.rs_lexer.specs.Scanning.{accepts, run}
use Rattle.rs_lexer.specs.States as states
use Rattle.rs_lexer.proofs.ScanningLaws.{none_until}
use Rattle.rs_lexer.proofs.LongestLaws.{closes, opens, goes_on, ends, none_past_end}
use Rattle.rs_lexer.proofs.scan.quoted_length.Goals as goal
use Rattle.rs_lexer.proofs.scan.quoted_length.Goals.{then-byte-eq39+then-not-is_open, then-byte-eq39+else-not-is_open, else-byte-eq39+else-not-is_open-2}

pub returns-then-not-is_open-2-clause-longest : goal.returns-then-not-is_open-2-clause-longest
returns-then-not-is_open-2-clause-longest c =
    let other : (get_or c.args.rest.now c.loop-place.place 0 == 39) ≡ false = grind (arith, nat_tests) in
    let closed : c.loop-place.is_open ≡ false = cc in
    none_past_end c.args.rest.now c.loop-place.place c.loop-place.count c.loop-place-test.true
    (ends c.args.rest.now c.loop-place.place c.loop-place-test.true c.loop-place.is_open c.loop-place.invariant.state closed other) c.loop-place.invariant.longest

pub loop-place-preserved : goal.loop-place-preserved
loop-place-preserved c =
    let at = c.loop-place.place in
    let rest = c.args.rest.now in
    let was = c.loop-place.invariant in
    elim c.if-byte-eq39.branch [
      | then-byte-eq39+then-not-is_open w ↦
          let quote : get_or rest at 0 ≡ 39 = grind (arith, nat_tests) in
          let opened : c.loop-place.is_open ≡ true = cc in
          let shut : c.if-byte-eq39.is_open ≡ false = cc in
          let state = closes rest at c.loop-place-test.true c.loop-place.is_open was.state opened quote in
          record {
            state = state ∙ ap (λ b. if b then states.Inside else states.Behind) (sym shut);
            inside = omega (arith, w.count-is);
            closed = λ some. ap (λ n. run states.Inside (take n rest)) w.count-is ∙ state;
            longest = λ longer above h. absurd (omega (arith, w.count-is));
          }
      | then-byte-eq39+else-not-is_open w ↦
          let quote : get_or rest at 0 ≡ 39 = grind (arith, nat_tests) in
          let shut : c.loop-place.is_open ≡ false = cc in
          let opened : c.if-byte-eq39.is_open ≡ true = cc in
          let state = opens rest at c.loop-place-test.true c.loop-place.is_open was.state shut quote in
          record {
            state = state ∙ ap (λ b. if b then states.Inside else states.Behind) (sym opened);
            inside = omega (arith, w.count-is, was.inside);
            closed = λ some. ap (λ n. run states.Inside (take n rest)) w.count-is ∙ was.closed (omega (arith, w.count-is));
            longest = none_until states.Inside rest at c.if-byte-eq39.count (λ longer above h. was.longest longer (omega (arith, w.count-is)) h) (ap accepts state);
          }
      | else-byte-eq39+else-not-is_open-2 w ↦
          let other : (get_or rest at 0 == 39) ≡ false = grind (arith, nat_tests) in
          let opened : c.loop-place.is_open ≡ true = cc in
          let still : c.if-byte-eq39.is_open ≡ true = cc in
          let state = goes_on rest at c.loop-place-test.true c.loop-place.is_open was.state opened other in
          record {
            state = state ∙ ap (λ b. if b then states.Inside else states.Behind) (sym still);
            inside = omega (arith, w.count-is, was.inside);
            closed = λ some. ap (λ n. run states.Inside (take n rest)) w.count-is ∙ was.closed (omega (arith, w.count-is));
            longest = none_until states.Inside rest at c.if-byte-eq39.count (λ longer above h. was.longest longer (omega (arith, w.count-is)) h) (ap accepts state);
          }
    ]

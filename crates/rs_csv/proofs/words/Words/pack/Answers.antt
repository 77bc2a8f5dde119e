use Rattle.std.proofs.Common.{◌≡◌, ◌≤◌, ◌-◌, ◌∙◌, ◌++◌, ap, arith, drop, length, length-drop, subst, sym, take}
use Rattle.std.proofs.Math.Seq.{take-add}
use Rattle.std.proofs.lemmas.List.{take_all}
use Rattle.rs_csv.proofs.Unpacking.{grows_trans}
use Rattle.rs_csv.proofs.words.Words.pack.Goals as goal

pub words-preserved : goal.words-preserved
words-preserved c =
    let at = c.words.at in
    let count = c.in_ok-at.field-0 in
    let text = c.args.text.now in
    let rest : take (length text - at) (drop at text) ≡ drop at text = take_all (length text - at) (drop at text) (omega (arith, length-drop at text)) in
    let few : count ≤ length (drop at text) = subst (λ t. count ≤ length t) rest c.in_ok-at.ensures.within in
    record {
      within = omega (arith, few, length-drop at text, c.words.invariant.within);
      grows = grows_trans c.args.self.now c.words.self c.pack_front.new.self c.words.invariant.grows c.pack_front.ensures.grows;
      known = c.in_ok-at.ensures.known;
      so_far =
          c.in_ok-at.ensures.packed ∙ ap (λ t. t ++ take count (take (length text - at) (drop at text))) c.words.invariant.so_far ∙ ap (λ t. take at text ++ take count t) rest
          ∙ sym (take-add at count text);
    }

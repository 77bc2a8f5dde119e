use Rattle.std.proofs.Common.{◌≤◌, ◌++◌, List, ℕ, length, take, ap, ◌∙◌, arith}
use Rattle.std.proofs.lemmas.List.{take_all}
use Rattle.rs_encodings.specs.Waiting.{items}
use Rattle.rs_encodings.proofs.Windows.{grown}
use Rattle.rs_encodings.proofs.window.Window.push.Goals as goal

pub returns-clause-items : goal.returns-clause-items
returns-clause-items c =
    let window = c.args.self.now in
    let within : window.end ≤ length window.bytes = omega arith in
    let more = c.args.bytes.now in
    let copied = c.copy_from_slice.new.self in
    let n = length more in
    grown window.bytes copied window.start window.end _ n window.ordered within (omega arith)
    ∙ ap (λ (t : List ℕ). items window ++ t) (ap (take n) c.copy_from_slice.ensures.after ∙ take_all n more (omega arith))

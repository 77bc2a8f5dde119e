use Rattle.std.proofs.Common.{ℕ, arith}
use Rattle.std.proofs.lemmas.List.{length-take, length-drop}
use Rattle.rs_encodings.proofs.Windows.{consumed}
use Rattle.rs_encodings.proofs.window.Window.consume.Goals as goal

pub returns : goal.returns
returns c =
    let window = c.args.self.now in
    consumed window.bytes window.start window.end c.args.count (omega (arith, length-take {A = ℕ}, length-drop {A = ℕ}))

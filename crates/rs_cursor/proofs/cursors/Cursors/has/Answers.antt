use Rattle.std.proofs.Common.{◌≡◌, Option, Some, None, refl, sym, ap, ◌∙◌}
use Rattle.std.specs.Borrow.{Bor}
use Rattle.std.specs.Option.{option_copied}
use Rattle.std.specs.Prelude.{is_some}
use Rattle.rs_cursor.proofs.MachineCursors.{has-cursors_by}
use Rattle.rs_cursor.proofs.cursors.Cursors.has.Goals as goal

copied : {X : Type 0} (o : Option (Bor X)) → is_some o ≡ is_some (option_copied o)
copied None = refl
copied (Some x) = refl

pub returns : goal.returns
returns c = λ lines. c.is_some.ensures ∙ copied c.get.result ∙ ap is_some c.get.ensures ∙ sym (has-cursors_by lines c.args.self.now c.args.session c.args.name.now.bytes)

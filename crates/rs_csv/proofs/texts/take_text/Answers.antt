use Rattle.std.proofs.Common.{◌≡◌, None, rules, arith}
use Rattle.std.specs.FinMap as names
use Rattle.rs_csv.proofs.KnownTexts.{text_kept, text_put}
use Rattle.rs_csv.proofs.texts.take_text.Goals as goal

pub returns-clause-only : goal.returns-clause-only
returns-clause-only c = λ is. text_put c.args.texts.now c.define.new.self c.args.name.bytes c.in_ok-from_slice.field-0 c.in_ok-define.ensures.ok c.args.text.now c.in_ok-from_slice.ensures.items

pub returns-clause-kept : goal.returns-clause-kept
returns-clause-kept c =
    let none : names.get c.args.texts.now c.args.name.bytes ≡ None = first_of (cc, search rules, grind arith) in
    text_kept c.args.texts.now c.define.new.self c.args.name.bytes c.in_ok-from_slice.field-0 c.in_ok-define.ensures.ok none

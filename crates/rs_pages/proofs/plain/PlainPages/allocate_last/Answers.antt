-- A page after the last, and a full file.
use Rattle.std.proofs.Common.{◌≡◌, ◌++◌, [], ◌∷◌, ◌∙◌, length, subst, arith, rules}
use Rattle.std.proofs.lemmas.Bool.Decides.{nat_tests}
use Rattle.rs_refusal.specs.Counts.{counted_on}
use Rattle.rs_page.specs.PageBytes.{IsBlank}
use Rattle.rs_pages.proofs.PlainStore.{last-allocated, full-refused}
use Rattle.rs_pages.proofs.plain.PlainPages.allocate_last.Goals as goal

pub returns-then-self-clause-refused : goal.returns-then-self-clause-refused
unfolding counted_on
returns-then-self-clause-refused c =
    let counted : c.saturating_add-self.result ≡ counted_on c.args.self.now.full_refusals = grind (arith, nat_tests) in
    full-refused c.args.self.now.pages.items c.args.self.now.fields c.args.self.now.limit c.args.self.now.full_refusals _ c.if-self.true c.requires counted

pub returns-clause-allocates : goal.returns-clause-allocates
returns-clause-allocates c =
    let pushed : c.push.new.self.items ≡ c.args.self.now.pages.items ++ c.blank-page.result ∷ [] = search rules in
    let room : c.args.self.now.fields.pages ≡ length c.args.self.now.pages.items = c.args.self.now.counted ∙ c.args.self.now.pages.ok.0 in
    last-allocated c.args.self.now.pages.items c.push.new.self.items c.args.self.now.fields c.args.self.now.limit c.args.self.now.full_refusals c.args.kind
    c.new-number.result c.blank-page.result c.new-number.ensures room c.args.self.now.directory c.if-self.false c.requires
    (subst (λ i. IsBlank c.blank-page.result.bytes c.args.kind c.new-number.result i) c.new.ensures c.blank-page.ensures) pushed

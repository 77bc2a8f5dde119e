use Rattle.std.proofs.Common.{◌≡◌, IfOk, string_bytes, rules, subst, ◌∙◌}
use Rattle.rs_methods.specs.declared.position.Method.TheVariants as methods
use Rattle.rs_methods.specs.Position.{expression_text, interpolative}
use Rattle.rs_methods.specs.Referents.{referents_of}
use Rattle.rs_methods.proofs.Nearest.{text_by_nearest}
use Rattle.rs_methods.proofs.SaidExpression.{says_expressed}
use Rattle.rs_methods.proofs.expressing.express.Goals as goal

pub returns-in-Relative-clause-by_the_nearest : goal.returns-in-Relative-clause-by_the_nearest
returns-in-Relative-clause-by_the_nearest c = λ near relative is.
    text_by_nearest c.args.route.now.start c.args.k (referents_of c.args.route.now.number c.args.referents.now) c.express_relative.result c.requires.after_start c.express_relative.ensures.text near is

pub returns-in-Relative-clause-says : goal.returns-in-Relative-clause-says
returns-in-Relative-clause-says c = λ relative words.
    rw c.in-Relative.is (says_expressed c.args.route.now.start c.args.route.now.finish c.args.k (referents_of c.args.route.now.number c.args.referents.now) methods.Relative c.express_relative.result
    c.requires.after_start c.requires.before_finish c.args.route.now.ordered c.thousandths-in_range.ensures.in_range c.express_relative.ensures.text (λ is. words))

pub returns-in-Absolute-clause-says_without_names : goal.returns-in-Absolute-clause-says_without_names
returns-in-Absolute-clause-says_without_names c = λ other.
    rw c.in-Absolute.is (says_expressed c.args.route.now.start c.args.route.now.finish c.args.k (referents_of c.args.route.now.number c.args.referents.now) methods.Absolute c.to_string.result
    c.requires.after_start c.requires.before_finish c.args.route.now.ordered c.thousandths-in_range.ensures.in_range (search rules) (λ is. absurd (other (c.in-Absolute.is ∙ is))))

pub returns-in-Interpolative-clause-says_without_names : goal.returns-in-Interpolative-clause-says_without_names
returns-in-Interpolative-clause-says_without_names c = λ other.
    let printed = subst (λ part. IfOk c.interpolative_text.result (λ text. string_bytes text ≡ expression_text (interpolative part))) c.part_at.ensures.least c.interpolative_text.ensures in
    rw c.in-Interpolative.is (says_expressed c.args.route.now.start c.args.route.now.finish c.args.k (referents_of c.args.route.now.number c.args.referents.now) methods.Interpolative c.interpolative_text.result
    c.requires.after_start c.requires.before_finish c.args.route.now.ordered c.thousandths-in_range.ensures.in_range printed (λ is. absurd (other (c.in-Interpolative.is ∙ is))))

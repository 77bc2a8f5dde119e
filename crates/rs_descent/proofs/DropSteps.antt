-- Steps of reading DROP of an object by its name.
use Rattle.std.proofs.Common.{List, ◌∷◌, Option, Result}
use Rattle.rs_grammar.specs.declared.kind.TokenKind.{TokenKind}
use Rattle.rs_grammar.specs.declared.kind.TokenKind.TheVariants as kinds
use Rattle.rs_grammar.specs.Grammar.{need, drop_form, drop_name_form, drop_referent_form}
use Rattle.rs_descent.specs.declared.drops.ObjectKind.{ObjectKind}
use Rattle.rs_descent.specs.declared.drops.ObjectKind.TheVariants as objects
use Rattle.rs_descent.specs.Reading.{Lacks, Runs, takes, skips}
use Rattle.rs_descent.specs.Forms.{object_word}

-- the word for the object's kind is at the front
pub drops_object : (kind : ObjectKind) (tokens : List TokenKind) (outcome : Result (List TokenKind) (Option (List TokenKind)))
    → Runs drop_name_form tokens outcome → Runs drop_form (object_word kind ∷ tokens) outcome
drops_object objects.Route tokens outcome run = takes run
drops_object objects.Table tokens outcome run = skips (λ same. cc) (takes run)
drops_object objects.View tokens outcome run = skips (λ same. cc) (skips (λ same. cc) (takes run))
drops_object objects.Alignment tokens outcome run = skips (λ same. cc) (skips (λ same. cc) (skips (λ same. cc) (takes run)))
drops_object objects.Index tokens outcome run = skips (λ same. cc) (skips (λ same. cc) (skips (λ same. cc) (skips (λ same. cc) (takes run))))

-- no such word is there
pub drops_no_object : (tokens : List TokenKind) (outcome : Result (List TokenKind) (Option (List TokenKind)))
    → ((kind : ObjectKind) → Lacks (object_word kind) tokens) → Runs (need kinds.Referent drop_referent_form) tokens outcome → Runs drop_form tokens outcome
drops_no_object tokens outcome none run =
    skips (none objects.Route) (skips (none objects.Table) (skips (none objects.View) (skips (none objects.Alignment) (skips (none objects.Index) run))))

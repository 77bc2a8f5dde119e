-- Where many cells wait, they are looked for.
use Rattle.std.proofs.Common.{◌≡◌, ℕ, sym, subst}
use Rattle.std.specs.List.{AllByRecursion}
use Rattle.rs_attr.specs.Tables.{IndexState}
use Rattle.rs_attr.proofs.opening.gather_one.Goals as goal

pub check_all-requires : goal.check_all-requires
check_all-requires g c = record {
  indexes = subst (λ (w : ℕ). AllByRecursion (λ (index : IndexState). index.field.cell_width ≡ w) c.args.indexes.now) (sym c.in_ok-push.ensures.width) c.requires.indexes;
}

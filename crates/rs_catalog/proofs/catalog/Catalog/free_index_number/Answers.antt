use Rattle.std.proofs.Common.{◌<◌, length, sym, ap, subst, ◌∙◌}
use Rattle.rs_catalog.proofs.FreeNumbers.{length-none}
use Rattle.rs_catalog.proofs.catalog.Catalog.free_index_number.Goals as goal

pub free_number-requires-clause-each : goal.free_number-requires-clause-each
free_number-requires-clause-each c name value there =
    subst (λ n. value.number < n) (sym (ap length c.none.ensures ∙ length-none _)) (c.self.invariant.indexes name value there).0

-- Where there is no header, or another, there is no page of the catalogue.
use Rattle.std.proofs.Common.{Option, Some, None, IfNone, length}
use Rattle.rs_catalog_pages.specs.Chain.{catalogue_header}
use Rattle.rs_catalog_pages.proofs.part.part_of.Goals as goal

-- what holds anyhow holds where there is none
on_none : {T P : Type 0} (found : Option T) → P → IfNone found P
on_none (Some value) holds = tt
on_none None holds = holds

pub returns-in_err-header-clause-none : goal.returns-in_err-header-clause-none
returns-in_err-header-clause-none c = on_none c.from_residual.result (λ next part is. c.in_err-header.ensures.none (catalogue_header (length part) c.args.number next) is.header)

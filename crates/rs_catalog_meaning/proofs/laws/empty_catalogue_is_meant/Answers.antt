use Rattle.std.proofs.Common.{refl, arith}
use Rattle.rs_catalog_pages.proofs.Counting.{times-none}
use Rattle.rs_catalog_meaning.proofs.laws.empty_catalogue_is_meant.Goals as goal

pub returns : goal.returns
returns c = record {
  routes = record { in_order = refl; each = tt; few = omega arith; numbers_below = tt; numbers_once = λ number. omega (arith, times-none number) };
  tables = record { in_order = refl; each = tt; few = omega arith };
  indexes = record { in_order = refl; each = tt; few = omega arith };
  views = record { in_order = refl; each = tt; few = omega arith };
  alignments = record { in_order = refl; each = tt; few = omega arith };
}

-- What the code computes on the way. No public clause cites this.
use Rattle.std.specs.Prelude.{ℕ, List, [], decimal}
use Rattle.rs_refusal.specs.declared.refusal.Refusal.{Refusal}
use Rattle.rs_refusal.specs.declared.refusal.Refusal.TheVariants.{Syntax}

-- the digits of the column, where the refusal names one
abbrev pub column_digits : Refusal → List ℕ
column_digits (Syntax column) = decimal column
column_digits _ = []

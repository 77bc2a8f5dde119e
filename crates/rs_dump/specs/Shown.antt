-- What is shown of an inventory beside its definitions and referents, and what many reads of it keep.
use Rattle.std.specs.Prelude.{ℕ, List}
use Rattle.rs_facts.specs.Runs.{Stretch}
use Rattle.rs_value.specs.declared.column.Kind.{Kind}

-- the spans of each table, by its number and kind, on each route, by its number
abbrev pub Shown : Type 0
Shown = ℕ → Kind → ℕ → List Stretch

-- one call after another
pub data Many {S : Type 0} (passes : S → S → Type 0) (first : S) : S → Type 0 where
  none : Many passes first first
  more : {mid last : S} → Many passes first mid → passes mid last → Many passes first last

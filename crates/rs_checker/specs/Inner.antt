-- What the functions of this crate compute on the way. No clause of another crate speaks of it.
use Rattle.std.specs.Prelude.{ℕ, ◌<◌, Bool, ◌&&◌, List, [], ◌∷◌, map}
use Rattle.std.specs.List.{AllByRecursion}
use Rattle.rs_facts.specs.Condition as said
use Rattle.rs_facts.specs.ConditionView.{condition_of, holds_always}
use Rattle.rs_facts.specs.declared.condition.Condition.{Condition}
use Rattle.rs_facts.specs.Insert.{same_name}
use Rattle.rs_facts.specs.Query.{Column}
use Rattle.rs_syntax.specs.declared.queries.Atom.{Atom}
use Rattle.rs_syntax.specs.QueryView.{all_of, atom_tree}
use Rattle.rs_syntax.specs.Tree.{ConditionTree}
use Rattle.rs_machine.specs.Checking.{same_class}

-- the same name, both of numbers or both of texts
abbrev pub is_same_column : Column → Column → Bool
is_same_column a b = same_name a.0 b.0 && same_class a.1 b.1

-- each is below the bound
abbrev pub AllBelow : ℕ → List ℕ → Type 0
AllBelow bound places = AllByRecursion (λ place. place < bound) places

-- ---- conditions

-- atoms between which AND stands
abbrev pub atoms_tree : List Atom → ConditionTree
atoms_tree atoms = all_of (map atom_tree atoms)

abbrev pub conditions_of : List Condition → List said.Condition
conditions_of parts = map condition_of parts

-- conditions between which AND stands, and OR
abbrev pub all_joined : List said.Condition → said.Condition
all_joined [] = holds_always
all_joined (first ∷ []) = first
all_joined (first ∷ second ∷ others) = said.both first (all_joined (second ∷ others))

abbrev pub any_joined : List said.Condition → said.Condition
any_joined [] = said.negated holds_always
any_joined (first ∷ []) = first
any_joined (first ∷ second ∷ others) = said.either first (any_joined (second ∷ others))

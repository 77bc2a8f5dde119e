-- The columns of a table that is to be defined.
use Rattle.std.proofs.Common.{◌≡◌, ◌≢◌, ◌≤◌, ◌∙◌, ◌||◌, Bool, true, false, not, List, [], ◌∷◌, Result, Ok, length, ap, refl, sym}
use Rattle.std.proofs.lemmas.Bool.{false≢true}
use Rattle.std.specs.List.{AllByRecursion, list_any}
use Rattle.rs_facts.specs.Fact.{Name}
use Rattle.rs_facts.specs.Insert.{same_name}
use Rattle.rs_facts.specs.Query.{Column}
use Rattle.std.specs.Cmp.{eq_by_cmp_equiv}
use Rattle.rs_catalog.proofs.NameOrder.{name_cmp-total}
use Rattle.rs_machine.specs.Checks.{◌>>=◌, column_names, column_types, has_table_or_view, some_name_twice, unless}
use Rattle.rs_machine.specs.Lawful.{AreColumnsOfTable, AreDistinct}
use Rattle.rs_machine.specs.State.{State}
use Rattle.rs_machine.specs.Step.{Effect, table_defined}
use Rattle.rs_refusal.specs.declared.refusal.Refusal.{Refusal}
use Rattle.rs_refusal.specs.declared.refusal.Refusal.TheVariants.{ColumnTwice, NameTaken}
use Rattle.rs_syntax.specs.Sound.{AreColumns}
use Rattle.rs_value.specs.declared.column.Kind.{Kind}
use Rattle.rs_value.specs.declared.column.TheConstants.{COLUMNS, ROW_BYTES}
use Rattle.rs_value.specs.Encoding.{row_width}

neither : (a b : Bool) → (a || b) ≡ false → (a ≡ false) × (b ≡ false)
neither true b either = absurd (false≢true (sym either))
neither false b either = (refl, either)

differs : (one other : Name) → same_name one other ≡ false → one ≢ other
differs one other apart same = false≢true (sym apart ∙ ap (same_name one) (sym same) ∙ (eq_by_cmp_equiv name_cmp-total).refl one)

others : (name : Name) (more : List Name) → list_any (same_name name) more ≡ false → AllByRecursion (λ other. name ≢ other) more
others name [] none = tt
others name (other ∷ more) none =
    let parts = neither (same_name name other) (list_any (same_name name) more) none in
    (differs name other parts.0, others name more parts.1)

distinct : (names : List Name) → some_name_twice names ≡ false → AreDistinct names
distinct [] none = tt
distinct (name ∷ more) none =
    let parts = neither (list_any (same_name name) more) (some_name_twice more) none in
    (others name more parts.0, distinct more parts.1)

never_twice : (taken twice : Bool) (rest : Result Effect Refusal) (effect : Effect)
    → (unless (not taken) NameTaken >>= λ _. unless (not twice) ColumnTwice >>= λ _. rest) ≡ Ok effect → twice ≡ false
never_twice true twice rest effect accepted = cc
never_twice false true rest effect accepted = cc
never_twice false false rest effect accepted = refl

-- those of an accepted command are a table's
pub columns_accepted : (state : State) (kind : Kind) (name : Name) (columns : List Column) (effect : Effect) → 1 ≤ length columns → AreColumns columns → length columns ≤ COLUMNS
    → row_width (column_types columns) ≤ ROW_BYTES → table_defined state kind name columns ≡ Ok effect → AreColumnsOfTable columns
columns_accepted state kind name columns effect some sound few narrow accepted = record {
  some = some;
  few = few;
  narrow = narrow;
  sound = sound;
  distinct = distinct (column_names columns) (never_twice (has_table_or_view state name) (some_name_twice (column_names columns)) _ effect accepted);
}

-- A row of values that fits the columns is a row of theirs, and may be kept.
use Rattle.std.proofs.Common.{◌≡◌, min, true, List, [], ◌∷◌, length, Option, Some, None, Ok, refl, arith}
use Rattle.std.proofs.lemmas.Bool.{leb-true, and_parts}
use Rattle.std.specs.List.{AllByRecursion}
use Rattle.rs_refusal.specs.declared.refusal.Refusal.{Refusal}
use Rattle.rs_value.specs.declared.column.ColumnType.{ColumnType}
use Rattle.rs_value.specs.declared.column.ColumnType.TheVariants as types
use Rattle.rs_value.specs.declared.column.TheConstants.{TEXT_BYTES}
use Rattle.rs_value.specs.Row.{Datum, null, number, text, Row}
use Rattle.rs_value.specs.Values.{IsValue, AreValues, IsOfType, IsRowOf}
use Rattle.rs_value.specs.Fitting.{has_type, has_room, each_passes, misfit}
use Rattle.rs_value.specs.Kept.{MayBeKept}
use Rattle.rs_value.proofs.FittingLemmas.{fits_each, fits_kept}
use Rattle.rs_facts.specs.Query.{Column}
use Rattle.rs_machine.specs.Checks.{no_refusal, column_types, row_fits}
use Rattle.rs_catalog_laws.proofs.Numbers.{false_true}

of_type : (type : ColumnType) (datum : Datum) → IsValue datum → has_type type datum ≡ true → has_room type datum ≡ true → IsOfType type datum
of_type types.Int null is typed room = tt
of_type (types.Text most) null is typed room = tt
of_type types.Int (number n) is typed room = is
of_type types.Int (text bytes) is typed room = false_true typed
of_type (types.Text most) (number n) is typed room = false_true typed
of_type (types.Text most) (text bytes) is typed room = let few = leb-true (length bytes) (min most TEXT_BYTES) room in (is, omega arith)

row_of : (kinds : List ColumnType) (row : Row) → length kinds ≡ length row → AreValues row → each_passes has_type kinds row ≡ true → each_passes has_room kinds row ≡ true → IsRowOf kinds row
row_of [] [] same are typed room = tt
row_of [] (datum ∷ row) same are typed room = absurd (omega arith)
row_of (type ∷ kinds) [] same are typed room = absurd (omega arith)
row_of (type ∷ kinds) (datum ∷ row) same are typed room =
    let t = and_parts (has_type type datum) (each_passes has_type kinds row) typed in
    let r = and_parts (has_room type datum) (each_passes has_room kinds row) room in
    (of_type type datum are.0 t.0 r.0, row_of kinds row (omega arith) are.1 t.1 r.1)

fits_row : (kinds : List ColumnType) (row : Row) → AreValues row → misfit kinds row ≡ None → IsRowOf kinds row
fits_row kinds row are none =
    let fits = fits_each kinds row none in
    row_of kinds row fits.as_many are fits.typed fits.room

no_misfit : (o : Option Refusal) (u : Unit {0}) → no_refusal o ≡ Ok u → o ≡ None
no_misfit None u e = refl
no_misfit (Some r) u e = cc

pub row_fits-row : (columns : List Column) (row : Row) (u : Unit {0}) → AreValues row → row_fits columns row ≡ Ok u → IsRowOf (column_types columns) row
row_fits-row columns row u are fits = fits_row (column_types columns) row are (no_misfit (misfit (column_types columns) row) u fits)

pub row_fits-kept : (columns : List Column) (row : Row) (u : Unit {0}) → AreValues row → row_fits columns row ≡ Ok u → AllByRecursion MayBeKept row
row_fits-kept columns row u are fits = fits_kept (column_types columns) row are (no_misfit (misfit (column_types columns) row) u fits)

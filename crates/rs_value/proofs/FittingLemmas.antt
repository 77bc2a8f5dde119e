-- A step from one column to the next, of the tests of a row and of the row itself; and what a row that fits is.
use Rattle.std.proofs.Common.{◌≡◌, ℕ, ◌+◌, ◌<◌, min, List, [], ◌∷◌, Bool, true, false, not, ◌==◌, ◌&&◌, cond, Some, None, length, get_or, drop, refl, sym, ap, ◌∙◌, subst, eqb-true, arith}
use Rattle.std.proofs.lemmas.Bool.{leb-true, and_parts}
use Rattle.std.proofs.lemmas.List.{drop_more}
use Rattle.std.specs.List.{AllByRecursion}
use Rattle.rs_refusal.specs.declared.refusal.Refusal.TheVariants.{WrongValues, TextTooLong}
use Rattle.rs_value.specs.declared.column.ColumnType.{ColumnType}
use Rattle.rs_value.specs.declared.column.ColumnType.TheVariants as types
use Rattle.rs_value.specs.declared.column.TheConstants.{TEXT_BYTES}
use Rattle.rs_value.specs.declared.value.Literal.{Literal}
use Rattle.rs_value.specs.Row.{Datum, null, number, text, Row}
use Rattle.rs_value.specs.Values.{AreValues}
use Rattle.rs_value.specs.View.{literal_datum, literal_row}
use Rattle.rs_value.specs.Kept.{IsShort, MayBeKept}
use Rattle.rs_value.specs.Fitting.{has_type, has_room, each_passes, misfit}

pub literal_row_more : (literals : List Literal) (i : ℕ) (literal : Literal) → i < length literals → literal ≡ get_or literals i literal → literal_row (drop i literals) ≡ literal_datum literal ∷ literal_row (drop (i + 1) literals)
literal_row_more literals i literal within is = ap literal_row (drop_more literals i literal within) ∙ ap (λ (x : Literal). literal_datum x ∷ literal_row (drop (i + 1) literals)) (sym is)

pub passes_more : (test : ColumnType → Datum → Bool) (types : List ColumnType) (literals : List Literal) (i : ℕ) (type : ColumnType) (literal : Literal) → i < length types → i < length literals → literal ≡ get_or literals i literal
    → each_passes test (drop i types) (literal_row (drop i literals)) ≡ test (get_or types i type) (literal_datum literal) && each_passes test (drop (i + 1) types) (literal_row (drop (i + 1) literals))
passes_more test types literals i type literal in_types in_literals is =
    ap (λ ts. each_passes test ts (literal_row (drop i literals))) (drop_more types i type in_types)
    ∙ ap (each_passes test (get_or types i type ∷ drop (i + 1) types)) (literal_row_more literals i literal in_literals is)

-- What passes at this column is left to pass at the next.
pub passes_on : (test : ColumnType → Datum → Bool) (types : List ColumnType) (literals : List Literal) (i : ℕ) (type : ColumnType) (literal : Literal) → i < length types → i < length literals → literal ≡ get_or literals i literal → test (get_or types i type) (literal_datum literal) ≡ true
    → each_passes test (drop i types) (literal_row (drop i literals)) ≡ each_passes test (drop (i + 1) types) (literal_row (drop (i + 1) literals))
passes_on test types literals i type literal in_types in_literals is passes =
    passes_more test types literals i type literal in_types in_literals is
    ∙ ap (λ b. b && each_passes test (drop (i + 1) types) (literal_row (drop (i + 1) literals))) passes

-- what no misfit says, test by test
pub record FitsColumns (types : List ColumnType) (row : Row) : Type 0 where
  pub as_many : length types ≡ length row
  pub typed : each_passes has_type types row ≡ true
  pub room : each_passes has_room types row ≡ true

all_pass : (a b c : Bool) → cond (not a) (Some WrongValues) (cond (not b) (Some WrongValues) (cond (not c) (Some TextTooLong) None)) ≡ None → (a ≡ true) × (b ≡ true) × (c ≡ true)
all_pass true true true e = (refl, refl, refl)
all_pass true true false e = cc
all_pass true false c e = cc
all_pass false b c e = cc

pub fits_each : (types : List ColumnType) (row : Row) → misfit types row ≡ None → FitsColumns types row
fits_each types row none =
    let passed = all_pass (length types == length row) (each_passes has_type types row) (each_passes has_room types row) none in
    record { as_many = eqb-true (length types) (length row) passed.0; typed = passed.1; room = passed.2 }

short_of : (type : ColumnType) (datum : Datum) → has_type type datum ≡ true → has_room type datum ≡ true → IsShort datum
short_of type null typed room = tt
short_of type (number n) typed room = tt
short_of types.Int (text bytes) typed room = cc
short_of (types.Text most) (text bytes) typed room = let few = leb-true (length bytes) (min most TEXT_BYTES) room in omega arith

all_short : (types : List ColumnType) (row : Row) → length types ≡ length row → each_passes has_type types row ≡ true → each_passes has_room types row ≡ true → AllByRecursion IsShort row
all_short types [] same typed room = tt
all_short [] (datum ∷ row) same typed room = absurd (omega arith)
all_short (type ∷ types) (datum ∷ row) same typed room =
    let t = and_parts (has_type type datum) (each_passes has_type types row) typed in
    let r = and_parts (has_room type datum) (each_passes has_room types row) room in
    (short_of type datum t.0 r.0, all_short types row (omega arith) t.1 r.1)

pub fits_short : (types : List ColumnType) (row : Row) → misfit types row ≡ None → AllByRecursion IsShort row
fits_short types row none = let fits = fits_each types row none in all_short types row fits.as_many fits.typed fits.room

both : (row : Row) → AreValues row → AllByRecursion IsShort row → AllByRecursion MayBeKept row
both [] are short = tt
both (datum ∷ row) are short = ((are.0, short.0), both row are.1 short.1)

-- Values that fit are values as rows hold them.
pub fits_kept : (types : List ColumnType) (row : Row) → AreValues row → misfit types row ≡ None → AllByRecursion MayBeKept row
fits_kept types row are none = both row are (fits_short types row none)

-- the next literal of a list, and those after it
pub literal_left : (P : Datum → Type 0) (literals : List Literal) (i : ℕ) (literal : Literal) → i < length literals → literal ≡ get_or literals i literal → AllByRecursion P (literal_row (drop i literals))
    → P (literal_datum literal) × AllByRecursion P (literal_row (drop (i + 1) literals))
literal_left P literals i literal within is all = subst (AllByRecursion P) (literal_row_more literals i literal within is) all

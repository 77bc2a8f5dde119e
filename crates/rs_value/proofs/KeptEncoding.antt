-- What each step does from bytes that keep a row to bytes of one width, and back.
use Rattle.std.proofs.Common.{◌≡◌, ℕ, zero, suc, ◌+◌, ◌<◌, ◌≤◌, min, List, [], ◌∷◌, ◌++◌, length, drop, get_or, Bool, ◌==◌, IsTrue, rules, tests, refl, sym, ap, ◌∙◌, subst, arith, append_assoc, append-nil}
use Rattle.std.proofs.lemmas.List.{drop_all, drop_more, nil_from_length}
use Rattle.rs_value.specs.declared.column.ColumnType.{ColumnType}
use Rattle.rs_value.specs.declared.column.ColumnType.TheVariants as types
use Rattle.rs_value.specs.declared.column.TheConstants.{TEXT_BYTES}
use Rattle.rs_value.specs.Row.{Datum, null, number, text, Row}
use Rattle.rs_value.specs.Values.{IsOfType, IsRowOf}
use Rattle.rs_value.specs.Encoding.{SaysDatum, SaysRow}
use Rattle.rs_value.specs.Kept.{kept_datum, IsShort, MayBeKept, Keeps}
use Rattle.rs_value.proofs.EncodingSteps.{row_length, read_past}
use Rattle.rs_value.proofs.KeptRows.{keeps_is, keeps_one, keeps_both}

pub said_may : (type : ColumnType) (bytes : List ℕ) (datum : Datum) → SaysDatum type bytes datum → MayBeKept datum
said_may type bytes null h = (tt, tt)
said_may types.Int bytes (number n) h = (h.0, tt)
said_may types.Int bytes (text said) h = absurd h
said_may (types.Text most) bytes (number n) h = absurd h
said_may (types.Text most) bytes (text said) h = let short : length said ≤ min most TEXT_BYTES = h.1.0 in (h.0, omega arith)

-- the value that comes next, and those after it
row_next : (row : Row) (i : ℕ) → i < length row → drop i row ≡ get_or (drop i row) 0 null ∷ drop (i + 1) row
row_next [] i within = absurd (omega arith)
row_next (d ∷ row) zero within = refl
row_next (d ∷ row) (suc i) within =
    let more : suc i + 1 ≡ suc (i + 1) = omega arith in
    row_next row i (omega arith) ∙ ap (λ (n : ℕ). get_or (drop i row) 0 null ∷ drop n (d ∷ row)) (sym more)

pub typed_at : (types : List ColumnType) (row : Row) (i : ℕ) (d : ColumnType) → i < length types → IsRowOf types row → IsOfType (get_or types i d) (get_or (drop i row) 0 null)
typed_at [] row i d within h = absurd (omega arith)
typed_at (t ∷ types) [] i d within h = absurd h
typed_at (t ∷ types) (e ∷ row) zero d within h = h.0
typed_at (t ∷ types) (e ∷ row) (suc i) d within h = typed_at types row i d (omega arith) h.1

pub short_at : (bytes : List ℕ) (row : Row) → Keeps bytes row → IsShort (get_or row 0 null)
short_at bytes [] h = tt
short_at bytes (d ∷ row) h = h.values.0.1

-- A value is put after those that were.
pub put_step : (types : List ColumnType) (row : Row) (i : ℕ) (d : ColumnType) (said one : List ℕ) (datum : Datum) → i < length types → IsRowOf types row
    → datum ≡ get_or (drop i row) 0 null → SaysDatum (get_or types i d) one datum
    → ((rest : List ℕ) → SaysRow (drop i types) rest (drop i row) → SaysRow types (said ++ rest) row)
    → (rest : List ℕ) → SaysRow (drop (i + 1) types) rest (drop (i + 1) row) → SaysRow types ((said ++ one) ++ rest) row
put_step types row i d said one datum within typed is says so_far rest more =
    let there : i < length row = omega (arith, row_length types row typed) in
    let first : SaysDatum (get_or types i d) one (get_or (drop i row) 0 null) = subst (λ e. SaysDatum (get_or types i d) one e) is says in
    let left : SaysRow (drop i types) (one ++ rest) (drop i row) =
    subst (λ ts. SaysRow ts (one ++ rest) (drop i row)) (sym (drop_more types i d within))
    (subst (λ r. SaysRow (get_or types i d ∷ drop (i + 1) types) (one ++ rest) r) (sym (row_next row i there)) (one, rest, refl, first, more)) in
    subst (λ b. SaysRow types b row) (sym (append_assoc said one rest)) (so_far (one ++ rest) left)

pub put_end : (types : List ColumnType) (row : Row) (i : ℕ) (said : List ℕ) → length types ≤ i → IsRowOf types row
    → ((rest : List ℕ) → SaysRow (drop i types) rest (drop i row) → SaysRow types (said ++ rest) row) → SaysRow types said row
put_end types row i said past typed so_far =
    let no_row : drop i row ≡ [] = drop_all i row (omega (arith, row_length types row typed)) in
    let nothing : SaysRow (drop i types) [] (drop i row) =
    subst (λ ts. SaysRow ts [] (drop i row)) (sym (drop_all i types past)) (subst (λ r. SaysRow [] [] r) (sym no_row) refl) in
    subst (λ b. SaysRow types b row) (append-nil said) (so_far [] nothing)

-- A value is read after those that were.
pub take_step : (types : List ColumnType) (i : ℕ) (bytes rest others first : List ℕ) (d : ColumnType) (datum : Datum) (front : Row)
    → i < length types → rest ≡ first ++ others → SaysDatum (get_or types i d) first datum
    → ((row : Row) → SaysRow (drop i types) rest row → SaysRow types bytes (front ++ row))
    → (row : Row) → SaysRow (drop (i + 1) types) others row → SaysRow types bytes ((front ++ datum ∷ []) ++ row)
take_step types i bytes rest others first d datum front within is one so_far row more =
    let left : SaysRow (drop i types) rest (datum ∷ row) = subst (λ ts. SaysRow ts rest (datum ∷ row)) (sym (drop_more types i d within)) (first, others, is, one, more) in
    subst (λ r. SaysRow types bytes r) (sym (append_assoc front (datum ∷ []) row)) (so_far (datum ∷ row) left)

pub pushed : (old new : List ℕ) (datum : Datum) (front : Row) → Keeps old front → MayBeKept datum → new ≡ old ++ kept_datum datum → Keeps new (front ++ datum ∷ [])
pushed old new datum front h may is = keeps_is _ new _ _ (sym is) refl (keeps_both old (kept_datum datum) front (datum ∷ []) h (keeps_one datum (kept_datum datum) may refl))

pub take_end : (types : List ColumnType) (i : ℕ) (bytes rest : List ℕ) (front : Row) → length types ≤ i → rest ≡ []
    → ((row : Row) → SaysRow (drop i types) rest row → SaysRow types bytes (front ++ row)) → SaysRow types bytes front
take_end types i bytes rest front past empty so_far =
    let nothing : SaysRow (drop i types) rest [] = subst (λ ts. SaysRow ts rest []) (sym (drop_all i types past)) empty in
    subst (λ r. SaysRow types bytes r) (append-nil front) (so_far [] nothing)

pub read_whole : (types : List ColumnType) (i : ℕ) (bytes rest : List ℕ) (empty : Bool) → length types ≤ i → empty ≡ (length rest == 0)
    → ((row : Row) → SaysRow (drop i types) rest row → (whole : Row) × SaysRow types bytes whole)
    → ((row : Row) → SaysRow types bytes row → (left : Row) × SaysRow (drop i types) rest left)
    → (IsTrue empty → (row : Row) × SaysRow types bytes row) × (((row : Row) × SaysRow types bytes row) → IsTrue empty)
read_whole types i bytes rest empty past is some none = (
  (λ yes.
      let nil : rest ≡ [] = nil_from_length rest (search (rules, tests)) in
      some [] (subst (λ ts. SaysRow ts rest []) (sym (drop_all i types past)) nil)),
  (λ (row, says).
      let nil : rest ≡ [] = read_past types i bytes rest past none row says in
      subst IsTrue (sym (is ∙ ap (λ (l : List ℕ). length l == 0) nil)) refl),
)

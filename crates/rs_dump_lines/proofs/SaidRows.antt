-- The bytes that say a row are cut before a column.
use Rattle.std.proofs.Common.{◌≡◌, ◌≤◌, ◌<◌, ◌+◌, ◌-◌, ◌∙◌, ℕ, zero, suc, List, [], ◌∷◌, ◌++◌, ap, append_assoc, append-nil, arith, drop, get_or, length, length-append, refl, subst, sym, take}
use Rattle.std.proofs.lemmas.List.{drop-take, drop_at, drop_more, take-take, take_at}
use Rattle.rs_value.specs.declared.column.ColumnType.{ColumnType}
use Rattle.rs_value.specs.Encoding.{SaysDatum, SaysRow, width}
use Rattle.rs_value.specs.Row.{Datum, Row, null}
use Rattle.rs_value.proofs.EncodingOrder.{datum_wide}

-- a row has as many values as there are columns
pub said_long : (types : List ColumnType) (bytes : List ℕ) (row : Row) → SaysRow types bytes row → length row ≡ length types
said_long [] bytes [] says = refl
said_long [] bytes (datum ∷ row) says = absurd says
said_long (type ∷ types) bytes [] says = absurd says
said_long (type ∷ types) bytes (datum ∷ row) (first, rest, is, one, more) = ap suc (said_long types rest row more)

-- Those before a column say the row of the columns before it, and the others the rest.
pub said_apart : (types : List ColumnType) (k : ℕ) (bytes : List ℕ) (row : Row) → SaysRow types bytes row
    → (before after : List ℕ) × (bytes ≡ before ++ after) × SaysRow (take k types) before (take k row) × SaysRow (drop k types) after (drop k row)
said_apart types zero bytes row says = ([], bytes, refl, refl, says)
said_apart [] (suc k) bytes [] says = ([], bytes, refl, refl, says)
said_apart [] (suc k) bytes (datum ∷ row) says = absurd says
said_apart (type ∷ types) (suc k) bytes [] says = absurd says
said_apart (type ∷ types) (suc k) bytes (datum ∷ row) (first, rest, is, one, more) =
    let apart = said_apart types k rest row more in
    let whole : bytes ≡ (first ++ apart.0) ++ apart.1 = is ∙ ap (λ l. first ++ l) apart.2 ∙ sym (append_assoc first apart.0 apart.1) in
    (first ++ apart.0, apart.1, whole, (first, apart.0, refl, one, apart.3), apart.4)

-- the first of the columns, and those after it
pub said_first : (type : ColumnType) (types : List ColumnType) (wide : ℕ) (bytes : List ℕ) (row : Row) → wide ≡ width type → SaysRow (type ∷ types) bytes row
    → (wide ≤ length bytes) × SaysDatum type (take wide bytes) (get_or row 0 null) × SaysRow types (drop wide bytes) (drop 1 row)
said_first type types wide bytes [] is says = absurd says
said_first type types wide bytes (datum ∷ row) is (first, rest, bytes_are, one, more) =
    let long : length first ≡ wide = datum_wide type first datum one ∙ sym is in
    let front : first ≡ take wide bytes = sym (ap (take wide) bytes_are ∙ take_at first rest wide long) in
    let back : rest ≡ drop wide bytes = sym (ap (drop wide) bytes_are ∙ drop_at first rest wide long) in
    (omega (arith, ap length bytes_are ∙ length-append first rest), subst (λ l. SaysDatum type l datum) front one, subst (λ l. SaysRow types l row) back more)

-- the column that comes next, and those after it
pub said_next : (types : List ColumnType) (bytes rest : List ℕ) (i wide : ℕ) (d : ColumnType) (row : Row) → i < length types → wide ≡ width (get_or types i d)
    → SaysRow types bytes row → SaysRow (drop i types) rest (drop i row)
    → (wide ≤ length rest) × SaysDatum (get_or types i d) (take wide rest) (get_or row i null) × SaysRow (drop (i + 1) types) (drop wide rest) (drop (i + 1) row)
said_next types bytes rest i wide d row within is whole says =
    let there : i < length row = omega (arith, said_long types bytes row whole) in
    said_first (get_or types i d) (drop (i + 1) types) wide rest (get_or row i null ∷ drop (i + 1) row) is
    (subst (λ ts. SaysRow ts rest (get_or row i null ∷ drop (i + 1) row)) (drop_more types i d within) (subst (λ r. SaysRow (drop i types) rest r) (drop_more row i null there) says))

-- the only column there is
said_alone : (type : ColumnType) (bytes : List ℕ) (row : Row) → SaysRow (type ∷ []) bytes row → SaysDatum type bytes (get_or row 0 null)
said_alone type bytes [] says = absurd says
said_alone type bytes (datum ∷ []) (first, rest, is, one, more) = subst (λ l. SaysDatum type l datum) (sym (is ∙ ap (λ l. first ++ l) more ∙ append-nil first)) one
said_alone type bytes (datum ∷ other ∷ row) (first, rest, is, one, more) = absurd more

-- the last of the first items
one_left : {X : Type 0} (xs : List X) (last next : ℕ) (d : X) → last + 1 ≡ next → next ≤ length xs → drop last (take next xs) ≡ get_or xs last d ∷ []
one_left xs last next d is few = ap (λ n. drop last (take n xs)) (sym is) ∙ drop-take last 1 xs ∙ ap (take 1) (drop_more xs last d (omega arith))

-- the last of the first columns, and those before it
pub said_last : (types : List ColumnType) (bytes rest : List ℕ) (last next wide : ℕ) (d : ColumnType) (row : Row) → last + 1 ≡ next → next ≤ length types
    → wide ≡ width (get_or types last d) → SaysRow types bytes row → SaysRow (take next types) rest (take next row)
    → (wide ≤ length rest) × SaysDatum (get_or types last d) (drop (length rest - wide) rest) (get_or row last null) × SaysRow (take last types) (take (length rest - wide) rest) (take last row)
said_last types bytes rest last next wide d row is few wide_is whole says =
    let there : next ≤ length row = omega (arith, said_long types bytes row whole) in
    let apart = said_apart (take next types) last rest (take next row) says in
    let before = apart.0 in
    let after = apart.1 in
    let one : SaysDatum (get_or types last d) after (get_or row last null) =
    said_alone (get_or types last d) after (get_or row last null ∷ [])
    (subst (λ ts. SaysRow ts after (get_or row last null ∷ [])) (one_left types last next d is few) (subst (λ r. SaysRow (drop last (take next types)) after r) (one_left row last next null is there) apart.4)) in
    let fewer : SaysRow (take last types) before (take last row) =
    subst (λ ts. SaysRow ts before (take last row)) (take-take last next types (omega arith)) (subst (λ r. SaysRow (take last (take next types)) before r) (take-take last next row (omega arith)) apart.3) in
    let long : length after ≡ wide = datum_wide (get_or types last d) after (get_or row last null) one ∙ sym wide_is in
    let all : length rest ≡ length before + length after = ap length apart.2 ∙ length-append before after in
    let cut : length before ≡ length rest - wide = omega arith in
    let back : after ≡ drop (length rest - wide) rest = sym (ap (drop (length rest - wide)) apart.2 ∙ drop_at before after (length rest - wide) cut) in
    let front : before ≡ take (length rest - wide) rest = sym (ap (take (length rest - wide)) apart.2 ∙ take_at before after (length rest - wide) cut) in
    (omega arith, subst (λ l. SaysDatum (get_or types last d) l (get_or row last null)) back one, subst (λ l. SaysRow (take last types) l (take last row)) front fewer)

-- the only column that is left of more
pub said_only : (types : List ColumnType) (rest : List ℕ) (left : ℕ) (d : ColumnType) (row : Row) → left ≡ 1 → 1 ≤ length types → SaysRow (take left types) rest (take left row) → SaysDatum (get_or types 0 d) rest (get_or row 0 null)
said_only [] rest left d row is some says = absurd (omega arith)
said_only (type ∷ types) rest left d [] is some says = absurd (subst (λ n. SaysRow (take n (type ∷ types)) rest (take {A = Datum} n [])) is says)
said_only (type ∷ types) rest left d (datum ∷ row) is some says = said_alone type rest (datum ∷ []) (subst (λ n. SaysRow (take n (type ∷ types)) rest (take n (datum ∷ row))) is says)

-- What each step of writing and of reading a row does.
use Rattle.std.proofs.Common.{◌≡◌, ℕ, zero, suc, ◌+◌, ◌-◌, ◌<◌, ◌≤◌, List, [], ◌∷◌, ◌++◌, length, get_or, take, drop, map, replicate, slice_set, Option, Some, None, IfSome, IfNone, Result, Ok, Err, IfOk, true, false, ◌&&◌, ◌==◌, nat_lt, IsTrue, refl, sym, ap, subst, ◌∙◌, arith, rules, tests, not, append_assoc, append-nil, length-append, IsUtf8}
use Rattle.std.specs.List.{position_or_len, list_all, list_any}
use Rattle.std.proofs.lemmas.List.{map-append, take_all, drop_all, drop_more, take_at, drop_at, length-replicate}
use Rattle.std.specs.Result.{result_ok}
use Rattle.std.specs.Str.{IsAscii, is_utf8}
use Rattle.std.proofs.lemmas.Str.{IsUtf8-from_ascii, IsUtf8-from_is_utf8, is_utf8-from_IsUtf8}
use Rattle.std.proofs.lemmas.Str.Ascii.{IsAscii-cons, IsAscii-nil}
use Rattle.std.proofs.lemmas.Bool.{and_parts, ltb-true, ne_eqb, not-true}
use Rattle.std.proofs.lemmas.List.Sums.{sum_by-cons}
use borrow.Rule.Slice.PartMut.{put_mid}
use Rattle.std.proofs.lemmas.Slice.{take-put_mid}
use Rattle.rs_value.specs.declared.column.ColumnType.{ColumnType}
use Rattle.rs_value.specs.declared.value.Value.{Value}
use Rattle.rs_value.specs.Row.{Datum, text, Row}
use Rattle.rs_value.specs.Values.{is_control, is_plain, is_text, IsValue, IsOfType, IsRowOf}
use Rattle.rs_value.specs.View.{datum_of}
use Rattle.rs_value.specs.Encoding.{width, row_width, SaysText, SaysDatum, SaysRow}
use Rattle.rs_value.proofs.EncodingOrder.{false_parts, above_zeros, not_control, datum_wide}

-- a byte in front, and all bytes after it written anew
pub tagged : (tag : ℕ) (bytes body : List ℕ) → 1 ≤ length bytes → put_mid 1 (length (slice_set bytes 0 tag) - 1) (slice_set bytes 0 tag) body ≡ tag ∷ body
tagged tag [] body some = absurd (omega arith)
tagged tag (b ∷ bytes) body some =
    let past : length bytes ≤ length (b ∷ bytes) - 1 = omega arith in
    ap (λ l. tag ∷ l) (ap (λ l. body ++ l) (drop_all (length (b ∷ bytes) - 1) bytes past) ∙ append-nil body)

-- A text and zeros after it, in the room after the first byte.
pub filled : (tag : ℕ) (bytes said now given : List ℕ) → 1 ≤ length bytes → given ≡ said → now ≡ given ++ replicate (length (take (length (slice_set bytes 0 tag) - 1) (drop 1 (slice_set bytes 0 tag))) - length given) 0
    → now ≡ said ++ replicate (length bytes - 1 - length said) 0
filled tag [] said now given some same is = absurd (omega arith)
filled tag (b ∷ bytes) said now given some same is =
    let all : length (take (length (b ∷ bytes) - 1) bytes) ≡ length (b ∷ bytes) - 1 = ap length (take_all (length (b ∷ bytes) - 1) bytes (omega arith)) ∙ omega arith in
    is ∙ ap (λ t. t ++ replicate {A = ℕ} (length (take (length (b ∷ bytes) - 1) bytes) - length t) 0) same ∙ ap (λ n. said ++ replicate {A = ℕ} (n - length said) 0) all

-- A text without zeros ends where the first zero after it is.
pub text_end : (said : List ℕ) (n : ℕ) → list_any is_control said ≡ false → position_or_len (λ byte. byte == 0) (said ++ replicate n 0) ≡ length said
text_end [] zero clean = refl
text_end [] (suc n) clean = refl
text_end (b ∷ said) n clean =
    let parts = false_parts (is_control b) (list_any is_control said) clean in
    let other : (b == 0) ≡ false = ne_eqb b 0 (λ e. let some = above_zeros b parts.0 in absurd (omega arith)) in
    let rest : position_or_len (λ byte. byte == 0) (said ++ replicate n 0) ≡ length said = text_end said n parts.1 in
    let more : 1 + position_or_len (λ byte. byte == 0) (said ++ replicate n 0) ≡ suc (length said) = omega arith in
    rw other more

-- UTF-8 without a control byte is text, and nothing else
pub text_true : (bytes : List ℕ) → IsUtf8 bytes → list_any is_control bytes ≡ false → IsTrue (is_text bytes)
text_true bytes utf8 plain = rw (is_utf8-from_IsUtf8 bytes utf8, plain) refl

-- a byte of printable ASCII
plain_byte : (byte : ℕ) → is_plain byte ≡ true → (byte < 128) × (is_control byte ≡ false)
plain_byte byte h =
    let parts = and_parts (not (nat_lt byte 32)) (nat_lt byte 127) h in
    let below : byte < 127 = ltb-true byte 127 parts.1 in
    let other : (byte == 127) ≡ false = ne_eqb byte 127 (λ e. absurd (omega (arith, e, below))) in
    let wide : byte < 128 = omega (arith, below) in
    (wide, rw (not-true (nat_lt byte 32) parts.0, other) refl)

-- Printable ASCII is text.
plain_all : (bytes : List ℕ) → list_all is_plain bytes ≡ true → IsAscii bytes × (list_any is_control bytes ≡ false)
plain_all [] h = (IsAscii-nil, refl)
plain_all (b ∷ bytes) h =
    let parts = and_parts (is_plain b) (list_all is_plain bytes) h in
    let first = plain_byte b parts.0 in
    let rest = plain_all bytes parts.1 in
    (IsAscii-cons b bytes first.0 rest.0, rw (first.1, rest.1) refl)

pub plain_text : (bytes : List ℕ) → list_all is_plain bytes ≡ true → IsTrue (is_text bytes)
plain_text bytes h = let parts = plain_all bytes h in text_true bytes (IsUtf8-from_ascii bytes parts.0) parts.1

pub no_utf8_text : (bytes : List ℕ) → (IsUtf8 bytes → ⊥) → is_text bytes ≡ false
no_utf8_text bytes none =
    elim (is_utf8 bytes) as (λ b. is_utf8 bytes ≡ b → (b && not (list_any is_control bytes)) ≡ false) [ true ↦ λ e. absurd (none (IsUtf8-from_is_utf8 bytes e)) | false ↦ λ e. refl ] refl

pub text_utf8 : (bytes : List ℕ) → IsTrue (is_text bytes) → IsUtf8 bytes
text_utf8 bytes is = IsUtf8-from_is_utf8 bytes (and_parts (is_utf8 bytes) (not (list_any is_control bytes)) (search (rules, tests))).0

-- The text that bytes say is before their first zero, and zeros are after it.
pub text_cut : (bytes said : List ℕ) (place : ℕ) → place ≡ position_or_len (λ byte. byte == 0) bytes → IsValue (text said) → SaysText (length bytes) (1 ∷ bytes) said
    → (take place bytes ≡ said) × (drop place bytes ≡ replicate (length bytes - length said) 0)
text_cut bytes said place at is (short, says) =
    let body : bytes ≡ said ++ replicate (length bytes - length said) 0 = ap (drop 1) says in
    let ends : length said ≡ place = sym (at ∙ ap (position_or_len (λ byte. byte == 0)) body ∙ text_end said (length bytes - length said) (not_control said is)) in
    (ap (take place) body ∙ take_at said _ place ends, ap (drop place) body ∙ drop_at said _ place ends)

-- Zeros are as many as they are.
pub all_zeros : (bytes : List ℕ) (n : ℕ) → bytes ≡ replicate n 0 → bytes ≡ replicate (length bytes) 0
all_zeros bytes n is = is ∙ ap (λ k. replicate {A = ℕ} k 0) (sym (ap length is ∙ length-replicate n 0))

pub none_from : {X A B : Type 0} (r : Option X) → (A → B) → IfNone r A → IfNone r B
none_from None f h = f h
none_from (Some x) f h = tt

-- the columns and values that are left are the next ones and those after it
row_left : (row : List Value) (i : ℕ) (value : Value) → i < length row → value ≡ get_or row i value → map datum_of (drop i row) ≡ datum_of value ∷ map datum_of (drop (i + 1) row)
row_left row i value within is = ap (map datum_of) (drop_more row i value within) ∙ ap (λ v. datum_of v ∷ map datum_of (drop (i + 1) row)) (sym is)

pub width_left : (types : List ColumnType) (i : ℕ) (d : ColumnType) → i < length types → row_width (drop i types) ≡ width (get_or types i d) + row_width (drop (i + 1) types)
width_left types i d within = ap row_width (drop_more types i d within) ∙ sum_by-cons width (get_or types i d) (drop (i + 1) types)

pub row_length : (types : List ColumnType) (row : Row) → IsRowOf types row → length row ≡ length types
row_length [] [] h = refl
row_length [] (d ∷ row) h = absurd h
row_length (t ∷ types) [] h = absurd h
row_length (t ∷ types) (d ∷ row) h = ap suc (row_length types row h.1)

pub ok_some : {A E : Type 0} (P Q : A → Type 0) (r : Result A E) (o : Option A) → o ≡ result_ok r → ((x : A) → P x → Q x) → IfOk r P → IfSome o Q
ok_some P Q (Ok x) o is f h = subst (λ p. IfSome p Q) (sym is) (f x h)
ok_some P Q (Err e) o is f h = subst (λ p. IfSome p Q) (sym is) tt

-- the next column's value and the bytes after it
nothing_left : (bytes : List ℕ) (row : Row) → SaysRow [] bytes row → bytes ≡ []
nothing_left bytes [] says = says
nothing_left bytes (datum ∷ row) says = absurd says

pub row_split : (type : ColumnType) (types : List ColumnType) (bytes : List ℕ) (row : Row) → SaysRow (type ∷ types) bytes row
    → (width type ≤ length bytes) × ((datum : Datum) × SaysDatum type (take (width type) bytes) datum) × ((left : Row) × SaysRow types (drop (width type) bytes) left)
row_split type types bytes [] says = absurd says
row_split type types bytes (datum ∷ left) (first, rest, is, one, more) =
    let wide : length first ≡ width type = datum_wide type first datum one in
    let front : first ≡ take (width type) bytes = sym (ap (take (width type)) is ∙ take_at first rest (width type) wide) in
    let back : rest ≡ drop (width type) bytes = sym (ap (drop (width type)) is ∙ drop_at first rest (width type) wide) in
    (omega (arith, ap length is ∙ length-append first rest), (datum, subst (λ l. SaysDatum type l datum) front one), (left, subst (λ l. SaysRow types l left) back more))

pub write_step : (types : List ColumnType) (row : List Value) (i at end : ℕ) (bytes part new : List ℕ) (type : ColumnType) (value : Value)
    → i < length types → i < length row → value ≡ get_or row i value
    → at ≤ length bytes → end ≡ at + width (get_or types i type) → new ≡ put_mid at (end - at) bytes part → SaysDatum (get_or types i type) part (datum_of value)
    → ((rest : List ℕ) → SaysRow (drop i types) rest (map datum_of (drop i row)) → SaysRow types (take at bytes ++ rest) (map datum_of row))
    → (rest : List ℕ) → SaysRow (drop (i + 1) types) rest (map datum_of (drop (i + 1) row)) → SaysRow types (take end new ++ rest) (map datum_of row)
write_step types row i at end bytes part new type value in_types in_row is_value within ends written one so_far rest more =
    let left : SaysRow (drop i types) (part ++ rest) (map datum_of (drop i row)) =
    subst (λ ts. SaysRow ts (part ++ rest) (map datum_of (drop i row))) (sym (drop_more types i type in_types))
    (subst (λ r. SaysRow (get_or types i type ∷ drop (i + 1) types) (part ++ rest) r) (sym (row_left row i value in_row is_value)) (part, rest, refl, one, more)) in
    let wide : length part ≡ width (get_or types i type) = datum_wide (get_or types i type) part (datum_of value) one in
    let front : take end new ≡ take at bytes ++ part = ap (take end) written ∙ take-put_mid at (end - at) bytes part end (omega arith) within in
    subst (λ b. SaysRow types b (map datum_of row)) (sym (ap (λ l. l ++ rest) front ∙ append_assoc (take at bytes) part rest)) (so_far (part ++ rest) left)

pub read_step : (types : List ColumnType) (items : List Value) (i : ℕ) (bytes rest others first : List ℕ) (type : ColumnType) (value : Value)
    → i < length types → rest ≡ first ++ others → SaysDatum (get_or types i type) first (datum_of value)
    → ((row : Row) → SaysRow (drop i types) rest row → SaysRow types bytes (map datum_of items ++ row))
    → (row : Row) → SaysRow (drop (i + 1) types) others row → SaysRow types bytes (map datum_of (items ++ value ∷ []) ++ row)
read_step types items i bytes rest others first type value in_types is one so_far row more =
    let left : SaysRow (drop i types) rest (datum_of value ∷ row) = subst (λ ts. SaysRow ts rest (datum_of value ∷ row)) (sym (drop_more types i type in_types)) (first, others, is, one, more) in
    let pushed : map datum_of (items ++ value ∷ []) ++ row ≡ map datum_of items ++ datum_of value ∷ row = ap (λ l. l ++ row) (map-append datum_of items (value ∷ [])) ∙ append_assoc (map datum_of items) (datum_of value ∷ []) row in
    subst (λ r. SaysRow types bytes r) (sym pushed) (so_far (datum_of value ∷ row) left)

pub typed_left : (types : List ColumnType) (row : List Value) (i : ℕ) (type : ColumnType) (value : Value)
    → i < length types → i < length row → value ≡ get_or row i value → IsRowOf (drop i types) (map datum_of (drop i row))
    → IsOfType (get_or types i type) (datum_of value) × IsRowOf (drop (i + 1) types) (map datum_of (drop (i + 1) row))
typed_left types row i type value in_types in_row is_value typed =
    subst (λ r. IsRowOf (get_or types i type ∷ drop (i + 1) types) r) (row_left row i value in_row is_value) (subst (λ ts. IsRowOf ts (map datum_of (drop i row))) (drop_more types i type in_types) typed)

pub write_end : (types : List ColumnType) (row : List Value) (i at : ℕ) (bytes : List ℕ) → length types ≤ i → length row ≡ length types → length bytes ≡ row_width types
    → at + row_width (drop i types) ≡ row_width types
    → ((rest : List ℕ) → SaysRow (drop i types) rest (map datum_of (drop i row)) → SaysRow types (take at bytes ++ rest) (map datum_of row))
    → SaysRow types bytes (map datum_of row)
write_end types row i at bytes past same wide place so_far =
    let no_types : drop i types ≡ [] = drop_all i types past in
    let no_row : drop i row ≡ [] = drop_all i row (omega arith) in
    let ends : length bytes ≡ at = wide ∙ sym place ∙ ap (λ ts. at + row_width ts) no_types ∙ omega arith in
    let nothing : SaysRow (drop i types) [] (map datum_of (drop i row)) =
    subst (λ ts. SaysRow ts [] (map datum_of (drop i row))) (sym no_types) (subst (λ r. SaysRow [] [] (map datum_of r)) (sym no_row) refl) in
    subst (λ b. SaysRow types b (map datum_of row)) (append-nil (take at bytes) ∙ take_all at bytes (omega arith)) (so_far [] nothing)

pub read_next : (types : List ColumnType) (i wide : ℕ) (bytes rest : List ℕ) (type : ColumnType) → i < length types → wide ≡ width (get_or types i type)
    → ((row : Row) → SaysRow types bytes row → (left : Row) × SaysRow (drop i types) rest left)
    → (row : Row) → SaysRow types bytes row
    → (wide ≤ length rest) × ((datum : Datum) × SaysDatum (get_or types i type) (take wide rest) datum) × ((left : Row) × SaysRow (drop (i + 1) types) (drop wide rest) left)
read_next types i wide bytes rest type within at so_far row says =
    let left = so_far row says in
    let split = row_split (get_or types i type) (drop (i + 1) types) rest left.0 (subst (λ ts. SaysRow ts rest left.0) (drop_more types i type within) left.1) in
    subst (λ n. (n ≤ length rest) × ((datum : Datum) × SaysDatum (get_or types i type) (take n rest) datum) × ((left : Row) × SaysRow (drop (i + 1) types) (drop n rest) left)) (sym at) split

pub read_end : (types : List ColumnType) (items : List Value) (i : ℕ) (bytes rest : List ℕ) → length types ≤ i → rest ≡ []
    → ((row : Row) → SaysRow (drop i types) rest row → SaysRow types bytes (map datum_of items ++ row)) → SaysRow types bytes (map datum_of items)
read_end types items i bytes rest past empty so_far =
    let nothing : SaysRow (drop i types) rest [] = subst (λ ts. SaysRow ts rest []) (sym (drop_all i types past)) empty in
    subst (λ r. SaysRow types bytes r) (append-nil (map datum_of items)) (so_far [] nothing)

-- Where bytes are left after the last column, they are no row.
pub read_past : (types : List ColumnType) (i : ℕ) (bytes rest : List ℕ) → length types ≤ i → ((row : Row) → SaysRow types bytes row → (left : Row) × SaysRow (drop i types) rest left)
    → (row : Row) → SaysRow types bytes row → rest ≡ []
read_past types i bytes rest past so_far row says = let left = so_far row says in nothing_left rest left.0 (subst (λ ts. SaysRow ts rest left.0) (drop_all i types past) left.1)

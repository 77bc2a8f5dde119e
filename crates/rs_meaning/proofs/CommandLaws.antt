-- What lists of columns, values and pieces say, item by item.
use Rattle.std.proofs.Common.{◌≡◌, ℕ, zero, suc, ◌+◌, ◌<◌, List, [], ◌∷◌, ◌++◌, length, take, get_or, sym, subst, arith}
use Rattle.std.proofs.lemmas.List.{take_more}
use Rattle.rs_value.specs.declared.column.ColumnType.{ColumnType}
use Rattle.rs_value.specs.Row.{Datum, Row}
use Rattle.rs_syntax.specs.declared.written.WrittenColumn.{WrittenColumn}
use Rattle.rs_syntax.specs.declared.written.WrittenValue.{WrittenValue}
use Rattle.rs_syntax.specs.declared.written.WrittenPiece.{WrittenPiece}
use Rattle.rs_lexer.specs.Lexis.{token_text}
use Rattle.rs_syntax.specs.Tree.{PieceTree}
use Rattle.rs_syntax.specs.Written.{SaysType, SaysColumns, SaysDatum, SaysRow, SaysPiece, SaysPieces}

SaysColumns-push : (line : List ℕ) (written : List WrittenColumn) (columns : List (List ℕ × ColumnType)) (w : WrittenColumn) (c : List ℕ × ColumnType)
    → SaysColumns line written columns → c.0 ≡ token_text line w.name → SaysType line w.column_type c.1 → SaysColumns line (written ++ w ∷ []) (columns ++ c ∷ [])
SaysColumns-push line [] [] w c says name type = (name, type, tt)
SaysColumns-push line [] (column ∷ columns) w c says name type = absurd says
SaysColumns-push line (first ∷ written) [] w c says name type = absurd says
SaysColumns-push line (first ∷ written) (column ∷ columns) w c says name type = (says.0, says.1, SaysColumns-push line written columns w c says.2 name type)

-- one column more
pub columns_more : (line : List ℕ) (written : List WrittenColumn) (i : ℕ) (d : WrittenColumn) (columns : List (List ℕ × ColumnType)) (c : List ℕ × ColumnType)
    → i < length written → SaysColumns line (take i written) columns → c.0 ≡ token_text line (get_or written i d).name → SaysType line (get_or written i d).column_type c.1
    → SaysColumns line (take (i + 1) written) (columns ++ c ∷ [])
columns_more line written i d columns c h says name type =
    subst (λ ws. SaysColumns line ws (columns ++ c ∷ [])) (sym (take_more written i d h)) (SaysColumns-push line (take i written) columns (get_or written i d) c says name type)

-- where one column says nothing, all say nothing
pub no_columns : (line : List ℕ) (written : List WrittenColumn) (i : ℕ) (d : WrittenColumn) → i < length written
    → ((type : ColumnType) → SaysType line (get_or written i d).column_type type → ⊥) → (columns : List (List ℕ × ColumnType)) → SaysColumns line written columns → ⊥
no_columns line [] i d h none columns says = omega arith
no_columns line (w ∷ written) i d h none [] says = says
no_columns line (w ∷ written) zero d h none (column ∷ columns) says = none column.1 says.1
no_columns line (w ∷ written) (suc i) d h none (column ∷ columns) says = no_columns line written i d (omega arith) none columns says.2

SaysRow-push : (line : List ℕ) (written : List WrittenValue) (row : Row) (w : WrittenValue) (datum : Datum)
    → SaysRow line written row → SaysDatum line w datum → SaysRow line (written ++ w ∷ []) (row ++ datum ∷ [])
SaysRow-push line [] [] w datum says here = (here, tt)
SaysRow-push line [] (first ∷ row) w datum says here = absurd says
SaysRow-push line (first ∷ written) [] w datum says here = absurd says
SaysRow-push line (first ∷ written) (value ∷ row) w datum says here = (says.0, SaysRow-push line written row w datum says.1 here)

-- one value more
pub values_more : (line : List ℕ) (written : List WrittenValue) (i : ℕ) (d : WrittenValue) (row : Row) (datum : Datum)
    → i < length written → SaysRow line (take i written) row → SaysDatum line (get_or written i d) datum → SaysRow line (take (i + 1) written) (row ++ datum ∷ [])
values_more line written i d row datum h says here =
    subst (λ ws. SaysRow line ws (row ++ datum ∷ [])) (sym (take_more written i d h)) (SaysRow-push line (take i written) row (get_or written i d) datum says here)

-- where one value says nothing, all say nothing
pub no_row : (line : List ℕ) (written : List WrittenValue) (i : ℕ) (d : WrittenValue) → i < length written
    → ((datum : Datum) → SaysDatum line (get_or written i d) datum → ⊥) → (row : Row) → SaysRow line written row → ⊥
no_row line [] i d h none row says = omega arith
no_row line (w ∷ written) i d h none [] says = says
no_row line (w ∷ written) zero d h none (value ∷ row) says = none value says.0
no_row line (w ∷ written) (suc i) d h none (value ∷ row) says = no_row line written i d (omega arith) none row says.1

SaysPieces-push : (line : List ℕ) (written : List WrittenPiece) (pieces : List PieceTree) (w : WrittenPiece) (piece : PieceTree)
    → SaysPieces line written pieces → SaysPiece line w piece → SaysPieces line (written ++ w ∷ []) (pieces ++ piece ∷ [])
SaysPieces-push line [] [] w piece says here = (here, tt)
SaysPieces-push line [] (first ∷ pieces) w piece says here = absurd says
SaysPieces-push line (first ∷ written) [] w piece says here = absurd says
SaysPieces-push line (first ∷ written) (part ∷ pieces) w piece says here = (says.0, SaysPieces-push line written pieces w piece says.1 here)

-- one piece more
pub pieces_more : (line : List ℕ) (written : List WrittenPiece) (i : ℕ) (d : WrittenPiece) (pieces : List PieceTree) (piece : PieceTree)
    → i < length written → SaysPieces line (take i written) pieces → SaysPiece line (get_or written i d) piece → SaysPieces line (take (i + 1) written) (pieces ++ piece ∷ [])
pieces_more line written i d pieces piece h says here =
    subst (λ ws. SaysPieces line ws (pieces ++ piece ∷ [])) (sym (take_more written i d h)) (SaysPieces-push line (take i written) pieces (get_or written i d) piece says here)

-- where one piece says nothing, all say nothing
pub no_pieces : (line : List ℕ) (written : List WrittenPiece) (i : ℕ) (d : WrittenPiece) → i < length written
    → ((piece : PieceTree) → SaysPiece line (get_or written i d) piece → ⊥) → (pieces : List PieceTree) → SaysPieces line written pieces → ⊥
no_pieces line [] i d h none pieces says = omega arith
no_pieces line (w ∷ written) i d h none [] says = says
no_pieces line (w ∷ written) zero d h none (piece ∷ pieces) says = none piece says.0
no_pieces line (w ∷ written) (suc i) d h none (piece ∷ pieces) says = no_pieces line written i d (omega arith) none pieces says.1

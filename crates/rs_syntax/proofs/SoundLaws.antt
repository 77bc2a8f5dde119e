-- What a line says is sound.
use Rattle.std.proofs.Common.{ℕ, List, Option, Some, None, refl, sym, subst, arith}
use Rattle.std.specs.Prelude.{IsTrue}
use Rattle.rs_grammar.specs.declared.kind.TokenKind.TheVariants as kinds
use Rattle.rs_lexer.specs.declared.token.Token.{Token}
use Rattle.rs_lexer.specs.Lexis.{token_text}
use Rattle.rs_value.specs.Values.{is_text}
use Rattle.rs_syntax.specs.Tree.{CommandTree}
use Rattle.rs_syntax.specs.WrittenParts.{column_lexemes, position_lexemes, location_lexemes, value_lexemes, summed_lexemes, piece_lexemes, list_lexemes, AreToldOf, summed_name}
use Rattle.rs_syntax.specs.WrittenQueries.{window_lexemes, bracketed_names_lexemes, query_lexemes}
use Rattle.rs_syntax.specs.Written.{Written, written_route, written_table, written_referent, written_index, written_view, written_alignment, written_move, written_drop_route, written_drop_table, written_drop_index, written_drop_view, written_drop_alignment, written_drop_referent, written_insert, written_remove, written_translate, written_select, written_total, written_explain, written_open, written_fetch, written_close, written_save, written_reopen, spelling, Says, IsFull}
use Rattle.rs_syntax.specs.Sound.{IsSummedColumn, IsSound}
use Rattle.rs_syntax.proofs.ToldLaws.{AreToldOf-append}
use Rattle.rs_syntax.proofs.SoundParts.{name_sound, each_told, columns_sound, columns_length, row_sound, row_length, measure_sound, pieces_sound, pieces_length, position_sound, location_sound}
use Rattle.rs_syntax.proofs.SoundQueries.{window_sound, bracketed_sound, query_sound, removal_sound}

summed_sound : (line : List ℕ) (summed : Option Token) → AreToldOf line (summed_lexemes summed) → IsSummedColumn (summed_name line summed)
summed_sound line None all = tt
summed_sound line (Some name) all = name_sound line name (token_text line name) all.1.0 refl

-- what is written in full says a sound command
pub sound : (line : List ℕ) (tokens : List Token) (w : Written) (tree : CommandTree) → IsTrue (is_text line) → IsFull w → AreToldOf line (spelling w) → Says line tokens w tree → IsSound tree
sound line tokens (written_route n s f) tree clean full all says =
    subst IsSound (sym says.4) (
      name_sound line n (token_text line n) all.1.1.0 refl,
      measure_sound (token_text line s) says.0 says.2,
      measure_sound (token_text line f) says.1 says.3,
    )
sound line tokens (written_table k n cs) tree clean full all says =
    let same = columns_length line cs says.0 says.1 in
    subst IsSound (sym says.2) (
      name_sound line n (token_text line n) all.1.1.1.0 refl,
      omega arith,
      columns_sound line cs says.0 (each_told line column_lexemes cs (AreToldOf-append line (list_lexemes kinds.Comma column_lexemes cs) _ all.1.1.1.1.1).0) says.1,
    )
sound line tokens (written_referent r n p) tree clean full all says =
    subst IsSound (sym says.2) (
      name_sound line r (token_text line r) all.1.1.0 refl,
      name_sound line n (token_text line n) all.1.1.1.0 refl,
      position_sound line p says.0 all.1.1.1.1.1 says.1,
    )
sound line tokens (written_index n t c) tree clean full all says =
    subst IsSound (sym says) (
      name_sound line n (token_text line n) all.1.1.0 refl,
      name_sound line t (token_text line t) all.1.1.1.1.0 refl,
      name_sound line c (token_text line c) all.1.1.1.1.1.1.0 refl,
    )
sound line tokens (written_view n w) tree clean full all says =
    subst IsSound (sym says.2) (name_sound line n (token_text line n) all.1.1.0 refl, query_sound line w says.0 clean all.1.1.1.1 says.1)
sound line tokens (written_alignment n ps) tree clean full all says =
    let same = pieces_length line ps says.0 says.1 in
    subst IsSound (sym says.2) (
      name_sound line n (token_text line n) all.1.1.0 refl,
      omega arith,
      pieces_sound line ps says.0 (each_told line piece_lexemes ps (AreToldOf-append line (list_lexemes kinds.Comma piece_lexemes ps) _ all.1.1.1.1).0) says.1,
    )
sound line tokens (written_move r n p) tree clean full all says =
    subst IsSound (sym says.2) (
      name_sound line r (token_text line r) all.1.1.0 refl,
      name_sound line n (token_text line n) all.1.1.1.0 refl,
      position_sound line p says.0 all.1.1.1.1.1 says.1,
    )
sound line tokens (written_drop_route n) tree clean full all says = subst IsSound (sym says) (name_sound line n (token_text line n) all.1.1.0 refl)
sound line tokens (written_drop_table n) tree clean full all says = subst IsSound (sym says) (name_sound line n (token_text line n) all.1.1.0 refl)
sound line tokens (written_drop_index n) tree clean full all says = subst IsSound (sym says) (name_sound line n (token_text line n) all.1.1.0 refl)
sound line tokens (written_drop_view n) tree clean full all says = subst IsSound (sym says) (name_sound line n (token_text line n) all.1.1.0 refl)
sound line tokens (written_drop_alignment n) tree clean full all says = subst IsSound (sym says) (name_sound line n (token_text line n) all.1.1.0 refl)
sound line tokens (written_drop_referent r n) tree clean full all says =
    subst IsSound (sym says) (name_sound line r (token_text line r) all.1.1.0 refl, name_sound line n (token_text line n) all.1.1.1.0 refl)
sound line tokens (written_insert t r w vs) tree clean full all says =
    let same = row_length line vs says.1 says.3 in
    let told = AreToldOf-append line (location_lexemes w) _ all.1.1.1.1.1 in
    subst IsSound (sym says.4) (
      name_sound line t (token_text line t) all.1.1.0 refl,
      name_sound line r (token_text line r) all.1.1.1.1.0 refl,
      location_sound line w says.0 told.0 says.2,
      omega arith,
      row_sound line vs says.1 clean (each_told line value_lexemes vs (AreToldOf-append line (list_lexemes kinds.Comma value_lexemes vs) _ told.1.1.1).0) says.3,
    )
sound line tokens (written_remove t w c) tree clean full all says =
    let told = AreToldOf-append line (window_lexemes w) _ all.1.1.1 in
    subst IsSound (sym says.4) (
      name_sound line t (token_text line t) all.1.0 refl,
      window_sound line w says.0 told.0 says.2,
      removal_sound line c says.1 clean told.1 says.3,
    )
sound line tokens (written_translate r p m) tree clean full all says =
    subst IsSound (sym says.2) (
      name_sound line r (token_text line r) all.1.0 refl,
      position_sound line p says.0 (AreToldOf-append line (position_lexemes p) _ all.1.1).0 says.1,
    )
sound line tokens (written_select w m) tree clean full all says = subst IsSound (sym says.2) (query_sound line w says.0 clean (AreToldOf-append line (query_lexemes w) _ all.1).0 says.1)
sound line tokens (written_total w by summed) tree clean full all says =
    let told = AreToldOf-append line (query_lexemes w) _ all.1 in
    let behind = AreToldOf-append line (bracketed_names_lexemes by) (summed_lexemes summed) told.1.1 in
    subst IsSound (sym says.2) (query_sound line w says.0 clean told.0 says.1, bracketed_sound line by behind.0, summed_sound line summed behind.1)
sound line tokens (written_explain w) tree clean full all says = subst IsSound (sym says.2) (query_sound line w says.0 clean all.1 says.1)
sound line tokens (written_open n w m) tree clean full all says =
    subst IsSound (sym says.2) (name_sound line n (token_text line n) all.1.0 refl, query_sound line w says.0 clean (AreToldOf-append line (query_lexemes w) _ all.1.1.1).0 says.1)
sound line tokens (written_fetch n w) tree clean full all says = subst IsSound (sym says.2) (name_sound line n (token_text line n) all.1.0 refl, says.1.1, says.1.2)
sound line tokens (written_close n) tree clean full all says = subst IsSound (sym says) (name_sound line n (token_text line n) all.1.0 refl)
sound line tokens written_save tree clean full all says = subst IsSound (sym says) tt
sound line tokens written_reopen tree clean full all says = subst IsSound (sym says) tt

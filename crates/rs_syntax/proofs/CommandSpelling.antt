-- What is spelled says how it is written: commands.
use Rattle.std.proofs.Common.{◌≡◌, Bool, true, false, List, [], ◌∷◌, ◌++◌, Option, Some, None, refl, sym, ap, ◌∙◌, append_assoc, append-nil}
use Rattle.std.proofs.lemmas.Bool.{false≢true}
use Rattle.rs_methods.specs.declared.position.Method.{Method}
use Rattle.rs_value.specs.declared.column.Kind.{Kind}
use Rattle.rs_value.specs.declared.column.Kind.TheVariants as table_kinds
use Rattle.rs_grammar.specs.declared.kind.TokenKind.{TokenKind}
use Rattle.rs_grammar.specs.declared.kind.TokenKind.TheVariants as kinds
use Rattle.rs_lexer.specs.declared.token.Token.{Token}
use Rattle.rs_syntax.specs.declared.written.WrittenColumn.{WrittenColumn}
use Rattle.rs_syntax.specs.declared.written.WrittenValue.{WrittenValue}
use Rattle.rs_syntax.specs.declared.written.WrittenPosition.{WrittenPosition}
use Rattle.rs_syntax.specs.declared.written.WrittenLocation.{WrittenLocation}
use Rattle.rs_syntax.specs.declared.written.WrittenWindow.{WrittenWindow}
use Rattle.rs_syntax.specs.declared.written.WrittenPiece.{WrittenPiece}
use Rattle.rs_syntax.specs.WrittenParts.{mark, position_lexemes, location_lexemes, method_kind, method_lexemes, wanted_lexemes, table_kind, column_lexemes, value_lexemes, name_lexemes, summed_lexemes, piece_lexemes, list_lexemes}
use Rattle.rs_syntax.specs.WrittenQueries.{ConditionSyntax, QuerySyntax, window_lexemes, bracketed_names_lexemes, query_lexemes, removal_lexemes}
use Rattle.rs_syntax.specs.Written.{Written, written_route, written_table, written_referent, written_index, written_view, written_alignment, written_move, written_drop_route, written_drop_table, written_drop_index, written_drop_view, written_drop_alignment, written_drop_referent, written_insert, written_remove, written_translate, written_select, written_total, written_explain, written_open, written_fetch, written_close, written_save, written_reopen, spelling}
use Rattle.rs_syntax.proofs.SpellingLaws.{begins_with_sign, columns_same, values_same, pieces_same, last_position, position_same, location_same, method_same, wanted_same, names_same}
use Rattle.rs_syntax.proofs.QuerySpelling.{Ends, window_same, query_same, removal_same}

-- The words of a table's kind are no others.
is_table_kind : TokenKind → Bool
is_table_kind kinds.Point = true
is_table_kind kinds.Line = true
is_table_kind _ = false

is_one : (k : Kind) → is_table_kind (table_kind k) ≡ true
unfolding is_table_kind
is_one table_kinds.Point = refl
is_one table_kinds.Line = refl

no_route : (k : Kind) → table_kind k ≡ kinds.Route → ⊥
unfolding is_table_kind
no_route k e = false≢true (sym (ap is_table_kind e) ∙ is_one k)

no_referent : (k : Kind) → table_kind k ≡ kinds.Referent → ⊥
unfolding is_table_kind
no_referent k e = false≢true (sym (ap is_table_kind e) ∙ is_one k)

no_index : (k : Kind) → table_kind k ≡ kinds.Index → ⊥
unfolding is_table_kind
no_index k e = false≢true (sym (ap is_table_kind e) ∙ is_one k)

no_view : (k : Kind) → table_kind k ≡ kinds.View → ⊥
unfolding is_table_kind
no_view k e = false≢true (sym (ap is_table_kind e) ∙ is_one k)

no_alignment : (k : Kind) → table_kind k ≡ kinds.Alignment → ⊥
unfolding is_table_kind
no_alignment k e = false≢true (sym (ap is_table_kind e) ∙ is_one k)

kind_same : (k l : Kind) → table_kind k ≡ table_kind l → k ≡ l
kind_same table_kinds.Point table_kinds.Point e = refl
kind_same table_kinds.Point table_kinds.Line e = absurd cc
kind_same table_kinds.Line table_kinds.Point e = absurd cc
kind_same table_kinds.Line table_kinds.Line e = refl

-- The same command, each with its parts.
table_same : (k l : Kind) (a b : Token) (xs ys : List WrittenColumn) → spelling (written_table k a xs) ≡ spelling (written_table l b ys) → written_table k a xs ≡ written_table l b ys
table_same k l a b xs ys e =
    let words : table_kind k ≡ table_kind l = cc in
    let first = kind_same k l words in
    let names : a ≡ b = cc in
    let rest : list_lexemes kinds.Comma column_lexemes xs ++ mark kinds.RightParen ∷ [] ≡ list_lexemes kinds.Comma column_lexemes ys ++ mark kinds.RightParen ∷ [] = cc in
    let columns = columns_same xs ys [] [] rest in
    ap (λ z. written_table z a xs) first ∙ ap (λ z. written_table l z xs) names ∙ ap (written_table l b) columns.0

referent_same : (a b c d : Token) (x y : WrittenPosition) → spelling (written_referent a b x) ≡ spelling (written_referent c d y) → written_referent a b x ≡ written_referent c d y
referent_same a b c d x y e =
    let first : a ≡ c = cc in
    let second : b ≡ d = cc in
    let rest : position_lexemes x ≡ position_lexemes y = cc in
    let third = last_position x y rest in
    cc

view_same : (a b : Token) (x y : QuerySyntax) → spelling (written_view a x) ≡ spelling (written_view b y) → written_view a x ≡ written_view b y
view_same a b x y e =
    let names : a ≡ b = cc in
    let rest : query_lexemes x ≡ query_lexemes y = cc in
    let queries = query_same x y [] [] (append-nil (query_lexemes x) ∙ rest ∙ sym (append-nil (query_lexemes y))) in
    ap (λ z. written_view z x) names ∙ ap (written_view b) queries.0

alignment_same : (a b : Token) (xs ys : List WrittenPiece) → spelling (written_alignment a xs) ≡ spelling (written_alignment b ys) → written_alignment a xs ≡ written_alignment b ys
alignment_same a b xs ys e =
    let names : a ≡ b = cc in
    let rest : list_lexemes kinds.Comma piece_lexemes xs ++ mark kinds.RightParen ∷ [] ≡ list_lexemes kinds.Comma piece_lexemes ys ++ mark kinds.RightParen ∷ [] = cc in
    let pieces = pieces_same xs ys [] [] rest in
    ap (λ z. written_alignment z xs) names ∙ ap (written_alignment b) pieces.0

move_same : (a b c d : Token) (x y : WrittenPosition) → spelling (written_move a b x) ≡ spelling (written_move c d y) → written_move a b x ≡ written_move c d y
move_same a b c d x y e =
    let first : a ≡ c = cc in
    let second : b ≡ d = cc in
    let rest : position_lexemes x ≡ position_lexemes y = cc in
    let third = last_position x y rest in
    cc

insert_same : (a b c d : Token) (x y : WrittenLocation) (xs ys : List WrittenValue) → spelling (written_insert a b x xs) ≡ spelling (written_insert c d y ys) → written_insert a b x xs ≡ written_insert c d y ys
insert_same a b c d x y xs ys e =
    let first : a ≡ c = cc in
    let second : b ≡ d = cc in
    let m = mark kinds.Values ∷ mark kinds.LeftParen ∷ (list_lexemes kinds.Comma value_lexemes xs ++ mark kinds.RightParen ∷ []) in
    let n = mark kinds.Values ∷ mark kinds.LeftParen ∷ (list_lexemes kinds.Comma value_lexemes ys ++ mark kinds.RightParen ∷ []) in
    let rest : location_lexemes x ++ m ≡ location_lexemes y ++ n = cc in
    let third = location_same x y m n refl refl rest in
    let behind : mark kinds.Values ∷ mark kinds.LeftParen ∷ (list_lexemes kinds.Comma value_lexemes xs ++ mark kinds.RightParen ∷ [])
    ≡ mark kinds.Values ∷ mark kinds.LeftParen ∷ (list_lexemes kinds.Comma value_lexemes ys ++ mark kinds.RightParen ∷ []) = third.1 in
    let lists : list_lexemes kinds.Comma value_lexemes xs ++ mark kinds.RightParen ∷ [] ≡ list_lexemes kinds.Comma value_lexemes ys ++ mark kinds.RightParen ∷ [] = cc in
    let values = values_same xs ys [] [] lists in
    ap (λ z. written_insert z b x xs) first ∙ ap (λ z. written_insert c z x xs) second ∙ ap (λ z. written_insert c d z xs) third.0 ∙ ap (written_insert c d y) values.0

-- what is after a window is no further part of it
removal_ends : (x : Option ConditionSyntax) → Ends kinds.From (removal_lexemes x)
removal_ends None others e = cc
removal_ends (Some condition) others e = cc

removal_no_sign : (x : Option ConditionSyntax) → begins_with_sign (removal_lexemes x) ≡ false
removal_no_sign None = refl
removal_no_sign (Some condition) = refl

remove_same : (a b : Token) (v w : WrittenWindow) (x y : Option ConditionSyntax) → spelling (written_remove a v x) ≡ spelling (written_remove b w y) → written_remove a v x ≡ written_remove b w y
remove_same a b v w x y e =
    let names : a ≡ b = cc in
    let rest : window_lexemes v ++ removal_lexemes x ≡ window_lexemes w ++ removal_lexemes y = cc in
    let windows = window_same v w (removal_lexemes x) (removal_lexemes y) (removal_ends x) (removal_ends y) (removal_no_sign x) (removal_no_sign y) rest in
    let conditions = removal_same x y windows.1 in
    ap (λ z. written_remove z v x) names ∙ ap (λ z. written_remove b z x) windows.0 ∙ ap (written_remove b w) conditions

translate_same : (a b : Token) (x y : WrittenPosition) (k m : Method) → spelling (written_translate a x k) ≡ spelling (written_translate b y m) → written_translate a x k ≡ written_translate b y m
translate_same a b x y k m e =
    let first : a ≡ b = cc in
    let rest : position_lexemes x ++ mark kinds.As ∷ method_lexemes k ≡ position_lexemes y ++ mark kinds.As ∷ method_lexemes m = cc in
    let second = position_same x y (mark kinds.As ∷ method_lexemes k) (mark kinds.As ∷ method_lexemes m) refl refl rest in
    let positions : x ≡ y = second.0 in
    let behind : mark kinds.As ∷ method_lexemes k ≡ mark kinds.As ∷ method_lexemes m = second.1 in
    let kinds_same : method_kind k ≡ method_kind m = cc in
    let third = method_same k m kinds_same in
    cc

select_same : (a b : QuerySyntax) (x y : Option Method) → spelling (written_select a x) ≡ spelling (written_select b y) → written_select a x ≡ written_select b y
select_same a b x y e =
    let rest : query_lexemes a ++ wanted_lexemes x ≡ query_lexemes b ++ wanted_lexemes y = cc in
    let first = query_same a b (wanted_lexemes x) (wanted_lexemes y) rest in
    ap (λ z. written_select z x) first.0 ∙ ap (written_select b) (wanted_same x y first.1)

explain_same : (a b : QuerySyntax) → spelling (written_explain a) ≡ spelling (written_explain b) → written_explain a ≡ written_explain b
explain_same a b e =
    let rest : query_lexemes a ≡ query_lexemes b = cc in
    let queries = query_same a b [] [] (append-nil (query_lexemes a) ∙ rest ∙ sym (append-nil (query_lexemes b))) in
    ap written_explain queries.0

open_same : (a b : Token) (x y : QuerySyntax) (m n : Option Method) → spelling (written_open a x m) ≡ spelling (written_open b y n) → written_open a x m ≡ written_open b y n
open_same a b x y m n e =
    let names : a ≡ b = cc in
    let rest : query_lexemes x ++ wanted_lexemes m ≡ query_lexemes y ++ wanted_lexemes n = cc in
    let queries = query_same x y (wanted_lexemes m) (wanted_lexemes n) rest in
    ap (λ z. written_open z x m) names ∙ ap (λ z. written_open b z m) queries.0 ∙ ap (written_open b y) (wanted_same m n queries.1)

-- the column that is summed, at the end of a line
summed_same : (x y : Option Token) → summed_lexemes x ≡ summed_lexemes y → x ≡ y
summed_same None None e = refl
summed_same None (Some b) e = absurd cc
summed_same (Some a) None e = absurd cc
summed_same (Some a) (Some b) e = cc

total_same : (a b : QuerySyntax) (xs ys : List Token) (x y : Option Token) → spelling (written_total a xs x) ≡ spelling (written_total b ys y) → written_total a xs x ≡ written_total b ys y
total_same a b xs ys x y e =
    let m = mark kinds.By ∷ (bracketed_names_lexemes xs ++ summed_lexemes x) in
    let n = mark kinds.By ∷ (bracketed_names_lexemes ys ++ summed_lexemes y) in
    let rest : query_lexemes a ++ m ≡ query_lexemes b ++ n = cc in
    let queries = query_same a b m n rest in
    let behind : mark kinds.By ∷ (bracketed_names_lexemes xs ++ summed_lexemes x) ≡ mark kinds.By ∷ (bracketed_names_lexemes ys ++ summed_lexemes y) = queries.1 in
    let lists : (list_lexemes kinds.Comma name_lexemes xs ++ mark kinds.RightParen ∷ []) ++ summed_lexemes x ≡ (list_lexemes kinds.Comma name_lexemes ys ++ mark kinds.RightParen ∷ []) ++ summed_lexemes y = cc in
    let names = names_same xs ys (summed_lexemes x) (summed_lexemes y)
    (sym (append_assoc (list_lexemes kinds.Comma name_lexemes xs) (mark kinds.RightParen ∷ []) (summed_lexemes x)) ∙ lists
    ∙ append_assoc (list_lexemes kinds.Comma name_lexemes ys) (mark kinds.RightParen ∷ []) (summed_lexemes y)) in
    ap (λ z. written_total z xs x) queries.0 ∙ ap (λ z. written_total b z x) names.0 ∙ ap (written_total b ys) (summed_same x y names.1)

-- Each command against all.
route_told : (a b c : Token) (w : Written) → spelling (written_route a b c) ≡ spelling w → written_route a b c ≡ w
route_told a b c (written_route d e f) same = cc
route_told a b c (written_table k d xs) same = let words : table_kind k ≡ kinds.Route = cc in absurd (no_route k words)
route_told a b c _ same = absurd cc

table_told : (k : Kind) (a : Token) (xs : List WrittenColumn) (w : Written) → spelling (written_table k a xs) ≡ spelling w → written_table k a xs ≡ w
table_told k a xs (written_route d e f) same = let words : table_kind k ≡ kinds.Route = cc in absurd (no_route k words)
table_told k a xs (written_table l b ys) same = table_same k l a b xs ys same
table_told k a xs (written_referent d e y) same = let words : table_kind k ≡ kinds.Referent = cc in absurd (no_referent k words)
table_told k a xs (written_index d e f) same = let words : table_kind k ≡ kinds.Index = cc in absurd (no_index k words)
table_told k a xs (written_view d y) same = let words : table_kind k ≡ kinds.View = cc in absurd (no_view k words)
table_told k a xs (written_alignment d ys) same = let words : table_kind k ≡ kinds.Alignment = cc in absurd (no_alignment k words)
table_told k a xs _ same = absurd cc

referent_told : (a b : Token) (x : WrittenPosition) (w : Written) → spelling (written_referent a b x) ≡ spelling w → written_referent a b x ≡ w
referent_told a b x (written_referent c d y) same = referent_same a b c d x y same
referent_told a b x (written_table k d xs) same = let words : table_kind k ≡ kinds.Referent = cc in absurd (no_referent k words)
referent_told a b x _ same = absurd cc

index_told : (a b c : Token) (w : Written) → spelling (written_index a b c) ≡ spelling w → written_index a b c ≡ w
index_told a b c (written_index d e f) same = cc
index_told a b c (written_table k d xs) same = let words : table_kind k ≡ kinds.Index = cc in absurd (no_index k words)
index_told a b c _ same = absurd cc

view_told : (a : Token) (x : QuerySyntax) (w : Written) → spelling (written_view a x) ≡ spelling w → written_view a x ≡ w
view_told a x (written_view b y) same = view_same a b x y same
view_told a x (written_table k d xs) same = let words : table_kind k ≡ kinds.View = cc in absurd (no_view k words)
view_told a x _ same = absurd cc

alignment_told : (a : Token) (xs : List WrittenPiece) (w : Written) → spelling (written_alignment a xs) ≡ spelling w → written_alignment a xs ≡ w
alignment_told a xs (written_alignment b ys) same = alignment_same a b xs ys same
alignment_told a xs (written_table k d ys) same = let words : table_kind k ≡ kinds.Alignment = cc in absurd (no_alignment k words)
alignment_told a xs _ same = absurd cc

move_told : (a b : Token) (x : WrittenPosition) (w : Written) → spelling (written_move a b x) ≡ spelling w → written_move a b x ≡ w
move_told a b x (written_move c d y) same = move_same a b c d x y same
move_told a b x _ same = absurd cc

drop_route_told : (a : Token) (w : Written) → spelling (written_drop_route a) ≡ spelling w → written_drop_route a ≡ w
drop_route_told a (written_drop_route b) same = cc
drop_route_told a _ same = absurd cc

drop_table_told : (a : Token) (w : Written) → spelling (written_drop_table a) ≡ spelling w → written_drop_table a ≡ w
drop_table_told a (written_drop_table b) same = cc
drop_table_told a _ same = absurd cc

drop_index_told : (a : Token) (w : Written) → spelling (written_drop_index a) ≡ spelling w → written_drop_index a ≡ w
drop_index_told a (written_drop_index b) same = cc
drop_index_told a _ same = absurd cc

drop_view_told : (a : Token) (w : Written) → spelling (written_drop_view a) ≡ spelling w → written_drop_view a ≡ w
drop_view_told a (written_drop_view b) same = cc
drop_view_told a _ same = absurd cc

drop_alignment_told : (a : Token) (w : Written) → spelling (written_drop_alignment a) ≡ spelling w → written_drop_alignment a ≡ w
drop_alignment_told a (written_drop_alignment b) same = cc
drop_alignment_told a _ same = absurd cc

drop_referent_told : (a b : Token) (w : Written) → spelling (written_drop_referent a b) ≡ spelling w → written_drop_referent a b ≡ w
drop_referent_told a b (written_drop_referent c d) same = cc
drop_referent_told a b _ same = absurd cc

insert_told : (a b : Token) (x : WrittenLocation) (xs : List WrittenValue) (w : Written) → spelling (written_insert a b x xs) ≡ spelling w → written_insert a b x xs ≡ w
insert_told a b x xs (written_insert c d y ys) same = insert_same a b c d x y xs ys same
insert_told a b x xs _ same = absurd cc

remove_told : (a : Token) (v : WrittenWindow) (x : Option ConditionSyntax) (w : Written) → spelling (written_remove a v x) ≡ spelling w → written_remove a v x ≡ w
remove_told a v x (written_remove b w y) same = remove_same a b v w x y same
remove_told a v x _ same = absurd cc

translate_told : (a : Token) (x : WrittenPosition) (m : Method) (w : Written) → spelling (written_translate a x m) ≡ spelling w → written_translate a x m ≡ w
translate_told a x m (written_translate b y n) same = translate_same a b x y m n same
translate_told a x m _ same = absurd cc

select_told : (a : QuerySyntax) (x : Option Method) (w : Written) → spelling (written_select a x) ≡ spelling w → written_select a x ≡ w
select_told a x (written_select b y) same = select_same a b x y same
select_told a x _ same = absurd cc

total_told : (a : QuerySyntax) (xs : List Token) (x : Option Token) (w : Written) → spelling (written_total a xs x) ≡ spelling w → written_total a xs x ≡ w
total_told a xs x (written_total b ys y) same = total_same a b xs ys x y same
total_told a xs x _ same = absurd cc

explain_told : (a : QuerySyntax) (w : Written) → spelling (written_explain a) ≡ spelling w → written_explain a ≡ w
explain_told a (written_explain b) same = explain_same a b same
explain_told a _ same = absurd cc

open_told : (a : Token) (x : QuerySyntax) (m : Option Method) (w : Written) → spelling (written_open a x m) ≡ spelling w → written_open a x m ≡ w
open_told a x m (written_open b y n) same = open_same a b x y m n same
open_told a x m _ same = absurd cc

fetch_told : (a b : Token) (w : Written) → spelling (written_fetch a b) ≡ spelling w → written_fetch a b ≡ w
fetch_told a b (written_fetch c d) same = cc
fetch_told a b _ same = absurd cc

close_told : (a : Token) (w : Written) → spelling (written_close a) ≡ spelling w → written_close a ≡ w
close_told a (written_close b) same = cc
close_told a _ same = absurd cc

save_told : (w : Written) → spelling written_save ≡ spelling w → written_save ≡ w
save_told written_save same = refl
save_told _ same = absurd cc

reopen_told : (w : Written) → spelling written_reopen ≡ spelling w → written_reopen ≡ w
reopen_told written_reopen same = refl
reopen_told _ same = absurd cc

-- what is spelled says how it is written
pub written_same : (v w : Written) → spelling v ≡ spelling w → v ≡ w
written_same (written_route a b c) w same = route_told a b c w same
written_same (written_table k a xs) w same = table_told k a xs w same
written_same (written_referent a b x) w same = referent_told a b x w same
written_same (written_index a b c) w same = index_told a b c w same
written_same (written_view a x) w same = view_told a x w same
written_same (written_alignment a xs) w same = alignment_told a xs w same
written_same (written_move a b x) w same = move_told a b x w same
written_same (written_drop_route a) w same = drop_route_told a w same
written_same (written_drop_table a) w same = drop_table_told a w same
written_same (written_drop_index a) w same = drop_index_told a w same
written_same (written_drop_view a) w same = drop_view_told a w same
written_same (written_drop_alignment a) w same = drop_alignment_told a w same
written_same (written_drop_referent a b) w same = drop_referent_told a b w same
written_same (written_insert a b x xs) w same = insert_told a b x xs w same
written_same (written_remove a v x) w same = remove_told a v x w same
written_same (written_translate a x m) w same = translate_told a x m w same
written_same (written_select a x) w same = select_told a x w same
written_same (written_total a xs x) w same = total_told a xs x w same
written_same (written_explain a) w same = explain_told a w same
written_same (written_open a x m) w same = open_told a x m w same
written_same (written_fetch a b) w same = fetch_told a b w same
written_same (written_close a) w same = close_told a w same
written_same written_save w same = save_told w same
written_same written_reopen w same = reopen_told w same

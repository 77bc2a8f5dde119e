-- The names of referents stay names that a line can say.
use Rattle.std.proofs.Common.{◌≡◌, ◌∙◌, ℕ, Bool, true, false, cond, List, [], ◌∷◌, Some, None, length, not, Result, Ok, Err, IfOk, refl, sym, ap, subst, inl, inr}
use Rattle.std.specs.Prelude.{if◌then◌else◌, IsTrue, nat_le, nat_lt, ◌&&◌, ◌||◌, Option}
use Rattle.std.specs.declared.cmp.Ordering.{Ordering}
use Rattle.std.specs.declared.cmp.Ordering.TheVariants.{Less, Equal, Greater}
use Rattle.std.specs.Ordering.{is_eq, eq_by_cmp}
use Rattle.std.specs.Cmp.{tied_itself}
use Rattle.std.specs.FinMap as names
use Rattle.std.specs.FinMap.{find, get-insert, get-remove, get-empty, get-entries}
use Rattle.rs_refusal.specs.declared.refusal.Refusal.{Refusal}
use Rattle.rs_refusal.specs.declared.refusal.Refusal.TheVariants.{InUse, NameTaken, NoSuchReferent, Limit, EmptySpan, PointOrLineWanted, ColumnTwice, CursorNameTaken, TooManyCursors}
use Rattle.rs_value.specs.declared.column.TheConstants.{COLUMNS, ROW_BYTES}
use Rattle.rs_value.specs.Encoding.{row_width}
use Rattle.rs_value.specs.Row.{Row}
use Rattle.rs_facts.specs.Fact.{Name, Names, name_cmp}
use Rattle.rs_facts.specs.Insert.{same_name}
use Rattle.rs_facts.specs.Totals.{totalled}
use Rattle.rs_methods.specs.Position.{PositionExpression, start_name}
use Rattle.rs_methods.specs.declared.position.Method.{Method}
use Rattle.rs_methods.specs.PositionText.{AreWords}
use Rattle.rs_syntax.specs.Tree.{EventLocationTree, WindowTree, PieceTree, ConditionTree, QueryTree, CommandTree, define_route, define_table, define_referent, define_index, define_view, define_alignment, move_referent, drop_route, drop_table, drop_index, drop_view, drop_alignment, drop_referent, insert, remove, translate, select, total, explain, open_cursor, fetch, close_cursor, save, reopen}
use Rattle.rs_syntax.specs.Verdict.{Reads}
use Rattle.rs_syntax.specs.Sound.{IsName, IsSound}
use Rattle.rs_machine.specs.State.{State, fresh, has}
use Rattle.rs_machine.specs.Checks.{◌>>=◌, unless, route_named, table_named, view_named, alignment_named, index_named, cursor_named, pieces_checked, has_table_or_view, has_referent, position_on, event_span, location_kind, window_span, window_route, same_kind, some_name_twice, column_names, column_types, row_fits}
use Rattle.rs_machine.specs.Opening.{some_view, names_query, names_alignment, names_route, names_referent, some_piece_on}
use Rattle.rs_machine.specs.Checking.{column_place, checked, removal_checked, columns_in, group_checked, summed_checked}
use Rattle.rs_machine.specs.declared.limits.TheConstants.{ROUTES, REFERENTS, TABLES, INDEXES, VIEWS, ALIGNMENTS, PIECES, CURSORS}
use Rattle.rs_machine.specs.Step.{Effect, may_change, no_cursor_waits, index_defined, cursor_opened, has_fact_on, some_table, referents_at, with_referents, referent_defined, referent_moved, referent_dropped, view_defined, alignment_defined, route_dropped, row_inserted, rows_removed, rows_along, outcome}
use Rattle.rs_machine.specs.Served.{Machine, Reply, Answers, Served}
use Rattle.rs_machine.specs.Request.{Request, unreadable, no_command, command, Asks, is_text}
use Rattle.rs_machine.specs.Answered.{Answer, Replies, AnswersLine, Answered}
use Rattle.rs_machine.specs.ReferentNames.{AreNamed}
use Rattle.rs_machine.proofs.ReadableLines.{readable_text}
use Rattle.rs_machine.proofs.NameOrder.{name_cmp-total, name_cmp-antisymmetric}

-- the names of one route's referents are names
abbrev Named : Names ℕ → Type 0
Named referents = (name : Name) (measure : ℕ) → names.get referents name ≡ Some measure → IsName name

none_there : (measure : ℕ) → None ≡ Some measure → ⊥
none_there measure e = cc

-- names that tie are one
tied : (a b : Name) → eq_by_cmp name_cmp a b ≡ true → a ≡ b
tied a b e = name_cmp-antisymmetric a b (by_order (name_cmp a b) e)
  where
    by_order : (order : Ordering) → is_eq order ≡ true → order ≡ Equal
    by_order Less e = cc
    by_order Equal e = refl
    by_order Greater e = cc

put_named : (referents : Names ℕ) (name : Name) (measure : ℕ) → IsName name → Named referents → Named (names.insert referents name measure)
put_named referents name measure is named other at got =
    elim (eq_by_cmp name_cmp other name) as (λ same. eq_by_cmp name_cmp other name ≡ same → cond same (Some measure) (names.get referents other) ≡ Some at → IsName other) [
      | true ↦ λ same there. subst IsName (sym (tied other name same)) is
      | false ↦ λ same there. named other at there
    ] refl (sym (get-insert name_cmp-total referents name measure other) ∙ got)

gone_named : (referents : Names ℕ) (name : Name) → Named referents → Named (names.remove referents name)
gone_named referents name named other at got =
    elim (eq_by_cmp name_cmp other name) as (λ same. cond same None (names.get referents other) ≡ Some at → IsName other) [
      | true ↦ λ there. absurd (none_there at there)
      | false ↦ λ there. named other at there
    ] (sym (get-remove name_cmp-total referents name other) ∙ got)

-- one route has other referents
with_named : (state : State) (route : Name) (referents : Names ℕ) → Named referents → AreNamed state → AreNamed (with_referents state route referents)
unfolding referents_at
with_named state route referents is named = record { each = λ r. at r (same_name r route) }
  where
    at : (r : Name) (same : Bool) → Named (if same then referents else state.referents r)
    at r true = is
    at r false = named.each r

-- an accepted command leaves names that a line can say
record Keeps (result : Result Effect Refusal) : Type 0 where
  named : IfOk result (λ effect. AreNamed effect.state)

-- what is so of all that a check lets through
through : {A : Type 0} (check : Result A Refusal) (next : A → Result Effect Refusal) → ((a : A) → Keeps (next a)) → Keeps (check >>= next)
through (Ok a) next each = each a
through (Err refusal) next each = record { named = tt }

defined_named : (state : State) (route name : Name) (position : PositionExpression) → IsName name → AreNamed state → Keeps (referent_defined state route name position)
defined_named state route name position is named =
    through (route_named state route) _ (λ ends.
    through (position_on state route ends position) _ (λ measure.
    through (unless (not (has_referent state route name)) NameTaken) _ (λ new.
    through (unless (nat_lt (names.len (state.referents route)) REFERENTS) Limit) _ (λ room.
    through (may_change state) _ (λ change. record {
      named = with_named state route (names.insert (state.referents route) name measure) (put_named (state.referents route) name measure is (named.each route)) named;
    })))))

moved_named : (state : State) (route name : Name) (position : PositionExpression) → IsName name → AreNamed state → Keeps (referent_moved state route name position)
moved_named state route name position is named =
    through (route_named state route) _ (λ ends.
    through (unless (has_referent state route name) NoSuchReferent) _ (λ there.
    through (unless (not (same_name start_name name)) InUse) _ (λ other.
    through (position_on state route ends position) _ (λ measure.
    through (may_change state) _ (λ change. record {
      named = with_named state route (names.insert (state.referents route) name measure) (put_named (state.referents route) name measure is (named.each route)) named;
    })))))

dropped_named : (state : State) (route name : Name) → AreNamed state → Keeps (referent_dropped state route name)
dropped_named state route name named =
    through (route_named state route) _ (λ ends.
    through (unless (has_referent state route name) NoSuchReferent) _ (λ there.
    through (unless (not (same_name start_name name || some_view state (names_referent route name))) InUse) _ (λ other.
    through (may_change state) _ (λ change. record {
      named = with_named state route (names.remove (state.referents route) name) (gone_named (state.referents route) name (named.each route)) named;
    }))))

-- a route that is dropped has no referents
route_dropped_named : (state : State) (name : Name) → AreNamed state → Keeps (route_dropped state name)
unfolding referents_at
route_dropped_named state name named =
    through (route_named state name) _ (λ ends.
    through (unless (not (some_table state (has_fact_on name ends) || some_piece_on state name || some_view state (names_route name))) InUse) _ (λ unused.
    through (no_cursor_waits state) _ (λ none.
    through (may_change state) _ (λ change. record { named = record { each = λ route. at route (same_name route name) } }))))
  where
    at : (route : Name) (same : Bool) → Named (if same then names.empty else state.referents route)
    at route true = λ other measure got. absurd (none_there measure (sym (get-empty name_cmp other) ∙ got))
    at route false = named.each route

-- every other command leaves the referents
inserted_named : (state : State) (table route : Name) (place : EventLocationTree) (row : Row) → AreNamed state → Keeps (row_inserted state table route place row)
inserted_named state name route place row named =
    through (route_named state route) _ (λ ends.
    through (table_named state name) _ (λ table.
    through (event_span state route ends place) _ (λ span.
    through (unless (same_kind table.kind (location_kind place)) PointOrLineWanted) _ (λ kind.
    through (row_fits table.columns row) _ (λ fits.
    through (may_change state) _ (λ change. record { named = record { each = named.each } }))))))

removed_named : (state : State) (table : Name) (window : WindowTree) (condition : Option ConditionTree) → AreNamed state → Keeps (rows_removed state table window condition)
removed_named state name window condition named =
    through (route_named state (window_route window)) _ (λ ends.
    through (table_named state name) _ (λ table.
    through (window_span state ends window) _ (λ span.
    through (removal_checked table.columns condition) _ (λ goes.
    through (may_change state) _ (λ change. record { named = record { each = named.each } })))))

view_defined_named : (state : State) (name : Name) (query : QueryTree) → AreNamed state → Keeps (view_defined state name query)
view_defined_named state name query named =
    through (checked state query) _ (λ made.
    through (unless (not (has_table_or_view state name)) NameTaken) _ (λ new.
    through (unless (nat_lt (names.len state.views) VIEWS) Limit) _ (λ room.
    through (may_change state) _ (λ change. record { named = record { each = named.each } }))))

alignment_defined_named : (state : State) (name : Name) (pieces : List PieceTree) → AreNamed state → Keeps (alignment_defined state name pieces)
alignment_defined_named state name pieces named =
    through (unless (not (has state.alignments name)) NameTaken) _ (λ new.
    through (unless (nat_lt (names.len state.alignments) ALIGNMENTS && nat_le (length pieces) PIECES) Limit) _ (λ room.
    through (pieces_checked state.routes pieces) _ (λ lie.
    through (may_change state) _ (λ change. record { named = record { each = named.each } }))))

index_defined_named : (state : State) (name of column : Name) → AreNamed state → Keeps (index_defined state name of column)
index_defined_named state name of column named =
    through (table_named state of) _ (λ table.
    through (column_place table.columns column) _ (λ place.
    through (unless (not (has state.indexes name)) NameTaken) _ (λ new.
    through (unless (nat_lt (names.len state.indexes) INDEXES) Limit) _ (λ room.
    through (may_change state) _ (λ change. record { named = record { each = named.each } })))))

cursor_opened_named : (state : State) (session : ℕ) (name : Name) (query : QueryTree) (method : Method) → AreNamed state → Keeps (cursor_opened state session name query method)
cursor_opened_named state session name query method named =
    through (checked state query) _ (λ made.
    through (unless (not (has (state.cursors session) name)) CursorNameTaken) _ (λ new.
    through (unless (nat_lt (names.len (state.cursors session)) CURSORS) TooManyCursors) _ (λ room. record { named = record { each = named.each } })))

outcome_named : (state : State) (session : ℕ) (tree : CommandTree) → IsSound tree → AreNamed state → Keeps (outcome state session tree)
outcome_named state session (define_route name start finish) sound named =
    through (unless (not (has state.routes name)) NameTaken) _ (λ new.
    through (unless (nat_lt start finish) EmptySpan) _ (λ order.
    through (unless (nat_lt (names.len state.routes) ROUTES) Limit) _ (λ room.
    through (may_change state) _ (λ change. record { named = record { each = named.each } }))))
outcome_named state session (define_table kind name columns) sound named =
    through (unless (not (has_table_or_view state name)) NameTaken) _ (λ new.
    through (unless (not (some_name_twice (column_names columns))) ColumnTwice) _ (λ once.
    through (unless (nat_le (length columns) COLUMNS) Limit) _ (λ few.
    through (unless (nat_le (row_width (column_types columns)) ROW_BYTES) Limit) _ (λ narrow.
    through (unless (nat_lt (names.len state.tables) TABLES) Limit) _ (λ room.
    through (may_change state) _ (λ change. record { named = record { each = named.each } }))))))
outcome_named state session (define_referent route name position) sound named = defined_named state route name position sound.1 named
outcome_named state session (define_index name table column) sound named = index_defined_named state name table column named
outcome_named state session (define_view name query text) sound named = view_defined_named state name query named
outcome_named state session (define_alignment name pieces) sound named = alignment_defined_named state name pieces named
outcome_named state session (move_referent route name position) sound named = moved_named state route name position sound.1 named
outcome_named state session (drop_route name) sound named = route_dropped_named state name named
outcome_named state session (drop_table name) sound named =
    through (table_named state name) _ (λ table.
    through (unless (not (some_view state (names_query name))) InUse) _ (λ unused.
    through (no_cursor_waits state) _ (λ none.
    through (may_change state) _ (λ change. record { named = record { each = named.each } }))))
outcome_named state session (drop_index name) sound named =
    through (index_named state name) _ (λ index.
    through (no_cursor_waits state) _ (λ none.
    through (may_change state) _ (λ change. record { named = record { each = named.each } })))
outcome_named state session (drop_view name) sound named =
    through (view_named state name) _ (λ view.
    through (unless (not (some_view state (names_query name))) InUse) _ (λ unused.
    through (may_change state) _ (λ change. record { named = record { each = named.each } })))
outcome_named state session (drop_alignment name) sound named =
    through (alignment_named state name) _ (λ pieces.
    through (unless (not (some_view state (names_alignment name))) InUse) _ (λ unused.
    through (may_change state) _ (λ change. record { named = record { each = named.each } })))
outcome_named state session (drop_referent route name) sound named = dropped_named state route name named
outcome_named state session (insert table route place row) sound named = inserted_named state table route place row named
outcome_named state session (remove table window condition) sound named = removed_named state table window condition named
outcome_named state session (translate route position method) sound named =
    through (route_named state route) _ (λ ends. through (position_on state route ends position) _ (λ measure. record { named = named }))
outcome_named state session (select query method) sound named = through (checked state query) _ (λ query. record { named = named })
outcome_named state session (total tree by summed) sound named =
    through (checked state tree) _ (λ query.
    through (group_checked (columns_in state query) by) _ (λ group.
    through (summed_checked (columns_in state query) summed) _ (λ column.
    through (totalled group column (rows_along state query)) _ (λ totals. record { named = named }))))
outcome_named state session (explain tree) sound named = through (checked state tree) _ (λ query. record { named = named })
outcome_named state session (open_cursor name query method) sound named = cursor_opened_named state session name query method named
outcome_named state session (fetch name rows) sound named = through (cursor_named state session name) _ (λ lines. record { named = record { each = named.each } })
outcome_named state session (close_cursor name) sound named = through (cursor_named state session name) _ (λ lines. record { named = record { each = named.each } })
outcome_named state session save sound named = record { named = named }
outcome_named state session reopen sound named = record { named = record { each = named.each } }

answers_named : (old : Machine) (result : Result Effect Refusal) (reply : Reply) (new : Machine) → Keeps result → AreNamed old.state → Answers old result reply new → AreNamed new.state
answers_named old (Ok effect) reply new kept named answers = subst AreNamed (sym answers.1) kept.named
answers_named old (Err refusal) reply new kept named answers = subst AreNamed (sym answers.1.state) named

served_named : (old : Machine) (session : ℕ) (tree : CommandTree) (reply : Reply) (new : Machine) → IsSound tree → AreNamed old.state → Served old session tree reply new → AreNamed new.state
served_named old session tree reply new sound named (inl answers) =
    answers_named old (outcome old.state session tree) reply new (outcome_named old.state session tree sound named) named answers
served_named old session tree reply new sound named (inr want) = subst AreNamed (sym want.0.state) named

-- The commands of lines are sound.
module _ (read_sound : (line : List ℕ) (from : ℕ) (tree : CommandTree) → IsTrue (is_text line) → Reads line from (Ok tree) → IsSound tree) where
  replies_named : (old : Machine) (line : List ℕ) (request : Request) (given : Answer) (new : Machine) → Asks line request → AreNamed old.state → Replies old request given new → AreNamed new.state
  replies_named old line (unreadable refusal) given new asks named replies = subst (λ (m : Machine). AreNamed m.state) (sym replies.1) named
  replies_named old line (no_command session refusal) given new asks named replies = subst (λ (m : Machine). AreNamed m.state) (sym replies.1) named
  replies_named old line (command session tree) given new asks named replies =
      served_named old session tree given.reply new (read_sound _ asks.digits tree (readable_text line asks.begins.is_readable) asks.reads) named replies.1

  line_named : (old : Machine) (line : List ℕ) (given : Answer) (new : Machine) → AreNamed old.state → AnswersLine old line given new → AreNamed new.state
  line_named old line given new named (inl asked) = replies_named old line asked.0 given new asked.1 named asked.2
  line_named old line given new named (inr want) = subst (λ (m : Machine). AreNamed m.state) (sym want.rests) named

  -- whatever lines are answered
  pub answered_named : (old new : Machine) (lines : List (List ℕ)) (answers : List Answer) → AreNamed old.state → Answered old lines answers new → AreNamed new.state
  answered_named old new [] [] named answered = subst (λ (m : Machine). AreNamed m.state) (sym answered) named
  answered_named old new [] (given ∷ more) named answered = absurd answered
  answered_named old new (line ∷ lines) [] named answered = absurd answered
  answered_named old new (line ∷ lines) (given ∷ more) named answered =
      answered_named answered.0 new lines more (line_named old line given answered.0 named answered.1) answered.2

-- there is no referent at the beginning
pub fresh_named : AreNamed fresh
unfolding fresh
fresh_named = record { each = λ route name measure got. absurd (none_there measure (sym (get-empty name_cmp name) ∙ got)) }

found_words : (entries : List (Name × ℕ)) → ((name : Name) (measure : ℕ) → find name_cmp name entries ≡ Some measure → IsName name) → AreWords entries
found_words [] found = tt
found_words (entry ∷ entries) found = (
  (found entry.0 entry.1 (ap (λ order. cond (is_eq order) (Some entry.1) (find name_cmp entry.0 entries)) (tied_itself name_cmp-total entry.0))).word,
  found_words entries (λ name measure got. later name measure got (eq_by_cmp name_cmp name entry.0) refl),
)
  where
    later : (name : Name) (measure : ℕ) → find name_cmp name entries ≡ Some measure → (same : Bool) → eq_by_cmp name_cmp name entry.0 ≡ same → IsName name
    later name measure got true same = found name entry.1 (ap (λ b. cond b (Some entry.1) (find name_cmp name entries)) same)
    later name measure got false same = found name measure (ap (λ b. cond b (Some entry.1) (find name_cmp name entries)) same ∙ got)

-- names that a line can say are words
pub named_words : (state : State) (route : Name) → AreNamed state → AreWords (names.entries (state.referents route))
named_words state route named = found_words (names.entries (state.referents route)) (λ name measure got. named.each route name measure (get-entries (state.referents route) name ∙ got))

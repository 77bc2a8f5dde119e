-- All lines of a dump ask its commands.
use Rattle.std.proofs.Common.{ℕ, List, [], ◌∷◌, ◌++◌, map, sym, subst, arith}
use Rattle.std.specs.List.{AllByRecursion}
use Rattle.std.specs.FinMap as names
use Rattle.rs_methods.specs.Position.{absolute}
use Rattle.rs_value.specs.Row.{Row}
use Rattle.rs_value.specs.declared.column.ColumnType.{ColumnType}
use Rattle.rs_value.specs.declared.column.Kind.{Kind}
use Rattle.rs_value.specs.declared.column.Kind.TheVariants.{Line, Point}
use Rattle.rs_facts.specs.Fact.{Name}
use Rattle.rs_facts.specs.Query.{Piece, RouteEnds, Table, table_kind}
use Rattle.rs_facts.specs.Runs.{Stretch}
use Rattle.rs_planning.specs.Basis.{IndexedColumn}
use Rattle.rs_syntax.specs.Sound.{IsSound}
use Rattle.rs_syntax.specs.Tree.{CommandTree, PieceTree, QueryTree, along, at_point, define_alignment, define_table, define_view, insert}
use Rattle.rs_machine.specs.Request.{Asks, command}
use Rattle.rs_machine.specs.State.{State}
use Rattle.rs_machine_laws.specs.ViewLines.{IsReadable, shortest_view_line}
use Rattle.rs_dump_laws.specs.Dump.{IsDumpOf, alignment_command, commands_of, index_command, location_of, referent_command, route_command, row_command, table_command, view_command}
use Rattle.rs_dump_laws.specs.Lines.{IsSaid, dump_line}
use Rattle.rs_dump_laws.specs.Parts.{ArePartsOf, IsUnder, Parts, PlacedReferent, PlacedRow}
use Rattle.rs_dump_laws.specs.Replaying.{AreSaid}
use Rattle.rs_dump_lines.specs.Texts.{HaveLines}
use Rattle.rs_dump_lines.proofs.Alignments.{alignment_asks}
use Rattle.rs_dump_lines.proofs.Defining.{index_asks, referent_asks, route_asks}
use Rattle.rs_dump_lines.proofs.Inserts.{along_asks, at_asks}
use Rattle.rs_dump_lines.proofs.Tables.{table_asks}

-- ---- each command

pub table_said : (kind : Kind) (name : List ℕ) (columns : List (List ℕ × ColumnType)) → IsSound (define_table kind name columns) → IsReadable (dump_line (define_table kind name columns)) → IsSaid (define_table kind name columns)
table_said kind name [] sound readable = let some = sound.1 in absurd (omega arith)
table_said kind name (column ∷ columns) sound readable = table_asks kind name column columns sound.0 sound.2 readable

pub alignment_said : (name : List ℕ) (pieces : List PieceTree) → IsSound (define_alignment name pieces) → IsReadable (dump_line (define_alignment name pieces)) → IsSaid (define_alignment name pieces)
alignment_said name [] sound readable = let some = sound.1 in absurd (omega arith)
alignment_said name (piece ∷ pieces) sound readable = alignment_asks name piece pieces sound.0 sound.2 readable

pub along_said : (table route : List ℕ) (from to : ℕ) (row : Row) → IsSound (insert table route (along (absolute from) (absolute to)) row)
    → IsReadable (dump_line (insert table route (along (absolute from) (absolute to)) row)) → IsSaid (insert table route (along (absolute from) (absolute to)) row)
along_said table route from to [] sound readable = let some = sound.3 in absurd (omega arith)
along_said table route from to (datum ∷ row) sound readable = along_asks table route datum row sound.0 sound.1 sound.4 from to sound.2.0 sound.2.1 readable

pub at_said : (table route : List ℕ) (measure : ℕ) (row : Row) → IsSound (insert table route (at_point (absolute measure)) row)
    → IsReadable (dump_line (insert table route (at_point (absolute measure)) row)) → IsSaid (insert table route (at_point (absolute measure)) row)
at_said table route measure [] sound readable = let some = sound.3 in absurd (omega arith)
at_said table route measure (datum ∷ row) sound readable = at_asks table route datum row sound.0 sound.1 sound.4 measure sound.2 readable

run_said : (kind : Kind) (table route : List ℕ) (span : Stretch) → IsSound (insert table route (location_of kind span) span.row) → IsReadable (dump_line (insert table route (location_of kind span) span.row)) → IsSaid (insert table route (location_of kind span) span.row)
run_said Line table route span sound readable = along_said table route span.lo span.hi span.row sound readable
run_said Point table route span sound readable = at_said table route span.lo span.row sound readable

-- ---- all of them

all_front : {X : Type 0} (P : X → Type 0) (xs ys : List X) → AllByRecursion P (xs ++ ys) → AllByRecursion P xs
all_front P [] ys all = tt
all_front P (x ∷ xs) ys all = (all.0, all_front P xs ys all.1)

all_back : {X : Type 0} (P : X → Type 0) (xs ys : List X) → AllByRecursion P (xs ++ ys) → AllByRecursion P ys
all_back P [] ys all = all
all_back P (x ∷ xs) ys all = all_back P xs ys all.1

all_append : {X : Type 0} (P : X → Type 0) (xs ys : List X) → AllByRecursion P xs → AllByRecursion P ys → AllByRecursion P (xs ++ ys)
all_append P [] ys front back = back
all_append P (x ∷ xs) ys front back = (front.0, all_append P xs ys front.1 back)

-- a command that is sound, and whose line is readable
abbrev IsGood : CommandTree → Type 0
IsGood tree = IsSound tree × IsReadable (dump_line tree)

all_good : (commands : List CommandTree) → AllByRecursion IsSound commands → AllByRecursion (λ tree. IsReadable (dump_line tree)) commands → AllByRecursion IsGood commands
all_good [] sound readable = tt
all_good (tree ∷ commands) sound readable = ((sound.0, readable.0), all_good commands sound.1 readable.1)

section : {X : Type 0} (f : X → CommandTree) (P : X → Type 0) → ((x : X) → P x → IsGood (f x) → IsSaid (f x)) → (xs : List X) (others : List CommandTree) → AllByRecursion P xs → AllByRecursion IsGood (map f xs ++ others)
    → (AllByRecursion IsGood others → AreSaid others) → AreSaid (map f xs ++ others)
section f P said [] others are good more = more good
section f P said (x ∷ xs) others are good more = (said x are.0 good.0, section f P said xs others are.1 good.1 more)

anything : {X : Type 0} (xs : List X) → AllByRecursion (λ x. Unit {0}) xs
anything [] = tt
anything (x ∷ xs) = (tt, anything xs)

module _ (shortest : (line : List ℕ) (session : ℕ) (name : List ℕ) (query : QueryTree) (text : List ℕ) → Asks line (command session (define_view name query text)) → Asks (shortest_view_line name text) (command 0 (define_view name query text))) where
  all_parts : (texts : Name → List ℕ) (state : State) (parts : Parts) → ArePartsOf state parts → HaveLines texts state → AllByRecursion IsGood (commands_of texts state parts) → AreSaid (commands_of texts state parts)
  all_parts texts state parts are lines good =
      section route_command (λ route. Unit {0}) (λ (route : Name × RouteEnds) u g. route_asks route.0 route.1.start route.1.finish g.0.0 g.0.1 g.0.2 g.1) parts.routes _ (anything parts.routes) good (λ good.
      section referent_command (λ one. Unit {0}) (λ (one : PlacedReferent) u g. referent_asks one.route one.name one.measure g.0.0 g.0.1 g.0.2 g.1) parts.referents _ (anything parts.referents) good (λ good.
      section table_command (λ table. Unit {0}) (λ (table : Name × Table) u g. table_said table.1.kind table.0 table.1.columns g.0 g.1) parts.tables _ (anything parts.tables) good (λ good.
      section (row_command state) (λ one. Unit {0}) (λ (one : PlacedRow) u g. run_said (table_kind (names.get state.tables one.table)) one.table one.route one.span g.0 g.1) parts.rows _ (anything parts.rows) good (λ good.
      section alignment_command (λ alignment. Unit {0}) (λ (alignment : Name × List Piece) u g. alignment_said alignment.0 _ g.0 g.1) parts.alignments _ (anything parts.alignments) good (λ good.
      section (view_command texts) (IsUnder state.views) (λ view under g. let has = lines view.0 view.1 under in shortest has.0 has.1 view.0 view.1 (texts view.0) has.2) parts.views _ are.views.each good (λ good.
      last_section good))))))
    where
      last_section : AllByRecursion IsGood (map (index_command state) parts.indexes) → AreSaid (map (index_command state) parts.indexes)
      last_section good = each parts.indexes good
        where
          each : (list : List (Name × IndexedColumn)) → AllByRecursion IsGood (map (index_command state) list) → AreSaid (map (index_command state) list)
          each [] good = tt
          each (index ∷ list) good = (index_asks index.0 index.1.table _ good.0.0.0 good.0.0.1 good.0.0.2 good.0.1, each list good.1)

  pub all_said : (texts : Name → List ℕ) (state : State) (commands : List CommandTree) → AllByRecursion IsSound commands → IsDumpOf texts state commands → HaveLines texts state → AllByRecursion (λ tree. IsReadable (dump_line tree)) commands → AreSaid commands
  all_said texts state commands sound dump lines readable =
      subst AreSaid (sym dump.are) (all_parts texts state dump.parts dump.are_parts lines (subst (AllByRecursion IsGood) dump.are (all_good commands sound readable)))

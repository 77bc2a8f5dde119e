-- The line of a span that is lent.
use Rattle.std.proofs.Common.{◌≡◌, ◌++◌, ◌∙◌, ℕ, List, [], ◌∷◌, ap}
use Rattle.rs_dump.specs.Written.{line_bytes, lines_bytes}
use Rattle.rs_dump_laws.specs.Dump.{location_of}
use Rattle.rs_facts.specs.Runs.{Stretch, stretch}
use Rattle.rs_syntax.specs.Tree.{insert}
use Rattle.rs_value.specs.declared.column.ColumnType.{ColumnType}
use Rattle.rs_value.specs.declared.column.Kind.{Kind}
use Rattle.rs_versioned.specs.Events.{SaysSpan}
use Rattle.rs_versioned.specs.declared.event.LentSpan.{LentSpan}
use Rattle.rs_dump.proofs.Gathered.{one_line}

-- it is that of the span that it says
pub line_of_span : (types : List ColumnType) (kind : Kind) (table route : List ℕ) (lent : LentSpan) (span : Stretch) → SaysSpan types lent span → (piece : List ℕ)
    → piece ++ line_bytes (insert table route (location_of kind (stretch lent.lo lent.hi span.row)) span.row)
    ≡ piece ++ lines_bytes (insert table route (location_of kind span) span.row ∷ [])
line_of_span types kind table route lent span says piece =
    let same : stretch lent.lo lent.hi span.row ≡ span = λ i. stretch (says.lo i) (says.hi i) span.row in
    ap (λ (s : Stretch). piece ++ line_bytes (insert table route (location_of kind s) span.row)) same
    ∙ ap (λ (l : List ℕ). piece ++ l) (one_line (insert table route (location_of kind span) span.row))

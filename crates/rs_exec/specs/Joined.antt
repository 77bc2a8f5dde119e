-- Rows as their maximal runs.
use Rattle.std.specs.Prelude.{◌≡◌, List, map, Vec}
use Rattle.std.specs.declared.alloc.Global.{Global}
use Rattle.rs_value.specs.declared.column.Kind.{Kind}
use Rattle.rs_facts.specs.declared.fact.Span.{Span}
use Rattle.rs_facts.specs.Runs.{Stretch, AreRunsOf}
use Rattle.rs_facts.specs.Spans.{seen, places_of, ArePlaced}

-- the maximal runs of some spans, which mean what these mean
pub record AreTheRuns (kind : Kind) (spans made : List Stretch) : Type 0 where
  pub runs : AreRunsOf kind (places_of spans) made
  pub placed : ArePlaced kind made
  pub same : places_of made ≡ places_of spans

abbrev pub HasRuns : Kind → Vec Span Global → Vec Span Global → Type 0
HasRuns kind old new = AreTheRuns kind (map seen old.items) (map seen new.items)

abbrev pub IsOfKind : Kind → Vec Span Global → Type 0
IsOfKind kind rows = ArePlaced kind (map seen rows.items)

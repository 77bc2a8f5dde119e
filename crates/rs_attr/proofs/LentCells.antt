-- What one cell after the other tells of the spans of a part, with the bytes of their rows.
use Rattle.std.proofs.Common.{◌≡◌, ◌+◌, ℕ, List, [], ◌∷◌, ◌++◌, Some, take, slice_get}
use Rattle.std.specs.List.{AllZip}
use Rattle.rs_attr.specs.Meant.{HasBytes, SayStretches}
use Rattle.rs_attr.specs.declared.told.ToldTable.{ToldTable}
use Rattle.rs_attr.proofs.Placed.{placed_next, placed_none}
use Rattle.rs_facts.specs.Runs.{Stretch}
use Rattle.rs_versioned.specs.declared.route_span.RouteSpan.{RouteSpan}
use Rattle.std.specs.Prelude.{Option}

zip_both : (R : Stretch → Stretch → Type 0) (as' bs xs ys : List Stretch) → AllZip R as' xs → AllZip R bs ys → AllZip R (as' ++ bs) (xs ++ ys)
zip_both R [] bs [] ys one other = other
zip_both R [] bs (x ∷ xs) ys one other = absurd one
zip_both R (a ∷ as') bs [] ys one other = absurd one
zip_both R (a ∷ as') bs (x ∷ xs) ys one other = (one.0, zip_both R as' bs xs ys one.1 other)

module _ (told : ToldTable) (route : Option RouteSpan) where
  pub stretches_none : SayStretches told route [] []
  stretches_none = record { spans = []; placed = placed_none told route; are = tt }

  pub stretches_next : (cells : List (List ℕ)) (k : ℕ) (cell : List ℕ) (ss ts : List Stretch) → slice_get cells k ≡ Some cell → SayStretches told route (take k cells) ss → SayStretches told route (cell ∷ []) ts
      → SayStretches told route (take (k + 1) cells) (ss ++ ts)
  stretches_next cells k cell ss ts there so one = record {
    spans = so.spans ++ one.spans;
    placed = placed_next told route cells k cell so.spans one.spans there so.placed one.placed;
    are = zip_both (HasBytes told.schema.items) ss ts so.spans one.spans so.are one.are;
  }

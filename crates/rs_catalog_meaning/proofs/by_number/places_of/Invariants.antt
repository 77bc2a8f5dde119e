-- The places of the routes so far.
use Rattle.std.proofs.Common.{map}
use Rattle.rs_catalog_meaning.proofs.PlaceLaws.{ArePut}
use Rattle.rs_catalog_meaning.proofs.by_number.places_of.Given as goal

abbrev pub invariant-loop-place : goal.invariant-loop-place
invariant-loop-place l = ArePut (map (λ route. route.number) l.routes) l.places l.place

-- Which referents are meant that lie between the number of a route and that of the next.
use Rattle.std.specs.Prelude.{◌≡◌, ◌≢◌, ◌≤◌, List, Option, Some, ℕ, filter, length, map}
use Rattle.std.specs.List.{AllByRecursion}
use Rattle.rs_facts.specs.Fact.{AreDistinct}
use Rattle.rs_methods.specs.declared.limits.TheConstants.{REFERENTS}
use Rattle.rs_methods.specs.Position.{start_name}
use Rattle.rs_lexer.specs.Names.{IsName}
use Rattle.rs_versioned.specs.Meant.{IsPlaceOf}
use Rattle.rs_versioned.specs.Records.{is_seen}
use Rattle.rs_versioned.specs.Referents.{ReferentRecord, kept_referents}
use Rattle.rs_versioned.specs.declared.route_span.RouteSpan.{RouteSpan}

-- a name that a line can say, which is not START
pub record IsOwnName (name : List ℕ) : Type 0 where
  pub named : IsName name
  pub not_start : name ≢ start_name

-- it has such a name, at a place of the route, where there is one
pub record IsMeantOn (on : Option RouteSpan) (referent : ReferentRecord) : Type 0 where
  pub own : IsOwnName referent.name
  pub route : RouteSpan
  pub there : on ≡ Some route
  pub numbered : route.number ≡ referent.route
  pub lies : IsPlaceOf referent.measure route

-- those that the version sees
abbrev pub seen : ℕ → List ReferentRecord → List ReferentRecord
seen version = filter (is_seen kept_referents version)

abbrev pub names_of : List ReferentRecord → List (List ℕ)
names_of = map (λ referent. referent.name)

-- each that the version sees is meant on the route; each has a name of its own, and there are no more than there may be
pub record ArePartMeant (on : Option RouteSpan) (version : ℕ) (referents : List ReferentRecord) : Type 0 where
  pub each : AllByRecursion (IsMeantOn on) (seen version referents)
  pub once : AreDistinct (names_of (seen version referents))
  pub few : length (seen version referents) ≤ REFERENTS

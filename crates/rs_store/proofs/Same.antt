-- Contents that are the same are meant alike and have the same state.
use Rattle.std.proofs.Common.{◌≡◌, ◌≤◌, ℕ, List, ap, subst, sym, arith}
use Rattle.std.specs.Prelude.{map as list_map}
use Rattle.std.specs.List.{AllZip}
use Rattle.rs_catalog_pages.specs.Items.{RouteItem}
use Rattle.rs_file.specs.Contents.{Contents, HoldsAll, SameContents}
use Rattle.rs_file.specs.Meant.{HasMeantRecords, route_spans}
use Rattle.rs_file.specs.Meant as plain
use Rattle.rs_catalog_meaning.specs.Meaning.{AreMeant}
use Rattle.rs_file_meaning.specs.Changed.{SaysTheSame}
use Rattle.rs_file_meaning.specs.Meant.{AreRecordsMeant, IsMeant}
use Rattle.rs_file_meaning.specs.Seen.{routes_at, span_of_route}
use Rattle.rs_file_meaning.specs.States.{IsState, IsStateAt}
use Rattle.rs_machine.specs.State.{State}
use Rattle.rs_pages.specs.PageMap.{PageMap}
use Rattle.rs_file_meaning.proofs.Picked.{born_all}
use Rattle.rs_versioned.specs.Meant.{AreReferentsMeant}
use Rattle.rs_versioned.specs.declared.route_span.RouteSpan.{RouteSpan}

-- what is said of contents that are the same
abbrev pub FileHoldsOne : Type 0
FileHoldsOne = (map : PageMap) (one other : Contents) → HoldsAll map one → HoldsAll map other → SameContents one other

abbrev pub SameSays : Type 0
SameSays = (one other : Contents) → SameContents one other → SaysTheSame one other

abbrev pub SameMeant : Type 0
SameMeant = (oldest : ℕ) (one other : Contents) → SaysTheSame one other → IsMeant oldest one → IsMeant oldest other

abbrev pub SameState : Type 0
SameState = (version : ℕ) (one other : Contents) (state : State) → SaysTheSame one other → IsStateAt version one state → IsStateAt version other state

pub fewer_meant : (oldest from : ℕ) (contents : Contents) → oldest ≤ from → IsMeant oldest contents → IsMeant from contents
fewer_meant oldest from contents later is = record { definitions = is.definitions; records = λ version low high. is.records version (omega (arith, later, low)) high }

pub same_accepted : (one other : Contents) → SameContents one other → one.directory.accepted ≡ other.directory.accepted
same_accepted one other same = ap (λ d. d.accepted) same.directory

pub state_moves : SameSays → SameState → (one other : Contents) (state : State) → SameContents one other → IsState one state → IsState other state
state_moves says alike one other state same is =
    subst (λ (version : ℕ). IsStateAt version other state) (same_accepted one other same) (alike one.directory.accepted one other state (says one other same) is)

pub meant_moves : SameSays → SameMeant → (oldest : ℕ) (one other : Contents) → SameContents one other → IsMeant oldest one → IsMeant oldest other
meant_moves says alike oldest one other same = alike oldest one other (says one other same)

-- ---- the records of the version that was accepted last

module _ (map : PageMap) (contents : Contents) (holds : HoldsAll map contents) where
  spans_now : routes_at contents.directory.accepted contents.definitions.routes ≡ route_spans contents.definitions
  spans_now = ap (λ (routes : List RouteItem). list_map span_of_route routes) (born_all contents.directory.accepted contents.definitions.routes holds.routes)

  -- they are meant beside all routes, since each was born by then
  pub records_of_meant : IsMeant contents.directory.accepted contents → HasMeantRecords contents
  records_of_meant meant =
      let level = contents.directory.accepted in
      let at = meant.records level (omega arith) (omega arith) in record {
        routes_once = meant.definitions.routes.numbers_once;
        on_routes = record {
          tables = subst (λ (spans : List RouteSpan). AllZip (plain.IsTableMeant spans level) contents.definitions.tables contents.tables) spans_now at.tables;
          referents = subst (λ (spans : List RouteSpan). AreReferentsMeant spans level contents.referents.referents) spans_now at.referents;
        };
      }

  at_now : HasMeantRecords contents → AreRecordsMeant contents.directory.accepted contents
  at_now meant = let level = contents.directory.accepted in record {
    tables = subst (λ (spans : List RouteSpan). AllZip (plain.IsTableMeant spans level) contents.definitions.tables contents.tables) (sym spans_now) meant.on_routes.tables;
    referents = subst (λ (spans : List RouteSpan). AreReferentsMeant spans level contents.referents.referents) (sym spans_now) meant.on_routes.referents;
  }

  pub meant_of_records : AreMeant contents.definitions → HasMeantRecords contents → IsMeant contents.directory.accepted contents
  meant_of_records definitions meant = record {
    definitions = definitions;
    records = λ version low high.
        let is : contents.directory.accepted ≡ version = omega (arith, low, high) in
        subst (λ (v : ℕ). AreRecordsMeant v contents) is (at_now meant);
  }

-- The referents that a version sees, as they are kept in memory, and what the calls that bring them there answer.
use Rattle.std.specs.Prelude.{◌≡◌, ◌≢◌, ◌<◌, ◌^◌, ℕ, suc, List, Result, Err, IfOk, OnOk, filter, map}
use Rattle.std.specs.FinMap as names
use Rattle.std.specs.List.{AllByRecursion}
use Rattle.std.specs.Option.{option_or}
use Rattle.rs_facts.specs.Fact.{Name, Names, name_cmp}
use Rattle.rs_machine.specs.Lawful.{AreDistinct}
use Rattle.rs_methods.specs.Position.{start_name}
use Rattle.rs_refusal.specs.declared.refusal.Refusal.{Refusal}
use Rattle.rs_refusal.specs.declared.refusal.Refusal.TheVariants as refusal
use Rattle.rs_pages.specs.PageMap.{PageMap}
use Rattle.rs_pages.specs.declared.pages.Pages.{Ghosts}
use Rattle.rs_syntax.specs.Sound.{IsName, IsMeasure}
use Rattle.rs_catalog.specs.Referents.{referents_on}
use Rattle.rs_catalog.specs.declared.referents.RouteReferents.{RouteReferents}
use Rattle.rs_versioned.specs.Meant.{AreReferentsMeant}
use Rattle.rs_versioned.specs.Records.{HoldsRecords}
use Rattle.rs_versioned.specs.Referents.{ReferentRecord, is_referent_of, kept_referents, referents_at}
use Rattle.rs_versioned.specs.Tables.{ReferentTableState}
use Rattle.rs_versioned.specs.declared.route_span.RouteSpan.{RouteSpan}

-- it has a name that a line can say, which is not START, and is at a measure
pub record IsReferent (referent : ReferentRecord) : Type 0 where
  pub named : IsName referent.name
  pub not_start : referent.name ≢ start_name
  pub measured : IsMeasure referent.measure

-- the route is such as a file may have: a number comes after its own, and it ends at a measure
pub record IsSpan (route : RouteSpan) : Type 0 where
  pub numbered : suc route.number < 2 ^ 32
  pub measured : IsMeasure route.finish

-- the route has these referents, each at its measure, beside those of other names that it had, and other routes have what they had
pub record HasMore (route : ℕ) (referents : List (Name × ℕ)) (old now : ℕ → Names ℕ) : Type 0 where
  pub there : (name : Name) → names.get (now route) name ≡ option_or (names.find name_cmp name referents) (names.get (old route) name)
  pub others : (number : ℕ) → number ≢ route → now number ≡ old number

-- this is so of the referents that lie there, whichever they are
abbrev pub OfThose : PageMap → ReferentTableState → (List ReferentRecord → Type 0) → Type 0
OfThose map table IsSo = (referents : List ReferentRecord) (used : ℕ → ℕ) (accepted : ℕ)
    → HoldsRecords kept_referents map table.working accepted referents used → IsSo referents

module _ {P : Type 0} (pages : Ghosts P) (table : ReferentTableState) (routes : List RouteSpan) (version : ℕ) where
  -- on an honest disk each route has just the referents that the version sees on it, where they are meant beside these routes
  abbrev pub Brings : Result RouteReferents Refusal → P → Type 0
  Brings result old = pages.is_tied old → IfOk result (λ made. OfThose (pages.store old).map table (λ referents.
      AreReferentsMeant routes version referents → (number : ℕ) → referents_on made number ≡ names.from_entries (referents_at version number referents)))

  -- on an honest disk it is found damaged only where no referents lie there or they are not meant beside these routes, if these
  -- are such as a file may have
  abbrev pub FindsDamaged : Result RouteReferents Refusal → P → Type 0
  FindsDamaged result old = pages.is_tied old → result ≡ Err refusal.DamagedFile → AllByRecursion IsSpan routes
      → OfThose (pages.store old).map table (λ referents. AreReferentsMeant routes version referents → ⊥)

module _ {P : Type 0} (pages : Ghosts P) (table : ReferentTableState) (route version : ℕ) where
  -- on an honest disk the route has those that the version sees on it, where no two of them have one name
  abbrev pub BringsRoute : RouteReferents → RouteReferents → Result (Unit {0}) Refusal → P → Type 0
  BringsRoute was is result old = pages.is_tied old → OnOk result (OfThose (pages.store old).map table (λ referents.
      let seen = referents_at version route referents in
      AreDistinct (map (λ one. one.0) seen) → HasMore route seen (referents_on was) (referents_on is)))

  -- on an honest disk it is found damaged only where no referents lie there or one that it sees is none, if another number may come
  abbrev pub FindsRouteDamaged : Result (Unit {0}) Refusal → P → Type 0
  FindsRouteDamaged result old = pages.is_tied old → result ≡ Err refusal.DamagedFile → suc route < 2 ^ 32
      → OfThose (pages.store old).map table (λ referents. AllByRecursion IsReferent (filter (is_referent_of version route) referents) → ⊥)

-- The referents of one route, as they are brought alone.
use Rattle.std.proofs.Common.{◌≡◌, ◌≤◌, ◌==◌, ◌^◌, ◌||◌, ℕ, suc, Bool, false, List, [], ◌∷◌, refl, sym, ap, ◌∙◌, arith}
use Rattle.std.specs.FinMap as names
use Rattle.std.specs.List.{AllByRecursion}
use Rattle.std.proofs.lemmas.Bool.Decides.{nat_tests}
use Rattle.rs_catalog.specs.Referents.{no_referents}
use Rattle.rs_stored_catalog.specs.Referents.{HasMore, IsSpan}
use Rattle.rs_stored_catalog.specs.RouteReferents.{HasAlone}
use Rattle.rs_facts.specs.Fact.{Names}
use Rattle.rs_stored_catalog.proofs.MeantReferents.{has_number, none_elsewhere}
use Rattle.rs_stored_catalog.proofs.PutReferents.{either_way}
use Rattle.rs_versioned.specs.Meant.{AreReferentsMeant}
use Rattle.rs_versioned.specs.Referents.{ReferentRecord, referents_at}
use Rattle.rs_versioned.specs.declared.route_span.RouteSpan.{RouteSpan}

-- no route that a file may have has a number after which none comes
none_numbered : (routes : List RouteSpan) (number : ℕ) → 2 ^ 32 ≤ suc number → AllByRecursion IsSpan routes → has_number number routes ≡ false
none_numbered [] number last spans = refl
none_numbered (route ∷ routes) number last spans =
    let below = spans.0.numbered in
    let other : (route.number == number) ≡ false = grind (arith, nat_tests) in
    ap (λ (b : Bool). b || has_number number routes) other ∙ none_numbered routes number last spans.1

-- nothing was brought, and the version sees no referent of such a number
pub nothing_alone : (number version : ℕ) (referents : List ReferentRecord) (held : ℕ → Names ℕ) → held ≡ no_referents → 2 ^ 32 ≤ suc number → (routes : List RouteSpan)
    → AllByRecursion IsSpan routes → AreReferentsMeant routes version referents → HasAlone number (names.from_entries (referents_at version number referents)) held
nothing_alone number version referents held new last routes spans meant = record {
  there = ap (λ (f : ℕ → Names ℕ). f number) new
      ∙ sym (ap names.from_entries (none_elsewhere routes version referents meant number (none_numbered routes number last spans)));
  others = λ other isnt. ap (λ (f : ℕ → Names ℕ). f other) new;
}

-- those of the route were put where none was
pub more_alone : (number version : ℕ) (referents : List ReferentRecord) (old now : ℕ → Names ℕ) → old ≡ no_referents → HasMore number (referents_at version number referents) old now
    → HasAlone number (names.from_entries (referents_at version number referents)) now
more_alone number version referents old now new more = record {
  there = either_way false (referents_at version number referents) (old number) (now number) (ap (λ (f : ℕ → Names ℕ). f number) new) more.there;
  others = λ other isnt. more.others other isnt ∙ ap (λ (f : ℕ → Names ℕ). f other) new;
}

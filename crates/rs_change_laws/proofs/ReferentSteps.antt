-- A referent that comes, moves or ends, in the contents of a file and in the state.
use Rattle.std.proofs.Common.{◌≡◌, ◌<◌, ◌≤◌, ◌+◌, ◌∙◌, inl, inr, ℕ, Bool, true, false, nat_le, nat_lt, None, Some, List, filter, refl, sym, ap, subst, arith, ◌==◌}
use Rattle.std.specs.Prelude.{Contains, Option, is_some}
use Rattle.std.specs.FinMap as names
use Rattle.std.specs.FinMap.{get-from_entries}
use Rattle.std.specs.List.{AllByRecursion}
use Rattle.std.proofs.lemmas.Bool.{and_from, and_parts, eqb-true, false≢true, le-leb, lt-ltb, ltb-true}
use Rattle.std.proofs.lemmas.List.Elements.{All-contains, All-from_recursion}
use Rattle.rs_catalog.specs.Definitions as catalog
use Rattle.rs_catalog.specs.Definitions.{Definitions, Numbered}
use Rattle.rs_catalog.specs.Referents.{HeldReferents, at_number, referents_on}
use Rattle.rs_catalog.proofs.NameOrder.{name_cmp-total}
use Rattle.rs_cell_versions.specs.declared.cell.TheConstants.{LIVING}
use Rattle.rs_file_parts.specs.Contents.{Contents}
use Rattle.rs_file_parts.specs.OpenedFile.{OpenedFile}
use Rattle.rs_table_changes.specs.Turns.{ReferentsTurn}
use Rattle.rs_facts.specs.Fact.{Name, Names}
use Rattle.rs_file_meaning.specs.Live.{HaveOwnNames, KeepsReferents}
use Rattle.rs_file_parts.specs.Calls.{EndsNamed}
use Rattle.rs_machine.specs.Lawful.{IsLawful}
use Rattle.rs_machine.specs.State.{State, has}
use Rattle.rs_machine.specs.Step.{with_referents}
use Rattle.rs_pages.specs.PageMap.{PageMap}
use Rattle.rs_table_changes.proofs.Turning.{AreApart}
use Rattle.rs_file_meaning.proofs.Named.{found_item}
use Rattle.std.proofs.lemmas.Option.{none-some}
use Rattle.rs_change_laws.proofs.NamedEntries.{under_name}
use Rattle.rs_file_meaning.proofs.Picked.{kept_in, kept_passes, kept_there, shown_there}
use Rattle.rs_versioned.specs.Records.{HasEnded, HasOneMore, is_seen}
use Rattle.rs_versioned.specs.Referents.{ReferentRecord, is_referent_of, kept_referents, referents_at}
use Rattle.rs_versioned.proofs.KeptReferents.{referents_are_kept}
use Rattle.rs_versioned.proofs.Present.{IsDatedRecord, held_dated}
use Rattle.rs_change_laws.specs.Changing.{GivesState}
use Rattle.rs_change_laws.specs.Parts.{EndsReferent, MovesReferent, PutsReferent, living_referent}
use Rattle.rs_change_laws.specs.Standing.{StandsAt}
use Rattle.rs_change_laws.proofs.OtherReferents as other
use Rattle.rs_change_laws.proofs.ReferentTurns.{SomeEnded, come_beside, held_apart, none_ended, one_ends, turned}
use Rattle.rs_change_laws.proofs.ReferentLists.{HasUnder, NamesStay, OwnNames, SameUnderNames, ended_and_come, none_left, one_comes, one_ends as one_ends_under, same_number, under}

-- what is said of the versions that see referents
pub record Laws : Type 0 where
  pub states : other.Laws
  pub stay : NamesStay
  pub same : SameUnderNames
  pub come : (oldest accepted : ℕ) (one : ReferentRecord) (old now : List ReferentRecord) → HasOneMore one old now → accepted < one.born → KeepsReferents oldest accepted old now
  pub ended : (oldest accepted version : ℕ) (one : ReferentRecord) (old now : List ReferentRecord) → HaveOwnNames oldest accepted old
      → HasEnded kept_referents version one old now → one.died ≡ LIVING → accepted < version → version < LIVING → KeepsReferents oldest accepted old now
  pub joined : (oldest accepted : ℕ) (old next now : List ReferentRecord) → KeepsReferents oldest accepted old next → KeepsReferents oldest accepted next now
      → KeepsReferents oldest accepted old now

-- what is found, where something is there
some_there : {X : Type 0} (o : Option X) → is_some o ≡ true → (x : X) × (o ≡ Some x)
some_there None is = absurd (false≢true is)
some_there (Some x) is = (x, refl)

none_there : {X : Type 0} (o : Option X) → is_some o ≡ false → o ≡ None
none_there None is = refl
none_there (Some x) is = absurd (false≢true (sym is))

module _ (laws : Laws) (from oldest : ℕ) (pages : PageMap) (file : OpenedFile) (definitions : Definitions) (held kept : Numbered HeldReferents) (state : State)
    (stands : StandsAt from pages file definitions held state) (later : from ≤ oldest) (below : stands.contents.directory.accepted + 1 < LIVING) where
  abbrev contents : Contents
  contents = stands.contents

  abbrev accepted : ℕ
  accepted = contents.directory.accepted

  abbrev next : ℕ
  next = accepted + 1

  abbrev referents : List ReferentRecord
  referents = contents.referents.referents

  -- ---- what ends and comes

  all_dated : AllByRecursion (IsDatedRecord kept_referents accepted) referents
  all_dated = held_dated kept_referents referents_are_kept pages contents.referents.standing accepted referents contents.referents.used stands.holds.parts.referents

  all_apart : AreApart referents
  all_apart = held_apart pages contents.referents.standing accepted referents contents.referents.used stands.holds.parts.referents

  abbrev SomeSo : List ReferentRecord → Type 0
  SomeSo = SomeEnded next accepted (omega arith) below referents all_dated all_apart

  none_so_far : SomeSo referents
  none_so_far = none_ended next accepted (omega arith) below referents all_dated all_apart

  end_so : (one : ReferentRecord) (cur now : List ReferentRecord) → one.died ≡ LIVING → HasEnded kept_referents next one cur now → SomeSo cur → SomeSo now
  end_so = one_ends next accepted (omega arith) below referents all_dated all_apart

  turned_so : (now : List ReferentRecord) → SomeSo now → ReferentsTurn next referents now
  turned_so = turned next accepted (omega arith) below referents all_dated all_apart

  come_turned : (one : ReferentRecord) (cur now : List ReferentRecord) → one.born ≡ next → one.died ≡ LIVING → HasOneMore one cur now → SomeSo cur → ReferentsTurn next referents now
  come_turned = come_beside next accepted (omega arith) below referents all_dated all_apart

  dated : (one : ReferentRecord) → Contains referents one → IsDatedRecord kept_referents accepted one
  dated one there =
      All-contains (IsDatedRecord kept_referents accepted) referents one (All-from_recursion (IsDatedRecord kept_referents accepted) referents all_dated) there

  live_names : HaveOwnNames oldest accepted referents
  live_names = record { each = λ version route low high. (stands.meant.records version (omega (arith, later, low)) high).referents.once route }

  -- a living one has the name, where the next version sees something under it
  seen_lives : (number : ℕ) (name : Name) (measure : ℕ) → names.get (under next number referents) name ≡ Some measure
      → ((one : ReferentRecord) → Contains referents one → one.route ≡ number → one.name ≡ name → one.died ≡ LIVING → ⊥) → ⊥
  seen_lives number name measure found none =
      let item = found_item (λ (r : ReferentRecord). r.name) (λ r. r.measure) (filter (is_referent_of next number) referents) name measure
      (sym (get-from_entries name_cmp-total (referents_at next number referents) name) ∙ found) in
      let inside = kept_there (is_referent_of next number) referents item.item item.there in
      let parts = and_parts (item.item.route == number) (is_seen kept_referents next item.item) (kept_passes (is_referent_of next number) referents item.item item.there) in
      let seen = and_parts (nat_le item.item.born next) (nat_lt next item.item.died) parts.1 in
      elim (dated item.item inside).1 [
        | inl lives ↦ none item.item inside (eqb-true item.item.route number parts.0) item.named lives
        | inr died ↦ omega (arith, died.1, ltb-true next item.item.died seen.1)
      ]

  module _ (route : Name) (on : catalog.RouteItem) (there : names.get definitions.routes route ≡ Some on) where
    abbrev here : Names ℕ
    here = under next on.number referents

    own : OwnNames next referents
    own = other.own_names laws.states from oldest pages file definitions held state stands later below route on there

    state_under : state.referents route ≡ here
    state_under = other.state_under laws.states from oldest pages file definitions held state stands later below route on there

    held_under : referents_on held on.number ≡ state.referents route
    held_under = other.held_under laws.states from oldest pages file definitions held state stands later below route on there

    -- a living one came, and it is all that has come
    comes : (name : Name) (measure : ℕ) (old now : List ReferentRecord) → HasOneMore (living_referent next on.number name measure) old now → OwnNames next old
        → names.get (under next on.number old) name ≡ None → HasUnder next on.number (names.insert (under next on.number old) name measure) old now
    comes name measure old now more own free =
        let one = living_referent next on.number name measure in
        let seen : is_seen kept_referents next one ≡ true = and_from (nat_le next next) (nat_lt next LIVING) (le-leb next next (omega arith)) (lt-ltb next LIVING below) in
        elim more [
          | inl was ↦ absurd (was_not one old was.there seen own free)
          | inr come ↦ one_comes laws.stay laws.same contents next one old now come.more seen own free
        ]
      where
        was_not : (one : ReferentRecord) (old : List ReferentRecord) → Contains old one → is_seen kept_referents next one ≡ true → OwnNames next old → names.get (under next one.route old) one.name ≡ None → ⊥
        was_not one old there seen own free =
            let passes : is_referent_of next one.route one ≡ true = and_from (one.route == one.route) (is_seen kept_referents next one) (same_number one.route) seen in
            let found = under_name (referents_at next one.route old) (one.name, one.measure) (own one.route)
            (shown_there (λ (r : ReferentRecord). (r.name, r.measure)) (filter (is_referent_of next one.route) old) one (kept_in (is_referent_of next one.route) old one there passes)) in
            none-some one.measure (sym free ∙ found)

    -- the one of the name has ended
    record HasEndedHere (name : Name) (now : List ReferentRecord) : Type 0 where
      under_then : HasUnder next on.number (names.remove here name) referents now
      keeps : KeepsReferents oldest accepted referents now
      some : SomeSo now

    ends : (name : Name) (found : Bool) (now : List ReferentRecord) → EndsNamed next on.number name found referents now → has (state.referents route) name ≡ true → HasEndedHere name now
    ends name true now ended is_there =
        let one = ended.one refl in
        record {
          under_then = one_ends_under laws.stay laws.same contents next on.number name referents now below (λ r inside. omega (arith, (dated r inside).0)) one own;
          keeps = laws.ended oldest accepted next one.one referents now live_names one.ended one.living (omega arith) below;
          some = end_so one.one referents now one.living one.ended none_so_far;
        }
    ends name false now ended is_there =
        let some = some_there (names.get here name) (ap (λ (m : Names ℕ). is_some (names.get m name)) (sym state_under) ∙ is_there) in
        absurd (seen_lives on.number name some.0 some.1 (ended.none refl).none)

    -- ---- the states

    module _ (after : Names ℕ → Names ℕ) (holds : referents_on kept ≡ at_number on.number (after (referents_on held on.number)) (referents_on held))
        (is_lawful : IsLawful (with_referents state route (after (state.referents route)))) (between : Contents) (rest : between ≡ record contents { referents = between.referents })
        (has_under : HasUnder next on.number (after here) referents between.referents.referents) (keeps : KeepsReferents oldest accepted referents between.referents.referents)
        (turns : ReferentsTurn next referents between.referents.referents) where
      pub becomes : GivesState oldest contents between definitions kept (with_referents state route (after (state.referents route)))
      becomes = subst (λ (b : Contents). GivesState oldest contents b definitions kept (with_referents state route (after (state.referents route)))) (sym rest)
          (other.gives laws.states from oldest pages file definitions held state stands later below route on there between.referents (after (state.referents route)) kept
          (subst (λ (m : Names ℕ). HasUnder next on.number (after m) referents between.referents.referents) (sym state_under) has_under) keeps
          (subst (λ (m : Names ℕ). referents_on kept ≡ at_number on.number (after m) (referents_on held)) held_under holds) is_lawful turns)

    pub put : (name : Name) (measure : ℕ) (between : Contents) → has (state.referents route) name ≡ false
        → referents_on kept ≡ at_number on.number (names.insert (referents_on held on.number) name measure) (referents_on held)
        → PutsReferent on.number name measure contents between
        → IsLawful (with_referents state route (names.insert (state.referents route) name measure))
        → GivesState oldest contents between definitions kept (with_referents state route (names.insert (state.referents route) name measure))
    put name measure between free holds puts is_lawful =
        let none = none_there (names.get here name) (ap (λ (m : Names ℕ). is_some (names.get m name)) (sym state_under) ∙ free) in
        becomes (λ m. names.insert m name measure) holds is_lawful between puts.rest
        (comes name measure referents between.referents.referents puts.changed own none)
        (laws.come oldest accepted (living_referent next on.number name measure) referents between.referents.referents puts.changed (omega arith))
        (come_turned (living_referent next on.number name measure) referents between.referents.referents refl refl puts.changed none_so_far)

    pub end : (name : Name) (between : Contents) → has (state.referents route) name ≡ true
        → referents_on kept ≡ at_number on.number (names.remove (referents_on held on.number) name) (referents_on held)
        → EndsReferent on.number name contents between
        → IsLawful (with_referents state route (names.remove (state.referents route) name))
        → GivesState oldest contents between definitions kept (with_referents state route (names.remove (state.referents route) name))
    end name between is_there holds changes is_lawful =
        let ended = ends name changes.changed.0 between.referents.referents changes.changed.1 is_there in
        becomes (λ m. names.remove m name) holds is_lawful between changes.rest ended.under_then ended.keeps (turned_so between.referents.referents ended.some)

    pub move : (name : Name) (measure : ℕ) (now : Contents) → has (state.referents route) name ≡ true
        → referents_on kept ≡ at_number on.number (names.insert (referents_on held on.number) name measure) (referents_on held)
        → MovesReferent on.number name measure contents now
        → IsLawful (with_referents state route (names.insert (state.referents route) name measure))
        → GivesState oldest contents now definitions kept (with_referents state route (names.insert (state.referents route) name measure))
    move name measure now is_there holds moves is_lawful =
        let between = moves.0 in
        let first = moves.1 in
        let last = moves.2 in
        let level : between.directory.accepted + 1 ≡ next = ap (λ (c : Contents). c.directory.accepted + 1) first.rest in
        let more : HasOneMore (living_referent next on.number name measure) between.referents.referents now.referents.referents =
        subst (λ (version : ℕ). HasOneMore (living_referent version on.number name measure) between.referents.referents now.referents.referents) level last.changed in
        let ended = ends name first.changed.0 between.referents.referents first.changed.1 is_there in
        let under_then = ended.under_then in
        let come = comes name measure between.referents.referents now.referents.referents more under_then.own
        (none_left next on.number name referents between.referents.referents under_then) in
        becomes (λ m. names.insert m name measure) holds is_lawful now
        (last.rest ∙ ap (λ (c : Contents). record c { referents = now.referents }) first.rest)
        (ended_and_come next on.number measure name referents between.referents.referents now.referents.referents under_then come)
        (laws.joined oldest accepted referents between.referents.referents now.referents.referents ended.keeps
        (laws.come oldest accepted (living_referent next on.number name measure) between.referents.referents now.referents.referents more (omega arith)))
        (come_turned (living_referent next on.number name measure) between.referents.referents now.referents.referents refl refl more ended.some)

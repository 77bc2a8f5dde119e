-- What a version sees of referents where one comes or ends.
use Rattle.std.proofs.Common.{◌≡◌, ◌<◌, ◌≤◌, ◌==◌, ◌∙◌, inl, inr, ℕ, Bool, true, false, cond, nat_le, nat_lt, None, List, ◌∷◌, map, filter, refl, sym, ap, subst, arith}
use Rattle.std.specs.Prelude.{Contains}
use Rattle.std.specs.FinMap as names
use Rattle.std.specs.FinMap.{get-from_entries}
use Rattle.std.specs.List.Sorted.{IsPermutation}
use Rattle.std.proofs.lemmas.Bool.{and_from, and_left, and_right, eqb-true, false≢true, le-leb, le-ltb, lt-ltb, ne_eqb}
use Rattle.std.proofs.lemmas.Bool.Decides.{nat_tests}
use Rattle.std.proofs.lemmas.List.Sorted.{IsPermutation-map, IsPermutation-refl, IsPermutation-sym}
use Rattle.rs_catalog.proofs.NameOrder.{name_cmp-total}
use Rattle.rs_cell_versions.specs.declared.cell.TheConstants.{LIVING}
use Rattle.rs_facts.specs.Fact.{Name, Names, name_cmp}
use Rattle.rs_file_parts.specs.Contents.{Contents}
use Rattle.rs_file_meaning.specs.Live.{HaveOwnNames, KeepsReferents, SeesTheSame}
use Rattle.rs_file_meaning.specs.Seen.{referents_seen, seen_referent, seen_referents}
use Rattle.rs_file_parts.specs.Calls.{EndsOne}
use Rattle.rs_machine.specs.Lawful.{AreDistinct}
use Rattle.rs_versioned.specs.Records.{WasEnded, is_seen}
use Rattle.rs_versioned.specs.Referents.{ReferentRecord, ended_referent, is_referent_of, kept_referents, referents_at}
use Rattle.rs_versioned.proofs.Shuffles.{IsPermutation-filter}
use Rattle.rs_change_laws.proofs.NamedEntries.{insert-remove, none_named, not_found, remove-insert, removed}

-- what is said of versions and their referents
abbrev pub NamesStay : Type 0
NamesStay = (oldest accepted : ℕ) (old now : List ReferentRecord) → KeepsReferents oldest accepted old now → HaveOwnNames oldest accepted old → HaveOwnNames oldest accepted now

abbrev pub SameUnderNames : Type 0
SameUnderNames = (version route : ℕ) (old now : Contents) → SeesTheSame version old now → AreDistinct (map (λ one. one.0) (referents_at version route old.referents.referents))
    → referents_seen now version route ≡ referents_seen old version route

-- the version sees of each route referents with names of their own
abbrev pub OwnNames : ℕ → List ReferentRecord → Type 0
OwnNames version referents = (route : ℕ) → AreDistinct (map (λ one. one.0) (referents_at version route referents))

-- what the version sees under the names of a route
abbrev pub under : ℕ → ℕ → List ReferentRecord → Names ℕ
under version route referents = names.from_entries {R = name_cmp} (referents_at version route referents)

-- the version sees these under the names of one route, and under those of the others what it saw
pub record HasUnder (version number : ℕ) (after : Names ℕ) (old now : List ReferentRecord) : Type 0 where
  pub own : OwnNames version now
  pub on : under version number now ≡ after
  pub others : (route : ℕ) → (route ≡ number → ⊥) → under version route now ≡ under version route old

pub same_number : (n : ℕ) → (n == n) ≡ true
same_number n = grind (arith, nat_tests)

-- ---- the first of a list

module _ (version : ℕ) (one : ReferentRecord) (rest : List ReferentRecord) where
  first : (route : ℕ) (b : Bool) → is_referent_of version route one ≡ b → referents_at version route (one ∷ rest) ≡ cond b ((one.name, one.measure) ∷ referents_at version route rest) (referents_at version route rest)
  first route b is = ap (λ c. map (λ (referent : ReferentRecord). (referent.name, referent.measure)) (cond c (one ∷ filter (is_referent_of version route) rest) (filter (is_referent_of version route) rest))) is ∙ by_test b where
    by_test : (c : Bool) → map (λ (referent : ReferentRecord). (referent.name, referent.measure)) (cond c (one ∷ filter (is_referent_of version route) rest) (filter (is_referent_of version route) rest))
        ≡ cond c ((one.name, one.measure) ∷ referents_at version route rest) (referents_at version route rest)
    by_test true = refl
    by_test false = refl

  pub first_on : is_seen kept_referents version one ≡ true → referents_at version one.route (one ∷ rest) ≡ (one.name, one.measure) ∷ referents_at version one.route rest
  first_on seen = first one.route true (and_from (one.route == one.route) (is_seen kept_referents version one) (same_number one.route) seen)

  pub first_apart : (route : ℕ) → (route ≡ one.route → ⊥) → referents_at version route (one ∷ rest) ≡ referents_at version route rest
  first_apart route apart = first route false (and_left (one.route == route) (is_seen kept_referents version one) (ne_eqb one.route route (λ same. apart (sym same))))

  pub first_unseen : (route : ℕ) → is_seen kept_referents version one ≡ false → referents_at version route (one ∷ rest) ≡ referents_at version route rest
  first_unseen route unseen = first route false (and_right (one.route == route) (is_seen kept_referents version one) unseen)

-- what the version sees on each route is distinct, for one route and for the others
by_route : (version number : ℕ) (referents : List ReferentRecord) → AreDistinct (map (λ one. one.0) (referents_at version number referents))
    → ((route : ℕ) → (route ≡ number → ⊥) → AreDistinct (map (λ one. one.0) (referents_at version route referents))) → OwnNames version referents
by_route version number referents here there route =
    elim (route == number) as (λ b. (route == number) ≡ b → AreDistinct (map (λ one. one.0) (referents_at version route referents))) [
      | true ↦ λ same. subst (λ (r : ℕ). AreDistinct (map (λ one. one.0) (referents_at version r referents))) (sym (eqb-true route number same)) here
      | false ↦ λ other. there route (λ same. false≢true (sym other ∙ ap (λ (n : ℕ). n == number) same ∙ same_number number))
    ] refl

module _ (stay : NamesStay) (same : SameUnderNames) (contents : Contents) (version : ℕ) where
  abbrev with_list : List ReferentRecord → Contents
  with_list referents = record contents { referents = record contents.referents { referents = referents } }

  seen_moved : (at : ℕ) (old now : List ReferentRecord) → IsPermutation now old → IsPermutation (seen_referents at now) (seen_referents at old)
  seen_moved at old now p =
      IsPermutation-map seen_referent (filter (is_seen kept_referents at) now) (filter (is_seen kept_referents at) old) (IsPermutation-filter (is_seen kept_referents at) now old p)

  -- ---- in another order

  pub own_moved : (old now : List ReferentRecord) → IsPermutation now old → OwnNames version old → OwnNames version now
  own_moved old now p own route =
      (stay version version old now (record { each = λ at low high. seen_moved at old now p })
      (record { each = λ at route low high. subst (λ (v : ℕ). AreDistinct (map (λ one. one.0) (referents_at v route old))) (omega (arith, low, high)) (own route) })).each version route (omega arith) (omega arith)

  pub under_moved : (old now : List ReferentRecord) → IsPermutation now old → OwnNames version old → (route : ℕ) → under version route now ≡ under version route old
  under_moved old now p own route =
      same version route (with_list old) (with_list now)
      (record { routes = refl; tables = λ item there. there; events = λ table. IsPermutation-refl _; referents = seen_moved version old now p }) (own route)

  -- ---- one comes

  pub one_comes : (one : ReferentRecord) (old now : List ReferentRecord) → IsPermutation now (one ∷ old) → is_seen kept_referents version one ≡ true → OwnNames version old
      → names.get (under version one.route old) one.name ≡ None → HasUnder version one.route (names.insert (under version one.route old) one.name one.measure) old now
  one_comes one old now p seen own free =
      let more : OwnNames version (one ∷ old) =
      by_route version one.route (one ∷ old)
      (subst (λ (es : List (Name × ℕ)). AreDistinct (map (λ one. one.0) es)) (sym (first_on version one old seen))
      (none_named one.name (referents_at version one.route old) (sym (get-from_entries name_cmp-total (referents_at version one.route old) one.name) ∙ free), own one.route))
      (λ route apart. subst (λ (es : List (Name × ℕ)). AreDistinct (map (λ one. one.0) es)) (sym (first_apart version one old route apart)) (own route)) in
      record {
        own = own_moved (one ∷ old) now p more;
        on = under_moved (one ∷ old) now p more one.route ∙ ap (λ (es : List (Name × ℕ)). names.from_entries {R = name_cmp} es) (first_on version one old seen);
        others = λ route apart. under_moved (one ∷ old) now p more route ∙ ap (λ (es : List (Name × ℕ)). names.from_entries {R = name_cmp} es) (first_apart version one old route apart);
      }

  -- ---- one ends

  one_goes : (one : ReferentRecord) (old rest left now : List ReferentRecord) → IsPermutation old (one ∷ rest) → IsPermutation now left
      → ((route : ℕ) → referents_at version route left ≡ referents_at version route rest) → is_seen kept_referents version one ≡ true → OwnNames version old
      → HasUnder version one.route (names.remove (under version one.route old) one.name) old now
  one_goes one old rest left now were are level seen own =
      let back = IsPermutation-sym old (one ∷ rest) were in
      let whole : OwnNames version (one ∷ rest) = own_moved old (one ∷ rest) back own in
      let here : AreDistinct (map (λ one. one.0) ((one.name, one.measure) ∷ referents_at version one.route rest)) =
      subst (λ (es : List (Name × ℕ)). AreDistinct (map (λ one. one.0) es)) (first_on version one rest seen) (whole one.route) in
      let fewer : OwnNames version rest =
      by_route version one.route rest here.1
      (λ route apart. subst (λ (es : List (Name × ℕ)). AreDistinct (map (λ one. one.0) es)) (first_apart version one rest route apart) (whole route)) in
      let remain : OwnNames version left = λ route. subst (λ (es : List (Name × ℕ)). AreDistinct (map (λ one. one.0) es)) (sym (level route)) (fewer route) in
      let none : names.get (under version one.route rest) one.name ≡ None =
      get-from_entries name_cmp-total (referents_at version one.route rest) one.name ∙ not_found one.name (referents_at version one.route rest) here.0 in
      let now_is : (route : ℕ) → under version route now ≡ under version route rest = λ route.
      under_moved left now are remain route ∙ ap (λ (es : List (Name × ℕ)). names.from_entries {R = name_cmp} es) (level route) in
      let was : names.insert (under version one.route rest) one.name one.measure ≡ under version one.route old =
      sym (ap (λ (es : List (Name × ℕ)). names.from_entries {R = name_cmp} es) (first_on version one rest seen)) ∙ under_moved old (one ∷ rest) back own one.route in
      record {
        own = own_moved left now are remain;
        on = now_is one.route ∙ sym (remove-insert (under version one.route rest) one.name one.measure none) ∙ ap (λ (m : Names ℕ). names.remove m one.name) was;
        others = λ route apart. now_is route ∙ sym (ap (λ (es : List (Name × ℕ)). names.from_entries {R = name_cmp} es) (first_apart version one rest route apart)) ∙ under_moved old (one ∷ rest) back own route;
      }

  ended_unseen : (one : ReferentRecord) → is_seen kept_referents version (ended_referent version one) ≡ false
  ended_unseen one = and_right (nat_le one.born version) (nat_lt version version) (le-ltb version version (omega arith))

  one_ended : (one : ReferentRecord) (old now : List ReferentRecord) → WasEnded kept_referents version one old now → is_seen kept_referents version one ≡ true → OwnNames version old
      → HasUnder version one.route (names.remove (under version one.route old) one.name) old now
  one_ended one old now gone seen own = elim gone.are [
    | inl late ↦ elim late.1 [
      | inl twin ↦ one_goes one old gone.rest gone.rest now gone.were twin.same (λ route. refl) seen own
      | inr come ↦ one_goes one old gone.rest (ended_referent version one ∷ gone.rest) now gone.were come.more (λ route. first_unseen version (ended_referent version one) gone.rest route (ended_unseen one)) seen own
    ]
    | inr early ↦ one_goes one old gone.rest gone.rest now gone.were early.1 (λ route. refl) seen own
  ]

  pub one_ends : (number : ℕ) (name : Name) (old now : List ReferentRecord) → version < LIVING → ((one : ReferentRecord) → Contains old one → one.born ≤ version)
      → EndsOne version number name old now → OwnNames version old → HasUnder version number (names.remove (under version number old) name) old now
  one_ends number name old now below born ends own =
      let one = ends.one in
      let seen : is_seen kept_referents version one ≡ true =
      and_from (nat_le one.born version) (nat_lt version one.died) (le-leb one.born version (born one ends.there)) (lt-ltb version one.died (omega (arith, below, ends.living))) in
      subst (λ (n : Name). HasUnder version number (names.remove (under version number old) n) old now) ends.name_is
      (subst (λ (r : ℕ). HasUnder version r (names.remove (under version r old) one.name) old now) ends.route_is
      (elim ends.ended [
        | inl missing ↦ absurd (missing.missing ends.there)
        | inr gone ↦ one_ended one old now gone seen own
      ]))

-- one has ended and another has come
pub ended_and_come : (version number measure : ℕ) (name : Name) (old between now : List ReferentRecord) → HasUnder version number (names.remove (under version number old) name) old between
    → HasUnder version number (names.insert (under version number between) name measure) between now → HasUnder version number (names.insert (under version number old) name measure) old now
ended_and_come version number measure name old between now ended come = record {
  own = come.own;
  on = come.on ∙ ap (λ (m : Names ℕ). names.insert m name measure) ended.on ∙ insert-remove (under version number old) name measure;
  others = λ route apart. come.others route apart ∙ ended.others route apart;
}

pub none_left : (version number : ℕ) (name : Name) (old between : List ReferentRecord) → HasUnder version number (names.remove (under version number old) name) old between
    → names.get (under version number between) name ≡ None
none_left version number name old between ended = ap (λ (m : Names ℕ). names.get m name) ended.on ∙ removed (under version number old) name

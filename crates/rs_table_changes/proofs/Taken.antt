-- Events that are taken out: it comes to the same as if they had ended at the version and were cleared.
use Rattle.std.proofs.Common.{◌≡◌, ◌≢◌, ◌<◌, ◌≤◌, ◌⊎◌, ℕ, Bool, min, inl, inr, List, [], ◌∷◌, ◌++◌, map, filter, not, append_assoc, append-nil, refl, ap, ◌∙◌, subst, arith}
use Rattle.std.proofs.lemmas.List.Elements.{Contains-append_cases, Contains-append_left}
use Rattle.std.proofs.lemmas.List.Sorted.{Contains-permutation, IsPermutation-append_comm, IsPermutation-append_left, IsPermutation-cons, IsPermutation-filter_both, IsPermutation-refl, IsPermutation-sym, IsPermutation-to_front, IsPermutation-trans}
use Rattle.std.specs.List.{AllByRecursion, AllZip, Contains}
use Rattle.std.specs.List.Sorted.{IsPermutation}
use Rattle.rs_cell_versions.specs.Version.{ended}
use Rattle.rs_cell_versions.specs.declared.cell.TheConstants.{LIVING}
use Rattle.rs_facts.specs.Runs.{Stretch}
use Rattle.rs_value.specs.declared.column.ColumnType.{ColumnType}
use Rattle.rs_versioned.specs.Events.{Event, SaysEvent, ended_event, kept_events}
use Rattle.rs_versioned.specs.Records.{HasEnded, HasOneMore}
use Rattle.rs_versioned.proofs.KeptRecords.{events_are_kept}
use Rattle.rs_versioned.proofs.MeantLists.{all_weaker}
use Rattle.rs_versioned.proofs.Present.{IsDatedRecord}
use Rattle.rs_table_changes.specs.Chains.{ComeAll, EndAll, GivesWay, GivesWayAt, living_event}
use Rattle.rs_table_changes.specs.Changes.{ThenCleared}
use Rattle.rs_table_changes.specs.Inner.{EndsSo}
use Rattle.rs_table_changes.proofs.Cancelling.{cancel_first}
use Rattle.rs_table_changes.proofs.GiveWay.{first_there}
use Rattle.rs_table_changes.proofs.Seeing.{all_kept}
use Rattle.rs_table_changes.proofs.Turning.{AreApart, all_of_both, apart_kept, none_of, same_before}

-- what has changed so, and then some were cleared, has changed so in other words
pub cleared_as : (level : ℕ) (types : List ColumnType) (one other : List Event → List Event → Type 0) (old now : List Event) → ((between : List Event) → one old between → other old between)
    → ThenCleared level types one old now → ThenCleared level types other old now
cleared_as level types one other old now then done = record { between = done.between; changed = then done.between done.changed; cells = done.cells; cleared = done.cleared }

-- none was cleared
pub none_cleared : (level : ℕ) (types : List ColumnType) (change : List Event → List Event → Type 0) (old now : List Event) → change old now → ThenCleared level types change old now
none_cleared level types change old now changed = record {
  between = now;
  changed = changed;
  cells = [];
  cleared = record { gone = []; say = tt; unseen = tt; rest = IsPermutation-refl now };
}

module _ (types : List ColumnType) (version : ℕ) (below : version < LIVING) where
  -- none of these is what the event is once it has ended
  abbrev NoneIs : List Event → Event → Type 0
  NoneIs events one = AllByRecursion (λ other. other ≢ ended_event version one) events

  -- an event that was among others is gone
  one_taken : (one : Event) (others old now : List Event) → HasEnded (kept_events types) 0 one old now → IsPermutation old (one ∷ others) → IsPermutation now others
  one_taken one others old now (inl missing) p = absurd (missing.missing (first_there one others old p))
  one_taken one others old now (inr ended) p = by ended.are where
    left : IsPermutation ended.rest others
    left = cancel_first one ended.rest others (IsPermutation-trans (one ∷ ended.rest) old (one ∷ others) (IsPermutation-sym old (one ∷ ended.rest) ended.were) p)

    by : ((one.born < 0) × HasOneMore (ended_event 0 one) ended.rest now) ⊎ ((0 ≤ one.born) × IsPermutation now ended.rest) → IsPermutation now others
    by (inl never) = absurd (omega (arith, never.0))
    by (inr gone) = IsPermutation-trans now ended.rest others gone.1 left

  next_apart : (one : Event) (done gone : List Event) → one.died ≡ LIVING → AllByRecursion (λ (e : Event). e.died ≡ LIVING) gone → AllByRecursion (λ other. one ≢ other) gone
      → AllByRecursion (NoneIs done) gone → AllByRecursion (NoneIs (done ++ ended_event version one ∷ [])) gone
  next_apart one done [] lives lived apart never = tt
  next_apart one done (g ∷ gone) lives lived apart never = (
    all_of_both (λ other. other ≢ ended_event version g) done (ended_event version one ∷ []) never.0 (λ same. apart.0 (same_before version one g lives lived.0 same), tt),
    next_apart one done gone lives lived.1 apart.1 never.1,
  )

  living_stays : (one other : Event) → one.died ≡ LIVING → one ≢ ended_event version other
  living_stays one other lives same = omega (arith, lives, ap (λ (e : Event). e.died) same, below)

  -- events that are taken out one after another end one after another, beside what has ended before them
  taken : (gone done rest old now : List Event) → AllByRecursion (λ (e : Event). e.died ≡ LIVING) gone → AllByRecursion (λ (e : Event). e.born < version) gone → AreApart gone
      → AllByRecursion (NoneIs done) gone → AllByRecursion (λ (e : Event). e.died ≢ version) rest → EndAll types 0 gone old now → IsPermutation old (gone ++ rest)
      → EndAll types version gone (old ++ done) (now ++ (done ++ map (ended_event version) gone))
  taken [] done rest old now lived early apart never stay e p = ap (λ l. now ++ l) (append-nil done) ∙ ap (λ (l : List Event). l ++ done) e
  taken (one ∷ gone) done rest old now lived early apart never stay e p =
      let last : Event = ended_event version one in
      let next : List Event = e.0 in
      let left : IsPermutation next (gone ++ rest) = one_taken one (gone ++ rest) old next e.1 p in
      let not_gone : AllByRecursion (λ other. other ≢ last) gone = all_weaker (λ (x : Event). x.died ≡ LIVING) (λ x. x ≢ last) (λ x lives. living_stays x one lives) gone lived.1 in
      let not_rest : AllByRecursion (λ other. other ≢ last) rest = all_weaker (λ (x : Event). x.died ≢ version) (λ x. x ≢ last) (λ x other same. other (ap (λ (y : Event). y.died) same)) rest stay in
      let others : AllByRecursion (λ other. other ≢ last) (gone ++ rest) = all_of_both (λ other. other ≢ last) gone rest not_gone not_rest in
      let were : IsPermutation (old ++ done) (one ∷ (next ++ done)) = IsPermutation-append_left done old (one ∷ next)
      (IsPermutation-trans old (one ∷ (gone ++ rest)) (one ∷ next) p (IsPermutation-cons one (gone ++ rest) next (IsPermutation-sym next (gone ++ rest) left))) in
      let more : IsPermutation (next ++ (done ++ last ∷ [])) (last ∷ (next ++ done)) =
      subst (λ (l : List Event). IsPermutation l (last ∷ (next ++ done))) (append_assoc next done (last ∷ [])) (IsPermutation-to_front (next ++ done) last) in
      let then : EndAll types version gone (next ++ (done ++ last ∷ [])) (now ++ ((done ++ last ∷ []) ++ map (ended_event version) gone)) =
      taken gone (done ++ last ∷ []) rest next now lived.1 early.1 apart.1 (next_apart one done gone lived.0 lived.1 apart.0 never.1) stay e.2 left in (
        next ++ (done ++ last ∷ []),
        inr (record {
          rest = next ++ done;
          were = were;
          are = inl (early.0, inr (record { missing = λ has. missing last next others left (Contains-append_cases next done last has) never.0; more = more }));
        }),
        subst (λ (l : List Event). EndAll types version gone (next ++ (done ++ last ∷ [])) (now ++ l)) (append_assoc done (last ∷ []) (map (ended_event version) gone)) then,
      )
    where
      missing : (last : Event) (next : List Event) → AllByRecursion (λ other. other ≢ last) (gone ++ rest) → IsPermutation next (gone ++ rest) → Contains next last ⊎ Contains done last
          → AllByRecursion (λ other. other ≢ last) done → ⊥
      missing last next others left (inl has) never = none_of last (gone ++ rest) others (Contains-permutation next (gone ++ rest) last left has)
      missing last next others left (inr has) never = none_of last done never has

  -- spans that come to some events come to them and others that have ended
  one_beside : (route : ℕ) (span : Stretch) (old next done : List Event) → AllByRecursion (λ (e : Event). e.died ≡ version) done → HasOneMore (living_event route version span) old next
      → HasOneMore (living_event route version span) (old ++ done) (next ++ done)
  one_beside route span old next done all (inl was) = inl (record {
    there = Contains-append_left old done (living_event route version span) was.there;
    same = IsPermutation-append_left done next old was.same;
  })
  one_beside route span old next done all (inr added) = inr (record {
    missing = λ has. elim (Contains-append_cases old done (living_event route version span) has) [
      | inl was ↦ added.missing was
      | inr dead ↦ none_of (living_event route version span) done (all_weaker (λ (e : Event). e.died ≡ version) (λ e. e ≢ living_event route version span) other_end done all) dead
    ];
    more = IsPermutation-append_left done next (living_event route version span ∷ old) added.more;
  }) where
    other_end : (e : Event) → e.died ≡ version → e ≢ living_event route version span
    other_end e died same = omega (arith, died, ap (λ (x : Event). x.died) same, below)

  came_beside : (route : ℕ) (come : List Stretch) (old now done : List Event) → AllByRecursion (λ (e : Event). e.died ≡ version) done → ComeAll route version come old now
      → ComeAll route version come (old ++ done) (now ++ done)
  came_beside route [] old now done all e = ap (λ (l : List Event). l ++ done) e
  came_beside route (span ∷ come) old now done all e = (e.0 ++ done, one_beside route span old e.0 done all e.1, came_beside route come e.0 now done all e.2)

  all_died : (gone : List Event) → AllByRecursion (λ (e : Event). e.died ≡ version) (map (ended_event version) gone)
  all_died [] = tt
  all_died (one ∷ gone) = (refl, all_died gone)

  all_unseen : (level : ℕ) → version ≤ level → (gone : List Event) → AllByRecursion (λ (e : Event). e.died ≤ level) (map (ended_event version) gone)
  all_unseen level late [] = tt
  all_unseen level late (one ∷ gone) = (late, all_unseen level late gone)

  -- the cells of what has ended
  say_ended : (cells : List (List ℕ)) (gone : List Event) → AllZip (SaysEvent types) cells gone → AllZip (SaysEvent types) (map (ended version) cells) (map (ended_event version) gone)
  say_ended [] [] say = tt
  say_ended [] (one ∷ gone) say = absurd say
  say_ended (cell ∷ cells) [] say = absurd say
  say_ended (cell ∷ cells) (one ∷ gone) say = ((events_are_kept types).ends version cell one (omega (arith, below)) say.0, say_ended cells gone say.1)

  -- Where those that pass a test end or are taken out, they have ended, and are cleared where they were taken out.
  module _ (route accepted : ℕ) (before : accepted < version) (events now : List Event) (dated : AllByRecursion (IsDatedRecord (kept_events types) accepted) events) (apart : AreApart events)
      (q : Event → Bool) (lives : AllByRecursion (λ (one : Event). one.died ≡ LIVING) (filter q events)) (cells : List (List ℕ)) (say : AllZip (SaysEvent types) cells (filter q events)) (spans : List Stretch) where
    abbrev gone : List Event
    gone = filter q events

    abbrev rest : List Event
    rest = filter (λ one. not (q one)) events

    none_yet : (some : List Event) → AllByRecursion (NoneIs []) some
    none_yet [] = tt
    none_yet (x ∷ xs) = (tt, none_yet xs)

    staying : (one : Event) → IsDatedRecord (kept_events types) accepted one → one.died ≢ version
    staying one is same = elim is.1 [
      | inl living ↦ omega (arith, living, same, below)
      | inr died ↦ omega (arith, died.1, same, before)
    ]

    as_ended : GivesWayAt types 0 version route gone spans events now → GivesWay types version route gone spans events (now ++ map (ended_event version) gone)
    as_ended way =
        let early = all_kept (IsDatedRecord (kept_events types) accepted) (λ (e : Event). e.born < version) q (λ one is passes. omega (arith, is.0, before)) events dated in
        let stay = all_kept (IsDatedRecord (kept_events types) accepted) (λ (e : Event). e.died ≢ version) (λ one. not (q one)) (λ one is passes. staying one is) events dated in
        let parted : IsPermutation events (gone ++ rest) = IsPermutation-filter_both q (λ one. not (q one)) (λ _. refl) events in
        let ended : EndAll types version gone (events ++ []) (way.between ++ map (ended_event version) gone) =
        taken gone [] rest events way.between lives early (apart_kept q events apart) (none_yet gone) stay way.ended parted in
        record {
          between = way.between ++ map (ended_event version) gone;
          ended = subst (λ (l : List Event). EndAll types version gone l (way.between ++ map (ended_event version) gone)) (append-nil events) ended;
          came = came_beside route spans way.between now (map (ended_event version) gone) (all_died gone) way.came;
        }

    pub gave_way : (oldest at : ℕ) → EndsSo at version oldest → GivesWayAt types at version route (filter q events) spans events now
        → ThenCleared (min oldest version) types (GivesWay types version route (filter q events) spans) events now
    gave_way oldest at (inl same) way =
        none_cleared (min oldest version) types (GivesWay types version route gone spans) events now (subst (λ n. GivesWayAt types n version route gone spans events now) same way)
    gave_way oldest at (inr so) way = record {
      between = now ++ map (ended_event version) gone;
      changed = as_ended (subst (λ n. GivesWayAt types n version route gone spans events now) so.0 way);
      cells = map (ended version) cells;
      cleared = record {
        gone = map (ended_event version) gone;
        say = say_ended cells gone say;
        unseen = all_unseen (min oldest version) (omega (arith, so.1)) gone;
        rest = IsPermutation-append_comm now (map (ended_event version) gone);
      };
    }

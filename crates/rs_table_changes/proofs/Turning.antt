-- Living events end, events are born, and all the rest stays.
use Rattle.std.proofs.Common.{◌≡◌, ◌≢◌, ◌<◌, ◌≤◌, ◌⊎◌, ℕ, zero, suc, Bool, true, false, not, cond, inl, inr, List, [], ◌∷◌, ◌++◌, map, filter, append_assoc, append-nil, refl, sym, ap, ◌∙◌, subst, arith}
use Rattle.std.proofs.lemmas.List.Elements.{Contains-append_right}
use Rattle.std.proofs.lemmas.List.Sorted.{Contains-permutation, IsPermutation-append_left, IsPermutation-cons, IsPermutation-filter_both, IsPermutation-refl, IsPermutation-sym, IsPermutation-trans}
use Rattle.std.specs.List.{AllByRecursion, AllZip, Contains}
use Rattle.std.specs.List.Sorted.{IsPermutation}
use Rattle.std.specs.Prelude.{IsTrue}
use Rattle.rs_cell_versions.specs.declared.cell.TheConstants.{LIVING}
use Rattle.rs_facts.specs.Runs.{Stretch}
use Rattle.rs_records.specs.Order.{Ascends, is_below}
use Rattle.rs_records.proofs.Orders.{is_below-self}
use Rattle.rs_value.specs.declared.column.ColumnType.{ColumnType}
use Rattle.rs_versioned.specs.Events.{Event, SaysEvent, ended_event, kept_events}
use Rattle.rs_versioned.specs.Records.{HasEnded, HasOneMore, IsKept, Kept}
use Rattle.rs_versioned.proofs.KeptRecords.{events_are_kept}
use Rattle.rs_versioned.proofs.MeantLists.{all_weaker}
use Rattle.rs_versioned.proofs.Present.{IsDatedRecord}
use Rattle.rs_table_changes.specs.Chains.{ComeAll, EndAll, GivesWay, living_event}
use Rattle.rs_table_changes.specs.Turns.{EventsTurn, Turns}
use Rattle.rs_table_changes.proofs.Cancelling.{cancel_first, middle}
use Rattle.rs_table_changes.proofs.GiveWay.{first_there}
use Rattle.rs_table_changes.proofs.Seeing.{all_kept}

-- ---- each record is there once

-- no record is there twice
abbrev pub AreApart : {R : Type 0} → List R → Type 0
AreApart [] = Unit {0}
AreApart (one ∷ records) = AllByRecursion (λ other. one ≢ other) records × AreApart records

not_below_itself : (one other : List ℕ) → IsTrue (is_below one other) → one ≡ other → ⊥
not_below_itself one other below same =
    let itself : is_below one one ≡ true = subst (λ cell. is_below one cell ≡ true) (sym same) below in
    let never : is_below one one ≡ false = is_below-self one in
    cc

module _ {R : Type 0} (kept : Kept R) (laws : IsKept kept) where
  one_apart : (cell : List ℕ) (one : R) → kept.says cell one → (cells : List (List ℕ)) (records : List R) → AllByRecursion (λ other. IsTrue (is_below cell other)) cells
      → AllZip kept.says cells records → AllByRecursion (λ other. one ≢ other) records
  one_apart cell one says [] [] below say = tt
  one_apart cell one says [] (r ∷ rs) below say = absurd say
  one_apart cell one says (c ∷ cs) [] below say = absurd say
  one_apart cell one says (c ∷ cs) (r ∷ rs) below say = (
    λ same. not_below_itself cell c below.0 (laws.has_one cell c one says (subst (kept.says c) (sym same) say.0)),
    one_apart cell one says cs rs below.1 say.1,
  )

  -- those of a table are
  pub records_apart : (cells : List (List ℕ)) (records : List R) → Ascends cells → AllZip kept.says cells records → AreApart records
  records_apart [] [] ascends say = tt
  records_apart [] (r ∷ rs) ascends say = absurd say
  records_apart (c ∷ cs) [] ascends say = absurd say
  records_apart (c ∷ cs) (r ∷ rs) ascends say = (one_apart c r say.0 cs rs ascends.0 say.1, records_apart cs rs ascends.1 say.1)

pub events_apart : (types : List ColumnType) (cells : List (List ℕ)) (events : List Event) → Ascends cells → AllZip (SaysEvent types) cells events → AreApart events
events_apart types = records_apart (kept_events types) (events_are_kept types)

pub apart_kept : (q : Event → Bool) (events : List Event) → AreApart events → AreApart (filter q events)
apart_kept q [] apart = tt
apart_kept q (x ∷ xs) apart = by (q x) (all_kept (λ other. x ≢ other) (λ other. x ≢ other) q (λ one is passes. is) xs apart.0) (apart_kept q xs apart.1) where
  by : (b : Bool) → AllByRecursion (λ other. x ≢ other) (filter q xs) → AreApart (filter q xs) → AreApart (cond b (x ∷ filter q xs) (filter q xs))
  by true first rest = (first, rest)
  by false first rest = rest

first_or_later : (one other : Event) (events : List Event) → Contains (one ∷ events) other → (one ≡ other) ⊎ Contains events other
first_or_later one other events (zero, inside, is) = inl is
first_or_later one other events (suc k, inside, is) = inr (k, omega arith, is)

pub none_of : (one : Event) (events : List Event) → AllByRecursion (λ other. other ≢ one) events → Contains events one → ⊥
none_of one [] all has = omega (arith, has.1)
none_of one (x ∷ xs) all has = elim (first_or_later x one xs has) [
  | inl same ↦ all.0 same
  | inr later ↦ none_of one xs all.1 later
]

pub all_of_both : (P : Event → Type 0) (xs ys : List Event) → AllByRecursion P xs → AllByRecursion P ys → AllByRecursion P (xs ++ ys)
all_of_both P [] ys some more = more
all_of_both P (x ∷ xs) ys some more = (some.0, all_of_both P xs ys some.1 more)

-- ---- events that end

-- an event that lived is known by what it is once it has ended
lived_before : (one : Event) → one.died ≡ LIVING → ended_event LIVING one ≡ one
lived_before one lives = subst (λ n. ended_event n one ≡ one) lives refl

pub same_before : (version : ℕ) (one other : Event) → one.died ≡ LIVING → other.died ≡ LIVING → ended_event version one ≡ ended_event version other → one ≡ other
same_before version one other lives living same = sym (lived_before one lives) ∙ ap (ended_event LIVING) same ∙ lived_before other living

module _ (types : List ColumnType) (version : ℕ) (below : version < LIVING) where
  -- one that had not ended so ends
  end_one : (one : Event) (others old now : List Event) → one.born < version → (Contains others (ended_event version one) → ⊥) → HasEnded (kept_events types) version one old now
      → IsPermutation old (one ∷ others) → IsPermutation now (ended_event version one ∷ others)
  end_one one others old now early never (inl missing) p = absurd (missing.missing (first_there one others old p))
  end_one one others old now early never (inr ended) p = by ended.are where
    left : IsPermutation ended.rest others
    left = cancel_first one ended.rest others (IsPermutation-trans (one ∷ ended.rest) old (one ∷ others) (IsPermutation-sym old (one ∷ ended.rest) ended.were) p)

    by : ((one.born < version) × HasOneMore (ended_event version one) ended.rest now) ⊎ ((version ≤ one.born) × IsPermutation now ended.rest) → IsPermutation now (ended_event version one ∷ others)
    by (inr late) = absurd (omega (arith, late.0, early))
    by (inl so) = elim so.1 [
      | inl was ↦ absurd (never (Contains-permutation ended.rest others (ended_event version one) left was.there))
      | inr come ↦
          IsPermutation-trans now (ended_event version one ∷ ended.rest) (ended_event version one ∷ others) come.more (IsPermutation-cons (ended_event version one) ended.rest others left)
    ]

  done_apart : (one : Event) (done : List Event) → one.died ≡ LIVING → AllByRecursion (λ (e : Event). e.died ≡ LIVING) done → (Contains done one → ⊥)
      → AllByRecursion (λ other. other ≢ ended_event version one) (map (ended_event version) done)
  done_apart one [] lives lived never = tt
  done_apart one (d ∷ done) lives lived never = (
    λ same. never (0, omega arith, same_before version d one lived.0 lives same),
    done_apart one done lives lived.1 (λ has. never (Contains-append_right (d ∷ []) done one has)),
  )

  one_more_done : (one : Event) (done gone : List Event) → AllByRecursion (λ other. one ≢ other) gone → AllByRecursion (λ other. Contains done other → ⊥) gone
      → AllByRecursion (λ other. Contains (one ∷ done) other → ⊥) gone
  one_more_done one done [] apart never = tt
  one_more_done one done (g ∷ gone) apart never = (
    λ has. elim (first_or_later one g done has) [ inl same ↦ apart.0 same | inr later ↦ never.0 later ],
    one_more_done one done gone apart.1 never.1,
  )

  -- those that are to end, beside those that have ended and the rest
  end_all : (gone done rest old now : List Event) → AllByRecursion (λ (e : Event). e.died ≡ LIVING) gone → AllByRecursion (λ (e : Event). e.born < version) gone → AreApart gone
      → AllByRecursion (λ (e : Event). e.died ≡ LIVING) done → AllByRecursion (λ other. Contains done other → ⊥) gone → AllByRecursion (λ (e : Event). e.died ≢ version) rest
      → EndAll types version gone old now → IsPermutation old (gone ++ (map (ended_event version) done ++ rest))
      → IsPermutation now (map (ended_event version) gone ++ (map (ended_event version) done ++ rest))
  end_all [] done rest old now lives early apart lived never stay e p = subst (λ l. IsPermutation l (map (ended_event version) done ++ rest)) (sym e) p
  end_all (one ∷ gone) done rest old now lives early apart lived never stay e p =
      let last : Event = ended_event version one in
      let others : List Event = map (ended_event version) done ++ rest in
      let not_gone : AllByRecursion (λ other. other ≢ last) gone = all_weaker (λ (x : Event). x.died ≡ LIVING) (λ x. x ≢ last) (λ x living same. living_stays x living (ap (λ (y : Event). y.died) same)) gone lives.1 in
      let not_rest : AllByRecursion (λ other. other ≢ last) rest = all_weaker (λ (x : Event). x.died ≢ version) (λ x. x ≢ last) (λ x other same. other (ap (λ (y : Event). y.died) same)) rest stay in
      let all : AllByRecursion (λ other. other ≢ last) (gone ++ others) = all_of_both (λ other. other ≢ last) gone others not_gone
      (all_of_both (λ other. other ≢ last) (map (ended_event version) done) rest (done_apart one done lives.0 lived never.0) not_rest) in
      let next : IsPermutation e.0 (last ∷ (gone ++ others)) = end_one one (gone ++ others) old e.0 early.0 (none_of last (gone ++ others) all) e.1 p in
      let so : IsPermutation e.0 (gone ++ last ∷ others) = IsPermutation-trans e.0 (last ∷ (gone ++ others)) (gone ++ last ∷ others) next
      (IsPermutation-sym (gone ++ last ∷ others) (last ∷ (gone ++ others)) (middle gone last others)) in
      let then : IsPermutation now (map (ended_event version) gone ++ last ∷ others) =
      end_all gone (one ∷ done) rest e.0 now lives.1 early.1 apart.1 (lives.0, lived) (one_more_done one done gone apart.0 never.1) stay e.2 so in
      IsPermutation-trans now (map (ended_event version) gone ++ last ∷ others) (last ∷ (map (ended_event version) gone ++ others)) then (middle (map (ended_event version) gone) last others)
    where
      living_stays : (x : Event) → x.died ≡ LIVING → x.died ≡ version → ⊥
      living_stays x living same = omega (arith, living, same, below)

  -- ---- events that come

  record Came (old now : List Event) : Type 0 where
    come : List Event
    born : AllByRecursion (λ (one : Event). (one.born ≡ version) × (one.died ≡ LIVING)) come
    are : IsPermutation now (old ++ come)

  came_next : (route : ℕ) (span : Stretch) (old next now : List Event) → HasOneMore (living_event route version span) old next → Came next now → Came old now
  came_next route span old next now (inl was) more = record {
    come = more.come;
    born = more.born;
    are = IsPermutation-trans now (next ++ more.come) (old ++ more.come) more.are (IsPermutation-append_left more.come next old was.same);
  }
  came_next route span old next now (inr added) more =
      let first : Event = living_event route version span in
      record {
        come = first ∷ more.come;
        born = ((refl, refl), more.born);
        are = IsPermutation-trans now (next ++ more.come) (old ++ first ∷ more.come) more.are
            (IsPermutation-trans (next ++ more.come) (first ∷ (old ++ more.come)) (old ++ first ∷ more.come) (IsPermutation-append_left more.come next (first ∷ old) added.more)
            (IsPermutation-sym (old ++ first ∷ more.come) (first ∷ (old ++ more.come)) (middle old first more.come)));
      }

  come_all : (route : ℕ) (spans : List Stretch) (old now : List Event) → ComeAll route version spans old now → Came old now
  come_all route [] old now e = record { come = []; born = tt; are = subst (λ l. IsPermutation l (old ++ [])) (sym e) (subst (IsPermutation old) (sym (append-nil old)) (IsPermutation-refl old)) }
  come_all route (span ∷ spans) old now e = came_next route span old e.0 now e.1 (come_all route spans e.0 now e.2)

  -- ---- both

  -- where those that pass a test end
  pub turned : (route accepted : ℕ) → accepted < version → (events now : List Event) → AllByRecursion (IsDatedRecord (kept_events types) accepted) events → AreApart events
      → (q : Event → Bool) → AllByRecursion (λ (one : Event). one.died ≡ LIVING) (filter q events) → (spans : List Stretch) → GivesWay types version route (filter q events) spans events now
      → EventsTurn version events now
  turned route accepted before events now dated apart q lives spans way =
      let gone : List Event = filter q events in
      let rest : List Event = filter (λ one. not (q one)) events in
      let early = all_kept (IsDatedRecord (kept_events types) accepted) (λ (e : Event). e.born < version) q (λ one is passes. omega (arith, is.0, before)) events dated in
      let stay = all_kept (IsDatedRecord (kept_events types) accepted) (λ (e : Event). e.died ≢ version) (λ one. not (q one)) (λ one is passes. staying one is) events dated in
      let parted : IsPermutation events (gone ++ rest) = IsPermutation-filter_both q (λ one. not (q one)) (λ _. refl) events in
      let ends : IsPermutation way.between (map (ended_event version) gone ++ rest) =
      end_all gone [] rest events way.between lives early (apart_kept q events apart) tt (none_done gone) stay way.ended parted in
      let came = come_all route spans way.between now way.came in
      record {
        ended = gone;
        rest = rest;
        come = came.come;
        lived = lives;
        born_then = came.born;
        were = parted;
        are = subst (IsPermutation now) (append_assoc (map (ended_event version) gone) rest came.come)
            (IsPermutation-trans now (way.between ++ came.come) ((map (ended_event version) gone ++ rest) ++ came.come) came.are
            (IsPermutation-append_left came.come way.between (map (ended_event version) gone ++ rest) ends));
      }
    where
      staying : (one : Event) → IsDatedRecord (kept_events types) accepted one → one.died ≡ version → ⊥
      staying one is same = elim is.1 [
        | inl living ↦ omega (arith, living, same, below)
        | inr died ↦ omega (arith, died.1, same, before)
      ]

      none_done : (events : List Event) → AllByRecursion (λ other. Contains [] other → ⊥) events
      none_done [] = tt
      none_done (x ∷ xs) = (λ has. omega (arith, has.1), none_done xs)

-- where nothing changes
pub none_turned : {R : Type 0} {born died : R → ℕ} {end_at : ℕ → R → R} (version : ℕ) (records : List R) → Turns born died end_at version records records
none_turned version records = record {
  ended = [];
  rest = records;
  come = [];
  lived = tt;
  born_then = tt;
  were = IsPermutation-refl records;
  are = subst (IsPermutation records) (sym (append-nil records)) (IsPermutation-refl records);
}

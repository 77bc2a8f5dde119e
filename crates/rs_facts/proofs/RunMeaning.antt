-- The maximal runs mean the places that they are the runs of.
use Rattle.std.proofs.Common.{◌≡◌, ℕ, zero, suc, ◌-◌, ◌<◌, ◌≤◌, max, Bool, true, false, inl, inr, List, [], ◌∷◌, refl, sym, ◌∙◌, subst, arith}
use Rattle.std.proofs.lemmas.Bool.{cases_lt, cases_eq}
use Rattle.rs_value.specs.Row.{Row}
use Rattle.rs_value.specs.declared.column.Kind.{Kind}
use Rattle.rs_value.specs.declared.column.Kind.TheVariants.{Point, Line}
use Rattle.rs_facts.specs.Fact.{contains, Places}
use Rattle.rs_facts.specs.Runs.{Stretch, stretch, IsLineRun, IsMaximalRun, AreRunsOf, end_of_run, LieWithin}
use Rattle.rs_facts.specs.Spans.{places_of}
use Rattle.rs_facts.proofs.Sets.{contains-none, same_places}
use Rattle.rs_facts.proofs.SpanLaws.{Holds, Covers-from_contains, contains-from_Holds}
use Rattle.rs_facts.proofs.Placing.{cases_within, with_row-outside}
use Rattle.rs_facts.proofs.RunLaws.{each-at, runs-unique}
use Rattle.rs_facts.proofs.RunsOf.{ends, stops_at}

-- how far back the row holds from a thousandth on
record Starts (places : Places) (row : Row) (k start : ℕ) : Type 0 where
  upto : start ≤ k
  holds : (j : ℕ) → start ≤ j → j ≤ k → contains (places j) row ≡ true
  stops : (j : ℕ) → suc j ≡ start → contains (places j) row ≡ false

further : (places : Places) (row : Row) (j start : ℕ) → contains (places (suc j)) row ≡ true → Starts places row j start → Starts places row (suc j) start
further places row j start e rest = record {
  upto = omega (arith, rest.upto);
  holds = λ i a b. elim (cases_eq i (suc j)) [ inl same ↦ subst (λ m. contains (places m) row ≡ true) (sym same) e | inr other ↦ rest.holds i a (omega (arith, b, other)) ];
  stops = rest.stops;
}

here : (places : Places) (row : Row) (k : ℕ) → contains (places k) row ≡ true → ((j : ℕ) → suc j ≡ k → contains (places j) row ≡ false) → Starts places row k k
here places row k e stop = record {
  upto = omega arith;
  holds = λ i a b. let same : k ≡ i = omega arith in subst (λ m. contains (places m) row ≡ true) same e;
  stops = stop;
}

starts : (places : Places) (row : Row) (k : ℕ) → contains (places k) row ≡ true → (start : ℕ) × Starts places row k start
starts places row zero e = (0, here places row zero e (λ j s. absurd (omega (arith, s))))
starts places row (suc j) e =
    elim (contains (places j) row) as (λ t. contains (places j) row ≡ t → (start : ℕ) × Starts places row (suc j) start) [
      | true ↦ λ held. let rest = starts places row j held in (rest.0, further places row j rest.0 e rest.1)
      | false ↦ λ free. (suc j, here places row (suc j) e (λ i s. let same : j ≡ i = omega (arith, s) in subst (λ m. contains (places m) row ≡ false) same free))
    ] refl

-- the row's run goes on after a thousandth at which it holds
past : (from to : ℕ) (places : Places) → LieWithin from to places → (k : ℕ) (row : Row) → contains (places k) row ≡ true → k < end_of_run places row k (to - k)
past from to places inside k row held =
    let bounds = inside k row held in
    let end = ends places row k (to - k) in
    elim end.stops [
      | inl x ↦ omega (arith, x, bounds.1)
      | inr y ↦ elim (cases_lt k (end_of_run places row k (to - k))) [
        | inl less ↦ less
        | inr more ↦
            let same : k ≡ end_of_run places row k (to - k) = omega (arith, more, end.from) in
            let there : contains (places (end_of_run places row k (to - k))) row ≡ true = subst (λ m. contains (places m) row ≡ true) same held in cc
      ]
    ]

-- the run round a thousandth at which the row holds
run_round : (from to : ℕ) (places : Places) → LieWithin from to places → (k start : ℕ) (row : Row) → contains (places k) row ≡ true → Starts places row k start → IsLineRun places (stretch start (end_of_run places row k (to - k)) row)
run_round from to places inside k start row held first =
    let bounds = inside k row held in
    let end = ends places row k (to - k) in
    let behind = past from to places inside k row held in
    record {
      some = omega (arith, first.upto, behind);
      holds = λ j a b. elim (cases_lt j k) [ inl less ↦ first.holds j a (omega (arith, less)) | inr more ↦ end.holds j more b ];
      not_before = first.stops;
      not_behind = stops_at from to (end_of_run places row k (to - k)) places row inside (omega (arith, end.upto, bounds.1)) (elim end.stops [ inl x ↦ inl (omega (arith, x, bounds.1)) | inr y ↦ inr y ]);
    }

covered : (kind : Kind) (from to : ℕ) (places : Places) (runs : List Stretch) → LieWithin from to places → AreRunsOf kind places runs → (k : ℕ) (row : Row) → contains (places k) row ≡ true → contains (places_of runs k) row ≡ true
covered Point from to places runs inside all k row held =
    contains-from_Holds runs (stretch k (suc k) row) row k (all.complete (stretch k (suc k) row) (record { one = refl; holds = held })) (record { same = refl; from = omega arith; below = omega arith })
covered Line from to places runs inside all k row held =
    let first = starts places row k held in
    let run = run_round from to places inside k first.0 row held first.1 in
    let bounds = inside k row held in
    contains-from_Holds runs (stretch first.0 (end_of_run places row k (to - k)) row) row k (all.complete (stretch first.0 (end_of_run places row k (to - k)) row) run)
    (record { same = refl; from = first.1.upto; below = past from to places inside k row held })

held_by : (kind : Kind) (places : Places) (run : Stretch) (row : Row) (k : ℕ) → IsMaximalRun kind places run → Holds row k run → contains (places k) row ≡ true
held_by Line places run row k maximal h = subst (λ r. contains (places k) r ≡ true) h.same (maximal.holds k h.from h.below)
held_by Point places run row k maximal h =
    let at : run.lo ≡ k = omega (arith, maximal.one, h.from, h.below) in
    subst (λ r. contains (places k) r ≡ true) h.same (subst (λ m. contains (places m) run.row ≡ true) at maximal.holds)

either_way : (a b : Bool) → (a ≡ true → b ≡ true) → (b ≡ true → a ≡ true) → a ≡ b
either_way true b f g = sym (f refl)
either_way false true f g = g refl
either_way false false f g = refl

-- The runs mean the places, where these lie within some thousandths.
pub runs-mean : (kind : Kind) (from to : ℕ) (places : Places) (runs : List Stretch) → LieWithin from to places → AreRunsOf kind places runs → places_of runs ≡ places
runs-mean kind from to places runs inside all = same_places (places_of runs) places (λ k row. either_way (contains (places_of runs k) row) (contains (places k) row)
    (λ e. let covers = Covers-from_contains runs row k e in held_by kind places covers.span row k (each-at (IsMaximalRun kind places) runs covers.span all.maximal covers.among) covers.is)
    (λ e. covered kind from to places runs inside all k row e))

-- ---- what spans mean lies below the end that is last

abbrev pub last_end : List Stretch → ℕ
last_end [] = 0
last_end (span ∷ spans) = max span.hi (last_end spans)

pub places_of-within : (spans : List Stretch) → LieWithin 0 (last_end spans) (places_of spans)
places_of-within [] k row e = let no_row = contains-none row in cc
places_of-within (span ∷ spans) k row e = (
  omega arith,
  elim (cases_within span.lo span.hi k) [
    | inl inside ↦ omega (arith, inside.2)
    | inr outside ↦ let rest = places_of-within spans k row (sym (with_row-outside span.lo span.hi span.row (places_of spans) k row outside.1) ∙ e) in omega (arith, rest.1)
  ],
)

-- runs of what runs mean are these runs
pub runs-again : (kind : Kind) (spans once twice : List Stretch) → AreRunsOf kind (places_of spans) once → AreRunsOf kind (places_of once) twice → twice ≡ once
runs-again kind spans once twice h l = runs-unique kind (places_of once) twice once l
    (subst (λ places. AreRunsOf kind places once) (sym (runs-mean kind 0 (last_end spans) (places_of spans) once (places_of-within spans) h)) h)

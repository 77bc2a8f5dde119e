-- Where pieces of an alignment lead, and that what they carry of rows on the sources is what they carry of all rows.
use Rattle.std.proofs.Common.{◌≡◌, ◌<◌, ℕ, ◌+◌, true, false, ◌||◌, List, [], ◌∷◌, ◌++◌, map, length, take, get_or, refl, sym, ap, ◌∙◌, subst}
use Rattle.std.proofs.lemmas.Bool.{and_parts}
use Rattle.std.proofs.lemmas.List.{take_more}
use Rattle.std.specs.Prelude.{◌==◌, if◌then◌else◌, Vec}
use Rattle.std.specs.declared.alloc.Global.{Global}
use Rattle.std.specs.List.{AllZip, AllByRecursion, list_all}
use Rattle.rs_facts.specs.declared.fact.Span.{Span}
use Rattle.rs_facts.specs.Fact.{Places, none}
use Rattle.rs_facts.specs.Operators.{merged, carried}
use Rattle.rs_facts.specs.Spans.{seen, ArePlaced}
use Rattle.rs_sweep.specs.Lists.{AreWide}
use Rattle.rs_plan.specs.declared.plan.PlannedPiece.{PlannedPiece}
use Rattle.rs_exec.specs.Snapshot.{Snapshots}
use Rattle.rs_exec.specs.declared.carrying.Sources.{Sources}
use Rattle.rs_exec.specs.Meaning.{PlanMeaning, goes_forwards, carried_by, transformed, transform_meaning}
use Rattle.rs_exec.specs.Routes.{HasNone, AreNone, numbers_of, list_of}
use Rattle.rs_exec.specs.Held.{HoldsRows, AreHeld}
use Rattle.rs_exec.specs.Carried.{is_one_of, IsLed, AreSourcesOf, AreApart, given_on, rows_given, CanCarry, IsCarried}
use Rattle.rs_exec.proofs.CarriedSpans.{or_assoc, or_false, none-merged}
use Rattle.rs_exec.proofs.Gathering.{given-here, given-later}
use Rattle.rs_exec.proofs.Lists.{every-weaker, every-last, zip-where, zip-length, zip-seconds, or_first, or_second, or_else, none_first, none_second}
use Rattle.rs_exec.proofs.Steps.{none-shaped, none-means}
use Rattle.rs_exec.proofs.Tests.{same-number, other-number, is-number, no-number, every-of}

-- what is so for all of the routes is so for each
pub each-led : (numbers sources : List ℕ) (pieces : List PlannedPiece) → AreSourcesOf numbers sources pieces → AllByRecursion (λ number. AllByRecursion (IsLed sources number) pieces) numbers
each-led [] sources pieces all = tt
each-led (number ∷ numbers) sources pieces all = (
  every-weaker (λ (piece : PlannedPiece). is_one_of (number ∷ numbers) piece.onto_route.number ≡ true → is_one_of sources piece.from_route.number ≡ true) (IsLed sources number) pieces
      (λ piece led on. led (or_first (piece.onto_route.number == number) (is_one_of numbers piece.onto_route.number) (same-number piece.onto_route.number number on))) all,
  each-led numbers sources pieces
      (every-weaker (λ (piece : PlannedPiece). is_one_of (number ∷ numbers) piece.onto_route.number ≡ true → is_one_of sources piece.from_route.number ≡ true) (λ piece. is_one_of numbers piece.onto_route.number ≡ true → is_one_of sources piece.from_route.number ≡ true) pieces
      (λ piece led on. led (or_second (piece.onto_route.number == number) (is_one_of numbers piece.onto_route.number) on)) all),
)

-- ---- sources, one more at the end

one_of-append : (number : ℕ) (xs : List ℕ) (x : ℕ) → is_one_of (xs ++ x ∷ []) number ≡ (is_one_of xs number || (number == x))
one_of-append number [] x = or_false (number == x)
one_of-append number (y ∷ xs) x = ap (λ t. (number == y) || t) (one_of-append number xs x) ∙ sym (or_assoc (number == y) (is_one_of xs number) (number == x))

pub added-last : (old new : List ℕ) (x : ℕ) → new ≡ old ++ x ∷ [] → is_one_of new x ≡ true
added-last old new x pushed = ap (λ xs. is_one_of xs x) pushed ∙ one_of-append x old x ∙ or_second (is_one_of old x) (x == x) (same-number x x refl)

pub added-before : (number : ℕ) (old new : List ℕ) (x : ℕ) → new ≡ old ++ x ∷ [] → is_one_of old number ≡ true → is_one_of new number ≡ true
added-before number old new x pushed there = ap (λ xs. is_one_of xs number) pushed ∙ one_of-append number old x ∙ or_first (is_one_of old number) (number == x) there

apart_last : (numbers : List ℕ) (number : ℕ) → AreApart numbers → is_one_of numbers number ≡ false → AreApart (numbers ++ number ∷ [])
apart_last [] number apart off = (refl, tt)
apart_last (first ∷ numbers) number apart off = (
  one_of-append first numbers number ∙ ap (λ t. t || (first == number)) apart.0 ∙ other-number first number (λ e. no-number number first (none_first (number == first) (is_one_of numbers number) off) (sym e)),
  apart_last numbers number apart.1 (none_second (number == first) (is_one_of numbers number) off),
)

pub added-apart : (old new : List ℕ) (x : ℕ) → new ≡ old ++ x ∷ [] → is_one_of old x ≡ false → AreApart old → AreApart new
added-apart old new x pushed off apart = subst AreApart (sym pushed) (apart_last old x apart off)

-- ---- pieces, one more

-- more sources than there were, and the last piece is of one of them if it leads onto a route
pub sources-more : (numbers old new : List ℕ) (pieces : List PlannedPiece) (i : ℕ) (piece : PlannedPiece) → i < length pieces → piece ≡ get_or pieces i piece
    → ((other : ℕ) → is_one_of old other ≡ true → is_one_of new other ≡ true)
    → (is_one_of numbers piece.onto_route.number ≡ true → is_one_of new piece.from_route.number ≡ true)
    → AreSourcesOf numbers old (take i pieces) → AreSourcesOf numbers new (take (i + 1) pieces)
sources-more numbers old new pieces i piece below is stay last all =
    subst (AreSourcesOf numbers new) (sym (take_more pieces i piece below ∙ ap (λ p. take i pieces ++ p ∷ []) (sym is)))
    (every-last (λ p. is_one_of numbers p.onto_route.number ≡ true → is_one_of new p.from_route.number ≡ true) (take i pieces) piece
    (every-weaker (λ (p : PlannedPiece). is_one_of numbers p.onto_route.number ≡ true → is_one_of old p.from_route.number ≡ true) (λ p. is_one_of numbers p.onto_route.number ≡ true → is_one_of new p.from_route.number ≡ true) (take i pieces)
    (λ p led on. stay p.from_route.number (led on)) all) last)

-- ---- what pieces carry of facts that agree on the sources

module _ (sources : List ℕ) (one other : ℕ → Places) (same : (number : ℕ) → is_one_of sources number ≡ true → (k : ℕ) → one number k ≡ other number k) (route : ℕ) where
  carried_same : (piece : PlannedPiece) (k : ℕ) → IsLed sources route piece → carried_by piece one route k ≡ carried_by piece other route k
  carried_same piece k led = elim (piece.onto_route.number == route) as (λ b. (piece.onto_route.number == route) ≡ b
      → (if b then carried piece.from piece.to piece.onto (one piece.from_route.number) k else none) ≡ (if b then carried piece.from piece.to piece.onto (other piece.from_route.number) k else none)) [
        | true ↦ λ on. (λ i. carried piece.from piece.to piece.onto (λ j. same piece.from_route.number (led (is-number piece.onto_route.number route on)) j i) k)
        | false ↦ λ on. refl
      ] refl

  pub transformed-same : (pieces : List PlannedPiece) (k : ℕ) → AllByRecursion (IsLed sources route) pieces → transformed pieces one route k ≡ transformed pieces other route k
  transformed-same [] k led = refl
  transformed-same (piece ∷ pieces) k led = (λ i. merged (carried_same piece k led.0 i) (transformed-same pieces k led.1 i))

-- ---- no piece leads there

module _ (facts : ℕ → Places) (route : ℕ) where
  apart : (piece : PlannedPiece) (k : ℕ) → IsLed [] route piece → carried_by piece facts route k ≡ none
  apart piece k led = elim (piece.onto_route.number == route) as (λ b. (piece.onto_route.number == route) ≡ b → (if b then carried piece.from piece.to piece.onto (facts piece.from_route.number) k else none) ≡ none) [
    | true ↦ λ on. absurd (let wrong : false ≡ true = led (is-number piece.onto_route.number route on) in cc)
    | false ↦ λ on. refl
  ] refl

  nowhere : (pieces : List PlannedPiece) (k : ℕ) → AllByRecursion (IsLed [] route) pieces → transformed pieces facts route k ≡ none
  nowhere [] k led = refl
  nowhere (piece ∷ pieces) k led =
      ap (λ rows. merged rows (transformed pieces facts route k)) (apart piece k led.0)
      ∙ none-merged (transformed pieces facts route k)
      ∙ nowhere pieces k led.1

module _ (stands : Snapshots → Type 0) (version : ℕ) (plan : PlanMeaning) where
  -- the rows that were given are the plan's
  given-held : (numbers : List ℕ) (rows : List (Vec Span Global)) (snapshots : Snapshots) → stands snapshots → AreHeld stands version plan numbers rows → (number : ℕ) → is_one_of numbers number ≡ true → (k : ℕ) → given_on numbers rows number k ≡ plan.rows (snapshots version) number k
  given-held [] rows snapshots there held number among k = absurd (let wrong : false ≡ true = among in cc)
  given-held (first ∷ numbers) [] snapshots there held number among k = absurd held
  given-held (first ∷ numbers) (each ∷ rows) snapshots there held number among k = elim (number == first) as (λ b. (number == first) ≡ b → given_on (first ∷ numbers) (each ∷ rows) number k ≡ plan.rows (snapshots version) number k) [
    | true ↦ λ on.
        let same = is-number number first on in
        given-here (first ∷ numbers) (each ∷ rows) number first each numbers rows k refl refl same ∙ held.0.means snapshots there k ∙ ap (λ n. plan.rows (snapshots version) n k) (sym same)
    | false ↦ λ off.
        given-later (first ∷ numbers) (each ∷ rows) number first each numbers rows k refl refl (no-number number first off)
        ∙ given-held numbers rows snapshots there held.1 number (or_else (number == first) (is_one_of numbers number) among off) k
  ] refl

  pub transform-none : (pieces : List PlannedPiece) (numbers : List ℕ) (rows : List (Vec Span Global)) → AreSourcesOf numbers [] pieces → AreNone numbers rows → AreHeld stands version (transform_meaning pieces plan) numbers rows
  transform-none pieces numbers rows sources all =
      zip-where (λ number. AllByRecursion (IsLed [] number) pieces) (λ number each. HasNone each) (HoldsRows stands version (transform_meaning pieces plan)) numbers rows
      (λ number each led bare. record {
        means = λ snapshots there k. none-means each k bare ∙ sym (nowhere (plan.rows (snapshots version)) number pieces k led);
        shaped = none-shaped plan.kind plan.width each bare;
      }) (each-led numbers [] pieces sources) all

  -- there are rows for each of the routes
  pub can-carry : (sources : Sources) → AllByRecursion (λ piece. goes_forwards piece ≡ true) sources.pieces.now → sources.kind ≡ plan.kind → AreHeld stands version plan (numbers_of sources.routes) (list_of sources.rows.now) → CanCarry sources
  can-carry sources forwards is held = record {
    forwards = forwards;
    long = zip-length (HoldsRows stands version plan) (numbers_of sources.routes) (list_of sources.rows.now) held;
    placed = zip-seconds (HoldsRows stands version plan) (λ each. ArePlaced sources.kind (map seen each.items)) (numbers_of sources.routes) (list_of sources.rows.now)
        (λ number each holds. subst (λ kind. ArePlaced kind (map seen each.items)) (sym is) holds.shaped.placed) held;
  }

  pub carried-held : (sources : Sources) (numbers : List ℕ) (rows : List (Vec Span Global)) → sources.kind ≡ plan.kind → AreHeld stands version plan (numbers_of sources.routes) (list_of sources.rows.now)
      → AreSourcesOf numbers (numbers_of sources.routes) sources.pieces.now → AllZip (IsCarried sources) numbers rows → AreHeld stands version (transform_meaning sources.pieces.now plan) numbers rows
  carried-held sources numbers rows is held led all =
      zip-where (λ number. AllByRecursion (IsLed (numbers_of sources.routes) number) sources.pieces.now) (IsCarried sources) (HoldsRows stands version (transform_meaning sources.pieces.now plan)) numbers rows
      (λ number each leads carries. record {
        means = λ snapshots there k.
            carries.means k
            ∙ transformed-same (numbers_of sources.routes) (rows_given sources) (plan.rows (snapshots version)) (given-held (numbers_of sources.routes) (list_of sources.rows.now) snapshots there held) number sources.pieces.now k leads;
        shaped = record {
          sorted = carries.sorted;
          placed = subst (λ kind. ArePlaced kind (map seen each.items)) is carries.placed;
          wide = carries.wide plan.width (zip-seconds (HoldsRows stands version plan) (λ given. AreWide plan.width (map seen given.items)) (numbers_of sources.routes) (list_of sources.rows.now) (λ n given holds. holds.shaped.wide) held);
        };
      }) (each-led numbers (numbers_of sources.routes) sources.pieces.now led) all

pub pieces-forwards : (pieces : List PlannedPiece) (plan : PlanMeaning) → (transform_meaning pieces plan).is_well_formed ≡ true → (plan.is_well_formed ≡ true) × AllByRecursion (λ piece. goes_forwards piece ≡ true) pieces
pieces-forwards pieces plan e =
    let parts = and_parts plan.is_well_formed (list_all goes_forwards pieces) e in
    (parts.0, every-of goes_forwards pieces parts.1)

-- Pieces of an alignment in turn: what each adds to what is gathered, and what the runs of all of it are.
use Rattle.std.proofs.Common.{◌≡◌, ◌≢◌, ◌<◌, ℕ, suc, zero, true, List, [], ◌∷◌, map, length, drop, get_or, refl, sym, ap, ◌∙◌, subst, arith}
use Rattle.std.specs.Prelude.{if◌then◌else◌, Vec}
use Rattle.std.specs.declared.alloc.Global.{Global}
use Rattle.std.specs.List.{AllByRecursion}
use Rattle.rs_value.specs.declared.column.Kind.{Kind}
use Rattle.rs_facts.specs.declared.fact.Span.{Span}
use Rattle.rs_facts.specs.Fact.{none}
use Rattle.rs_facts.specs.Operators.{merged, carried}
use Rattle.rs_facts.specs.Runs.{Stretch, AreRunsOf}
use Rattle.rs_facts.specs.Spans.{seen, places_of, ArePlaced}
use Rattle.rs_plan.specs.declared.plan.PlannedPiece.{PlannedPiece}
use Rattle.rs_coalesce.proofs.Separate.{joined-from_runs}
use Rattle.rs_sweep.specs.Lists.{AreWide}
use Rattle.rs_exec.specs.declared.carrying.Sources.{Sources}
use Rattle.rs_exec.specs.Meaning.{goes_forwards, carried_by, transformed}
use Rattle.rs_exec.specs.Routes.{list_of}
use Rattle.rs_exec.specs.Carried.{given_on, rows_given, AreAllWide, AreGathered, IsCarried}
use Rattle.rs_exec.proofs.CarriedSpans.{merged-none, none-merged, merged-assoc, runs-sorted, runs-wide}
use Rattle.rs_exec.proofs.Tests.{same-number, other-number}

-- ---- the rows that were given for a route

-- those at a place, where no earlier place is of the route
pub given-here : (numbers : List ℕ) (rows : List (Vec Span Global)) (route number : ℕ) (each : Vec Span Global) (more_numbers : List ℕ) (more_rows : List (Vec Span Global)) (k : ℕ) → numbers ≡ number ∷ more_numbers → rows ≡ each ∷ more_rows → route ≡ number
    → given_on numbers rows route k ≡ places_of (map seen each.items) k
given-here numbers rows route number each more_numbers more_rows k first here same =
    (λ i. given_on (first i) (here i) route k)
    ∙ ap (λ b. if b then places_of (map seen each.items) k else given_on more_numbers more_rows route k) (same-number route number same)

pub given-later : (numbers : List ℕ) (rows : List (Vec Span Global)) (route number : ℕ) (each : Vec Span Global) (more_numbers : List ℕ) (more_rows : List (Vec Span Global)) (k : ℕ) → numbers ≡ number ∷ more_numbers → rows ≡ each ∷ more_rows → route ≢ number
    → given_on numbers rows route k ≡ given_on more_numbers more_rows route k
given-later numbers rows route number each more_numbers more_rows k first here other =
    (λ i. given_on (first i) (here i) route k)
    ∙ ap (λ b. if b then places_of (map seen each.items) k else given_on more_numbers more_rows route k) (other-number route number other)

-- the place is of another route
pub given-skip : (numbers : List ℕ) (rows : List (Vec Span Global)) (i route : ℕ) (k : ℕ) → i < length numbers → length numbers ≡ length rows → route ≢ get_or numbers i 0
    → given_on (drop (suc i) numbers) (drop (suc i) rows) route k ≡ given_on (drop i numbers) (drop i rows) route k
given-skip [] rows i route k below long other = absurd (omega (arith, below))
given-skip (number ∷ numbers) [] i route k below long other = absurd (omega (arith, long))
given-skip (number ∷ numbers) (each ∷ rows) zero route k below long other = sym (given-later (number ∷ numbers) (each ∷ rows) route number each numbers rows k refl refl other)
given-skip (number ∷ numbers) (each ∷ rows) (suc i) route k below long other = given-skip numbers rows i route k (omega (arith, below)) (omega (arith, long)) other

-- the place is of the route
pub given-there : (numbers : List ℕ) (rows : List (Vec Span Global)) (i route : ℕ) (each : Vec Span Global) (k : ℕ) → i < length numbers → length numbers ≡ length rows → route ≡ get_or numbers i 0 → each ≡ get_or rows i each
    → places_of (map seen each.items) k ≡ given_on (drop i numbers) (drop i rows) route k
given-there [] rows i route each k below long same is = absurd (omega (arith, below))
given-there (number ∷ numbers) [] i route each k below long same is = absurd (omega (arith, long))
given-there (number ∷ numbers) (one ∷ rows) zero route each k below long same is =
    ap (λ (vec : Vec Span Global). places_of (map seen vec.items) k) is ∙ sym (given-here (number ∷ numbers) (one ∷ rows) route number one numbers rows k refl refl same)
given-there (number ∷ numbers) (one ∷ rows) (suc i) route each k below long same is = given-there numbers rows i route each k (omega (arith, below)) (omega (arith, long)) same is

-- what is so of all lists is so of the one at a place
pub every-at : {X : Type 0} (P : X → Type 0) (xs : List X) (i : ℕ) (x : X) → AllByRecursion P xs → i < length xs → x ≡ get_or xs i x → P x
every-at P [] i x all below is = absurd (omega (arith, below))
every-at P (y ∷ xs) zero x all below is = subst P (sym is) all.0
every-at P (y ∷ xs) (suc i) x all below is = every-at P xs i x all.1 (omega (arith, below)) is

module _ (sources : Sources) (route : ℕ) where
  -- ---- one piece

  pub piece-elsewhere : (piece : PlannedPiece) (old : List Stretch) → piece.onto_route.number ≢ route → AreGathered sources (carried_by piece (rows_given sources) route) old old
  piece-elsewhere piece old off = record {
    means = λ k. sym (ap (λ b. merged (places_of old k) (if b then carried piece.from piece.to piece.onto (rows_given sources piece.from_route.number) k else none)) (other-number piece.onto_route.number route off) ∙ merged-none (places_of old k));
    placed = λ before. before;
    wide = λ width all before. before;
  }

  pub piece-here : (piece : PlannedPiece) (spans old new : List Stretch) → piece.onto_route.number ≡ route → ((k : ℕ) → places_of spans k ≡ rows_given sources piece.from_route.number k) → ArePlaced sources.kind spans
      → ((width : ℕ) → AreAllWide width (list_of sources.rows.now) → AreWide width spans)
      → ((k : ℕ) → places_of new k ≡ merged (places_of old k) (carried piece.from piece.to piece.onto (places_of spans) k))
      → ((kind : Kind) → ArePlaced kind spans → ArePlaced kind old → ArePlaced kind new)
      → ((width : ℕ) → AreWide width spans → AreWide width old → AreWide width new)
      → AreGathered sources (carried_by piece (rows_given sources) route) old new
  piece-here piece spans old new on given given_placed given_wide means placed wide = record {
    means = λ k. means k ∙ ap (merged (places_of old k)) (
        (λ i. carried piece.from piece.to piece.onto (λ j. given j i) k)
        ∙ sym (ap (λ b. if b then carried piece.from piece.to piece.onto (rows_given sources piece.from_route.number) k else none) (same-number piece.onto_route.number route on)));
    placed = λ before. placed sources.kind given_placed before;
    wide = λ width all before. wide width (given_wide width all) before;
  }

  -- ---- all of them

  -- What is gathered is carried to the route by pieces before the rest: beside what the rest carries there it is all that
  -- the pieces carry.
  pub record Gathers (rest : List PlannedPiece) (gathered : List Stretch) : Type 0 where
    pub means : (k : ℕ) → merged (places_of gathered k) (transformed rest (rows_given sources) route k) ≡ transformed sources.pieces.now (rows_given sources) route k
    pub placed : ArePlaced sources.kind gathered
    pub wide : (width : ℕ) → AreAllWide width (list_of sources.rows.now) → AreWide width gathered
    pub forwards : AllByRecursion (λ piece. goes_forwards piece ≡ true) rest

  pub gathers-none : (spans : List Span) → AllByRecursion (λ piece. goes_forwards piece ≡ true) sources.pieces.now → spans ≡ [] → Gathers sources.pieces.now (map seen spans)
  gathers-none spans forwards empty = record {
    means = λ k. ap (λ zs. merged (places_of (map seen zs) k) (transformed sources.pieces.now (rows_given sources) route k)) empty ∙ none-merged (transformed sources.pieces.now (rows_given sources) route k);
    placed = subst (λ zs. ArePlaced sources.kind (map seen zs)) (sym empty) tt;
    wide = λ width all. subst (λ zs. AreWide width (map seen zs)) (sym empty) tt;
    forwards = forwards;
  }

  pub gathers-more : (rest later : List PlannedPiece) (piece : PlannedPiece) (old new : List Stretch) → Gathers rest old → rest ≡ piece ∷ later → AreGathered sources (carried_by piece (rows_given sources) route) old new → Gathers later new
  gathers-more rest later piece old new before first added =
      let so_far = subst (λ pieces. Gathers pieces old) first before in
      record {
        means = λ k. ap (λ rows. merged rows (transformed later (rows_given sources) route k)) (added.means k)
            ∙ merged-assoc (places_of old k) (carried_by piece (rows_given sources) route k) (transformed later (rows_given sources) route k)
            ∙ so_far.means k;
        placed = added.placed so_far.placed;
        wide = λ width all. added.wide width all (so_far.wide width all);
        forwards = so_far.forwards.1;
      }

  pub gathers-all : (rest : List PlannedPiece) (old : List Stretch) (runs : Vec Span Global) → rest ≡ [] → Gathers rest old
      → AreRunsOf sources.kind (places_of old) (map seen runs.items) → ArePlaced sources.kind (map seen runs.items) → places_of (map seen runs.items) ≡ places_of old
      → IsCarried sources route runs
  gathers-all rest old runs none_left all made placed same = record {
    means = λ k. ap (λ places. places k) same ∙ sym (merged-none (places_of old k))
        ∙ ap (λ left. merged (places_of old k) (transformed left (rows_given sources) route k)) (sym none_left) ∙ all.means k;
    sorted = runs-sorted (map seen runs.items) made.ordered;
    placed = placed;
    wide = λ width each. runs-wide sources.kind width old (map seen runs.items) (all.wide width each) made.maximal;
    joined = joined-from_runs sources.kind (places_of old) (map seen runs.items) made;
  }

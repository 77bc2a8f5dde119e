-- The text of a line, put together from its parts.
use Rattle.std.proofs.Common.{◌≡◌, ◌≤◌, ◌+◌, ℕ, zero, suc, ◌++◌, codes, drop, get_or, length, List, [], ◌∷◌, map, max, min, refl, sym, ap, ◌∙◌, append_assoc, arith}
use Rattle.std.specs.List.{AllByRecursion}
use Rattle.std.specs.FinMap as names
use Rattle.rs_measure.specs.Measure.{measure_text}
use Rattle.rs_methods.specs.declared.position.Method.{Method}
use Rattle.rs_methods.specs.declared.position.Method.TheVariants.{Absolute}
use Rattle.rs_methods.specs.Position.{expression_at, expression_text}
use Rattle.rs_value.specs.declared.column.Kind.{Kind}
use Rattle.rs_value.specs.declared.column.Kind.TheVariants.{Point, Line}
use Rattle.rs_value.specs.Row.{Row, null}
use Rattle.rs_value.specs.Text.{datum_text, values_text}
use Rattle.rs_facts.specs.LineText.{line_of, positions_text}
use Rattle.rs_facts.specs.Query.{RouteEnds}
use Rattle.rs_facts.specs.Runs.{Stretch}
use Rattle.rs_catalog.specs.Definitions.{Numbered, RouteItem}
use Rattle.rs_catalog.specs.Referents.{HeldReferents, referents_on}
use Rattle.rs_answers.specs.Printed.{place_on, printed_position, IsPlaceOn, IsWithinEnds}

-- ---- a position

pub place-nearest : (ends : RouteEnds) (place upto result finish start : ℕ) → finish ≡ ends.finish → start ≡ ends.start → upto ≡ min place finish → result ≡ max upto start → result ≡ place_on ends place
unfolding place_on
place-nearest ends place upto result finish start e f g h = omega (arith, e, f, g, h)

pub place-same : (ends : RouteEnds) (place : ℕ) → IsPlaceOn ends place → place_on ends place ≡ place
unfolding place_on
place-same ends place on = omega (arith, on.from_start, on.upto_finish)

module _ (referents : Numbered HeldReferents) (on : RouteItem) (method : Method) (place : ℕ) where
  pub printed_absolute : method ≡ Absolute → printed_position referents on method place ≡ measure_text place
  unfolding printed_position
  printed_absolute e = ap (λ (m : Method). expression_text (expression_at on.ends.start on.ends.finish (names.entries (referents_on referents on.number)) m place)) e

  pub printed_expressed : (k : ℕ) (text : List ℕ) → k ≡ place → text ≡ expression_text (expression_at on.ends.start on.ends.finish (names.entries (referents_on referents on.number)) method k)
      → text ≡ printed_position referents on method place
  unfolding printed_position
  printed_expressed k text e said = said ∙ ap (λ (k : ℕ). expression_text (expression_at on.ends.start on.ends.finish (names.entries (referents_on referents on.number)) method k)) e

-- ---- a line

abbrev space : List ℕ
space = codes " "

pub point_line : (at : ℕ → List ℕ) (kind : Kind) (route : List ℕ) (run : Stretch) (a b t : List ℕ) → kind ≡ Point → a ≡ route
    → b ≡ a ++ codes " " ++ at run.lo → t ≡ b ++ values_text run.row → t ≡ line_of at kind route run
unfolding line_of
point_line at kind route run a b t k e f g =
    g ∙ ap (λ b. b ++ values_text run.row) (f ∙ ap (λ a. a ++ space ++ at run.lo) e) ∙ ap (λ kind. line_of at kind route run) (sym k)

pub line_line : (at : ℕ → List ℕ) (kind : Kind) (route : List ℕ) (run : Stretch) (a b d t : List ℕ) → kind ≡ Line → a ≡ route
    → b ≡ a ++ codes " " ++ at run.lo → d ≡ b ++ codes " " ++ at run.hi → t ≡ d ++ values_text run.row → t ≡ line_of at kind route run
unfolding line_of
line_line at kind route run a b d t k e f g h =
    let lo = at run.lo in
    let hi = at run.hi in
    let begun : b ≡ route ++ space ++ lo = f ∙ ap (λ a. a ++ space ++ lo) e in
    let both : d ≡ route ++ space ++ (lo ++ space ++ hi) =
    g ∙ ap (λ b. b ++ space ++ hi) begun ∙ ap (λ x. x ++ hi) (append_assoc (route ++ space) lo space) ∙ append_assoc (route ++ space) (lo ++ space) hi in
    h ∙ ap (λ d. d ++ values_text run.row) both ∙ ap (λ kind. line_of at kind route run) (sym k)

-- ---- lines of runs that lie on the route

module _ (at other : ℕ → List ℕ) (ends : RouteEnds) (same : (place : ℕ) → IsPlaceOn ends place → at place ≡ other place) (route : List ℕ) where
  line-same : (kind : Kind) (run : Stretch) → IsWithinEnds ends kind run → line_of at kind route run ≡ line_of other kind route run
  unfolding line_of
  line-same Point run on = ap (λ (text : List ℕ). route ++ space ++ text ++ values_text run.row) (same run.lo on)
  line-same Line run on = (λ i. route ++ space ++ (same run.lo on.0 i ++ space ++ same run.hi on.1 i) ++ values_text run.row)

  pub lines-same : (kind : Kind) (runs : List Stretch) → AllByRecursion (IsWithinEnds ends kind) runs → map (line_of at kind route) runs ≡ map (line_of other kind route) runs
  lines-same kind [] on = refl
  lines-same kind (run ∷ runs) on = (λ i. line-same kind run on.0 i ∷ lines-same kind runs on.1 i)

-- ---- a line that is put before the rest

-- a value, and those after it
pub one_more : (row : Row) (left next : ℕ) (rest : List ℕ) → left + 1 ≡ next → next ≤ length row
    → 32 ∷ (datum_text (get_or row left null) ++ (values_text (drop next row) ++ rest)) ≡ values_text (drop left row) ++ rest
one_more [] left next rest is few = absurd (omega arith)
one_more (datum ∷ row) left zero rest is few = absurd (omega arith)
one_more (datum ∷ row) zero (suc next) rest is few =
    let none : next ≡ 0 = omega arith in
    rw none (ap (λ t. 32 ∷ t) (sym (append_assoc (datum_text datum) (values_text row) rest)))
one_more (datum ∷ row) (suc left) (suc next) rest is few = one_more row left next rest (omega arith) (omega arith)

-- what is put before the rest, part before part
before-rest : (route pos values rest : List ℕ) → route ++ ((space ++ pos) ++ (values ++ rest)) ≡ ((route ++ space) ++ pos) ++ values ++ rest
before-rest route pos values rest =
    sym (append_assoc ((route ++ space) ++ pos) values rest
    ∙ ap (λ t. t ++ (values ++ rest)) (append_assoc route space pos)
    ∙ append_assoc route (space ++ pos) (values ++ rest))

positions-same : (at other : ℕ → List ℕ) → ((place : ℕ) → at place ≡ other place) → (kind : Kind) (run : Stretch) → positions_text at kind run ≡ positions_text other kind run
positions-same at other same Point run = same run.lo
positions-same at other same Line run = (λ i. same run.lo i ++ space ++ same run.hi i)

-- the line of a run whose positions are measures
pub absolute_line : (referents : Numbered HeldReferents) (on : RouteItem) (method : Method) (kind : Kind) (route : List ℕ) (run : Stretch) (rest : List ℕ) → method ≡ Absolute
    → route ++ ((space ++ positions_text (λ place. measure_text (place_on on.ends place)) kind run) ++ (values_text run.row ++ rest))
    ≡ line_of (λ place. printed_position referents on method (place_on on.ends place)) kind route run ++ rest
unfolding line_of
absolute_line referents on method kind route run rest is =
    let at : ℕ → List ℕ = (λ place. printed_position referents on method (place_on on.ends place)) in
    let measures : ℕ → List ℕ = (λ place. measure_text (place_on on.ends place)) in
    let same = positions-same measures at (λ place. sym (printed_absolute referents on method (place_on on.ends place) is)) kind run in
    ap (λ (t : List ℕ). route ++ ((space ++ t) ++ (values_text run.row ++ rest))) same ∙ before-rest route (positions_text at kind run) (values_text run.row) rest

-- Printed positions of a lawful state: they can be printed, a line can say them, and they lie where they came from.
use Rattle.std.proofs.Common.{◌≡◌, ◌≢◌, ◌∙◌, ℕ, zero, suc, ◌+◌, ◌-◌, ◌*◌, ◌/◌, ◌<◌, ◌≤◌, Bool, true, false, cond, T, List, [], ◌∷◌, length, get_or, Contains, Some, Ok, refl, sym, ap, subst, inl, inr, arith}
use Rattle.std.specs.declared.cmp.Ordering.{Ordering}
use Rattle.std.specs.declared.cmp.Ordering.TheVariants.{Less, Equal, Greater}
use Rattle.std.specs.Ordering.{is_eq, is_lt, ordering_reverse}
use Rattle.std.specs.Cmp.{tied_itself}
use Rattle.std.specs.Str.{bytes_eq}
use Rattle.std.specs.FinMap as names
use Rattle.std.specs.FinMap.{find, is_sorted, get-entries, entries_sorted}
use Rattle.std.specs.FinMap.Entries.{below_all}
use Rattle.std.proofs.lemmas.Bool.{and_parts}
use Rattle.std.proofs.lemmas.Slice.Eq.{bytes_eq-Decides}
use Rattle.rs_lexer.specs.Lexis.{reserved}
use Rattle.rs_methods.specs.Position.{PositionExpression, start_name, measure_of, referent_measure, on_route, nearest, ceiling, expression_text}
use Rattle.rs_methods.specs.PositionText.{IsPrintable, AreWords, TextSaysPosition}
use Rattle.rs_methods.specs.declared.position.Method.{Method}
use Rattle.rs_methods.specs.declared.position.Method.TheVariants as methods
use Rattle.rs_methods.proofs.Nearest.{nearest_from_among, nearest_from_not_above, on_route_itself, located_relative}
use Rattle.rs_methods.proofs.SaidExpression.{printable, start_is_word}
use Rattle.rs_facts.specs.Fact.{Name, name_cmp}
use Rattle.rs_facts.specs.Query.{RouteEnds}
use Rattle.rs_syntax.specs.Sound.{IsName}
use Rattle.rs_machine.specs.State.{State}
use Rattle.rs_machine.specs.Checks.{position_on}
use Rattle.rs_machine.specs.Step.{position_text}
use Rattle.rs_machine.specs.Lawful.{IsRoute, IsPlaceOf, IsLawful}
use Rattle.rs_machine.proofs.NameOrder.{name_cmp-total}
use Rattle.rs_machine_laws.specs.TokensSay.{StandsAt, TokensSay, HasName}
use Rattle.rs_machine_laws.specs.PrintedPositions.{printed_expression}
use Rattle.rs_machine_laws.proofs.Windows.{measure_found}
use Rattle.rs_machine_laws.proofs.PositionTokens.{said}

-- ---- entries are found by their names

at_first : (e near : Name × ℕ) (es : List (Name × ℕ)) → e ≡ near → find name_cmp near.0 (e ∷ es) ≡ Some near.1
at_first e near es is = subst (λ (m : Name × ℕ). find name_cmp m.0 (e ∷ es) ≡ Some m.1) is (ap (λ order. cond (is_eq order) (Some e.1) (find name_cmp e.0 es)) (tied_itself name_cmp-total e.0))

not_tied : (order : Ordering) → is_lt order ≡ true → is_eq (ordering_reverse order) ≡ false
not_tied Less e = refl
not_tied Equal e = cc
not_tied Greater e = cc

below_each : (first : Name) (es : List (Name × ℕ)) (near : Name × ℕ) (i : ℕ) → i < length es → get_or es i near ≡ near → below_all name_cmp first es ≡ true → is_lt (name_cmp first near.0) ≡ true
below_each first [] near i within is below = absurd (omega arith)
below_each first (e ∷ es) near zero within is below = ap (λ (m : Name × ℕ). is_lt (name_cmp first m.0)) (sym is) ∙ (and_parts (is_lt (name_cmp first e.0)) (below_all name_cmp first es) below).0
below_each first (e ∷ es) near (suc i) within is below = below_each first es near i (omega arith) is (and_parts (is_lt (name_cmp first e.0)) (below_all name_cmp first es) below).1

entry_found : (es : List (Name × ℕ)) (near : Name × ℕ) (i : ℕ) → is_sorted name_cmp es ≡ true → i < length es → get_or es i near ≡ near → find name_cmp near.0 es ≡ Some near.1
entry_found [] near i sorted within is = absurd (omega arith)
entry_found (e ∷ es) near zero sorted within is = at_first e near es is
entry_found (e ∷ es) near (suc i) sorted within is =
    let parts = and_parts (below_all name_cmp e.0 es) (is_sorted name_cmp es) sorted in
    let later = below_each e.0 es near i (omega arith) is parts.0 in
    ap (λ order. cond (is_eq order) (Some e.1) (find name_cmp near.0 es)) (name_cmp-total.antisymm near.0 e.0)
    ∙ ap (λ b. cond b (Some e.1) (find name_cmp near.0 es)) (not_tied (name_cmp e.0 near.0) later)
    ∙ entry_found es near i parts.1 (omega arith) is

-- ---- the nearest referent

from_T : (b : Bool) → T b → b ≡ true
from_T true h = refl
from_T false h = absurd h

start_is_name : IsName start_name
unfolding reserved
start_is_name = record { word = start_is_word; short = omega arith; not_reserved = refl }

-- a number of billionths and less than a whole more is that number rounded down
between : (start k product whole : ℕ) → (k - start) * 1000000000 ≤ product → product < (k - start) * 1000000000 + whole → whole ≤ 1000000000 → start ≤ k → start + product / 1000000000 ≡ k
between start k product whole above under few low = omega arith

-- a part that was rounded up is rounded down to where it came from
part_back : ((number divisor : ℕ) → 0 < divisor → number ≤ ceiling number divisor * divisor) → ((number divisor : ℕ) → 0 < divisor → ceiling number divisor * divisor < number + divisor)
    → (start finish k : ℕ) → start ≤ k → k ≤ finish → start < finish → finish ≤ 999999999 → start + ceiling ((k - start) * 1000000000) (finish - start) * (finish - start) / 1000000000 ≡ k
part_back not_below by_less start finish k low high order top =
    let some : 0 < finish - start = omega arith in
    let above = not_below ((k - start) * 1000000000) (finish - start) some in
    let under = by_less ((k - start) * 1000000000) (finish - start) some in
    between start k (ceiling ((k - start) * 1000000000) (finish - start) * (finish - start)) (finish - start) above under (omega arith) (omega arith)

module _ (state : State) (route : Name) (lawful : IsLawful state) where
  among_there : (near : Name × ℕ) → Contains (names.entries (state.referents route)) near → names.get (state.referents route) near.0 ≡ Some near.1
  among_there near among = get-entries (state.referents route) near.0 ∙ entry_found (names.entries (state.referents route)) near among.0 (from_T _ (entries_sorted (state.referents route))) among.1 among.2

  near_is_name : (start k : ℕ) → IsName (nearest start (names.entries (state.referents route)) k).0
  near_is_name start k = elim (nearest_from_among k (start_name, start) (names.entries (state.referents route))) [
    | inl first ↦ subst (λ (m : Name × ℕ). IsName m.0) (sym first) start_is_name
    | inr among ↦ lawful.referents_named.each route (nearest start (names.entries (state.referents route)) k).0 (nearest start (names.entries (state.referents route)) k).1 (among_there (nearest start (names.entries (state.referents route)) k) among)
  ]

  near_found : (start k : ℕ) → referent_measure start (names.entries (state.referents route)) (nearest start (names.entries (state.referents route)) k).0 ≡ Some (nearest start (names.entries (state.referents route)) k).1
  near_found start k = elim (nearest_from_among k (start_name, start) (names.entries (state.referents route))) [
    | inl first ↦ subst (λ (m : Name × ℕ). referent_measure start (names.entries (state.referents route)) m.0 ≡ Some m.1) (sym first) refl
    | inr among ↦
        let near = nearest start (names.entries (state.referents route)) k in
        let there = among_there near among in
        let other : bytes_eq start_name near.0 ≡ false = apart near.0 (((lawful.referents route) near.0 near.1 there).not_start) in
        ap (λ b. cond b (Some start) (measure_of near.0 (names.entries (state.referents route)))) other ∙ measure_found (names.entries (state.referents route)) near.0 ∙ sym (get-entries (state.referents route) near.0) ∙ there
  ]
    where
      apart : (name : Name) → name ≢ start_name → bytes_eq start_name name ≡ false
      apart name not_start = elim (bytes_eq start_name name) as (λ b. bytes_eq start_name name ≡ b → b ≡ false) [
        | true ↦ λ same. absurd (not_start (sym ((bytes_eq-Decides start_name name).0 same)))
        | false ↦ λ same. refl
      ] refl

  expression_has_name : (ends : RouteEnds) (method : Method) (k : ℕ) → HasName (printed_expression state route ends method k)
  expression_has_name ends methods.Absolute k = tt
  expression_has_name ends methods.Relative k = near_is_name ends.start k
  expression_has_name ends methods.Interpolative k = tt

  -- what is printed says its position, so the tokens of a line do where it stands
  pub printed-said : ((position : PositionExpression) → IsPrintable position → TextSaysPosition (expression_text position) position) → AreWords (names.entries (state.referents route))
      → (ends : RouteEnds) (method : Method) (k : ℕ) (line : List ℕ) (place : ℕ) → IsRoute route ends → IsPlaceOf k ends
      → StandsAt line place (position_text state route ends method k) → TokensSay line place (place + length (position_text state route ends method k)) (printed_expression state route ends method k)
  printed-said read_back words ends method k line place is lies stands =
      let position = printed_expression state route ends method k in
      let low = lies.0 in
      let high = lies.1 in
      let top = is.end_is_measure in
      said line place (position_text state route ends method k) position
      (read_back position (printable ends.start ends.finish k (names.entries (state.referents route)) method low high is.start_below_end (omega arith) (λ relative. words)))
      (expression_has_name ends method k)
      stands

  pub printed-lies : ((number divisor : ℕ) → 0 < divisor → number ≤ ceiling number divisor * divisor) → ((number divisor : ℕ) → 0 < divisor → ceiling number divisor * divisor < number + divisor)
      → (ends : RouteEnds) (method : Method) (k : ℕ) → IsRoute route ends → IsPlaceOf k ends → position_on state route ends (printed_expression state route ends method k) ≡ Ok k
  printed-lies not_below by_less ends methods.Absolute k is lies = on_route_itself ends.start ends.finish k lies.0 lies.1
  printed-lies not_below by_less ends methods.Relative k is lies =
      located_relative ends.start ends.finish (names.entries (state.referents route)) k (nearest ends.start (names.entries (state.referents route)) k) lies.0 lies.1 (nearest_from_not_above k (start_name, ends.start) (names.entries (state.referents route)) lies.0) (near_found ends.start k)
  printed-lies not_below by_less ends methods.Interpolative k is lies =
      ap (on_route ends.start ends.finish) (part_back not_below by_less ends.start ends.finish k lies.0 lies.1 is.start_below_end is.end_is_measure)
      ∙ on_route_itself ends.start ends.finish k lies.0 lies.1

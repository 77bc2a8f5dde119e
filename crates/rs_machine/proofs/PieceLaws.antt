-- Pieces of alignments lie on routes that are there, also when there is one more route, or one less on which none lies.
use Rattle.std.proofs.Common.{◌≡◌, ◌∙◌, ℕ, ◌≤◌, Bool, true, false, ◌&&◌, ◌||◌, cond, List, [], ◌∷◌, Some, None, is_some, refl, sym, ap}
use Rattle.std.specs.Prelude.{unwrap_or, nat_le}
use Rattle.std.proofs.lemmas.Bool.{leb-true, and_parts}
use Rattle.std.specs.Ordering.{eq_by_cmp}
use Rattle.std.specs.Cmp.{Equal-is, eq_by_cmp_equiv}
use Rattle.std.specs.List.{list_any}
use Rattle.std.specs.FinMap as names
use Rattle.std.specs.FinMap.{find, get-entries, get-insert, get-remove}
use Rattle.rs_facts.specs.Fact.{Name, Names, name_cmp}
use Rattle.rs_facts.specs.Insert.{same_name}
use Rattle.rs_facts.specs.Query.{RouteEnds, Piece}
use Rattle.rs_facts.specs.WellFormed.{IsPieceOn, ArePiecesOn}
use Rattle.rs_machine.specs.State.{has}
use Rattle.rs_machine.specs.Checks.{is_on_route}
use Rattle.rs_machine.specs.Opening.{piece_on}
use Rattle.rs_machine.proofs.NameOrder.{name_cmp-total, name_cmp-antisymmetric}

false_true : {P : Type 0} → false ≡ true → P
false_true e = cc

either_false : (a b : Bool) → a || b ≡ false → (a ≡ false) × (b ≡ false)
either_false true b e = false_true (sym e)
either_false false b e = (refl, e)

one_name : (a b : Name) → same_name a b ≡ true → a ≡ b
one_name a b e = name_cmp-antisymmetric a b ((Equal-is (name_cmp a b)).0 e)

-- ---- places

-- what the test of a piece's places says
pub lies_on : (first second : RouteEnds) (from to onto after : ℕ) → is_on_route first from && is_on_route first to && is_on_route second onto && is_on_route second after ≡ true
    → (first.start ≤ from) × (to ≤ first.finish) × (second.start ≤ onto) × (after ≤ second.finish)
lies_on first second from to onto after e =
    let last = and_parts (is_on_route first from && is_on_route first to && is_on_route second onto) (is_on_route second after) e in
    let third = and_parts (is_on_route first from && is_on_route first to) (is_on_route second onto) last.0 in
    let both = and_parts (is_on_route first from) (is_on_route first to) third.0 in (
      leb-true first.start from (and_parts (nat_le first.start from) (nat_le from first.finish) both.0).0,
      leb-true to first.finish (and_parts (nat_le first.start to) (nat_le to first.finish) both.1).1,
      leb-true second.start onto (and_parts (nat_le second.start onto) (nat_le onto second.finish) third.1).0,
      leb-true after second.finish (and_parts (nat_le second.start after) (nat_le after second.finish) last.1).1,
    )

-- ---- routes

-- the same piece on other routes, where its own two are found there as they were
moved : (before after : Names RouteEnds) (piece : Piece)
    → ((ends : RouteEnds) → names.get before piece.from_route ≡ Some ends → names.get after piece.from_route ≡ Some ends)
    → ((ends : RouteEnds) → names.get before piece.onto_route ≡ Some ends → names.get after piece.onto_route ≡ Some ends)
    → IsPieceOn before piece → IsPieceOn after piece
moved before after piece from onto is = record {
  first = is.first;
  second = is.second;
  first_there = from is.first is.first_there;
  second_there = onto is.second is.second_there;
  from_start = is.from_start;
  some = is.some;
  upto_finish = is.upto_finish;
  onto_start = is.onto_start;
  onto_finish = is.onto_finish;
}

still_there : (routes : Names RouteEnds) (name : Name) (ends : RouteEnds) → has routes name ≡ false
    → (route : Name) (other : RouteEnds) → names.get routes route ≡ Some other → names.get (names.insert routes name ends) route ≡ Some other
still_there routes name ends new route other there =
    get-insert name_cmp-total routes name ends route
    ∙ elim (same_name route name) as (λ same. same_name route name ≡ same → cond same (Some ends) (names.get routes route) ≡ Some other) [
      | true ↦ λ same. false_true (sym new ∙ ap is_some (ap (names.get routes) (sym (one_name route name same)) ∙ there))
      | false ↦ λ same. there
    ] refl

pub pieces-route_more : (routes : Names RouteEnds) (name : Name) (ends : RouteEnds) → has routes name ≡ false
    → (pieces : List Piece) → ArePiecesOn routes pieces → ArePiecesOn (names.insert routes name ends) pieces
pieces-route_more routes name ends new [] lie = tt
pieces-route_more routes name ends new (piece ∷ pieces) lie = (
  moved routes (names.insert routes name ends) piece (still_there routes name ends new piece.from_route) (still_there routes name ends new piece.onto_route) lie.0,
  pieces-route_more routes name ends new pieces lie.1,
)

left_there : (routes : Names RouteEnds) (name route : Name) → same_name name route ≡ false
    → (other : RouteEnds) → names.get routes route ≡ Some other → names.get (names.remove routes name) route ≡ Some other
left_there routes name route apart other there =
    get-remove name_cmp-total routes name route
    ∙ ap (λ same. cond same None (names.get routes route)) ((eq_by_cmp_equiv name_cmp-total).symm route name ∙ apart)
    ∙ there

pub pieces-route_gone : (routes : Names RouteEnds) (name : Name) (pieces : List Piece) → list_any (piece_on name) pieces ≡ false
    → ArePiecesOn routes pieces → ArePiecesOn (names.remove routes name) pieces
pieces-route_gone routes name [] none lie = tt
pieces-route_gone routes name (piece ∷ pieces) none lie =
    let parts = either_false (piece_on name piece) (list_any (piece_on name) pieces) none in
    let apart = either_false (same_name name piece.from_route) (same_name name piece.onto_route) parts.0 in (
      moved routes (names.remove routes name) piece (left_there routes name piece.from_route apart.0) (left_there routes name piece.onto_route apart.1) lie.0,
      pieces-route_gone routes name pieces parts.1 lie.1,
    )

-- ---- alignments

some_same : {X : Type 0} (x y : X) → Some x ≡ Some y → x ≡ y
some_same x y e = ap (λ o. unwrap_or o x) e

none_some : {X : Type 0} {P : Type 0} (x : X) → None ≡ Some x → P
none_some x e = cc

-- what no entry passes, nothing that is found passes
pub none_found : {X : Type 0} (test : X → Bool) (entries : List (Name × X)) (name : Name) (thing : X) → find name_cmp name entries ≡ Some thing
    → list_any (λ entry. test entry.1) entries ≡ false → test thing ≡ false
none_found test [] name thing there none = none_some thing there
none_found test (entry ∷ entries) name thing there none =
    let parts = either_false (test entry.1) (list_any (λ e. test e.1) entries) none in
    elim (eq_by_cmp name_cmp name entry.0) as (λ same. cond same (Some entry.1) (find name_cmp name entries) ≡ Some thing → test thing ≡ false) [
      | true ↦ λ found. ap test (sym (some_same entry.1 thing found)) ∙ parts.0
      | false ↦ λ found. none_found test entries name thing found parts.1
    ] there

-- where no alignment has a piece on the route, each lies on the routes without it
pub alignments-route_gone : (routes : Names RouteEnds) (alignments : Names (List Piece)) (route : Name)
    → list_any (λ alignment. list_any (piece_on route) alignment.1) (names.entries alignments) ≡ false
    → (name : Name) (pieces : List Piece) → names.get alignments name ≡ Some pieces → ArePiecesOn routes pieces → ArePiecesOn (names.remove routes route) pieces
alignments-route_gone routes alignments route none name pieces there lie =
    pieces-route_gone routes route pieces (none_found (λ of. list_any (piece_on route) of) (names.entries alignments) name pieces (sym (get-entries alignments name) ∙ there) none) lie

-- Alignments lie on routes that are there: those that are defined, and all when there is one route more or one less.
use Rattle.std.proofs.Common.{◌≡◌, suc, ◌+◌, ◌-◌, false, List, [], ◌∷◌, length, Ok, refl, ap, subst}
use Rattle.std.specs.Prelude.{nat_lt}
use Rattle.std.specs.FinMap as names
use Rattle.std.proofs.lemmas.Bool.{ltb-true}
use Rattle.rs_refusal.specs.declared.refusal.Refusal.TheVariants.{NoSuchRoute, OutsideTheRoute, EmptySpan}
use Rattle.rs_facts.specs.Fact.{Name, Names}
use Rattle.rs_facts.specs.Query.{RouteEnds, Piece}
use Rattle.rs_facts.specs.WellFormed.{IsPieceOn, ArePiecesOn}
use Rattle.rs_syntax.specs.Tree.{PieceTree}
use Rattle.rs_machine.specs.State.{State, has}
use Rattle.rs_machine.specs.Checks.{unless, found, piece_lies, piece_of, piece_checked, pieces_checked}
use Rattle.rs_machine.specs.Opening.{some_piece_on}
use Rattle.rs_machine.specs.Lawful.{Each, IsAlignment}
use Rattle.rs_machine.proofs.PieceLaws.{lies_on, pieces-route_more, alignments-route_gone}
use Rattle.rs_machine_laws.proofs.Checked.{ok_same, then_ok, passed, was_found}

-- ---- pieces that are checked

piece-lies : (routes : Names RouteEnds) (piece : PieceTree) (made : Piece) → piece_checked routes piece ≡ Ok made → IsPieceOn routes made
piece-lies routes piece made e =
    let first = then_ok (found (names.get routes piece.from_route) NoSuchRoute) _ made e in
    let second = then_ok (found (names.get routes piece.onto_route) NoSuchRoute) _ made first.2 in
    let on = then_ok (unless (piece_lies first.0 second.0 piece) OutsideTheRoute) _ made second.2 in
    let some = then_ok (unless (nat_lt piece.from piece.to) EmptySpan) _ made on.2 in
    let places = lies_on first.0 second.0 piece.from piece.to piece.onto (piece.onto + (piece.to - piece.from)) (passed (piece_lies first.0 second.0 piece) OutsideTheRoute on.0 on.1) in
    subst (IsPieceOn routes) (ok_same (piece_of piece) made some.2) (record {
      first = first.0;
      second = second.0;
      first_there = was_found (names.get routes piece.from_route) NoSuchRoute first.0 first.1;
      second_there = was_found (names.get routes piece.onto_route) NoSuchRoute second.0 second.1;
      from_start = places.0;
      some = ltb-true piece.from piece.to (passed (nat_lt piece.from piece.to) EmptySpan some.0 some.1);
      upto_finish = places.1;
      onto_start = places.2;
      onto_finish = places.3;
    })

-- as many as are written, each where it may be
pub record AreMade (routes : Names RouteEnds) (written : List PieceTree) (made : List Piece) : Type 0 where
  pub lie : ArePiecesOn routes made
  pub many : length made ≡ length written

pub pieces-made : (routes : Names RouteEnds) (written : List PieceTree) (made : List Piece) → pieces_checked routes written ≡ Ok made → AreMade routes written made
pieces-made routes [] made e = subst (AreMade routes []) (ok_same [] made e) (record { lie = tt; many = refl })
pieces-made routes (piece ∷ written) made e =
    let first = then_ok (piece_checked routes piece) _ made e in
    let rest = then_ok (pieces_checked routes written) _ made first.2 in
    let are = pieces-made routes written rest.0 rest.1 in
    subst (AreMade routes (piece ∷ written)) (ok_same (first.0 ∷ rest.0) made rest.2) (record { lie = (piece-lies routes piece first.0 first.1, are.lie); many = ap suc are.many })

-- ---- routes

kept : (before after : Names RouteEnds) (name : Name) (pieces : List Piece) → IsAlignment before name pieces → ArePiecesOn after pieces → IsAlignment after name pieces
kept before after name pieces is lie = record { named = is.named; some = is.some; few = is.few; lie = lie }

pub alignments-more : (state : State) (name : Name) (ends : RouteEnds) → has state.routes name ≡ false → Each state.alignments (IsAlignment state.routes) → Each state.alignments (IsAlignment (names.insert state.routes name ends))
alignments-more state name ends new each alignment pieces there =
    let is = each alignment pieces there in
    kept state.routes (names.insert state.routes name ends) alignment pieces is (pieces-route_more state.routes name ends new pieces is.lie)

pub alignments-gone : (state : State) (name : Name) → some_piece_on state name ≡ false → Each state.alignments (IsAlignment state.routes) → Each state.alignments (IsAlignment (names.remove state.routes name))
alignments-gone state name unused each alignment pieces there =
    let is = each alignment pieces there in
    kept state.routes (names.remove state.routes name) alignment pieces is (alignments-route_gone state.routes state.alignments name unused alignment pieces there is.lie)

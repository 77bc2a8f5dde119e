-- What the pieces of an alignment carry to a thousandth: what one of them carries there.
use Rattle.std.proofs.Common.{◌≡◌, ℕ, zero, suc, ◌<◌, Bool, true, false, ◌&&◌, ◌||◌, List, [], ◌∷◌, length, get_or, inl, inr, refl, sym, ap, ◌∙◌, arith}
use Rattle.std.proofs.lemmas.Bool.{or_cases, and_parts, and_from}
use Rattle.std.specs.Cmp.{IsTotalOrder, Equal-is, eq_by_cmp_equiv}
use Rattle.std.specs.Cmp.Lexicographic.{nat_list_cmp_total}
use Rattle.std.specs.FinMap.{IsAntisymmetric, nat_cmp-IsAntisymmetric, slice_cmp-IsAntisymmetric}
use Rattle.rs_value.specs.Row.{Row}
use Rattle.rs_facts.specs.Fact.{Name, name_cmp, contains, Facts}
use Rattle.rs_facts.specs.Insert.{same_name}
use Rattle.rs_facts.specs.Operators.{carried}
use Rattle.rs_facts.specs.OperatorLaws as laws
use Rattle.rs_facts.specs.OperatorLaws.{IsCarried, IsTransformed}
use Rattle.rs_facts.specs.Query.{Piece, carried_by, transformed}
use Rattle.rs_facts.proofs.Sets.{contains-none}
use Rattle.rs_facts.proofs.RowSets.{contains-merged, in_cond}
use Rattle.rs_facts.proofs.Carrying.{carried-rows}

names_total : IsTotalOrder name_cmp
unfolding name_cmp
names_total = nat_list_cmp_total

names_antisymmetric : IsAntisymmetric name_cmp
unfolding name_cmp
names_antisymmetric = slice_cmp-IsAntisymmetric nat_cmp-IsAntisymmetric

one_name : (a b : Name) → same_name a b ≡ true → a ≡ b
one_name a b e = names_antisymmetric a b ((Equal-is (name_cmp a b)).0 e)

name_itself : (a b : Name) → a ≡ b → same_name a b ≡ true
name_itself a b e = ap (same_name a) (sym e) ∙ (eq_by_cmp_equiv names_total).refl a

or_right : (a b : Bool) → b ≡ true → (a || b) ≡ true
or_right true b e = refl
or_right false b e = e

-- ---- one piece

by_piece : (piece : Piece) (facts : Facts) (route : Name) (j : ℕ) (row : Row)
    → contains (carried_by piece facts route j) row ≡ (same_name piece.onto_route route && contains (carried piece.from piece.to piece.onto (facts piece.from_route) j) row)
by_piece piece facts route j row = in_cond (same_name piece.onto_route route) (carried piece.from piece.to piece.onto (facts piece.from_route) j) row

carried_there : (piece : Piece) (facts : Facts) (route : Name) (j : ℕ) (row : Row) → piece.onto_route ≡ route
    → IsCarried piece.from piece.to piece.onto (facts piece.from_route) j row → contains (carried_by piece facts route j) row ≡ true
carried_there piece facts route j row onto is = by_piece piece facts route j row ∙ and_from (same_name piece.onto_route route) _
    (name_itself piece.onto_route route onto) ((carried-rows piece.from piece.to piece.onto (facts piece.from_route) j row).1 is)

-- ---- all of them

carried_by_one : (pieces : List Piece) (facts : Facts) (route : Name) (j : ℕ) (row : Row) → contains (transformed pieces facts route j) row ≡ true → IsTransformed pieces facts route j row
carried_by_one [] facts route j row e = absurd (let wrong : false ≡ true = sym (contains-none row) ∙ e in cc)
carried_by_one (piece ∷ pieces) facts route j row e =
    elim (or_cases (contains (carried_by piece facts route j) row) (contains (transformed pieces facts route j) row)
    (sym (contains-merged (carried_by piece facts route j) (transformed pieces facts route j) row) ∙ e)) [
      | inl here ↦
          let parts = and_parts (same_name piece.onto_route route) _ (sym (by_piece piece facts route j row) ∙ here) in
          record {
            piece = piece;
            of_pieces = (0, omega arith, refl);
            onto_route = one_name piece.onto_route route parts.0;
            is_carried = (carried-rows piece.from piece.to piece.onto (facts piece.from_route) j row).0 parts.1;
          }
      | inr there ↦
          let rest = carried_by_one pieces facts route j row there in
          let among = rest.of_pieces in
          record { piece = rest.piece; of_pieces = (suc among.0, omega (arith, among.1), among.2); onto_route = rest.onto_route; is_carried = rest.is_carried }
    ]

found_there : (pieces : List Piece) (facts : Facts) (route : Name) (j : ℕ) (row : Row) (piece : Piece) (i : ℕ) → i < length pieces → get_or pieces i piece ≡ piece
    → contains (carried_by piece facts route j) row ≡ true → contains (transformed pieces facts route j) row ≡ true
found_there [] facts route j row piece i below at here = absurd (omega arith)
found_there (first ∷ pieces) facts route j row piece zero below at here =
    contains-merged (carried_by first facts route j) (transformed pieces facts route j) row
    ∙ ap (λ t. t || contains (transformed pieces facts route j) row) (ap (λ p. contains (carried_by p facts route j) row) at ∙ here)
found_there (first ∷ pieces) facts route j row piece (suc i) below at here =
    contains-merged (carried_by first facts route j) (transformed pieces facts route j) row
    ∙ or_right (contains (carried_by first facts route j) row) _ (found_there pieces facts route j row piece i (omega arith) at here)

pub transformed-rows : laws.TransformedRowsAreThose
transformed-rows pieces facts route j row = (
  λ e. carried_by_one pieces facts route j row e,
  λ h. found_there pieces facts route j row h.piece h.of_pieces.0 h.of_pieces.1 h.of_pieces.2
      (carried_there h.piece facts route j row h.onto_route h.is_carried),
)

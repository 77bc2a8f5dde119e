-- What a checked query names, by its topmost node.
use Rattle.std.proofs.Common.{◌≡◌, ℕ, zero, suc, ◌+◌, ◌<◌, List, [], ◌∷◌, ◌++◌, length, get_or, take, Vec, Global, sym, ap, subst, ◌∙◌, arith}
use Rattle.std.proofs.lemmas.List.{map-append, take_more}
use Rattle.std.specs.Prelude.{flat_map}
use Rattle.std.specs.List.{AllByRecursion}
use Rattle.arrayvec.specs.ArrayString.{ArrayString}
use Rattle.rs_facts.specs.declared.condition.Condition.{Condition}
use Rattle.rs_planning.specs.Numbered.{Numbered}
use Rattle.rs_facts.specs.Fact.{Names}
use Rattle.rs_facts.specs.Query.{RouteEnds}
use Rattle.rs_facts.specs.WellFormed.{IsPieceOn, ArePiecesOn}
use Rattle.rs_syntax.specs.declared.commands.Piece.{Piece}
use Rattle.rs_syntax.specs.View.{piece_tree}
use Rattle.rs_machine.specs.Checks.{piece_of}
use Rattle.rs_catalog.specs.Definitions.{Definitions, pieces_of}
use Rattle.rs_checker.specs.declared.checked.CheckedTable.{CheckedTable}
use Rattle.rs_checker.specs.declared.checked.LocatedWindow.{LocatedWindow}
use Rattle.rs_checker.specs.declared.checked.LocatedPiece.{LocatedPiece}
use Rattle.rs_checker.specs.declared.checked.CheckedQuery as code
use Rattle.rs_checker.specs.declared.checked.CheckedQuery.{fold-roll-CheckedQuery}
use Rattle.rs_checker.specs.declared.checked.CheckedQuery.TheVariants.{rolls-Table, rolls-Where, rolls-Dissolve, rolls-Rename, rolls-Overlay, rolls-Cover, rolls-Merge, rolls-Minus, rolls-Window, rolls-Transform, rolls-Gaps}
use Rattle.rs_checker.specs.declared.checked.CheckedQuery.TheOpen.{CheckedQuery-F}
use Rattle.rs_checker.specs.declared.operand.CheckedOperand.{CheckedOperand}
use Rattle.rs_checker.specs.CheckedView.{located_piece, located_pieces, named_step, named_in, named_table, named_by_window, named_by_piece}
use Rattle.rs_checker.specs.Numbers.{IsNumberedIn, AreNumberedIn}

every-append : {X : Type 0} (P : X → Type 0) (xs ys : List X) → AllByRecursion P xs → AllByRecursion P ys → AllByRecursion P (xs ++ ys)
every-append P [] ys a b = b
every-append P (x ∷ xs) ys a b = (a.0, every-append P xs ys a.1 b)

pub numbered-append : (definitions : Definitions) (xs ys : List Numbered) → AreNumberedIn definitions xs → AreNumberedIn definitions ys → AreNumberedIn definitions (xs ++ ys)
numbered-append definitions = every-append (IsNumberedIn definitions)

pub table-names : (table : CheckedTable) → named_in (code.Table table) ≡ named_table table ∷ []
table-names table = ap named_in (sym (rolls-Table table)) ∙ fold-roll-CheckedQuery (List Numbered) named_step (CheckedQuery-F.Table table)

module _ (operand : CheckedOperand) where
  pub where-names : (condition : Condition) → named_in (code.Where operand.query condition) ≡ named_in operand.query.value
  where-names condition = ap named_in (sym (rolls-Where operand.query condition)) ∙ fold-roll-CheckedQuery (List Numbered) named_step (CheckedQuery-F.Where operand.query condition)

  pub dissolve-names : (places : Vec ℕ Global) → named_in (code.Dissolve operand.query places) ≡ named_in operand.query.value
  dissolve-names places = ap named_in (sym (rolls-Dissolve operand.query places)) ∙ fold-roll-CheckedQuery (List Numbered) named_step (CheckedQuery-F.Dissolve operand.query places)

  pub rename-names : (place : ℕ) (name : ArrayString) → named_in (code.Rename operand.query place name) ≡ named_in operand.query.value
  rename-names place name = ap named_in (sym (rolls-Rename operand.query place name)) ∙ fold-roll-CheckedQuery (List Numbered) named_step (CheckedQuery-F.Rename operand.query place name)

  pub gaps-names : named_in (code.Gaps operand.query) ≡ named_in operand.query.value
  gaps-names = ap named_in (sym (rolls-Gaps operand.query)) ∙ fold-roll-CheckedQuery (List Numbered) named_step (CheckedQuery-F.Gaps operand.query)

  window-names : (window : LocatedWindow) → named_in (code.Window operand.query window) ≡ named_in operand.query.value ++ named_by_window window ∷ []
  window-names window = ap named_in (sym (rolls-Window operand.query window)) ∙ fold-roll-CheckedQuery (List Numbered) named_step (CheckedQuery-F.Window operand.query window)

  transform-names : (name : ArrayString) (pieces : Vec LocatedPiece Global) → named_in (code.Transform operand.query name pieces) ≡ named_in operand.query.value ++ flat_map named_by_piece pieces.items
  transform-names name pieces = ap named_in (sym (rolls-Transform operand.query name pieces)) ∙ fold-roll-CheckedQuery (List Numbered) named_step (CheckedQuery-F.Transform operand.query name pieces)

  pub window-numbered : (definitions : Definitions) (window : LocatedWindow) → IsNumberedIn definitions (named_by_window window)
      → AreNumberedIn definitions (named_in operand.query.value) → AreNumberedIn definitions (named_in (code.Window operand.query window))
  window-numbered definitions window numbered below =
      subst (AreNumberedIn definitions) (sym (window-names window)) (numbered-append definitions (named_in operand.query.value) (named_by_window window ∷ []) below (numbered, tt))

  pub transform-numbered : (definitions : Definitions) (name : ArrayString) (pieces : Vec LocatedPiece Global) → AreNumberedIn definitions (flat_map named_by_piece pieces.items)
      → AreNumberedIn definitions (named_in operand.query.value) → AreNumberedIn definitions (named_in (code.Transform operand.query name pieces))
  transform-numbered definitions name pieces numbered below =
      subst (AreNumberedIn definitions) (sym (transform-names name pieces)) (numbered-append definitions (named_in operand.query.value) (flat_map named_by_piece pieces.items) below numbered)

module _ (left right : CheckedOperand) where
  pub overlay-names : named_in (code.Overlay left.query right.query) ≡ named_in left.query.value ++ named_in right.query.value
  overlay-names = ap named_in (sym (rolls-Overlay left.query right.query)) ∙ fold-roll-CheckedQuery (List Numbered) named_step (CheckedQuery-F.Overlay left.query right.query)

  pub cover-names : (m n : ℕ) → named_in (code.Cover m n left.query right.query) ≡ named_in left.query.value ++ named_in right.query.value
  cover-names m n = ap named_in (sym (rolls-Cover m n left.query right.query)) ∙ fold-roll-CheckedQuery (List Numbered) named_step (CheckedQuery-F.Cover m n left.query right.query)

  pub merge-names : named_in (code.Merge left.query right.query) ≡ named_in left.query.value ++ named_in right.query.value
  merge-names = ap named_in (sym (rolls-Merge left.query right.query)) ∙ fold-roll-CheckedQuery (List Numbered) named_step (CheckedQuery-F.Merge left.query right.query)

  pub minus-names : named_in (code.Minus left.query right.query) ≡ named_in left.query.value ++ named_in right.query.value
  minus-names = ap named_in (sym (rolls-Minus left.query right.query)) ∙ fold-roll-CheckedQuery (List Numbered) named_step (CheckedQuery-F.Minus left.query right.query)

-- ---- pieces of alignments

pub piece-at : (routes : Names RouteEnds) (pieces : List Piece) (i : ℕ) (piece : Piece) → i < length pieces → piece ≡ get_or pieces i piece → ArePiecesOn routes (pieces_of pieces) → IsPieceOn routes (piece_of (piece_tree piece))
piece-at routes [] i piece below is lie = absurd (omega arith)
piece-at routes (first ∷ pieces) zero piece below is lie = subst (λ p. IsPieceOn routes (piece_of (piece_tree p))) (sym is) lie.0
piece-at routes (first ∷ pieces) (suc i) piece below is lie = piece-at routes pieces i piece (omega arith) is lie.1

pub pieces-more : (pieces : List Piece) (i : ℕ) (piece : Piece) → i < length pieces → piece ≡ get_or pieces i piece → (located : List LocatedPiece) (one : LocatedPiece)
    → located_pieces located ≡ pieces_of (take i pieces) → one.piece ≡ piece → located_pieces (located ++ one ∷ []) ≡ pieces_of (take (i + 1) pieces)
pieces-more pieces i piece below is located one same of =
    map-append located_piece located (one ∷ [])
    ∙ (λ j. same j ++ piece_of (piece_tree (of j)) ∷ [])
    ∙ sym (map-append (λ (p : Piece). piece_of (piece_tree p)) (take i pieces) (piece ∷ []))
    ∙ ap (λ p. pieces_of (take i pieces ++ p ∷ [])) is
    ∙ ap pieces_of (sym (take_more pieces i piece below))

pub pieces-numbered : (definitions : Definitions) (located : List LocatedPiece) (one : LocatedPiece) → AreNumberedIn definitions (flat_map named_by_piece located) → AreNumberedIn definitions (named_by_piece one)
    → AreNumberedIn definitions (flat_map named_by_piece (located ++ one ∷ []))
pieces-numbered definitions [] one so_far more = more
pieces-numbered definitions (first ∷ located) one so_far more = (so_far.0, (so_far.1.0, pieces-numbered definitions located one so_far.1.1 more))

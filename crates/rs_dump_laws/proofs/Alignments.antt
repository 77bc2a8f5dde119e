-- The alignments of a dump are accepted.
use Rattle.std.proofs.Common.{◌≡◌, ◌∙◌, ℕ, suc, ◌+◌, ◌-◌, ◌<◌, ◌≤◌, true, false, ◌&&◌, List, [], ◌∷◌, length, map, Ok, refl, ap, subst, arith}
use Rattle.std.specs.Prelude.{fold, nat_le, nat_lt}
use Rattle.std.specs.List.{AllByRecursion}
use Rattle.std.specs.FinMap as names
use Rattle.std.proofs.lemmas.Bool.{and_from, le-leb, lt-ltb}
use Rattle.rs_refusal.specs.declared.refusal.Refusal.TheVariants.{EmptySpan, Limit, NameTaken, NoSuchRoute, OutsideTheRoute}
use Rattle.rs_facts.specs.Fact.{Name, Names}
use Rattle.rs_facts.specs.Query.{Piece, RouteEnds}
use Rattle.rs_facts.specs.WellFormed.{ArePiecesOn, IsPieceOn}
use Rattle.rs_machine.specs.State.{State, has}
use Rattle.rs_machine.specs.Checks.{found, is_on_route, piece_checked, piece_lies, pieces_checked, unless}
use Rattle.rs_machine.specs.Lawful.{IsAlignment}
use Rattle.rs_machine.specs.Step.{may_change, with_alignment}
use Rattle.rs_machine.specs.declared.limits.TheConstants.{ALIGNMENTS, CHANGES, PIECES}
use Rattle.rs_dump_laws.specs.Accepted.{Accepted}
use Rattle.rs_dump_laws.specs.Dump.{alignment_command, written_piece}
use Rattle.rs_dump_laws.proofs.NamedThings.{AreNewNames, itself, put_all_named, room_for_first}
use Rattle.rs_dump_laws.proofs.Walks.{AreTaken, IsTaken, fails, holds, is_found, may, next_is, taken}

-- ---- pieces

on : (ends : RouteEnds) (k : ℕ) → ends.start ≤ k → k ≤ ends.finish → is_on_route ends k ≡ true
on ends k low high = and_from (nat_le ends.start k) (nat_le k ends.finish) (le-leb ends.start k low) (le-leb k ends.finish high)

lies : (routes : Names RouteEnds) (piece : Piece) (is : IsPieceOn routes piece) → piece_lies is.first is.second (written_piece piece) ≡ true
lies routes piece is =
    let a = is.from_start in let b = is.some in let c = is.upto_finish in let d = is.onto_start in let e = is.onto_finish in
    let first = is_on_route is.first in let second = is_on_route is.second in
    and_from (first piece.from && first piece.to && second piece.onto) (second (piece.onto + (piece.to - piece.from)))
    (and_from (first piece.from && first piece.to) (second piece.onto)
    (and_from (first piece.from) (first piece.to) (on is.first piece.from a (omega arith)) (on is.first piece.to (omega arith) c))
    (on is.second piece.onto d (omega arith)))
    (on is.second (piece.onto + (piece.to - piece.from)) (omega arith) e)

one_passes : (routes : Names RouteEnds) (piece : Piece) → IsPieceOn routes piece → piece_checked routes (written_piece piece) ≡ Ok piece
one_passes routes piece is =
    next_is (found _ NoSuchRoute) is.first _ (is_found (names.get routes piece.from_route) NoSuchRoute is.first is.first_there)
    ∙ next_is (found _ NoSuchRoute) is.second _ (is_found (names.get routes piece.onto_route) NoSuchRoute is.second is.second_there)
    ∙ next_is (unless _ OutsideTheRoute) tt _ (holds (piece_lies is.first is.second (written_piece piece)) OutsideTheRoute (lies routes piece is))
    ∙ next_is (unless _ EmptySpan) tt _ (holds (nat_lt piece.from piece.to) EmptySpan (lt-ltb piece.from piece.to is.some))

all_pass : (routes : Names RouteEnds) (pieces : List Piece) → ArePiecesOn routes pieces → pieces_checked routes (map written_piece pieces) ≡ Ok pieces
all_pass routes [] are = refl
all_pass routes (piece ∷ pieces) are =
    next_is (piece_checked routes (written_piece piece)) piece _ (one_passes routes piece are.0)
    ∙ next_is (pieces_checked routes (map written_piece pieces)) pieces _ (all_pass routes pieces are.1)

pub as_many_written : (pieces : List Piece) → length (map written_piece pieces) ≡ length pieces
as_many_written [] = refl
as_many_written (piece ∷ pieces) = ap suc (as_many_written pieces)

-- ---- alignments

abbrev put_alignment : State → (Name × List Piece) → State
put_alignment state alignment = with_alignment state alignment.0 alignment.1

abbrev with_alignments : State → Names (List Piece) → ℕ → State
with_alignments state alignments changes = record state { alignments = alignments; changes = changes }

one_taken : (state : State) (alignment : Name × List Piece) → has state.alignments alignment.0 ≡ false → IsAlignment state.routes alignment.0 alignment.1
    → names.len state.alignments < ALIGNMENTS → state.changes < CHANGES → IsTaken alignment_command put_alignment state alignment
one_taken state alignment new is few room =
    let many = as_many_written alignment.1 in let most = is.few in
    let written = map written_piece alignment.1 in (
      0,
      next_is (unless _ NameTaken) tt _ (fails (has state.alignments alignment.0) NameTaken new)
          ∙ next_is (unless _ Limit) tt _ (holds (nat_lt (names.len state.alignments) ALIGNMENTS && nat_le (length written) PIECES) Limit
          (and_from (nat_lt (names.len state.alignments) ALIGNMENTS) (nat_le (length written) PIECES) (lt-ltb (names.len state.alignments) ALIGNMENTS few) (le-leb (length written) PIECES (omega arith))))
          ∙ next_is (pieces_checked state.routes written) alignment.1 _ (all_pass state.routes alignment.1 is.lie)
          ∙ next_is (may_change state) tt _ (may state room),
    )

all_taken : (state : State) (list : List (Name × List Piece)) → AreNewNames itself state.alignments list → AllByRecursion (λ alignment. IsAlignment state.routes alignment.0 alignment.1) list
    → names.len (put_all_named itself state.alignments list) ≤ ALIGNMENTS → state.changes + length list ≤ CHANGES → AreTaken alignment_command put_alignment state list
all_taken state [] new are few room = tt
all_taken state (alignment ∷ more) new are few room = (
  one_taken state alignment new.0 are.0 (room_for_first itself state.alignments alignment more ALIGNMENTS new.0 few) (omega arith),
  all_taken (put_alignment state alignment) more new.1 are.1 few (omega arith),
)

after_all : (state : State) (list : List (Name × List Piece)) → fold put_alignment state list ≡ with_alignments state (put_all_named itself state.alignments list) (state.changes + length list)
after_all state [] = ap (with_alignments state state.alignments) (let e : state.changes ≡ state.changes + 0 = omega arith in e)
after_all state (alignment ∷ more) =
    after_all (put_alignment state alignment) more
    ∙ ap (with_alignments state (put_all_named itself state.alignments (alignment ∷ more))) (let e : state.changes + 1 + length more ≡ state.changes + length (alignment ∷ more) = omega arith in e)

pub alignments_accepted : (state : State) (list : List (Name × List Piece)) → AreNewNames itself state.alignments list → AllByRecursion (λ alignment. IsAlignment state.routes alignment.0 alignment.1) list
    → names.len (put_all_named itself state.alignments list) ≤ ALIGNMENTS → state.changes + length list ≤ CHANGES
    → Accepted state (map alignment_command list) (with_alignments state (put_all_named itself state.alignments list) (state.changes + length list))
alignments_accepted state list new are few room =
    subst (Accepted state (map alignment_command list)) (after_all state list) (taken alignment_command put_alignment state list (all_taken state list new are few room))

-- The checks of the pieces of an alignment, one after another, and the names of alignments.
use Rattle.std.proofs.Common.{◌≡◌, ℕ, ◌+◌, ◌-◌, ◌<◌, ◌≤◌, true, false, List, [], ◌∷◌, ◌++◌, length, map, drop, get_or, Option, Some, None, Result, Ok, Err, refl, sym, ap, subst, ◌∙◌}
use Rattle.std.specs.Prelude.{nat_lt}
use Rattle.std.specs.Option.{option_map}
use Rattle.std.specs.FinMap as names
use Rattle.std.proofs.lemmas.Bool.{lt-ltb, le-ltb}
use Rattle.std.proofs.lemmas.List.{at_drop_more, at_drop_all}
use Rattle.rs_refusal.specs.declared.refusal.Refusal.{Refusal}
use Rattle.rs_refusal.specs.declared.refusal.Refusal.TheVariants.{NoSuchRoute, NoSuchName, OutsideTheRoute, EmptySpan}
use Rattle.rs_facts.specs.Fact.{Name, Names}
use Rattle.rs_facts.specs.Query as model
use Rattle.rs_facts.specs.Query.{RouteEnds}
use Rattle.rs_facts.specs.WellFormed.{IsPieceOn, ArePiecesOn}
use Rattle.rs_facts.specs.Runs.{Stretch}
use Rattle.rs_syntax.specs.Tree.{PieceTree}
use Rattle.rs_syntax.specs.View.{piece_tree}
use Rattle.rs_syntax.specs.declared.commands.Piece.{Piece}
use Rattle.rs_machine.specs.State.{has}
use Rattle.rs_machine.specs.Checks.{◌>>=◌, unless, found, piece_lies, piece_of, piece_checked, pieces_checked}
use Rattle.rs_machine.specs.Checking as machine
use Rattle.rs_machine.proofs.PieceLaws.{lies_on}
use Rattle.rs_catalog.specs.Definitions.{RouteItem, Definitions, routes_of, pieces_of, state_from, Rest}
use Rattle.rs_catalog.proofs.StateLaws.{get-routes_of}
use Rattle.rs_checker.specs.Nodes.{alignments_there}

-- ---- names

pub aligned_append : (definitions : Definitions) (xs ys : List Name) → alignments_there definitions (xs ++ ys) ≡ (alignments_there definitions xs >>= (λ _. alignments_there definitions ys))
aligned_append definitions [] ys = refl
aligned_append definitions (x ∷ xs) ys =
    elim (has definitions.alignments x) as (λ b. (unless b NoSuchName >>= (λ _. alignments_there definitions (xs ++ ys))) ≡ ((unless b NoSuchName >>= (λ _. alignments_there definitions xs)) >>= (λ _. alignments_there definitions ys))) [
      | true ↦ aligned_append definitions xs ys
      | false ↦ refl
    ]

pub aligned_there : (definitions : Definitions) (on : ℕ → Names ℕ) (spans_on : ℕ → ℕ → List Stretch) (rest : Rest) (xs : List Name)
    → machine.alignments_known (state_from definitions on spans_on rest) xs ≡ alignments_there definitions xs
aligned_there definitions on spans_on rest [] = refl
aligned_there definitions on spans_on rest (x ∷ xs) = ap (λ r. unless (has definitions.alignments x) NoSuchName >>= (λ _. r)) (aligned_there definitions on spans_on rest xs)

-- ---- routes

ends_found : (o : Option RouteItem) (item : RouteItem) → found o NoSuchRoute ≡ Ok item → option_map (λ (item : RouteItem). item.ends) o ≡ Some item.ends
ends_found None item e = cc
ends_found (Some other) item e = let same : other ≡ item = cc in ap (λ (x : RouteItem). Some x.ends) same

ends_missing : (o : Option RouteItem) (refusal : Refusal) → found o NoSuchRoute ≡ Err refusal → found (option_map (λ (item : RouteItem). item.ends) o) NoSuchRoute ≡ Err refusal
ends_missing None refusal e = let same : NoSuchRoute ≡ refusal = cc in ap Err same
ends_missing (Some other) refusal e = cc

module _ (definitions : Definitions) (name : Name) where
  abbrev entry : Result RouteItem Refusal
  entry = found (names.get definitions.routes name) NoSuchRoute

  route_there : (item : RouteItem) → entry ≡ Ok item → names.get (routes_of definitions) name ≡ Some item.ends
  route_there item e = get-routes_of definitions name ∙ ends_found (names.get definitions.routes name) item e

  route_refused : (refusal : Refusal) → entry ≡ Err refusal → found (names.get (routes_of definitions) name) NoSuchRoute ≡ Err refusal
  route_refused refusal e = ap (λ o. found o NoSuchRoute) (get-routes_of definitions name) ∙ ends_missing (names.get definitions.routes name) refusal e

-- ---- one piece

module _ (definitions : Definitions) (piece : PieceTree) where
  abbrev Refused : Refusal → Type 0
  Refused refusal = piece_checked (routes_of definitions) piece ≡ Err refusal

  -- what is asked once the ends of both routes are found
  abbrev placed : RouteEnds → RouteEnds → Result model.Piece Refusal
  placed first second = unless (piece_lies first second piece) OutsideTheRoute >>= (λ _. unless (nat_lt piece.from piece.to) EmptySpan >>= (λ _. Ok (piece_of piece)))

  abbrev on_second : RouteEnds → Result model.Piece Refusal
  on_second first = found (names.get (routes_of definitions) piece.onto_route) NoSuchRoute >>= (λ second. placed first second)

  pub first_refused : (refusal : Refusal) → entry definitions piece.from_route ≡ Err refusal → Refused refusal
  first_refused refusal e = ap (λ r. r >>= (λ first. on_second first)) (route_refused definitions piece.from_route refusal e)

  module _ (first : RouteItem) (first_is : entry definitions piece.from_route ≡ Ok first) where
    to_second : piece_checked (routes_of definitions) piece ≡ on_second first.ends
    to_second = ap (λ o. found o NoSuchRoute >>= (λ first. on_second first)) (route_there definitions piece.from_route first first_is)

    pub second_refused : (refusal : Refusal) → entry definitions piece.onto_route ≡ Err refusal → Refused refusal
    second_refused refusal e = to_second ∙ ap (λ r. r >>= (λ second. placed first.ends second)) (route_refused definitions piece.onto_route refusal e)

    module _ (second : RouteItem) (second_is : entry definitions piece.onto_route ≡ Ok second) where
      to_places : piece_checked (routes_of definitions) piece ≡ placed first.ends second.ends
      to_places = to_second ∙ ap (λ o. found o NoSuchRoute >>= (λ second. placed first.ends second)) (route_there definitions piece.onto_route second second_is)

      pub outside : false ≡ piece_lies first.ends second.ends piece → Refused OutsideTheRoute
      outside e = to_places ∙ ap (λ b. unless b OutsideTheRoute >>= (λ _. unless (nat_lt piece.from piece.to) EmptySpan >>= (λ _. Ok (piece_of piece)))) (sym e)

      module _ (lies : true ≡ piece_lies first.ends second.ends piece) where
        to_span : piece_checked (routes_of definitions) piece ≡ (unless (nat_lt piece.from piece.to) EmptySpan >>= (λ _. Ok (piece_of piece)))
        to_span = to_places ∙ ap (λ b. unless b OutsideTheRoute >>= (λ _. unless (nat_lt piece.from piece.to) EmptySpan >>= (λ _. Ok (piece_of piece)))) (sym lies)

        pub empty : piece.to ≤ piece.from → Refused EmptySpan
        empty none = to_span ∙ ap (λ b. unless b EmptySpan >>= (λ _. Ok (piece_of piece))) (le-ltb piece.from piece.to none)

        pub passes : piece.from < piece.to → piece_checked (routes_of definitions) piece ≡ Ok (piece_of piece)
        passes some = to_span ∙ ap (λ b. unless b EmptySpan >>= (λ _. Ok (piece_of piece))) (lt-ltb piece.from piece.to some)

        pub piece_on_routes : piece.from < piece.to → IsPieceOn (routes_of definitions) (piece_of piece)
        piece_on_routes some =
            let places = lies_on first.ends second.ends piece.from piece.to piece.onto (piece.onto + (piece.to - piece.from)) (sym lies) in
            record {
              first = first.ends;
              second = second.ends;
              first_there = route_there definitions piece.from_route first first_is;
              second_there = route_there definitions piece.onto_route second second_is;
              from_start = places.0;
              some = some;
              upto_finish = places.1;
              onto_start = places.2;
              onto_finish = places.3;
            }

-- ---- all pieces

-- what is found of the pieces that are left decides of all
pub record IsPassed (routes : Names RouteEnds) (pieces left : List Piece) : Type 0 where
  pub ok : pieces_checked routes (map piece_tree left) ≡ Ok (pieces_of left) → pieces_checked routes (map piece_tree pieces) ≡ Ok (pieces_of pieces)
  pub lie : ArePiecesOn routes (pieces_of left) → ArePiecesOn routes (pieces_of pieces)
  pub refused : (refusal : Refusal) → pieces_checked routes (map piece_tree left) ≡ Err refusal → pieces_checked routes (map piece_tree pieces) ≡ Err refusal

pub none_passed : (routes : Names RouteEnds) (pieces : List Piece) → IsPassed routes pieces pieces
none_passed routes pieces = record { ok = λ e. e; lie = λ h. h; refused = λ refusal e. e }

module _ (routes : Names RouteEnds) (pieces : List Piece) (i : ℕ) (was : IsPassed routes pieces (drop i pieces)) where
  module _ (piece : Piece) (below : i < length pieces) (at : piece ≡ get_or pieces i piece) where
    abbrev rest : List Piece
    rest = drop (i + 1) pieces

    opened : IsPassed routes pieces (piece ∷ rest)
    opened = subst (IsPassed routes pieces) (at_drop_more (λ left. left) pieces i piece below ∙ ap (λ p. p ∷ rest) (sym at)) was

    abbrev others_of : model.Piece → Result (List model.Piece) Refusal
    others_of first = pieces_checked routes (map piece_tree rest) >>= (λ others. Ok (first ∷ others))

    pub piece_refused : (refusal : Refusal) → piece_checked routes (piece_tree piece) ≡ Err refusal → pieces_checked routes (map piece_tree pieces) ≡ Err refusal
    piece_refused refusal e = opened.refused refusal (ap (λ r. r >>= (λ first. others_of first)) e)

    pub one_passed : piece_checked routes (piece_tree piece) ≡ Ok (piece_of (piece_tree piece)) → IsPieceOn routes (piece_of (piece_tree piece)) → IsPassed routes pieces rest
    one_passed one lies = record {
      ok = λ e. opened.ok (ap (λ r. r >>= (λ first. others_of first)) one ∙ ap (λ r. r >>= (λ others. Ok (piece_of (piece_tree piece) ∷ others))) e);
      lie = λ h. opened.lie (lies, h);
      refused = λ refusal e. opened.refused refusal (ap (λ r. r >>= (λ first. others_of first)) one ∙ ap (λ r. r >>= (λ others. Ok (piece_of (piece_tree piece) ∷ others))) e);
    }

  pub all_passed : length pieces ≤ i → IsPassed routes pieces []
  all_passed past = subst (IsPassed routes pieces) (at_drop_all (λ left. left) pieces i past) was

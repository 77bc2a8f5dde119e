-- A test of the queries of all views, view by view, and of the pieces of all alignments.
use Rattle.std.proofs.Common.{◌≡◌, ℕ, ◌+◌, ◌<◌, ◌≤◌, Bool, true, false, ◌||◌, List, ◌∷◌, length, drop, get_or, sym, ap, ◌∙◌}
use Rattle.std.proofs.lemmas.List.{at_drop_more, at_drop_all}
use Rattle.std.specs.List.{list_any}
use Rattle.std.specs.FinMap as names
use Rattle.arrayvec.specs.ArrayString.{ArrayString}
use Rattle.rs_facts.specs.Fact.{Name}
use Rattle.rs_facts.specs.Query as model
use Rattle.rs_facts.proofs.RowSets.{any-map}
use Rattle.rs_syntax.specs.QueryView.{query_tree}
use Rattle.rs_syntax.specs.Tree.{QueryTree}
use Rattle.rs_syntax.specs.View.{piece_tree}
use Rattle.rs_syntax.specs.declared.commands.Piece.{Piece}
use Rattle.rs_machine.specs.Checks.{piece_of}
use Rattle.rs_machine.specs.Opening.{piece_on}
use Rattle.rs_catalog.specs.Names.{entries_by_bytes}
use Rattle.rs_catalog.specs.Definitions.{ViewItem, Definitions, pieces_of}
use Rattle.rs_catalog.specs.Uses.{some_view_query, some_piece_on}
use Rattle.rs_catalog.proofs.Names.{entries-map_values}

abbrev pub Entries : Type 0
Entries = List (ArrayString × ViewItem)

abbrev pub some_query : (QueryTree → Bool) → Entries → Bool
some_query test views = list_any (λ view. test (query_tree view.1.query)) views

module _ (test : QueryTree → Bool) where
  -- the test of all views is that of their entries
  pub some_view-entries : (definitions : Definitions) (views : Entries) → entries_by_bytes (λ view. view) views ≡ names.entries definitions.views → some_view_query definitions test ≡ some_query test views
  some_view-entries definitions views are =
      ap (list_any (λ view. test view.1)) (entries-map_values (λ (item : ViewItem). query_tree item.query) definitions.views)
      ∙ any-map (λ view. test view.1) (λ e. (e.0, query_tree e.1.query)) (names.entries definitions.views)
      ∙ ap (list_any (λ e. test (query_tree e.1.query))) (sym are)
      ∙ any-map (λ e. test (query_tree e.1.query)) (λ e. (e.0.bytes, e.1)) views

  module _ (all views rest : Entries) (name : ArrayString) (view : ViewItem) where
    -- a view of which it is so decides
    pub query_found : some_query test views ≡ some_query test all → views ≡ (name, view) ∷ rest → true ≡ test (query_tree view.query) → true ≡ some_query test all
    query_found left next is = ap (λ b. b || some_query test rest) is ∙ ap (some_query test) (sym next) ∙ left

    -- else those that are left do
    pub query_passed : some_query test views ≡ some_query test all → views ≡ (name, view) ∷ rest → false ≡ test (query_tree view.query) → some_query test rest ≡ some_query test all
    query_passed left next is = ap (λ b. b || some_query test rest) is ∙ ap (some_query test) (sym next) ∙ left

-- ---- pieces

abbrev pub Alignments : Type 0
Alignments = List (ArrayString × List model.Piece)

abbrev pub some_aligned : Name → Alignments → Bool
some_aligned route alignments = list_any (λ alignment. list_any (piece_on route) alignment.1) alignments

abbrev pub some_of_pieces : Name → List Piece → Bool
some_of_pieces route pieces = list_any (piece_on route) (pieces_of pieces)

module _ (route : Name) where
  -- the test of all alignments is that of their entries
  pub some_piece-entries : (definitions : Definitions) (alignments : Alignments) → entries_by_bytes (λ alignment. alignment) alignments ≡ names.entries definitions.alignments
      → some_piece_on definitions route ≡ some_aligned route alignments
  some_piece-entries definitions alignments are =
      ap (list_any (λ alignment. list_any (piece_on route) alignment.1)) (sym are)
      ∙ any-map (λ alignment. list_any (piece_on route) alignment.1) (λ e. (e.0.bytes, e.1)) alignments

  module _ (all alignments rest : Alignments) (name : ArrayString) (pieces : List model.Piece) where
    -- an alignment of which it is so decides
    pub aligned_found : some_aligned route alignments ≡ some_aligned route all → alignments ≡ (name, pieces) ∷ rest → true ≡ list_any (piece_on route) pieces → true ≡ some_aligned route all
    aligned_found left next is = ap (λ b. b || some_aligned route rest) is ∙ ap (some_aligned route) (sym next) ∙ left

    -- else those that are left do
    pub aligned_passed : some_aligned route alignments ≡ some_aligned route all → alignments ≡ (name, pieces) ∷ rest → false ≡ list_any (piece_on route) pieces → some_aligned route rest ≡ some_aligned route all
    aligned_passed left next is = ap (λ b. b || some_aligned route rest) is ∙ ap (some_aligned route) (sym next) ∙ left

  module _ (pieces : List Piece) (i : ℕ) (item : Piece) (left : some_of_pieces route pieces ≡ some_of_pieces route (drop i pieces)) (below : i < length pieces) (at : item ≡ get_or pieces i item) where
    next_piece : (b : Bool) → b ≡ piece_on route (piece_of (piece_tree item)) → some_of_pieces route pieces ≡ (b || some_of_pieces route (drop (i + 1) pieces))
    next_piece b is =
        left ∙ at_drop_more (some_of_pieces route) pieces i item below ∙ ap (λ p. some_of_pieces route (p ∷ drop (i + 1) pieces)) (sym at)
        ∙ ap (λ b. b || some_of_pieces route (drop (i + 1) pieces)) (sym is)

    -- a piece that lies on it decides
    pub piece_found : (b : Bool) → b ≡ piece_on route (piece_of (piece_tree item)) → b ≡ true → true ≡ some_of_pieces route pieces
    piece_found b is so = sym (next_piece b is ∙ ap (λ b. b || some_of_pieces route (drop (i + 1) pieces)) so)

    pub piece_passed : (b : Bool) → b ≡ piece_on route (piece_of (piece_tree item)) → b ≡ false → some_of_pieces route pieces ≡ some_of_pieces route (drop (i + 1) pieces)
    piece_passed b is so = next_piece b is ∙ ap (λ b. b || some_of_pieces route (drop (i + 1) pieces)) so

  pub pieces_end : (pieces : List Piece) (i : ℕ) → some_of_pieces route pieces ≡ some_of_pieces route (drop i pieces) → length pieces ≤ i → false ≡ some_of_pieces route pieces
  pieces_end pieces i left past = sym (left ∙ at_drop_all (some_of_pieces route) pieces i past)

-- The entries between two bounds that begin with a value, and the cells that have it.
use Rattle.std.proofs.Common.{◌≡◌, ℕ, Bool, true, false, not, ◌&&◌, cond, List, [], ◌∷◌, ◌++◌, length, drop, map, filter, refl, sym, ap, ◌∙◌, subst, arith}
use Rattle.std.proofs.lemmas.Bool.{and_parts, false≢true}
use Rattle.std.proofs.lemmas.Cmp.{tied_itself}
use Rattle.std.proofs.lemmas.List.{drop_at, length-map}
use Rattle.std.proofs.lemmas.List.Sums.{length-filter}
use Rattle.std.specs.Cmp.Lexicographic.{slice_cmp, nat_list_cmp_total}
use Rattle.std.specs.FinMap.{nat_cmp-IsAntisymmetric, slice_cmp-IsAntisymmetric}
use Rattle.std.specs.List.{AllByRecursion, count_by}
use Rattle.std.specs.List.Sorted.{IsPermutation}
use Rattle.std.specs.Ordering.{nat_cmp, ordering_then, is_eq, is_lt}
use Rattle.std.specs.Prelude.{IsTrue}
use Rattle.std.specs.declared.cmp.Ordering.{Ordering}
use Rattle.std.specs.declared.cmp.Ordering.TheVariants.{Less, Equal, Greater}
use Rattle.rs_file.specs.Entries.{Field, entry_of, value_in}
use Rattle.rs_file.proofs.Within.{ascends_once, has}
use Rattle.rs_records.specs.Order.{is_below, Ascends}
use Rattle.rs_tree.specs.Cells.{cells_within, is_within}
use Rattle.rs_tree_insert.proofs.Ascending.{ascends_filter}
use Rattle.rs_versioned.proofs.Shuffles.{IsPermutation-filter}

then_assoc : (r s o : Ordering) → ordering_then (ordering_then r s) o ≡ ordering_then r (ordering_then s o)
then_assoc Less s o = refl
then_assoc Equal s o = refl
then_assoc Greater s o = refl

-- what begins with as many bytes is ordered by these, and then by the rest
beside_cmp : (a b c d : List ℕ) → length a ≡ length b → slice_cmp nat_cmp (a ++ c) (b ++ d) ≡ ordering_then (slice_cmp nat_cmp a b) (slice_cmp nat_cmp c d)
beside_cmp [] [] c d wide = refl
beside_cmp [] (y ∷ b) c d wide = absurd (omega arith)
beside_cmp (x ∷ a) [] c d wide = absurd (omega arith)
beside_cmp (x ∷ a) (y ∷ b) c d wide =
    ap (ordering_then (nat_cmp x y)) (beside_cmp a b c d (omega arith)) ∙ sym (then_assoc (nat_cmp x y) (slice_cmp nat_cmp a b) (slice_cmp nat_cmp c d))

below_beside : (a b c d : List ℕ) → length a ≡ length b → is_below (a ++ c) (b ++ d) ≡ is_lt (ordering_then (slice_cmp nat_cmp a b) (slice_cmp nat_cmp c d))
unfolding is_below
below_beside a b c d wide = ap is_lt (beside_cmp a b c d wide)

below_same : (front a b : List ℕ) → is_below (front ++ a) (front ++ b) ≡ is_below a b
unfolding is_below
below_same front a b = below_beside front front a b refl ∙ ap (λ (o : Ordering). is_lt (ordering_then o (slice_cmp nat_cmp a b))) (tied_itself nat_list_cmp_total front)

-- the same bytes in front of each of some cells
abbrev fronted : List ℕ → List (List ℕ) → List (List ℕ)
fronted front = map (λ (cell : List ℕ). front ++ cell)

fronted_above : (front cell : List ℕ) (cells : List (List ℕ)) → AllByRecursion (λ other. IsTrue (is_below cell other)) cells
    → AllByRecursion (λ other. IsTrue (is_below (front ++ cell) other)) (fronted front cells)
fronted_above front cell [] all = tt
fronted_above front cell (c ∷ cs) all = (below_same front cell c ∙ all.0, fronted_above front cell cs all.1)

fronted_ascends : (front : List ℕ) (cells : List (List ℕ)) → Ascends cells → Ascends (fronted front cells)
fronted_ascends front [] up = tt
fronted_ascends front (c ∷ cs) up = (fronted_above front c cs up.0, fronted_ascends front cs up.1)

fronted_back : (front : List ℕ) (wide : ℕ) (cells : List (List ℕ)) → length front ≡ wide → map (drop wide) (fronted front cells) ≡ cells
fronted_back front wide [] size = refl
fronted_back front wide (c ∷ cs) size =
    ap (λ (l : List ℕ). l ∷ map (drop wide) (fronted front cs)) (drop_at front c wide size) ∙ ap (λ (l : List (List ℕ)). c ∷ l) (fronted_back front wide cs size)

filter_all : (cells : List (List ℕ)) → filter (λ _. true) cells ≡ cells
filter_all [] = refl
filter_all (c ∷ cs) = ap (λ (l : List (List ℕ)). c ∷ l) (filter_all cs)

module _ (field : Field) (bytes low high : List ℕ) where
  -- the cell has these bytes in the field, and lies between the bounds
  abbrev pub is_between : List ℕ → Bool
  is_between cell = has field bytes cell && is_within low high cell

  -- its value has as many bytes as the one that is searched
  abbrev pub AreWide : List (List ℕ) → Type 0
  AreWide = AllByRecursion (λ (cell : List ℕ). length (value_in field cell) ≡ length bytes)

  entry_within : (cell : List ℕ) → length (value_in field cell) ≡ length bytes → is_within (bytes ++ low) (bytes ++ high) (entry_of field cell) ≡ is_between cell
  unfolding is_below
  entry_within cell wide =
      let order : Ordering = slice_cmp nat_cmp (value_in field cell) bytes in
      ap (λ (b : Bool). not b && is_below (entry_of field cell) (bytes ++ high)) (below_beside (value_in field cell) bytes cell low wide)
      ∙ ap (λ (b : Bool). not (is_lt (ordering_then order (slice_cmp nat_cmp cell low))) && b) (below_beside (value_in field cell) bytes cell high wide)
      ∙ by_order order (slice_cmp nat_cmp cell low) (slice_cmp nat_cmp cell high) where
        by_order : (o p q : Ordering) → (not (is_lt (ordering_then o p)) && is_lt (ordering_then o q)) ≡ (is_eq o && (not (is_lt p) && is_lt q))
        by_order Less p q = refl
        by_order Equal p q = refl
        by_order Greater p q = refl

  same_bytes : (cell : List ℕ) → has field bytes cell ≡ true → value_in field cell ≡ bytes
  same_bytes cell is = by_order (slice_cmp nat_cmp (value_in field cell) bytes) refl is where
    by_order : (o : Ordering) → slice_cmp nat_cmp (value_in field cell) bytes ≡ o → is_eq o ≡ true → value_in field cell ≡ bytes
    by_order Less e holds = absurd (false≢true holds)
    by_order Equal e holds = slice_cmp-IsAntisymmetric nat_cmp-IsAntisymmetric (value_in field cell) bytes e
    by_order Greater e holds = absurd (false≢true holds)

  -- the entries between the bounds are those of the cells that have the bytes
  entries_within : (cells : List (List ℕ)) → AreWide cells → cells_within (bytes ++ low) (bytes ++ high) (map (entry_of field) cells) ≡ fronted bytes (filter is_between cells)
  entries_within [] all = refl
  entries_within (c ∷ cs) all =
      ap (λ (b : Bool). cond b (entry_of field c ∷ cells_within (bytes ++ low) (bytes ++ high) (map (entry_of field) cs)) (cells_within (bytes ++ low) (bytes ++ high) (map (entry_of field) cs))) (entry_within c all.0)
      ∙ ap (λ (l : List (List ℕ)). cond (is_between c) (entry_of field c ∷ l) l) (entries_within cs all.1) ∙ by_test (is_between c) refl where
        by_test : (b : Bool) → is_between c ≡ b
            → cond b (entry_of field c ∷ fronted bytes (filter is_between cs)) (fronted bytes (filter is_between cs)) ≡ fronted bytes (cond b (c ∷ filter is_between cs) (filter is_between cs))
        by_test true is = ap (λ (l : List ℕ). (l ++ c) ∷ fronted bytes (filter is_between cs)) (same_bytes c (and_parts (has field bytes c) (is_within low high c) is).0)
        by_test false isnt = refl

  module _ (cells entries found : List (List ℕ)) (up : Ascends cells) (rise : Ascends entries) (all : AreWide cells) (are : IsPermutation entries (map (entry_of field) cells))
      (is : found ≡ filter (λ _. true) (cells_within (bytes ++ low) (bytes ++ high) entries)) where
    -- whatever the order of the entries was
    found_are : found ≡ fronted bytes (filter is_between cells)
    found_are =
        let kept : IsPermutation (cells_within (bytes ++ low) (bytes ++ high) entries) (fronted bytes (filter is_between cells)) =
        subst (λ (l : List (List ℕ)). IsPermutation (cells_within (bytes ++ low) (bytes ++ high) entries) l) (entries_within cells all)
        (IsPermutation-filter (is_within (bytes ++ low) (bytes ++ high)) entries (map (entry_of field) cells) are) in
        is ∙ filter_all (cells_within (bytes ++ low) (bytes ++ high) entries)
        ∙ ascends_once (cells_within (bytes ++ low) (bytes ++ high) entries) (fronted bytes (filter is_between cells)) (ascends_filter (is_within (bytes ++ low) (bytes ++ high)) entries rise)
        (fronted_ascends bytes (filter is_between cells) (ascends_filter is_between cells up)) kept

    -- the entries that were found are as many as the cells with the bytes
    pub found_count : length found ≡ count_by is_between cells
    found_count = ap (λ (l : List (List ℕ)). length l) found_are ∙ length-map (filter is_between cells) (λ (cell : List ℕ). bytes ++ cell) ∙ length-filter is_between cells

    -- and without the bytes in front they are these cells
    pub found_cells : (wide : ℕ) → length bytes ≡ wide → map (drop wide) found ≡ filter is_between cells
    found_cells wide size = ap (λ (l : List (List ℕ)). map (drop wide) l) found_are ∙ fronted_back bytes wide (filter is_between cells) size

-- The entries of a tree, beside the cells that have them.
use Rattle.std.proofs.Common.{◌≡◌, ℕ, suc, true, List, [], ◌∷◌, IsTrue, length, map, refl, sym, ◌∙◌, subst, inl, inr, arith}
use Rattle.std.proofs.lemmas.Bool.{false≢true}
use Rattle.std.proofs.lemmas.List.{length-map}
use Rattle.std.proofs.lemmas.List.Sorted.{Contains-permutation, IsPermutation-cons, IsPermutation-refl, IsPermutation-sym, IsPermutation-trans, IsPermutation-middle, length_permutation}
use Rattle.std.specs.List.{AllByRecursion, Contains}
use Rattle.std.specs.List.Sorted.{IsPermutation}
use Rattle.rs_attr.specs.Entries.{AreCells, Field, HoldsIndex, entry_of, index_form}
use Rattle.rs_attr.specs.Opening.{HasEntries, HasSoMany, LacksEntries}
use Rattle.rs_attr.proofs.Entering.{TellsApart}
use Rattle.rs_attr.proofs.Indexes.{entries_apart}
use Rattle.rs_pages.specs.PageMap.{PageMap}
use Rattle.rs_records.specs.Order.{is_below, Ascends}
use Rattle.rs_records.proofs.Orders.{is_below-self}
use Rattle.rs_tree.specs.Tree.{IsNoTree, IsTree}
use Rattle.rs_cell_versions.proofs.Among.{first_or_rest}

-- one of some is first, and then the others
moved_out : (xs : List (List ℕ)) (x : List ℕ) → Contains xs x → (others : List (List ℕ)) × IsPermutation xs (x ∷ others)
moved_out [] x has = absurd (omega (arith, has.1))
moved_out (y ∷ ys) x has = elim (first_or_rest x y ys has) [
  | inl same ↦ (ys, subst (λ (z : List ℕ). IsPermutation (y ∷ ys) (z ∷ ys)) same (IsPermutation-refl (y ∷ ys)))
  | inr rest ↦
      let more = moved_out ys x rest in
      (y ∷ more.0, IsPermutation-trans (y ∷ ys) (y ∷ x ∷ more.0) (x ∷ y ∷ more.0) (IsPermutation-cons y ys (x ∷ more.0) more.1) (IsPermutation-middle (y ∷ []) x more.0))
]

module _ (image : List ℕ → List ℕ) (width : ℕ) (apart : TellsApart image width) where
  -- without the entry of a cell below them the cells have theirs still
  have_others : (cell : List ℕ) (others : List (List ℕ)) → length cell ≡ width → (cells : List (List ℕ)) → AllByRecursion (λ c. length c ≡ width) cells
      → AllByRecursion (λ other. IsTrue (is_below cell other)) cells → AllByRecursion (λ c. Contains (image cell ∷ others) (image c)) cells → AllByRecursion (λ c. Contains others (image c)) cells
  have_others cell others long [] wide all have = tt
  have_others cell others long (c ∷ cs) wide all have = (
    elim (first_or_rest (image c) (image cell) others have.0) [
      | inl same ↦ absurd (false≢true (sym (is_below-self cell) ∙ subst (λ (x : List ℕ). is_below cell x ≡ true) (sym (apart.each cell c long wide.0 same)) all.0))
      | inr rest ↦ rest
    ],
    have_others cell others long cs wide.1 all.1 have.1,
  )

  have_moved : (entries moved : List (List ℕ)) → IsPermutation entries moved → (cells : List (List ℕ)) → AllByRecursion (λ c. Contains entries (image c)) cells
      → AllByRecursion (λ c. Contains moved (image c)) cells
  have_moved entries moved same [] have = tt
  have_moved entries moved same (c ∷ cs) have = (Contains-permutation entries moved (image c) same have.0, have_moved entries moved same cs have.1)

  -- as many entries as there are cells, which each have theirs, are just those of the cells
  pub are_all : (cells entries : List (List ℕ)) → AllByRecursion (λ c. length c ≡ width) cells → Ascends cells → length entries ≡ length cells
      → AllByRecursion (λ c. Contains entries (image c)) cells → IsPermutation entries (map image cells)
  are_all [] [] wide up many have = IsPermutation-refl []
  are_all [] (e ∷ es) wide up many have = absurd (omega (arith, many))
  are_all (c ∷ cs) entries wide up many have =
      let out = moved_out entries (image c) have.0 in
      let others : List (List ℕ) = out.0 in
      let moved : IsPermutation entries (image c ∷ others) = out.1 in
      let left : AllByRecursion (λ d. Contains others (image d)) cs = have_others c others wide.0 cs wide.1 up.0 (have_moved entries (image c ∷ others) moved cs have.1) in
      let rest : IsPermutation others (map image cs) = are_all cs others wide.1 up.1 (omega (arith, many, length_permutation entries (image c ∷ others) moved)) left in
      IsPermutation-trans entries (image c ∷ others) (image c ∷ map image cs) moved (IsPermutation-cons (image c) others (map image cs) rest)

-- the images of cells have each of them
have_images : (image : List ℕ → List ℕ) (entries cells : List (List ℕ)) → ((x : List ℕ) → Contains (map image cells) x → Contains entries x) → AllByRecursion (λ c. Contains entries (image c)) cells
have_images image entries [] all = tt
have_images image entries (c ∷ cs) all = (all (image c) (0, omega arith, refl), have_images image entries cs (λ x has. all x (suc has.0, omega (arith, has.1), has.2)))

pub index_of_as_many : (field : Field) (pages : PageMap) (root count : ℕ) (cells entries : List (List ℕ)) (used : ℕ → ℕ) → AreCells field.cell_width cells
    → IsTree (index_form field) pages root entries used → HasSoMany field pages root count → count ≡ length cells
    → HasEntries field pages root cells → HoldsIndex field pages root cells used
index_of_as_many field pages root count cells entries used cells_are tree counted many have = record {
  entries = entries;
  tree = tree;
  are = are_all (entry_of field) field.cell_width (entries_apart field) cells entries cells_are.wide cells_are.ascend (sym (counted.each entries used tree) ∙ many) (have.each entries used tree);
}

pub index_as_many : (field : Field) (pages : PageMap) (root count : ℕ) (cells : List (List ℕ)) (used : ℕ → ℕ) → HoldsIndex field pages root cells used
    → HasSoMany field pages root count → count ≡ length cells
index_as_many field pages root count cells used index counted =
    counted.each index.entries used index.tree ∙ sym (length_permutation index.entries (map (entry_of field) cells) index.are) ∙ length-map cells (entry_of field)

pub index_entries : (field : Field) (pages : PageMap) (root : ℕ) (cells : List (List ℕ)) (used : ℕ → ℕ) → HoldsIndex field pages root cells used
    → LacksEntries field pages root cells → ⊥
index_entries field pages root cells used index lacks =
    lacks.none index.entries used index.tree (have_images (entry_of field) index.entries cells
    (λ x. Contains-permutation (map (entry_of field) cells) index.entries x (IsPermutation-sym index.entries (map (entry_of field) cells) index.are)))

-- where no tree stands, no cells have entries
pub no_tree_lacks : (field : Field) (pages : PageMap) (root : ℕ) (cells : List (List ℕ)) → IsNoTree (index_form field) pages root → LacksEntries field pages root cells
no_tree_lacks field pages root cells none = record { none = λ entries used tree have. none.none entries used tree }

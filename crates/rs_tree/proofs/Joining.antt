-- Summaries of joined lists of cells.
use Rattle.std.proofs.Common.{◌≡◌, ◌<◌, ◌+◌, ℕ, suc, Some, List, [], ◌∷◌, ◌++◌, length, take, drop, slice_get, sym, ap, ◌∙◌, arith}
use Rattle.std.specs.List.{AllZip, flat_map}
use Rattle.rs_tree.specs.Content.{Child, SaysChild}
use Rattle.rs_tree.specs.Form.{joined, form_of, child_bytes}
use Rattle.rs_tree.proofs.Lists.{take_next, inside_has, has_inside, zip_at, zip_lengths, flat_push}

module _ {S : Type 0} (unit : S) (join : S → S → S) (of : List ℕ → S)
    (assoc : (one two three : S) → join (join one two) three ≡ join one (join two three)) (first : (one : S) → join unit one ≡ one) (last : (one : S) → join one unit ≡ one) where
  abbrev all : List (List ℕ) → S
  all = joined unit join of

  -- the summary of two lists is that of the first joined with that of the second
  pub joined-append : (xs ys : List (List ℕ)) → all (xs ++ ys) ≡ join (all xs) (all ys)
  joined-append [] ys = sym (first (all ys))
  joined-append (x ∷ xs) ys = ap (join (of x)) (joined-append xs ys) ∙ sym (assoc (of x) (all xs) (all ys))

  -- one more cell
  pub joined_next : (cells : List (List ℕ)) (index : ℕ) (cell : List ℕ) (now : S) → slice_get cells index ≡ Some cell → now ≡ all (take index cells) → join now (of cell) ≡ all (take (index + 1) cells)
  joined_next cells index cell now there was =
      let more : suc index ≡ index + 1 = omega arith in
      ap (λ s. join s (of cell)) was ∙ ap (join (all (take index cells))) (sym (last (of cell)))
      ∙ sym (joined-append (take index cells) (cell ∷ []))
      ∙ ap all (sym (take_next cells index cell there)) ∙ ap (λ n. all (take n cells)) more

  module _ (says : List ℕ → S → Type 0) (summary width : ℕ) where
    -- one more child
    pub joined_child : (entries : List (List ℕ)) (children : List Child) (index : ℕ) (entry : List ℕ) (now read : S) → AllZip (SaysChild (form_of says unit join of summary width)) entries children
        → slice_get entries index ≡ Some entry → ((s : S) → says (take summary (drop child_bytes entry)) s → read ≡ s)
        → now ≡ all (flat_map (λ child. child.cells) (take index children)) → join now read ≡ all (flat_map (λ child. child.cells) (take (index + 1) children))
    joined_child entries children index entry now read zip there reads was =
        let inside : index < length children = omega (arith, has_inside entries index entry there, zip_lengths (SaysChild (form_of says unit join of summary width)) entries children zip) in
        let child = inside_has children index inside in
        let told = zip_at (SaysChild (form_of says unit join of summary width)) entries children index entry child.0 zip there child.1 in
        let same : read ≡ all child.0.cells = reads (all child.0.cells) told.summary in
        let more : suc index ≡ index + 1 = omega arith in
        ap (λ s. join s read) was ∙ ap (join (all (flat_map (λ child. child.cells) (take index children)))) same
        ∙ sym (joined-append (flat_map (λ child. child.cells) (take index children)) child.0.cells)
        ∙ ap all (sym (flat_push (λ (c : Child). c.cells) (take index children) child.0))
        ∙ ap (λ cs. all (flat_map (λ child. child.cells) cs)) (sym (take_next children index child.0 child.1))
        ∙ ap (λ n. all (flat_map (λ child. child.cells) (take n children))) more

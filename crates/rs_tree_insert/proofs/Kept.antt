-- Cells in the place of others of which the same is said.
use Rattle.std.proofs.Common.{◌≡◌, ℕ, List, [], ◌∷◌, ◌++◌, take, drop, map, slice_get, refl, sym, ap, ◌∙◌, subst, append_assoc}
use Rattle.std.proofs.lemmas.List.{append-nil}
use Rattle.std.specs.List.{AllZip, flat_map}
use Rattle.rs_page.specs.Number.{number_at}
use Rattle.rs_tree.specs.Form.{Form, joined, child_bytes}
use Rattle.rs_tree.specs.Content.{SaysChild}
use Rattle.rs_tree.specs.Shape.{Shape, page_of, cells_of, child_of}
use Rattle.rs_tree.proofs.Joining.{joined-append}
use Rattle.rs_tree_insert.specs.Inserting.{Exchanges}

regroup : (before b xs a after : List (List ℕ)) → before ++ ((b ++ (xs ++ a)) ++ after) ≡ (before ++ b) ++ (xs ++ (a ++ after))
regroup before b xs a after =
    ap (λ zs. before ++ zs) (append_assoc b (xs ++ a) after ∙ ap (λ zs. b ++ zs) (append_assoc xs a after)) ∙ sym (append_assoc before b (xs ++ (a ++ after)))

same_first : (b xs ys a : List (List ℕ)) → slice_get ys 0 ≡ slice_get xs 0 → slice_get (b ++ (ys ++ a)) 0 ≡ slice_get (b ++ (xs ++ a)) 0
same_first (c ∷ cs) xs ys a e = refl
same_first [] [] [] a e = refl
same_first [] [] (y ∷ ys) a e = absurd (cc)
same_first [] (x ∷ xs) [] a e = absurd (cc)
same_first [] (x ∷ xs) (y ∷ ys) a e = e

-- lists of cells of one summary have one among others too
pub joined_between : {S : Type 0} (unit : S) (join : S → S → S) (of : List ℕ → S) → ((one two three : S) → join (join one two) three ≡ join one (join two three)) → ((one : S) → join unit one ≡ one) → ((one : S) → join one unit ≡ one)
    → (before cells others after : List (List ℕ)) → joined unit join of cells ≡ joined unit join of others → joined unit join of (before ++ (cells ++ after)) ≡ joined unit join of (before ++ (others ++ after))
joined_between unit join of assoc first last before cells others after same =
    joined-append unit join of assoc first last before (cells ++ after)
    ∙ ap (join (joined unit join of before))
    (joined-append unit join of assoc first last cells after ∙ ap (λ s. join s (joined unit join of after)) same ∙ sym (joined-append unit join of assoc first last others after))
    ∙ sym (joined-append unit join of assoc first last before (others ++ after))

module _ (form : Form) where
  -- also among others
  pub exchanged : (b xs ys a : List (List ℕ)) → Exchanges form xs ys → Exchanges form (b ++ (xs ++ a)) (b ++ (ys ++ a))
  exchanged b xs ys a one = record {
    says = λ before after bytes said.
        subst (form.says bytes) (sym (regroup before b ys a after)) (one.says (before ++ b) (a ++ after) bytes (subst (form.says bytes) (regroup before b xs a after) said));
    least = same_first b xs ys a one.least;
  }

  module _ (entry : List ℕ) (number : ℕ) (xs ys : List (List ℕ)) where
    -- what says the ones says the others
    pub said_with : Exchanges form xs ys → SaysChild form entry (record { page = number; cells = xs }) → SaysChild form entry (record { page = number; cells = ys })
    said_with one said = record {
      page = said.page;
      summary = subst (form.says (take form.summary (drop child_bytes entry))) (append-nil ys)
          (one.says [] [] (take form.summary (drop child_bytes entry)) (subst (form.says (take form.summary (drop child_bytes entry))) (sym (append-nil xs)) said.summary));
      least = one.least ∙ said.least;
    }

    -- and what an entry says both of
    pub both_said : ((cells others : List (List ℕ)) → form.says (take form.summary (drop child_bytes entry)) cells → form.says (take form.summary (drop child_bytes entry)) others
        → (before after : List (List ℕ)) (bytes : List ℕ) → form.says bytes (before ++ (cells ++ after)) → form.says bytes (before ++ (others ++ after)))
        → SaysChild form entry (record { page = number; cells = xs }) → SaysChild form entry (record { page = number; cells = ys }) → Exchanges form xs ys
    both_said same one other = record { says = same xs ys one.summary other.summary; least = other.least ∙ sym one.least }

  module _ (height : ℕ) (entry : List ℕ) (cells : List (List ℕ)) where
    -- the one part that an entry says
    pub said_one : (parts : List (Shape height)) → AllZip (SaysChild form) (entry ∷ []) (map (child_of height) parts) → flat_map (cells_of height) parts ≡ cells
        → SaysChild form entry (record { page = number_at 0 4 entry; cells = cells })
    said_one [] said lists = absurd said
    said_one (x ∷ []) said lists =
        subst (λ cs. SaysChild form entry (record { page = number_at 0 4 entry; cells = cs })) (sym (append-nil (cells_of height x)) ∙ lists)
        (record { page = refl; summary = said.0.summary; least = said.0.least })
    said_one (x ∷ y ∷ ys) said lists = absurd said.1

    pub one_said : (parts : List (Shape height)) → map (page_of height) parts ≡ number_at 0 4 entry ∷ [] → flat_map (cells_of height) parts ≡ cells
        → SaysChild form entry (record { page = number_at 0 4 entry; cells = cells }) → AllZip (SaysChild form) (entry ∷ []) (map (child_of height) parts)
    one_said [] top lists said = absurd (cc)
    one_said (x ∷ []) top lists said =
        let first : page_of height x ≡ number_at 0 4 entry = cc in
        let said_cells = subst (λ cs. SaysChild form entry (record { page = number_at 0 4 entry; cells = cs })) (sym lists ∙ append-nil (cells_of height x)) said in
        (subst (λ n. SaysChild form entry (record { page = n; cells = cells_of height x })) (sym first) said_cells, tt)
    one_said (x ∷ y ∷ ys) top lists said = absurd (cc)

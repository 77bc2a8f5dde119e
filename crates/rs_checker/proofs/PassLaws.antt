-- The three passes together.
use Rattle.std.proofs.Common.{◌≡◌, ℕ, ◌≤◌, ◌||◌, List, [], ◌∷◌, true, false, Result, Ok, Err, sym, ap, subst, ◌∙◌}
use Rattle.std.proofs.lemmas.Bool.{leb-true, and_parts}
use Rattle.std.specs.FinMap as names
use Rattle.rs_refusal.specs.declared.refusal.Refusal.{Refusal}
use Rattle.rs_refusal.specs.declared.refusal.Refusal.TheVariants.{Limit, NoSuchName, OutOfMemory}
use Rattle.rs_facts.specs.Fact.{Name, Names}
use Rattle.rs_facts.specs.Query.{Query}
use Rattle.rs_facts.specs.Runs.{Stretch}
use Rattle.rs_planning.specs.Checked.{nodes_of}
use Rattle.rs_syntax.specs.Tree.{QueryTree}
use Rattle.rs_machine.specs.declared.limits.TheConstants.{NODES}
use Rattle.rs_machine.specs.State.{has}
use Rattle.rs_machine.specs.Checks.{◌>>=◌, unless}
use Rattle.rs_machine.specs.Checking as machine
use Rattle.rs_machine.specs.Checking.{fits_limits, nodes_checked}
use Rattle.rs_machine.specs.Opening.{names_in, alignments_in, opened, opened_times, nodes}
use Rattle.rs_machine_laws.proofs.NamedColumns.{nodes-named}
use Rattle.rs_machine_laws.proofs.QuerySizes.{as-many}
use Rattle.rs_catalog.specs.Definitions.{Definitions, state_from, views_of, Rest}
use Rattle.rs_catalog.proofs.StateLaws.{len-views_of}
use Rattle.rs_checker.specs.declared.checked.Checked.{Checked}
use Rattle.rs_checker.specs.CheckedView.{query_of}
use Rattle.rs_checker.specs.Checks.{IsChecked}
use Rattle.rs_checker.specs.Nodes.{names_there, alignments_there, AreNodes, AreRefused}
use Rattle.rs_checker.proofs.AlignmentLaws.{aligned_there}
use Rattle.rs_checker.proofs.NodeLaws.{known_there}

-- ---- the passes before the nodes are never refused for want of memory

names_only : (definitions : Definitions) (names : List Name) (refusal : Refusal) → names_there definitions names ≡ Err refusal → refusal ≡ NoSuchName
names_only definitions [] refusal e = cc
names_only definitions (name ∷ more) refusal e =
    elim (has definitions.tables name || has definitions.views name) as (λ b. (unless b NoSuchName >>= (λ _. names_there definitions more)) ≡ Err refusal → refusal ≡ NoSuchName) [
      | true ↦ names_only definitions more refusal
      | false ↦ λ e. cc
    ] e

alignments_only : (definitions : Definitions) (names : List Name) (refusal : Refusal) → alignments_there definitions names ≡ Err refusal → refusal ≡ NoSuchName
alignments_only definitions [] refusal e = cc
alignments_only definitions (name ∷ more) refusal e =
    elim (has definitions.alignments name) as (λ b. (unless b NoSuchName >>= (λ _. alignments_there definitions more)) ≡ Err refusal → refusal ≡ NoSuchName) [
      | true ↦ alignments_only definitions more refusal
      | false ↦ λ e. cc
    ] e

pub names_need_none : (definitions : Definitions) (names : List Name) (refusal : Refusal) → Err refusal ≡ names_there definitions names → refusal ≡ OutOfMemory → ⊥
names_need_none definitions names refusal e wants = let wrong : OutOfMemory ≡ NoSuchName = sym wants ∙ names_only definitions names refusal (sym e) in cc

pub alignments_need_none : (definitions : Definitions) (names : List Name) (refusal : Refusal) → Err refusal ≡ alignments_there definitions names → refusal ≡ OutOfMemory → ⊥
alignments_need_none definitions names refusal e wants = let wrong : OutOfMemory ≡ NoSuchName = sym wants ∙ alignments_only definitions names refusal (sym e) in cc

-- ---- what the passes say together

module _ (definitions : Definitions) (on : ℕ → Names ℕ) (tree : QueryTree) where
  -- what is checked once the names of tables and views are known
  abbrev after_names : (spans_on : ℕ → ℕ → List Stretch) (rest : Rest) → Result (Unit {0}) Refusal → Result Query Refusal
  after_names spans_on rest r = r >>= (λ _. unless (fits_limits (opened (views_of definitions) tree)) Limit >>= (λ _. nodes_checked (state_from definitions on spans_on rest) (opened (views_of definitions) tree)))

  by_names : (spans_on : ℕ → ℕ → List Stretch) (rest : Rest) (r : Result (Unit {0}) Refusal) → r ≡ names_there definitions (names_in tree)
      → machine.checked (state_from definitions on spans_on rest) tree ≡ (r >>= (λ _. after_names spans_on rest (alignments_there definitions (alignments_in tree))))
  by_names spans_on rest r e =
      (λ i. known_there definitions on spans_on rest (names_in tree) i >>= (λ _. after_names spans_on rest (aligned_there definitions on spans_on rest (alignments_in tree) i)))
      ∙ ap (λ r. r >>= (λ _. after_names spans_on rest (alignments_there definitions (alignments_in tree)))) (sym e)

  pub names_refused : (refusal : Refusal) → Err refusal ≡ names_there definitions (names_in tree) → (spans_on : ℕ → ℕ → List Stretch) (rest : Rest) → machine.checked (state_from definitions on spans_on rest) tree ≡ Err refusal
  names_refused refusal e spans_on rest = by_names spans_on rest (Err refusal) e

  module _ (names_are : Ok tt ≡ names_there definitions (names_in tree)) where
    by_alignments : (spans_on : ℕ → ℕ → List Stretch) (rest : Rest) (r : Result (Unit {0}) Refusal) → r ≡ alignments_there definitions (alignments_in tree)
        → machine.checked (state_from definitions on spans_on rest) tree ≡ after_names spans_on rest r
    by_alignments spans_on rest r e = by_names spans_on rest (Ok tt) names_are ∙ ap (after_names spans_on rest) (sym e)

    pub alignments_refused : (refusal : Refusal) → Err refusal ≡ alignments_there definitions (alignments_in tree) → (spans_on : ℕ → ℕ → List Stretch) (rest : Rest) → machine.checked (state_from definitions on spans_on rest) tree ≡ Err refusal
    alignments_refused refusal e spans_on rest = by_alignments spans_on rest (Err refusal) e

    pub limit_refused : Ok tt ≡ alignments_there definitions (alignments_in tree) → fits_limits (opened (views_of definitions) tree) ≡ false → (spans_on : ℕ → ℕ → List Stretch) (rest : Rest) → machine.checked (state_from definitions on spans_on rest) tree ≡ Err Limit
    limit_refused e large spans_on rest = by_alignments spans_on rest (Ok tt) e ∙ ap (λ b. unless b Limit >>= (λ _. nodes_checked (state_from definitions on spans_on rest) (opened (views_of definitions) tree))) large

  module _ (n : ℕ) (count : n ≡ names.len definitions.views) (names_are : Ok tt ≡ names_there definitions (names_in tree)) (alignments_are : Ok tt ≡ alignments_there definitions (alignments_in tree))
      (fits : fits_limits (opened (views_of definitions) tree) ≡ true) where
    by_nodes : (spans_on : ℕ → ℕ → List Stretch) (rest : Rest) → machine.checked (state_from definitions on spans_on rest) tree ≡ nodes_checked (state_from definitions on spans_on rest) (opened_times n (views_of definitions) tree)
    unfolding opened
    by_nodes spans_on rest =
        by_alignments names_are spans_on rest (Ok tt) alignments_are ∙ ap (λ b. unless b Limit >>= (λ _. nodes_checked (state_from definitions on spans_on rest) (opened (views_of definitions) tree))) fits
        ∙ ap (λ m. nodes_checked (state_from definitions on spans_on rest) (opened_times m (views_of definitions) tree)) (len-views_of definitions ∙ sym count)

    few_nodes : (query : Query) → nodes_of query ≡ nodes (opened_times n (views_of definitions) tree) → nodes_of query ≤ NODES
    unfolding opened
    few_nodes query same =
        let fit : nodes (opened_times (names.len (views_of definitions)) (views_of definitions) tree) ≤ NODES = leb-true _ NODES (and_parts _ _ fits).0 in
        subst (λ m. m ≤ NODES) (ap (λ m. nodes (opened_times m (views_of definitions) tree)) (len-views_of definitions ∙ sym count) ∙ sym same) fit

    pub all_checked : (made : Checked) → AreNodes definitions on (opened_times n (views_of definitions) tree) made → (spans_on : ℕ → ℕ → List Stretch) (rest : Rest) → IsChecked (state_from definitions on spans_on rest) tree made
    all_checked made are spans_on rest =
        let at = are.each spans_on rest in
        let state = state_from definitions on spans_on rest in
        record {
          is = by_nodes spans_on rest ∙ at.is;
          well_formed = at.stands.well_formed;
          named = nodes-named state (opened_times n (views_of definitions) tree) (query_of made.query) at.is;
          few = few_nodes (query_of made.query) (as-many state (opened_times n (views_of definitions) tree) (query_of made.query) at.is);
          kind = at.stands.kind;
          columns = at.stands.columns;
        }

    pub nodes_refused : (refusal : Refusal) → AreRefused definitions on (opened_times n (views_of definitions) tree) refusal → (spans_on : ℕ → ℕ → List Stretch) (rest : Rest) → machine.checked (state_from definitions on spans_on rest) tree ≡ Err refusal
    nodes_refused refusal refused spans_on rest = by_nodes spans_on rest ∙ refused.each spans_on rest

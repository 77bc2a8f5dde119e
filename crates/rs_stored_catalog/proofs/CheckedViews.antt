-- Views that are checked one after another.
use Rattle.std.proofs.Common.{◌≡◌, ℕ, List, [], ◌∷◌, Result, Ok, Err, sym, subst}
use Rattle.std.specs.List.{AllByRecursion}
use Rattle.arrayvec.specs.ArrayString.{ArrayString}
use Rattle.rs_catalog.specs.Definitions as catalog
use Rattle.rs_catalog.specs.Definitions.{Definitions, Rest, state_from}
use Rattle.rs_catalog.specs.Names.{entries_by_bytes}
use Rattle.rs_facts.specs.Fact.{Name, Names}
use Rattle.rs_facts.specs.Query.{Query}
use Rattle.rs_facts.specs.Runs.{Stretch}
use Rattle.rs_refusal.specs.declared.refusal.Refusal.{Refusal}
use Rattle.rs_syntax.specs.QueryView.{query_tree}
use Rattle.rs_stored_catalog.specs.EnteringViews.{PassesIn}

pub never_both : (made : Query) (why : Refusal) → ◌≡◌ {A = Result Query Refusal} (Ok made) (Err why) → ⊥
never_both made why e = cc

pub same_refusal : {A : Type 0} (one other : Refusal) → ◌≡◌ {A = Result A Refusal} (Err one) (Err other) → one ≡ other
same_refusal one other e = cc

abbrev pub Rows : Type 0
Rows = List (ArrayString × catalog.ViewItem)

module _ (definitions : Definitions) (on : ℕ → Names ℕ) where
  abbrev pub Passes : (ℕ → ℕ → List Stretch) → Rest → Name × catalog.ViewItem → Type 0
  Passes spans_on rest entry = PassesIn (state_from definitions on spans_on rest) (query_tree entry.1.query)

  abbrev pub AllPass : (ℕ → ℕ → List Stretch) → Rest → Rows → Type 0
  AllPass spans_on rest rows = AllByRecursion (Passes spans_on rest) (entries_by_bytes (λ view. view) rows)

  -- where those that are left pass, all do, and the other way round
  pub record Passed (all left : Rows) : Type 0 where
    pub up : (spans_on : ℕ → ℕ → List Stretch) (rest : Rest) → AllPass spans_on rest left → AllPass spans_on rest all
    pub down : (spans_on : ℕ → ℕ → List Stretch) (rest : Rest) → AllPass spans_on rest all → AllPass spans_on rest left

  pub passed_none : (all : Rows) → Passed all all
  passed_none all = record { up = λ spans_on rest is. is; down = λ spans_on rest is. is }

  module _ (all left others : Rows) (name : ArrayString) (view : catalog.ViewItem) (so_far : Passed all left) (next : left ≡ (name, view) ∷ others) where
    pub passed_more : ((spans_on : ℕ → ℕ → List Stretch) (rest : Rest) → PassesIn (state_from definitions on spans_on rest) (query_tree view.query)) → Passed all others
    passed_more is = record {
      up = λ spans_on rest passes. so_far.up spans_on rest (subst (AllPass spans_on rest) (sym next) (is spans_on rest, passes));
      down = λ spans_on rest passes. (subst (AllPass spans_on rest) next (so_far.down spans_on rest passes)).1;
    }

    pub passes_next : (spans_on : ℕ → ℕ → List Stretch) (rest : Rest) → AllPass spans_on rest all → PassesIn (state_from definitions on spans_on rest) (query_tree view.query)
    passes_next spans_on rest passes = (subst (AllPass spans_on rest) next (so_far.down spans_on rest passes)).0

  pub all_passed : (all left : Rows) → Passed all left → [] ≡ left → (spans_on : ℕ → ℕ → List Stretch) (rest : Rest) → AllPass spans_on rest all
  all_passed all left so_far none spans_on rest = so_far.up spans_on rest (subst (AllPass spans_on rest) none tt)

-- Counts that stand for a basis on a query stand for it on its operands.
use Rattle.std.proofs.Common.{◌≡◌, ℕ, ◌+◌, ◌^◌, ◌≤◌, List, [], ◌∷◌, ◌++◌, subst, arith}
use Rattle.std.specs.List.{AllByRecursion}
use Rattle.rs_facts.specs.Condition.{Condition}
use Rattle.rs_facts.specs.Fact.{Name}
use Rattle.rs_facts.specs.Query.{Window, Piece, Query, where_rows, dissolve_rows, rename_column, overlay_rows, cover_rows, merge_rows, minus_rows, window_rows, transform_rows, gaps_rows}
use Rattle.rs_planning.specs.Basis.{Basis}
use Rattle.rs_planning.specs.Checked.{nodes_of}
use Rattle.rs_planning.specs.Numbered.{Numbered}
use Rattle.rs_plan.specs.Counted.{Counted, IsCounted, StandsFor}

pub parts : {X : Type 0} (P : X → Type 0) (xs ys : List X) → AllByRecursion P (xs ++ ys) → AllByRecursion P xs × AllByRecursion P ys
parts P [] ys all = (tt, all)
parts P (x ∷ xs) ys all = let rest = parts P xs ys all.1 in ((all.0, rest.0), rest.1)

pub joined : {X : Type 0} (P : X → Type 0) (xs ys : List X) → AllByRecursion P xs → AllByRecursion P ys → AllByRecursion P (xs ++ ys)
joined P [] ys a b = b
joined P (x ∷ xs) ys a b = (a.0, joined P xs ys a.1 b)

pub stands-as : (counted : Counted) (basis : Basis) (q r : Query) (named others : List Numbered) → q ≡ r → named ≡ others → StandsFor counted basis q named → StandsFor counted basis r others
stands-as counted basis q r named others same_query same_names stands = subst (λ n. StandsFor counted basis r n) same_names (subst (λ q. StandsFor counted basis q named) same_query stands)

module _ (counted : Counted) (basis : Basis) where
  abbrev Stands : Query → List Numbered → Type 0
  Stands query named = StandsFor counted basis query named

  less : (m n k : ℕ) → m + n + 1 ≤ k → m ≤ k
  less m n k le = omega (arith, le)

  less_one : (m k : ℕ) → m + 1 ≤ k → m ≤ k
  less_one m k le = omega (arith, le)

  more : (m n k : ℕ) → m + n + 1 ≤ k → n ≤ k
  more m n k le = omega (arith, le)

  pub where-stands : (q : Query) (condition : Condition) (named : List Numbered) → Stands (where_rows q condition) named → Stands q named
  where-stands q condition named stands = record { well_formed = stands.well_formed; few = less_one (nodes_of q) (2 ^ 32) stands.few; tables = stands.tables }

  pub rename-stands : (q : Query) (column : ℕ) (name : Name) (named : List Numbered) → Stands (rename_column q column name) named → Stands q named
  rename-stands q column name named stands = record { well_formed = stands.well_formed; few = less_one (nodes_of q) (2 ^ 32) stands.few; tables = stands.tables }

  pub dissolve-stands : (q : Query) (columns : List ℕ) (named : List Numbered) → Stands (dissolve_rows q columns) named → Stands q named
  dissolve-stands q columns named stands = record { well_formed = stands.well_formed.0; few = less_one (nodes_of q) (2 ^ 32) stands.few; tables = stands.tables }

  pub window-stands : (q : Query) (window : Window) (named others : List Numbered) → Stands (window_rows q window) (named ++ others) → Stands q named
  window-stands q window named others stands = record { well_formed = stands.well_formed; few = less_one (nodes_of q) (2 ^ 32) stands.few; tables = (parts (IsCounted counted basis) named others stands.tables).0 }

  pub transform-stands : (q : Query) (name : Name) (pieces : List Piece) (named others : List Numbered) → Stands (transform_rows q name pieces) (named ++ others) → Stands q named
  transform-stands q name pieces named others stands = record { well_formed = stands.well_formed.0; few = less_one (nodes_of q) (2 ^ 32) stands.few; tables = (parts (IsCounted counted basis) named others stands.tables).0 }

  pub gaps-stands : (q : Query) (named : List Numbered) → Stands (gaps_rows q) named → Stands q named
  gaps-stands q named stands = record { well_formed = stands.well_formed; few = less_one (nodes_of q) (2 ^ 32) stands.few; tables = stands.tables }

  module _ (a b : Query) (of_a of_b : List Numbered) where
    pub overlay-left : Stands (overlay_rows a b) (of_a ++ of_b) → Stands a of_a
    overlay-left stands = record { well_formed = stands.well_formed.0; few = less (nodes_of a) (nodes_of b) (2 ^ 32) stands.few; tables = (parts (IsCounted counted basis) of_a of_b stands.tables).0 }

    pub overlay-right : Stands (overlay_rows a b) (of_a ++ of_b) → Stands b of_b
    overlay-right stands = record { well_formed = stands.well_formed.1; few = more (nodes_of a) (nodes_of b) (2 ^ 32) stands.few; tables = (parts (IsCounted counted basis) of_a of_b stands.tables).1 }

    pub cover-left : (m n : ℕ) → Stands (cover_rows m n a b) (of_a ++ of_b) → Stands a of_a
    cover-left m n stands = record { well_formed = stands.well_formed.0; few = less (nodes_of a) (nodes_of b) (2 ^ 32) stands.few; tables = (parts (IsCounted counted basis) of_a of_b stands.tables).0 }

    pub cover-right : (m n : ℕ) → Stands (cover_rows m n a b) (of_a ++ of_b) → Stands b of_b
    cover-right m n stands = record { well_formed = stands.well_formed.1; few = more (nodes_of a) (nodes_of b) (2 ^ 32) stands.few; tables = (parts (IsCounted counted basis) of_a of_b stands.tables).1 }

    pub merge-left : Stands (merge_rows a b) (of_a ++ of_b) → Stands a of_a
    merge-left stands = record { well_formed = stands.well_formed.0; few = less (nodes_of a) (nodes_of b) (2 ^ 32) stands.few; tables = (parts (IsCounted counted basis) of_a of_b stands.tables).0 }

    pub merge-right : Stands (merge_rows a b) (of_a ++ of_b) → Stands b of_b
    merge-right stands = record { well_formed = stands.well_formed.1; few = more (nodes_of a) (nodes_of b) (2 ^ 32) stands.few; tables = (parts (IsCounted counted basis) of_a of_b stands.tables).1 }

    pub minus-left : Stands (minus_rows a b) (of_a ++ of_b) → Stands a of_a
    minus-left stands = record { well_formed = stands.well_formed.0; few = less (nodes_of a) (nodes_of b) (2 ^ 32) stands.few; tables = (parts (IsCounted counted basis) of_a of_b stands.tables).0 }

    pub minus-right : Stands (minus_rows a b) (of_a ++ of_b) → Stands b of_b
    minus-right stands = record { well_formed = stands.well_formed.1; few = more (nodes_of a) (nodes_of b) (2 ^ 32) stands.few; tables = (parts (IsCounted counted basis) of_a of_b stands.tables).1 }

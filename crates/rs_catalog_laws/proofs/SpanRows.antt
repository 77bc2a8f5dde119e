-- What is so of each row of a table on a route: by the spans there, and after a row was put or rows were taken away.
use Rattle.std.proofs.Common.{◌≡◌, ℕ, ◌<◌, ◌≤◌, Bool, true, false, cond, not, ◌&&◌, ◌||◌, ◌⊎◌, ⊎_elim, inl, inr, List, [], ◌∷◌, length, refl, sym, ap, subst, ◌∙◌, arith}
use Rattle.std.specs.List.{AllByRecursion}
use Rattle.rs_value.specs.declared.column.Kind.{Kind}
use Rattle.rs_value.specs.Row.{Row}
use Rattle.rs_facts.specs.Fact.{Places, contains, keep}
use Rattle.rs_facts.specs.Insert.{within, with_row}
use Rattle.rs_facts.specs.Remove.{without_rows}
use Rattle.rs_facts.specs.Query.{RouteEnds}
use Rattle.rs_facts.specs.Runs.{Stretch}
use Rattle.rs_facts.specs.Spans.{places_of, AreKept}
use Rattle.rs_facts.proofs.Placing.{within-true, cases_within, contains-with_row, with_row-inside, with_row-outside, with_row-keeps}
use Rattle.rs_facts.proofs.Sets.{contains-none}
use Rattle.rs_facts.proofs.Rows.{same_row, same_row-true}
use Rattle.rs_facts.proofs.RowSets.{contains-keep}
use Rattle.rs_facts.proofs.KeptLaws.{placed-some}
use Rattle.rs_catalog.specs.Definitions.{TableItem}
use Rattle.rs_catalog.specs.Events.{behind, LieOn, AreSpansOf}
use Rattle.rs_catalog_laws.proofs.Numbers.{false_true}

-- each row that holds somewhere is so
abbrev pub EachRow : (Row → Type 0) → Places → Type 0
EachRow IsSo places = (k : ℕ) (row : Row) → contains (places k) row ≡ true → IsSo row

-- the row of the first span, or one that holds by the others
cases_first : (from to k : ℕ) (own row : Row) (places : Places) → contains (with_row from to own places k) row ≡ true → (own ≡ row) ⊎ (contains (places k) row ≡ true)
cases_first from to k own row places holding =
    elim (within from to k && same_row own row) as (λ b. (within from to k && same_row own row) ≡ b → (b || contains (places k) row) ≡ true → (own ≡ row) ⊎ (contains (places k) row ≡ true)) [
      | true ↦ λ e f. inl (same_row-true own row (right (within from to k) (same_row own row) e))
      | false ↦ λ e f. inr f
    ] refl (sym (contains-with_row from to own places k row) ∙ holding)
  where
    right : (a b : Bool) → (a && b) ≡ true → b ≡ true
    right true b e = e
    right false b e = false_true e

pub rows_of_spans : (IsSo : Row → Type 0) (spans : List Stretch) → AllByRecursion (λ span. IsSo span.row) spans → EachRow IsSo (places_of spans)
rows_of_spans IsSo [] all k row holding = false_true (sym (contains-none row) ∙ holding)
rows_of_spans IsSo (span ∷ spans) all k row holding = ⊎_elim
    (λ (same : span.row ≡ row). subst IsSo same all.0)
    (λ more. rows_of_spans IsSo spans all.1 k row more)
    (cases_first span.lo span.hi k span.row row (places_of spans) holding)

pub spans_of_rows : (IsSo : Row → Type 0) (kind : Kind) (spans : List Stretch) → AreKept kind spans → EachRow IsSo (places_of spans) → AllByRecursion (λ span. IsSo span.row) spans
spans_of_rows IsSo kind [] kept each = tt
spans_of_rows IsSo kind (span ∷ spans) kept each = (
  each span.lo span.row (with_row-inside span.lo span.hi span.row (places_of spans) span.lo (omega arith) (placed-some kind span kept.0)),
  spans_of_rows IsSo kind spans kept.2 (λ k row holding. each k row (with_row-keeps span.lo span.hi span.row (places_of spans) k row holding)),
)

-- no spans lie on any route, and are spans of each table
pub nothing_lies : (kind : Kind) (ends : RouteEnds) (spans : List Stretch) → spans ≡ [] → LieOn kind ends (places_of spans)
unfolding LieOn
nothing_lies kind ends spans none k row holding = false_true (sym (contains-none row) ∙ ap (λ (s : List Stretch). contains (places_of s k) row) (sym none) ∙ holding)

pub nothing_is_kept : (table : TableItem) (spans : List Stretch) → spans ≡ [] → AreSpansOf table spans
nothing_is_kept table spans none = subst (AreSpansOf table) (sym none) (record { kept = tt; wide = tt })

-- ---- the rows of a table on a route

-- each is as wide as the table, and lies on the route
pub record AreRowsOn (table : TableItem) (ends : RouteEnds) (places : Places) : Type 0 where
  pub wide : EachRow (λ row. length row ≡ length table.columns) places
  pub lies : LieOn table.kind ends places

module _ (table : TableItem) (ends : RouteEnds) (places : Places) (are : AreRowsOn table ends places) where
  pub rows_with_row : (lo hi : ℕ) (row : Row) → length row ≡ length table.columns → ends.start ≤ lo → hi ≤ behind table.kind ends → AreRowsOn table ends (with_row lo hi row places)
  unfolding LieOn
  rows_with_row lo hi row wide from upto = record {
    wide = λ k other holding. ⊎_elim
        (λ (same : row ≡ other). ap length (sym same) ∙ wide)
        (λ was. are.wide k other was)
        (cases_first lo hi k row other places holding);
    lies = λ k other holding. ⊎_elim
        (λ (inside : (within lo hi k ≡ true) × (lo ≤ k) × (k < hi)). between k inside.1 inside.2)
        (λ (outside : (within lo hi k ≡ false) × ((k < lo) ⊎ (hi ≤ k))). are.lies k other (sym (with_row-outside lo hi row places k other outside.1) ∙ holding))
        (cases_within lo hi k);
  }
    where
      between : (k : ℕ) → lo ≤ k → k < hi → within ends.start (behind table.kind ends) k ≡ true
      between k a b = within-true ends.start (behind table.kind ends) k (omega arith) (omega arith)

  module _ (lo hi : ℕ) (goes : Row → Bool) where
    -- what holds then held before
    held_before : (k : ℕ) (row : Row) → contains (without_rows lo hi goes places k) row ≡ true → contains (places k) row ≡ true
    unfolding without_rows
    held_before k row holding =
        elim (within lo hi k) as (λ b. contains (cond b (keep (λ row. not (goes row)) (places k)) (places k)) row ≡ true → contains (places k) row ≡ true) [
          | true ↦ λ kept. left (contains (places k) row) (not (goes row)) (sym (contains-keep (λ row. not (goes row)) (places k) row) ∙ kept)
          | false ↦ λ kept. kept
        ] holding
      where
        left : (a b : Bool) → (a && b) ≡ true → a ≡ true
        left true b e = refl
        left false b e = e

    pub rows_without_rows : AreRowsOn table ends (without_rows lo hi goes places)
    unfolding LieOn
    rows_without_rows = record {
      wide = λ k row holding. are.wide k row (held_before k row holding);
      lies = λ k row holding. are.lies k row (held_before k row holding);
    }

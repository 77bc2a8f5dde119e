-- The groups, before and after a change.
use Rattle.std.proofs.Common.{◌≡◌, ℕ, Bool, true, false, cond, List, [], ◌∷◌, Option, Some, unwrap_or, is_eq, T, ◌&&◌, refl, sym, ap, ◌∙◌, subst}
use Rattle.std.specs.BTreeMap.{is_at}
use Rattle.std.specs.FinMap.Entries.{is_sorted, below_all}
use Rattle.std.specs.List.{AllByRecursion}
use Rattle.std.specs.List.Sorted.{IsStrictlySortedBy}
use Rattle.std.specs.Map.{lookup, keys_of}
use Rattle.std.specs.Ordering.{is_lt, eq_by_cmp}
use Rattle.std.specs.declared.cmp.Ordering.TheVariants.{Less}
use Rattle.rs_value.specs.Row.{Row, row_cmp}
use Rattle.rs_facts.specs.Runs.{Stretch}
use Rattle.rs_facts.proofs.Rows.{same_row, same_row-true}
use Rattle.rs_total.specs.declared.numbers.Numbers.{Numbers}
use Rattle.rs_total.specs.Counting.{no_numbers, with_span, kept_in}
use Rattle.rs_total.specs.Tally.{kept_of}

abbrev Entries : Type 0
Entries = List (Row × Numbers)

pub find-kept : (entries : Entries) (q : Row) → kept_of entries q ≡ lookup (is_at (row_cmp q)) entries
find-kept [] q = refl
find-kept (e ∷ es) q = ap (cond (is_eq (row_cmp q e.0)) (Some e.1)) (find-kept es q)

-- one group took other numbers
abbrev pub Puts : Entries → Entries → Row → Numbers → Type 0
Puts old new key w = (q : Row) → lookup (is_at (row_cmp q)) new ≡ cond (is_at (row_cmp key) q) (Some w) (lookup (is_at (row_cmp q)) old)

kept_put : (old new : Entries) (key : Row) (w : Numbers) → Puts old new key w → (q : Row) → kept_of new q ≡ cond (eq_by_cmp row_cmp key q) (Some w) (kept_of old q)
kept_put old new key w puts q = find-kept new q ∙ puts q ∙ ap (cond (eq_by_cmp row_cmp key q) (Some w)) (sym (find-kept old q))

where_true : {X : Type 0} (t : Bool) (x y z : X) → (t ≡ true → x ≡ y) → cond t x z ≡ cond t y z
where_true true x y z h = h refl
where_true false x y z h = refl

one_row : (a b : Row) → eq_by_cmp row_cmp a b ≡ true → a ≡ b
unfolding same_row
one_row a b e = same_row-true a b e

-- the numbers that were there, with a span
pub kept-changed : (column : Option ℕ) (start : ℕ) (span : Stretch) (old new : Entries) (key : Row) (numbers w : Numbers)
    → unwrap_or (lookup (is_at (row_cmp key)) old) no_numbers ≡ numbers → w ≡ with_span start column span numbers → Puts old new key w
    → (q : Row) → kept_of new q ≡ kept_in column start key q (kept_of old q) span
kept-changed column start span old new key numbers w was is puts q =
    kept_put old new key w puts q
    ∙ where_true (eq_by_cmp row_cmp key q) (Some w) (Some (with_span start column span (unwrap_or (kept_of old q) no_numbers))) (kept_of old q)
    (λ e. ap Some (is ∙ ap (with_span start column span) (sym was ∙ ap (λ o. unwrap_or o no_numbers) (sym (find-kept old key)) ∙ ap (λ r. unwrap_or (kept_of old r) no_numbers) (one_row key q e))))

-- ---- the order of the groups

and_true : (a b : Bool) → T a → T b → T (a && b)
and_true true b h k = k
and_true false b h k = absurd h

below : (x : Row) (entries : Entries) → AllByRecursion (λ y. row_cmp x y ≡ Less) (keys_of entries) → T (below_all row_cmp x entries)
below x [] h = tt
below x (e ∷ es) h = and_true _ _ (subst (λ o. T (is_lt o)) (sym h.0) tt) (below x es h.1)

pub groups-sorted : (entries : Entries) → IsStrictlySortedBy row_cmp (keys_of entries) → T (is_sorted row_cmp entries)
unfolding IsStrictlySortedBy
groups-sorted [] h = tt
groups-sorted (e ∷ es) h = and_true _ _ (below e.0 es h.0) (groups-sorted es h.1)

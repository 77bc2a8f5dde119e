-- How many nodes are left after a query.
use Rattle.std.proofs.Common.{◌≡◌, ℕ, ◌+◌, ◌-◌, ◌<◌, ◌⊎◌, inl, inr, Some, None, arith}
use Rattle.std.specs.Prelude.{is_some, nat_le, true, false, ◌&&◌, if◌then◌else◌, refl}
use Rattle.std.proofs.lemmas.Bool.Decides.{nat_tests}
use Rattle.rs_syntax.specs.Tree.{QueryTree, named, filtered, dissolved, renamed, overlaid, covered, merged, subtracted, windowed, transformed, gapped}
use Rattle.rs_machine.specs.Opening.{nodes, depth}
use Rattle.rs_checker.specs.Sizes.{left_after}

pub some_nodes : (tree : QueryTree) → 0 < nodes tree
some_nodes (named name) = omega arith
some_nodes (filtered a x) = omega arith
some_nodes (dissolved a x) = omega arith
some_nodes (renamed a x y) = omega arith
some_nodes (overlaid a b) = omega arith
some_nodes (covered a b) = omega arith
some_nodes (merged a b) = omega arith
some_nodes (subtracted a b) = omega arith
some_nodes (windowed a x) = omega arith
some_nodes (transformed a x) = omega arith
some_nodes (gapped a) = omega arith

pub some_depth : (tree : QueryTree) → 0 < depth tree
some_depth (named name) = omega arith
some_depth (filtered a x) = omega arith
some_depth (dissolved a x) = omega arith
some_depth (renamed a x y) = omega arith
some_depth (overlaid a b) = omega arith
some_depth (covered a b) = omega arith
some_depth (merged a b) = omega arith
some_depth (subtracted a b) = omega arith
some_depth (windowed a x) = omega arith
some_depth (transformed a x) = omega arith
some_depth (gapped a) = omega arith

-- one node more, one level deeper
pub one_more : (n d size deep more deeper : ℕ) → (n ≡ 0 → ⊥) → (d ≡ 0 → ⊥) → more ≡ size + 1 → deeper ≡ deep + 1 → left_after (n - 1) (d - 1) size deep ≡ left_after n d more deeper
one_more n d size deep more deeper some room e f = grind (arith, nat_tests)

-- nothing is left of nothing
pub none_left : (n d size deep : ℕ) → (n ≡ 0) ⊎ (d ≡ 0) → 0 < size → 0 < deep → None ≡ left_after n d size deep
none_left n d size deep (inl e) some room = grind (arith, nat_tests)
none_left n d size deep (inr e) some room = grind (arith, nat_tests)

pub name_left : (n d : ℕ) → 0 < n → 0 < d → Some (n - 1) ≡ left_after n d 1 1
name_left n d some room = grind (arith, nat_tests)

pub some_left : (n d size deep : ℕ) → is_some (left_after n d size deep) ≡ (nat_le size n && nat_le deep d)
some_left n d size deep = elim (nat_le size n && nat_le deep d) as (λ b. is_some (if b then Some (n - size) else None) ≡ b) [ true ↦ refl | false ↦ refl ]

-- The version at which events end in a change.
use Rattle.std.proofs.Common.{◌≡◌, ◌<◌, ◌≤◌, ◌⊎◌, ℕ, List, inl, inr, sym, subst, arith}
use Rattle.rs_cell_versions.specs.Version.{HaveDiedBy}
use Rattle.rs_table_changes.specs.Inner.{EndsSo}

-- it is that of the change, or 0
pub ends_of : (at version oldest : ℕ) → EndsSo at version oldest → (at ≡ version) ⊎ (at ≡ 0)
ends_of at version oldest (inl same) = inl same
ends_of at version oldest (inr none) = inr none.0

pub end_within : (at version : ℕ) → (at ≡ version) ⊎ (at ≡ 0) → at ≤ version
end_within at version (inl same) = omega (arith, same)
end_within at version (inr zero) = omega (arith, zero)

-- where it comes after a birth, none that is known to be dead died later
pub died_by_end : (at version : ℕ) (dead : List (List ℕ)) → (at ≡ version) ⊎ (at ≡ 0) → HaveDiedBy version dead → (birth : ℕ) → birth < at → HaveDiedBy at dead
died_by_end at version dead (inl same) order birth after = subst (λ n. HaveDiedBy n dead) (sym same) order
died_by_end at version dead (inr zero) order birth after = absurd (omega (arith, after, zero))

-- Numbers that no fresh page of a tree has, and what a test that failed says.
use Rattle.std.proofs.Common.{◌≡◌, ◌<◌, ◌≤◌, ℕ, Bool, false, IsTrue, sym, ◌∙◌, arith}
use Rattle.std.proofs.lemmas.Bool.{false≢true}
use Rattle.rs_pages.specs.PageMap.{PageMap}
use Rattle.rs_page_owners.proofs.Moving.{one_at-same}
use Rattle.rs_tree.specs.declared.layout.Layout.{Layout}
use Rattle.rs_tree_whole.specs.Entering.{HasNoFreshNode}

module _ (map : PageMap) (number : ℕ) (layout : Layout) (before : ℕ → ℕ) where
  pub low_number : number < 2 → HasNoFreshNode map number layout before
  low_number low = record { none = λ page node there past inside is fresh. absurd (omega arith) }

  pub past_number : map.fields.pages ≤ number → HasNoFreshNode map number layout before
  past_number past = record { none = λ page node there after inside is fresh. absurd (omega arith) }

  pub reached_number : (before number ≡ 0 → ⊥) → HasNoFreshNode map number layout before
  reached_number some = record { none = λ page node there past inside is fresh. some (omega (arith, one_at-same number, fresh)) }

-- what a test would have told isn't so where it failed
pub fails : {P : Type 0} (test : Bool) → test ≡ false → (P → IsTrue test) → P → ⊥
fails test failed told p = false≢true (sym failed ∙ told p)

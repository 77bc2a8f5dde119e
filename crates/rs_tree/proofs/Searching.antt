-- Searches from the root of a tree.
use Rattle.std.proofs.Common.{◌≡◌, ◌⊎◌, ◌<◌, ◌≤◌, ◌+◌, ◌-◌, ◌*◌, ◌^◌, ℕ, zero, suc, Bool, true, List, [], ◌∷◌, length, filter, refl, sym, ap, ◌∙◌, subst, inl, inr, arith}
use Rattle.std.proofs.Math.Nat.{mul-le-mul_left, pow-le-pow_right}
use Rattle.std.proofs.lemmas.Bool.{cases_lt}
use Rattle.rs_refusal.specs.declared.refusal.Refusal.{Refusal}
use Rattle.rs_refusal.specs.declared.refusal.Refusal.TheVariants as refusal
use Rattle.rs_pages.specs.PageMap.{PageMap}
use Rattle.rs_pages.specs.Store.{Store, CountsFailure}
use Rattle.rs_records.specs.Order.{Ascends}
use Rattle.rs_tree.specs.Form.{Form}
use Rattle.rs_tree.specs.Leading.{pages_leading}
use Rattle.rs_tree.specs.Searches.{wanted, weight}
use Rattle.rs_tree.specs.Shape.{Shape, Lies, page_of, cells_of, uses}
use Rattle.rs_tree.specs.Tree.{IsNoTree, Stands}
use Rattle.rs_tree.specs.Calls.{Finds, RefusesToRead}
use Rattle.rs_tree.proofs.Bounds.{size-le, size-ge}
use Rattle.rs_tree.proofs.Weights.{weight-le}
use Rattle.rs_tree.specs.Walking.{Walks, HasNoPart, IsWalkRefusal}

page_after : (form : Form) (pages : PageMap) (height : ℕ) (shape : Shape height) → Lies form pages height shape → 1 < page_of height shape
page_after form pages zero shape lies = lies.after
page_after form pages (suc height) shape lies = lies.0.after

module _ (form : Form) (pages : PageMap) (root : ℕ) (low high : List ℕ) (passes : List ℕ → Bool) where
  -- the empty tree has no cells
  pub empty_finds : root ≡ 0 → Finds form pages root low high passes [] 0
  empty_finds is = record {
    exact = λ cells used tree. at cells used tree.height tree.stands;
    bounded = λ cells used tree. omega arith;
    least = λ cells used tree. none cells used tree.height tree.stands;
  } where
    none : (cells : List (List ℕ)) (used : ℕ → ℕ) (height : ℕ) (stands : Stands form pages height root cells used) → pages_leading low high passes form pages height root cells used stands ≤ 0
    none cells used zero stands = omega arith
    none cells used (suc height) stands = absurd (omega (arith, page_after form pages height stands.shape stands.lies, stands.top, is))

    at : (cells : List (List ℕ)) (used : ℕ → ℕ) (height : ℕ) → Stands form pages height root cells used → [] ≡ wanted low high passes cells
    at cells used zero stands = ap (wanted low high passes) (sym stands.no_cells)
    at cells used (suc height) stands = absurd (omega (arith, page_after form pages height stands.shape stands.lies, stands.top, is))

  -- a walk from the root finds what a search is to find
  pub walk_finds : (found : List (List ℕ)) (count left : ℕ) → (root ≡ 0 → ⊥) → Walks form pages root low high passes [] found count left → Finds form pages root low high passes found (count - left)
  walk_finds found count left some walks = record {
    exact = λ cells used tree. (at cells used tree.height tree.stands tree.ascends).0;
    bounded = λ cells used tree. (at cells used tree.height tree.stands tree.ascends).1;
    least = λ cells used tree. (at cells used tree.height tree.stands tree.ascends).2;
  } where
    at : (cells : List (List ℕ)) (used : ℕ → ℕ) (height : ℕ) (stands : Stands form pages height root cells used) → Ascends cells
        → (found ≡ wanted low high passes cells) × (count - left ≤ height * (length found + 2)) × (pages_leading low high passes form pages height root cells used stands ≤ count - left)
    at cells used zero stands up = absurd (some stands.none)
    at cells used (suc height) stands up =
        let walked = walks.each height stands.shape (record { lies = stands.lies; top = stands.top }) (subst Ascends (sym stands.lists) up) in
        let size : length found ≡ length (wanted low high passes (cells_of height stands.shape)) = ap length walked.found in
        let bound : weight low high passes (cells_of height stands.shape) ≤ length found + 2 = omega (arith, weight-le low high passes (cells_of height stands.shape), size) in
        let cost = mul-le-mul_left height bound in
        (walked.found ∙ ap (wanted low high passes) stands.lists, omega (arith, walked.reads, cost), omega (arith, walked.least))

-- where the root is the top of no part that has no more pages than there are, no tree stands there
pub no_part-no_tree : (form : Form) (pages : PageMap) (root count : ℕ) → (root ≡ 0 → ⊥) → count ≡ pages.fields.pages → count < 4294967296 → HasNoPart form pages root 31 count → IsNoTree form pages root
no_part-no_tree form pages root count some counted small none = record { none = λ cells used tree. at cells used tree.height tree.stands tree.once } where
  at : (cells : List (List ℕ)) (used : ℕ → ℕ) (height : ℕ) → Stands form pages height root cells used → ((n : ℕ) → used n ≤ 1) → ⊥
  at cells used zero stands once = some stands.none
  at cells used (suc height) stands once =
      let own : (n : ℕ) → uses height stands.shape n ≤ 1 = λ n. omega (arith, stands.owns n, once n) in
      let size = size-le form pages height stands.shape stands.lies own in
      let least = size-ge form pages height stands.shape stands.lies in
      elim (cases_lt height 32) [
        | inl less ↦ none.none height stands.shape (record { lies = stands.lies; top = stands.top }) (omega arith) (omega (arith, size, counted))
        | inr more ↦
            let power : 4294967296 ≤ 2 ^ height = pow-le-pow_right (omega arith) more in
            absurd (omega (arith, power, least, size, counted, small))
      ]

-- why a search is refused
pub walk_refuses : (tied : Type 0) (form : Form) (root : ℕ) (why : Refusal) (old new : Store) → IsWalkRefusal why → (why ≡ refusal.DamagedFile → tied → IsNoTree form old.map root) → CountsFailure why old new
    → RefusesToRead tied form root why old new
walk_refuses tied form root why old new cause damaged counts = record { cause = by_cause cause; count = counts } where
  by_cause : IsWalkRefusal why → (why ≡ refusal.OutOfMemory) ⊎ (why ≡ refusal.Disk) ⊎ ((why ≡ refusal.DamagedFile) × (tied → IsNoTree form old.map root))
  by_cause (inl memory) = inl memory
  by_cause (inr (inl disk)) = inr (inl disk)
  by_cause (inr (inr is)) = inr (inr (is, damaged is))

-- all pass
pub filter_all : (cells : List (List ℕ)) → filter (λ cell. true) cells ≡ cells
filter_all [] = refl
filter_all (c ∷ cs) = ap (λ rest. c ∷ rest) (filter_all cs)

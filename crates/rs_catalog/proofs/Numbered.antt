-- Laws of what stands under numbers.
use Rattle.std.proofs.Common.{◌≡◌, ℕ, true, false, cond, List, [], ◌∷◌, Some, None, refl, sym, ap, ◌∙◌}
use Rattle.std.specs.Ordering.{nat_cmp, eq_by_cmp}
use Rattle.std.specs.Cmp.{Equal-is, eq_by_cmp_equiv, nat_cmp_total}
use Rattle.std.specs.Map.{lookup}
use Rattle.std.specs.BTreeMap.{is_at}
use Rattle.std.specs.FinMap as numbers
use Rattle.std.specs.FinMap.{find, nat_cmp-IsAntisymmetric, get-from_entries, get-insert, get-remove, same_map}
use Rattle.rs_catalog.specs.Definitions.{Numbered}

module _ {V : Type 0} where
  abbrev pub numbered : List (ℕ × V) → Numbered V
  numbered entries = numbers.from_entries entries

  find-lookup : (entries : List (ℕ × V)) (q : ℕ) → find nat_cmp q entries ≡ lookup (is_at (nat_cmp q)) entries
  find-lookup [] q = refl
  find-lookup (e ∷ es) q = ap (cond (eq_by_cmp nat_cmp q e.0) (Some e.1)) (find-lookup es q)

  pub get-numbered : (entries : List (ℕ × V)) (q : ℕ) → numbers.get (numbered entries) q ≡ lookup (is_at (nat_cmp q)) entries
  get-numbered entries q = get-from_entries nat_cmp_total entries q ∙ find-lookup entries q

  -- what a map by number is after one of its numbers took a value
  pub numbered-put : (old new : List (ℕ × V)) (key : ℕ) (value : V)
      → ((q : ℕ) → lookup (is_at (nat_cmp q)) new ≡ cond (is_at (nat_cmp key) q) (Some value) (lookup (is_at (nat_cmp q)) old))
      → numbered new ≡ numbers.insert (numbered old) key value
  numbered-put old new key value puts = same_map nat_cmp_total nat_cmp-IsAntisymmetric _ _ (λ q.
      get-numbered new q ∙ puts q ∙ ap (λ b. cond b (Some value) (lookup (is_at (nat_cmp q)) old)) ((eq_by_cmp_equiv nat_cmp_total).symm key q)
      ∙ sym (get-insert nat_cmp_total (numbered old) key value q ∙ ap (cond (eq_by_cmp nat_cmp q key) (Some value)) (get-numbered old q)))

  -- what it is after one of its numbers was taken out
  pub numbered-gone : (old new : List (ℕ × V)) (key : ℕ)
      → ((q : ℕ) → lookup (is_at (nat_cmp q)) new ≡ cond (is_at (nat_cmp key) q) None (lookup (is_at (nat_cmp q)) old))
      → numbered new ≡ numbers.remove (numbered old) key
  numbered-gone old new key goes = same_map nat_cmp_total nat_cmp-IsAntisymmetric _ _ (λ q.
      get-numbered new q ∙ goes q ∙ ap (λ b. cond b None (lookup (is_at (nat_cmp q)) old)) ((eq_by_cmp_equiv nat_cmp_total).symm key q)
      ∙ sym (get-remove nat_cmp_total (numbered old) key q ∙ ap (cond (eq_by_cmp nat_cmp q key) None) (get-numbered old q)))

  -- to put under a number what stands there changes nothing
  pub insert-same : (values : Numbered V) (key : ℕ) (value : V) → numbers.get values key ≡ Some value → numbers.insert values key value ≡ values
  insert-same values key value there = same_map nat_cmp_total nat_cmp-IsAntisymmetric _ _ (λ q.
      get-insert nat_cmp_total values key value q ∙ elim (eq_by_cmp nat_cmp q key) as (λ b. eq_by_cmp nat_cmp q key ≡ b → cond b (Some value) (numbers.get values q) ≡ numbers.get values q) [
        | true ↦ λ e. sym there ∙ ap (numbers.get values) (sym (nat_cmp-IsAntisymmetric q key ((Equal-is (nat_cmp q key)).0 e)))
        | false ↦ λ e. refl
      ] refl)

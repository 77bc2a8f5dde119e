-- How many clean pages are held, as they move.
use Rattle.std.proofs.Common.{◌≡◌, ◌≤◌, ◌+◌, ◌-◌, ℕ, Bool, true, false, cond, Option, Some, None, List, [], ◌∷◌, length, take, refl, arith}
use Rattle.std.specs.Prelude.{Result, Ok, Err, OnOk, OnErr, nat_eq}
use Rattle.std.specs.Option.{option_map_or}
use Rattle.std.specs.Map.{lookup_entry, remove_entry}
use Rattle.std.proofs.lemmas.List.{length-take}
use Rattle.lru.specs.LruCache.{LruCache, lru_cache, promoted, put_entries}

-- without one that was found there is one less
less : {X : Type 0} (test : ℕ → Bool) (es : List (ℕ × X)) (e : ℕ × X) → lookup_entry test es ≡ Some e → length (remove_entry test es) + 1 ≡ length es
less test [] e h = cc
less test (f ∷ es) e h = (elim (test f.0) as (λ y. test f.0 ≡ y → length (cond y es (f ∷ remove_entry test es)) + 1 ≡ length (f ∷ es)) [
  | true ↦ λ t. omega arith
  | false ↦ λ t. omega (arith, less test es e (rw t at h))
]) refl

at_front : {X : Type 0} (test : ℕ → Bool) (es : List (ℕ × X)) (o : Option (ℕ × X)) → lookup_entry test es ≡ o
    → length (option_map_or (λ f. f ∷ remove_entry test es) o es) ≡ length es
at_front test es None h = refl
at_front test es (Some f) h = omega (arith, less test es f h)

-- as many after one of them was used
pub count-promoted : {X : Type 0} (test : ℕ → Bool) (es : List (ℕ × X)) → length (promoted test es) ≡ length es
count-promoted test es = at_front test es (lookup_entry test es) refl

put_in : {X : Type 0} (c : LruCache ℕ X) (n : ℕ) (x : X) (o : Option (ℕ × X)) → lookup_entry (nat_eq n) c.entries ≡ o
    → length (option_map_or (λ e. (e.0, x) ∷ remove_entry (nat_eq n) c.entries) o ((n, x) ∷ take (c.cap - 1) c.entries)) ≤ length c.entries + 1
put_in c n x None h = omega (arith, length-take (c.cap - 1) c.entries)
put_in c n x (Some e) h = omega (arith, less (nat_eq n) c.entries e h)

-- at most one more after one was put
pub count-put : {X Y : Type 0} (old new : LruCache ℕ X) (n : ℕ) (x : X) (r : Result (Option X) Y)
    → OnOk r (new ≡ lru_cache (put_entries nat_eq old n x) old.cap) → OnErr r (new ≡ old) → length new.entries ≤ length old.entries + 1
count-put old new n x (Ok o) ok err = rw ok (put_in old n x (lookup_entry (nat_eq n) old.entries) refl)
count-put old new n x (Err y) ok err = rw err (omega arith)

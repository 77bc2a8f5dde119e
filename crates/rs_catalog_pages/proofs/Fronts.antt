-- Lists that begin alike.
use Rattle.std.proofs.Common.{◌≡◌, ◌≤◌, ℕ, List, [], ◌∷◌, ◌++◌, length, take, sym, ap, ◌∙◌, inl, inr, arith, length-take}
use Rattle.std.proofs.Math.Seq.{take-append_seam}
use Rattle.std.proofs.lemmas.Bool.{cases_lt}
use Rattle.std.proofs.lemmas.List.{take_all, take-take, take-append-le}

pub kept_pushed : (x : ℕ) (old mid new : List ℕ) → length old ≤ length mid → take (length old) mid ≡ old → new ≡ mid ++ x ∷ [] → take (length old) new ≡ old
kept_pushed x old mid new longer kept is = ap (take (length old)) is ∙ take-append-le (length old) mid (x ∷ []) longer ∙ kept

pub kept_popped : (x : ℕ) (new old : List ℕ) → old ≡ new ++ x ∷ [] → new ≡ take (length new) old
kept_popped x new old is = sym (ap (take (length new)) is ∙ take-append_seam new (x ∷ []))

pub kept_fewer : (old mid new : List ℕ) → length new ≤ length mid → mid ≡ take (length mid) old → new ≡ take (length new) mid → new ≡ take (length new) old
kept_fewer old mid new fewer kept is = is ∙ ap (take (length new)) kept ∙ take-take (length new) (length mid) old fewer

take_either : (m n : ℕ) (l : List ℕ) → take m (take n l) ≡ take n (take m l)
take_either m n l = elim (cases_lt m n) [
  | inl less ↦ take-take m n l (omega (arith, less)) ∙ sym (take_all n (take m l) (omega (arith, less, length-take m l)))
  | inr past ↦ take_all m (take n l) (omega (arith, past, length-take n l)) ∙ sym (take-take n m l past)
]

-- a list that was made longer, then shorter
pub kept_both : (before copied mid after : List ℕ) → copied ≡ before → take (length copied) mid ≡ copied → after ≡ take (length after) mid → take (length before) after ≡ take (length after) before
kept_both before copied mid after same longer shorter =
    let front : take (length before) mid ≡ before = ap (λ l. take (length l) mid) (sym same) ∙ longer ∙ same in
    ap (take (length before)) shorter ∙ take_either (length before) (length after) mid ∙ ap (take (length after)) front

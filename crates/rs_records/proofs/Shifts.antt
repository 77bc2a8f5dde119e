-- Bytes that are copied to another place piece by piece.
use Rattle.std.proofs.Common.{◌≡◌, ℕ, ◌+◌, ◌-◌, ◌≤◌, List, ◌++◌, length, take, drop, sym, ap, ◌∙◌, arith}
use Rattle.std.proofs.lemmas.List.{drop-drop, drop-take, take-take, take-append-le, drop_at, length-take-le, length-drop, append_assoc}
use lib.Seq.{paste, take-add, take-paste, drop-paste}

-- what comes later is the same
beyond : (old s ys : List ℕ) (at n k : ℕ) → s ≡ paste old at ys n → at ≤ length old → n ≤ length ys → at + n ≤ k → drop k s ≡ drop k old
beyond old s ys at n k e fits long h =
    let on : k ≡ at + n + (k - (at + n)) = omega arith in
    ap (drop k) e ∙ ap (λ i. drop i (paste old at ys n)) on ∙ sym (drop-drop (k - (at + n)) (at + n) (paste old at ys n))
    ∙ ap (drop (k - (at + n))) (drop-paste old at ys n fits long) ∙ drop-drop (k - (at + n)) (at + n) old ∙ ap (λ i. drop i old) (sym on)

-- what comes before is the same
before : (old s ys : List ℕ) (at n k : ℕ) → s ≡ paste old at ys n → at ≤ length old → k ≤ at → take k s ≡ take k old
before old s ys at n k e fits h =
    let front : length (take at old) ≡ at = length-take-le at old fits in
    ap (take k) (e ∙ append_assoc (take at old) (take n ys) (drop (at + n) old))
    ∙ take-append-le k (take at old) (take n ys ++ drop (at + n) old) (omega arith) ∙ take-take k at old h

-- one more piece after those that were copied to a place before
pub down_more : (old s : List ℕ) (from to done n : ℕ) → to ≤ from → from + done + n ≤ length old → s ≡ paste old to (drop from old) done
    → paste s (to + done) (drop (from + done) s) n ≡ paste old to (drop from old) (done + n)
down_more old s from to done n downward inside e =
    let ys : List ℕ = drop from old in
    let size = length-drop from old in
    let long : done ≤ length ys = omega arith in
    let front : take (to + done) s ≡ take to old ++ take done ys = ap (take (to + done)) e ∙ take-paste old to ys done (omega arith) long in
    let piece : drop (from + done) s ≡ drop done ys = beyond old s ys to done (from + done) e (omega arith) long (omega arith) ∙ sym (drop-drop done from old) in
    let both : take (to + done) s ++ take n (drop (from + done) s) ≡ take to old ++ take (done + n) ys =
    ap (λ xs. xs ++ take n (drop (from + done) s)) front ∙ ap (λ xs. (take to old ++ take done ys) ++ take n xs) piece
    ∙ append_assoc (take to old) (take done ys) (take n (drop done ys)) ∙ ap (λ xs. take to old ++ xs) (sym (take-add done n ys)) in
    let on : to + done + n ≡ to + (done + n) = omega arith in
    let back : drop (to + done + n) s ≡ drop (to + (done + n)) old = beyond old s ys to done (to + done + n) e (omega arith) long (omega arith) ∙ ap (λ k. drop k old) on in
    ap (λ xs. xs ++ drop (to + done + n) s) both ∙ ap (λ xs. (take to old ++ take (done + n) ys) ++ xs) back

-- one more piece before those that were copied to a place after
pub up_more : (old s : List ℕ) (from to left n k m : ℕ) → from ≤ to → to + left + m ≤ length old → left ≡ k + n → s ≡ paste old (to + left) (drop (from + left) old) m
    → paste s (to + k) (drop (from + k) s) n ≡ paste old (to + k) (drop (from + k) old) (n + m)
up_more old s from to left n k m upward inside parts e =
    let ys : List ℕ = drop (from + left) old in
    let zs : List ℕ = drop (from + k) old in
    let size = length-drop (from + left) old in
    let long : m ≤ length ys = omega arith in
    let front : take (to + k) s ≡ take (to + k) old = before old s ys (to + left) m (to + k) e (omega arith) (omega arith) in
    let piece : take n (drop (from + k) s) ≡ take n zs =
    sym (drop-take (from + k) n s) ∙ ap (drop (from + k)) (before old s ys (to + left) m (from + k + n) e (omega arith) (omega arith)) ∙ drop-take (from + k) n old in
    let there : to + k + n ≡ to + left = omega arith in
    let later : from + k + n ≡ from + left = omega arith in
    let seam : length (take (to + left) old) ≡ to + left = length-take-le (to + left) old (omega arith) in
    let rest : List ℕ = drop (to + left + m) old in
    let back : drop (to + k + n) s ≡ take m (drop n zs) ++ rest =
    ap (λ i. drop i s) there ∙ ap (drop (to + left)) (e ∙ append_assoc (take (to + left) old) (take m ys) rest)
    ∙ drop_at (take (to + left) old) (take m ys ++ rest) (to + left) seam
    ∙ ap (λ xs. take m xs ++ rest) (ap (λ i. drop i old) (sym later) ∙ sym (drop-drop n (from + k) old)) in
    let on : to + left + m ≡ to + k + (n + m) = omega arith in
    ap (λ xs. (xs ++ take n (drop (from + k) s)) ++ drop (to + k + n) s) front
    ∙ ap (λ xs. (take (to + k) old ++ xs) ++ drop (to + k + n) s) piece
    ∙ ap (λ xs. (take (to + k) old ++ take n zs) ++ xs) back
    ∙ sym (append_assoc (take (to + k) old ++ take n zs) (take m (drop n zs)) rest)
    ∙ ap (λ xs. xs ++ rest) (append_assoc (take (to + k) old) (take n zs) (take m (drop n zs)) ∙ ap (λ xs. take (to + k) old ++ xs) (sym (take-add n m zs)))
    ∙ ap (λ i. (take (to + k) old ++ take (n + m) zs) ++ drop i old) on

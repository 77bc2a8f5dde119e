-- A shape has no more pages than there are, and twice as many with each level.
use Rattle.std.proofs.Common.{◌≡◌, ◌<◌, ◌≤◌, ◌+◌, ◌*◌, ◌^◌, ℕ, zero, suc, true, false, eqb, List, [], ◌∷◌, length, refl, sym, ap, ◌∙◌, arith}
use Rattle.std.proofs.lemmas.Bool.Decides.{nat_tests}
use Rattle.std.proofs.Math.Nat.{mul-le-mul_left}
use Rattle.std.proofs.lemmas.List.{length-map}
use Rattle.std.proofs.lemmas.List.Sums.{sum_by-cons}
use Rattle.std.specs.List.{AllByRecursion, sum_by}
use Rattle.rs_pages.specs.PageMap.{PageMap}
use Rattle.rs_page_owners.specs.Counts.{one_at}
use Rattle.rs_tree.specs.Form.{Form}
use Rattle.rs_tree.specs.Shape.{Shape, Lies, uses, size_of, child_of}

-- the sum over all numbers below a count
total : (ℕ → ℕ) → ℕ → ℕ
total f zero = 0
total f (suc n) = total f n + f n

total-le : (f : ℕ → ℕ) (count : ℕ) → ((n : ℕ) → f n ≤ 1) → total f count ≤ count
unfolding total
total-le f zero h = omega arith
total-le f (suc n) h = omega (arith, total-le f n h, h n)

total-add : (f g : ℕ → ℕ) (count : ℕ) → total (λ n. f n + g n) count ≡ total f count + total g count
unfolding total
total-add f g zero = omega arith
total-add f g (suc n) = omega (arith, total-add f g n)

total-none : (count : ℕ) → total (λ n. 0) count ≡ 0
unfolding total
total-none zero = refl
total-none (suc n) = omega (arith, total-none n)

one_at-same : (page : ℕ) → one_at page page ≡ 1
unfolding one_at
one_at-same page = grind (arith, nat_tests)

one_at-other : (page n : ℕ) → (page ≡ n → ⊥) → one_at page n ≡ 0
unfolding one_at
one_at-other page n ne = grind (arith, nat_tests)

total_before : (page count : ℕ) → count ≤ page → total (one_at page) count ≡ 0
unfolding total
total_before page zero h = refl
total_before page (suc n) h = omega (arith, total_before page n (omega arith), one_at-other page n (λ e. omega arith))

total-one : (page count : ℕ) → page < count → total (one_at page) count ≡ 1
unfolding total
total-one page zero h = absurd (omega arith)
total-one page (suc n) h = elim (eqb page n) as (λ b. eqb page n ≡ b → total (one_at page) n + one_at page n ≡ 1) [
  | true ↦ λ e. let same : page ≡ n = grind (arith, nat_tests) in
      let here : one_at page n ≡ 1 = ap (one_at page) (sym same) ∙ one_at-same page in
      omega (arith, here, total_before page n (omega arith))
  | false ↦ λ e. let ne : page ≡ n → ⊥ = λ s. grind (arith, nat_tests) in
      omega (arith, one_at-other page n ne, total-one page n (grind (arith, nat_tests)))
] refl

same_total : (f g : ℕ → ℕ) (count : ℕ) → ((n : ℕ) → f n ≡ g n) → total f count ≡ total g count
unfolding total
same_total f g zero h = refl
same_total f g (suc n) h = omega (arith, same_total f g n h, h n)

-- the uses of all parts, added up
total-parts : (height : ℕ) (parts : List (Shape height)) (count : ℕ)
    → AllByRecursion (λ part. total (uses height part) count ≡ size_of height part) parts
    → total (λ n. sum_by (λ part. uses height part n) parts) count ≡ sum_by (size_of height) parts
total-parts height [] count all = total-none count
total-parts height (x ∷ xs) count all =
    let first = same_total (λ n. sum_by (λ part. uses height part n) (x ∷ xs)) (λ n. uses height x n + sum_by (λ part. uses height part n) xs) count (λ n. sum_by-cons (λ part. uses height part n) x xs) in
    let both = total-add (uses height x) (λ n. sum_by (λ part. uses height part n) xs) count in
    omega (arith, first, both, all.0, total-parts height xs count all.1, sum_by-cons (size_of height) x xs)

all_map : {X : Type 0} (P Q : X → Type 0) → ((x : X) → P x → Q x) → (xs : List X) → AllByRecursion P xs → AllByRecursion Q xs
all_map P Q f [] all = tt
all_map P Q f (x ∷ xs) all = (f x all.0, all_map P Q f xs all.1)

total-uses : (form : Form) (pages : PageMap) (height : ℕ) (shape : Shape height) → Lies form pages height shape
    → total (uses height shape) pages.fields.pages ≡ size_of height shape
total-uses form pages zero shape lies = total-one shape.page pages.fields.pages lies.below
total-uses form pages (suc height) shape lies =
    let parts = all_map (Lies form pages height) (λ part. total (uses height part) pages.fields.pages ≡ size_of height part) (total-uses form pages height) shape.parts lies.1 in
    omega (
      arith,
      total-add (one_at shape.page) (λ n. sum_by (λ part. uses height part n) shape.parts) pages.fields.pages,
      total-one shape.page pages.fields.pages lies.0.below,
      total-parts height shape.parts pages.fields.pages parts,
    )

-- each page once, so no more than there are
pub size-le : (form : Form) (pages : PageMap) (height : ℕ) (shape : Shape height) → Lies form pages height shape → ((n : ℕ) → uses height shape n ≤ 1)
    → size_of height shape ≤ pages.fields.pages
size-le form pages height shape lies once = omega (arith, total-uses form pages height shape lies, total-le (uses height shape) pages.fields.pages once)

sizes_le : (height bound : ℕ) (parts : List (Shape height)) → AllByRecursion (λ part. bound ≤ size_of height part) parts → bound * length parts ≤ sum_by (size_of height) parts
sizes_le height bound [] all = omega arith
sizes_le height bound (x ∷ xs) all = omega (arith, all.0, sizes_le height bound xs all.1, sum_by-cons (size_of height) x xs)

-- an inner page has two parts at least
pub size-ge : (form : Form) (pages : PageMap) (height : ℕ) (shape : Shape height) → Lies form pages height shape → 2 ^ height ≤ size_of height shape
size-ge form pages zero shape lies = omega arith
size-ge form pages (suc height) shape lies =
    let parts = all_map (Lies form pages height) (λ part. 2 ^ height ≤ size_of height part) (size-ge form pages height) shape.parts lies.1 in
    let two : 2 ≤ length shape.parts = omega (arith, lies.0.inner.some, length-map shape.parts (child_of height)) in
    let more : 2 ^ height * 2 ≤ 2 ^ height * length shape.parts = mul-le-mul_left (2 ^ height) two in
    let next : 2 ^ suc height ≡ 2 ^ height * 2 = omega arith in
    omega (arith, sizes_le height (2 ^ height) shape.parts parts, more, next)

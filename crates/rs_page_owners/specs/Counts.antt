-- How often pages are an owner's.
use Rattle.std.specs.Prelude.{◌+◌, ◌==◌, ℕ, List, if◌then◌else◌, count_by}

-- the page with this number alone, once
unfoldable pub one_at : ℕ → ℕ → ℕ
one_at page number = if page == number then 1 else 0

-- each as often as it is in the list
unfoldable pub times : List ℕ → ℕ → ℕ
times pages number = count_by (λ page. page == number) pages

-- those of two owners
infixl 6 ◌&◌
abbrev pub ◌&◌ : (ℕ → ℕ) → (ℕ → ℕ) → ℕ → ℕ
(one & other) number = one number + other number

-- none
abbrev pub no_pages : ℕ → ℕ
no_pages number = 0

-- The changed pages: what is held after one was written, and after the copies were committed or dropped.
use Rattle.std.proofs.Common.{◌≡◌, ◌≢◌, ◌<◌, inl, inr, ℕ, true, false, Option, Some, None, IsSome, List, [], ◌∷◌, ◌++◌, length, slice_index, refl, sym, ap, ◌∙◌, subst, arith}
use Rattle.std.specs.Option.{unwrap_or}
use Rattle.std.specs.Map.{lookup}
use Rattle.std.specs.BTreeMap.{is_at}
use Rattle.std.specs.Ordering.{nat_cmp, eq_by_cmp}
use Rattle.std.specs.Cmp.{Equal-is}
use Rattle.std.proofs.lemmas.Bool.{cases_eq}
use Rattle.std.proofs.lemmas.Grind.{common_steps}
use Rattle.std.proofs.lemmas.Map.Lookups.{exact_unsigned}
use Rattle.rs_pages.specs.Held.{HeldPage, nothing_held, page_or, with_copy}
use Rattle.rs_page_cache.specs.Changes.{Changes, held_at, committed_held, abandoned_held, HasCopied}

-- another number is found at another place
pub apart : (a b : ℕ) → b ≢ a → is_at (nat_cmp a) b ≡ false
apart a b ne = elim (is_at (nat_cmp a) b) as (λ t. is_at (nat_cmp a) b ≡ t → is_at (nat_cmp a) b ≡ false) [
  | true ↦ λ e. absurd (ne (sym (exact_unsigned a b ((Equal-is (nat_cmp a b)).0 e))))
  | false ↦ λ e. e
] refl

-- what is found by a number has it
pub same_number : (a b : ℕ) → eq_by_cmp nat_cmp a b ≡ true → a ≡ b
same_number a b is = exact_unsigned a b ((Equal-is (nat_cmp a b)).0 is)

-- what is held, by what a look-up finds
pub held-found : (changes : Changes) (n : ℕ) (held : HeldPage) → lookup (is_at (nat_cmp n)) changes ≡ Some held → held_at changes n ≡ held
held-found changes n held found = ap (λ (o : Option HeldPage). unwrap_or o nothing_held) found

pub held-none : (changes : Changes) (n : ℕ) → lookup (is_at (nat_cmp n)) changes ≡ None → held_at changes n ≡ nothing_held
held-none changes n none = ap (λ (o : Option HeldPage). unwrap_or o nothing_held) none

-- where there is no copy, a commit and an abandonment leave all
committed_parts : (committed copy : Option (List ℕ)) → copy ≡ None
    → ◌≡◌ {A = HeldPage} (record { committed = committed; copy = copy }) (record { committed = page_or copy committed; copy = None })
committed_parts committed copy none =
    subst (λ (c : Option (List ℕ)). ◌≡◌ {A = HeldPage} (record { committed = committed; copy = c }) (record { committed = page_or c committed; copy = None })) (sym none) refl

pub committed-none : (held : HeldPage) → held.copy ≡ None → held ≡ committed_held held
committed-none held none = committed_parts held.committed held.copy none

abandoned_parts : (committed copy : Option (List ℕ)) → copy ≡ None
    → ◌≡◌ {A = HeldPage} (record { committed = committed; copy = copy }) (record { committed = committed; copy = None })
abandoned_parts committed copy none =
    subst (λ (c : Option (List ℕ)). ◌≡◌ {A = HeldPage} (record { committed = committed; copy = c }) (record { committed = committed; copy = None })) (sym none) refl

pub abandoned-none : (held : HeldPage) → held.copy ≡ None → held ≡ abandoned_held held
abandoned-none held none = abandoned_parts held.committed held.copy none

-- after each of the listed numbers was visited no page has a copy
copy_gone : (old new : Changes) (copied : List ℕ) → HasCopied old copied
    → ((k : ℕ) → k < length copied → (held_at new (slice_index copied k)).copy ≡ None)
    → ((n : ℕ) → (held_at old n).copy ≡ None → (held_at new n).copy ≡ None)
    → (n : ℕ) (was : Option (List ℕ)) → (held_at old n).copy ≡ was → (held_at new n).copy ≡ None
copy_gone old new copied among done others n None is = others n is
copy_gone old new copied among done others n (Some page) is =
    let place = among.among n (subst (IsSome {T = List ℕ}) (sym is) refl) in
    subst (λ i. (held_at new i).copy ≡ None) place.2 (done place.0 place.1)

pub no_copy_left : (old new : Changes) (copied : List ℕ) → HasCopied old copied
    → ((k : ℕ) → k < length copied → (held_at new (slice_index copied k)).copy ≡ None)
    → ((n : ℕ) → (held_at old n).copy ≡ None → (held_at new n).copy ≡ None)
    → (n : ℕ) → (held_at new n).copy ≡ None
no_copy_left old new copied among done others n = copy_gone old new copied among done others n (held_at old n).copy refl

-- so each is committed
pub all_committed : (old new : Changes) (copied : List ℕ) → HasCopied old copied
    → ((n : ℕ) → committed_held (held_at new n) ≡ committed_held (held_at old n))
    → ((k : ℕ) → k < length copied → (held_at new (slice_index copied k)).copy ≡ None)
    → ((n : ℕ) → (held_at old n).copy ≡ None → (held_at new n).copy ≡ None)
    → (n : ℕ) → held_at new n ≡ committed_held (held_at old n)
all_committed old new copied among commits done others n =
    committed-none (held_at new n) (no_copy_left old new copied among done others n) ∙ commits n

-- and each is abandoned
pub all_abandoned : (old new : Changes) (copied : List ℕ) → HasCopied old copied
    → ((n : ℕ) → abandoned_held (held_at new n) ≡ abandoned_held (held_at old n))
    → ((k : ℕ) → k < length copied → (held_at new (slice_index copied k)).copy ≡ None)
    → ((n : ℕ) → (held_at old n).copy ≡ None → (held_at new n).copy ≡ None)
    → (n : ℕ) → held_at new n ≡ abandoned_held (held_at old n)
all_abandoned old new copied among abandons done others n =
    abandoned-none (held_at new n) (no_copy_left old new copied among done others n) ∙ abandons n

-- no copy is listed where there is none
pub none_some : (o : Option (List ℕ)) → o ≡ None → IsSome o → ⊥
none_some None is some = cc
none_some (Some page) is some = cc

pub lists_nothing : (changes : Changes) → ((n : ℕ) → (held_at changes n).copy ≡ None) → HasCopied changes []
lists_nothing changes none = record { among = λ n some. absurd (none_some (held_at changes n).copy (none n) some); only = λ k lt. absurd (omega (arith, lt)) }

-- those that are listed have copies, where one more has its copy
only_listed : (old new : Changes) (copied : List ℕ) (number : ℕ) → HasCopied old copied → IsSome (held_at new number).copy
    → ((other : ℕ) → other ≢ number → held_at new other ≡ held_at old other) → (k : ℕ) → k < length copied → IsSome (held_at new (slice_index copied k)).copy
only_listed old new copied number lists there others k lt = elim (cases_eq (slice_index copied k) number) [
  | inl same ↦ subst (λ i. IsSome (held_at new i).copy) (sym same) there
  | inr ne ↦ subst (λ (h : HeldPage). IsSome h.copy) (sym (others (slice_index copied k) ne)) (lists.only k lt)
]

has_copy : (page : List ℕ) (old new : HeldPage) → new ≡ with_copy page old → IsSome new.copy
has_copy page old new is = subst (λ (h : HeldPage). IsSome h.copy) (sym is) refl

-- a number is listed before its copy is put in place
pub lists_more : (old new : Changes) (copied : List ℕ) (number : ℕ) (page : List ℕ) → HasCopied old copied → held_at new number ≡ with_copy page (held_at old number)
    → ((other : ℕ) → other ≢ number → held_at new other ≡ held_at old other) → HasCopied new (copied ++ number ∷ [])
lists_more old new copied number page lists there others = record {
  only = λ k lt. elim (cases_eq k (length copied)) [
    | inl end ↦ let last : slice_index (copied ++ number ∷ []) k ≡ number = ap (slice_index (copied ++ number ∷ [])) end ∙ grind (arith, common_steps) in
        subst (λ i. IsSome (held_at new i).copy) (sym last) (has_copy page (held_at old number) (held_at new number) there)
    | inr before ↦ let inside : k < length copied = grind (arith, common_steps) in
        let same : slice_index (copied ++ number ∷ []) k ≡ slice_index copied k = grind (arith, common_steps) in
        subst (λ i. IsSome (held_at new i).copy) (sym same) (only_listed old new copied number lists (has_copy page (held_at old number) (held_at new number) there) others k inside)
  ];
  among = λ n some. elim (cases_eq n number) [
    | inl same ↦
        (length copied, grind (arith, common_steps), let last : slice_index (copied ++ number ∷ []) (length copied) ≡ number = grind (arith, common_steps) in last ∙ sym same)
    | inr ne ↦
        let was = lists.among n (subst (λ (h : HeldPage). IsSome h.copy) (others n ne) some) in
        let before : slice_index (copied ++ number ∷ []) was.0 ≡ slice_index copied was.0 = let lt = was.1 in grind (arith, common_steps) in
        (was.0, (let lt = was.1 in grind (arith, common_steps)), before ∙ was.2)
  ];
}

-- a listed number stays listed where its copy was there before
pub lists_same : (old new : Changes) (copied : List ℕ) (number : ℕ) (page : List ℕ) → HasCopied old copied → IsSome (held_at old number).copy
    → held_at new number ≡ with_copy page (held_at old number) → ((other : ℕ) → other ≢ number → held_at new other ≡ held_at old other) → HasCopied new copied
lists_same old new copied number page lists there put others = record {
  only = only_listed old new copied number lists (has_copy page (held_at old number) (held_at new number) put) others;
  among = λ n some. elim (cases_eq n number) [
    | inl same ↦ lists.among n (subst (λ i. IsSome (held_at old i).copy) (sym same) there)
    | inr ne ↦ lists.among n (subst (λ (h : HeldPage). IsSome h.copy) (others n ne) some)
  ];
}

-- one page more was committed
module _ (first old new : Changes) (x : ℕ) (there : held_at new x ≡ committed_held (held_at old x))
    (others : (m : ℕ) → m ≢ x → held_at new m ≡ held_at old m) where
  pub commit-here : (held_at new x).copy ≡ None
  commit-here = ap (λ (h : HeldPage). h.copy) there

  pub commit-none : (n : ℕ) → (held_at old n).copy ≡ None → (held_at new n).copy ≡ None
  commit-none n none = elim (cases_eq n x) [
    | inl same ↦ subst (λ i. (held_at new i).copy ≡ None) (sym same) commit-here
    | inr ne ↦ ap (λ (h : HeldPage). h.copy) (others n ne) ∙ none
  ]

  pub commit-all : ((n : ℕ) → committed_held (held_at old n) ≡ committed_held (held_at first n)) → (n : ℕ) → committed_held (held_at new n) ≡ committed_held (held_at first n)
  commit-all commits n = elim (cases_eq n x) [
    | inl same ↦ subst (λ i. committed_held (held_at new i) ≡ committed_held (held_at first i)) (sym same) (ap committed_held there ∙ commits x)
    | inr ne ↦ ap committed_held (others n ne) ∙ commits n
  ]

-- one page more was abandoned
module _ (first old new : Changes) (x : ℕ) (there : held_at new x ≡ abandoned_held (held_at old x))
    (others : (m : ℕ) → m ≢ x → held_at new m ≡ held_at old m) where
  pub abandon-here : (held_at new x).copy ≡ None
  abandon-here = ap (λ (h : HeldPage). h.copy) there

  pub abandon-none : (n : ℕ) → (held_at old n).copy ≡ None → (held_at new n).copy ≡ None
  abandon-none n none = elim (cases_eq n x) [
    | inl same ↦ subst (λ i. (held_at new i).copy ≡ None) (sym same) abandon-here
    | inr ne ↦ ap (λ (h : HeldPage). h.copy) (others n ne) ∙ none
  ]

  pub abandon-all : ((n : ℕ) → abandoned_held (held_at old n) ≡ abandoned_held (held_at first n)) → (n : ℕ) → abandoned_held (held_at new n) ≡ abandoned_held (held_at first n)
  abandon-all abandons n = elim (cases_eq n x) [
    | inl same ↦ subst (λ i. abandoned_held (held_at new i) ≡ abandoned_held (held_at first i)) (sym same) (ap abandoned_held there ∙ abandons x)
    | inr ne ↦ ap abandoned_held (others n ne) ∙ abandons n
  ]

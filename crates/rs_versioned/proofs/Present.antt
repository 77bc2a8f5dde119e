-- What the version that was accepted last sees, and how many records live and are dead.
use Rattle.std.proofs.Common.{◌≡◌, ◌⊎◌, ◌<◌, ◌≤◌, ◌&&◌, ◌==◌, ℕ, Bool, true, false, not, cond, nat_le, nat_lt, List, [], ◌∷◌, length, filter, refl, sym, ap, ◌∙◌, inl, inr, arith}
use Rattle.std.proofs.lemmas.Bool.Decides.{nat_tests}
use Rattle.std.specs.List.{AllByRecursion, count_by}
use Rattle.rs_pages.specs.PageMap.{PageMap}
use Rattle.rs_cell_versions.specs.declared.cell.TheConstants.{LIVING}
use Rattle.rs_cell_versions.specs.Version.{IsDated, died_of, is_clearable, is_living}
use Rattle.rs_cell_versions.specs.Versioned.{Standing}
use Rattle.rs_cell_versions.proofs.Dated.{dated_listed}
use Rattle.rs_versioned.specs.Records.{HoldsRecords, IsKept, Kept, is_seen}
use Rattle.rs_versioned.proofs.Lifting.{zip_all, zip_count}

-- born by the version, and living or dead after the birth by that version
abbrev pub IsDatedRecord : {R : Type 0} → Kept R → ℕ → R → Type 0
IsDatedRecord kept accepted one = (kept.born one ≤ accepted) × ((kept.died one ≡ LIVING) ⊎ ((kept.born one < kept.died one) × (kept.died one ≤ accepted)))

living_end : (n : ℕ) → (n == LIVING) ≡ true → n ≡ LIVING
living_end n e = grind (arith, nat_tests)

seen_where_living : (born died accepted : ℕ) → accepted < LIVING → (born ≤ accepted) × ((died ≡ LIVING) ⊎ ((born < died) × (died ≤ accepted)))
    → (nat_le born accepted && nat_lt accepted died) ≡ (died == LIVING)
seen_where_living born died accepted before dated = elim dated.1 [
  | inl lives ↦
      let first : nat_le born accepted ≡ true = grind (arith, nat_tests) in
      let second : nat_lt accepted died ≡ true = grind (arith, nat_tests) in
      let third : (died == LIVING) ≡ true = grind (arith, nat_tests) in
      rw (first, second, third) refl
  | inr died_then ↦
      let first : nat_le born accepted ≡ true = grind (arith, nat_tests) in
      let second : nat_lt accepted died ≡ false = grind (arith, nat_tests) in
      let third : (died == LIVING) ≡ false = grind (arith, nat_tests) in
      rw (first, second, third) refl
]

dead_where_ended : (died accepted : ℕ) → accepted < LIVING → (not (died == LIVING) && nat_le died accepted) ≡ nat_le died accepted
dead_where_ended died accepted before = elim (nat_le died accepted) as (λ b. nat_le died accepted ≡ b → (not (died == LIVING) && b) ≡ b) [
  | true ↦ λ e. let other : (died == LIVING) ≡ false = grind (arith, nat_tests) in rw other refl
  | false ↦ λ e. and_none (not (died == LIVING))
] refl
  where
    and_none : (b : Bool) → (b && false) ≡ false
    and_none true = refl
    and_none false = refl

module _ {R : Type 0} (kept : Kept R) (laws : IsKept kept) where
  dated_record : (accepted : ℕ) (cell : List ℕ) (one : R) → kept.says cell one → IsDated accepted cell → IsDatedRecord kept accepted one
  dated_record accepted cell one says dated =
      let born = laws.born cell one says in
      let died = laws.died cell one says in (
        omega (arith, dated.0, born),
        elim dated.1 [
          | inl lives ↦ inl (sym died ∙ living_end (died_of cell) lives)
          | inr dead ↦ inr (omega (arith, dead.0, born, died), omega (arith, dead.1, died))
        ],
      )

  pub held_dated : (pages : PageMap) (standing : Standing) (accepted : ℕ) (records : List R) (used : ℕ → ℕ) → HoldsRecords kept pages standing accepted records used
      → AllByRecursion (IsDatedRecord kept accepted) records
  held_dated pages standing accepted records used holds =
      zip_all kept.says (IsDated accepted) (IsDatedRecord kept accepted) (dated_record accepted) holds.cells records holds.say holds.dated

  seen_alike : (accepted : ℕ) (records : List R) → accepted < LIVING → AllByRecursion (IsDatedRecord kept accepted) records
      → filter (is_seen kept accepted) records ≡ filter (λ one. kept.died one == LIVING) records
  seen_alike accepted [] before dated = refl
  seen_alike accepted (r ∷ rs) before dated =
      ap (λ (b : Bool). cond b (r ∷ filter (is_seen kept accepted) rs) (filter (is_seen kept accepted) rs)) (seen_where_living (kept.born r) (kept.died r) accepted before dated.0)
      ∙ ap (λ (l : List R). cond (kept.died r == LIVING) (r ∷ l) l) (seen_alike accepted rs before dated.1)

  -- a later version sees of these what that version sees
  level : (accepted to : ℕ) (records : List R) → accepted ≤ to → to < LIVING → AllByRecursion (IsDatedRecord kept accepted) records
      → AllByRecursion (λ one. is_seen kept to one ≡ is_seen kept accepted one) records
  level accepted to [] later before dated = tt
  level accepted to (r ∷ rs) later before dated =
      let then : IsDatedRecord kept to r = (omega (arith, dated.0.0, later), elim dated.0.1 [ inl lives ↦ inl lives | inr died ↦ inr (died.0, omega (arith, died.1, later)) ]) in (
        seen_where_living (kept.born r) (kept.died r) to before then ∙ sym (seen_where_living (kept.born r) (kept.died r) accepted (omega arith) dated.0),
        level accepted to rs later before dated.1,
      )

  pub held_level : (pages : PageMap) (standing : Standing) (accepted to : ℕ) (records : List R) (used : ℕ → ℕ) → HoldsRecords kept pages standing accepted records used → accepted ≤ to → to < LIVING
      → AllByRecursion (λ one. is_seen kept to one ≡ is_seen kept accepted one) records
  held_level pages standing accepted to records used holds later before = level accepted to records later before (held_dated pages standing accepted records used holds)

  pub held_present : (pages : PageMap) (standing : Standing) (accepted : ℕ) (records : List R) (used : ℕ → ℕ) → HoldsRecords kept pages standing accepted records used → accepted < LIVING
      → filter (is_seen kept accepted) records ≡ filter (λ one. kept.died one == LIVING) records
  held_present pages standing accepted records used holds before = seen_alike accepted records before (held_dated pages standing accepted records used holds)

  pub held_living : (pages : PageMap) (standing : Standing) (accepted : ℕ) (records : List R) (used : ℕ → ℕ) → HoldsRecords kept pages standing accepted records used
      → count_by (λ one. kept.died one == LIVING) records ≡ standing.living
  held_living pages standing accepted records used holds =
      sym (zip_count kept.says is_living (λ one. kept.died one == LIVING) (λ cell one says. ap (λ (n : ℕ). n == LIVING) (laws.died cell one says)) holds.cells records holds.say)
      ∙ holds.holds.living

  pub held_clearable : (pages : PageMap) (standing : Standing) (accepted : ℕ) (records : List R) (used : ℕ → ℕ) → HoldsRecords kept pages standing accepted records used → accepted < LIVING
      → count_by (λ one. nat_le (kept.died one) accepted) records ≡ length standing.dead
  held_clearable pages standing accepted records used holds before =
      sym (zip_count kept.says (is_clearable accepted) (λ one. nat_le (kept.died one) accepted)
      (λ cell one says. dead_where_ended (died_of cell) accepted before ∙ ap (λ (n : ℕ). nat_le n accepted) (laws.died cell one says)) holds.cells records holds.say)
      ∙ dated_listed kept.form pages standing holds.cells used accepted holds.holds holds.dated

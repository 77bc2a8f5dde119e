-- A referent of the file is found by its name, and ends.
use Rattle.std.proofs.Common.{◌≡◌, ◌<◌, ◌≤◌, ◌⊎◌, ◌&&◌, ◌==◌, ℕ, zero, suc, Bool, true, false, cond, nat_le, nat_lt, Some, IsTrue, List, [], ◌∷◌, filter, slice_get, refl, sym, ap, ◌∙◌, subst, inl, inr, arith}
use Rattle.std.proofs.lemmas.Bool.{false≢true}
use Rattle.std.proofs.lemmas.Bool.Decides.{nat_tests}
use Rattle.std.proofs.lemmas.List.Elements.{All-contains, All-contains_itself, All-filter, filter_passes}
use Rattle.std.specs.List.{AllByRecursion, AllZip, Contains}
use Rattle.rs_cell_versions.specs.declared.cell.TheConstants.{LIVING}
use Rattle.rs_cell_versions.specs.Version.{IsDated, died_of, is_living}
use Rattle.rs_file_parts.specs.Calls.{EndsNamed, EndsNone}
use Rattle.rs_file_parts.specs.Inner.{IsCellNamed, NoCellNamed}
use Rattle.rs_file.specs.Contents.{beside_referents}
use Rattle.rs_file.specs.declared.opened.OpenedFile.{OpenedFile}
use Rattle.rs_file.proofs.Loaded.{same_map}
use Rattle.rs_file.proofs.Parts.{shares_referents}
use Rattle.rs_file_parts.specs.Parts.{HoldsNoParts}
use Rattle.rs_page_owners.proofs.Moving.{same_pages-moves}
use Rattle.rs_pages.specs.PageMap.{PageMap, SamePages}
use Rattle.rs_pages.specs.Store.{Store}
use Rattle.rs_refusal.specs.declared.refusal.Refusal.{Refusal}
use Rattle.rs_refusal.specs.declared.refusal.Refusal.TheVariants as refusal
use Rattle.rs_tree.specs.Calls.{RefusesToRead}
use Rattle.rs_tree.specs.Tree.{IsNoTree}
use Rattle.rs_versioned.proofs.Staying.{held_later}
use Rattle.rs_cell_versions.specs.Versioned.{Standing}
use Rattle.rs_tree.proofs.Lists.{all_at}
use Rattle.rs_versioned.specs.Calls.{IsEnded}
use Rattle.rs_versioned.specs.Records.{ChangesRecords, HoldsRecords}
use Rattle.rs_versioned.specs.Referents.{ReferentRecord, SaysReferent, is_referent_of, kept_referents, referent_form}
use Rattle.rs_versioned.proofs.KeptReferents.{referents_are_kept}
use Rattle.rs_versioned.proofs.Lifting.{said_by, saying}

-- ---- what passes a test

module _ {X : Type 0} (test : X → Bool) where
  kept_in : (xs : List X) (x : X) → Contains xs x → test x ≡ true → Contains (filter test xs) x
  kept_in [] x has passes = absurd (omega (arith, has.1))
  kept_in (y ∷ ys) x (zero, inside, is) passes =
      let first : test y ≡ true = subst (λ z. test z ≡ true) (sym is) passes in
      subst (λ (b : Bool). Contains (cond b (y ∷ filter test ys) (filter test ys)) x) (sym first) (0, omega arith, is)
  kept_in (y ∷ ys) x (suc k, inside, is) passes = by_test (test y) (kept_in ys x (k, omega arith, is) passes) where
    by_test : (b : Bool) → Contains (filter test ys) x → Contains (cond b (y ∷ filter test ys) (filter test ys)) x
    by_test true (j, within, here) = (suc j, omega arith, here)
    by_test false has = has

  kept_was : (xs : List X) (x : X) → Contains (filter test xs) x → Contains xs x × (test x ≡ true)
  kept_was xs x there = (
    All-contains (Contains xs) (filter test xs) x (All-filter test (Contains xs) xs (All-contains_itself xs)) there,
    All-contains (λ y. test y ≡ true) (filter test xs) x (filter_passes test xs) there,
  )

contains_at : {X : Type 0} (xs : List X) (x : X) → Contains xs x → (k : ℕ) × (slice_get xs k ≡ Some x)
contains_at [] x has = absurd (omega (arith, has.1))
contains_at (y ∷ ys) x (zero, inside, is) = (0, ap Some is)
contains_at (y ∷ ys) x (suc k, inside, is) = let rest = contains_at ys x (k, omega arith, is) in (suc rest.0, rest.1)

at_contains : {X : Type 0} (xs : List X) (k : ℕ) (x : X) → slice_get xs k ≡ Some x → Contains xs x
at_contains [] k x is = absurd (cc)
at_contains (y ∷ ys) zero x is = let same : y ≡ x = cc in (0, omega arith, same)
at_contains (y ∷ ys) (suc k) x is = let rest = at_contains ys k x is in (suc rest.0, omega (arith, rest.1), rest.2)

-- ---- living referents

lives : (died : ℕ) → (died == LIVING) ≡ true → died ≡ LIVING
lives died is = grind (arith, nat_tests)

-- a version that comes after all that is accepted sees what lives
seen_where_alive : (route version : ℕ) (one : ReferentRecord) → version < LIVING → one.born ≤ version → one.died ≡ LIVING → one.route ≡ route → is_referent_of version route one ≡ true
seen_where_alive route version one below born living on =
    let first : (one.route == route) ≡ true = grind (arith, nat_tests) in
    let second : nat_le one.born version ≡ true = grind (arith, nat_tests) in
    let third : nat_lt version one.died ≡ true = grind (arith, nat_tests) in
    rw (first, second, third) refl

on_route : (route version : ℕ) (one : ReferentRecord) → is_referent_of version route one ≡ true → one.route ≡ route
on_route route version one is = elim (one.route == route) as (λ b. (one.route == route) ≡ b → (b && (nat_le one.born version && nat_lt version one.died)) ≡ true → one.route ≡ route) [
  | true ↦ λ e t. grind (arith, nat_tests)
  | false ↦ λ e t. absurd (let wrong = t in cc)
] refl is

all_born : (cells : List (List ℕ)) (referents : List ReferentRecord) (accepted : ℕ) → AllZip SaysReferent cells referents → AllByRecursion (IsDated accepted) cells
    → (one : ReferentRecord) → Contains referents one → one.born ≤ accepted
all_born cells referents accepted say dated one has =
    let here = saying SaysReferent cells referents one say has in
    let at = contains_at cells here.cell here.there in
    let old = all_at (IsDated accepted) cells at.0 here.cell dated at.1 in
    omega (arith, old.0, referents_are_kept.born here.cell one here.said)

module _ (map : PageMap) (standing : Standing) (version route : ℕ) (name : List ℕ) (found : List (List ℕ)) (below : version < LIVING)
    (sees : (referents : List ReferentRecord) (used : ℕ → ℕ) (accepted : ℕ) → HoldsRecords kept_referents map standing accepted referents used
    → AllZip SaysReferent found (filter (is_referent_of version route) referents)) where
  -- where no cell has the name, no living referent has
  pub none_named : NoCellNamed found name → (accepted : ℕ) → accepted ≤ version → (referents : List ReferentRecord) (used : ℕ → ℕ) → HoldsRecords kept_referents map standing accepted referents used
      → EndsNone route name referents referents
  none_named none accepted later referents used holds = record {
    none = λ one has on named living.
        let born = all_born holds.cells referents accepted holds.say holds.dated one has in
        let seen = kept_in (is_referent_of version route) referents one has (seen_where_alive route version one below (omega (arith, born, later)) living on) in
        let cell = saying SaysReferent found (filter (is_referent_of version route) referents) one (sees referents used accepted holds) seen in
        let at = contains_at found cell.cell cell.there in
        let died = referents_are_kept.died cell.cell one cell.said in
        let alive : IsTrue (is_living cell.cell) = let is : died_of cell.cell ≡ LIVING = died ∙ living in grind (arith, nat_tests) in
        none.none at.0 cell.cell one at.1 alive cell.said named;
    same = refl;
  }

  -- the referent of the cell that has it
  pub record Named (referents : List ReferentRecord) (cell : List ℕ) : Type 0 where
    pub one : ReferentRecord
    pub says : SaysReferent cell one
    pub there : Contains referents one
    pub route_is : one.route ≡ route
    pub name_is : one.name ≡ name
    pub living : one.died ≡ LIVING

  pub one_named : (place : ℕ) (cell : List ℕ) → slice_get found place ≡ Some cell → IsCellNamed found name place → (accepted : ℕ) (referents : List ReferentRecord) (used : ℕ → ℕ)
      → HoldsRecords kept_referents map standing accepted referents used → Named referents cell
  one_named place cell at is accepted referents used holds =
      let same : is.cell ≡ cell = let other = is.there in cc in
      let said = said_by SaysReferent found (filter (is_referent_of version route) referents) cell (sees referents used accepted holds) (at_contains found place cell at) in
      let was = kept_was (is_referent_of version route) referents said.one said.there in
      let alive : is_living cell ≡ true = subst (λ (c : List ℕ). IsTrue (is_living c)) same is.living in
      let died = referents_are_kept.died cell said.one said.said in
      record {
        one = said.one;
        says = said.said;
        there = was.0;
        route_is = on_route route version said.one was.1;
        name_is = is.named said.one (subst (λ (c : List ℕ). SaysReferent c said.one) (sym same) said.said);
        living = sym died ∙ lives (died_of cell) alive;
      }

  module _ (place : ℕ) (cell : List ℕ) (at : slice_get found place ≡ Some cell) (named : IsCellNamed found name place) (new : PageMap) (is : Standing) (told : Bool)
      (ended : IsEnded kept_referents map new standing is version cell told) where
    -- that referent ends
    pub named_ends : (accepted : ℕ) → accepted ≤ version → ChangesRecords kept_referents map new standing is accepted version (EndsNamed version route name true)
    named_ends accepted later = record {
      each = λ records used others holds shares.
          let it = one_named place cell at named accepted records used holds in
          let become = (ended.changes accepted version it.one later (omega arith) it.says).each records used others holds shares in
          record {
            records = become.records;
            after = become.after;
            holds = become.holds;
            moves = become.moves;
            changed = record {
              one = λ yes. record { one = it.one; there = it.there; route_is = it.route_is; name_is = it.name_is; living = it.living; ended = become.changed };
              none = λ no. absurd (cc);
            };
          };
    }

    -- where it was told that it isn't there, no such file is
    pub named_missing : (file : OpenedFile) → file.referents.working ≡ standing → told ≡ false → HoldsNoParts map file
    named_missing file stands missing = record {
      none = λ accepted contents holds opened.
          let there = subst (λ (s : Standing). HoldsRecords kept_referents map s accepted contents.referents.referents contents.referents.used) (opened.referents ∙ stands) holds.referents in
          let it = one_named place cell at named accepted contents.referents.referents contents.referents.used there in
          let has : told ≡ true = (ended.tells it.one it.says contents.referents.referents contents.referents.used (beside_referents contents) accepted there (shares_referents map accepted contents holds)).1 it.there in
          false≢true (sym missing ∙ has);
    }

  -- where there is none, all stay
  pub none_ends : (mid : PageMap) → SamePages mid map → NoCellNamed found name → (accepted : ℕ) → accepted ≤ version
      → ChangesRecords kept_referents map mid standing standing accepted version (EndsNamed version route name false)
  none_ends mid same none accepted later = record {
    each = λ records used others holds shares.
        record {
          records = records;
          after = used;
          holds = subst (λ (m : PageMap). HoldsRecords kept_referents m standing version records used) (sym (same_map mid map same))
              (held_later kept_referents map standing accepted version records used later holds);
          moves = same_pages-moves map mid used same;
          changed = record { one = λ yes. absurd (cc); none = λ no. none_named none accepted later records used holds };
        };
  }

-- where no tree is there, no such file is
pub no_tree : (map : PageMap) (file : OpenedFile) → IsNoTree referent_form map file.referents.working.root → HoldsNoParts map file
no_tree map file none = record {
  none = λ accepted contents holds opened.
      let there = subst (λ (s : Standing). HoldsRecords kept_referents map s accepted contents.referents.referents contents.referents.used) opened.referents holds.referents in
      none.none there.cells contents.referents.used there.holds.tree;
}

-- why what is read is refused
pub read_refused : (tied : Type 0) (why : Refusal) (old new : Store) (file : OpenedFile) → RefusesToRead tied referent_form file.referents.working.root why old new
    → (why ≡ refusal.OutOfMemory) ⊎ (why ≡ refusal.Disk) ⊎ ((why ≡ refusal.DamagedFile) × (tied → HoldsNoParts old.map file))
read_refused tied why old new file refused = elim refused.cause [
  | inl memory ↦ inl memory
  | inr (inl disk) ↦ inr (inl disk)
  | inr (inr wrong) ↦ inr (inr (wrong.0, λ honest. no_tree old.map file (wrong.1 honest)))
]

-- the cell that was found is the one that has the name
pub cell_lives : (found : List (List ℕ)) (name : List ℕ) (place : ℕ) (cell : List ℕ) → slice_get found place ≡ Some cell → IsCellNamed found name place → IsTrue (is_living cell)
cell_lives found name place cell at named =
    let same : named.cell ≡ cell = let there = named.there in cc in
    subst (λ (c : List ℕ). IsTrue (is_living c)) same named.living

-- The referents of a route end, one after another.
use Rattle.std.proofs.Common.{◌≡◌, ◌<◌, ◌≤◌, ◌+◌, ◌&&◌, ◌==◌, ◌⊎◌, ◌∙◌, inl, inr, ℕ, zero, suc, Bool, true, false, not, cond, nat_le, nat_lt, Some, List, [], ◌∷◌, ◌++◌, drop, filter, get_or, length, map, slice_get, refl, sym, ap, subst, arith}
use Rattle.std.proofs.lemmas.Bool.{eqb-true, false≢true}
use Rattle.std.proofs.lemmas.Bool.Decides.{nat_tests}
use Rattle.std.proofs.lemmas.List.{drop_all}
use Rattle.std.proofs.lemmas.List.Elements.{All-contains, All-from_recursion, Contains-append_cases}
use Rattle.std.proofs.lemmas.List.Sorted.{Contains-permutation, IsPermutation-cons, IsPermutation-filter_both, IsPermutation-map, IsPermutation-middle, IsPermutation-sym, IsPermutation-trans}
use Rattle.std.specs.List.{AllByRecursion, AllZip, Contains}
use Rattle.std.specs.List.Sorted.{IsPermutation}
use Rattle.rs_cell_versions.specs.declared.cell.TheConstants.{LIVING}
use Rattle.rs_cell_versions.specs.Version.{died_of, is_living}
use Rattle.rs_cell_versions.specs.Versioned.{HoldsNone, Standing}
use Rattle.rs_cell_versions.proofs.Permutations.{IsPermutation-rest}
use Rattle.rs_file.proofs.Loaded.{same_map}
use Rattle.rs_page_owners.proofs.Moving.{moves_trans, same_pages-moves}
use Rattle.rs_pages.specs.PageMap.{PageMap, SamePages}
use Rattle.rs_pages.specs.Store.{Store}
use Rattle.rs_refusal.specs.declared.refusal.Refusal.{Refusal}
use Rattle.rs_change_laws.specs.Parts.{EndAll, EndsAllOn}
use Rattle.rs_changes.specs.Ending.{HoldsNoReferents, SaysNoLiving}
use Rattle.rs_refusal.specs.declared.refusal.Refusal.TheVariants as refusal
use Rattle.rs_tree.specs.Calls.{RefusesToRead}
use Rattle.rs_tree.specs.Tree.{IsNoTree}
use Rattle.rs_versioned.specs.Calls.{IsEnded}
use Rattle.rs_versioned.specs.Records.{ChangesRecords, HasEnded, HoldsRecords}
use Rattle.rs_versioned.specs.Referents.{ReferentRecord, SaysReferent, ended_referent, is_referent_of, kept_referents, referent_form}
use Rattle.rs_versioned.proofs.KeptReferents.{referents_are_kept}
use Rattle.rs_versioned.proofs.Present.{IsDatedRecord, held_dated}
use Rattle.rs_versioned.proofs.Staying.{held_later}

-- ---- lists

at_each : {X : Type 0} (P : X → Type 0) (xs : List X) (x : X) → AllByRecursion P xs → Contains xs x → P x
at_each P xs x all there = All-contains P xs x (All-from_recursion P xs all) there

-- what is so of those that pass a test, and of those that don't
each_passing : {X : Type 0} (D P : X → Type 0) (test : X → Bool) → ((x : X) → D x → test x ≡ true → P x) → (xs : List X) → AllByRecursion D xs → AllByRecursion P (filter test xs)
each_passing D P test gives [] all = tt
each_passing D P test gives (x ∷ xs) all = elim (test x) as (λ b. test x ≡ b → AllByRecursion P (cond b (x ∷ filter test xs) (filter test xs))) [
  | true ↦ λ passes. (gives x all.0 passes, each_passing D P test gives xs all.1)
  | false ↦ λ fails. each_passing D P test gives xs all.1
] refl

-- the element at a place is the first of what is left there
left_at : {X : Type 0} (xs : List X) (place : ℕ) (x : X) → slice_get xs place ≡ Some x → drop place xs ≡ x ∷ drop (suc place) xs
left_at [] place x is = absurd (cc)
left_at (y ∷ ys) zero x is = let same : y ≡ x = cc in ap (λ z. z ∷ ys) same
left_at (y ∷ ys) (suc place) x is = left_at ys place x is

-- ---- a referent as numbers

-- all that a referent has
pub key : ReferentRecord → List ℕ
key one = one.route ∷ one.measure ∷ one.born ∷ one.died ∷ one.name

abbrev pub keys : List ReferentRecord → List (List ℕ)
keys = map key

key_tells : (one other : ReferentRecord) → key one ≡ key other → one ≡ other
unfolding key
key_tells one other same = λ i. record { route = get_or (same i) 0 0; name = drop 4 (same i); measure = get_or (same i) 1 0; born = get_or (same i) 2 0; died = get_or (same i) 3 0 }

key_in : (xs : List ReferentRecord) (one : ReferentRecord) → Contains xs one → Contains (keys xs) (key one)
key_in [] one there = absurd (omega (arith, there.1))
key_in (x ∷ xs) one (zero, inside, is) = (0, omega arith, ap key is)
key_in (x ∷ xs) one (suc k, inside, is) = let rest = key_in xs one (k, omega (arith, inside), is) in (suc rest.0, omega (arith, rest.1), rest.2)

key_out : (xs : List ReferentRecord) (one : ReferentRecord) → Contains (keys xs) (key one) → Contains xs one
key_out [] one there = absurd (omega (arith, there.1))
key_out (x ∷ xs) one (zero, inside, is) = (0, omega arith, key_tells x one is)
key_out (x ∷ xs) one (suc k, inside, is) = let rest = key_out xs one (k, omega (arith, inside), is) in (suc rest.0, omega (arith, rest.1), rest.2)

moved_there : (xs ys : List ReferentRecord) → IsPermutation (keys xs) (keys ys) → (one : ReferentRecord) → Contains xs one → Contains ys one
moved_there xs ys moved one there = key_out ys one (Contains-permutation (keys xs) (keys ys) (key one) moved (key_in xs one there))

-- ---- some have ended

abbrev pub IsLivingOn : ℕ → ReferentRecord → Type 0
IsLivingOn route one = (one.route ≡ route) × (one.died ≡ LIVING)

-- those of the first cells have ended; those of the other cells live, and no others on the route do
pub record EndsFirst (version route : ℕ) (cells : List (List ℕ)) (place : ℕ) (old now : List ReferentRecord) : Type 0 where
  pub gone : List ReferentRecord
  pub are_on : (one : ReferentRecord) → Contains gone one → IsLivingOn route one
  pub ended : EndAll version gone old now
  pub todo : List ReferentRecord
  pub done : List ReferentRecord
  pub say : AllZip SaysReferent (drop place cells) todo
  pub live : AllByRecursion (IsLivingOn route) todo
  pub over : AllByRecursion (λ one. IsLivingOn route one → ⊥) done
  pub parts : IsPermutation (keys now) (keys (todo ++ done))

end_later : (version : ℕ) (gone : List ReferentRecord) (one : ReferentRecord) (old mid now : List ReferentRecord) → EndAll version gone old mid → HasEnded kept_referents version one mid now
    → EndAll version (gone ++ one ∷ []) old now
end_later version [] one old mid now end last = (now, subst (λ l. HasEnded kept_referents version one l now) end last, refl)
end_later version (g ∷ gone) one old mid now end last = (end.0, end.1, end_later version gone one end.0 mid now end.2 last)

only_there : (one x : ReferentRecord) → Contains (one ∷ []) x → one ≡ x
only_there one x (zero, inside, is) = is
only_there one x (suc k, inside, is) = absurd (omega (arith, inside))

-- what is left once one has ended
record Left (route : ℕ) (rest done now : List ReferentRecord) : Type 0 where
  done_now : List ReferentRecord
  over : AllByRecursion (λ one. IsLivingOn route one → ⊥) done_now
  parts : IsPermutation (keys now) (keys (rest ++ done_now))

module _ (version route : ℕ) (below : version < LIVING) where
  end_first : (one : ReferentRecord) (rest done now next : List ReferentRecord) → AllByRecursion (λ one. IsLivingOn route one → ⊥) done
      → IsPermutation (keys now) (keys (one ∷ (rest ++ done))) → HasEnded kept_referents version one now next → Left route rest done next
  end_first one rest done now next over parts (inl missing) =
      absurd (missing.missing (moved_there (one ∷ (rest ++ done)) now (IsPermutation-sym (keys now) (keys (one ∷ (rest ++ done))) parts) one (0, omega arith, refl)))
  end_first one rest done now next over parts (inr gone) =
      let all = rest ++ done in
      let last = ended_referent version one in
      let were : IsPermutation (keys now) (keys (one ∷ gone.rest)) = IsPermutation-map key now (one ∷ gone.rest) gone.were in
      let kept : IsPermutation (keys gone.rest) (keys all) = IsPermutation-rest (key one) (keys gone.rest) (keys all)
      (IsPermutation-trans (keys (one ∷ gone.rest)) (keys now) (keys (one ∷ all)) (IsPermutation-sym (keys now) (keys (one ∷ gone.rest)) were) parts) in
      let as_rest : IsPermutation next gone.rest → Left route rest done next = λ same. record {
        done_now = done;
        over = over;
        parts = IsPermutation-trans (keys next) (keys gone.rest) (keys all) (IsPermutation-map key next gone.rest same) kept;
      } in
      elim gone.are [
        | inl late ↦ elim late.1 [
          | inl was ↦ as_rest was.same
          | inr come ↦ record {
            done_now = last ∷ done;
            over = (λ lives. absurd (omega (arith, lives.1, below)), over);
            parts = IsPermutation-trans (keys next) (keys (last ∷ gone.rest)) (keys (rest ++ last ∷ done)) (IsPermutation-map key next (last ∷ gone.rest) come.more)
                (IsPermutation-trans (keys (last ∷ gone.rest)) (keys (last ∷ all)) (keys (rest ++ last ∷ done)) (IsPermutation-cons (key last) (keys gone.rest) (keys all) kept)
                (IsPermutation-map key (last ∷ all) (rest ++ last ∷ done) (IsPermutation-sym (rest ++ last ∷ done) (last ∷ all) (IsPermutation-middle rest last done))));
          }
        ]
        | inr early ↦ as_rest early.1
      ]

  -- the next one, which lives, and what is left beside it
  pub record Split (cells : List (List ℕ)) (place : ℕ) (cell : List ℕ) (now : List ReferentRecord) : Type 0 where
    pub one : ReferentRecord
    pub says : SaysReferent cell one
    pub lives : IsLivingOn route one
    pub there : Contains now one
    pub rest : List ReferentRecord
    pub done : List ReferentRecord
    pub say : AllZip SaysReferent (drop (place + 1) cells) rest
    pub live : AllByRecursion (IsLivingOn route) rest
    pub over : AllByRecursion (λ one. IsLivingOn route one → ⊥) done
    pub parts : IsPermutation (keys now) (keys (one ∷ (rest ++ done)))

  split_todo : (cells : List (List ℕ)) (place : ℕ) (cell : List ℕ) (now done todo : List ReferentRecord) → AllZip SaysReferent (cell ∷ drop (place + 1) cells) todo → AllByRecursion (IsLivingOn route) todo
      → AllByRecursion (λ one. IsLivingOn route one → ⊥) done → IsPermutation (keys now) (keys (todo ++ done)) → Split cells place cell now
  split_todo cells place cell now done [] say live over parts = absurd say
  split_todo cells place cell now done (one ∷ rest) say live over parts = record {
    one = one;
    says = say.0;
    lives = live.0;
    there = moved_there (one ∷ (rest ++ done)) now (IsPermutation-sym (keys now) (keys (one ∷ (rest ++ done))) parts) one (0, omega arith, refl);
    rest = rest;
    done = done;
    say = say.1;
    live = live.1;
    over = over;
    parts = parts;
  }

  module _ (cells : List (List ℕ)) (place : ℕ) (cell : List ℕ) (at : slice_get cells place ≡ Some cell) (old now : List ReferentRecord) (first : EndsFirst version route cells place old now) where
    pub split : Split cells place cell now
    split =
        let later : suc place ≡ place + 1 = omega arith in
        split_todo cells place cell now first.done first.todo
        (subst (λ n. AllZip SaysReferent (cell ∷ drop n cells) first.todo) later (subst (λ l. AllZip SaysReferent l first.todo) (left_at cells place cell at) first.say)) first.live first.over first.parts

    pub ends_next : (next : List ReferentRecord) → HasEnded kept_referents version split.one now next → EndsFirst version route cells (place + 1) old next
    ends_next next last =
        let left = end_first split.one split.rest split.done now next split.over split.parts last in
        record {
          gone = first.gone ++ split.one ∷ [];
          are_on = λ one there. elim (Contains-append_cases first.gone (split.one ∷ []) one there) [
            | inl early ↦ first.are_on one early
            | inr late ↦ subst (IsLivingOn route) (only_there split.one one late) split.lives
          ];
          ended = end_later version first.gone split.one old now next first.ended last;
          todo = split.rest;
          done = left.done_now;
          say = split.say;
          live = split.live;
          over = left.over;
          parts = left.parts;
        }

  -- at the end all have ended
  pub all_ended : (cells : List (List ℕ)) (place : ℕ) (old now : List ReferentRecord) → length cells ≤ place → EndsFirst version route cells place old now → EndsAllOn version route old now
  all_ended cells place old now past first = record {
    gone = first.gone;
    are_on = first.are_on;
    ended = first.ended;
    none_left = λ one there on lives. over_all first.todo (subst (λ l. AllZip SaysReferent l first.todo) (drop_all place cells past) first.say) first.parts one there (on, lives);
  } where
    over_all : (todo : List ReferentRecord) → AllZip SaysReferent [] todo → IsPermutation (keys now) (keys (todo ++ first.done)) → (one : ReferentRecord) → Contains now one → IsLivingOn route one → ⊥
    over_all [] say parts one there lives = at_each (λ one. IsLivingOn route one → ⊥) first.done one first.over (moved_there now first.done parts one there) lives
    over_all (t ∷ todo) say parts one there lives = absurd say

  -- ---- at the beginning

  living_seen : (accepted : ℕ) → accepted ≤ version → (one : ReferentRecord) → IsDatedRecord kept_referents accepted one → is_referent_of version route one ≡ true → IsLivingOn route one
  living_seen accepted later one dated seen = elim (one.route == route) as (λ b. (one.route == route) ≡ b → (b && (nat_le one.born version && nat_lt version one.died)) ≡ true → IsLivingOn route one) [
    | false ↦ λ apart seen. absurd (false≢true seen)
    | true ↦ λ same seen. (
      eqb-true one.route route same,
      elim dated.1 [
        | inl lives ↦ lives
        | inr died ↦ absurd (false≢true (sym (unseen (nat_le one.born version) (grind (arith, nat_tests)) seen) ∙ refl))
      ],
    )
  ] refl seen where
    unseen : (b : Bool) → nat_lt version one.died ≡ false → (b && nat_lt version one.died) ≡ true → true ≡ false
    unseen true fails seen = sym seen ∙ fails
    unseen false fails seen = sym seen

  unseen_over : (accepted : ℕ) → accepted ≤ version → (one : ReferentRecord) → IsDatedRecord kept_referents accepted one → not (is_referent_of version route one) ≡ true → IsLivingOn route one → ⊥
  unseen_over accepted later one dated unseen lives =
      let first : (one.route == route) ≡ true = let on = lives.0 in grind (arith, nat_tests) in
      let second : nat_le one.born version ≡ true = let born = dated.0 in grind (arith, nat_tests) in
      let third : nat_lt version one.died ≡ true = let living = lives.1 in grind (arith, nat_tests) in
      let seen : is_referent_of version route one ≡ true = rw (first, second, third) refl in
      false≢true (sym (ap not seen) ∙ unseen)

  module _ (map : PageMap) (standing : Standing) (cells : List (List ℕ))
      (sees : (referents : List ReferentRecord) (used : ℕ → ℕ) (accepted : ℕ) → HoldsRecords kept_referents map standing accepted referents used → AllZip SaysReferent cells (filter (is_referent_of version route) referents)) where
    begins : (accepted : ℕ) → accepted ≤ version → (referents : List ReferentRecord) (used : ℕ → ℕ) → HoldsRecords kept_referents map standing accepted referents used → EndsFirst version route cells 0 referents referents
    begins accepted later referents used holds =
        let seen = is_referent_of version route in
        let other : ReferentRecord → Bool = λ one. not (is_referent_of version route one) in
        let dated = held_dated kept_referents referents_are_kept map standing accepted referents used holds in
        record {
          gone = [];
          are_on = λ one there. absurd (omega (arith, there.1));
          ended = refl;
          todo = filter seen referents;
          done = filter other referents;
          say = sees referents used accepted holds;
          live = each_passing (IsDatedRecord kept_referents accepted) (IsLivingOn route) seen (living_seen accepted later) referents dated;
          over = each_passing (IsDatedRecord kept_referents accepted) (λ one. IsLivingOn route one → ⊥) other (unseen_over accepted later) referents dated;
          parts = IsPermutation-map key referents (filter seen referents ++ filter other referents) (IsPermutation-filter_both seen other (λ one. refl) referents);
        }

    pub ends_none : (mid : PageMap) → SamePages mid map → (accepted : ℕ) → accepted ≤ version → ChangesRecords kept_referents map mid standing standing accepted version (EndsFirst version route cells 0)
    ends_none mid same accepted later = record {
      each = λ records used others holds shares. record {
        records = records;
        after = used;
        holds = subst (λ (m : PageMap). HoldsRecords kept_referents m standing version records used) (sym (same_map mid map same)) (held_later kept_referents map standing accepted version records used later holds);
        moves = same_pages-moves map mid used same;
        changed = begins accepted later records used holds;
      };
    }

  module _ (cells : List (List ℕ)) (place : ℕ) (cell : List ℕ) (at : slice_get cells place ≡ Some cell) (old mid : PageMap) (was between : Standing)
      (first : (accepted : ℕ) → accepted ≤ version → ChangesRecords kept_referents old mid was between accepted version (EndsFirst version route cells place)) where
    pub ends_one : (new : PageMap) (is : Standing)
        → ((accepted : ℕ) (one : ReferentRecord) → accepted ≤ version → SaysReferent cell one → ChangesRecords kept_referents mid new between is accepted version (HasEnded kept_referents version one))
        → (accepted : ℕ) → accepted ≤ version → ChangesRecords kept_referents old new was is accepted version (EndsFirst version route cells (place + 1))
    ends_one new is ends accepted later = record {
      each = λ records used others holds shares.
          let half = (first accepted later).each records used others holds shares in
          let one = split cells place cell at records half.records half.changed in
          let whole = (ends version one.one (omega arith) one.says).each half.records half.after others half.holds (half.moves.beside others shares).shares in
          record {
            records = whole.records;
            after = whole.after;
            holds = whole.holds;
            moves = moves_trans old mid new used half.after whole.after half.moves whole.moves;
            changed = ends_next cells place cell at records half.records half.changed whole.records whole.changed;
          };
    }

    -- where the cell says no living referent, none lay there
    pub none_said : SaysNoLiving mid between cell → HoldsNoReferents old was version
    none_said none = record {
      none = λ accepted referents used others later holds shares.
          let half = (first accepted later).each referents used others holds shares in
          let one = split cells place cell at referents half.records half.changed in
          none.none version half.records half.after others one.one half.holds (half.moves.beside others shares).shares one.says one.there one.lives.1;
    }

  pub ends_all : (cells : List (List ℕ)) (place : ℕ) (old new : PageMap) (was is : Standing) → length cells ≤ place → (accepted : ℕ)
      → ChangesRecords kept_referents old new was is accepted version (EndsFirst version route cells place) → ChangesRecords kept_referents old new was is accepted version (EndsAllOn version route)
  ends_all cells place old new was is past accepted changes = record {
    each = λ records used others holds shares.
        let whole = changes.each records used others holds shares in
        record { records = whole.records; after = whole.after; holds = whole.holds; moves = whole.moves; changed = all_ended cells place records whole.records past whole.changed };
  }

-- ---- one cell

-- a cell that doesn't live says no living referent
pub not_living : (map : PageMap) (standing : Standing) (cell : List ℕ) → is_living cell ≡ false → SaysNoLiving map standing cell
not_living map standing cell over = record {
  none = λ accepted referents used others one holds shares says there lives.
      let died = referents_are_kept.died cell one says in
      let is : died_of cell ≡ LIVING = died ∙ lives in
      let alive : is_living cell ≡ true = grind (arith, nat_tests) in
      false≢true (sym over ∙ alive);
}

pub no_cells : (map : PageMap) (standing : Standing) (cell : List ℕ) → HoldsNone referent_form map standing → SaysNoLiving map standing cell
no_cells map standing cell none = record { none = λ accepted referents used others one holds shares says there lives. none.none holds.cells used others holds.holds shares }

-- one that wasn't there says none
pub not_there : (version : ℕ) (map new : PageMap) (standing is : Standing) (cell : List ℕ) (found : Bool) → IsEnded kept_referents map new standing is version cell found → found ≡ false → SaysNoLiving map standing cell
not_there version map new standing is cell found ends missing = record {
  none = λ accepted referents used others one holds shares says there lives.
      let has : found ≡ true = (ends.tells one says referents used others accepted holds shares).1 there in
      false≢true (sym missing ∙ has);
}

-- where there is no tree, there are no referents
no_tree_there : (map : PageMap) (standing : Standing) (version : ℕ) → IsNoTree referent_form map standing.root → HoldsNoReferents map standing version
no_tree_there map standing version none = record { none = λ accepted referents used others later holds shares. none.none holds.cells used holds.holds.tree }

-- why their cells aren't read
pub reading_refused : (tied : Type 0) (why : Refusal) (old new : Store) (standing : Standing) (version : ℕ) → RefusesToRead tied referent_form standing.root why old new
    → (why ≡ refusal.OutOfMemory) ⊎ (why ≡ refusal.Disk) ⊎ ((why ≡ refusal.DamagedFile) × (tied → HoldsNoReferents old.map standing version))
reading_refused tied why old new standing version refused = elim refused.cause [
  | inl memory ↦ inl memory
  | inr (inl disk) ↦ inr (inl disk)
  | inr (inr wrong) ↦ inr (inr (wrong.0, λ honest. no_tree_there old.map standing version (wrong.1 honest)))
]

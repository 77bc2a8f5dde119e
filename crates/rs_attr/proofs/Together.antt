-- A table's indexes, one after the other and together.
use Rattle.std.proofs.Common.{◌≡◌, ◌<◌, ◌≤◌, ◌+◌, ℕ, zero, suc, List, [], ◌∷◌, ◌++◌, length, take, drop, get_or, set, refl, sym, ap, ◌∙◌, subst, arith}
use Rattle.std.proofs.lemmas.List.{drop-set-lt, drop_all, take_all}
use Rattle.std.proofs.Math.Seq.{drop-cons, take-suc-set}
use Rattle.std.specs.List.{AllByRecursion}
use Rattle.rs_attr.specs.Entries.{AreCells, ChangesIndex, Field, HoldsIndex, HoldsNoIndex}
use Rattle.rs_attr.specs.Inner.{BecomeIndexes, ChangeIndexes, HoldNoIndexes}
use Rattle.rs_attr.specs.Tables.{HoldIndexes, IndexState, all_of, kept_parts}
use Rattle.rs_attr.proofs.Placing.{all_of-append, all_of-cons, keeps_part, kept_indexes}
use Rattle.rs_page_owners.specs.Counts.{◌&◌}
use Rattle.rs_page_owners.specs.Owners.{Moves, Shares}
use Rattle.rs_page_owners.proofs.Moving.{moves_part, moves_same, moves_trans, pages_kept, shares_same}
use Rattle.rs_pages.specs.PageMap.{PageMap}

-- where nothing changes, nothing moves
pub moves_none : (pages : PageMap) (used : ℕ → ℕ) → Moves pages pages used used
moves_none pages used = record {
  beside = λ others shares. record {
    shares = shares;
    keeps = record { pages = λ n own. refl; no_fewer = omega arith; catalogue = refl; catalogue_length = refl };
  };
}

-- one index more
pub one_more : (pages : PageMap) (indexes : List IndexState) (index : IndexState) (cells : List (List ℕ)) (uses : List (ℕ → ℕ)) (used : ℕ → ℕ) → HoldIndexes pages indexes cells uses
    → HoldsIndex index.field pages index.working cells used → HoldIndexes pages (indexes ++ index ∷ []) cells (uses ++ used ∷ [])
one_more pages [] index cells [] used hold last = (last, tt)
one_more pages [] index cells (u ∷ us) used hold last = absurd hold
one_more pages (x ∷ xs) index cells [] used hold last = absurd hold
one_more pages (x ∷ xs) index cells (u ∷ us) used hold last = (hold.0, one_more pages xs index cells us used hold.1 last)

-- the first indexes have the entries of changed cells now and the last those of the cells still, and their pages have moved
-- beside those of any other owners
pub record BecomePartly (old new : PageMap) (before : ℕ → ℕ) (done left : List IndexState) (cells changed : List (List ℕ)) : Type 0 where
  pub firsts : List (ℕ → ℕ)
  pub lasts : List (ℕ → ℕ)
  pub first : HoldIndexes new done changed firsts
  pub last : HoldIndexes new left cells lasts
  pub moves : Moves old new before (all_of firsts & all_of lasts)

-- where indexes of some cells lie there, whose pages are shared with other owners and a free list, those of changed cells have
-- taken the place of the first of them
pub record ChangePartly (old new : PageMap) (were done left : List IndexState) (width : ℕ) (change : List (List ℕ) → List (List ℕ)) : Type 0 where
  pub each : (cells : List (List ℕ)) (uses : List (ℕ → ℕ)) (others : ℕ → ℕ) → AreCells width cells → HoldIndexes old were cells uses
      → Shares old (all_of uses & others) → BecomePartly old new (all_of uses) done left cells (change cells)

module _ (old mid : PageMap) (were done left : List IndexState) (index : IndexState) (width : ℕ) (change : List (List ℕ) → List (List ℕ)) where
  -- the next index changes
  pub partly_next : (new : PageMap) (now : IndexState) → index.field.cell_width ≡ width → now.field ≡ index.field → ChangePartly old mid were done (index ∷ left) width change
      → ChangesIndex index.field mid new index.working now.working change → ChangePartly old new were (done ++ now ∷ []) left width change
  partly_next new now wide field partly changes = record {
    each = λ cells uses others are hold shares.
        let half = partly.each cells uses others are hold shares in
        step cells uses others half.firsts half.lasts are (half.moves.beside others shares).shares half.first half.last half.moves;
  } where
    step : (cells : List (List ℕ)) (uses : List (ℕ → ℕ)) (others : ℕ → ℕ) (firsts lasts : List (ℕ → ℕ)) → AreCells width cells → Shares mid ((all_of firsts & all_of lasts) & others)
        → HoldIndexes mid done (change cells) firsts → HoldIndexes mid (index ∷ left) cells lasts → Moves old mid (all_of uses) (all_of firsts & all_of lasts)
        → BecomePartly old new (all_of uses) (done ++ now ∷ []) left cells (change cells)
    step cells uses others firsts [] are shares first last moves = absurd last
    step cells uses others firsts (u ∷ us) are shares first last moves =
        let rest : ℕ → ℕ = all_of firsts & all_of us in
        let apart : Shares mid (u & (rest & others)) =
        shares_same mid ((all_of firsts & all_of (u ∷ us)) & others) (u & (rest & others)) (λ n. omega (arith, all_of-cons u us n)) shares in
        let becomes = changes.each cells u (rest & others) (subst (λ (w : ℕ). AreCells w cells) (sym wide) are) last.0 apart in
        let keeps = pages_kept (rest & others) mid new (becomes.moves.beside (rest & others) apart).keeps in
        record {
          firsts = firsts ++ becomes.after ∷ [];
          lasts = us;
          first = one_more new done now (change cells) firsts becomes.after
              (kept_indexes mid new done (change cells) firsts (keeps_part (all_of firsts) (rest & others) mid new (λ n own. omega arith) keeps) first)
              (subst (λ (f : Field). HoldsIndex f new now.working (change cells) becomes.after) (sym field) becomes.holds);
          last = kept_indexes mid new left cells us (keeps_part (all_of us) (rest & others) mid new (λ n own. omega arith) keeps) last.1;
          moves = moves_trans old mid new (all_of uses) (all_of firsts & all_of (u ∷ us)) (all_of (firsts ++ becomes.after ∷ []) & all_of us) moves
              (moves_same mid new (u & rest) (becomes.after & rest) (all_of firsts & all_of (u ∷ us)) (all_of (firsts ++ becomes.after ∷ []) & all_of us)
              (λ n. omega (arith, all_of-cons u us n))
              (λ n. omega (arith, all_of-append firsts (becomes.after ∷ []) n, all_of-cons becomes.after [] n))
              (moves_part mid new u becomes.after rest becomes.moves));
        }

  -- no such indexes were there where the next one isn't
  pub partly_missing : ChangePartly old mid were done (index ∷ left) width change → HoldsNoIndex index.field mid index.working → HoldNoIndexes old were width
  partly_missing partly missing = record {
    none = λ cells uses others are hold shares.
        let half = partly.each cells uses others are hold shares in
        step cells others half.firsts half.lasts (half.moves.beside others shares).shares half.last;
  } where
    step : (cells : List (List ℕ)) (others : ℕ → ℕ) (firsts lasts : List (ℕ → ℕ)) → Shares mid ((all_of firsts & all_of lasts) & others) → HoldIndexes mid (index ∷ left) cells lasts → ⊥
    step cells others firsts [] shares last = last
    step cells others firsts (u ∷ us) shares last =
        let rest : ℕ → ℕ = all_of firsts & all_of us in
        missing.none cells u (rest & others) last.0
        (shares_same mid ((all_of firsts & all_of (u ∷ us)) & others) (u & (rest & others)) (λ n. omega (arith, all_of-cons u us n)) shares)

module _ (old : PageMap) (were : List IndexState) (width : ℕ) (change : List (List ℕ) → List (List ℕ)) where
  -- none has changed yet
  pub partly_none : ChangePartly old old were [] were width change
  partly_none = record {
    each = λ cells uses others are hold shares. record {
      firsts = [];
      lasts = uses;
      first = tt;
      last = hold;
      moves = moves_same old old (all_of uses) (all_of uses) (all_of uses) (all_of [] & all_of uses) (λ n. refl) (λ n. omega arith) (moves_none old (all_of uses));
    };
  }

  -- all have changed
  pub partly_all : (new : PageMap) (are : List IndexState) → ChangePartly old new were are [] width change → ChangeIndexes old new were are width change
  partly_all new are partly = record {
    each = λ cells uses others wide hold shares.
        let half = partly.each cells uses others wide hold shares in
        step cells uses half.firsts half.lasts half.first half.last half.moves;
  } where
    step : (cells : List (List ℕ)) (uses firsts lasts : List (ℕ → ℕ)) → HoldIndexes new are (change cells) firsts → HoldIndexes new [] cells lasts → Moves old new (all_of uses) (all_of firsts & all_of lasts)
        → BecomeIndexes old new (all_of uses) are (change cells)
    step cells uses firsts [] first last moves = record {
      afters = firsts;
      hold = first;
      moves = moves_same old new (all_of uses) (all_of firsts & all_of []) (all_of uses) (all_of firsts) (λ n. refl) (λ n. omega arith) moves;
    }
    step cells uses firsts (u ∷ us) first last moves = absurd last

-- indexes of which the same is kept are of cells of the same width
abbrev pub AreOf : ℕ → List IndexState → Type 0
AreOf width = AllByRecursion (λ index. index.field.cell_width ≡ width)

parts_of : (width : ℕ) (indexes : List IndexState) → AreOf width indexes → AllByRecursion (λ (part : Field × ℕ). part.0.cell_width ≡ width) (kept_parts indexes)
parts_of width [] all = tt
parts_of width (x ∷ xs) all = (all.0, parts_of width xs all.1)

of_parts : (width : ℕ) (indexes : List IndexState) → AllByRecursion (λ (part : Field × ℕ). part.0.cell_width ≡ width) (kept_parts indexes) → AreOf width indexes
of_parts width [] all = tt
of_parts width (x ∷ xs) all = (all.0, of_parts width xs all.1)

pub still_of : (width : ℕ) (were are : List IndexState) → kept_parts are ≡ kept_parts were → AreOf width were → AreOf width are
still_of width were are same all =
    of_parts width are (subst (AllByRecursion (λ (part : Field × ℕ). part.0.cell_width ≡ width)) (sym same) (parts_of width were all))

one_of : (width : ℕ) (indexes : List IndexState) (place : ℕ) (other : IndexState) → place < length indexes → AreOf width indexes → (get_or indexes place other).field.cell_width ≡ width
one_of width [] place other below all = absurd (omega arith)
one_of width (x ∷ xs) zero other below all = all.0
one_of width (x ∷ xs) (suc n) other below all = one_of width xs n other (omega arith) all.1

pub wide_at : (width : ℕ) (were are : List IndexState) (place : ℕ) (other : IndexState) → place < length are → kept_parts are ≡ kept_parts were → AreOf width were → (get_or are place other).field.cell_width ≡ width
wide_at width were are place other below same all = one_of width are place other below (still_of width were are same all)

-- an index of which the same is kept
kept_set : (indexes : List IndexState) (place : ℕ) (now other : IndexState) → place < length indexes → now.field ≡ (get_or indexes place other).field
    → now.committed ≡ (get_or indexes place other).committed → kept_parts (set indexes place now) ≡ kept_parts indexes
kept_set [] place now other below field committed = refl
kept_set (x ∷ xs) zero now other below field committed =
    ap (λ (f : Field). (f, now.committed) ∷ kept_parts xs) field ∙ ap (λ (n : ℕ). (x.field, n) ∷ kept_parts xs) committed
kept_set (x ∷ xs) (suc n) now other below field committed =
    ap (λ (l : List (Field × ℕ)). (x.field, x.committed) ∷ l) (kept_set xs n now other (omega arith) field committed)

pub kept_next : (were are : List IndexState) (place : ℕ) (now other : IndexState) → place < length are → now.field ≡ (get_or are place other).field
    → now.committed ≡ (get_or are place other).committed → kept_parts are ≡ kept_parts were → kept_parts (set are place now) ≡ kept_parts were
kept_next were are place now other below field committed same = kept_set are place now other below field committed ∙ same

-- no index so far has a root
abbrev pub HaveNoRoots : List IndexState → Type 0
HaveNoRoots = AllByRecursion (λ index. index.working ≡ 0)

rootless_set : (indexes : List IndexState) (place : ℕ) (now : IndexState) → place < length indexes → now.working ≡ 0 → HaveNoRoots (take place indexes) → HaveNoRoots (take (suc place) (set indexes place now))
rootless_set [] place now below none all = absurd (omega arith)
rootless_set (x ∷ xs) zero now below none all = (none, tt)
rootless_set (x ∷ xs) (suc n) now below none all = (all.0, rootless_set xs n now (omega arith) none all.1)

pub rootless_next : (indexes : List IndexState) (place : ℕ) (now : IndexState) → place < length indexes → now.working ≡ 0 → HaveNoRoots (take place indexes)
    → HaveNoRoots (take (place + 1) (set indexes place now))
rootless_next indexes place now below none all =
    let next : suc place ≡ place + 1 = omega arith in
    subst (λ n. HaveNoRoots (take n (set indexes place now))) next (rootless_set indexes place now below none all)

module _ (old mid : PageMap) (were all : List IndexState) (place : ℕ) (other : IndexState) (width : ℕ) (change : List (List ℕ) → List (List ℕ)) (below : place < length all) (wide : (get_or all place other).field.cell_width ≡ width)
    (partly : ChangePartly old mid were (take place all) (drop place all) width change) where
  part_here : ChangePartly old mid were (take place all) (get_or all place other ∷ drop (suc place) all) width change
  part_here = subst (λ (l : List IndexState). ChangePartly old mid were (take place all) l width change) (drop-cons all place other below) partly

  -- the index at a place changes
  pub partly_at : (new : PageMap) (now : IndexState) → now.field ≡ (get_or all place other).field
      → ChangesIndex (get_or all place other).field mid new (get_or all place other).working now.working change
      → ChangePartly old new were (take (place + 1) (set all place now)) (drop (place + 1) (set all place now)) width change
  partly_at new now field changes =
      let next : suc place ≡ place + 1 = omega arith in
      let first : take place all ++ now ∷ [] ≡ take (place + 1) (set all place now) = sym (take-suc-set all place now below) ∙ ap (λ n. take n (set all place now)) next in
      let last : drop (suc place) all ≡ drop (place + 1) (set all place now) = sym (drop-set-lt (suc place) all place now (omega arith)) ∙ ap (λ n. drop n (set all place now)) next in
      subst (λ (l : List IndexState). ChangePartly old new were l (drop (place + 1) (set all place now)) width change) first
      (subst (λ (l : List IndexState). ChangePartly old new were (take place all ++ now ∷ []) l width change) last
      (partly_next old mid were (take place all) (drop (suc place) all) (get_or all place other) width change new now wide field part_here changes))

  -- the index at a place isn't there
  pub missing_at : HoldsNoIndex (get_or all place other).field mid (get_or all place other).working → HoldNoIndexes old were width
  missing_at = partly_missing old mid were (take place all) (drop (suc place) all) (get_or all place other) width change part_here

-- there is no further index
pub partly_done : (old new : PageMap) (were are : List IndexState) (place width : ℕ) (change : List (List ℕ) → List (List ℕ)) → length are ≤ place
    → ChangePartly old new were (take place are) (drop place are) width change → ChangeIndexes old new were are width change
partly_done old new were are place width change last partly =
    partly_all old were width change new are
    (subst (λ (l : List IndexState). ChangePartly old new were are l width change) (drop_all place are last)
    (subst (λ (l : List IndexState). ChangePartly old new were l (drop place are) width change) (take_all place are last) partly))

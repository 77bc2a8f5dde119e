-- Changes of a table in pages, one after another.
use Rattle.std.proofs.Common.{◌≡◌, ◌+◌, ℕ, zero, suc, Some, List, [], ◌∷◌, ◌++◌, take, slice_get, append_assoc, refl, sym, ap, ◌∙◌, subst, arith}
use Rattle.std.specs.List.{AllByRecursion, AllZip}
use Rattle.std.specs.List.Sorted.{IsPermutation}
use Rattle.rs_attr.specs.Tables.{ChangesTable, HoldsNoTable, HoldsTable, IndexState, all_of}
use Rattle.rs_attr.proofs.Placing.{kept_table, later_table}
use Rattle.rs_cell_versions.specs.Versioned.{Standing}
use Rattle.rs_cell_versions.specs.declared.cell.TheConstants.{LIVING}
use Rattle.rs_page_owners.specs.Counts.{◌&◌}
use Rattle.rs_page_owners.specs.Owners.{KeepsPages, Shares}
use Rattle.rs_page_owners.proofs.Moving.{moves_trans, same_pages-moves}
use Rattle.rs_pages.specs.PageMap.{PageMap, SamePages}
use Rattle.rs_tree.proofs.Lists.{take_next}
use Rattle.rs_value.specs.declared.column.ColumnType.{ColumnType}
use Rattle.rs_versioned.specs.Events.{Event, SaysEvent, kept_events}
use Rattle.rs_versioned.specs.Records.{HasEnded}
use Rattle.rs_table_changes.specs.Calls.{HoldsNoTableBy}
use Rattle.rs_table_changes.specs.Chains.{EndAll}
use Rattle.rs_table_changes.specs.Inner.{HoldsNoTableWith}
use Rattle.rs_table_changes.proofs.GiveWay.{all_ended, end_next}

-- a list in which an element of another stands at its place
pub record Parts {X Y : Type 0} (R : X → Y → Type 0) (xs : List X) (place : ℕ) (x : X) (ys : List Y) : Type 0 where
  pub front : List Y
  pub one : Y
  pub back : List Y
  pub is : ys ≡ front ++ one ∷ back
  pub say : AllZip R (take place xs) front
  pub says : R x one

pub parts_of : {X Y : Type 0} (R : X → Y → Type 0) (xs : List X) (place : ℕ) (x : X) (ys : List Y) → slice_get xs place ≡ Some x → AllZip R xs ys → Parts R xs place x ys
parts_of R [] place x ys there all = absurd (cc)
parts_of R (z ∷ xs) place x [] there all = absurd all
parts_of R (z ∷ xs) zero x (y ∷ ys) there all =
    let same : z ≡ x = cc in record { front = []; one = y; back = ys; is = refl; say = tt; says = subst (λ w. R w y) same all.0 }
parts_of R (z ∷ xs) (suc k) x (y ∷ ys) there all =
    let rest = parts_of R xs k x ys there all.1 in
    record { front = y ∷ rest.front; one = rest.one; back = rest.back; is = ap (λ l. y ∷ l) rest.is; say = (all.0, rest.say); says = rest.says }

-- the last of cells that say events says the last of them
pub record Ends {X Y : Type 0} (R : X → Y → Type 0) (xs : List X) (x : X) (ys : List Y) : Type 0 where
  pub front : List Y
  pub last : Y
  pub is : ys ≡ front ++ last ∷ []
  pub say : AllZip R xs front
  pub says : R x last

pub ends_of : {X Y : Type 0} (R : X → Y → Type 0) (xs : List X) (x : X) (ys : List Y) → AllZip R (xs ++ x ∷ []) ys → Ends R xs x ys
ends_of R [] x [] all = absurd all
ends_of R [] x (y ∷ []) all = record { front = []; last = y; is = refl; say = tt; says = all.0 }
ends_of R [] x (y ∷ z ∷ ys) all = absurd all.1
ends_of R (w ∷ xs) x [] all = absurd all
ends_of R (w ∷ xs) x (y ∷ ys) all =
    let rest = ends_of R xs x ys all.1 in record { front = y ∷ rest.front; last = rest.last; is = ap (λ l. y ∷ l) rest.is; say = (all.0, rest.say); says = rest.says }

all_before : (P : Event → Type 0) (xs ys : List Event) → AllByRecursion P (xs ++ ys) → AllByRecursion P xs
all_before P [] ys all = tt
all_before P (x ∷ xs) ys all = (all.0, all_before P xs ys all.1)

all_after : (P : Event → Type 0) (xs ys : List Event) → AllByRecursion P (xs ++ ys) → AllByRecursion P ys
all_after P [] ys all = all
all_after P (x ∷ xs) ys all = all_after P xs ys all.1

-- ---- one change after another

module _ (types : List ColumnType) (old mid new : PageMap) (was next is : Standing) (were nexts are : List IndexState) where
  pub changes_then : (from between to : ℕ) (first last both : List Event → List Event → Type 0) → ((a b c : List Event) → first a b → last b c → both a c)
      → ChangesTable types old mid was next were nexts from between first → ChangesTable types mid new next is nexts are between to last → ChangesTable types old new was is were are from to both
  changes_then from between to first last both joins one other = record {
    each = λ events used uses others holds shares.
        let a = one.each events used uses others holds shares in
        let b = other.each a.events a.after a.afters others a.holds (a.moves.beside others shares).shares in
        record {
          events = b.events;
          after = b.after;
          afters = b.afters;
          holds = b.holds;
          moves = moves_trans old mid new (used & all_of uses) (a.after & all_of a.afters) (b.after & all_of b.afters) a.moves b.moves;
          changed = joins events a.events b.events a.changed b.changed;
        };
  }

module _ (types : List ColumnType) (old new : PageMap) (was is : Standing) (were are : List IndexState) where
  pub changes_as : (from to : ℕ) (one other : List Event → List Event → Type 0) → ((a b : List Event) → one a b → other a b)
      → ChangesTable types old new was is were are from to one → ChangesTable types old new was is were are from to other
  changes_as from to one other then step = record {
    each = λ events used uses others holds shares.
        let a = step.each events used uses others holds shares in
        record { events = a.events; after = a.after; afters = a.afters; holds = a.holds; moves = a.moves; changed = then events a.events a.changed };
  }

module _ (types : List ColumnType) (old new : PageMap) (same : SamePages new old) (standing : Standing) (indexes : List IndexState) where
  keeps_all : (used others : ℕ → ℕ) → Shares old (used & others) → KeepsPages used old new
  keeps_all used others shares = record {
    pages = λ n own. same.pages n;
    no_fewer = ((same_pages-moves old new used same).beside others shares).keeps.no_fewer;
  }

  pub same_table : (accepted : ℕ) (events : List Event) (used : ℕ → ℕ) (uses : List (ℕ → ℕ)) (others : ℕ → ℕ) → Shares old (used & all_of uses & others)
      → HoldsTable types old standing indexes accepted events used uses → HoldsTable types new standing indexes accepted events used uses
  same_table accepted events used uses others shares holds = kept_table types old new standing indexes accepted events used uses (keeps_all (used & all_of uses) others shares) holds

  pub same_shares : (used : ℕ → ℕ) (others : ℕ → ℕ) → Shares old (used & others) → Shares new (used & others)
  same_shares used others shares = ((same_pages-moves old new used same).beside others shares).shares

  -- where the pages are the same nothing changes
  pub changes_none : (version : ℕ) → ChangesTable types old new standing standing indexes indexes version version (λ a b. b ≡ a)
  changes_none version = record {
    each = λ events used uses others holds shares. record {
      events = events;
      after = used;
      afters = uses;
      holds = same_table version events used uses others shares holds;
      moves = same_pages-moves old new (used & all_of uses) same;
      changed = refl;
    };
  }

-- ---- events that end, cell by cell

module _ (types : List ColumnType) (version at : ℕ) (old mid new : PageMap) (was next is : Standing) (were nexts are : List IndexState) (cells : List (List ℕ)) (place : ℕ) (cell : List ℕ)
    (there : slice_get cells place ≡ Some cell)
    (so : (gone : List Event) → AllZip (SaysEvent types) (take place cells) gone → ChangesTable types old mid was next were nexts version version (EndAll types at gone)) where
  next_taken : take (place + 1) cells ≡ take place cells ++ cell ∷ []
  next_taken = let e : place + 1 ≡ suc place = omega arith in ap (λ n. take n cells) e ∙ take_next cells place cell there

  pub ended_next : ((one : Event) → SaysEvent types cell one → ChangesTable types mid new next is nexts are version version (HasEnded (kept_events types) at one))
      → (gone : List Event) → AllZip (SaysEvent types) (take (place + 1) cells) gone → ChangesTable types old new was is were are version version (EndAll types at gone)
  ended_next step gone say =
      let parts = ends_of (SaysEvent types) (take place cells) cell gone (subst (λ l. AllZip (SaysEvent types) l gone) next_taken say) in
      subst (λ l. ChangesTable types old new was is were are version version (EndAll types at l)) (sym parts.is)
      (changes_then types old mid new was next is were nexts are version version version (EndAll types at parts.front) (HasEnded (kept_events types) at parts.last)
      (EndAll types at (parts.front ++ parts.last ∷ [])) (λ a b c first last. end_next types at parts.front parts.last a b c first last) (so parts.front parts.say) (step parts.last parts.says))

  -- where the next one can't end, no such table was there
  pub none_with : HoldsNoTableWith version (cell ∷ []) types mid next nexts → HoldsNoTableWith version cells types old was were
  none_with none = record {
    none = λ accepted events used uses others upto holds shares these.
        let parts = parts_of (SaysEvent types) cells place cell these.these there these.say in
        let a = (so parts.front parts.say).each events used uses others (later_table types old was were accepted version events used uses upto holds) shares in
        let left = all_ended types at parts.front (parts.one ∷ (parts.back ++ these.others)) events a.events a.changed
        (subst (IsPermutation events) (ap (λ l. l ++ these.others) parts.is ∙ append_assoc parts.front (parts.one ∷ parts.back) these.others) these.are) in
        none.none version a.events a.after a.afters others (omega arith) a.holds (a.moves.beside others shares).shares (record {
          these = parts.one ∷ [];
          others = (parts.back ++ these.others) ++ left.others;
          say = (parts.says, tt);
          live = ((all_after (λ (e : Event). e.died ≡ LIVING) parts.front (parts.one ∷ parts.back) (subst (AllByRecursion (λ (e : Event). e.died ≡ LIVING)) parts.is these.live)).0, tt);
          are = left.are;
        });
  }

-- none of the cells yet, and all of them
pub ended_none : (types : List ColumnType) (version at : ℕ) (old : PageMap) (was : Standing) (were : List IndexState) (gone : List Event) → AllZip (SaysEvent types) [] gone
    → (same : SamePages old old) → ChangesTable types old old was was were were version version (EndAll types at gone)
ended_none types version at old was were [] say same = changes_none types old old same was were version
ended_none types version at old was were (e ∷ gone) say same = absurd say

pub no_table_with : (version : ℕ) (cells : List (List ℕ)) (types : List ColumnType) (pages : PageMap) (standing : Standing) (indexes : List IndexState)
    → HoldsNoTable types pages standing indexes → HoldsNoTableWith version cells types pages standing indexes
no_table_with version cells types pages standing indexes none = record { none = λ accepted events used uses others upto holds shares these. none.none accepted events used uses others holds shares }

pub no_table_by : (version : ℕ) (types : List ColumnType) (pages : PageMap) (standing : Standing) (indexes : List IndexState)
    → HoldsNoTable types pages standing indexes → HoldsNoTableBy version types pages standing indexes
no_table_by version types pages standing indexes none = record { none = λ accepted events used uses others upto holds shares. none.none accepted events used uses others holds shares }

-- ---- spans that come, one by one

module _ (types : List ColumnType) (version : ℕ) (old mid : PageMap) (was next : Standing) (were nexts : List IndexState) (change : List Event → List Event → Type 0)
    (so : ChangesTable types old mid was next were nexts version version change) where
  pub none_by : HoldsNoTable types mid next nexts → HoldsNoTableBy version types old was were
  none_by none = record {
    none = λ accepted events used uses others upto holds shares.
        let a = so.each events used uses others (later_table types old was were accepted version events used uses upto holds) shares in
        none.none version a.events a.after a.afters others a.holds (a.moves.beside others shares).shares;
  }

-- where nothing can come after the events of the cells have ended, no such table was there
pub none_made : (types : List ColumnType) (version at : ℕ) (cells : List (List ℕ)) (old mid : PageMap) (was next : Standing) (were nexts : List IndexState)
    → ((gone : List Event) → AllZip (SaysEvent types) cells gone → ChangesTable types old mid was next were nexts version version (EndAll types at gone))
    → HoldsNoTableBy version types mid next nexts → HoldsNoTableWith version cells types old was were
none_made types version at cells old mid was next were nexts so none = record {
  none = λ accepted events used uses others upto holds shares these.
      let a = (so these.these these.say).each events used uses others (later_table types old was were accepted version events used uses upto holds) shares in
      none.none version a.events a.after a.afters others (omega arith) a.holds (a.moves.beside others shares).shares;
}

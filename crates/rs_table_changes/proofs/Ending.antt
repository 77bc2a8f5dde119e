-- A cell that isn't living, or isn't there, is no event of a table.
use Rattle.std.proofs.Common.{◌≡◌, ◌<◌, ℕ, zero, suc, length, get_or, map, take, drop, Bool, false, List, [], ◌∷◌, ◌++◌, refl, sym, ap, ◌∙◌, subst, arith}
use Rattle.std.proofs.lemmas.Bool.{eq-eqb, false≢true}
use Rattle.std.proofs.lemmas.List.Sorted.{Contains-permutation, IsPermutation-sym}
use Rattle.std.specs.List.{AllByRecursion, AllZip, Contains}
use Rattle.std.specs.List.Sorted.{IsPermutation}
use Rattle.std.proofs.Math.Seq.{take-append_seam}
use Rattle.std.proofs.lemmas.List.{length-map}
use Rattle.rs_attr.specs.Tables.{IndexState, all_of, kept_parts}
use Rattle.rs_cell_versions.specs.Version.{died_of, is_living}
use Rattle.rs_cell_versions.specs.Versioned.{Standing}
use Rattle.rs_cell_versions.specs.declared.cell.TheConstants.{LIVING}
use Rattle.rs_facts.specs.declared.fact.Span.{Span}
use Rattle.rs_facts.specs.Runs.{Stretch}
use Rattle.rs_facts.specs.Spans.{seen}
use Rattle.rs_page_owners.specs.Counts.{◌&◌}
use Rattle.rs_page_owners.specs.Owners.{Shares}
use Rattle.rs_page_owners.proofs.Moving.{shares_same}
use Rattle.rs_pages.specs.PageMap.{PageMap}
use Rattle.rs_value.specs.Row.{Row}
use Rattle.rs_value.specs.declared.column.ColumnType.{ColumnType}
use Rattle.rs_versioned.specs.Calls.{TellsOf}
use Rattle.rs_versioned.specs.Events.{Event, SaysEvent, kept_events}
use Rattle.rs_versioned.proofs.KeptRecords.{events_are_kept}
use Rattle.rs_table_changes.specs.Inner.{HasThese, HoldsNoTableWith}

-- the event of one cell
record One (types : List ColumnType) (cell : List ℕ) (events : List Event) : Type 0 where
  one : Event
  says : SaysEvent types cell one
  lives : one.died ≡ LIVING
  among : Contains events one

one_of : (types : List ColumnType) (cell : List ℕ) (events : List Event) → HasThese types (cell ∷ []) events → One types cell events
one_of types cell events has = by has.these has.say has.live has.are where
  by : (these : List Event) → AllZip (SaysEvent types) (cell ∷ []) these → AllByRecursion (λ (e : Event). e.died ≡ LIVING) these → IsPermutation events (these ++ has.others) → One types cell events
  by [] say live are = absurd say
  by (e ∷ es) say live are = record {
    one = e;
    says = say.0;
    lives = live.0;
    among = Contains-permutation (e ∷ (es ++ has.others)) events e (IsPermutation-sym events (e ∷ (es ++ has.others)) are) (0, omega arith, refl);
  }

module _ (version : ℕ) (cell : List ℕ) (types : List ColumnType) (pages : PageMap) (standing : Standing) (indexes : List IndexState) where
  pub not_living : is_living cell ≡ false → HoldsNoTableWith version (cell ∷ []) types pages standing indexes
  not_living dead = record {
    none = λ accepted events used uses others upto holds shares has.
        let found = one_of types cell events has in
        false≢true (sym dead ∙ eq-eqb (died_of cell) LIVING ((events_are_kept types).died cell found.one found.says ∙ found.lives));
  }

  pub not_found : (found : Bool) → ((event : Event) → SaysEvent types cell event → TellsOf (kept_events types) pages standing event found) → found ≡ false → HoldsNoTableWith version (cell ∷ []) types pages standing indexes
  not_found found tells missing = record {
    none = λ accepted events used uses others upto holds shares has.
        let there = one_of types cell events has in
        let parted : Shares pages (used & (all_of uses & others)) = shares_same pages (used & all_of uses & others) (used & (all_of uses & others)) (λ n. omega arith) shares in
        false≢true (sym missing ∙ (tells there.one there.says events used (all_of uses & others) accepted holds.records parted).1 there.among);
  }

-- the row of the span at a place
pub row_at : (Q : Row → Type 0) (spans : List Span) (i : ℕ) (span : Span) → AllByRecursion (λ (s : Stretch). Q s.row) (map seen spans) → i < length spans
    → span ≡ get_or spans i span → Q span.tuple
row_at Q [] i span all inside is = absurd (omega arith)
row_at Q (s ∷ spans) zero span all inside is = subst (λ (x : Span). Q x.tuple) (sym is) all.0
row_at Q (s ∷ spans) (suc k) span all inside is = row_at Q spans k span all.1 (omega arith) is

-- ---- what is written back to a list of indexes

pub kept_length : (were are : List IndexState) → kept_parts are ≡ kept_parts were → length are ≡ length were
kept_length were are same = sym (length-map are (λ (index : IndexState). (index.field, index.committed))) ∙ ap length same ∙ length-map were (λ (index : IndexState). (index.field, index.committed))

pub written : (len : ℕ) (new old : List IndexState) → len ≡ length new → take len (new ++ drop (length new) old) ≡ new
written len new old same = ap (λ n. take n (new ++ drop (length new) old)) same ∙ take-append_seam new (drop (length new) old)

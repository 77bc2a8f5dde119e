-- The events that overlap a span and that a version sees, beside the cells that were found.
use Rattle.std.proofs.Common.{◌≡◌, ℕ, Bool, true, false, ◌==◌, ◌&&◌, leb, ltb, nat_lt, cond, List, [], ◌∷◌, filter, sym, ap, ◌∙◌, subst}
use Rattle.std.specs.List.{AllZip}
use Rattle.rs_interval.specs.EventRecords.{EventRecord, SaysRecord, overlaps}
use Rattle.rs_interval.specs.Finding.{FindsOverlapping}
use Rattle.rs_interval.proofs.EventLaws.{record_has_one}
use Rattle.rs_pages.specs.PageMap.{PageMap}
use Rattle.rs_value.specs.declared.column.ColumnType.{ColumnType}
use Rattle.rs_cell_versions.specs.Version.{died_of, sees}
use Rattle.rs_cell_versions.specs.Versioned.{Standing}
use Rattle.rs_versioned.specs.Events.{Event, SaysEvent, event_width, is_visible, kept_events, sees_event}
use Rattle.rs_versioned.specs.Records.{HoldsRecords, IsKept, Kept, is_seen}
use Rattle.rs_versioned.proofs.KeptRecords.{events_are_kept}

-- a version sees a cell where it sees its record
pub sees_record : {R : Type 0} (kept : Kept R) (laws : IsKept kept) (version : ℕ) (cell : List ℕ) (one : R) → kept.says cell one → sees version cell ≡ is_seen kept version one
sees_record kept laws version cell one says =
    ap (λ (n : ℕ). leb n version && ltb version (died_of cell)) (laws.born cell one says)
    ∙ ap (λ (n : ℕ). leb (kept.born one) version && ltb version n) (laws.died cell one says)

-- an event with the bytes of its row
abbrev record_of : Event → List ℕ → EventRecord
record_of event bytes = record { route = event.route; from = event.lo; row = bytes; born = event.born; to = event.hi; died = event.died }

module _ (types : List ColumnType) where
  -- the records of events, with the bytes of their rows
  records_of : (cells : List (List ℕ)) (events : List Event) → AllZip (SaysEvent types) cells events → List EventRecord
  records_of [] [] all = []
  records_of [] (e ∷ es) all = []
  records_of (c ∷ cs) [] all = []
  records_of (c ∷ cs) (e ∷ es) all = record_of e all.0.bytes ∷ records_of cs es all.1

  records_said : (cells : List (List ℕ)) (events : List Event) (all : AllZip (SaysEvent types) cells events) → AllZip SaysRecord cells (records_of cells events all)
  unfolding records_of
  records_said [] [] all = tt
  records_said [] (e ∷ es) all = absurd all
  records_said (c ∷ cs) [] all = absurd all
  records_said (c ∷ cs) (e ∷ es) all = (all.0.fields, records_said cs es all.1)

  module _ (version route a b : ℕ) where
    -- the cells of records that overlap, of which those are left that the version sees
    still_said : (found cells : List (List ℕ)) (events : List Event) (all : AllZip (SaysEvent types) cells events) → AllZip SaysRecord found (filter (overlaps route a b) (records_of cells events all))
        → AllZip (SaysEvent types) (filter (sees version) found) (filter (is_visible version route a b) events)
    unfolding records_of
    still_said [] [] [] all found = tt
    still_said (f ∷ fs) [] [] all found = absurd found
    still_said found [] (e ∷ es) all these = absurd all
    still_said found (c ∷ cs) [] all these = absurd all
    still_said found (c ∷ cs) (e ∷ es) all these =
        by_overlap (e.route == route && (nat_lt e.lo b && nat_lt a e.hi)) found these (λ (more : List (List ℕ)) rest. still_said more cs es all.1 rest) where
          by_seen : (p q : Bool) (fs : List (List ℕ)) → p ≡ q → AllZip (SaysEvent types) (filter (sees version) fs) (filter (is_visible version route a b) es)
              → AllZip (SaysEvent types) (cond p (c ∷ filter (sees version) fs) (filter (sees version) fs)) (cond q (e ∷ filter (is_visible version route a b) es) (filter (is_visible version route a b) es))
          by_seen true true fs same rest = (all.0, rest)
          by_seen true false fs same rest = cc
          by_seen false true fs same rest = cc
          by_seen false false fs same rest = rest

          by_overlap : (t : Bool) (found : List (List ℕ))
              → AllZip SaysRecord found (cond t (record_of e all.0.bytes ∷ filter (overlaps route a b) (records_of cs es all.1)) (filter (overlaps route a b) (records_of cs es all.1)))
              → ((more : List (List ℕ)) → AllZip SaysRecord more (filter (overlaps route a b) (records_of cs es all.1))
              → AllZip (SaysEvent types) (filter (sees version) more) (filter (is_visible version route a b) es))
              → AllZip (SaysEvent types) (filter (sees version) found)
              (cond (t && sees_event version e) (e ∷ filter (is_visible version route a b) es) (filter (is_visible version route a b) es))
          by_overlap true [] these rest = absurd these
          by_overlap true (f ∷ fs) these rest =
              let same : f ≡ c = record_has_one f c (record_of e all.0.bytes) these.0 all.0.fields in
              subst (λ (x : List ℕ). AllZip (SaysEvent types) (cond (sees version x) (x ∷ filter (sees version) fs) (filter (sees version) fs))
              (cond (sees_event version e) (e ∷ filter (is_visible version route a b) es) (filter (is_visible version route a b) es))) (sym same)
              (by_seen (sees version c) (sees_event version e) fs (sees_record (kept_events types) (events_are_kept types) version c e all.0) (rest fs these.1))
          by_overlap false found these rest = rest found these

-- what is left of the cells that were found are those of the events that the version sees
pub overlapping_seen : (types : List ColumnType) (width root reads version route a b accepted : ℕ) (pages : PageMap) (standing : Standing) (found : List (List ℕ)) (events : List Event) (used : ℕ → ℕ)
    → width ≡ event_width types → root ≡ standing.root → FindsOverlapping width pages root route a b found reads → HoldsRecords (kept_events types) pages standing accepted events used
    → AllZip (SaysEvent types) (filter (sees version) found) (filter (is_visible version route a b) events)
overlapping_seen types width root reads version route a b accepted pages standing found events used wide top finds holds =
    let here = subst (λ (r : ℕ). FindsOverlapping (event_width types) pages r route a b found reads) top
    (subst (λ (w : ℕ). FindsOverlapping w pages root route a b found reads) wide finds) in
    still_said types version route a b found holds.cells events holds.say
    (here.exact holds.cells used (records_of types holds.cells events holds.say) holds.holds.tree (records_said types holds.cells events holds.say))

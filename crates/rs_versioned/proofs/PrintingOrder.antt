-- Cells of one route ascend as their events are printed.
use Rattle.std.proofs.Common.{◌≡◌, ◌==◌, ◌&&◌, ℕ, Bool, true, false, cond, nat_lt, List, [], ◌∷◌, ◌++◌, length, map, filter, refl, sym, ap, ◌∙◌, arith}
use Rattle.std.proofs.lemmas.Bool.{and_parts, false≢true}
use Rattle.std.proofs.lemmas.Bool.Decides.{nat_tests}
use Rattle.std.specs.Cmp.Lexicographic.{slice_cmp}
use Rattle.std.specs.Int.{w32, w64, to_be_bytes}
use Rattle.std.specs.List.{AllByRecursion, AllZip}
use Rattle.std.specs.Ordering.{is_lt, nat_cmp, ordering_then}
use Rattle.std.specs.Prelude.{IsTrue}
use Rattle.std.specs.declared.cmp.Ordering.{Ordering}
use Rattle.std.specs.declared.cmp.Ordering.TheVariants.{Less, Equal, Greater}
use Rattle.rs_facts.specs.Runs.{Stretch, stretch_cmp}
use Rattle.rs_facts.proofs.StretchOrder.{stretch_cmp-itself, stretch_cmp-one_way, stretch_cmp-tie}
use Rattle.rs_pages.specs.PageMap.{PageMap}
use Rattle.rs_records.specs.Order.{Ascends, is_below}
use Rattle.rs_value.specs.declared.column.ColumnType.{ColumnType}
use Rattle.rs_value.specs.Row.{row_cmp}
use Rattle.rs_value.proofs.EncodingOrder.{row_wide, rows_cmp}
use Rattle.rs_cell_versions.specs.Versioned.{Standing}
use Rattle.rs_versioned.specs.Events.{AreInPrintingOrder, Event, SaysEvent, is_on, is_visible, kept_events, sees_event, span_of, spans_at}
use Rattle.rs_versioned.specs.Records.{HoldsRecords}
use Rattle.rs_interval.proofs.WordOrder.{equal, then_assoc, word_cmp}

-- fronts of as many bytes are compared first
pub fronts_cmp : (a b xs ys : List ℕ) → length a ≡ length b → slice_cmp nat_cmp (a ++ xs) (b ++ ys) ≡ ordering_then (slice_cmp nat_cmp a b) (slice_cmp nat_cmp xs ys)
fronts_cmp [] [] xs ys size = refl
fronts_cmp [] (b ∷ bs) xs ys size = absurd (omega arith)
fronts_cmp (a ∷ as_) [] xs ys size = absurd (omega arith)
fronts_cmp (a ∷ as_) (b ∷ bs) xs ys size =
    ap (ordering_then (nat_cmp a b)) (fronts_cmp as_ bs xs ys (omega arith)) ∙ then_assoc (nat_cmp a b) (slice_cmp nat_cmp as_ bs) (slice_cmp nat_cmp xs ys)

pub not_more : (o rest : Ordering) → is_lt (ordering_then o rest) ≡ true → o ≡ Greater → ⊥
not_more o rest below more = false≢true (sym (ap (λ p. is_lt (ordering_then p rest)) more) ∙ below)

-- what ties isn't less
not_tied : (one two : Stretch) → stretch_cmp one two ≡ Equal → stretch_cmp two one ≡ Less → ⊥
unfolding stretch_cmp
not_tied one two tied before =
    let tie = stretch_cmp-tie one two tied in
    let same : stretch_cmp two one ≡ stretch_cmp one one = λ i. ordering_then (nat_cmp (sym tie.0 i) one.lo) (row_cmp (sym tie.1 i) one.row) in
    let wrong : Less ≡ Equal = sym before ∙ same ∙ stretch_cmp-itself one in
    absurd (false≢true (sym (ap is_lt wrong)))

-- of two cells on one route the lower says what is printed no later
module _ (types : List ColumnType) (cell other : List ℕ) (one two : Event) (says : SaysEvent types cell one) (tells : SaysEvent types other two) (same : one.route ≡ two.route) where
  abbrev rest : List ℕ
  rest = to_be_bytes w64 one.born ++ (to_be_bytes w32 one.hi ++ to_be_bytes w64 one.died)

  abbrev left : List ℕ
  left = to_be_bytes w64 two.born ++ (to_be_bytes w32 two.hi ++ to_be_bytes w64 two.died)

  -- how the cells compare: as the events are printed, and then by what follows
  cells_cmp : slice_cmp nat_cmp cell other ≡ ordering_then (stretch_cmp (span_of one) (span_of two)) (slice_cmp nat_cmp rest left)
  unfolding stretch_cmp
  cells_cmp =
      let rows : slice_cmp nat_cmp (says.bytes ++ rest) (tells.bytes ++ left) ≡ ordering_then (row_cmp one.row two.row) (slice_cmp nat_cmp rest left) =
      fronts_cmp says.bytes tells.bytes rest left (row_wide types says.bytes one.row says.row ∙ sym (row_wide types tells.bytes two.row tells.row))
      ∙ ap (λ o. ordering_then o (slice_cmp nat_cmp rest left)) (rows_cmp types says.bytes tells.bytes one.row two.row says.row tells.row) in
      (λ i. slice_cmp nat_cmp (says.fields.bytes i) (tells.fields.bytes i))
      ∙ word_cmp one.route two.route (to_be_bytes w32 one.lo ++ (says.bytes ++ rest)) (to_be_bytes w32 two.lo ++ (tells.bytes ++ left)) says.fields.route_fits tells.fields.route_fits
      ∙ ap (λ o. ordering_then o (slice_cmp nat_cmp (to_be_bytes w32 one.lo ++ (says.bytes ++ rest)) (to_be_bytes w32 two.lo ++ (tells.bytes ++ left)))) (equal one.route two.route same)
      ∙ word_cmp one.lo two.lo (says.bytes ++ rest) (tells.bytes ++ left) says.fields.from_fits tells.fields.from_fits
      ∙ ap (ordering_then (nat_cmp one.lo two.lo)) rows
      ∙ then_assoc (nat_cmp one.lo two.lo) (row_cmp one.row two.row) (slice_cmp nat_cmp rest left)

  not_before : IsTrue (is_below cell other) → stretch_cmp (span_of two) (span_of one) ≡ Less → ⊥
  unfolding is_below
  not_before below before = by_order (stretch_cmp (span_of one) (span_of two)) refl (sym (ap is_lt cells_cmp) ∙ below) where
    by_order : (o : Ordering) → stretch_cmp (span_of one) (span_of two) ≡ o → is_lt (ordering_then (stretch_cmp (span_of one) (span_of two)) (slice_cmp nat_cmp rest left)) ≡ true → ⊥
    by_order Less e lower = stretch_cmp-one_way (span_of one) (span_of two) e before
    by_order Equal e lower = not_tied (span_of one) (span_of two) e before
    by_order Greater e lower = not_more (stretch_cmp (span_of one) (span_of two)) (slice_cmp nat_cmp rest left) lower e

-- events of one route that are chosen from among those of a tree
module _ (types : List ColumnType) (route : ℕ) (test : Event → Bool) (on_route : (one : Event) → test one ≡ true → one.route ≡ route) where
  abbrev chosen : List Event → List Stretch
  chosen events = map span_of (filter test events)

  -- those after one that is chosen are printed no earlier
  later_printed : (cell : List ℕ) (one : Event) (cells : List (List ℕ)) (events : List Event) → SaysEvent types cell one → one.route ≡ route → AllZip (SaysEvent types) cells events
      → AllByRecursion (λ other. IsTrue (is_below cell other)) cells → AllByRecursion (λ later. stretch_cmp later (span_of one) ≡ Less → ⊥) (chosen events)
  later_printed cell one [] [] says on all above = tt
  later_printed cell one [] (e ∷ es) says on all above = absurd all
  later_printed cell one (c ∷ cs) [] says on all above = absurd all
  later_printed cell one (c ∷ cs) (e ∷ es) says on all above = by_test (test e) refl (later_printed cell one cs es says on all.1 above.1) where
    by_test : (b : Bool) → test e ≡ b → AllByRecursion (λ later. stretch_cmp later (span_of one) ≡ Less → ⊥) (chosen es)
        → AllByRecursion (λ later. stretch_cmp later (span_of one) ≡ Less → ⊥) (map span_of (cond b (e ∷ filter test es) (filter test es)))
    by_test true is others = (not_before types cell c one e says all.0 (on ∙ sym (on_route e is)) above.0, others)
    by_test false is others = others

  in_order : (cells : List (List ℕ)) (events : List Event) → AllZip (SaysEvent types) cells events → Ascends cells → AreInPrintingOrder (chosen events)
  in_order [] [] all up = tt
  in_order [] (e ∷ es) all up = absurd all
  in_order (c ∷ cs) [] all up = absurd all
  in_order (c ∷ cs) (e ∷ es) all up = by_test (test e) refl (in_order cs es all.1 up.1) where
    by_test : (b : Bool) → test e ≡ b → AreInPrintingOrder (chosen es) → AreInPrintingOrder (map span_of (cond b (e ∷ filter test es) (filter test es)))
    by_test true is others = (later_printed c e cs es all.0 (on_route e is) all.1 up.0, others)
    by_test false is others = others

same_route : (route : ℕ) (one : Event) (rest : Bool) → (one.route == route && rest) ≡ true → one.route ≡ route
same_route route one rest on = let parts = and_parts (one.route == route) rest on in grind (arith, nat_tests)

visible_route : (version route a b : ℕ) (one : Event) → is_visible version route a b one ≡ true → one.route ≡ route
visible_route version route a b one seen =
    let between : Bool = nat_lt one.lo b && nat_lt a one.hi in
    let parts = and_parts (one.route == route && between) (sees_event version one) seen in
    same_route route one between parts.0

module _ (types : List ColumnType) (pages : PageMap) (standing : Standing) (accepted version route : ℕ) where
  pub held_in_order : (events : List Event) (used : ℕ → ℕ) → HoldsRecords (kept_events types) pages standing accepted events used → AreInPrintingOrder (spans_at version route events)
  held_in_order events used holds = in_order types route (is_on version route) (λ one. same_route route one (sees_event version one)) holds.cells events holds.say holds.holds.tree.ascends

  pub held_window_in_order : (a b : ℕ) (events : List Event) (used : ℕ → ℕ) → HoldsRecords (kept_events types) pages standing accepted events used
      → AreInPrintingOrder (map span_of (filter (is_visible version route a b) events))
  held_window_in_order a b events used holds =
      in_order types route (is_visible version route a b) (visible_route version route a b) holds.cells events holds.say holds.holds.tree.ascends

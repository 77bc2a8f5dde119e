-- The trees, then the cells route by route, and at last those that are left.
use Rattle.std.proofs.Common.{◌≡◌, ◌≤◌, ◌∙◌, ◌+◌, ◌++◌, ◌⊎◌, ℕ, Option, get_or, Result, Ok, Err, List, not, refl, sym, ap, subst, inl, inr, arith}
use Rattle.std.proofs.lemmas.Result.{err_from_is_err_and}
use Rattle.std.specs.List.{AllByRecursion, Contains}
use Rattle.rs_attr.specs.Calls.{IsFound}
use Rattle.rs_attr.specs.Meant.{SayMeant}
use Rattle.rs_attr.specs.Opening.{OpensNoTable, OpensTable}
use Rattle.rs_attr.specs.Tables.{IndexState}
use Rattle.rs_attr.proofs.Opened.{below_all, below_next, below_none, both_among, found_back, meant_all, meant_next, meant_none, no_entered_table, no_fresh_table, no_indexes_table, no_meant_table, no_told_table, opens_table, otherwise_as, passed_as, passed_then, stands_back, told_so}
use Rattle.rs_attr.proofs.PartsChecked.{all_entries_back, first_entered, not_entered_back, second_entered}
use Rattle.rs_attr.proofs.Routes.{order_at, part_left, part_within, read_at}
use Rattle.rs_attr.specs.declared.told.ToldTable.{ToldTable}
use Rattle.rs_versioned.specs.declared.route_span.RouteSpan.{RouteSpan}
use Rattle.rs_interval.specs.Finding.{event_form}
use Rattle.rs_refusal.specs.declared.refusal.Refusal.{Refusal}
use Rattle.rs_refusal.specs.declared.refusal.Refusal.TheVariants as refusal
use Rattle.rs_pages.specs.PageMap.{PageMap}
use Rattle.rs_page_marks.specs.Marks.{taken}
use Rattle.rs_records.specs.Listed.{listed}
use Rattle.rs_records.specs.Order.{is_below}
use Rattle.rs_tree.specs.Cells.{cells_within, is_within}
use Rattle.rs_tree_whole.proofs.Entries.{same_back}
use Rattle.rs_tree_whole.specs.Validating.{HasNoFreshTree, Validates}
use Rattle.rs_pages.proofs.Resting.{rests_then}
use Rattle.rs_versioned.specs.Tables.{EventTableState}
use Rattle.rs_versioned.specs.Events.{event_width}
use Rattle.rs_cell_versions.specs.Opening.{Told, told_of}
use Rattle.rs_cell_versions.specs.Version.{died_of}
use Rattle.rs_cell_versions.specs.Versioned.{Standing}
use Rattle.rs_cell_versions.proofs.Looks.{cells_from, passed_same}
use Rattle.rs_cell_versions.proofs.Refusing.{rests_err, rests_ok, rests_refused}
use Rattle.rs_attr.proofs.opening.open.Goals as goal

-- no route is read in place of it
abbrev none : RouteSpan
none = record { number = 0; start = 0; finish = 0 }

-- a refusal opens no table
refused_open : {pages : PageMap} {told : ToldTable} {indexes : List IndexState} {routes : List RouteSpan} {before after : ℕ → ℕ} (result : Result EventTableState Refusal) (why : Refusal)
    → result ≡ Err why → (result ≡ Err refusal.DamagedFile → OpensNoTable pages told indexes routes before) → IsFound pages told indexes routes before after result
refused_open (Ok table) why same damaged = let clash : Ok table ≡ Err why = same in absurd (cc)
refused_open (Err other) why same damaged = record { opens = tt; damaged = damaged }

-- neither of these is a fault of the disk
no_fault : {X : Type 0} (why : Refusal) → (why ≡ refusal.OutOfMemory) ⊎ ((why ≡ refusal.DamagedFile) × X) → why ≡ refusal.Disk → ⊥
no_fault why (inl memory) fault = let clash : refusal.OutOfMemory ≡ refusal.Disk = sym memory ∙ fault in absurd (cc)
no_fault why (inr damaged) fault = let clash : refusal.DamagedFile ≡ refusal.Disk = sym damaged.0 ∙ fault in absurd (cc)

-- damage that was found says that they are not meant
not_meant : {told : ToldTable} {route : Option RouteSpan} {cells : List (List ℕ)} (why : Refusal) → why ≡ refusal.DamagedFile
    → (why ≡ refusal.OutOfMemory) ⊎ ((why ≡ refusal.DamagedFile) × (SayMeant told route cells → ⊥)) → SayMeant told route cells → ⊥
not_meant why is (inl memory) = let clash : refusal.OutOfMemory ≡ refusal.DamagedFile = sym memory ∙ is in absurd (cc)
not_meant why is (inr damaged) = damaged.1

pub returns-in_err-opening-clause-opens : goal.returns-in_err-opening-clause-opens
returns-in_err-opening-clause-opens g c = λ tied.
    let old = (g.P.Pages.store c.args.pages.now).map in
    let width : c.row_width-width.result + 28 ≡ event_width c.args.told.schema.items = ap (λ (n : ℕ). n + 28) c.row_width-width.ensures in
    let p = err_from_is_err_and c.from_residual.result c.from_residual.ensures.1 in
    refused_open c.from_residual.result p.0 p.1 (λ is.
    let why : c.in_err-opening.field-0.0 ≡ refusal.DamagedFile = cc (p.1, p.2, is) in
    no_fresh_table old c.args.indexes.now c.args.told c.args.routes.now (taken c.args.reached.now)
    (subst (λ (w : ℕ). HasNoFreshTree (event_form w) old c.args.told.records.root (taken c.args.reached.now)) width ((c.in_err-opening.ensures.begins tied).damaged (ap Err why))))

pub returns-in_err-reach_indexes-clause-opens : goal.returns-in_err-reach_indexes-clause-opens
returns-in_err-reach_indexes-clause-opens g c = λ tied.
    let old = (g.P.Pages.store c.args.pages.now).map in
    let mid = (g.P.Pages.store c.begin.new.pages).map in
    let width : c.row_width-width.result + 28 ≡ event_width c.args.told.schema.items = ap (λ (n : ℕ). n + 28) c.row_width-width.ensures in
    let later = g.met.P.Pages.keeps_tied c.args.pages.now c.begin.new.pages c.in_ok-opening.ensures.rests.below tied in
    let same = c.in_ok-opening.ensures.rests.rests.keeps.pages tied in
    let p = err_from_is_err_and c.from_residual-in_err-reach_indexes.result c.from_residual-in_err-reach_indexes.ensures.1 in
    refused_open c.from_residual-in_err-reach_indexes.result p.0 p.1 (λ is.
    let why : c.in_err-reach_indexes.field-0.0 ≡ refusal.DamagedFile = cc (p.1, p.2, is) in
    no_indexes_table old c.args.indexes.now c.args.told c.args.routes.now (taken c.args.reached.now) mid same (taken c.begin.new.reached)
    (subst (λ (w : ℕ). Validates (event_form w) old c.args.told.records.root (taken c.args.reached.now) (taken c.begin.new.reached)) width (c.in_ok-opening.ensures.begins tied).validates)
    ((c.in_err-reach_indexes.ensures.reaches later).damaged (ap Err why)))

pub loop-next-init : goal.loop-next-init
loop-next-init g c =
    let old = (g.P.Pages.store c.args.pages.now).map in
    record {
      rests = rests_then g.P.Pages.is_tied g.P.Pages.store g.P.Pages.keeps c.in_ok-opening.opening (Ok tt) c.args.pages.now c.begin.new.pages c.reach_indexes.new.pages g.met.P.Pages.keeps_trans g.met.P.Pages.keeps_tied
          c.in_ok-opening.ensures.rests c.in_ok-reach_indexes.ensures.rests;
      told = told_so c.args.told.schema.items c.args.told.records (c.row_width-width.result + 28) c.in_ok-opening.opening.told c.in_ok-opening.ensures.begun.told (ap (λ (n : ℕ). n + 28) c.row_width-width.ensures);
      passed = λ tied. passed_as old (record (told_of (event_width c.args.told.schema.items) c.args.told.records) { width = c.row_width-width.result + 28 }) c.in_ok-opening.opening c.in_ok-opening.ensures.begun.told (c.in_ok-opening.ensures.begun.passed old);
      wide = c.new-waiting.ensures.width ∙ ap (λ (n : ℕ). n + 28) c.row_width-width.ensures;
      among = λ tied. record { each = λ cells used tree. subst (AllByRecursion (Contains cells)) (sym c.new-waiting.ensures.none) tt };
      below = λ tied have. below_none old c.args.indexes.now c.args.told c.args.routes.now c.in_ok-opening.opening.low c.in_ok-opening.ensures.begun.low;
      at = (refl, c.in_ok-opening.ensures.begun.low);
      meant = λ tied. meant_none c.args.told c.args.routes.now old c.in_ok-opening.opening.low c.in_ok-opening.ensures.begun.low;
    }

pub returns-in_err-cells-clause-rests : goal.returns-in_err-cells-clause-rests
returns-in_err-cells-clause-rests g c =
    let p = err_from_is_err_and c.from_residual-in_err-cells.result c.from_residual-in_err-cells.ensures.1 in
    rw (p.1, p.2) (rests_err g.P.Pages.is_tied g.P.Pages.store g.P.Pages.keeps c.in_err-cells.field-0.0 c.args.pages.now c.part.new.pages
    (rests_then g.P.Pages.is_tied g.P.Pages.store g.P.Pages.keeps tt (Err c.in_err-cells.field-0.0) c.args.pages.now c.loop-next.pages c.part.new.pages g.met.P.Pages.keeps_trans g.met.P.Pages.keeps_tied
    c.loop-next.invariant.rests c.in_err-cells.ensures.rests))

pub returns-in_err-cells-clause-opens : goal.returns-in_err-cells-clause-opens
returns-in_err-cells-clause-opens g c = λ tied.
    let old = (g.P.Pages.store c.args.pages.now).map in
    let mid = (g.P.Pages.store c.loop-next.pages).map in
    let opening = c.loop-next.opening in
    let later = g.met.P.Pages.keeps_tied c.args.pages.now c.loop-next.pages c.loop-next.invariant.rests.below tied in
    let same = c.loop-next.invariant.rests.rests.keeps.pages tied in
    let p = err_from_is_err_and c.from_residual-in_err-cells.result c.from_residual-in_err-cells.ensures.1 in
    refused_open c.from_residual-in_err-cells.result p.0 p.1 (λ is.
    let why : c.in_err-cells.field-0.0 ≡ refusal.DamagedFile = cc (p.1, p.2, is) in
    no_told_table old c.args.indexes.now c.args.told c.args.routes.now (taken c.args.reached.now)
    (otherwise_as old mid same opening.told (told_of (event_width c.args.told.schema.items) c.args.told.records) c.loop-next.invariant.told
    ((c.in_err-cells.ensures.parts later).damaged (ap Err why) (passed_same (event_form opening.told.width) old mid same opening (c.loop-next.invariant.passed tied)))))

pub check_events-requires : goal.check_events-requires
check_events-requires g c = record { width = c.in_ok-cells.ensures.part.width ∙ ap (λ (t : Told). t.width) c.loop-next.invariant.told }

pub returns-in_err-check_events-clause-rests : goal.returns-in_err-check_events-clause-rests
returns-in_err-check_events-clause-rests g c =
    let p = err_from_is_err_and c.from_residual-in_err-check_events.result c.from_residual-in_err-check_events.ensures.1 in
    rw (p.1, p.2) (rests_refused g.P.Pages.is_tied g.P.Pages.store g.P.Pages.keeps c.in_ok-cells.cells c.in_err-check_events.field-0.0 c.args.pages.now c.part.new.pages
    (no_fault c.in_err-check_events.field-0.0 c.in_err-check_events.ensures.refused)
    (rests_then g.P.Pages.is_tied g.P.Pages.store g.P.Pages.keeps tt (Ok c.in_ok-cells.cells) c.args.pages.now c.loop-next.pages c.part.new.pages g.met.P.Pages.keeps_trans g.met.P.Pages.keeps_tied
    c.loop-next.invariant.rests c.in_ok-cells.ensures.rests))

pub returns-in_err-check_events-clause-opens : goal.returns-in_err-check_events-clause-opens
returns-in_err-check_events-clause-opens g c = λ tied.
    let old = (g.P.Pages.store c.args.pages.now).map in
    let mid = (g.P.Pages.store c.loop-next.pages).map in
    let opening = c.loop-next.opening in
    let later = g.met.P.Pages.keeps_tied c.args.pages.now c.loop-next.pages c.loop-next.invariant.rests.below tied in
    let same = c.loop-next.invariant.rests.rests.keeps.pages tied in
    let p = err_from_is_err_and c.from_residual-in_err-check_events.result c.from_residual-in_err-check_events.ensures.1 in
    let high : List ℕ = c.beginning.result in
    let next = get_or c.args.routes.now c.loop-next.next-index none in
    let there = read_at c.args.routes.now c.loop-next.next-index none c.loop-next-test.true in
    refused_open c.from_residual-in_err-check_events.result p.0 p.1 (λ is.
    let why : c.in_err-check_events.field-0.0 ≡ refusal.DamagedFile = cc (p.1, p.2, is) in
    no_meant_table old c.args.indexes.now c.args.told c.args.routes.now (taken c.args.reached.now) c.loop-next.route (is_within opening.low high) (listed c.in_ok-cells.cells)
    (part_within c.args.told.schema.items c.args.routes.now c.requires.rising c.loop-next.next-index next there c.beginning.ensures.fits high c.beginning.ensures.bytes c.loop-next.route opening.low c.loop-next.invariant.at)
    (found_back old mid same opening.told (told_of (event_width c.args.told.schema.items) c.args.told.records) c.loop-next.invariant.told (cells_within opening.low high) (listed c.in_ok-cells.cells) (c.in_ok-cells.ensures.parts later).found)
    (not_meant c.in_err-check_events.field-0.0 why c.in_err-check_events.ensures.refused))

pub gather-requires : goal.gather-requires
gather-requires g c = record {
  width = c.in_ok-cells.ensures.part.width ∙ ap (λ (t : Told). t.width) c.loop-next.invariant.told ∙ sym c.loop-next.invariant.wide;
  indexes = subst (λ (w : ℕ). AllByRecursion (λ (index : IndexState). index.field.cell_width ≡ w) c.args.indexes.now) (sym c.loop-next.invariant.wide) c.requires.indexes;
}

pub returns-in_err-gather-clause-rests : goal.returns-in_err-gather-clause-rests
returns-in_err-gather-clause-rests g c =
    let p = err_from_is_err_and c.from_residual-in_err-gather.result c.from_residual-in_err-gather.ensures.1 in
    rw (p.1, p.2) (rests_err g.P.Pages.is_tied g.P.Pages.store g.P.Pages.keeps c.in_err-gather.field-0.0 c.args.pages.now c.gather.new.pages
    (rests_then g.P.Pages.is_tied g.P.Pages.store g.P.Pages.keeps tt (Err c.in_err-gather.field-0.0) c.args.pages.now c.loop-next.pages c.gather.new.pages g.met.P.Pages.keeps_trans g.met.P.Pages.keeps_tied
    c.loop-next.invariant.rests
    (rests_then g.P.Pages.is_tied g.P.Pages.store g.P.Pages.keeps c.in_ok-cells.cells (Err c.in_err-gather.field-0.0) c.loop-next.pages c.part.new.pages c.gather.new.pages g.met.P.Pages.keeps_trans
    g.met.P.Pages.keeps_tied c.in_ok-cells.ensures.rests c.in_err-gather.ensures.rests)))

pub returns-in_err-gather-clause-opens : goal.returns-in_err-gather-clause-opens
returns-in_err-gather-clause-opens g c = λ tied.
    let old = (g.P.Pages.store c.args.pages.now).map in
    let mid = (g.P.Pages.store c.loop-next.pages).map in
    let last = (g.P.Pages.store c.part.new.pages).map in
    let told = c.args.told in
    let opening = c.loop-next.opening in
    let later = g.met.P.Pages.keeps_tied c.args.pages.now c.loop-next.pages c.loop-next.invariant.rests.below tied in
    let same = c.loop-next.invariant.rests.rests.keeps.pages tied in
    let upto = rests_then g.P.Pages.is_tied g.P.Pages.store g.P.Pages.keeps tt (Ok c.in_ok-cells.cells) c.args.pages.now c.loop-next.pages c.part.new.pages g.met.P.Pages.keeps_trans g.met.P.Pages.keeps_tied
    c.loop-next.invariant.rests c.in_ok-cells.ensures.rests in
    let p = err_from_is_err_and c.from_residual-in_err-gather.result c.from_residual-in_err-gather.ensures.1 in
    let high : List ℕ = c.beginning.result in
    refused_open c.from_residual-in_err-gather.result p.0 p.1 (λ is.
    let why : c.in_err-gather.field-0.0 ≡ refusal.DamagedFile = cc (p.1, p.2, is) in
    no_entered_table old c.args.indexes.now told c.args.routes.now (taken c.args.reached.now) (listed c.loop-next.waiting ++ listed c.in_ok-cells.cells)
    (both_among told.schema.items old told.records (is_within opening.low high) (listed c.loop-next.waiting) (listed c.in_ok-cells.cells) (c.loop-next.invariant.among tied)
    (found_back old mid same opening.told (told_of (event_width told.schema.items) told.records) c.loop-next.invariant.told (cells_within opening.low high) (listed c.in_ok-cells.cells) (c.in_ok-cells.ensures.parts later).found))
    (not_entered_back old last (upto.rests.keeps.pages tied) c.args.indexes.now (listed c.loop-next.waiting ++ listed c.in_ok-cells.cells)
    ((c.in_err-gather.ensures.gathers (g.met.P.Pages.keeps_tied c.args.pages.now c.part.new.pages upto.below tied)).damaged (ap Err why))))

pub part-requires : goal.part-requires
part-requires g c =
    let next = get_or c.args.routes.now c.loop-next.next-index none in
    let there = read_at c.args.routes.now c.loop-next.next-index none c.loop-next-test.true in
    record {
      order = order_at c.args.told.schema.items c.args.routes.now c.requires.rising c.loop-next.next-index next there c.beginning.ensures.fits c.beginning.result c.beginning.ensures.bytes c.loop-next.route c.loop-next.opening.low c.loop-next.invariant.at;
    }

pub loop-next-preserved : goal.loop-next-preserved
loop-next-preserved g c =
    let old = (g.P.Pages.store c.args.pages.now).map in
    let mid = (g.P.Pages.store c.loop-next.pages).map in
    let opening = c.loop-next.opening in
    let high : List ℕ = c.beginning.result in
    let told = c.args.told in
    let routes = c.args.routes.now in
    let next = get_or routes c.loop-next.next-index none in
    let there = read_at routes c.loop-next.next-index none c.loop-next-test.true in
    let order = order_at told.schema.items routes c.requires.rising c.loop-next.next-index next there c.beginning.ensures.fits high c.beginning.ensures.bytes c.loop-next.route opening.low c.loop-next.invariant.at in
    let upto = rests_then g.P.Pages.is_tied g.P.Pages.store g.P.Pages.keeps tt (Ok c.in_ok-cells.cells) c.args.pages.now c.loop-next.pages c.part.new.pages g.met.P.Pages.keeps_trans g.met.P.Pages.keeps_tied
    c.loop-next.invariant.rests c.in_ok-cells.ensures.rests in
    record {
      rests = rests_then g.P.Pages.is_tied g.P.Pages.store g.P.Pages.keeps c.in_ok-cells.cells (Ok tt) c.args.pages.now c.part.new.pages c.gather.new.pages g.met.P.Pages.keeps_trans g.met.P.Pages.keeps_tied
          upto c.in_ok-gather.ensures.rests;
      told = c.in_ok-cells.ensures.told ∙ c.loop-next.invariant.told;
      passed = λ tied.
          let later = g.met.P.Pages.keeps_tied c.args.pages.now c.loop-next.pages c.loop-next.invariant.rests.below tied in
          let same = c.loop-next.invariant.rests.rests.keeps.pages tied in
          passed_then old mid same opening.told c.part.new.self c.in_ok-cells.ensures.told
          ((c.in_ok-cells.ensures.parts later).passed (passed_same (event_form opening.told.width) old mid same opening (c.loop-next.invariant.passed tied)));
      at = record { before = c.loop-next.next-index; next = omega arith; there = there; fits = c.beginning.ensures.fits; bytes = c.in_ok-cells.ensures.low ∙ c.beginning.ensures.bytes };
      wide = c.in_ok-gather.ensures.width ∙ c.loop-next.invariant.wide;
      among = λ tied.
          let later = g.met.P.Pages.keeps_tied c.args.pages.now c.loop-next.pages c.loop-next.invariant.rests.below tied in
          let same = c.loop-next.invariant.rests.rests.keeps.pages tied in
          let both = both_among told.schema.items old told.records (is_within opening.low high) (listed c.loop-next.waiting) (listed c.in_ok-cells.cells) (c.loop-next.invariant.among tied)
          (found_back old mid same opening.told (told_of (event_width told.schema.items) told.records) c.loop-next.invariant.told (cells_within opening.low high) (listed c.in_ok-cells.cells) (c.in_ok-cells.ensures.parts later).found) in
          record { each = λ cells used tree. c.in_ok-gather.ensures.among cells (both.each cells used tree) };
      below = λ tied have.
          let later = g.met.P.Pages.keeps_tied c.args.pages.now c.loop-next.pages c.loop-next.invariant.rests.below tied in
          let same = c.loop-next.invariant.rests.rests.keeps.pages tied in
          let last = (g.P.Pages.store c.part.new.pages).map in
          let now = upto.rests.keeps.pages tied in
          let entered = all_entries_back old last now c.args.indexes.now (listed c.loop-next.waiting ++ listed c.in_ok-cells.cells)
          ((c.in_ok-gather.ensures.gathers (g.met.P.Pages.keeps_tied c.args.pages.now c.part.new.pages upto.below tied)).entered
          (all_entries_back last old (same_back last old now) c.args.indexes.now (listed c.gather.new.waiting) have)) in
          below_next old c.args.indexes.now told routes opening.low high c.part.new.self.low (listed c.in_ok-cells.cells) order
          (c.loop-next.invariant.below tied (first_entered old c.args.indexes.now (listed c.loop-next.waiting) (listed c.in_ok-cells.cells) entered))
          (found_back old mid same opening.told (told_of (event_width told.schema.items) told.records) c.loop-next.invariant.told (cells_within opening.low high) (listed c.in_ok-cells.cells) (c.in_ok-cells.ensures.parts later).found)
          (second_entered old c.args.indexes.now (listed c.loop-next.waiting) (listed c.in_ok-cells.cells) entered)
          c.in_ok-cells.ensures.low;
      meant = λ tied.
          let later = g.met.P.Pages.keeps_tied c.args.pages.now c.loop-next.pages c.loop-next.invariant.rests.below tied in
          let same = c.loop-next.invariant.rests.rests.keeps.pages tied in
          meant_next told routes old c.loop-next.next-index c.loop-next.route opening.low c.loop-next.invariant.at (c.loop-next.invariant.meant tied) high c.part.new.self.low (listed c.in_ok-cells.cells) order
          (found_back old mid same opening.told (told_of (event_width told.schema.items) told.records) c.loop-next.invariant.told (cells_within opening.low high) (listed c.in_ok-cells.cells) (c.in_ok-cells.ensures.parts later).found)
          c.in_ok-check_events.ensures.meant c.in_ok-cells.ensures.low;
    }

pub returns-in_err-versions-clause-rests : goal.returns-in_err-versions-clause-rests
returns-in_err-versions-clause-rests g c =
    let p = err_from_is_err_and c.from_residual-in_err-versions.result c.from_residual-in_err-versions.ensures.1 in
    rw (p.1, p.2) (rests_err g.P.Pages.is_tied g.P.Pages.store g.P.Pages.keeps c.in_err-versions.field-0.0 c.args.pages.now c.finish.new.pages
    (rests_then g.P.Pages.is_tied g.P.Pages.store g.P.Pages.keeps tt (Err c.in_err-versions.field-0.0) c.args.pages.now c.loop-next.pages c.finish.new.pages g.met.P.Pages.keeps_trans g.met.P.Pages.keeps_tied
    c.loop-next.invariant.rests c.in_err-versions.ensures.rests))

pub returns-in_err-versions-clause-opens : goal.returns-in_err-versions-clause-opens
returns-in_err-versions-clause-opens g c = λ tied.
    let old = (g.P.Pages.store c.args.pages.now).map in
    let mid = (g.P.Pages.store c.loop-next.pages).map in
    let opening = c.loop-next.opening in
    let later = g.met.P.Pages.keeps_tied c.args.pages.now c.loop-next.pages c.loop-next.invariant.rests.below tied in
    let same = c.loop-next.invariant.rests.rests.keeps.pages tied in
    let p = err_from_is_err_and c.from_residual-in_err-versions.result c.from_residual-in_err-versions.ensures.1 in
    refused_open c.from_residual-in_err-versions.result p.0 p.1 (λ is.
    let why : c.in_err-versions.field-0.0 ≡ refusal.DamagedFile = cc (p.1, p.2, is) in
    no_told_table old c.args.indexes.now c.args.told c.args.routes.now (taken c.args.reached.now)
    (otherwise_as old mid same opening.told (told_of (event_width c.args.told.schema.items) c.args.told.records) c.loop-next.invariant.told
    ((c.in_err-versions.ensures.finishes later).damaged (ap Err why) (passed_same (event_form opening.told.width) old mid same opening (c.loop-next.invariant.passed tied)))))

pub check_events-requires-2 : goal.check_events-requires-2
check_events-requires-2 g c = record { width = c.in_ok-versions.ensures.left.width ∙ ap (λ (t : Told). t.width) c.loop-next.invariant.told }

pub returns-in_err-check_events-2-clause-rests : goal.returns-in_err-check_events-2-clause-rests
returns-in_err-check_events-2-clause-rests g c =
    let p = err_from_is_err_and c.from_residual-in_err-check_events-2.result c.from_residual-in_err-check_events-2.ensures.1 in
    rw (p.1, p.2) (rests_refused g.P.Pages.is_tied g.P.Pages.store g.P.Pages.keeps (c.in_ok-versions.versions, c.in_ok-versions.left) c.in_err-check_events-2.field-0.0 c.args.pages.now c.finish.new.pages
    (no_fault c.in_err-check_events-2.field-0.0 c.in_err-check_events-2.ensures.refused)
    (rests_then g.P.Pages.is_tied g.P.Pages.store g.P.Pages.keeps tt (Ok (c.in_ok-versions.versions, c.in_ok-versions.left)) c.args.pages.now c.loop-next.pages c.finish.new.pages g.met.P.Pages.keeps_trans g.met.P.Pages.keeps_tied
    c.loop-next.invariant.rests c.in_ok-versions.ensures.rests))

pub returns-in_err-check_events-2-clause-opens : goal.returns-in_err-check_events-2-clause-opens
returns-in_err-check_events-2-clause-opens g c = λ tied.
    let old = (g.P.Pages.store c.args.pages.now).map in
    let mid = (g.P.Pages.store c.loop-next.pages).map in
    let opening = c.loop-next.opening in
    let later = g.met.P.Pages.keeps_tied c.args.pages.now c.loop-next.pages c.loop-next.invariant.rests.below tied in
    let same = c.loop-next.invariant.rests.rests.keeps.pages tied in
    let p = err_from_is_err_and c.from_residual-in_err-check_events-2.result c.from_residual-in_err-check_events-2.ensures.1 in
    refused_open c.from_residual-in_err-check_events-2.result p.0 p.1 (λ is.
    let why : c.in_err-check_events-2.field-0.0 ≡ refusal.DamagedFile = cc (p.1, p.2, is) in
    no_meant_table old c.args.indexes.now c.args.told c.args.routes.now (taken c.args.reached.now) c.loop-next.route (λ (cell : List ℕ). not (is_below cell opening.low)) (listed c.in_ok-versions.left)
    (part_left c.args.told.schema.items c.args.routes.now c.requires.rising c.loop-next.next-index c.loop-next.route opening.low (omega arith) c.loop-next.invariant.at)
    (found_back old mid same opening.told (told_of (event_width c.args.told.schema.items) c.args.told.records) c.loop-next.invariant.told (cells_from opening.low) (listed c.in_ok-versions.left) (c.in_ok-versions.ensures.finishes later).left)
    (not_meant c.in_err-check_events-2.field-0.0 why c.in_err-check_events-2.ensures.refused))

pub check_last-requires : goal.check_last-requires
check_last-requires g c = record {
  width = c.in_ok-versions.ensures.left.width ∙ ap (λ (t : Told). t.width) c.loop-next.invariant.told ∙ sym c.loop-next.invariant.wide;
  indexes = subst (λ (w : ℕ). AllByRecursion (λ (index : IndexState). index.field.cell_width ≡ w) c.args.indexes.now) (sym c.loop-next.invariant.wide) c.requires.indexes;
}

pub returns-in_err-check_last-clause-rests : goal.returns-in_err-check_last-clause-rests
returns-in_err-check_last-clause-rests g c =
    let p = err_from_is_err_and c.from_residual-in_err-check_last.result c.from_residual-in_err-check_last.ensures.1 in
    rw (p.1, p.2) (rests_err g.P.Pages.is_tied g.P.Pages.store g.P.Pages.keeps c.in_err-check_last.field-0.0 c.args.pages.now c.check_last.new.pages
    (rests_then g.P.Pages.is_tied g.P.Pages.store g.P.Pages.keeps tt (Err c.in_err-check_last.field-0.0) c.args.pages.now c.loop-next.pages c.check_last.new.pages g.met.P.Pages.keeps_trans g.met.P.Pages.keeps_tied
    c.loop-next.invariant.rests
    (rests_then g.P.Pages.is_tied g.P.Pages.store g.P.Pages.keeps (c.in_ok-versions.versions, c.in_ok-versions.left) (Err c.in_err-check_last.field-0.0) c.loop-next.pages c.finish.new.pages c.check_last.new.pages
    g.met.P.Pages.keeps_trans g.met.P.Pages.keeps_tied c.in_ok-versions.ensures.rests c.in_err-check_last.ensures.rests)))

pub returns-in_err-check_last-clause-opens : goal.returns-in_err-check_last-clause-opens
returns-in_err-check_last-clause-opens g c = λ tied.
    let old = (g.P.Pages.store c.args.pages.now).map in
    let mid = (g.P.Pages.store c.loop-next.pages).map in
    let last = (g.P.Pages.store c.finish.new.pages).map in
    let told = c.args.told in
    let opening = c.loop-next.opening in
    let later = g.met.P.Pages.keeps_tied c.args.pages.now c.loop-next.pages c.loop-next.invariant.rests.below tied in
    let same = c.loop-next.invariant.rests.rests.keeps.pages tied in
    let upto = rests_then g.P.Pages.is_tied g.P.Pages.store g.P.Pages.keeps tt (Ok (c.in_ok-versions.versions, c.in_ok-versions.left)) c.args.pages.now c.loop-next.pages c.finish.new.pages g.met.P.Pages.keeps_trans
    g.met.P.Pages.keeps_tied c.loop-next.invariant.rests c.in_ok-versions.ensures.rests in
    let p = err_from_is_err_and c.from_residual-in_err-check_last.result c.from_residual-in_err-check_last.ensures.1 in
    refused_open c.from_residual-in_err-check_last.result p.0 p.1 (λ is.
    let why : c.in_err-check_last.field-0.0 ≡ refusal.DamagedFile = cc (p.1, p.2, is) in
    no_entered_table old c.args.indexes.now told c.args.routes.now (taken c.args.reached.now) (listed c.loop-next.waiting ++ listed c.in_ok-versions.left)
    (both_among told.schema.items old told.records (λ (cell : List ℕ). not (is_below cell opening.low)) (listed c.loop-next.waiting) (listed c.in_ok-versions.left) (c.loop-next.invariant.among tied)
    (found_back old mid same opening.told (told_of (event_width told.schema.items) told.records) c.loop-next.invariant.told (cells_from opening.low) (listed c.in_ok-versions.left) (c.in_ok-versions.ensures.finishes later).left))
    (not_entered_back old last (upto.rests.keeps.pages tied) c.args.indexes.now (listed c.loop-next.waiting ++ listed c.in_ok-versions.left)
    ((c.in_err-check_last.ensures.checks (g.met.P.Pages.keeps_tied c.args.pages.now c.finish.new.pages upto.below tied)).damaged (ap Err why))))

pub with-requires : goal.with-requires
with-requires g c = record { width = c.in_ok-versions.ensures.cells.width ∙ ap (λ (t : Told). t.width) c.loop-next.invariant.told }

pub returns-clause-rests : goal.returns-clause-rests
returns-clause-rests g c =
    rests_ok g.P.Pages.is_tied g.P.Pages.store g.P.Pages.keeps tt c.with.result c.args.pages.now c.check_last.new.pages
    (rests_then g.P.Pages.is_tied g.P.Pages.store g.P.Pages.keeps tt (Ok tt) c.args.pages.now c.loop-next.pages c.check_last.new.pages g.met.P.Pages.keeps_trans g.met.P.Pages.keeps_tied
    c.loop-next.invariant.rests
    (rests_then g.P.Pages.is_tied g.P.Pages.store g.P.Pages.keeps (c.in_ok-versions.versions, c.in_ok-versions.left) (Ok tt) c.loop-next.pages c.finish.new.pages c.check_last.new.pages
    g.met.P.Pages.keeps_trans g.met.P.Pages.keeps_tied c.in_ok-versions.ensures.rests c.in_ok-check_last.ensures.rests))

pub returns-clause-table : goal.returns-clause-table
returns-clause-table g c = record {
  types = c.with.ensures.types;
  committed = c.with.ensures.committed ∙ c.in_ok-versions.ensures.cells.committed ∙ sym c.with.ensures.working;
  order = subst (λ (s : Standing). AllByRecursion (λ dead. died_of dead ≤ c.args.told.records.accepted) s.dead) (sym c.with.ensures.working)
      (subst (λ (t : Told). AllByRecursion (λ dead. died_of dead ≤ t.accepted) c.in_ok-versions.versions.working.dead) c.loop-next.invariant.told c.in_ok-versions.ensures.cells.order);
}

pub returns-clause-opens : goal.returns-clause-opens
returns-clause-opens g c = λ tied.
    let old = (g.P.Pages.store c.args.pages.now).map in
    let first = (g.P.Pages.store c.begin.new.pages).map in
    let mid = (g.P.Pages.store c.loop-next.pages).map in
    let last = (g.P.Pages.store c.finish.new.pages).map in
    let types = c.args.told.schema.items in
    let told = c.args.told in
    let opening = c.loop-next.opening in
    let said = c.loop-next.invariant.told in
    let width : c.row_width-width.result + 28 ≡ event_width types = ap (λ (n : ℕ). n + 28) c.row_width-width.ensures in
    let begun = g.met.P.Pages.keeps_tied c.args.pages.now c.begin.new.pages c.in_ok-opening.ensures.rests.below tied in
    let later = g.met.P.Pages.keeps_tied c.args.pages.now c.loop-next.pages c.loop-next.invariant.rests.below tied in
    let same = c.loop-next.invariant.rests.rests.keeps.pages tied in
    let upto = rests_then g.P.Pages.is_tied g.P.Pages.store g.P.Pages.keeps tt (Ok (c.in_ok-versions.versions, c.in_ok-versions.left)) c.args.pages.now c.loop-next.pages c.finish.new.pages g.met.P.Pages.keeps_trans
    g.met.P.Pages.keeps_tied c.loop-next.invariant.rests c.in_ok-versions.ensures.rests in
    let versions = c.in_ok-versions.versions in
    let finds = found_back old mid same opening.told (told_of (event_width types) told.records) said (cells_from opening.low) (listed c.in_ok-versions.left) (c.in_ok-versions.ensures.finishes later).left in
    let entered = (all_entries_back old last (upto.rests.keeps.pages tied) c.args.indexes.now (listed c.loop-next.waiting ++ listed c.in_ok-versions.left) (c.in_ok-check_last.ensures.checks (g.met.P.Pages.keeps_tied c.args.pages.now c.finish.new.pages upto.below tied)).entered) in
    record {
      opens = subst (λ (s : Standing). OpensTable old told s c.args.indexes.now c.args.routes.now (taken c.args.reached.now) (taken c.reach_indexes.new.reached)) (sym c.with.ensures.working)
          (opens_table old c.args.indexes.now told c.args.routes.now (taken c.args.reached.now) first (c.in_ok-opening.ensures.rests.rests.keeps.pages tied) (taken c.begin.new.reached)
          (subst (λ (w : ℕ). Validates (event_form w) old told.records.root (taken c.args.reached.now) (taken c.begin.new.reached)) width (c.in_ok-opening.ensures.begins tied).validates)
          versions.working (taken c.reach_indexes.new.reached) c.requires.indexes
          (record {
            root = c.in_ok-versions.ensures.cells.root ∙ ap (λ (t : Told). t.root) said;
            living = c.in_ok-versions.ensures.cells.living ∙ ap (λ (t : Told). t.living) said;
            garbage = c.in_ok-versions.ensures.cells.garbage ∙ ap (λ (t : Told). t.garbage) said;
          })
          (c.in_ok-reach_indexes.ensures.reaches begun).reaches
          (stands_back old mid same opening.told (told_of (event_width types) told.records) said versions.working.dead
          ((c.in_ok-versions.ensures.finishes later).stands (passed_same (event_form opening.told.width) old mid same opening (c.loop-next.invariant.passed tied))))
          (below_all old c.args.indexes.now told c.args.routes.now opening.low (listed c.in_ok-versions.left) (c.loop-next.invariant.below tied (first_entered old c.args.indexes.now (listed c.loop-next.waiting) (listed c.in_ok-versions.left) entered)) finds
          (second_entered old c.args.indexes.now (listed c.loop-next.waiting) (listed c.in_ok-versions.left) entered))
          (meant_all told c.args.routes.now old c.loop-next.next-index c.loop-next.route opening.low c.loop-next.invariant.at (c.loop-next.invariant.meant tied) (listed c.in_ok-versions.left) finds
          c.in_ok-check_events-2.ensures.meant));
      damaged = λ is. absurd (cc);
    }

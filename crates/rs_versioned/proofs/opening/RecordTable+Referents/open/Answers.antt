-- Part by part, and at last the cells that are left.
use Rattle.std.proofs.Common.{◌≡◌, ◌+◌, ◌∙◌, ℕ, suc, false, List, Ok, Err, length, not, slice_index_or, refl, sym, ap, subst, inr, arith}
use Rattle.std.proofs.lemmas.Result.{err_from_is_err_and}
use Rattle.rs_refusal.specs.declared.refusal.Refusal.TheVariants as refusal
use Rattle.rs_page_marks.specs.Marks.{taken}
use Rattle.rs_records.specs.Listed.{listed}
use Rattle.rs_records.specs.Order.{is_below}
use Rattle.rs_tree.specs.Cells.{is_within}
use Rattle.rs_tree.specs.Tree.{IsTree}
use Rattle.rs_cell_versions.proofs.Entries.{same_back}
use Rattle.rs_pages.proofs.Resting.{rests_then}
use Rattle.rs_versioned.specs.Meant.{AreReferentsMeant}
use Rattle.rs_versioned.specs.Referents.{SaysReferent, kept_referents, referent_form, referent_width}
use Rattle.rs_versioned.proofs.InTables.{plain_form}
use Rattle.rs_versioned.proofs.MeantOpened.{left_is, meant_all, meant_more, meant_none, no_part, part_for, rising_bounds, within_is}
use Rattle.rs_versioned.proofs.MeantRoutes.{at_place, before, before_below, from_of, is_after, is_between, nowhere, part_after, part_between}
use Rattle.rs_versioned.proofs.Opened.{FindsWhere, SaysBelow, finds_back, none_fresh, none_otherwise, none_so, opens_records, says_more, says_none, stands_back}
use Rattle.rs_cell_versions.specs.Opening.{HasPassed, StandsOtherwise, StandsTold, Told, told_of}
use Rattle.rs_cell_versions.specs.Versioned.{Standing}
use Rattle.rs_cell_versions.proofs.Looks.{otherwise_back, passed_same}
use Rattle.rs_cell_versions.proofs.Refusing.{rests_err, rests_ok, rests_refused}
use Rattle.rs_versioned.proofs.opening.RecordTable+Referents.open.Goals as goal

pub returns-in_err-opening-clause-refused : goal.returns-in_err-opening-clause-refused
returns-in_err-opening-clause-refused g c =
    let p = err_from_is_err_and c.from_residual.result c.from_residual.ensures.1 in
    record {
      cause = rw (p.1, p.2) (inr c.in_err-opening.ensures.refused);
      damaged = λ tied is.
          let why : c.in_err-opening.field-0.0 ≡ refusal.DamagedFile = cc (p.1, p.2, is) in
          none_fresh kept_referents (g.P.Pages.store c.args.pages.now).map c.args.told (AreReferentsMeant c.args.routes.now c.args.told.accepted) (taken c.args.reached.now)
          ((c.in_err-opening.ensures.begins tied).damaged (ap Err why));
    }

pub loop-route-init : goal.loop-route-init
loop-route-init g c =
    let old = (g.P.Pages.store c.args.pages.now).map in
    record {
      rests = rests_ok g.P.Pages.is_tied g.P.Pages.store g.P.Pages.keeps c.in_ok-opening.opening tt c.args.pages.now c.begin.new.pages c.in_ok-opening.ensures.rests;
      told = c.in_ok-opening.ensures.begun.told;
      passed = λ tied. c.in_ok-opening.ensures.begun.passed old;
      say = λ tied. says_none SaysReferent referent_form old c.args.told.root c.in_ok-opening.opening.low c.in_ok-opening.ensures.begun.low;
      on = refl;
      low = c.in_ok-opening.ensures.begun.low;
      fits = omega arith;
      meant = λ tied. meant_none c.args.routes.now c.args.told.accepted old c.args.told.root;
    }

pub part-requires : goal.part-requires
part-requires g c =
    let routes = c.args.routes.now in
    let k = c.loop-route.route-index in
    let next = slice_index_or routes k nowhere in
    let was = c.loop-route.invariant in
    record {
      order = ap (is_below c.start_of.result) was.low ∙ rising_bounds c.loop-route.on c.start_of.result next.number was.fits c.start_of.ensures.fits c.start_of.ensures.bytes
          (λ route one. before_below routes k next route c.requires.rising (sym was.on ∙ one) (at_place routes k c.loop-route-test.true));
    }

pub returns-in_err-cells-clause-rests : goal.returns-in_err-cells-clause-rests
returns-in_err-cells-clause-rests g c =
    let p = err_from_is_err_and c.from_residual-in_err-cells.result c.from_residual-in_err-cells.ensures.1 in
    rw (p.1, p.2) (rests_err g.P.Pages.is_tied g.P.Pages.store g.P.Pages.keeps c.in_err-cells.field-0.0 c.args.pages.now c.part.new.pages
    (rests_then g.P.Pages.is_tied g.P.Pages.store g.P.Pages.keeps tt (Err c.in_err-cells.field-0.0) c.args.pages.now c.loop-route.pages c.part.new.pages g.met.P.Pages.keeps_trans g.met.P.Pages.keeps_tied
    c.loop-route.invariant.rests c.in_err-cells.ensures.rests))

pub returns-in_err-cells-clause-refused : goal.returns-in_err-cells-clause-refused
returns-in_err-cells-clause-refused g c =
    let p = err_from_is_err_and c.from_residual-in_err-cells.result c.from_residual-in_err-cells.ensures.1 in
    record {
      cause = rw (p.1, p.2) c.in_err-cells.ensures.refused;
      damaged = λ tied is.
          let old = (g.P.Pages.store c.args.pages.now).map in
          let mid = (g.P.Pages.store c.loop-route.pages).map in
          let later = g.met.P.Pages.keeps_tied c.args.pages.now c.loop-route.pages c.loop-route.invariant.rests.below tied in
          let same = c.loop-route.invariant.rests.rests.keeps.pages tied in
          let why : c.in_err-cells.field-0.0 ≡ refusal.DamagedFile = cc (p.1, p.2, is) in
          let other = subst (λ (t : Told). HasPassed (plain_form t.width) mid c.loop-route.opening → StandsOtherwise (plain_form t.width) mid t) c.loop-route.invariant.told ((c.in_err-cells.ensures.parts later).damaged (ap Err why)) in
          none_otherwise kept_referents old c.args.told (AreReferentsMeant c.args.routes.now c.args.told.accepted) (taken c.args.reached.now) referent_width
          (otherwise_back referent_form old mid same (told_of referent_width c.args.told) (other (passed_same referent_form old mid same c.loop-route.opening (c.loop-route.invariant.passed tied))));
    }

pub returns-then-not-are_part_meant-clause-rests : goal.returns-then-not-are_part_meant-clause-rests
returns-then-not-are_part_meant-clause-rests g c =
    rests_refused g.P.Pages.is_tied g.P.Pages.store g.P.Pages.keeps c.in_ok-cells.cells refusal.DamagedFile c.args.pages.now c.part.new.pages
    (λ disk. let clash : refusal.Disk ≡ refusal.DamagedFile = sym disk in absurd (cc))
    (rests_then g.P.Pages.is_tied g.P.Pages.store g.P.Pages.keeps tt (Ok c.in_ok-cells.cells) c.args.pages.now c.loop-route.pages c.part.new.pages g.met.P.Pages.keeps_trans g.met.P.Pages.keeps_tied
    c.loop-route.invariant.rests c.in_ok-cells.ensures.rests)

pub returns-then-not-are_part_meant-clause-refused : goal.returns-then-not-are_part_meant-clause-refused
returns-then-not-are_part_meant-clause-refused g c = record {
  cause = inr (inr refl);
  damaged = λ tied is.
      let old = (g.P.Pages.store c.args.pages.now).map in
      let mid = (g.P.Pages.store c.loop-route.pages).map in
      let later = g.met.P.Pages.keeps_tied c.args.pages.now c.loop-route.pages c.loop-route.invariant.rests.below tied in
      let same = c.loop-route.invariant.rests.rests.keeps.pages tied in
      let routes = c.args.routes.now in
      let k = c.loop-route.route-index in
      let next = slice_index_or routes k nowhere in
      let on = c.loop-route.on in
      let was = c.loop-route.invariant in
      let test = is_within c.loop-route.opening.low c.start_of.result in
      let found = listed c.in_ok-cells.cells in
      let finds = subst (λ (t : Told). FindsWhere (plain_form t.width) mid t.root test found) was.told (c.in_ok-cells.ensures.parts later).found in
      none_so kept_referents old c.args.told (AreReferentsMeant routes c.args.told.accepted) (taken c.args.reached.now)
      (no_part routes c.args.told.accepted old c.args.told.root test (is_between (from_of on) next.number)
      (λ cell referent says. ap (λ (low : List ℕ). is_within low c.start_of.result cell) was.low ∙ within_is cell referent says on c.start_of.result next.number was.fits c.start_of.ensures.fits c.start_of.ensures.bytes)
      on (part_between routes k on c.requires.rising was.on next c.loop-route-test.true (at_place routes k c.loop-route-test.true)) found (finds_back referent_form old mid same c.args.told.root test found finds)
      c.are_part_meant.result c.if-not-are_part_meant.true c.are_part_meant.ensures.passes);
}

pub loop-route-preserved : goal.loop-route-preserved
loop-route-preserved g c =
    let old = (g.P.Pages.store c.args.pages.now).map in
    let mid = (g.P.Pages.store c.loop-route.pages).map in
    let routes = c.args.routes.now in
    let k = c.loop-route.route-index in
    let next = slice_index_or routes k nowhere in
    let on = c.loop-route.on in
    let was = c.loop-route.invariant in
    let low = c.loop-route.opening.low in
    let high = c.start_of.result in
    let found = listed c.in_ok-cells.cells in
    let there = at_place routes k c.loop-route-test.true in
    let counted : suc k ≡ k + 1 = omega arith in
    record {
      rests = rests_then g.P.Pages.is_tied g.P.Pages.store g.P.Pages.keeps tt (Ok tt) c.args.pages.now c.loop-route.pages c.part.new.pages g.met.P.Pages.keeps_trans g.met.P.Pages.keeps_tied
          was.rests (rests_ok g.P.Pages.is_tied g.P.Pages.store g.P.Pages.keeps c.in_ok-cells.cells tt c.loop-route.pages c.part.new.pages c.in_ok-cells.ensures.rests);
      told = c.in_ok-cells.ensures.told ∙ was.told;
      passed = λ tied.
          let later = g.met.P.Pages.keeps_tied c.args.pages.now c.loop-route.pages was.rests.below tied in
          let same = was.rests.rests.keeps.pages tied in
          let more = subst (λ (t : Told). HasPassed (plain_form t.width) mid c.loop-route.opening → HasPassed (plain_form t.width) mid c.part.new.self) was.told (c.in_ok-cells.ensures.parts later).passed in
          passed_same referent_form mid old (same_back mid old same) c.part.new.self (more (passed_same referent_form old mid same c.loop-route.opening (was.passed tied)));
      say = λ tied.
          let later = g.met.P.Pages.keeps_tied c.args.pages.now c.loop-route.pages was.rests.below tied in
          let same = was.rests.rests.keeps.pages tied in
          let finds = subst (λ (t : Told). FindsWhere (plain_form t.width) mid t.root (is_within low high) found) was.told (c.in_ok-cells.ensures.parts later).found in
          let order : is_below high low ≡ false = ap (is_below high) was.low ∙ rising_bounds on high next.number was.fits c.start_of.ensures.fits c.start_of.ensures.bytes
          (λ route one. before_below routes k next route c.requires.rising (sym was.on ∙ one) there) in
          subst (SaysBelow SaysReferent referent_form old c.args.told.root) (sym c.in_ok-cells.ensures.low)
          (says_more SaysReferent referent_form old c.args.told.root low high found order
          (finds_back referent_form old mid same c.args.told.root (is_within low high) found finds) (c.are_part_meant.ensures.say c.if-not-are_part_meant.false) (was.say tied));
      on = sym there ∙ ap (before routes) counted;
      low = c.in_ok-cells.ensures.low ∙ c.start_of.ensures.bytes;
      fits = c.start_of.ensures.fits;
      meant = λ tied.
          let later = g.met.P.Pages.keeps_tied c.args.pages.now c.loop-route.pages was.rests.below tied in
          let same = was.rests.rests.keeps.pages tied in
          let finds = subst (λ (t : Told). FindsWhere (plain_form t.width) mid t.root (is_within low high) found) was.told (c.in_ok-cells.ensures.parts later).found in
          meant_more routes c.args.told.accepted old c.args.told.root (from_of on) next.number (was.meant tied)
          (part_for routes c.args.told.accepted old c.args.told.root (is_within low high) (is_between (from_of on) next.number)
          (λ cell referent says. ap (λ (bound : List ℕ). is_within bound high cell) was.low ∙ within_is cell referent says on high next.number was.fits c.start_of.ensures.fits c.start_of.ensures.bytes)
          on (part_between routes k on c.requires.rising was.on next c.loop-route-test.true there) found (finds_back referent_form old mid same c.args.told.root (is_within low high) found finds)
          (λ referents all. c.are_part_meant.ensures.meant referents all c.if-not-are_part_meant.false));
    }

pub returns-in_err-versions-clause-rests : goal.returns-in_err-versions-clause-rests
returns-in_err-versions-clause-rests g c =
    let p = err_from_is_err_and c.from_residual-in_err-versions.result c.from_residual-in_err-versions.ensures.1 in
    rw (p.1, p.2) (rests_err g.P.Pages.is_tied g.P.Pages.store g.P.Pages.keeps c.in_err-versions.field-0.0 c.args.pages.now c.finish.new.pages
    (rests_then g.P.Pages.is_tied g.P.Pages.store g.P.Pages.keeps tt (Err c.in_err-versions.field-0.0) c.args.pages.now c.loop-route.pages c.finish.new.pages g.met.P.Pages.keeps_trans g.met.P.Pages.keeps_tied
    c.loop-route.invariant.rests c.in_err-versions.ensures.rests))

pub returns-in_err-versions-clause-refused : goal.returns-in_err-versions-clause-refused
returns-in_err-versions-clause-refused g c =
    let p = err_from_is_err_and c.from_residual-in_err-versions.result c.from_residual-in_err-versions.ensures.1 in
    record {
      cause = rw (p.1, p.2) c.in_err-versions.ensures.refused;
      damaged = λ tied is.
          let old = (g.P.Pages.store c.args.pages.now).map in
          let mid = (g.P.Pages.store c.loop-route.pages).map in
          let later = g.met.P.Pages.keeps_tied c.args.pages.now c.loop-route.pages c.loop-route.invariant.rests.below tied in
          let same = c.loop-route.invariant.rests.rests.keeps.pages tied in
          let why : c.in_err-versions.field-0.0 ≡ refusal.DamagedFile = cc (p.1, p.2, is) in
          let other = subst (λ (t : Told). HasPassed (plain_form t.width) mid c.loop-route.opening → StandsOtherwise (plain_form t.width) mid t) c.loop-route.invariant.told ((c.in_err-versions.ensures.finishes later).damaged (ap Err why)) in
          none_otherwise kept_referents old c.args.told (AreReferentsMeant c.args.routes.now c.args.told.accepted) (taken c.args.reached.now) referent_width
          (otherwise_back referent_form old mid same (told_of referent_width c.args.told) (other (passed_same referent_form old mid same c.loop-route.opening (c.loop-route.invariant.passed tied))));
    }

pub returns-then-not-are_part_meant-2-clause-rests : goal.returns-then-not-are_part_meant-2-clause-rests
returns-then-not-are_part_meant-2-clause-rests g c =
    rests_refused g.P.Pages.is_tied g.P.Pages.store g.P.Pages.keeps (c.in_ok-versions.versions, c.in_ok-versions.left) refusal.DamagedFile c.args.pages.now c.finish.new.pages
    (λ disk. let clash : refusal.Disk ≡ refusal.DamagedFile = sym disk in absurd (cc))
    (rests_then g.P.Pages.is_tied g.P.Pages.store g.P.Pages.keeps tt (Ok (c.in_ok-versions.versions, c.in_ok-versions.left)) c.args.pages.now c.loop-route.pages c.finish.new.pages g.met.P.Pages.keeps_trans g.met.P.Pages.keeps_tied
    c.loop-route.invariant.rests c.in_ok-versions.ensures.rests)

pub returns-then-not-are_part_meant-2-clause-refused : goal.returns-then-not-are_part_meant-2-clause-refused
returns-then-not-are_part_meant-2-clause-refused g c = record {
  cause = inr (inr refl);
  damaged = λ tied is.
      let old = (g.P.Pages.store c.args.pages.now).map in
      let mid = (g.P.Pages.store c.loop-route.pages).map in
      let later = g.met.P.Pages.keeps_tied c.args.pages.now c.loop-route.pages c.loop-route.invariant.rests.below tied in
      let same = c.loop-route.invariant.rests.rests.keeps.pages tied in
      let routes = c.args.routes.now in
      let k = c.loop-route.route-index in
      let on = c.loop-route.on in
      let was = c.loop-route.invariant in
      let low = c.loop-route.opening.low in
      let left = listed c.in_ok-versions.left in
      let finds = subst (λ (t : Told). FindsWhere (plain_form t.width) mid t.root (λ cell. not (is_below cell low)) left) was.told (c.in_ok-versions.ensures.finishes later).left in
      none_so kept_referents old c.args.told (AreReferentsMeant routes c.args.told.accepted) (taken c.args.reached.now)
      (no_part routes c.args.told.accepted old c.args.told.root (λ cell. not (is_below cell low)) (is_after (from_of on))
      (λ cell referent says. ap (λ (bound : List ℕ). not (is_below cell bound)) was.low ∙ left_is cell referent says on was.fits)
      on (part_after routes k on c.requires.rising was.on (omega (arith, c.loop-route.auto.route-index-end)) (omega (arith, c.loop-route-test.false))) left
      (finds_back referent_form old mid same c.args.told.root (λ cell. not (is_below cell low)) left finds)
      c.are_part_meant-2.result c.if-not-are_part_meant-2.true c.are_part_meant-2.ensures.passes);
}

pub returns-clause-rests : goal.returns-clause-rests
returns-clause-rests g c =
    rests_ok g.P.Pages.is_tied g.P.Pages.store g.P.Pages.keeps (c.in_ok-versions.versions, c.in_ok-versions.left) c.with.result c.args.pages.now c.finish.new.pages
    (rests_then g.P.Pages.is_tied g.P.Pages.store g.P.Pages.keeps tt (Ok (c.in_ok-versions.versions, c.in_ok-versions.left)) c.args.pages.now c.loop-route.pages c.finish.new.pages g.met.P.Pages.keeps_trans g.met.P.Pages.keeps_tied
    c.loop-route.invariant.rests c.in_ok-versions.ensures.rests)

pub returns-clause-opens : goal.returns-clause-opens
returns-clause-opens g c = λ tied.
    let old = (g.P.Pages.store c.args.pages.now).map in
    let mid = (g.P.Pages.store c.loop-route.pages).map in
    let later = g.met.P.Pages.keeps_tied c.args.pages.now c.loop-route.pages c.loop-route.invariant.rests.below tied in
    let same = c.loop-route.invariant.rests.rests.keeps.pages tied in
    let left = listed c.in_ok-versions.left in
    let low = c.loop-route.opening.low in
    let dead = c.in_ok-versions.versions.working.dead in
    let finds = subst (λ (t : Told). FindsWhere (plain_form t.width) mid t.root (λ cell. not (is_below cell low)) left) c.loop-route.invariant.told (c.in_ok-versions.ensures.finishes later).left in
    let stands = subst (λ (t : Told). HasPassed (plain_form t.width) mid c.loop-route.opening → (cells : List (List ℕ)) (used : ℕ → ℕ) → IsTree (plain_form t.width) mid t.root cells used → StandsTold (plain_form t.width) mid t dead cells used)
    c.loop-route.invariant.told (c.in_ok-versions.ensures.finishes later).stands (passed_same referent_form old mid same c.loop-route.opening (c.loop-route.invariant.passed tied)) in
    opens_records kept_referents old c.args.told (AreReferentsMeant c.args.routes.now c.args.told.accepted) c.with.result.working (taken c.args.reached.now) (taken c.begin.new.reached) referent_width low left (c.in_ok-opening.ensures.begins tied).validates (record {
      root = ap (λ (s : Standing). s.root) c.with.ensures.working ∙ c.in_ok-versions.ensures.cells.root ∙ ap (λ (t : Told). t.root) c.loop-route.invariant.told;
      living = ap (λ (s : Standing). s.living) c.with.ensures.working ∙ c.in_ok-versions.ensures.cells.living ∙ ap (λ (t : Told). t.living) c.loop-route.invariant.told;
      garbage = ap (λ (s : Standing). length s.dead) c.with.ensures.working ∙ c.in_ok-versions.ensures.cells.garbage ∙ ap (λ (t : Told). t.garbage) c.loop-route.invariant.told;
    })
    (subst (λ (s : Standing). (cells : List (List ℕ)) (used : ℕ → ℕ) → IsTree referent_form old c.args.told.root cells used → StandsTold referent_form old (told_of referent_width c.args.told) s.dead cells used) (sym c.with.ensures.working)
    (stands_back referent_form old mid same (told_of referent_width c.args.told) dead stands))
    (c.loop-route.invariant.say tied) (finds_back referent_form old mid same c.args.told.root (λ cell. not (is_below cell low)) left finds) (c.are_part_meant-2.ensures.say c.if-not-are_part_meant-2.false)
    (meant_all c.args.routes.now c.args.told.accepted old c.args.told.root (from_of c.loop-route.on) (c.loop-route.invariant.meant tied)
    (part_for c.args.routes.now c.args.told.accepted old c.args.told.root (λ cell. not (is_below cell low)) (is_after (from_of c.loop-route.on))
    (λ cell referent says. ap (λ (bound : List ℕ). not (is_below cell bound)) c.loop-route.invariant.low ∙ left_is cell referent says c.loop-route.on c.loop-route.invariant.fits)
    c.loop-route.on (part_after c.args.routes.now c.loop-route.route-index c.loop-route.on c.requires.rising c.loop-route.invariant.on (omega (arith, c.loop-route.auto.route-index-end)) (omega (arith, c.loop-route-test.false))) left
    (finds_back referent_form old mid same c.args.told.root (λ cell. not (is_below cell low)) left finds)
    (λ referents all. c.are_part_meant-2.ensures.meant referents all c.if-not-are_part_meant-2.false)))

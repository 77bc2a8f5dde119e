-- What is told of the part below is told of this one, and after what is told of the cells before.
use Rattle.std.proofs.Common.{◌≡◌, ◌≤◌, ◌<◌, Ok, Err, length, ap, subst, arith}
use Rattle.std.proofs.lemmas.Result.{err_from_is_err_and}
use Rattle.rs_refusal.specs.declared.refusal.Refusal.TheVariants as refusal
use Rattle.rs_pages.proofs.Resting.{rests_ok, rests_then}
use Rattle.rs_pages.proofs.Stores.{SamePages-refl}
use Rattle.rs_records.specs.Listed.{listed}
use Rattle.rs_tree.specs.Form.{Form, joined}
use Rattle.rs_tree.specs.Forms.{form_in}
use Rattle.rs_btree.specs.Looking.{AreRising, EndsWithin, GoesOn, Leads, OfEach, TellsFirst}
use Rattle.rs_btree.proofs.Parts.{no_level, no_node, none_above, none_before, some_more, told_above, told_after, told_before, told_some, told_wider}
use Rattle.rs_btree.proofs.lookup.+first_missing.Goals as goal

pub look-requires-clause-rising : goal.look-requires-clause-rising
look-requires-clause-rising g t c = λ one other a b low less high is found.
    c.requires.rising one other a b (omega (arith, low, c.loop-at.invariant.after)) less high is found

pub returns-in_err-place-clause-damaged : goal.returns-in_err-place-clause-damaged
returns-in_err-place-clause-damaged g t c = λ is tied.
    let form : Form = form_in g.S.Summary c.args.layout in
    let here = (g.P.Pages.store c.loop-at.pages).map in
    let later = g.met.P.Pages.keeps_tied c.args.pages.now c.loop-at.pages c.loop-at.invariant.rests.below tied in
    let p = err_from_is_err_and c.from_residual.result c.from_residual.ensures.1 in
    let why : c.in_err-place.field-0.0 ≡ refusal.DamagedFile = cc (p.1, p.2, is) in
    none_before form (g.P.Pages.store c.args.pages.now).map here (c.loop-at.invariant.rests.rests.keeps.pages tied) c.args.number c.args.levels
    (no_node (λ bytes cells. g.S.Summary.says bytes (joined g.S.Summary.unit g.S.Summary.join g.S.Summary.of cells)) c.args.layout here c.args.number c.args.levels
    (c.in_err-place.ensures.refused.damaged later why))

pub returns-in-End-clause-found : goal.returns-in-End-clause-found
returns-in-End-clause-found g t c = λ tied.
    let form : Form = form_in g.S.Summary c.args.layout in
    let pages = (g.P.Pages.store c.args.pages.now).map in
    let here = (g.P.Pages.store c.loop-at.pages).map in
    let cells = listed c.args.cells.now in
    let later = g.met.P.Pages.keeps_tied c.args.pages.now c.loop-at.pages c.loop-at.invariant.rests.below tied in
    let first : TellsFirst form here c.args.number cells c.loop-at.at c.args.to c.in-End.place =
    subst (Leads form here c.args.number cells c.loop-at.at c.args.to) c.in-End.is (c.in_ok-place.ensures.leads later) in
    told_after form pages c.args.number cells c.args.from c.loop-at.at c.args.to c.in-End.place (c.loop-at.invariant.some tied)
    (told_before form pages here (c.loop-at.invariant.rests.rests.keeps.pages tied) c.args.number cells c.loop-at.at c.args.to c.in-End.place first)

pub returns-then-levels-eq0-clause-damaged : goal.returns-then-levels-eq0-clause-damaged
returns-then-levels-eq0-clause-damaged g t c = λ is tied.
    let form : Form = form_in g.S.Summary c.args.layout in
    let pages = (g.P.Pages.store c.args.pages.now).map in
    let here = (g.P.Pages.store c.loop-at.pages).map in
    let cells = listed c.args.cells.now in
    let later = g.met.P.Pages.keeps_tied c.args.pages.now c.loop-at.pages c.loop-at.invariant.rests.below tied in
    let goes : OfEach (GoesOn form here c.args.number c.in-Below.child) cells c.loop-at.at c.in-Below.end =
    subst (Leads form here c.args.number cells c.loop-at.at c.args.to) c.in-Below.is (c.in_ok-place.ensures.leads later) in
    let ends : (c.loop-at.at < c.in-Below.end) × (c.in-Below.end ≤ c.args.to) = subst (EndsWithin c.loop-at.at c.args.to) c.in-Below.is c.in_ok-place.ensures.within in
    none_before form pages here (c.loop-at.invariant.rests.rests.keeps.pages tied) c.args.number c.args.levels
    (no_level form here here c.args.number c.in-Below.child cells c.loop-at.at c.in-Below.end (SamePages-refl here) ends.0 (omega (arith, ends.1, c.requires.inside)) goes c.args.levels c.if-levels-eq0.true)

pub first_missing-requires : goal.first_missing-requires
first_missing-requires g t c κs within =
    let cells = listed c.args.cells.now in
    let ends : (c.loop-at.at < c.in-Below.end) × (c.in-Below.end ≤ c.args.to) = subst (EndsWithin c.loop-at.at c.args.to) c.in-Below.is c.in_ok-place.ensures.within in
    let inside : c.in-Below.end ≤ length cells = omega (arith, ends.1, c.requires.inside) in
    let rising : AreRising cells c.loop-at.at c.in-Below.end = λ one other a b low less high is found.
    c.requires.rising one other a b (omega (arith, low, c.loop-at.invariant.after)) less (omega (arith, high, ends.1)) is found in
    (omega (arith, c.decreases, c.if-levels-eq0.false), (within.0, (within.1, (inside, rising))))

pub returns-in_err-place-in-Below-clause-damaged : goal.returns-in_err-place-in-Below-clause-damaged
returns-in_err-place-in-Below-clause-damaged g t c = λ is tied.
    let form : Form = form_in g.S.Summary c.args.layout in
    let pages = (g.P.Pages.store c.args.pages.now).map in
    let here = (g.P.Pages.store c.loop-at.pages).map in
    let looked = (g.P.Pages.store c.look.new.pages).map in
    let cells = listed c.args.cells.now in
    let later = g.met.P.Pages.keeps_tied c.args.pages.now c.loop-at.pages c.loop-at.invariant.rests.below tied in
    let after = g.met.P.Pages.keeps_tied c.loop-at.pages c.look.new.pages c.in_ok-place.ensures.rests.below later in
    let goes : OfEach (GoesOn form here c.args.number c.in-Below.child) cells c.loop-at.at c.in-Below.end =
    subst (Leads form here c.args.number cells c.loop-at.at c.args.to) c.in-Below.is (c.in_ok-place.ensures.leads later) in
    let ends : (c.loop-at.at < c.in-Below.end) × (c.in-Below.end ≤ c.args.to) = subst (EndsWithin c.loop-at.at c.args.to) c.in-Below.is c.in_ok-place.ensures.within in
    let p = err_from_is_err_and c.from_residual-in_err-place-in-Below.result c.from_residual-in_err-place-in-Below.ensures.1 in
    let why : c.in_err-place-in-Below.field-0.0 ≡ refusal.DamagedFile = cc (p.1, p.2, is) in
    none_before form pages here (c.loop-at.invariant.rests.rests.keeps.pages tied) c.args.number c.args.levels
    (none_above form here looked c.args.number c.in-Below.child cells c.loop-at.at c.in-Below.end (c.in_ok-place.ensures.rests.rests.keeps.pages later) ends.0 (omega (arith, ends.1, c.requires.inside)) goes
    c.args.levels (λ zero. omega (arith, zero, c.if-levels-eq0.false)) (c.in_err-place-in-Below.ensures.damaged (ap Err why) after))

pub returns-then-place-end-clause-found : goal.returns-then-place-end-clause-found
returns-then-place-end-clause-found g t c = λ tied.
    let form : Form = form_in g.S.Summary c.args.layout in
    let pages = (g.P.Pages.store c.args.pages.now).map in
    let here = (g.P.Pages.store c.loop-at.pages).map in
    let looked = (g.P.Pages.store c.look.new.pages).map in
    let cells = listed c.args.cells.now in
    let later = g.met.P.Pages.keeps_tied c.args.pages.now c.loop-at.pages c.loop-at.invariant.rests.below tied in
    let after = g.met.P.Pages.keeps_tied c.loop-at.pages c.look.new.pages c.in_ok-place.ensures.rests.below later in
    let goes : OfEach (GoesOn form here c.args.number c.in-Below.child) cells c.loop-at.at c.in-Below.end =
    subst (Leads form here c.args.number cells c.loop-at.at c.args.to) c.in-Below.is (c.in_ok-place.ensures.leads later) in
    let ends : (c.loop-at.at < c.in-Below.end) × (c.in-Below.end ≤ c.args.to) = subst (EndsWithin c.loop-at.at c.args.to) c.in-Below.is c.in_ok-place.ensures.within in
    let some : c.loop-at.at < c.in-Below.end = ends.0 in
    let bounds = c.in_ok-place-in-Below.ensures.within (omega (arith, some)) in
    let first : TellsFirst form here c.args.number cells c.loop-at.at c.in-Below.end c.in_ok-place-in-Below.place =
    told_above form here looked c.args.number c.in-Below.child cells c.loop-at.at c.in-Below.end (c.in_ok-place.ensures.rests.rests.keeps.pages later) ends.0 (omega (arith, ends.1, c.requires.inside)) goes
    c.in_ok-place-in-Below.place bounds.0 bounds.1 (c.in_ok-place-in-Below.ensures.found after) in
    told_after form pages c.args.number cells c.args.from c.loop-at.at c.args.to c.in_ok-place-in-Below.place (c.loop-at.invariant.some tied)
    (told_before form pages here (c.loop-at.invariant.rests.rests.keeps.pages tied) c.args.number cells c.loop-at.at c.args.to c.in_ok-place-in-Below.place
    (told_wider form here c.args.number cells c.loop-at.at c.in-Below.end c.args.to c.in_ok-place-in-Below.place c.if-place-end.true first))

pub loop-at-preserved : goal.loop-at-preserved
loop-at-preserved g t c =
    let form : Form = form_in g.S.Summary c.args.layout in
    let pages = (g.P.Pages.store c.args.pages.now).map in
    let here = (g.P.Pages.store c.loop-at.pages).map in
    let looked = (g.P.Pages.store c.look.new.pages).map in
    let cells = listed c.args.cells.now in
    let ends : (c.loop-at.at < c.in-Below.end) × (c.in-Below.end ≤ c.args.to) = subst (EndsWithin c.loop-at.at c.args.to) c.in-Below.is c.in_ok-place.ensures.within in
    let some : c.loop-at.at < c.in-Below.end = ends.0 in
    let bounds = c.in_ok-place-in-Below.ensures.within (omega (arith, some)) in
    record {
      rests = rests_ok g.P.Pages.is_tied g.P.Pages.store g.P.Pages.keeps c.in_ok-place-in-Below.place tt c.args.pages.now c.first_missing.new.pages
          (rests_then g.P.Pages.is_tied g.P.Pages.store g.P.Pages.keeps c.in_ok-place.field-0 (Ok c.in_ok-place-in-Below.place) c.args.pages.now c.look.new.pages c.first_missing.new.pages
          g.met.P.Pages.keeps_trans g.met.P.Pages.keeps_tied
          (rests_then g.P.Pages.is_tied g.P.Pages.store g.P.Pages.keeps tt (Ok c.in_ok-place.field-0) c.args.pages.now c.loop-at.pages c.look.new.pages
          g.met.P.Pages.keeps_trans g.met.P.Pages.keeps_tied c.loop-at.invariant.rests c.in_ok-place.ensures.rests)
          c.in_ok-place-in-Below.ensures.rests);
      after = omega (arith, some, c.loop-at.invariant.after);
      upto = λ _. ends.1;
      some = λ tied.
          let later = g.met.P.Pages.keeps_tied c.args.pages.now c.loop-at.pages c.loop-at.invariant.rests.below tied in
          let after = g.met.P.Pages.keeps_tied c.loop-at.pages c.look.new.pages c.in_ok-place.ensures.rests.below later in
          let goes : OfEach (GoesOn form here c.args.number c.in-Below.child) cells c.loop-at.at c.in-Below.end =
          subst (Leads form here c.args.number cells c.loop-at.at c.args.to) c.in-Below.is (c.in_ok-place.ensures.leads later) in
          let first : TellsFirst form here c.args.number cells c.loop-at.at c.in-Below.end c.in_ok-place-in-Below.place =
          told_above form here looked c.args.number c.in-Below.child cells c.loop-at.at c.in-Below.end (c.in_ok-place.ensures.rests.rests.keeps.pages later) ends.0 (omega (arith, ends.1, c.requires.inside)) goes
          c.in_ok-place-in-Below.place bounds.0 bounds.1 (c.in_ok-place-in-Below.ensures.found after) in
          some_more form pages c.args.number cells c.args.from c.loop-at.at c.in-Below.end (c.loop-at.invariant.some tied)
          (told_some form pages c.args.number cells c.loop-at.at c.in-Below.end c.in_ok-place-in-Below.place (omega (arith, bounds.1, c.if-place-end.false))
          (told_before form pages here (c.loop-at.invariant.rests.rests.keeps.pages tied) c.args.number cells c.loop-at.at c.in-Below.end c.in_ok-place-in-Below.place first));
    }

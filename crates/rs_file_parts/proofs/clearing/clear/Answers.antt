-- The tables from a place on, those before it, and the referents.
use Rattle.std.proofs.Common.{◌≡◌, ◌≤◌, ◌+◌, ◌-◌, ◌%◌, ℕ, length, refl, subst, arith}
use Rattle.std.specs.List.{AllByRecursion}
use Rattle.std.proofs.lemmas.Result.{err_from_is_err_and}
use Rattle.rs_file_parts.specs.Clearing.{ClearsAsMany, ClearsFirst}
use Rattle.rs_file_parts.specs.Inner.{ClearsAllReferents, ClearsPlaces, HasNoneDead}
use Rattle.rs_file_parts.specs.Parts.{HoldsNoParts, KeepsOpened, Makes}
use Rattle.rs_file_parts.proofs.Cleared.{ClearsInTurn, all_cleared, referents_alone}
use Rattle.rs_file_parts.proofs.Made.{makes_weaker, none_before}
use Rattle.rs_file_parts.proofs.Ready.{keeps_then, ready_after}
use Rattle.rs_page_owners.proofs.Following.{works_err}
use Rattle.rs_page_owners.proofs.Working.{CountsNothing-trans, Works-trans}
use Rattle.rs_tree.proofs.Lists.{zip_lengths}
use Rattle.rs_versioned.proofs.Answering.{if_ok_both}
use Rattle.rs_file_parts.proofs.clearing.clear.Goals as goal

pub returns-then-have_none_dead-clause-clears : goal.returns-then-have_none_dead-clause-clears
returns-then-have_none_dead-clause-clears g c = λ tied.
    let oldest = c.args.oldest in
    let most = c.args.most in
    let was = c.args.file.now in
    let is = c.clear_referents.new.file in
    let old = (g.P.Pages.store c.args.pages.now).map in
    let new = (g.P.Pages.store c.clear_referents.new.pages).map in
    let none = subst (AllByRecursion HasNoneDead) c.as_slice.ensures.value (c.have_none_dead.ensures c.if-have_none_dead.true) in
    if_ok_both c.clear_referents.result (λ gone. gone ≤ most) (λ gone. (accepted : ℕ) → Makes old new was is accepted accepted (ClearsAllReferents oldest most gone))
    (λ gone. (accepted : ℕ) → Makes old new was is accepted accepted (ClearsAsMany oldest most gone))
    (λ gone few clears accepted. makes_weaker (ClearsInTurn oldest most gone 0) (ClearsAsMany oldest most gone) (λ one other turn. turn.as_many) old new was is accepted accepted
    (referents_alone old new was is oldest most gone 0 none few clears accepted))
    c.clear_referents.ensures.few (c.clear_referents.ensures.clears tied)

pub returns-then-have_none_dead-clause-turn : goal.returns-then-have_none_dead-clause-turn
returns-then-have_none_dead-clause-turn g c = λ tied.
    let oldest = c.args.oldest in
    let most = c.args.most in
    let was = c.args.file.now in
    let is = c.clear_referents.new.file in
    let old = (g.P.Pages.store c.args.pages.now).map in
    let new = (g.P.Pages.store c.clear_referents.new.pages).map in
    let place = c.args.first % length was.tables.items in
    let none = subst (AllByRecursion HasNoneDead) c.as_slice.ensures.value (c.have_none_dead.ensures c.if-have_none_dead.true) in
    if_ok_both c.clear_referents.result (λ gone. gone ≤ most) (λ gone. (accepted : ℕ) → Makes old new was is accepted accepted (ClearsAllReferents oldest most gone))
    (λ gone. (accepted : ℕ) → Makes old new was is accepted accepted (ClearsFirst oldest most place))
    (λ gone few clears accepted. makes_weaker (ClearsInTurn oldest most gone place) (ClearsFirst oldest most place) (λ one other turn. turn.first) old new was is accepted accepted
    (referents_alone old new was is oldest most gone place none few clears accepted))
    c.clear_referents.ensures.few (c.clear_referents.ensures.clears tied)

pub clear_tables-requires-2-clause-ready : goal.clear_tables-requires-2-clause-ready
clear_tables-requires-2-clause-ready g c = ready_after c.args.file.now c.clear_tables.new.file c.in_ok-after.ensures.keeps c.requires.ready

pub clear_tables-requires-2-clause-places : goal.clear_tables-requires-2-clause-places
clear_tables-requires-2-clause-places g c =
    omega (arith, zip_lengths KeepsOpened c.args.file.now.tables.items c.clear_tables.new.file.tables.items c.in_ok-after.ensures.keeps.tables)

pub returns-in_err-before-clause-leaves : goal.returns-in_err-before-clause-leaves
returns-in_err-before-clause-leaves g c =
    let s0 = g.P.Pages.store c.args.pages.now in
    let s1 = g.P.Pages.store c.clear_tables.new.pages in
    let p = err_from_is_err_and c.from_residual-in_err-before.result c.from_residual-in_err-before.ensures.1 in
    record {
      keeps = g.met.P.Pages.keeps_trans c.args.pages.now c.clear_tables.new.pages c.clear_tables-2.new.pages c.in_ok-after.ensures.leaves.keeps c.in_err-before.ensures.leaves.keeps;
      works = rw (p.1, p.2) (works_err (g.P.Pages.is_tied c.args.pages.now → HoldsNoParts s0.map c.args.file.now)
          (g.P.Pages.is_tied c.clear_tables.new.pages → HoldsNoParts s1.map c.clear_tables.new.file) c.in_err-before.field-0.0
          s0 s1 (g.P.Pages.store c.clear_tables-2.new.pages) c.in_ok-after.ensures.leaves.works.works c.in_ok-after.ensures.leaves.works.ends
          (λ none tied. none_before (λ accepted. ClearsPlaces c.args.oldest c.args.most c.in_ok-after.after c.place_among-start.result c.len-count.result) s0.map s1.map c.args.file.now c.clear_tables.new.file
          (c.in_ok-after.ensures.clears tied) (none (g.met.P.Pages.keeps_tied c.args.pages.now c.clear_tables.new.pages c.in_ok-after.ensures.leaves.keeps tied)))
          c.in_err-before.ensures.leaves.works);
    }

pub returns-in_err-before-clause-keeps : goal.returns-in_err-before-clause-keeps
returns-in_err-before-clause-keeps g c = keeps_then c.args.file.now c.clear_tables.new.file c.clear_tables-2.new.file c.in_ok-after.ensures.keeps c.in_err-before.ensures.keeps

pub returns-in_err-before-clause-order : goal.returns-in_err-before-clause-order
returns-in_err-before-clause-order g c = λ version have. c.in_err-before.ensures.order version (c.in_ok-after.ensures.order version have)

pub returns-in_err-referents-clause-leaves : goal.returns-in_err-referents-clause-leaves
returns-in_err-referents-clause-leaves g c =
    let s0 = g.P.Pages.store c.args.pages.now in
    let s1 = g.P.Pages.store c.clear_tables.new.pages in
    let s2 = g.P.Pages.store c.clear_tables-2.new.pages in
    let p = err_from_is_err_and c.from_residual-in_err-referents.result c.from_residual-in_err-referents.ensures.1 in
    record {
      keeps = g.met.P.Pages.keeps_trans c.args.pages.now c.clear_tables.new.pages c.clear_referents-2.new.pages c.in_ok-after.ensures.leaves.keeps
          (g.met.P.Pages.keeps_trans c.clear_tables.new.pages c.clear_tables-2.new.pages c.clear_referents-2.new.pages c.in_ok-before.ensures.leaves.keeps c.in_err-referents.ensures.leaves.keeps);
      works = rw (p.1, p.2) (works_err (g.P.Pages.is_tied c.args.pages.now → HoldsNoParts s0.map c.args.file.now)
          (g.P.Pages.is_tied c.clear_tables-2.new.pages → HoldsNoParts s2.map c.clear_tables-2.new.file) c.in_err-referents.field-0.0
          s0 s2 (g.P.Pages.store c.clear_referents-2.new.pages)
          (Works-trans s0 s1 s2 c.in_ok-after.ensures.leaves.works.works c.in_ok-before.ensures.leaves.works.works)
          (CountsNothing-trans s0 s1 s2 c.in_ok-after.ensures.leaves.works.ends c.in_ok-before.ensures.leaves.works.ends)
          (λ none tied.
          let tied1 = g.met.P.Pages.keeps_tied c.args.pages.now c.clear_tables.new.pages c.in_ok-after.ensures.leaves.keeps tied in
          none_before (λ accepted. ClearsPlaces c.args.oldest c.args.most c.in_ok-after.after c.place_among-start.result c.len-count.result) s0.map s1.map c.args.file.now c.clear_tables.new.file
          (c.in_ok-after.ensures.clears tied)
          (none_before (λ accepted. ClearsPlaces c.args.oldest (c.args.most - c.in_ok-after.after) c.in_ok-before.before 0 c.place_among-start.result) s1.map s2.map c.clear_tables.new.file c.clear_tables-2.new.file
          (c.in_ok-before.ensures.clears tied1) (none (g.met.P.Pages.keeps_tied c.clear_tables.new.pages c.clear_tables-2.new.pages c.in_ok-before.ensures.leaves.keeps tied1))))
          c.in_err-referents.ensures.leaves.works);
    }

pub returns-in_err-referents-clause-keeps : goal.returns-in_err-referents-clause-keeps
returns-in_err-referents-clause-keeps g c =
    keeps_then c.args.file.now c.clear_tables.new.file c.clear_referents-2.new.file c.in_ok-after.ensures.keeps
    (keeps_then c.clear_tables.new.file c.clear_tables-2.new.file c.clear_referents-2.new.file c.in_ok-before.ensures.keeps c.in_err-referents.ensures.keeps)

pub returns-in_err-referents-clause-order : goal.returns-in_err-referents-clause-order
returns-in_err-referents-clause-order g c = λ version have. c.in_err-referents.ensures.order version (c.in_ok-before.ensures.order version (c.in_ok-after.ensures.order version have))

pub returns-clause-leaves : goal.returns-clause-leaves
returns-clause-leaves g c =
    let s0 = g.P.Pages.store c.args.pages.now in
    let s1 = g.P.Pages.store c.clear_tables.new.pages in
    let s2 = g.P.Pages.store c.clear_tables-2.new.pages in
    let s3 = g.P.Pages.store c.clear_referents-2.new.pages in
    record {
      keeps = g.met.P.Pages.keeps_trans c.args.pages.now c.clear_tables.new.pages c.clear_referents-2.new.pages c.in_ok-after.ensures.leaves.keeps
          (g.met.P.Pages.keeps_trans c.clear_tables.new.pages c.clear_tables-2.new.pages c.clear_referents-2.new.pages c.in_ok-before.ensures.leaves.keeps c.in_ok-referents.ensures.leaves.keeps);
      works = record {
        works = Works-trans s0 s1 s3 c.in_ok-after.ensures.leaves.works.works (Works-trans s1 s2 s3 c.in_ok-before.ensures.leaves.works.works c.in_ok-referents.ensures.leaves.works.works);
        ends = CountsNothing-trans s0 s1 s3 c.in_ok-after.ensures.leaves.works.ends (CountsNothing-trans s1 s2 s3 c.in_ok-before.ensures.leaves.works.ends c.in_ok-referents.ensures.leaves.works.ends);
      };
    }

pub returns-clause-clears : goal.returns-clause-clears
returns-clause-clears g c = λ tied accepted.
    let gone = (c.in_ok-after.after + c.in_ok-before.before) + c.in_ok-referents.referents in
    let tied1 = g.met.P.Pages.keeps_tied c.args.pages.now c.clear_tables.new.pages c.in_ok-after.ensures.leaves.keeps tied in
    let tied2 = g.met.P.Pages.keeps_tied c.clear_tables.new.pages c.clear_tables-2.new.pages c.in_ok-before.ensures.leaves.keeps tied1 in
    makes_weaker (ClearsInTurn c.args.oldest c.args.most gone c.place_among-start.result) (ClearsAsMany c.args.oldest c.args.most gone) (λ old now clears. clears.as_many)
    (g.P.Pages.store c.args.pages.now).map (g.P.Pages.store c.clear_referents-2.new.pages).map c.args.file.now c.clear_referents-2.new.file accepted accepted
    (all_cleared (g.P.Pages.store c.args.pages.now).map (g.P.Pages.store c.clear_tables.new.pages).map (g.P.Pages.store c.clear_tables-2.new.pages).map (g.P.Pages.store c.clear_referents-2.new.pages).map
    c.args.file.now c.clear_tables.new.file c.clear_tables-2.new.file c.clear_referents-2.new.file
    c.args.oldest c.args.most c.in_ok-after.after c.in_ok-before.before c.in_ok-referents.referents c.place_among-start.result c.len-count.result c.place_among-start.result (omega arith) (λ some. refl)
    c.in_ok-after.ensures.few c.in_ok-before.ensures.few c.in_ok-referents.ensures.few
    (c.in_ok-after.ensures.clears tied) (c.in_ok-before.ensures.clears tied1) (c.in_ok-referents.ensures.clears tied2) accepted)

pub returns-clause-turn : goal.returns-clause-turn
returns-clause-turn g c = λ tied accepted.
    let gone = (c.in_ok-after.after + c.in_ok-before.before) + c.in_ok-referents.referents in
    let place = c.args.first % length c.args.file.now.tables.items in
    let long : c.len-count.result ≡ length c.args.file.now.tables.items = omega arith in
    let tied1 = g.met.P.Pages.keeps_tied c.args.pages.now c.clear_tables.new.pages c.in_ok-after.ensures.leaves.keeps tied in
    let tied2 = g.met.P.Pages.keeps_tied c.clear_tables.new.pages c.clear_tables-2.new.pages c.in_ok-before.ensures.leaves.keeps tied1 in
    makes_weaker (ClearsInTurn c.args.oldest c.args.most gone place) (ClearsFirst c.args.oldest c.args.most place) (λ old now clears. clears.first)
    (g.P.Pages.store c.args.pages.now).map (g.P.Pages.store c.clear_referents-2.new.pages).map c.args.file.now c.clear_referents-2.new.file accepted accepted
    (all_cleared (g.P.Pages.store c.args.pages.now).map (g.P.Pages.store c.clear_tables.new.pages).map (g.P.Pages.store c.clear_tables-2.new.pages).map (g.P.Pages.store c.clear_referents-2.new.pages).map
    c.args.file.now c.clear_tables.new.file c.clear_tables-2.new.file c.clear_referents-2.new.file
    c.args.oldest c.args.most c.in_ok-after.after c.in_ok-before.before c.in_ok-referents.referents c.place_among-start.result c.len-count.result place long
    (λ some. subst (λ n. c.place_among-start.result ≡ c.args.first % n) long (c.place_among-start.ensures.place some))
    c.in_ok-after.ensures.few c.in_ok-before.ensures.few c.in_ok-referents.ensures.few
    (c.in_ok-after.ensures.clears tied) (c.in_ok-before.ensures.clears tied1) (c.in_ok-referents.ensures.clears tied2) accepted)

pub returns-clause-keeps : goal.returns-clause-keeps
returns-clause-keeps g c =
    keeps_then c.args.file.now c.clear_tables.new.file c.clear_referents-2.new.file c.in_ok-after.ensures.keeps
    (keeps_then c.clear_tables.new.file c.clear_tables-2.new.file c.clear_referents-2.new.file c.in_ok-before.ensures.keeps c.in_ok-referents.ensures.keeps)

pub returns-clause-order : goal.returns-clause-order
returns-clause-order g c = λ version have. c.in_ok-referents.ensures.order version (c.in_ok-before.ensures.order version (c.in_ok-after.ensures.order version have))

-- Records are cleared, and the slots of the directory are written.
use Rattle.std.proofs.Common.{◌+◌, arith}
use Rattle.std.proofs.lemmas.Result.{err_from_is_err_and}
use Rattle.rs_file_parts.specs.Calls.{HoldsNoDirectory}
use Rattle.rs_file_parts.specs.Parts.{HoldsNoParts}
use Rattle.rs_changes.specs.Completing.{HoldsNoneToComplete}
use Rattle.rs_file_parts.proofs.Ready.{ready_after}
use Rattle.rs_page_owners.proofs.Following.{works_err}
use Rattle.rs_page_owners.proofs.Working.{CountsNothing-refl, Works-refl}
use Rattle.rs_changes.proofs.Completion.{completes_from, next_of_kept, no_directory, no_parts}
use Rattle.rs_changes.proofs.completing.complete.Goals as goal

pub returns-in_err-clear-clause-leaves : goal.returns-in_err-clear-clause-leaves
returns-in_err-clear-clause-leaves g c =
    let old = g.P.Pages.store c.args.pages.now in
    let p = err_from_is_err_and c.from_residual.result c.from_residual.ensures.1 in
    record {
      keeps = c.in_err-clear.ensures.leaves.keeps;
      works = rw (p.1, p.2) (works_err (g.P.Pages.is_tied c.args.pages.now → HoldsNoneToComplete old.map c.args.file.now)
          (g.P.Pages.is_tied c.args.pages.now → HoldsNoParts old.map c.args.file.now) c.in_err-clear.field-0.0
          old old (g.P.Pages.store c.clear.new.pages) (Works-refl old) (CountsNothing-refl old)
          (λ none tied. no_parts old.map c.args.file.now (none tied)) c.in_err-clear.ensures.leaves.works);
    }

pub write_slots-requires-clause-ready : goal.write_slots-requires-clause-ready
write_slots-requires-clause-ready g c = ready_after c.args.file.now c.clear.new.file c.in_ok-clear.ensures.keeps c.requires.ready

pub returns-in_err-write_slots-clause-leaves : goal.returns-in_err-write_slots-clause-leaves
returns-in_err-write_slots-clause-leaves g c =
    let old = g.P.Pages.store c.args.pages.now in
    let mid = g.P.Pages.store c.clear.new.pages in
    let p = err_from_is_err_and c.from_residual-in_err-write_slots.result c.from_residual-in_err-write_slots.ensures.1 in
    record {
      keeps = g.met.P.Pages.keeps_trans c.args.pages.now c.clear.new.pages c.write_slots.new.pages c.in_ok-clear.ensures.leaves.keeps c.in_err-write_slots.ensures.leaves.keeps;
      works = rw (p.1, p.2) (works_err (g.P.Pages.is_tied c.args.pages.now → HoldsNoneToComplete old.map c.args.file.now)
          (g.P.Pages.is_tied c.clear.new.pages → HoldsNoDirectory mid.map) c.in_err-write_slots.field-0.0
          old mid (g.P.Pages.store c.write_slots.new.pages) c.in_ok-clear.ensures.leaves.works.works c.in_ok-clear.ensures.leaves.works.ends
          (λ none tied. no_directory c.args.oldest c.saturating_add-most.result c.in_ok-clear.field-0 old.map mid.map c.args.file.now c.clear.new.file
          (c.in_ok-clear.ensures.clears tied) (none (g.met.P.Pages.keeps_tied c.args.pages.now c.clear.new.pages c.in_ok-clear.ensures.leaves.keeps tied)))
          c.in_err-write_slots.ensures.leaves.works);
    }

pub returns-clause-completes : goal.returns-clause-completes
returns-clause-completes g c = λ tied.
    completes_from c.args.oldest c.saturating_add-most.result c.in_ok-clear.field-0 (g.P.Pages.store c.args.pages.now).map (g.P.Pages.store c.clear.new.pages).map
    c.args.file.now c.clear.new.file (c.in_ok-clear.ensures.clears tied) c.args.ended (g.P.Pages.store c.write_slots.new.pages).map c.requires.room
    (omega (arith, c.saturating_add-most.ensures)) (omega (arith, c.saturating_add-most.ensures)) c.in_ok-clear.ensures.keeps
    (c.in_ok-write_slots.ensures.writes (g.met.P.Pages.keeps_tied c.args.pages.now c.clear.new.pages c.in_ok-clear.ensures.leaves.keeps tied))

pub returns-clause-next : goal.returns-clause-next
returns-clause-next g c =
    next_of_kept c.args.file.now c.clear.new.file c.in_ok-clear.ensures.keeps c.requires.ready
    (c.in_ok-clear.ensures.order (c.args.file.now.accepted + 1) c.requires.order)

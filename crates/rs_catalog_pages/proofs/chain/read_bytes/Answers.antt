-- One page after the other, each reached once; the rest of any catalogue's pages begins at the next one.
use Rattle.std.proofs.Common.{◌≡◌, ◌≤◌, ◌-◌, ℕ, [], Ok, Err, length, sym, ap, subst, refl, ◌∙◌, arith}
use Rattle.std.proofs.lemmas.Result.{err_from_is_err_and}
use Rattle.rs_refusal.specs.declared.refusal.Refusal.TheVariants as refusal
use Rattle.rs_page_owners.specs.Counts.{times}
use Rattle.rs_page_marks.specs.Marks.{taken}
use Rattle.rs_page_marks.proofs.Marking.{taken-le}
use Rattle.rs_catalog_pages.specs.Inner.{HoldsUpTo}
use Rattle.rs_catalog_pages.proofs.Chains.{up_to_none, up_to_next, none_next, none_short, reads_all}
use Rattle.rs_catalog_pages.proofs.Counting.{times-none, times-push, fewer_left}
use Rattle.rs_catalog_pages.proofs.Parts.{no_part_before, reads_before}
use Rattle.rs_pages.proofs.Resting.{rests_none, rests_then, rests_ok}
use Rattle.rs_catalog_pages.proofs.chain.read_bytes.Goals as goal

pub loop-next-init : goal.loop-next-init
loop-next-init g c =
    let first : ℕ = (g.P.Pages.store c.args.pages.now).map.fields.catalogue in
    record {
      rests = rests_none g.P.Pages.is_tied g.P.Pages.store g.P.Pages.keeps tt c.args.pages.now (g.met.P.Pages.keeps_refl c.args.pages.now);
      size = refl;
      within = omega (arith, ap length c.new-bytes.ensures.items);
      total = c.catalogue-first.ensures.length;
      reached = λ n. omega (arith, ap (λ ns. times ns n) c.new-numbers.ensures.items, times-none n);
      reads = λ tied.
          subst (λ ns. HoldsUpTo (g.P.Pages.store c.args.pages.now).map first ns c.new-bytes.result.items c.catalogue-first.result.0) (sym c.new-numbers.ensures.items)
          (subst (λ bs. HoldsUpTo (g.P.Pages.store c.args.pages.now).map first [] bs c.catalogue-first.result.0) (sym c.new-bytes.ensures.items)
          (subst (λ n. HoldsUpTo (g.P.Pages.store c.args.pages.now).map first [] [] n) (sym c.catalogue-first.ensures.first) (up_to_none (g.P.Pages.store c.args.pages.now).map first)));
    }

pub returns-in_err-following-clause-damaged : goal.returns-in_err-following-clause-damaged
returns-in_err-following-clause-damaged g c = λ is tied.
    let p = err_from_is_err_and c.from_residual.result c.from_residual.ensures.1 in
    let why : c.in_err-following.field-0.0 ≡ refusal.DamagedFile = cc (p.1, p.2, is) in
    let later = g.met.P.Pages.keeps_tied c.args.pages.now c.loop-next.pages c.loop-next.invariant.rests.below tied in
    let within : length c.loop-next.bytes.items ≤ c.catalogue-first.result.1 = c.loop-next.invariant.within in
    let left : c.len.result ≡ length c.loop-next.bytes.items = omega (arith, c.len.ensures, c.loop-next.bytes.ok.0) in
    none_next (g.P.Pages.store c.args.pages.now).map c.loop-next.numbers.items c.loop-next.bytes.items c.loop-next.next (c.catalogue-first.result.1 - c.len.result) (taken c.args.reached.now) (taken c.loop-next.reached)
    (c.loop-next.invariant.reads tied) (λ none. c.loop-next-test.true (c.number.ensures ∙ none)) (omega (arith, within, left, c.loop-next.invariant.total)) c.loop-next.invariant.reached
    (no_part_before (g.P.Pages.store c.args.pages.now).map (g.P.Pages.store c.loop-next.pages).map c.loop-next.next (c.catalogue-first.result.1 - c.len.result) (taken c.loop-next.reached)
    (c.loop-next.invariant.rests.rests.keeps.pages tied) (c.in_err-following.ensures.damaged (ap Err why) later))

pub loop-next-smaller : goal.loop-next-smaller
loop-next-smaller g c =
    fewer_left c.loop-next.reached c.read_part.new.reached c.loop-next.next c.in_ok-following.ensures.size c.in_ok-following.ensures.fresh c.in_ok-following.ensures.reaches

pub loop-next-preserved : goal.loop-next-preserved
loop-next-preserved g c =
    let first : ℕ = (g.P.Pages.store c.args.pages.now).map.fields.catalogue in
    let within : length c.loop-next.bytes.items ≤ c.catalogue-first.result.1 = c.loop-next.invariant.within in
    let left : c.len.result ≡ length c.loop-next.bytes.items = omega (arith, c.len.ensures, c.loop-next.bytes.ok.0) in
    record {
      rests = rests_then g.P.Pages.is_tied g.P.Pages.store g.P.Pages.keeps tt (Ok tt) c.args.pages.now c.loop-next.pages c.read_part.new.pages g.met.P.Pages.keeps_trans g.met.P.Pages.keeps_tied
          c.loop-next.invariant.rests (rests_ok g.P.Pages.is_tied g.P.Pages.store g.P.Pages.keeps c.in_ok-following.following tt c.loop-next.pages c.read_part.new.pages c.in_ok-following.ensures.rests);
      size = c.in_ok-following.ensures.size ∙ c.loop-next.invariant.size;
      within = omega (arith, within, left, c.in_ok-following.ensures.within);
      total = c.loop-next.invariant.total;
      reached = λ n. omega (arith, c.in_ok-following.ensures.reaches n, c.loop-next.invariant.reached n, ap (λ ns. times ns n) c.in_ok-push.ensures.items, times-push c.loop-next.numbers.items c.loop-next.next n);
      reads = λ tied.
          let later = g.met.P.Pages.keeps_tied c.args.pages.now c.loop-next.pages c.loop-next.invariant.rests.below tied in
          let read = reads_before (g.P.Pages.store c.args.pages.now).map (g.P.Pages.store c.loop-next.pages).map c.loop-next.next c.in_ok-following.following (c.catalogue-first.result.1 - c.len.result)
          c.loop-next.bytes.items c.read_part.new.bytes.items (c.loop-next.invariant.rests.rests.keeps.pages tied) (c.in_ok-following.ensures.reads later) in
          subst (λ ns. HoldsUpTo (g.P.Pages.store c.args.pages.now).map first ns c.read_part.new.bytes.items c.in_ok-following.following) (sym c.in_ok-push.ensures.items)
          (up_to_next (g.P.Pages.store c.args.pages.now).map first c.loop-next.numbers.items c.loop-next.bytes.items c.read_part.new.bytes.items c.loop-next.next c.in_ok-following.following read.part
          (c.loop-next.invariant.reads tied) read.holds read.appended);
    }

pub returns-then-len-size-clause-damaged : goal.returns-then-len-size-clause-damaged
returns-then-len-size-clause-damaged g c = λ is tied.
    let size : c.len-2.result ≡ length c.loop-next.bytes.items = omega (arith, c.len-2.ensures, c.loop-next.bytes.ok.0) in
    none_short (g.P.Pages.store c.args.pages.now).map c.loop-next.numbers.items c.loop-next.bytes.items c.loop-next.next (taken c.args.reached.now) (c.loop-next.invariant.reads tied)
    (sym c.number.ensures ∙ c.loop-next-test.false) (λ same. c.if-len-size.true (size ∙ same ∙ sym c.loop-next.invariant.total))

pub returns-clause-reads : goal.returns-clause-reads
returns-clause-reads g c = λ tied.
    let size : c.len-2.result ≡ length c.loop-next.bytes.items = omega (arith, c.len-2.ensures, c.loop-next.bytes.ok.0) in
    reads_all (g.P.Pages.store c.args.pages.now).map c.loop-next.numbers.items c.loop-next.bytes.items c.loop-next.next (taken c.args.reached.now) (taken c.loop-next.reached) (c.loop-next.invariant.reads tied)
    (sym c.number.ensures ∙ c.loop-next-test.false) (sym size ∙ c.if-len-size.false ∙ c.loop-next.invariant.total) c.loop-next.invariant.reached (taken-le c.loop-next.reached)

-- The first of the free list is taken from it.
use Rattle.std.proofs.Common.{◌≡◌, ◌<◌, ◌-◌, subst, sym, arith}
use Rattle.rs_page_cache.specs.Changes.{PutsBlank}
use Rattle.rs_pages.specs.Uses.{AllocatesPage}
use Rattle.rs_pager.specs.Paged.{Paged}
use Rattle.rs_pager.specs.Maps.{pager_store, IsTied}
use Rattle.rs_pager.specs.Found.{IsAtHand}
use Rattle.rs_pager.specs.Taking.{FindsFree}
use Rattle.rs_pager.proofs.Keeping.{with_changes}
use Rattle.rs_pager.proofs.Allocated.{taken, with_free}
use Rattle.rs_pager.proofs.pager.Pager.take_free.Goals as goal

pub returns-clause-allocates : goal.returns-clause-allocates
returns-clause-allocates g c =
    let d = g.D.Disk in
    let i = c.self.inside in
    let s : Paged _ = record {
      disk = i.disk;
      limit = i.limit;
      changes = i.changes;
      clean = i.clean;
      committed_fields = i.committed_fields;
      working = i.working;
      is_header_changed = i.is_header_changed;
      is_begun = i.is_begun;
      full_refusals = i.full_refusals;
      under_way = i.under_way;
    } in
    let n = c.args.number in
    let counted : 0 < s.working.free_pages = omega arith in
    let first : s.working.first_free ≡ n = subst (λ (p : Paged _). p.working.first_free ≡ n) (sym c.self.view_is) c.requires.first in
    let blank : PutsBlank c.args.kind n 0 s.changes c.put_blank.new.self = subst (λ k. PutsBlank c.args.kind n k s.changes c.put_blank.new.self) c.new.ensures c.in_ok-put_blank.ensures.blank in
    subst (λ (old : Paged _). AllocatesPage (IsTied d old) c.args.kind n (pager_store d old)
    (pager_store d (with_changes s c.put_blank.new.self (with_free s.working c.args.next (s.working.free_pages - 1))))) c.self.view_is
    (taken d s n c.args.next c.args.kind c.put_blank.new.self blank (subst (IsAtHand n) (sym c.self.view_is) c.requires.at_hand)
    (subst (FindsFree n c.args.next) (sym c.self.view_is) c.requires.free) first counted c.self.invariant.within)

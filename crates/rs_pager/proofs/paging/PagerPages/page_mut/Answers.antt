-- What is lent is the copy, and what is written into it is the working page.
use Rattle.std.proofs.Common.{◌≡◌, ◌∙◌, true, Err, MutBor, refl, sym, subst}
use Rattle.rs_refusal.specs.declared.refusal.Refusal.TheVariants as refusal
use Rattle.rs_page.specs.declared.page.Page.{Page}
use Rattle.rs_pages.specs.Lending.{RestsAfter}
use Rattle.rs_pager.specs.Maps.{pager_store, KeepsBelow, IsTied}
use Rattle.rs_page_cache.specs.Lending.{WritesCopy}
use Rattle.rs_page_cache.specs.Changes.{Changes, held_at, IsUsedCopy}
use Rattle.rs_pager.specs.Paged.{Paged}
use Rattle.rs_pager.specs.Copying.{ReadiesCopy}
use Rattle.rs_pager.proofs.Edited.{PutsCopy, put-sound}
use Rattle.rs_pager.proofs.Keeping.{with_changes}
use Rattle.rs_pager.proofs.Readied.{readied-edits, readied-adds, readied-lends, readied-free, readied-rests}
use Rattle.rs_pager.proofs.paging.PagerPages.page_mut.Goals as goal

pub invariant_of-self-lent : goal.invariant_of-self-lent
invariant_of-self-lent g c = λ w.
    let s = c.self.inside in
    let mid : Paged _ = record {
      disk = s.disk;
      limit = s.limit;
      changes = s.changes;
      clean = s.clean;
      committed_fields = s.committed_fields;
      working = s.working;
      is_header_changed = s.is_header_changed;
      is_begun = s.is_begun;
      full_refusals = s.full_refusals;
      under_way = s.under_way;
    } in
    let readies : ReadiesCopy g.D.Disk c.args.number c.args.self.now mid = subst (ReadiesCopy g.D.Disk c.args.number c.args.self.now) (sym c.self.view_is) c.in_default.ensures.readies in
    let begun : s.is_begun ≡ true = readies.edits.counts.begun ∙ c.requires in
    let last = c.used_copy_mut.follows.lender w in
    let writes : WritesCopy c.args.number w s.changes last = rw c.in-Some.is at c.used_copy_mut.follows.holds w in
    let puts : PutsCopy c.args.number w.bytes s.changes last = record { there = writes.there; others = writes.others } in
    put-sound c.args.number s.limit w.bytes s.changes last s.committed_fields s.working s.working s.is_begun s.under_way.stage begun puts
    (readied-adds g.D.Disk c.args.number c.args.self.now mid readies s.limit c.self.invariant.within) c.self.invariant

pub returns-in-Some : goal.returns-in-Some
returns-in-Some g c =
    let s = c.self.inside in
    let mid : Paged _ = record {
      disk = s.disk;
      limit = s.limit;
      changes = s.changes;
      clean = s.clean;
      committed_fields = s.committed_fields;
      working = s.working;
      is_header_changed = s.is_header_changed;
      is_begun = s.is_begun;
      full_refusals = s.full_refusals;
      under_way = s.under_way;
    } in
    let readies : ReadiesCopy g.D.Disk c.args.number c.args.self.now mid = subst (ReadiesCopy g.D.Disk c.args.number c.args.self.now) (sym c.self.view_is) c.in_default.ensures.readies in
    let used : IsUsedCopy c.in-Some.page.now.bytes (held_at s.changes c.args.number) = c.in-Some.ensures.held in (
      (
        refl,
        (λ w _.
            let last = c.used_copy_mut.follows.lender w in
            let writes : WritesCopy c.args.number w s.changes last = rw c.in-Some.is at c.used_copy_mut.follows.holds w in
            let puts : PutsCopy c.args.number w.bytes s.changes last = record { there = writes.there; others = writes.others } in
            readied-edits g.D.Disk c.args.number c.args.self.now mid readies w.bytes last (c.self.invariant.begun_fresh (readies.edits.counts.begun ∙ c.requires)) puts),
        tt,
      ),
      record {
        edits = tt;
        lends = readied-lends g.D.Disk c.args.number c.args.self.now mid readies c.in-Some.page.now.bytes used;
        refused = tt;
      },
    )

pub returns-in-None : goal.returns-in-None
returns-in-None g c =
    let s = c.self.inside in
    let mid : Paged _ = record {
      disk = s.disk;
      limit = s.limit;
      changes = s.changes;
      clean = s.clean;
      committed_fields = s.committed_fields;
      working = s.working;
      is_header_changed = s.is_header_changed;
      is_begun = s.is_begun;
      full_refusals = s.full_refusals;
      under_way = s.under_way;
    } in
    let readies : ReadiesCopy g.D.Disk c.args.number c.args.self.now mid = subst (ReadiesCopy g.D.Disk c.args.number c.args.self.now) (sym c.self.view_is) c.in_default.ensures.readies in
    let free = readied-free g.D.Disk c.args.number c.args.self.now mid readies c.in-None.ensures.none in
    let same : c.used_copy_mut.follows.lender-at-none ≡ s.changes = c.used_copy_mut.follows.holds-at-none in (
      (
        refl,
        (λ w wrong. cc),
        subst (λ (changes : Changes). RestsAfter {T = MutBor Page} (IsTied g.D.Disk) (pager_store g.D.Disk) (KeepsBelow g.D.Disk) (Err refusal.DamagedFile)
            c.args.self.now (with_changes mid changes mid.working)) (sym same) (readied-rests g.D.Disk c.args.number c.args.self.now mid readies free),
      ),
      record { edits = tt; lends = tt; refused = readies.refuses free },
    )

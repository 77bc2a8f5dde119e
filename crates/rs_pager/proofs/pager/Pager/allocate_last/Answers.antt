-- A page after the last, and a full file.
use Rattle.std.proofs.Common.{◌≡◌, ◌+◌, ℕ, subst, sym, arith, ap, ◌∙◌}
use Rattle.std.proofs.lemmas.Bool.Decides.{nat_tests}
use Rattle.rs_refusal.specs.Counts.{counted_on}
use Rattle.rs_refusal.specs.declared.refusal.Refusal.TheVariants as refusal
use Rattle.rs_page_cache.specs.Changes.{PutsBlank}
use Rattle.rs_pages.specs.Uses.{AllocatesPage, RefusesPage}
use Rattle.rs_pager.specs.Paged.{Paged}
use Rattle.rs_pager.specs.Maps.{pager_store, KeepsBelow, IsTied}
use Rattle.rs_pager.proofs.Keeping.{below-beside, with_changes}
use Rattle.rs_pager.proofs.Edited.{changes-below, put-committed}
use Rattle.rs_pager.proofs.Allocated.{last-allocated, full-refused, puts, with_pages, with_full}
use Rattle.rs_pager.proofs.pager.Pager.allocate_last.Goals as goal

pub returns-then-self-clause-refused : goal.returns-then-self-clause-refused
unfolding counted_on
returns-then-self-clause-refused g c =
    let d = g.D.Disk in
    let i = c.self.inside in
    let s : Paged _ = record {
      disk = i.disk;
      limit = i.limit;
      changes = i.changes;
      clean = i.clean;
      committed_fields = i.committed_fields;
      working = i.working;
      is_header_changed = i.is_header_changed;
      is_begun = i.is_begun;
      full_refusals = i.full_refusals;
      under_way = i.under_way;
    } in
    let more = c.saturating_add-self-inside.result in
    let counted : more ≡ counted_on i.full_refusals = grind (arith, nat_tests) in
    let none : s.working.first_free ≡ 0 = subst (λ (p : Paged _). p.working.first_free ≡ 0) (sym c.self.view_is) c.requires.none_free in
    subst (λ (old : Paged _). RefusesPage (IsTied d old) refusal.FileFull (pager_store d old) (pager_store d (with_full s more))) c.self.view_is
    (full-refused d s more c.if-self.true none counted)

pub returns-clause-allocates : goal.returns-clause-allocates
returns-clause-allocates g c =
    let d = g.D.Disk in
    let i = c.self.inside in
    let s : Paged _ = record {
      disk = i.disk;
      limit = i.limit;
      changes = i.changes;
      clean = i.clean;
      committed_fields = i.committed_fields;
      working = i.working;
      is_header_changed = i.is_header_changed;
      is_begun = i.is_begun;
      full_refusals = i.full_refusals;
      under_way = i.under_way;
    } in
    let kind = c.args.kind in
    let changes = c.put_blank.new.self in
    let none : s.working.first_free ≡ 0 = subst (λ (p : Paged _). p.working.first_free ≡ 0) (sym c.self.view_is) c.requires.none_free in
    let same : c.new-number.result ≡ s.working.pages = c.new-number.ensures in
    let numbered : PutsBlank kind s.working.pages c.new.result s.changes changes = subst (λ n. PutsBlank kind n c.new.result s.changes changes) same c.in_ok-put_blank.ensures.blank in
    let blank : PutsBlank kind s.working.pages 0 s.changes changes = subst (λ next. PutsBlank kind s.working.pages next s.changes changes) c.new.ensures numbered in
    let new : Paged _ = with_changes s changes (with_pages s.working (s.working.pages + 1)) in
    subst (λ (n : ℕ). AllocatesPage (IsTied d c.args.self.now) kind n (pager_store d c.args.self.now) (pager_store d new)) (sym same)
    (subst (λ (old : Paged _). AllocatesPage (IsTied d old) kind s.working.pages (pager_store d old) (pager_store d new)) c.self.view_is
    (last-allocated d s kind changes blank c.self.invariant none c.if-self.false))

pub returns-then-self-clause-keeps : goal.returns-then-self-clause-keeps
returns-then-self-clause-keeps g c =
    let d = g.D.Disk in
    let i = c.self.inside in
    let s : Paged _ = record {
      disk = i.disk;
      limit = i.limit;
      changes = i.changes;
      clean = i.clean;
      committed_fields = i.committed_fields;
      working = i.working;
      is_header_changed = i.is_header_changed;
      is_begun = i.is_begun;
      full_refusals = i.full_refusals;
      under_way = i.under_way;
    } in
    subst (λ (old : Paged _). KeepsBelow d old (with_full s c.saturating_add-self-inside.result)) c.self.view_is (below-beside d s s.working s.is_begun c.saturating_add-self-inside.result)

pub returns-clause-keeps : goal.returns-clause-keeps
returns-clause-keeps g c =
    let d = g.D.Disk in
    let i = c.self.inside in
    let s : Paged _ = record {
      disk = i.disk;
      limit = i.limit;
      changes = i.changes;
      clean = i.clean;
      committed_fields = i.committed_fields;
      working = i.working;
      is_header_changed = i.is_header_changed;
      is_begun = i.is_begun;
      full_refusals = i.full_refusals;
      under_way = i.under_way;
    } in
    let kind = c.args.kind in
    let changes = c.put_blank.new.self in
    let none : s.working.first_free ≡ 0 = subst (λ (p : Paged _). p.working.first_free ≡ 0) (sym c.self.view_is) c.requires.none_free in
    let same : c.new-number.result ≡ s.working.pages = c.new-number.ensures in
    let numbered : PutsBlank kind s.working.pages c.new.result s.changes changes = subst (λ n. PutsBlank kind n c.new.result s.changes changes) same c.in_ok-put_blank.ensures.blank in
    let blank : PutsBlank kind s.working.pages 0 s.changes changes = subst (λ next. PutsBlank kind s.working.pages next s.changes changes) c.new.ensures numbered in
    let fresh = c.self.invariant.begun_fresh (ap (λ (p : Paged _). p.is_begun) c.self.view_is ∙ c.requires.begun) in
    subst (λ (old : Paged _). KeepsBelow d old (with_changes s changes (with_pages s.working (s.working.pages + 1)))) c.self.view_is
    (changes-below d s changes (with_pages s.working (s.working.pages + 1)) fresh (put-committed s.working.pages blank.page s.changes changes (puts kind s.working.pages 0 s.changes changes blank)))

-- The page is the first free one now.
use Rattle.std.proofs.Common.{◌≡◌, ◌∙◌, false, is_none, Bor, ap, sym, subst, rules, true, refl, ◌<◌}
use Rattle.rs_page.specs.declared.page.Page.{Page}
use Rattle.rs_pages.specs.Uses.{Lends, ReleasesPage}
use Rattle.rs_pager.specs.Paged.{Paged}
use Rattle.rs_pager.specs.Maps.{pager_store, KeepsBelow, IsTied}
use Rattle.rs_pager.proofs.Allocated.{puts}
use Rattle.rs_pager.proofs.Keeping.{with_changes}
use Rattle.rs_pager.proofs.Edited.{put-committed, put-sound, same-adds, changes-below}
use Rattle.rs_pager.proofs.Released.{some-of, freed, with_first}
use Rattle.rs_pager.proofs.pager.Pager.free.Goals as goal

pub returns : goal.returns
returns g c =
    let d = g.D.Disk in
    let n = c.args.number in
    let old = c.args.self.now in
    let i = c.self.inside in
    let s : Paged _ = record {
      disk = i.disk;
      limit = i.limit;
      changes = i.changes;
      clean = i.clean;
      committed_fields = i.committed_fields;
      working = i.working;
      is_header_changed = i.is_header_changed;
      is_begun = i.is_begun;
      full_refusals = i.full_refusals;
      under_way = i.under_way;
    } in
    let changes = c.put_blank.new.self in
    let blank = c.in_ok-put_blank.ensures.blank in
    let some : is_none c.used.result ≡ false = search rules in
    let was = some-of (λ (page : Bor Page). Lends (IsTied d old) (pager_store d old) n page.now.bytes) c.used.result some c.used.ensures.lends in
    let lends = subst (λ (p : Paged _). Lends (IsTied d p) (pager_store d p) n was.0.now.bytes) (sym c.self.view_is) was.1 in
    let new : Paged _ = with_changes s changes (with_first n s.working) in
    record {
      releases = subst (λ (p : Paged _). ReleasesPage (IsTied d p) n (pager_store d p) (pager_store d new)) c.self.view_is
          (freed d s n was.0.now.bytes changes lends c.requires.past blank);
      keeps = subst (λ (p : Paged _). KeepsBelow d p new) c.self.view_is
          (changes-below d s changes (with_first n s.working) (c.self.invariant.begun_fresh (ap (λ (p : Paged _). p.is_begun) c.self.view_is ∙ c.requires.begun)) (put-committed n blank.page s.changes changes (puts _ n s.working.first_free s.changes changes blank)));
      same = tt;
      refused = tt;
    }

pub invariant_of-self-2 : goal.invariant_of-self-2
invariant_of-self-2 g c =
    let i = c.self.inside in
    let n = c.args.number in
    let blank = c.in_ok-put_blank.ensures.blank in
    let begun : i.is_begun ≡ true = ap (λ (p : Paged _). p.is_begun) c.self.view_is ∙ c.requires.begun in
    let below : n < i.working.pages = subst (λ (p : Paged _). n < p.working.pages) (sym c.self.view_is) c.requires.at_hand.below in
    put-sound n i.limit blank.page i.changes c.put_blank.new.self i.committed_fields i.working (with_first n i.working) i.is_begun i.under_way.stage begun
    (puts _ n i.working.first_free i.changes c.put_blank.new.self blank) (same-adds n i.limit i.working (with_first n i.working) refl c.requires.at_hand.after below c.self.invariant.within) c.self.invariant

-- A change is found, or a clean page that fits.
use Rattle.std.proofs.Common.{◌≡◌, ◌∙◌, Some, None, Bor, false, option_map, ap, sym, subst}
use Rattle.std.proofs.lemmas.Bool.{true≢false}
use Rattle.rs_page.specs.declared.page.Page.{Page}
use Rattle.rs_pages.specs.Held.{held_change}
use Rattle.rs_page_cache.specs.Clean.{clean_at}
use Rattle.rs_pager.specs.Paged.{Paged, held}
use Rattle.rs_pager.specs.Found.{FindsFit, FindsUnfit}
use Rattle.rs_pager.proofs.Lent.{finds-change, finds-unfit, finds-none}
use Rattle.rs_pager.proofs.pager.Pager.fit.Goals.{in_default-via-in-Some-get+else-fits, in_default-via-in_default}
use Rattle.rs_pager.proofs.pager.Pager.fit.Goals as goal

pub returns-in-Some : goal.returns-in-Some
returns-in-Some g c =
    let n = c.args.number in
    let i = c.self.inside in
    let s : Paged _ = record {
      disk = i.disk;
      limit = i.limit;
      changes = i.changes;
      clean = i.clean;
      committed_fields = i.committed_fields;
      working = i.working;
      is_header_changed = i.is_header_changed;
      is_begun = i.is_begun;
      full_refusals = i.full_refusals;
      under_way = i.under_way;
    } in
    let there : held_change (held s n) ≡ Some c.in-Some.page.now.bytes = sym c.working.ensures ∙ ap (option_map (λ (page : Bor Page). page.now.bytes)) c.in-Some.is in
    record { fit = subst (FindsFit n c.in-Some.page.now.bytes) c.self.view_is (finds-change s n c.in-Some.page.now.bytes there); none = tt }

pub returns-in_default : goal.returns-in_default
returns-in_default g c =
    let n = c.args.number in
    let i = c.self.inside in
    let s : Paged _ = record {
      disk = i.disk;
      limit = i.limit;
      changes = i.changes;
      clean = i.clean;
      committed_fields = i.committed_fields;
      working = i.working;
      is_header_changed = i.is_header_changed;
      is_begun = i.is_begun;
      full_refusals = i.full_refusals;
      under_way = i.under_way;
    } in
    let bytes = option_map (λ (page : Bor Page). page.now.bytes) in
    let none : held_change (held s n) ≡ None = sym c.working.ensures ∙ ap bytes c.in-None.is in
    record {
      fit = tt;
      none = elim c.in_default.branch [
        | in_default-via-in-Some-get+else-fits w ↦
            let there : clean_at s.clean n ≡ Some w.in-Some-get.page.now.bytes = sym c.get.ensures ∙ ap bytes w.in-Some-get.is in
            let unfit : w.fits.result ≡ false = w.if-fits.false in
            subst (FindsUnfit n) c.self.view_is
            (finds-unfit s n none w.in-Some-get.page.now.bytes there (λ fit. true≢false (sym (w.fits.ensures.1 fit) ∙ unfit)))
        | in_default-via-in_default w ↦
            let there : clean_at s.clean n ≡ None = sym c.get.ensures ∙ ap bytes w.in_default.is in
            subst (FindsUnfit n) c.self.view_is (finds-none s n none there)
      ];
    }

-- A copy is put in place of a page that has none.
use Rattle.std.proofs.Common.{rules, ◌≡◌, ◌≢◌, ◌∙◌, ℕ, ap, subst, sym, true, refl, ◌<◌}
use Rattle.rs_refusal.specs.declared.refusal.Refusal.TheVariants as refusal
use Rattle.rs_pages.specs.Held.{with_copy}
use Rattle.rs_page_cache.specs.Changes.{held_at}
use Rattle.std.proofs.lemmas.Result.{err_from_is_err_and}
use Rattle.rs_pager.specs.Paged.{Paged}
use Rattle.rs_pager.specs.Copying.{CopiesPage, LacksCopy}
use Rattle.rs_pager.proofs.Keeping.{with_changes}
use Rattle.rs_pager.proofs.Edited.{put-sound, same-adds}
use Rattle.rs_pager.proofs.Copied.{copies-put, refuses-memory}
use Rattle.rs_pager.proofs.pager.Pager.copy_at_hand.Goals as goal

pub returns-in_err-map_err-clause-refused : goal.returns-in_err-map_err-clause-refused
returns-in_err-map_err-clause-refused g c =
    let p = err_from_is_err_and c.from_residual-in_err-map_err.result c.from_residual-in_err-map_err.ensures.1 in
    let why : c.in_err-map_err.field-0.0 ≡ refusal.OutOfMemory = search rules in
    let lacks : LacksCopy g.D.Disk c.args.number c.in_ok-copy.copy.value.bytes c.args.self.now = search rules in
    rw (p.1, p.2) (refuses-memory g.D.Disk c.args.number c.args.self.now c.in_ok-copy.copy.value.bytes c.in_err-map_err.field-0.0 why lacks)

pub returns-clause-copies : goal.returns-clause-copies
returns-clause-copies g c =
    let d = g.D.Disk in
    let s : Paged _ = record {
      disk = c.self.inside.disk;
      limit = c.self.inside.limit;
      changes = c.self.inside.changes;
      clean = c.self.inside.clean;
      committed_fields = c.self.inside.committed_fields;
      working = c.self.inside.working;
      is_header_changed = c.self.inside.is_header_changed;
      is_begun = c.self.inside.is_begun;
      full_refusals = c.self.inside.full_refusals;
      under_way = c.self.inside.under_way;
    } in
    let lacks : LacksCopy d c.args.number c.in_ok-copy.copy.value.bytes c.args.self.now = search rules in
    let there : held_at c.add_copy.new.self c.args.number ≡ with_copy c.in_ok-copy.copy.value.bytes (held_at s.changes c.args.number) = search rules in
    let others : (m : ℕ) → m ≢ c.args.number → held_at c.add_copy.new.self m ≡ held_at s.changes m = search rules in
    subst (λ (old : Paged _). CopiesPage d c.args.number old (with_changes s c.add_copy.new.self s.working)) c.self.view_is
    (copies-put d c.args.number s c.in_ok-copy.copy.value.bytes c.add_copy.new.self (c.self.invariant.begun_fresh (ap (λ (p : Paged _). p.is_begun) c.self.view_is ∙ c.requires.begun))
    (subst (LacksCopy d c.args.number c.in_ok-copy.copy.value.bytes) (sym c.self.view_is) lacks)
    (record { there = there; others = others }))

pub invariant_of-self-2 : goal.invariant_of-self-2
invariant_of-self-2 g c =
    let i = c.self.inside in
    let there : held_at c.add_copy.new.self c.args.number ≡ with_copy c.in_ok-copy.copy.value.bytes (held_at i.changes c.args.number) = search rules in
    let others : (m : ℕ) → m ≢ c.args.number → held_at c.add_copy.new.self m ≡ held_at i.changes m = search rules in
    let begun : i.is_begun ≡ true = ap (λ (p : Paged _). p.is_begun) c.self.view_is ∙ c.requires.begun in
    let below : c.args.number < i.working.pages = subst (λ (p : Paged _). c.args.number < p.working.pages) (sym c.self.view_is) c.requires.at_hand.below in
    put-sound c.args.number i.limit c.in_ok-copy.copy.value.bytes i.changes c.add_copy.new.self i.committed_fields i.working i.working i.is_begun i.under_way.stage begun
    (record { there = there; others = others }) (same-adds c.args.number i.limit i.working i.working refl c.requires.at_hand.after below c.self.invariant.within) c.self.invariant

-- What each step does, together.
use Rattle.std.proofs.Common.{◌≡◌, ◌∙◌, [], Ok, ap, subst, sym}
use Rattle.std.proofs.lemmas.Result.{err_from_is_err_and}
use Rattle.rs_refusal.specs.declared.refusal.Refusal.{Refusal}
use Rattle.rs_journal.specs.declared.stage.Stage.TheVariants.{Fresh}
use Rattle.rs_pager.specs.Lasts.{Carried, Checkpoints, Cuts, stopped_pager, written_pager}
use Rattle.rs_pager.specs.Maps.{committed, ArePages, CarriesOn, HoldsNoChange, IsKept, IsTied}
use Rattle.rs_pager.specs.Paged.{Paged, IsSound}
use Rattle.rs_pager.proofs.Composed.{as_paged, carried_err, lacking_checkpoints, unready_checkpoints, stopped_checkpoints, cut_checkpoints, readied}
use Rattle.rs_pager.proofs.pager.Pager.checkpoint.Goals as goal

pub returns-then-lacks_nothing-clause-checkpoints : goal.returns-then-lacks_nothing-clause-checkpoints
returns-then-lacks_nothing-clause-checkpoints g c =
    let old = c.args.self.now in
    let sound = subst (λ (p : Paged _). IsSound p.limit p.changes p.committed_fields p.working p.is_begun p.under_way.stage) c.self.view_is c.self.invariant in
    let nothing = c.lacks_nothing.ensures.yes c.if-lacks_nothing.true in
    lacking_checkpoints g.D.Disk {T = Unit {0}} {E = Refusal} (Ok (tt {0})) old sound nothing.0 nothing.1 nothing.2

pub returns-in_err-ready-clause-checkpoints : goal.returns-in_err-ready-clause-checkpoints
returns-in_err-ready-clause-checkpoints g c =
    let old = c.args.self.now in
    let sound = subst (λ (p : Paged _). IsSound p.limit p.changes p.committed_fields p.working p.is_begun p.under_way.stage) c.self.view_is c.self.invariant in
    let failed = err_from_is_err_and c.from_residual.result c.from_residual.ensures.1 in
    subst (λ (new : Paged _). Checkpoints g.D.Disk c.from_residual.result old new) (sym c.ready.ensures.alone)
    (unready_checkpoints g.D.Disk c.from_residual.result old sound c.ready.new.self.under_way c.ready.ensures.stage c.ready.ensures.resumed failed.0 failed.1)

pub returns-in_err-complete-clause-checkpoints : goal.returns-in_err-complete-clause-checkpoints
returns-in_err-complete-clause-checkpoints g c =
    let d = g.D.Disk in
    let old = c.args.self.now in
    let sound = subst (λ (p : Paged _). IsSound p.limit p.changes p.committed_fields p.working p.is_begun p.under_way.stage) c.self.view_is c.self.invariant in
    let failed = err_from_is_err_and c.from_residual-in_err-complete.result c.from_residual-in_err-complete.ensures.1 in
    let u = c.ready.new.self.under_way in
    let alone = c.ready.ensures.alone in
    let disk = c.complete.new.self.disk in
    let stage = c.complete.new.self.under_way.stage in
    let stopped : c.complete.new.self ≡ stopped_pager disk stage c.ready.new.self = c.in_err-complete.ensures.stopped in
    subst (λ (new : Paged _). Checkpoints d {T = Unit {0}} {E = Refusal} c.from_residual-in_err-complete.result old new) (sym (stopped ∙ ap (stopped_pager disk stage) alone))
    (stopped_checkpoints d c.from_residual-in_err-complete.result old sound u c.ready.ensures.stage c.ready.ensures.resumed
    (λ pages tied was. subst (λ (m : Paged _). CarriesOn d m pages) alone (c.in_ok-ready.ensures.carries pages tied was))
    failed.0 failed.1 disk stage
    (c.complete.ensures.honesty ∙ ap (λ (m : Paged _). d.is_honest m.disk) alone)
    (c.complete.ensures.keeping ∙ ap (λ (m : Paged _). d.keeps_crashes m.disk) alone)
    (λ pages kept on. carried_err d {T = Unit {0}} {E = Refusal} {T' = Unit {0}} {E' = Refusal} pages c.complete.result c.in_err-complete.field-0.0 c.from_residual-in_err-complete.result failed.0 _ _ c.in_err-complete.was failed.1
    (subst (λ (m : Paged _). IsKept d m pages → CarriesOn d m pages → Carried d {T = Unit {0}} {E = Refusal} pages c.complete.result m (stopped_pager disk stage m)) alone
    (subst (λ (n : Paged _). IsKept d c.ready.new.self pages → CarriesOn d c.ready.new.self pages → Carried d {T = Unit {0}} {E = Refusal} pages c.complete.result c.ready.new.self n) stopped (c.complete.ensures.carried pages)) kept on)))

pub returns-clause-checkpoints : goal.returns-clause-checkpoints
returns-clause-checkpoints g c =
    let d = g.D.Disk in
    let old = c.args.self.now in
    let sound = subst (λ (p : Paged _). IsSound p.limit p.changes p.committed_fields p.working p.is_begun p.under_way.stage) c.self.view_is c.self.invariant in
    let u = c.ready.new.self.under_way in
    let alone = c.ready.ensures.alone in
    let disk = c.complete.new.self.disk in
    let after = c.complete.new.self.under_way in
    let last = c.cut.new.self.disk in
    let done : c.complete.new.self ≡ written_pager disk after c.ready.new.self = c.in_ok-complete.ensures.done in
    let ended : c.complete.new.self ≡ written_pager disk after (readied old u) = done ∙ ap (written_pager disk after) alone in
    let cut : c.cut.new.self ≡ record (written_pager disk after (readied old u)) { disk = last; clean = [] } = c.cut.ensures.alone ∙ ap (λ (m : Paged _). as_paged (record m { disk = last; clean = [] })) ended in
    subst (λ (new : Paged _). Checkpoints d {T = Unit {0}} {E = Refusal} c.cut.result old new) (sym cut)
    (cut_checkpoints d {T = Unit {0}} {E = Refusal} c.cut.result old sound u c.ready.ensures.stage c.ready.ensures.resumed
    (λ pages tied was. subst (λ (m : Paged _). CarriesOn d m pages) alone (c.in_ok-ready.ensures.carries pages tied was))
    (tt {0}) disk after
    (c.complete.ensures.honesty ∙ ap (λ (m : Paged _). d.is_honest m.disk) alone)
    (c.complete.ensures.keeping ∙ ap (λ (m : Paged _). d.keeps_crashes m.disk) alone)
    c.in_ok-complete.ensures.fresh
    (λ pages. subst (λ (m : Paged _). IsKept d m pages → CarriesOn d m pages → Carried d {T = Unit {0}} {E = Refusal} pages (Ok (tt {0})) m (written_pager disk after m)) alone
    (subst (λ (n : Paged _). IsKept d c.ready.new.self pages → CarriesOn d c.ready.new.self pages → Carried d {T = Unit {0}} {E = Refusal} pages (Ok (tt {0})) c.ready.new.self n) done
    (c.in_ok-complete.ensures.carried pages)))
    last c.cut.ensures.honesty c.cut.ensures.keeping
    (λ pages. subst (λ (n : Paged _). IsTied d (written_pager disk after (readied old u)) → after.stage ≡ Fresh → IsKept d (written_pager disk after (readied old u)) pages
    → ArePages (committed d (written_pager disk after (readied old u))) pages → HoldsNoChange (written_pager disk after (readied old u))
    → Cuts d pages (written_pager disk after (readied old u)) n) cut
    (subst (λ (m : Paged _). IsTied d m → m.under_way.stage ≡ Fresh → IsKept d m pages → ArePages (committed d m) pages → HoldsNoChange m → Cuts d pages m c.cut.new.self) ended
    (c.cut.ensures.cuts pages))))

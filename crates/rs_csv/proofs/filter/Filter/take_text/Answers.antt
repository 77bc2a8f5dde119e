use Rattle.std.proofs.Common.{◌≡◌, false, refl, subst, sym, true}
use Rattle.rs_csv.specs.Output.{FilterParts, JobParts, Makes, table_of}
use Rattle.rs_csv.proofs.Outputs.{known_same}
use Rattle.rs_csv.proofs.Taking.{front_more, taken_front, takes_holding, takes_sending}
use Rattle.rs_csv.proofs.filter.Filter.take_text.Goals as goal

pub returns-in-Err-clause-taken : goal.returns-in-Err-clause-taken
returns-in-Err-clause-taken g c = λ more is before raws taken.
    let wanted = c.args.self.now.job.wanted in
    let table = table_of c.args.self.now.job.definition in
    front_more wanted table raws more before _ (taken_front wanted table c.args.self.now.progress raws before _ taken)

pub returns-then-job-clause-taken : goal.returns-then-job-clause-taken
returns-then-job-clause-taken g c = λ more is.
    let wanted = c.args.self.now.job.wanted in
    let table = table_of c.args.self.now.job.definition in
    let made = c.in_default.ensures.made in
    let makes = subst (λ (filter : FilterParts). Makes wanted table made.0 c.args.self.now.progress filter.progress) (sym c.self.view_is) made.2 in
    let flag : c.read_records.new.self.job.wanted.defines_routes ≡ true = rw (← c.self.view_is, ← c.job.view_is) c.if-job.true in
    takes_holding wanted table c.hold_made.result c.args.self.now.progress c.self.inside.progress c.hold_made.new.progress c.args.text.now more made.0 _
    (subst (λ (job : JobParts). job.wanted.defines_routes ≡ true) c.in_default.ensures.job flag) made.1 is makes c.hold_made.ensures.plan
    (known_same c.self.inside.progress.made c.hold_made.new.progress.made c.hold_made.ensures.told c.hold_made.ensures.texts) c.hold_made.ensures.number c.hold_made.ensures.extents c.hold_made.ensures.held

pub returns-else-job-clause-taken : goal.returns-else-job-clause-taken
returns-else-job-clause-taken g c = λ more is.
    let wanted = c.args.self.now.job.wanted in
    let table = table_of c.args.self.now.job.definition in
    let made = c.in_default.ensures.made in
    let makes = subst (λ (filter : FilterParts). Makes wanted table made.0 c.args.self.now.progress filter.progress) (sym c.self.view_is) made.2 in
    let held = subst (λ (filter : FilterParts). filter.progress.held ≡ c.args.self.now.progress.held) (sym c.self.view_is) c.in_default.ensures.held in
    let flag : c.read_records.new.self.job.wanted.defines_routes ≡ false = rw (← c.self.view_is, ← c.job.view_is) c.if-job.false in
    takes_sending wanted table c.write_made.result c.args.self.now.progress c.self.inside.progress _ c.args.text.now more made.0 _ _
    (subst (λ (job : JobParts). job.wanted.defines_routes ≡ false) c.in_default.ensures.job flag) made.1 is makes held refl refl
    (known_same c.self.inside.progress.made c.write_made.new.made c.write_made.ensures.told c.write_made.ensures.texts) c.write_made.ensures.number c.write_made.ensures.extents c.write_made.ensures.sent c.write_made.ensures.fault

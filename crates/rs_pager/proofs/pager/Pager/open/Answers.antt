-- A file of either version.
use Rattle.std.proofs.Common.{◌≡◌, ◌≢◌, inl, inr, IsTrue, Result, Ok, Err, MatchResult, IfErr, ap, sym, subst, ◌∙◌, rules}
use Rattle.rs_disk.specs.Content.{Content}
use Rattle.rs_disk.specs.Crash.{Only, Same}
use Rattle.rs_disk.specs.Reaches.{Reaches}
use Rattle.rs_disk.proofs.Reaching.{same-then}
use Rattle.rs_refusal.specs.declared.refusal.Refusal.{Refusal}
use Rattle.rs_refusal.specs.declared.refusal.Refusal.TheVariants.{DamagedFile, OutOfMemory}
use Rattle.rs_page.specs.declared.file_header.FileHeader.{FileHeader}
use Rattle.rs_journal.specs.Journal.{Recovers}
use Rattle.rs_journal.specs.Recovery.{Recovered}
use Rattle.rs_journal.specs.Stages.{EveryImage, IsQuiet}
use Rattle.rs_pager.specs.Opening.{FitsFirst, HasFirst, IsNoSecond, RecoversFields, pages_of}
use Rattle.rs_pager.specs.Paged.{Paged}
use Rattle.rs_pager.specs.Versions.{IsNoFile}
use Rattle.rs_pager.proofs.Opened.{first-opened, of-none, of-some, second-opened}
use Rattle.rs_pager.proofs.Recovered.{first-quiet, first-recovered, recovered-at, recovered-before, recovered-err, recovered-ok}
use Rattle.rs_pager.proofs.Versions.{no_file}
use Rattle.rs_pager.proofs.pager.Pager.open.Goals as goal

-- ---- version 1

pub returns-in-Ok-Some-clause-opened : goal.returns-in-Ok-Some-clause-opened
returns-in-Ok-Some-clause-opened g c = λ honest.
    let d = g.D.Disk in
    let old = c.args.disk in
    let mid = c.read_first_fields.new.disk in
    let fields = c.in-Ok-Some.fields in
    let p = c.new_pager.result in
    let reaches = c.read_first_fields.ensures.reaches in
    let fits = of-some (FitsFirst c.args.limit (d.seen old)) c.in-Ok-Some.field-0 fields c.in-Ok-Some.field-0-is (c.in-Ok-Some.ensures.found honest) in
    let quiet = first-quiet d c.args.limit old mid fields fits honest reaches
    (λ keeps. of-some (λ _. Only (d.seen mid) (d.may_leave mid)) c.in-Ok-Some.field-0 fields c.in-Ok-Some.field-0-is (c.in-Ok-Some.ensures.durable keeps)) in
    first-opened d c.args.limit p (d.seen old) fields c.new_pager.ensures.fresh c.new_pager.ensures.committed_fields c.new_pager.ensures.lacks fits
    (ap d.seen c.new_pager.ensures.disk ∙ reaches.reads honest)
    (subst (λ (disk : _). EveryImage d (IsQuiet (pages_of (d.seen old) fields.pages)) disk) (sym c.new_pager.ensures.disk) quiet)

pub returns-in-Ok-Some-clause-recovers : goal.returns-in-Ok-Some-clause-recovers
returns-in-Ok-Some-clause-recovers g c = λ pages honest says gives.
    let d = g.D.Disk in
    let old = c.args.disk in
    let mid = c.read_first_fields.new.disk in
    let fields = c.in-Ok-Some.fields in
    let p = c.new_pager.result in
    let reaches = c.read_first_fields.ensures.reaches in
    let fits = of-some (FitsFirst c.args.limit (d.seen old)) c.in-Ok-Some.field-0 fields c.in-Ok-Some.field-0-is (c.in-Ok-Some.ensures.found honest) in
    recovered-at d pages (Ok p) old mid p.disk c.new_pager.ensures.disk
    (first-recovered d c.args.limit old mid fields fits honest reaches
    (λ keeps. of-some (λ _. Only (d.seen mid) (d.may_leave mid)) c.in-Ok-Some.field-0 fields c.in-Ok-Some.field-0-is (c.in-Ok-Some.ensures.durable keeps))
    pages p gives)

-- ---- version 2

pub returns-in_ok-disk-in-Ok-None-clause-opened : goal.returns-in_ok-disk-in-Ok-None-clause-opened
returns-in_ok-disk-in-Ok-None-clause-opened g c = λ honest.
    let d = g.D.Disk in
    let old = c.args.disk in
    let mid = c.read_first_fields.new.disk in
    let fields = c.in_ok-disk-in-Ok-None.fields in
    let p = c.new_pager-in-Ok-None.result in
    let reaches = c.read_first_fields.ensures.reaches in
    let still : IsTrue (d.is_honest mid) = subst IsTrue (sym reaches.honesty) honest in
    let none = of-none (HasFirst (d.seen old) → ⊥) c.in-Ok-None.field-0 c.in-Ok-None.field-0-is (c.in-Ok-None.ensures.none honest) in
    second-opened d c.args.limit p mid (d.seen old) fields c.new_pager-in-Ok-None.ensures.fresh c.new_pager-in-Ok-None.ensures.committed_fields c.new_pager-in-Ok-None.ensures.lacks
    (subst (λ (disk : _). RecoversFields d c.args.limit mid disk fields) (sym c.new_pager-in-Ok-None.ensures.disk) (c.in_ok-disk-in-Ok-None.ensures.found still))
    (reaches.reads honest) none

pub returns-in_ok-disk-in-Ok-None-clause-shut : goal.returns-in_ok-disk-in-Ok-None-clause-shut
returns-in_ok-disk-in-Ok-None-clause-shut g c = λ honest closed.
    let d = g.D.Disk in
    let reaches = c.read_first_fields.ensures.reaches in
    let still : IsTrue (d.is_honest c.read_first_fields.new.disk) = subst IsTrue (sym reaches.honesty) honest in
    subst (λ (disk : _). Reaches d Same c.args.disk disk) (sym c.new_pager-in-Ok-None.ensures.disk)
    (same-then d _ _ _ reaches (c.in_ok-disk-in-Ok-None.ensures.shut still (subst (λ (content : Content). content.byte 64 ≢ 1) (sym (reaches.reads honest)) closed)))

pub returns-in_ok-disk-in-Ok-None-clause-recovers : goal.returns-in_ok-disk-in-Ok-None-clause-recovers
returns-in_ok-disk-in-Ok-None-clause-recovers g c = λ pages honest says gives.
    let d = g.D.Disk in
    let old = c.args.disk in
    let mid = c.read_first_fields.new.disk in
    let made = c.in_ok-disk-in-Ok-None.disk in
    let p = c.new_pager-in-Ok-None.result in
    let reaches = c.read_first_fields.ensures.reaches in
    let still : IsTrue (d.is_honest mid) = subst IsTrue (sym reaches.honesty) honest in
    let given = subst (λ (content : Content). Recovers content pages) (sym (reaches.reads honest)) gives in
    recovered-at d pages (Ok p) old made p.disk c.new_pager-in-Ok-None.ensures.disk
    (recovered-before d pages (Ok p) old mid made reaches
    (recovered-ok d pages (made, c.in_ok-disk-in-Ok-None.fields) p mid made (c.in_ok-disk-in-Ok-None.ensures.recovers pages still says given)))

-- ---- a refusal

pub returns-in_err-disk-in-Ok-None-clause-damaged : goal.returns-in_err-disk-in-Ok-None-clause-damaged
returns-in_err-disk-in-Ok-None-clause-damaged g c = λ honest.
    let d = g.D.Disk in
    let reaches = c.read_first_fields.ensures.reaches in
    let still : IsTrue (d.is_honest c.read_first_fields.new.disk) = subst IsTrue (sym reaches.honesty) honest in
    let failed : c.from_residual.result ≡ Err c.in_err-disk-in-Ok-None.field-0.0 = search rules in
    let none = of-none (HasFirst (d.seen c.args.disk) → ⊥) c.in-Ok-None.field-0 c.in-Ok-None.field-0-is (c.in-Ok-None.ensures.none honest) in
    subst (λ (result : Result (Paged _) (_ × Refusal)). IfErr result (λ refused. refused.1 ≡ DamagedFile → IsNoFile (d.seen c.args.disk) c.args.limit)) (sym failed)
    (λ is. no_file (d.seen c.args.disk) c.args.limit none
    (subst (λ (content : Content). IsNoSecond content c.args.limit) (reaches.reads honest) (c.in_err-disk-in-Ok-None.ensures.damaged still is)))

pub returns-in_err-disk-in-Ok-None-clause-left : goal.returns-in_err-disk-in-Ok-None-clause-left
returns-in_err-disk-in-Ok-None-clause-left g c = λ honest.
    let d = g.D.Disk in
    let reaches = c.read_first_fields.ensures.reaches in
    let still : IsTrue (d.is_honest c.read_first_fields.new.disk) = subst IsTrue (sym reaches.honesty) honest in
    let failed : c.from_residual.result ≡ Err c.in_err-disk-in-Ok-None.field-0.0 = search rules in
    subst (λ (result : Result (Paged _) (_ × Refusal)). IfErr result (λ refused. refused.1 ≡ DamagedFile → Reaches d Same c.args.disk refused.0)) (sym failed)
    (λ is. same-then d _ _ _ reaches (c.in_err-disk-in-Ok-None.ensures.left still (inl is)))

pub returns-in_err-disk-in-Ok-None-clause-shut : goal.returns-in_err-disk-in-Ok-None-clause-shut
returns-in_err-disk-in-Ok-None-clause-shut g c = λ honest closed.
    let d = g.D.Disk in
    let reaches = c.read_first_fields.ensures.reaches in
    let still : IsTrue (d.is_honest c.read_first_fields.new.disk) = subst IsTrue (sym reaches.honesty) honest in
    let failed : c.from_residual.result ≡ Err c.in_err-disk-in-Ok-None.field-0.0 = search rules in
    subst (λ (result : Result (Paged _) (_ × Refusal)). MatchResult result (λ pager. Reaches d Same c.args.disk pager.disk) (λ refused. Reaches d Same c.args.disk refused.0)) (sym failed)
    (same-then d _ _ _ reaches (c.in_err-disk-in-Ok-None.ensures.shut still (subst (λ (content : Content). content.byte 64 ≢ 1) (sym (reaches.reads honest)) closed)))

pub returns-in_err-disk-in-Ok-None-clause-recovers : goal.returns-in_err-disk-in-Ok-None-clause-recovers
returns-in_err-disk-in-Ok-None-clause-recovers g c = λ pages honest says gives.
    let d = g.D.Disk in
    let reaches = c.read_first_fields.ensures.reaches in
    let still : IsTrue (d.is_honest c.read_first_fields.new.disk) = subst IsTrue (sym reaches.honesty) honest in
    let refused = c.in_err-disk-in-Ok-None.field-0.0 in
    let failed : c.from_residual.result ≡ Err refused = search rules in
    let given = subst (λ (content : Content). Recovers content pages) (sym (reaches.reads honest)) gives in
    subst (λ (result : Result (Paged _) (_ × Refusal)). MatchResult result (λ pager. Recovered d pages result c.args.disk pager.disk) (λ refused. Recovered d pages result c.args.disk refused.0)) (sym failed)
    (recovered-before d pages (Err refused) c.args.disk c.read_first_fields.new.disk refused.0 reaches
    (recovered-err d {T = _ × FileHeader} {E = _ × Refusal} {T' = Paged _} {E' = _ × Refusal} pages refused refused c.read_first_fields.new.disk refused.0 (c.in_err-disk-in-Ok-None.ensures.recovers pages still says given)))

pub returns-in_err-disk-in-Ok-None-clause-untouched : goal.returns-in_err-disk-in-Ok-None-clause-untouched
returns-in_err-disk-in-Ok-None-clause-untouched g c =
    let d = g.D.Disk in
    let reaches = c.read_first_fields.ensures.reaches in
    let failed : c.from_residual.result ≡ Err c.in_err-disk-in-Ok-None.field-0.0 = search rules in
    subst (λ (result : Result (Paged _) (_ × Refusal)). IfErr result (λ refused. refused.1 ≡ OutOfMemory → IsTrue (d.is_honest c.args.disk) → Reaches d Same c.args.disk refused.0)) (sym failed)
    (λ is honest. same-then d _ _ _ reaches (c.in_err-disk-in-Ok-None.ensures.left (subst IsTrue (sym reaches.honesty) honest) (inr is)))

-- Page 0 is looked at, then the file is recovered.
use Rattle.std.proofs.Common.{◌≡◌, ◌≢◌, inl, inr, IsTrue, Result, Ok, Err, MatchResult, refl, sym, subst, rules}
use Rattle.std.proofs.lemmas.Bool.{cases_eq}
use Rattle.rs_disk.specs.Content.{Content}
use Rattle.rs_disk.specs.Crash.{Same}
use Rattle.rs_disk.specs.Reaches.{Reaches}
use Rattle.rs_disk.proofs.Reaching.{same-then}
use Rattle.rs_page.specs.declared.file_header.FileHeader.{FileHeader}
use Rattle.rs_refusal.specs.declared.refusal.Refusal.{Refusal}
use Rattle.rs_refusal.specs.declared.refusal.Refusal.TheVariants.{DamagedFile}
use Rattle.rs_journal.specs.FilePages.{HasPages}
use Rattle.rs_journal.specs.Journal.{Recovers}
use Rattle.rs_journal.specs.Look.{as_shown, shown}
use Rattle.rs_journal.specs.Recovery.{CountsFaults, Recovered}
use Rattle.rs_journal.proofs.Recovering.{recovered-unsynced}
use Rattle.rs_pager.specs.Opening.{FitsSecond, IsNoSecond}
use Rattle.rs_pager.proofs.Recovered.{recovered-before, recovered-err, recovered-ok, recovers-before}
use Rattle.rs_pager.proofs.Versions.{shown-none, shown-some}
use Rattle.rs_pager.proofs.opening.recovered_fields.Goals as goal

pub returns-in_err-look-clause-recovers : goal.returns-in_err-look-clause-recovers
returns-in_err-look-clause-recovers g c = λ pages honest says gives.
    let d = g.D.Disk in
    let refused = c.in_err-look.field-0.0 in
    let failed : c.from_residual.result ≡ Err refused = search rules in
    subst (λ (result : Result (_ × FileHeader) (_ × Refusal)). MatchResult result (λ made. Recovered d pages result c.args.disk made.0) (λ refused. Recovered d pages result c.args.disk refused.0)) (sym failed)
    (recovered-unsynced d pages (Err refused) c.args.disk refused.0 refl c.in_err-look.ensures.reads honest gives)

pub returns-in-Err-clause-damaged : goal.returns-in-Err-clause-damaged
returns-in-Err-clause-damaged g c = λ honest is.
    let d = g.D.Disk in
    let shows = c.in_ok-look.ensures.0 in
    let still : IsTrue (d.is_honest c.in_ok-look.look.disk) = subst IsTrue (sym shows.reads.honesty) honest in
    let same = shows.reads.reads honest in
    let failed : c.check_shown.result ≡ Err DamagedFile = subst (λ (why : Refusal). c.check_shown.result ≡ Err why) is c.in-Err.is in
    shown-none (d.seen c.args.disk) c.args.limit
    (λ pages gives. subst (λ (content : Content). HasPages (as_shown (d.seen c.args.disk) pages) (shown content)) same (shows.pages pages honest gives))
    (λ fields fits. c.check_shown.ensures.damaged still failed fields (subst (λ (content : Content). FitsSecond c.args.limit (shown content) fields) (sym same) fits))

pub returns-in-Err-clause-recovers : goal.returns-in-Err-clause-recovers
returns-in-Err-clause-recovers g c = λ pages honest says gives.
    let d = g.D.Disk in
    let before = subst (λ (disk : _). Reaches d Same c.args.disk disk) (sym c.into_disk.ensures) (same-then d _ _ _ c.in_ok-look.ensures.0.reads c.check_shown.ensures.reaches) in
    recovered-unsynced d pages (Err (c.into_disk.result, c.in-Err.refusal)) c.args.disk c.into_disk.result refl before honest gives

pub returns-in-Ok-clause-found : goal.returns-in-Ok-clause-found
returns-in-Ok-clause-found g c = λ honest.
    let d = g.D.Disk in
    let before = subst (λ (disk : _). Reaches d Same c.args.disk disk) (sym c.into_disk-disk.ensures) (same-then d _ _ _ c.in_ok-look.ensures.0.reads c.check_shown.ensures.reaches) in
    let still : IsTrue (d.is_honest c.into_disk-disk.result) = subst IsTrue (sym before.honesty) honest in
    recovers-before d c.args.limit c.args.disk c.into_disk-disk.result c.recover_fields.new.disk c.in-Ok.fields (before.reads honest) (c.in-Ok.ensures.found still)

pub returns-in-Ok-clause-recovers : goal.returns-in-Ok-clause-recovers
returns-in-Ok-clause-recovers g c = λ pages honest says gives.
    let d = g.D.Disk in
    let before = subst (λ (disk : _). Reaches d Same c.args.disk disk) (sym c.into_disk-disk.ensures) (same-then d _ _ _ c.in_ok-look.ensures.0.reads c.check_shown.ensures.reaches) in
    let still : IsTrue (d.is_honest c.into_disk-disk.result) = subst IsTrue (sym before.honesty) honest in
    let given = subst (λ (content : Content). Recovers content pages) (sym (before.reads honest)) gives in
    recovered-before d pages (Ok (c.recover_fields.new.disk, c.in-Ok.fields)) c.args.disk c.into_disk-disk.result c.recover_fields.new.disk before
    (recovered-ok d pages c.in-Ok.fields (c.recover_fields.new.disk, c.in-Ok.fields) c.into_disk-disk.result c.recover_fields.new.disk
    (c.in-Ok.ensures.recovers pages still says given))

pub returns-in-Ok-clause-shut : goal.returns-in-Ok-clause-shut
returns-in-Ok-clause-shut g c = λ honest closed.
    let d = g.D.Disk in
    let before = subst (λ (disk : _). Reaches d Same c.args.disk disk) (sym c.into_disk-disk.ensures) (same-then d _ _ _ c.in_ok-look.ensures.0.reads c.check_shown.ensures.reaches) in
    let still : IsTrue (d.is_honest c.into_disk-disk.result) = subst IsTrue (sym before.honesty) honest in
    same-then d _ _ _ before (c.recover_fields.ensures.shut still (subst (λ (content : Content). content.byte 64 ≢ 1) (sym (before.reads honest)) closed))

pub returns-in-Err-recover_fields-clause-damaged : goal.returns-in-Err-recover_fields-clause-damaged
returns-in-Err-recover_fields-clause-damaged g c = λ honest is.
    let d = g.D.Disk in
    let before = subst (λ (disk : _). Reaches d Same c.args.disk disk) (sym c.into_disk-disk.ensures) (same-then d _ _ _ c.in_ok-look.ensures.0.reads c.check_shown.ensures.reaches) in
    let still : IsTrue (d.is_honest c.into_disk-disk.result) = subst IsTrue (sym before.honesty) honest in
    let failed : c.recover_fields.result ≡ Err DamagedFile = subst (λ (why : Refusal). c.recover_fields.result ≡ Err why) is c.in-Err-recover_fields.is in
    subst (λ (content : Content). IsNoSecond content c.args.limit) (before.reads honest) (c.recover_fields.ensures.damaged still failed)

pub returns-in-Err-recover_fields-clause-left : goal.returns-in-Err-recover_fields-clause-left
returns-in-Err-recover_fields-clause-left g c = λ honest why.
    let d = g.D.Disk in
    let shows = c.in_ok-look.ensures.0 in
    let same = shows.reads.reads honest in
    let looked : IsTrue (d.is_honest c.in_ok-look.look.disk) = subst IsTrue (sym shows.reads.honesty) honest in
    let before = subst (λ (disk : _). Reaches d Same c.args.disk disk) (sym c.into_disk-disk.ensures) (same-then d _ _ _ shows.reads c.check_shown.ensures.reaches) in
    let still : IsTrue (d.is_honest c.into_disk-disk.result) = subst IsTrue (sym before.honesty) honest in
    elim why [
      | inl is ↦
          let failed : c.recover_fields.result ≡ Err DamagedFile = subst (λ (why : Refusal). c.recover_fields.result ≡ Err why) is c.in-Err-recover_fields.is in
          let nor = subst (λ (content : Content). IsNoSecond content c.args.limit) (before.reads honest) (c.recover_fields.ensures.damaged still failed) in
          let fits = c.in_default.ensures.fits looked in
          elim (cases_eq ((d.seen c.args.disk).byte 64) 1) [
            | inl opened ↦ absurd (shown-some (d.seen c.args.disk) c.args.limit fits.0 opened
                (λ pages has. shows.others pages honest (subst (λ (content : Content). HasPages pages (shown content)) (sym same) has))
                (subst (λ (content : Content). FitsSecond c.args.limit (shown content) fits.0) same fits.1) nor)
            | inr closed ↦ same-then d _ _ _ before (c.recover_fields.ensures.shut still (subst (λ (content : Content). content.byte 64 ≢ 1) (sym (before.reads honest)) closed))
          ]
      | inr is ↦ absurd (subst (λ (why : Refusal). CountsFaults {T = FileHeader} (Err why) (d.failures c.into_disk-disk.result) (d.failures c.recover_fields.new.disk)) is c.in-Err-recover_fields.ensures.calls.count)
    ]

pub returns-in-Err-recover_fields-clause-shut : goal.returns-in-Err-recover_fields-clause-shut
returns-in-Err-recover_fields-clause-shut g c = λ honest closed.
    let d = g.D.Disk in
    let before = subst (λ (disk : _). Reaches d Same c.args.disk disk) (sym c.into_disk-disk.ensures) (same-then d _ _ _ c.in_ok-look.ensures.0.reads c.check_shown.ensures.reaches) in
    let still : IsTrue (d.is_honest c.into_disk-disk.result) = subst IsTrue (sym before.honesty) honest in
    same-then d _ _ _ before (c.recover_fields.ensures.shut still (subst (λ (content : Content). content.byte 64 ≢ 1) (sym (before.reads honest)) closed))

pub returns-in-Err-recover_fields-clause-recovers : goal.returns-in-Err-recover_fields-clause-recovers
returns-in-Err-recover_fields-clause-recovers g c = λ pages honest says gives.
    let d = g.D.Disk in
    let before = subst (λ (disk : _). Reaches d Same c.args.disk disk) (sym c.into_disk-disk.ensures) (same-then d _ _ _ c.in_ok-look.ensures.0.reads c.check_shown.ensures.reaches) in
    let still : IsTrue (d.is_honest c.into_disk-disk.result) = subst IsTrue (sym before.honesty) honest in
    let given = subst (λ (content : Content). Recovers content pages) (sym (before.reads honest)) gives in
    recovered-before d pages (Err (c.recover_fields.new.disk, c.in-Err-recover_fields.refusal)) c.args.disk c.into_disk-disk.result c.recover_fields.new.disk before
    (recovered-err d pages c.in-Err-recover_fields.refusal (c.recover_fields.new.disk, c.in-Err-recover_fields.refusal) c.into_disk-disk.result c.recover_fields.new.disk
    (c.in-Err-recover_fields.ensures.recovers pages still says given))

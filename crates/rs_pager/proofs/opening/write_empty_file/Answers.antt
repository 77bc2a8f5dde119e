-- The pages of an empty file.
use Rattle.std.proofs.Common.{◌≡◌, IsTrue, is_err, false, subst, sym, rules}
use Rattle.rs_disk.specs.Content.{Content}
use Rattle.rs_page.specs.PageBytes.{IsBlank}
use Rattle.rs_page.specs.declared.header.PageKind.TheVariants.{Directory}
use Rattle.rs_page.specs.declared.file_header.FileHeader.{FileHeader}
use Rattle.rs_pager.specs.Opened.{HasEmptyFile}
use Rattle.rs_pager.specs.SecondHeader.{IsSecondHeader}
use Rattle.rs_pager.proofs.Opened.{cut-empty, empty-written, on_ok}
use Rattle.rs_pager.proofs.opening.write_empty_file.Goals as goal

pub returns-clause-written : goal.returns-clause-written
returns-clause-written g c = λ honest.
    let one : IsTrue (g.D.Disk.is_honest c.cut.new.self) = subst IsTrue (sym c.cut.ensures.honesty) honest in
    let two : IsTrue (g.D.Disk.is_honest c.write_page.new.disk) = subst IsTrue (sym c.write_page.ensures.honesty) one in
    let three : IsTrue (g.D.Disk.is_honest c.write_page-2.new.disk) = subst IsTrue (sym c.write_page-2.ensures.honesty) two in
    let done : is_err c.cut.result ≡ false = search rules in
    let nothing = cut-empty c.cut.result _ _ done (c.cut.ensures.cut honest) in
    let blank : IsBlank c.blank-directory.result.bytes Directory 1 0 =
    subst (λ n. IsBlank c.blank-directory.result.bytes Directory n 0) c.new.ensures
    (subst (λ m. IsBlank c.blank-directory.result.bytes Directory c.new.result m) c.new-2.ensures c.blank-directory.ensures) in
    on_ok _ _ (subst (λ (content : Content). HasEmptyFile content) (sym (c.sync.ensures.same three))
    (empty-written _ _ _ c.blank-directory.result.bytes c.second_page.result.bytes nothing blank c.blank-directory.ensures.size c.second_page.ensures.size
    (subst (λ (f : FileHeader). IsSecondHeader c.second_page.result.bytes f) c.empty.ensures c.second_page.ensures.header) c.second_page.ensures.own
    (c.in_ok-write_page.ensures.written one) (c.write_page.ensures.others one)
    (c.in_ok-write_page-2.ensures.written two) (c.write_page-2.ensures.others two)))

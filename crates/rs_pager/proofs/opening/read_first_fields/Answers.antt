-- Page 0 of version 1.
use Rattle.std.proofs.Common.{◌∙◌, ◌/◌, ◌-◌, ◌^◌, ℕ, List, min, IsTrue, ap, sym, subst, arith}
use Rattle.rs_disk.specs.Content.{Content}
use Rattle.rs_pager.specs.FirstHeader.{IsFirstHeader}
use Rattle.rs_pager.proofs.Opened.{tells_all}
use Rattle.rs_pager.proofs.Versions.{no_file-first}
use Rattle.rs_pager.proofs.opening.read_first_fields.Goals.{then-fields-lt2-via-then-fields-lt2, then-fields-lt2-via-else-fields-lt2+then-fields-limit, then-fields-lt2-via-else-fields-lt2+else-fields-limit+then-fields-pages}
use Rattle.rs_pager.proofs.opening.read_first_fields.Goals as goal

pub returns-in_default-clause-none : goal.returns-in_default-clause-none
returns-in_default-clause-none g c = λ honest has.
    c.in_default.ensures.none has.fields (subst (λ (p : List ℕ). IsFirstHeader p has.fields) (sym (c.in_ok-page.ensures.bytes honest)) has.header)

pub returns-then-fields-lt2-clause-damaged : goal.returns-then-fields-lt2-clause-damaged
returns-then-fields-lt2-clause-damaged g c = λ honest _.
    let still : IsTrue (g.D.Disk.is_honest c.read_first_page.new.disk) = subst IsTrue (sym c.read_first_page.ensures.reaches.honesty) honest in
    let same = ap (λ (content : Content). content.size) (c.read_first_page.ensures.reaches.reads honest) in
    no_file-first _ c.in-Some.fields _
    (subst (λ (p : List ℕ). IsFirstHeader p c.in-Some.fields) (c.in_ok-page.ensures.bytes honest) c.in-Some.ensures.found)
    (λ least greatest room. elim c.then-fields-lt2.branch [
      | then-fields-lt2-via-then-fields-lt2 w ↦ absurd (omega arith)
      | then-fields-lt2-via-else-fields-lt2+then-fields-limit w ↦ absurd (omega arith)
      | then-fields-lt2-via-else-fields-lt2+else-fields-limit+then-fields-pages w ↦
          let told = tells_all c.in-Some.fields.pages c.args.limit _ _ greatest c.requires room
          (w.pages.ensures still ∙ ap (λ size. min (size / 4096) (2 ^ 32 - 1)) same) in
          absurd (omega (arith, told, w.if-fields-pages.true))
    ])

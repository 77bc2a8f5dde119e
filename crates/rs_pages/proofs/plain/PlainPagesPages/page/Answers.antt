-- A page of the list is lent, or none in use has this number.
use Rattle.std.proofs.Common.{◌≡◌, ◌<◌, Some, refl, arith, rules}
use Rattle.std.specs.Prelude.{⊤}
use Rattle.rs_pages.specs.Plain.{listed_page, plain_store}
use Rattle.rs_pages.proofs.PlainStore.{listed-read, listed-lends}
use Rattle.rs_pages.proofs.PlainLending.{not-lent}
use Rattle.rs_pages.proofs.Stores.{Rests-refl, damaged_file-counts}
use Rattle.rs_pages.proofs.plain.PlainPagesPages.page.Goals as goal

pub returns-in-Ok : goal.returns-in-Ok
returns-in-Ok c =
    let s = c.args.self.now in
    let there : listed_page s.pages.items c.args.number ≡ Some c.index.result.now.bytes =
    listed-read s.pages.items s.pages.len c.args.number c.in-Ok.index c.index.result.now c.in-Ok.ensures.index
    (λ none. let after : 0 < c.args.number = c.in-Ok.ensures.after in omega (arith, c.in-Ok.ensures.index)) s.pages.ok.0
    (omega (arith, c.in-Ok.ensures.index, c.in-Ok.ensures.below)) (search rules) in
    let used = c.in-Ok.ensures.in_use c.index.result.now.bytes there in (
      (refl, (λ _. tt), record { rests = Rests-refl ⊤ (plain_store s); below = tt; count = refl }),
      record {
        rests = tt;
        lends = listed-lends s.pages.items s.fields s.limit s.full_refusals c.args.number c.index.result.now.bytes c.in-Ok.ensures.after
            (omega (arith, s.counted, c.in-Ok.ensures.below)) there used.0 used.1;
        refused = tt;
      },
    )

pub returns-in-Err : goal.returns-in-Err
returns-in-Err c =
    let s = c.args.self.now in (
      (
        refl,
        (λ _. tt),
        record { rests = Rests-refl ⊤ (plain_store s); below = tt; count = damaged_file-counts c.in-Err.refusal (plain_store s) c.in-Err.ensures.refused },
      ),
      record {
        rests = tt;
        lends = tt;
        refused = not-lent s.pages.items s.fields s.limit s.full_refusals c.args.number c.in-Err.ensures.free c.in-Err.refusal c.in-Err.ensures.refused;
      },
    )

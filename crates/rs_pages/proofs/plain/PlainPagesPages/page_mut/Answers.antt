-- What is written into a page of the list is the working page.
use Rattle.std.proofs.Common.{◌≡◌, ◌<◌, ℕ, Some, length, refl, sym, subst, arith, rules}
use Rattle.std.specs.Prelude.{⊤}
use Rattle.std.proofs.Math.ListN.{set}
use Rattle.rs_pages.specs.Plain.{listed_page, listed_store, plain_store}
use Rattle.rs_pages.specs.Store.{Edits}
use Rattle.rs_pages.proofs.PlainStore.{listed-read, listed-lends}
use Rattle.rs_pages.proofs.PlainLending.{edited, not-edited}
use Rattle.rs_pages.proofs.Stores.{Rests-refl, damaged_file-counts}
use Rattle.rs_pages.proofs.plain.PlainPagesPages.page_mut.Goals as goal

pub returns-in-Ok : goal.returns-in-Ok
returns-in-Ok c =
    let s = c.args.self.now in
    let n = c.args.number in
    let there : listed_page s.pages.items n ≡ Some c.index_mut.result.now.bytes =
    listed-read s.pages.items s.pages.len n c.in-Ok.index c.index_mut.result.now c.in-Ok.ensures.index
    (λ none. let after : 0 < n = c.in-Ok.ensures.after in omega (arith, c.in-Ok.ensures.index)) s.pages.ok.0
    (omega (arith, c.in-Ok.ensures.index, c.in-Ok.ensures.below)) (search rules) in
    let used = c.in-Ok.ensures.in_use c.index_mut.result.now.bytes there in
    let inside : n < length s.pages.items = omega (arith, c.in-Ok.ensures.below, s.pages.ok.0) in (
      (
        refl,
        (λ w _. record {
          edits = subst (λ (i : ℕ). Edits ⊤ n w.bytes (listed_store s.pages.items s.fields s.limit s.full_refusals) (listed_store (set s.pages.items i w) s.fields s.limit s.full_refusals))
              (sym c.in-Ok.ensures.index) (edited s.pages.items s.fields s.limit s.full_refusals n w c.in-Ok.ensures.after inside);
          below = tt;
          count = refl;
        }),
        tt,
      ),
      record {
        edits = tt;
        lends = listed-lends s.pages.items s.fields s.limit s.full_refusals n c.index_mut.result.now.bytes c.in-Ok.ensures.after
            (omega (arith, s.counted, c.in-Ok.ensures.below)) there used.0 used.1;
        refused = tt;
      },
    )

pub returns-in-Err : goal.returns-in-Err
returns-in-Err c =
    let s = c.args.self.now in (
      (
        refl,
        (λ w e. cc),
        record { rests = Rests-refl ⊤ (plain_store s); below = tt; count = damaged_file-counts c.in-Err.refusal (plain_store s) c.in-Err.ensures.refused },
      ),
      record {
        edits = tt;
        lends = tt;
        refused = not-edited s.pages.items s.fields s.limit s.full_refusals c.args.number c.in-Err.ensures.free c.in-Err.refusal c.in-Err.ensures.refused;
      },
    )

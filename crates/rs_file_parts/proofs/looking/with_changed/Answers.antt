-- One place after the other.
use Rattle.std.proofs.Common.{◌+◌, length, inl, inr, refl, subst, sym, arith}
use Rattle.std.proofs.lemmas.Option.{slice_get_read}
use Rattle.rs_file_parts.specs.declared.looking.Places.{Places}
use Rattle.rs_file_parts.specs.Inner.{HaveChangedWithin}
use Rattle.rs_file_parts.proofs.Looked.{changed_not_one, changed_one}
use Rattle.rs_file_parts.proofs.looking.with_changed.Goals as goal
use Rattle.rs_file_parts.proofs.looking.with_changed.Goals.{then-has_table_changed, then-places, else-places, else-has_table_changed}

pub loop-place-preserved : goal.loop-place-preserved
loop-place-preserved c =
    let tables = c.args.tables.now in
    let at = c.loop-place.place in
    let from = c.loop-place.places.from in
    let to = c.loop-place.places.to in
    let one = c.index-tables-place.result in
    let before = c.loop-place.invariant.changed in
    let there = slice_get_read tables (length tables) at one refl (omega (arith, c.loop-place-test.true, c.requires.inside)) c.index-tables-place.is in
    let changed : HaveChangedWithin c.if-has_table_changed.places.from c.if-has_table_changed.places.to (at + 1) tables =
    elim c.if-has_table_changed.branch [
      | then-has_table_changed w ↦
          subst (λ (p : Places). HaveChangedWithin p.from p.to (at + 1) tables) (sym w.places-is) (elim w.if-places.branch [
            | then-places v ↦ subst (λ n. HaveChangedWithin n (at + 1) (at + 1) tables) (sym v.first-is) (changed_one from to at at tables before (inl (v.if-places.true, refl)))
            | else-places v ↦ subst (λ n. HaveChangedWithin n (at + 1) (at + 1) tables) (sym v.first-is) (changed_one from to at from tables before (inr refl))
          ])
      | else-has_table_changed w ↦
          subst (λ (p : Places). HaveChangedWithin p.from p.to (at + 1) tables) (sym w.places-is) (changed_not_one from to at tables one there before (c.has_table_changed.ensures w.if-has_table_changed.false))
    ] in
    record { changed = changed; inside = omega (arith, c.loop-place-test.true) }

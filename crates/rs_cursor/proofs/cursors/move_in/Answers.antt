use Rattle.std.proofs.Common.{◌≡◌, true, Option, Some, None, ap, ◌∙◌}
use Rattle.std.specs.FinMap as maps
use Rattle.std.specs.Prelude.{OnSome}
use Rattle.std.proofs.Math.Bool.{Bool-set}
use Rattle.rs_catalog.proofs.MapLaws.{some_same}
use Rattle.rs_cursor.specs.declared.cursor.Cursor.{Cursor}
use Rattle.rs_cursor.specs.declared.place.Place.{Place}
use Rattle.rs_exec.specs.Meaning.{is_well_formed}
use Rattle.rs_cursor.proofs.cursors.move_in.Goals as goal

at_some : {X P : Type 0} {o : Option X} {x : X} → o ≡ Some x → OnSome o P → P
at_some {o = None} is on = cc
at_some {o = Some y} is on = on

-- a cursor at a place, whichever proof says that its plan is well formed
same_moved : (cursor : Cursor) (place : Place) (formed other : is_well_formed cursor.plan ≡ true)
    → ◌≡◌ {A = Cursor} (record cursor { place = place; formed = formed }) (record cursor { place = place; formed = other })
same_moved cursor place formed other = λ i. record cursor { place = place; formed = Bool-set (is_well_formed cursor.plan) true formed other i }

pub returns-in-Some-clause-there : goal.returns-in-Some-clause-there
returns-in-Some-clause-there c = λ cursor there.
    at_some c.in-Some.is (c.get_mut.follows.holds _)
    ∙ ap (maps.insert c.args.cursors.now c.args.name.now.bytes)
    (same_moved c.in-Some.cursor.now c.args.place _ c.in-Some.cursor.now.formed
    ∙ ap (λ (one : Cursor). record one { place = c.args.place }) (some_same c.in-Some.cursor.now cursor (c.in-Some.ensures.value ∙ there)))

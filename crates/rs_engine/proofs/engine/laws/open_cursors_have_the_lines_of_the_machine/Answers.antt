-- By the machine that the engine is.
use Rattle.std.proofs.Common.{◌∙◌, ℕ, ap, refl}
use Rattle.std.specs.FinMap as names
use Rattle.std.specs.Option.{option_map}
use Rattle.rs_cursor.specs.Held.{lines_left}
use Rattle.rs_cursor.proofs.MachineCursors.{get-cursors_by}
use Rattle.rs_engine.specs.Kept.{seen_at}
use Rattle.rs_engine.proofs.CursorSteps.{cursors_are}
use Rattle.rs_machine.specs.State.{Cursors}
use Rattle.rs_engine.proofs.engine.laws.open_cursors_have_the_lines_of_the_machine.Goals as goal

pub returns : goal.returns
returns g c = λ engine machine is session name cursor there.
    let versions = seen_at is.stands.contents in
    let live = is.live.each session name cursor there in
    record {
      versions = versions;
      lines = ap (λ (cursors : ℕ → Cursors). names.get (cursors session) name) (cursors_are g.D.Disk engine machine is)
          ∙ get-cursors_by (lines_left versions) engine.cursors.held session name ∙ ap (option_map (lines_left versions)) there;
      shows = record { state = is.state; stands = is.stands; from = live.from; upto = live.upto; is = refl };
      lies = live.lies;
    }

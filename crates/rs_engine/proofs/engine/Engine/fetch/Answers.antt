-- The cursor gives its next lines and moves on, is not there, or a read names a want.
use Rattle.std.proofs.lemmas.Result.{err_from_is_err_and}
use Rattle.rs_engine.proofs.CursorSteps.{fetch_refused, fetched}
use Rattle.rs_engine.proofs.Staying.{fetch_moves, fetch_stays}
use Rattle.rs_engine.proofs.engine.Engine.fetch.Goals as goal

pub returns-in_err-lines : goal.returns-in_err-lines
returns-in_err-lines g c =
    let why = c.in_err-lines.field-0.0 in
    let p = err_from_is_err_and c.from_residual.result c.from_residual.ensures.1 in
    rw (p.1, p.2) (record {
      serves = λ machine is.
          fetch_refused g.D.Disk c.accepted_step_leaves_the_state_lawful.ensures c.args.self.now machine is c.args.session c.session_is_in_range.ensures c.args.name.now.bytes c.next_of.new.self
          c.in_err-lines.ensures.reads (c.in_err-lines.ensures.ahead machine is) c.args.rows c.requires.sound why c.in_err-lines.ensures.refused;
      stays = fetch_stays g.D.Disk c.args.session c.args.name.now.bytes c.args.rows why c.args.self.now c.next_of.new.self c.in_err-lines.ensures.reads;
    })

pub returns : goal.returns
returns g c = record {
  serves = λ machine is.
      fetched g.D.Disk c.accepted_step_leaves_the_state_lawful.ensures c.args.self.now machine is c.args.session c.session_is_in_range.ensures c.args.name.now.bytes c.next_of.new.self
      c.in_ok-lines.ensures.reads (c.in_ok-lines.ensures.ahead machine is) c.args.rows c.requires.sound c.move_cursor.new.self c.move_cursor.ensures.store c.move_cursor.ensures.oldest c.move_cursor.ensures.ahead
      c.in_ok-lines.field-0 (c.in_ok-lines.ensures.given machine is) c.move_cursor.ensures.moves;
  stays = fetch_moves g.D.Disk c.args.session c.args.name.now.bytes c.args.rows _ _ c.args.self.now c.next_of.new.self c.move_cursor.new.self c.in_ok-lines.ensures.reads c.in_ok-lines.ensures.there
      c.move_cursor.ensures.store c.in_ok-lines.field-0.place c.move_cursor.ensures.moves;
}

-- What was read is a line, or all that was left.
use Rattle.std.proofs.Common.{◌≡◌, ℕ, List, length, ap, arith, sym, subst, refl}
use Rattle.std.specs.Io.KnownBytes.{Consumes}
use Rattle.std.specs.Io.{StopsAt, appended_bytes}
use Rattle.rs_csv_answers.proofs.NextLine.{from_start, something_read}
use Rattle.rs_csv_answers.proofs.lines.next_line.Goals as goal

pub returns-in-Ok : goal.returns-in-Ok
returns-in-Ok g c =
    let read = c.read_until.new.buf.items in
    let from_none = subst (λ (l : List ℕ). appended_bytes l read ≡ read) (sym c.clear.ensures.items) refl in
    something_read c.without_feed.result read c.without_feed.new.line.items (g.R.Read.remaining c.args.reader.now) (g.R.Read.remaining c.read_until.new.self)
    c.without_feed.ensures.one c.without_feed.ensures.line c.without_feed.ensures.cut
    (subst (λ (l : List ℕ). StopsAt l 10) from_none c.in-Ok.ensures.stops) (subst (λ (l : List ℕ). Consumes (g.R.Read.remaining c.args.reader.now) (g.R.Read.remaining c.read_until.new.self) l) from_none c.in-Ok.ensures.none_lost)
    (λ none. c.in-Ok.field-0-test.1 (omega (arith, c.in-Ok.ensures.ok, c.clear.ensures.len, ap length none)))
    (from_start (g.R.Read.remaining c.args.reader.now) read c.clear.new.self.items c.clear.ensures.items c.in-Ok.ensures.bytes)

-- All that may be written is, and what is missing is told.
use Rattle.rs_dump.specs.Views.{known_of, names_of}
use Rattle.rs_dump.proofs.Rounds.{none_refused, none_written}
use Rattle.rs_dump.proofs.Stops.{passed_on}
use Rattle.rs_dump.proofs.views.write_views.Goals as goal

pub returns-clause-views : goal.returns-clause-views
returns-clause-views g c =
    let known = known_of c.args.defined.now in
    let start = g.W.Write.contents c.args.output.now in
    let before = none_written known _ start c.new.ensures.items in record {
      written = names_of c.write_rounds.new.sorted.written.items;
      sorted = c.in_ok-write_rounds.ensures.goes.sorted start before;
      all = c.tell_others.ensures.views;
      passing = c.in_ok-write_rounds.ensures.passing start before (none_refused known _ c.new-2.ensures.items);
      lacking = c.tell_others.ensures.lacking;
    }

pub returns-in_err-write_rounds-clause-stops : goal.returns-in_err-write_rounds-clause-stops
returns-in_err-write_rounds-clause-stops g c =
    let stops = c.in_err-write_rounds.ensures.stops in
    let start = g.W.Write.contents c.args.output.now in
    passed_on c.from_residual.result c.in_err-write_rounds.field-0.0 _ _ c.from_residual.ensures.1 (stops.0, stops.1 start (none_written (known_of c.args.defined.now) _ start c.new.ensures.items))

-- One section after the other.
use Rattle.std.proofs.Common.{[], cond, inl, subst}
use Rattle.std.proofs.lemmas.Result.{IfOk-weaker}
use Rattle.rs_catalog.specs.Definitions.{Definitions, Numbered}
use Rattle.rs_catalog.specs.Referents.{HeldReferents}
use Rattle.rs_dump.specs.Dumped.{FrontOfLast, WroteLast, all_rows, first_commands, last_commands}
use Rattle.rs_dump.proofs.Reading.{reads_nothing}
use Rattle.rs_dump.proofs.Stops.{in_both, passed_on, stops_first, stops_later}
use Rattle.rs_dump.proofs.Written.{joined}
use Rattle.rs_dump.proofs.dumping.write_all.Goals as goal

pub returns-in_err-write_first-clause-reads : goal.returns-in_err-write_first-clause-reads
returns-in_err-write_first-clause-reads g c = reads_nothing g.H.Held c.args.held.now

pub returns-clause-all : goal.returns-clause-all
returns-clause-all g c = λ shown shows.
    let h = g.H.Held in
    let start = c.args.held.now in
    let last = c.write_middle.new.held in
    let definitions = h.catalog start in
    let reads = c.write_middle.ensures.reads in
    IfOk-weaker c.write_last.result _ _ (λ lacks wrote.
    let here = subst (λ (d : Definitions). WroteLast d (h.referents start) lacks (g.W.Write.contents c.write_middle.new.output) (g.W.Write.contents c.write_last.new.output)) reads.catalog
    (subst (λ (r : Numbered HeldReferents). WroteLast (h.catalog last) r lacks (g.W.Write.contents c.write_middle.new.output) (g.W.Write.contents c.write_last.new.output)) reads.referents wrote) in
    record {
      views = here.views;
      in_turn = here.in_turn;
      put = joined (first_commands definitions (h.referents start)) _ _ _ _ c.in_ok-write_first.ensures
          (joined (cond c.args.omits_rows [] (all_rows definitions shown)) (last_commands definitions here.views) _ _ _ (c.in_ok-write_middle.ensures.lines shown shows) here.put);
      all_alignments = here.all_alignments;
      all_views = here.all_views;
      passing = here.passing;
      lacking = here.lacking;
    })
    c.write_last.ensures.last

pub returns-in_err-write_first-clause-wants : goal.returns-in_err-write_first-clause-wants
returns-in_err-write_first-clause-wants g c =
    passed_on c.from_residual.result c.in_err-write_first.field-0.0 _ _ c.from_residual.ensures.1 (inl c.in_err-write_first.ensures.0)

pub returns-in_err-write_first-clause-front : goal.returns-in_err-write_first-clause-front
returns-in_err-write_first-clause-front g c = λ shown shows.
    let h = g.H.Held in
    let start = c.args.held.now in
    let stop = c.in_err-write_first.field-0.0 in
    passed_on c.from_residual.result stop _ _ c.from_residual.ensures.1
    (record { views = []; in_turn = tt; front = stops_first stop (first_commands (h.catalog start) (h.referents start)) _ _ _ c.in_err-write_first.ensures.1 })

pub returns-in_err-write_middle-clause-wants : goal.returns-in_err-write_middle-clause-wants
returns-in_err-write_middle-clause-wants g c =
    passed_on c.from_residual-in_err-write_middle.result c.in_err-write_middle.field-0.0 _ _ c.from_residual-in_err-write_middle.ensures.1 c.in_err-write_middle.ensures.wants

pub returns-in_err-write_middle-clause-front : goal.returns-in_err-write_middle-clause-front
returns-in_err-write_middle-clause-front g c = λ shown shows.
    let h = g.H.Held in
    let start = c.args.held.now in
    let definitions = h.catalog start in
    let stop = c.in_err-write_middle.field-0.0 in
    passed_on c.from_residual-in_err-write_middle.result stop _ _ c.from_residual-in_err-write_middle.ensures.1 (record {
      views = [];
      in_turn = tt;
      front = stops_later stop (first_commands definitions (h.referents start)) _ _ _ _ c.in_ok-write_first.ensures
          (stops_first stop (cond c.args.omits_rows [] (all_rows definitions shown)) (last_commands definitions []) _ _ (c.in_err-write_middle.ensures.lines shown shows));
    })

pub returns-clause-wants : goal.returns-clause-wants
returns-clause-wants g c = in_both c.write_last.result _ _ _ _ (λ lacks is. tt) (λ stop so. inl so.0) c.write_last.ensures.stops

pub returns-clause-front : goal.returns-clause-front
returns-clause-front g c = λ shown shows.
    let h = g.H.Held in
    let start = c.args.held.now in
    let last = c.write_middle.new.held in
    let definitions = h.catalog start in
    let reads = c.write_middle.ensures.reads in
    in_both c.write_last.result _ _ _ _ (λ lacks is. tt) (λ stop so.
    let here = subst (λ (d : Definitions). FrontOfLast d (h.referents start) stop (g.W.Write.contents c.write_middle.new.output) (g.W.Write.contents c.write_last.new.output)) reads.catalog
    (subst (λ (r : Numbered HeldReferents). FrontOfLast (h.catalog last) r stop (g.W.Write.contents c.write_middle.new.output) (g.W.Write.contents c.write_last.new.output)) reads.referents so.1) in
    record {
      views = here.views;
      in_turn = here.in_turn;
      front = stops_later stop (first_commands definitions (h.referents start)) _ _ _ _ c.in_ok-write_first.ensures
          (stops_later stop (cond c.args.omits_rows [] (all_rows definitions shown)) (last_commands definitions here.views) _ _ _ (c.in_ok-write_middle.ensures.lines shown shows) here.front);
    })
    c.write_last.ensures.stops

-- One route after another.
use Rattle.std.proofs.Common.{◌≡◌, ◌+◌, ℕ, List, [], ap, arith, drop, inl, map, refl, subst, sym}
use Rattle.std.proofs.Math.ListN.{drop_of_length-le}
use Rattle.rs_dump.specs.Sections.{route_seen, rows_of_table, rows_on, table_seen}
use Rattle.rs_dump.specs.Written.{AddedSome, lines_bytes}
use Rattle.rs_catalog.specs.declared.entries.NamedRoute.{NamedRoute}
use Rattle.rs_dump.specs.declared.stop.Stop.TheVariants.{Refused}
use Rattle.rs_refusal.specs.declared.refusal.Refusal.TheVariants.{OutOfMemory}
use Rattle.rs_dump.proofs.Gathered.{added_chunk, added_first, all_added, stops_added, written_last}
use Rattle.rs_dump.proofs.Puts.{next_left}
use Rattle.rs_dump.proofs.Reading.{reads_joined, reads_nothing, stops_after}
use Rattle.rs_dump.proofs.Stops.{in_both, nothing_out, passed_on}
use Rattle.rs_dump.proofs.rows.write_rows_of.Goals as goal

pub returns-in_err-piece-clause-reads : goal.returns-in_err-piece-clause-reads
returns-in_err-piece-clause-reads g c = reads_nothing g.H.Held c.args.held.now

pub returns-in_err-piece-clause-lines : goal.returns-in_err-piece-clause-lines
returns-in_err-piece-clause-lines g c = λ shown shows. passed_on c.from_residual.result (Refused OutOfMemory) _ _ c.from_residual.ensures.1 (nothing_out OutOfMemory _ (g.W.Write.contents c.args.output.now))

pub returns-in_err-piece-clause-wants : goal.returns-in_err-piece-clause-wants
returns-in_err-piece-clause-wants g c = passed_on c.from_residual.result (Refused OutOfMemory) _ _ c.from_residual.ensures.1 (inl (inl refl))

pub loop-route-init : goal.loop-route-init
loop-route-init g c = record {
  reads = reads_nothing g.H.Held c.args.held.now;
  lines = λ shown shows.
      let all = rows_of_table (table_seen c.args.table.now) (map route_seen c.args.routes.now) shown in
      subst (λ (now : List ℕ). AddedSome [] all all now (g.W.Write.contents c.args.output.now) (g.W.Write.contents c.args.output.now)) (sym c.in_ok-piece.ensures.items)
      (added_first [] all all (g.W.Write.contents c.args.output.now) refl);
}

pub loop-route-preserved : goal.loop-route-preserved
loop-route-preserved g c =
    let routes = c.args.routes.now in
    let table = c.args.table.now in
    let one = c.route-item.result in record {
      reads = reads_joined g.H.Held c.args.held.now c.loop-route.held c.add_rows_on.new.held c.loop-route.invariant.reads c.add_rows_on.ensures.reads;
      lines = λ shown shows.
          added_chunk [] (rows_of_table (table_seen table) (map route_seen routes) shown) (rows_of_table (table_seen table) (map route_seen (drop c.loop-route.route-index routes)) shown)
          (rows_of_table (table_seen table) (map route_seen (drop (c.loop-route.route-index + 1) routes)) shown)
          (rows_on table.name.bytes one.name.bytes table.kind (shown table.number table.kind one.route.number)) c.loop-route.piece.items c.add_rows_on.new.piece.items
          (g.W.Write.contents c.args.output.now) (g.W.Write.contents c.loop-route.output) (g.W.Write.contents c.add_rows_on.new.output)
          (ap (λ (l : List NamedRoute). rows_of_table (table_seen table) (map route_seen l) shown) (next_left routes c.loop-route.route-index one c.loop-route-test.true c.route-item.is))
          (c.loop-route.invariant.lines shown shows) (c.in_ok-add_rows_on.ensures.lines shown (c.loop-route.invariant.reads.shows shown shows));
    }

pub returns-in_err-add_rows_on-clause-reads : goal.returns-in_err-add_rows_on-clause-reads
returns-in_err-add_rows_on-clause-reads g c =
    reads_joined g.H.Held c.args.held.now c.loop-route.held c.add_rows_on.new.held c.loop-route.invariant.reads c.add_rows_on.ensures.reads

pub returns-in_err-add_rows_on-clause-lines : goal.returns-in_err-add_rows_on-clause-lines
returns-in_err-add_rows_on-clause-lines g c = λ shown shows.
    let routes = c.args.routes.now in
    let table = c.args.table.now in
    let one = c.route-item.result in
    let stop = c.in_err-add_rows_on.field-0.0 in
    passed_on c.from_residual-in_err-add_rows_on.result stop _ _ c.from_residual-in_err-add_rows_on.ensures.1
    (stops_added [] (rows_of_table (table_seen table) (map route_seen routes) shown) stop (rows_of_table (table_seen table) (map route_seen (drop c.loop-route.route-index routes)) shown)
    (rows_of_table (table_seen table) (map route_seen (drop (c.loop-route.route-index + 1) routes)) shown)
    (rows_on table.name.bytes one.name.bytes table.kind (shown table.number table.kind one.route.number)) c.loop-route.piece.items
    (g.W.Write.contents c.args.output.now) (g.W.Write.contents c.loop-route.output) (g.W.Write.contents c.add_rows_on.new.output)
    (ap (λ (l : List NamedRoute). rows_of_table (table_seen table) (map route_seen l) shown) (next_left routes c.loop-route.route-index one c.loop-route-test.true c.route-item.is))
    (c.loop-route.invariant.lines shown shows) (c.in_err-add_rows_on.ensures.lines shown (c.loop-route.invariant.reads.shows shown shows)))

pub returns-in_err-add_rows_on-clause-wants : goal.returns-in_err-add_rows_on-clause-wants
returns-in_err-add_rows_on-clause-wants g c =
    let stop = c.in_err-add_rows_on.field-0.0 in
    passed_on c.from_residual-in_err-add_rows_on.result stop _ _ c.from_residual-in_err-add_rows_on.ensures.1
    (stops_after g.H.Held g.met.H.Held.wants_later stop c.args.held.now c.loop-route.held c.add_rows_on.new.held c.loop-route.invariant.reads c.in_err-add_rows_on.ensures.wants)

pub returns-clause-lines : goal.returns-clause-lines
returns-clause-lines g c = λ shown shows.
    let routes = c.args.routes.now in
    let table = c.args.table.now in
    let none : drop c.loop-route.route-index routes ≡ [] = drop_of_length-le routes (omega (arith, c.loop-route-test.false)) in
    let all = rows_of_table (table_seen table) (map route_seen routes) shown in
    written_last c.put_piece.result (lines_bytes all) c.loop-route.piece.items (g.W.Write.contents c.args.output.now) (g.W.Write.contents c.loop-route.output) (g.W.Write.contents c.put_piece.new.output)
    (all_added [] all (rows_of_table (table_seen table) (map route_seen (drop c.loop-route.route-index routes)) shown) c.loop-route.piece.items
    (g.W.Write.contents c.args.output.now) (g.W.Write.contents c.loop-route.output)
    (ap (λ (l : List NamedRoute). rows_of_table (table_seen table) (map route_seen l) shown) none) (c.loop-route.invariant.lines shown shows))
    c.put_piece.ensures.puts

pub returns-clause-wants : goal.returns-clause-wants
returns-clause-wants g c = in_both c.put_piece.result _ _ _ _ (λ done put. tt) (λ stop so. inl so.0) c.put_piece.ensures.puts

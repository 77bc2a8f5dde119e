-- The rows of all tables, or nothing.
use Rattle.std.proofs.Common.{◌∙◌, Bool, cond, [], ap, ap₂, inl, map, refl, sym}
use Rattle.std.proofs.KnownBytes.{Appends-nil}
use Rattle.std.specs.FinMap as names
use Rattle.rs_catalog.specs.Definitions.{Definitions}
use Rattle.rs_dump.specs.Dumped.{all_rows}
use Rattle.rs_dump.specs.Sections.{named_route, named_table, route_seen, row_commands, table_seen}
use Rattle.rs_dump.specs.declared.stop.Stop.TheVariants.{Refused}
use Rattle.rs_refusal.specs.declared.refusal.Refusal.TheVariants.{OutOfMemory}
use Rattle.rs_dump.proofs.Reading.{reads_nothing}
use Rattle.rs_dump.proofs.Stops.{in_both, nothing_out, passed_on, stops_as}
use Rattle.rs_dump.proofs.Written.{all_written_as}
use Rattle.rs_dump.proofs.dumping.write_middle.Goals as goal

pub returns-then-omits_rows-clause-reads : goal.returns-then-omits_rows-clause-reads
returns-then-omits_rows-clause-reads g c = reads_nothing g.H.Held c.args.held.now

pub returns-then-omits_rows-clause-lines : goal.returns-then-omits_rows-clause-lines
returns-then-omits_rows-clause-lines g c = λ shown shows.
    all_written_as _ _ _ _ (sym (ap (λ (b : Bool). cond b [] (all_rows (g.H.Held.catalog c.args.held.now) shown)) c.if-omits_rows.true)) (Appends-nil (g.W.Write.contents c.args.output.now))

pub returns-in_err-routes-clause-reads : goal.returns-in_err-routes-clause-reads
returns-in_err-routes-clause-reads g c = reads_nothing g.H.Held c.args.held.now

pub returns-in_err-tables-clause-reads : goal.returns-in_err-tables-clause-reads
returns-in_err-tables-clause-reads g c = reads_nothing g.H.Held c.args.held.now

pub returns-in_err-routes-clause-lines : goal.returns-in_err-routes-clause-lines
returns-in_err-routes-clause-lines g c = λ shown shows.
    passed_on c.from_residual.result (Refused OutOfMemory) _ _ c.from_residual.ensures.1 (nothing_out OutOfMemory _ (g.W.Write.contents c.args.output.now))

pub returns-in_err-routes-clause-wants : goal.returns-in_err-routes-clause-wants
returns-in_err-routes-clause-wants g c = passed_on c.from_residual.result (Refused OutOfMemory) _ _ c.from_residual.ensures.1 (inl (inl refl))

pub returns-in_err-tables-clause-lines : goal.returns-in_err-tables-clause-lines
returns-in_err-tables-clause-lines g c = λ shown shows.
    passed_on c.from_residual-in_err-tables.result (Refused OutOfMemory) _ _ c.from_residual-in_err-tables.ensures.1 (nothing_out OutOfMemory _ (g.W.Write.contents c.args.output.now))

pub returns-in_err-tables-clause-wants : goal.returns-in_err-tables-clause-wants
returns-in_err-tables-clause-wants g c = passed_on c.from_residual-in_err-tables.result (Refused OutOfMemory) _ _ c.from_residual-in_err-tables.ensures.1 (inl (inl refl))

pub returns-clause-lines : goal.returns-clause-lines
returns-clause-lines g c = λ shown shows.
    let definitions = g.H.Held.catalog c.args.held.now in
    let same = ap₂ (λ tables routes. row_commands tables routes shown)
    (ap (map table_seen) c.deref.ensures.value ∙ c.in_ok-tables.ensures ∙ ap (λ (d : Definitions). map named_table (names.entries d.tables)) c.catalog-2.ensures)
    (ap (map route_seen) c.deref-2.ensures.value ∙ c.in_ok-routes.ensures ∙ ap (λ (d : Definitions). map named_route (names.entries d.routes)) c.catalog.ensures)
    ∙ sym (ap (λ (b : Bool). cond b [] (all_rows definitions shown)) c.if-omits_rows.false) in
    in_both c.write_rows.result _ _ _ _ (λ done put. all_written_as _ _ _ _ same put) (λ stop front. stops_as stop _ _ _ _ same front) (c.write_rows.ensures.lines shown shows)

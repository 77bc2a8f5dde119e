-- The definition, and the rows.
use Rattle.std.proofs.Common.{◌≡◌, ◌∙◌, Bool, Some, [], ◌∷◌, ap, ap₂, cond, inl, inr, map, refl, subst, sym}
use Rattle.std.specs.FinMap as names
use Rattle.rs_catalog.specs.Definitions.{Definitions}
use Rattle.rs_dump.specs.Dumped.{FrontOfTable}
use Rattle.rs_dump.specs.Sections.{named_route, named_table, route_seen, rows_of_table, table_of}
use Rattle.rs_dump.specs.Stopping.{HasNoTable}
use Rattle.rs_dump.specs.Written.{line_bytes}
use Rattle.rs_dump.specs.declared.stop.Stop.TheVariants.{Refused}
use Rattle.rs_refusal.specs.declared.refusal.Refusal.TheVariants.{OutOfMemory}
use Rattle.rs_dump.proofs.Reading.{reads_nothing}
use Rattle.rs_dump.proofs.Stops.{front_after, nothing_out, passed_on, stops_as, stops_first}
use Rattle.rs_dump.proofs.dumping.write_table.Goals as goal

pub returns-in_err-table-clause-reads : goal.returns-in_err-table-clause-reads
returns-in_err-table-clause-reads g c = reads_nothing g.H.Held c.args.held.now

pub returns-then-omits_rows-clause-reads : goal.returns-then-omits_rows-clause-reads
returns-then-omits_rows-clause-reads g c = reads_nothing g.H.Held c.args.held.now

pub returns-in_err-routes-clause-reads : goal.returns-in_err-routes-clause-reads
returns-in_err-routes-clause-reads g c = reads_nothing g.H.Held c.args.held.now

pub returns-in_err-table-clause-wants : goal.returns-in_err-table-clause-wants
returns-in_err-table-clause-wants g c =
    passed_on c.from_residual.result c.in_err-table.field-0.0 _ _ c.from_residual.ensures.1 (elim c.in_err-table.ensures.stops [
      | inl misses ↦ inr (misses.is, subst (λ (d : Definitions). HasNoTable d c.args.name.now) c.catalog.ensures misses.none)
      | inr so ↦ inl (inl so.0)
    ])

pub returns-in_err-table-clause-front : goal.returns-in_err-table-clause-front
returns-in_err-table-clause-front g c = λ shown shows.
    let stop = c.in_err-table.field-0.0 in
    let name = c.args.name.now in
    passed_on c.from_residual.result stop _ _ c.from_residual.ensures.1
    (subst (λ (d : Definitions). FrontOfTable d shown c.args.omits_rows name stop (g.W.Write.contents c.args.output.now) (g.W.Write.contents c.put_named_table.new.output)) c.catalog.ensures (elim c.in_err-table.ensures.stops [
      | inl misses ↦ inl misses
      | inr so ↦ inr (record { item = so.1.item; there = so.1.there; front = stops_first stop (table_of (name, so.1.item) ∷ []) _ _ _ so.1.front })
    ]))

pub returns-in_err-routes-clause-wants : goal.returns-in_err-routes-clause-wants
returns-in_err-routes-clause-wants g c =
    passed_on c.from_residual-in_err-routes.result (Refused OutOfMemory) _ _ c.from_residual-in_err-routes.ensures.1 (inl (inl (inl refl)))

pub returns-in_err-routes-clause-front : goal.returns-in_err-routes-clause-front
returns-in_err-routes-clause-front g c = λ shown shows.
    let name = c.args.name.now in
    let puts = c.in_ok-table.ensures.puts in
    passed_on c.from_residual-in_err-routes.result (Refused OutOfMemory) _ _ c.from_residual-in_err-routes.ensures.1
    (inr (record {
      item = puts.item;
      there = subst (λ (d : Definitions). names.get d.tables name ≡ Some puts.item) c.catalog.ensures puts.there;
      front = front_after (Refused OutOfMemory) (line_bytes (table_of (name, puts.item))) _ _ _ _ puts.put (nothing_out OutOfMemory _ (g.W.Write.contents c.put_named_table.new.output));
    }))

pub returns-in_err-write_rows_of-clause-wants : goal.returns-in_err-write_rows_of-clause-wants
returns-in_err-write_rows_of-clause-wants g c =
    passed_on c.from_residual-in_err-write_rows_of.result c.in_err-write_rows_of.field-0.0 _ _ c.from_residual-in_err-write_rows_of.ensures.1 (inl c.in_err-write_rows_of.ensures.wants)

pub returns-in_err-write_rows_of-clause-front : goal.returns-in_err-write_rows_of-clause-front
returns-in_err-write_rows_of-clause-front g c = λ shown shows.
    let definitions = g.H.Held.catalog c.args.held.now in
    let name = c.args.name.now in
    let stop = c.in_err-write_rows_of.field-0.0 in
    let puts = c.in_ok-table.ensures.puts in
    let rows = rows_of_table (named_table (name, puts.item)) (map named_route (names.entries definitions.routes)) shown in
    let same = ap₂ (λ table routes. rows_of_table table routes shown) puts.seen
    (ap (map route_seen) c.deref.ensures.value ∙ c.in_ok-routes.ensures ∙ ap (λ (d : Definitions). map named_route (names.entries d.routes)) c.catalog-2.ensures)
    ∙ sym (ap (λ (b : Bool). cond b [] rows) c.if-omits_rows.false) in
    passed_on c.from_residual-in_err-write_rows_of.result stop _ _ c.from_residual-in_err-write_rows_of.ensures.1
    (inr (record {
      item = puts.item;
      there = subst (λ (d : Definitions). names.get d.tables name ≡ Some puts.item) c.catalog.ensures puts.there;
      front = front_after stop (line_bytes (table_of (name, puts.item))) _ _ _ _ puts.put (stops_as stop _ _ _ _ same (c.in_err-write_rows_of.ensures.lines shown shows));
    }))

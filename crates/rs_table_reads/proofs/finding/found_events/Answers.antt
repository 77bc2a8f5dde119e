-- What was found says the spans in the window.
use Rattle.std.proofs.Common.{◌≡◌, ◌∙◌, ℕ, List, false, filter, inl, inr, rules, subst, sym}
use Rattle.std.proofs.lemmas.Result.{err_from_is_err_and}
use Rattle.std.specs.List.{AllZip}
use Rattle.rs_interval.specs.Finding.{FindsOverlapping, event_form}
use Rattle.rs_records.specs.Listed.{listed}
use Rattle.rs_refusal.specs.declared.refusal.Refusal.TheVariants as refusal
use Rattle.rs_tree.specs.Tree.{IsNoTree}
use Rattle.rs_value.specs.declared.column.ColumnType.{ColumnType}
use Rattle.rs_versioned.specs.Events.{SaysEvent, event_width}
use Rattle.rs_table_reads.specs.Picked.{SayNone}
use Rattle.rs_table_reads.specs.Read.{touches}
use Rattle.rs_table_reads.proofs.Overlaps.{drop_none, found_zip, none_found, none_without_tree, picked_in}
use Rattle.rs_table_reads.proofs.finding.found_events.Goals as goal

pub returns-in_err-cells-clause-damaged : goal.returns-in_err-cells-clause-damaged
returns-in_err-cells-clause-damaged g c = λ tied is.
    let table = c.args.table.now.records in
    let pages = (g.P.Pages.store c.args.pages.now).map in
    let p = err_from_is_err_and c.from_residual.result c.from_residual.ensures.1 in
    let why : c.in_err-cells.field-0.0 ≡ refusal.DamagedFile = cc (p.1, p.2, is) in
    let wide : c.new-layout.result.width ≡ event_width table.types = c.new-layout.ensures.width ∙ c.width.ensures.width in
    elim c.in_err-cells.ensures.refused.cause [
      | inl memory ↦ let clash : refusal.OutOfMemory ≡ refusal.DamagedFile = sym memory ∙ why in absurd (cc)
      | inr (inl disk) ↦ let clash : refusal.Disk ≡ refusal.DamagedFile = sym disk ∙ why in absurd (cc)
      | inr (inr damaged) ↦ none_without_tree table.types pages table.working
          (subst (λ (r : ℕ). IsNoTree (event_form (event_width table.types)) pages r) c.root.ensures
          (subst (λ (w : ℕ). IsNoTree (event_form w) pages c.root.result) wide (damaged.1 tied)))
    ]

pub returns-then-not-say_events-clause-damaged : goal.returns-then-not-say_events-clause-damaged
returns-then-not-say_events-clause-damaged g c = λ tied is.
    let table = c.args.table.now.records in
    let pages = (g.P.Pages.store c.args.pages.now).map in
    let found = listed c.in_ok-cells.cells in
    let wide : c.new-layout.result.width ≡ event_width table.types = c.new-layout.ensures.width ∙ c.width.ensures.width in
    let finds = subst (λ (r : ℕ). FindsOverlapping (event_width table.types) pages r c.args.window.route c.args.window.from c.args.window.to found c.in_ok-cells._reads) c.root.ensures
    (subst (λ (w : ℕ). FindsOverlapping w pages c.root.result c.args.window.route c.args.window.from c.args.window.to found c.in_ok-cells._reads) wide (c.in_ok-cells.ensures.found tied)) in
    let isnt : c.say_events.result ≡ false = search rules in
    none_found table.types pages table.working c.args.window found c.in_ok-cells._reads finds
    (subst (SayNone table.types) (sym (drop_none found))
    (subst (λ (types : List ColumnType). SayNone types found) (c.copy_of-schema.ensures ∙ c.schema.ensures) (c.say_events.ensures.none isnt)))

pub returns-clause-finds : goal.returns-clause-finds
returns-clause-finds g c = λ tied events used accepted holds.
    let table = c.args.table.now.records in
    let pages = (g.P.Pages.store c.args.pages.now).map in
    let found = listed c.in_ok-cells.cells in
    let wide : c.new-layout.result.width ≡ event_width table.types = c.new-layout.ensures.width ∙ c.width.ensures.width in
    let finds = subst (λ (r : ℕ). FindsOverlapping (event_width table.types) pages r c.args.window.route c.args.window.from c.args.window.to found c.in_ok-cells._reads) c.root.ensures
    (subst (λ (w : ℕ). FindsOverlapping w pages c.root.result c.args.window.route c.args.window.from c.args.window.to found c.in_ok-cells._reads) wide (c.in_ok-cells.ensures.found tied)) in
    record {
      events = filter (touches c.args.window) events;
      say = subst (λ (types : List ColumnType). AllZip (SaysEvent types) found (filter (touches c.args.window) events)) (sym (c.copy_of-schema.ensures ∙ c.schema.ensures))
          (found_zip table.types pages table.working c.args.window found c.in_ok-cells._reads finds events used accepted holds);
      are = sym (picked_in c.args.window events);
    }

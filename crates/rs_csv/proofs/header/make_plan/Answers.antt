use Rattle.std.proofs.Common.{◌≡◌, ◌∙◌, ◌<◌, ◌≤◌, length, get_or, map, refl, sym, ap, subst, arith, take, take_all}
use Rattle.std.proofs.KnownBytes.{Keeps-trans}
use Rattle.std.proofs.lemmas.List.{length-map, length-take-le}
use Rattle.csv.specs.Records.{fields_of}
use Rattle.rs_syntax.specs.View.{column_tree}
use Rattle.rs_csv_lines.specs.declared.plan.Scale.TheVariants as scales
use Rattle.rs_csv.specs.Header.{AreColumnsOf, IsScaled, IsSourceOf}
use Rattle.rs_csv.proofs.Headers.{columns_length, columns_step, scale_at, scales_length}
use Rattle.rs_csv.proofs.header.make_plan.Goals as goal

pub returns-clause-plan : goal.returns-clause-plan
returns-clause-plan g c =
    let items = c.args.definition.now.columns.items in
    let header = fields_of c.args.header.now in
    let wanted = c.args.wanted.now in
    let beyond : length items ≤ c.loop-column.column-index = omega (arith, ap length c.deref-column-items.ensures.value, c.deref-column-items.ensures.len, c.loop-column-test.false) in
    let all : take c.loop-column.column-index items ≡ items = take_all c.loop-column.column-index items beyond in
    let columns = subst (λ taken. AreColumnsOf wanted header (map column_tree taken) c.loop-column.columns.items) all c.loop-column.invariant.columns in
    let count = columns_length wanted header (map column_tree items) c.loop-column.columns.items columns in
    record {
      kind = c.args.definition.now.kind;
      definitions = map column_tree items;
      table_is = refl;
      columns = columns;
      route = c.in_ok-route.ensures.named;
      place = c.in_ok-place.ensures.named;
      named = c.requires.defines.sound.0;
      some = subst (λ n. 0 < n) (sym count) (omega (arith, c.requires.defines.sound.1));
      session_is = refl;
      rounds_is = refl;
      stations_is = refl;
      names_is = refl;
      in_range = c.requires.in_range;
    }

pub bounds-scales-len : goal.bounds-scales-len
bounds-scales-len g c =
    let items = c.args.definition.now.columns.items in
    let i = c.loop-column.column-index in
    let less : i < length items = omega (arith, ap length c.deref-column-items.ensures.value, c.deref-column-items.ensures.len, c.loop-column-test.true) in
    let before = columns_length c.args.wanted.now (fields_of c.args.header.now) (map column_tree (take i items)) c.loop-column.columns.items c.loop-column.invariant.columns in
    omega (arith, less, c.len.ensures, before, length-map (take i items) column_tree, length-take-le i items (omega (arith, less)), scales_length c.args.wanted.now items c.args.scales.now c.requires.scaled)

pub loop-column-preserved : goal.loop-column-preserved
loop-column-preserved g c =
    let items = c.args.definition.now.columns.items in
    let i = c.loop-column.column-index in
    let less : i < length items = omega (arith, ap length c.deref-column-items.ensures.value, c.deref-column-items.ensures.len, c.loop-column-test.true) in
    let there = c.column-item.is ∙ ap (λ list. get_or list i c.column-item.result) c.deref-column-items.ensures.value in
    let before = columns_length c.args.wanted.now (fields_of c.args.header.now) (map column_tree (take i items)) c.loop-column.columns.items c.loop-column.invariant.columns in
    let place : c.len.result ≡ i = omega (arith, less, c.len.ensures, before, length-map (take i items) column_tree, length-take-le i items (omega (arith, less))) in
    record {
      quiet = Keeps-trans _ _ _ c.loop-column.invariant.quiet c.in_ok-source.ensures.quiet;
      columns =
          columns_step c.args.wanted.now (fields_of c.args.header.now) items i c.column-item.result c.loop-column.columns.items _ _ less
          there c.loop-column.invariant.columns (
            refl,
            subst (λ column. IsSourceOf c.args.wanted.now (fields_of c.args.header.now) column c.in_ok-source.source) c.as_str.ensures.value c.in_ok-source.ensures.source,
            subst (λ k. IsScaled (map (λ words. words.now) c.args.wanted.now.scales.now) c.column-item.result.name.bytes (get_or c.args.scales.now k scales.One)) (sym place)
                (scale_at c.args.wanted.now items c.args.scales.now i c.column-item.result scales.One c.requires.scaled less there),
          ) c.in_ok-push.ensures.items;
    }

-- All records that are read are held or written, and at the end all are written.
use Rattle.std.proofs.Common.{◌∙◌, ◌++◌, ◌∷◌, [], ap, inr, subst, sym}
use Rattle.std.specs.Io.KnownBytes.{Appends}
use Rattle.std.specs.Prelude.{option_map}
use Rattle.csv.specs.Reading.{builder_config, builder_names_headers, builder_trim, strip_bom}
use Rattle.csv.specs.Records.{fields_of as fields_read}
use Rattle.csv.specs.declared.parser.Config.{Config}
use Rattle.rs_csv_table.specs.Records.{records_of}
use Rattle.rs_csv_table.specs.Steps.{SoFar}
use Rattle.rs_csv_table.specs.Tables.{ReadsAll, portion_text}
use Rattle.rs_csv_table.proofs.Portions.{if_known, none_read, on_ok, whole_table}
use Rattle.rs_csv_table.proofs.Readers.{read_all, read_more, read_none}
use Rattle.rs_csv_table.proofs.table.align_columns.Goals as goal

pub loop-init : goal.loop-init
loop-init g c =
    let reader = c.from_reader-reader.ensures in
    let config = reader.config ∙ (ap builder_config c.flexible.ensures ∙ (ap builder_config c.has_headers.ensures ∙ (ap builder_config c.delimiter.ensures ∙ ap (λ (config : Config). record config { delimiter = c.args.separator }) c.new.ensures.config))) in
    let trim = reader.trim ∙ (ap builder_trim c.flexible.ensures ∙ (ap builder_trim c.has_headers.ensures ∙ (ap builder_trim c.delimiter.ensures ∙ c.new.ensures.trim))) in
    let names = reader.has_headers ∙ (ap builder_names_headers c.flexible.ensures ∙ ap builder_names_headers c.has_headers.ensures) in (
      [],
      subst (λ held. SoFar [] (records_of held) (g.W.Write.contents c.args.output.now) (g.W.Write.contents c.args.output.now)) (sym c.new-held.ensures.items) (none_read (g.W.Write.contents c.args.output.now)),
      λ bytes known. read_none (λ input. g.R.Read.remaining input.now) c.args.separator bytes c.from_reader-reader.result reader.state (reader.source ∙ ap (option_map strip_bom) known) config trim (inr (inr (names, reader.headers))),
    )

pub returns-in-Ok-false : goal.returns-in-Ok-false
returns-in-Ok-false g c =
    let so = c.loop.invariant in
    on_ok c.put_portion.result (λ put.
    let table = whole_table so.0 (records_of c.loop.held.items) _ _ _ so.1 (subst (λ rows. Appends (g.W.Write.contents c.loop.output) (g.W.Write.contents c.put_portion.new.output) (portion_text (records_of rows))) c.as_slice.ensures.value put) in (
      so.0,
      table.0,
      table.1,
      table.2,
      if_known (g.R.Read.remaining c.args.input.now) (λ bytes. ReadsAll c.args.separator bytes so.0)
          (λ bytes known. read_all (λ input. g.R.Read.remaining input.now) c.args.separator bytes so.0 _ c.loop.reader c.read_byte_record.new.self c.in-Ok-false.field-0 c.in-Ok-false.field-0-test (so.2 bytes known) c.in-Ok-false.ensures.reads),
    )) c.put_portion.ensures

pub loop-preserved : goal.loop-preserved
loop-preserved g c =
    let so = c.loop.invariant in
    let fields = fields_read c.read_byte_record.new.row in (
      so.0 ++ fields ∷ [],
      c.in_ok-take_record-in-Ok-true.ensures so.0 (g.W.Write.contents c.args.output.now) so.1,
      λ bytes known. read_more (λ input. g.R.Read.remaining input.now) c.args.separator bytes so.0 fields c.loop.reader c.read_byte_record.new.self c.in-Ok-true.field-0 c.in-Ok-true.field-0-test (so.2 bytes known)
          c.in-Ok-true.ensures.reads c.in-Ok-true.ensures.ready,
    )

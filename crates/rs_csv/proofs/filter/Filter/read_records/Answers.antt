use Rattle.std.proofs.Common.{◌≡◌, ◌∙◌, [], ◌∷◌, ◌++◌, ap, inr, refl, subst}
use Rattle.csv.specs.Records.{fields_of}
use Rattle.csv.specs.Reading.{builder_config, builder_names_headers, builder_trim}
use Rattle.csv.specs.declared.parser.Config.{Config}
use Rattle.rs_csv.specs.Reading.{config_of}
use Rattle.rs_csv.specs.Output.{JobParts, Makes, table_of}
use Rattle.rs_csv.proofs.Outputs.{makes_ended, makes_none, makes_trans, quiet_same, quiet_trans}
use Rattle.rs_csv.proofs.Readers.{read_all, read_more, read_none}
use Rattle.rs_csv.proofs.filter.Filter.read_records.Goals as goal

pub records-init : goal.records-init
records-init g c =
    let reader = c.from_reader-reader.ensures in
    let same : c.job.inside.wanted.separator ≡ c.args.self.now.job.wanted.separator = rw (← c.self.view_is, ← c.job.view_is) refl in
    let config = reader.config ∙ (ap builder_config c.flexible.ensures ∙ (ap builder_config c.has_headers.ensures ∙ (ap builder_config c.delimiter.ensures ∙ ap (λ (config : Config). record config { delimiter = c.job.inside.wanted.separator }) c.new.ensures.config))) ∙ ap config_of same in
    let trim = reader.trim ∙ (ap builder_trim c.flexible.ensures ∙ (ap builder_trim c.has_headers.ensures ∙ (ap builder_trim c.delimiter.ensures ∙ c.new.ensures.trim))) in
    let names = reader.has_headers ∙ (ap builder_names_headers c.flexible.ensures ∙ ap builder_names_headers c.has_headers.ensures) in
    record {
      job = refl;
      made = ([], read_none _ _ c.args.text.now c.from_reader-reader.result reader.state reader.source config trim (inr (inr (names, reader.headers))), makes_none c.args.self.now.job.wanted (table_of c.args.self.now.job.definition) c.args.self.now.progress);
      held = refl;
      quiet = quiet_same c.args.self.now.progress.made.has_told (g.E.Write.contents c.args.errors.now);
    }

pub returns-in-Ok-false-clause-made : goal.returns-in-Ok-false-clause-made
returns-in-Ok-false-clause-made g c =
    let made = c.records.invariant.made in
    let wanted = c.args.self.now.job.wanted in
    let table = table_of c.args.self.now.job.definition in
    let ended = subst (λ (job : JobParts). Makes job.wanted (table_of job.definition) [] c.records.self.progress c.end_text.new.self.progress) c.records.invariant.job c.end_text.ensures.made in (
      made.0,
      read_all _ wanted.separator c.args.text.now made.0 _ c.records.reader c.read_byte_record.new.self c.in-Ok-false.field-0 c.in-Ok-false.field-0-test made.1 c.in-Ok-false.ensures.reads,
      makes_ended wanted table c.args.self.now.progress c.records.self.progress c.end_text.new.self.progress made.0 made.2 ended,
    )

pub records-preserved : goal.records-preserved
records-preserved g c =
    let made = c.records.invariant.made in
    let next = c.in_ok-take_next-in-Ok-true.ensures in
    let fields = fields_of c.read_byte_record.new.row in
    record {
      job = next.job ∙ c.records.invariant.job;
      made = (
        made.0 ++ fields ∷ [],
        read_more _ c.args.self.now.job.wanted.separator c.args.text.now made.0 fields c.records.reader c.read_byte_record.new.self c.in-Ok-true.field-0 c.in-Ok-true.field-0-test made.1 c.in-Ok-true.ensures.reads c.in-Ok-true.ensures.ready,
        makes_trans c.args.self.now.job.wanted (table_of c.args.self.now.job.definition) c.args.self.now.progress c.records.self.progress c.take_next.new.self.progress made.0 (fields ∷ []) made.2
            (subst (λ (job : JobParts). Makes job.wanted (table_of job.definition) (fields ∷ []) c.records.self.progress c.take_next.new.self.progress) c.records.invariant.job next.made),
      );
      held = next.held ∙ c.records.invariant.held;
      quiet = quiet_trans c.args.self.now.progress.made.has_told c.records.self.progress.made.has_told c.take_next.new.self.progress.made.has_told _ _ _ c.records.invariant.quiet next.quiet;
    }

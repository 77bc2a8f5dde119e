use Rattle.std.proofs.Common.{◌≡◌, ◌∙◌, ◌<◌, [], ◌++◌, Err, Ok, length, length-append, take, subst, sym, arith, append-nil}
use Rattle.std.specs.Io.KnownBytes.{Consumes}
use Rattle.std.proofs.KnownBytes.{Consumes-kept, Consumes-trans}
use Rattle.csv.specs.Reading.{strip_bom}
use Rattle.rs_csv.specs.Output.{GoesFar, JobParts, SoFar, TakesRest, WroteSoFar, table_of}
use Rattle.rs_csv.proofs.Cuts.{strip_more}
use Rattle.rs_csv.proofs.Outputs.{quiet_trans}
use Rattle.rs_csv.proofs.Places.{place_far}
use Rattle.rs_csv.proofs.Steps.{far_ends, far_start, took_last, wrote_early}
use Rattle.rs_csv.proofs.filter.Filter.read_pieces.Goals as goal

pub returns-in-Ok-true-clause-input : goal.returns-in-Ok-true-clause-input
returns-in-Ok-true-clause-input g c =
    let wanted = c.args.self.now.job.wanted in
    let table = table_of c.args.self.now.job.definition in
    let output = g.W.Write.contents c.args.output.now in
    let head = c.in-Ok-true.ensures.far output (far_start wanted table c.args.batch.now c.args.self.now.progress output c.requires.no_record c.requires.no_plan c.requires.no_line c.requires.no_number c.requires.none_held c.requires.none_met) in
    let rest = subst (λ (job : JobParts). TakesRest job.wanted (table_of job.definition) c.take_end.result c.take_head.new.batch c.take_head.new.self.progress c.take_end.new.self.progress (g.W.Write.contents c.take_head.new.output) (g.W.Write.contents c.take_end.new.output)) c.in-Ok-true.ensures.job c.take_end.ensures.far in
    (head.0, head.1, took_last wanted table output c.take_end.result c.take_end.new.self.progress (strip_bom head.0) _ _ (head.2.1 c.in-Ok-true.field-0-test) (rest output (strip_bom head.0) head.2.0))

pub returns-in-Ok-true-clause-place : goal.returns-in-Ok-true-clause-place
returns-in-Ok-true-clause-place g c =
    let wanted = c.args.self.now.job.wanted in
    let table = table_of c.args.self.now.job.definition in
    let output = g.W.Write.contents c.args.output.now in
    let head = c.in-Ok-true.ensures.far output (far_start wanted table c.args.batch.now c.args.self.now.progress output c.requires.no_record c.requires.no_plan c.requires.no_line c.requires.no_number c.requires.none_held c.requires.none_met) in
    place_far c.take_end.result wanted table output c.take_head.new.batch c.take_head.new.self.progress head.0 _ _ _ c.take_end.new.batch.place head.1 head.2.0 c.take_end.ensures.place

pub returns-in-Err-clause-input : goal.returns-in-Err-clause-input
returns-in-Err-clause-input g c =
    let wanted = c.args.self.now.job.wanted in
    let table = table_of c.args.self.now.job.definition in
    let output = g.W.Write.contents c.args.output.now in
    let head = c.in-Err.ensures.far output (far_start wanted table c.args.batch.now c.args.self.now.progress output c.requires.no_record c.requires.no_plan c.requires.no_line c.requires.no_number c.requires.none_held c.requires.none_met) in
    (head.0, head.1, wrote_early wanted table output (strip_bom head.0) _ _ head.2)

pub pieces-init : goal.pieces-init
pieces-init g c =
    let wanted = c.args.self.now.job.wanted in
    let table = table_of c.args.self.now.job.definition in
    let output = g.W.Write.contents c.args.output.now in
    let head = c.in-Ok-false.ensures.far output (far_start wanted table c.args.batch.now c.args.self.now.progress output c.requires.no_record c.requires.no_plan c.requires.no_line c.requires.no_number c.requires.none_held c.requires.none_met) in
    let three : length head.0 ≡ 3 = head.2.2 c.in-Ok-false.field-0-test in
    record { job = c.in-Ok-false.ensures.job; far = (head.0, head.1, omega (arith, three), head.2.0); quiet = c.in-Ok-false.ensures.quiet }

pub returns-in-Ok-eq0-clause-input : goal.returns-in-Ok-eq0-clause-input
returns-in-Ok-eq0-clause-input g c =
    let wanted = c.args.self.now.job.wanted in
    let table = table_of c.args.self.now.job.definition in
    let output = g.W.Write.contents c.args.output.now in
    let far = c.pieces.invariant.far in
    let none : c.in-Ok-eq0.field-0 ≡ 0 = c.in-Ok-eq0.field-0-test in
    let nothing : Consumes (g.R.Read.remaining c.pieces.input) (g.R.Read.remaining c.read.new.self) [] =
    subst (λ n. Consumes (g.R.Read.remaining c.pieces.input) (g.R.Read.remaining c.read.new.self) (take n c.read.new.buf)) none c.in-Ok-eq0.ensures.bytes.0 in
    let room : 0 < length c.read.new.buf = omega arith in
    let last = c.take_end-in-Ok-eq0 in
    let rest = subst (λ (job : JobParts). TakesRest job.wanted (table_of job.definition) last.result c.pieces.batch c.pieces.self.progress last.new.self.progress (g.W.Write.contents c.pieces.output) (g.W.Write.contents last.new.output)) c.pieces.invariant.job last.ensures.far in (
      far.0,
      subst (Consumes (g.R.Read.remaining c.args.input.now) (g.R.Read.remaining c.read.new.self)) (append-nil far.0) (Consumes-trans _ (g.R.Read.remaining c.pieces.input) _ far.0 [] far.1 nothing),
      took_last wanted table output last.result last.new.self.progress (strip_bom far.0) _ _ (c.in-Ok-eq0.ensures.bytes.1 none room) (rest output (strip_bom far.0) far.3),
    )

pub returns-in-Ok-eq0-clause-place : goal.returns-in-Ok-eq0-clause-place
returns-in-Ok-eq0-clause-place g c =
    let wanted = c.args.self.now.job.wanted in
    let table = table_of c.args.self.now.job.definition in
    let far = c.pieces.invariant.far in
    let nothing : Consumes (g.R.Read.remaining c.pieces.input) (g.R.Read.remaining c.read.new.self) [] =
    subst (λ n. Consumes (g.R.Read.remaining c.pieces.input) (g.R.Read.remaining c.read.new.self) (take n c.read.new.buf)) c.in-Ok-eq0.field-0-test c.in-Ok-eq0.ensures.bytes.0 in
    let last = c.take_end-in-Ok-eq0 in
    place_far last.result wanted table (g.W.Write.contents c.args.output.now) c.pieces.batch c.pieces.self.progress far.0 _ _ _ last.new.batch.place
    (subst (Consumes (g.R.Read.remaining c.args.input.now) (g.R.Read.remaining c.read.new.self)) (append-nil far.0) (Consumes-trans _ (g.R.Read.remaining c.pieces.input) _ far.0 [] far.1 nothing)) far.3 last.ensures.place

pub returns-in-Err-take_piece-clause-input : goal.returns-in-Err-take_piece-clause-input
returns-in-Err-take_piece-clause-input g c =
    let wanted = c.args.self.now.job.wanted in
    let table = table_of c.args.self.now.job.definition in
    let output = g.W.Write.contents c.args.output.now in
    let far = c.pieces.invariant.far in
    let piece = take c.in-Ok.count c.read.new.buf in
    let goes = subst (λ (job : JobParts). GoesFar {T = Unit {0}} {E = Unit {0}} job.wanted (table_of job.definition) (Err tt) piece c.pieces.batch c.take_piece.new.batch c.pieces.self.progress c.take_piece.new.self.progress (g.W.Write.contents c.pieces.output) (g.W.Write.contents c.take_piece.new.output)) c.pieces.invariant.job c.in-Err-take_piece.ensures.far in (
      far.0 ++ piece,
      Consumes-trans _ (g.R.Read.remaining c.pieces.input) _ far.0 piece far.1 c.in-Ok.ensures.bytes.0,
      wrote_early wanted table output (strip_bom (far.0 ++ piece)) _ _
          (subst (λ bytes. WroteSoFar wanted table bytes output (g.W.Write.contents c.take_piece.new.output)) (sym (strip_more far.0 piece far.2)) (goes output (strip_bom far.0) far.3)),
    )

pub pieces-preserved : goal.pieces-preserved
pieces-preserved g c =
    let wanted = c.args.self.now.job.wanted in
    let table = table_of c.args.self.now.job.definition in
    let output = g.W.Write.contents c.args.output.now in
    let far = c.pieces.invariant.far in
    let piece = take c.in-Ok.count c.read.new.buf in
    let next = c.in_default.ensures in
    let goes = subst (λ (job : JobParts). GoesFar {T = Unit {0}} {E = Unit {0}} job.wanted (table_of job.definition) (Ok tt) piece c.pieces.batch c.take_piece.new.batch c.pieces.self.progress c.take_piece.new.self.progress (g.W.Write.contents c.pieces.output) (g.W.Write.contents c.take_piece.new.output)) c.pieces.invariant.job next.far in
    record {
      job = next.job ∙ c.pieces.invariant.job;
      far = (
        far.0 ++ piece,
        Consumes-trans _ (g.R.Read.remaining c.pieces.input) _ far.0 piece far.1 c.in-Ok.ensures.bytes.0,
        omega (arith, far.2, length-append far.0 piece),
        subst (λ bytes. SoFar wanted table output c.take_piece.new.batch c.take_piece.new.self.progress bytes (g.W.Write.contents c.take_piece.new.output)) (sym (strip_more far.0 piece far.2)) (goes output (strip_bom far.0) far.3),
      );
      quiet = quiet_trans c.args.self.now.progress.made.has_told c.pieces.self.progress.made.has_told c.take_piece.new.self.progress.made.has_told _ _ _ c.pieces.invariant.quiet next.quiet;
    }

pub returns-in-Err-read-clause-input : goal.returns-in-Err-read-clause-input
returns-in-Err-read-clause-input g c =
    let far = c.pieces.invariant.far in (
      far.0,
      Consumes-kept _ (g.R.Read.remaining c.pieces.input) _ far.0 far.1 c.in-Err-read.ensures.bytes,
      far_ends c.args.self.now.job.wanted (table_of c.args.self.now.job.definition) _ c.pieces.batch c.pieces.self.progress (strip_bom far.0) _ _ far.3,
    )

pub returns-clause-input : goal.returns-clause-input
returns-clause-input g c =
    let far = c.pieces.invariant.far in
    (far.0, far.1, far_ends c.args.self.now.job.wanted (table_of c.args.self.now.job.definition) _ c.pieces.batch c.pieces.self.progress (strip_bom far.0) _ _ far.3)

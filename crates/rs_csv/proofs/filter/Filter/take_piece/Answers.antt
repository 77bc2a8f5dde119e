use Rattle.std.proofs.Common.{◌∙◌, ◌++◌, ◌∷◌, [], ◌+◌, ◌-◌, length, Err, Ok, take, drop, get_or, length-drop, subst, arith}
use Rattle.rs_csv.specs.Output.{GoesFar, JobParts, SoFar, WroteSoFar, table_of}
use Rattle.rs_csv.proofs.Outputs.{quiet_trans}
use Rattle.rs_csv.proofs.Steps.{far_run, far_stops, piece_more, piece_next, piece_rest, piece_run, wrote_more}
use Rattle.rs_csv.proofs.filter.Filter.take_piece.Goals as goal

pub returns-in_default-clause-far : goal.returns-in_default-clause-far
returns-in_default-clause-far g c = λ before input far.
    let wanted = c.args.self.now.job.wanted in
    let table = table_of c.args.self.now.job.definition in
    let piece = c.args.piece.now in
    let at = c.bytes.at in
    subst (λ bytes. WroteSoFar wanted table bytes before (g.W.Write.contents c.bytes.output)) (piece_rest input piece at)
    (far_stops wanted table before c.bytes.batch c.bytes.self.progress (input ++ take at piece) (drop at piece) _ (c.bytes.invariant.far before input far))

pub returns-in-Err-clause-far : goal.returns-in-Err-clause-far
returns-in-Err-clause-far g c = λ before input far.
    let wanted = c.args.self.now.job.wanted in
    let table = table_of c.args.self.now.job.definition in
    let piece = c.args.piece.now in
    let at = c.bytes.at in
    let i = at + c.in-Ok.count in
    let run =
    subst (λ bytes. SoFar wanted table before c.take_run.new.self c.bytes.self.progress bytes (g.W.Write.contents c.bytes.output)) (piece_run input piece at c.in-Ok.count)
    (far_run wanted table before c.bytes.batch c.take_run.new.self c.bytes.self.progress (input ++ take at piece) (take c.in-Ok.count (take (length piece - at) (drop at piece))) _ (c.in-Ok.ensures.runs wanted.separator) (c.bytes.invariant.far before input far)) in
    let goes =
    subst (λ (job : JobParts). GoesFar {T = Unit {0}} {E = Unit {0}} job.wanted (table_of job.definition) (Err tt) (get_or piece i 0 ∷ []) c.take_run.new.self c.take_byte.new.batch c.bytes.self.progress c.take_byte.new.self.progress (g.W.Write.contents c.bytes.output) (g.W.Write.contents c.take_byte.new.output)) c.bytes.invariant.job
    c.in-Err.ensures.far in
    subst (λ bytes. WroteSoFar wanted table bytes before (g.W.Write.contents c.take_byte.new.output)) (piece_more input piece i 0 c.if-at-piece.true)
    (wrote_more wanted table before ((input ++ take i piece) ++ get_or piece i 0 ∷ []) (drop (i + 1) piece) _ (goes before (input ++ take i piece) run))

pub bytes-preserved-then-at-piece : goal.bytes-preserved-then-at-piece
bytes-preserved-then-at-piece g c =
    let wanted = c.args.self.now.job.wanted in
    let table = table_of c.args.self.now.job.definition in
    let piece = c.args.piece.now in
    let at = c.bytes.at in
    let i = at + c.in-Ok.count in
    let next = c.in_default-take_byte.ensures in
    let goes =
    subst (λ (job : JobParts). GoesFar {T = Unit {0}} {E = Unit {0}} job.wanted (table_of job.definition) (Ok tt) (get_or piece i 0 ∷ []) c.take_run.new.self c.take_byte.new.batch c.bytes.self.progress c.take_byte.new.self.progress (g.W.Write.contents c.bytes.output) (g.W.Write.contents c.take_byte.new.output)) c.bytes.invariant.job
    next.far in
    record {
      job = next.job ∙ c.bytes.invariant.job;
      within = omega (arith, c.if-at-piece.true);
      far = λ before input far.
          let run =
          subst (λ bytes. SoFar wanted table before c.take_run.new.self c.bytes.self.progress bytes (g.W.Write.contents c.bytes.output)) (piece_run input piece at c.in-Ok.count)
          (far_run wanted table before c.bytes.batch c.take_run.new.self c.bytes.self.progress (input ++ take at piece) (take c.in-Ok.count (take (length piece - at) (drop at piece))) _ (c.in-Ok.ensures.runs wanted.separator) (c.bytes.invariant.far before input far)) in
          subst (λ bytes. SoFar wanted table before c.take_byte.new.batch c.take_byte.new.self.progress bytes (g.W.Write.contents c.take_byte.new.output)) (piece_next input piece i 0 c.if-at-piece.true)
          (goes before (input ++ take i piece) run);
      quiet = quiet_trans c.args.self.now.progress.made.has_told c.bytes.self.progress.made.has_told c.take_byte.new.self.progress.made.has_told _ _ _ c.bytes.invariant.quiet next.quiet;
    }

pub bytes-preserved : goal.bytes-preserved
bytes-preserved g c =
    let wanted = c.args.self.now.job.wanted in
    let table = table_of c.args.self.now.job.definition in
    let piece = c.args.piece.now in
    let at = c.bytes.at in
    record {
      job = c.bytes.invariant.job;
      within = omega (arith, c.in-Ok.ensures.within, c.bytes-test.true, length-drop at piece);
      far = λ before input far.
          subst (λ bytes. SoFar wanted table before c.take_run.new.self c.bytes.self.progress bytes (g.W.Write.contents c.bytes.output)) (piece_run input piece at c.in-Ok.count)
          (far_run wanted table before c.bytes.batch c.take_run.new.self c.bytes.self.progress (input ++ take at piece) (take c.in-Ok.count (take (length piece - at) (drop at piece))) _ (c.in-Ok.ensures.runs wanted.separator) (c.bytes.invariant.far before input far));
      quiet = c.bytes.invariant.quiet;
    }

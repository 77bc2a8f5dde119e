use Rattle.std.proofs.Common.{◌≡◌, ◌∙◌, [], ◌∷◌, ap, refl, subst, sym, length}
use Rattle.std.proofs.lemmas.Bool.{false≢true}
use Rattle.csv.specs.Reading.{strip_bom}
use Rattle.rs_csv.specs.Output.{SoFar, WroteSoFar, table_of}
use Rattle.rs_csv.proofs.Cuts.{has_bytes, lacks_bytes, strip_head, strip_mark}
use Rattle.rs_csv.proofs.Steps.{far_stops}
use Rattle.rs_csv.proofs.filter.Filter.take_head.Goals as goal

pub returns-in-Err-clause-far : goal.returns-in-Err-clause-far
returns-in-Err-clause-far g c = λ before far.
    let told = c.in-Err.ensures.read in
    (told.0, told.1, far_stops c.args.self.now.job.wanted (table_of c.args.self.now.job.definition) before c.args.batch.now c.args.self.now.progress [] (strip_bom told.0) _ far)

pub returns-then-is_mark-clause-far : goal.returns-then-is_mark-clause-far
returns-then-is_mark-clause-far g c = λ before far.
    let head = c.in-Ok.head.items in
    let full = c.is_full-is_all.ensures in
    let mark : head ≡ 239 ∷ 187 ∷ 191 ∷ [] = sym c.as_slice.ensures.value ∙ c.is_mark.ensures.0 c.if-is_mark.true in (
      head,
      c.in-Ok.ensures.read.0,
      (
        subst (λ bytes. SoFar c.args.self.now.job.wanted (table_of c.args.self.now.job.definition) before c.args.batch.now c.args.self.now.progress bytes (g.W.Write.contents c.args.output.now)) (sym (ap strip_bom mark ∙ strip_mark)) far,
        λ all. c.in-Ok.ensures.read.1 (lacks_bytes _ c.is_full-is_all.result (length head) refl full.value full.fits all),
        λ part. has_bytes _ c.is_full-is_all.result (length head) refl full.value part,
      ),
    )

pub returns-in-Err-take_piece-clause-far : goal.returns-in-Err-take_piece-clause-far
returns-in-Err-take_piece-clause-far g c = λ before far.
    let head = c.in-Ok.head.items in
    let other : head ≡ 239 ∷ 187 ∷ 191 ∷ [] → ⊥ = λ mark. false≢true (sym c.if-is_mark.false ∙ c.is_mark.ensures.1 (c.as_slice.ensures.value ∙ mark)) in (
      head,
      c.in-Ok.ensures.read.0,
      subst (λ bytes. WroteSoFar c.args.self.now.job.wanted (table_of c.args.self.now.job.definition) bytes before (g.W.Write.contents c.take_piece.new.output))
          (c.as_slice-2.ensures.value ∙ sym (strip_head head c.is_full-is_all.ensures.fits other)) (c.in-Err-take_piece.ensures.far before [] far),
    )

pub returns-clause-far : goal.returns-clause-far
returns-clause-far g c = λ before far.
    let head = c.in-Ok.head.items in
    let full = c.is_full-is_all.ensures in
    let other : head ≡ 239 ∷ 187 ∷ 191 ∷ [] → ⊥ = λ mark. false≢true (sym c.if-is_mark.false ∙ c.is_mark.ensures.1 (c.as_slice.ensures.value ∙ mark)) in (
      head,
      c.in-Ok.ensures.read.0,
      (
        subst (λ bytes. SoFar c.args.self.now.job.wanted (table_of c.args.self.now.job.definition) before c.take_piece.new.batch c.take_piece.new.self.progress bytes (g.W.Write.contents c.take_piece.new.output))
            (c.as_slice-2.ensures.value ∙ sym (strip_head head full.fits other)) (c.in_default.ensures.far before [] far),
        λ all. c.in-Ok.ensures.read.1 (lacks_bytes _ c.is_full-is_all.result (length head) refl full.value full.fits all),
        λ part. has_bytes _ c.is_full-is_all.result (length head) refl full.value part,
      ),
    )

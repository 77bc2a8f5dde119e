use Rattle.std.proofs.Common.{◌≡◌, ◌∙◌, ◌++◌, ◌∷◌, [], ℕ, List, ap, false, true, length, map, nat_le, subst, sym}
use Rattle.std.specs.Io.KnownBytes.{Appends}
use Rattle.std.proofs.lemmas.Bool.{false≢true}
use Rattle.rs_dump_laws.specs.Dump.{written_piece}
use Rattle.rs_dump_laws.specs.Lines.{dump_line}
use Rattle.rs_machine.specs.declared.limits.TheConstants.{LINE_BYTES}
use Rattle.rs_syntax.specs.Tree.{PieceTree, define_alignment}
use Rattle.rs_syntax.specs.View.{piece_tree}
use Rattle.rs_dump.proofs.Puts.{pieces_written, short_enough, too_long}
use Rattle.rs_dump.proofs.Stops.{front_as, memory_wanted, passed_on}
use Rattle.rs_dump.proofs.put.put_alignment.Goals as goal

pub returns-then-whole-gt-LINE_BYTES-clause-fits : goal.returns-then-whole-gt-LINE_BYTES-clause-fits
returns-then-whole-gt-LINE_BYTES-clause-fits g c =
    let name = c.args.name.now.bytes in
    let made = c.as_slice-whole.ensures.value ∙ c.in_ok-push_alignment_line.ensures
    ∙ ap (λ text. text ++ dump_line (define_alignment name (map piece_tree c.pieces.result.now))) c.clear.ensures.items
    ∙ ap (λ (pieces : List PieceTree). dump_line (define_alignment name pieces)) (pieces_written c.pieces.result.now ∙ ap (map written_piece) c.pieces.ensures) in
    subst (λ (bytes : List ℕ). false ≡ nat_le (length bytes) LINE_BYTES) made (too_long (length c.as_slice-whole.result.now) c.if-whole-gt-LINE_BYTES.true)

pub returns-clause-fits : goal.returns-clause-fits
returns-clause-fits g c =
    let name = c.args.name.now.bytes in
    let made = c.as_slice-whole.ensures.value ∙ c.in_ok-push_alignment_line.ensures
    ∙ ap (λ text. text ++ dump_line (define_alignment name (map piece_tree c.pieces.result.now))) c.clear.ensures.items
    ∙ ap (λ (pieces : List PieceTree). dump_line (define_alignment name pieces)) (pieces_written c.pieces.result.now ∙ ap (map written_piece) c.pieces.ensures) in
    subst (λ (bytes : List ℕ). true ≡ nat_le (length bytes) LINE_BYTES) made (short_enough (length c.as_slice-whole.result.now) c.if-whole-gt-LINE_BYTES.false)

pub returns-clause-put : goal.returns-clause-put
returns-clause-put g c = λ is.
    let name = c.args.name.now.bytes in
    let made = c.as_slice-whole.ensures.value ∙ c.in_ok-push_alignment_line.ensures
    ∙ ap (λ text. text ++ dump_line (define_alignment name (map piece_tree c.pieces.result.now))) c.clear.ensures.items
    ∙ ap (λ (pieces : List PieceTree). dump_line (define_alignment name pieces)) (pieces_written c.pieces.result.now ∙ ap (map written_piece) c.pieces.ensures) in
    subst (λ (bytes : List ℕ). Appends (g.W.Write.contents c.args.output.now) (g.W.Write.contents c.put_line.new.output) (bytes ++ 10 ∷ [])) made c.in_ok-put_line.ensures

pub returns-in_err-push_alignment_line-clause-stops : goal.returns-in_err-push_alignment_line-clause-stops
returns-in_err-push_alignment_line-clause-stops g c = memory_wanted c.from_residual.result _ _ (g.W.Write.contents c.args.output.now) c.from_residual.ensures.1

pub returns-in_err-put_line-clause-stops : goal.returns-in_err-put_line-clause-stops
returns-in_err-put_line-clause-stops g c =
    let name = c.args.name.now.bytes in
    let stop = c.in_err-put_line.field-0.0 in
    let made = c.as_slice-whole.ensures.value ∙ c.in_ok-push_alignment_line.ensures
    ∙ ap (λ text. text ++ dump_line (define_alignment name (map piece_tree c.pieces.result.now))) c.clear.ensures.items
    ∙ ap (λ (pieces : List PieceTree). dump_line (define_alignment name pieces)) (pieces_written c.pieces.result.now ∙ ap (map written_piece) c.pieces.ensures) in
    passed_on c.from_residual-in_err-put_line.result stop _ _ c.from_residual-in_err-put_line.ensures.1
    (c.in_err-put_line.ensures.0, front_as stop _ _ _ _ (ap (λ (bytes : List ℕ). bytes ++ 10 ∷ []) made) c.in_err-put_line.ensures.1)

pub returns-in_err-put_line-clause-long : goal.returns-in_err-put_line-clause-long
returns-in_err-put_line-clause-long g c = λ long.
    let name = c.args.name.now.bytes in
    let made = c.as_slice-whole.ensures.value ∙ c.in_ok-push_alignment_line.ensures
    ∙ ap (λ text. text ++ dump_line (define_alignment name (map piece_tree c.pieces.result.now))) c.clear.ensures.items
    ∙ ap (λ (pieces : List PieceTree). dump_line (define_alignment name pieces)) (pieces_written c.pieces.result.now ∙ ap (map written_piece) c.pieces.ensures) in
    let fits = subst (λ (bytes : List ℕ). true ≡ nat_le (length bytes) LINE_BYTES) made (short_enough (length c.as_slice-whole.result.now) c.if-whole-gt-LINE_BYTES.false) in
    absurd (false≢true (sym (fits ∙ long)))

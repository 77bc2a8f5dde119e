-- The records of the entry's bytes are the entry, and the bytes of its summary say one.
use Rattle.std.proofs.Common.{◌≡◌, ℕ, List, [], ◌∷◌, take, drop, sym, ap, ◌∙◌, subst, arith}
use Rattle.std.proofs.lemmas.Bool.{false≢true}
use Rattle.std.proofs.lemmas.Bool.Decides.{Decides-eqb}
use Rattle.std.proofs.lemmas.Slice.Eq.{slice_eq-Decides}
use Rattle.rs_records.specs.Records.{records}
use Rattle.rs_records.proofs.RecordLists.{records_more, records_none}
use Rattle.rs_tree_insert.proofs.path.says_same.Goals as goal

first_record : (w e more : ℕ) (one bytes : List ℕ) → w ≡ e → more ≡ 1 → one ≡ take w bytes → records more e bytes ≡ one ∷ []
first_record w e more one bytes is single same =
    ap (λ n. records n e bytes) single ∙ ap (λ n. records 1 n bytes) (sym is) ∙ records_more 0 w bytes ∙ ap (λ x. x ∷ records 0 w (drop w bytes)) (sym same)
    ∙ ap (λ rs. one ∷ rs) (records_none w (drop w bytes))

pub returns-then-more-ne1-clause-same : goal.returns-then-more-ne1-clause-same
returns-then-more-ne1-clause-same g c = λ no. absurd (false≢true no)

pub returns-then-more-ne1-clause-one : goal.returns-then-more-ne1-clause-one
returns-then-more-ne1-clause-one g c = λ one other said also.
    sym (c.read-whole.ensures one (subst (λ (bytes : List ℕ). g.S.Summary.says bytes one) (sym c.summary.ensures.bytes) said))
    ∙ c.read-whole.ensures other (subst (λ (bytes : List ℕ). g.S.Summary.says bytes other) (sym c.summary.ensures.bytes) also)

pub returns-clause-same : goal.returns-clause-same
returns-clause-same g c = λ yes.
    let told = slice_eq-Decides Decides-eqb c.args.entry.now (take c.entry_width-width.result c.args.entries.now) c.eq.result c.eq.ensures in
    first_record c.entry_width-width.result _ c.args.more c.args.entry.now c.args.entries.now c.entry_width-width.ensures.width (omega (arith, c.if-more-ne1.false)) (told.0 yes)

pub returns-clause-one : goal.returns-clause-one
returns-clause-one g c = λ one other said also.
    sym (c.read-whole.ensures one (subst (λ (bytes : List ℕ). g.S.Summary.says bytes one) (sym c.summary.ensures.bytes) said))
    ∙ c.read-whole.ensures other (subst (λ (bytes : List ℕ). g.S.Summary.says bytes other) (sym c.summary.ensures.bytes) also)

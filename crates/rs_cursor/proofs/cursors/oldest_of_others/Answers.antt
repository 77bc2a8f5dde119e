use Rattle.std.proofs.Common.{◌≡◌, Bool, true, false, not, refl, ap, ◌∙◌}
use Rattle.std.specs.Cmp.Lexicographic.{other_text, same_text}
use Rattle.rs_catalog.specs.Names.{entries_by_bytes}
use Rattle.rs_cursor.proofs.Lowest.{goes_to_end}
use Rattle.rs_cursor.proofs.Oldests.{Counts, IsOther, lowest_of_others, one_counted, one_passed}
use Rattle.rs_cursor.proofs.cursors.oldest_of_others.Goals as goal

not_true : (b : Bool) → true ≡ not b → false ≡ b
not_true true e = cc
not_true false e = refl

not_false : (b : Bool) → false ≡ not b → true ≡ b
not_false true e = refl
not_false false e = cc

pub loop-other-preserved-then-ne : goal.loop-other-preserved-then-ne
loop-other-preserved-then-ne c =
    one_counted (IsOther c.args.name.now.bytes) (entries_by_bytes (λ v. v) c.into_iter-other-iterator.result) (entries_by_bytes (λ v. v) c.loop-other.other-iterator) (entries_by_bytes (λ v. v) c.next.new.self)
    (c.in-Some.other.now.bytes, c.in-Some.cursor.now) c.args.most c.loop-other.oldest (ap (entries_by_bytes (λ v. v)) c.in-Some.ensures.steps) c.loop-other.invariant
    c.min-oldest.result (other_text _ _ (not_true _ c.if-ne.ensures)) c.min-oldest.ensures

pub loop-other-preserved : goal.loop-other-preserved
loop-other-preserved c =
    one_passed (IsOther c.args.name.now.bytes) (entries_by_bytes (λ v. v) c.into_iter-other-iterator.result) (entries_by_bytes (λ v. v) c.loop-other.other-iterator) (entries_by_bytes (λ v. v) c.next.new.self)
    (c.in-Some.other.now.bytes, c.in-Some.cursor.now) c.args.most c.loop-other.oldest (ap (entries_by_bytes (λ v. v)) c.in-Some.ensures.steps) c.loop-other.invariant
    (λ differs. differs (same_text _ _ (not_false _ c.if-ne.ensures)))

pub returns : goal.returns
returns c =
    lowest_of_others c.args.name.now.bytes c.args.cursors.now (entries_by_bytes (λ v. v) c.into_iter-other-iterator.result) (ap (entries_by_bytes (λ v. v)) c.into_iter-other-iterator.ensures.into_iter_gives ∙ c.iter-other-items.ensures)
    c.args.most c.loop-other.oldest
    (goes_to_end (Counts (IsOther c.args.name.now.bytes)) _ _ c.args.most c.loop-other.oldest (ap (entries_by_bytes (λ v. v)) c.in-None.ensures.steps.0) c.loop-other.invariant)

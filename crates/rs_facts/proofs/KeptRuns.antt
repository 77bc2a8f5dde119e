-- Kept spans are all the maximal runs of what they mean, each once.
use Rattle.std.proofs.Common.{◌≢◌, ap, inl, inr, List, [], ◌∷◌, arith}
use Rattle.rs_value.specs.declared.column.Kind.{Kind}
use Rattle.rs_facts.specs.Runs.{Stretch, IsMaximalRun}
use Rattle.rs_facts.specs.Spans.{places_of, IsPlaced, Precedes, AreKept, AreOnce, AreAllRunsOf}
use Rattle.rs_facts.proofs.Rows.{row_cmp-less_apart}
use Rattle.rs_facts.proofs.KeptLaws.{placed-some, every-weaker, kept-placed}
use Rattle.rs_facts.proofs.RunLaws.{every-from_each, apart-maximal, apart-complete}
use Rattle.rs_facts.proofs.Apart.{kept-apart}

precedes-other : (kind : Kind) (a b : Stretch) → IsPlaced kind a → Precedes kind a b → a ≢ b
precedes-other kind a b placed (inl less) same = row_cmp-less_apart a.row b.row less (ap (λ (s : Stretch). s.row) same)
precedes-other kind a b placed (inr gap) same =
    let some = placed-some kind a placed in
    let lo = ap (λ (s : Stretch). s.lo) same in
    omega (arith, some, lo, gap.1)

kept-once : (kind : Kind) (spans : List Stretch) → AreKept kind spans → AreOnce spans
kept-once kind [] kept = tt
kept-once kind (span ∷ spans) kept =
    (every-weaker (Precedes kind span) (λ other. span ≢ other) (λ other before. precedes-other kind span other kept.0 before) spans kept.1, kept-once kind spans kept.2)

pub kept-runs : (kind : Kind) (spans : List Stretch) → AreKept kind spans → AreAllRunsOf kind (places_of spans) spans
kept-runs kind spans kept = record {
  once = kept-once kind spans kept;
  maximal = every-from_each (IsMaximalRun kind (places_of spans)) spans (apart-maximal kind spans (kept-placed kind spans kept) (kept-apart kind spans kept));
  complete = apart-complete kind spans (kept-placed kind spans kept) (kept-apart kind spans kept);
}

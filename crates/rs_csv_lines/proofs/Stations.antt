-- Measures in stations.
use Rattle.std.proofs.Common.{ℕ, List, inl, inr}
use Rattle.rs_measure.specs.Measure.{IsMeasure}
use Rattle.rs_csv_lines.specs.declared.plan.Measures.{Measures}
use Rattle.rs_csv_lines.specs.Numbers.{WritesMeasure}

pub measure_in_range : (reading : Measures) (text : List ℕ) (thousandths : ℕ) → WritesMeasure reading text thousandths → IsMeasure thousandths
measure_in_range reading text thousandths (inl plain) = plain.in_range
measure_in_range reading text thousandths (inr stations) = stations.2.in_range

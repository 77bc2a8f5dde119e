use Rattle.rs_facts.proofs.SpanLaws.{places_of-permutation}
use Rattle.rs_facts.proofs.laws.spans_mean_a_set.Goals as goal

pub returns : goal.returns
returns c = places_of-permutation

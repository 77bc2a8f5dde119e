-- Spans that are lent.
use Rattle.std.specs.Borrow.{Bor}
use Rattle.rs_facts.specs.declared.fact.Span.{Span}
use Rattle.rs_facts.specs.Runs.{Stretch}
use Rattle.rs_facts.specs.Spans.{seen}

abbrev pub seen_lent : Bor Span → Stretch
seen_lent span = seen span.now

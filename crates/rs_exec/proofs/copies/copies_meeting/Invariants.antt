use Rattle.std.proofs.Common.{◌≡◌, map, take, filter}
use Rattle.rs_facts.specs.Spans.{seen}
use Rattle.rs_exec.specs.Carried.{meets}
use Rattle.rs_exec.proofs.copies.copies_meeting.Given as goal

abbrev pub invariant-loop-span : goal.invariant-loop-span
invariant-loop-span l = map seen l.copies.items ≡ filter (meets l.from l.to) (map seen (take l.span-index l.spans))

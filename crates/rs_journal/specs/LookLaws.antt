-- What the trait `Disk` asks of the content that a look shows.
use Rattle.std.proofs.lemmas.Bool.Decides.{nat_tests}
use Rattle.std.proofs.Common.{◌≡◌, ℕ, ◌≤◌, arith}
use Rattle.rs_disk.specs.Content.{Content}
use Rattle.rs_journal.specs.Look.{shown}

-- past the end there are zeros
pub shown_past : (content : Content) (i : ℕ) → content.size ≤ i → (shown content).byte i ≡ 0
shown_past content i past = grind (arith, nat_tests)

use Rattle.std.proofs.Common.{◌≡◌, drop, map}
use Rattle.std.specs.List.{list_all}
use Rattle.rs_csv_answers.specs.Words.{asks_rows}
use Rattle.rs_csv_answers.proofs.words.first_other.Given as goal

-- only questions so far
abbrev pub invariant-loop-text : goal.invariant-loop-text
invariant-loop-text l = list_all asks_rows (map (λ text. text.now) (drop l.text-index l.texts)) ≡ list_all asks_rows (map (λ text. text.now) l.texts)

-- A search between bounds finds the records that overlap.
use Rattle.std.proofs.Common.{◌≡◌, ◌<◌, ◌≤◌, ◌^◌, ℕ, true, false, nat_lt, ◌||◌, max, List, filter, sym, ap, ◌∙◌, subst, inl, inr, arith}
use Rattle.std.proofs.lemmas.Bool.{cases_lt}
use Rattle.std.proofs.lemmas.Bool.Decides.{nat_tests}
use Rattle.std.specs.List.{AllZip}
use Rattle.rs_pages.specs.PageMap.{PageMap}
use Rattle.rs_tree.specs.Calls.{AcceptsParts, Finds}
use Rattle.rs_tree.specs.Cells.{cells_within}
use Rattle.rs_tree.specs.Form.{form_of}
use Rattle.rs_tree.specs.Leading.{pages_leading}
use Rattle.rs_interval.specs.declared.greatest_end.GreatestEnd.{GreatestEnd}
use Rattle.rs_interval.specs.Ends.{SaysEnd, ends_at, later, end_of}
use Rattle.rs_interval.specs.EventRecords.{SaysRecord, overlaps}
use Rattle.rs_interval.specs.Finding.{event_form, route_from, ends_after, FindsOverlapping}
use Rattle.rs_interval.proofs.EventOrder.{selected}

max_after : (a x y : ℕ) → nat_lt a (max x y) ≡ (nat_lt a x || nat_lt a y)
max_after a x y = elim (cases_lt a x) [
  | inl below ↦
      let yes : nat_lt a x ≡ true = grind (arith, nat_tests) in
      let whole : nat_lt a (max x y) ≡ true = grind (arith, nat_tests) in
      whole ∙ ap (λ b. b || nat_lt a y) (sym yes)
  | inr above ↦
      let no : nat_lt a x ≡ false = grind (arith, nat_tests) in
      elim (cases_lt a y) as (λ _. nat_lt a (max x y) ≡ (nat_lt a x || nat_lt a y)) [
        | inl below ↦
            let yes : nat_lt a y ≡ true = grind (arith, nat_tests) in
            let whole : nat_lt a (max x y) ≡ true = grind (arith, nat_tests) in
            whole ∙ sym yes ∙ ap (λ b. b || nat_lt a y) (sym no)
        | inr past ↦
            let none : nat_lt a y ≡ false = grind (arith, nat_tests) in
            let whole : nat_lt a (max x y) ≡ false = grind (arith, nat_tests) in
            whole ∙ sym none ∙ ap (λ b. b || nat_lt a y) (sym no)
      ]
]

-- some record ends after a place exactly where the last of them does
pub after_parts : (a : ℕ) → AcceptsParts later (λ (one : GreatestEnd). nat_lt a one.end)
after_parts a = record { each = λ one other. max_after a one.end other.end }

pub finds_overlapping : (summary width root route a b : ℕ) (pages : PageMap) (low high : List ℕ) (found : List (List ℕ)) (reads : ℕ) → route < 2 ^ 32 → b < 2 ^ 32
    → summary ≡ 4 → low ≡ route_from route 0 → high ≡ route_from route b
    → Finds (form_of SaysEnd (ends_at 0) later end_of summary width) pages root low high (λ cell. nat_lt a (end_of cell).end) found reads → FindsOverlapping width pages root route a b found reads
finds_overlapping summary width root route a b pages low high found reads known bound four first last finds = record {
  exact = λ cells used events tree all.
      let is : found ≡ filter (λ cell. nat_lt a (end_of cell).end) (cells_within (route_from route 0) (route_from route b) cells) =
      here.exact cells used tree ∙ ap (λ l. filter (λ cell. nat_lt a (end_of cell).end) (cells_within l high cells)) first
      ∙ ap (λ h. filter (λ cell. nat_lt a (end_of cell).end) (cells_within (route_from route 0) h cells)) last in
      subst (λ f. AllZip SaysRecord f (filter (overlaps route a b) events)) (sym is) (selected route a b known bound cells events all);
  bounded = here.bounded;
  least = λ cells used tree.
      subst (λ to. pages_leading (route_from route 0) to (ends_after a) (event_form width) pages tree.height root cells used tree.stands ≤ reads) last
      (subst (λ from. pages_leading from high (ends_after a) (event_form width) pages tree.height root cells used tree.stands ≤ reads) first (here.least cells used tree));
} where
  here : Finds (event_form width) pages root low high (λ cell. nat_lt a (end_of cell).end) found reads
  here = subst (λ n. Finds (form_of SaysEnd (ends_at 0) later end_of n width) pages root low high (λ cell. nat_lt a (end_of cell).end) found reads) four finds

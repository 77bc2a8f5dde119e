-- Walks through the entries of a page, one after another.
use Rattle.std.proofs.Common.{◌≡◌, ◌<◌, ◌≤◌, ◌+◌, ◌-◌, ◌*◌, ℕ, zero, suc, Bool, true, Some, List, [], ◌∷◌, ◌++◌, length, take, drop, map, slice_get, refl, sym, ap, ◌∙◌, subst, arith}
use Rattle.std.proofs.Math.Nat.{mul-le-mul_left}
use Rattle.std.proofs.lemmas.List.{append_assoc, append-nil, drop-drop, length-map}
use Rattle.std.proofs.lemmas.List.Sums.{sum_by_push, sum_by-cons, sum_by-take-le}
use Rattle.std.specs.List.{AllByRecursion, flat_map, sum_by}
use Rattle.rs_pages.specs.PageMap.{PageMap, SamePages}
use Rattle.rs_records.specs.Order.{is_below, Ascends}
use Rattle.rs_records.specs.Records.{records, keys, IsPlace}
use Rattle.rs_tree.specs.Form.{Form, entry_width, least_from}
use Rattle.rs_tree.specs.Content.{SaysChild, content}
use Rattle.rs_tree.specs.Leading.{leading, leading_in, where_some}
use Rattle.rs_tree.specs.Searches.{wanted, weight}
use Rattle.rs_tree.specs.Shape.{Shape, Lies, cells_of, size_of, child_of}
use Rattle.rs_tree.proofs.Below.{AllBelow, NoneBelow}
use Rattle.rs_tree.proofs.Lists.{all_at, inside_has, has_inside, zip_at, zip_lengths, map_at, drop_at_place, take_next, flat_push, flat_middle, sum_middle, all_middle, all_drop_more, sum_upto_middle}
use Rattle.rs_tree.proofs.Parts.{Leasts, place_splits, leasts_ascend, wanted_parts, none_before, none_after}
use Rattle.rs_tree.proofs.Shapes.{lies_same, entries_leasts, part_ascends}
use Rattle.rs_tree.proofs.Weights.{suffix_weight, lead_weight, under_weight}
use Rattle.rs_tree.specs.Walking.{IsEntryOf, AreEntriesOf, WalksEntry, WalksEntries, ReadsEntryOnce, ReadsEntriesOnce, HasNoPartOfEntry, HasNoPartsOfEntries, IsRange}

module _ (form : Form) (pages : PageMap) (page : List ℕ) (count : ℕ) where
  -- the part that an entry says
  pub part_at : (height : ℕ) (parts : List (Shape height)) (index : ℕ) (entry : List ℕ) → AreEntriesOf form pages page count height parts
      → slice_get (records count (entry_width form) (content page)) index ≡ Some entry → (part : Shape height) × (slice_get parts index ≡ Some part) × IsEntryOf form pages entry height part
  part_at height parts index entry are there =
      let rs : List (List ℕ) = records count (entry_width form) (content page) in
      let inside : index < length parts = omega (arith, has_inside rs index entry there, zip_lengths (SaysChild form) rs (map (child_of height) parts) are.says, length-map parts (child_of height)) in
      let found = inside_has parts index inside in (
        found.0,
        found.1,
        record {
          says = zip_at (SaysChild form) rs (map (child_of height) parts) index entry (child_of height found.0) are.says there (map_at (child_of height) parts index found.0 found.1);
          lies = all_at (Lies form pages height) parts index found.0 are.lie found.1;
        },
      )

  module _ (low high : List ℕ) (passes : List ℕ → Bool) where
    abbrev has_of : (height : ℕ) → Shape height → List (List ℕ)
    has_of height part = wanted low high passes (cells_of height part)

    abbrev weight_at : (height : ℕ) → Shape height → ℕ
    weight_at height part = weight low high passes (cells_of height part)

    -- so many parts from one on have been walked through
    pub record WalksSome (from k : ℕ) (before after : List (List ℕ)) (left left_after : ℕ) : Type 0 where
      pub each : (height : ℕ) (parts : List (Shape height)) → AreEntriesOf form pages page count height parts → Ascends (flat_map (cells_of height) parts)
          → (after ≡ before ++ flat_map (λ part. wanted low high passes (cells_of height part)) (take k (drop from parts)))
          × (left ≤ left_after + suc height * sum_by (λ part. weight low high passes (cells_of height part)) (take k (drop from parts)))
          × (left_after + sum_by (leading_in low high passes height) (take k (drop from parts)) ≤ left)

    pub walks_none : (from k : ℕ) (cells : List (List ℕ)) (left : ℕ) → k ≡ 0 → WalksSome from k cells cells left left
    walks_none from k cells left none = record {
      each = λ height parts are up.
          (sym (append-nil cells) ∙ ap (λ i. cells ++ flat_map (has_of height) (take i (drop from parts))) (sym none), omega arith, subst (λ i. left + sum_by (leading_in low high passes height) (take i (drop from parts)) ≤ left) (sym none) (omega arith));
    }

    pub walks_next : (from index : ℕ) (entry : List ℕ) (later : PageMap) (before mid after : List (List ℕ)) (left left_mid left_after : ℕ) → from ≤ index
        → slice_get (records count (entry_width form) (content page)) index ≡ Some entry → SamePages later pages
        → WalksSome from (index - from) before mid left left_mid → WalksEntry form later entry low high passes mid after left_mid left_after
        → WalksSome from (index + 1 - from) before after left left_after
    walks_next from index entry later before mid after left left_mid left_after h there same some next = record {
      each = λ height parts are up.
          let part = part_at height parts index entry are there in
          let k : ℕ = index - from in
          let place : from + k ≡ index = omega arith in
          let at : slice_get (drop from parts) k ≡ Some part.0 = drop_at_place parts from k ∙ ap (slice_get parts) place ∙ part.1 in
          let more : suc k ≡ index + 1 - from = omega arith in
          let longer : take (suc k) (drop from parts) ≡ take k (drop from parts) ++ part.0 ∷ [] = take_next (drop from parts) k part.0 at in
          let was = some.each height parts are up in
          let now = next.each height part.0 (record { says = part.2.says; lies = lies_same form pages later same height part.0 part.2.lies }) (part_ascends (cells_of height) parts index part.0 up part.1) in
          let flat : flat_map (has_of height) (take (suc k) (drop from parts)) ≡ flat_map (has_of height) (take k (drop from parts)) ++ has_of height part.0 =
          ap (flat_map (has_of height)) longer ∙ flat_push (has_of height) (take k (drop from parts)) part.0 in
          let total : sum_by (weight_at height) (take (suc k) (drop from parts)) ≡ sum_by (weight_at height) (take k (drop from parts)) + weight_at height part.0 =
          ap (sum_by (weight_at height)) longer ∙ sum_by_push (weight_at height) (take k (drop from parts)) part.0 in
          let some_more : sum_by (leading_in low high passes height) (take (suc k) (drop from parts)) ≡ sum_by (leading_in low high passes height) (take k (drop from parts)) + leading_in low high passes height part.0 =
          ap (sum_by (leading_in low high passes height)) longer ∙ sum_by_push (leading_in low high passes height) (take k (drop from parts)) part.0 in
          let least : left_after + sum_by (leading_in low high passes height) (take (suc k) (drop from parts)) ≤ left = omega (arith, was.2, now.least, some_more) in
          let cost : suc height * sum_by (weight_at height) (take (suc k) (drop from parts)) ≡ suc height * (sum_by (weight_at height) (take k (drop from parts)) + weight_at height part.0) = ap (λ s. suc height * s) total in
          let found : after ≡ before ++ flat_map (has_of height) (take (suc k) (drop from parts)) =
          now.found ∙ ap (λ xs. xs ++ has_of height part.0) was.0 ∙ append_assoc before (flat_map (has_of height) (take k (drop from parts))) (has_of height part.0) ∙ ap (λ xs. before ++ xs) (sym flat) in
          let reads : left ≤ left_after + suc height * sum_by (weight_at height) (take (suc k) (drop from parts)) = omega (arith, was.1, now.reads, cost) in (
            found ∙ ap (λ i. before ++ flat_map (has_of height) (take i (drop from parts))) more,
            subst (λ i. left ≤ left_after + suc height * sum_by (weight_at height) (take i (drop from parts))) more reads,
            subst (λ i. left_after + sum_by (leading_in low high passes height) (take i (drop from parts)) ≤ left) more least,
          );
    }

    middle_below : (bound : List ℕ) (ls : List (List ℕ)) (from to : ℕ) → AllBelow bound (take to ls) → (n : ℕ) → n ≡ to - from → AllBelow bound (take n (drop from ls))
    middle_below bound ls from to all zero e = tt
    middle_below bound ls from to all (suc n) e = all_middle (λ cell. is_below cell bound ≡ true) ls from (suc n) to (omega arith) all

    rest_after : (height : ℕ) (parts : List (Shape height)) (ls : List (List ℕ)) (from to : ℕ) → Leasts (cells_of height) ls parts → Ascends (flat_map (cells_of height) parts) → NoneBelow high (drop to ls)
        → AllByRecursion (λ part. has_of height part ≡ []) (drop (to - from) (drop from parts))
    rest_after height parts ls from to leasts up none =
        subst (AllByRecursion (λ part. has_of height part ≡ [])) (sym (drop-drop (to - from) from parts))
        (all_drop_more (λ part. has_of height part ≡ []) parts to (from + (to - from)) (omega arith) (none_after (cells_of height) low high passes ls parts to leasts up none))

    -- the parts outside the two places have nothing that is wanted
    outside : (height : ℕ) (parts : List (Shape height)) (ls : List (List ℕ)) (p from to : ℕ) → Leasts (cells_of height) ls parts → Ascends (flat_map (cells_of height) parts)
        → IsPlace ls low p → from ≡ p - 1 → IsPlace ls high to
        → AllByRecursion (λ part. has_of height part ≡ []) (take from parts) × AllByRecursion (λ part. has_of height part ≡ []) (drop (to - from) (drop from parts))
    outside height parts ls zero from to leasts up first is last =
        let highs = place_splits ls high to (leasts_ascend (cells_of height) ls parts leasts up) last in
        let start : 0 ≡ from = omega arith in
        (subst (λ i. AllByRecursion (λ part. has_of height part ≡ []) (take i parts)) start tt, rest_after height parts ls from to leasts up highs.1)
    outside height parts ls (suc p) from to leasts up first is last =
        let lows_up = leasts_ascend (cells_of height) ls parts leasts up in
        let highs = place_splits ls high to lows_up last in
        let lows = place_splits ls low (suc p) lows_up first in
        let start : p ≡ from = omega arith in (
          subst (λ i. AllByRecursion (λ part. has_of height part ≡ []) (take i parts)) start (none_before (cells_of height) low high passes ls parts p leasts up first.within lows.0),
          rest_after height parts ls from to leasts up highs.1,
        )

    -- the parts between the two places have all that is wanted
    pub middle_has : (height : ℕ) (parts : List (Shape height)) (ls : List (List ℕ)) (p from to : ℕ) → Leasts (cells_of height) ls parts → Ascends (flat_map (cells_of height) parts)
        → IsPlace ls low p → from ≡ p - 1 → IsPlace ls high to
        → wanted low high passes (flat_map (cells_of height) parts) ≡ flat_map (has_of height) (take (to - from) (drop from parts))
    middle_has height parts ls p from to leasts up first is last =
        let none = outside height parts ls p from to leasts up first is last in
        wanted_parts (cells_of height) low high passes parts ∙ flat_middle (has_of height) parts from (to - from) none.0 none.1

    none_leads : (height : ℕ) (parts : List (Shape height)) → AllByRecursion (λ part. has_of height part ≡ []) parts → AllByRecursion (λ part. leading_in low high passes height part ≡ 0) parts
    none_leads height [] all = tt
    none_leads height (x ∷ xs) all = (ap (λ cells. where_some cells (leading low high passes height x)) all.0, none_leads height xs all.1)

    -- and all pages that lead to it
    pub middle_leads : (height : ℕ) (parts : List (Shape height)) (ls : List (List ℕ)) (p from to : ℕ) → Leasts (cells_of height) ls parts → Ascends (flat_map (cells_of height) parts)
        → IsPlace ls low p → from ≡ p - 1 → IsPlace ls high to
        → sum_by (leading_in low high passes height) parts ≡ sum_by (leading_in low high passes height) (take (to - from) (drop from parts))
    middle_leads height parts ls p from to leasts up first is last =
        let none = outside height parts ls p from to leasts up first is last in
        sum_middle (leading_in low high passes height) parts from (to - from) (none_leads height (take from parts) none.0) (none_leads height (drop (to - from) (drop from parts)) none.1)

    -- and weigh no more than all
    pub middle_weight : (height : ℕ) (parts : List (Shape height)) (ls : List (List ℕ)) (p from to : ℕ) → Leasts (cells_of height) ls parts → Ascends (flat_map (cells_of height) parts)
        → IsPlace ls low p → from ≡ p - 1 → IsPlace ls high to
        → sum_by (weight_at height) (take (to - from) (drop from parts)) ≤ weight low high passes (flat_map (cells_of height) parts)
    middle_weight height parts ls zero from to leasts up first is last =
        let lows_up = leasts_ascend (cells_of height) ls parts leasts up in
        let highs = place_splits ls high to lows_up last in
        let lows = place_splits ls low 0 lows_up first in
        let start : 0 ≡ from = omega arith in
        let all : to ≡ to - from = omega arith in
        let bound = suffix_weight (cells_of height) low high passes ls parts to leasts up lows.1 highs.0 in
        subst (λ i. sum_by (weight_at height) (take (to - from) (drop i parts)) ≤ weight low high passes (flat_map (cells_of height) parts)) start
        (subst (λ n. sum_by (weight_at height) (take n parts) ≤ weight low high passes (flat_map (cells_of height) parts)) all (under_weight low high passes (flat_map (cells_of height) parts) _ bound))
    middle_weight height parts ls (suc p) from to leasts up first is last =
        let lows_up = leasts_ascend (cells_of height) ls parts leasts up in
        let highs = place_splits ls high to lows_up last in
        let lows = place_splits ls low (suc p) lows_up first in
        let start : p ≡ from = omega arith in
        let here : AllBelow high (take (to - from) (drop p ls)) = subst (λ i. AllBelow high (take (to - from) (drop i ls))) (sym start) (middle_below high ls from to highs.0 (to - from) refl) in
        subst (λ i. sum_by (weight_at height) (take (to - from) (drop i parts)) ≤ weight low high passes (flat_map (cells_of height) parts)) start
        (lead_weight (cells_of height) low high passes ls parts p (to - from) leasts up first.within lows.0 lows.1 here)

    -- all have been walked through
    pub walks_all : (from to index : ℕ) (before after : List (List ℕ)) (left left_after : ℕ) (bytes : List ℕ) → bytes ≡ content page
        → IsRange (keys (least_from form.summary) (records count (entry_width form) bytes)) low high from to → index - from ≤ to - from → from ≤ index → to ≤ index
        → WalksSome from (index - from) before after left left_after → WalksEntries form pages page count low high passes before after left left_after
    walks_all from to index before after left left_after bytes same range ends start done some = record {
      each = λ height parts are up.
          let all : index - from ≡ to - from = omega arith in
          let was = some.each height parts are up in
          let there = subst (λ b. IsRange (keys (least_from form.summary) (records count (entry_width form) b)) low high from to) same range in
          let ls : List (List ℕ) = keys (least_from form.summary) (records count (entry_width form) (content page)) in
          let leasts = entries_leasts form height (records count (entry_width form) (content page)) parts are.says in
          let found = middle_has height parts ls there.place from to leasts up there.first there.before there.last in
          let cost = mul-le-mul_left (suc height) (middle_weight height parts ls there.place from to leasts up there.first there.before there.last) in
          let leads = middle_leads height parts ls there.place from to leasts up there.first there.before there.last in
          let led : sum_by (leading_in low high passes height) (take (index - from) (drop from parts)) ≡ sum_by (leading_in low high passes height) (take (to - from) (drop from parts)) =
          ap (λ k. sum_by (leading_in low high passes height) (take k (drop from parts))) all in
          let count : suc height * sum_by (weight_at height) (take (index - from) (drop from parts)) ≡ suc height * sum_by (weight_at height) (take (to - from) (drop from parts)) =
          ap (λ k. suc height * sum_by (weight_at height) (take k (drop from parts))) all in
          record {
            found = was.0 ∙ ap (λ k. before ++ flat_map (has_of height) (take k (drop from parts))) all ∙ ap (λ xs. before ++ xs) (sym found);
            reads = omega (arith, was.1, cost, count);
            least = omega (arith, was.2, leads, led);
          };
    }

  -- so many parts from one on have been read, each page once
  pub record ReadsSome (from k : ℕ) (left left_after : ℕ) : Type 0 where
    pub each : (height : ℕ) (parts : List (Shape height)) → AreEntriesOf form pages page count height parts → left ≤ left_after + sum_by (size_of height) (take k (drop from parts))

  pub reads_none : (from k : ℕ) (left : ℕ) → ReadsSome from k left left
  reads_none from k left = record { each = λ height parts are. omega arith }

  pub reads_next : (from index : ℕ) (entry : List ℕ) (later : PageMap) (left left_mid left_after : ℕ) → from ≤ index
      → slice_get (records count (entry_width form) (content page)) index ≡ Some entry → SamePages later pages
      → ReadsSome from (index - from) left left_mid → ReadsEntryOnce form later entry left_mid left_after → ReadsSome from (index + 1 - from) left left_after
  reads_next from index entry later left left_mid left_after h there same some next = record {
    each = λ height parts are.
        let part = part_at height parts index entry are there in
        let k : ℕ = index - from in
        let place : from + k ≡ index = omega arith in
        let at : slice_get (drop from parts) k ≡ Some part.0 = drop_at_place parts from k ∙ ap (slice_get parts) place ∙ part.1 in
        let more : suc k ≡ index + 1 - from = omega arith in
        let longer : take (suc k) (drop from parts) ≡ take k (drop from parts) ++ part.0 ∷ [] = take_next (drop from parts) k part.0 at in
        let total : sum_by (size_of height) (take (suc k) (drop from parts)) ≡ sum_by (size_of height) (take k (drop from parts)) + size_of height part.0 =
        ap (sum_by (size_of height)) longer ∙ sum_by_push (size_of height) (take k (drop from parts)) part.0 in
        let was = some.each height parts are in
        let now = next.each height part.0 (record { says = part.2.says; lies = lies_same form pages later same height part.0 part.2.lies }) in
        subst (λ i. left ≤ left_after + sum_by (size_of height) (take i (drop from parts))) more (omega (arith, was, now, total));
  }

  pub reads_all : (from k : ℕ) (left left_after : ℕ) → ReadsSome from k left left_after → ReadsEntriesOnce form pages page count left left_after
  reads_all from k left left_after some = record {
    each = λ height parts are. omega (arith, some.each height parts are, middle_size height parts from k);
  } where
    middle_size : (height : ℕ) (parts : List (Shape height)) (p n : ℕ) → sum_by (size_of height) (take n (drop p parts)) ≤ sum_by (size_of height) parts
    middle_size height parts zero n = sum_by-take-le (size_of height) parts n
    middle_size height [] (suc p) zero = omega arith
    middle_size height [] (suc p) (suc n) = omega arith
    middle_size height (x ∷ xs) (suc p) n = omega (arith, middle_size height xs p n, sum_by-cons (size_of height) x xs)

  -- a part that isn't there shows that the parts aren't
  pub no_entry-no_parts : (levels from index : ℕ) (entry : List ℕ) (later : PageMap) (left left_mid : ℕ) → from ≤ index
      → slice_get (records count (entry_width form) (content page)) index ≡ Some entry → SamePages later pages
      → ReadsSome from (index - from) left left_mid → HasNoPartOfEntry form later entry levels left_mid → HasNoPartsOfEntries form pages page count levels left
  no_entry-no_parts levels from index entry later left left_mid h there same some next = record {
    none = λ height parts are high small.
        let part = part_at height parts index entry are there in
        let k : ℕ = index - from in
        let place : from + k ≡ index = omega arith in
        let at : slice_get (drop from parts) k ≡ Some part.0 = drop_at_place parts from k ∙ ap (slice_get parts) place ∙ part.1 in
        let was = some.each height parts are in
        next.none height part.0 (record { says = part.2.says; lies = lies_same form pages later same height part.0 part.2.lies }) high
        (omega (arith, was, small, sum_upto_middle (size_of height) parts from k part.0 at));
  }

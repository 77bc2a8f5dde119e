-- The entries of a page, one after another: what they say so far, and that they say nothing sound.
use Rattle.std.proofs.Common.{◌≡◌, ◌⊎◌, ◌<◌, ◌≤◌, ◌+◌, ◌-◌, ◌^◌, min, ℕ, suc, Option, Some, None, List, [], ◌∷◌, ◌++◌, length, take, drop, map, slice_get, refl, sym, ap, ◌∙◌, subst, inl, inr, arith}
use Rattle.std.proofs.lemmas.List.{length-append, length-map, take-append-drop, length-take-le}
use Rattle.std.proofs.lemmas.List.Sums.{sum_by_push, sum_by-take-le}
use Rattle.std.specs.List.{AllZip, flat_map}
use Rattle.std.specs.Option.{option_or}
use Rattle.rs_pages.specs.PageMap.{PageMap, SamePages}
use Rattle.rs_page_owners.specs.Counts.{◌&◌}
use Rattle.rs_records.specs.Order.{Ascends}
use Rattle.rs_records.specs.Records.{records, keys}
use Rattle.rs_tree.specs.Form.{Form, entry_width, least_from}
use Rattle.rs_tree.specs.Content.{SaysChild, content}
use Rattle.rs_tree.specs.Shape.{Shape, Lies, cells_of, uses, child_of}
use Rattle.rs_tree.proofs.Below.{AllBelow, ascends_first}
use Rattle.rs_tree.proofs.Lists.{has_inside, zip_lengths, take_next, flat_push, sum_upto, map_at}
use Rattle.rs_tree.proofs.Shapes.{lies_same, entries_leasts, part_ascends}
use Rattle.rs_tree.specs.Walking.{AreEntriesOf}
use Rattle.rs_tree.proofs.Entries.{part_at}
use Rattle.rs_tree_whole.specs.Bounds.{AreUnder}
use Rattle.rs_tree_whole.specs.Checking.{uses_of, ReachesEntry, HasNoSoundEntry, ReachesEntries, HasNoSoundEntries}
use Rattle.rs_tree_whole.proofs.Joins.{zip_push, zip_take, map_take, map_push, all_push, all_take, ascends_join, under_join, under_next}
use Rattle.rs_tree_whole.proofs.Uniques.{firsts, same_height, same_uses_of}

-- pages that are the same are so the other way
pub same_back : (one other : PageMap) → SamePages one other → SamePages other one
same_back one other same = record { fields = sym same.fields; pages = λ n. sym (same.pages n) }

module _ (form : Form) (pages : PageMap) (page : List ℕ) (count : ℕ) (bound : Option (List ℕ)) where
  abbrev entries : List (List ℕ)
  entries = records count (entry_width form) (content page)

  abbrev leasts : List (List ℕ)
  leasts = keys (least_from form.summary) (records count (entry_width form) (content page))

  none_of : (height : ℕ) (parts : List (Shape height)) → AllZip (SaysChild form) [] (map (child_of height) parts) → parts ≡ []
  none_of height [] all = refl
  none_of height (x ∷ xs) all = absurd all

  -- nothing was said yet
  pub entries_none : (k height : ℕ) (before : ℕ → ℕ) → k ≡ 0 → ReachesEntries form pages page count k bound before before height 0
  entries_none k height before none = subst (λ i. ReachesEntries form pages page count i bound before before height 0) (sym none) (record {
    parts = [];
    says = tt;
    lie = tt;
    ascends = tt;
    ends = nothing (option_or (slice_get leasts 0) bound);
    reached = λ n. omega arith;
    counts = λ few. refl;
  }) where
    nothing : (b : Option (List ℕ)) → AreUnder b []
    nothing None = tt
    nothing (Some b) = tt

  -- what was said is of any height, where it is nothing
  at_height : (k height found total : ℕ) (before after : ℕ → ℕ) → (k ≡ 0) ⊎ (found ≡ height) → ReachesEntries form pages page count k bound before after height total → ReachesEntries form pages page count k bound before after found total
  at_height k height found total before after (inr same) some = subst (λ h. ReachesEntries form pages page count k bound before after h total) (sym same) some
  at_height k height found total before after (inl none) some =
      let first = subst (λ i. AllZip (SaysChild form) (take i entries) (map (child_of height) some.parts)) none some.says in
      let empty : some.parts ≡ [] = none_of height some.parts first in
      let fresh = entries_none k found before none in
      let no_cells : length (flat_map (cells_of height) some.parts) ≡ 0 = ap (λ ps. length (flat_map (cells_of height) ps)) empty in
      let none_counted : total ≡ 0 = some.counts (omega (arith, no_cells)) ∙ no_cells in
      subst (ReachesEntries form pages page count k bound before after found) (sym none_counted) (record {
        parts = fresh.parts;
        says = fresh.says;
        lie = fresh.lie;
        ascends = fresh.ascends;
        ends = fresh.ends;
        reached = λ n.
            let used : uses_of height some.parts n ≡ 0 = ap (λ ps. uses_of height ps n) empty in
            let stays : after n ≡ before n = omega (arith, some.reached n, used) in
            stays ∙ fresh.reached n;
        counts = fresh.counts;
      })

  -- one entry more
  entries_push : (index height total more sum : ℕ) (entry : List ℕ) (next : Option (List ℕ)) (before mid after : ℕ → ℕ)
      → slice_get entries index ≡ Some entry → next ≡ option_or (slice_get leasts (index + 1)) bound → sum ≡ min (total + more) (2 ^ 64 - 1)
      → ReachesEntries form pages page count index bound before mid height total → ReachesEntry form pages entry next mid after height more
      → ReachesEntries form pages page count (index + 1) bound before after height sum
  entries_push index height total more sum entry next before mid after there is adds some one =
      let place : suc index ≡ index + 1 = omega arith in
      let longer : take (index + 1) entries ≡ take index entries ++ entry ∷ [] = ap (λ k. take k entries) (sym place) ∙ take_next entries index entry there in
      let key : slice_get leasts index ≡ Some (drop (least_from form.summary) entry) = map_at (drop (least_from form.summary)) entries index entry there in
      let below : AllBelow (drop (least_from form.summary) entry) (flat_map (cells_of height) some.parts) = subst (λ k. AreUnder (option_or k bound) (flat_map (cells_of height) some.parts)) key some.ends in
      let cells : flat_map (cells_of height) (some.parts ++ one.part ∷ []) ≡ flat_map (cells_of height) some.parts ++ cells_of height one.part = flat_push (cells_of height) some.parts one.part in
      record {
        parts = some.parts ++ one.part ∷ [];
        says = subst (λ es. AllZip (SaysChild form) es (map (child_of height) (some.parts ++ one.part ∷ []))) (sym longer)
            (subst (AllZip (SaysChild form) (take index entries ++ entry ∷ [])) (sym (map_push (child_of height) some.parts one.part))
            (zip_push (SaysChild form) (take index entries) (map (child_of height) some.parts) entry (child_of height one.part) some.says one.is.says));
        lie = all_push (Lies form pages height) some.parts one.part some.lie one.is.lies;
        ascends = subst Ascends (sym cells)
            (ascends_join (drop (least_from form.summary) entry) (flat_map (cells_of height) some.parts) (cells_of height one.part) some.ascends below one.is.says.least one.ascends);
        ends = subst (λ b. AreUnder b (flat_map (cells_of height) (some.parts ++ one.part ∷ []))) is (subst (AreUnder next) (sym cells)
            (under_join next (drop (least_from form.summary) entry) (flat_map (cells_of height) some.parts) (cells_of height one.part) below one.is.says.least one.ends));
        reached = λ n. omega (arith, one.reached n, some.reached n, sum_by_push (λ part. uses height part n) some.parts one.part);
        counts = λ few.
            let both : length (flat_map (cells_of height) (some.parts ++ one.part ∷ [])) ≡ length (flat_map (cells_of height) some.parts) + length (cells_of height one.part) =
            ap length cells ∙ length-append (flat_map (cells_of height) some.parts) (cells_of height one.part) in
            let first = some.counts (omega (arith, few, both)) in
            let last = one.counts (omega (arith, few, both)) in
            omega (arith, few, both, first, last, adds);
      }

  pub entries_next : (index height found total more sum : ℕ) (entry : List ℕ) (next : Option (List ℕ)) (later : PageMap) (before mid after : ℕ → ℕ)
      → slice_get entries index ≡ Some entry → next ≡ option_or (slice_get leasts (index + 1)) bound → SamePages later pages → (index ≡ 0) ⊎ (found ≡ height) → sum ≡ min (total + more) (2 ^ 64 - 1)
      → ReachesEntries form pages page count index bound before mid height total → ReachesEntry form later entry next mid after found more
      → ReachesEntries form pages page count (index + 1) bound before after found sum
  entries_next index height found total more sum entry next later before mid after there is same level adds some one =
      entries_push index found total more sum entry next before mid after there is adds (at_height index height found total before mid level some) (record {
        part = one.part;
        is = record { says = one.is.says; lies = lies_same form later pages (same_back later pages same) found one.part one.is.lies };
        ascends = one.ascends;
        ends = one.ends;
        reached = one.reached;
        counts = one.counts;
      })

  -- parts that the page's entries say are those that were reached
  same_reached : (index height total level : ℕ) (before mid : ℕ → ℕ) (parts : List (Shape level)) → ((n : ℕ) → mid n ≤ 1)
      → ReachesEntries form pages page count index bound before mid height total → AreEntriesOf form pages page count level parts → Ascends (flat_map (cells_of level) parts)
      → ((n : ℕ) → (before & uses_of level parts) n ≤ 1) → (n : ℕ) → mid n ≡ (before & uses_of level (take index parts)) n
  same_reached index height total level before mid parts few some are up once n =
      let says = subst (AllZip (SaysChild form) (take index entries)) (map_take (child_of level) parts index) (zip_take (SaysChild form) entries (map (child_of level) parts) index are.says) in
      let whole : flat_map (cells_of level) (take index parts) ++ flat_map (cells_of level) (drop index parts) ≡ flat_map (cells_of level) parts =
      flat_parts (take index parts) (drop index parts) ∙ ap (flat_map (cells_of level)) (take-append-drop index parts) in
      let rise = ascends_first (flat_map (cells_of level) (take index parts)) (flat_map (cells_of level) (drop index parts)) (subst Ascends (sym whole) up) in
      let same = same_uses_of form pages height level (take index entries) some.parts (take index parts) some.says says some.lie (all_take (Lies form pages level) parts index are.lie) some.ascends rise
      (λ m. omega (arith, few m, some.reached m)) (λ m. omega (arith, once m, sum_by-take-le (λ part. uses level part m) parts index)) n in
      omega (arith, same, some.reached n)
    where
      flat_parts : (xs ys : List (Shape level)) → flat_map (cells_of level) xs ++ flat_map (cells_of level) ys ≡ flat_map (cells_of level) (xs ++ ys)
      flat_parts [] ys = refl
      flat_parts (x ∷ xs) ys = sym (joined (cells_of level x) (flat_map (cells_of level) xs) (flat_map (cells_of level) ys)) ∙ ap (λ cs. cells_of level x ++ cs) (flat_parts xs ys) where
        joined : (a b c : List (List ℕ)) → a ++ (b ++ c) ≡ (a ++ b) ++ c
        joined [] b c = refl
        joined (z ∷ zs) b c = ap (λ cs. z ∷ cs) (joined zs b c)

  -- an entry that says nothing sound shows that the entries don't
  pub none_next : (index height total levels : ℕ) (entry : List ℕ) (next : Option (List ℕ)) (later : PageMap) (before mid : ℕ → ℕ) → ((n : ℕ) → mid n ≤ 1)
      → slice_get entries index ≡ Some entry → next ≡ option_or (slice_get leasts (index + 1)) bound → SamePages later pages
      → ReachesEntries form pages page count index bound before mid height total → HasNoSoundEntry form later entry next levels mid
      → HasNoSoundEntries form pages page count bound levels before
  none_next index height total levels entry next later before mid few there is same some none = record {
    none = λ level parts are up under high once.
        let part = part_at form pages page count level parts index entry are there in
        let after : suc index ≡ index + 1 = omega arith in
        let zip = entries_leasts form level entries parts are.says in
        let ends : AreUnder next (cells_of level part.0) = subst (λ b. AreUnder b (cells_of level part.0)) (sym is)
        (subst (λ k. AreUnder (option_or (slice_get leasts k) bound) (cells_of level part.0)) after (under_next (cells_of level) bound leasts parts index part.0 zip up under part.1)) in
        none.none level part.0 (record { says = part.2.says; lies = lies_same form pages later same level part.0 part.2.lies }) (part_ascends (cells_of level) parts index part.0 up part.1) ends high
        (λ n. omega (arith, once n, same_reached index height total level before mid parts few some are up once n, sum_upto (λ part. uses level part n) parts index part.0 part.1));
  }

  -- nor do they where the heights of two parts differ
  pub none_level : (index height found total more levels : ℕ) (entry : List ℕ) (next : Option (List ℕ)) (later : PageMap) (before mid after : ℕ → ℕ) → 0 < index → (found ≡ height → ⊥)
      → slice_get entries index ≡ Some entry → SamePages later pages → ReachesEntries form pages page count index bound before mid height total → ReachesEntry form later entry next mid after found more
      → HasNoSoundEntries form pages page count bound levels before
  none_level index height found total more levels entry next later before mid after some apart there same reached one = record {
    none = λ level parts are up under high once.
        let part = part_at form pages page count level parts index entry are there in
        let here : Lies form pages found one.part = lies_same form later pages (same_back later pages same) found one.part one.is.lies in
        let level_of : found ≡ level = same_height form pages found one.part level part.0 here part.2.lies (sym one.is.says.page ∙ part.2.says.page) in
        let says = subst (AllZip (SaysChild form) (take index entries)) (map_take (child_of level) parts index) (zip_take (SaysChild form) entries (map (child_of level) parts) index are.says) in
        let inside : index < length entries = has_inside entries index entry there in
        let many : 1 ≤ length reached.parts =
        omega (arith, zip_lengths (SaysChild form) (take index entries) (map (child_of height) reached.parts) reached.says, length-map reached.parts (child_of height), length-take-le index entries (omega arith)) in
        let height_of : height ≡ level = firsts form pages height level (take index entries) reached.parts (take index parts) many reached.says says reached.lie (all_take (Lies form pages level) parts index are.lie)
        (λ x y lies lie top. same_height form pages height x level y lies lie top) in
        apart (level_of ∙ sym height_of);
  }

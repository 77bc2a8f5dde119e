-- Cells of one route ascend as the names of their referents do.
use Rattle.std.proofs.Common.{◌≡◌, ◌<◌, ◌≤◌, ◌+◌, ◌-◌, ◌==◌, ℕ, zero, suc, Bool, true, false, cond, List, [], ◌∷◌, ◌++◌, length, map, filter, replicate, refl, sym, ap, ◌∙◌, arith}
use Rattle.std.proofs.lemmas.Bool.{and_parts}
use Rattle.std.proofs.lemmas.Bool.Decides.{nat_tests}
use Rattle.std.proofs.lemmas.Cmp.{nat_list_cmp_total, tied_itself}
use Rattle.std.proofs.lemmas.List.{length-append, length-replicate}
use Rattle.std.specs.Cmp.Lexicographic.{slice_cmp}
use Rattle.std.specs.Int.{w32, w64, to_be_bytes}
use Rattle.std.specs.List.{AllByRecursion, AllZip}
use Rattle.std.specs.Ordering.{is_lt, nat_cmp, ordering_reverse, ordering_then}
use Rattle.std.specs.Prelude.{IsTrue}
use Rattle.std.specs.declared.cmp.Ordering.{Ordering}
use Rattle.std.specs.declared.cmp.Ordering.TheVariants.{Less, Equal, Greater}
use Rattle.rs_facts.specs.Fact.{name_cmp}
use Rattle.rs_pages.specs.PageMap.{PageMap}
use Rattle.rs_records.specs.Order.{Ascends, is_below}
use Rattle.rs_cell_versions.specs.Versioned.{Standing}
use Rattle.rs_versioned.specs.Records.{HoldsRecords, is_seen}
use Rattle.rs_versioned.specs.Referents.{AreInNameOrder, ReferentRecord, SaysReferent, is_referent_of, kept_referents, referents_at}
use Rattle.rs_interval.proofs.WordOrder.{equal, greater, less, word_cmp}
use Rattle.rs_versioned.proofs.PrintingOrder.{fronts_cmp, not_more}

-- names that are filled up with zeros to one length compare as the names do
filled_cmp : (n m : List ℕ) (i j : ℕ) → AllByRecursion (λ byte. 0 < byte) n → AllByRecursion (λ byte. 0 < byte) m → length n + i ≡ length m + j
    → slice_cmp nat_cmp (n ++ replicate i 0) (m ++ replicate j 0) ≡ slice_cmp nat_cmp n m
filled_cmp [] [] i j some more long =
    let same : i ≡ j = omega arith in
    ap (λ (k : ℕ). slice_cmp nat_cmp (replicate k 0) (replicate j 0)) same ∙ tied_itself nat_list_cmp_total (replicate j 0)
filled_cmp [] (y ∷ m) zero j some more long = absurd (omega arith)
filled_cmp [] (y ∷ m) (suc i) j some more long = ap (λ o. ordering_then o (slice_cmp nat_cmp (replicate i 0) (m ++ replicate j 0))) (less 0 y more.0)
filled_cmp (x ∷ n) [] i zero some more long = absurd (omega arith)
filled_cmp (x ∷ n) [] i (suc j) some more long = ap (λ o. ordering_then o (slice_cmp nat_cmp (n ++ replicate i 0) (replicate j 0))) (greater x 0 some.0)
filled_cmp (x ∷ n) (y ∷ m) i j some more long = ap (ordering_then (nat_cmp x y)) (filled_cmp n m i j some.1 more.1 (omega arith))

-- of two cells on one route the lower has a name that is no greater
module _ (cell other : List ℕ) (one two : ReferentRecord) (says : SaysReferent cell one) (tells : SaysReferent other two) (same : one.route ≡ two.route) where
  abbrev filled : List ℕ → List ℕ
  filled name = name ++ replicate (32 - length name) 0

  abbrev rest : ReferentRecord → List ℕ
  rest referent = to_be_bytes w64 referent.born ++ (to_be_bytes w32 referent.measure ++ to_be_bytes w64 referent.died)

  cells_cmp : slice_cmp nat_cmp cell other ≡ ordering_then (slice_cmp nat_cmp one.name two.name) (slice_cmp nat_cmp (rest one) (rest two))
  cells_cmp =
      let short : length one.name ≤ 32 = says.name_fits in
      let small : length two.name ≤ 32 = tells.name_fits in
      let level : length (filled one.name) ≡ length (filled two.name) = filled_alike one.name two.name short small in
      (λ i. slice_cmp nat_cmp (says.bytes i) (tells.bytes i))
      ∙ word_cmp one.route two.route (filled one.name ++ rest one) (filled two.name ++ rest two) says.route_fits tells.route_fits
      ∙ ap (λ o. ordering_then o (slice_cmp nat_cmp (filled one.name ++ rest one) (filled two.name ++ rest two))) (equal one.route two.route same)
      ∙ fronts_cmp (filled one.name) (filled two.name) (rest one) (rest two) level
      ∙ ap (λ o. ordering_then o (slice_cmp nat_cmp (rest one) (rest two)))
      (filled_cmp one.name two.name (32 - length one.name) (32 - length two.name) says.no_zeros tells.no_zeros (omega (arith, short, small)))
    where
      filled_long : (name : List ℕ) → length name ≤ 32 → length (filled name) ≡ 32
      filled_long name fits = simp (length-append, length-replicate) (omega arith)

      filled_alike : (a b : List ℕ) → length a ≤ 32 → length b ≤ 32 → length (filled a) ≡ length (filled b)
      filled_alike a b x y = filled_long a x ∙ sym (filled_long b y)

  not_before : IsTrue (is_below cell other) → name_cmp two.name one.name ≡ Less → ⊥
  unfolding is_below name_cmp
  not_before below before = by_order (slice_cmp nat_cmp one.name two.name) refl (nat_list_cmp_total.antisymm two.name one.name) (sym (ap is_lt cells_cmp) ∙ below) where
    by_order : (o : Ordering) → slice_cmp nat_cmp one.name two.name ≡ o → slice_cmp nat_cmp two.name one.name ≡ ordering_reverse (slice_cmp nat_cmp one.name two.name)
        → is_lt (ordering_then (slice_cmp nat_cmp one.name two.name) (slice_cmp nat_cmp (rest one) (rest two))) ≡ true → ⊥
    by_order Less e turned lower = let wrong : Less ≡ Greater = sym before ∙ turned ∙ ap ordering_reverse e in cc
    by_order Equal e turned lower = let wrong : Less ≡ Equal = sym before ∙ turned ∙ ap ordering_reverse e in cc
    by_order Greater e turned lower = not_more (slice_cmp nat_cmp one.name two.name) (slice_cmp nat_cmp (rest one) (rest two)) lower e

module _ (version route : ℕ) where
  on_route : (one : ReferentRecord) → is_referent_of version route one ≡ true → one.route ≡ route
  on_route one on = let parts = and_parts (one.route == route) (is_seen kept_referents version one) on in grind (arith, nat_tests)

  -- those after one that is seen have names that are no smaller
  later_named : (cell : List ℕ) (one : ReferentRecord) (cells : List (List ℕ)) (referents : List ReferentRecord) → SaysReferent cell one → one.route ≡ route → AllZip SaysReferent cells referents
      → AllByRecursion (λ other. IsTrue (is_below cell other)) cells → AllByRecursion (λ (later : List ℕ × ℕ). name_cmp later.0 one.name ≡ Less → ⊥) (referents_at version route referents)
  later_named cell one [] [] says on all above = tt
  later_named cell one [] (e ∷ es) says on all above = absurd all
  later_named cell one (c ∷ cs) [] says on all above = absurd all
  later_named cell one (c ∷ cs) (e ∷ es) says on all above = by_test (is_referent_of version route e) refl (later_named cell one cs es says on all.1 above.1) where
    by_test : (b : Bool) → is_referent_of version route e ≡ b → AllByRecursion (λ (later : List ℕ × ℕ). name_cmp later.0 one.name ≡ Less → ⊥) (referents_at version route es)
        → AllByRecursion (λ (later : List ℕ × ℕ). name_cmp later.0 one.name ≡ Less → ⊥)
        (map (λ referent. (referent.name, referent.measure)) (cond b (e ∷ filter (is_referent_of version route) es) (filter (is_referent_of version route) es)))
    by_test true is others = (not_before cell c one e says all.0 (on ∙ sym (on_route e is)) above.0, others)
    by_test false is others = others

  pub in_order : (cells : List (List ℕ)) (referents : List ReferentRecord) → AllZip SaysReferent cells referents → Ascends cells → AreInNameOrder (referents_at version route referents)
  in_order [] [] all up = tt
  in_order [] (e ∷ es) all up = absurd all
  in_order (c ∷ cs) [] all up = absurd all
  in_order (c ∷ cs) (e ∷ es) all up = by_test (is_referent_of version route e) refl (in_order cs es all.1 up.1) where
    by_test : (b : Bool) → is_referent_of version route e ≡ b → AreInNameOrder (referents_at version route es)
        → AreInNameOrder (map (λ referent. (referent.name, referent.measure)) (cond b (e ∷ filter (is_referent_of version route) es) (filter (is_referent_of version route) es)))
    by_test true is others = (later_named c e cs es all.0 (on_route e is) all.1 up.0, others)
    by_test false is others = others

pub held_by_name : (pages : PageMap) (standing : Standing) (accepted version route : ℕ) (referents : List ReferentRecord) (used : ℕ → ℕ)
    → HoldsRecords kept_referents pages standing accepted referents used → AreInNameOrder (referents_at version route referents)
held_by_name pages standing accepted version route referents used holds = in_order version route holds.cells referents holds.say holds.holds.tree.ascends

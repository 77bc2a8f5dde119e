-- What spans take together: kept stretches that mean what the spans mean.
use Rattle.std.proofs.Common.{◌≡◌, ◌↔◌, ℕ, ◌+◌, ◌<◌, ◌≤◌, Bool, true, false, IsTrue, inr, List, [], ◌∷◌, ◌++◌, map, length, drop, get_or, Bor, Ordering, refl, sym, ap, ◌∙◌, subst, arith, append_assoc}
use Rattle.std.proofs.lemmas.Bool.{lt-ltb, le-ltb, cond-true, cond-false}
use Rattle.std.proofs.lemmas.List.{drop_more, map-append, get_or-map, length-map}
use Rattle.std.proofs.lemmas.List.Elements.{All-from_recursion, recursion_from_All}
use Rattle.std.proofs.lemmas.List.Sorted.{All-permutation, IsPermutation-map}
use Rattle.std.specs.List.{AllByRecursion}
use Rattle.std.specs.List.Sorted.{IsPermutation, IsSortedBy}
use Rattle.std.specs.Ordering.{is_lt}
use Rattle.rs_value.specs.Row.{Row, row_cmp}
use Rattle.rs_value.specs.declared.column.Kind.TheVariants.{Line}
use Rattle.rs_facts.specs.declared.fact.Span.{Span}
use Rattle.rs_facts.specs.Runs.{Stretch}
use Rattle.rs_facts.specs.Spans.{seen, places_of, ArePlaced, AreKept}
use Rattle.rs_facts.proofs.SpanLaws.{places_of-permutation}
use Rattle.rs_coalesce.specs.Lent.{seen_lent}
use Rattle.rs_coalesce.specs.Joined.{row_place_cmp, joins, join, joined_onto, joined}
use Rattle.rs_coalesce.proofs.Joining.{BySorted, Stand, stand-from_sorted, joined-kept, joined-means}
use Rattle.rs_coalesce.proofs.Orders.{joins-reached, joins-apart}
use Rattle.rs_sweep.specs.Lists.{AreSorted}
use Rattle.rs_sweep.specs.Taken.{key, keyed, taken_of}
use Rattle.rs_sweep.specs.declared.taken.Rows.{Rows}
use Rattle.rs_sweep.specs.declared.taken.Rows.TheVariants.{All, Each}
use Rattle.rs_sweep.specs.declared.taken.Taken.{Taken}

-- ---- whether a span goes on

pub key-all : (rows : Rows) (a b : Row) → rows ≡ All → key rows a ≡ key rows b
key-all rows a b e = ap (λ r. key r a) e ∙ sym (ap (λ r. key r b) e)

pub key-each : (rows : Rows) (a : Row) → rows ≡ Each → key rows a ≡ a
key-each rows a e = ap (λ r. key r a) e

pub joins-all : (rows : Rows) (t : Taken) (s : Stretch) → rows ≡ All → s.lo ≤ t.hi → true ≡ joins Line (taken_of rows t) (keyed rows s)
joins-all rows t s e l = joins-reached Line (taken_of rows t) (keyed rows s) true (sym (lt-ltb s.lo (t.hi + 1) (omega (arith, l)))) ((λ x. key-all rows _ _ e), (λ x. refl))

pub joins-each : (rows : Rows) (t : Taken) (s : Stretch) (same : Bool) (row : Row) → rows ≡ Each → s.lo ≤ t.hi → (taken_of Each t).row ≡ row → IsTrue same ↔ (row ≡ s.row) → same ≡ joins Line (taken_of rows t) (keyed rows s)
joins-each rows t s same row e l is says = joins-reached Line (taken_of rows t) (keyed rows s) same (sym (lt-ltb s.lo (t.hi + 1) (omega (arith, l))))
    ((λ x. key-each rows _ e ∙ is ∙ says.0 x ∙ sym (key-each rows s.row e)), (λ x. says.1 (sym is ∙ sym (key-each rows _ e) ∙ x ∙ key-each rows s.row e)))

pub joins-none : (rows : Rows) (t : Taken) (s : Stretch) (test : Bool) → test ≡ false → t.hi < s.lo → test ≡ joins Line (taken_of rows t) (keyed rows s)
joins-none rows t s test e l = joins-apart Line (taken_of rows t) (keyed rows s) test e (sym (le-ltb s.lo (t.hi + 1) (omega (arith, l))))

-- ---- the loop that joins

abbrev target : Bor Span → Span
target reference = reference.now

abbrev pub keys : Rows → List (Bor Span) → List Stretch
keys rows order = map (keyed rows) (map seen_lent order)

pub rest-at : (rows : Rows) (order : List (Bor Span)) (i : ℕ) (next : Bor Span) → i < length order → next ≡ get_or order i next → keys rows (drop i order) ≡ keyed rows (seen_lent next) ∷ keys rows (drop (i + 1) order)
rest-at rows order i next below is = ap (keys rows) (drop_more order i next below) ∙ ap (λ (s : Bor Span). keyed rows (seen_lent s) ∷ keys rows (drop (i + 1) order)) (sym is)

pub onto-joined : (found : List Stretch) (a b grown : Stretch) (more rest all : List Stretch) → more ≡ b ∷ rest → joins Line a b ≡ true → grown ≡ join a b → found ++ joined_onto Line a more ≡ all → found ++ joined_onto Line grown rest ≡ all
onto-joined found a b grown more rest all is e is_grown h =
    ap (λ s. found ++ joined_onto Line s rest) is_grown
    ∙ sym (ap (λ zs. found ++ zs) (ap (joined_onto Line a) is ∙ cond-true (joins Line a b) (joined_onto Line (join a b) rest) (a ∷ joined_onto Line b rest) e))
    ∙ h

pub onto-apart : (rows : Rows) (found : List Taken) (last : Taken) (b : Stretch) (more rest all : List Stretch) → more ≡ b ∷ rest → joins Line (taken_of rows last) b ≡ false
    → map (taken_of rows) found ++ joined_onto Line (taken_of rows last) more ≡ all → map (taken_of rows) (found ++ last ∷ []) ++ joined_onto Line b rest ≡ all
onto-apart rows found last b more rest all is e h =
    ap (λ zs. zs ++ joined_onto Line b rest) (map-append (taken_of rows) found (last ∷ []))
    ∙ append_assoc (map (taken_of rows) found) (taken_of rows last ∷ []) (joined_onto Line b rest)
    ∙ sym (ap (λ zs. map (taken_of rows) found ++ zs) (ap (joined_onto Line (taken_of rows last)) is ∙ cond-false (joins Line (taken_of rows last) b) (joined_onto Line (join (taken_of rows last) b) rest) (taken_of rows last ∷ joined_onto Line b rest) e))
    ∙ h

pub onto-end : (rows : Rows) (found : List Taken) (last : Taken) (more all : List Stretch) → more ≡ [] → map (taken_of rows) found ++ joined_onto Line (taken_of rows last) more ≡ all → map (taken_of rows) (found ++ last ∷ []) ≡ all
onto-end rows found last more all none h =
    map-append (taken_of rows) found (last ∷ [])
    ∙ sym (ap (λ zs. map (taken_of rows) found ++ joined_onto Line (taken_of rows last) zs) none)
    ∙ h

pub joined-first : (first : Stretch) (rest all : List Stretch) → all ≡ first ∷ rest → joined_onto Line first rest ≡ joined Line all
unfolding joined
joined-first first rest all e = sym (ap (joined Line) e)

pub joined-none : (all : List Stretch) → all ≡ [] → ◌≡◌ {A = List Stretch} [] (joined Line all)
unfolding joined
joined-none all e = sym (ap (joined Line) e)

-- ---- what is joined

-- in order by row and place
abbrev pub AreStanding : List Stretch → Type 0
AreStanding [] = Unit {0}
AreStanding (first ∷ rest) = Stand first rest

pub kept-from_standing : (xs : List Stretch) → AreStanding xs → ArePlaced Line xs → AreKept Line (joined Line xs)
unfolding joined
kept-from_standing [] h p = tt
kept-from_standing (first ∷ rest) h p = joined-kept Line first rest h p.0 p.1

pub means-from_standing : (xs : List Stretch) → AreStanding xs → ArePlaced Line xs → places_of (joined Line xs) ≡ places_of xs
unfolding joined
means-from_standing [] h p = refl
means-from_standing (first ∷ rest) h p = joined-means Line first rest h p.0 p.1

pub keyed-placed : (rows : Rows) (xs : List Stretch) → ArePlaced Line xs → ArePlaced Line (map (keyed rows) xs)
keyed-placed rows [] h = tt
keyed-placed rows (x ∷ xs) h = (h.0, keyed-placed rows xs h.1)

stand_all : (x : Stretch) (xs : List Stretch) → AreSorted (x ∷ xs) → Stand (keyed All x) (map (keyed All) xs)
stand_all x [] h = tt
stand_all x (y ∷ xs) h = (inr (refl, h.0.0), stand_all y xs h.1)

pub standing-all : (xs : List Stretch) → AreSorted xs → AreStanding (map (keyed All) xs)
standing-all [] h = tt
standing-all (x ∷ xs) h = stand_all x xs h

keyed_each : (xs : List Stretch) → map (keyed Each) xs ≡ xs
keyed_each [] = refl
keyed_each (x ∷ xs) = ap (λ zs. x ∷ zs) (keyed_each xs)

abbrev pub ByRow : List (Bor Span) → Type 0
ByRow order = IsSortedBy (λ a b. is_lt (row_place_cmp (seen_lent a) (seen_lent b))) order

by_row : (first : Bor Span) (rest : List (Bor Span)) → ByRow (first ∷ rest) → BySorted (map target (first ∷ rest))
by_row first rest h k d low high =
    let long = length-map (first ∷ rest) target in
    let below : k + 1 < length (first ∷ rest) = omega (arith, high, long) in
    let one = get_or-map target (first ∷ rest) k first d (omega (arith, below)) in
    let two = get_or-map target (first ∷ rest) (k + 1) first d below in
    subst (λ s. is_lt (row_place_cmp (seen s) (seen (get_or (map target (first ∷ rest)) k d))) ≡ false) (sym two)
    (subst (λ s. is_lt (row_place_cmp (seen (get_or (first ∷ rest) (k + 1) first).now) (seen s)) ≡ false) (sym one) (h k first low below))

seen_target : (order : List (Bor Span)) → map seen (map target order) ≡ map seen_lent order
seen_target [] = refl
seen_target (first ∷ rest) = ap (λ zs. seen_lent first ∷ zs) (seen_target rest)

standing_refs : (order : List (Bor Span)) → ByRow order → AreStanding (map seen_lent order)
standing_refs [] h = tt
standing_refs (first ∷ rest) h = subst (Stand (seen_lent first)) (seen_target rest) (stand-from_sorted first.now (map target rest) (by_row first rest h))

pub standing-each : (order : List (Bor Span)) → ByRow order → AreStanding (keys Each order)
standing-each order h = subst AreStanding (sym (keyed_each (map seen_lent order))) (standing_refs order h)

-- ---- together

pub record Gathered (rows : Rows) (spans : List (Bor Span)) (taken : List Taken) : Type 0 where
  pub kept : AreKept Line (map (taken_of rows) taken)
  pub same : places_of (map (taken_of rows) taken) ≡ places_of (keys rows spans)

pub gathered-all : (rows : Rows) (spans : List (Bor Span)) (taken : List Taken) → rows ≡ All → AreSorted (map seen_lent spans) → ArePlaced Line (map seen_lent spans)
    → map (taken_of rows) taken ≡ joined Line (keys rows spans) → Gathered rows spans taken
gathered-all rows spans taken e sorted placed made =
    let standing : AreStanding (keys rows spans) = subst (λ r. AreStanding (keys r spans)) (sym e) (standing-all (map seen_lent spans) sorted) in
    let some = keyed-placed rows (map seen_lent spans) placed in
    record {
      kept = subst (AreKept Line) (sym made) (kept-from_standing (keys rows spans) standing some);
      same = ap places_of made ∙ means-from_standing (keys rows spans) standing some;
    }

every-moved : (P : Stretch → Type 0) (xs ys : List (Bor Span)) → IsPermutation xs ys → AllByRecursion P (map seen_lent xs) → AllByRecursion P (map seen_lent ys)
every-moved P xs ys h all = recursion_from_All P (map seen_lent ys) (All-permutation P (map seen_lent xs) (map seen_lent ys) (IsPermutation-map seen_lent xs ys h) (All-from_recursion P (map seen_lent xs) all))

pub gathered-each : (rows : Rows) (spans sorted : List (Bor Span)) (taken : List Taken) → rows ≡ Each → ArePlaced Line (map seen_lent spans) → IsPermutation spans sorted → ByRow sorted
    → map (taken_of rows) taken ≡ joined Line (keys rows sorted) → Gathered rows spans taken
gathered-each rows spans sorted taken e placed moved by made =
    let some : ArePlaced Line (keys rows sorted) = keyed-placed rows (map seen_lent sorted) (every-moved (λ s. s.lo < s.hi) spans sorted moved placed) in
    let standing : AreStanding (keys rows sorted) = subst (λ r. AreStanding (keys r sorted)) (sym e) (standing-each sorted by) in
    record {
      kept = subst (AreKept Line) (sym made) (kept-from_standing (keys rows sorted) standing some);
      same = ap places_of made ∙ means-from_standing (keys rows sorted) standing some
          ∙ sym (places_of-permutation (keys rows spans) (keys rows sorted) (IsPermutation-map (keyed rows) (map seen_lent spans) (map seen_lent sorted) (IsPermutation-map seen_lent spans sorted moved)));
    }

pub keys-none : (rows : Rows) (order : List (Bor Span)) → length order ≡ 0 → keys rows order ≡ []
keys-none rows [] e = refl
keys-none rows (first ∷ rest) e = absurd (omega (arith, e))

pub compared : (rows : Rows) (a b : Row) (o : Ordering) → rows ≡ Each → o ≡ row_cmp a b → row_cmp (key rows a) (key rows b) ≡ o
compared rows a b o e is = (λ i. row_cmp (key-each rows a e i) (key-each rows b e i)) ∙ sym is

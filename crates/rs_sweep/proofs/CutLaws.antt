-- Spans cut to the parts that others leave, one after another.
use Rattle.std.proofs.Common.{◌≡◌, ℕ, ◌+◌, ◌<◌, ◌≤◌, Bool, true, false, not, ◌&&◌, ◌||◌, inl, inr, List, [], ◌∷◌, ◌++◌, map, length, drop, get_or, refl, sym, ap, ◌∙◌, subst, arith, append_assoc}
use Rattle.std.proofs.lemmas.List.{map-append, drop_more, drop_all, length-append}
use Rattle.std.proofs.lemmas.List.Folds.{list_any-append}
use Rattle.std.specs.List.{list_any, AllByRecursion}
use Rattle.rs_value.specs.Row.{Row}
use Rattle.rs_value.specs.declared.column.Kind.{Kind}
use Rattle.rs_value.specs.declared.column.Kind.TheVariants.{Point, Line}
use Rattle.rs_facts.specs.Fact.{contains}
use Rattle.rs_facts.specs.Insert.{within}
use Rattle.rs_facts.specs.Operators.{mapped, nulls, overlaid, covered, without, gapped}
use Rattle.rs_facts.specs.Runs.{Stretch, stretch}
use Rattle.rs_facts.specs.declared.fact.Span.{Span}
use Rattle.rs_facts.specs.Spans.{seen, places_of, IsPlaced, ArePlaced}
use Rattle.rs_facts.proofs.Gapping.{contains-gapped}
use Rattle.rs_facts.proofs.KeptLaws.{every-append, every-before, every-behind}
use Rattle.rs_facts.proofs.Rows.{same_row, same_row-refl, cases_row}
use Rattle.rs_facts.proofs.RowSets.{any-map, any-same, any-places, any_row, contains-mapped, contains-without, contains-covered}
use Rattle.rs_facts.proofs.SpanLaws.{holds, contains-places_of, contains-append}
use Rattle.rs_facts.proofs.Sets.{contains-none, same_rows}
use Rattle.rs_sweep.specs.Inner.{joined_with, ArePieces}
use Rattle.rs_facts.specs.Query.{overlaid_kind}
use Rattle.rs_sweep.specs.Lists.{AreWide}
use Rattle.rs_sweep.specs.Parts.{in_part, LiesIn, unchanged, changed_part, IsCut}
use Rattle.rs_sweep.specs.Taken.{key, keyed}
use Rattle.rs_sweep.specs.declared.laying.Side.TheVariants.{Left, Right}
use Rattle.rs_sweep.specs.declared.parts.Part.{Part}
use Rattle.rs_sweep.specs.declared.taken.Rows.{Rows}
use Rattle.rs_sweep.specs.declared.taken.Rows.TheVariants.{All, Each}

append_nil : {X : Type 0} (xs : List X) → xs ++ [] ≡ xs
append_nil [] = refl
append_nil (x ∷ xs) = ap (λ r. x ∷ r) (append_nil xs)

-- nothing is cut yet
pub cut-none : (change : Row → Row) (rows : Rows) (taken old : List Stretch) → IsCut change rows taken [] old old
cut-none change rows taken old = record {
  added = [];
  is = sym (append_nil old);
  means = λ row k. contains-none row;
  placed = λ kind h. tt;
  wide = λ m n f h. tt;
}

-- whether the parts of a span hold a row
abbrev pub left_of : (Row → Row) → Rows → List Stretch → Row → ℕ → Stretch → Bool
left_of change rows taken row k span = within span.lo span.hi k && (not (contains (places_of taken k) (key rows span.row)) && same_row (change span.row) row)

any_then : {X : Type 0} (p : X → Bool) (c : Bool) (xs : List X) → list_any (λ x. p x && c) xs ≡ (list_any p xs && c)
any_then p c [] = refl
any_then p c (x ∷ xs) = ap (λ t. (p x && c) || t) (any_then p c xs) ∙ spread (p x) (list_any p xs) c
  where
    spread : (a b c : Bool) → ((a && c) || (b && c)) ≡ ((a || b) && c)
    spread true true true = refl
    spread true true false = refl
    spread true false true = refl
    spread true false false = refl
    spread false b c = refl

and_assoc : (a b c : Bool) → (a && b && c) ≡ (a && (b && c))
and_assoc true b c = refl
and_assoc false b c = refl

part_holds : (change : Row → Row) (rows : Rows) (taken : List Stretch) (span : Stretch) (parts : List Part) (row : Row) (k : ℕ)
    → list_any (in_part k) parts ≡ (within span.lo span.hi k && not (contains (places_of taken k) (key rows span.row)))
    → contains (places_of (map (changed_part change span) parts) k) row ≡ left_of change rows taken row k span
unfolding holds
part_holds change rows taken span parts row k free =
    contains-places_of (map (changed_part change span) parts) k row
    ∙ any-map (holds row k) (changed_part change span) parts
    ∙ any_then (in_part k) (same_row (change span.row) row) parts
    ∙ ap (λ t. t && same_row (change span.row) row) free
    ∙ and_assoc (within span.lo span.hi k) (not (contains (places_of taken k) (key rows span.row))) (same_row (change span.row) row)

part_placed : (kind : Kind) (change : Row → Row) (span : Stretch) (part : Part) → IsPlaced kind span → LiesIn span part → IsPlaced kind (changed_part change span part)
part_placed Line change span part h l = l.some
part_placed Point change span part h l = let a = l.from in let b = l.some in let c = l.upto in omega (arith, a, b, c, h)

parts_placed : (kind : Kind) (change : Row → Row) (span : Stretch) (parts : List Part) → IsPlaced kind span → AllByRecursion (LiesIn span) parts → ArePlaced kind (map (changed_part change span) parts)
parts_placed kind change span [] h l = tt
parts_placed kind change span (part ∷ parts) h l = (part_placed kind change span part h l.0, parts_placed kind change span parts h l.1)

parts_wide : (change : Row → Row) (span : Stretch) (parts : List Part) (n : ℕ) → length (change span.row) ≡ n → AreWide n (map (changed_part change span) parts)
parts_wide change span [] n e = tt
parts_wide change span (part ∷ parts) n e = (e, parts_wide change span parts n e)

or_false : (t : Bool) → (t || false) ≡ t
or_false true = refl
or_false false = refl

any_one : {X : Type 0} (p : X → Bool) (xs : List X) (x : X) → list_any p (xs ++ x ∷ []) ≡ (list_any p xs || p x)
any_one p xs x = list_any-append p xs (x ∷ []) ∙ ap (λ t. list_any p xs || t) (or_false (p x))

-- one more span
pub cut-more : (change : Row → Row) (rows : Rows) (taken spans old mid now : List Stretch) (span : Stretch) (parts : List Part) → IsCut change rows taken spans old mid
    → ((k : ℕ) → list_any (in_part k) parts ≡ (within span.lo span.hi k && not (contains (places_of taken k) (key rows span.row)))) → AllByRecursion (LiesIn span) parts
    → now ≡ mid ++ map (changed_part change span) parts → IsCut change rows taken (spans ++ span ∷ []) old now
unfolding same_row
cut-more change rows taken spans old mid now span parts h free inside is = record {
  added = h.added ++ map (changed_part change span) parts;
  is = is ∙ ap (λ zs. zs ++ map (changed_part change span) parts) h.is ∙ append_assoc old h.added (map (changed_part change span) parts);
  means = λ row k.
      contains-append h.added (map (changed_part change span) parts) k row
      ∙ (λ i. h.means row k i || part_holds change rows taken span parts row k (free k) i)
      ∙ sym (any_one (left_of change rows taken row k) spans span);
  placed = λ kind p. every-append (IsPlaced kind) h.added (map (changed_part change span) parts) (h.placed kind (every-before (IsPlaced kind) spans (span ∷ []) p)) (parts_placed kind change span parts (every-behind (IsPlaced kind) spans (span ∷ []) p).0 inside);
  wide = λ m n f p. every-append (λ s. length s.row ≡ n) h.added (map (changed_part change span) parts) (h.wide m n f (every-before (λ s. length s.row ≡ m) spans (span ∷ []) p)) (parts_wide change span parts n (f span.row (every-behind (λ s. length s.row ≡ m) spans (span ∷ []) p).0));
}

-- ---- the loops

pub parts-more : (change : Row → Row) (span : Stretch) (found : List Span) (piece : Span) (parts : List Part) (i : ℕ) (d : Part) (all : List Stretch) → i < length parts → seen piece ≡ changed_part change span (get_or parts i d)
    → map seen found ++ map (changed_part change span) (drop i parts) ≡ all → map seen (found ++ piece ∷ []) ++ map (changed_part change span) (drop (i + 1) parts) ≡ all
parts-more change span found piece parts i d all below is h =
    ap (λ zs. zs ++ map (changed_part change span) (drop (i + 1) parts)) (map-append seen found (piece ∷ []))
    ∙ append_assoc (map seen found) (seen piece ∷ []) (map (changed_part change span) (drop (i + 1) parts))
    ∙ ap (λ z. map seen found ++ z ∷ map (changed_part change span) (drop (i + 1) parts)) is
    ∙ sym (ap (λ zs. map seen found ++ map (changed_part change span) zs) (drop_more parts i d below))
    ∙ h

pub parts-end : (change : Row → Row) (span : Stretch) (found : List Stretch) (parts : List Part) (i : ℕ) (all : List Stretch) → length parts ≤ i
    → found ++ map (changed_part change span) (drop i parts) ≡ all → found ≡ all
parts-end change span found parts i all done h = sym (append_nil found) ∙ sym (ap (λ zs. found ++ map (changed_part change span) zs) (drop_all i parts done)) ∙ h

pub parts-none : (change : Row → Row) (span : Stretch) (found : List Stretch) (parts : List Part) → length parts ≡ 0 → found ≡ found ++ map (changed_part change span) parts
parts-none change span found [] e = sym (append_nil found)
parts-none change span found (part ∷ parts) e = absurd (omega (arith, e))

-- the span itself is the last part
pub parts-last : (change : Row → Row) (span : Stretch) (found : List Span) (piece : Span) (old : List Stretch) (parts others : List Part) (last : Part) → parts ≡ others ++ last ∷ [] → seen piece ≡ changed_part change span last
    → map seen found ≡ old ++ map (changed_part change span) others → map seen (found ++ piece ∷ []) ≡ old ++ map (changed_part change span) parts
parts-last change span found piece old parts others last whole is h =
    map-append seen found (piece ∷ [])
    ∙ (λ i. h i ++ is i ∷ [])
    ∙ append_assoc old (map (changed_part change span) others) (changed_part change span last ∷ [])
    ∙ ap (λ zs. old ++ zs) (sym (map-append (changed_part change span) others (last ∷ [])))
    ∙ sym (ap (λ zs. old ++ map (changed_part change span) zs) whole)

pub cut-next : {X : Type 0} (view : X → Stretch) (change : Row → Row) (rows : Rows) (taken : List Stretch) (done : List X) (old mid now : List Stretch) (span : X) (more : List X) (parts : List Part) → more ≡ done ++ span ∷ [] → IsCut change rows taken (map view done) old mid
    → ((k : ℕ) → list_any (in_part k) parts ≡ (within (view span).lo (view span).hi k && not (contains (places_of taken k) (key rows (view span).row)))) → AllByRecursion (LiesIn (view span)) parts
    → now ≡ mid ++ map (changed_part change (view span)) parts → IsCut change rows taken (map view more) old now
cut-next view change rows taken done old mid now span more parts is h free inside added =
    subst (λ zs. IsCut change rows taken zs old now) (sym (ap (map view) is ∙ map-append view done (span ∷ [])))
    (cut-more change rows taken (map view done) old mid now (view span) parts h free inside added)

-- ---- MINUS

pub cut-minus : (taken right left now : List Stretch) → places_of taken ≡ places_of right → IsCut unchanged Each taken left [] now → (k : ℕ) → places_of now k ≡ without (places_of left k) (places_of right k)
unfolding holds same_row
cut-minus taken right left now same h k = same_rows _ _ (λ row.
    ap (λ zs. contains (places_of zs k) row) h.is
    ∙ h.means row k
    ∙ any-same _ _ left (λ s. in_row s.lo s.hi (contains (places_of taken k)) s.row row k)
    ∙ any_then (holds row k) (not (contains (places_of taken k) row)) left
    ∙ (λ i. sym (contains-places_of left k row) i && not (contains (same i k) row))
    ∙ sym (contains-without (places_of left k) (places_of right k) row))
  where
    in_row : (lo hi : ℕ) (test : Row → Bool) (a b : Row) (k : ℕ) → (within lo hi k && (not (test a) && same_row a b)) ≡ (within lo hi k && same_row a b && not (test b))
    in_row lo hi test a b k = elim (cases_row a b) [
      | inl e ↦ ap (λ r. within lo hi k && (not (test r) && same_row a b)) e ∙ turn (within lo hi k) (not (test b)) (same_row a b)
      | inr e ↦ (λ i. within lo hi k && (not (test a) && e i)) ∙ nothing (within lo hi k) (not (test a)) (not (test b)) ∙ sym (λ i. within lo hi k && e i && not (test b))
    ]
      where
        turn : (x y z : Bool) → (x && (y && z)) ≡ (x && z && y)
        turn true true true = refl
        turn true true false = refl
        turn true false true = refl
        turn true false false = refl
        turn false y z = refl

        nothing : (x y z : Bool) → (x && (y && false)) ≡ (x && false && z)
        nothing true true z = refl
        nothing true false z = refl
        nothing false y z = refl

-- ---- COVER

not_taken : (taken right : List Stretch) (k : ℕ) → places_of taken ≡ places_of (map (keyed All) right) → contains (places_of taken k) [] ≡ any_row (places_of right k)
unfolding holds
not_taken taken right k same =
    ap (λ p. contains (p k) []) same
    ∙ contains-places_of (map (keyed All) right) k []
    ∙ any-map (holds [] k) (keyed All) right
    ∙ any-same _ _ right (λ s. ap (λ t. within s.lo s.hi k && t) (same_row-refl []))
    ∙ sym (any-places (λ row. true) right k)

pub cut-alone : (change : Row → Row) (taken right left old now : List Stretch) → places_of taken ≡ places_of (map (keyed All) right) → (h : IsCut change All taken left old now) → (row : Row) (k : ℕ)
    → contains (places_of h.added k) row ≡ (not (any_row (places_of right k)) && contains (mapped change (places_of left k)) row)
unfolding same_row
cut-alone change taken right left old now same h row k =
    h.means row k
    ∙ any-same _ _ left (λ s. and_swap (within s.lo s.hi k) (not (contains (places_of taken k) [])) (same_row (change s.row) row))
    ∙ any_first (not (contains (places_of taken k) [])) (λ s. within s.lo s.hi k && same_row (change s.row) row) left
    ∙ (λ i. not (not_taken taken right k same i) && list_any (λ s. within s.lo s.hi k && same_row (change s.row) row) left)
    ∙ ap (λ t. not (any_row (places_of right k)) && t) (sym (contains-mapped change (places_of left k) row ∙ any-places (λ from. same_row (change from) row) left k))
  where
    and_swap : (a b c : Bool) → (a && (b && c)) ≡ (b && (a && c))
    and_swap true true c = refl
    and_swap true false c = refl
    and_swap false true c = refl
    and_swap false false c = refl

    any_first : {X : Type 0} (c : Bool) (p : X → Bool) (xs : List X) → list_any (λ x. c && p x) xs ≡ (c && list_any p xs)
    any_first true p xs = refl
    any_first false p [] = refl
    any_first false p (x ∷ xs) = any_first false p xs

pub cover-means : (m n : ℕ) (before after : Row) (left right by_left by_right first second all : List Stretch) → ArePieces left right first → before ≡ nulls m → after ≡ nulls n
    → places_of by_left ≡ places_of (map (keyed All) left) → places_of by_right ≡ places_of (map (keyed All) right)
    → IsCut (joined_with Left after) All by_right left first second → IsCut (joined_with Right before) All by_left right second all
    → (k : ℕ) → places_of all k ≡ covered m n (places_of left k) (places_of right k)
cover-means m n before after left right by_left by_right first second all pieces is_before is_after same_left same_right one two k = same_rows _ _ (λ row.
    ap (λ zs. contains (places_of zs k) row) two.is
    ∙ contains-append second two.added k row
    ∙ ap (λ t. t || contains (places_of two.added k) row) (ap (λ zs. contains (places_of zs k) row) one.is ∙ contains-append first one.added k row)
    ∙ (λ i. contains (pieces.means k i) row || cut-alone (joined_with Left after) by_right right left first second same_right one row k i || cut-alone (joined_with Right before) by_left left right second all same_left two row k i)
    ∙ (λ i. contains (overlaid (places_of left k) (places_of right k)) row || (not (any_row (places_of right k)) && contains (mapped (λ x. x ++ is_after i) (places_of left k)) row) || (not (any_row (places_of left k)) && contains (mapped (λ y. is_before i ++ y) (places_of right k)) row))
    ∙ sym (contains-covered m n (places_of left k) (places_of right k) row))

overlaid_same : (kind : Kind) → overlaid_kind kind kind ≡ kind
overlaid_same Line = refl
overlaid_same Point = refl

pub cover-placed : (kind : Kind) (change other : Row → Row) (left right by_left by_right first second all : List Stretch) → ArePieces left right first
    → IsCut change All by_right left first second → IsCut other All by_left right second all → ArePlaced kind left → ArePlaced kind right → ArePlaced kind all
cover-placed kind change other left right by_left by_right first second all pieces one two p q =
    let start : ArePlaced kind first = subst (λ one. ArePlaced one first) (overlaid_same kind) (pieces.placed kind kind p q) in
    subst (ArePlaced kind) (sym (two.is ∙ ap (λ zs. zs ++ two.added) one.is))
    (every-append (IsPlaced kind) (first ++ one.added) two.added (every-append (IsPlaced kind) first one.added start (one.placed kind p)) (two.placed kind q))

pub cover-wide : (m n : ℕ) (before after : Row) (left right by_left by_right first second all : List Stretch) → ArePieces left right first → length before ≡ m → length after ≡ n
    → IsCut (joined_with Left after) All by_right left first second → IsCut (joined_with Right before) All by_left right second all → AreWide m left → AreWide n right → AreWide (m + n) all
cover-wide m n before after left right by_left by_right first second all pieces is_before is_after one two p q =
    subst (AreWide (m + n)) (sym (two.is ∙ ap (λ zs. zs ++ two.added) one.is))
    (every-append (λ s. length s.row ≡ m + n) (first ++ one.added) two.added
    (every-append (λ s. length s.row ≡ m + n) first one.added (pieces.wide m n p q) (one.wide m (m + n) (λ row e. length-append row after ∙ (λ i. e i + is_after i)) p))
    (two.wide n (m + n) (λ row e. length-append before row ∙ (λ i. is_before i + e i)) q))

-- ---- GAPS

-- of a route with a row without columns what the others leave, all rows alike
abbrev pub IsGapCut : ℕ → ℕ → Row → List Stretch → List Stretch → Type 0
IsGapCut start finish empty taken all = IsCut (joined_with Left empty) All taken (stretch start finish empty ∷ []) [] all

pub gaps-means : (start finish : ℕ) (empty : Row) (taken spans all : List Stretch) → empty ≡ [] → places_of taken ≡ places_of (map (keyed All) spans) → IsGapCut start finish empty taken all
    → (k : ℕ) → places_of all k ≡ gapped start finish k (places_of spans k)
unfolding same_row
gaps-means start finish empty taken spans all bare same h k = same_rows _ _ (λ row.
    ap (λ zs. contains (places_of zs k) row) h.is
    ∙ h.means row k
    ∙ or_false (within start finish k && (not (contains (places_of taken k) []) && same_row (empty ++ empty) row))
    ∙ (λ i. within start finish k && (not (not_taken taken spans k same i) && same_row (bare i ++ bare i) row))
    ∙ sym (contains-gapped start finish k (places_of spans k) row))

pub gaps-placed : (start finish : ℕ) (empty : Row) (taken all : List Stretch) → start < finish → IsGapCut start finish empty taken all → ArePlaced Line all
gaps-placed start finish empty taken all some h = subst (ArePlaced Line) (sym h.is) (h.placed Line (some, tt))

pub gaps-wide : (start finish : ℕ) (empty : Row) (taken all : List Stretch) → empty ≡ [] → IsGapCut start finish empty taken all → AreWide 0 all
gaps-wide start finish empty taken all bare h =
    subst (AreWide 0) (sym h.is) (h.wide 0 0 (λ row e. length-append row empty ∙ (λ i. e i + length (bare i))) (ap length bare, tt))

keyed_each : (xs : List Stretch) → map (keyed Each) xs ≡ xs
keyed_each [] = refl
keyed_each (x ∷ xs) = ap (λ zs. x ∷ zs) (keyed_each xs)

pub keyed-each : (taken xs : List Stretch) → places_of taken ≡ places_of (map (keyed Each) xs) → places_of taken ≡ places_of xs
keyed-each taken xs e = e ∙ ap places_of (keyed_each xs)

pub cut-kept-placed : (kind : Kind) (taken left now : List Stretch) → IsCut unchanged Each taken left [] now → ArePlaced kind left → ArePlaced kind now
cut-kept-placed kind taken left now h p = subst (ArePlaced kind) (sym h.is) (h.placed kind p)

pub cut-kept-wide : (width : ℕ) (taken left now : List Stretch) → IsCut unchanged Each taken left [] now → AreWide width left → AreWide width now
cut-kept-wide width taken left now h p = subst (AreWide width) (sym h.is) (h.wide width width (λ row e. e) p)

pub whole-next : (done rest more all : List Span) (x : Span) → rest ≡ x ∷ more → done ++ rest ≡ all → done ++ x ∷ [] ++ more ≡ all
whole-next done rest more all x e h = append_assoc done (x ∷ []) more ∙ sym (ap (λ zs. done ++ zs) e) ∙ h

-- what was taken one by one is all, where none is left
pub whole-end : (done rest all : List Span) → length rest ≡ 0 → done ++ rest ≡ all → done ≡ all
whole-end done [] all e h = sym (append_nil done) ∙ h
whole-end done (x ∷ rest) all e h = absurd (omega (arith, e))

-- a part that was pushed is one of those that are left
pub parts-pushed : (change : Row → Row) (span : Stretch) (found now : List Span) (piece : Span) (parts : List Part) (i : ℕ) (d : Part) (all : List Stretch) → now ≡ found ++ piece ∷ [] → i < length parts
    → piece.lo ≡ (get_or parts i d).lo → piece.hi ≡ (get_or parts i d).hi → piece.tuple ≡ change span.row
    → map seen found ++ map (changed_part change span) (drop i parts) ≡ all → map seen now ++ map (changed_part change span) (drop (i + 1) parts) ≡ all
parts-pushed change span found now piece parts i d all is below lo hi row h =
    ap (λ zs. map seen zs ++ map (changed_part change span) (drop (i + 1) parts)) is
    ∙ parts-more change span found piece parts i d all below (λ j. stretch (lo j) (hi j) (row j)) h

-- What reading one item after another says of all of them.
use Rattle.std.proofs.Common.{ℕ, zero, suc, ◌+◌, ◌<◌, ◌≡◌, List, [], ◌∷◌, ◌++◌, length, map, take, drop, get_or, IsUtf8, refl, sym, ap, subst, ◌∙◌, arith, append_assoc, append-nil, length-append, length-take, All}
use Rattle.std.proofs.lemmas.List.Elements.{All-get_or}
use Rattle.std.proofs.lemmas.Grind.{take_at_read}
use Rattle.std.proofs.lemmas.Str.{IsUtf8-from_is_utf8, is_utf8-from_IsUtf8}
use Rattle.std.proofs.lemmas.List.{map-append, length-map, get_or-map}
use Rattle.rs_bytes.specs.Codes.{Code, Reads, ReadsNone, Writes, IsOne, SaysNumber, SaysBoth, SaysUtf8, SaysEach, SaysMany, SaysCounted}
use Rattle.rs_bytes.specs.Laws.{parts, each_one, number_one}

-- A part that is not there is no whole.
pub none_before : {A B : Type 0} (says : Code A) (tells : Code B) (old : List ℕ) → ReadsNone says old → ReadsNone (SaysBoth says tells) old
none_before says tells old lacks = record {
  none = λ pair new reads.
      let first = reads.said.0 in
      let rest = reads.said.1 in
      lacks.none pair.0 (rest ++ new) (record { front = first; is = reads.is ∙ ap (λ l. l ++ new) reads.said.2 ∙ append_assoc first rest new; said = reads.said.3 });
}

pub none_after : {A B : Type 0} (says : Code A) (tells : Code B) → IsOne says → (old mid : List ℕ) (x : A) → Reads says old x mid → ReadsNone tells mid → ReadsNone (SaysBoth says tells) old
none_after says tells one old mid x first lacks = record {
  none = λ pair new reads.
      let whole : reads.said.0 ++ (reads.said.1 ++ new) ≡ first.front ++ mid = sym (reads.is ∙ ap (λ l. l ++ new) reads.said.2 ∙ append_assoc reads.said.0 reads.said.1 new) ∙ first.is in
      let same = one reads.said.0 (reads.said.1 ++ new) first.front mid pair.0 x reads.said.3 first.said whole in
      lacks.none pair.1 new (record { front = reads.said.1; is = sym same.1; said = reads.said.4 });
}

pub both_read : {A B : Type 0} (says : Code A) (tells : Code B) (old mid new : List ℕ) (x : A) (y : B) → Reads says old x mid → Reads tells mid y new → Reads (SaysBoth says tells) old (x, y) new
both_read says tells old mid new x y first second = record {
  front = first.front ++ second.front;
  is = first.is ∙ ap (λ l. first.front ++ l) second.is ∙ sym (append_assoc first.front second.front new);
  said = (first.front, second.front, refl, first.said, second.said);
}

-- Where bytes are left after an item, no item is all of them.
pub none_whole : {A : Type 0} (says : Code A) → IsOne says → (old new : List ℕ) (x : A) → Reads says old x new → (new ≡ [] → ⊥) → (y : A) → says old y → ⊥
none_whole says one old new x reads left y said =
    left (one reads.front new old [] x y reads.said said (sym reads.is ∙ sym (append-nil old))).1

-- Values one after another, and one more.
pub each_push : {A : Type 0} (says : Code A) (front back : List ℕ) (xs : List A) (x : A) → SaysEach says front xs → says back x → SaysEach says (front ++ back) (xs ++ x ∷ [])
each_push says front back [] x each one = (back, [], ap (λ l. l ++ back) each ∙ sym (append-nil back), one, refl)
each_push says front back (y ∷ xs) x (first, rest, is, a, b) one =
    (first, rest ++ back, ap (λ l. l ++ back) is ∙ append_assoc first rest back, a, each_push says rest back xs x b one)

pub each_split : {A : Type 0} (says : Code A) (bytes : List ℕ) (xs : List A) (i : ℕ) → SaysEach says bytes xs
    → (front back : List ℕ) × (bytes ≡ front ++ back) × SaysEach says front (take i xs) × SaysEach says back (drop i xs)
each_split says bytes xs zero each = ([], bytes, refl, refl, each)
each_split says bytes [] (suc i) each = ([], bytes, refl, refl, each)
each_split says bytes (x ∷ xs) (suc i) (first, rest, is, a, b) =
    let cut = each_split says rest xs i b in
    (first ++ cut.0, cut.1, is ∙ ap (λ l. first ++ l) cut.2 ∙ sym (append_assoc first cut.0 cut.1), (first, cut.0, refl, a, cut.3), cut.4)

pub each_next : {A : Type 0} (says : Code A) (bytes : List ℕ) (xs : List A) (i : ℕ) → i < length xs → SaysEach says bytes (drop i xs)
    → (x : A) × (first : List ℕ) × (rest : List ℕ) × (bytes ≡ first ++ rest) × says first x
each_next says bytes [] i within each = absurd (omega arith)
each_next says bytes (x ∷ xs) zero within (first, rest, is, a, b) = (x, first, rest, is, a)
each_next says bytes (x ∷ xs) (suc i) within each = each_next says bytes xs i (omega arith) each

-- Where the next value is missing, the list is.
pub none_next : {A : Type 0} (says : Code A) → IsOne says → (old now : List ℕ) (count i : ℕ) (xs : List A) → Reads (SaysEach says) old xs now
    → length xs ≡ i → i < count → ReadsNone says now → ReadsNone (SaysMany count (SaysEach says)) old
none_next says one old now count i xs each many within lacks = record {
  none = λ ys new reads.
      let cut = each_split says reads.front ys i reads.said.1 in
      let taken : length (take i ys) ≡ length xs = length-take i ys ∙ omega (arith, reads.said.0) in
      let there : cut.0 ++ (cut.1 ++ new) ≡ each.front ++ now = sym (ap (λ l. l ++ new) cut.2 ∙ append_assoc cut.0 cut.1 new) ∙ sym reads.is ∙ each.is in
      let same = each_one says one cut.0 (cut.1 ++ new) each.front now (take i ys) xs taken cut.3 each.said there in
      let next = each_next says cut.1 ys i (omega (arith, reads.said.0)) cut.4 in
      lacks.none next.0 (next.2 ++ new) (record { front = next.1; is = sym same.1 ∙ ap (λ l. l ++ new) next.3 ∙ append_assoc next.1 next.2 new; said = next.4 });
}

-- A list after the number of what is in it.
pub none_counted : {A : Type 0} (n : ℕ) (says : Code (List A)) (old : List ℕ) → ReadsNone (SaysNumber n) old → ReadsNone (SaysCounted n says) old
none_counted n says old lacks = record {
  none = λ ys new reads.
      lacks.none (length ys) (reads.said.1 ++ new) (record { front = reads.said.0; is = reads.is ∙ ap (λ l. l ++ new) reads.said.2 ∙ append_assoc reads.said.0 reads.said.1 new; said = reads.said.3 });
}

pub none_behind : {A : Type 0} (n : ℕ) (says : Code (List A)) (old mid : List ℕ) (count many : ℕ) → many ≡ count → Reads (SaysNumber n) old count mid → ReadsNone (SaysMany many says) mid → ReadsNone (SaysCounted n says) old
none_behind n says old mid count many same counted lacks = record {
  none = λ ys new reads.
      let c = reads.said.0 in
      let r = reads.said.1 in
      let whole : c ++ (r ++ new) ≡ counted.front ++ mid = sym (reads.is ∙ ap (λ l. l ++ new) reads.said.2 ∙ append_assoc c r new) ∙ counted.is in
      let number = number_one n c (r ++ new) counted.front mid (length ys) count reads.said.3 counted.said whole in
      lacks.none ys new (record { front = r; is = sym number.1; said = (number.0 ∙ sym same, reads.said.4) });
}

pub counted_read : {A : Type 0} (n : ℕ) (says : Code (List A)) (old mid new : List ℕ) (count many : ℕ) (xs : List A) → many ≡ count → Reads (SaysNumber n) old count mid → Reads (SaysMany many says) mid xs new → Reads (SaysCounted n says) old xs new
counted_read n says old mid new count many xs same counted list = record {
  front = counted.front ++ list.front;
  is = counted.is ∙ ap (λ l. counted.front ++ l) list.is ∙ sym (append_assoc counted.front list.front new);
  said = (counted.front, list.front, refl, subst (λ k. SaysNumber n counted.front k) (sym (list.said.0 ∙ same)) counted.said, list.said.1);
}

pub counted_written : {A : Type 0} (n : ℕ) (says : Code (List A)) (old mid new : List ℕ) (count : ℕ) (xs : List A) → count ≡ length xs → Writes (SaysNumber n) old count mid → Writes says mid xs new → Writes (SaysCounted n says) old xs new
counted_written n says old mid new count xs many counted list = record {
  back = counted.back ++ list.back;
  is = list.is ∙ ap (λ l. l ++ list.back) counted.is ∙ append_assoc old counted.back list.back;
  said = (counted.back, list.back, refl, subst (λ k. SaysNumber n counted.back k) many counted.said, list.said);
}

pub each_read : {A B : Type 0} (says : Code A) (said : B → A) (mid now new : List ℕ) (items : List B) (item : B) → Reads (SaysEach says) mid (map said items) now → Reads says now (said item) new
    → Reads (SaysEach says) mid (map said (items ++ item ∷ [])) new
each_read says said mid now new items item each one = record {
  front = each.front ++ one.front;
  is = each.is ∙ ap (λ l. each.front ++ l) one.is ∙ sym (append_assoc each.front one.front new);
  said = subst (λ l. SaysEach says (each.front ++ one.front) l) (sym (map-append said items (item ∷ []))) (each_push says each.front one.front (map said items) (said item) each.said one.said);
}

pub none_read : {A : Type 0} (says : Code A) (bytes : List ℕ) → Reads (SaysEach says) bytes [] bytes
none_read says bytes = record { front = []; is = refl; said = refl }

-- What is written one after another.
pub none_written : {A : Type 0} (says : Code A) (bytes : List ℕ) → Writes (SaysEach says) bytes [] bytes
none_written says bytes = record { back = []; is = sym (append-nil bytes); said = refl }

pub each_written : {A : Type 0} (says : Code A) (old now new : List ℕ) (xs : List A) (x : A) → Writes (SaysEach says) old xs now → Writes says now x new → Writes (SaysEach says) old (xs ++ x ∷ []) new
each_written says old now new xs x each one = record {
  back = each.back ++ one.back;
  is = one.is ∙ ap (λ l. l ++ one.back) each.is ∙ append_assoc old each.back one.back;
  said = each_push says each.back one.back xs x each.said one.said;
}

-- the value at a place of a list
pub value_at : {A B : Type 0} (P : A → Type 0) (said : B → A) (items : List B) (i : ℕ) (item : B) → i < length items → item ≡ get_or items i item → All P (map said items) → P (said item)
value_at P said items i item within is all =
    subst P (get_or-map said items i item (said item) within ∙ ap said (sym is)) (All-get_or P (map said items) i (said item) (subst (λ n. i < n) (sym (length-map items said)) within) all)

pub take_next : {A B : Type 0} (said : B → A) (items : List B) (i : ℕ) (item : B) → i < length items → item ≡ get_or items i item → map said (take i items) ++ said item ∷ [] ≡ map said (take (i + 1) items)
take_next said items i item within is =
    sym (ap (map said) (take_at_read items i item within).1 ∙ map-append said (take i items) (get_or items i item ∷ []) ∙ ap (λ v. map said (take i items) ++ said v ∷ []) (sym is))

pub many_read : {A : Type 0} (says : Code (List A)) (old new : List ℕ) (count : ℕ) (xs : List A) → length xs ≡ count → Reads says old xs new → Reads (SaysMany count says) old xs new
many_read says old new count xs many reads = record { front = reads.front; is = reads.is; said = (many, reads.said) }

-- A text of so many bytes.
pub utf8_read : (old text new : List ℕ) (count : ℕ) → old ≡ text ++ new → length text ≡ count → IsUtf8 text → Reads (SaysMany count SaysUtf8) old text new
utf8_read old text new count is many utf8 = record { front = text; is = is; said = (many, (refl, is_utf8-from_IsUtf8 text utf8)) }

pub none_few : (old : List ℕ) (count : ℕ) → length old < count → ReadsNone (SaysMany count SaysUtf8) old
none_few old count few = record {
  none = λ value rest reads.
      absurd (omega (arith, reads.said.0, ap length reads.said.1.0, ap length reads.is ∙ length-append reads.front rest));
}

pub none_text : (old text new : List ℕ) (count : ℕ) → old ≡ text ++ new → length text ≡ count → (IsUtf8 text → ⊥) → ReadsNone (SaysMany count SaysUtf8) old
none_text old text new count is many lacks = record {
  none = λ value rest reads.
      let same = parts text new value rest (many ∙ sym reads.said.0) (sym is ∙ reads.is ∙ ap (λ l. l ++ rest) reads.said.1.0) in
      lacks (subst IsUtf8 (sym same.0) (IsUtf8-from_is_utf8 value reads.said.1.1));
}

pub utf8_written : (old text new : List ℕ) → new ≡ old ++ text → IsUtf8 text → Writes SaysUtf8 old text new
utf8_written old text new is utf8 = record { back = text; is = is; said = (refl, is_utf8-from_IsUtf8 text utf8) }

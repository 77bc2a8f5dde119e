-- Records are held until their portion is full, and then written.
use Rattle.std.proofs.Common.{◌≡◌, ◌≢◌, ◌∙◌, ◌++◌, ◌<◌, ◌≤◌, inl, inr, ℕ, List, [], ◌∷◌, length, take, Option, Some, None, Result, Ok, Err, arith, refl, sym, ap, subst, append_assoc, append-nil, length-append}
use Rattle.std.proofs.KnownBytes.{Appends-nil, Appends-trans}
use Rattle.std.proofs.lemmas.Grind.{flat_map-append}
use Rattle.std.proofs.lemmas.List.{map-append, take-map}
use Rattle.std.specs.Prelude.{Vec}
use Rattle.std.specs.declared.alloc.Global.{Global}
use Rattle.rs_csv_table.specs.Records.{fields_of, records_of}
use Rattle.std.specs.Io.KnownBytes.{Appends}
use Rattle.std.specs.List.{AllByRecursion}
use Rattle.std.specs.Prelude.{IfSome, OnOk, flat_map}
use Rattle.rs_csv_table.specs.Fields.{Record}
use Rattle.rs_csv_table.specs.Steps.{HasRoom, SoFar}
use Rattle.rs_csv_table.specs.Tables.{IsTableOf, full_text, portion_text}
use Rattle.rs_csv_table.specs.declared.table.TheConstants.{ROWS}

pub if_known : (known : Option (List ℕ)) (P : List ℕ → Type 0) → ((bytes : List ℕ) → known ≡ Some bytes → P bytes) → IfSome known P
if_known None P each = tt
if_known (Some bytes) P each = each bytes refl

-- nothing was read
pub none_read : (a : Option (List ℕ)) → SoFar [] [] a a
none_read a = inl (refl, refl, Appends-nil a)

-- ---- as they are held

pub take_records : (n : ℕ) (rows : List (Vec (Vec ℕ Global) Global)) → records_of (take n rows) ≡ take n (records_of rows)
take_records n rows = sym (take-map (λ (row : Vec (Vec ℕ Global) Global). fields_of row.items) n rows)

pub more_records : (now old : List (Vec (Vec ℕ Global) Global)) (row : Vec (Vec ℕ Global) Global) (fields : Record) → now ≡ old ++ row ∷ [] → fields_of row.items ≡ fields
    → records_of now ≡ records_of old ++ fields ∷ []
more_records now old row fields is same =
    ap records_of is ∙ map-append (λ (row : Vec (Vec ℕ Global) Global). fields_of row.items) old (row ∷ []) ∙ ap (λ (it : Record). records_of old ++ it ∷ []) same

-- ---- room

pub has_room : (read held : List Record) (a b : Option (List ℕ)) → length held ≤ ROWS → SoFar read held a b → HasRoom read held a b
has_room read held a b few (inl none) = inl none
has_room read held a b few (inr holds) = inr (record {
  header = holds.header;
  rows = holds.rows;
  read_is = holds.read_is;
  full = holds.full;
  last = holds.last;
  whole = holds.cut.whole;
  each = holds.cut.each;
  fewer = fewer_held holds.last few_held;
  held_is = holds.held_is;
  put = holds.put;
})
  where
    few_held : length (holds.header ∷ holds.last) ≤ ROWS
    few_held = subst (λ (l : List Record). length l ≤ ROWS) holds.held_is few

    fewer_held : (last : List Record) → length (holds.header ∷ last) ≤ ROWS → length last < ROWS
    fewer_held last within = omega arith

each_more : (full : List (List Record)) (last : List Record) → AllByRecursion (λ portion. length portion ≡ ROWS) full → length last ≡ ROWS → AllByRecursion (λ portion. length portion ≡ ROWS) (full ++ last ∷ [])
each_more [] last each one = (one, tt)
each_more (portion ∷ full) last each one = (each.0, each_more full last each.1 one)

all_rows : (full : List (List Record)) (last rows : List Record) → rows ≡ flat_map (λ portion. portion) full ++ last → rows ≡ flat_map (λ portion. portion) (full ++ last ∷ []) ++ []
all_rows full last rows whole =
    whole ∙ sym (append-nil (flat_map (λ (portion : List Record). portion) (full ++ last ∷ [])) ∙ flat_map-append (λ (portion : List Record). portion) full (last ∷ [])
    ∙ ap (λ (l : List Record). flat_map (λ (portion : List Record). portion) full ++ l) (append-nil last))

full_more : (header : Record) (full : List (List Record)) (last : List Record) → full_text header (full ++ last ∷ []) ≡ full_text header full ++ (portion_text (header ∷ last) ++ 10 ∷ [])
full_more header full last =
    flat_map-append (λ (portion : List Record). portion_text (header ∷ portion) ++ 10 ∷ []) full (last ∷ [])
    ∙ ap (λ (l : List ℕ). full_text header full ++ l) (append-nil (portion_text (header ∷ last) ++ 10 ∷ []))

exactly : (header : Record) (last : List Record) → ROWS < length (header ∷ last) → length last ≤ ROWS → length last ≡ ROWS
exactly header last many within = omega arith

no_many : ROWS < 0 → ⊥
no_many wrong = omega arith

-- a full portion is written
pub makes_room : (read held left : List Record) (feed : List ℕ) (a b c d : Option (List ℕ)) → ROWS < length held → left ≡ take 1 held → feed ≡ 10 ∷ [] → SoFar read held a b
    → Appends b c (portion_text held) → Appends c d feed → HasRoom read left a d
makes_room read held left feed a b c d many is fed (inl none) put end =
    absurd (no_many (subst (λ (l : List Record). ROWS < length l) none.1 many))
makes_room read held left feed a b c d many is fed (inr holds) put end = inr (record {
  header = holds.header;
  rows = holds.rows;
  read_is = holds.read_is;
  full = holds.full ++ holds.last ∷ [];
  last = [];
  whole = all_rows holds.full holds.last holds.rows holds.cut.whole;
  each = each_more holds.full holds.last holds.cut.each whole_last;
  fewer = omega arith;
  held_is = is ∙ ap (take 1) holds.held_is;
  put = subst (Appends a d) (sym (full_more holds.header holds.full holds.last))
      (Appends-trans a b d (full_text holds.header holds.full) (portion_text (holds.header ∷ holds.last) ++ 10 ∷ []) holds.put
      (Appends-trans b c d (portion_text (holds.header ∷ holds.last)) (10 ∷ []) (subst (λ (l : List Record). Appends b c (portion_text l)) holds.held_is put) (subst (Appends c d) fed end)));
})
  where
    whole_last : length holds.last ≡ ROWS
    whole_last = exactly holds.header holds.last (subst (λ (l : List Record). ROWS < length l) holds.held_is many) holds.cut.within

-- ---- one record more

not_none : (last : List Record) (row : Record) → last ++ row ∷ [] ≢ []
not_none [] row e = cc
not_none (first ∷ last) row e = cc

pub one_more : (read held now : List Record) (row : Record) (a b : Option (List ℕ)) → now ≡ held ++ row ∷ [] → HasRoom read held a b → SoFar (read ++ row ∷ []) now a b
one_more read held now row a b is (inl none) = inr (record {
  header = row;
  rows = [];
  read_is = ap (λ l. l ++ row ∷ []) none.0;
  full = [];
  last = [];
  cut = record { whole = refl; each = tt; within = omega arith; some = λ some. absurd (some refl) };
  held_is = is ∙ ap (λ l. l ++ row ∷ []) none.1;
  put = none.2;
})
one_more read held now row a b is (inr holds) = inr (record {
  header = holds.header;
  rows = holds.rows ++ row ∷ [];
  read_is = ap (λ l. l ++ row ∷ []) holds.read_is;
  full = holds.full;
  last = holds.last ++ row ∷ [];
  cut = record {
    whole = ap (λ l. l ++ row ∷ []) holds.whole ∙ append_assoc (flat_map (λ (portion : List Record). portion) holds.full) holds.last (row ∷ []);
    each = holds.each;
    within = let fewer = holds.fewer in omega (arith, length-append holds.last (row ∷ []));
    some = λ _. not_none holds.last row;
  };
  held_is = is ∙ ap (λ l. l ++ row ∷ []) holds.held_is;
  put = holds.put;
})

-- ---- the end

pub whole_table : (read held : List Record) (a b c : Option (List ℕ)) → SoFar read held a b → Appends b c (portion_text held) → (text : List ℕ) × IsTableOf read text × Appends a c text
whole_table read held a b c (inl none) put =
    let nothing : Appends b c [] = subst (λ (l : List Record). Appends b c (portion_text l)) none.1 put in
    ([], subst (λ (l : List Record). IsTableOf l []) (sym none.0) refl, Appends-trans a b c [] [] none.2 nothing)
whole_table read held a b c (inr holds) put = (
  full_text holds.header holds.full ++ portion_text (holds.header ∷ holds.last),
  subst (λ (l : List Record). IsTableOf l (full_text holds.header holds.full ++ portion_text (holds.header ∷ holds.last))) (sym holds.read_is) (holds.full, holds.last, holds.cut, refl),
  Appends-trans a b c (full_text holds.header holds.full) (portion_text (holds.header ∷ holds.last)) holds.put (subst (λ (l : List Record). Appends b c (portion_text l)) holds.held_is put),
)

pub on_ok : {T E A B : Type 0} (result : Result T E) → (A → B) → OnOk result A → OnOk result B
on_ok {T} {E} {A} {B} (Ok done) step is = step is
on_ok {T} {E} {A} {B} (Err stop) step is = tt

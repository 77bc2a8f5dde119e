-- An input that is cut, and more bytes of it.
use Rattle.std.proofs.Common.{◌≡◌, ◌∙◌, ℕ, ◌+◌, ◌<◌, ◌≤◌, Bool, true, false, List, [], ◌∷◌, ◌++◌, length, refl, sym, ap, subst, arith, append_assoc, append-nil, take, get_or, not}
use Rattle.std.specs.Prelude.{◌==◌, nat_le, if◌then◌else◌}
use Rattle.std.specs.List.{concat}
use Rattle.std.proofs.lemmas.Bool.Decides.{nat_tests}
use Rattle.std.proofs.lemmas.List.Elements.{All-append, All-cons, All-nil, filter-append}
use Rattle.std.proofs.lemmas.List.Folds.{concat-append}
use Rattle.csv.specs.Reading.{is_bom, strip_bom}
use Rattle.rs_csv.specs.declared.batch.TheConstants.{RECORD_BYTES}
use Rattle.rs_csv.specs.declared.quoting.Place.{Place}
use Rattle.rs_csv.specs.declared.quoting.Place.TheVariants as places
use Rattle.rs_csv.specs.Quoting.{after, ends_record, mark, marked}
use Rattle.rs_csv.specs.Cutting.{HasNoEnd, IsCut, IsRawRecord, after_all, kept, within}

-- ---- places

pub concat_more : (raws : List (List ℕ)) (raw : List ℕ) → concat (raws ++ raw ∷ []) ≡ concat raws ++ raw
concat_more raws raw = concat-append raws (raw ∷ []) ∙ ap (λ bs. concat raws ++ bs) (append-nil raw)

module _ (separator : ℕ) where
  pub after_all_append : (place : Place) (a b : List ℕ) → after_all separator place (a ++ b) ≡ after_all separator (after_all separator place a) b
  after_all_append place [] b = refl
  after_all_append place (byte ∷ a) b = after_all_append (after separator place byte) a b

  pub marked_append : (place : Place) (a b : List ℕ) → marked separator place (a ++ b) ≡ marked separator place a ++ marked separator (after_all separator place a) b
  marked_append place [] b = refl
  marked_append place (byte ∷ a) b = ap (λ bs. mark place byte ++ bs) (marked_append (after separator place byte) a b) ∙ sym (append_assoc (mark place byte) (marked separator (after separator place byte) a) (marked separator (after_all separator (after separator place byte) a) b))

  -- the place after the end of a record is one where a record begins
  pub after_end : (place : Place) (byte : ℕ) → ends_record place byte ≡ true → after separator place byte ≡ places.Start
  after_end places.Start byte is = grind arith
  after_end places.Plain byte is = grind arith
  after_end places.Inside byte is = grind arith
  after_end places.Behind byte is = grind arith

  -- ---- cuts

  pub no_end_more : (place : Place) (bytes : List ℕ) (byte : ℕ) → HasNoEnd separator place bytes → ends_record (after_all separator place bytes) byte ≡ false → HasNoEnd separator place (bytes ++ byte ∷ [])
  no_end_more place [] byte none ends = (ends, tt)
  no_end_more place (one ∷ bytes) byte none ends = (none.0, no_end_more (after separator place one) bytes byte none.1 ends)

  pub cut_none : IsCut separator [] [] []
  cut_none = record { whole = refl; each = All-nil (IsRawRecord separator); begun = tt }

  pub cut_within : (input : List ℕ) (raws : List (List ℕ)) (rest : List ℕ) (byte : ℕ) → IsCut separator input raws rest → ends_record (after_all separator places.Start rest) byte ≡ false → IsCut separator (input ++ byte ∷ []) raws (rest ++ byte ∷ [])
  cut_within input raws rest byte cut ends = record {
    whole = ap (λ bs. bs ++ byte ∷ []) cut.whole ∙ append_assoc (concat raws) rest (byte ∷ []);
    each = cut.each;
    begun = no_end_more places.Start rest byte cut.begun ends;
  }

  pub cut_ended : (input : List ℕ) (raws : List (List ℕ)) (rest : List ℕ) (byte : ℕ) → IsCut separator input raws rest → ends_record (after_all separator places.Start rest) byte ≡ true
      → IsCut separator (input ++ byte ∷ []) (raws ++ (rest ++ byte ∷ []) ∷ []) []
  cut_ended input raws rest byte cut ends =
      let raw : IsRawRecord separator (rest ++ byte ∷ []) = record { front = rest; last = byte; whole = refl; begun = cut.begun; ended = ends } in
      record {
        whole =
            ap (λ bs. bs ++ byte ∷ []) cut.whole ∙ append_assoc (concat raws) rest (byte ∷ [])
            ∙ sym (append-nil (concat (raws ++ (rest ++ byte ∷ []) ∷ [])) ∙ concat_more raws (rest ++ byte ∷ []));
        each = All-append (IsRawRecord separator) raws ((rest ++ byte ∷ []) ∷ []) cut.each (All-cons (IsRawRecord separator) (rest ++ byte ∷ []) [] raw (All-nil (IsRawRecord separator)));
        begun = tt;
      }

  -- a cut that begins with these records
  pub record CutsOn (input : List ℕ) (raws : List (List ℕ)) : Type 0 where
    pub more : List (List ℕ)
    pub rest : List ℕ
    pub cut : IsCut separator input (raws ++ more) rest

  pub cuts_itself : (input : List ℕ) (raws : List (List ℕ)) (rest : List ℕ) → IsCut separator input raws rest → CutsOn input raws
  cuts_itself input raws rest cut = record { more = []; rest = rest; cut = subst (λ rs. IsCut separator input rs rest) (sym (append-nil raws)) cut }

  cut_byte : (ends : Bool) (input : List ℕ) (raws : List (List ℕ)) (rest : List ℕ) (byte : ℕ) → ends_record (after_all separator places.Start rest) byte ≡ ends → IsCut separator input raws rest → CutsOn (input ++ byte ∷ []) raws
  cut_byte false input raws rest byte is cut = cuts_itself (input ++ byte ∷ []) raws (rest ++ byte ∷ []) (cut_within input raws rest byte cut is)
  cut_byte true input raws rest byte is cut = record { more = (rest ++ byte ∷ []) ∷ []; rest = []; cut = cut_ended input raws rest byte cut is }

  -- more bytes are cut after what was cut
  pub cut_more : (bytes input : List ℕ) (raws : List (List ℕ)) (rest : List ℕ) → IsCut separator input raws rest → CutsOn (input ++ bytes) raws
  cut_more [] input raws rest cut = cuts_itself (input ++ []) raws rest (subst (λ bs. IsCut separator bs raws rest) (sym (append-nil input)) cut)
  cut_more (byte ∷ bytes) input raws rest cut =
      let one = cut_byte (ends_record (after_all separator places.Start rest) byte) input raws rest byte refl cut in
      let on = cut_more bytes (input ++ byte ∷ []) (raws ++ one.more) one.rest one.cut in
      record {
        more = one.more ++ on.more;
        rest = on.rest;
        cut =
            subst (λ bs. IsCut separator bs (raws ++ (one.more ++ on.more)) on.rest) (append_assoc input (byte ∷ []) bytes)
            (subst (λ rs. IsCut separator ((input ++ byte ∷ []) ++ bytes) rs on.rest) (append_assoc raws one.more on.more) on.cut);
      }

-- ---- which are read

pub within_short : (limit : ℕ) (raw : List ℕ) → length raw ≤ limit → within limit (raw ∷ []) ≡ raw ∷ []
within_short limit raw short = let test : nat_le (length raw) limit ≡ true = grind (arith, nat_tests) in rw test refl

pub within_long : (limit : ℕ) (raw : List ℕ) → limit < length raw → within limit (raw ∷ []) ≡ []
within_long limit raw long = let test : nat_le (length raw) limit ≡ false = grind (arith, nat_tests) in rw test refl

pub kept_append : (a b : List (List ℕ)) → kept (a ++ b) ≡ kept a ++ kept b
kept_append a b = filter-append (λ raw. nat_le (length raw) (RECORD_BYTES + 1)) a b

-- ---- the head

pub strip_head : (head : List ℕ) → length head ≤ 3 → (head ≡ 239 ∷ 187 ∷ 191 ∷ [] → ⊥) → strip_bom head ≡ head
unfolding strip_bom
strip_head [] short other = refl
strip_head (a ∷ []) short other = refl
strip_head (a ∷ b ∷ []) short other = refl
strip_head (a ∷ b ∷ c ∷ []) short other = grind arith
strip_head (a ∷ b ∷ c ∷ d ∷ rest) short other = let wrong : ⊥ = omega arith in absurd wrong

pub strip_mark : strip_bom (239 ∷ 187 ∷ 191 ∷ []) ≡ []
unfolding strip_bom
strip_mark = refl

either : (is : Bool) (rest all bytes : List ℕ) → (if is then rest ++ bytes else all ++ bytes) ≡ (if is then rest else all) ++ bytes
either true rest all bytes = refl
either false rest all bytes = refl

pub strip_more : (told bytes : List ℕ) → 3 ≤ length told → strip_bom (told ++ bytes) ≡ strip_bom told ++ bytes
unfolding strip_bom
strip_more [] bytes long = let wrong : ⊥ = omega arith in absurd wrong
strip_more (a ∷ []) bytes long = let wrong : ⊥ = omega arith in absurd wrong
strip_more (a ∷ b ∷ []) bytes long = let wrong : ⊥ = omega arith in absurd wrong
strip_more (a ∷ b ∷ c ∷ rest) bytes long = either (is_bom a b c) rest (a ∷ b ∷ c ∷ rest) bytes

-- the head is all of the input where it lacks bytes
pub lacks_bytes : (is_all full : Bool) (count : ℕ) → is_all ≡ not full → full ≡ (count == 3) → count ≤ 3 → is_all ≡ true → count < 3
lacks_bytes is_all full count is counts fits all = grind (arith, nat_tests)

pub has_bytes : (is_all full : Bool) (count : ℕ) → is_all ≡ not full → full ≡ (count == 3) → is_all ≡ false → count ≡ 3
has_bytes is_all full count is counts all = grind (arith, nat_tests)

-- the byte that was read
pub one_read : (bytes : List ℕ) (count d : ℕ) → length bytes ≡ 1 → count ≤ 1 → (count ≡ 0 → ⊥) → take count bytes ≡ get_or bytes 0 d ∷ []
one_read [] count d one most some = let wrong : ⊥ = omega arith in absurd wrong
one_read (byte ∷ []) count d one most some = let is : count ≡ 1 = omega (arith, some) in ap (λ n. take n (byte ∷ [])) is
one_read (byte ∷ other ∷ more) count d one most some = let wrong : ⊥ = omega arith in absurd wrong

-- What is put into a row of a record that is left out, by one more step.
use Rattle.std.proofs.Common.{◌≡◌, ◌∙◌, ℕ, zero, suc, ◌+◌, ◌<◌, List, [], ◌∷◌, ◌++◌, Option, Some, None, inl, refl, sym, ap, subst, append_assoc, append-nil, take, get_or, length, arith}
use Rattle.std.proofs.lemmas.List.{replicate-append-replicate, take_more}
use Rattle.csv.specs.Records.{field_at}
use Rattle.std.specs.Io.KnownBytes.{Appends}
use Rattle.rs_csv.specs.Rejects.{GivesRow, doubled, fields_text, padding, raw_field, reject_line, twice}

doubled_append : (a b : List ℕ) → doubled (a ++ b) ≡ doubled a ++ doubled b
doubled_append [] b = refl
doubled_append (byte ∷ a) b = ap (λ bs. twice byte ++ bs) (doubled_append a b) ∙ sym (append_assoc (twice byte) (doubled a) (doubled b))

-- a byte more of a text in quotes
pub doubled_more : (begun old now text : List ℕ) (i : ℕ) → i < length text → old ≡ begun ++ doubled (take i text) → now ≡ old ++ twice (get_or text i 0) → now ≡ begun ++ doubled (take (i + 1) text)
doubled_more begun old now text i less were grown =
    let byte = get_or text i 0 in
    grown ∙ ap (λ bs. bs ++ twice byte) were ∙ append_assoc begun (doubled (take i text)) (twice byte)
    ∙ ap (λ bs. begun ++ bs) (sym (ap doubled (take_more text i 0 less) ∙ doubled_append (take i text) (byte ∷ []) ∙ ap (λ bs. doubled (take i text) ++ bs) (append-nil (twice byte))))

fields_append : (separator : ℕ) (a b : List (List ℕ)) → fields_text separator (a ++ b) ≡ fields_text separator a ++ fields_text separator b
fields_append separator [] b = refl
fields_append separator (field ∷ a) b =
    ap (λ bs. raw_field field ++ separator ∷ bs) (fields_append separator a b) ∙ sym (append_assoc (raw_field field) (separator ∷ fields_text separator a) (fields_text separator b))

-- a field more
pub fields_more : (separator : ℕ) (begun old middle now : List ℕ) (fields : List (List ℕ)) (i : ℕ) (field : List ℕ) → i < length fields → field ≡ get_or fields i field → old ≡ begun ++ fields_text separator (take i fields)
    → middle ≡ old ++ raw_field field → now ≡ middle ++ separator ∷ [] → now ≡ begun ++ fields_text separator (take (i + 1) fields)
fields_more separator begun old middle now fields i field less is were one grown =
    let more : take (i + 1) fields ≡ take i fields ++ field ∷ [] = take_more fields i field less ∙ ap (λ f. take i fields ++ f ∷ []) (sym is) in
    let front = fields_text separator (take i fields) in
    grown ∙ ap (λ bs. bs ++ separator ∷ []) (one ∙ ap (λ bs. bs ++ raw_field field) were) ∙ append_assoc (begun ++ front) (raw_field field) (separator ∷ []) ∙ append_assoc begun front (raw_field field ++ separator ∷ [])
    ∙ ap (λ bs. begun ++ bs) (sym (ap (fields_text separator) more ∙ fields_append separator (take i fields) (field ∷ [])))

-- an empty field more
pub padding_more : (separator : ℕ) (begun old now : List ℕ) (i : ℕ) → old ≡ begun ++ padding separator i → now ≡ old ++ separator ∷ [] → now ≡ begun ++ padding separator (i + 1)
padding_more separator begun old now i were grown =
    grown ∙ ap (λ bs. bs ++ separator ∷ []) were ∙ append_assoc begun (padding separator i) (separator ∷ []) ∙ ap (λ bs. begun ++ bs) (replicate-append-replicate i 1 separator)

-- ---- the fields of a record

pub field_here : (fields : List (List ℕ)) (i : ℕ) (field : List ℕ) → field_at fields i ≡ Some field → field ≡ get_or fields i field
unfolding field_at
field_here [] i field is = cc
field_here (one ∷ fields) zero field is = cc
field_here (one ∷ fields) (suc i) field is = field_here fields i field is

pub field_there : (fields : List (List ℕ)) (i : ℕ) → i < length fields → field_at fields i ≡ None → ⊥
unfolding field_at
field_there [] i less none = let wrong : ⊥ = omega arith in wrong
field_there (one ∷ fields) zero less none = cc
field_there (one ∷ fields) (suc i) less none = field_there fields i (omega arith) none

-- ---- what is taken of a record

-- where it isn't known what was taken, any row is
pub gives_unknown : (separator : ℕ) (header fields : List (List ℕ)) (before after : Option (List ℕ)) → before ≡ None → GivesRow separator header fields before after
gives_unknown separator header fields before after none = record {
  head = [];
  row = reject_line separator [] 0 [];
  reason = [];
  head_is = inl refl;
  row_is = (0, 0, omega arith, refl);
  taken = subst (λ known. Appends known after (reject_line separator [] 0 [])) (sym none) tt;
}

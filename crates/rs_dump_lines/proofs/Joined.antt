-- Texts that are appended one after another, and texts with a comma between them.
use Rattle.std.proofs.Common.{◌≡◌, ◌≤◌, ◌<◌, ◌+◌, ◌∙◌, ℕ, zero, suc, List, [], ◌∷◌, ◌++◌, ap, append-nil, append_assoc, arith, codes, drop, get_or, length, map, refl, sym}
use Rattle.std.specs.List.{join_with_byte}
use Rattle.std.proofs.lemmas.List.{drop_more}
use Rattle.rs_dump_laws.specs.Lines.{COMMA, bracketed_texts, dump_line}
use Rattle.rs_dump_laws.specs.Dump.{location_of}
use Rattle.rs_dump_lines.specs.Texts.{measures_text, more_texts, place_word, row_front}
use Rattle.rs_facts.specs.Runs.{stretch}
use Rattle.rs_syntax.specs.Tree.{insert}
use Rattle.rs_value.specs.Row.{null, Row}
use Rattle.rs_value.specs.Text.{datum_text}
use Rattle.rs_value.specs.declared.column.Kind.{Kind}
use Rattle.rs_value.specs.declared.column.Kind.TheVariants.{Point, Line}

-- a text, and then the rest
pub then : (old mid new one rest : List ℕ) → mid ≡ old ++ one → new ≡ mid ++ rest → new ≡ old ++ (one ++ rest)
then old mid new one rest first more = more ∙ ap (λ t. t ++ rest) first ∙ append_assoc old one rest

-- the text that was appended is this one
pub as_it_is : (old new told one : List ℕ) → new ≡ old ++ told → told ≡ one → new ≡ old ++ one
as_it_is old new told one more same = more ∙ ap (λ t. old ++ t) same

-- the first, and the others with a comma before each
pub joined_more : (text : List ℕ) (texts : List (List ℕ)) → join_with_byte COMMA (text ∷ texts) ≡ text ++ more_texts texts
joined_more text [] = sym (append-nil text)
joined_more text (other ∷ texts) = ap (λ more. text ++ (COMMA ∷ more)) (joined_more other texts)

-- a comma and a value are appended, and then the others
pub one_pushed : (row : Row) (i : ℕ) (old mid new : List ℕ) → i < length row → mid ≡ old ++ COMMA ∷ [] → new ≡ mid ++ datum_text (get_or row i null)
    → new ++ more_texts (map datum_text (drop (i + 1) row)) ≡ old ++ more_texts (map datum_text (drop i row))
one_pushed row i old mid new within first more =
    let texts = more_texts (map datum_text (drop (i + 1) row)) in
    ap (λ t. t ++ texts) (more ∙ ap (λ t. t ++ datum_text (get_or row i null)) first)
    ∙ append_assoc (old ++ COMMA ∷ []) (datum_text (get_or row i null)) texts ∙ append_assoc old (COMMA ∷ []) (datum_text (get_or row i null) ++ texts)
    ∙ ap (λ r. old ++ more_texts (map datum_text r)) (sym (drop_more row i null within))

-- the first value of a row is appended, and then the others with a comma before each
pub first_pushed : (row : Row) (old mid new : List ℕ) → 1 ≤ length row → mid ≡ old ++ datum_text (get_or row 0 null)
    → new ≡ mid ++ more_texts (map datum_text (drop 1 row)) → new ≡ old ++ join_with_byte COMMA (map datum_text row)
first_pushed [] old mid new some first more = absurd (omega (arith, some))
first_pushed (datum ∷ row) old mid new some first more =
    let texts = more_texts (map datum_text row) in
    more ∙ ap (λ t. t ++ texts) first ∙ append_assoc old (datum_text datum) texts ∙ ap (λ t. old ++ t) (sym (joined_more (datum_text datum) (map datum_text row)))

-- texts of what things are seen as
pub texts_of : {X Y : Type 0} (text : Y → List ℕ) (seen : X → Y) (xs : List X) → map (λ x. text (seen x)) xs ≡ map text (map seen xs)
texts_of text seen [] = refl
texts_of text seen (x ∷ xs) = ap (λ more. text (seen x) ∷ more) (texts_of text seen xs)

-- what comes after the front of a row's line
front_and : (kind : Kind) (table route rest : List ℕ) → row_front kind table route ++ rest ≡ codes "0 INSERT INTO " ++ (table ++ (codes " ON " ++ (route ++ (place_word kind ++ rest))))
front_and kind table route rest =
    ap (λ t. codes "0 INSERT INTO " ++ t)
    (append_assoc table (codes " ON " ++ (route ++ place_word kind)) rest ∙ ap (λ t. table ++ (codes " ON " ++ t)) (append_assoc route (place_word kind) rest))

-- the line of a row, of whatever kind its table is
pub row_line : (kind : Kind) (table route : List ℕ) (lo hi : ℕ) (row : Row)
    → row_front kind table route ++ (measures_text kind lo hi ++ (codes " VALUES" ++ bracketed_texts (map datum_text row))) ≡ dump_line (insert table route (location_of kind (stretch lo hi row)) row)
row_line Line table route lo hi row = front_and Line table route _
row_line Point table route lo hi row = front_and Point table route _

-- ---- what is put before the rest

-- a value, and the others with a comma before each
pub one_more : (row : Row) (left next : ℕ) (rest : List ℕ) → left + 1 ≡ next → next ≤ length row
    → COMMA ∷ (datum_text (get_or row left null) ++ (more_texts (map datum_text (drop next row)) ++ rest)) ≡ more_texts (map datum_text (drop left row)) ++ rest
one_more [] left next rest is few = absurd (omega arith)
one_more (datum ∷ row) left zero rest is few = absurd (omega arith)
one_more (datum ∷ row) zero (suc next) rest is few =
    let none : next ≡ 0 = omega arith in
    rw none (ap (λ t. COMMA ∷ t) (sym (append_assoc (datum_text datum) (more_texts (map datum_text row)) rest)))
one_more (datum ∷ row) (suc left) (suc next) rest is few = one_more row left next rest (omega arith) (omega arith)

-- the first value of a row, and the others
pub first_before : (row : Row) (left : ℕ) (rest : List ℕ) → left ≡ 1 → 1 ≤ length row
    → datum_text (get_or row 0 null) ++ (more_texts (map datum_text (drop left row)) ++ rest) ≡ join_with_byte COMMA (map datum_text row) ++ rest
first_before [] left rest is some = absurd (omega arith)
first_before (datum ∷ row) left rest is some =
    rw is (sym (append_assoc (datum_text datum) (more_texts (map datum_text row)) rest) ∙ ap (λ t. t ++ rest) (sym (joined_more (datum_text datum) (map datum_text row))))

-- the values in brackets, and the end of the line
pub in_brackets : (texts : List (List ℕ)) (rest : List ℕ) → 40 ∷ (join_with_byte COMMA texts ++ (codes ")\n" ++ rest)) ≡ bracketed_texts texts ++ (codes "\n" ++ rest)
in_brackets texts rest = ap (λ t. 40 ∷ t) (sym (append_assoc (join_with_byte COMMA texts) (codes ")") (codes "\n" ++ rest)))

-- the line of a row and its end
pub row_and_end : (kind : Kind) (table route : List ℕ) (lo hi : ℕ) (row : Row)
    → row_front kind table route ++ (measures_text kind lo hi ++ (codes " VALUES" ++ (bracketed_texts (map datum_text row) ++ codes "\n")))
    ≡ dump_line (insert table route (location_of kind (stretch lo hi row)) row) ++ codes "\n"
row_and_end kind table route lo hi row =
    let front = row_front kind table route in
    let measures = measures_text kind lo hi in
    let values = bracketed_texts (map datum_text row) in
    sym (ap (λ t. t ++ codes "\n") (sym (row_line kind table route lo hi row))
    ∙ append_assoc front (measures ++ (codes " VALUES" ++ values)) (codes "\n")
    ∙ ap (λ t. front ++ t) (append_assoc measures (codes " VALUES" ++ values) (codes "\n")
    ∙ ap (λ t. measures ++ t) (append_assoc (codes " VALUES") values (codes "\n"))))

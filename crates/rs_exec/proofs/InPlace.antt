-- Columns that are where they belong stay there: choosing each of a row's columns in its order changes no row.
use Rattle.std.proofs.Common.{◌≡◌, ℕ, ◌+◌, ◌&&◌, ◌||◌, List, [], ◌∷◌, ◌++◌, map, length, refl, sym, ap, ◌∙◌, subst, arith}
use Rattle.std.proofs.Math.Seq.{get_or-append_seam}
use Rattle.std.proofs.lemmas.List.{append_assoc, length-append}
use Rattle.std.specs.List.{list_any}
use Rattle.rs_value.specs.Row.{Row, null}
use Rattle.rs_facts.specs.Insert.{within}
use Rattle.rs_facts.specs.Operators.{datum_at, chosen, mapped}
use Rattle.rs_facts.specs.Runs.{Stretch}
use Rattle.rs_facts.specs.Spans.{places_of}
use Rattle.rs_facts.proofs.RowSets.{any-places, contains-mapped}
use Rattle.rs_facts.proofs.Rows.{same_row}
use Rattle.rs_facts.proofs.Sets.{same_rows}
use Rattle.rs_facts.proofs.SpanLaws.{holds, contains-places_of}
use Rattle.rs_sweep.specs.Lists.{AreWide}
use Rattle.rs_exec.specs.Changes.{AreFrom}

chosen-after : (front rest : Row) (places : List ℕ) → AreFrom (length front) places → length places ≡ length rest → map (λ column. datum_at (front ++ rest) column) places ≡ rest
chosen-after front [] [] from long = refl
chosen-after front [] (place ∷ places) from long = absurd (omega (arith, long))
chosen-after front (datum ∷ rest) [] from long = absurd (omega (arith, long))
chosen-after front (datum ∷ rest) (place ∷ places) from long =
    let here : datum_at (front ++ datum ∷ rest) place ≡ datum = ap (datum_at (front ++ datum ∷ rest)) from.0 ∙ get_or-append_seam front datum rest null in
    let long_front : length (front ++ datum ∷ []) ≡ length front + 1 = length-append front (datum ∷ []) in
    let later : map (λ column. datum_at ((front ++ datum ∷ []) ++ rest) column) places ≡ rest = chosen-after (front ++ datum ∷ []) rest places (subst (λ n. AreFrom n places) (sym long_front) from.1) (omega (arith, long)) in
    λ i. here i ∷ (ap (λ (row : Row). map (λ column. datum_at row column) places) (sym (append_assoc front (datum ∷ []) rest)) ∙ later) i

chosen-all : (places : List ℕ) (row : Row) → AreFrom 0 places → length row ≡ length places → chosen places row ≡ row
unfolding chosen
chosen-all places row from long = chosen-after [] row places from (sym long)

each-same : (places : List ℕ) (spans : List Stretch) (k : ℕ) (row : Row) → AreFrom 0 places → AreWide (length places) spans
    → list_any (λ span. within span.lo span.hi k && same_row (chosen places span.row) row) spans ≡ list_any (holds row k) spans
unfolding holds
each-same places [] k row from wide = refl
each-same places (span ∷ spans) k row from wide = λ i.
    (within span.lo span.hi k && same_row (chosen-all places span.row from wide.0 i) row) || each-same places spans k row from wide.1 i

pub rows-stay : (places : List ℕ) (spans : List Stretch) (k : ℕ) → AreFrom 0 places → AreWide (length places) spans → mapped (chosen places) (places_of spans k) ≡ places_of spans k
rows-stay places spans k from wide = same_rows _ _ (λ row.
    contains-mapped (chosen places) (places_of spans k) row
    ∙ any-places (λ other. same_row (chosen places other) row) spans k
    ∙ each-same places spans k row from wide
    ∙ sym (contains-places_of spans k row))

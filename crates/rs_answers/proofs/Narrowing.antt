-- What a source gives of a table inside a window.
use Rattle.std.proofs.Common.{◌≡◌, ◌≤◌, ℕ, true, false, cond, List, [], length, refl, sym, ap, ◌∙◌, subst}
use Rattle.std.proofs.lemmas.List.Elements.{All-from_recursion, recursion_from_All}
use Rattle.std.proofs.lemmas.List.Sorted.{All-permutation}
use Rattle.std.specs.List.{AllByRecursion}
use Rattle.std.specs.Prelude.{IsPermutation}
use Rattle.rs_value.specs.declared.column.Kind.{Kind}
use Rattle.rs_coalesce.specs.Joined.{AreJoined}
use Rattle.rs_coalesce.proofs.Separate.{joined-from_separate}
use Rattle.rs_facts.specs.Fact.{RowSet, none, keep}
use Rattle.rs_facts.specs.Insert.{within}
use Rattle.rs_facts.specs.Operators.{windowed}
use Rattle.rs_facts.specs.Runs.{Stretch}
use Rattle.rs_facts.specs.Spans.{places_of, IsPlaced, ArePlaced}
use Rattle.rs_sweep.specs.Lists.{AreWide}
use Rattle.rs_exec.specs.Given.{inside, rows_asked, table_asked, has_value, AreGiven, AreGivenOfValue}
use Rattle.rs_exec.specs.Snapshot.{Snapshot, Snapshots}
use Rattle.rs_exec.specs.declared.source.Asked.{Asked}
use Rattle.rs_exec.specs.declared.source.Part.{Part}
use Rattle.rs_exec.specs.declared.source.Part.TheVariants as parts
use Rattle.rs_exec.specs.declared.source.SoughtValue.{SoughtValue}
use Rattle.rs_answers.specs.Within.{AreNarrowed}
use Rattle.rs_answers.proofs.WindowRows.{windowed-nothing, windowed-off}

-- ---- spans in another order

moved_all : (P : Stretch → Type 0) (xs ys : List Stretch) → IsPermutation xs ys → AllByRecursion P xs → AllByRecursion P ys
moved_all P xs ys moved all = recursion_from_All P ys (All-permutation P xs ys moved (All-from_recursion P xs all))

pub placed-moved : (kind : Kind) (xs ys : List Stretch) → IsPermutation xs ys → ArePlaced kind xs → ArePlaced kind ys
placed-moved kind xs ys moved all = moved_all (IsPlaced kind) xs ys moved all

pub wide-moved : (width : ℕ) (xs ys : List Stretch) → IsPermutation xs ys → AreWide width xs → AreWide width ys
wide-moved width xs ys moved all = moved_all (λ span. length span.row ≡ width) xs ys moved all

-- ---- inside a part

inside-nothing : (part : Part) (k : ℕ) → inside part k none ≡ none
inside-nothing parts.Whole k = refl
inside-nothing (parts.Between from to) k = windowed-nothing from to k

windowed_again : (from to k : ℕ) (rows : RowSet) → windowed from to k (windowed from to k rows) ≡ windowed from to k rows
unfolding windowed
windowed_again from to k rows = elim (within from to k) as (λ t. cond t (cond t rows none) none ≡ cond t rows none) [ true ↦ refl | false ↦ refl ]

inside_again : (part : Part) (k : ℕ) (rows : RowSet) → inside part k (inside part k rows) ≡ inside part k rows
inside_again parts.Whole k rows = refl
inside_again (parts.Between from to) k rows = windowed_again from to k rows

-- ---- what is given

-- what of the part is kept inside the window lies between two thousandths
module _ (from to first last : ℕ) (part : Part) (kept : (k : ℕ) (rows : RowSet) → windowed first last k rows ≡ inside part k (windowed from to k rows)) where
  in_part : (k : ℕ) (rows : RowSet) → inside part k (windowed first last k rows) ≡ windowed first last k rows
  in_part k rows = ap (inside part k) (kept k rows) ∙ inside_again part k (windowed from to k rows) ∙ sym (kept k rows)

  module _ {S : Type 0} (is_of : S → Snapshots → Type 0) (source : S) (asked : Asked) where
    asked_within : (snapshots : Snapshots) (narrow : AreNarrowed is_of source from to snapshots) (k : ℕ) → inside part k (rows_asked snapshots asked k) ≡ windowed first last k (rows_asked narrow.whole asked k)
    asked_within snapshots narrow k =
        ap (λ (snapshot : Snapshot). inside part k (snapshot.rows (table_asked asked) asked.route k)) (narrow.inside asked.version)
        ∙ sym (kept k (rows_asked narrow.whole asked k))

    pub given-within : (spans cut : List Stretch) → AreGiven (is_of source) asked (parts.Between first last) spans → ((k : ℕ) → places_of cut k ≡ windowed first last k (places_of spans k))
        → ((kind : Kind) → ArePlaced kind spans → ArePlaced kind cut) → ((width : ℕ) → AreWide width spans → AreWide width cut) → ((kind : Kind) → AreJoined kind spans → AreJoined kind cut) → AreGiven (AreNarrowed is_of source from to) asked part cut
    given-within spans cut given means placed wide joined = record {
      means = λ snapshots narrow k.
          ap (inside part k) (means k) ∙ in_part k (places_of spans k) ∙ given.means narrow.whole narrow.is k ∙ sym (asked_within snapshots narrow k);
      joined = λ snapshots narrow. joined asked.kind (given.joined narrow.whole narrow.is);
      placed = placed asked.kind given.placed;
      wide = wide asked.width given.wide;
    }

    pub given-of_value-within : (sought : SoughtValue) (spans cut : List Stretch) → AreGivenOfValue (is_of source) asked (parts.Between first last) sought spans
        → ((k : ℕ) → places_of cut k ≡ windowed first last k (places_of spans k)) → ((kind : Kind) → ArePlaced kind spans → ArePlaced kind cut)
        → ((width : ℕ) → AreWide width spans → AreWide width cut) → ((kind : Kind) → AreJoined kind spans → AreJoined kind cut) → AreGivenOfValue (AreNarrowed is_of source from to) asked part sought cut
    given-of_value-within sought spans cut given means placed wide joined = record {
      means = λ snapshots narrow k.
          ap (λ rows. keep (has_value sought) (inside part k rows)) (means k)
          ∙ ap (keep (has_value sought)) (in_part k (places_of spans k))
          ∙ given.means narrow.whole narrow.is k
          ∙ sym (ap (keep (has_value sought)) (asked_within snapshots narrow k));
      joined = λ snapshots narrow. joined asked.kind (given.joined narrow.whole narrow.is);
      placed = placed asked.kind given.placed;
      wide = wide asked.width given.wide;
    }

    -- nothing is kept
    nothing_within : last ≤ first → AreGiven (AreNarrowed is_of source from to) asked part []
    nothing_within empty = record {
      means = λ snapshots narrow k. inside-nothing part k ∙ sym (asked_within snapshots narrow k ∙ windowed-off first last k (rows_asked narrow.whole asked k) empty);
      joined = λ snapshots narrow. joined-from_separate asked.kind [] tt;
      placed = tt;
      wide = tt;
    }

    pub nothing-within : (spans : List Stretch) → last ≤ first → spans ≡ [] → AreGiven (AreNarrowed is_of source from to) asked part spans
    nothing-within spans empty bare = subst (AreGiven (AreNarrowed is_of source from to) asked part) (sym bare) (nothing_within empty)

    pub nothing-of_value-within : (sought : SoughtValue) (spans : List Stretch) → last ≤ first → spans ≡ [] → AreGivenOfValue (AreNarrowed is_of source from to) asked part sought spans
    nothing-of_value-within sought spans empty bare = let given = nothing-within spans empty bare in record {
      means = λ snapshots narrow k. ap (keep (has_value sought)) (given.means snapshots narrow k);
      joined = given.joined;
      placed = given.placed;
      wide = given.wide;
    }

-- what stands for snapshots stands for them inside the window
pub narrowed-later : {S : Type 0} (is_of : S → Snapshots → Type 0) (old new : S) (from to : ℕ) → ((snapshots : Snapshots) → is_of old snapshots → is_of new snapshots)
    → (snapshots : Snapshots) → AreNarrowed is_of old from to snapshots → AreNarrowed is_of new from to snapshots
narrowed-later is_of old new from to stays snapshots narrow = record { whole = narrow.whole; is = stays narrow.whole narrow.is; inside = narrow.inside }

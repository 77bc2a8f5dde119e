-- Calls that change pages, one after another.
use Rattle.std.proofs.Common.{◌≡◌, ◌⊎◌, ◌≤◌, ℕ, List, Result, Ok, Err, IfOk, IfErr, OnOk, OnErr, refl, sym, ap, ◌∙◌, inl, inr, arith}
use Rattle.rs_pages.specs.Counts.{counted_on}
use Rattle.rs_pages.specs.Refusal.{Refusal}
use Rattle.rs_pages.specs.Refusal.TheVariants as refusal
use Rattle.rs_pages.specs.FileHeader.{FileHeader}
use Rattle.rs_pages.specs.Store.{Store, Rests, Edits, KeepsCounts}
use Rattle.rs_pages.specs.Lending.{RestsAfter, EditsAfter}
use Rattle.rs_pages.specs.PageKind.{PageKind}
use Rattle.rs_pages.specs.FreeList.{IsFreeList, TakesFree, TakesLast}
use Rattle.rs_pages.specs.PageMap.{HasNoFit}
use Rattle.rs_pages.specs.Uses.{Wants, AllocatesPage, RefusesPage, IsFull, ReleasesPage, RefusesToRelease}
use Rattle.rs_pages.proofs.Resting.{counts_after}
use Rattle.rs_pages.proofs.Stores.{KeepsCounts-refl, KeepsCounts-trans, CountsFailure-refl}
use Rattle.rs_page_owners.specs.Changes.{Works, WorksAfter, EndsFull, CountsNothing}

pub Works-trans : (a b c : Store) → Works a b → Works b c → Works a c
Works-trans a b c one other = record {
  counts = KeepsCounts-trans a b c one.counts other.counts;
  no_fewer = omega (arith, one.no_fewer, other.no_fewer);
  catalogue = other.catalogue ∙ one.catalogue;
  catalogue_length = other.catalogue_length ∙ one.catalogue_length;
}

same_fields-works : (a b : Store) → KeepsCounts a b → b.map.fields ≡ a.map.fields → Works a b
same_fields-works a b counts same = record {
  counts = counts;
  no_fewer = omega (arith, ap (λ (f : FileHeader). f.pages) same);
  catalogue = ap (λ (f : FileHeader). f.catalogue) same;
  catalogue_length = ap (λ (f : FileHeader). f.catalogue_length) same;
}

pub Rests-works : (tied : Type 0) (a b : Store) → Rests tied a b → Works a b
Rests-works tied a b rests = same_fields-works a b rests.counts rests.keeps.fields

pub Edits-works : (tied : Type 0) (n : ℕ) (page : List ℕ) (a b : Store) → Edits tied n page a b → Works a b
Edits-works tied n page a b edits = same_fields-works a b edits.counts edits.fields

-- a refusal after what counted nothing
pub wants_after : (damaged later : Type 0) (why : Refusal) (a b c : Store) → (later → damaged) → CountsNothing a b → Wants later (EndsFull b c) why b c → Wants damaged (EndsFull a c) why a c
wants_after damaged later why a b c then nothing wants = record { cause = by_cause wants.cause; count = counts_after why a b c nothing.failures wants.count } where
  by_cause : (why ≡ refusal.OutOfMemory) ⊎ (why ≡ refusal.Disk) ⊎ ((why ≡ refusal.FileFull) × EndsFull b c) ⊎ ((why ≡ refusal.DamagedFile) × later)
      → (why ≡ refusal.OutOfMemory) ⊎ (why ≡ refusal.Disk) ⊎ ((why ≡ refusal.FileFull) × EndsFull a c) ⊎ ((why ≡ refusal.DamagedFile) × damaged)
  by_cause (inl memory) = inl memory
  by_cause (inr (inl disk)) = inr (inl disk)
  by_cause (inr (inr (inl full))) = inr (inr (inl (full.0, record { at_limit = full.1.at_limit; none_free = full.1.none_free; counted = full.1.counted ∙ ap counted_on nothing.full })))
  by_cause (inr (inr (inr wrong))) = inr (inr (inr (wrong.0, then wrong.1)))

-- another call follows one that was not refused
pub works_then : {T U : Type 0} (before damaged later : Type 0) (x : T) (r : Result U Refusal) (a b c : Store) → (later → damaged)
    → WorksAfter before (Ok x) a b → WorksAfter later r b c → WorksAfter damaged r a c
works_then before damaged later x (Ok y) a b c then one other = record {
  works = Works-trans a b c one.works other.works;
  ends = record { failures = other.ends.failures ∙ one.ends.failures; full = other.ends.full ∙ one.ends.full };
}
works_then before damaged later x (Err why) a b c then one other = record {
  works = Works-trans a b c one.works other.works;
  ends = wants_after damaged later why a b c then one.ends other.ends;
}

-- what was damaged for one call is for another
pub works_of : {T : Type 0} (later damaged : Type 0) (r : Result T Refusal) (a b : Store) → (later → damaged) → WorksAfter later r a b → WorksAfter damaged r a b
works_of later damaged (Ok y) a b then one = record { works = one.works; ends = one.ends }
works_of later damaged (Err why) a b then one = record {
  works = one.works;
  ends = wants_after damaged later why a a b then (record { failures = refl; full = refl }) one.ends;
}

-- a refusal that is handed on
pub works_err : {T U : Type 0} (later damaged : Type 0) (r : Result U Refusal) (why : Refusal) (a b : Store) → (later → damaged) → r ≡ Err why → WorksAfter {T = T} later (Err why) a b → WorksAfter damaged r a b
works_err later damaged (Ok x) why a b then is one = absurd (cc)
works_err later damaged (Err other) why a b then is one =
    let same : other ≡ why = cc in
    rw same (record { works = one.works; ends = wants_after damaged later why a a b then (record { failures = refl; full = refl }) one.ends })

-- an answer that is handed on
pub works_ok : {T U : Type 0} (later damaged : Type 0) (x : T) (y : U) (a b : Store) → WorksAfter later (Ok x) a b → WorksAfter damaged (Ok y) a b
works_ok later damaged x y a b one = record { works = one.works; ends = one.ends }

-- why a call that only reads is refused
abbrev pub ReadRefusal : Type 0 → Refusal → Type 0
ReadRefusal damaged why = (why ≡ refusal.OutOfMemory) ⊎ (why ≡ refusal.Disk) ⊎ ((why ≡ refusal.DamagedFile) × damaged)

pub rests-work : {S T : Type 0} (is_tied : S → Type 0) (store : S → Store) (keeps : S → S → Type 0) (damaged : Type 0) (r : Result T Refusal) (a b : S)
    → RestsAfter is_tied store keeps r a b → IfErr r (ReadRefusal damaged) → WorksAfter damaged r (store a) (store b)
rests-work is_tied store keeps damaged (Ok x) a b rests cause = record {
  works = Rests-works (is_tied a) (store a) (store b) rests.rests;
  ends = record { failures = rests.count; full = rests.rests.full };
}
rests-work is_tied store keeps damaged (Err why) a b rests cause = record {
  works = Rests-works (is_tied a) (store a) (store b) rests.rests;
  ends = record { cause = by_cause cause; count = rests.count };
} where
  by_cause : ReadRefusal damaged why → (why ≡ refusal.OutOfMemory) ⊎ (why ≡ refusal.Disk) ⊎ ((why ≡ refusal.FileFull) × EndsFull (store a) (store b)) ⊎ ((why ≡ refusal.DamagedFile) × damaged)
  by_cause (inl memory) = inl memory
  by_cause (inr (inl disk)) = inr (inl disk)
  by_cause (inr (inr wrong)) = inr (inr (inr wrong))

pub edits-work : {S T : Type 0} (is_tied : S → Type 0) (store : S → Store) (keeps : S → S → Type 0) (damaged : Type 0) (x : T) (n : ℕ) (page : List ℕ) (a b : S)
    → EditsAfter is_tied store keeps n page a b → WorksAfter damaged (Ok x) (store a) (store b)
edits-work is_tied store keeps damaged x n page a b edits = record {
  works = Edits-works (is_tied a) n page (store a) (store b) edits.edits;
  ends = record { failures = edits.count; full = edits.edits.full };
}

-- nothing is counted
pub CountsNothing-refl : (s : Store) → CountsNothing s s
CountsNothing-refl s = record { failures = refl; full = refl }

pub CountsNothing-trans : (a b c : Store) → CountsNothing a b → CountsNothing b c → CountsNothing a c
CountsNothing-trans a b c one other = record { failures = other.failures ∙ one.failures; full = other.full ∙ one.full }

-- nothing was called yet
pub Works-refl : (s : Store) → Works s s
Works-refl s = record { counts = KeepsCounts-refl s; no_fewer = omega arith; catalogue = refl; catalogue_length = refl }

pub works_none : {T : Type 0} (damaged : Type 0) (x : T) (s : Store) → WorksAfter damaged (Ok x) s s
works_none damaged x s = record { works = Works-refl s; ends = record { failures = refl; full = refl } }

-- a refusal for want of memory
pub works_memory : {T U : Type 0} (before damaged : Type 0) (x : U) (why : Refusal) (a b : Store) → why ≡ refusal.OutOfMemory → WorksAfter before (Ok x) a b → WorksAfter {T = T} damaged (Err why) a b
works_memory before damaged x why a b is one = record {
  works = one.works;
  ends = record {
    cause = inl is;
    count = counts_after why a b b one.ends.failures (CountsFailure-refl why b (λ disk. let wrong : refusal.OutOfMemory ≡ refusal.Disk = sym is ∙ disk in cc));
  };
}

-- a page that comes into use, or not
allocates-works : (tied : Type 0) (kind : PageKind) (number : ℕ) (a b : Store) → AllocatesPage tied kind number a b → Works a b
allocates-works tied kind number a b allocates = record {
  counts = allocates.counts;
  no_fewer = allocates.no_fewer;
  catalogue = place allocates.fields;
  catalogue_length = size allocates.fields;
} where
  place : ((next : ℕ) × TakesFree a.map.fields b.map.fields number next) ⊎ TakesLast a.map.fields b.map.fields number → b.map.fields.catalogue ≡ a.map.fields.catalogue
  place (inl takes) = ap (λ (f : FileHeader). f.catalogue) takes.1.fields
  place (inr takes) = ap (λ (f : FileHeader). f.catalogue) takes.fields

  size : ((next : ℕ) × TakesFree a.map.fields b.map.fields number next) ⊎ TakesLast a.map.fields b.map.fields number → b.map.fields.catalogue_length ≡ a.map.fields.catalogue_length
  size (inl takes) = ap (λ (f : FileHeader). f.catalogue_length) takes.1.fields
  size (inr takes) = ap (λ (f : FileHeader). f.catalogue_length) takes.fields

abbrev pub NoFreeList : Type 0 → Store → Type 0
NoFreeList tied s = tied → (free : List ℕ) → IsFreeList s.map free → ⊥

pub allocate-works : (tied damaged : Type 0) (kind : PageKind) (r : Result ℕ Refusal) (a b : Store) → (NoFreeList tied a → damaged) → IfOk r (λ number. AllocatesPage tied kind number a b)
    → IfErr r (λ why. RefusesPage tied why a b) → WorksAfter damaged r a b
allocate-works tied damaged kind (Ok number) a b then allocates refused = record {
  works = allocates-works tied kind number a b allocates;
  ends = record { failures = allocates.failures; full = allocates.full };
}
allocate-works tied damaged kind (Err why) a b then allocates refused = record {
  works = same_fields-works a b refused.counts refused.keeps.fields;
  ends = record { cause = by_cause refused.wants.cause; count = refused.wants.count };
} where
  full : IsFull a b → EndsFull a b
  full is = record {
    at_limit = omega (arith, is.at_limit, refused.counts.limit, ap (λ (f : FileHeader). f.pages) refused.keeps.fields);
    none_free = ap (λ (f : FileHeader). f.first_free) refused.keeps.fields ∙ is.none_free;
    counted = is.counted;
  }

  by_cause : (why ≡ refusal.OutOfMemory) ⊎ (why ≡ refusal.Disk) ⊎ ((why ≡ refusal.FileFull) × IsFull a b) ⊎ ((why ≡ refusal.DamagedFile) × NoFreeList tied a)
      → (why ≡ refusal.OutOfMemory) ⊎ (why ≡ refusal.Disk) ⊎ ((why ≡ refusal.FileFull) × EndsFull a b) ⊎ ((why ≡ refusal.DamagedFile) × damaged)
  by_cause (inl memory) = inl memory
  by_cause (inr (inl disk)) = inr (inl disk)
  by_cause (inr (inr (inl is))) = inr (inr (inl (is.0, full is.1)))
  by_cause (inr (inr (inr is))) = inr (inr (inr (is.0, then is.1)))

-- a page that is released, or not
abbrev pub NotReleased : Type 0 → ℕ → Store → Type 0
NotReleased tied number s = (tied → HasNoFit s.map number) ⊎ (number ≡ 1) ⊎ (s.map.fields.pages ≤ s.map.fields.free_pages)

pub release-works : {T : Type 0} (tied damaged : Type 0) (number : ℕ) (r : Result T Refusal) (a b : Store) → (NotReleased tied number a → damaged) → OnOk r (ReleasesPage tied number a b)
    → OnErr r (Rests tied a b) → IfErr r (λ why. RefusesToRelease tied number why a b) → WorksAfter damaged r a b
release-works tied damaged number (Ok x) a b then releases rests refused = record {
  works = record {
    counts = releases.counts;
    no_fewer = omega (arith, ap (λ (f : FileHeader). f.pages) releases.fields);
    catalogue = ap (λ (f : FileHeader). f.catalogue) releases.fields;
    catalogue_length = ap (λ (f : FileHeader). f.catalogue_length) releases.fields;
  };
  ends = record { failures = releases.failures; full = releases.full };
}
release-works tied damaged number (Err why) a b then releases rests refused = record {
  works = Rests-works tied a b rests;
  ends = record { cause = by_cause refused.wants.cause; count = refused.wants.count };
} where
  by_cause : (why ≡ refusal.OutOfMemory) ⊎ (why ≡ refusal.Disk) ⊎ ((why ≡ refusal.FileFull) × ⊥) ⊎ ((why ≡ refusal.DamagedFile) × NotReleased tied number a)
      → (why ≡ refusal.OutOfMemory) ⊎ (why ≡ refusal.Disk) ⊎ ((why ≡ refusal.FileFull) × EndsFull a b) ⊎ ((why ≡ refusal.DamagedFile) × damaged)
  by_cause (inl memory) = inl memory
  by_cause (inr (inl disk)) = inr (inl disk)
  by_cause (inr (inr (inl is))) = absurd is.1
  by_cause (inr (inr (inr is))) = inr (inr (inr (is.0, then is.1)))

-- the same, where that is what is told
pub released-works : {T : Type 0} (tied : Type 0) (number : ℕ) (r : Result T Refusal) (a b : Store) → OnOk r (ReleasesPage tied number a b)
    → OnErr r (Rests tied a b) → IfErr r (λ why. RefusesToRelease tied number why a b) → WorksAfter (NotReleased tied number a) r a b
released-works tied number r a b = release-works tied (NotReleased tied number a) number r a b (λ refused. refused)

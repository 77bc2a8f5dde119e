-- A working copy is put in place: what it makes of the pages, and what stays.
use Rattle.std.proofs.Common.{◌≡◌, ◌≢◌, ◌<◌, ◌≤◌, inl, inr, ℕ, Bool, true, Option, Some, None, IsSome, IfSome, List, is_some, refl, sym, ap, ◌∙◌, subst, arith}
use Rattle.std.proofs.lemmas.Bool.{true≢false, cases_eq}
use Rattle.rs_disk.specs.Content.{Content}
use Rattle.rs_disk.specs.Crash.{Same}
use Rattle.rs_disk.specs.declared.disk.Disk as disk
use Rattle.rs_disk.proofs.Reaching.{passes_none}
use Rattle.rs_page.specs.declared.file_header.FileHeader.{FileHeader}
use Rattle.rs_pages.specs.Held.{HeldPage, page_or, held_change, with_copy}
use Rattle.rs_pages.specs.Store.{Store, Rests, HoldsCopy, Edits}
use Rattle.rs_pages.specs.Uses.{Lends}
use Rattle.rs_pages.proofs.Stores.{KeepsCounts-trans}
use Rattle.rs_page_cache.specs.Changes.{Changes, held_at}
use Rattle.rs_pager.specs.Paged.{Paged, IsSound, held}
use Rattle.rs_pager.specs.Maps.{page_or_stored, pager_store, KeepsBelow, IsTied}
use Rattle.rs_journal.specs.declared.stage.Stage.{Stage}
use Rattle.rs_journal.specs.declared.stage.Stage.TheVariants.{Fresh}
use Rattle.rs_pager.proofs.Keeping.{with_changes, kept-edited}
use Rattle.rs_pager.proofs.Lent.{page-inside}

-- of what is held, the working copy of one page alone is another: these bytes
pub record PutsCopy (n : ℕ) (page : List ℕ) (old new : Changes) : Type 0 where
  pub there : held_at new n ≡ with_copy page (held_at old n)
  pub others : (m : ℕ) → m ≢ n → held_at new m ≡ held_at old m

module _ (n : ℕ) (page : List ℕ) (old new : Changes) (puts : PutsCopy n page old new) where
  -- the committed pages that the disk lacks stay
  pub put-committed : (m : ℕ) → (held_at new m).committed ≡ (held_at old m).committed
  put-committed m = elim (cases_eq m n) [
    | inl same ↦ subst (λ i. (held_at new i).committed ≡ (held_at old i).committed) (sym same) (ap (λ (h : HeldPage). h.committed) puts.there)
    | inr ne ↦ ap (λ (h : HeldPage). h.committed) (puts.others m ne)
  ]

  pub put-there : (content : Content) (pages : ℕ) → 0 < n → n < pages → page_or_stored pages (held_change (held_at new n)) content n ≡ Some page
  put-there content pages pos below =
      ap (λ (h : HeldPage). page_or_stored pages (held_change h) content n) puts.there ∙ rw (page-inside n pages pos below) refl

  pub put-other : (content : Content) (pages m : ℕ) → m ≢ n
      → page_or_stored pages (held_change (held_at new m)) content m ≡ page_or_stored pages (held_change (held_at old m)) content m
  put-other content pages m ne = ap (λ (h : HeldPage). page_or_stored pages (held_change h) content m) (puts.others m ne)

  pub put-held : (s t : Store) → ((m : ℕ) → s.held m ≡ held_at old m) → ((m : ℕ) → t.held m ≡ held_at new m) → HoldsCopy n page s t
  put-held s t before after = record {
    there = after n ∙ puts.there ∙ ap (with_copy page) (sym (before n));
    others = λ m ne. after m ∙ puts.others m ne ∙ sym (before m);
  }

-- nothing but the working pages has changed
module _ {D : Type 0} (d : disk.Ghosts D) (p : Paged D) (changes : Changes) (fields : FileHeader)
    (fresh : p.under_way.stage ≡ Fresh) (same : (m : ℕ) → (held_at changes m).committed ≡ (held p m).committed) where
  pub changes-below : KeepsBelow d p (with_changes p changes fields)
  changes-below = record {
    tied = λ tied. record {
      honest = tied.honest;
      clean = tied.clean;
      after_header = tied.after_header;
      first = tied.first;
      inside = λ m after below none. tied.inside m after below (sym (same m) ∙ none);
      header = tied.header;
      kept = tied.kept;
      is_kept = kept-edited d p changes fields fresh same tied.kept tied.is_kept;
    };
    committed = λ _. record { fields = refl; pages = λ m. ap (λ (o : Option (List ℕ)). page_or_stored p.committed_fields.pages o (d.seen p.disk) m) (same m) };
    committed_fields = refl;
    changed = same;
    lacks = refl;
    honesty = refl;
    keeping = refl;
    under_way = refl;
    kept = λ pages _ is. kept-edited d p changes fields fresh same pages is;
    unwritten = λ _. refl;
    crash = λ _. passes_none d.may_leave d.left_since Same p.disk (λ _. refl);
  }

-- the file has at most one page more, which has a working copy
pub record AddsPage (n : ℕ) (limit : ℕ) (old new : FileHeader) : Type 0 where
  pub after : 0 < n
  pub below : n < new.pages
  pub no_fewer : old.pages ≤ new.pages
  pub within : new.pages ≤ limit
  pub others : (m : ℕ) → m ≢ n → m < new.pages → m < old.pages

-- the file has as many pages as before
pub same-adds : (n limit : ℕ) (old new : FileHeader) → new.pages ≡ old.pages → 0 < n → n < old.pages → old.pages ≤ limit → AddsPage n limit old new
same-adds n limit old new same pos below within = record {
  after = pos;
  below = omega (arith, below, same);
  no_fewer = omega (arith, same);
  within = omega (arith, within, same);
  others = λ m ne lt. omega (arith, lt, same);
}

pub put-sound : (n limit : ℕ) (page : List ℕ) (old new : Changes) (committed_fields before after : FileHeader) (begun : Bool) (stage : Stage) → begun ≡ true → PutsCopy n page old new
    → AddsPage n limit before after → IsSound limit old committed_fields before begun stage → IsSound limit new committed_fields after begun stage
put-sound n limit page old new committed_fields before after begun stage is puts adds sound = record {
  directory = sound.directory;
  kept_room = omega (arith, sound.kept_room, adds.no_fewer);
  within = adds.within;
  limited = sound.limited;
  committed_inside = λ m was there. sound.committed_inside m was (sym (put-committed n page old new puts m) ∙ there);
  copied_inside = λ m was there. elim (cases_eq m n) [
    | inl same ↦ (omega (arith, same, adds.after), omega (arith, same, adds.below))
    | inr ne ↦
        let inside = sound.copied_inside m was (ap (λ (h : HeldPage). h.copy) (sym (puts.others m ne)) ∙ there) in
        (inside.0, omega (arith, inside.1, adds.no_fewer))
  ];
  fresh = λ m past below. elim (cases_eq m n) [
    | inl same ↦ subst (λ i. IsSome (held_at new i).copy) (sym same) (subst (λ (h : HeldPage). IsSome h.copy) (sym puts.there) refl)
    | inr ne ↦ subst (λ (h : HeldPage). IsSome h.copy) (sym (puts.others m ne)) (sound.fresh m past (adds.others m ne below))
  ];
  same = λ shut. absurd (true≢false (sym is ∙ shut));
  no_copies = λ shut. absurd (true≢false (sym is ∙ shut));
  begun_fresh = sound.begun_fresh;
}

-- the working page has other bytes
pub put-edits : {D : Type 0} (d : disk.Ghosts D) (p : Paged D) (n : ℕ) (page : List ℕ) (changes : Changes) → PutsCopy n page p.changes changes → 0 < n → n < p.working.pages
    → Edits (IsTied d p) n page (pager_store d p) (pager_store d (with_changes p changes p.working))
put-edits d p n page changes puts pos below = record {
  replaces = λ _. record {
    fields = refl;
    there = put-there n page p.changes changes puts (d.seen p.disk) p.working.pages pos below;
    others = record { pages = λ m ne. put-other n page p.changes changes puts (d.seen p.disk) p.working.pages m ne };
  };
  fields = refl;
  held = put-held n page p.changes changes puts (pager_store d p) (pager_store d (with_changes p changes p.working)) (λ m. refl) (λ m. refl);
  counts = record { limit = refl; begun = refl; full_refusals = omega arith };
  full = refl;
}

same_parts : (committed copy : Option (List ℕ)) (page : List ℕ) → is_some copy ≡ true → IfSome (page_or copy committed) (λ was. page ≡ was)
    → ◌≡◌ {A = HeldPage} (record { committed = committed; copy = copy }) (record { committed = committed; copy = Some page })
same_parts committed None page some is = cc
same_parts committed (Some was) page some is = cc

same_copy : (h : HeldPage) (page : List ℕ) → is_some h.copy ≡ true → IfSome (held_change h) (λ was. page ≡ was) → h ≡ with_copy page h
same_copy h page some is = same_parts h.committed h.copy page some is

-- a page that has a working copy is lent as it is
pub copy-edits : (tied : Type 0) (s : Store) (n : ℕ) (page : List ℕ) → Lends tied s n page → is_some (s.held n).copy ≡ true → Edits tied n page s s
copy-edits tied s n page lends some = record {
  replaces = λ is. record { fields = refl; there = lends.bytes is; others = record { pages = λ m ne. refl } };
  fields = refl;
  held = record { there = same_copy (s.held n) page some lends.held; others = λ m ne. refl };
  counts = record { limit = refl; begun = refl; full_refusals = omega arith };
  full = refl;
}

-- clean pages were read, and then a page was edited
pub edits-after : (tied later : Type 0) (n : ℕ) (page : List ℕ) (old mid new : Store) → (tied → later) → Rests tied old mid → Edits later n page mid new
    → Edits tied n page old new
edits-after tied later n page old mid new then rests edits = record {
  replaces = λ is.
      let replaces = edits.replaces (then is) in
      let same = rests.keeps.pages is in
      record {
        fields = replaces.fields ∙ same.fields;
        there = replaces.there;
        others = record { pages = λ m ne. replaces.others.pages m ne ∙ same.pages m };
      };
  fields = edits.fields ∙ rests.keeps.fields;
  held = record {
    there = edits.held.there ∙ ap (with_copy page) (rests.keeps.held n);
    others = λ m ne. edits.held.others m ne ∙ rests.keeps.held m;
  };
  counts = KeepsCounts-trans old mid new rests.counts edits.counts;
  full = edits.full ∙ rests.full;
}

-- a page was edited twice
pub edits-twice : (tied later : Type 0) (n : ℕ) (first page : List ℕ) (old mid new : Store) → (tied → later) → Edits tied n first old mid → Edits later n page mid new
    → Edits tied n page old new
edits-twice tied later n first page old mid new then one other = record {
  replaces = λ is.
      let before = one.replaces is in
      let after = other.replaces (then is) in
      record {
        fields = after.fields ∙ before.fields;
        there = after.there;
        others = record { pages = λ m ne. after.others.pages m ne ∙ before.others.pages m ne };
      };
  fields = other.fields ∙ one.fields;
  held = record {
    there = other.held.there ∙ ap (with_copy page) one.held.there;
    others = λ m ne. other.held.others m ne ∙ one.held.others m ne;
  };
  counts = KeepsCounts-trans old mid new one.counts other.counts;
  full = other.full ∙ one.full;
}

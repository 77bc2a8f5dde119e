-- From stage to stage, image by image.
use Rattle.std.proofs.lemmas.Bool.{cases_lt, cases_eq}
use Rattle.std.proofs.Common.{◌≡◌, ◌⊎◌, inl, inr, ℕ, zero, suc, ◌+◌, ◌*◌, ◌-◌, ◌<◌, ◌≤◌, arith, sym, ap, ◌∙◌, subst, Result, Ok, Err}
use Rattle.rs_disk.specs.Content.{Content, CutsTo}
use Rattle.rs_disk.specs.Crash.{CutOrNot}
use Rattle.rs_page.specs.declared.page.TheConstants.{PAGE_SIZE}
use Rattle.rs_journal.specs.FilePages.{FilePages, IsOfPages, HasPages}
use Rattle.rs_journal.specs.Journal.{Journal, HasJournal, IsApart, IsNotCopied, IsWellFormed, Carries, MakesPages, end_page, Recovers, RecoversBy, copies_start}
use Rattle.rs_journal.specs.declared.stage.Stage.{Stage}
use Rattle.rs_journal.specs.declared.stage.Stage.TheVariants.{Fresh, Gate, Home, Closing}
use Rattle.rs_journal.specs.Stages.{StageImage, GivesFrom, IsQuiet, IsGate, IsHome, IsClosing, IsBeforeJournal, IsLeftAlone, HasHome, IsEither}
use Rattle.rs_journal.proofs.Words.{journal-kept}
use Rattle.rs_disk.specs.Reaches.{IsOutside, KeepsWhere}

pub pages-kept : (stays : ℕ → Type 0) (pages : FilePages) (a b : Content) → KeepsWhere stays a b
    → ((i : ℕ) → i < PAGE_SIZE * pages.count → IsOfPages i → stays i) → HasPages pages a → HasPages pages b
pages-kept stays pages a b keeps there has =
    let long : PAGE_SIZE * pages.count ≤ a.size = has.size in
    let longer : a.size ≤ b.size = keeps.no_shorter in
    record {
      size = omega arith;
      bytes = λ i lt own. keeps.bytes i (omega arith) (there i lt own) ∙ has.bytes i lt own;
    }

-- the pages' own bytes are not the journal's fields, nor the gate
not-fields : (i : ℕ) → IsOfPages i → IsOutside 68 76 i
not-fields i own = elim own [ inl before ↦ inl (omega arith) | inr after ↦ inr (omega arith) ]

pub not-gate : (i : ℕ) → IsOfPages i → IsOutside 64 65 i
not-gate i own = elim own [ inl before ↦ inl (omega arith) | inr after ↦ inr (omega arith) ]

-- while the journal is written
pub quiet-on : (journal : Journal) (kept checkpoint : FilePages) (a b : Content) → MakesPages journal kept checkpoint
    → IsQuiet kept a → KeepsWhere (IsBeforeJournal journal.first) a b → IsQuiet kept b
quiet-on journal kept checkpoint a b makes quiet keeps =
    let some : 0 < kept.count = makes.some_kept in
    let after : kept.count ≤ journal.first = makes.after_kept in
    let long : PAGE_SIZE * kept.count ≤ a.size = quiet.pages_there.size in
    let gate : b.byte 64 ≡ a.byte 64 = keeps.bytes 64 (omega arith) (omega arith, inl (omega arith)) in
    record {
      closed = λ is. quiet.closed (sym gate ∙ is);
      pages_there = pages-kept _ kept a b keeps (λ i lt own. (omega arith, not-fields i own)) quiet.pages_there;
    }

-- while the gate is written
-- a journal that copies a page does not begin at page 0
journal-later : (journal : Journal) → IsWellFormed journal → (i : ℕ) → PAGE_SIZE * journal.first ≤ i
    → i < PAGE_SIZE * end_page journal.first journal.count → PAGE_SIZE ≤ i
journal-later journal well i lo hi = elim (cases_lt 0 journal.count) [
  | inl some ↦ let below : journal.number 0 < journal.first = well.below 0 some in omega arith
  | inr none ↦ let zero_is : journal.count ≡ 0 = omega arith in
      let empty : end_page journal.first journal.count ≡ journal.first = ap (end_page journal.first) zero_is ∙ omega arith in
      absurd (omega (arith, empty))
]

gate-journal : (journal : Journal) (a b : Content) → IsWellFormed journal → KeepsWhere (IsOutside 64 65) a b
    → HasJournal journal a → HasJournal journal b
gate-journal journal a b well keeps has =
    let later : (i : ℕ) → PAGE_SIZE * journal.first ≤ i → i < PAGE_SIZE * end_page journal.first journal.count → 65 ≤ i
    = λ i lo hi. let past : PAGE_SIZE ≤ i = journal-later journal well i lo hi in omega arith in
    journal-kept _ journal a b keeps (λ i lo hi. inr (omega arith)) (λ i lo hi. inr (later i lo hi)) has

pub gate-on : (journal : Journal) (kept checkpoint : FilePages) (a b : Content) → MakesPages journal kept checkpoint
    → IsGate kept journal a → KeepsWhere (IsOutside 64 65) a b → IsGate kept journal b
gate-on journal kept checkpoint a b makes gate keeps = record {
  pages_there = pages-kept _ kept a b keeps (λ i lt own. not-gate i own) gate.pages_there;
  journal_there = gate-journal journal a b makes.carries.well_formed keeps gate.journal_there;
}

pub closing-on : (journal : Journal) (checkpoint : FilePages) (a b : Content) → Carries journal checkpoint
    → IsClosing journal checkpoint a → KeepsWhere (IsOutside 64 65) a b → IsClosing journal checkpoint b
closing-on journal checkpoint a b carries closing keeps = record {
  pages_there = pages-kept _ checkpoint a b keeps (λ i lt own. not-gate i own) closing.pages_there;
  journal_there = gate-journal journal a b carries.well_formed keeps closing.journal_there;
}

-- the checkpoint's pages lie within the file where its journal does
pub checkpoint-inside : (journal : Journal) (kept checkpoint : FilePages) (a : Content) → MakesPages journal kept checkpoint
    → HasPages kept a → HasJournal journal a → PAGE_SIZE * checkpoint.count ≤ a.size
checkpoint-inside journal kept checkpoint a makes pages has = elim (cases_lt 0 journal.count) [
  | inl some ↦
      let reach : PAGE_SIZE * (copies_start journal + journal.count) ≤ a.size = has.copies.inside some in
      let after : checkpoint.count ≤ journal.first = makes.after in
      omega arith
  | inr none ↦
      let same : checkpoint.count ≤ kept.count = makes.no_copy (omega arith) in
      let long : PAGE_SIZE * kept.count ≤ a.size = pages.size in
      omega arith
]

-- once the gate is open
pub is-opened : (journal : Journal) (kept checkpoint : FilePages) (a : Content) → MakesPages journal kept checkpoint
    → IsGate kept journal a → a.byte 64 ≡ 1 → IsHome journal checkpoint a
is-opened journal kept checkpoint a makes gate is = record {
  opened = is;
  journal_there = gate.journal_there;
  others = λ i lt own apart. let was = makes.others i lt own apart in gate.pages_there.bytes i was.0 own ∙ was.1;
  size = checkpoint-inside journal kept checkpoint a makes gate.pages_there gate.journal_there;
}

-- the journal stays while its copies are brought home
pub left-journal : (journal : Journal) (a b : Content) → IsWellFormed journal
    → KeepsWhere (IsLeftAlone journal.count journal.number) a b → HasJournal journal a → HasJournal journal b
left-journal journal a b well keeps has =
    journal-kept _ journal a b keeps (λ i lo hi. inr (omega arith, omega arith))
    (λ i lo hi. inl (λ k lt. let below : journal.number k < journal.first = well.below k lt in inr (omega arith))) has

-- while the copies are brought home
pub home-on : (journal : Journal) (checkpoint : FilePages) (a b : Content) → Carries journal checkpoint
    → IsHome journal checkpoint a → KeepsWhere (IsLeftAlone journal.count journal.number) a b → IsHome journal checkpoint b
home-on journal checkpoint a b carries home keeps =
    let long : PAGE_SIZE * checkpoint.count ≤ a.size = home.size in
    let some : 0 < checkpoint.count = carries.some in
    let longer : a.size ≤ b.size = keeps.no_shorter in
    record {
      opened = keeps.bytes 64 (omega arith) (inr (omega arith, omega arith)) ∙ home.opened;
      journal_there = left-journal journal a b carries.well_formed keeps home.journal_there;
      others = λ i lt own apart. keeps.bytes i (omega arith) (inl apart) ∙ home.others i lt own apart;
      size = omega arith;
    }

-- the page among these in which the byte lies
pub record Found (count : ℕ) (number : ℕ → ℕ) (i : ℕ) : Type 0 where
  pub place : ℕ
  pub lt : place < count
  pub offset : ℕ
  pub within : offset < PAGE_SIZE
  pub is : i ≡ PAGE_SIZE * number place + offset

pub apart-or : (count : ℕ) (number : ℕ → ℕ) (i : ℕ) → Found count number i ⊎ IsApart count number i
apart-or zero number i = inr (λ k lt. absurd (omega arith))
apart-or (suc n) number i = elim (apart-or n number i) [
  | inl f ↦ inl (record { place = f.place; lt = let below : f.place < n = f.lt in omega arith; offset = f.offset; within = f.within; is = f.is })
  | inr apart ↦ elim (cases_lt i (PAGE_SIZE * number n)) [
    | inl before ↦ inr (apart-more apart (inl before))
    | inr after ↦ elim (cases_lt i (PAGE_SIZE * number n + PAGE_SIZE)) [
      | inl inside ↦ inl (record { place = n; lt = omega arith; offset = i - PAGE_SIZE * number n; within = omega arith; is = omega arith })
      | inr past ↦ inr (apart-more apart (inr past))
    ]
  ]
]
  where
    apart-more : IsApart n number i → IsOutside (PAGE_SIZE * number n) (PAGE_SIZE * number n + PAGE_SIZE) i → IsApart (suc n) number i
    apart-more apart last = λ k lt. elim (cases_lt k n) [
      | inl earlier ↦ apart k earlier
      | inr later ↦ let same : n ≡ k = omega arith in
          subst (λ m. IsOutside (PAGE_SIZE * number m) (PAGE_SIZE * number m + PAGE_SIZE) i) same last
    ]

-- once they are home
pub is-home : (journal : Journal) (checkpoint : FilePages) (a : Content) → Carries journal checkpoint
    → IsHome journal checkpoint a → HasHome journal.count journal.number journal.copy a → IsClosing journal checkpoint a
is-home journal checkpoint a carries home written = record {
  pages_there = record {
    size = home.size;
    bytes = λ i lt own. elim (apart-or journal.count journal.number i) [
      | inl f ↦
          let is : i ≡ PAGE_SIZE * journal.number f.place + f.offset = f.is in
          let own' = subst IsOfPages is own in
          ap a.byte is ∙ written.each f.place f.offset f.lt f.within own'
          ∙ sym (carries.copied f.place f.offset f.lt f.within (omega arith) own') ∙ ap checkpoint.byte (sym is)
      | inr apart ↦ home.others i lt own apart
    ];
  };
  journal_there = home.journal_there;
}

-- once the gate is closed
pub is-closed : (journal : Journal) (checkpoint : FilePages) (a : Content) → IsClosing journal checkpoint a → a.byte 64 ≡ 0 → IsQuiet checkpoint a
is-closed journal checkpoint a closing is = record {
  closed = λ one. absurd (omega (arith, is, one));
  pages_there = closing.pages_there;
}

-- a cut is done or not
pub cut-or-not : {T E : Type 0} (result : Result T E) (bound : ℕ) (a b : Content) → CutsTo result bound a b → CutOrNot bound a b
cut-or-not (Ok t) bound a b cut = inl cut
cut-or-not (Err e) bound a b cut = cut

-- and the file is cut
pub cut-on : (bound : ℕ) (pages : FilePages) (a b : Content) → 0 < pages.count → pages.count ≤ bound → IsQuiet pages a
    → CutOrNot (PAGE_SIZE * bound) a b → IsQuiet pages b
cut-on bound pages a b some long quiet cut = elim cut [
  | inl done ↦
      let gate : b.byte 64 ≡ a.byte 64 = done.kept 64 (omega arith) in
      let inside : PAGE_SIZE * pages.count ≤ a.size = quiet.pages_there.size in
      record {
        closed = λ is. quiet.closed (sym gate ∙ is);
        pages_there = record {
          size = omega (arith, done.size);
          bytes = λ i lt own. done.kept i (omega arith) ∙ quiet.pages_there.bytes i lt own;
        };
      }
  | inr same ↦ subst (IsQuiet pages) (sym same) quiet
]

-- What the images of the stages give.

pub quiet-gives : (pages : FilePages) (a : Content) → IsQuiet pages a → Recovers a pages
quiet-gives pages a quiet = record { opened = λ is. absurd (quiet.closed is); shut = λ _. quiet.pages_there }

-- an open gate gives the checkpoint's pages, where those that it doesn't copy are there
open-gives : (journal : Journal) (checkpoint : FilePages) (a : Content) → Carries journal checkpoint → HasJournal journal a
    → ((i : ℕ) → i < PAGE_SIZE * checkpoint.count → IsOfPages i → IsNotCopied journal i → a.byte i ≡ checkpoint.byte i)
    → PAGE_SIZE * checkpoint.count ≤ a.size → RecoversBy a checkpoint
open-gives journal checkpoint a carries there others size = record {
  journal = journal;
  tells = record { there = there; well_formed = carries.well_formed };
  overlays = record { copied = carries.copied; others = others; size = size };
}

pub home-gives : (journal : Journal) (checkpoint : FilePages) (a : Content) → Carries journal checkpoint
    → IsHome journal checkpoint a → Recovers a checkpoint
home-gives journal checkpoint a carries home = record {
  opened = λ _. open-gives journal checkpoint a carries home.journal_there home.others home.size;
  shut = λ closed. absurd (closed home.opened);
}

pub closing-gives : (journal : Journal) (checkpoint : FilePages) (a : Content) → Carries journal checkpoint
    → IsClosing journal checkpoint a → Recovers a checkpoint
closing-gives journal checkpoint a carries closing = record {
  opened = λ _. open-gives journal checkpoint a carries closing.journal_there
      (λ i lt own apart. closing.pages_there.bytes i lt own) closing.pages_there.size;
  shut = λ _. closing.pages_there;
}

pub gate-gives : (journal : Journal) (kept checkpoint : FilePages) (a : Content) → MakesPages journal kept checkpoint
    → IsGate kept journal a → IsEither kept checkpoint a
gate-gives journal kept checkpoint a makes gate = elim (cases_eq (a.byte 64) 1) [
  | inl is ↦ inr (home-gives journal checkpoint a makes.carries (is-opened journal kept checkpoint a makes gate is))
  | inr closed ↦ inl (record { closed = closed; pages_there = gate.pages_there })
]

-- the same of each stage
pub stage-gives : (stage : Stage) (kept : FilePages) (journal : Journal) (checkpoint : FilePages) (a : Content) → MakesPages journal kept checkpoint
    → StageImage stage kept journal checkpoint a → GivesFrom stage kept checkpoint a
stage-gives Fresh kept journal checkpoint a makes is = inl is
stage-gives Gate kept journal checkpoint a makes is = gate-gives journal kept checkpoint a makes is
stage-gives Home kept journal checkpoint a makes is = home-gives journal checkpoint a makes.carries is
stage-gives Closing kept journal checkpoint a makes is = closing-gives journal checkpoint a makes.carries is

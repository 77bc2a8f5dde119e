-- What recovery reads of a journal.
use Rattle.std.proofs.lemmas.Bool.{cases_lt}
use Rattle.std.proofs.Common.{Result, Ok, Err, IsErr, OnOk, OnErr, IsTrue, max, ◌≡◌, ◌≢◌, ◌⊎◌, inl, inr, ℕ, ◌+◌, ◌-◌, ◌*◌, ◌<◌, ◌≤◌, arith, refl, sym, ap, ◌∙◌, subst}
use Rattle.rs_refusal.specs.declared.refusal.Refusal.{Refusal}
use Rattle.rs_refusal.specs.declared.refusal.Refusal.TheVariants.{DamagedFile}
use Rattle.rs_disk.specs.Crash.{Same, CutOrNot, Only}
use Rattle.rs_disk.specs.declared.disk.Disk as disk
use Rattle.rs_disk.specs.Content.{Content, CutsTo, IsCutTo}
use Rattle.rs_page.specs.declared.page.TheConstants.{PAGE_SIZE}
use Rattle.rs_journal.specs.Journal.{Journal, Ascends, AreBelow, HasJournal, Carries, Recovers, RecoversBy, IsTold, Tells, number_pages, copies_start}
use Rattle.rs_journal.specs.Stages.{IsHome, IsQuiet, Goes, GateAlone}
use Rattle.rs_journal.proofs.Staging.{quiet-gives, not-gate}
use Rattle.rs_journal.proofs.Words.{word-same}
use Rattle.rs_journal.specs.FilePages.{FilePages, IsOfPages, HasPages, word_at}
use Rattle.rs_journal.specs.Recovery.{NumbersSoFar, SaysCount, HasNoMore, IsDamaged, OnDamaged, Brought, GaveAll, Recovered, number_in}
use Rattle.rs_disk.specs.Reaches.{Reaches}

pub numbers-none : (first : ℕ) (number : ℕ → ℕ) → NumbersSoFar first 0 0 number
numbers-none first number = record {
  ascending = λ j k _ lt. absurd (omega arith);
  below = λ k lt. absurd (omega arith);
  under = λ k lt. absurd (omega arith);
  last = λ some. absurd (omega arith);
  first_least = λ _. refl;
}

-- one number more
pub numbers-next : (first place least it next : ℕ) (number : ℕ → ℕ) → it ≡ number place → least ≤ it → it < first → next ≡ it + 1
    → NumbersSoFar first place least number → NumbersSoFar first (place + 1) next number
numbers-next first place least it next number is lo hi more so_far = record {
  ascending = λ j k before lt. elim (cases_lt k place) [
    | inl earlier ↦ so_far.ascending j k before earlier
    | inr later ↦
        let same : place ≡ k = omega arith in
        let lower : number j < least = so_far.under j (omega arith) in
        subst (λ m. number j < number m) same (omega (arith, is))
  ];
  below = λ k lt. elim (cases_lt k place) [
    | inl earlier ↦ so_far.below k earlier
    | inr later ↦ let same : place ≡ k = omega arith in subst (λ m. number m < first) same (omega (arith, is))
  ];
  under = λ k lt. elim (cases_lt k place) [
    | inl earlier ↦ let lower : number k < least = so_far.under k earlier in omega (arith, is, more)
    | inr later ↦ let same : place ≡ k = omega arith in subst (λ m. number m < next) same (omega (arith, is, more))
  ];
  last = λ some. let same : place ≡ place + 1 - 1 = omega arith in more ∙ ap (λ m. m + 1) is ∙ ap (λ m. number m + 1) same;
  first_least = λ none. absurd (omega arith);
}

-- a number that doesn't ascend, or isn't below
pub numbers-damaged : (first place count least it : ℕ) (number : ℕ → ℕ) → it ≡ number place → place < count
    → (it < least) ⊎ (first ≤ it) → NumbersSoFar first place least number
    → Ascends count number → AreBelow first count number → ⊥
numbers-damaged first place count least it number is lt wrong so_far ascends below = elim wrong [
  | inl low ↦ elim (cases_lt 0 place) [
    | inl some ↦
        let last : least ≡ number (place - 1) + 1 = so_far.last some in
        let up : number (place - 1) < number place = ascends (place - 1) place (omega arith) lt in
        omega (arith, last, is)
    | inr none ↦ let least_is : least ≡ 0 = so_far.first_least (omega arith) in omega (arith, least_is)
  ]
  | inr high ↦ let under : number place < first = below place lt in omega (arith, is)
]

-- a number that is read of a disk that was only read since
pub number-read : (before now : Content) (first place at word it : ℕ) → now ≡ before → at ≡ PAGE_SIZE * first + 4 * place
    → word ≡ word_at now.byte at → it ≡ word → it ≡ number_in before first place
number-read before now first place at word it same spot read is =
    is ∙ read ∙ ap (λ (content : Content). word_at content.byte at) same ∙ ap (word_at before.byte) spot

-- what is read of a journal that is there
pub number-there : (journal : Journal) (content : Content) (first count place at : ℕ) → journal.first ≡ first → journal.count ≡ count
    → HasJournal journal content → at ≡ PAGE_SIZE * first + 4 * place → place < count → word_at content.byte at ≡ journal.number place
number-there journal content first count place at first_is count_is has spot lt =
    let here : at ≡ PAGE_SIZE * journal.first + 4 * place = omega (arith, spot, first_is) in
    ap (word_at content.byte) here ∙ has.numbers.each place (omega (arith, count_is)) (omega (arith, count_is))

pub copy-there : (journal : Journal) (content : Content) (first count place copy : ℕ) → journal.first ≡ first → journal.count ≡ count
    → HasJournal journal content → copy ≡ first + number_pages count + place → place < count
    → (j : ℕ) → j < PAGE_SIZE → content.byte (PAGE_SIZE * copy + j) ≡ journal.copy place j
copy-there journal content first count place copy first_is count_is has spot lt j within =
    let pages : number_pages journal.count ≡ number_pages count = ap number_pages count_is in
    let here : PAGE_SIZE * copy + j ≡ PAGE_SIZE * (copies_start journal + place) + j = omega (arith, spot, first_is, pages) in
    ap content.byte here ∙ has.copies.each place j (omega (arith, count_is)) within

-- the count that page 0 says
pub count-there : (pages : FilePages) (content : Content) → SaysCount pages → HasPages pages content → word_at content.byte 32 ≡ pages.count
count-there pages content says has =
    let some : 0 < pages.count = says.some in
    word-same content.byte pages.byte 32 (λ k lt. has.bytes (32 + k) (omega arith) (inl (omega arith))) ∙ says.says

-- where the gate is open
pub carries-told : (image : Content) (pages : FilePages) → SaysCount pages → (by : RecoversBy image pages) → Carries by.journal pages
carries-told image pages says by = record {
  well_formed = by.tells.well_formed;
  some = says.some;
  copied = by.overlays.copied;
}

pub home-told : (image : Content) (pages : FilePages) → image.byte 64 ≡ 1 → (by : RecoversBy image pages) → IsHome by.journal pages image
home-told image pages is by = record {
  opened = is;
  journal_there = by.tells.there;
  others = by.overlays.others;
  size = by.overlays.size;
}

-- the same content
pub told-same : {T : Type 0} (result : Result T Refusal) (before now : Content) → now ≡ before
    → OnOk result (now.byte 64 ≡ 1 → IsTold now) → OnOk result (before.byte 64 ≡ 1 → IsTold before)
told-same result before now same told = subst (λ content. OnOk result (content.byte 64 ≡ 1 → IsTold content)) same told

pub on_damaged : {T P Q : Type 0} (result : Result T Refusal) → (P → Q) → OnDamaged result P → OnDamaged result Q
on_damaged (Err DamagedFile) more claim = more claim
on_damaged _ more claim = tt

-- a refusal that is passed on
pub damaged-passed : (T U P Q : Type 0) (e : Refusal) (answer : Result U Refusal) → answer ≡ Err e → (P → Q)
    → OnDamaged {T = T} (Err e) P → OnDamaged answer Q
damaged-passed T U P Q DamagedFile answer is more claim =
    subst (λ (passed : Result U Refusal). OnDamaged passed Q) (sym is) (more claim)
damaged-passed T U P Q _ answer is more claim =
    subst (λ (passed : Result U Refusal). OnDamaged passed Q) (sym is) tt

pub damaged-same : {T : Type 0} (result : Result T Refusal) (before now : Content) → now ≡ before
    → OnDamaged result (IsDamaged now) → OnDamaged result (IsDamaged before)
damaged-same result before now same damaged = subst (λ content. OnDamaged result (IsDamaged content)) same damaged

-- an open gate, and no journal that is well formed
pub damaged-by : (before now : Content) → now ≡ before → before.byte 64 ≡ 1
    → ((journal : Journal) → Tells now journal → PAGE_SIZE ≤ now.size → ⊥) → IsDamaged before
damaged-by before now same opened none =
    let none' : (journal : Journal) → Tells before journal → PAGE_SIZE ≤ before.size → ⊥
    = subst (λ (content : Content). (journal : Journal) → Tells content journal → PAGE_SIZE ≤ content.size → ⊥) same none in
    record {
      opened = opened;
      no_journal = none';
      no_pages = λ pages says gives.
          let by = gives.opened opened in
          let some : 0 < pages.count = says.some in
          let long : PAGE_SIZE * pages.count ≤ before.size = by.overlays.size in
          none' by.journal by.tells (omega arith);
    }

-- a gate that was closed stays closed where the file is cut, and past its end
pub cut-shut : (pages : ℕ) (a b : Content) → IsCutTo (PAGE_SIZE * pages) a b → ((i : ℕ) → b.size ≤ i → b.byte i ≡ 0)
    → a.byte 64 ≡ 0 → b.byte 64 ≡ 0
cut-shut pages a b cut zeros closed = elim (cases_lt 0 pages) [
  | inl some ↦ cut.kept 64 (omega arith) ∙ closed
  | inr none ↦ zeros 64 (omega (arith, cut.size))
]

-- a file that is cut to the count in page 0 says this count still
pub cut-counts : (pages : ℕ) (a b : Content) → IsCutTo (PAGE_SIZE * pages) a b → pages ≡ word_at a.byte 32 → HasNoMore b
cut-counts pages a b cut read = elim (cases_lt 0 pages) [
  | inl some ↦
      let still : word_at b.byte 32 ≡ word_at a.byte 32 = word-same b.byte a.byte 32 (λ k lt. cut.kept (32 + k) (omega arith)) in
      omega (arith, cut.size, read, still)
  | inr none ↦ omega (arith, cut.size)
]

pub is-cut : {T E : Type 0} (result : Result T E) (bound : ℕ) (P : Type 0) (a b : Content)
    → (IsCutTo bound a b → P) → CutsTo result bound a b → OnOk result P
is-cut (Ok _) bound P a b then cut = then cut
is-cut (Err _) bound P a b then cut = tt

module _ {D : Type 0} (d : disk.Ghosts D) where
  -- where the first sync fails
  pub recovered-unsynced : {T E : Type 0} (pages : FilePages) (result : Result T E) (old new : D) → IsErr result → Reaches d Same old new
      → IsTrue (d.is_honest old) → Recovers (d.seen old) pages → Recovered d pages result old new
  recovered-unsynced pages (Ok t) old new failed reaches honest gives = cc
  recovered-unsynced pages (Err e) old new failed reaches honest gives = record {
    done = tt;
    reads = subst (λ content. Recovers content pages) (sym (reaches.reads honest)) gives;
    images = λ keeps. inr (λ image left.
        let f = (reaches.images keeps).now image left in subst (d.may_leave old) (sym f.steps) f.was_left);
    meanwhile = λ keeps. record {
      each = λ start image left. elim ((reaches.images keeps).meanwhile start image left) [
        | inl before ↦ inl before
        | inr f ↦ inr (inr (subst (d.may_leave old) (sym f.steps) f.was_left))
      ];
    };
    from_sync = inl (record { failed = refl; before = reaches });
  }

  reads-by : {T E : Type 0} (pages : FilePages) (result : Result T E) (mid new : D)
      → Goes d (λ image. Recovers image pages) (IsQuiet pages) result mid new → Recovers (d.seen new) pages
  reads-by pages (Ok t) mid new goes = quiet-gives pages (d.seen new) goes.done.reads
  reads-by pages (Err e) mid new goes = goes.fault.reads

  images-by : {T E : Type 0} (pages : FilePages) (result : Result T E) (old mid new : D)
      → Goes d (λ image. Recovers image pages) (IsQuiet pages) result mid new → IsTrue (d.keeps_crashes new)
      → OnErr result (((image : Content) → d.may_leave new image → Recovers image pages)
      ⊎ ((image : Content) → d.may_leave new image → d.may_leave old image))
  images-by pages (Ok t) old mid new goes keeps = tt
  images-by pages (Err e) old mid new goes keeps = inl (goes.fault.images keeps)

  -- and where it doesn't
  pub recovered-synced : {T E : Type 0} (pages : FilePages) (result : Result T E) (old mid new : D) → Reaches d Same old mid → d.keeps_crashes new ≡ d.keeps_crashes mid
      → (IsTrue (d.keeps_crashes old) → Only (d.seen mid) (d.may_leave mid))
      → Goes d (λ image. Recovers image pages) (IsQuiet pages) result mid new → Recovered d pages result old new
  recovered-synced pages result old mid new reaches keeping durable goes = record {
    done = goes.done;
    reads = reads-by pages result mid new goes;
    images = λ keeps. images-by pages result old mid new goes (subst IsTrue (sym (keeping ∙ reaches.keeping)) keeps);
    meanwhile = λ keeps. record {
      each = λ start image left. elim ((goes.meanwhile (subst IsTrue (sym reaches.keeping) keeps)).each start image left) [
        | inl before ↦ elim ((reaches.images keeps).meanwhile start image before) [
          | inl earlier ↦ inl earlier
          | inr f ↦ inr (inr (subst (d.may_leave old) (sym f.steps) f.was_left))
        ]
        | inr is ↦ inr (inl is)
      ];
    };
    from_sync = inr (record { synced = mid; before = reaches; durable = durable; goes = goes });
  }

-- the home pages of a journal that is there lie in the file
pub home-inside : (journal : Journal) (content : Content) (place : ℕ) → Tells content journal → place < journal.count
    → PAGE_SIZE * journal.number place + PAGE_SIZE ≤ content.size
home-inside journal content place tells lt =
    let below : journal.number place < journal.first = tells.well_formed.below place lt in
    let reach : PAGE_SIZE * (copies_start journal + journal.count) ≤ content.size = tells.there.copies.inside (omega arith) in
    omega arith

-- what is there once the copies are home, the gate is closed and the file is cut
pub gave-by : (journal : Journal) (old home shut new : Content) (bound : ℕ) → Tells old journal → old.byte 64 ≡ 1
    → Brought journal old home → GateAlone home shut → CutOrNot (PAGE_SIZE * bound) shut new → GaveAll old new
gave-by journal old home shut new bound tells is brought gate cut = λ pages says has.
    let inside : 76 ≤ old.size = tells.there.fields.inside in
    let one : home.size ≤ old.size = brought.no_longer in
    let one' : old.size ≤ home.size = brought.others.no_shorter in
    let two : shut.size ≤ max home.size 65 = gate.no_longer in
    let reach : PAGE_SIZE * pages.count ≤ shut.size = elim cut [
      | inl done ↦ let long : PAGE_SIZE * pages.count ≤ new.size = has.size in omega (arith, done.size)
      | inr same ↦ let long : PAGE_SIZE * pages.count ≤ new.size = has.size in omega (arith, ap (λ (content : Content). content.size) same)
    ] in
    let uncut : (i : ℕ) → i < PAGE_SIZE * pages.count → new.byte i ≡ shut.byte i = λ i lt. elim cut [
      | inl done ↦ let long : PAGE_SIZE * pages.count ≤ new.size = has.size in done.kept i (omega (arith, done.size))
      | inr same ↦ ap (λ (content : Content). content.byte i) same
    ] in
    let at_home : (i : ℕ) → i < PAGE_SIZE * pages.count → IsOfPages i → home.byte i ≡ pages.byte i = λ i lt own.
    sym (gate.others.bytes i (omega arith) (not-gate i own)) ∙ sym (uncut i lt) ∙ has.bytes i lt own in
    record {
      opened = λ _. record {
        journal = journal;
        tells = tells;
        overlays = record {
          copied = λ k j lt within below own. sym (at_home (PAGE_SIZE * journal.number k + j) below own) ∙ brought.home.each k j lt within own;
          others = λ i lt own apart. sym (brought.others.bytes i (omega arith) (inl apart)) ∙ at_home i lt own;
          size = omega arith;
        };
      };
      shut = λ closed. absurd (closed is);
    }

-- where nothing was written
pub gave-closed : (old new : Content) → old.byte 64 ≢ 1 → new ≡ old → GaveAll old new
gave-closed old new closed same = λ pages says has. record {
  opened = λ is. absurd (closed is);
  shut = λ _. subst (HasPages pages) same has;
}

pub size-more : (old mid new word number : ℕ) → mid ≤ old → new ≤ max mid (PAGE_SIZE * word + PAGE_SIZE) → word ≡ number
    → PAGE_SIZE * number + PAGE_SIZE ≤ old → new ≤ old
size-more old mid new word number one two same inside = omega (arith, same)

pub gave-same : {T E : Type 0} (result : Result T E) (old mid new : Content) → mid ≡ old → OnOk result (GaveAll mid new) → OnOk result (GaveAll old new)
gave-same result old mid new same gave = subst (λ content. OnOk result (GaveAll content new)) same gave

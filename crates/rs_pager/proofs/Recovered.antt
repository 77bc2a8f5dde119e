-- What recovery leaves, with reads before it and after it.
use Rattle.std.specs.Prelude.{IfOk}
use Rattle.std.proofs.Common.{ℕ, ◌≡◌, ◌⊎◌, inl, inr, IsTrue, Result, Ok, Err, OnOk, OnErr, sym, refl, ◌∙◌, subst}
use Rattle.rs_disk.specs.Content.{Content}
use Rattle.rs_disk.specs.Crash.{Same, Only}
use Rattle.rs_disk.specs.Reaches.{Reaches}
use Rattle.rs_disk.specs.declared.disk.Disk as disk
use Rattle.rs_disk.proofs.Reaching.{same-then, through-then, through-less, through-none}
use Rattle.rs_page.specs.declared.file_header.FileHeader.{FileHeader}
use Rattle.rs_refusal.specs.declared.refusal.Refusal.{Refusal}
use Rattle.rs_refusal.specs.declared.refusal.Refusal.TheVariants.{DamagedFile}
use Rattle.rs_journal.specs.FilePages.{FilePages, HasPages}
use Rattle.rs_journal.specs.Journal.{Recovers}
use Rattle.rs_journal.specs.Recovery.{GaveAll, OnDamaged, Recovered, SaysCount}
use Rattle.rs_journal.specs.Stages.{EveryImage, Goes, IsQuiet, Meanwhile}
use Rattle.rs_journal.proofs.Advancing.{meanwhile-then, meanwhile-less, remains-same}
use Rattle.rs_journal.proofs.Recovering.{recovered-synced}
use Rattle.rs_journal.proofs.Staging.{quiet-gives}
use Rattle.rs_pager.specs.Opening.{FitsFirst, FitsSecond, IsNoSecond, RecoversFields, pages_of}
use Rattle.rs_pager.proofs.Versions.{first-shut, fits-by, has-own, says-by}

module _ {D : Type 0} (d : disk.Ghosts D) where
  -- one answer in place of another
  pub recovered-ok : {T E T' E' : Type 0} (pages : FilePages) (value : T) (other : T') (old new : D) → Recovered d {T = T} {E = E} pages (Ok value) old new
      → Recovered d {T = T'} {E = E'} pages (Ok other) old new
  recovered-ok pages value other old new is = record {
    done = is.done;
    reads = is.reads;
    images = λ keeps. tt;
    meanwhile = is.meanwhile;
    from_sync = elim is.from_sync [
      | inl none ↦ absurd (let failed = none.failed in cc)
      | inr from ↦ inr (record {
        synced = from.synced;
        before = from.before;
        durable = from.durable;
        goes = record { done = from.goes.done; fault = tt; meanwhile = from.goes.meanwhile };
      })
    ];
  }

  pub recovered-err : {T E T' E' : Type 0} (pages : FilePages) (why : E) (other : E') (old new : D) → Recovered d {T = T} {E = E} pages (Err why) old new
      → Recovered d {T = T'} {E = E'} pages (Err other) old new
  recovered-err pages why other old new is = record {
    done = tt;
    reads = is.reads;
    images = is.images;
    meanwhile = is.meanwhile;
    from_sync = elim is.from_sync [
      | inl none ↦ inl (record { failed = refl; before = none.before })
      | inr from ↦ inr (record {
        synced = from.synced;
        before = from.before;
        durable = from.durable;
        goes = record { done = tt; fault = from.goes.fault; meanwhile = from.goes.meanwhile };
      })
    ];
  }

  pub recovered-at : {T E : Type 0} (pages : FilePages) (result : Result T E) (old mid new : D) → new ≡ mid → Recovered d pages result old mid → Recovered d pages result old new
  recovered-at pages result old mid new same is = subst (λ (disk : D). Recovered d pages result old disk) (sym same) is

  images-before : {T E : Type 0} (pages : FilePages) (result : Result T E) (old mid new : D) → Reaches d Same old mid → IsTrue (d.keeps_crashes old)
      → OnErr result (((image : Content) → d.may_leave new image → Recovers image pages) ⊎ ((image : Content) → d.may_leave new image → d.may_leave mid image))
      → OnErr result (((image : Content) → d.may_leave new image → Recovers image pages) ⊎ ((image : Content) → d.may_leave new image → d.may_leave old image))
  images-before pages (Ok value) old mid new reaches keeps is = tt
  images-before pages (Err why) old mid new reaches keeps (inl gives) = inl gives
  images-before pages (Err why) old mid new reaches keeps (inr were) =
      inr (λ image left. let f = (reaches.images keeps).now image (were image left) in subst (d.may_leave old) (sym f.steps) f.was_left)

  -- reads before it
  pub recovered-before : {T E : Type 0} (pages : FilePages) (result : Result T E) (old mid new : D) → Reaches d Same old mid → Recovered d pages result mid new
      → Recovered d pages result old new
  recovered-before pages result old mid new reaches is = record {
    done = is.done;
    reads = is.reads;
    images = λ keeps. images-before pages result old mid new reaches keeps (is.images (subst IsTrue (sym reaches.keeping) keeps));
    meanwhile = λ keeps. record {
      each = λ start image left. elim ((is.meanwhile (subst IsTrue (sym reaches.keeping) keeps)).each start image left) [
        | inl before ↦ elim ((reaches.images keeps).meanwhile start image before) [
          | inl earlier ↦ inl earlier
          | inr f ↦ inr (inr (subst (d.may_leave old) (sym f.steps) f.was_left))
        ]
        | inr now ↦ elim now [
          | inl gives ↦ inr (inl gives)
          | inr was ↦ let f = (reaches.images keeps).now image was in inr (inr (subst (d.may_leave old) (sym f.steps) f.was_left))
        ]
      ];
    };
    from_sync = elim is.from_sync [
      | inl none ↦ inl (record { failed = none.failed; before = same-then d old mid new reaches none.before })
      | inr from ↦ inr (record {
        synced = from.synced;
        before = same-then d old mid from.synced reaches from.before;
        durable = λ keeps. from.durable (subst IsTrue (sym reaches.keeping) keeps);
        goes = from.goes;
      })
    ];
  }

  gives-on : {T E : Type 0} (pages : FilePages) (result : Result T E) (synced mid new : D) → d.keeps_crashes mid ≡ d.keeps_crashes synced
      → Meanwhile d (λ image. Recovers image pages) synced mid → EveryImage d (IsQuiet pages) new → Meanwhile d (λ image. Recovers image pages) mid new
      → Goes d (λ image. Recovers image pages) (IsQuiet pages) result synced new
  gives-on pages (Ok value) synced mid new keeping first every second = record {
    done = every;
    fault = tt;
    meanwhile = meanwhile-then d (λ image. Recovers image pages) synced mid new keeping first second;
  }
  gives-on pages (Err why) synced mid new keeping first every second = record {
    done = tt;
    fault = record { honest = every.honest; reads = quiet-gives pages (d.seen new) every.reads; images = λ keeps image left. quiet-gives pages image (every.images keeps image left) };
    meanwhile = meanwhile-then d (λ image. Recovers image pages) synced mid new keeping first second;
  }

  images-after : {T E : Type 0} (pages : FilePages) (result : Result T E) (old new : D) → ((image : Content) → d.may_leave new image → Recovers image pages)
      → OnErr result (((image : Content) → d.may_leave new image → Recovers image pages) ⊎ ((image : Content) → d.may_leave new image → d.may_leave old image))
  images-after pages (Ok value) old new gives = tt
  images-after pages (Err why) old new gives = inl gives

  done-after : {T E : Type 0} (pages : FilePages) (result : Result T E) (new : D) → EveryImage d (IsQuiet pages) new → OnOk result (EveryImage d (IsQuiet pages) new)
  done-after pages (Ok value) new every = every
  done-after pages (Err why) new every = tt

  -- and after it
  pub recovered-after : {T E T' E' : Type 0} (pages : FilePages) (value : T) (result : Result T' E') (old mid new : D) → d.keeps_crashes mid ≡ d.keeps_crashes old
      → Recovered d {T = T} {E = E} pages (Ok value) old mid → Reaches d Same mid new → Recovered d pages result old new
  recovered-after pages value result old mid new keeping is reaches =
      let remains = remains-same d (IsQuiet pages) mid new reaches is.done in
      let still = meanwhile-less d (IsQuiet pages) (λ image. Recovers image pages) mid new (quiet-gives pages) remains.meanwhile in
      record {
        done = done-after pages result new remains.every;
        reads = quiet-gives pages (d.seen new) remains.every.reads;
        images = λ keeps. images-after pages result old new
            (λ image left. quiet-gives pages image (remains.every.images (subst IsTrue (sym (reaches.keeping ∙ keeping)) keeps) image left));
        meanwhile = λ keeps. through-then d (λ image. Recovers image pages ⊎ d.may_leave old image) old mid new (is.meanwhile keeps)
            (through-less d (λ image. Recovers image pages) (λ image. Recovers image pages ⊎ d.may_leave old image) mid new (λ image gives. inl gives)
            (still (subst IsTrue (sym keeping) keeps)));
        from_sync = elim is.from_sync [
          | inl none ↦ absurd (let failed = none.failed in cc)
          | inr from ↦ inr (record {
            synced = from.synced;
            before = from.before;
            durable = from.durable;
            goes = gives-on pages result from.synced mid new (keeping ∙ sym from.before.keeping) from.goes.meanwhile remains.every still;
          })
        ];
      }

  -- a file that is only read, and synced
  pub recovered-read : {T E : Type 0} (pages : FilePages) (value : T) (old new : D) → Reaches d Same old new
      → (IsTrue (d.keeps_crashes old) → Only (d.seen new) (d.may_leave new)) → EveryImage d (IsQuiet pages) new
      → Recovered d {T = T} {E = E} pages (Ok value) old new
  recovered-read pages value old new reaches durable every = recovered-synced d pages (Ok value) old new new reaches refl durable
      (record { done = every; fault = tt; meanwhile = λ keeps. through-none d (λ image. Recovers image pages) new })

  -- what a sync leaves of content that holds this
  pub every-synced : (is_left : Content → Type 0) (old new : D) → Reaches d Same old new → IsTrue (d.is_honest old)
      → (IsTrue (d.keeps_crashes old) → Only (d.seen new) (d.may_leave new)) → is_left (d.seen new) → EveryImage d is_left new
  every-synced is_left old new reaches honest durable holds = record {
    honest = subst IsTrue (sym reaches.honesty) honest;
    reads = holds;
    images = λ keeps image left. subst is_left (sym (durable (subst IsTrue reaches.keeping keeps) image left)) holds;
  }

-- a file of version 1 is read, and synced
module _ {D : Type 0} (d : disk.Ghosts D) (limit : ℕ) (old new : D) (fields : FileHeader) (fits : FitsFirst limit (d.seen old) fields) (honest : IsTrue (d.is_honest old))
    (reaches : Reaches d Same old new) (durable : IsTrue (d.keeps_crashes old) → Only (d.seen new) (d.may_leave new)) where
  first-every : (pages : FilePages) → HasPages pages (d.seen old) → EveryImage d (IsQuiet pages) new
  first-every pages has = every-synced d (IsQuiet pages) old new reaches honest durable
      (subst (IsQuiet pages) (sym (reaches.reads honest)) (record { closed = first-shut (d.seen old) fields fits.header; pages_there = has }))

  pub first-quiet : EveryImage d (IsQuiet (pages_of (d.seen old) fields.pages)) new
  first-quiet = first-every (pages_of (d.seen old) fields.pages) (has-own (d.seen old) fields.pages fits.room)

  pub first-recovered : {T E : Type 0} (pages : FilePages) (value : T) → Recovers (d.seen old) pages → Recovered d {T = T} {E = E} pages (Ok value) old new
  first-recovered pages value gives =
      recovered-read d pages value old new reaches durable (first-every pages (gives.shut (first-shut (d.seen old) fields fits.header)))

module _ {D : Type 0} (d : disk.Ghosts D) (limit : ℕ) (old mid new : D) (honest : IsTrue (d.is_honest old))
    (recovers : (pages : FilePages) → SaysCount pages → Recovers (d.seen old) pages → Recovered d {T = Unit {0}} {E = Refusal} pages (Ok (tt {0})) old mid)
    (reaches : Reaches d Same mid new) where
  -- the pages that page 0 counts after it are the ones that were given before it
  pub recovers-fields : (result : Result FileHeader Refusal) → GaveAll (d.seen old) (d.seen mid) → IfOk result (FitsSecond limit (d.seen mid))
      → IfOk result (RecoversFields d limit old new)
  recovers-fields (Err why) gave fits = tt
  recovers-fields (Ok fields) gave fits =
      let says = says-by limit (d.seen mid) fields fits in
      let given = gave (pages_of (d.seen mid) fields.pages) says (has-own (d.seen mid) fields.pages fits.room) in
      let every : EveryImage d (IsQuiet (pages_of (d.seen mid) fields.pages)) mid = (recovers (pages_of (d.seen mid) fields.pages) says given).done in
      let quiet = (remains-same d (IsQuiet (pages_of (d.seen mid) fields.pages)) mid new reaches every).every in
      let same : d.seen mid ≡ d.seen new = sym (reaches.reads every.honest) in
      record {
        fits = subst (λ (content : Content). FitsSecond limit content fields) same fits;
        gave = subst (λ (content : Content). Recovers (d.seen old) (pages_of content fields.pages)) same given;
        quiet = subst (λ (content : Content). EveryImage d (IsQuiet (pages_of content fields.pages)) new) same quiet;
      }

  -- where page 0 doesn't fit after it, no pages that do were given
  pub recovers-none : ((fields : FileHeader) → FitsSecond limit (d.seen mid) fields → ⊥) → IsNoSecond (d.seen old) limit
  recovers-none none = record {
    none = λ map gives least within.
        none map.fields (fits-by map gives.pages (d.seen mid) limit gives.are (recovers gives.pages gives.are.says gives.recovers).done.reads.pages_there least within);
  }

-- the same of what was only read before it
pub recovers-before : {D : Type 0} (d : disk.Ghosts D) (limit : ℕ) (old mid new : D) (fields : FileHeader) → d.seen mid ≡ d.seen old → RecoversFields d limit mid new fields
    → RecoversFields d limit old new fields
recovers-before d limit old mid new fields same is = record {
  fits = is.fits;
  gave = subst (λ (content : Content). Recovers content (pages_of (d.seen new) fields.pages)) same is.gave;
  quiet = is.quiet;
}

-- what damaged bytes show
pub of-damaged : (T P : Type 0) (why : Refusal) → OnDamaged {T = T} (Err why) P → why ≡ DamagedFile → P
of-damaged T P why claim is = subst (λ (r : Refusal). OnDamaged {T = T} (Err r) P) is claim

-- What reads pass on, and why one is refused that others went before.
use Rattle.std.proofs.Common.{◌≡◌, ◌≤◌, ◌∙◌, ℕ, IsTrue, Result, Ok, Err, ap, inl, inr, refl, subst, sym, arith}
use Rattle.std.specs.Prelude.{IfErr, MatchResult}
use Rattle.rs_catalog.specs.Definitions.{Definitions}
use Rattle.rs_disk.specs.declared.disk.Disk as disk
use Rattle.rs_exec.specs.Snapshot.{Snapshots}
use Rattle.rs_file.specs.Calls.{RefusesToLoad}
use Rattle.rs_file.specs.declared.opened.OpenedFile.{OpenedFile}
use Rattle.rs_machine.specs.State.{State}
use Rattle.rs_pager.specs.Maps.{KeepsChanges}
use Rattle.rs_pager.specs.Opened.{CountsFault}
use Rattle.rs_pager.specs.Paged.{Paged}
use Rattle.rs_pages.proofs.Stores.{SamePages-trans}
use Rattle.rs_refusal.proofs.CountLemmas.{Rose-after_le, Rose_counted_on}
use Rattle.rs_refusal.specs.Counts.{Rose}
use Rattle.rs_refusal.specs.declared.refusal.Refusal.{Refusal}
use Rattle.rs_refusal.specs.declared.refusal.Refusal.TheVariants as refusal
use Rattle.rs_store.specs.Kept.{StandsIn, StoreState}
use Rattle.rs_store.proofs.Keeping.{keeps_store-refl, keeps_store-trans}
use Rattle.rs_store_source.specs.Reads.{Passes, StandsInNone, WantsReading}
use Rattle.rs_store_source.specs.Shown.{Shows, snapshot_at}

changes-refl : {D : Type 0} (p : Paged D) → KeepsChanges p p
changes-refl p = record { held = λ n. refl; lacks = refl; committed_fields = refl; working_fields = refl }

changes-trans : {D : Type 0} (a b c : Paged D) → KeepsChanges a b → KeepsChanges b c → KeepsChanges a c
changes-trans a b c one other = record {
  held = λ n. other.held n ∙ one.held n;
  lacks = other.lacks ∙ one.lacks;
  committed_fields = other.committed_fields ∙ one.committed_fields;
  working_fields = other.working_fields ∙ one.working_fields;
}

module _ {D : Type 0} (d : disk.Ghosts D) where
  -- ---- what passes

  pub passes_refl : (store : StoreState D) → Passes d store store
  passes_refl store = record {
    keeps = keeps_store-refl d store;
    tied = λ tied. tied;
    committed_pages = λ tied. record { fields = refl; pages = λ n. refl };
    working_pages = λ tied. record { fields = refl; pages = λ n. refl };
    changes = changes-refl store.pager;
    seen = λ honest. refl;
    failures = omega arith;
  }

  pub passes_trans : (a b c : StoreState D) → Passes d a b → Passes d b c → Passes d a c
  passes_trans a b c one other = record {
    keeps = keeps_store-trans d a b c one.keeps other.keeps;
    tied = λ tied. other.tied (one.tied tied);
    committed_pages = λ tied. SamePages-trans _ _ _ (other.committed_pages (one.tied tied)) (one.committed_pages tied);
    working_pages = λ tied. SamePages-trans _ _ _ (other.working_pages (one.tied tied)) (one.working_pages tied);
    changes = changes-trans a.pager b.pager c.pager one.changes other.changes;
    seen = λ honest. other.seen (subst IsTrue (sym one.keeps.honesty) honest) ∙ one.seen honest;
    failures = omega (arith, one.failures, other.failures);
  }

  -- a store stands where it stood
  abbrev pub stands_on : (oldest : ℕ) (a b : StoreState D) → Passes d a b → (state : State) → StandsIn d oldest a state → StandsIn d oldest b state
  stands_on oldest a b passes state stands = record {
    contents = stands.contents;
    keeps = passes.keeps.contents stands.contents stands.keeps;
    live = stands.live;
    meant = stands.meant;
    is = stands.is;
    views = stands.views;
  }

  -- and shows what it showed
  pub shows_on : (oldest : ℕ) (a b : StoreState D) → Passes d a b → (snapshots : Snapshots) → Shows d oldest a snapshots → Shows d oldest b snapshots
  shows_on oldest a b passes snapshots shows = record {
    state = shows.state;
    stands = stands_on oldest a b passes shows.state shows.stands;
    live = λ version low high.
        shows.live version low (subst (λ (file : OpenedFile). version ≤ file.accepted) passes.keeps.file high)
        ∙ ap (λ (catalog : Definitions). snapshot_at catalog shows.stands.contents version) (sym passes.keeps.catalog);
    others = λ version out. shows.others version (λ low high. out low (subst (λ (file : OpenedFile). version ≤ file.accepted) (sym passes.keeps.file) high));
    nowhere = λ version out. shows.nowhere version (λ low high. out low (subst (λ (file : OpenedFile). version ≤ file.accepted) (sym passes.keeps.file) high));
  }

  -- ---- why a read is refused

  pub wants_memory : (a b : StoreState D) → WantsReading d refusal.OutOfMemory a b
  wants_memory a b = inl refl

  pub wants_later : (why : Refusal) (a b c : StoreState D) → Passes d a b → WantsReading d why b c → WantsReading d why a c
  wants_later why a b c passes (inl memory) = inl memory
  wants_later why a b c passes (inr (inl failed)) = inr (inl (failed.0, Rose-after_le (d.failures a.pager.disk) (d.failures b.pager.disk) (d.failures c.pager.disk) passes.failures failed.1))
  wants_later why a b c passes (inr (inr damaged)) = inr (inr (damaged.0, record { none = λ oldest state stands. damaged.1.none oldest state (stands_on oldest a b passes state stands) }))

  -- a refusal that counts the disk's failures, and is no damage where the store stands
  pub wants_counted : {T : Type 0} (result : Result T Refusal) (old new : StoreState D) → RefusesToLoad result
      → MatchResult result (λ _. d.failures new.pager.disk ≡ d.failures old.pager.disk) (λ why. CountsFault why (d.failures old.pager.disk) (d.failures new.pager.disk)) → (result ≡ Err refusal.DamagedFile → StandsInNone d old)
      → IfErr result (λ why. WantsReading d why old new)
  wants_counted (Ok x) old new refused counts none = tt
  wants_counted (Err why) old new (inl memory) counts none = inl memory
  wants_counted (Err why) old new (inr (inl failed)) counts none =
      inr (inl (failed, subst (Rose (d.failures old.pager.disk)) (sym (counts.disk failed)) (Rose_counted_on (d.failures old.pager.disk))))
  wants_counted (Err why) old new (inr (inr damaged)) counts none = inr (inr (damaged, none (λ i. Err (damaged i))))

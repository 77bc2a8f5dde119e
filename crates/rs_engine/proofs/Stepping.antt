-- A change of the state: its step is taken beside the cursors, and the machine's step is lawful.
use Rattle.std.proofs.Common.{◌≡◌, ◌∙◌, ◌<◌, ◌≤◌, ◌+◌, ◌⊎◌, ℕ, Result, Ok, Err, [], ap, false, inl, inr, refl, subst, sym, arith}
use Rattle.rs_command_checks.specs.States.{Unseen, state_by}
use Rattle.rs_command_checks.specs.declared.checks.Checks.{Checks}
use Rattle.rs_disk.specs.declared.disk.Disk as disk
use Rattle.rs_engine.specs.Kept.{AreChecksOf, EngineState, IsMachine, IsOldestIn, with_cursors}
use Rattle.rs_file.specs.Contents.{Contents}
use Rattle.rs_engine.specs.Clearing.{ByChange, IsServedClearing}
use Rattle.rs_engine.specs.Serving.{IsServed}
use Rattle.rs_engine.proofs.Clearing.{cleared_by_change, refused_clearing}
use Rattle.rs_engine.proofs.Machines.{at_machine, cursors_in, made_by_store, refused_by_checks, refused_by_store, wanting_memory}
use Rattle.rs_engine.proofs.Nobody.{nobody_waits}
use Rattle.rs_engine.specs.Laws.{StoreLaws}
use Rattle.rs_machine.specs.Lawful.{IsLawful}
use Rattle.rs_machine.specs.Served.{Machine, Reply, done, refused}
use Rattle.rs_machine.specs.State.{Cursors, State, no_cursors, some_cursor}
use Rattle.rs_machine.specs.Step.{Effect, counted, outcome}
use Rattle.rs_machine.specs.declared.limits.TheConstants.{SESSIONS}
use Rattle.rs_refusal.specs.declared.refusal.Refusal.{Refusal}
use Rattle.rs_refusal.specs.declared.refusal.Refusal.TheVariants.{OutOfMemory}
use Rattle.rs_store_source.specs.Changing.{HasBecome, LeavesStore}
use Rattle.rs_syntax.specs.Sound.{IsSound}
use Rattle.rs_syntax.specs.Tree.{CommandTree, reopen}

-- what the law of a step says
abbrev pub StepsAreLawful : Type 0
StepsAreLawful = (state : State) (session : ℕ) (tree : CommandTree) (effect : Effect) → session < SESSIONS → IsSound tree → IsLawful state → outcome state session tree ≡ Ok effect → IsLawful effect.state

-- a change of the state, which does not look at cursors
pub record IsStep (step : State → State) : Type 0 where
  pub beside : (cursors : ℕ → Cursors) (state : State) → step (with_cursors cursors state) ≡ with_cursors cursors (step state)
  pub none : (state : State) → (step state).cursors ≡ state.cursors

module _ (steps : StepsAreLawful) where
  -- a state without cursors is lawful where it is so beside some
  pub lawful_alone : (cursors : ℕ → Cursors) (state : State) → state.cursors ≡ no_cursors → IsLawful (with_cursors cursors state) → IsLawful state
  lawful_alone cursors state none lawful =
      let without : IsLawful (record state { cursors = no_cursors }) =
      steps (with_cursors cursors state) 0 reopen (counted 0 (record state { cursors = no_cursors })) (omega arith) tt lawful refl in
      subst (λ (c : ℕ → Cursors). IsLawful (record state { cursors = c })) (sym none) without

  module _ {D : Type 0} (d : disk.Ghosts D) (laws : StoreLaws d) (old : EngineState D) (machine : Machine) (is : IsMachine d old machine) (tree : CommandTree) (sound : IsSound tree)
      (step : State → State) (takes : IsStep step) where
    -- the state of a file has no cursors
    pub no_cursors_there : is.state.cursors ≡ no_cursors
    no_cursors_there = ap (λ (state : State). state.cursors) (laws.state old.oldest old.store is.state is.stands)

    module _ (count : ℕ) (out : outcome machine.state 0 tree ≡ Ok (counted count (step machine.state))) where
      -- the machine's next state is that of the file beside the cursors
      pub next_beside : step machine.state ≡ with_cursors (cursors_in d old machine is) (step is.state)
      next_beside = ap step is.is ∙ takes.beside (cursors_in d old machine is) is.state

      pub next_lawful : IsLawful (with_cursors (cursors_in d old machine is) (step is.state))
      next_lawful = subst IsLawful next_beside (steps machine.state 0 tree (counted count (step machine.state)) (omega arith) sound is.lawful out)

      -- and it is lawful without them
      pub next_lawful_alone : IsLawful (step is.state)
      next_lawful_alone = lawful_alone (cursors_in d old machine is) (step is.state) (takes.none is.state ∙ no_cursors_there) next_lawful

      -- versions from the oldest one on are looked at once the change is made
      module _ (oldest : ℕ) (least : IsOldestIn old (old.store.file.accepted + 1) oldest) where
        pub oldest_after : old.oldest ≤ oldest
        oldest_after = least.greatest old.oldest (omega (arith, is.stands.live, is.stands.keeps.opened.accepted)) (λ session name cursor there. (is.live.each session name cursor there).from)

        -- where no cursor is open, that is the version of the change
        pub oldest_alone : some_cursor machine.state.cursors ≡ false → oldest ≡ old.store.file.accepted + 1
        oldest_alone none =
            let all = least.greatest (old.store.file.accepted + 1) (omega arith) (λ session name cursor there. absurd (nobody_waits d old machine is none session name cursor there)) in
            omega (arith, all, least.within)

        -- the store made the change
        pub step_made : {T : Type 0} (may : State → Type 0) (new : EngineState D) (answer : T) → LeavesStore d may {T = T} (Ok answer) old.store new.store
            → (new.cursors ≡ old.cursors) × (new.oldest ≡ oldest)
            → HasBecome d oldest is.stands.contents new.store (step is.state) → IsServedClearing d ByChange (outcome machine.state 0 tree) machine is.stands.contents (done [] count) new
        step_made may new answer leaves same becomes = record {
          served = made_by_store d laws old new machine is (step is.state) oldest least becomes same.0 may (outcome machine.state 0 tree) answer count leaves same.1
              (out ∙ ap (λ (state : State). Ok (counted count state)) next_beside) next_lawful;
          cleared = cleared_by_change d old new is.stands.contents (step is.state) oldest least same.0 leaves.accepted same.1 next_lawful_alone becomes;
        }

      -- the store refused it
      pub step_refused : {T : Type 0} (may : State → Type 0) (new : EngineState D) (why : Refusal) → LeavesStore d may {T = T} (Err why) old.store new.store → (new.cursors ≡ old.cursors) × (new.oldest ≡ old.oldest)
          → (IsLawful (step is.state) → may is.state) → (before : Contents) → IsServedClearing d ByChange (outcome machine.state 0 tree) machine before (refused why) new
      step_refused may new why leaves same allowed before =
          refused_clearing d (refused_by_store d may old new machine is (outcome machine.state 0 tree) why leaves same (allowed next_lawful_alone))

-- ---- a call that checks its command, and then has the store make the change

module _ (steps : StepsAreLawful) {D : Type 0} (d : disk.Ghosts D) (laws : StoreLaws d) (old was : EngineState D) (same : old ≡ was) (checks : Checks) (are : AreChecksOf was checks)
    (machine : Machine) (here : IsMachine d was machine) (tree : CommandTree) where
  abbrev before : IsMachine d old machine
  before = subst (λ (engine : EngineState D). IsMachine d engine machine) (sym same) here

  -- it is answered so, and has cleared what it owes of what the store kept
  abbrev pub Answered : Reply → EngineState D → Type 0
  Answered = IsServedClearing d ByChange (outcome machine.state 0 tree) machine here.stands.contents

  -- what is so whichever spans tables have is so of the machine's state
  abbrev pub Found : Type 1
  Found = (P : State → Type 0) → ((unseen : Unseen) → P (state_by checks unseen)) → P machine.state

  pub found : Found
  found P each = at_machine d laws was checks machine here are P each

  -- and of the file's state, where cursors don't matter
  abbrev pub FoundOf : IsMachine d old machine → Type 1
  FoundOf is = (P : State → Type 0) → ((one : State) → P (with_cursors (cursors_in d old machine is) one) → P one) → ((unseen : Unseen) → P (state_by checks unseen)) → P is.state

  found_of : (is : IsMachine d old machine) → FoundOf is
  found_of is P alone each = alone is.state (subst P is.is (found P each))

  -- the machine refuses it, and so did the checks
  pub check_refused_at : (result : Result ℕ Refusal) (answer : Result ℕ Refusal → Reply) (why : Refusal) (new : EngineState D) → new ≡ was → result ≡ Err why → answer (Err why) ≡ refused why
      → outcome machine.state 0 tree ≡ Err why → Answered (answer result) new
  check_refused_at result answer why new unchanged is says refuses =
      subst (λ (reply : Reply). Answered reply new) (sym (ap answer is ∙ says))
      (refused_clearing d (refused_by_checks d was new machine here unchanged (outcome machine.state 0 tree) why refuses))

  -- the checks refused it
  pub check_refused : (result : Result ℕ Refusal) (answer : Result ℕ Refusal → Reply) (why : Refusal) (new : EngineState D) → new ≡ was → result ≡ Err why → answer (Err why) ≡ refused why
      → ((unseen : Unseen) → outcome (state_by checks unseen) 0 tree ≡ Err why) → Answered (answer result) new
  check_refused result answer why new unchanged is says out =
      check_refused_at result answer why new unchanged is says (found (λ (state : State). outcome state 0 tree ≡ Err why) out)

  -- they did, or memory was wanting
  pub check_wanting : (result : Result ℕ Refusal) (answer : Result ℕ Refusal → Reply) (why : Refusal) (new : EngineState D) → new ≡ was → result ≡ Err why → answer (Err why) ≡ refused why
      → ((unseen : Unseen) → (why ≡ OutOfMemory) ⊎ (outcome (state_by checks unseen) 0 tree ≡ Err why)) → Answered (answer result) new
  check_wanting result answer why new unchanged is says out =
      let served : IsServed d (outcome machine.state 0 tree) machine (refused why) new = elim (found (λ (state : State). (why ≡ OutOfMemory) ⊎ (outcome state 0 tree ≡ Err why)) out) [
        | inl memory ↦ subst (λ (w : Refusal). IsServed d (outcome machine.state 0 tree) machine (refused w) new) (sym memory)
            (wanting_memory d was new machine here unchanged (outcome machine.state 0 tree))
        | inr refuses ↦ refused_by_checks d was new machine here unchanged (outcome machine.state 0 tree) why refuses
      ] in
      subst (λ (reply : Reply). Answered reply new) (sym (ap answer is ∙ says)) (refused_clearing d served)

  -- versions from the oldest one on are looked at once the change is made
  abbrev pub IsLeast : ℕ → Type 0
  IsLeast oldest = IsOldestIn was (was.store.file.accepted + 1) oldest

  least_of : (oldest : ℕ) → IsLeast oldest → IsOldestIn old (old.store.file.accepted + 1) oldest
  least_of oldest least = subst (λ (engine : EngineState D). IsOldestIn engine (engine.store.file.accepted + 1) oldest) (sym same) least

  -- that is the version of the change where no cursor is open
  abbrev pub AloneAt : ℕ → Type 0
  AloneAt oldest = some_cursor machine.state.cursors ≡ false → oldest ≡ old.store.file.accepted + 1

  module _ (sound : IsSound tree) (step : State → State) (takes : IsStep step) (count : ℕ) where
    module _ (out : outcome machine.state 0 tree ≡ Ok (counted count (step machine.state))) where
      -- what follows of the file's state and of the next one
      pub by_step : {X : Type 0} (oldest : ℕ) → IsLeast oldest
          → ((is : IsMachine d old machine) → old.oldest ≤ oldest → oldest ≤ old.store.file.accepted + 1 → IsLawful (step is.state) → X) → X
      by_step oldest least follows =
          follows before (oldest_after steps d laws old machine before tree sound step takes count out oldest (least_of oldest least)) (least_of oldest least).within
          (next_lawful_alone steps d laws old machine before tree sound step takes count out)

      -- the store made what the checks accepted
      pub made_at : {T : Type 0} (may : State → Type 0) (new : EngineState D) (answer : T) → LeavesStore d may {T = T} (Ok answer) old.store new.store
          → (oldest : ℕ) → (new.cursors ≡ old.cursors) × (new.oldest ≡ oldest) → IsLeast oldest
          → ((is : IsMachine d old machine) → FoundOf is → old.oldest ≤ oldest → oldest ≤ old.store.file.accepted + 1 → AloneAt oldest
          → IsLawful (step is.state) → HasBecome d oldest is.stands.contents new.store (step is.state)) → Answered (done [] count) new
      made_at may new answer leaves oldest stays least becomes =
          let least_here = least_of oldest least in
          subst (λ (engine : EngineState D). (is : IsMachine d engine machine) → IsServedClearing d ByChange (outcome machine.state 0 tree) machine is.stands.contents (done [] count) new) same
          (λ is. step_made steps d laws old machine is tree sound step takes count out oldest least_here may new answer leaves stays
          (becomes is (found_of is) (oldest_after steps d laws old machine is tree sound step takes count out oldest least_here) least_here.within
          (oldest_alone steps d laws old machine is tree sound step takes count out oldest least_here)
          (next_lawful_alone steps d laws old machine is tree sound step takes count out))) here

      -- the store refused it
      pub refused_at : {T : Type 0} (may : State → Type 0) (new : EngineState D) (result : Result ℕ Refusal) (answer : Result ℕ Refusal → Reply) (why : Refusal)
          → LeavesStore d may {T = T} (Err why) old.store new.store → (new.cursors ≡ old.cursors) × (new.oldest ≡ old.oldest) → ((is : IsMachine d old machine) → FoundOf is → IsLawful (step is.state) → may is.state)
          → result ≡ Err why → answer (Err why) ≡ refused why → Answered (answer result) new
      refused_at may new result answer why leaves stays allowed is says =
          subst (λ (reply : Reply). Answered reply new) (sym (ap answer is ∙ says))
          (step_refused steps d laws old machine before tree sound step takes count out may new why leaves stays (allowed before (found_of before)) here.stands.contents)

    -- the same where the checks accept it whatever they don't look at
    module _ (accepted : (unseen : Unseen) → outcome (state_by checks unseen) 0 tree ≡ Ok (counted count (step (state_by checks unseen)))) where
      out : outcome machine.state 0 tree ≡ Ok (counted count (step machine.state))
      out = found (λ (state : State). outcome state 0 tree ≡ Ok (counted count (step state))) accepted

      pub change_made : {T : Type 0} (may : State → Type 0) (new : EngineState D) (answer : T) → LeavesStore d may {T = T} (Ok answer) old.store new.store
          → (oldest : ℕ) → (new.cursors ≡ old.cursors) × (new.oldest ≡ oldest) → IsLeast oldest
          → ((is : IsMachine d old machine) → FoundOf is → old.oldest ≤ oldest → oldest ≤ old.store.file.accepted + 1 → AloneAt oldest
          → IsLawful (step is.state) → HasBecome d oldest is.stands.contents new.store (step is.state)) → Answered (done [] count) new
      change_made = made_at out

      pub change_refused : {T : Type 0} (may : State → Type 0) (new : EngineState D) (result : Result ℕ Refusal) (answer : Result ℕ Refusal → Reply) (why : Refusal)
          → LeavesStore d may {T = T} (Err why) old.store new.store → (new.cursors ≡ old.cursors) × (new.oldest ≡ old.oldest) → ((is : IsMachine d old machine) → FoundOf is → IsLawful (step is.state) → may is.state)
          → result ≡ Err why → answer (Err why) ≡ refused why → Answered (answer result) new
      change_refused = refused_at out

-- A store stands in one state, which its parts say; a disk stands for one.
use Rattle.std.proofs.Common.{◌≡◌, ◌∙◌, ℕ, refl, subst, sym, ap}
use Rattle.std.proofs.Math.Path.{fun_ext}
use Rattle.rs_catalog.specs.Definitions.{state_from}
use Rattle.rs_catalog.specs.Referents.{referents_on}
use Rattle.rs_disk.specs.Content.{Content}
use Rattle.rs_disk.specs.declared.disk.Disk as disk
use Rattle.rs_facts.specs.Fact.{Names}
use Rattle.rs_file.specs.Contents.{Contents}
use Rattle.rs_machine.specs.State.{State, no_cursors}
use Rattle.rs_pager.specs.Maps.{committed}
use Rattle.rs_pager.specs.Versions.{IsFileOfPages}
use Rattle.rs_pages.specs.PageMap.{PageMap, SamePages}
use Rattle.rs_file.proofs.Loaded.{same_map}
use Rattle.rs_file_meaning.specs.Seen.{referents_seen, spans_seen}
use Rattle.rs_file_meaning.specs.Standing.{StandsFor}
use Rattle.rs_file_meaning.specs.States.{IsStateAt}
use Rattle.rs_store.specs.Kept.{StandsIn, StoreState}
use Rattle.rs_store.specs.Standing.{IsFileOf}
use Rattle.rs_store.proofs.Same.{FileHoldsOne, SameSays, SameState, state_moves}

-- what is said of contents and their states
abbrev pub HasOneState : Type 0
HasOneState = (version : ℕ) (contents : Contents) (one other : State) → IsStateAt version contents one → IsStateAt version contents other → one ≡ other

module _ {D : Type 0} (d : disk.Ghosts D) where
  pub one_state : FileHoldsOne → SameSays → HasOneState → SameState → (oldest from : ℕ) (store : StoreState D) (one other : State)
      → StandsIn d oldest store one → StandsIn d from store other → one ≡ other
  one_state one_thing says alone alike oldest from store one other is are =
      let same = one_thing (committed d store.pager) is.contents are.contents is.keeps.holds are.keeps.holds in
      alone are.contents.directory.accepted are.contents one other (state_moves says alike is.contents are.contents one same is.is) are.is

  pub state_is : HasOneState → (oldest : ℕ) (store : StoreState D) (state : State) (stands : StandsIn d oldest store state)
      → state ≡ state_from store.catalog (λ (route : ℕ). referents_on store.referents route) (spans_seen stands.contents store.file.accepted)
      (record { changes = store.file.accepted; cursors = no_cursors })
  state_is alone oldest store state stands =
      let contents = stands.contents in
      let level = contents.directory.accepted in
      alone level contents state (state_from store.catalog (referents_seen contents level) (spans_seen contents level) (record { changes = level; cursors = no_cursors })) stands.is
      (record { definitions = store.catalog; are = stands.keeps.memory.catalog; is = refl })
      ∙ ap (λ (seen : ℕ → Names ℕ). state_from store.catalog seen (spans_seen contents level) (record { changes = level; cursors = no_cursors })) (sym (fun_ext stands.keeps.memory.referents))
      ∙ ap (λ (version : ℕ). state_from store.catalog (λ (route : ℕ). referents_on store.referents route) (spans_seen contents version) (record { changes = version; cursors = no_cursors })) stands.keeps.opened.accepted

-- what is said of disks and of their pages
abbrev pub DiskHasOneMap : Type 0
DiskHasOneMap = (content : Content) (one other : PageMap) → IsFileOfPages content one → IsFileOfPages content other → SamePages one other

abbrev pub PagesHaveOneState : Type 0
PagesHaveOneState = (pages : PageMap) (contents others : Contents) (one other : State) → StandsFor pages contents one → StandsFor pages others other → one ≡ other

pub disk_one : DiskHasOneMap → PagesHaveOneState → (limit most : ℕ) (disk : Content) (one other : State) → IsFileOf limit disk one → IsFileOf most disk other → one ≡ other
disk_one one_map alone limit most disk one other is are =
    let pages : is.pages ≡ are.pages = same_map is.pages are.pages (one_map disk is.pages are.pages is.stores are.stores) in
    alone are.pages is.stand.contents are.stand.contents one other (subst (λ (map : PageMap). StandsFor map is.stand.contents one) pages is.stand.stands) are.stand.stands

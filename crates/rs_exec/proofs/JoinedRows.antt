-- Of the rows that are made on each of several routes no two spans are one run.
use Rattle.std.proofs.Common.{◌≡◌, ℕ, true, false, List, [], ◌∷◌, map, refl, sym, subst}
use Rattle.std.specs.Prelude.{◌==◌, Vec}
use Rattle.std.specs.declared.alloc.Global.{Global}
use Rattle.std.specs.List.{AllZip}
use Rattle.rs_value.specs.declared.column.Kind.{Kind}
use Rattle.rs_facts.specs.declared.fact.Span.{Span}
use Rattle.rs_facts.specs.Query.{overlaid_kind}
use Rattle.rs_facts.specs.Runs.{Stretch}
use Rattle.rs_facts.specs.Spans.{seen, places_of}
use Rattle.rs_coalesce.specs.Joined.{AreJoined}
use Rattle.rs_coalesce.proofs.Separate.{joined-from_separate, joined-from_runs}
use Rattle.rs_exec.specs.Snapshot.{Snapshots}
use Rattle.rs_exec.specs.Meaning.{PlanMeaning, kinds_together}
use Rattle.rs_exec.specs.Operand.{paired_meaning}
use Rattle.rs_exec.specs.declared.carrying.Sources.{Sources}
use Rattle.rs_exec.specs.declared.changes.Change.{Change}
use Rattle.rs_exec.specs.declared.pairs.Pairing.{Pairing}
use Rattle.rs_exec.specs.declared.pairs.Pairing.TheVariants as pairings
use Rattle.rs_exec.specs.Carried.{IsCarried}
use Rattle.rs_exec.specs.Changes.{ChangeKeepsJoined, IsChanged}
use Rattle.rs_exec.specs.Held.{AreHeld, AreLaidOver, IsJoinedIn, AreJoinedIn}
use Rattle.rs_exec.specs.Joined.{HasRuns}
use Rattle.rs_exec.specs.Pairs.{paired_kind}
use Rattle.rs_exec.specs.Routes.{HasNone, AreNone}
use Rattle.rs_exec.specs.Windows.{IsSpread}
use Rattle.rs_exec.proofs.Lists.{every-weaker, zip-seconds}
use Rattle.rs_exec.proofs.Tests.{is-number, no-number}

-- of no spans no two are one run
pub none-joined : (kind : Kind) (made : Vec Span Global) → made.items ≡ [] → AreJoined kind (map seen made.items)
none-joined kind made bare = subst (λ (spans : List Span). AreJoined kind (map seen spans)) (sym bare) (joined-from_separate kind [] tt)

-- what stood for later snapshots stood for earlier ones
pub joined-earlier : (was is : Snapshots → Type 0) (kind : Kind) (rows : List (Vec Span Global)) → ((snapshots : Snapshots) → was snapshots → is snapshots) → AreJoinedIn is kind rows → AreJoinedIn was kind rows
joined-earlier was is kind rows stands all = every-weaker (IsJoinedIn is kind) (IsJoinedIn was kind) rows (λ each joined snapshots there. joined snapshots (stands snapshots there)) all

-- the kind of what two operands make
pub paired_kind-is : (pairing : Pairing) (a b : PlanMeaning) → paired_kind pairing a.kind b.kind ≡ (paired_meaning pairing a b).kind
paired_kind-is pairings.Overlay a b = refl
paired_kind-is (pairings.Cover m n) a b = refl
paired_kind-is pairings.Merge a b = refl
paired_kind-is pairings.Minus a b = refl

module _ (stands : Snapshots → Type 0) where
  pub nowhere-joined : (kind : Kind) (numbers : List ℕ) (rows : List (Vec Span Global)) → AreNone numbers rows → AreJoinedIn stands kind rows
  nowhere-joined kind numbers rows bare = zip-seconds (λ (number : ℕ) each. HasNone each) (IsJoinedIn stands kind) numbers rows (λ number each none snapshots there. none-joined kind each none) bare

  -- maximal runs are
  pub runs-joined : (kind : Kind) (old new : List (Vec Span Global)) → AllZip (HasRuns kind) old new → AreJoinedIn stands kind new
  runs-joined kind old new all = zip-seconds (HasRuns kind) (IsJoinedIn stands kind) old new (λ o n are snapshots there. joined-from_runs kind (places_of (map seen o.items)) (map seen n.items) are.runs) all

  -- rows that stay as they are
  pub changed-joined : (change : Change) (kind : Kind) (old new : List (Vec Span Global)) → ChangeKeepsJoined change → AllZip (IsChanged change) old new → AreJoinedIn stands kind old → AreJoinedIn stands kind new
  changed-joined change kind [] [] keeps all joined = tt
  changed-joined change kind [] (n ∷ new) keeps all joined = absurd all
  changed-joined change kind (o ∷ old) [] keeps all joined = tt
  changed-joined change kind (o ∷ old) (n ∷ new) keeps all joined = (λ snapshots there. all.0.joined kind keeps (joined.0 snapshots there), changed-joined change kind old new keeps all.1 joined.1)

  -- the first operand, and those laid over it
  pub together-joined : (version : ℕ) (first : PlanMeaning) (others : List PlanMeaning) (numbers : List ℕ) (old new : List (Vec Span Global)) → AreHeld stands version first numbers old → AreLaidOver stands version first.kind others numbers old new
      → AreJoinedIn stands first.kind old → AreJoinedIn stands (overlaid_kind first.kind (kinds_together others)) new
  together-joined version first others [] [] [] held laid joined = tt
  together-joined version first others [] [] (n ∷ new) held laid joined = absurd laid
  together-joined version first others [] (o ∷ old) new held laid joined = absurd held
  together-joined version first others (number ∷ numbers) [] new held laid joined = absurd held
  together-joined version first others (number ∷ numbers) (o ∷ old) [] held laid joined = tt
  together-joined version first others (number ∷ numbers) (o ∷ old) (n ∷ new) held laid joined = (
    λ snapshots there. laid.0.joined snapshots there first.width held.0.shaped (joined.0 snapshots there),
    together-joined version first others numbers old new held.1 laid.1 joined.1,
  )

  -- what pieces carry
  pub carried-joined : (sources : Sources) (kind : Kind) (numbers : List ℕ) (rows : List (Vec Span Global)) → sources.kind ≡ kind → AllZip (IsCarried sources) numbers rows → AreJoinedIn stands kind rows
  carried-joined sources kind numbers rows same all =
      zip-seconds (IsCarried sources) (IsJoinedIn stands kind) numbers rows
      (λ number each carries snapshots there. subst (λ k. AreJoined k (map seen each.items)) same carries.joined) all

  -- spans on the one route, and none on another
  pub spread-joined : (kind : Kind) (route : ℕ) (spans : List Stretch) (numbers : List ℕ) (made : List (Vec Span Global)) → ((snapshots : Snapshots) → stands snapshots → AreJoined kind spans) → AllZip (IsSpread route spans) numbers made → AreJoinedIn stands kind made
  spread-joined kind route spans numbers made joined all =
      zip-seconds (IsSpread route spans) (IsJoinedIn stands kind) numbers made
      (λ number each spread snapshots there. elim (number == route) as (λ b. (number == route) ≡ b → AreJoined kind (map seen each.items)) [
        | true ↦ λ e. subst (AreJoined kind) (sym (spread.here (is-number number route e))) (joined snapshots there)
        | false ↦ λ e. none-joined kind each (spread.elsewhere (no-number number route e))
      ] refl) all

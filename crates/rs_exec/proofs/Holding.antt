-- Rows that are made on each of several routes are rows of a plan on each of them.
use Rattle.std.proofs.Common.{◌≡◌, ◌≢◌, ◌≤◌, ℕ, ◌+◌, Bor, Bool, true, false, ◌&&◌, List, [], ◌∷◌, map, length, refl, sym, ap, ◌∙◌, subst, arith}
use Rattle.std.proofs.lemmas.Bool.{and_parts}
use Rattle.std.proofs.lemmas.Bool.Decides.{nat_tests}
use Rattle.std.specs.Prelude.{◌==◌, nat_le, Vec}
use Rattle.std.specs.declared.alloc.Global.{Global}
use Rattle.std.specs.List.{AllZip, AllByRecursion, list_all, zip}
use Rattle.rs_value.specs.declared.column.Kind.{Kind}
use Rattle.rs_value.specs.declared.column.Kind.TheVariants as kinds
use Rattle.rs_value.specs.declared.column.TheConstants.{COLUMNS}
use Rattle.rs_coalesce.specs.Joined.{AreJoined}
use Rattle.rs_facts.specs.declared.fact.Span.{Span}
use Rattle.rs_facts.specs.Fact.{RowSet}
use Rattle.rs_facts.specs.Operators.{overlaid, dissolved, mapped, chosen}
use Rattle.rs_facts.specs.Query.{gapped_on, overlaid_kind}
use Rattle.rs_facts.specs.Runs.{Stretch}
use Rattle.rs_facts.specs.Spans.{seen, places_of, ArePlaced}
use Rattle.rs_sweep.specs.Lists.{AreSorted, AreWide}
use Rattle.rs_plan.specs.declared.plan.PlannedWindow.{PlannedWindow}
use Rattle.rs_planning.proofs.Operands.{unit_right, overlaid_assoc, line_last, kind_assoc}
use Rattle.rs_exec.specs.Snapshot.{Snapshots}
use Rattle.rs_exec.specs.Meaning.{PlanMeaning, rows_together, kinds_together, widths_together, overlay_meaning, window_meaning, gaps_meaning, seen_through_each}
use Rattle.rs_exec.specs.Operand.{changed_meaning, paired_meaning, together_meaning}
use Rattle.rs_exec.specs.declared.changes.Change.{Change}
use Rattle.rs_exec.specs.declared.changes.Change.TheVariants as changes
use Rattle.rs_exec.specs.declared.pairs.Kinds.{Kinds}
use Rattle.rs_exec.specs.declared.pairs.Pairing.{Pairing}
use Rattle.rs_exec.specs.declared.pairs.Pairing.TheVariants as pairings
use Rattle.rs_exec.specs.declared.source.Part.{Part}
use Rattle.rs_exec.specs.Given.{inside}
use Rattle.rs_exec.specs.Changes.{IsChanged, AreFrom}
use Rattle.rs_exec.specs.Gaps.{HasShape, HaveShapes, HaveGaps}
use Rattle.rs_exec.specs.Joined.{HasRuns, IsOfKind}
use Rattle.rs_exec.specs.Pairs.{FitTogether, CanPair, IsPaired, ArePaired}
use Rattle.rs_exec.specs.Routes.{IsInOrder, HasNone, AreNone, AllAreNone, IsShaped}
use Rattle.rs_exec.specs.Windows.{AreOff, IsSeenOn, IsSpread}
use Rattle.rs_exec.specs.Held.{HoldsRows, AreRowsOf, AreHeld, AreJoinedIn, CanOverlay, IsLaidOver, AreLaidOver, IsBeside, AreBeside}
use Rattle.rs_exec.proofs.InPlace.{rows-stay}
use Rattle.rs_exec.proofs.JoinedRows.{none-joined}
use Rattle.rs_exec.proofs.Lists.{zip-weaker, zip-where, zip-length}
use Rattle.rs_exec.proofs.Pairing.{runs-shaped}
use Rattle.rs_exec.proofs.RowLaws.{overlaid-nothing}
use Rattle.rs_exec.proofs.Steps.{at-most, earlier-one, changed-step, paired-step, none-shaped, none-means}
use Rattle.rs_exec.proofs.Tests.{is-number, no-number}

put_back : (columns : List ℕ) (rows : RowSet) → dissolved columns rows ≡ mapped (chosen columns) rows
unfolding dissolved
put_back columns rows = refl

-- a change leaves rows of the kind that they are of
pub changed_kind : (change : Change) (plan : PlanMeaning) → (changed_meaning change plan).kind ≡ plan.kind
changed_kind (changes.Where conditions) plan = refl
changed_kind (changes.Dissolve columns) plan = refl

abbrev EachIsShaped : Kind → ℕ → List ℕ → List (Vec Span Global) → Type 0
EachIsShaped kind width numbers rows = AllZip (λ (number : ℕ) each. IsShaped kind width each) numbers rows

-- what stood for later snapshots stood for earlier ones
pub earlier : (was is : Snapshots → Type 0) (version : ℕ) (plan : PlanMeaning) (numbers : List ℕ) (rows : List (Vec Span Global)) → ((snapshots : Snapshots) → was snapshots → is snapshots) → AreHeld is version plan numbers rows → AreHeld was version plan numbers rows
earlier was is version plan numbers rows stands held =
    zip-weaker (HoldsRows is version plan) (HoldsRows was version plan) numbers rows
    (λ number each holds. earlier-one was is version number plan each stands holds) held

pub laid-earlier : (was is : Snapshots → Type 0) (version : ℕ) (kind : Kind) (plans : List PlanMeaning) (numbers : List ℕ) (old new : List (Vec Span Global)) → ((snapshots : Snapshots) → was snapshots → is snapshots) → AreLaidOver is version kind plans numbers old new → AreLaidOver was version kind plans numbers old new
laid-earlier was is version kind plans numbers old new stands laid =
    zip-weaker (IsLaidOver is version kind plans) (IsLaidOver was version kind plans) (zip numbers old) new
    (λ pair each holds. record { means = λ snapshots there k. holds.means snapshots (stands snapshots there) k; shaped = holds.shaped; joined = λ snapshots there. holds.joined snapshots (stands snapshots there) }) laid

pub shaped-length : (kind : Kind) (width : ℕ) (numbers : List ℕ) (rows : List (Vec Span Global)) → EachIsShaped kind width numbers rows → length rows ≡ length numbers
shaped-length kind width numbers rows shaped = sym (zip-length (λ (number : ℕ) each. IsShaped kind width each) numbers rows shaped)

-- what is so of two kinds is so of kinds that are the same
pub as-kinds : (P : Kinds → Type 0) (p q a b : Kind) → p ≡ a → q ≡ b → P (record { left = p; right = q }) → P (record { left = a; right = b })
as-kinds P p q a b one other so = subst (λ kind. P (record { left = a; right = kind })) other (subst (λ kind. P (record { left = kind; right = q })) one so)

pub can-pair : (pairing : Pairing) (p q : Kind) (m n : ℕ) (numbers : List ℕ) (lefts rights : List (Vec Span Global)) → FitTogether pairing m n → EachIsShaped p m numbers lefts → EachIsShaped q n numbers rights → AllZip (CanPair pairing (record { left = p; right = q })) lefts rights
can-pair pairing p q m n [] [] [] fit first second = tt
can-pair pairing p q m n [] [] (r ∷ rights) fit first second = absurd second
can-pair pairing p q m n [] (l ∷ lefts) rights fit first second = absurd first
can-pair pairing p q m n (number ∷ numbers) [] rights fit first second = absurd first
can-pair pairing p q m n (number ∷ numbers) (l ∷ lefts) [] fit first second = absurd second
can-pair pairing p q m n (number ∷ numbers) (l ∷ lefts) (r ∷ rights) fit first second = (
  record { left_width = m; right_width = n; left_shaped = first.0; right_shaped = second.0; fit = fit },
  can-pair pairing p q m n numbers lefts rights fit first.1 second.1,
)

module _ (stands : Snapshots → Type 0) (version : ℕ) where
  pub shaped-of : (plan : PlanMeaning) (numbers : List ℕ) (rows : List (Vec Span Global)) → AreHeld stands version plan numbers rows → EachIsShaped plan.kind plan.width numbers rows
  shaped-of plan numbers rows held = zip-weaker (HoldsRows stands version plan) (λ number each. IsShaped plan.kind plan.width each) numbers rows (λ number each holds. holds.shaped) held

  -- ---- operators of one operand

  pub in-order : (plan : PlanMeaning) (numbers : List ℕ) (rows : List (Vec Span Global)) → AreHeld stands version plan numbers rows → AllByRecursion IsInOrder rows
  in-order plan [] [] held = tt
  in-order plan [] (each ∷ rows) held = absurd held
  in-order plan (number ∷ numbers) [] held = tt
  in-order plan (number ∷ numbers) (each ∷ rows) held = (held.0.shaped.sorted, in-order plan numbers rows held.1)

  pub changed-held : (change : Change) (plan : PlanMeaning) (numbers : List ℕ) (old new : List (Vec Span Global)) → AllZip (IsChanged change) old new → AreHeld stands version plan numbers old → AreHeld stands version (changed_meaning change plan) numbers new
  changed-held change plan [] [] [] all held = tt
  changed-held change plan [] [] (n ∷ new) all held = absurd all
  changed-held change plan [] (o ∷ old) new all held = absurd held
  changed-held change plan (number ∷ numbers) [] new all held = absurd held
  changed-held change plan (number ∷ numbers) (o ∷ old) [] all held = absurd all
  changed-held change plan (number ∷ numbers) (o ∷ old) (n ∷ new) all held = (changed-step stands version number change plan o n held.0 all.0, changed-held change plan numbers old new all.1 held.1)

  pub of-kind : (plan : PlanMeaning) (kind : Kind) (numbers : List ℕ) (rows : List (Vec Span Global)) → kind ≡ plan.kind → AreHeld stands version plan numbers rows → AllByRecursion (IsOfKind kind) rows
  of-kind plan kind [] [] same held = tt
  of-kind plan kind [] (each ∷ rows) same held = absurd held
  of-kind plan kind (number ∷ numbers) [] same held = tt
  of-kind plan kind (number ∷ numbers) (each ∷ rows) same held = (subst (λ p. IsOfKind p each) (sym same) held.0.shaped.placed, of-kind plan kind numbers rows same held.1)

  runs-one : (plan : PlanMeaning) (number : ℕ) (old new : Vec Span Global) → HasRuns plan.kind old new → HoldsRows stands version plan number old → HoldsRows stands version plan number new
  runs-one plan number old new are holds = record {
    means = λ snapshots there k. ap (λ places. places k) are.same ∙ holds.means snapshots there k;
    shaped = runs-shaped plan.kind plan.width (map seen old.items) (map seen new.items) are holds.shaped;
  }

  -- the maximal runs of a plan's rows are the plan's rows
  pub runs-held : (plan : PlanMeaning) (numbers : List ℕ) (old new : List (Vec Span Global)) → AllZip (HasRuns plan.kind) old new → AreHeld stands version plan numbers old → AreHeld stands version plan numbers new
  runs-held plan [] [] [] all held = tt
  runs-held plan [] [] (n ∷ new) all held = absurd all
  runs-held plan [] (o ∷ old) new all held = absurd held
  runs-held plan (number ∷ numbers) [] new all held = absurd held
  runs-held plan (number ∷ numbers) (o ∷ old) [] all held = absurd all
  runs-held plan (number ∷ numbers) (o ∷ old) (n ∷ new) all held = (runs-one plan number o n all.0 held.0, runs-held plan numbers old new all.1 held.1)

  pub have-shapes : (plan : PlanMeaning) (numbers : List ℕ) (rows : List (Vec Span Global)) → AreHeld stands version plan numbers rows → HaveShapes numbers rows
  have-shapes plan numbers rows held =
      zip-weaker (HoldsRows stands version plan) (λ number each. HasShape (map seen each.items)) numbers rows
      (λ number each holds. record { kind = plan.kind; width = plan.width; shaped = holds.shaped }) held

  -- ---- operators of two

  pub paired-held : (pairing : Pairing) (a b : PlanMeaning) (numbers : List ℕ) (lefts rights made : List (Vec Span Global)) → (paired_meaning pairing a b).is_well_formed ≡ true → AllZip (IsPaired pairing (record { left = a.kind; right = b.kind })) (zip lefts rights) made → AreHeld stands version a numbers lefts → AreHeld stands version b numbers rights → AreHeld stands version (paired_meaning pairing a b) numbers made
  paired-held pairing a b [] [] [] [] formed all first second = tt
  paired-held pairing a b [] [] [] (m ∷ made) formed all first second = absurd all
  paired-held pairing a b [] [] (r ∷ rights) made formed all first second = absurd second
  paired-held pairing a b [] (l ∷ lefts) rights made formed all first second = absurd first
  paired-held pairing a b (number ∷ numbers) [] rights made formed all first second = absurd first
  paired-held pairing a b (number ∷ numbers) (l ∷ lefts) [] made formed all first second = absurd second
  paired-held pairing a b (number ∷ numbers) (l ∷ lefts) (r ∷ rights) [] formed all first second = absurd all
  paired-held pairing a b (number ∷ numbers) (l ∷ lefts) (r ∷ rights) (m ∷ made) formed all first second = (paired-step stands version number pairing a b (map seen l.items) (map seen r.items) (map seen m.items) formed first.0 second.0 all.0, paired-held pairing a b numbers lefts rights made formed all.1 first.1 second.1)

  -- ---- operands of an OVERLAY, one after another

  laid_none-one : (kind : Kind) (number : ℕ) (rows : Vec Span Global) → IsLaidOver stands version kind [] (number, rows) rows
  laid_none-one kind number rows = record {
    means = λ snapshots there k. sym (unit_right (places_of (map seen rows.items) k));
    shaped = λ width shape.
        let same : width ≡ width + 0 = omega arith in
        subst (λ w. IsShaped (overlaid_kind kind kinds.Line) w rows) same (subst (λ p. IsShaped p width rows) (sym (line_last kind)) shape);
    joined = λ snapshots there width shape apart. subst (λ p. AreJoined p (map seen rows.items)) (sym (line_last kind)) apart;
  }

  -- no further operand
  pub laid-none : (p : Kind) (m : ℕ) (numbers : List ℕ) (rows : List (Vec Span Global)) → EachIsShaped p m numbers rows → AreLaidOver stands version p [] numbers rows rows
  laid-none p m [] [] shaped = tt
  laid-none p m [] (r ∷ rows) shaped = absurd shaped
  laid-none p m (number ∷ numbers) [] shaped = absurd shaped
  laid-none p m (number ∷ numbers) (r ∷ rows) shaped = (laid_none-one p number r, laid-none p m numbers rows shaped.1)

  laid_bare-one : (kind : Kind) (plans : List PlanMeaning) (number : ℕ) (rows : Vec Span Global) → HasNone rows → IsLaidOver stands version kind plans (number, rows) rows
  laid_bare-one kind plans number rows bare = record {
    means = λ snapshots there k.
        none-means rows k bare
        ∙ sym (ap (λ x. overlaid x (rows_together plans (snapshots version) number k)) (none-means rows k bare) ∙ overlaid-nothing (rows_together plans (snapshots version) number k));
    shaped = λ width shape. none-shaped (overlaid_kind kind (kinds_together plans)) (width + widths_together plans) rows bare;
    joined = λ snapshots there width shape apart. none-joined (overlaid_kind kind (kinds_together plans)) rows bare;
  }

  -- no rows are left
  pub laid-bare : (plans : List PlanMeaning) (p : Kind) (m : ℕ) (numbers : List ℕ) (rows : List (Vec Span Global)) → AllAreNone rows → EachIsShaped p m numbers rows → AreLaidOver stands version p plans numbers rows rows
  laid-bare plans p m [] [] bare shaped = tt
  laid-bare plans p m [] (r ∷ rows) bare shaped = absurd shaped
  laid-bare plans p m (number ∷ numbers) [] bare shaped = absurd shaped
  laid-bare plans p m (number ∷ numbers) (r ∷ rows) bare shaped = (laid_bare-one p plans number r bare.0, laid-bare plans p m numbers rows bare.1 shaped.1)

  laid_next-one : (kind : Kind) (next : PlanMeaning) (others : List PlanMeaning) (number : ℕ) (old laid new : Vec Span Global) → IsBeside stands version kind next (number, old) laid
      → IsLaidOver stands version (overlaid_kind kind next.kind) others (number, laid) new → IsLaidOver stands version kind (next ∷ others) (number, old) new
  laid_next-one kind next others number old laid new is later = record {
    means = λ snapshots there k.
        later.means snapshots there k
        ∙ ap (λ x. overlaid x (rows_together others (snapshots version) number k)) (is.means snapshots there k)
        ∙ overlaid_assoc (places_of (map seen old.items) k) (next.rows (snapshots version) number k) (rows_together others (snapshots version) number k);
    shaped = λ width shape.
        let all = later.shaped (width + next.width) (is.shaped width shape) in
        let same : (width + next.width) + widths_together others ≡ width + (next.width + widths_together others) = omega arith in
        subst (λ w. IsShaped (overlaid_kind kind (overlaid_kind next.kind (kinds_together others))) w new) same
        (subst (λ p. IsShaped p ((width + next.width) + widths_together others) new) (kind_assoc kind next.kind (kinds_together others)) all);
    joined = λ snapshots there width shape apart.
        subst (λ p. AreJoined p (map seen new.items)) (kind_assoc kind next.kind (kinds_together others))
        (later.joined snapshots there (width + next.width) (is.shaped width shape) (is.joined snapshots there width shape apart));
  }

  -- one operand more
  pub laid-next : (next : PlanMeaning) (others : List PlanMeaning) (p : Kind) (m : ℕ) (numbers : List ℕ) (old laid new : List (Vec Span Global)) → EachIsShaped p m numbers old → AreBeside stands version p next numbers old laid
      → AreLaidOver stands version (overlaid_kind p next.kind) others numbers laid new → AreLaidOver stands version p (next ∷ others) numbers old new
  laid-next next others p m [] old laid [] shaped is later = tt
  laid-next next others p m [] old laid (n ∷ new) shaped is later = absurd later
  laid-next next others p m (number ∷ numbers) [] laid new shaped is later = absurd shaped
  laid-next next others p m (number ∷ numbers) (o ∷ old) [] new shaped is later = absurd is
  laid-next next others p m (number ∷ numbers) (o ∷ old) (q ∷ laid) [] shaped is later = absurd later
  laid-next next others p m (number ∷ numbers) (o ∷ old) (q ∷ laid) (n ∷ new) shaped is later =
      (laid_next-one p next others number o q n is.0 later.0, laid-next next others p m numbers old laid new shaped.1 is.1 later.1)

  pub beside-one : (kind : Kind) (next : PlanMeaning) (number : ℕ) (old : Vec Span Global) (upper : List Stretch) (new : Vec Span Global) → AreRowsOf stands version next number upper → ((snapshots : Snapshots) → stands snapshots → AreJoined next.kind upper) → ArePaired pairings.Overlay (record { left = kind; right = next.kind }) (map seen old.items, upper) (map seen new.items) → IsBeside stands version kind next (number, old) new
  beside-one kind next number old upper new held joined is = record {
    means = λ snapshots there k. is.means k ∙ ap (overlaid (places_of (map seen old.items) k)) (held.means snapshots there k);
    shaped = λ width shape. record { sorted = is.sorted; placed = is.placed tt shape.placed held.shaped.placed; wide = is.wide width next.width tt shape.wide held.shaped.wide };
    joined = λ snapshots there width shape apart. is.joined width next.width tt shape.wide held.shaped.wide apart (joined snapshots there);
  }

  pub beside-held : (kind : Kind) (next : PlanMeaning) (numbers : List ℕ) (old rights new : List (Vec Span Global)) → AreHeld stands version next numbers rights → AreJoinedIn stands next.kind rights → AllZip (IsPaired pairings.Overlay (record { left = kind; right = next.kind })) (zip old rights) new → length old ≡ length numbers → AreBeside stands version kind next numbers old new
  beside-held kind next [] [] [] [] held joined all same = tt
  beside-held kind next [] [] [] (n ∷ new) held joined all same = absurd all
  beside-held kind next [] (o ∷ old) [] new held joined all same = absurd (omega (arith, same))
  beside-held kind next [] old (r ∷ rights) new held joined all same = absurd held
  beside-held kind next (number ∷ numbers) old [] new held joined all same = absurd held
  beside-held kind next (number ∷ numbers) [] (r ∷ rights) new held joined all same = absurd (omega (arith, same))
  beside-held kind next (number ∷ numbers) (o ∷ old) (r ∷ rights) [] held joined all same = absurd all
  beside-held kind next (number ∷ numbers) (o ∷ old) (r ∷ rights) (n ∷ new) held joined all same = (beside-one kind next number o (map seen r.items) n held.0 joined.0 all.0, beside-held kind next numbers old rights new held.1 joined.1 all.1 (omega (arith, same)))

  -- the first operand, and those laid over it
  pub together-laid : (first : PlanMeaning) (others : List PlanMeaning) (numbers : List ℕ) (old new : List (Vec Span Global)) → AreHeld stands version first numbers old → AreLaidOver stands version first.kind others numbers old new → AreHeld stands version (together_meaning (first ∷ others)) numbers new
  together-laid first others [] [] [] held laid = tt
  together-laid first others [] [] (n ∷ new) held laid = absurd laid
  together-laid first others [] (o ∷ old) new held laid = absurd held
  together-laid first others (number ∷ numbers) [] new held laid = absurd held
  together-laid first others (number ∷ numbers) (o ∷ old) [] held laid = absurd laid
  together-laid first others (number ∷ numbers) (o ∷ old) (n ∷ new) held laid = (
    record {
      means = λ snapshots there k. laid.0.means snapshots there k ∙ ap (λ x. overlaid x (rows_together others (snapshots version) number k)) (held.0.means snapshots there k);
      shaped = laid.0.shaped first.width held.0.shaped;
    },
    together-laid first others numbers old new held.1 laid.1,
  )

  -- columns are put back
  pub overlay-held : (back : Bor (List ℕ)) (plans : List PlanMeaning) (numbers : List ℕ) (mid new : List (Vec Span Global)) → AreHeld stands version (together_meaning plans) numbers mid
      → AllZip (IsChanged (changes.Dissolve back)) mid new → AreHeld stands version (overlay_meaning back.now plans) numbers new
  overlay-held back plans numbers mid new held all =
      zip-weaker (HoldsRows stands version (changed_meaning (changes.Dissolve back) (together_meaning plans))) (HoldsRows stands version (overlay_meaning back.now plans)) numbers new
      (λ number each holds. record { means = λ snapshots there k. holds.means snapshots there k ∙ put_back back.now (rows_together plans (snapshots version) number k); shaped = holds.shaped })
      (changed-held (changes.Dissolve back) (together_meaning plans) numbers mid new all held)

  -- columns that are where they belong stay
  pub overlay-stays : (back : List ℕ) (plans : List PlanMeaning) (numbers : List ℕ) (rows : List (Vec Span Global)) → AreFrom 0 back → widths_together plans ≡ length back
      → AreHeld stands version (together_meaning plans) numbers rows → AreHeld stands version (overlay_meaning back plans) numbers rows
  overlay-stays back plans numbers rows from long held =
      zip-weaker (HoldsRows stands version (together_meaning plans)) (HoldsRows stands version (overlay_meaning back plans)) numbers rows
      (λ number each holds. record {
        means = λ snapshots there k.
            sym (rows-stay back (map seen each.items) k from (subst (λ w. AreWide w (map seen each.items)) long holds.shaped.wide))
            ∙ ap (mapped (chosen back)) (holds.means snapshots there k);
        shaped = subst (λ w. IsShaped (kinds_together plans) w each) long holds.shaped;
      })
      held

  -- ---- windows

  pub seen-held : (windows : List PlannedWindow) (plan : PlanMeaning) (route : ℕ) (part : Part) (rows : Vec Span Global) (spans : List Stretch) (numbers : List ℕ) (made : List (Vec Span Global)) → IsSeenOn windows route part → HoldsRows stands version plan route rows
      → ((k : ℕ) → places_of spans k ≡ inside part k (places_of (map seen rows.items) k)) → AreSorted spans
      → ((kind : Kind) → ArePlaced kind (map seen rows.items) → ArePlaced kind spans) → ((width : ℕ) → AreWide width (map seen rows.items) → AreWide width spans)
      → AllZip (IsSpread route spans) numbers made → AreHeld stands version (window_meaning windows plan) numbers made
  seen-held windows plan route part rows spans numbers made seen_on held means sorted placed wide all =
      zip-weaker (IsSpread route spans) (HoldsRows stands version (window_meaning windows plan)) numbers made one all
    where
      here : (number : ℕ) (each : Vec Span Global) → IsSpread route spans number each → number ≡ route → HoldsRows stands version (window_meaning windows plan) number each
      here number each spread same =
          let is = spread.here same in
          record {
            means = λ snapshots there k.
                ap (λ zs. places_of zs k) is ∙ means k ∙ ap (inside part k) (held.means snapshots there k)
                ∙ sym (seen_on.here.same k (plan.rows (snapshots version) route k))
                ∙ ap (λ n. seen_through_each windows n k (plan.rows (snapshots version) n k)) (sym same);
            shaped = record {
              sorted = subst AreSorted (sym is) sorted;
              placed = subst (ArePlaced plan.kind) (sym is) (placed plan.kind held.shaped.placed);
              wide = subst (AreWide plan.width) (sym is) (wide plan.width held.shaped.wide);
            };
          }

      away : (number : ℕ) (each : Vec Span Global) → IsSpread route spans number each → number ≢ route → HoldsRows stands version (window_meaning windows plan) number each
      away number each spread other = record {
        means = λ snapshots there k. none-means each k (spread.elsewhere other) ∙ sym ((seen_on.elsewhere number other).nothing k (plan.rows (snapshots version) number k));
        shaped = none-shaped plan.kind plan.width each (spread.elsewhere other);
      }

      one : (number : ℕ) (each : Vec Span Global) → IsSpread route spans number each → HoldsRows stands version (window_meaning windows plan) number each
      one number each spread = elim (number == route) as (λ b. (number == route) ≡ b → HoldsRows stands version (window_meaning windows plan) number each) [
        | true ↦ λ e. here number each spread (is-number number route e)
        | false ↦ λ e. away number each spread (no-number number route e)
      ] refl

  pub window-none : (windows : List PlannedWindow) (plan : PlanMeaning) (numbers : List ℕ) (rows : List (Vec Span Global)) → AllByRecursion (AreOff windows) numbers → AreNone numbers rows → AreHeld stands version (window_meaning windows plan) numbers rows
  window-none windows plan numbers rows off all =
      zip-where (AreOff windows) (λ number each. HasNone each) (HoldsRows stands version (window_meaning windows plan)) numbers rows
      (λ number each away bare. record {
        means = λ snapshots there k. none-means each k bare ∙ sym (away.nothing k (plan.rows (snapshots version) number k));
        shaped = none-shaped plan.kind plan.width each bare;
      }) off all

-- ---- gaps between rows, for snapshots after the rows were made

pub gaps-held : (was is : Snapshots → Type 0) (version : ℕ) (plan : PlanMeaning) (numbers : List ℕ) (old new : List (Vec Span Global)) → ((snapshots : Snapshots) → was snapshots → is snapshots) → HaveGaps is version numbers old new → AreHeld was version plan numbers old → AreHeld was version (gaps_meaning plan) numbers new
gaps-held was is version plan [] [] [] stands all held = tt
gaps-held was is version plan [] [] (n ∷ new) stands all held = absurd all
gaps-held was is version plan [] (o ∷ old) new stands all held = absurd held
gaps-held was is version plan (number ∷ numbers) [] new stands all held = absurd held
gaps-held was is version plan (number ∷ numbers) (o ∷ old) [] stands all held = absurd all
gaps-held was is version plan (number ∷ numbers) (o ∷ old) (n ∷ new) stands all held = (
  record {
    means = λ snapshots there k. all.0.means snapshots (stands snapshots there) k ∙ ap (gapped_on ((snapshots version).ends number) k) (held.0.means snapshots there k);
    shaped = all.0.shaped;
  },
  gaps-held was is version plan numbers old new stands all.1 held.1,
)

-- ---- the operands of an OVERLAY that is well-formed

pub beside-shaped : (stands : Snapshots → Type 0) (version : ℕ) (next : PlanMeaning) (p : Kind) (m : ℕ) (numbers : List ℕ) (old new : List (Vec Span Global)) → AreBeside stands version p next numbers old new → EachIsShaped p m numbers old → EachIsShaped (overlaid_kind p next.kind) (m + next.width) numbers new
beside-shaped stands version next p m [] [] [] all shaped = tt
beside-shaped stands version next p m [] [] (n ∷ new) all shaped = absurd all
beside-shaped stands version next p m [] (o ∷ old) new all shaped = absurd shaped
beside-shaped stands version next p m (number ∷ numbers) [] new all shaped = absurd shaped
beside-shaped stands version next p m (number ∷ numbers) (o ∷ old) [] all shaped = absurd all
beside-shaped stands version next p m (number ∷ numbers) (o ∷ old) (n ∷ new) all shaped = (all.0.shaped m shaped.0, beside-shaped stands version next p m numbers old new all.1 shaped.1)

-- the first operand, and the rest of them
pub record FormedOverlay (back : List ℕ) (plans : List PlanMeaning) : Type 0 where
  pub each : list_all (λ (plan : PlanMeaning). plan.is_well_formed) plans ≡ true
  pub several : 2 ≤ length plans
  pub wide : widths_together plans ≡ length back
  pub few : length back ≤ COLUMNS

pub formed-overlay : (back : List ℕ) (plans : List PlanMeaning) → (overlay_meaning back plans).is_well_formed ≡ true → FormedOverlay back plans
formed-overlay back plans e =
    let parts = and_parts (list_all (λ (plan : PlanMeaning). plan.is_well_formed) plans) (nat_le 2 (length plans) && (widths_together plans == length back && nat_le (length back) COLUMNS)) e in
    let more = and_parts (nat_le 2 (length plans)) (widths_together plans == length back && nat_le (length back) COLUMNS) parts.1 in
    let widths = and_parts (widths_together plans == length back) (nat_le (length back) COLUMNS) more.1 in
    record { each = parts.0; several = at-most 2 (length plans) more.0; wide = is-number (widths_together plans) (length back) widths.0; few = at-most (length back) COLUMNS widths.1 }

pub first-formed : (plans : List PlanMeaning) (first : PlanMeaning) (others : List PlanMeaning) → plans ≡ first ∷ others → list_all (λ (plan : PlanMeaning). plan.is_well_formed) plans ≡ true → (first.is_well_formed ≡ true) × (list_all (λ (plan : PlanMeaning). plan.is_well_formed) others ≡ true)
first-formed plans first others are each = and_parts first.is_well_formed (list_all (λ (plan : PlanMeaning). plan.is_well_formed) others) (subst (λ p. list_all (λ (plan : PlanMeaning). plan.is_well_formed) p ≡ true) are each)

both : (a b : Bool) → a ≡ true → b ≡ true → (a && b) ≡ true
both a b one two = ap (λ t. t && b) one ∙ two

is_at_most : (a b : ℕ) → a ≤ b → nat_le a b ≡ true
is_at_most a b e = grind (arith, nat_tests)

-- the operands of an OVERLAY that is well-formed are together
pub formed-together : (back : List ℕ) (plans : List PlanMeaning) → (overlay_meaning back plans).is_well_formed ≡ true → (together_meaning plans).is_well_formed ≡ true
formed-together back plans e =
    let formed = formed-overlay back plans e in
    let wide = formed.wide in
    let few = formed.few in
    both (list_all (λ (plan : PlanMeaning). plan.is_well_formed) plans) (nat_le (widths_together plans) COLUMNS) formed.each (is_at_most (widths_together plans) COLUMNS (omega (arith, wide, few)))

-- operands that are together: each is well-formed, and their columns are no more than a row may have
pub record Together (plans : List PlanMeaning) : Type 0 where
  pub each : list_all (λ (plan : PlanMeaning). plan.is_well_formed) plans ≡ true
  pub few : widths_together plans ≤ COLUMNS

pub together : (plans : List PlanMeaning) → (together_meaning plans).is_well_formed ≡ true → Together plans
together plans e =
    let parts = and_parts (list_all (λ (plan : PlanMeaning). plan.is_well_formed) plans) (nat_le (widths_together plans) COLUMNS) e in
    record { each = parts.0; few = at-most (widths_together plans) COLUMNS parts.1 }

pub can-begin : (stands : Snapshots → Type 0) (version : ℕ) (first : PlanMeaning) (others : List PlanMeaning) (numbers : List ℕ) (rows : List (Vec Span Global)) → Together (first ∷ others) → AreHeld stands version first numbers rows → CanOverlay first.kind others numbers rows
can-begin stands version first others numbers rows formed held = record {
  width = first.width;
  shaped = shaped-of stands version first numbers rows held;
  fit = formed.few;
  formed = (and_parts first.is_well_formed (list_all (λ (plan : PlanMeaning). plan.is_well_formed) others) formed.each).1;
}

pub can-lay-next : (kind : Kind) (plans : List PlanMeaning) (next : PlanMeaning) (others : List PlanMeaning) (numbers : List ℕ) (rows : List (Vec Span Global)) → plans ≡ next ∷ others → CanOverlay kind plans numbers rows → CanOverlay kind (next ∷ []) numbers rows
can-lay-next kind plans next others numbers rows are can = record {
  width = can.width;
  shaped = can.shaped;
  fit = let e = ap widths_together are in let f = can.fit in omega (arith, e, f);
  formed = let first = (first-formed plans next others are can.formed).0 in ap (λ t. t && true) first;
}

pub can-pair-next : (stands : Snapshots → Type 0) (version : ℕ) (kind : Kind) (next : PlanMeaning) (numbers : List ℕ) (rows rights : List (Vec Span Global)) → CanOverlay kind (next ∷ []) numbers rows → AreHeld stands version next numbers rights → AllZip (CanPair pairings.Overlay (record { left = kind; right = next.kind })) rows rights
can-pair-next stands version kind next numbers rows rights can held =
    let f = can.fit in
    can-pair pairings.Overlay kind next.kind can.width next.width numbers rows rights (omega (arith, f)) can.shaped (shaped-of stands version next numbers rights held)

pub can-go-on : (stands : Snapshots → Type 0) (version : ℕ) (kind : Kind) (plans : List PlanMeaning) (next : PlanMeaning) (others : List PlanMeaning) (numbers : List ℕ) (rows laid : List (Vec Span Global)) → plans ≡ next ∷ others → CanOverlay kind plans numbers rows → AreBeside stands version kind next numbers rows laid
    → CanOverlay (overlaid_kind kind next.kind) others numbers laid
can-go-on stands version kind plans next others numbers rows laid are can all = record {
  width = can.width + next.width;
  shaped = beside-shaped stands version next kind can.width numbers rows laid all can.shaped;
  fit = let e = ap widths_together are in let f = can.fit in omega (arith, e, f);
  formed = (first-formed plans next others are can.formed).1;
}

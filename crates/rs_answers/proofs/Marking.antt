-- Marks at runs that were found.
use Rattle.std.proofs.Common.{◌≡◌, ℕ, zero, suc, ◌+◌, ◌-◌, ◌<◌, ◌≤◌, Less, List, [], ◌∷◌, length, get_or, map, nat_lt, true, false, take, drop, sym, ap, ◌∙◌, subst, arith}
use Rattle.std.proofs.lemmas.List.{take-append-drop, get_or-take, get_or-map, length-take, length-map, drop-map, take-map, take_all, take_more, drop-take}
use Rattle.std.proofs.lemmas.List.Elements.{All-from_recursion}
use Rattle.std.specs.List.{AllByRecursion}
use Rattle.std.specs.List.Sorted.{IsPartitionPoint}
use Rattle.rs_value.specs.declared.column.Kind.{Kind}
use Rattle.rs_facts.specs.declared.fact.Span.{Span}
use Rattle.rs_facts.specs.Fact.{Places}
use Rattle.rs_facts.specs.Runs.{Stretch, stretch_cmp, AreOrdered, AreRunsOf, LieWithin, runs_of}
use Rattle.rs_facts.specs.Spans.{seen}
use Rattle.rs_facts.proofs.KeptLaws.{every-append, every-before, every-behind}
use Rattle.rs_answers.specs.Portions.{IsStart}
use Rattle.rs_answers.specs.Resumed.{count_below, within}
use Rattle.rs_answers.proofs.ResumedRuns.{count-append, count-further, count-none, drop-below, later_from, resumed-some, spans-below}
use Rattle.rs_answers.proofs.Starts.{start-taken}

pub ordered-drop : (n : ℕ) (runs : List Stretch) → AreOrdered runs → AreOrdered (drop n runs)
ordered-drop zero runs ordered = ordered
ordered-drop (suc n) [] ordered = tt
ordered-drop (suc n) (run ∷ runs) ordered = ordered-drop n runs ordered.1

pub ordered-take : (n : ℕ) (runs : List Stretch) → AreOrdered runs → AreOrdered (take n runs)
ordered-take zero runs ordered = tt
ordered-take (suc n) [] ordered = tt
ordered-take (suc n) (run ∷ runs) ordered =
    (every-before (λ later. stretch_cmp run later ≡ Less) (take n runs) (drop n runs) (subst (AllByRecursion (λ later. stretch_cmp run later ≡ Less)) (sym (take-append-drop n runs)) ordered.0), ordered-take n runs ordered.1)

-- in printing order what comes later begins no earlier
later_in : (i n : ℕ) (runs : List Stretch) (d : Stretch) → AreOrdered runs → i < n → AllByRecursion (λ run. (get_or runs i d).lo ≤ run.lo) (drop n runs)
later_in i zero runs d ordered l = absurd (omega arith)
later_in i (suc n) [] d ordered l = tt
later_in zero (suc n) (run ∷ runs) d ordered l =
    every-behind (λ later. run.lo ≤ later.lo) (take n runs) (drop n runs) (subst (AllByRecursion (λ later. run.lo ≤ later.lo)) (sym (take-append-drop n runs)) (later_from run.lo run runs (omega arith) ordered))
later_in (suc i) (suc n) (run ∷ runs) d ordered l = later_in i n runs d ordered.1 (omega arith)

-- Of the runs from a mark on some were found: those of all that begin below one of them are those before the mark, and those of the found.
pub marked-at : (all found : List Stretch) (from before i : ℕ) (d : Stretch) → AreOrdered all → before ≡ count_below from all → found ≡ take (length found) (drop before all) → i < length found
    → before + count_below (get_or found i d).lo found ≡ count_below (get_or found i d).lo all
marked-at all found from before i d ordered is starts within =
    let rest : List Stretch = drop before all in
    let n : ℕ = length found in
    let j : ℕ = (get_or found i d).lo in
    let same : get_or found i d ≡ get_or rest i d = ap (λ xs. get_or xs i d) starts ∙ get_or-take n rest i d within in
    let behind : AllByRecursion (λ run. j ≤ run.lo) (drop n rest) =
    subst (λ (run : Stretch). AllByRecursion (λ later. run.lo ≤ later.lo) (drop n rest)) (sym same) (later_in i n rest d (ordered-drop before all ordered) within) in
    let parts : count_below j found + count_below j (drop n rest) ≡ count_below j rest =
    ap (λ xs. count_below j xs + count_below j (drop n rest)) starts ∙ sym (count-append j (take n rest) (drop n rest)) ∙ ap (count_below j) (take-append-drop n rest) in
    let none : count_below j (drop n rest) ≡ 0 = count-none j (drop n rest) behind in
    let long = length-take n rest in
    let few : n ≡ length (take n rest) = ap length starts in
    let inside : i < length rest = omega (arith, long, few) in
    let low : from ≤ j =
    subst (λ (run : Stretch). from ≤ run.lo) (sym same)
    (All-from_recursion (λ run. from ≤ run.lo) rest (subst (λ b. AllByRecursion (λ run. from ≤ run.lo) (drop b all)) (sym is) (drop-below from all ordered)) i d inside) in
    let whole : count_below from all + count_below j (drop (count_below from all) all) ≡ count_below j all = count-further from j all ordered low in
    let there : count_below j (drop (count_below from all) all) ≡ count_below j rest = ap (λ b. count_below j (drop b all)) (sym is) in
    omega (arith, parts, none, whole, there, is)

-- Of the runs inside a window those from its mark on that end inside, as far as none before them does not, are the first of the whole.
pub runs-start : (kind : Kind) (places : Places) (k to : ℕ) (spans : List Span) → AreRunsOf kind (within (k - 1) to places) (map seen spans)
    → (start upto : ℕ) → LieWithin start upto places → (first sure before : ℕ) → first ≡ count_below k (map seen spans) → sure ≤ length (drop first spans)
    → AllByRecursion (λ run. run.hi < to) (take sure (map seen (drop first spans))) → before ≡ count_below k (runs_of kind places start upto)
    → IsStart (map seen (drop first (take (first + sure) spans))) (drop before (runs_of kind places start upto))
runs-start kind places k to spans are start upto inside first sure before is few ended count =
    let window : List Stretch = map seen spans in
    let whole : List Stretch = runs_of kind places start upto in
    let shifted : map seen (drop first spans) ≡ drop (count_below k window) window = sym (drop-map seen first spans) ∙ ap (λ n. drop n window) is in
    let long = length-map (drop first spans) seen in
    let inner : sure ≤ length (drop (count_below k window) window) = subst (λ (l : List Stretch). sure ≤ length l) shifted (omega (arith, long, few)) in
    let same : take sure (drop (count_below k window) window) ≡ take sure (drop (count_below k whole) whole) =
    resumed-some kind places k to window are start upto inside sure inner (subst (λ (l : List Stretch). AllByRecursion (λ run. run.hi < to) (take sure l)) shifted ended) in
    start-taken (map seen (drop first (take (first + sure) spans))) (drop before whole) sure
    (ap (map seen) (drop-take first sure spans) ∙ sym (take-map seen sure (drop first spans)) ∙ ap (take sure) shifted ∙ same ∙ ap (λ n. take sure (drop n whole)) (sym count))

-- A mark at one of the spans that were found.
pub mark-counts : (all : List Stretch) (spans : List Span) (from before i beside : ℕ) (last : Span) → AreOrdered all → before ≡ count_below from all
    → IsStart (map seen spans) (drop before all) → i < length spans → last ≡ get_or spans i last
    → beside ≤ length spans → IsPartitionPoint (λ (span : Span). nat_lt span.lo last.lo ≡ true) (λ (span : Span). nat_lt span.lo last.lo ≡ false) spans beside
    → before + beside ≡ count_below last.lo all
mark-counts all spans from before i beside last ordered is starts within there bound parted =
    let found : List Stretch = map seen spans in
    let long = length-map spans seen in
    let here : (get_or found i (seen last)).lo ≡ last.lo = ap (λ (run : Stretch). run.lo) (get_or-map seen spans i last (seen last) within) ∙ ap (λ (span : Span). span.lo) (sym there) in
    let counted : beside ≡ count_below last.lo found = spans-below last.lo spans beside bound parted in
    ap (λ n. before + n) (counted ∙ ap (λ n. count_below n found) (sym here))
    ∙ marked-at all found from before i (seen last) ordered is starts (omega (arith, long, within))
    ∙ ap (λ n. count_below n all) here

-- they are in printing order
pub found-ordered : (all : List Stretch) (spans : List Span) (before : ℕ) → AreOrdered all → IsStart (map seen spans) (drop before all) → AreOrdered (map seen spans)
found-ordered all spans before ordered starts = subst AreOrdered (sym starts) (ordered-take (length (map seen spans)) (drop before all) (ordered-drop before all ordered))

-- one run more that ends below a thousandth
pub ended-step : (to i : ℕ) (spans : List Span) (one : Span) → i < length spans → one ≡ get_or spans i one → one.hi < to → AllByRecursion (λ run. run.hi < to) (take i (map seen spans))
    → AllByRecursion (λ run. run.hi < to) (take (i + 1) (map seen spans))
ended-step to i spans one l is low all =
    let runs : List Stretch = map seen spans in
    let long = length-map spans seen in
    let last : (get_or runs i (seen one)).hi < to = subst (λ (run : Stretch). run.hi < to) (sym (get_or-map seen spans i one (seen one) l)) (subst (λ (span : Span). span.hi < to) is low) in
    subst (AllByRecursion (λ run. run.hi < to)) (sym (take_more runs i (seen one) (omega (arith, long, l)))) (every-append (λ run. run.hi < to) (take i runs) (get_or runs i (seen one) ∷ []) all (last, tt))

-- ---- all runs

all_from_zero : (runs : List Stretch) → AllByRecursion (λ run. 0 ≤ run.lo) runs
all_from_zero [] = tt
all_from_zero (run ∷ runs) = (omega arith, all_from_zero runs)

-- none begins below 0
pub none_below : (runs : List Stretch) → 0 ≡ count_below 0 runs
none_below runs = sym (count-none 0 runs (all_from_zero runs))

-- they are their own start
pub start-whole : (runs all : List Stretch) → runs ≡ all → IsStart runs (drop 0 all)
start-whole runs all same = same ∙ sym (take_all (length runs) all (let long : length runs ≡ length all = ap length same in omega (arith, long)))

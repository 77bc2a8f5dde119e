-- Sorted numbers that do not rise are not each there once.
use Rattle.std.proofs.Common.{◌∙◌, arith, map, subst, sym}
use Rattle.std.proofs.lemmas.Bool.{false≢true}
use Rattle.rs_catalog_pages.specs.Said.{said_route}
use Rattle.rs_versioned.specs.Meant.{AreRising}
use Rattle.rs_file.proofs.Meant.{once_permuted, rising_once}
use Rattle.rs_file.proofs.loading.rising_routes.Goals as goal

pub returns-then-not-are_rising-clause-twice : goal.returns-then-not-are_rising-clause-twice
returns-then-not-are_rising-clause-twice c = λ is once.
    let spans = c.in_ok-spans.spans.items in
    false≢true (sym c.if-not-are_rising.true ∙ c.are_rising.ensures.1
    (subst AreRising (sym c.deref.ensures.value) (rising_once spans c.in_ok-spans.ensures.sorted
    (λ n. omega (arith, once_permuted (map said_route c.args.routes.now) spans c.in_ok-spans.ensures.all n, once n)))))

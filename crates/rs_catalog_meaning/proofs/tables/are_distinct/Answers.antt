-- Each column in turn.
use Rattle.std.proofs.lemmas.Bool.{false≢true}
use Rattle.std.proofs.Common.{sym, ◌∙◌}
use Rattle.rs_catalog_meaning.proofs.TableLaws.{distinct_more, distinct_not, free_rest, name_of, rest_free}
use Rattle.rs_catalog_meaning.proofs.tables.are_distinct.Goals as goal

pub returns-then-not-is_free : goal.returns-then-not-is_free
returns-then-not-is_free c = (
  λ e. absurd (false≢true e),
  λ are. absurd (distinct_not c.args.columns.now c.loop-place.place c.index-columns-place.result c.loop-place-test.true c.index-columns-place.is
      (λ free. false≢true (sym c.if-not-is_free.true ∙ c.is_free.ensures.1
      (free_rest c.args.columns.now c.loop-place.place c.as_str.result.now (name_of c.index-columns-place.result) c.as_str.ensures.value free)))
      c.loop-place.invariant are),
)

pub loop-place-preserved : goal.loop-place-preserved
loop-place-preserved c =
    distinct_more c.args.columns.now c.loop-place.place c.index-columns-place.result c.loop-place-test.true c.index-columns-place.is
    (rest_free c.args.columns.now c.loop-place.place c.as_str.result.now (name_of c.index-columns-place.result) c.as_str.ensures.value
    (c.is_free.ensures.0 c.if-not-is_free.false))
    c.loop-place.invariant

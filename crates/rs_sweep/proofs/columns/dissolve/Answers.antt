use Rattle.std.proofs.Common.{length, map, sym, ap, ◌∙◌, subst}
use Rattle.std.proofs.lemmas.Result.{on_ok_weaker}
use Rattle.rs_facts.specs.Spans.{seen, places_of, ArePlaced}
use Rattle.rs_sweep.specs.Lists.{AreSorted, AreWide}
use Rattle.rs_sweep.proofs.Edits.{dissolved-means, dissolved-sorted, dissolved-placed, dissolved-wide}
use Rattle.rs_sweep.proofs.columns.dissolve.Goals as goal

pub returns-clause-means : goal.returns-clause-means
returns-clause-means c = on_ok_weaker c.choose_each.result (λ same k. ap (λ zs. places_of zs k) same ∙ dissolved-means c.args.columns.now (map seen c.args.spans.now.items) k) c.choose_each.ensures

pub returns-clause-sorted : goal.returns-clause-sorted
returns-clause-sorted c = on_ok_weaker c.choose_each.result (λ same. subst AreSorted (sym same) (dissolved-sorted c.args.columns.now (map seen c.args.spans.now.items) c.requires.sorted)) c.choose_each.ensures

pub returns-clause-placed : goal.returns-clause-placed
returns-clause-placed c = on_ok_weaker c.choose_each.result (λ same kind h. subst (ArePlaced kind) (sym same) (dissolved-placed kind c.args.columns.now (map seen c.args.spans.now.items) h)) c.choose_each.ensures

pub returns-clause-width : goal.returns-clause-width
returns-clause-width c = on_ok_weaker c.choose_each.result (λ same. subst (AreWide (length c.args.columns.now)) (sym same) (dissolved-wide c.args.columns.now (map seen c.args.spans.now.items))) c.choose_each.ensures

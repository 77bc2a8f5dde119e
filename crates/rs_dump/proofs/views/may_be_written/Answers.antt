-- A view that is not written, and may not be, may lack.
use Rattle.std.proofs.Common.{List, subst}
use Rattle.std.specs.Prelude.{Contains}
use Rattle.arrayvec.specs.ArrayString.{ArrayString}
use Rattle.rs_dump.specs.Views.{IsRefused, MayLack, known_of, names_of, refused_names}
use Rattle.rs_dump.specs.declared.views.LeftOut.{LeftOut}
use Rattle.rs_syntax.specs.QueryView.{query_tree}
use Rattle.rs_syntax.specs.declared.queries.Query.{Query}
use Rattle.rs_dump.proofs.Rounds.{lacks_refused}
use Rattle.rs_dump.proofs.Viewed.{all_there}
use Rattle.rs_dump.proofs.views.may_be_written.Goals as goal

pub returns-then-has_name-clause-lacks : goal.returns-then-has_name-clause-lacks
returns-then-has_name-clause-lacks c = λ is are missing.
    absurd (missing (subst (λ (items : List ArrayString). Contains (names_of items) c.args.name.now.bytes) c.deref.ensures.value (c.has_name.ensures.there c.if-has_name.true)))

pub returns-in-Some-clause-lacks : goal.returns-in-Some-clause-lacks
returns-in-Some-clause-lacks c = λ is are missing.
    let known = known_of c.args.defined.now in
    let name = c.args.name.now.bytes in
    lacks_refused known (names_of c.args.sorted.now.written.items) name c.args.view.now c.requires
    (all_there (IsRefused known) (refused_names c.args.sorted.now.refused.items) name are
    (subst (λ (items : List LeftOut). Contains (refused_names items) name) c.deref-2.ensures.value c.in-Some.ensures))

pub returns-in-None-clause-lacks : goal.returns-in-None-clause-lacks
returns-in-None-clause-lacks c = λ is are missing.
    let known = known_of c.args.defined.now in
    subst (λ (items : List ArrayString). MayLack known (names_of items) (query_tree c.args.view.now.query)) c.deref-in-None.ensures.value
    (subst (λ (query : Query). MayLack known (names_of c.deref-in-None.result.now) (query_tree query)) c.query.ensures (c.is_ready.ensures.lacks is))

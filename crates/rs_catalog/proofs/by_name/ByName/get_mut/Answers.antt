use Rattle.std.proofs.Common.{◌≡◌, MutBor, Option, Some, None, refl, sym, ap, ◌∙◌}
use Rattle.std.specs.Prelude.{IsSome, OnSome}
use Rattle.std.specs.Option.{option_copied_mut}
use Rattle.std.specs.BTreeMap.{BTreeMap}
use Rattle.std.specs.FinMap as names
use Rattle.arrayvec.specs.ArrayString.{ArrayString}
use Rattle.rs_catalog.specs.Names.{names_of}
use Rattle.rs_catalog.proofs.Names.{get-names_of_same, names_of-put}
use Rattle.rs_catalog.proofs.MapLaws.{some_there}
use Rattle.rs_catalog.proofs.by_name.ByName.get_mut.Goals as goal

where_some : {X : Type 0} (lent : Option (MutBor X)) (found : Option X) (P : Type 0) → option_copied_mut lent ≡ found → (IsSome found → P) → OnSome lent P
where_some None found P e f = tt
where_some (Some x) found P e f = f (some_there found x.now (sym e))

pub returns : goal.returns
returns g c = (
  (
    refl,
    λ w. where_some c.get_mut.result _ _ c.get_mut.ensures.value (λ some.
        names_of-put (λ value. value) c.self.inside.entries.entries _ c.args.name.now w (((c.get_mut.follows.holds w).3 some).0)
        ∙ ap (λ old. names.insert old c.args.name.now.bytes w) c.self.view_is),
    ap (λ (old : BTreeMap ArrayString g.row.T.Denot). names_of (λ value. value) old.entries) c.get_mut.follows.holds-at-none ∙ c.self.view_is,
  ),
  record { writes_back = tt; value = c.get_mut.ensures.value ∙ get-names_of_same c.self.inside.entries.entries c.args.name.now ∙ ap (λ values. names.get values c.args.name.now.bytes) c.self.view_is },
)

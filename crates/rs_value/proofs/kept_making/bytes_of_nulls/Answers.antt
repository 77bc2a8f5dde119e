use Rattle.std.proofs.lemmas.Result.{IfOk-weaker}
use Rattle.rs_value.proofs.KeptRows.{keeps_nulls}
use Rattle.rs_value.proofs.kept_making.bytes_of_nulls.Goals as goal

pub returns : goal.returns
returns c = IfOk-weaker c.from_elem.result _ _ (λ bytes made. keeps_nulls c.args.width bytes.items (made (λ y same. same))) c.from_elem.ensures.items_if_clones_equal

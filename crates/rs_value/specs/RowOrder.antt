-- The order of rows is total, and only equal rows tie.
use Rattle.std.proofs.Common.{◌≡◌, refl, ap}
use Rattle.std.specs.declared.cmp.Ordering.{Ordering}
use Rattle.std.specs.declared.cmp.Ordering.TheVariants.{Less, Equal, Greater}
use Rattle.std.specs.Cmp.{IsTotalOrder}
use Rattle.std.specs.FinMap.{IsAntisymmetric, nat_cmp-IsAntisymmetric, int_cmp-IsAntisymmetric, slice_cmp-IsAntisymmetric}
use Rattle.std.specs.Ordering.{ordering_then}
use Rattle.std.proofs.lemmas.Cmp.{nat_cmp_total, int_cmp_total, nat_list_cmp_total, on_total, then_total, lists_total}
use Rattle.rs_value.specs.Row.{Datum, null, number, text, rank, number_in, text_in, datum_cmp, row_cmp}

pub datum_total : IsTotalOrder datum_cmp
unfolding datum_cmp
datum_total = then_total (on_total rank nat_cmp_total) (then_total (on_total number_in int_cmp_total) (on_total text_in nat_list_cmp_total))

pub row_total : IsTotalOrder row_cmp
unfolding row_cmp
row_total = lists_total datum_total

-- In an order by one test and then another, both tie where the whole does.
first_ties : (r s : Ordering) → ordering_then r s ≡ Equal → r ≡ Equal
first_ties Less s e = cc e
first_ties Equal s e = refl
first_ties Greater s e = cc e

second_ties : (r s : Ordering) → ordering_then r s ≡ Equal → s ≡ Equal
second_ties Less s e = cc e
second_ties Equal s e = e
second_ties Greater s e = cc e

-- What makes a datum: its rank, its number and its text.
same_parts : (a b : Datum) → rank a ≡ rank b → number_in a ≡ number_in b → text_in a ≡ text_in b → a ≡ b
same_parts null null r n t = refl
same_parts null (number y) r n t = cc
same_parts null (text y) r n t = cc
same_parts (number x) null r n t = cc
same_parts (number x) (number y) r n t = ap number n
same_parts (number x) (text y) r n t = cc
same_parts (text x) null r n t = cc
same_parts (text x) (number y) r n t = cc
same_parts (text x) (text y) r n t = ap text t

pub datum_antisymmetric : IsAntisymmetric datum_cmp
unfolding datum_cmp
datum_antisymmetric a b tied =
    let behind = second_ties _ _ tied in
    same_parts a b (nat_cmp-IsAntisymmetric _ _ (first_ties _ _ tied)) (int_cmp-IsAntisymmetric _ _ (first_ties _ _ behind))
    (slice_cmp-IsAntisymmetric nat_cmp-IsAntisymmetric _ _ (second_ties _ _ behind))

pub row_antisymmetric : IsAntisymmetric row_cmp
unfolding row_cmp
row_antisymmetric = slice_cmp-IsAntisymmetric datum_antisymmetric

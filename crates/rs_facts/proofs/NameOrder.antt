-- Names are in one total order, in which no two differ and tie.
use Rattle.std.specs.Cmp.{IsTotalOrder}
use Rattle.std.specs.Cmp.Lexicographic.{nat_list_cmp_total}
use Rattle.std.specs.FinMap.{IsAntisymmetric, nat_cmp-IsAntisymmetric, slice_cmp-IsAntisymmetric}
use Rattle.rs_facts.specs.Fact.{name_cmp}

pub name_cmp-total : IsTotalOrder name_cmp
unfolding name_cmp
name_cmp-total = nat_list_cmp_total

pub name_cmp-antisymmetric : IsAntisymmetric name_cmp
unfolding name_cmp
name_cmp-antisymmetric = slice_cmp-IsAntisymmetric nat_cmp-IsAntisymmetric

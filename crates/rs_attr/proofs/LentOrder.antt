-- The order of spans by the bytes of their rows and by place is total.
use Rattle.std.proofs.lemmas.Cmp.{nat_cmp_total, on_total, then_total}
use Rattle.std.specs.Cmp.{IsTotalOrder}
use Rattle.std.specs.Cmp.Lexicographic.{nat_list_cmp_total}
use Rattle.rs_attr.specs.Meant.{lent_cmp}
use Rattle.rs_attr.specs.declared.meant.RowStretch.{RowStretch}

pub lent_cmp-total : IsTotalOrder lent_cmp
lent_cmp-total = then_total (on_total (λ (r : RowStretch). r.row.now) nat_list_cmp_total) (on_total (λ (r : RowStretch). r.lo) nat_cmp_total)

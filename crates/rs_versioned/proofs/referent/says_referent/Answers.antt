-- It says one exactly where zeros alone are after the name.
use Rattle.std.proofs.Common.{◌==◌, not, ◌∙◌, ap, ℕ, drop, arith}
use Rattle.std.proofs.lemmas.List.Sums.{prefix_len-le-length}
use Rattle.rs_versioned.proofs.ReferentCells.{referent_where_zeros, place_of}
use Rattle.rs_versioned.proofs.referent.says_referent.Goals as goal

pub split_at-requires : goal.split_at-requires
split_at-requires c = omega (arith, c.length_before_zero.ensures, prefix_len-le-length (λ byte. not (byte == 0)) (place_of c.args.cell.now))

pub returns : goal.returns
returns c =
    let cell = c.args.cell.now in
    referent_where_zeros cell c.split_at.result.1.now c.are_zeros.result c.requires.width (λ i. (c.type_inv.cell i).fits)
    (c.split_at.ensures.back ∙ ap (λ (n : ℕ). drop n (place_of cell)) c.length_before_zero.ensures) c.are_zeros.ensures

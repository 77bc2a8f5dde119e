-- Names are in one total order, in which no two differ and tie.
pub use Rattle.rs_facts.proofs.NameOrder.{name_cmp-antisymmetric, name_cmp-total}

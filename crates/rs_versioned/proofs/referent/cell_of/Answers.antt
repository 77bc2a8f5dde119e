-- Its parts are written one after another.
use Rattle.std.proofs.Common.{◌≡◌, ◌≤◌, ◌-◌, ◌∙◌, ◌++◌, ℕ, List, length, take, replicate, ap, refl, arith}
use Rattle.std.proofs.lemmas.List.{append_assoc}
use Rattle.std.specs.Int.{w32, w64, to_be_bytes}
use Rattle.std.specs.Vec.{vec_len}
use Rattle.rs_cell_versions.specs.declared.cell.TheConstants.{LIVING}
use Rattle.rs_versioned.proofs.CellParts.{filled_name, last_put}
use Rattle.rs_versioned.proofs.referent.cell_of.Goals as goal

pub returns : goal.returns
returns c =
    let referent = c.args.referent.now in
    let name = referent.name.bytes in
    let front : List ℕ = to_be_bytes w32 referent.route in
    let first : c.extend_from_slice.new.self.items ≡ front =
    c.in_ok-extend_from_slice.ensures.items ∙ ap (λ (l : List ℕ). l ++ c.to_be_bytes.result) c.new-cell.ensures.items ∙ c.to_be_bytes.ensures in
    let bytes : c.as_bytes.result.now ≡ name = c.as_bytes.ensures.value ∙ c.deref.ensures.0 in
    let second : c.extend_from_slice-2.new.self.items ≡ front ++ name =
    c.in_ok-extend_from_slice-2.ensures.items ∙ (λ i. first i ++ bytes i) in
    let short : length name ≤ 32 = omega (arith, c.deref.ensures.1, ap length c.deref.ensures.0) in
    let size : vec_len c.extend_from_slice-2.new.self ≡ length (front ++ name) = c.extend_from_slice-2.new.self.ok.0 ∙ ap length second in
    let filled : List ℕ = name ++ replicate (32 - length name) 0 in
    let third : c.resize.new.self.items ≡ front ++ filled =
    filled_name front name c.resize.new.self.items (vec_len c.extend_from_slice-2.new.self) refl short size
    (c.in_ok-resize.ensures.items ∙ ap (λ (l : List ℕ). take 36 l ++ replicate (36 - vec_len c.extend_from_slice-2.new.self) 0) second) in
    let birth : List ℕ = to_be_bytes w64 c.args.born in
    let at : List ℕ = to_be_bytes w32 referent.measure in
    let end : List ℕ = to_be_bytes w64 LIVING in
    let all : c.extend_from_slice-5.new.self.items ≡ (front ++ filled) ++ (birth ++ (at ++ end)) =
    last_put (front ++ filled) birth at end c.resize.new.self.items c.extend_from_slice-3.new.self.items c.extend_from_slice-4.new.self.items c.extend_from_slice-5.new.self.items third
    (c.in_ok-extend_from_slice-3.ensures.items ∙ ap (λ (l : List ℕ). c.resize.new.self.items ++ l) c.to_be_bytes-2.ensures)
    (c.in_ok-extend_from_slice-4.ensures.items ∙ ap (λ (l : List ℕ). c.extend_from_slice-3.new.self.items ++ l) (c.to_be_bytes-3.ensures ∙ ap (to_be_bytes w32) c.thousandths.ensures.value))
    (c.in_ok-extend_from_slice-5.ensures.items ∙ ap (λ (l : List ℕ). c.extend_from_slice-4.new.self.items ++ l) c.to_be_bytes-4.ensures) in
    record {
      says = record {
        route_fits = omega arith;
        name_fits = short;
        no_zeros = c.requires.name;
        born_fits = omega arith;
        measure_fits = omega (arith, c.thousandths.ensures.value, c.thousandths.ensures.in_range);
        died_fits = omega arith;
        bytes = all ∙ append_assoc front filled (birth ++ (at ++ end));
      };
    }

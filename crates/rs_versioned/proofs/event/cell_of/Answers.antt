-- Its parts are written one after another.
use Rattle.std.proofs.Common.{◌≡◌, ◌∙◌, ◌++◌, ℕ, List, ap, arith}
use Rattle.std.proofs.lemmas.List.{append_assoc}
use Rattle.std.specs.Int.{w32, w64, to_be_bytes}
use Rattle.rs_cell_versions.specs.declared.cell.TheConstants.{LIVING}
use Rattle.rs_versioned.proofs.CellParts.{last_put}
use Rattle.rs_versioned.proofs.event.cell_of.Goals as goal

pub returns : goal.returns
returns c =
    let span = c.args.span.now in
    let row : List ℕ = c.in_ok-push_encoded.ensures.0 in
    let route : List ℕ = to_be_bytes w32 c.args.route in
    let from : List ℕ = to_be_bytes w32 span.lo in
    let birth : List ℕ = to_be_bytes w64 c.args.born in
    let to : List ℕ = to_be_bytes w32 span.hi in
    let end : List ℕ = to_be_bytes w64 LIVING in
    let first : c.extend_from_slice.new.self.items ≡ route =
    c.in_ok-extend_from_slice.ensures.items ∙ ap (λ (l : List ℕ). l ++ c.to_be_bytes.result) c.new-cell.ensures.items ∙ c.to_be_bytes.ensures in
    let second : c.extend_from_slice-2.new.self.items ≡ route ++ from =
    c.in_ok-extend_from_slice-2.ensures.items ∙ (λ i. first i ++ c.to_be_bytes-2.ensures i) in
    let third : c.push_encoded.new.bytes.items ≡ (route ++ from) ++ row = c.in_ok-push_encoded.ensures.2 ∙ ap (λ (l : List ℕ). l ++ row) second in
    let all : c.extend_from_slice-5.new.self.items ≡ ((route ++ from) ++ row) ++ (birth ++ (to ++ end)) =
    last_put ((route ++ from) ++ row) birth to end c.push_encoded.new.bytes.items c.extend_from_slice-3.new.self.items c.extend_from_slice-4.new.self.items c.extend_from_slice-5.new.self.items third
    (c.in_ok-extend_from_slice-3.ensures.items ∙ ap (λ (l : List ℕ). c.push_encoded.new.bytes.items ++ l) c.to_be_bytes-3.ensures)
    (c.in_ok-extend_from_slice-4.ensures.items ∙ ap (λ (l : List ℕ). c.extend_from_slice-3.new.self.items ++ l) c.to_be_bytes-4.ensures)
    (c.in_ok-extend_from_slice-5.ensures.items ∙ ap (λ (l : List ℕ). c.extend_from_slice-4.new.self.items ++ l) c.to_be_bytes-5.ensures) in
    record {
      says = record {
        bytes = row;
        row = c.in_ok-push_encoded.ensures.1;
        fields = record {
          route_fits = omega arith;
          from_fits = omega arith;
          born_fits = omega arith;
          to_fits = omega arith;
          died_fits = omega arith;
          bytes = all ∙ append_assoc (route ++ from) row (birth ++ (to ++ end)) ∙ append_assoc route from (row ++ (birth ++ (to ++ end)));
        };
      };
    }

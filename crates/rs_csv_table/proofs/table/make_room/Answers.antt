-- There is room, or the portion is written.
use Rattle.std.proofs.Common.{◌<◌, ◌≤◌, ◌∙◌, ap, arith, length, refl, subst}
use Rattle.std.proofs.lemmas.List.{length-map}
use Rattle.std.specs.Io.KnownBytes.{Appends}
use Rattle.rs_csv_table.specs.Records.{fields_of, records_of}
use Rattle.rs_csv_table.specs.Tables.{portion_text}
use Rattle.rs_csv_table.specs.declared.table.TheConstants.{ROWS}
use Rattle.rs_csv_table.proofs.Portions.{has_room, makes_room, take_records}
use Rattle.rs_csv_table.proofs.table.make_room.Goals as goal

pub returns-then-len-le-ROWS : goal.returns-then-len-le-ROWS
returns-then-len-le-ROWS g c = λ read before so.
    let few : length (records_of c.args.held.now.items) ≤ ROWS = omega (arith, c.if-len-le-ROWS.true, c.len.ensures, length-map c.args.held.now.items (λ row. fields_of row.items)) in
    has_room read (records_of c.args.held.now.items) before _ few so

pub returns : goal.returns
returns g c = λ read before so.
    let many : ROWS < length (records_of c.args.held.now.items) = omega (arith, c.if-len-le-ROWS.false, c.len.ensures, length-map c.args.held.now.items (λ row. fields_of row.items)) in
    makes_room read (records_of c.args.held.now.items) (records_of c.truncate.new.self.items) _ before _ _ _ many
    (ap records_of c.truncate.ensures.items ∙ take_records 1 c.args.held.now.items) refl so (subst (λ rows. Appends (g.W.Write.contents c.args.output.now) (g.W.Write.contents c.put_portion.new.output) (portion_text (records_of rows))) c.as_slice.ensures.value c.in_ok-put_portion.ensures) c.in_ok-put_parts.ensures

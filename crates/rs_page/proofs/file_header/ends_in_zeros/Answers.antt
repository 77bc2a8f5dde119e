-- Zeros after the fields, as a record.
use Rattle.rs_page.proofs.file_header.ends_in_zeros.Goals as goal

pub returns : goal.returns
returns c = ((λ zeros. record { each = c.are_zeros_from.ensures.0 zeros }), (λ zeros. c.are_zeros_from.ensures.1 zeros.each))

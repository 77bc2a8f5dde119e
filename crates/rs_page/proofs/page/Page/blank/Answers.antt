-- After the header of a new page there are zeros.
use Rattle.std.proofs.Common.{◌∙◌}
use Rattle.rs_page.proofs.page.Page.blank.Goals as goal

pub returns : goal.returns
returns c = record {
  header = c.put_header.ensures.header;
  zeros = λ k after. c.put_header.ensures.rest k 1 after ∙ c.new-page.ensures.zeros k 1;
  size = c.put_header.ensures.size;
}

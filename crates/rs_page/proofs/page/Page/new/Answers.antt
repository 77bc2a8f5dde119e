-- A page of zeros.
use Rattle.rs_page.proofs.Numbers.{number_at-zeros}
use Rattle.rs_page.proofs.page.Page.new.Goals as goal

pub returns-clause-zeros : goal.returns-clause-zeros
returns-clause-zeros c = λ k n. number_at-zeros k n 4096

use Rattle.rs_file_meaning.proofs.Kept.{definitions_kept}
use Rattle.rs_file_meaning.proofs.standing.definitions_of_a_file_are_a_catalogues.Goals as goal

pub returns : goal.returns
returns c = λ version catalogue definitions meant given born are.
    definitions_kept c.meant_definitions_make_a_lawful_state.ensures.state c.meant_definitions_make_a_lawful_state.ensures.indexes version catalogue definitions meant given born are

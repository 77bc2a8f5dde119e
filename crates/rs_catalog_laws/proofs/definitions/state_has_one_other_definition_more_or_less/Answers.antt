use Rattle.rs_catalog_laws.proofs.Tables.{state_with_alignment, state_with_index, state_with_view, state_without_alignment, state_without_index, state_without_view}
use Rattle.rs_catalog_laws.proofs.definitions.state_has_one_other_definition_more_or_less.Goals as goal

pub returns-clause-index_more : goal.returns-clause-index_more
returns-clause-index_more c = λ definitions name item referents spans rest. state_with_index definitions name referents spans rest item

pub returns-clause-index_less : goal.returns-clause-index_less
returns-clause-index_less c = state_without_index

pub returns-clause-view_more : goal.returns-clause-view_more
returns-clause-view_more c = λ definitions name item referents spans rest. state_with_view definitions name referents spans rest item

pub returns-clause-view_less : goal.returns-clause-view_less
returns-clause-view_less c = state_without_view

pub returns-clause-alignment_more : goal.returns-clause-alignment_more
returns-clause-alignment_more c = λ definitions name pieces referents spans rest. state_with_alignment definitions name referents spans rest pieces

pub returns-clause-alignment_less : goal.returns-clause-alignment_less
returns-clause-alignment_less c = state_without_alignment

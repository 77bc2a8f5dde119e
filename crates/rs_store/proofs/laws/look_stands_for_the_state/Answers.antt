-- The law, as it is proved of its definitions.
use Rattle.rs_store.proofs.LookedAt.{left_open_was, no_file_was, none_of_any, stands_shown, stands_was}
use Rattle.rs_store.proofs.laws.look_stands_for_the_state.Goals as goal

pub returns-clause-stands : goal.returns-clause-stands
returns-clause-stands c = stands_shown

pub returns-clause-stood : goal.returns-clause-stood
returns-clause-stood c = stands_was

pub returns-clause-left_open : goal.returns-clause-left_open
returns-clause-left_open c = left_open_was

pub returns-clause-none : goal.returns-clause-none
returns-clause-none c = no_file_was

pub returns-clause-lacks : goal.returns-clause-lacks
returns-clause-lacks c = none_of_any

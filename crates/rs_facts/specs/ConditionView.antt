-- What the conditions of the code say.
use Rattle.rs_value.specs.Row.{null}
use Rattle.rs_value.specs.View.{literal_datum}
use Rattle.rs_facts.specs.Condition as said
use Rattle.rs_facts.specs.declared.condition.Term.{Term}
use Rattle.rs_facts.specs.declared.condition.Term.TheVariants as terms
use Rattle.rs_facts.specs.declared.condition.Condition.{Condition, Compare, TestsNull, Negated', Bracketed', Both', Either', Row_of-Condition, end_of-Condition, more_of-Condition}

abbrev pub term_of : Term → said.Term
term_of (terms.Column place) = said.column place
term_of (terms.Written literal) = said.written (literal_datum literal)

-- always true
abbrev pub holds_always : said.Condition
holds_always = said.tests_null (said.written null)

-- a chain: its first part, and (or) the rest
abbrev mutual
  pub condition_of : Condition → said.Condition
  condition_of (Compare column comparison term) = said.compare (said.column column) comparison (term_of term)
  condition_of (TestsNull column) = said.tests_null (said.column column)
  condition_of (Negated' place condition) = said.negated (condition_of condition)
  condition_of (Bracketed' place condition) = said.bracketed (condition_of condition)
  condition_of (Both' shape parts) = all_of parts
  condition_of (Either' shape parts) = any_of parts

  pub all_of : {m : _} → Row_of-Condition m → said.Condition
  all_of end_of-Condition = holds_always
  all_of (more_of-Condition part end_of-Condition) = condition_of part
  all_of (more_of-Condition part (more_of-Condition next rest)) = said.both (condition_of part) (all_of (more_of-Condition next rest))

  pub any_of : {m : _} → Row_of-Condition m → said.Condition
  any_of end_of-Condition = said.negated holds_always
  any_of (more_of-Condition part end_of-Condition) = condition_of part
  any_of (more_of-Condition part (more_of-Condition next rest)) = said.either (condition_of part) (any_of (more_of-Condition next rest))

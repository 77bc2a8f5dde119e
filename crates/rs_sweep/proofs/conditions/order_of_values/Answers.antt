use Rattle.std.proofs.Common.{◌≡◌, ap, rules}
use Rattle.std.specs.Ordering.{int_cmp}
use Rattle.rs_value.specs.LentView.{lent_datum}
use Rattle.rs_sweep.proofs.TestLaws.{numbers, texts, number_first, text_first}
use Rattle.rs_sweep.proofs.conditions.order_of_values.Goals as goal

pub returns-in-Int-Int : goal.returns-in-Int-Int
returns-in-Int-Int c =
    let order : c.cmp.result ≡ int_cmp c.in-Int-Int.one c.in-Int-Int.other = search rules in
    numbers _ _ _ _ c.cmp.result (ap lent_datum c.in-Int-Int.is-0) (ap lent_datum c.in-Int-Int.is-1) order

pub returns-in-Int-Text : goal.returns-in-Int-Text
returns-in-Int-Text c = number_first _ _ _ _ (ap lent_datum c.in-Int-Text.is-0) (ap lent_datum c.in-Int-Text.is-1)

pub returns-in-Text-Text : goal.returns-in-Text-Text
returns-in-Text-Text c = texts _ _ _ _ c.cmp-in-Text-Text.result (ap lent_datum c.in-Text-Text.is-0) (ap lent_datum c.in-Text-Text.is-1) c.cmp-in-Text-Text.ensures

pub returns-in-Text-Int : goal.returns-in-Text-Int
returns-in-Text-Int c = text_first _ _ _ _ (ap lent_datum c.in-Text-Int.is-0) (ap lent_datum c.in-Text-Int.is-1)

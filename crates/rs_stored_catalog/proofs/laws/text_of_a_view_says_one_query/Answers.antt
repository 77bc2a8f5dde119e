use Rattle.rs_stored_catalog.proofs.laws.text_of_a_view_says_one_query.Goals as goal

pub returns : goal.returns
returns c name other a b text one two =
    c.text_says_one_query.ensures text a b (c.text_of_a_view_says_its_query.ensures _ _ name a text one.asks.reads) (c.text_of_a_view_says_its_query.ensures _ _ other b text two.asks.reads)

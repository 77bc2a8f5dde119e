use Rattle.rs_store.proofs.laws.state_of_a_disk_is_lawful.Goals as goal

pub returns : goal.returns
returns c = λ limit disk state stands. c.what_stands_is_lawful.ensures stands.file.pages stands.file.stand.contents state stands.file.stand.stands

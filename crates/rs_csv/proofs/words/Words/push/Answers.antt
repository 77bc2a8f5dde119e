use Rattle.std.proofs.Common.{[], ◌∷◌}
use Rattle.rs_csv.specs.Words.{word_text}
use Rattle.rs_csv.proofs.Unpacking.{known_more}
use Rattle.rs_csv.proofs.words.Words.push.Goals as goal

pub returns : goal.returns
returns c = (word_text c.args.word ∷ [], known_more c.self.inside.known.items _ c.args.word c.args.self.now c.in_ok-push.ensures.items c.self.view_is)

use Rattle.rs_lexer.proofs.ScanningLaws.{word_kind-found, word_kind-name, word_kind-long}
use Rattle.rs_lexer.proofs.scan.word_kind.Goals as goal

pub returns-in-Some : goal.returns-in-Some
returns-in-Some c = word_kind-found c.args.word.now c.in-Some.kind c.in-Some.ensures

pub returns-then-word-le-NAME_BYTES : goal.returns-then-word-le-NAME_BYTES
returns-then-word-le-NAME_BYTES c = word_kind-name c.args.word.now c.in-None.ensures c.if-word-le-NAME_BYTES.true

pub returns-else-word-le-NAME_BYTES : goal.returns-else-word-le-NAME_BYTES
returns-else-word-le-NAME_BYTES c = word_kind-long c.args.word.now c.in-None.ensures c.if-word-le-NAME_BYTES.false

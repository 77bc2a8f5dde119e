-- Each text is a question, and they are asked of what opening the file gave; or one is none.
use Rattle.std.proofs.Common.{inl, inr, sym}
use Rattle.std.proofs.KnownBytes.{Keeps-refl}
use Rattle.rs_server.proofs.service.ask_file.Goals as goal

pub returns-in-Some-clause-asks : goal.returns-in-Some-clause-asks
returns-in-Some-clause-asks g c = inl (sym c.in-Some.ensures.none, c.refuse_question.ensures, Keeps-refl _)

pub returns-in-None-clause-asks : goal.returns-in-None-clause-asks
returns-in-None-clause-asks g c = inr (c.open_file.result, sym c.in-None.ensures.none, c.open_file.ensures, c.ask_opened.ensures.asks)

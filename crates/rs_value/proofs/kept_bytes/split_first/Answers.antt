use Rattle.std.proofs.Common.{◌∙◌, ap, min, length}
use Rattle.rs_value.proofs.KeptReading.{front_cut, rest_cut}
use Rattle.rs_value.proofs.kept_bytes.split_first.Goals as goal

pub returns-clause-first : goal.returns-clause-first
returns-clause-first c row h = front_cut c.args.bytes.now _ _ row (c.min.ensures ∙ ap (λ n. min n (length c.args.bytes.now)) c.first_width.ensures) c.split_at.ensures.front h

pub returns-clause-rest : goal.returns-clause-rest
returns-clause-rest c row h = rest_cut c.args.bytes.now _ _ row (c.min.ensures ∙ ap (λ n. min n (length c.args.bytes.now)) c.first_width.ensures) c.split_at.ensures.back h

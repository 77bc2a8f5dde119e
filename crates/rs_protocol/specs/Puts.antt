-- What is put into a writer: bytes whole, or a front of them and then a fault.
use Rattle.std.specs.Prelude.{◌≡◌, ◌≢◌, List, [], ◌++◌, ℕ, Option, Result, MatchResult}
use Rattle.std.specs.Io.KnownBytes.{Appends}
use Rattle.rs_protocol.specs.declared.stream.Fault.{Fault}
use Rattle.rs_protocol.specs.declared.stream.Fault.TheVariants.{Write}

-- a writer has grown by the bytes but for what is lost at their end
pub record PutsBut (bytes lost : List ℕ) (before after : Option (List ℕ)) : Type 0 where
  pub front : List ℕ
  pub whole : bytes ≡ front ++ lost
  pub put : Appends before after front

-- a writer has grown by the bytes, or by a front of them with a fault
abbrev pub Puts : {T : Type 0} → Result T Fault → List ℕ → Option (List ℕ) → Option (List ℕ) → Type 0
Puts result bytes before after =
    MatchResult result (λ _. Appends before after bytes)
    (λ fault. (fault ≡ Write) × ((lost : List ℕ) × (lost ≢ []) × PutsBut bytes lost before after))

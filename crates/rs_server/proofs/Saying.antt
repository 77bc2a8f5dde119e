-- What was put is said, or a front of it.
use Rattle.std.proofs.Common.{◌≡◌, ◌∙◌, List, [], ◌∷◌, ◌++◌, ℕ, Option, Some, Result, Ok, Err, sym, ap, subst, append_assoc, append-nil}
use Rattle.std.specs.Prelude.{codes, decimal}
use Rattle.rs_refusal.specs.declared.refusal.Refusal.{Refusal}
use Rattle.rs_refusal.specs.Refusal.{number_of, words_of}
use Rattle.rs_protocol.specs.declared.stream.Fault.{Fault}
use Rattle.rs_protocol.specs.Puts.{Puts}
use Rattle.rs_server.specs.Saying.{listening_text, place_line, refusal_line, SaysFront}

pub said_from_puts : (T : Type 0) (result : Result T Fault) (text : List ℕ) (before after : Option (List ℕ)) → Puts result text before after → SaysFront text before after
said_from_puts T (Ok done) text before after puts = record { front = text; lost = []; whole = sym (append-nil text); put = puts }
said_from_puts T (Err fault) text before after puts = let but = puts.1.2 in record { front = but.front; lost = puts.1.0; whole = but.whole; put = but.put }

joined : (n w : List ℕ) → n ++ (32 ∷ (w ++ 10 ∷ [])) ≡ n ++ 32 ∷ [] ++ w ++ 10 ∷ []
joined n w = sym (append_assoc (n ++ 32 ∷ []) w (10 ∷ []) ∙ append_assoc n (32 ∷ []) (w ++ 10 ∷ []))

joined_place : (p w : List ℕ) → p ++ (58 ∷ 32 ∷ (w ++ 10 ∷ [])) ≡ p ++ 58 ∷ 32 ∷ [] ++ w ++ 10 ∷ []
joined_place p w = sym (append_assoc (p ++ 58 ∷ 32 ∷ []) w (10 ∷ []) ∙ append_assoc p (58 ∷ 32 ∷ []) (w ++ 10 ∷ []))

-- the parts of a refusal's line are that line
pub line_from_parts : (T : Type 0) (result : Result T Fault) (refusal : Refusal) (number words : List ℕ) (before after : Option (List ℕ))
    → number ≡ decimal (number_of refusal) → words ≡ words_of refusal
    → Puts result (codes "roadseg: ERR " ++ (number ++ (32 ∷ (words ++ 10 ∷ [])))) before after → Puts result (refusal_line refusal) before after
line_from_parts T result refusal number words before after is_number are_words puts =
    subst (λ bytes. Puts result bytes before after)
    (ap (λ n. codes "roadseg: ERR " ++ (n ++ (32 ∷ (words ++ 10 ∷ [])))) is_number
    ∙ ap (λ w. codes "roadseg: ERR " ++ (decimal (number_of refusal) ++ (32 ∷ (w ++ 10 ∷ [])))) are_words
    ∙ ap (λ bytes. codes "roadseg: ERR " ++ bytes) (joined (decimal (number_of refusal)) (words_of refusal)))
    puts

-- so are those of a place's
pub place_from_parts : (T : Type 0) (result : Result T Fault) (line place words : List ℕ) (before after : Option (List ℕ))
    → Puts result (line ++ (codes "roadseg: " ++ (place ++ (58 ∷ 32 ∷ (words ++ 10 ∷ []))))) before after → Puts result (line ++ place_line place words) before after
place_from_parts T result line place words before after puts =
    subst (λ bytes. Puts result bytes before after) (ap (λ bytes. line ++ (codes "roadseg: " ++ bytes)) (joined_place place words)) puts

-- and those of what `serve` says
pub port_from_parts : (T : Type 0) (result : Result T Fault) (asked : Option ℕ) (port : ℕ) (number : List ℕ) (before after : Option (List ℕ)) → asked ≡ Some port → number ≡ decimal port
    → Puts result (codes "listening\nport " ++ (number ++ 10 ∷ [])) before after → Puts result (listening_text asked) before after
port_from_parts T result asked port number before after is is_number puts =
    subst (λ bytes. Puts result bytes before after) (ap (λ n. codes "listening\nport " ++ (n ++ 10 ∷ [])) is_number ∙ sym (ap listening_text is)) puts

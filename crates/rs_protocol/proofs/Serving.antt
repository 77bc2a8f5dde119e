-- Lines served one after another, out of a stream that comes in pieces.
use Rattle.std.proofs.Common.{◌≡◌, ℕ, zero, suc, ◌<◌, ◌≤◌, inl, inr, true, List, [], ◌∷◌, ◌++◌, length, take, Option, Some, None, Result, Ok, Err, refl, sym, ap, ◌∙◌, subst, append_assoc, append-nil, arith, length-take}
use Rattle.std.specs.Prelude.{flat_map, nat_lt}
use Rattle.std.proofs.lemmas.List.{take-append-drop}
use Rattle.std.proofs.lemmas.Bool.{cases_lt}
use Rattle.std.proofs.Math.ListN.{drop_of_length-le}
use Rattle.std.proofs.lemmas.Grind.{flat_map-append}
use Rattle.std.proofs.lemmas.Bool.Decides.{nat_tests}
use Rattle.rs_refusal.specs.declared.refusal.Refusal.TheVariants.{LineTooLong}
use Rattle.rs_machine.specs.Served.{Machine}
use Rattle.rs_machine.specs.ReplyText.{reply_text}
use Rattle.rs_machine.specs.Request.{Request, unreadable, no_command, command, Asks, line_refusal}
use Rattle.rs_machine.specs.Answered.{Answer, AnswersLine, Answered, answers_text}
use Rattle.rs_machine.specs.Stream.{IsCutIntoLines, IsOneLine, LINE_FEED}
use Rattle.rs_protocol.specs.declared.lines.TheConstants.{KEPT_BYTES}
use Rattle.rs_protocol.specs.declared.stream.Fault.{Fault}
use Rattle.rs_protocol.specs.Ends.{StoppedWriting, WroteAll, WroteFront}
use Rattle.rs_protocol.specs.Inner.{Puts, PutsBut, PutsAnswer, IsServed, GoesOn}
use Rattle.rs_protocol.proofs.Putting.{PutsBut-nothing, PutsBut-all, PutsBut-done, PutsBut-join, PutsBut-then}
use Rattle.rs_protocol.proofs.Cuts.{IsCutIntoLines-nothing, IsCutIntoLines-text, IsCutIntoLines-feed, IsCutIntoLines-more, CutsOn}

none_is_some : {A : Type 0} {x : A} → None ≡ Some x → ⊥
none_is_some e = cc

is_too_long : (line : List ℕ) → 4096 < length line → line_refusal line ≡ Some LineTooLong
is_too_long line long = let test : nat_lt 4096 (length line) ≡ true = grind (arith, nat_tests) in rw test

pub take-short : (n : ℕ) (xs : List ℕ) → length xs ≤ n → take n xs ≡ xs
take-short n xs short =
    sym (append-nil (take n xs)) ∙ ap (λ l. take n xs ++ l) (sym (drop_of_length-le xs short)) ∙ take-append-drop n xs

-- the first bytes of a line that is too long are too long
kept_is_too_long : (line : List ℕ) → 4096 < length line → 4096 < length (take KEPT_BYTES line)
kept_is_too_long line long = omega (arith, length-take KEPT_BYTES line)

too_long_unread : (line : List ℕ) → 4096 < length line → line_refusal (take KEPT_BYTES line) ≡ None → ⊥
too_long_unread line long read = none_is_some (sym read ∙ is_too_long (take KEPT_BYTES line) (kept_is_too_long line long))

asks_too_long : (line : List ℕ) (request : Request) → 4096 < length line → Asks (take KEPT_BYTES line) request → Asks line request
asks_too_long line (unreadable refusal) long asks =
    is_too_long line long ∙ sym (is_too_long (take KEPT_BYTES line) (kept_is_too_long line long)) ∙ asks
asks_too_long line (no_command session refusal) long asks = absurd (too_long_unread line long asks.begins.is_readable)
asks_too_long line (command session tree) long asks = absurd (too_long_unread line long asks.begins.is_readable)

-- what is answered to the bytes kept of a line is answered to the line
pub answers_kept : (line : List ℕ) (given : Answer) (old new : Machine) → AnswersLine old (take KEPT_BYTES line) given new → AnswersLine old line given new
answers_kept line given old new answers =
    elim (cases_lt 4096 (length line)) [
      | inr short ↦
          let fits : length line ≤ 4097 = omega arith in
          subst (λ l. AnswersLine old l given new) (take-short KEPT_BYTES line fits) answers
      | inl long ↦ elim answers as (λ _. AnswersLine old line given new) [
        | inl asked ↦ inl (asked.0, asks_too_long line asked.0 long asked.1, asked.2)
        | inr wants ↦ absurd (too_long_unread line long wants.begins.is_readable)
      ]
    ]

-- one line more is answered
pub Answered-more : (old mid new : Machine) (lines : List (List ℕ)) (answers : List Answer) (line : List ℕ) (given : Answer)
    → Answered old lines answers mid → AnswersLine mid line given new → Answered old (lines ++ line ∷ []) (answers ++ given ∷ []) new
Answered-more old mid new [] [] line given rests next = (new, subst (λ m. AnswersLine m line given new) rests next, refl)
Answered-more old mid new (first ∷ lines) (one ∷ answers) line given all next =
    (all.0, all.1, Answered-more all.0 mid new lines answers line given all.2 next)
Answered-more old mid new [] (one ∷ answers) line given all next = absurd all
Answered-more old mid new (first ∷ lines) [] line given all next = absurd all

answers_text-more : (answers : List Answer) (given : Answer) → answers_text (answers ++ given ∷ []) ≡ answers_text answers ++ reply_text given.session given.reply
answers_text-more answers given =
    let text : Answer → List ℕ = λ one. reply_text one.session one.reply in
    flat_map-append text answers (given ∷ []) ∙ ap (λ l. flat_map text answers ++ l) (append-nil (text given))

line_answered : (kept line : List ℕ) (given : Answer) (old new : Machine) → kept ≡ take KEPT_BYTES line → AnswersLine old kept given new → AnswersLine old line given new
line_answered kept line given old new kept_is answers = answers_kept line given old new (subst (λ l. AnswersLine old l given new) kept_is answers)

-- nothing is told yet
pub IsServed-nothing : (kept pending : List ℕ) (machine : Machine) (a : Option (List ℕ)) → kept ≡ [] → pending ≡ [] → IsServed kept pending [] machine machine a a
IsServed-nothing kept pending machine a none no_reply = record {
  lines = [];
  rest = [];
  cut = IsCutIntoLines-nothing;
  answers = [];
  answered = refl;
  put = subst (λ l. PutsBut [] l a a) (sym no_reply) (PutsBut-nothing [] a);
  kept_is = none;
}

-- of bytes that are kept and more the first are those of all
take_both : (n : ℕ) (xs ys : List ℕ) → take n (take n xs ++ ys) ≡ take n (xs ++ ys)
take_both zero xs ys = refl
take_both (suc n) [] ys = refl
take_both (suc n) (x ∷ xs) ys = ap (λ l. x ∷ l) (take_both n xs ys)

-- bytes of the line begun are kept, as many as there is room for
pub IsServed-text : (kept kept' pending told text : List ℕ) (old new : Machine) (a b : Option (List ℕ)) → IsOneLine text → kept' ≡ take KEPT_BYTES (kept ++ text)
    → IsServed kept pending told old new a b → IsServed kept' pending (told ++ text) old new a b
IsServed-text kept kept' pending told text old new a b one kept_now served = record {
  lines = served.lines;
  rest = served.rest ++ text;
  cut = IsCutIntoLines-text told served.lines served.rest text served.cut one;
  answers = served.answers;
  answered = served.answered;
  put = served.put;
  kept_is = kept_now ∙ ap (λ l. take KEPT_BYTES (l ++ text)) served.kept_is ∙ take_both KEPT_BYTES served.rest text;
}

-- the line begun ends, and is answered
pub GoesOn-feed : (T : Type 0) (result : Result T Fault) (kept kept' pending now told : List ℕ) (old mid new : Machine) (a b c : Option (List ℕ)) → kept' ≡ []
    → IsServed kept pending told old mid a b → PutsAnswer result kept mid new pending now b c → GoesOn result kept' now (told ++ LINE_FEED ∷ []) old new a c
GoesOn-feed T (Ok done) kept kept' pending now told old mid new a b c emptied served answer = record {
  lines = served.lines ++ served.rest ∷ [];
  rest = [];
  cut = IsCutIntoLines-feed told served.lines served.rest served.cut;
  answers = served.answers ++ answer.given ∷ [];
  answered = Answered-more old mid new served.lines served.answers served.rest answer.given served.answered (line_answered kept served.rest answer.given mid new served.kept_is answer.answered);
  put = subst (λ l. PutsBut l now a c) (sym (answers_text-more served.answers answer.given)) (PutsBut-join (answers_text served.answers) pending (reply_text answer.given.session answer.given.reply) now a b c served.put answer.put);
  kept_is = emptied;
}
GoesOn-feed T (Err fault) kept kept' pending now told old mid new a b c emptied served answer =
    let puts : PutsBut (answers_text served.answers ++ reply_text answer.given.session answer.given.reply) answer.put.1.0 a c =
    PutsBut-join (answers_text served.answers) pending (reply_text answer.given.session answer.given.reply) answer.put.1.0 a b c served.put answer.put.1.2 in (
      answer.put.0,
      record {
        written = puts.front;
        put = puts.put;
        stopped = record {
          lines = served.lines ++ served.rest ∷ [];
          later = [];
          rest = [];
          cut = subst (λ l. IsCutIntoLines (told ++ LINE_FEED ∷ []) l []) (sym (append-nil (served.lines ++ served.rest ∷ []))) (IsCutIntoLines-feed told served.lines served.rest served.cut);
          answers = served.answers ++ answer.given ∷ [];
          answered = Answered-more old mid new served.lines served.answers served.rest answer.given served.answered (line_answered kept served.rest answer.given mid new served.kept_is answer.answered);
          lost = answer.put.1.0;
          some_lost = answer.put.1.1;
          text = answers_text-more served.answers answer.given ∙ puts.whole;
        };
      },
    )

-- what is pending is written
pub GoesOn-put : (T : Type 0) (result : Result T Fault) (kept pending told : List ℕ) (old new : Machine) (a b c : Option (List ℕ))
    → IsServed kept pending told old new a b → Puts result pending b c → GoesOn result kept [] told old new a c
GoesOn-put T (Ok done) kept pending told old new a b c served puts = record {
  lines = served.lines;
  rest = served.rest;
  cut = served.cut;
  answers = served.answers;
  answered = served.answered;
  put = PutsBut-done (answers_text served.answers) a c (PutsBut-then T (Ok done) (answers_text served.answers) pending a b c served.put puts);
  kept_is = served.kept_is;
}
GoesOn-put T (Err fault) kept pending told old new a b c served puts =
    let stop : Puts {T = T} (Err fault) (answers_text served.answers) a c = PutsBut-then T (Err fault) (answers_text served.answers) pending a b c served.put puts in (
      stop.0,
      record {
        written = stop.1.2.front;
        put = stop.1.2.put;
        stopped = record {
          lines = served.lines;
          later = [];
          rest = served.rest;
          cut = subst (λ l. IsCutIntoLines told l served.rest) (sym (append-nil served.lines)) served.cut;
          answers = served.answers;
          answered = served.answered;
          lost = stop.1.0;
          some_lost = stop.1.1;
          text = stop.1.2.whole;
        };
      },
    )

-- bytes that come after those that were served
pub WroteFront-more : (told more : List ℕ) (old new : Machine) (a b : Option (List ℕ)) → WroteFront told old new a b → WroteFront (told ++ more) old new a b
WroteFront-more told more old new a b wrote =
    let stop : StoppedWriting old told wrote.written new = wrote.stopped in
    let on : CutsOn (told ++ more) (stop.lines ++ stop.later) = IsCutIntoLines-more told (stop.lines ++ stop.later) stop.rest more stop.cut in
    record {
      written = wrote.written;
      put = wrote.put;
      stopped = record {
        lines = stop.lines;
        later = stop.later ++ on.later;
        rest = on.rest;
        cut = subst (λ l. IsCutIntoLines (told ++ more) l on.rest) (append_assoc stop.lines stop.later on.later) on.cut;
        answers = stop.answers;
        answered = stop.answered;
        lost = stop.lost;
        some_lost = stop.some_lost;
        text = stop.text;
      };
    }

-- every line told is answered, and nothing is pending
pub WroteAll-served : (kept told : List ℕ) (old new : Machine) (a b : Option (List ℕ)) → IsServed kept [] told old new a b → (rest : List ℕ) × (kept ≡ take KEPT_BYTES rest) × WroteAll told rest old new a b
WroteAll-served kept told old new a b served = (
  served.rest,
  served.kept_is,
  record {
    written = answers_text served.answers;
    put = PutsBut-all (answers_text served.answers) [] a b served.put refl;
    answered = record { lines = served.lines; cut = served.cut; answers = served.answers; answered = served.answered; text = refl };
  },
)

pub at_feed : (T : Type 0) (result : Result T Fault) (kept kept' line pending now told : List ℕ) (byte : ℕ) (old mid new : Machine) (a b c : Option (List ℕ)) → byte ≡ LINE_FEED → line ≡ kept → kept' ≡ []
    → IsServed kept pending told old mid a b → PutsAnswer result line mid new pending now b c → GoesOn result kept' now (told ++ byte ∷ []) old new a c
at_feed T result kept kept' line pending now told byte old mid new a b c is_feed line_is emptied served answer =
    let P : ℕ → Type 0 = λ n. GoesOn result kept' now (told ++ n ∷ []) old new a c in
    subst P (sym is_feed)
    (GoesOn-feed T result kept kept' pending now told old mid new a b c emptied served (subst (λ l. PutsAnswer result l mid new pending now b c) line_is answer))

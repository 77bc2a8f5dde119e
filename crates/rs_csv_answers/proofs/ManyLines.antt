-- Lines that are read and answered one after another.
use Rattle.std.proofs.Common.{◌≡◌, ◌≢◌, ◌∙◌, ◌++◌, ◌&&◌, ◌==◌, ℕ, Bool, true, false, List, [], ◌∷◌, Option, Some, None, Ok, Err, is_ok, replicate, refl, sym, ap, subst, append-nil}
use Rattle.std.proofs.KnownBytes.{Appends-nil, Appends-trans, Consumes-nil, Consumes-trans}
use Rattle.std.specs.Io.KnownBytes.{Consumes}
use Rattle.std.specs.Prelude.{flat_map}
use Rattle.std.specs.List.{AllByRecursion}
use Rattle.std.proofs.lemmas.Bool.{eqb-true}
use Rattle.std.proofs.lemmas.Grind.{flat_map-append}
use Rattle.rs_csv_answers.specs.Counting.{AreCountsOf}
use Rattle.rs_csv_answers.specs.Lines.{AnswersLine, AnswersTold, EndsAsCsv, EndsAt, IsAll, IsLineAnswered, Reads, TellsLines}
use Rattle.rs_csv_answers.specs.Turns.{PutsOne, text_of}
use Rattle.rs_csv_answers.specs.declared.lines.Answered.{Answered}
use Rattle.rs_csv_answers.specs.declared.lines.Ended.{Ended}
use Rattle.rs_csv_answers.specs.declared.lines.Ended.TheVariants.{CutLine, Refused, Whole}
use Rattle.rs_csv_answers.specs.declared.lines.Next.TheVariants as next
use Rattle.rs_csv_answers.proofs.Counting.{counts_more, counts_none}
use Rattle.rs_csv_answers.proofs.Turns.{answered_more, each_more, puts_then}
use Rattle.rs_machine.specs.Served.{Machine}
use Rattle.rs_machine.specs.Stream.{IsOneLine, with_feed}
use Rattle.rs_protocol.specs.Puts.{Puts}
use Rattle.rs_protocol.specs.declared.stream.Fault.{Fault}
use Rattle.rs_protocol.specs.declared.stream.Fault.TheVariants.{Read, Write}

-- none was told
pub told_none : (a b : Option (List ℕ)) (old : Machine) (answered : Answered) → AreCountsOf [] answered → AnswersTold [] a a old answered old b b
told_none a b old answered counts = record {
  lines = [];
  tells = record { told = []; whole = refl; each = tt; partial = tt; consumed = Consumes-nil a };
  puts = record { answers = []; text = []; each = (refl, refl); said = ap (λ n. n == 0) counts.refused; put = Appends-nil b };
  counted = counts;
}

-- a line more
each_one : (lines : List (List ℕ)) (line : List ℕ) → AllByRecursion IsOneLine lines → IsOneLine line → AllByRecursion IsOneLine (lines ++ line ∷ [])
each_one [] line each one = (one, tt)
each_one (first ∷ lines) line each one = (each.0, each_one lines line each.1 one)

with_line : (told : List ℕ) (lines : List (List ℕ)) (line : List ℕ) → told ≡ flat_map with_feed lines ++ [] → told ++ with_feed line ≡ flat_map with_feed (lines ++ line ∷ []) ++ []
with_line told lines line whole =
    ap (λ l. l ++ with_feed line) (whole ∙ append-nil (flat_map with_feed lines))
    ∙ sym (append-nil (flat_map with_feed (lines ++ line ∷ [])) ∙ flat_map-append with_feed lines (line ∷ []) ∙ ap (λ l. flat_map with_feed lines ++ l) (append-nil (with_feed line)))

with_rest : (told front rest : List ℕ) → told ≡ front ++ [] → told ++ rest ≡ front ++ rest
with_rest told front rest whole = ap (λ l. l ++ rest) (whole ∙ append-nil front)

line_told : (lines : List (List ℕ)) (line : List ℕ) (u v w : Option (List ℕ)) → TellsLines lines [] u v → IsOneLine line → Consumes v w (with_feed line) → TellsLines (lines ++ line ∷ []) [] u w
line_told lines line u v w tells one consumed = record {
  told = tells.told ++ with_feed line;
  whole = with_line tells.told lines line tells.whole;
  each = each_one lines line tells.each one;
  partial = tt;
  consumed = Consumes-trans u v w tells.told (with_feed line) tells.consumed consumed;
}

pub told_more : (line : List ℕ) (u v w : Option (List ℕ)) (old between new : Machine) (was now : Answered) (one : Bool) (a b c : Option (List ℕ)) → (now.refused == 0) ≡ (one && was.refused == 0)
    → AnswersTold [] u v old was between a b → Reads (Ok next.Line) line v w → AnswersLine line between was (Ok one) now new b c → AnswersTold [] u w old now new a c
told_more line u v w old between new was now one a b c is first reads then = record {
  lines = first.lines ++ line ∷ [];
  tells = line_told first.lines line u v w first.tells reads.0 reads.1;
  puts = record {
    answers = first.puts.answers ++ then.puts.answer ∷ [];
    text = first.puts.text ++ text_of then.puts.answer;
    each = each_more IsLineAnswered first.lines first.puts.answers first.puts.text old between new line then.puts.answer first.puts.each then.puts.is;
    said =
        is ∙ ap (λ t. t && was.refused == 0) then.puts.said ∙ ap (λ t. is_ok then.puts.answer && t) first.puts.said
        ∙ sym (answered_more first.puts.answers then.puts.answer);
    put = Appends-trans a b c first.puts.text (text_of then.puts.answer) first.puts.put then.puts.put;
  };
  counted = counts_more first.puts.answers then.puts.answer was now first.counted then.counted;
}

not_none : (lines : List (List ℕ)) (line : List ℕ) → lines ++ line ∷ [] ≢ []
not_none [] line e = cc
not_none (first ∷ lines) line e = cc

-- its text is not put whole
pub told_stops : (line : List ℕ) (u v w : Option (List ℕ)) (old between new : Machine) (was now : Answered) (fault : Fault) (a b c : Option (List ℕ)) → AnswersTold [] u v old was between a b
    → Reads (Ok next.Line) line v w → AnswersLine line between was (Err fault) now new b c → EndsAsCsv (Err fault) u w old new a c
told_stops line u v w old between new was now fault a b c first reads then =
    let puts : PutsOne IsLineAnswered line between (Err fault) new b c = then.puts in
    let is : fault ≡ Write = puts.put.0 in
    subst (λ (f : Fault). EndsAsCsv (Err f) u w old new a c) (sym is)
    (record {
      lines = first.lines ++ line ∷ [];
      some = not_none first.lines line;
      tells = line_told first.lines line u v w first.tells reads.0 reads.1;
      answers = first.puts.answers ++ puts.answer ∷ [];
      text = first.puts.text ++ text_of puts.answer;
      each = each_more IsLineAnswered first.lines first.puts.answers first.puts.text old between new line puts.answer first.puts.each puts.is;
      put = subst (λ (f : Fault). Puts {T = Answered} (Err f) (first.puts.text ++ text_of puts.answer) a c) is
          (puts_then Bool Answered fault first.puts.text (text_of puts.answer) a b c first.puts.put puts.put);
    })

-- ---- the end

all_told : (u v : Option (List ℕ)) (told rest : List ℕ) → Consumes u v told → IsAll v rest → IsAll u (told ++ rest)
all_told None v told rest consumed all = tt
all_told (Some xs) None told rest consumed all = absurd consumed
all_told (Some xs) (Some ys) told rest consumed all = consumed ∙ ap (λ l. told ++ l) all

module _ (u v w : Option (List ℕ)) (old new : Machine) (all : Answered) (a b : Option (List ℕ)) (first : AnswersTold [] u v old all new a b) where
  pub told_whole : (line : List ℕ) → Reads (Ok next.End) line v w → (ends : AnswersTold [] u w old all new a b) × IsAll u ends.tells.told
  told_whole line reads = (
    record {
      lines = first.lines;
      tells = record {
        told = first.tells.told;
        whole = first.tells.whole;
        each = first.tells.each;
        partial = tt;
        consumed = subst (Consumes u w) (append-nil first.tells.told) (Consumes-trans u v w first.tells.told [] first.tells.consumed reads.0);
      };
      puts = first.puts;
      counted = first.counted;
    },
    subst (IsAll u) (append-nil first.tells.told) (all_told u v first.tells.told [] first.tells.consumed reads.1),
  )

  pub told_cut : (line : List ℕ) → Reads (Ok next.Cut) line v w → (rest : List ℕ) × (rest ≢ []) × (ends : AnswersTold rest u w old all new a b) × IsAll u ends.tells.told
  told_cut line reads = (
    line,
    reads.1,
    record {
      lines = first.lines;
      tells = record {
        told = first.tells.told ++ line;
        whole = with_rest first.tells.told (flat_map with_feed first.lines) line first.tells.whole;
        each = first.tells.each;
        partial = reads.0;
        consumed = Consumes-trans u v w first.tells.told line first.tells.consumed reads.2;
      };
      puts = first.puts;
      counted = first.counted;
    },
    all_told u v first.tells.told line first.tells.consumed reads.3,
  )

  pub told_unread : (line : List ℕ) (fault : Fault) → Reads (Err fault) line v w → EndsAsCsv (Err fault) u w old new a b
  told_unread line fault reads = subst (λ (f : Fault). EndsAsCsv (Err f) u w old new a b) (sym reads.0) (v, all, first, reads.1)

-- what was counted says how it ended
abbrev with_end : (how : Ended) (all : Answered) (rest : List ℕ) (u v : Option (List ℕ)) (old new : Machine) (a b : Option (List ℕ)) → AnswersTold rest u v old all new a b
    → AnswersTold rest u v old (record all { ended = how }) new a b
with_end how all rest u v old new a b ends = record {
  lines = ends.lines;
  tells = ends.tells;
  puts = ends.puts;
  counted = record { lines = ends.counted.lines; refused = ends.counted.refused; room = ends.counted.room; numbers = ends.counted.numbers };
}

ended_so : (how : Ended) (all : Answered) (u v : Option (List ℕ)) (old new : Machine) (a b : Option (List ℕ)) → EndsAt how all u v old new a b → EndsAt how (record all { ended = how }) u v old new a b
ended_so Whole all u v old new a b ends = (with_end Whole all [] u v old new a b ends.0, ends.1)
ended_so CutLine all u v old new a b ends = (ends.0, ends.1, with_end CutLine all ends.0 u v old new a b ends.2, ends.3)
ended_so Refused all u v old new a b ends = (ends.0, with_end Refused all [] u v old new a b ends.1)

pub ends_so : (how : Ended) (answered all : Answered) (u v : Option (List ℕ)) (old new : Machine) (a b : Option (List ℕ)) → answered ≡ record all { ended = how } → EndsAt how all u v old new a b
    → EndsAsCsv (Ok answered) u v old new a b
ends_so how answered all u v old new a b is ends = subst (λ (it : Answered). EndsAsCsv (Ok it) u v old new a b) (sym is) (ended_so how all u v old new a b ends)

-- a line was refused, or none was and nothing was told
pub both_none : (count before : ℕ) (one : Bool) → (count == 0) ≡ (one && before == 0) → count ≡ 0 → (one ≡ true) × (before ≡ 0)
both_none count before true is none = (refl, eqb-true before 0 (sym is ∙ ap (λ n. n == 0) none))
both_none count before false is none = let wrong : false ≡ true = sym is ∙ ap (λ n. n == 0) none in cc

pub some_refused : (count before : ℕ) (one : Bool) → (count == 0) ≡ (one && before == 0) → one ≡ false → count ≢ 0
some_refused count before one is not_one none = let wrong : false ≡ true = sym (is ∙ ap (λ b. b && before == 0) not_one) ∙ ap (λ n. n == 0) none in cc

-- nothing was read
abbrev nothing : Answered
nothing = record { lines = 0; refused = 0; counts = record { by_number = replicate 256 0 }; ended = Whole }

pub not_begun : (a b : Option (List ℕ)) (old : Machine) → EndsAsCsv (Err Read) a a old old b b
not_begun a b old = (a, nothing, told_none a b old nothing (counts_none nothing refl refl refl), ([], Consumes-nil a))

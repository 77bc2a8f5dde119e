-- Lines that are held back, and written together.
use Rattle.std.proofs.Common.{◌≡◌, ◌∙◌, ℕ, List, [], ◌∷◌, ◌++◌, Option, Result, Ok, Err, ap, append-nil, append_assoc, refl, subst, sym}
use Rattle.std.specs.Prelude.{MatchResult, OnOk}
use Rattle.std.specs.Io.KnownBytes.{Appends}
use Rattle.std.proofs.KnownBytes.{Appends-nil, Appends-trans}
use Rattle.rs_dump.specs.Written.{AddedSome, PutsBytes, WroteFront, line_bytes, lines_bytes}
use Rattle.rs_dump.specs.declared.stop.Stop.{Stop}
use Rattle.rs_protocol.specs.Puts.{PutsBut}
use Rattle.rs_syntax.specs.Tree.{CommandTree}
use Rattle.rs_dump.proofs.Stops.{front_after, front_as, front_of_more}
use Rattle.rs_dump.proofs.Written.{lines_joined}

-- ---- bytes

-- nothing is out, and all is held back
pub held_back : (bytes : List ℕ) (a : Option (List ℕ)) → PutsBut bytes bytes a a
held_back bytes a = record { front = []; whole = refl; put = Appends-nil a }

pub held_as : (one other held : List ℕ) (a b : Option (List ℕ)) → one ≡ other → PutsBut one held a b → PutsBut other held a b
held_as one other held a b same put = subst (λ (bytes : List ℕ). PutsBut bytes held a b) same put

-- what was held back, and more
pub puts_more : (one other held held_now : List ℕ) (a b c : Option (List ℕ)) → PutsBut one held a b → PutsBut (held ++ other) held_now b c → PutsBut (one ++ other) held_now a c
puts_more one other held held_now a b c first more = record {
  front = first.front ++ more.front;
  whole = ap (λ (l : List ℕ). l ++ other) first.whole ∙ append_assoc first.front held other ∙ ap (λ (l : List ℕ). first.front ++ l) more.whole ∙ sym (append_assoc first.front more.front held_now);
  put = Appends-trans a b c first.front more.front first.put more.put;
}

-- a front of what was held back, and of more
pub front_more : (stop : Stop) (one other held : List ℕ) (a b c : Option (List ℕ)) → PutsBut one held a b → WroteFront stop (held ++ other) b c → WroteFront stop (one ++ other) a c
front_more stop one other held a b c first wrote = record { lost = wrote.lost; put = puts_more one other held wrote.lost a b c first wrote.put; lacks = wrote.lacks }

-- what was held back was written, and nothing is
pub all_put : {T : Type 0} (r : Result T Stop) (bytes held held_now : List ℕ) (a b : Option (List ℕ)) → held_now ≡ bytes → PutsBytes r held_now a b → OnOk r (held ≡ [])
    → MatchResult r (λ _. PutsBut bytes held a b) (λ stop. WroteFront stop bytes a b)
all_put (Ok x) bytes held held_now a b same put none = record { front = held_now; whole = sym same ∙ sym (append-nil held_now) ∙ ap (λ (l : List ℕ). held_now ++ l) (sym none); put = put }
all_put (Err stop) bytes held held_now a b same put none = front_as stop held_now bytes a b same put.1

-- ---- lines

module _ (held : List ℕ) (all : List CommandTree) where
  -- nothing is added yet
  pub added_first : (left : List CommandTree) (a : Option (List ℕ)) → left ≡ all → AddedSome held all left held a a
  added_first left a same = record { done = []; are = same; put = held_as held (held ++ []) held a a (sym (append-nil held)) (held_back held a) }

  -- the lines of several commands more
  pub added_chunk : (left rest chunk : List CommandTree) (now then : List ℕ) (a b c : Option (List ℕ)) → left ≡ chunk ++ rest → AddedSome held all left now a b
      → PutsBut (now ++ lines_bytes chunk) then b c → AddedSome held all rest then a c
  added_chunk left rest chunk now then a b c next added put = record {
    done = added.done ++ chunk;
    are = append_assoc added.done chunk rest ∙ ap (λ l. added.done ++ l) (sym next) ∙ added.are;
    put = held_as _ _ then a c (append_assoc held (lines_bytes added.done) (lines_bytes chunk) ∙ ap (λ (l : List ℕ). held ++ l) (sym (lines_joined added.done chunk)))
        (puts_more (held ++ lines_bytes added.done) (lines_bytes chunk) now then a b c added.put put);
  }

  -- it stops in them
  pub stops_added : (stop : Stop) (left rest chunk : List CommandTree) (now : List ℕ) (a b c : Option (List ℕ)) → left ≡ chunk ++ rest → AddedSome held all left now a b
      → WroteFront stop (now ++ lines_bytes chunk) b c → WroteFront stop (held ++ lines_bytes all) a c
  stops_added stop left rest chunk now a b c next added wrote =
      front_as stop _ _ a c
      (append_assoc (held ++ lines_bytes added.done) (lines_bytes chunk) (lines_bytes rest) ∙ append_assoc held (lines_bytes added.done) (lines_bytes chunk ++ lines_bytes rest)
      ∙ ap (λ (l : List ℕ). held ++ l) (ap (λ (l : List ℕ). lines_bytes added.done ++ l) (sym (lines_joined chunk rest)) ∙ sym (lines_joined added.done (chunk ++ rest))
      ∙ ap lines_bytes (ap (λ (l : List CommandTree). added.done ++ l) (sym next) ∙ added.are)))
      (front_of_more stop ((held ++ lines_bytes added.done) ++ lines_bytes chunk) (lines_bytes rest) a c
      (front_more stop (held ++ lines_bytes added.done) (lines_bytes chunk) now a b c added.put wrote))

  -- none is left
  pub all_added : (left : List CommandTree) (now : List ℕ) (a b : Option (List ℕ)) → left ≡ [] → AddedSome held all left now a b → PutsBut (held ++ lines_bytes all) now a b
  all_added left now a b none added =
      held_as _ _ now a b
      (ap (λ (trees : List CommandTree). held ++ lines_bytes trees) (sym (append-nil added.done) ∙ ap (λ (l : List CommandTree). added.done ++ l) (sym none) ∙ added.are)) added.put

-- one line more, whose command comes next
pub one_line : (tree : CommandTree) → line_bytes tree ≡ lines_bytes (tree ∷ [])
one_line tree = sym (append-nil (line_bytes tree))

-- at last what was held back is written
pub written_last : {T : Type 0} (r : Result T Stop) (bytes held : List ℕ) (a b c : Option (List ℕ)) → PutsBut bytes held a b → PutsBytes r held b c
    → MatchResult r (λ _. Appends a c bytes) (λ stop. WroteFront stop bytes a c)
written_last (Ok x) bytes held a b c added put = subst (λ (l : List ℕ). Appends a c l) (sym added.whole) (Appends-trans a b c added.front held added.put put)
written_last (Err stop) bytes held a b c added put = front_as stop _ _ a c (sym added.whole) (front_after stop added.front held a b c added.put put.1)

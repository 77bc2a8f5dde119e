-- A front of some bytes is a front of more, and follows what was written before it.
use Rattle.std.proofs.Common.{◌≡◌, ◌∙◌, ℕ, List, [], ◌∷◌, ◌++◌, Option, Result, Ok, Err, ap, append-nil, append_assoc, inl, refl, subst, sym}
use Rattle.std.specs.Prelude.{IsErrAnd, MatchResult}
use Rattle.std.specs.Io.KnownBytes.{Appends}
use Rattle.std.proofs.KnownBytes.{Appends-nil, Appends-trans}
use Rattle.rs_dump.specs.Written.{StopsWriting, WroteFront, WroteSome, line_bytes, lines_bytes}
use Rattle.rs_dump.specs.declared.stop.Stop.{Stop}
use Rattle.rs_dump.specs.declared.stop.Stop.TheVariants.{Refused, Stream}
use Rattle.rs_protocol.specs.declared.stream.Fault.TheVariants.{Write}
use Rattle.rs_refusal.specs.declared.refusal.Refusal.{Refusal}
use Rattle.rs_refusal.specs.declared.refusal.Refusal.TheVariants.{OutOfMemory}
use Rattle.rs_syntax.specs.Tree.{CommandTree}
use Rattle.rs_dump.proofs.Written.{lines_joined}

-- ---- outcomes

module _ {T : Type 0} where
  -- what follows in each of the two cases
  pub in_both : (r : Result T Stop) (A B : T → Type 0) (P Q : Stop → Type 0) → ((x : T) → A x → B x) → ((stop : Stop) → P stop → Q stop) → MatchResult r A P → MatchResult r B Q
  in_both (Ok x) A B P Q done stopped is = done x is
  in_both (Err stop) A B P Q done stopped is = stopped stop is

  -- it stops as what it called did
  pub passed_on : (r : Result T Stop) (stop : Stop) (A : T → Type 0) (P : Stop → Type 0) → IsErrAnd r (λ other. other ≡ stop) → P stop → MatchResult r A P
  passed_on (Ok x) stop A P is so = absurd is
  passed_on (Err other) stop A P is so = subst P (sym is) so

-- ---- fronts

no_stream : (why : Refusal) → Refused why ≡ Stream Write → ⊥
no_stream why wrong = cc

-- after a refusal that comes first nothing is out
pub nothing_out : (why : Refusal) (bytes : List ℕ) (a : Option (List ℕ)) → WroteFront (Refused why) bytes a a
nothing_out why bytes a = record {
  lost = bytes;
  put = record { front = []; whole = refl; put = Appends-nil a };
  lacks = λ other. absurd (no_stream why other);
}

-- after one that comes last all is out
pub all_out : (why : Refusal) (bytes : List ℕ) (a b : Option (List ℕ)) → Appends a b bytes → WroteFront (Refused why) bytes a b
all_out why bytes a b put = record {
  lost = [];
  put = record { front = bytes; whole = sym (append-nil bytes); put = put };
  lacks = λ other. absurd (no_stream why other);
}

pub wants_memory : (bytes : List ℕ) (a : Option (List ℕ)) → StopsWriting (Refused OutOfMemory) × WroteFront (Refused OutOfMemory) bytes a a
wants_memory bytes a = (inl refl, nothing_out OutOfMemory bytes a)

pub memory_wanted : {T : Type 0} (r : Result T Stop) (A : T → Type 0) (bytes : List ℕ) (a : Option (List ℕ)) → IsErrAnd r (λ stop. stop ≡ Refused OutOfMemory)
    → MatchResult r A (λ stop. StopsWriting stop × WroteFront stop bytes a a)
memory_wanted r A bytes a is = passed_on r (Refused OutOfMemory) A (λ stop. StopsWriting stop × WroteFront stop bytes a a) is (wants_memory bytes a)

left_nil : (one other : List ℕ) → one ++ other ≡ [] → one ≡ []
left_nil [] other none = refl
left_nil (x ∷ one) other none = absurd (let wrong : x ∷ (one ++ other) ≡ [] = none in cc)

-- more bytes were to come
pub front_of_more : (stop : Stop) (one other : List ℕ) (a b : Option (List ℕ)) → WroteFront stop one a b → WroteFront stop (one ++ other) a b
front_of_more stop one other a b wrote = record {
  lost = wrote.lost ++ other;
  put = record {
    front = wrote.put.front;
    whole = ap (λ (l : List ℕ). l ++ other) wrote.put.whole ∙ append_assoc wrote.put.front wrote.lost other;
    put = wrote.put.put;
  };
  lacks = λ is none. wrote.lacks is (left_nil wrote.lost other none);
}

-- other bytes came before
pub front_after : (stop : Stop) (one other : List ℕ) (a b c : Option (List ℕ)) → Appends a b one → WroteFront stop other b c → WroteFront stop (one ++ other) a c
front_after stop one other a b c put wrote = record {
  lost = wrote.lost;
  put = record {
    front = one ++ wrote.put.front;
    whole = ap (λ (l : List ℕ). one ++ l) wrote.put.whole ∙ sym (append_assoc one wrote.put.front wrote.lost);
    put = Appends-trans a b c one wrote.put.front put wrote.put.put;
  };
  lacks = wrote.lacks;
}

pub front_as : (stop : Stop) (one other : List ℕ) (a b : Option (List ℕ)) → one ≡ other → WroteFront stop one a b → WroteFront stop other a b
front_as stop one other a b same wrote = subst (λ (bytes : List ℕ). WroteFront stop bytes a b) same wrote

-- ---- lines

pub stops_first : (stop : Stop) (one other : List CommandTree) (a b : Option (List ℕ)) → WroteFront stop (lines_bytes one) a b → WroteFront stop (lines_bytes (one ++ other)) a b
stops_first stop one other a b wrote =
    front_as stop (lines_bytes one ++ lines_bytes other) (lines_bytes (one ++ other)) a b (sym (lines_joined one other)) (front_of_more stop (lines_bytes one) (lines_bytes other) a b wrote)

pub stops_later : (stop : Stop) (one other : List CommandTree) (a b c : Option (List ℕ)) → Appends a b (lines_bytes one) → WroteFront stop (lines_bytes other) b c
    → WroteFront stop (lines_bytes (one ++ other)) a c
stops_later stop one other a b c put wrote =
    front_as stop (lines_bytes one ++ lines_bytes other) (lines_bytes (one ++ other)) a c (sym (lines_joined one other)) (front_after stop (lines_bytes one) (lines_bytes other) a b c put wrote)

-- the lines of the same commands
pub stops_as : (stop : Stop) (one other : List CommandTree) (a b : Option (List ℕ)) → one ≡ other → WroteFront stop (lines_bytes one) a b → WroteFront stop (lines_bytes other) a b
stops_as stop one other a b same wrote = subst (λ (trees : List CommandTree). WroteFront stop (lines_bytes trees) a b) same wrote

-- ---- one line after another

-- it stops in the first lines of those that are left
pub stops_chunk : (stop : Stop) (all left rest chunk : List CommandTree) (a b c : Option (List ℕ)) → left ≡ chunk ++ rest → WroteSome all left a b
    → WroteFront stop (lines_bytes chunk) b c → WroteFront stop (lines_bytes all) a c
stops_chunk stop all left rest chunk a b c next wrote front =
    stops_as stop (wrote.done ++ (chunk ++ rest)) all a c (ap (λ (l : List CommandTree). wrote.done ++ l) (sym next) ∙ wrote.are)
    (stops_later stop wrote.done (chunk ++ rest) a b c wrote.put (stops_first stop chunk rest b c front))

-- in the first line of them
pub stops_line : (stop : Stop) (all left rest : List CommandTree) (tree : CommandTree) (a b c : Option (List ℕ)) → left ≡ tree ∷ rest → WroteSome all left a b
    → WroteFront stop (line_bytes tree) b c → WroteFront stop (lines_bytes all) a c
stops_line stop all left rest tree a b c next wrote front =
    stops_as stop (wrote.done ++ (tree ∷ rest)) all a c (ap (λ (l : List CommandTree). wrote.done ++ l) (sym next) ∙ wrote.are)
    (stops_later stop wrote.done (tree ∷ rest) a b c wrote.put (front_of_more stop (line_bytes tree) (lines_bytes rest) b c front))

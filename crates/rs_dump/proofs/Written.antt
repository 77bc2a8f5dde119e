-- Lines that are written one after another.
use Rattle.std.proofs.Common.{◌≡◌, ◌∙◌, ℕ, List, [], ◌∷◌, ◌++◌, Option, ap, append-nil, append_assoc, refl, subst, sym}
use Rattle.std.specs.Io.KnownBytes.{Appends}
use Rattle.std.proofs.KnownBytes.{Appends-nil, Appends-trans}
use Rattle.rs_dump.specs.Written.{WroteSome, line_bytes, lines_bytes}
use Rattle.rs_syntax.specs.Tree.{CommandTree}

pub lines_joined : (one other : List CommandTree) → lines_bytes (one ++ other) ≡ lines_bytes one ++ lines_bytes other
lines_joined [] other = refl
lines_joined (tree ∷ trees) other = ap (λ bytes. line_bytes tree ++ bytes) (lines_joined trees other) ∙ sym (append_assoc (line_bytes tree) (lines_bytes trees) (lines_bytes other))

-- nothing is written yet
pub wrote_none : (all : List CommandTree) (a : Option (List ℕ)) → WroteSome all all a a
wrote_none all a = record { done = []; are = refl; put = Appends-nil a }

pub wrote_first : (all left : List CommandTree) (a : Option (List ℕ)) → left ≡ all → WroteSome all left a a
wrote_first all left a same = subst (λ (l : List CommandTree). WroteSome all l a a) (sym same) (wrote_none all a)

-- one line more
pub wrote_more : (all left rest : List CommandTree) (tree : CommandTree) (a b c : Option (List ℕ)) → left ≡ tree ∷ rest → WroteSome all left a b → Appends b c (line_bytes tree)
    → WroteSome all rest a c
wrote_more all left rest tree a b c next wrote put = record {
  done = wrote.done ++ tree ∷ [];
  are = append_assoc wrote.done (tree ∷ []) rest ∙ ap (λ l. wrote.done ++ l) (sym next) ∙ wrote.are;
  put = subst (Appends a c) (ap (λ bytes. lines_bytes wrote.done ++ bytes) (sym (append-nil (line_bytes tree))) ∙ sym (lines_joined wrote.done (tree ∷ [])))
      (Appends-trans a b c (lines_bytes wrote.done) (line_bytes tree) wrote.put put);
}

-- the line that was written is that of the same command
pub written_as : (one other : CommandTree) (a b : Option (List ℕ)) → one ≡ other → Appends a b (line_bytes one) → Appends a b (line_bytes other)
written_as one other a b same put = subst (λ (tree : CommandTree). Appends a b (line_bytes tree)) same put

-- none is left
pub wrote_all : (all left : List CommandTree) (a b : Option (List ℕ)) → WroteSome all left a b → left ≡ [] → Appends a b (lines_bytes all)
wrote_all all left a b wrote none =
    subst (λ (l : List CommandTree). Appends a b (lines_bytes l)) (sym (append-nil wrote.done) ∙ ap (λ l. wrote.done ++ l) (sym none) ∙ wrote.are) wrote.put

-- the lines of several commands more
pub wrote_chunk : (all left rest chunk : List CommandTree) (a b c : Option (List ℕ)) → left ≡ chunk ++ rest → WroteSome all left a b → Appends b c (lines_bytes chunk)
    → WroteSome all rest a c
wrote_chunk all left rest chunk a b c next wrote put = record {
  done = wrote.done ++ chunk;
  are = append_assoc wrote.done chunk rest ∙ ap (λ l. wrote.done ++ l) (sym next) ∙ wrote.are;
  put = subst (Appends a c) (sym (lines_joined wrote.done chunk)) (Appends-trans a b c (lines_bytes wrote.done) (lines_bytes chunk) wrote.put put);
}

-- the lines are those of the same commands
pub all_written_as : (one other : List CommandTree) (a b : Option (List ℕ)) → one ≡ other → Appends a b (lines_bytes one) → Appends a b (lines_bytes other)
all_written_as one other a b same put = subst (λ (trees : List CommandTree). Appends a b (lines_bytes trees)) same put

-- lines, and then more lines
pub joined : (one other : List CommandTree) (a b c : Option (List ℕ)) → Appends a b (lines_bytes one) → Appends b c (lines_bytes other) → Appends a c (lines_bytes (one ++ other))
joined one other a b c first more = subst (Appends a c) (sym (lines_joined one other)) (Appends-trans a b c (lines_bytes one) (lines_bytes other) first more)

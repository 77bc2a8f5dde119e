-- Alignments, one after another: those that fit are written, and the others are left out.
use Rattle.std.proofs.Common.{◌≡◌, ◌∙◌, ℕ, Bool, true, false, not, cond, inl, inr, List, [], ◌∷◌, ◌++◌, Option, ap, append-nil, append_assoc, filter, map, refl, subst, sym}
use Rattle.std.specs.Io.KnownBytes.{Appends}
use Rattle.arrayvec.specs.ArrayString.{ArrayString}
use Rattle.rs_dump.specs.Alignments.{Steps, fitting, too_long}
use Rattle.rs_dump.specs.Views.{names_of}
use Rattle.rs_dump.specs.Written.{WroteFront, WroteSome, fits_line, line_bytes, lines_bytes}
use Rattle.rs_dump.specs.declared.stop.Stop.{Stop}
use Rattle.rs_dump.specs.declared.stop.Stop.TheVariants.{Refused}
use Rattle.rs_dump_laws.specs.Dump.{alignment_command}
use Rattle.rs_facts.specs.Fact.{Name}
use Rattle.rs_facts.specs.Query.{Piece}
use Rattle.rs_refusal.specs.declared.refusal.Refusal.TheVariants.{OutOfMemory}
use Rattle.rs_dump.proofs.Stops.{front_of_more, nothing_out, stops_chunk}
use Rattle.rs_dump.proofs.Written.{wrote_all, wrote_first, wrote_more}

abbrev Alignments : Type 0
Alignments = List (Name × List Piece)

pub record GoesOn (all left : Alignments) (left_out : List ArrayString) (before after : Option (List ℕ)) : Type 0 where
  pub wrote : WroteSome (map alignment_command (fitting all)) (map alignment_command (fitting left)) before after
  pub names : names_of left_out ++ map (λ (entry : Name × List Piece). entry.0) (too_long left) ≡ map (λ (entry : Name × List Piece). entry.0) (too_long all)

pub goes_first : (all left : Alignments) (left_out : List ArrayString) (a : Option (List ℕ)) → left ≡ all → left_out ≡ [] → GoesOn all left left_out a a
goes_first all left left_out a same none = record {
  wrote = wrote_first (map alignment_command (fitting all)) (map alignment_command (fitting left)) a (ap (λ (l : Alignments). map alignment_command (fitting l)) same);
  names = ap (λ (l : List ArrayString). names_of l ++ map (λ (entry : Name × List Piece). entry.0) (too_long left)) none
      ∙ ap (λ (l : Alignments). map (λ (entry : Name × List Piece). entry.0) (too_long l)) same;
}

-- what a test makes of the first
first_kept : (test : Name × List Piece → Bool) (one : Name × List Piece) (rest : Alignments) → test one ≡ true → filter test (one ∷ rest) ≡ one ∷ filter test rest
first_kept test one rest is = ap (λ (b : Bool). cond b (one ∷ filter test rest) (filter test rest)) is

first_passed : (test : Name × List Piece → Bool) (one : Name × List Piece) (rest : Alignments) → test one ≡ false → filter test (one ∷ rest) ≡ filter test rest
first_passed test one rest is = ap (λ (b : Bool). cond b (one ∷ filter test rest) (filter test rest)) is

pub goes_next : (all left rest : Alignments) (one : Name × List Piece) (old new : List ArrayString) (a b c : Option (List ℕ)) → left ≡ one ∷ rest → GoesOn all left old a b → Steps one old new b c
    → GoesOn all rest new a c
goes_next all left rest one old new a b c next so_far (inl is) = record {
  wrote = wrote_more (map alignment_command (fitting all)) (map alignment_command (fitting left)) (map alignment_command (fitting rest)) (alignment_command one) a b c
      (ap (λ (l : Alignments). map alignment_command (fitting l)) next ∙ ap (map alignment_command) (first_kept (λ e. fits_line (alignment_command e)) one rest is.fits)) so_far.wrote is.put;
  names = ap (λ (l : List ArrayString). names_of l ++ map (λ (entry : Name × List Piece). entry.0) (too_long rest)) is.same
      ∙ ap (λ (l : Alignments). names_of old ++ map (λ (entry : Name × List Piece). entry.0) l)
      (sym (ap (λ (l : Alignments). too_long l) next ∙ first_passed (λ e. not (fits_line (alignment_command e))) one rest (ap not is.fits))) ∙ so_far.names;
}
goes_next all left rest one old new a b c next so_far (inr is) = record {
  wrote = subst (λ (l : List _). WroteSome (map alignment_command (fitting all)) l a c)
      (ap (λ (l : Alignments). map alignment_command (fitting l)) next ∙ ap (map alignment_command) (first_passed (λ e. fits_line (alignment_command e)) one rest is.long))
      (subst (WroteSome (map alignment_command (fitting all)) (map alignment_command (fitting left)) a) (sym is.kept) so_far.wrote);
  names = ap (λ (l : List Name). l ++ map (λ (entry : Name × List Piece). entry.0) (too_long rest)) is.named
      ∙ append_assoc (names_of old) (one.0 ∷ []) (map (λ (entry : Name × List Piece). entry.0) (too_long rest))
      ∙ ap (λ (l : Alignments). names_of old ++ map (λ (entry : Name × List Piece). entry.0) l)
      (sym (ap (λ (l : Alignments). too_long l) next ∙ first_kept (λ e. not (fits_line (alignment_command e))) one rest (ap not is.long))) ∙ so_far.names;
}

pub goes_all : (all left : Alignments) (left_out : List ArrayString) (a b : Option (List ℕ)) → GoesOn all left left_out a b → left ≡ []
    → Appends a b (lines_bytes (map alignment_command (fitting all))) × (names_of left_out ≡ map (λ (entry : Name × List Piece). entry.0) (too_long all))
goes_all all left left_out a b so_far none = (
  wrote_all (map alignment_command (fitting all)) (map alignment_command (fitting left)) a b so_far.wrote (ap (λ (l : Alignments). map alignment_command (fitting l)) none),
  sym (append-nil (names_of left_out)) ∙ ap (λ (l : Alignments). names_of left_out ++ map (λ (entry : Name × List Piece). entry.0) (too_long l)) (sym none) ∙ so_far.names,
)

-- ---- where it stops

-- in the line of an alignment, if it fits one, and else before it
pub stops_fitting : (one : Name × List Piece) (stop : Stop) (a b : Option (List ℕ)) → WroteFront stop (line_bytes (alignment_command one)) a b
    → (fits_line (alignment_command one) ≡ false → (stop ≡ Refused OutOfMemory) × (b ≡ a)) → WroteFront stop (lines_bytes (map alignment_command (fitting (one ∷ [])))) a b
stops_fitting one stop a b front long =
    elim (fits_line (alignment_command one)) as (λ fits. fits_line (alignment_command one) ≡ fits → WroteFront stop (lines_bytes (map alignment_command (cond fits (one ∷ []) []))) a b) [
      | true ↦ λ is. front_of_more stop (line_bytes (alignment_command one)) [] a b front
      | false ↦ λ is. subst (λ (s : Stop). WroteFront s [] a b) (sym (long is).0) (subst (WroteFront (Refused OutOfMemory) [] a) (sym (long is).1) (nothing_out OutOfMemory [] a))
    ] refl

fitting_first : (one : Name × List Piece) (rest : Alignments) → map alignment_command (fitting (one ∷ rest)) ≡ map alignment_command (fitting (one ∷ [])) ++ map alignment_command (fitting rest)
fitting_first one rest =
    elim (fits_line (alignment_command one)) as (λ fits. map alignment_command (cond fits (one ∷ fitting rest) (fitting rest)) ≡ map alignment_command (cond fits (one ∷ []) []) ++ map alignment_command (fitting rest)) [
      | true ↦ refl
      | false ↦ refl
    ]

pub stops_next : (all left rest : Alignments) (one : Name × List Piece) (old : List ArrayString) (stop : Stop) (a b c : Option (List ℕ)) → left ≡ one ∷ rest → GoesOn all left old a b
    → WroteFront stop (lines_bytes (map alignment_command (fitting (one ∷ [])))) b c → WroteFront stop (lines_bytes (map alignment_command (fitting all))) a c
stops_next all left rest one old stop a b c next so_far front =
    stops_chunk stop (map alignment_command (fitting all)) (map alignment_command (fitting left)) (map alignment_command (fitting rest)) (map alignment_command (fitting (one ∷ []))) a b c
    (ap (λ (l : Alignments). map alignment_command (fitting l)) next ∙ fitting_first one rest) so_far.wrote front

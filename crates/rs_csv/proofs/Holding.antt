-- Texts that are put one after another.
use Rattle.std.proofs.Common.{◌≡◌, ◌∙◌, ℕ, ◌+◌, ◌<◌, List, [], ◌∷◌, ◌++◌, length, get_or, take, drop, Option, sym, ap, append_assoc, append-nil, take-append-drop}
use Rattle.std.specs.Prelude.{flat_map}
use Rattle.std.specs.List.{concat}
use Rattle.std.specs.Io.KnownBytes.{Appends}
use Rattle.std.proofs.KnownBytes.{Appends-trans}
use Rattle.std.proofs.lemmas.Grind.{flat_map-append}
use Rattle.std.proofs.lemmas.List.{drop_more, take_more}
use Rattle.std.proofs.lemmas.List.Folds.{concat-append}
use Rattle.rs_protocol.specs.Puts.{PutsBut}
use Rattle.rs_csv.proofs.Cuts.{concat_more}

-- a text more at the end
pub flat_push : {X : Type 0} (text : X → List ℕ) (list : List X) (x : X) → flat_map text (list ++ x ∷ []) ≡ flat_map text list ++ text x
flat_push text list x = flat_map-append text list (x ∷ []) ∙ ap (λ bs. flat_map text list ++ bs) (append-nil (text x))

-- what is shown of a text that was cleared, and has one piece alone
pub only_piece : (shown text cleared piece item : List ℕ) → shown ≡ text → text ≡ cleared ++ piece → cleared ≡ [] → piece ≡ item → shown ++ [] ≡ item
only_piece shown text cleared piece item shows has none is = append-nil shown ∙ shows ∙ has ∙ ap (λ bs. bs ++ piece) none ∙ is

module _ (list : List (List ℕ)) (i : ℕ) (within : i < length list) where
  -- the texts before a place, and the one at it
  pub flat_next : concat (take (i + 1) list) ≡ concat (take i list) ++ get_or list i []
  flat_next = ap concat (take_more list i [] within) ∙ concat_more (take i list) (get_or list i [])

  -- those before a place were put, and the one at it was not put whole
  pub flat_stops : (lost : List ℕ) (a b c : Option (List ℕ)) → Appends a b (concat (take i list)) → PutsBut (get_or list i []) lost b c → PutsBut (concat list) (lost ++ concat (drop (i + 1) list)) a c
  flat_stops lost a b c before puts =
      let first : List ℕ = concat (take i list) in
      let last : List ℕ = concat (drop (i + 1) list) in
      record {
        front = first ++ puts.front;
        whole =
            ap concat (sym (take-append-drop i list) ∙ ap (λ l. take i list ++ l) (drop_more list i [] within)) ∙ concat-append (take i list) (get_or list i [] ∷ drop (i + 1) list)
            ∙ ap (λ t. first ++ (t ++ last)) puts.whole ∙ ap (λ t. first ++ t) (append_assoc puts.front lost last) ∙ sym (append_assoc first puts.front (lost ++ last));
        put = Appends-trans a b c first puts.front before puts.put;
      }

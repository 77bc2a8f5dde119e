-- What is put into a writer, part after part.
use Rattle.std.proofs.Common.{◌≡◌, ◌≢◌, List, [], ◌∷◌, ◌++◌, ℕ, ◌+◌, ◌-◌, ◌<◌, length, length-drop, get_or, map, take, drop, Option, Result, Ok, Err, refl, sym, ap, ◌∙◌, subst, append_assoc, append-nil, take-append-drop}
use Rattle.std.proofs.Math.Seq.{take-length}
use Rattle.std.proofs.lemmas.List.{take_more}
use Rattle.std.proofs.lemmas.Grind.{flat_map-append}
use Rattle.std.specs.Prelude.{flat_map}
use Rattle.std.specs.Io.KnownBytes.{Appends, Keeps}
use Rattle.std.proofs.KnownBytes.{Appends-nil, Appends-trans, Appends-kept}
use Rattle.rs_protocol.specs.declared.stream.Fault.{Fault}
use Rattle.rs_protocol.specs.Inner.{PutsBut, Puts, PutsLater}

-- the texts of one part more
flat_map-take-more : (X : Type 0) (text : X → List ℕ) (parts : List X) (i : ℕ) (d : X) → i < length parts
    → flat_map text (take (i + 1) parts) ≡ flat_map text (take i parts) ++ text (get_or parts i d)
flat_map-take-more X text parts i d within =
    ap (flat_map text) (take_more parts i d within) ∙ flat_map-append text (take i parts) (get_or parts i d ∷ [])
    ∙ ap (λ l. flat_map text (take i parts) ++ l) (append-nil (text (get_or parts i d)))

-- nothing is put yet
pub PutsBut-nothing : (bytes : List ℕ) (a : Option (List ℕ)) → PutsBut bytes bytes a a
PutsBut-nothing bytes a = record { front = []; whole = refl; put = Appends-nil a }

-- a write took the first bytes of what is left
pub PutsBut-more : (bytes rest left : List ℕ) (n : ℕ) (a b c : Option (List ℕ)) → left ≡ drop n rest → PutsBut bytes rest a b → Appends b c (take n rest) → PutsBut bytes left a c
PutsBut-more bytes rest left n a b c left-is puts more = record {
  front = puts.front ++ take n rest;
  whole = puts.whole ∙ ap (λ l. puts.front ++ l) (sym (take-append-drop n rest)) ∙ sym (append_assoc puts.front (take n rest) (drop n rest)) ∙ ap (λ l. (puts.front ++ take n rest) ++ l) (sym left-is);
  put = Appends-trans a b c puts.front (take n rest) puts.put more;
}

-- a write that failed put nothing
pub PutsBut-kept : (bytes rest : List ℕ) (a b c : Option (List ℕ)) → PutsBut bytes rest a b → Keeps b c → PutsBut bytes rest a c
PutsBut-kept bytes rest a b c puts kept = record { front = puts.front; whole = puts.whole; put = Appends-kept a b c puts.front puts.put kept }

-- nothing is left
pub PutsBut-all : (bytes rest : List ℕ) (a b : Option (List ℕ)) → PutsBut bytes rest a b → rest ≡ [] → Appends a b bytes
PutsBut-all bytes rest a b puts none =
    subst (Appends a b) (sym (puts.whole ∙ ap (λ l. puts.front ++ l) none ∙ append-nil puts.front)) puts.put

appended-nil : (xs ys : List ℕ) → xs ≢ [] → xs ++ ys ≢ []
appended-nil [] ys some none = some refl
appended-nil (x ∷ xs) ys some none = cc

-- a part is put whole, and then another
pub Puts-then : (T : Type 0) (result : Result T Fault) (xs ys : List ℕ) (a b c : Option (List ℕ)) → Appends a b xs → Puts result ys b c → Puts result (xs ++ ys) a c
Puts-then T (Ok done) xs ys a b c first then = Appends-trans a b c xs ys first then
Puts-then T (Err fault) xs ys a b c first then =
    let puts : PutsBut ys then.1.0 b c = then.1.2 in (
      then.0,
      (
        then.1.0,
        then.1.1,
        record {
          front = xs ++ puts.front;
          whole = ap (λ l. xs ++ l) puts.whole ∙ sym (append_assoc xs puts.front then.1.0);
          put = Appends-trans a b c xs puts.front first puts.put;
        },
      ),
    )

-- a part is not put whole, and nothing after it
pub Puts-stops : (T U : Type 0) (fault : Fault) (xs ys : List ℕ) (a b : Option (List ℕ)) → Puts {T = T} (Err fault) xs a b → Puts {T = U} (Err fault) (xs ++ ys) a b
Puts-stops T U fault xs ys a b stop =
    let puts : PutsBut xs stop.1.0 a b = stop.1.2 in (
      stop.0,
      (
        stop.1.0 ++ ys,
        appended-nil stop.1.0 ys stop.1.1,
        record {
          front = puts.front;
          whole = ap (λ l. l ++ ys) puts.whole ∙ append_assoc puts.front stop.1.0 ys;
          put = puts.put;
        },
      ),
    )

-- the bytes after a place
pub taken_to_end : (n : ℕ) (xs : List ℕ) → take (length xs - n) (drop n xs) ≡ drop n xs
taken_to_end n xs = subst (λ m. take m (drop n xs) ≡ drop n xs) (length-drop n xs) (take-length (drop n xs))

-- parts that are put in turn
pub Puts-part : (X : Type 0) (text : X → List ℕ) (parts : List X) (i : ℕ) (d : X) (a b c : Option (List ℕ)) → i < length parts
    → Appends a b (flat_map text (take i parts)) → Appends b c (text (get_or parts i d)) → Appends a c (flat_map text (take (i + 1) parts))
Puts-part X text parts i d a b c within first then =
    let grown : flat_map text (take (i + 1) parts) ≡ flat_map text (take i parts) ++ text (get_or parts i d) = flat_map-take-more X text parts i d within in
    subst (Appends a c) (sym grown) (Appends-trans a b c _ _ first then)

-- a part of the parts is not put whole
pub Puts-stops-at : (T U X : Type 0) (fault : Fault) (text : X → List ℕ) (parts : List X) (i : ℕ) (d : X) (a b c : Option (List ℕ)) → i < length parts
    → Appends a b (flat_map text (take i parts)) → Puts {T = T} (Err fault) (text (get_or parts i d)) b c → Puts {T = U} (Err fault) (flat_map text parts) a c
Puts-stops-at T U X fault text parts i d a b c within first stop =
    let here : Puts {T = T} (Err fault) (flat_map text (take i parts) ++ text (get_or parts i d)) a c = Puts-then T (Err fault) _ _ a b c first stop in
    let grown : flat_map text (take (i + 1) parts) ≡ flat_map text (take i parts) ++ text (get_or parts i d) = flat_map-take-more X text parts i d within in
    let all : flat_map text (take (i + 1) parts) ++ flat_map text (drop (i + 1) parts) ≡ flat_map text parts =
    sym (flat_map-append text (take (i + 1) parts) (drop (i + 1) parts)) ∙ ap (flat_map text) (take-append-drop (i + 1) parts) in
    let P : List ℕ → Type 0 = λ l. Puts {T = U} (Err fault) l a c in
    subst P (ap (λ l. l ++ flat_map text (drop (i + 1) parts)) (sym grown) ∙ all) (Puts-stops T U fault _ (flat_map text (drop (i + 1) parts)) a c here)

flat_map-map : (X Y Z : Type 0) (text : Y → List Z) (seen : X → Y) (parts : List X) → flat_map text (map seen parts) ≡ flat_map (λ part. text (seen part)) parts
flat_map-map X Y Z text seen [] = refl
flat_map-map X Y Z text seen (part ∷ parts) = ap (λ l. text (seen part) ++ l) (flat_map-map X Y Z text seen parts)

-- ---- what is held back

-- more after what was pending
pub PutsBut-join : (all pending bytes now : List ℕ) (a b c : Option (List ℕ)) → PutsBut all pending a b → PutsBut (pending ++ bytes) now b c → PutsBut (all ++ bytes) now a c
PutsBut-join all pending bytes now a b c first then = record {
  front = first.front ++ then.front;
  whole = ap (λ l. l ++ bytes) first.whole ∙ append_assoc first.front pending bytes ∙ ap (λ l. first.front ++ l) then.whole ∙ sym (append_assoc first.front then.front now);
  put = Appends-trans a b c first.front then.front first.put then.put;
}

-- what was pending is put, or a front of it
pub PutsBut-then : (T : Type 0) (result : Result T Fault) (all pending : List ℕ) (a b c : Option (List ℕ)) → PutsBut all pending a b → Puts result pending b c → Puts result all a c
PutsBut-then T (Ok done) all pending a b c first then = subst (Appends a c) (sym first.whole) (Appends-trans a b c first.front pending first.put then)
PutsBut-then T (Err fault) all pending a b c first then =
    let puts : PutsBut pending then.1.0 b c = then.1.2 in (
      then.0,
      (
        then.1.0,
        then.1.1,
        record {
          front = first.front ++ puts.front;
          whole = first.whole ∙ ap (λ l. first.front ++ l) puts.whole ∙ sym (append_assoc first.front puts.front then.1.0);
          put = Appends-trans a b c first.front puts.front first.put puts.put;
        },
      ),
    )

-- nothing is pending any more
pub PutsBut-done : (bytes : List ℕ) (a b : Option (List ℕ)) → Appends a b bytes → PutsBut bytes [] a b
PutsBut-done bytes a b put = record { front = bytes; whole = sym (append-nil bytes); put = put }

-- all of them are held back
pub PutsLater-held : (pending bytes now : List ℕ) (a : Option (List ℕ)) → now ≡ pending ++ bytes → PutsBut (pending ++ bytes) now a a
PutsLater-held pending bytes now a is = subst (λ l. PutsBut (pending ++ bytes) l a a) (sym is) (PutsBut-nothing (pending ++ bytes) a)

-- what was pending is put, and they are held back
pub PutsLater-anew : (pending bytes now none : List ℕ) (a b : Option (List ℕ)) → none ≡ [] → now ≡ none ++ bytes → Appends a b pending → PutsBut (pending ++ bytes) now a b
PutsLater-anew pending bytes now none a b empty is put = record { front = pending; whole = ap (λ l. pending ++ l) (sym (is ∙ ap (λ l. l ++ bytes) empty)); put = put }

-- they are put after what was pending
pub PutsLater-after : (result : Result (Unit {0}) Fault) (bytes pending now : List ℕ) (a b c : Option (List ℕ)) → now ≡ [] → Appends a b pending → Puts result bytes b c → PutsLater result bytes pending now a c
PutsLater-after (Ok done) bytes pending now a b c none first then = record {
  front = pending ++ bytes;
  whole = sym (ap (λ l. (pending ++ bytes) ++ l) none ∙ append-nil (pending ++ bytes));
  put = Appends-trans a b c pending bytes first then;
}
PutsLater-after (Err fault) bytes pending now a b c none first then = Puts-then (Unit {0}) (Err fault) pending bytes a b c first then

-- some bytes, and then others
pub PutsLater-then : (T : Type 0) (result : Result T Fault) (xs ys pending mid now : List ℕ) (a b c : Option (List ℕ)) → PutsBut (pending ++ xs) mid a b → PutsLater result ys mid now b c → PutsLater result (xs ++ ys) pending now a c
PutsLater-then T (Ok done) xs ys pending mid now a b c first then = subst (λ l. PutsBut l now a c) (append_assoc pending xs ys) (PutsBut-join (pending ++ xs) mid ys now a b c first then)
PutsLater-then T (Err fault) xs ys pending mid now a b c first then =
    (then.0, (then.1.0, then.1.1, subst (λ l. PutsBut l then.1.0 a c) (append_assoc pending xs ys) (PutsBut-join (pending ++ xs) mid ys then.1.0 a b c first then.1.2)))

-- some bytes are not put whole, and nothing after them
pub PutsLater-stops : (T : Type 0) (fault : Fault) (xs ys pending : List ℕ) (a b : Option (List ℕ)) → Puts {T = T} (Err fault) (pending ++ xs) a b → Puts {T = T} (Err fault) (pending ++ (xs ++ ys)) a b
PutsLater-stops T fault xs ys pending a b stop =
    let P : List ℕ → Type 0 = λ l. Puts {T = T} (Err fault) l a b in
    subst P (append_assoc pending xs ys) (Puts-stops T T fault (pending ++ xs) ys a b stop)

-- ---- parts of which each is held back

-- none of them yet
pub PutsLater-none : (pending : List ℕ) (a : Option (List ℕ)) → PutsBut (pending ++ []) pending a a
PutsLater-none pending a = subst (λ l. PutsBut l pending a a) (sym (append-nil pending)) (PutsBut-nothing pending a)

one_more : (first done more next pending now : List ℕ) (a b c : Option (List ℕ)) → next ≡ done ++ more → PutsBut (first ++ done) pending a b → PutsBut (pending ++ more) now b c → PutsBut (first ++ next) now a c
one_more first done more next pending now a b c is before then =
    subst (λ l. PutsBut l now a c) (append_assoc first done more ∙ ap (λ l. first ++ l) (sym is)) (PutsBut-join (first ++ done) pending more now a b c before then)

one_stops : (fault : Fault) (first done more rest all pending : List ℕ) (a b c : Option (List ℕ)) → all ≡ (done ++ more) ++ rest → PutsBut (first ++ done) pending a b
    → Puts {T = Unit {0}} (Err fault) (pending ++ more) b c → Puts {T = Unit {0}} (Err fault) (first ++ all) a c
one_stops fault first done more rest all pending a b c is before stop =
    let here : Puts {T = Unit {0}} (Err fault) ((first ++ done) ++ more) a c = (stop.0, (stop.1.0, stop.1.1, PutsBut-join (first ++ done) pending more stop.1.0 a b c before stop.1.2)) in
    let P : List ℕ → Type 0 = λ l. Puts {T = Unit {0}} (Err fault) l a c in
    subst P (append_assoc (first ++ done) more rest ∙ append_assoc first done (more ++ rest) ∙ ap (λ l. first ++ l) (sym (append_assoc done more rest) ∙ sym is))
    (Puts-stops (Unit {0}) (Unit {0}) fault ((first ++ done) ++ more) rest a c here)

pub PutsLater-part : (X : Type 0) (text : X → List ℕ) (parts : List X) (i : ℕ) (d : X) (first pending now : List ℕ) (a b c : Option (List ℕ)) → i < length parts
    → PutsBut (first ++ flat_map text (take i parts)) pending a b → PutsBut (pending ++ text (get_or parts i d)) now b c → PutsBut (first ++ flat_map text (take (i + 1) parts)) now a c
PutsLater-part X text parts i d first pending now a b c within = one_more first _ (text (get_or parts i d)) _ pending now a b c (flat_map-take-more X text parts i d within)

pub PutsLater-stops-at : (X : Type 0) (fault : Fault) (text : X → List ℕ) (parts : List X) (i : ℕ) (d : X) (first pending : List ℕ) (a b c : Option (List ℕ)) → i < length parts
    → PutsBut (first ++ flat_map text (take i parts)) pending a b → Puts {T = Unit {0}} (Err fault) (pending ++ text (get_or parts i d)) b c → Puts {T = Unit {0}} (Err fault) (first ++ flat_map text parts) a c
PutsLater-stops-at X fault text parts i d first pending a b c within =
    one_stops fault first (flat_map text (take i parts)) (text (get_or parts i d)) (flat_map text (drop (i + 1) parts)) (flat_map text parts) pending a b c
    (sym (ap (λ l. l ++ flat_map text (drop (i + 1) parts)) (sym (flat_map-take-more X text parts i d within))
    ∙ sym (flat_map-append text (take (i + 1) parts) (drop (i + 1) parts)) ∙ ap (flat_map text) (take-append-drop (i + 1) parts)))

-- the same of parts whose texts are made of what they show
shown-more : (X : Type 0) (text : List ℕ → List ℕ) (seen : X → List ℕ) (parts : List X) (i : ℕ) (d : X) (shown : List ℕ) → i < length parts → shown ≡ seen (get_or parts i d)
    → flat_map text (map seen (take (i + 1) parts)) ≡ flat_map text (map seen (take i parts)) ++ text shown
shown-more X text seen parts i d shown within is =
    flat_map-map X (List ℕ) ℕ text seen (take (i + 1) parts)
    ∙ flat_map-take-more X (λ part. text (seen part)) parts i d within
    ∙ (λ j. sym (flat_map-map X (List ℕ) ℕ text seen (take i parts)) j ++ text (sym is j))

pub PutsLater-shown : (X : Type 0) (text : List ℕ → List ℕ) (seen : X → List ℕ) (parts : List X) (i : ℕ) (d : X) (shown first pending now : List ℕ) (a b c : Option (List ℕ)) → i < length parts → shown ≡ seen (get_or parts i d)
    → PutsBut (first ++ flat_map text (map seen (take i parts))) pending a b → PutsBut (pending ++ text shown) now b c → PutsBut (first ++ flat_map text (map seen (take (i + 1) parts))) now a c
PutsLater-shown X text seen parts i d shown first pending now a b c within is = one_more first _ (text shown) _ pending now a b c (shown-more X text seen parts i d shown within is)

pub PutsLater-stops-in : (X : Type 0) (fault : Fault) (text : List ℕ → List ℕ) (seen : X → List ℕ) (parts : List X) (i : ℕ) (d : X) (shown first pending : List ℕ) (a b c : Option (List ℕ)) → i < length parts → shown ≡ seen (get_or parts i d)
    → PutsBut (first ++ flat_map text (map seen (take i parts))) pending a b → Puts {T = Unit {0}} (Err fault) (pending ++ text shown) b c → Puts {T = Unit {0}} (Err fault) (first ++ flat_map text (map seen parts)) a c
PutsLater-stops-in X fault text seen parts i d shown first pending a b c within is =
    let rest = flat_map text (map seen (drop (i + 1) parts)) in
    one_stops fault first (flat_map text (map seen (take i parts))) (text shown) rest (flat_map text (map seen parts)) pending a b c
    (sym (ap (λ l. l ++ rest) (sym (shown-more X text seen parts i d shown within is))
    ∙ (λ j. flat_map-map X (List ℕ) ℕ text seen (take (i + 1) parts) j ++ flat_map-map X (List ℕ) ℕ text seen (drop (i + 1) parts) j)
    ∙ sym (flat_map-append (λ part. text (seen part)) (take (i + 1) parts) (drop (i + 1) parts))
    ∙ ap (flat_map (λ part. text (seen part))) (take-append-drop (i + 1) parts)
    ∙ sym (flat_map-map X (List ℕ) ℕ text seen parts)))

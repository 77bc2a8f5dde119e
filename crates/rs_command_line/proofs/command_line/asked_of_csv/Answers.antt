use Rattle.std.proofs.Common.{◌≡◌, ◌∙◌, Bool, List, Option, Some, codes, sym}
use Rattle.clap.specs.Words.{Text, found_of}
use Rattle.clap.proofs.WalkLemmas.{first_value-rows}
use Rattle.rs_command_line.specs.Asked.{Said, converts}
use Rattle.rs_command_line.proofs.command_line.asked_of_csv.Goals as goal

csv_with : Option Text → Option Text → Option Text → Option Text → Option Text → Option Text → Option Text → Option Text → Option Text → Option Text → Option Text → List Text → List Text → Bool → Bool → Bool → Bool → Bool → Option Said
csv_with d r f t a s p k x y u c z o n q m l = Some (converts (record { define = d; route = r; from = f; to = t; at = a; session = s; separator = p; number = k; rejects = x; names_file = y; stations = u; columns = c; scales = z; omits_definition = o; defines_routes = n; rounds = q; makes_names = m; is_latin1 = l }))

-- what is said part by part
said_so : (d d' r r' f f' t t' a a' s s' p p' k k' x x' y y' u u' : Option Text) (c c' z z' : List Text) (o o' n n' q q' m m' l l' : Bool) → d ≡ d' → r ≡ r' → f ≡ f' → t ≡ t' → a ≡ a' → s ≡ s' → p ≡ p' → k ≡ k' → x ≡ x' → y ≡ y' → u ≡ u' → c ≡ c' → z ≡ z' → o ≡ o' → n ≡ n' → q ≡ q' → m ≡ m' → l ≡ l'
    → csv_with d r f t a s p k x y u c z o n q m l ≡ csv_with d' r' f' t' a' s' p' k' x' y' u' c' z' o' n' q' m' l'
said_so d d' r r' f f' t t' a a' s s' p p' k k' x x' y y' u u' c c' z z' o o' n n' q q' m m' l l' ed er ef et ea es ep ek ex ey eu ec ez eo en eq em el = cc

pub returns : goal.returns
unfolding csv_with
returns c =
    let found = found_of c.args.given.now in
    said_so _ _ _ _ _ _ _ _ _ _ _ _ _ _ _ _ _ _ _ _ _ _ _ _ _ _ _ _ _ _ _ _ _ _ _ _
    (sym (c.get_str.ensures ∙ first_value-rows found (codes "define"))) (sym (c.get_str-2.ensures ∙ first_value-rows found (codes "route"))) (sym (c.get_str-3.ensures ∙ first_value-rows found (codes "from")))
    (sym (c.get_str-4.ensures ∙ first_value-rows found (codes "to"))) (sym (c.get_str-5.ensures ∙ first_value-rows found (codes "at"))) (sym (c.get_str-6.ensures ∙ first_value-rows found (codes "session")))
    (sym (c.get_str-7.ensures ∙ first_value-rows found (codes "separator")))
    (sym (c.get_str-8.ensures ∙ first_value-rows found (codes "number"))) (sym (c.get_str-9.ensures ∙ first_value-rows found (codes "rejects"))) (sym (c.get_str-10.ensures ∙ first_value-rows found (codes "names-file")))
    (sym (c.get_str-11.ensures ∙ first_value-rows found (codes "stations")))
    (sym c.in_ok-columns.ensures) (sym c.in_ok-scales.ensures) (sym c.has_flag.ensures) (sym c.has_flag-2.ensures) (sym c.has_flag-3.ensures) (sym c.has_flag-4.ensures) (sym c.has_flag-5.ensures)

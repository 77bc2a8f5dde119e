-- What holds after a walk over words that pass.
use Rattle.std.proofs.Common.{◌≡◌, ◌&&◌, ℕ, zero, suc, Bool, cond, true, false, refl, sym, ap, subst, List, [], ◌∷◌, length, Option, Some, None, is_some}
use Rattle.std.specs.Prelude.{⊤, IfSome, drop, encode_utf8, fold, slice_get}
use Rattle.std.specs.Option.{option_map_or}
use Rattle.std.specs.Str.{bytes_eq, chars}
use Rattle.clap.specs.Lexer.{long_of, short_of}
use Rattle.clap.specs.Kinds.{Kinds, or_else}
use Rattle.clap.specs.Faults.{bundle_fault, bundle_step_fault, flag_word_fault, flags_fault, long_fault, option_fault, other_fault, positional_fault, react_fault, settle_fault, short_fault, step_fault, stray_fault, turn_fault, use_fault, walk_fault, word_fault}
use Rattle.clap.specs.Simple.{Shape}
use Rattle.clap.specs.Walk.{Held, Names, Outcome, Row, Rule, Step, Text, Waiting, Walk, after_flag, after_step, arg_by_id, arg_by_index, arg_by_long, arg_by_short, attached_value, bundle, bundle_met, bundle_step, done, flag_met, idle, is_pending, long_met, long_or_other, next, option, option_met, option_word, plain, plain_word, positional, reacted, refused, settled, settled_rows, short_met, short_or_plain, subcommand, subcommand_met, subcommand_or_other, takes_several, takes_values, to_positional, trailing, used_by_id, value, waits, walked, walked_from, word_met}
use Rattle.clap.specs.declared.error.kind.ErrorKind.TheVariants.{TooManyValues}
use Rattle.clap.specs.declared.builder.value_parser.Reading.{Reading}
use Rattle.rs_command_line.proofs.Rows.{AllSound, Full, IsSound, found_sound, neither}

module _ (Q : Text → Reading → Text → Type 0) (R : Text → Type 0) (s : Shape) (names : Names) (sound : AllSound Q s.rules)
    (named : (name word : Text) (h : Held) → other_fault s (Some name) word h ≡ [] → R name) where
  abbrev again : Bool
  again = s.args_override_self

  -- what is pending is used
  settle_rows : (p : Option (Text × List Text)) (rows : List Row)
      → option_map_or (λ p. option_map_or (λ a. use_fault again a p.1 rows) (arg_by_id s.rules p.0) []) p [] ≡ [] → Full Q rows
      → Full Q (settled_rows s.rules p rows)
  settle_rows None rows e all = all
  settle_rows (Some p) rows e all = go (arg_by_id s.rules p.0) refl e
    where
      go : (o : Option Rule) → arg_by_id s.rules p.0 ≡ o → option_map_or (λ a. use_fault again a p.1 rows) o [] ≡ [] → Full Q (used_by_id o p.1 rows)
      go None found e = all
      go (Some a) found e = found_sound Q _ s.rules a sound found again p.1 rows e all

  pub settle_full : (h : Held) → settle_fault s.rules again h ≡ [] → Full Q h.rows → Full Q (settled s.rules h).rows
  settle_full h e all = settle_rows h.pending h.rows e all

  react_full : (a : Rule) (values : List Text) (h : Held) → IsSound Q a → react_fault s.rules again a values h ≡ [] → Full Q h.rows
      → Full Q (reacted s.rules a values h).rows
  react_full a values h ok e all =
      let steps = neither _ _ e in
      ok again values (settled s.rules h).rows steps.1 (settle_full h steps.0 all)

  option_full : (a : Rule) (v : Option Text) (h : Held) → IsSound Q a → option_fault s.rules again a v h ≡ [] → Full Q h.rows
      → Full Q (option_met s.rules a v h).0.rows
  option_full a (Some v) h ok e all = react_full a (v ∷ []) h ok e all
  option_full a None h ok e all = settle_full h e all

  long_full : (o : Option Rule) (v : Option Text) (h : Held) → ((a : Rule) → o ≡ Some a → IsSound Q a) → long_fault s.rules again o v h ≡ [] → Full Q h.rows
      → Full Q (long_met s.rules o v h).0.rows
  long_full None v h ok e all = all
  long_full (Some a) v h ok e all = go (takes_values a) e
    where
      flag : (v : Option Text) → cond (is_some v) (TooManyValues ∷ []) (react_fault s.rules again a [] h) ≡ []
          → Full Q (flag_met s.rules a v h).0.rows
      flag (Some x) e = all
      flag None e = react_full a [] h (ok a refl) e all

      go : (b : Bool) → cond b (option_fault s.rules again a v h) (cond (is_some v) (TooManyValues ∷ []) (react_fault s.rules again a [] h)) ≡ []
          → Full Q (cond b (option_met s.rules a v h) (flag_met s.rules a v h)).0.rows
      go true e = option_full a v h (ok a refl) e all
      go false e = flag v e

  -- a step of a bundle, and the rest of it
  abbrev Goes : (Held → Kinds) → (Held → Held × Outcome) → Type 0
  Goes fault met = (h : Held) → fault h ≡ [] → Full Q h.rows → Full Q (met h).0.rows

  short_full : (o : Option Rule) (rest : Text) (h : Held) (fault : Held → Kinds) (met : Held → Held × Outcome) → ((a : Rule) → o ≡ Some a → IsSound Q a)
      → Goes fault met → short_fault s.rules again o rest h fault ≡ [] → Full Q h.rows → Full Q (short_met s.rules o rest h met).0.rows
  short_full None rest h fault met ok goes e all = all
  short_full (Some a) rest h fault met ok goes e all = go (takes_values a) e
    where
      go : (b : Bool) → cond b (option_fault s.rules again a (attached_value rest) h) (or_else (react_fault s.rules again a [] h) (fault (reacted s.rules a [] h))) ≡ []
          → Full Q (cond b (option_met s.rules a (attached_value rest) h) (met (reacted s.rules a [] h))).0.rows
      go true e = option_full a (attached_value rest) h (ok a refl) e all
      go false e =
          let steps = neither _ _ e in
          goes (reacted s.rules a [] h) steps.1 (react_full a [] h (ok a refl) steps.0 all)

  bundle_step_full : (o : Option ℕ) (flags : Text) (skip : ℕ) (so_far : Outcome) (h : Held) (fault : Text → ℕ → Held → Kinds)
      (met : Text → ℕ → Outcome → Held → Held × Outcome) → ((flags : Text) (skip : ℕ) (so_far : Outcome) → Goes (fault flags skip) (met flags skip so_far))
      → bundle_step_fault s.rules again o flags skip h fault ≡ [] → Full Q h.rows → Full Q (bundle_step s.rules o flags skip so_far h met).0.rows
  bundle_step_full None flags skip so_far h fault met goes e all = all
  bundle_step_full (Some x) flags zero so_far h fault met goes e all =
      let rest = drop (length (encode_utf8 x)) flags in
      short_full (arg_by_short s.rules x) rest h (fault rest 0) (met rest 0 done) (λ a found. found_sound Q _ s.rules a sound found) (goes rest 0 done) e all
  bundle_step_full (Some x) flags (suc skip) so_far h fault met goes e all =
      goes (drop (length (encode_utf8 x)) flags) skip so_far h e all

  bundle_full : (k : ℕ) (flags : Text) (skip : ℕ) (so_far : Outcome) (h : Held) → flags_fault s.rules again k flags skip h ≡ [] → Full Q h.rows
      → Full Q (bundle_met s.rules k flags skip so_far h).0.rows
  unfolding flags_fault bundle_met
  bundle_full zero flags skip so_far h e all = all
  bundle_full (suc k) flags skip so_far h e all =
      bundle_step_full (slice_get (chars flags) 0) flags skip so_far h (flags_fault s.rules again k) (bundle_met s.rules k) (bundle_full k) e all

  -- the subcommand that a step names
  abbrev IsNamed : Step → Type 0
  IsNamed (subcommand name) = R name
  IsNamed _ = ⊤

  abbrev Steps : Held × Step → Type 0
  Steps p = Full Q p.0.rows × IsNamed p.1

  plain_steps : (waiting : Waiting) (word : Text) (h : Held) → Full Q h.rows → Steps (plain_word s.rules waiting word h)
  plain_steps idle word h all = (all, tt)
  plain_steps positional word h all = (all, tt)
  plain_steps (option id) word h all = go (arg_by_id s.rules id)
    where
      go : (o : Option Rule) → Steps ((option_word o id word h).0, next (option_word o id word h).1)
      go None = (all, tt)
      go (Some a) = (all, tt)

  flag_steps : (waiting : Waiting) (word : Text) (h : Held) (outcome : Outcome) → Full Q h.rows → Steps (after_flag s.rules waiting word h outcome)
  flag_steps waiting word h done all = (all, tt)
  flag_steps waiting word h (waits id) all = (all, tt)
  flag_steps waiting word h plain all = plain_steps waiting word h all
  flag_steps waiting word h refused all = plain_steps waiting word h all

  short_steps : (waiting : Waiting) (word : Text) (o : Option Text) (h : Held) → option_map_or (λ flags. bundle_fault s.rules again flags h) o [] ≡ [] → Full Q h.rows
      → Steps (short_or_plain s.rules waiting word o h)
  short_steps waiting word None h e all = plain_steps waiting word h all
  short_steps waiting word (Some flags) h e all =
      flag_steps waiting word (bundle s.rules flags h).0 (bundle s.rules flags h).1 (bundle_full (length flags) flags h.skip plain (record h { skip = 0 }) e all)

  long_steps : (waiting : Waiting) (word : Text) (o : Option (Text × Option Text)) (h : Held) → flag_word_fault s.rules again o word h ≡ [] → Full Q h.rows
      → Steps (long_or_other s.rules waiting word o h)
  long_steps waiting word None h e all = short_steps waiting word (short_of word) h e all
  long_steps waiting word (Some p) h e all =
      let met = long_met s.rules (arg_by_long s.rules p.0) p.1 h in
      flag_steps waiting word met.0 met.1 (long_full (arg_by_long s.rules p.0) p.1 h (λ a found. found_sound Q _ s.rules a sound found) e all)

  other_steps : (o : Option Text) (waiting : Waiting) (position : ℕ) (word : Text) (h : Held) → other_fault s o word h ≡ [] → Full Q h.rows
      → Steps (subcommand_or_other s.rules o waiting position word h)
  other_steps (Some name) waiting position word h e all = (all, named name word h e)
  other_steps None waiting position word h e all = go (bytes_eq word (45 ∷ 45 ∷ [])) e
    where
      go : (b : Bool) → cond b [] (flag_word_fault s.rules again (long_of word) word h) ≡ []
          → Steps (cond b (h, trailing position) (long_or_other s.rules waiting word (long_of word) h))
      go true e = (all, tt)
      go false e = long_steps waiting word (long_of word) h e all

  word_steps : (is_trailing : Bool) (waiting : Waiting) (position : ℕ) (word : Text) (h : Held) → word_fault s names is_trailing waiting word h ≡ [] → Full Q h.rows
      → Steps (word_met s.rules names is_trailing waiting position word h)
  word_steps true waiting position word h e all = (all, tt)
  word_steps false waiting position word h e all = other_steps (subcommand_met names waiting word) waiting position word h e all

  -- the walk has rows that are full, and stopped at a subcommand that may be named
  abbrev pub IsGood : Walk → Type 0
  IsGood w = Full Q w.held.rows × IfSome w.stopped (λ p. R p.0)

  positional_good : (o : Option Rule) (position : ℕ) (word : Text) (w : Walk) (h : Held)
      → option_map_or (λ a. positional_fault s.rules again a h) o (stray_fault s) ≡ [] → Full Q h.rows → IsGood (to_positional s.rules o word (record w { stopped = None }) h)
  positional_good None position word w h e all = (all, tt)
  positional_good (Some a) position word w h e all = (go (is_pending a h.pending && takes_several a) e, tt)
    where
      go : (b : Bool) → cond b [] (settle_fault s.rules again h) ≡ [] → Full Q (cond b h (settled s.rules h)).rows
      go true e = all
      go false e = settle_full h e all

  step_good : (word : Text) (w : Walk) (h : Held) (step : Step) → step_fault s w.position h step ≡ [] → Steps (h, step)
      → IsGood (after_step s.rules word (record w { stopped = None }) h step)
  step_good word w h (next waiting) e steps = (steps.0, tt)
  step_good word w h (trailing position) e steps = (steps.0, tt)
  step_good word w h (subcommand name) e steps = (steps.0, steps.1)
  step_good word w h value e steps = positional_good (arg_by_index s.rules w.position) w.position word w h e steps.0

  abbrev met_at : Walk → Text → Held × Step
  met_at w word = word_met s.rules names w.is_trailing w.waiting w.position word w.held

  turn_good : (w : Walk) (word : Text) → turn_fault s names w word ≡ [] → IsGood w → IsGood (walked s.rules names w word)
  unfolding walked
  turn_good w word e good = go w.stopped refl e good.1
    where
      go : (stop : Option (Text × List Text)) → w.stopped ≡ stop
          → cond (is_some stop) [] (or_else (word_fault s names w.is_trailing w.waiting word w.held) (step_fault s w.position (met_at w word).0 (met_at w word).1)) ≡ []
          → IfSome stop (λ p. R p.0) → IsGood (walked_from s.rules names stop w word)
      go (Some p) same e fine = (good.0, fine)
      go None same e fine =
          let steps = neither _ _ e in
          let here : ◌≡◌ {A = Walk} (record w { stopped = None }) w = ap (λ (o : Option (Text × List Text)). record w { stopped = o }) (sym same) in
          subst (λ (v : Walk). IsGood (after_step s.rules word v (met_at w word).0 (met_at w word).1)) here
          (step_good word w (met_at w word).0 (met_at w word).1 steps.1 (word_steps w.is_trailing w.waiting w.position word w.held steps.0 good.0))

  -- so it is after all the words
  pub walk_good : (words : List Text) (w : Walk) → walk_fault s names w words ≡ [] → IsGood w → IsGood (fold (walked s.rules names) w words)
  unfolding walk_fault
  walk_good [] w e good = good
  walk_good (word ∷ rest) w e good =
      let steps = neither _ _ e in
      walk_good rest (walked s.rules names w word) steps.1 (turn_good w word steps.0 good)

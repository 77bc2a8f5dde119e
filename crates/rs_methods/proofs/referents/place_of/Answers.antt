use Rattle.std.proofs.Common.{rules}
use Rattle.std.proofs.lemmas.Fn.{always_returns_same}
use Rattle.rs_methods.specs.declared.referents.Referent.{Referent}
use Rattle.rs_methods.specs.Referents.{key_cmp, entry_of}
use Rattle.rs_methods.proofs.Place.{placed}
use Rattle.rs_methods.proofs.referents.place_of.Goals as goal

pub returns : goal.returns
returns c =
    let facts = c.binary_search_by.ensures in
    let by_key = facts.position (λ (x : Referent). key_cmp (entry_of x).0 (c.args.route, c.args.name.now)) (always_returns_same _ _ _ (λ a r f' k. search rules)) in
    let at = placed (c.args.route, c.args.name.now) c.args.items.now c.requires c.binary_search_by.result facts.bound by_key in
    record { within = facts.bound; found = at.found; absent = at.absent }

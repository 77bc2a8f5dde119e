-- Reads, one after another.
use Rattle.std.proofs.Common.{◌≡◌, ◌∙◌, inl, inr, refl}
use Rattle.rs_dump.specs.Reads.{Reads}
use Rattle.rs_dump.specs.Shown.{Many, Shown, more, none}
use Rattle.rs_dump.specs.Stopping.{StopsReading}
use Rattle.rs_dump.specs.declared.held.Held as held
use Rattle.rs_dump.specs.declared.stop.Stop.{Stop}
use Rattle.rs_refusal.specs.declared.refusal.Refusal.{Refusal}

pub many_joined : {S : Type 0} (passes : S → S → Type 0) (a b c : S) → Many passes a b → Many passes b c → Many passes a c
many_joined passes a b c one none = one
many_joined passes a b c one (more {mid = mid} rest last) = more (many_joined passes a b mid one rest) last

module _ {H : Type 0} (h : held.Ghosts H) where
  pub reads_nothing : (a : H) → Reads h a a
  reads_nothing a = record { catalog = refl; referents = refl; shows = λ shown shows. shows; passes = none }

  pub reads_joined : (a b c : H) → Reads h a b → Reads h b c → Reads h a c
  reads_joined a b c one other = record {
    catalog = other.catalog ∙ one.catalog;
    referents = other.referents ∙ one.referents;
    shows = λ shown shows. other.shows shown (one.shows shown shows);
    passes = many_joined h.passes a b c one.passes other.passes;
  }

  pub reads_next : (a b c : H) → Reads h a b → h.catalog c ≡ h.catalog b → h.referents c ≡ h.referents b → ((shown : Shown) → h.shows b shown → h.shows c shown) → h.passes b c → Reads h a c
  reads_next a b c one catalog referents shows passes = record {
    catalog = catalog ∙ one.catalog;
    referents = referents ∙ one.referents;
    shows = λ shown is. shows shown (one.shows shown is);
    passes = more one.passes passes;
  }

  -- ---- why they stop

  -- why a call is refused is why it is with the one before
  abbrev pub WantsLater : Type 0
  WantsLater = (why : Refusal) (a b c : H) → h.passes a b → h.wants why b c → h.wants why a c

  wants_after : WantsLater → (why : Refusal) (a b c : H) → Many h.passes a b → h.wants why b c → h.wants why a c
  wants_after later why a b c none wanted = wanted
  wants_after later why a b c (more {mid = mid} rest last) wanted = wants_after later why a mid c rest (later why mid b c last wanted)

  pub stops_after : WantsLater → (stop : Stop) (a b c : H) → Reads h a b → StopsReading h stop b c → StopsReading h stop a c
  stops_after later stop a b c reads (inl writing) = inl writing
  stops_after later stop a b c reads (inr refused) = inr (refused.0, refused.1, wants_after later refused.0 a b c reads.passes refused.2)

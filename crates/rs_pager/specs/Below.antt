-- What is kept below the working pages is kept in one call after another.
use Rattle.std.specs.Prelude.{IsTrue, refl}
use Rattle.std.proofs.Common.{◌∙◌, subst, sym}
use Rattle.rs_disk.specs.Crash.{Same}
use Rattle.rs_disk.specs.declared.disk.Disk as disk
use Rattle.rs_disk.proofs.Reaching.{passes_none, passes_then}
use Rattle.rs_pages.proofs.Stores.{SamePages-trans}
use Rattle.rs_pager.specs.Paged.{Paged}
use Rattle.rs_pager.specs.Maps.{KeepsBelow}

module _ {D : Type 0} (d : disk.Ghosts D) where
  pub KeepsBelow-refl : (p : Paged D) → KeepsBelow d p p
  KeepsBelow-refl p = record {
    tied = λ tied. tied;
    committed = λ _. record { fields = refl; pages = λ n. refl };
    committed_fields = refl;
    changed = λ n. refl;
    lacks = refl;
    honesty = refl;
    keeping = refl;
    under_way = refl;
    kept = λ pages tied is. is;
    unwritten = λ _. refl;
    crash = λ _. passes_none d.may_leave d.left_since Same p.disk (λ _. refl);
  }

  pub KeepsBelow-trans : (a b c : Paged D) → KeepsBelow d a b → KeepsBelow d b c → KeepsBelow d a c
  KeepsBelow-trans a b c one other = record {
    tied = λ tied. other.tied (one.tied tied);
    committed = λ tied. SamePages-trans _ _ _ (other.committed (one.tied tied)) (one.committed tied);
    committed_fields = other.committed_fields ∙ one.committed_fields;
    changed = λ n. other.changed n ∙ one.changed n;
    lacks = other.lacks ∙ one.lacks;
    honesty = other.honesty ∙ one.honesty;
    keeping = other.keeping ∙ one.keeping;
    under_way = other.under_way ∙ one.under_way;
    kept = λ pages tied is. other.kept pages (one.tied tied) (one.kept pages tied is);
    unwritten = λ honest. other.unwritten (subst IsTrue (sym one.honesty) honest) ∙ one.unwritten honest;
    crash = λ keeps. passes_then d.may_leave d.left_since Same Same Same a.disk b.disk c.disk (λ _ _ same. same) (λ _ _ _ first then. then ∙ first)
        (one.crash keeps) (other.crash (subst IsTrue (sym one.keeping) keeps));
  }

-- A commit of one change, and of two.
use Rattle.std.proofs.Common.{◌≡◌, ℕ, zero, suc, ◌<◌, List, [], ◌∷◌, get_or, subst, sym, arith}
use Rattle.std.specs.declared.cmp.Ordering.TheVariants.{Less}
use Rattle.values.specs.Event.{Event}
use Rattle.values.specs.Events.{event_cmp}
use Rattle.eventlist.proofs.PlaceOrder.{sorted_none, sorted_cons}
use Rattle.treegrowth.specs.Commit.{IsCommit}

pub one_commit : (instant : ℕ) (es : List Event) (e : Event) → es ≡ e ∷ [] → e.at ≡ instant → IsCommit instant es
one_commit instant es e is at = subst (IsCommit instant) (sym is) (record { at_instant = all; ordered = sorted_cons event_cmp e [] tt (sorted_none event_cmp) })
  where
    all : (k : ℕ) (d : Event) → k < 1 → (get_or (e ∷ []) k d).at ≡ instant
    all zero d lt = at
    all (suc k) d lt = absurd (omega arith)

pub two_commit : (instant : ℕ) (es : List Event) (d e : Event) → es ≡ d ∷ e ∷ [] → d.at ≡ instant → e.at ≡ instant → event_cmp d e ≡ Less → IsCommit instant es
two_commit instant es d e is first second less = subst (IsCommit instant) (sym is) (record {
  at_instant = all;
  ordered = sorted_cons event_cmp d (e ∷ []) (less, tt) (sorted_cons event_cmp e [] tt (sorted_none event_cmp));
})
  where
    all : (k : ℕ) (x : Event) → k < 2 → (get_or (d ∷ e ∷ []) k x).at ≡ instant
    all zero x lt = first
    all (suc zero) x lt = second
    all (suc (suc k)) x lt = absurd (omega arith)

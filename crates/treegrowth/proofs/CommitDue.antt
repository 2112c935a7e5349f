-- The events of a commit, one after the other.
use Rattle.std.proofs.Common.{◌≡◌, ℕ, ◌<◌, ◌≤◌, List, [], ◌∷◌, length, sym, ap, subst, ◌∙◌, inl, inr, arith}
use Rattle.std.specs.List.{AllByRecursion}
use Rattle.std.specs.List.Sorted.{IsStrictlySortedBy}
use Rattle.std.specs.declared.cmp.Ordering.TheVariants.{Less}
use Rattle.std.proofs.lemmas.List.Elements.{All-from_recursion, recursion_from_All}
use Rattle.values.specs.Event.{Event}
use Rattle.values.specs.Commits.{max_instant}
use Rattle.values.specs.Events.{event_cmp, put_event}
use Rattle.eventlist.proofs.PlaceOrder.{is_lower, sorted_head, sorted_tail}
use Rattle.eventlist.proofs.PutPlaced.{all_put}
use Rattle.datanode.specs.Node.{IsLast}
use Rattle.treenodes.specs.Node.{TreeNode}
use Rattle.treenodes.specs.Map.{IsNext, changes, latest}
use Rattle.treenodes.specs.Sound.{IsSound, IsTreeOf}
use Rattle.treenodes.proofs.MapLatest.{latest_put, latest_is}
use Rattle.treenodes.proofs.MapRead.{changes_is}
use Rattle.treegrowth.specs.Commit.{IsCommit, IsBeforeCommit, put_each}
use Rattle.treegrowth.proofs.PointOneKey.{IsUpTo}

-- the map takes what is to come of a commit
pub record IsDue (m : List Event) (last instant : ℕ) (rest : List Event) : Type 0 where
  pub takes : IsBeforeCommit m last instant
  pub latest_upto : latest m ≤ instant
  pub at_instant : AllByRecursion (λ e. e.at ≡ instant) rest
  pub ordered : IsStrictlySortedBy event_cmp rest
  pub fresh : AllByRecursion (λ e. IsLast e m) rest

-- ---- before the first

all_upto : (m : List Event) → AllByRecursion (λ e. e.at ≤ latest m) m
all_upto m = upto m (latest m) (omega arith)
  where
    upto : (es : List Event) (top : ℕ) → latest es ≤ top → AllByRecursion (λ e. e.at ≤ top) es
    upto [] top h = tt
    upto (e ∷ es) top h = (omega arith, upto es top (omega arith))

all_from : {X : Type 0} (P Q : X → Type 0) → ((x : X) → P x → Q x) → (xs : List X) → AllByRecursion P xs → AllByRecursion Q xs
all_from P Q f [] h = tt
all_from P Q f (x ∷ xs) h = (f x h.0, all_from P Q f xs h.1)

pub due_at_first : (m : List Event) (last instant : ℕ) (es : List Event) → last ≡ latest m → last < instant → instant ≤ max_instant → IsCommit instant es → IsDue m last instant es
due_at_first m last instant es is later upto commit = record {
  takes = record {
    later = later;
    upto = upto;
    reached = omega (arith, is);
    others = All-from_recursion (IsUpTo last instant) m (all_from (λ e. e.at ≤ latest m) (IsUpTo last instant) (λ e le. inl (omega (arith, is, le))) m (all_upto m));
  };
  latest_upto = omega (arith, is, later);
  at_instant = recursion_from_All (λ e. e.at ≡ instant) es commit.at_instant;
  ordered = commit.ordered;
  fresh = all_from (λ e. e.at ≡ instant) (λ e. IsLast e m) (λ e at. All-from_recursion (λ d. d.key ≡ e.key → d.at < e.at) m (all_from (λ d. d.at ≤ latest m) (λ d. d.key ≡ e.key → d.at < e.at) (λ d le same. (omega (arith, is, le, at, later))) m (all_upto m))) es (recursion_from_All (λ e. e.at ≡ instant) es commit.at_instant);
}

-- ---- one event

module _ (m : List Event) (last instant : ℕ) (e : Event) (rest : List Event) (due : IsDue m last instant (e ∷ rest)) where
  pub due_next : IsNext m e
  due_next = record { first = (let at = due.at_instant.0 in let later = due.takes.later in omega (arith, at, later)); upto = (let at = due.at_instant.0 in let le = due.takes.upto in omega (arith, at, le)); latest_before = (let at = due.at_instant.0 in let le = due.latest_upto in omega (arith, at, le)); last = due.fresh.0 }

  fresh_after : (fs : List Event) → AllByRecursion (λ f. event_cmp e f ≡ Less) fs → AllByRecursion (λ f. IsLast f m) fs → AllByRecursion (λ f. IsLast f (put_event e m)) fs
  fresh_after [] above fresh = tt
  fresh_after (f ∷ fs) above fresh = (
    All-from_recursion (λ d. d.key ≡ f.key → d.at < f.at) (put_event e m) (all_put (λ d. d.key ≡ f.key → d.at < f.at) e m (λ same. (is_lower e f above.0).same same) (recursion_from_All (λ d. d.key ≡ f.key → d.at < f.at) m fresh.0)),
    fresh_after fs above.1 fresh.1,
  )

  pub due_after : IsDue (put_event e m) last instant rest
  due_after = record {
    takes = record {
      later = due.takes.later;
      upto = due.takes.upto;
      reached = (let more = latest_put e m in let le = due.takes.reached in omega (arith, more, le));
      others = All-from_recursion (IsUpTo last instant) (put_event e m) (all_put (IsUpTo last instant) e m (inr due.at_instant.0) (recursion_from_All (IsUpTo last instant) m due.takes.others));
    };
    latest_upto = (let at = due.at_instant.0 in let same = latest_is e m due_next.latest_before in omega (arith, at, same));
    at_instant = due.at_instant.1;
    ordered = sorted_tail event_cmp e rest due.ordered;
    fresh = fresh_after rest (sorted_head event_cmp e rest due.ordered) due.fresh.1;
  }

-- ---- after the last

pub latest_after : (m : List Event) (instant : ℕ) (es : List Event) → latest m ≤ instant → AllByRecursion (λ e. e.at ≡ instant) es → 0 < length es → instant ≡ latest (put_each es m)
latest_after m instant [] le at some = absurd (omega arith)
latest_after m instant (e ∷ es) le at some = by es (latest_is e m (let is = at.0 in omega (arith, is, le))) at.1 (λ some. latest_after (put_event e m) instant es (let same = latest_is e m (let is = at.0 in omega (arith, is, le)) in let is = at.0 in omega (arith, is, same)) at.1 some)
  where
    by : (fs : List Event) → latest (put_event e m) ≡ e.at → AllByRecursion (λ e. e.at ≡ instant) fs → (0 < length fs → instant ≡ latest (put_each fs (put_event e m))) → instant ≡ latest (put_each fs (put_event e m))
    by [] same all rest = (let is = at.0 in omega (arith, is, same))
    by (f ∷ fs) same all rest = rest (omega arith)

-- ---- over the nodes

pub read_at : (nodes : List TreeNode) (m : List Event) → IsTreeOf nodes m → changes nodes ≡ m
read_at nodes m kept = changes_is nodes m kept.tree kept.holds

pub of_changes : (nodes : List TreeNode) (m : List Event) → IsTreeOf nodes m → IsTreeOf nodes (changes nodes)
of_changes nodes m kept = subst (IsTreeOf nodes) (sym (read_at nodes m kept)) kept

pub sound_after : (nodes : List TreeNode) (m : List Event) (instant : ℕ) → IsTreeOf nodes m → instant ≡ latest m → IsSound nodes instant
sound_after nodes m instant kept is = record { kept = of_changes nodes m kept; last_is = is ∙ ap latest (sym (read_at nodes m kept)) }

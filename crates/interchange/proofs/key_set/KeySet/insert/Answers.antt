use Rattle.std.proofs.Common.{◌≡◌, ◌++◌, ◌∷◌, [], true, ◌∙◌, ap, sym, subst, not, is_lt}
use Rattle.std.proofs.IntoIterSteps.{All-taken}
use Rattle.std.specs.BTreeSet.{IsFromIterResult, insert_key}
use Rattle.std.specs.Cmp.Lexicographic.{nat_list_cmp_total}
use Rattle.std.specs.FinMap.{nat_cmp-IsAntisymmetric, slice_cmp-IsAntisymmetric}
use Rattle.std.specs.List.{list_all, list_any}
use Rattle.std.specs.List.Sorted.{IsStrictlySortedBy}
use Rattle.values.specs.Events.{bytes_cmp, is_bytes}
use Rattle.interchange.specs.Insertion.{bytes_in}
use Rattle.interchange.proofs.KeySetOrder.{absent_above, collected, inserted_last}
use Rattle.interchange.proofs.key_set.KeySet.insert.Goals as goal

above_all : (c : goal.In_ok-push-in-Rising) → IsStrictlySortedBy bytes_cmp (bytes_in c.args.self.now) → list_all (λ k. is_lt (bytes_cmp k c.args.key)) (bytes_in c.args.self.now) ≡ true
above_all c sorted =
    let same : c.deref.result.now ≡ bytes_in c.args.self.now = c.deref.ensures.value ∙ ap bytes_in (sym c.in-Rising.is) in
    subst (λ l. list_all (λ k. is_lt (bytes_cmp k c.args.key)) l ≡ true) same
    (sym (c.is_above.ensures (subst (IsStrictlySortedBy bytes_cmp) (sym same) sorted)) ∙ c.if-is_above.true)

pub returns-in_ok-push-in-Rising-clause-new : goal.returns-in_ok-push-in-Rising-clause-new
returns-in_ok-push-in-Rising-clause-new c = λ sorted.
    ap not (sym (absent_above nat_list_cmp_total (bytes_in c.args.self.now) c.args.key (above_all c sorted)))

pub returns-in_ok-push-in-Rising-clause-added : goal.returns-in_ok-push-in-Rising-clause-added
returns-in_ok-push-in-Rising-clause-added c = λ sorted.
    c.in_ok-push-in-Rising.ensures.items
    ∙ ap (λ set. bytes_in set ++ c.args.key ∷ []) (sym c.in-Rising.is)
    ∙ sym (inserted_last nat_list_cmp_total (bytes_in c.args.self.now) c.args.key (above_all c sorted))

same_keys : (c : goal.Joined-self-2) → IsStrictlySortedBy bytes_cmp (bytes_in c.args.self.now) → c.in_ok-mixed-in-Rising-2.mixed.keys ≡ bytes_in c.args.self.now
same_keys c sorted =
    let h = c.in_ok-mixed-in-Rising-2.ensures.ran in
    let came = All-taken h.0 h.1 ((h.3.2 tt).0, (h.3.0, h.3.1, (h.3.2 tt).1)) ∙ h.2.0 ∙ ap (λ v. v.items) c.in_ok-try_take-in-Rising-2.ensures.value ∙ ap bytes_in (sym c.in-Rising.is) in
    collected nat_list_cmp_total (slice_cmp-IsAntisymmetric nat_cmp-IsAntisymmetric) (bytes_in c.args.self.now) c.in_ok-mixed-in-Rising-2.mixed sorted
    (subst (λ l. IsFromIterResult bytes_cmp l c.in_ok-mixed-in-Rising-2.mixed) came h.4)

pub returns-in_ok-is_new-in-Rising-2-clause-new : goal.returns-in_ok-is_new-in-Rising-2-clause-new
returns-in_ok-is_new-in-Rising-2-clause-new c = λ sorted.
    c.in_ok-is_new-in-Rising-2.ensures.added ∙ ap (λ l. not (list_any (is_bytes c.args.key) l)) (same_keys c sorted)

pub returns-in_ok-is_new-in-Rising-2-clause-added :
    goal.returns-in_ok-is_new-in-Rising-2-clause-added
returns-in_ok-is_new-in-Rising-2-clause-added c = λ sorted.
    c.in_ok-is_new-in-Rising-2.ensures.keys ∙ ap (λ l. insert_key bytes_cmp l c.args.key) (same_keys c sorted)

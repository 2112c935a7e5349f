-- A way from the root down.
use Rattle.std.proofs.Common.{◌≡◌, ℕ, zero, suc, ◌+◌, ◌-◌, ◌<◌, ◌≤◌, List, [], ◌∷◌, ◌++◌, length, get_or, Some, refl, sym, ap, subst, ◌∙◌, ◌⊎◌, inl, inr, arith, length-append, true}
use Rattle.std.specs.Prelude.{slice_get, Contains}
use Rattle.std.specs.List.{Any}
use Rattle.std.proofs.lemmas.Bool.{cases_lt}
use Rattle.std.proofs.lemmas.Option.{slice_get_within, get_or_from_slice_get}
use Rattle.keyrange.specs.Rect.{has_point}
use Rattle.indexnode.specs.declared.reference.Reference.{Reference}
use Rattle.indexnode.specs.declared.node.IndexNode.{IndexNode}
use Rattle.treenodes.specs.declared.node.Child.{Child}
use Rattle.treenodes.specs.declared.node.Child.TheVariants.{Index}
use Rattle.treenodes.specs.Node.{TreeNode, seen}
use Rattle.treenodes.specs.Tree.{IsTree}
use Rattle.treenodes.specs.Lookup.{IsLeafAt, IsParent, IsWay, IsWayTo}
use Rattle.treenodes.proofs.NodeNumbers.{push_new}
use Rattle.treenodes.proofs.LookupSteps.{WalkedTo, start, step_down, shown_at}

-- the way so far
pub record WayTo (nodes : List TreeNode) (key : List ℕ) (instant number : ℕ) (way : List ℕ) : Type 0 where
  pub walked : WalkedTo nodes key instant number (length way)
  pub leads : IsWay nodes way
  pub from_root : (d : ℕ) → get_or way 0 d ≡ 0
  pub last : slice_get way (length way - 1) ≡ Some number

pub way_starts : (nodes : List TreeNode) → IsTree nodes → (key : List ℕ) (instant : ℕ) → 1 ≤ instant → (way : List ℕ) → way ≡ 0 ∷ [] → WayTo nodes key instant 0 way
way_starts nodes tree key instant h way is = subst (WayTo nodes key instant 0) (sym is) (record {
  walked = start nodes tree key instant h;
  leads = λ k d lt. absurd (omega arith);
  from_root = λ d. refl;
  last = refl;
})

any_of : (rs : List (Reference ℕ)) (r : Reference ℕ) → Contains rs r → Any (λ (s : Reference ℕ). s.child ≡ r.child) rs
any_of [] r c = absurd (let lt : c.0 < 0 = c.1 in omega arith)
any_of (s ∷ ss) r (zero, lt, is) = (0, s, lt, refl, ap (λ (s : Reference ℕ). s.child) is)
any_of (s ∷ ss) r (suc k, lt, is) =
    let rest : Any (λ (s : Reference ℕ). s.child ≡ r.child) ss = any_of ss r (k, omega arith, is) in
    let bound : rest.0 < length ss = rest.2 in
    (suc rest.0, rest.1, omega arith, rest.3, rest.4)

at_front : (ws : List ℕ) (x k d : ℕ) → k < length ws → get_or (ws ++ x ∷ []) k d ≡ get_or ws k d
at_front [] x k d lt = absurd (omega arith)
at_front (w ∷ ws) x zero d lt = refl
at_front (w ∷ ws) x (suc k) d lt = at_front ws x k d (omega arith)

at_end : (ws : List ℕ) (x d : ℕ) → get_or (ws ++ x ∷ []) (length ws) d ≡ x
at_end [] x d = refl
at_end (w ∷ ws) x d = at_end ws x d

module _ (nodes : List TreeNode) (tree : IsTree nodes) (key : List ℕ) (instant number : ℕ) (way : List ℕ) (n : TreeNode) (shown : Child) (x : IndexNode ℕ) (at : slice_get nodes number ≡ Some n) (is : n ≡ seen n.level shown) (same : shown ≡ Index x)
    (w : WayTo nodes key instant number way) (r : Reference ℕ) (among : Contains x.references.items r) (holds : has_point r.rect key instant ≡ true) where
  parent : IsParent nodes number r.child
  parent = record { node = seen n.level (Index x); there = shown_at nodes number n shown (Index x) at is same; refers = any_of x.references.items r among }

  some : 0 < length way
  some = let lt = slice_get_within way (length way - 1) number w.last in omega (arith, lt)

  one_more : length (way ++ r.child ∷ []) ≡ length way + 1
  one_more = length-append way (r.child ∷ [])

  leads_by : (k d : ℕ) → (k + 1 < length way) ⊎ (k + 1 ≡ length way) → IsParent nodes (get_or (way ++ r.child ∷ []) k d) (get_or (way ++ r.child ∷ []) (k + 1) d)
  leads_by k d (inl lt) =
      subst (λ a. IsParent nodes a (get_or (way ++ r.child ∷ []) (k + 1) d)) (sym (at_front way r.child k d (omega arith)))
      (subst (IsParent nodes (get_or way k d)) (sym (at_front way r.child (k + 1) d lt)) (w.leads k d lt))
  leads_by k d (inr e) =
      let here : get_or way k d ≡ number = get_or_from_slice_get way k number d (ap (slice_get way) (before k (length way) e) ∙ w.last) in
      subst (λ a. IsParent nodes a (get_or (way ++ r.child ∷ []) (k + 1) d)) (sym (at_front way r.child k d (omega arith) ∙ here))
      (subst (IsParent nodes number) (sym (ap (λ j. get_or (way ++ r.child ∷ []) j d) e ∙ at_end way r.child d)) parent)
    where
      before : (k l : ℕ) → k + 1 ≡ l → k ≡ l - 1
      before k l e = omega arith

  pub way_on : (way' : List ℕ) → way' ≡ way ++ r.child ∷ [] → WayTo nodes key instant r.child way'
  way_on way' made = subst (WayTo nodes key instant r.child) (sym made) (record {
    walked = subst (WalkedTo nodes key instant r.child) (sym one_more) (step_down nodes key instant number (length way) n shown x at is same w.walked tree r among holds);
    leads = λ k d lt. leads_by k d (elim (cases_lt (k + 1) (length way)) [ inl l ↦ inl l | inr l ↦ inr (omega (arith, one_more)) ]);
    from_root = λ d. at_front way r.child 0 d some ∙ w.from_root d;
    last = ap (slice_get (way ++ r.child ∷ [])) (ends one_more) ∙ push_new way r.child;
  })
    where
      ends : length (way ++ r.child ∷ []) ≡ length way + 1 → length (way ++ r.child ∷ []) - 1 ≡ length way
      ends e = omega (arith, e)

pub way_ends : (nodes : List TreeNode) (key : List ℕ) (instant number : ℕ) (way : List ℕ) → WayTo nodes key instant number way → IsLeafAt nodes key instant number → IsWayTo nodes key instant way
way_ends nodes key instant number way w leaf = record { leads = w.leads; from_root = w.from_root; number = number; last = w.last; leaf = leaf }

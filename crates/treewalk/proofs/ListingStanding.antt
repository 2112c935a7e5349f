-- A row that stands at an instant stands in the cut of a rectangle at that instant.
use Rattle.std.proofs.Common.{◌≡◌, ℕ, ◌<◌, ◌≤◌, true, List, sym, ap, ◌∙◌, ◌⊎◌, inl, inr, arith}
use Rattle.std.specs.Prelude.{is_some}
use Rattle.std.specs.Bool.{Decides}
use Rattle.std.proofs.lemmas.Bool.{cases_lt}
use Rattle.std.proofs.lemmas.Bool.Decides.{Decides-and, Decides-not}
use Rattle.values.specs.Event.{Event}
use Rattle.keyrange.specs.Rect.{Area}
use Rattle.keyrange.specs.Range.{is_key_in}
use Rattle.eventlist.specs.Listing.{stands_at}
use Rattle.datanode.specs.Cut.{in_cut, cut}
use Rattle.datanode.proofs.CutMembers.{In-filter, In-from_filter}
use Rattle.datanode.proofs.CutLaws.{IsOvertaken, IsTimeIn, IsInCut, Decides-leb, itself, overtaken_decides, in_cut_decides, ends_earlier}

-- e's row stands at the instant
pub record Stands (m : List Event) (t : ℕ) (e : Event) : Type 0 where
  pub until : e.at ≤ t
  pub row : is_some e.row ≡ true
  pub last : IsOvertaken m e t → ⊥

pub stands_decides : (m : List Event) (t : ℕ) (e : Event) → Decides (stands_at m t e) (Stands m t e)
unfolding stands_at
stands_decides m t e =
    let both = Decides-and _ _ (Decides-leb e.at t) (Decides-and _ _ (itself (is_some e.row)) (Decides-not _ (overtaken_decides m e t))) in
    (λ h. (let w = both.0 h in record { until = w.0; row = w.1.0; last = w.1.1 }), λ s. both.1 (s.until, (s.row, s.last)))

module _ (r : Area) (m : List Event) (t : ℕ) (time : IsTimeIn r t) (e : Event) where
  pub to_cut : is_key_in r.keys e.key ≡ true → Stands m t e → IsInCut r m e × Stands (cut r m) t e
  to_cut key s = (
    (key, by (cases_lt e.at r.time.from)),
    record {
      until = s.until;
      row = s.row;
      last = λ o. s.last (o.0, (In-from_filter (in_cut r m) m o.0 o.1).0, o.2);
    },
  )
    where
      by : (e.at < r.time.from) ⊎ (r.time.from ≤ e.at) → IsTimeIn r e.at ⊎ ((e.at < r.time.from) × ((is_some e.row ≡ true) × (IsOvertaken m e r.time.from → ⊥)))
      by (inl early) = inr (early, (s.row, λ o. s.last (o.0, o.1, (let a : o.0.at ≤ r.time.from = o.2.until in let b : r.time.from ≤ t = time.0 in record { of_key = o.2.of_key; after = o.2.after; until = omega arith }))))
      by (inr late) = inl (late, ends_earlier r.time.to e.at t s.until time.1)

  pub from_cut : IsInCut r m e → Stands (cut r m) t e → Stands m t e
  from_cut held s = record { until = s.until; row = s.row; last = λ o. by o (cases_lt o.0.at r.time.from) }
    where
      by : (o : IsOvertaken m e t) → (o.0.at < r.time.from) ⊎ (r.time.from ≤ o.0.at) → ⊥
      by (d, i, o) (inl early) = elim held.1 [
        | inl w ↦ absurd (let a : e.at < d.at = o.after in let b : r.time.from ≤ e.at = w.0 in omega arith)
        | inr c ↦ c.1.1 (d, i, record { of_key = o.of_key; after = o.after; until = omega arith })
      ]
      by (d, i, o) (inr late) =
          s.last (d, In-filter (in_cut r m) m d i ((in_cut_decides r m d).1 (ap (is_key_in r.keys) (sym o.of_key) ∙ held.0, inl (late, ends_earlier r.time.to d.at t o.until time.1))), o)

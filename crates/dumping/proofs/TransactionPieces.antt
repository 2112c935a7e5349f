-- The columns that rows add, place by place.
use Rattle.std.proofs.Common.{◌≡◌, ℕ, ◌+◌, ◌<◌, List, ◌∷◌, ◌++◌, Option, sym, ap, ◌∙◌, subst, drop, length, get_or, add-one}
use Rattle.std.specs.Prelude.{Result, IsErrAnd}
use Rattle.std.specs.Io.KnownBytes.{Appends}
use Rattle.std.proofs.Math.Seq.{drop-cons}
use Rattle.values.specs.Event.{Event}
use Rattle.values.specs.Tables.{Schema}
use Rattle.statement.specs.Writer.{AppendsPrefix, Prints}
use Rattle.statement.proofs.WriterPrefixes.{Left, left_taken, left_front}
use Rattle.dump_steps.specs.Widths.{Widths}
use Rattle.dumping.specs.Change.{widened, widening_text}
use Rattle.dumping.specs.Transaction.{all_widened, widenings_text}
use Rattle.dumping.proofs.DumpTextPieces.{failed}

module _ (tables : Schema) (es : List Event) (places : List ℕ) where
  dropped : (i : ℕ) → i < length places → drop i places ≡ get_or places i 0 ∷ drop (i + 1) places
  dropped i here = rw add-one (drop-cons places i 0 here)

  -- what was written so far, and what the widths are then
  pub record HasWidened (a b : Option (List ℕ)) (old w : Widths) (i : ℕ) : Type 0 where
    pub left : Left a b (widenings_text tables es old places) (widenings_text tables es w (drop i places))
    pub widths : all_widened tables es w (drop i places) ≡ all_widened tables es old places

  one_widening : (w : Widths) (i : ℕ) → i < length places
      → widenings_text tables es w (drop i places) ≡ widening_text tables es w (get_or places i 0) ++ widenings_text tables es (widened tables es w (get_or places i 0)) (drop (i + 1) places)
  one_widening w i here = ap (widenings_text tables es w) (dropped i here)

  pub place_taken : (a b c : Option (List ℕ)) (old w v : Widths) (i : ℕ) → i < length places
      → HasWidened a b old w i → Appends b c (widening_text tables es w (get_or places i 0)) → v ≡ widened tables es w (get_or places i 0) → HasWidened a c old v (i + 1)
  place_taken a b c old w v i here h p is_wider = record {
    left = subst (λ (v : Widths). Left a c (widenings_text tables es old places) (widenings_text tables es v (drop (i + 1) places))) (sym is_wider)
        (left_taken a b c _ (widening_text tables es w (get_or places i 0)) _ (subst (Left a b (widenings_text tables es old places)) (one_widening w i here) h.left) p);
    widths = ap (λ (v : Widths). all_widened tables es v (drop (i + 1) places)) is_wider ∙ sym (ap (all_widened tables es w) (dropped i here)) ∙ h.widths;
  }

  pub place_stopped : {E : Type 0} (P : E → Type 0) (a b c : Option (List ℕ)) (r : Result (Unit {0}) E) (old w : Widths) (i : ℕ) → IsErrAnd r P → i < length places
      → HasWidened a b old w i → AppendsPrefix b c (widening_text tables es w (get_or places i 0)) → Prints a c r (widenings_text tables es old places)
  place_stopped P a b c r old w i e here h f =
      failed P a c r _ e (left_front a b c _ (widening_text tables es w (get_or places i 0)) _ (subst (Left a b (widenings_text tables es old places)) (one_widening w i here) h.left) f)

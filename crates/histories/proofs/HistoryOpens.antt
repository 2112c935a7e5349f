-- A session's open transaction began at the log of the steps before its BEGIN.
use Rattle.std.proofs.Common.{◌≡◌, ap, refl}
use Rattle.std.specs.Prelude.{◌&&◌, Bool, true, false, Option, Some, None, is_none, if◌then◌else◌, [], ◌∷◌}
use Rattle.std.specs.Option.{option_map}
use Rattle.values.specs.Tables.{Schema}
use Rattle.values.specs.Log.{Log}
use Rattle.histories.specs.History.{History, ends, begins, log, log_at_begin}
use Rattle.histories.specs.Law.{before_open, OpensAtItsBegin}

step_same : (e b : Bool) (now : Log) (h : History) (f : History → Log) (o : Option Log) (g : Option History) → f h ≡ now → o ≡ option_map f g
    → ◌≡◌ {A = Option Log} (if e then None else if b && is_none o then Some now else o) (option_map f (if e then None else if b then elim g [ Some g ↦ Some g | None ↦ Some h ] else g))
step_same true b now h f o g is same = refl
step_same false true now h f o (Some x) is same = ap (λ (o : Option Log). if is_none o then Some now else o) same
step_same false true now h f o None is same = cc
step_same false false now h f o g is same = same

pub opens_at_its_begin : (schema : Schema) → OpensAtItsBegin schema
opens_at_its_begin schema [] i = refl
opens_at_its_begin schema (step ∷ h) i = step_same (ends i step) (begins i step) (log schema h) h (log schema) (log_at_begin schema h i) (before_open i h) refl (opens_at_its_begin schema h i)

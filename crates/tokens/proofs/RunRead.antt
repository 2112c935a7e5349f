-- What comes first of bytes that pass a test is a run of them, and a run is read.
use Rattle.std.proofs.Common.{◌≡◌, ℕ, ◌+◌, suc, Bool, true, false, cond, List, [], ◌∷◌, ◌++◌, length, take, drop, refl, ap, sym, ◌∙◌, arith}
use Rattle.std.specs.List.{prefix_len}
use Rattle.std.proofs.lemmas.List.{take-append-drop, take_at, drop_at}
use Rattle.tokens.specs.Run.{AllBytes, Ends, Run}

pub one_more : (n : ℕ) → 1 + n ≡ suc n
one_more n = omega arith

module _ (p : ℕ → Bool) where
  passes_step : (b : ℕ) (bs : List ℕ) (t : Bool) → p b ≡ t → AllBytes p (take (prefix_len p bs) bs) → AllBytes p (take (cond t (1 + prefix_len p bs) 0) (b ∷ bs))
  passes_step b bs true is all = rw (one_more (prefix_len p bs)) (is, all)
  passes_step b bs false is all = tt

  pub front_passes : (bs : List ℕ) → AllBytes p (take (prefix_len p bs) bs)
  front_passes [] = tt
  front_passes (b ∷ bs) = passes_step b bs (p b) refl (front_passes bs)

  ends_step : (b : ℕ) (bs : List ℕ) (t : Bool) → p b ≡ t → Ends p (drop (prefix_len p bs) bs) → Ends p (drop (cond t (1 + prefix_len p bs) 0) (b ∷ bs))
  ends_step b bs true is ends = rw (one_more (prefix_len p bs)) ends
  ends_step b bs false is ends = is

  pub rest_ends : (bs : List ℕ) → Ends p (drop (prefix_len p bs) bs)
  rest_ends [] = tt
  rest_ends (b ∷ bs) = ends_step b bs (p b) refl (rest_ends bs)

  pub run_of : (bs : List ℕ) → Run p (take (prefix_len p bs) bs) bs (drop (prefix_len p bs) bs)
  run_of bs = record { all = front_passes bs; ends = rest_ends bs; spelled = sym (take-append-drop (prefix_len p bs) bs) }

  no_run : (rest : List ℕ) → Ends p rest → prefix_len p rest ≡ 0
  no_run [] ends = refl
  no_run (b ∷ bs) ends = ap (λ t. cond t (1 + prefix_len p bs) 0) ends

  pub run_length : (run rest : List ℕ) → AllBytes p run → Ends p rest → prefix_len p (run ++ rest) ≡ length run
  run_length [] rest all ends = no_run rest ends
  run_length (b ∷ bs) rest all ends = ap (λ t. cond t (1 + prefix_len p (bs ++ rest)) 0) all.0 ∙ ap (λ n. 1 + n) (run_length bs rest all.1 ends) ∙ one_more (length bs)

  pub length_of : {run bytes rest : List ℕ} → Run p run bytes rest → prefix_len p bytes ≡ length run
  length_of {run} {bytes} {rest} r = ap (prefix_len p) r.spelled ∙ run_length run rest r.all r.ends

  pub run_taken : {run bytes rest : List ℕ} → Run p run bytes rest → take (prefix_len p bytes) bytes ≡ run
  run_taken {run} {bytes} {rest} r = ap (λ (n : ℕ). take n bytes) (length_of r) ∙ ap (take (length run)) r.spelled ∙ take_at run rest (length run) refl

  pub run_left : {run bytes rest : List ℕ} → Run p run bytes rest → drop (prefix_len p bytes) bytes ≡ rest
  run_left {run} {bytes} {rest} r = ap (λ (n : ℕ). drop n bytes) (length_of r) ∙ ap (drop (length run)) r.spelled ∙ drop_at run rest (length run) refl

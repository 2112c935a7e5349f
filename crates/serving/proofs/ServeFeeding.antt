-- The bytes of a served session, line by line.
use Rattle.std.proofs.Common.{◌≡◌, ◌≢◌, ℕ, List, [], ◌∷◌, ◌++◌, ◌+◌, ◌<◌, ◌≤◌, Bool, true, false, Option, Some, length, take, drop, take-append-drop, append_assoc, append-nil, inl, inr, refl, sym, ap, ◌∙◌, subst, arith}
use Rattle.std.specs.Prelude.{◌==◌, Result, Ok, Err, OnOk, OnErr, if◌then◌else◌}
use Rattle.std.specs.List.{prefix_len}
use Rattle.std.proofs.lemmas.Bool.Decides.{nat_tests}
use Rattle.std.proofs.lemmas.List.{take_more}
use Rattle.std.specs.Io.KnownBytes.{Consumes, Keeps, IsAtEnd}
use Rattle.std.proofs.KnownBytes.{Consumes-nil, Consumes-trans, Consumes-kept}
use Rattle.lines.specs.Partial.{Partial, add_all, ended, has_byte, is_no_feed}
use Rattle.lines.specs.Lines.{EndsLines, lines_from, lines_of}
use Rattle.lines.proofs.LineBufferAdding.{all_before, feed_behind}
use Rattle.lines.proofs.LinesEnding.{ends_none, ends_line, ends_join, ends_nothing}
use Rattle.sessions.specs.SessionState.{SessionState}
use Rattle.serving.specs.Account.{AccountState, Writes, IsBroken, Feeds, Breaks}
use Rattle.serving.specs.Ends.{Ends, EndsInPart}
use Rattle.serving.proofs.ServeJoining.{writes_none, writes_join, writes_kept, all_front, front_join, left_front}

whole_line : (bytes : List ℕ) (n : ℕ) → n ≡ prefix_len is_no_feed bytes → n < length bytes → take n bytes ++ 10 ∷ [] ≡ take (n + 1) bytes
whole_line bytes n is less = sym (take_more bytes n 0 less ∙ ap (λ c. take n bytes ++ c ∷ []) (feed_behind bytes n is less))

pub less_than : (n m : ℕ) → n ≤ m → n ≢ m → n < m
less_than n m within other = grind (arith, nat_tests)

is_zero : (n : ℕ) → (n == 0) ≡ true → n ≡ 0
is_zero n e = grind (arith, nat_tests)

empty_list : (xs : List ℕ) → length xs ≡ 0 → xs ≡ []
empty_list [] e = refl
empty_list (x ∷ xs) e = absurd (omega (arith, e))

pub feeds_flushed : {E A : Type 0} (r : Result (Unit {0}) E) → A → OnOk r A
feeds_flushed (Ok x) f = f
feeds_flushed (Err e) f = tt

text_whole : (r s t : Option (List ℕ)) (text : List ℕ) → Consumes r s text → Consumes s t [] → Consumes r t text
text_whole r s t text f g = subst (Consumes r t) (append-nil text) (Consumes-trans r s t text [] f g)

lines_whole : (text : List ℕ) (m : Partial) (done : List Partial) → EndsLines (Some []) text done m → lines_of text ≡ done ++ lines_from m []
lines_whole text m done f = ap lines_of (sym (append-nil text)) ∙ f []

module _ (may_give : ℕ → Bool) where
  pub feeds_none : (line : Partial) (s : SessionState) (a : AccountState) (w : Option (List ℕ)) → Feeds may_give line line [] s s a a w w
  feeds_none line s a w = record { lines = []; ends = ends_none line; writes = writes_none may_give s a w }

  pub feeds_join : (l m n : Partial) (xs ys : List ℕ) (old mid new : SessionState) (a b c : AccountState) (w v u : Option (List ℕ)) → Feeds may_give l m xs old mid a b w v → Feeds may_give m n ys mid new b c v u → Feeds may_give l n (xs ++ ys) old new a c w u
  feeds_join l m n xs ys old mid new a b c w v u f s = record {
    lines = f.lines ++ s.lines;
    ends = ends_join l m n xs ys f.lines s.lines f.ends s.ends;
    writes = writes_join may_give f.lines s.lines old mid new a b c w v u f.writes s.writes;
  }

  pub feeds_kept : (l n : Partial) (xs : List ℕ) (old new : SessionState) (a b : AccountState) (w v u : Option (List ℕ)) → Feeds may_give l n xs old new a b w v → Keeps v u → Feeds may_give l n xs old new a b w u
  feeds_kept l n xs old new a b w v u f kept = record { lines = f.lines; ends = f.ends; writes = writes_kept may_give f.lines old new a b w v u f.writes kept }

  -- the bytes before a line feed
  pub feeds_piece : (l m : Partial) (bytes piece : List ℕ) (n : ℕ) (s : SessionState) (a : AccountState) (w : Option (List ℕ)) → n ≡ prefix_len is_no_feed bytes → n ≤ length bytes → piece ≡ take n bytes → m ≡ add_all l piece
      → Feeds may_give l m (take n bytes) s s a a w w
  feeds_piece l m bytes piece n s a w is within front line = record {
    lines = [];
    ends = subst (EndsLines l (take n bytes) []) (sym (line ∙ ap (add_all l) front)) (ends_nothing l (take n bytes) (all_before bytes n is within));
    writes = writes_none may_give s a w;
  }

  feeds_feed : (m : Partial) (old new : SessionState) (a b : AccountState) (w v : Option (List ℕ)) → Writes may_give (ended m ∷ []) old new a b w v → Feeds may_give m (Some []) (10 ∷ []) old new a b w v
  feeds_feed m old new a b w v f = record { lines = ended m ∷ []; ends = ends_line m 10 refl; writes = f }

  -- and the line feed
  pub feeds_line : (l m e next : Partial) (bytes : List ℕ) (n : ℕ) (old new : SessionState) (a b : AccountState) (w v : Option (List ℕ)) → n ≡ prefix_len is_no_feed bytes → n < length bytes → Feeds may_give l m (take n bytes) old old a a w w
      → e ≡ ended m → next ≡ Some [] → Writes may_give (e ∷ []) old new a b w v → Feeds may_give l next (take (n + 1) bytes) old new a b w v
  feeds_line l m e next bytes n old new a b w v is less first ends empty f =
      subst (λ x. Feeds may_give l x (take (n + 1) bytes) old new a b w v) (sym empty)
      (subst (λ x. Feeds may_give l (Some []) x old new a b w v) (whole_line bytes n is less)
      (feeds_join l m (Some []) (take n bytes) (10 ∷ []) old old new a a b w w v first (feeds_feed m old new a b w v (subst (λ x. Writes may_give (x ∷ []) old new a b w v) ends f))))

  -- ---- the end in the midst of bytes

  pub breaks_after : (l m : Partial) (xs ys : List ℕ) (old mid new : SessionState) (a b c : AccountState) (w v u : Option (List ℕ)) → Feeds may_give l m xs old mid a b w v → Breaks may_give m ys mid new b c v u → Breaks may_give l (xs ++ ys) old new a c w u
  breaks_after l m xs ys old mid new a b c w v u f s = record {
    lines = f.lines ++ s.lines;
    go_on = λ rest. let g = s.go_on rest in (
      g.0,
      ap (lines_from l) (append_assoc xs ys rest) ∙ f.ends (ys ++ rest) ∙ ap (λ k. f.lines ++ k) g.1 ∙ sym (append_assoc f.lines s.lines g.0),
    );
    writes = front_join may_give f.lines s.lines old mid new a b c w v u f.writes s.writes;
  }

  breaks_more : (l : Partial) (xs ys : List ℕ) (old new : SessionState) (a b : AccountState) (w v : Option (List ℕ)) → Breaks may_give l xs old new a b w v → Breaks may_give l (xs ++ ys) old new a b w v
  breaks_more l xs ys old new a b w v s = record {
    lines = s.lines;
    go_on = λ rest. let g = s.go_on (ys ++ rest) in (g.0, ap (lines_from l) (append_assoc xs ys rest) ∙ g.1);
    writes = s.writes;
  }

  -- all that was served is a part of what goes on
  pub fed_breaks : (l m : Partial) (xs : List ℕ) (old new : SessionState) (a b : AccountState) (w v : Option (List ℕ)) → Feeds may_give l m xs old new a b w v → Breaks may_give l xs old new a b w v
  fed_breaks l m xs old new a b w v f = record { lines = f.lines; go_on = λ rest. (lines_from m rest, f.ends rest); writes = all_front may_give f.lines old new a b w v f.writes }

  broken_feed : (m : Partial) (old new : SessionState) (a b : AccountState) (w v : Option (List ℕ)) → IsBroken may_give (ended m ∷ []) old new a b w v → Breaks may_give m (10 ∷ []) old new a b w v
  broken_feed m old new a b w v (inl f) = record { lines = ended m ∷ []; go_on = λ rest. (lines_from (Some []) rest, refl); writes = f }
  broken_feed m old new a b w v (inr f) = record { lines = []; go_on = λ rest. (lines_from m ((10 ∷ []) ++ rest), refl); writes = left_front may_give old new a b w v f }

  pub breaks_line : (l m e : Partial) (bytes : List ℕ) (n : ℕ) (old new : SessionState) (a b : AccountState) (w v : Option (List ℕ)) → n ≡ prefix_len is_no_feed bytes → n < length bytes → Feeds may_give l m (take n bytes) old old a a w w → e ≡ ended m
      → IsBroken may_give (e ∷ []) old new a b w v → Breaks may_give l bytes old new a b w v
  breaks_line l m e bytes n old new a b w v is less first ends f =
      subst (λ x. Breaks may_give l x old new a b w v) (ap (λ k. k ++ drop (n + 1) bytes) (whole_line bytes n is less) ∙ take-append-drop (n + 1) bytes)
      (breaks_more l (take n bytes ++ 10 ∷ []) (drop (n + 1) bytes) old new a b w v
      (breaks_after l m (take n bytes) (10 ∷ []) old old new a a b w w v first (broken_feed m old new a b w v (subst (λ x. IsBroken may_give (x ∷ []) old new a b w v) ends f))))

  -- ---- a loop over bytes

  pub record Some_fed (l m : Partial) (bytes rest : List ℕ) (old new : SessionState) (a b : AccountState) (w v : Option (List ℕ)) : Type 0 where
    pub done : List ℕ
    pub is : bytes ≡ done ++ rest
    pub fed : Feeds may_give l m done old new a b w v

  pub some_none : (l : Partial) (bytes : List ℕ) (s : SessionState) (a : AccountState) (w : Option (List ℕ)) → Some_fed l l bytes bytes s s a a w w
  some_none l bytes s a w = record { done = []; is = refl; fed = feeds_none l s a w }

  pub some_more : (l m k : Partial) (bytes rest : List ℕ) (n : ℕ) (old mid new : SessionState) (a b c : AccountState) (w v u : Option (List ℕ)) → Some_fed l m bytes rest old mid a b w v → Feeds may_give m k (take n rest) mid new b c v u
      → Some_fed l k bytes (drop n rest) old new a c w u
  some_more l m k bytes rest n old mid new a b c w v u so f = record {
    done = so.done ++ take n rest;
    is = so.is ∙ ap (λ x. so.done ++ x) (sym (take-append-drop n rest)) ∙ sym (append_assoc so.done (take n rest) (drop n rest));
    fed = feeds_join l m k so.done (take n rest) old mid new a b c w v u so.fed f;
  }

  pub some_broken : (l m : Partial) (bytes rest : List ℕ) (old mid new : SessionState) (a b c : AccountState) (w v u : Option (List ℕ)) → Some_fed l m bytes rest old mid a b w v → Breaks may_give m rest mid new b c v u → Breaks may_give l bytes old new a c w u
  some_broken l m bytes rest old mid new a b c w v u so f = subst (λ x. Breaks may_give l x old new a c w u) (sym so.is) (breaks_after l m so.done rest old mid new a b c w v u so.fed f)

  pub some_all : (l m : Partial) (bytes rest : List ℕ) (old new : SessionState) (a b : AccountState) (w v u : Option (List ℕ)) → Some_fed l m bytes rest old new a b w v → (length rest == 0) ≡ true → Keeps v u → Feeds may_give l m bytes old new a b w u
  some_all l m bytes rest old new a b w v u so none kept =
      subst (λ x. Feeds may_give l m x old new a b w u) (sym (so.is ∙ ap (λ x. so.done ++ x) (empty_list rest (is_zero (length rest) none)) ∙ append-nil so.done)) (feeds_kept l m so.done old new a b w v u so.fed kept)

  pub feeds_stuck : {E : Type 0} (r : Result (Unit {0}) E) (l m : Partial) (bytes : List ℕ) (old new : SessionState) (a b : AccountState) (w v : Option (List ℕ)) → Feeds may_give l m bytes old new a b w v → OnErr r (Breaks may_give l bytes old new a b w v)
  feeds_stuck (Ok x) l m bytes old new a b w v f = tt
  feeds_stuck (Err e) l m bytes old new a b w v f = fed_breaks l m bytes old new a b w v f

  -- ---- a run over a reader

  pub record Going (r s : Option (List ℕ)) (m : Partial) (old new : SessionState) (a b : AccountState) (w v : Option (List ℕ)) : Type 0 where
    pub text : List ℕ
    pub took : Consumes r s text
    pub fed : Feeds may_give (Some []) m text old new a b w v

  pub going_none : (r : Option (List ℕ)) (m : Partial) (s : SessionState) (a : AccountState) (w : Option (List ℕ)) → m ≡ Some [] → Going r r m s s a a w w
  going_none r m s a w is = subst (λ x. Going r r x s s a a w w) (sym is) (record { text = []; took = Consumes-nil r; fed = feeds_none (Some []) s a w })

  pub going_more : (r s t : Option (List ℕ)) (m k : Partial) (bytes : List ℕ) (old mid new : SessionState) (a b c : AccountState) (w v u : Option (List ℕ)) → Going r s m old mid a b w v → Consumes s t bytes → Feeds may_give m k bytes mid new b c v u
      → Going r t k old new a c w u
  going_more r s t m k bytes old mid new a b c w v u so took f = record { text = so.text ++ bytes; took = Consumes-trans r s t so.text bytes so.took took; fed = feeds_join (Some []) m k so.text bytes old mid new a b c w v u so.fed f }

  in_part : (r t : Option (List ℕ)) (text : List ℕ) (old new : SessionState) (a b : AccountState) (w v : Option (List ℕ)) → Consumes r t text → Breaks may_give (Some []) text old new a b w v → EndsInPart may_give old new a b r t w v
  in_part r t text old new a b w v took f =
      let g = f.go_on [] in
      record { text = text; took = took; lines = f.lines; rest = g.0; are_first = ap lines_of (sym (append-nil text)) ∙ g.1; writes = f.writes }

  pub going_cut : (r s t : Option (List ℕ)) (m : Partial) (old new : SessionState) (a b : AccountState) (w v : Option (List ℕ)) → Going r s m old new a b w v → Keeps s t → EndsInPart may_give old new a b r t w v
  going_cut r s t m old new a b w v so kept = in_part r t so.text old new a b w v (Consumes-kept r s t so.text so.took kept) (fed_breaks (Some []) m so.text old new a b w v so.fed)

  pub going_broken : (r s t : Option (List ℕ)) (m : Partial) (bytes : List ℕ) (old mid new : SessionState) (a b c : AccountState) (w v u : Option (List ℕ)) → Going r s m old mid a b w v → Consumes s t bytes → Breaks may_give m bytes mid new b c v u
      → EndsInPart may_give old new a c r t w u
  going_broken r s t m bytes old mid new a b c w v u so took f = in_part r t (so.text ++ bytes) old new a c w u (Consumes-trans r s t so.text bytes so.took took) (breaks_after (Some []) m so.text bytes old mid new a b c w v u so.fed f)

  pub going_done : (r s t : Option (List ℕ)) (m : Partial) (old mid new : SessionState) (a b c : AccountState) (w v u : Option (List ℕ)) → Going r s m old mid a b w v → Consumes s t [] → IsAtEnd t → Writes may_give (lines_from m []) mid new b c v u → Ends may_give old new a c r t w u
  going_done r s t m old mid new a b c w v u so took there f = record {
    text = so.text;
    took = text_whole r s t so.text so.took took;
    ended_there = there;
    writes = subst (λ x. Writes may_give x old new a c w u) (sym (lines_whole so.text m so.fed.lines so.fed.ends)) (writes_join may_give so.fed.lines (lines_from m []) old mid new a b c w v u so.fed.writes f);
  }

  pub going_unfinished : (r s t : Option (List ℕ)) (m : Partial) (old mid new : SessionState) (a b c : AccountState) (w v u : Option (List ℕ)) → Going r s m old mid a b w v → Consumes s t [] → IsBroken may_give (lines_from m []) mid new b c v u
      → EndsInPart may_give old new a c r t w u
  going_unfinished r s t m old mid new a b c w v u so took (inl f) = record {
    text = so.text;
    took = text_whole r s t so.text so.took took;
    lines = so.fed.lines ++ lines_from m [];
    rest = [];
    are_first = lines_whole so.text m so.fed.lines so.fed.ends ∙ sym (append-nil (so.fed.lines ++ lines_from m []));
    writes = front_join may_give so.fed.lines (lines_from m []) old mid new a b c w v u so.fed.writes f;
  }
  going_unfinished r s t m old mid new a b c w v u so took (inr f) = record {
    text = so.text;
    took = text_whole r s t so.text so.took took;
    lines = so.fed.lines ++ [];
    rest = lines_from m [];
    are_first = lines_whole so.text m so.fed.lines so.fed.ends ∙ ap (λ x. x ++ lines_from m []) (sym (append-nil so.fed.lines));
    writes = front_join may_give so.fed.lines [] old mid new a b c w v u so.fed.writes (left_front may_give mid new b c v u f);
  }

  -- ---- a last line

  pub last_none : (m : Partial) (s : SessionState) (a : AccountState) (w : Option (List ℕ)) → has_byte m ≡ false → Writes may_give (lines_from m []) s s a a w w
  last_none m s a w e = subst (λ x. Writes may_give (if x then m ∷ [] else []) s s a a w w) (sym e) (writes_none may_give s a w)

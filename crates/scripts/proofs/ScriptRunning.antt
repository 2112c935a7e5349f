-- The bytes of a script, line by line, and its end.
use Rattle.std.proofs.Common.{◌≡◌, ◌≢◌, ℕ, List, [], ◌∷◌, ◌++◌, ◌+◌, ◌<◌, ◌≤◌, Bool, true, Option, Some, None, length, take, drop, take-append-drop, append_assoc, append-nil, sym, ◌∙◌, ap, subst, refl, arith}
use Rattle.std.specs.Prelude.{Result, Ok, Err, OnOk, OnErr, ◌==◌}
use Rattle.std.proofs.lemmas.Bool.Decides.{nat_tests}
use Rattle.std.specs.List.{All, prefix_len}
use Rattle.std.proofs.lemmas.List.{take_more}
use Rattle.std.specs.Io.KnownBytes.{Appends, Consumes, Keeps, IsAtEnd}
use Rattle.values.specs.Tables.{Schema}
use Rattle.histories.specs.History.{History}
use Rattle.statement.specs.Line.{line_says}
use Rattle.statement.specs.Writer.{AppendsPrefix}
use Rattle.scripts.specs.Taking.{Feeds, Breaks}
use Rattle.lines.specs.Partial.{Partial, add_all, ended, has_byte, is_no_feed}
use Rattle.scripts.specs.Transcript.{Progress, Reading, after, line_reply, line_leaves, last_reply, last_leaves, IsRunAfter, IsCutAfter, IsStoppedAfter}
use Rattle.scripts.proofs.ScriptFeeding.{Taken, feeds_none, feeds_all, feeds_end, breaks_end, feeds_join, breaks_join, feeds_flushed, breaks_flushed, taken_none, taken_more, cut_between, stopped_inside, stopped_at_end, done_all, done_left}
use Rattle.scripts.specs.declared.script.Script.{Script}
use Rattle.interleaving.specs.SystemState.{Stands}
use Rattle.scripts.specs.Script.{IsAt, SameRun, Answered, Broken, Fed, Finished, Unfinished, AnswersLine, BreaksLine, TakesBytes, BreaksBytes, EndsScript, BreaksEnd}
use Rattle.lines.proofs.LineBufferAdding.{all_before, feed_behind}
use Rattle.scripts.proofs.ScriptAnswered.{at_same, flushed_answered, flushed_broken}

pub bytes_fed : (a : Option (List ℕ)) (s s' : Script) (schema : Schema) (p : Progress) (bytes : List ℕ) → s'.line ≡ add_all s.line bytes → SameRun s s' → All (λ b. b ≢ 10) bytes → IsAt s schema p → Fed a a s s' schema p bytes
bytes_fed a s s' schema p bytes line same others at = record {
  later = p;
  left = at_same s s' schema p same at;
  fed = subst (λ l. Feeds schema line_says a a p s.line p l bytes) (sym line) (feeds_all schema line_says a p s.line bytes others);
}

pub end_fed : (a b : Option (List ℕ)) (s m s' : Script) (schema : Schema) (p : Progress) (byte : ℕ) → m.line ≡ ended s.line → Answered a b s' schema p m.line → s'.line ≡ Some [] → byte ≡ 10 → Fed a b s s' schema p (byte ∷ [])
end_fed a b s m s' schema p byte line did empty is =
    let done : Answered a b s' schema p (ended s.line) = subst (Answered a b s' schema p) line did in
    record {
      later = line_leaves schema line_says done.mark p (ended s.line);
      left = done.left;
      fed = subst (λ l. Feeds schema line_says a b p s.line (line_leaves schema line_says done.mark p (ended s.line)) l (byte ∷ [])) (sym empty)
          (feeds_end schema line_says a b done.mark p byte s.line done.wrote is);
    }

pub end_broken : (a b : Option (List ℕ)) (s m : Script) (schema : Schema) (p : Progress) (byte : ℕ) → m.line ≡ ended s.line → Broken a b schema p m.line → byte ≡ 10 → Breaks schema line_says a b p s.line (byte ∷ [])
end_broken a b s m schema p byte line did is =
    let done : Broken a b schema p (ended s.line) = subst (Broken a b schema p) line did in
    breaks_end schema line_says a b done.mark p byte s.line done.wrote is

-- ---- more bytes

pub fed_none : (a : Option (List ℕ)) (s : Script) (schema : Schema) (p : Progress) → IsAt s schema p → Fed a a s s schema p []
fed_none a s schema p at = record { later = p; left = at; fed = feeds_none schema line_says a p s.line }

pub fed_join : (a b c : Option (List ℕ)) (s s' s'' : Script) (schema : Schema) (p : Progress) (xs ys : List ℕ) → Fed a b s s' schema p xs → ((q : Progress) → IsAt s' schema q → Fed b c s' s'' schema q ys) → Fed a c s s'' schema p (xs ++ ys)
fed_join a b c s s' s'' schema p xs ys f g =
    let then_fed = g f.later f.left in
    record { later = then_fed.later; left = then_fed.left; fed = feeds_join schema line_says a b c p f.later then_fed.later s.line s'.line s''.line xs ys f.fed then_fed.fed }

pub fed_broken : (a b c : Option (List ℕ)) (s s' : Script) (schema : Schema) (p : Progress) (xs ys zs : List ℕ) → Fed a b s s' schema p xs → ((q : Progress) → IsAt s' schema q → Breaks schema line_says b c q s'.line ys) → Breaks schema line_says a c p s.line ((xs ++ ys) ++ zs)
fed_broken a b c s s' schema p xs ys zs f g = breaks_join schema line_says a b c p f.later s.line s'.line xs ys zs f.fed (g f.later f.left)

-- ---- the end

last_is : (schema : Schema) (read : Reading) (out : Bool) (p : Progress) (line : Partial) → has_byte line ≡ true → last_reply schema read out p line ≡ line_reply schema read out p line
last_is schema read out p None e = refl
last_is schema read out p (Some []) e = cc
last_is schema read out p (Some (b ∷ bytes)) e = refl

last_left : (schema : Schema) (read : Reading) (out : Bool) (p : Progress) (line : Partial) → has_byte line ≡ true → last_leaves schema read out p line ≡ line_leaves schema read out p line
last_left schema read out p None e = refl
last_left schema read out p (Some []) e = cc
last_left schema read out p (Some (b ∷ bytes)) e = refl

pub last_finished : (a b : Option (List ℕ)) (s s' : Script) (schema : Schema) (p : Progress) → has_byte s.line ≡ true → Answered a b s' schema p s.line → Finished a b s s' schema p
last_finished a b s s' schema p e did = record {
  mark = did.mark;
  wrote = subst (Appends a b) (sym (last_is schema line_says did.mark p s.line e)) did.wrote;
  left = subst (IsAt s' schema) (sym (last_left schema line_says did.mark p s.line e)) did.left;
}

pub last_unfinished : (a b : Option (List ℕ)) (s : Script) (schema : Schema) (p : Progress) → has_byte s.line ≡ true → Broken a b schema p s.line → Unfinished a b s schema p
last_unfinished a b s schema p e did = record { mark = did.mark; wrote = subst (AppendsPrefix a b) (sym (last_is schema line_says did.mark p s.line e)) did.wrote }

-- ---- the same of what a call returned

pub finish_ok : {E : Type 0} (a b c : Option (List ℕ)) (r : Result (Unit {0}) E) (s s' : Script) → has_byte s.line ≡ true → AnswersLine a b s s' → Keeps b c → OnOk r (EndsScript a c s s')
finish_ok a b c (Ok x) s s' e did kept = λ schema p at. last_finished a c s s' schema p e (flushed_answered a b c s' schema p s.line (did schema p at) kept)
finish_ok a b c (Err x) s s' e did kept = tt

pub finish_stuck : {E : Type 0} (a b c : Option (List ℕ)) (r : Result (Unit {0}) E) (s s' : Script) → has_byte s.line ≡ true → AnswersLine a b s s' → Keeps b c → OnErr r (BreaksEnd a c s)
finish_stuck a b c (Ok x) s s' e did kept = tt
finish_stuck a b c (Err x) s s' e did kept = λ schema p at. last_unfinished a c s schema p e (flushed_broken a b c s' schema p s.line (did schema p at) kept)

pub finish_err : (a b : Option (List ℕ)) (s : Script) → has_byte s.line ≡ true → BreaksLine a b s → BreaksEnd a b s
finish_err a b s e did = λ schema p at. last_unfinished a b s schema p e (did schema p at)

pub end_ok : {E : Type 0} (a b : Option (List ℕ)) (r : Result (Unit {0}) E) (s m s' : Script) (byte : ℕ) → m.line ≡ ended s.line → SameRun s m → byte ≡ 10
    → OnOk r ((schema : Schema) (p : Progress) → IsAt m schema p → Answered a b s' schema p m.line) → OnOk r (s'.line ≡ Some [])
    → OnOk r ((schema : Schema) (p : Progress) → IsAt s schema p → Fed a b s s' schema p (byte ∷ []))
end_ok a b (Ok x) s m s' byte line same is did empty = λ schema p at. end_fed a b s m s' schema p byte line (did schema p (at_same s m schema p same at)) empty is
end_ok a b (Err x) s m s' byte line same is did empty = tt

pub end_err : {E : Type 0} (a b : Option (List ℕ)) (r : Result (Unit {0}) E) (s m : Script) (byte : ℕ) → m.line ≡ ended s.line → SameRun s m → byte ≡ 10
    → OnErr r ((schema : Schema) (p : Progress) → IsAt m schema p → Broken a b schema p m.line)
    → OnErr r ((schema : Schema) (p : Progress) → IsAt s schema p → Breaks schema line_says a b p s.line (byte ∷ []))
end_err a b (Ok x) s m byte line same is did = tt
end_err a b (Err x) s m byte line same is did = λ schema p at. end_broken a b s m schema p byte line (did schema p (at_same s m schema p same at)) is

-- ---- a line at a time

-- the bytes before a line feed
pub piece_taken : (a : Option (List ℕ)) (s s' : Script) (bytes piece : List ℕ) (n : ℕ) → n ≡ prefix_len is_no_feed bytes → n ≤ length bytes → piece ≡ take n bytes
    → s'.line ≡ add_all s.line piece → SameRun s s' → TakesBytes a a s s' (take n bytes)
piece_taken a s s' bytes piece n is within front line same = λ schema p at. bytes_fed a s s' schema p (take n bytes) (line ∙ ap (λ l. add_all s.line l) front) same (all_before bytes n is within) at

pub on_ok : {E : Type 0} {A B : Type 0} (r : Result (Unit {0}) E) → (A → B) → OnOk r A → OnOk r B
on_ok (Ok x) f a = f a
on_ok (Err x) f a = tt

pub stops_before : (n m : ℕ) → n ≤ m → n ≢ m → n < m
stops_before n m within other = grind (arith, nat_tests)

pub is_none_left : (n : ℕ) → (n == 0) ≡ true → n ≡ 0
is_none_left n e = grind (arith, nat_tests)

-- and the line feed
pub line_fed : (a b : Option (List ℕ)) (s m s' : Script) (bytes : List ℕ) (n : ℕ) → n ≡ prefix_len is_no_feed bytes → n < length bytes
    → TakesBytes a a s m (take n bytes) → TakesBytes a b m s' (10 ∷ []) → TakesBytes a b s s' (take (n + 1) bytes)
line_fed a b s m s' bytes n is less first feed = λ schema p at.
    subst (Fed a b s s' schema p) (sym (take_more bytes n 0 less ∙ ap (λ c. take n bytes ++ c ∷ []) (feed_behind bytes n is less)))
    (fed_join a a b s m s' schema p (take n bytes) (10 ∷ []) (first schema p at) (λ q at'. feed schema q at'))

pub line_broken : (a b : Option (List ℕ)) (s m : Script) (bytes : List ℕ) (n : ℕ) → n ≡ prefix_len is_no_feed bytes → n < length bytes
    → TakesBytes a a s m (take n bytes) → BreaksBytes a b m (10 ∷ []) → BreaksBytes a b s bytes
line_broken a b s m bytes n is less first feed = λ schema p at.
    subst (Breaks schema line_says a b p s.line)
    (ap (λ l. l ++ drop (n + 1) bytes) (sym (take_more bytes n 0 less ∙ ap (λ c. take n bytes ++ c ∷ []) (feed_behind bytes n is less))) ∙ take-append-drop (n + 1) bytes)
    (fed_broken a a b s m schema p (take n bytes) (10 ∷ []) (drop (n + 1) bytes) (first schema p at) (λ q at'. feed schema q at'))

-- some of these bytes were taken, and this rest is left
pub record TakesSome (a b : Option (List ℕ)) (s s' : Script) (bytes rest : List ℕ) : Type 0 where
  pub done : List ℕ
  pub is : bytes ≡ done ++ rest
  pub took : TakesBytes a b s s' done

pub some_none : (a : Option (List ℕ)) (s : Script) (bytes : List ℕ) → TakesSome a a s s bytes bytes
some_none a s bytes = record { done = []; is = refl; took = λ schema p at. fed_none a s schema p at }

pub some_more : (a b c : Option (List ℕ)) (s m s' : Script) (bytes rest : List ℕ) (n : ℕ) → TakesSome a b s m bytes rest → TakesBytes b c m s' (take n rest) → TakesSome a c s s' bytes (drop n rest)
some_more a b c s m s' bytes rest n so took = record {
  done = so.done ++ take n rest;
  is = so.is ∙ ap (λ l. so.done ++ l) (sym (take-append-drop n rest)) ∙ sym (append_assoc so.done (take n rest) (drop n rest));
  took = λ schema p at. fed_join a b c s m s' schema p so.done (take n rest) (so.took schema p at) (λ q at'. took schema q at');
}

pub some_broken : (a b c : Option (List ℕ)) (s m : Script) (bytes rest : List ℕ) → TakesSome a b s m bytes rest → BreaksBytes b c m rest → BreaksBytes a c s bytes
some_broken a b c s m bytes rest so broken = λ schema p at.
    subst (Breaks schema line_says a c p s.line) (append-nil (so.done ++ rest) ∙ sym so.is)
    (fed_broken a b c s m schema p so.done rest [] (so.took schema p at) (λ q at'. broken schema q at'))

some_all : (a b : Option (List ℕ)) (s s' : Script) (bytes rest : List ℕ) → TakesSome a b s s' bytes rest → length rest ≡ 0 → TakesBytes a b s s' bytes
some_all a b s s' bytes [] so empty = λ schema p at. subst (Fed a b s s' schema p) (sym (so.is ∙ append-nil so.done)) (so.took schema p at)
some_all a b s s' bytes (c ∷ rest) so empty = absurd (omega (arith, empty))

-- all were taken, and the replies flushed
pub all_flushed : {E : Type 0} (a b c : Option (List ℕ)) (r : Result (Unit {0}) E) (s s' : Script) (bytes rest : List ℕ) → TakesSome a b s s' bytes rest → (length rest == 0) ≡ true → Keeps b c
    → OnOk r (TakesBytes a c s s' bytes)
all_flushed a b c (Ok x) s s' bytes rest so empty kept = λ schema p at.
    let did = some_all a b s s' bytes rest so (is_none_left (length rest) empty) schema p at in
    record { later = did.later; left = did.left; fed = feeds_flushed schema line_says a b c p did.later s.line s'.line bytes did.fed kept }
all_flushed a b c (Err x) s s' bytes rest so empty kept = tt

-- or could not be flushed
pub all_stuck : {E : Type 0} (a b c : Option (List ℕ)) (r : Result (Unit {0}) E) (s s' : Script) (bytes rest : List ℕ) → TakesSome a b s s' bytes rest → (length rest == 0) ≡ true → Keeps b c
    → OnErr r (BreaksBytes a c s bytes)
all_stuck a b c (Ok x) s s' bytes rest so empty kept = tt
all_stuck a b c (Err x) s s' bytes rest so empty kept = λ schema p at.
    let did = some_all a b s s' bytes rest so (is_none_left (length rest) empty) schema p at in
    breaks_flushed schema line_says a b c p did.later s.line s'.line bytes did.fed kept

-- ---- a run over a reader and a writer

-- some bytes were read and answered, and the run is as far as that
pub record Going (unread left old new : Option (List ℕ)) (s : Script) (schema : Schema) (first : History) : Type 0 where
  pub progress : Progress
  pub at : IsAt s schema progress
  pub taken : Taken schema line_says first unread left old new progress s.line

pub going_none : (r w : Option (List ℕ)) (s : Script) (schema : Schema) (first : History) → IsAt s schema (after first) → s.line ≡ Some [] → Going r r w w s schema first
going_none r w s schema first at line = record { progress = after first; at = at; taken = taken_none schema line_says first r w s.line line }

pub going_more : (r s t a b c : Option (List ℕ)) (x y : Script) (schema : Schema) (first : History) (bytes : List ℕ) → Going r s a b x schema first → Consumes s t bytes
    → ((schema : Schema) (p : Progress) → IsAt x schema p → Fed b c x y schema p bytes) → Going r t a c y schema first
going_more r s t a b c x y schema first bytes so took fed =
    let did = fed schema so.progress so.at in
    record { progress = did.later; at = did.left; taken = taken_more schema line_says first r s t a b c so.progress did.later x.line y.line bytes so.taken took did.fed }

pub going_cut : (r s t a b : Option (List ℕ)) (x : Script) (schema : Schema) (first : History) → Going r s a b x schema first → Keeps s t → IsCutAfter schema line_says first r t a b
going_cut r s t a b x schema first so kept = cut_between schema line_says first r s t a b so.progress x.line so.taken kept

pub going_broken : (r s t a b c : Option (List ℕ)) (x : Script) (schema : Schema) (first : History) (bytes : List ℕ) → Going r s a b x schema first → Consumes s t bytes
    → ((schema : Schema) (p : Progress) → IsAt x schema p → Breaks schema line_says b c p x.line bytes) → IsStoppedAfter schema line_says first r t a c
going_broken r s t a b c x schema first bytes so took broken = stopped_inside schema line_says first r s t a b c so.progress x.line bytes so.taken took (broken schema so.progress so.at)

pub going_done : (r s t a b c : Option (List ℕ)) (x y : Script) (schema : Schema) (first : History) → Going r s a b x schema first → Consumes s t [] → IsAtEnd t
    → EndsScript b c x y → IsRunAfter schema line_says first y.system r t a c
going_done r s t a b c x y schema first so took end finished =
    let did = finished schema so.progress so.at in
    record {
      ran = done_all schema line_says first r s t a b c so.progress x.line did.mark so.taken took end did.wrote;
      stands = subst (λ p. Stands schema y.system p.history) (sym (done_left schema line_says first r s t a b c so.progress x.line did.mark so.taken took end did.wrote)) did.left.stands;
    }

pub going_unfinished : (r s t a b c : Option (List ℕ)) (x : Script) (schema : Schema) (first : History) → Going r s a b x schema first → Consumes s t []
    → ((schema : Schema) (p : Progress) → IsAt x schema p → Unfinished b c x schema p) → IsStoppedAfter schema line_says first r t a c
going_unfinished r s t a b c x schema first so took unfinished =
    let did = unfinished schema so.progress so.at in
    stopped_at_end schema line_says first r s t a b c so.progress x.line did.mark so.taken took did.wrote

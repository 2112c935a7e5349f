-- The bytes of a script that is replayed, line by line, and its end.
use Rattle.std.proofs.Common.{◌≡◌, ℕ, List, [], ◌∷◌, ◌++◌, ◌+◌, ◌<◌, ◌≤◌, Bool, true, false, Option, Some, None, length, take, drop, take-append-drop, append_assoc, append-nil, sym, ◌∙◌, ap, subst, refl, arith, inl, inr}
use Rattle.std.specs.Prelude.{◌==◌, Result, Ok, Err, OnOk, IfOk, IfErr, if◌then◌else◌}
use Rattle.std.specs.List.{prefix_len}
use Rattle.std.proofs.lemmas.Bool.Decides.{nat_tests}
use Rattle.std.specs.Io.KnownBytes.{Consumes, IsAtEnd}
use Rattle.std.proofs.KnownBytes.{Consumes-nil, Consumes-trans}
use Rattle.std.proofs.lemmas.List.{take_more}
use Rattle.values.specs.Tables.{Schema}
use Rattle.values.specs.declared.refusal.Refusal.{Refusal}
use Rattle.steps.specs.Idle.{is_idle}
use Rattle.histories.specs.History.{History, has_open}
use Rattle.interleaving.specs.SystemState.{SystemState, Stands}
use Rattle.lines.specs.Partial.{Partial, add_all, ended, has_byte, is_no_feed}
use Rattle.lines.specs.Lines.{lines_from}
use Rattle.lines.proofs.LineBufferAdding.{all_before, feed_behind}
use Rattle.lines.proofs.LinesEnding.{ends_nothing}
use Rattle.statement.specs.Line.{line_says}
use Rattle.scripts.specs.declared.replay.Replaying.{Replaying}
use Rattle.scripts.specs.declared.replay.ReplayFault.{ReplayFault}
use Rattle.scripts.specs.declared.replay.ReplayFault.TheVariants.{Refused, Open, Read, Memory as OutOfMemory}
use Rattle.scripts.specs.Replay.{IsReplayed, IsUnreplayed, line_refusal, lines_leave, refusal_to, replay_of}
use Rattle.scripts.specs.Replaying.{EndsReplay, IsBeyond, Passed, PassesLine, StopsAtEnd, StopsAtLine, StopsIn, TakesOn}
use Rattle.scripts.specs.Script.{IsAt, SameRun}
use Rattle.scripts.specs.Transcript.{Progress, after, left_by, said}
use Rattle.scripts.proofs.ScriptAnswered.{at_same}

-- ---- a line

module _ (schema : Schema) (out n : ℕ) (p : Progress) (line : Partial) (lines : List Partial) where
  abbrev by_mark : Bool → Result Progress (ℕ × Refusal)
  by_mark m = elim (line_refusal schema line_says m p line) [
    | Some refusal ↦ Err (n + 1, refusal)
    | None ↦ lines_leave schema line_says out (n + 1) (left_by schema p (said schema line_says p line)) lines
  ]

  abbrev by_refusal : Option Refusal → Result Progress (ℕ × Refusal)
  by_refusal o = elim o [
    | Some refusal ↦ Err (n + 1, refusal)
    | None ↦ lines_leave schema line_says out (n + 1) (left_by schema p (said schema line_says p line)) lines
  ]

  passed_over : (out == n + 1) ≡ false → refusal_to schema p (said schema line_says p line) ≡ None
      → lines_leave schema line_says out n p (line ∷ lines) ≡ lines_leave schema line_says out (n + 1) (left_by schema p (said schema line_says p line)) lines
  passed_over other none = ap by_mark other ∙ ap by_refusal none

  refused_there : (m : Bool) (refusal : Refusal) → (out == n + 1) ≡ m → line_refusal schema line_says m p line ≡ Some refusal
      → lines_leave schema line_says out n p (line ∷ lines) ≡ Err (n + 1, refusal)
  refused_there m refusal is some = ap by_mark is ∙ ap by_refusal some

-- ---- the line at which memory runs out

-- the next one, where its mark says so, and else none
abbrev out_at : Bool → ℕ → ℕ
out_at true n = n + 1
out_at false n = 0

marked : (m : Bool) (n : ℕ) → (out_at m n == n + 1) ≡ m
marked true n = grind (arith, nat_tests)
marked false n = grind (arith, nat_tests)

out_beyond : (m : Bool) (n : ℕ) → IsBeyond (out_at m n) n
out_beyond true n = inr (omega arith)
out_beyond false n = inl refl

-- it is none of those before
sooner : (out m n : ℕ) → m ≤ n → IsBeyond out n → IsBeyond out m
sooner out m n le (inl none) = inl none
sooner out m n le (inr lt) = inr (omega (arith, le, lt))

passes_by : (out n : ℕ) → IsBeyond out (n + 1) → (out == n + 1) ≡ false
passes_by out n (inl none) = grind (arith, nat_tests, none)
passes_by out n (inr lt) = grind (arith, nat_tests, lt)

-- of the replay as it is when the line has ended
pub record Ends (r m : Replaying) : Type 0 where
  pub line_is : m.script.line ≡ ended r.script.line
  pub same : SameRun r.script m.script
  pub taken_stays : m.taken ≡ r.taken

pub feed_on : (r m r' : Replaying) → Ends r m → PassesLine m.script r'.script → r'.taken ≡ m.taken + 1 → r'.script.line ≡ Some [] → TakesOn r r' (10 ∷ [])
feed_on r m r' ends passes counted empty = λ schema p at.
    let did : Passed r'.script schema p (ended r.script.line) = subst (Passed r'.script schema p) ends.line_is (passes schema p (at_same r.script m.script schema p ends.same at)) in
    let one_more : r'.taken ≡ r.taken + 1 = counted ∙ ap (λ n. n + 1) ends.taken_stays in
    record {
      later = left_by schema p (said schema line_says p (ended r.script.line));
      left = did.left;
      more = omega (arith, one_more);
      goes_on = λ out beyond rest.
          passed_over schema out r.taken p (ended r.script.line) (lines_from (Some []) rest) (passes_by out r.taken (subst (IsBeyond out) one_more beyond)) did.none
          ∙ (λ k. lines_leave schema line_says out (sym one_more k) (left_by schema p (said schema line_says p (ended r.script.line))) (lines_from (sym empty k) rest));
    }

pub feed_stops : (fault : ReplayFault) (r m : Replaying) → Ends r m → StopsAtLine fault m → StopsIn fault r (10 ∷ [])
feed_stops (Refused number refusal) r m ends (is, why) = λ schema p at.
    let refused = why schema p (at_same r.script m.script schema p ends.same at) in (
      out_at refused.0 r.taken,
      out_beyond refused.0 r.taken,
      λ rest.
          refused_there schema (out_at refused.0 r.taken) r.taken p (ended r.script.line) (lines_from (Some []) rest) refused.0 refusal (marked refused.0 r.taken)
          (subst (λ line. line_refusal schema line_says refused.0 p line ≡ Some refusal) ends.line_is refused.1)
          ∙ ap (λ n. Err (n, refusal)) (sym (is ∙ ap (λ n. n + 1) ends.taken_stays)),
    )
feed_stops Open r m ends stops = absurd stops
feed_stops Read r m ends stops = tt
feed_stops OutOfMemory r m ends stops = absurd stops

-- ---- some bytes

on_join : (a b c : Replaying) (xs ys : List ℕ) → TakesOn a b xs → TakesOn b c ys → TakesOn a c (xs ++ ys)
on_join a b c xs ys first more = λ schema p at.
    let f = first schema p at in
    let g = more schema f.later f.left in
    record {
      later = g.later;
      left = g.left;
      more = let one : a.taken ≤ b.taken = f.more in let two : b.taken ≤ c.taken = g.more in omega (arith, one, two);
      goes_on = λ out beyond rest.
          ap (λ l. lines_leave schema line_says out a.taken p (lines_from a.script.line l)) (append_assoc xs ys rest)
          ∙ f.goes_on out (sooner out b.taken c.taken g.more beyond) (ys ++ rest) ∙ g.goes_on out beyond rest;
    }

stop_join : (fault : ReplayFault) (a b : Replaying) (xs ys zs : List ℕ) → TakesOn a b xs → StopsIn fault b ys → StopsIn fault a ((xs ++ ys) ++ zs)
stop_join (Refused number refusal) a b xs ys zs first why = λ schema p at.
    let f = first schema p at in
    let refused = why schema f.later f.left in (
      refused.0,
      sooner refused.0 a.taken b.taken f.more refused.1,
      λ rest.
          ap (λ l. lines_leave schema line_says refused.0 a.taken p (lines_from a.script.line l)) (append_assoc (xs ++ ys) zs rest ∙ append_assoc xs ys (zs ++ rest))
          ∙ f.goes_on refused.0 refused.1 (ys ++ (zs ++ rest)) ∙ refused.2 (zs ++ rest),
    )
stop_join Open a b xs ys zs first stops = absurd stops
stop_join Read a b xs ys zs first stops = tt
stop_join OutOfMemory a b xs ys zs first stops = absurd stops

-- the bytes before a line feed
pub piece_on : (r r' : Replaying) (bytes piece : List ℕ) (n : ℕ) → n ≡ prefix_len is_no_feed bytes → n ≤ length bytes → piece ≡ take n bytes
    → r'.script.line ≡ add_all r.script.line piece → SameRun r.script r'.script → r'.taken ≡ r.taken → TakesOn r r' (take n bytes)
piece_on r r' bytes piece n is within front line same taken = λ schema p at. record {
  later = p;
  left = at_same r.script r'.script schema p same at;
  more = omega (arith, taken);
  goes_on = λ out beyond rest.
      ap (lines_leave schema line_says out r.taken p) (ends_nothing r.script.line (take n bytes) (all_before bytes n is within) rest)
      ∙ (λ k. lines_leave schema line_says out (sym taken k) p (lines_from (sym (line ∙ ap (add_all r.script.line) front) k) rest));
}

upto_feed : (bytes : List ℕ) (n : ℕ) → n ≡ prefix_len is_no_feed bytes → n < length bytes → take (n + 1) bytes ≡ take n bytes ++ 10 ∷ []
upto_feed bytes n is less = take_more bytes n 0 less ∙ ap (λ c. take n bytes ++ c ∷ []) (feed_behind bytes n is less)

-- and the line feed
pub line_on : (r m r' : Replaying) (bytes : List ℕ) (n : ℕ) → n ≡ prefix_len is_no_feed bytes → n < length bytes
    → TakesOn r m (take n bytes) → TakesOn m r' (10 ∷ []) → TakesOn r r' (take (n + 1) bytes)
line_on r m r' bytes n is less first feed = subst (TakesOn r r') (sym (upto_feed bytes n is less)) (on_join r m r' (take n bytes) (10 ∷ []) first feed)

pub line_stops : (fault : ReplayFault) (r m : Replaying) (bytes : List ℕ) (n : ℕ) → n ≡ prefix_len is_no_feed bytes → n < length bytes
    → TakesOn r m (take n bytes) → StopsIn fault m (10 ∷ []) → StopsIn fault r bytes
line_stops fault r m bytes n is less first stops =
    subst (StopsIn fault r) (ap (λ l. l ++ drop (n + 1) bytes) (sym (upto_feed bytes n is less)) ∙ take-append-drop (n + 1) bytes)
    (stop_join fault r m (take n bytes) (10 ∷ []) (drop (n + 1) bytes) first stops)

-- some of these bytes were taken, and this rest is left
pub record OnSome (r r' : Replaying) (bytes rest : List ℕ) : Type 0 where
  pub done : List ℕ
  pub is : bytes ≡ done ++ rest
  pub took : TakesOn r r' done

pub some_none : (r : Replaying) (bytes : List ℕ) → OnSome r r bytes bytes
some_none r bytes = record { done = []; is = refl; took = λ schema p at. record { later = p; left = at; more = omega arith; goes_on = λ out beyond rest. refl } }

pub some_more : (r m r' : Replaying) (bytes rest : List ℕ) (n : ℕ) → OnSome r m bytes rest → TakesOn m r' (take n rest) → OnSome r r' bytes (drop n rest)
some_more r m r' bytes rest n so took = record {
  done = so.done ++ take n rest;
  is = so.is ∙ ap (λ l. so.done ++ l) (sym (take-append-drop n rest)) ∙ sym (append_assoc so.done (take n rest) (drop n rest));
  took = on_join r m r' so.done (take n rest) so.took took;
}

pub some_stops : (fault : ReplayFault) (r m : Replaying) (bytes rest : List ℕ) → OnSome r m bytes rest → StopsIn fault m rest → StopsIn fault r bytes
some_stops fault r m bytes rest so stops = subst (StopsIn fault r) (append-nil (so.done ++ rest) ∙ sym so.is) (stop_join fault r m so.done rest [] so.took stops)

pub some_all : (r r' : Replaying) (bytes rest : List ℕ) → OnSome r r' bytes rest → length rest ≡ 0 → TakesOn r r' bytes
some_all r r' bytes [] so empty = subst (TakesOn r r') (sym (so.is ∙ append-nil so.done)) so.took
some_all r r' bytes (c ∷ rest) so empty = absurd (omega (arith, empty))

-- ---- the end

module _ (r : Replaying) (schema : Schema) (p : Progress) where
  abbrev last_by : ℕ → Bool → Result Progress (ℕ × Refusal)
  last_by out has = lines_leave schema line_says out r.taken p (if has then r.script.line ∷ [] else [])

pub no_line : (r : Replaying) → has_byte r.script.line ≡ false → EndsReplay r r
no_line r none = λ schema p at. record { later = p; left = at; leaves = ap (last_by r schema p 0) none }

pub last_line : (r r' : Replaying) → has_byte r.script.line ≡ true → PassesLine r.script r'.script → EndsReplay r r'
last_line r r' has passes = λ schema p at.
    let did = passes schema p at in
    record {
      later = left_by schema p (said schema line_says p r.script.line);
      left = did.left;
      leaves = ap (last_by r schema p 0) has ∙ passed_over schema 0 r.taken p r.script.line [] (passes_by 0 r.taken (inl refl)) did.none;
    }

pub last_stops : (fault : ReplayFault) (r : Replaying) → has_byte r.script.line ≡ true → StopsAtLine fault r → StopsAtEnd fault r
last_stops (Refused number refusal) r has (is, why) = λ schema p at.
    let refused = why schema p at in (
      out_at refused.0 r.taken,
      out_beyond refused.0 r.taken,
      ap (last_by r schema p (out_at refused.0 r.taken)) has
          ∙ refused_there schema (out_at refused.0 r.taken) r.taken p r.script.line [] refused.0 refusal (marked refused.0 r.taken) refused.1
          ∙ ap (λ n. Err (n, refusal)) (sym is),
    )
last_stops Open r has stops = absurd stops
last_stops Read r has stops = tt
last_stops OutOfMemory r has stops = absurd stops

-- ---- a replay of a reader

-- some bytes were read, and the replay is as far as that
pub record Going (unread left : Option (List ℕ)) (r : Replaying) (schema : Schema) (h : History) : Type 0 where
  pub bytes : List ℕ
  pub took : Consumes unread left bytes
  pub progress : Progress
  pub at : IsAt r.script schema progress
  pub goes_on : (out : ℕ) → IsBeyond out r.taken → (rest : List ℕ) → replay_of schema line_says out h (bytes ++ rest) ≡ lines_leave schema line_says out r.taken progress (lines_from r.script.line rest)

pub going_none : (unread : Option (List ℕ)) (r : Replaying) (schema : Schema) (h : History) → IsAt r.script schema (after h) → r.script.line ≡ Some [] → r.taken ≡ 0 → Going unread unread r schema h
going_none unread r schema h at line taken = record {
  bytes = [];
  took = Consumes-nil unread;
  progress = after h;
  at = at;
  goes_on = λ out beyond rest k. lines_leave schema line_says out (sym taken k) (after h) (lines_from (sym line k) rest);
}

pub going_more : (x y z : Option (List ℕ)) (r r' : Replaying) (schema : Schema) (h : History) (bytes : List ℕ) → Going x y r schema h → Consumes y z bytes → TakesOn r r' bytes → Going x z r' schema h
going_more x y z r r' schema h bytes so took on =
    let did = on schema so.progress so.at in
    record {
      bytes = so.bytes ++ bytes;
      took = Consumes-trans x y z so.bytes bytes so.took took;
      progress = did.later;
      at = did.left;
      goes_on = λ out beyond rest.
          ap (replay_of schema line_says out h) (append_assoc so.bytes bytes rest)
          ∙ so.goes_on out (sooner out r.taken r'.taken did.more beyond) (bytes ++ rest) ∙ did.goes_on out beyond rest;
    }

pub going_stops : (fault : ReplayFault) (x y z : Option (List ℕ)) (r : Replaying) (schema : Schema) (h : History) (bytes : List ℕ) → Going x y r schema h → Consumes y z bytes → StopsIn fault r bytes → IsUnreplayed fault schema line_says h x z
going_stops (Refused number refusal) x y z r schema h bytes so took why = record {
  text = so.bytes ++ bytes;
  took = Consumes-trans x y z so.bytes bytes so.took took;
  out = refused.0;
  refuses = ap (replay_of schema line_says refused.0 h) (sym (append-nil (so.bytes ++ bytes))) ∙ whatever [];
  stays = inr whatever;
}
  where
    refused : (out : ℕ) × IsBeyond out r.taken × ((rest : List ℕ) → lines_leave schema line_says out r.taken so.progress (lines_from r.script.line (bytes ++ rest)) ≡ Err (number, refusal))
    refused = why schema so.progress so.at

    whatever : (rest : List ℕ) → replay_of schema line_says refused.0 h ((so.bytes ++ bytes) ++ rest) ≡ Err (number, refusal)
    whatever rest = ap (replay_of schema line_says refused.0 h) (append_assoc so.bytes bytes rest) ∙ so.goes_on refused.0 refused.1 (bytes ++ rest) ∙ refused.2 rest
going_stops Open x y z r schema h bytes so took stops = absurd stops
going_stops Read x y z r schema h bytes so took stops = tt
going_stops OutOfMemory x y z r schema h bytes so took stops = absurd stops

-- at the end all was read
read_all : (x y z : Option (List ℕ)) (bytes : List ℕ) → Consumes x y bytes → Consumes y z [] → Consumes x z bytes
read_all x y z bytes took none = subst (Consumes x z) (append-nil bytes) (Consumes-trans x y z bytes [] took none)

all_leaves : (x y : Option (List ℕ)) (r : Replaying) (schema : Schema) (h : History) (so : Going x y r schema h) (out : ℕ) → IsBeyond out r.taken
    → replay_of schema line_says out h so.bytes ≡ lines_leave schema line_says out r.taken so.progress (lines_from r.script.line [])
all_leaves x y r schema h so out beyond = ap (replay_of schema line_says out h) (sym (append-nil so.bytes)) ∙ so.goes_on out beyond []

pub going_done : (x y z : Option (List ℕ)) (r r' : Replaying) (s : SystemState) (schema : Schema) (h : History) → Going x y r schema h → Consumes y z [] → IsAtEnd z → EndsReplay r r' → s ≡ r'.script.system
    → ((first : Schema) (g : History) → Stands first s g → is_idle (has_open g) ≡ true) → IsReplayed schema line_says h s x z
going_done x y z r r' s schema h so none end ends same idle =
    let did = ends schema so.progress so.at in
    let at : Stands schema s did.later.history = subst (λ s. Stands schema s did.later.history) (sym same) did.left.stands in
    record {
      text = so.bytes;
      took = read_all x y z so.bytes so.took none;
      ended_there = end;
      later = did.later.history;
      replays = record { progress = did.later; leaves = all_leaves x y r schema h so 0 (inl refl) ∙ did.leaves; later_is = refl; idle = idle schema did.later.history at };
      stands = at;
    }

pub going_open : (fault : ReplayFault) (x y z : Option (List ℕ)) (r r' : Replaying) (schema : Schema) (h : History) → Going x y r schema h → Consumes y z [] → IsAtEnd z → EndsReplay r r' → fault ≡ Open
    → ((first : Schema) (g : History) → Stands first r'.script.system g → is_idle (has_open g) ≡ false) → IsUnreplayed fault schema line_says h x z
going_open fault x y z r r' schema h so none end ends is busy =
    let did = ends schema so.progress so.at in
    subst (λ fault. IsUnreplayed fault schema line_says h x z) (sym is) (record {
      text = so.bytes;
      took = read_all x y z so.bytes so.took none;
      ended_there = end;
      leaves = record { progress = did.later; leaves = all_leaves x y r schema h so 0 (inl refl) ∙ did.leaves; busy = busy schema did.later.history did.left.stands };
    })

pub going_refused : (fault : ReplayFault) (x y z : Option (List ℕ)) (r : Replaying) (schema : Schema) (h : History) → Going x y r schema h → Consumes y z [] → IsAtEnd z → StopsAtEnd fault r → IsUnreplayed fault schema line_says h x z
going_refused (Refused number refusal) x y z r schema h so none end why =
    let refused = why schema so.progress so.at in
    record {
      text = so.bytes;
      took = read_all x y z so.bytes so.took none;
      out = refused.0;
      refuses = all_leaves x y r schema h so refused.0 refused.1 ∙ refused.2;
      stays = inl end;
    }
going_refused Open x y z r schema h so none end stops = absurd stops
going_refused Read x y z r schema h so none end stops = tt
going_refused OutOfMemory x y z r schema h so none end stops = absurd stops

-- ---- the same of what calls returned

pub feed_on_ok : {E : Type 0} (x : Result (Unit {0}) E) (r m r' : Replaying) → Ends r m → OnOk x (PassesLine m.script r'.script) → OnOk x (r'.taken ≡ m.taken + 1) → OnOk x (r'.script.line ≡ Some []) → OnOk x (TakesOn r r' (10 ∷ []))
feed_on_ok (Ok u) r m r' ends passes counted empty = feed_on r m r' ends passes counted empty
feed_on_ok (Err e) r m r' ends passes counted empty = tt

pub feed_stops_err : (x : Result (Unit {0}) ReplayFault) (r m : Replaying) → Ends r m → IfErr x (λ fault. StopsAtLine fault m) → IfErr x (λ fault. StopsIn fault r (10 ∷ []))
feed_stops_err (Ok u) r m ends stops = tt
feed_stops_err (Err fault) r m ends stops = feed_stops fault r m ends stops

pub last_line_ok : {E : Type 0} (x : Result (Unit {0}) E) (r r' : Replaying) → has_byte r.script.line ≡ true → OnOk x (PassesLine r.script r'.script) → OnOk x (EndsReplay r r')
last_line_ok (Ok u) r r' has passes = last_line r r' has passes
last_line_ok (Err e) r r' has passes = tt

pub last_stops_err : (x : Result (Unit {0}) ReplayFault) (r : Replaying) → has_byte r.script.line ≡ true → IfErr x (λ fault. StopsAtLine fault r) → IfErr x (λ fault. StopsAtEnd fault r)
last_stops_err (Ok u) r has stops = tt
last_stops_err (Err fault) r has stops = last_stops fault r has stops

pub going_done_ok : (c : Result SystemState ReplayFault) (x y z : Option (List ℕ)) (r r' : Replaying) (system : SystemState) → ((schema : Schema) (h : History) → Stands schema system h → Going x y r schema h) → Consumes y z [] → IsAtEnd z → EndsReplay r r'
    → IfOk c (λ s. (s ≡ r'.script.system) × ((first : Schema) (g : History) → Stands first r'.script.system g → is_idle (has_open g) ≡ true))
    → IfOk c (λ s. (schema : Schema) (h : History) → Stands schema system h → IsReplayed schema line_says h s x z)
going_done_ok (Err e) x y z r r' system so none end ends closed = tt
going_done_ok (Ok s) x y z r r' system so none end ends closed = λ schema h at. going_done x y z r r' s schema h (so schema h at) none end ends closed.0 (λ first g there. closed.1 first g (subst (λ s. Stands first s g) closed.0 there))

pub going_open_err : (c : Result SystemState ReplayFault) (x y z : Option (List ℕ)) (r r' : Replaying) (system : SystemState) → ((schema : Schema) (h : History) → Stands schema system h → Going x y r schema h) → Consumes y z [] → IsAtEnd z → EndsReplay r r'
    → IfErr c (λ fault. (fault ≡ Open) × ((first : Schema) (g : History) → Stands first r'.script.system g → is_idle (has_open g) ≡ false))
    → IfErr c (λ fault. (schema : Schema) (h : History) → Stands schema system h → IsUnreplayed fault schema line_says h x z)
going_open_err (Ok s) x y z r r' system so none end ends busy = tt
going_open_err (Err fault) x y z r r' system so none end ends busy = λ schema h at. going_open fault x y z r r' schema h (so schema h at) none end ends busy.0 busy.1

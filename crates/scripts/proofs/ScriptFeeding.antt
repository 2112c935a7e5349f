-- What the bytes of a text do, one after another.
use Rattle.std.proofs.Common.{◌≡◌, ◌≢◌, ℕ, List, [], ◌∷◌, ◌++◌, Bool, false, Option, Some, append_assoc, append-nil, sym, ◌∙◌, ap, refl, subst, arith}
use Rattle.std.specs.Prelude.{if◌then◌else◌, ◌==◌}
use Rattle.std.specs.List.{All}
use Rattle.std.proofs.lemmas.Bool.Decides.{nat_tests}
use Rattle.std.proofs.lemmas.List.Elements.{All-head, All-tail}
use Rattle.std.proofs.KnownBytes.{Appends-trans, Appends-nil, Appends-kept, Consumes-nil, Consumes-trans, Consumes-kept}
use Rattle.std.specs.Io.KnownBytes.{Appends, Consumes, Keeps, IsAtEnd}
use Rattle.values.specs.Tables.{Schema}
use Rattle.histories.specs.History.{History}
use Rattle.statement.specs.Writer.{AppendsPrefix}
use Rattle.lines.specs.Partial.{Partial, add, add_all, ended}
use Rattle.scripts.specs.Transcript.{Progress, Reading, Ending, no_reply, after, line_reply, line_leaves, last_reply, last_leaves, mark, marks_after, written, transcript_after, leaves, IsTranscriptAfter, IsCutAfter, IsStoppedAfter}
use Rattle.scripts.specs.Taking.{Feeds, Breaks}
use Rattle.statement.proofs.WriterPrefixes.{front_then}

not_end : (byte : ℕ) → byte ≢ 10 → (byte == 10) ≡ false
not_end byte other = grind (arith, nat_tests)

module _ (schema : Schema) (read : Reading) where
  pub feeds_none : (a : Option (List ℕ)) (p : Progress) (line : Partial) → Feeds schema read a a p line p line []
  feeds_none a p line = record { marks = []; out = []; wrote = Appends-nil a; goes_on = λ ending more rest. refl; leaves_on = λ more rest. refl }

  pub feeds_end : (a b : Option (List ℕ)) (m : Bool) (p : Progress) (byte : ℕ) (line : Partial) → Appends a b (line_reply schema read m p (ended line)) → byte ≡ 10
      → Feeds schema read a b p line (line_leaves schema read m p (ended line)) (Some []) (byte ∷ [])
  feeds_end a b m p byte line wrote is_end = record {
    marks = m ∷ [];
    out = line_reply schema read m p (ended line);
    wrote = wrote;
    goes_on = λ ending more rest. subst (λ c. written schema read ending (m ∷ more) p line (c ∷ rest) ≡ line_reply schema read m p (ended line) ++ written schema read ending more (line_leaves schema read m p (ended line)) (Some []) rest) (sym is_end) refl;
    leaves_on = λ more rest. subst (λ c. leaves schema read (m ∷ more) p line (c ∷ rest) ≡ leaves schema read more (line_leaves schema read m p (ended line)) (Some []) rest) (sym is_end) refl;
  }

  pub breaks_end : (a b : Option (List ℕ)) (m : Bool) (p : Progress) (byte : ℕ) (line : Partial) → AppendsPrefix a b (line_reply schema read m p (ended line)) → byte ≡ 10 → Breaks schema read a b p line (byte ∷ [])
  breaks_end a b m p byte line f is_end = record {
    marks = m ∷ [];
    out = f.out;
    wrote = f.wrote;
    front = λ more rest. subst (λ c. (left : List ℕ) × (written schema read (last_reply schema read) (m ∷ more) p line (c ∷ rest) ≡ f.out ++ left)) (sym is_end) (
      f.left ++ written schema read (last_reply schema read) more (line_leaves schema read m p (ended line)) (Some []) rest,
      ap (λ l. l ++ written schema read (last_reply schema read) more (line_leaves schema read m p (ended line)) (Some []) rest) f.front ∙ append_assoc f.out f.left _,
    );
  }

  pub feeds_byte : (a : Option (List ℕ)) (p : Progress) (byte : ℕ) (line line' : Partial) → line' ≡ add line byte → byte ≢ 10 → Feeds schema read a a p line p line' (byte ∷ [])
  feeds_byte a p byte line line' is_line other = record {
    marks = [];
    out = [];
    wrote = Appends-nil a;
    goes_on = λ ending more rest. ap (λ t. if t then line_reply schema read (mark more) p (ended line) ++ written schema read ending (marks_after more) (line_leaves schema read (mark more) p (ended line)) (Some []) rest else written schema read ending more p (add line byte) rest) (not_end byte other)
        ∙ (λ i. written schema read ending more p (sym is_line i) rest);
    leaves_on = λ more rest. ap (λ t. if t then leaves schema read (marks_after more) (line_leaves schema read (mark more) p (ended line)) (Some []) rest else leaves schema read more p (add line byte) rest) (not_end byte other)
        ∙ (λ i. leaves schema read more p (sym is_line i) rest);
  }

  pub feeds_join : (a b c : Option (List ℕ)) (p p' p'' : Progress) (l l' l'' : Partial) (xs ys : List ℕ) → Feeds schema read a b p l p' l' xs → Feeds schema read b c p' l' p'' l'' ys → Feeds schema read a c p l p'' l'' (xs ++ ys)
  feeds_join a b c p p' p'' l l' l'' xs ys f g = record {
    marks = f.marks ++ g.marks;
    out = f.out ++ g.out;
    wrote = Appends-trans a b c f.out g.out f.wrote g.wrote;
    goes_on = λ ending more rest.
        (λ i. written schema read ending (append_assoc f.marks g.marks more i) p l (append_assoc xs ys rest i)) ∙ f.goes_on ending (g.marks ++ more) (ys ++ rest)
        ∙ ap (λ o. f.out ++ o) (g.goes_on ending more rest) ∙ sym (append_assoc f.out g.out _);
    leaves_on = λ more rest.
        (λ i. leaves schema read (append_assoc f.marks g.marks more i) p l (append_assoc xs ys rest i)) ∙ f.leaves_on (g.marks ++ more) (ys ++ rest) ∙ g.leaves_on more rest;
  }

  -- bytes, of which none is a line feed
  pub feeds_all : (a : Option (List ℕ)) (p : Progress) (line : Partial) (bytes : List ℕ) → All (λ b. b ≢ 10) bytes → Feeds schema read a a p line p (add_all line bytes) bytes
  feeds_all a p line [] others = feeds_none a p line
  feeds_all a p line (b ∷ bytes) others =
      feeds_join a a a p p p line (add line b) (add_all (add line b) bytes) (b ∷ []) bytes (feeds_byte a p b line (add line b) refl (All-head (λ c. c ≢ 10) b bytes others)) (feeds_all a p (add line b) bytes (All-tail (λ c. c ≢ 10) b bytes others))

  -- what was written was flushed, or not all of it
  pub feeds_flushed : (a b c : Option (List ℕ)) (p p' : Progress) (l l' : Partial) (bytes : List ℕ) → Feeds schema read a b p l p' l' bytes → Keeps b c → Feeds schema read a c p l p' l' bytes
  feeds_flushed a b c p p' l l' bytes f kept = record { marks = f.marks; out = f.out; wrote = Appends-kept a b c f.out f.wrote kept; goes_on = f.goes_on; leaves_on = f.leaves_on }

  pub breaks_flushed : (a b c : Option (List ℕ)) (p p' : Progress) (l l' : Partial) (bytes : List ℕ) → Feeds schema read a b p l p' l' bytes → Keeps b c → Breaks schema read a c p l bytes
  breaks_flushed a b c p p' l l' bytes f kept = record {
    marks = f.marks;
    out = f.out;
    wrote = Appends-kept a b c f.out f.wrote kept;
    front = λ more rest. (written schema read (last_reply schema read) more p' l' rest, f.goes_on (last_reply schema read) more rest);
  }

  pub breaks_join : (a b c : Option (List ℕ)) (p p' : Progress) (l l' : Partial) (xs ys zs : List ℕ) → Feeds schema read a b p l p' l' xs → Breaks schema read b c p' l' ys → Breaks schema read a c p l ((xs ++ ys) ++ zs)
  breaks_join a b c p p' l l' xs ys zs f g = record {
    marks = f.marks ++ g.marks;
    out = f.out ++ g.out;
    wrote = Appends-trans a b c f.out g.out f.wrote g.wrote;
    front = λ more rest.
        let later = g.front more (zs ++ rest) in (
          later.0,
          (λ i. written schema read (last_reply schema read) (append_assoc f.marks g.marks more i) p l ((append_assoc (xs ++ ys) zs rest ∙ append_assoc xs ys (zs ++ rest)) i)) ∙ f.goes_on (last_reply schema read) (g.marks ++ more) (ys ++ (zs ++ rest))
              ∙ ap (λ o. f.out ++ o) later.1 ∙ sym (append_assoc f.out g.out later.0),
        );
  }

-- ---- a run over a reader and a writer

module _ (schema : Schema) (read : Reading) (first : History) where
  -- these bytes were read and answered
  pub record Taken (unread left old new : Option (List ℕ)) (p : Progress) (line : Partial) : Type 0 where
    pub bytes : List ℕ
    pub took : Consumes unread left bytes
    pub fed : Feeds schema read old new (after first) (Some []) p line bytes

module _ (schema : Schema) (read : Reading) (first : History) where
  pub taken_none : (r w : Option (List ℕ)) (line : Partial) → line ≡ Some [] → Taken schema read first r r w w (after first) line
  taken_none r w line e = subst (Taken schema read first r r w w (after first)) (sym e) (record { bytes = []; took = Consumes-nil r; fed = feeds_none schema read w (after first) (Some []) })

  pub taken_more : (r s t a b c : Option (List ℕ)) (p p' : Progress) (line line' : Partial) (ys : List ℕ) → Taken schema read first r s a b p line → Consumes s t ys → Feeds schema read b c p line p' line' ys → Taken schema read first r t a c p' line'
  taken_more r s t a b c p p' line line' ys so took fed = record {
    bytes = so.bytes ++ ys;
    took = Consumes-trans r s t so.bytes ys so.took took;
    fed = feeds_join schema read a b c (after first) p p' (Some []) line line' so.bytes ys so.fed fed;
  }

  -- what is written for bytes that were answered and for no more
  whole : (a b : Option (List ℕ)) (p : Progress) (line : Partial) (bytes : List ℕ) (ending : Ending) (m : Bool) (f : Feeds schema read a b (after first) (Some []) p line bytes)
      → written schema read ending (f.marks ++ m ∷ []) (after first) (Some []) bytes ≡ f.out ++ ending m p line
  whole a b p line bytes ending m f = ap (written schema read ending (f.marks ++ m ∷ []) (after first) (Some [])) (sym (append-nil bytes)) ∙ f.goes_on ending (m ∷ []) []

  -- the reader failed
  pub cut_between : (r s t a b : Option (List ℕ)) (p : Progress) (line : Partial) → Taken schema read first r s a b p line → Keeps s t → IsCutAfter schema read first r t a b
  cut_between r s t a b p line so kept = record {
    text = so.bytes;
    took = Consumes-kept r s t so.bytes so.took kept;
    marks = so.fed.marks ++ false ∷ [];
    wrote = subst (Appends a b) (sym (whole a b p line so.bytes no_reply false so.fed ∙ append-nil so.fed.out)) so.fed.wrote;
  }

  -- the writer failed in the reply to a last line
  pub stopped_at_end : (r s t a b c : Option (List ℕ)) (p : Progress) (line : Partial) (m : Bool) → Taken schema read first r s a b p line → Consumes s t [] → AppendsPrefix b c (last_reply schema read m p line) → IsStoppedAfter schema read first r t a c
  stopped_at_end r s t a b c p line m so took front = record {
    text = so.bytes;
    took = subst (Consumes r t) (append-nil so.bytes) (Consumes-trans r s t so.bytes [] so.took took);
    marks = so.fed.marks ++ m ∷ [];
    wrote = subst (AppendsPrefix a c) (sym (whole a b p line so.bytes (last_reply schema read) m so.fed)) (front_then a b c so.fed.out (last_reply schema read m p line) so.fed.wrote front);
  }

  -- or in bytes that were read
  pub stopped_inside : (r s t a b c : Option (List ℕ)) (p : Progress) (line : Partial) (ys : List ℕ) → Taken schema read first r s a b p line → Consumes s t ys → Breaks schema read b c p line ys → IsStoppedAfter schema read first r t a c
  stopped_inside r s t a b c p line ys so took breaks =
      let all = breaks_join schema read a b c (after first) p (Some []) line so.bytes ys [] so.fed breaks in
      let left = all.front [] [] in
      record {
        text = so.bytes ++ ys;
        took = Consumes-trans r s t so.bytes ys so.took took;
        marks = all.marks ++ [];
        wrote = record { out = all.out; left = left.0; wrote = all.wrote; front = ap (transcript_after schema read first (all.marks ++ [])) (sym (append-nil ((so.bytes ++ ys) ++ []) ∙ append-nil (so.bytes ++ ys))) ∙ left.1 };
      }

  -- at the end of the reader all was answered
  pub done_all : (r s t a b c : Option (List ℕ)) (p : Progress) (line : Partial) (m : Bool) → Taken schema read first r s a b p line → Consumes s t [] → IsAtEnd t → Appends b c (last_reply schema read m p line)
      → IsTranscriptAfter schema read first r t a c
  done_all r s t a b c p line m so took end wrote = record {
    text = so.bytes;
    took = subst (Consumes r t) (append-nil so.bytes) (Consumes-trans r s t so.bytes [] so.took took);
    ended_there = end;
    marks = so.fed.marks ++ m ∷ [];
    wrote = subst (Appends a c) (sym (whole a b p line so.bytes (last_reply schema read) m so.fed)) (Appends-trans a b c so.fed.out (last_reply schema read m p line) so.fed.wrote wrote);
  }

  -- and this is left
  pub done_left : (r s t a b c : Option (List ℕ)) (p : Progress) (line : Partial) (m : Bool) (so : Taken schema read first r s a b p line) (took : Consumes s t []) (end : IsAtEnd t) (wrote : Appends b c (last_reply schema read m p line))
      → let done = done_all r s t a b c p line m so took end wrote in leaves schema read done.marks (after first) (Some []) done.text ≡ last_leaves schema read m p line
  unfolding done_all
  done_left r s t a b c p line m so took end wrote = ap (leaves schema read (so.fed.marks ++ m ∷ []) (after first) (Some [])) (sym (append-nil so.bytes)) ∙ so.fed.leaves_on (m ∷ []) []

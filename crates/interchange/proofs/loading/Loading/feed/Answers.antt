use Rattle.std.proofs.Common.{◌≡◌, ℕ, List, [], ◌∷◌, ◌++◌, suc, ap, ◌∙◌, subst, sym, take, drop, append_assoc, take-append-drop}
use Rattle.std.specs.Prelude.{get_or}
use Rattle.std.proofs.Math.Seq.{drop-cons}
use Rattle.std.proofs.lemmas.List.{take_more}
use Rattle.csv.specs.Machine.{step, fields_after}
use Rattle.csv.specs.Reading.{default_config}
use Rattle.interchange.specs.Loading.{IsReadTo, IsWhyOf}
use Rattle.interchange.specs.OpenRecord.{HasTaken}
use Rattle.interchange.proofs.LoadingReads.{ended_at, read_next, read_within, refused_next}
use Rattle.interchange.proofs.loading.Loading.feed.Goals as goal
use Rattle.interchange.proofs.loading.Loading.feed.Goals.{then-branch+in-Ok, else-branch}

pub returns-in-Err-clause-err : goal.returns-in-Err-clause-err
returns-in-Err-clause-err c = λ text rest read.
    let table = c.args.table.now in
    let bytes : List ℕ = c.args.bytes.now in
    let i : ℕ = c.loop-byte.byte-index in
    let byte : ℕ = get_or bytes i 0 in
    let at : take i bytes ++ byte ∷ drop (suc i) bytes ≡ bytes = ap (λ l. take i bytes ++ l) (sym (drop-cons bytes i 0 c.loop-byte-test.true)) ∙ take-append-drop i bytes in
    let now = c.loop-byte.invariant text read in
    let took = subst (HasTaken table c.take.new.self now.state_is now.fields now.field byte) c.if-branch.true (c.in_ok-take.ensures table now.state_is now.fields now.field now.at) in
    let fields = fields_after (step default_config now.state_is byte).1 now.fields now.field in
    let begun = ended_at table c.take.new.self now.state_is now.fields now.field byte took in
    subst (IsWhyOf c.in-Err.why table)
    (append_assoc text (take i bytes) (byte ∷ (drop (suc i) bytes ++ rest))
    ∙ ap (λ l. text ++ l) (sym (append_assoc (take i bytes) (byte ∷ drop (suc i) bytes) rest) ∙ ap (λ l. l ++ rest) at))
    (refused_next table (text ++ take i bytes) byte (drop (suc i) bytes ++ rest) c.in-Err.why now.state_is now.fields now.field now.records now.goes_on (sym took.ended_is)
    (c.in-Err.ensures.err (step default_config now.state_is byte).0 fields now.records begun now.taken))

pub loop-byte-preserved : goal.loop-byte-preserved
loop-byte-preserved c = λ text read.
    let table = c.args.table.now in
    let bytes : List ℕ = c.args.bytes.now in
    let i : ℕ = c.loop-byte.byte-index in
    let byte : ℕ = get_or bytes i 0 in
    let now = c.loop-byte.invariant text read in
    let took = c.in_ok-take.ensures table now.state_is now.fields now.field now.at in
    subst (λ l. IsReadTo table l c.if-branch.self) (append_assoc text (take i bytes) (byte ∷ []) ∙ ap (λ l. text ++ l) (sym (take_more bytes i 0 c.loop-byte-test.true)))
    (elim c.if-branch.branch [
      | then-branch+in-Ok w ↦
          let ends = subst (HasTaken table c.take.new.self now.state_is now.fields now.field byte) w.if-branch.true took in
          let s = (step default_config now.state_is byte).0 in
          let fields = fields_after (step default_config now.state_is byte).1 now.fields now.field in
          let begun = ended_at table c.take.new.self now.state_is now.fields now.field byte ends in
          subst (IsReadTo table ((text ++ take i bytes) ++ byte ∷ [])) (sym w.self-is)
          (read_next table (text ++ take i bytes) byte w.end_record.new.self now.state_is now.fields now.field now.records now.goes_on (sym ends.ended_is)
          (w.in-Ok.ensures.record s fields begun) (w.in-Ok.ensures.ok s fields now.records begun now.taken))
      | else-branch w ↦
          subst (IsReadTo table ((text ++ take i bytes) ++ byte ∷ [])) (sym w.self-is)
          (read_within table (text ++ take i bytes) byte _ now.state_is now.fields now.field now.records now.goes_on now.taken
          (subst (HasTaken table c.take.new.self now.state_is now.fields now.field byte) w.if-branch.false took))
    ])

-- Blocks read back, and nothing else is read.
use Rattle.std.proofs.Common.{◌≡◌, ℕ, ◌^◌, ◌<◌, ◌≤◌, List, [], ◌∷◌, ◌++◌, Bool, true, false, if◌then◌else◌, Option, Some, None, length, get_or, refl, sym, subst, ap, ◌∙◌, arith, append-nil, All, IfOk, IsSome, inl, inr, ◌⊎◌, take}
use Rattle.std.specs.Prelude.{nat_le, ◌==◌}
use Rattle.std.specs.declared.result.Result.{Result}
use Rattle.std.specs.declared.result.Result.TheVariants.{Ok, Err}
use Rattle.std.proofs.lemmas.Bool.{and_parts, leb-true, ltb-true}
use Rattle.std.proofs.lemmas.Bool.Decides.{nat_tests}
use Rattle.values.specs.Event.{Event}
use Rattle.values.proofs.RowReads.{chosen, same_taken, AreBytes}
use Rattle.keyrange.specs.Range.{is_before_end, is_early}
use Rattle.keyrange.specs.Rect.{Area, IsArea, is_area, is_instant_end}
use Rattle.keyrange.specs.Cut.{rect_of}
use Rattle.datanode.specs.Cut.{in_cut}
use Rattle.datanode.specs.Node.{Node, IsNode, capacity}
use Rattle.datanode.proofs.CutMembers.{In, In-from_filter}
use Rattle.datanode.proofs.CutOrder.{at_In}
use Rattle.datanode.proofs.CutLaws.{in_cut_decides}
use Rattle.blocks.specs.Event.{event_fields, events_from}
use Rattle.blocks.specs.Rect.{rect_field, AreShortKeys}
use Rattle.blocks.specs.Head.{head_from}
use Rattle.blocks.specs.Start.{first_mark, second_mark, greatest_width, is_right, start_field}
use Rattle.blocks.specs.Block.{HasBlock, IsHeldNode, IsBlockOf, body_field, block_of, first_block_of}
use Rattle.blocks.specs.Gather.{IsCountedNode, NoCountedNode}
use Rattle.blocks.specs.Law.{OneNode, OneBlock, BothForms, OnlyGreatest}
use Rattle.blocks.proofs.FieldReads.{bytes_behind}
use Rattle.blocks.proofs.EventReads.{IsWritten, events_back, events_only}
use Rattle.blocks.proofs.HeadReads.{head_back, head_only}

-- ---- each event of a block reads back: its instant is one

greatest_instant : (t : ℕ) → nat_le t 999999999999999999 ≡ true → t < 2 ^ 64
greatest_instant t h = let few : t ≤ 999999999999999999 = leb-true t 999999999999999999 h in omega arith

record Instants (r : Area) : Type 0 where
  start : r.time.from < 2 ^ 64
  before : (t : ℕ) → is_early t r.time.to ≡ true → t < 2 ^ 64

before_end : (o : Option ℕ) → is_instant_end o ≡ true → IsSome o → (t : ℕ) → is_early t o ≡ true → t < 2 ^ 64
before_end None e some t h = cc
before_end (Some end) e some t h = let below : t < end = ltb-true t end h in let fits = greatest_instant end e in omega arith

instants_of : (r : Area) → IsArea r → IsSome r.time.to → Instants r
instants_of r area some =
    let a = and_parts (is_before_end r.keys.lo r.keys.hi) _ area in
    let b = and_parts (nat_le 1 r.time.from) _ a.1 in
    let c = and_parts (nat_le r.time.from 999999999999999999) _ b.1 in
    let d = and_parts (is_early r.time.from r.time.to) (is_instant_end r.time.to) c.1 in
    record { start = greatest_instant r.time.from c.0; before = before_end r.time.to d.1 some }

pub written : (n : Node) → IsHeldNode n → HasBlock n → All IsWritten n.events
written n h b k d lt =
    let x = get_or n.events k d in
    let all = instants_of n.rect h.node.area b.is_past in
    record {
      kept = h.events k d lt;
      first = b.instants k d lt;
      fits = elim ((in_cut_decides n.rect n.events x).0 (In-from_filter (in_cut n.rect n.events) n.events x (subst (In x) h.node.whole (at_In d n.events k lt))).1).1 [
        | inl w ↦ all.before x.at w.1
        | inr w ↦ (let before : x.at < n.rect.time.from = w.0 in let start = all.start in omega arith)
      ];
    }

-- ---- what is read of a block

pub record ReadsAs (bytes : List ℕ) (n : Node) : Type 0 where
  pub stated : Option ℕ
  pub right : is_right stated n.events ≡ true
  pub head_is : head_from bytes ≡ Some ((stated, (n.rect, length n.events)), event_fields n.events)
  pub events_are : events_from (length n.events) (event_fields n.events) ≡ Some (n.events, [])

events_of : (n : Node) → IsHeldNode n → HasBlock n → events_from (length n.events) (event_fields n.events) ≡ Some (n.events, [])
events_of n h b = ap (events_from (length n.events)) (sym (append-nil (event_fields n.events))) ∙ events_back n.events [] (written n h b)

-- a node's body behind whatever is stated
body_reads : (stated : Option ℕ) (n : Node) → IsHeldNode n → HasBlock n → head_from (start_field stated ++ body_field n) ≡ Some ((stated, (n.rect, length n.events)), event_fields n.events)
body_reads stated n h b = head_back stated n.rect (length n.events) (event_fields n.events) (record { area = h.node.area; ends = b.is_past; short = h.keys })

reads_by : (bytes : List ℕ) (stated : Option ℕ) (n : Node) → IsHeldNode n → HasBlock n → is_right stated n.events ≡ true → bytes ≡ start_field stated ++ body_field n → ReadsAs bytes n
reads_by bytes stated n h b right is = record {
  stated = stated;
  right = right;
  head_is = ap head_from is ∙ body_reads stated n h b;
  events_are = events_of n h b;
}

same_width : (width : ℕ) → (width == width) ≡ true
same_width width = grind (arith, nat_tests)

pub block_reads : (bytes : List ℕ) (n : Node) → IsBlockOf bytes n → ReadsAs bytes n
block_reads bytes n b = elim b.bytes_are [
  | inl is ↦ reads_by bytes (Some (greatest_width n.events)) n b.held b.has_block (same_width (greatest_width n.events)) is
  | inr is ↦ reads_by bytes None n b.held b.has_block refl is
]

-- ---- what is read is a block, and whose

stated_greatest : (width : ℕ) (es : List Event) → is_right (Some width) es ≡ true → width ≡ greatest_width es
stated_greatest width es e = grind (arith, nat_tests)

-- a node's body behind what is right is its block of one of the forms
block_by : (bytes : List ℕ) (stated : Option ℕ) (n : Node) → is_right stated n.events ≡ true → bytes ≡ start_field stated ++ body_field n → (bytes ≡ block_of n) ⊎ (bytes ≡ first_block_of n)
block_by bytes None n right is = inr is
block_by bytes (Some width) n right is = inl (is ∙ ap (λ w. start_field (Some w) ++ body_field n) (stated_greatest width n.events right))

module _ (bytes : List ℕ) (stated : Option ℕ) (r : Area) (k : ℕ) (left : List ℕ) (head : head_from bytes ≡ Some ((stated, (r, k)), left)) where
  pub found_is : AreBytes bytes → (m : Node) → IsCountedNode r k left m → is_right stated m.events ≡ true → IsBlockOf bytes m
  found_is h m c right =
      let p = head_only bytes (stated, (r, k)) left h head in
      let body = bytes_behind bytes (start_field stated) (rect_field r ++ k ∷ left) p.spelled h in
      let behind = bytes_behind (k ∷ left) (k ∷ []) left refl (bytes_behind (rect_field r ++ k ∷ left) (rect_field r) (k ∷ left) refl body) in
      let a = events_only k left m.events [] behind c.events_are in
      let all : left ≡ event_fields m.events = a.all_spelled ∙ append-nil (event_fields m.events) in
      let is : rect_field r ++ k ∷ left ≡ body_field m =
      ap (λ l. rect_field r ++ l) (ap (λ n. n ∷ left) (sym a.counted) ∙ ap (λ l. length m.events ∷ l) all)
      ∙ ap (λ (s : Area). rect_field s ++ (length m.events ∷ event_fields m.events)) (sym c.rect_is) in
      record {
        held = record { node = c.is_node; keys = subst (λ (s : Area). AreShortKeys s.keys) (sym c.rect_is) p.short; events = a.all_kept };
        has_block = record { is_past = subst (λ (s : Area). IsSome s.time.to) (sym c.rect_is) p.ends; few = subst (λ n. n ≤ capacity) (sym a.counted) c.few; instants = a.all_first };
        bytes_are = block_by bytes stated m right (p.spelled ∙ ap (λ l. start_field stated ++ l) is);
      }

  record SameParts (n : Node) (x : Option ℕ) : Type 0 where
    same_stated : stated ≡ x
    same_rect : r ≡ n.rect
    same_count : k ≡ length n.events
    same_left : left ≡ event_fields n.events

  same_parts : (n : Node) (a : ReadsAs bytes n) → SameParts n a.stated
  same_parts n a =
      let two = same_taken (stated, (r, k)) (a.stated, (n.rect, length n.events)) left (event_fields n.events) (sym head ∙ a.head_is) in
      record {
        same_stated = ap (λ (x : Option ℕ × (Area × ℕ)). x.0) two.0;
        same_rect = ap (λ (x : Option ℕ × (Area × ℕ)). x.1.0) two.0;
        same_count = ap (λ (x : Option ℕ × (Area × ℕ)). x.1.1) two.0;
        same_left = two.1;
      }

  read_same : (n : Node) → ReadsAs bytes n → events_from k left ≡ Some (n.events, [])
  read_same n a =
      let s = same_parts n a in
      ap (λ k. events_from k left) s.same_count ∙ ap (events_from (length n.events)) s.same_left ∙ a.events_are

  -- the node of the block is the one that is found
  pub same_node : (m : Node) → IsCountedNode r k left m → (n : Node) → IsBlockOf bytes n → m ≡ n
  same_node m c n b =
      let a = block_reads bytes n b in
      let s = same_parts n a in
      let events : m.events ≡ n.events = (same_taken m.events n.events [] [] (sym c.events_are ∙ read_same n a)).0 in
      ap (λ q. record { rect = q; events = m.events }) (c.rect_is ∙ s.same_rect) ∙ ap (λ es. record { rect = n.rect; events = es }) events

  -- what is stated is right of it
  pub right_of : (n : Node) → IsBlockOf bytes n → is_right stated n.events ≡ true
  right_of n b =
      let a = block_reads bytes n b in
      subst (λ x. is_right x n.events ≡ true) (sym (same_parts n a).same_stated) a.right

  -- where none is found the bytes are no block
  pub no_node : NoCountedNode r k left → (n : Node) → IsBlockOf bytes n → ⊥
  no_node none n b =
      let a = block_reads bytes n b in
      let s = same_parts n a in
      none n.events (subst (λ j. j ≤ capacity) (sym s.same_count) b.has_block.few) (read_same n a) (subst (λ q. IsNode q n.events) (sym s.same_rect) b.held.node)

  -- a block's ranges are a rectangle's
  pub no_rect : rect_of r.keys r.time ≡ None → (n : Node) → IsBlockOf bytes n → ⊥
  no_rect none n b =
      let s = same_parts n (block_reads bytes n b) in
      let some : rect_of n.rect.keys n.rect.time ≡ Some n.rect = chosen (is_area n.rect.keys n.rect.time) (Some n.rect) None b.held.node.area in
      let e = sym none ∙ ap (λ (q : Area). rect_of q.keys q.time) s.same_rect ∙ some in cc

-- the rectangle of ranges has them
pub same_area : (a r : Area) → rect_of a.keys a.time ≡ Some r → a ≡ r
same_area a r is = by (is_area a.keys a.time) is
  where
    by : (t : Bool) → ◌≡◌ {A = Option Area} (if t then Some a else None) (Some r) → a ≡ r
    by true is = ap (λ (o : Option Area). elim o as (λ _. Area) [ Some q ↦ q | None ↦ a ]) is
    by false is = cc

pub of_area : (bytes : List ℕ) (stated : Option ℕ) (a r : Area) (k : ℕ) (left : List ℕ) → head_from bytes ≡ Some ((stated, (a, k)), left) → rect_of a.keys a.time ≡ Some r → head_from bytes ≡ Some ((stated, (r, k)), left)
of_area bytes stated a r k left head is = head ∙ ap (λ (q : Area). Some ((stated, (q, k)), left)) (same_area a r is)

pub no_head : (bytes : List ℕ) → head_from bytes ≡ None → (n : Node) → IsBlockOf bytes n → ⊥
no_head bytes none n b = let a = block_reads bytes n b in let e = sym none ∙ a.head_is in cc

-- ---- one node for each block, and one block of each form for each node

-- of bytes that have a node's parts
same_read : (bytes : List ℕ) (stated : Option ℕ) (m n : Node) → head_from bytes ≡ Some ((stated, (m.rect, length m.events)), event_fields m.events)
    → events_from (length m.events) (event_fields m.events) ≡ Some (m.events, []) → (a : ReadsAs bytes n) → (stated ≡ a.stated) × (m ≡ n)
same_read bytes stated m n head events a =
    let two = same_taken (stated, (m.rect, length m.events)) (a.stated, (n.rect, length n.events)) (event_fields m.events) (event_fields n.events) (sym head ∙ a.head_is) in
    let count : length m.events ≡ length n.events = ap (λ (x : Option ℕ × (Area × ℕ)). x.1.1) two.0 in
    let same = (same_taken m.events n.events [] [] (sym events ∙ ap (λ k. events_from k (event_fields m.events)) count ∙ ap (events_from (length n.events)) two.1 ∙ a.events_are)).0 in
    (ap (λ (x : Option ℕ × (Area × ℕ)). x.0) two.0, ap (λ (x : Option ℕ × (Area × ℕ)). record { rect = x.1.0; events = m.events }) two.0 ∙ ap (λ es. record { rect = n.rect; events = es }) same)

pub one_node : OneNode
one_node bytes m n b c =
    let a = block_reads bytes m b in
    (same_read bytes a.stated m n a.head_is a.events_are (block_reads bytes n c)).1

marks_differ : second_mark ≡ first_mark → ⊥
marks_differ e = let fourth : 50 ≡ 49 = ap (λ (l : List ℕ). get_or l 3 0) e in omega (arith, fourth)

pub one_block : OneBlock
one_block a b n p q same = by p.bytes_are q.bytes_are
  where
    by : (a ≡ block_of n) ⊎ (a ≡ first_block_of n) → (b ≡ block_of n) ⊎ (b ≡ first_block_of n) → a ≡ b
    by (inl x) (inl y) = x ∙ sym y
    by (inr x) (inr y) = x ∙ sym y
    by (inl x) (inr y) = absurd (marks_differ (sym (ap (take 4) x) ∙ same ∙ ap (take 4) y))
    by (inr x) (inl y) = absurd (marks_differ (sym (ap (take 4) y) ∙ sym same ∙ ap (take 4) x))

pub both_forms : BothForms
both_forms n h b = (record { held = h; has_block = b; bytes_are = inl refl }, record { held = h; has_block = b; bytes_are = inr refl })

pub only_greatest : OnlyGreatest
only_greatest m n width h b c =
    let bytes = start_field (Some width) ++ body_field n in
    let a = block_reads bytes m c in
    let both = same_read bytes (Some width) n m (body_reads (Some width) n h b) (events_of n h b) a in
    stated_greatest width n.events
    (subst (λ (x : Node). is_right (Some width) x.events ≡ true) (sym both.1) (subst (λ s. is_right s m.events ≡ true) (sym both.0) a.right))

-- ---- of what a call returned
pub if_ok : {T E : Type 0} (r : Result T E) (P Q S : T → Type 0) → ((x : T) → P x → Q x → S x) → IfOk r P → IfOk r Q → IfOk r S
if_ok (Ok x) P Q S f p q = f x p q
if_ok (Err e) P Q S f p q = tt

pub weaker : {T E : Type 0} (r : Result T E) (P Q : T → Type 0) → ((x : T) → P x → Q x) → IfOk r P → IfOk r Q
weaker (Ok x) P Q f p = f x p
weaker (Err e) P Q f p = tt

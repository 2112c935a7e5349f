-- What a round leaves: its begin, and the installs of what the begin's view shows unpacked.
use Rattle.std.specs.Prelude.{◌≡◌, ℕ, List, [], ◌∷◌, ◌++◌, Bool, Option, Some, None, All, Contains, map}
use Rattle.std.specs.List.Sorted.{IsPermutation, IsStrictlySortedBy}
use Rattle.keyrange.specs.Rect.{Area}
use Rattle.datanode.specs.Node.{Node}
use Rattle.blocks.specs.Block.{block_of}
use Rattle.sessions.specs.treenodes.Node.{TreeNode, data_node}
use Rattle.sessions.specs.treenodes.Tree.{IsTree}
use Rattle.sessions.specs.treenodes.Backlog.{IsWaiting, start_cmp}
use Rattle.sessions.specs.tsbtree.View.{TreeState}
use Rattle.sessions.specs.journal.declared.entry.Entry.{Entry}
use Rattle.sessions.specs.journal.declared.entry.Entry.TheVariants.{Begin, Commit, Split, Install}
use Rattle.sessions.specs.SessionState.{SessionState, with_transaction}
use Rattle.sessions.specs.Store.{IsBegun}

-- ---- installs

-- a receipt: its number, and its entry
abbrev pub Given : Type 0
Given = ℕ × Entry

-- an unpacked data node of history of the view, with its rectangle and its block
pub record IsInstallIn (view : TreeState) (g : Given) : Type 0 where
  pub node : Node
  pub unpacked : IsWaiting view.nodes None (data_node node)
  pub done : Bool
  pub entry_is : g.1 ≡ Install node.rect (block_of node) done

-- the rectangle of what was installed
abbrev pub rect_of : Entry → Option Area
rect_of (Begin session earlier view) = None
rect_of (Commit session begin net reading end) = None
rect_of (Split cut done) = None
rect_of (Install rect block done) = Some rect

-- of rectangles, by the start of their time and then by their lower key, all but the ones that are left were installed, each once
pub record AreInstalled (view : TreeState) (rects left : List Area) (installs : List Given)
    : Type 0 where
  pub in_turn : IsStrictlySortedBy start_cmp rects
  pub each : All (IsInstallIn view) installs
  pub once : IsPermutation (map Some rects) (map Some left ++ map (λ g. rect_of g.1) installs)

-- these are the rectangles of all unpacked data nodes of history of the view
abbrev pub AreAll : TreeState → List Area → Type 0
AreAll view rects = (n : TreeNode) → IsWaiting view.nodes None n → Contains rects n.rect

-- ---- rounds

-- a begin, and the installs of all unpacked data nodes of history of its view, each once
pub record IsWhole (begin : Given) (view : TreeState) (given : List Given) : Type 0 where
  pub rects : List Area
  pub installs : List Given
  pub given_are : given ≡ begin ∷ installs
  pub installed : AreInstalled view rects [] installs
  pub all : AreAll view rects

-- a begin, and the installs of some of them, each once
pub record IsPart (begin : Given) (view : TreeState) (given : List Given) : Type 0 where
  pub rects : List Area
  pub left : List Area
  pub installs : List Given
  pub given_are : given ≡ begin ∷ installs
  pub installed : AreInstalled view rects left installs

-- the session has begun, and its transaction has ended
pub record HasBegun (old new : SessionState) (begin : Given) : Type 0 where
  pub running : SessionState
  pub begun : IsBegun old running begin.0 begin.1
  pub ended : new ≡ with_transaction running None

-- a round of the session: all that its begin shows unpacked was installed
pub record IsRound (old new : SessionState) (given : List Given) : Type 0 where
  pub begin : Given
  pub begins : HasBegun old new begin
  pub whole : IsWhole begin begins.begun.view given

-- a round that was broken off after its begin
pub record IsCutOff (old new : SessionState) (given : List Given) : Type 0 where
  pub begin : Given
  pub begins : HasBegun old new begin
  pub part : IsPart begin begins.begun.view given

-- a round that was broken off, maybe before its begin
abbrev pub IsBroken : (old new : SessionState) → List Given → Type 0
IsBroken old new [] = new ≡ old
IsBroken old new (g ∷ given) = IsCutOff old new (g ∷ given)

-- ---- from the begin's receipt alone

-- there is one receipt
abbrev pub IsOne : List Given → Type 0
IsOne given = (g : Given) × (given ≡ g ∷ [])

-- the round whose begin's receipt is this one, where it is of a begin
abbrev pub IsWholeOf : List Given → List Given → Type 0
IsWholeOf first given =
    (number session earlier : ℕ) (view : TreeState)
    → first ≡ (number, Begin session earlier view) ∷ []
    → IsWhole (number, Begin session earlier view) view given

abbrev pub IsPartOf : List Given → List Given → Type 0
IsPartOf first given =
    (number session earlier : ℕ) (view : TreeState)
    → first ≡ (number, Begin session earlier view) ∷ []
    → IsPart (number, Begin session earlier view) view given

-- ---- under way

-- it is the last of them, where there are some
abbrev pub IsAskedLast : Option Area → List Area → Type 0
IsAskedLast None rects = rects ≡ []
IsAskedLast (Some r) rects = (before : List Area) × (rects ≡ before ++ r ∷ [])

-- each unpacked data node of history of the view is among them, or comes after, as its nodes are a tree
abbrev pub AreUpto : TreeState → Option Area → List Area → Type 0
AreUpto view after rects =
    IsTree view.nodes → (n : TreeNode) → IsWaiting view.nodes None n
    → (IsWaiting view.nodes after n → ⊥) → Contains rects n.rect

-- no unpacked data node of history of the view comes after, and its nodes are a tree
abbrev pub IsOver : TreeState → Option Area → Type 0
IsOver view after =
    IsTree view.nodes × ((n : TreeNode) → IsWaiting view.nodes after n → ⊥)

-- a round: the rectangle that was asked for last, those of which results are to come, and the receipts
pub record RoundState : Type 0 where
  pub after : Option Area
  pub asked : List Area
  pub given : List Given

-- all up to the last were asked for, in turn; of these all but those to come were installed
pub record IsUnderWay (begin : Given) (view : TreeState) (r : RoundState) : Type 0 where
  pub rects : List Area
  pub installs : List Given
  pub given_are : r.given ≡ begin ∷ installs
  pub installed : AreInstalled view rects r.asked installs
  pub last : IsAskedLast r.after rects
  pub upto : AreUpto view r.after rects

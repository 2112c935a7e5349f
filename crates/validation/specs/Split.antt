-- What a split makes of the tree, and what a commit splits.
use Rattle.std.specs.Prelude.{◌≡◌, ℕ, Bool, List, []}
use Rattle.values.specs.Event.{Event}
use Rattle.values.specs.Events.{put_net}
use Rattle.values.specs.Log.{Net}
use Rattle.keyrange.specs.Cut.{halves_by_key}
use Rattle.staging.specs.treegrowth.Commit.{IsCommit, put_each}
use Rattle.staging.specs.treegrowth.Leaves.{halves_upto}
use Rattle.staging.specs.treegrowth.Places.{SplitsOverfull}
use Rattle.staging.specs.tsbtree.View.{TreeState, last}
use Rattle.staging.specs.tsbtree.Growth.{IsSplitAt}
use Rattle.validation.specs.declared.cut.Cut.{Cut}
use Rattle.validation.specs.declared.cut.Cut.TheVariants.{Key, Time}

-- the current data node of the key has its halves in its place where the cut lies inside it and is no instant after the last
-- commit; else nothing has changed
abbrev pub IsSplit : Cut → TreeState → TreeState → Bool → Type 0
IsSplit (Key key) old new done = IsSplitAt key (λ r. halves_by_key r key) old new done
IsSplit (Time key instant) old new done =
    IsSplitAt key (λ r. halves_upto (last old) r instant) old new done

-- only nodes that the events of net changes overfill are split
pub record SplitsByNeed (instant : ℕ) (net : Net) (old new : TreeState) : Type 0 where
  pub es : List Event
  pub commit : IsCommit instant es
  pub adds : (m : List Event) → put_each es m ≡ put_net instant net m
  pub splits : SplitsOverfull es [] old.nodes new.nodes

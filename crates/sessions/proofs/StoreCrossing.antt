-- Which types may cross threads: a store is shared, and sessions and receipts are moved. The nodes of a view refer to
-- themselves, so what stands over them is shown here step by step.
use denote.RattleType.{RattleType}
use denote.Param.Send.{IsSend, IsSync, sendable}
use Rattle.std.proofs.Crossing.{crosses as plain}
use Rattle.bytes.proofs.shared.Bytes.TheSendSync as bytes
use Rattle.values.proofs.refusal.Refusal.TheSendSync as refusal
use Rattle.values.proofs.schema.Schema.TheSendSync as schema
use Rattle.keyrange.proofs.rect.Rect.TheSendSync as rect
use Rattle.slots.specs.contracts.slots.Slots as Slots
use Rattle.slots.proofs.trie.Trie.TheLaws.TheKnot as knot
use Rattle.book.specs.treenodes.contracts.node.Slot as Slot
use Rattle.book.proofs.treenodes.node.Slot.TheSendSync as slot
use Rattle.book.proofs.treenodes.leaf_copy.LeafCopy.TheSendSync as leaf_copy
use Rattle.book.specs.treenodes.contracts.nodes.Nodes as Nodes
use Rattle.book.specs.tsbtree.contracts.tree.Tree as Tree
use Rattle.book.specs.tsbtree.contracts.view.View as View
use Rattle.blocks.proofs.cache.BlockCache.TheSendSync as cache
use Rattle.book.proofs.staging.net.Net.TheSendSync as net
use Rattle.book.proofs.staging.staged.Staged.TheSendSync as staged
use Rattle.book.specs.validation.contracts.engine.Engine as Engine
use Rattle.growlog.specs.declared.log.StoreName.{Ghosts}
use Rattle.growlog.proofs.log.Log.TheSendSync as log
use Rattle.growlog.proofs.prefix.Prefix.TheSendSync as prefix
use Rattle.book.specs.journal.contracts.entry.Entry as Entry
use Rattle.book.specs.journal.contracts.entry.SharedEntry as SharedEntry
use Rattle.book.specs.journal.contracts.journal.Journal as Journal
use Rattle.book.specs.journal.contracts.receipt.Receipt as Receipt
use Rattle.book.specs.transaction.contracts.open_transaction.OpenTransaction as OpenTransaction
use Rattle.book.specs.contracts.book.Book as Book
use Rattle.sessions.specs.contracts.session.SessionTransaction as SessionTransaction
use Rattle.sessions.specs.contracts.session.Session as Session
use Rattle.sessions.specs.contracts.store.LockedStore as LockedStore

-- ---- views

slots_send : IsSend (Slots.the_row Slot.the_row)
slots_send = search (knot.crosses, slot.the_send, slot.the_sync, sendable, plain) depth 60 fits 20000

slots_sync : IsSync (Slots.the_row Slot.the_row)
slots_sync = search (knot.crosses, slot.the_send, slot.the_sync, sendable, plain) depth 60 fits 20000

nodes_send : IsSend Nodes.the_row
nodes_send = search (slots_send, sendable, plain) depth 60 fits 20000

nodes_sync : IsSync Nodes.the_row
nodes_sync = search (slots_sync, sendable, plain) depth 60 fits 20000

view_send : IsSend View.the_row
view_send = search (nodes_send, sendable, plain) depth 60 fits 20000

view_sync : IsSync View.the_row
view_sync = search (nodes_sync, sendable, plain) depth 60 fits 20000

-- ---- entries and receipts

entry_send : IsSend Entry.the_row
entry_send = search (view_send, net.the_send, rect.the_send, refusal.the_send, bytes.the_send, sendable, plain) depth 60 fits 20000

entry_sync : IsSync Entry.the_row
entry_sync = search (view_sync, net.the_sync, rect.the_sync, refusal.the_sync, bytes.the_sync, sendable, plain) depth 60 fits 20000

shared_send : IsSend SharedEntry.the_row
shared_send = search (entry_send, entry_sync, sendable, plain) depth 60 fits 20000

-- ---- sessions

transaction_send : IsSend OpenTransaction.the_row
transaction_send = search (view_send, staged.the_send, sendable, plain) depth 60 fits 20000

session_transaction_send : IsSend SessionTransaction.the_row
session_transaction_send = search (transaction_send, sendable, plain) depth 60 fits 20000

pub session_send : IsSend Session.the_row
session_send = search (session_transaction_send, schema.the_send, cache.the_send, sendable, plain) depth 60 fits 20000

-- ---- what stands under the lock

tree_send : IsSend Tree.the_row
tree_send = search (view_send, leaf_copy.the_send, sendable, plain) depth 60 fits 20000

engine_send : IsSend Engine.the_row
engine_send = search (tree_send, sendable, plain) depth 60 fits 20000

module _ (K : RattleType) (g : Ghosts K.Denot) (named : IsSend K) where
  pub receipt_send : IsSend (Receipt.the_row K g)
  receipt_send = search (shared_send, prefix.the_send, sendable, plain) depth 60 fits 20000

  pub receipt_field_send : IsSend (Receipt.the_field K g).row
  receipt_field_send = search (shared_send, prefix.the_send, sendable, plain) depth 60 fits 20000

  journal_send : IsSend (Journal.the_row K g)
  journal_send = search (shared_send, prefix.the_send, log.the_field_send, sendable, plain) depth 60 fits 20000

  book_send : IsSend (Book.the_row K g)
  book_send = search (journal_send, engine_send, sendable, plain) depth 60 fits 20000

  pub store_send : IsSend (LockedStore.the_row K g)
  store_send = search (book_send, schema.the_send, sendable, plain) depth 60 fits 20000

  pub store_sync : IsSync (LockedStore.the_row K g)
  store_sync = search (book_send, schema.the_sync, sendable, plain) depth 60 fits 20000

pub ruleset crosses = (session_send, receipt_send, receipt_field_send, store_send, store_sync)

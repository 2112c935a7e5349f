use Rattle.std.proofs.Common.{subst, sym, ap₂, ◌∙◌}
use Rattle.values.specs.declared.key_prefix.KeyPrefix.{KeyPrefix}
use Rattle.values.specs.KeyPrefix.{IsPrefixOf}
use Rattle.values.proofs.KeyOrder.{bytes_cmp}
use Rattle.values.proofs.KeyPrefixOrder.{unequal_prefixes, equal_prefixes}
use Rattle.values.proofs.key_encoding.KeyBytesOrd.cmp.Goals as goal

pub returns-in-Equal : goal.returns-in-Equal
returns-in-Equal c =
    let one = equal_prefixes c.self.inside.prefix c.other.inside.prefix (sym c.cmp.ensures ∙ c.in-Equal.is) in
    let own = subst (IsPrefixOf c.self.inside.prefix) (c.self.view_is ∙ sym c.bytes.ensures) c.self.invariant.1 in
    let others = subst (IsPrefixOf c.other.inside.prefix) (c.other.view_is ∙ sym c.bytes-in-Equal.ensures) c.other.invariant.1 in
    c.order_behind_prefix.ensures c.self.inside.prefix own (subst (λ (p : KeyPrefix). IsPrefixOf p c.bytes-in-Equal.result.now) (sym one) others)
    ∙ ap₂ bytes_cmp c.bytes.ensures c.bytes-in-Equal.ensures

pub returns-in_default : goal.returns-in_default
returns-in_default c =
    let own = subst (IsPrefixOf c.self.inside.prefix) c.self.view_is c.self.invariant.1 in
    let others = subst (IsPrefixOf c.other.inside.prefix) c.other.view_is c.other.invariant.1 in
    unequal_prefixes c.self.inside.prefix c.other.inside.prefix c.args.self.now c.args.other.now c.cmp.result own others c.cmp.ensures c.in_default.not-Equal

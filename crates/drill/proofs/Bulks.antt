-- A bound on the bytes that a value has in either form.
use Rattle.std.proofs.Common.{ℕ, ◌+◌, ◌*◌, length}
use Rattle.data_types.specs.Leaf.{Number}
use Rattle.data_types.specs.Value.{Value, Component, Simple, Amount, External, Children, Nothing, Child}
use Rattle.fragments.specs.Fragment.{fragment}
use Rattle.der_model.specs.LeafContents.{leaf_contents}

-- a value with its tags, or with its head; a character of a text is escaped by five at most
abbrev mutual
  pub bulk : Value → ℕ
  bulk (Component children) = 96 + bulks children
  bulk (Simple leaf) = 96 + 5 * length (leaf_contents leaf)
  bulk (Amount code number) = 96 + (length (leaf_contents code) + length (leaf_contents (Number number)))
  bulk (External tree) = 96 + length (fragment tree)

  pub bulks : Children → ℕ
  bulks Nothing = 0
  bulks (Child slot value rest) = bulk value + bulks rest

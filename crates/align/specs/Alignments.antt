-- Alignments of two ropes: pairings of their words, where addresses of erasable memory are renamed.
use Rattle.std.specs.Prelude.{◌≡◌, ℕ, [], true}
use Rattle.rope.specs.Places.{Words}
use Rattle.align.specs.Pairings.{Entries, Pairing, is_right}
use Rattle.align.specs.Renamings.{is_renaming}
use Rattle.align.specs.Tokens.{operands, tokens}

-- which address of the new rope stands for each of the old one, and which of the old one for each of the new one; and the addresses of
-- erasable memory that the words of the old rope name
pub record Renaming : Type 0 where
  pub names : Entries
  pub back : Entries
  pub operands : Entries

abbrev pub renaming : Entries → Entries → Entries → Renaming
renaming names back operands = record { names = names; back = back; operands = operands }

-- an alignment of two ropes: a renaming, and a right pairing of the tokens of the old one, renamed by it, with those of the new one
pub record IsAlignment (least : ℕ) (old new : Words) (r : Renaming) (p : Pairing) : Type 0 where
  pub renames : is_renaming r.names r.back ≡ true
  pub named : r.operands ≡ operands old
  pub owns : p.own ≡ tokens [] old
  pub olds : p.old ≡ tokens r.names old
  pub news : p.new ≡ tokens [] new
  pub right : is_right least p ≡ true

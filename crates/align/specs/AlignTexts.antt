-- What has become of the words of two ropes, as text.
use Rattle.std.specs.Prelude.{ℕ, List, ◌++◌}
use Rattle.rope.specs.Places.{Words}
use Rattle.align.specs.declared.view.View.TheVariants.{New, Old, Passage}
use Rattle.align.specs.AlignLines.{new_sides, old_sides, totals_line, view_lines}
use Rattle.align.specs.Alignments.{Renaming}
use Rattle.align.specs.Pairings.{Pairing}
use Rattle.align.specs.RenamedLines.{renamed_lines}

-- what has become of the words of two ropes: first of those of the new one, then which of the old one are gone, then which addresses of
-- erasable memory are others, and how many words are where they were
unfoldable pub alignment_lines : Words → Words → Renaming → Pairing → List ℕ
alignment_lines old new r p =
    (view_lines New (new_sides p) ++ view_lines Old (old_sides p)) ++ (renamed_lines r p ++ totals_line old new p.to_old)

-- where the words of a passage stand in a rope
abbrev pub found_lines : Words → Words → Renaming → Pairing → List ℕ
found_lines passage rope r p = view_lines Passage (old_sides p)

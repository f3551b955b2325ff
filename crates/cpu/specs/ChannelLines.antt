-- The text of channel outputs.
use Rattle.std.specs.Prelude.{ℕ, List, ◌++◌, codes, decimal}
use Rattle.std.specs.List.{flat_map}
use Rattle.words.specs.Numerals.{octal_text}
use Rattle.cpu.specs.declared.output.Output.{Output}

-- the line of an output: the cycles, the channel and the word
abbrev pub channel_line : Output → List ℕ
channel_line o = decimal o.cycles ++ codes " CH " ++ octal_text 3 o.channel ++ codes " " ++ octal_text 5 o.word ++ codes "\n"

-- the lines of outputs
unfoldable pub channel_lines : List Output → List ℕ
channel_lines outputs = flat_map channel_line outputs
